-- Why no state within the limit follows. Assumes the laws of a step system.
use Rattle.std.proofs.Common.{◌≡◌, ℕ, ◌<◌, ◌≤◌, Bool, true, false, cond, leb, length, Some, None, Ok, Err, Option, Result, sym, refl, ◌∙◌, subst}
use Rattle.std.proofs.lemmas.Bool.{leb-false, false≢true}
use Rattle.steps.specs.declared.fault.MaskFault.{MaskFault}
use Rattle.steps.specs.declared.fault.MaskFault.TheVariants.{Masked, Inner}
use Rattle.steps.specs.declared.fault.SystemFault.TheVariants.{NoState, NoStep, Impossible, StateTooLong}
use Rattle.steps.specs.Meaning.{Str, Transitions, Independence}
use Rattle.steps.specs.Laws.{Laws}
use Rattle.steps.specs.Answers.{first, move_answer, next_answer, told_length}
use Rattle.steps.proofs.Answered.{ok_not_err, some_not_none}

pub data Unable (t : Transitions) (b x : Str) : MaskFault → Type 0 where
  no_step : (f : MaskFault) → ((t.step x ≡ true) × (length x ≤ 64) → ⊥) → Unable t b x f
  impossible : (place : ℕ) → t.next b x ≡ Err place → Unable t b x (Inner (Impossible place))
  too_long : (c : Str) (n : ℕ) → t.next b x ≡ Ok c → 256 < length c → n ≡ told_length (length c) → Unable t b x (Inner (StateTooLong n))

-- the answer, by what it rests on
abbrev followed_by : Option ℕ → Bool → Option ℕ → Result Str ℕ → Result Str MaskFault
followed_by o h s r = first (elim o [ None ↦ None | Some p ↦ Some (Inner (NoStep p)) ]) (first (cond h (Some Masked) None) (first (elim s [ None ↦ None | Some p ↦ Some (Inner (NoState p)) ]) (move_answer r 256)))

module _ {t : Transitions} {i : Independence} (laws : Laws t i) (b x : Str) where
  pub unable : t.bad_state b ≡ None → (f : MaskFault) → next_answer t b x 256 ≡ Err f → Unable t b x f
  unable s f e = go (t.bad_step x) refl (t.hidden x) refl (t.next b x) refl (subst (λ o. followed_by (t.bad_step x) (t.hidden x) o (t.next b x) ≡ Err f) s e)
    where
      longer : (c : Str) → t.next b x ≡ Ok c → (d : Bool) → leb (length c) 256 ≡ d → cond d (Ok c) (Err (Inner (StateTooLong (told_length (length c))))) ≡ Err f → Unable t b x f
      longer c n true d p = ok_not_err c f p
      longer c n false d p = subst (Unable t b x) (cc) (too_long c _ n (leb-false (length c) 256 d) refl)

      go : (o : Option ℕ) → t.bad_step x ≡ o → (h : Bool) → t.hidden x ≡ h → (r : Result Str ℕ) → t.next b x ≡ r → followed_by o h None r ≡ Err f → Unable t b x f
      go (Some p) o h hidden r n q = no_step f (λ w. some_not_none p (sym o ∙ ((laws.step_refusals x).1 w).0))
      go None o true hidden r n q = no_step f (λ w. false≢true (sym ((laws.step_refusals x).1 w).1 ∙ hidden))
      go None o false hidden (Err p) n q = subst (Unable t b x) (cc) (impossible p n)
      go None o false hidden (Ok c) n q = longer c n (leb (length c) 256) refl q
