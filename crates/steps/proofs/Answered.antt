-- What follows from an answer that was given.
use Rattle.std.proofs.Common.{◌≡◌, ℕ, ◌≤◌, min, Bool, true, false, cond, leb, length, Some, None, Ok, Err, Option, Result, sym, refl, ap, ◌∙◌, subst, arith}
use Rattle.std.proofs.lemmas.Bool.{leb-true}
use Rattle.steps.specs.declared.fault.MaskFault.{MaskFault}
use Rattle.steps.specs.declared.fault.MaskFault.TheVariants.{Masked, Inner}
use Rattle.steps.specs.declared.fault.SystemFault.{SystemFault}
use Rattle.steps.specs.declared.fault.SystemFault.TheVariants.{NoStep, StateTooLong}
use Rattle.steps.specs.Meaning.{Str, Transitions}
use Rattle.byte_strings.specs.Buffer.{count}
use Rattle.steps.specs.Answers.{first, refusal_at, step_refusal, hidden_refusal, fitting_state, move_answer, state_answer, label_answer, next_answer, both_answer, told_length}

-- a value is not a refusal
pub ok_not_err : {A F : Type 0} {B : Type 0} (a : A) (f : F) → ◌≡◌ {A = Result A F} (Ok a) (Err f) → B
ok_not_err a f e = let z : ◌≡◌ {A = ℕ} 0 1 = cc in absurd (omega arith)

pub some_not_none : {A : Type 0} {B : Type 0} (a : A) → Some a ≡ None → B
some_not_none a e = let z : ◌≡◌ {A = ℕ} 0 1 = cc in absurd (omega arith)

-- a length that is answered is that of the string
pub counted : {F : Type 0} (r : Result Str F) (n : ℕ) → Ok n ≡ count r → (w : Str) × (r ≡ Ok w) × (n ≡ length w)
counted (Ok w) n e = (w, refl, cc)
counted {F} (Err f) n e = ok_not_err n f e

pub not_counted : {F : Type 0} (r : Result Str F) (f : F) → Err f ≡ count r → r ≡ Err f
not_counted (Ok w) f e = ok_not_err (length w) f (sym e)
not_counted (Err g) f e = ap Err (cc)

-- what comes after a refusal is answered only where that refusal is not
pub first_ok : {A F : Type 0} (o : Option F) (r : Result A F) (a : A) → first o r ≡ Ok a → (o ≡ None) × (r ≡ Ok a)
first_ok None r a e = (refl, e)
first_ok {A} {F} (Some f) r a e = ok_not_err a f (sym e)

no_place : (o : Option ℕ) (f : ℕ → SystemFault) → refusal_at f o ≡ None → o ≡ None
no_place None f e = refl
no_place (Some p) f e = some_not_none (Inner (f p)) e

pub not_hidden : (t : Transitions) (x : Str) → hidden_refusal t x ≡ None → t.hidden x ≡ false
not_hidden t x e = go (t.hidden x) e
  where
    go : (b : Bool) → cond b (Some Masked) None ≡ None → b ≡ false
    go true p = some_not_none Masked p
    go false p = refl

pub fits_ok : (b w : Str) (n : ℕ) → fitting_state b n ≡ Ok w → (b ≡ w) × (length b ≤ n) × (length b ≤ 256)
fits_ok b w n e = go (leb (length b) (min n 256)) refl e
  where
    go : (d : Bool) → leb (length b) (min n 256) ≡ d
        → cond d (Ok b) (Err (Inner (StateTooLong (told_length (length b))))) ≡ Ok w
        → (b ≡ w) × (length b ≤ n) × (length b ≤ 256)
    go true h p = let l = leb-true (length b) (min n 256) h in (cc, omega arith, omega arith)
    go false h p = ok_not_err w _ (sym p)

-- what an answered state that follows says
pub record Followed (t : Transitions) (a x b : Str) (n : ℕ) : Type 0 where
  pub shaped : t.bad_step x ≡ None
  pub shown : t.hidden x ≡ false
  pub from : t.bad_state a ≡ None
  pub leads : t.next a x ≡ Ok b
  pub room : length b ≤ n
  pub short : length b ≤ 256

moved_ok : (r : Result Str ℕ) (n : ℕ) (b : Str) → move_answer r n ≡ Ok b
    → (r ≡ Ok b) × (length b ≤ n) × (length b ≤ 256)
moved_ok (Ok w) n b e = let f = fits_ok w b n e in
    (ap Ok f.0, subst (λ v. length v ≤ n) f.0 f.1, subst (λ v. length v ≤ 256) f.0 f.2)
moved_ok (Err p) n b e = ok_not_err b _ (sym e)

-- A state that is answered says that no refusal came before it: by cases of each, in the order of the
-- question, an answer behind a refusal is no refusal only where there is none, and so the next is looked at.
pub next_ok : (t : Transitions) (a x b : Str) (n : ℕ) → next_answer t a x n ≡ Ok b → Followed t a x b n
next_ok t a x b n e =
    let s = first_ok _ _ b e in
    let h = first_ok _ _ b s.1 in
    let p = first_ok _ _ b h.1 in
    let m = moved_ok (t.next a x) n b p.1 in
    record {
      shaped = no_place (t.bad_step x) _ s.0;
      shown = not_hidden t x h.0;
      from = no_place (t.bad_state a) _ p.0;
      leads = m.0;
      room = m.1;
      short = m.2;
    }

pub state_ok : (t : Transitions) (s : Str) → state_answer t s ≡ Ok tt → t.bad_state s ≡ None
state_ok t s e = no_place (t.bad_state s) _ (first_ok _ _ tt e).0

pub label_ok : (t : Transitions) (x : Str) → t.bad_step x ≡ None → t.hidden x ≡ false
    → label_answer t x ≡ Ok (t.label x)
label_ok t x shaped shown =
    ap (λ o. first (refusal_at NoStep o) (first (hidden_refusal t x) (Ok (t.label x)))) shaped
    ∙ ap (λ h. first {F = MaskFault} (cond h (Some Masked) None) (Ok (t.label x))) shown

-- a step that is not refused
pub step_shaped : (t : Transitions) (x : Str) → t.bad_step x ≡ None → step_refusal t x ≡ None
step_shaped t x e = ap (λ o. refusal_at NoStep o) e

pub step_shown : (t : Transitions) (x : Str) → t.hidden x ≡ false → hidden_refusal t x ≡ None
step_shown t x e = ap (λ h. cond h (Some Masked) None) e

-- an answer on two such steps
pub both_ok : {A : Type 0} (t : Transitions) (x y : Str) (r : Result A MaskFault) → t.bad_step x ≡ None
    → t.bad_step y ≡ None → t.hidden x ≡ false → t.hidden y ≡ false → both_answer t x y r ≡ r
both_ok t x y r bad_x bad_y hidden_x hidden_y =
    ap (λ o. first o (first (step_refusal t y) (first (hidden_refusal t x) (first (hidden_refusal t y) r))))
    (step_shaped t x bad_x)
    ∙ ap (λ o. first o (first (hidden_refusal t x) (first (hidden_refusal t y) r))) (step_shaped t y bad_y)
    ∙ ap (λ o. first o (first (hidden_refusal t y) r)) (step_shown t x hidden_x)
    ∙ ap (λ o. first o r) (step_shown t y hidden_y)
