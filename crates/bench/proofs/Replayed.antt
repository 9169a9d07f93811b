-- What a replay that ends says of the steps. Assumes the laws of a step system.
use Rattle.std.proofs.Common.{◌≡◌, ℕ, ◌+◌, ◌<◌, true, List, [], ◌∷◌, length, get_or, take, is_ok, Ok, Err, Result, sym, refl, subst, arith, length-take, get_or-take}
use Rattle.std.proofs.lemmas.Bool.{false≢true}
use Rattle.steps.specs.Meaning.{Str, Transitions, Independence}
use Rattle.steps.specs.Laws.{Laws}
use Rattle.steps.specs.declared.fault.MaskFault.{MaskFault}
use Rattle.steps.specs.Answers.{state_answer, next_answer}
use Rattle.steps.proofs.Answered.{ok_not_err, next_ok}
use Rattle.joins.specs.Steps.{ShortStep, ShortSteps}
use Rattle.joins.proofs.Carrying.{short_at}
use Rattle.bench.specs.declared.fault.BenchFault.{BenchFault}
use Rattle.bench.specs.declared.fault.BenchFault.TheVariants.{Stopped}
use Rattle.bench.specs.Replay.{followed, replayed}
use Rattle.bench.proofs.Following.{then_followed}

-- an answer that is no refusal
pub ok_is : {A F : Type 0} (r : Result A F) → is_ok r ≡ true → (a : A) × (r ≡ Ok a)
ok_is (Ok a) e = (a, refl)
ok_is (Err f) e = absurd (false≢true e)

module _ {t : Transitions} {i : Independence} (laws : Laws t i) where
  followed_short : (xs : List Str) (a : Str) (k : ℕ) (b : Str) → followed t a xs k ≡ Ok b → ShortSteps t xs
  followed_short [] a k b e = tt
  followed_short (x ∷ xs) a k b e = go (next_answer t a x 256) refl e (λ c. followed_short xs c (k + 1) b)
    where
      go : (r : Result Str MaskFault) → next_answer t a x 256 ≡ r → then_followed t r xs k ≡ Ok b → ((c : Str) → followed t c xs (k + 1) ≡ Ok b → ShortSteps t xs) → ShortSteps t (x ∷ xs)
      go (Err f) n p ih = ok_not_err b (Stopped k f) (sym p)
      go (Ok c) n p ih = let f = next_ok t a x c 256 n in ((laws.step_refusals x).0 (f.shaped, f.shown), ih c p)

  -- the steps of a replay are steps within the limit
  pub replayed_short : (a : Str) (xs : List Str) (b : Str) → replayed t a xs ≡ Ok b → ShortSteps t xs
  replayed_short a xs b e = go (state_answer t a) e
    where
      go : (r : Result (Unit {0}) MaskFault) → elim r as (λ _. Result Str BenchFault) [ Ok _ ↦ followed t a xs 1 | Err f ↦ Err (Stopped 0 f) ] ≡ Ok b → ShortSteps t xs
      go (Ok u) p = followed_short xs a 1 b p
      go (Err f) p = ok_not_err b (Stopped 0 f) (sym p)

  -- and so is each row of them
  pub row_short : (a : Str) (rows : List Str) (n : ℕ) → is_ok (replayed t a (take n rows)) ≡ true → (k : ℕ) → k < n → k < length rows → (d : Str) → ShortStep t (get_or rows k d)
  row_short a rows n ok k below inside d =
      let end = ok_is (replayed t a (take n rows)) ok in
      let short = short_at t (take n rows) k d (replayed_short a _ end.0 end.1) (simp length-take (omega arith)) in
      subst (ShortStep t) (get_or-take n rows k d below) short
