-- States that follow, read out of a buffer.
use Rattle.std.proofs.Common.{◌≡◌, ℕ, leb, length, take, drop, Some, None, Ok, sym, refl, ap, ◌∙◌}
use Rattle.std.proofs.lemmas.List.{take_at}
use Rattle.std.proofs.lemmas.Bool.{cond-true, le-leb}
use Rattle.byte_strings.specs.Buffer.{Str, count, buffer_after}
use Rattle.byte_strings.specs.Fitted.{list_within}
use Rattle.byte_strings.proofs.Fitted.{fitted_is}
use Rattle.steps.specs.Meaning.{Transitions}
use Rattle.steps.specs.Answers.{next_answer}
use Rattle.steps.proofs.Answered.{counted, next_ok, some_not_none}

-- a state that follows, at the front of a buffer
module _ (t : Transitions) (a x bytes zeros : Str) (len : ℕ) (answer : Ok len ≡ count (next_answer t a x 256)) (buffer : bytes ≡ buffer_after (next_answer t a x 256) zeros) where
  next_is : (b : Str) × (next_answer t a x 256 ≡ Ok b) × (len ≡ length b)
  next_is = counted (next_answer t a x 256) len answer

  front : take len bytes ≡ next_is.0
  front = ap (λ k. take k bytes) next_is.2 ∙ ap (take (length next_is.0)) (buffer ∙ ap (λ r. buffer_after r zeros) next_is.1) ∙ take_at next_is.0 (drop (length next_is.0) zeros) (length next_is.0) refl

  pub next_held : (w : Str) → Some w ≡ list_within 256 (take len bytes) → Ok w ≡ next_answer t a x 256
  next_held w e = ap Ok (fitted_is (take len bytes) w 256 e ∙ front) ∙ sym next_is.1

  pub next_fits : None ≡ list_within 256 (take len bytes) → ⊥
  next_fits none =
      let short = (next_ok t a x next_is.0 256 next_is.1).short in
      some_not_none next_is.0 (sym (cond-true (leb (length next_is.0) 256) (Some next_is.0) None (le-leb _ _ short)) ∙ sym (none ∙ ap (list_within 256) front))
