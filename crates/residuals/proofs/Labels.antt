-- What a string shows that begins with a proof.
use Rattle.std.proofs.Common.{◌≡◌, ℕ, true, is_ok, [], ◌++◌, Ok, Err, Result, sym, refl, ap, ◌∙◌, append-nil}
use Rattle.steps.specs.Meaning.{Str}
use Rattle.steps.specs.declared.label.Label.{Label}
use Rattle.ccs.specs.Syntax.{Proof}
use Rattle.ccs.specs.Syntax.Proof.{act, on_left, on_right, both, choose_left, choose_right, under}
use Rattle.ccs.specs.Label.{label}
use Rattle.ccs.specs.Spelling.{proof_bytes}
use Rattle.ccs.specs.Reading.{read_proof}
use Rattle.ccs.specs.System.{label_of}
use Rattle.ccs.proofs.ProofReading.{read_is_proof}
use Rattle.residuals.specs.Steps.{shown_action_behind, shown_action}

shows : (t : Proof) (s : Str) → shown_action (proof_bytes t ++ s) ≡ label t
unfolding proof_bytes shown_action_behind label
shows (act a) s = refl
shows (on_left t) s = shows t s
shows (on_right t) s = shows t s
shows (both t u) s = refl
shows (choose_left t) s = shows t s
shows (choose_right t) s = shows t s
shows (under n t) s = shows t s

-- so of a string that is a proof
pub shown_is : (s : Str) (t : Proof) → read_proof s ≡ Ok t → shown_action s ≡ label t
shown_is s t e = ap shown_action (sym (append-nil (proof_bytes t) ∙ (read_is_proof s t e).0)) ∙ shows t []

-- so does the label
pub labelled : (s : Str) → is_ok (read_proof s) ≡ true → record { action = shown_action s } ≡ label_of (read_proof s)
labelled s e = go (read_proof s) refl e
  where
    go : (r : Result Proof ℕ) → read_proof s ≡ r → is_ok r ≡ true
        → ◌≡◌ {A = Label} (record { action = shown_action s }) (label_of r)
    go (Ok t) f g = ap (λ a. record { action = a }) (shown_is s t f)
    go (Err k) f g = absurd (cc g)
