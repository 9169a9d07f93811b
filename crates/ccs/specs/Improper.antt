-- Which nodes of a proof are improper.
use Rattle.std.specs.Prelude.{◌≡◌, ℕ, suc, ◌+◌, length, Some, None, Option, nat_eq, IsTrue, IsFalse, if◌then◌else◌}
use Rattle.ccs.specs.Syntax.{Proof}
use Rattle.ccs.specs.Syntax.Proof.{act, on_left, on_right, both, choose_left, choose_right, under}
use Rattle.actions.specs.Action.{name_of, complementary}
use Rattle.ccs.specs.Label.{label}
use Rattle.ccs.specs.Spelling.{proof_bytes}

-- The node at this place, from 0, of the proof's bytes is improper: two sides that show no name and
-- its co-name, or a restriction of the name that is shown.
pub data ImproperAt : Proof → ℕ → Type 0 where
  apart : {t u : Proof} → IsFalse (complementary (label t) (label u)) → ImproperAt (both t u) 0
  shown : {n : ℕ} {t : Proof} → IsTrue (nat_eq (name_of (label t)) n) → ImproperAt (under n t) 0
  in_left : {t : Proof} {k : ℕ} → ImproperAt t k → ImproperAt (on_left t) (suc k)
  in_right : {t : Proof} {k : ℕ} → ImproperAt t k → ImproperAt (on_right t) (suc k)
  in_first : {t u : Proof} {k : ℕ} → ImproperAt t k → ImproperAt (both t u) (suc k)
  in_second : {t u : Proof} {k j : ℕ}
      → ImproperAt u k
      → j ≡ suc (length (proof_bytes t) + k)
      → ImproperAt (both t u) j
  in_chosen_left : {t : Proof} {k : ℕ} → ImproperAt t k → ImproperAt (choose_left t) (suc k)
  in_chosen_right : {t : Proof} {k : ℕ} → ImproperAt t k → ImproperAt (choose_right t) (suc k)
  in_under : {n : ℕ} {t : Proof} {k : ℕ} → ImproperAt t k → ImproperAt (under n t) (suc (suc k))

-- a place so many bytes further on
abbrev pub further : ℕ → Option ℕ → Option ℕ
further n (Some k) = Some (n + k)
further n None = None

-- the first place, if there is one, else the second
abbrev pub or_else : Option ℕ → Option ℕ → Option ℕ
or_else (Some k) o = Some k
or_else None o = o

-- the place of the first improper node
unfoldable pub improper : Proof → Option ℕ
improper (act a) = None
improper (on_left t) = further 1 (improper t)
improper (on_right t) = further 1 (improper t)
improper (both t u) =
    if complementary (label t) (label u)
    then or_else (further 1 (improper t)) (further (suc (length (proof_bytes t))) (improper u))
    else Some 0
improper (choose_left t) = further 1 (improper t)
improper (choose_right t) = further 1 (improper t)
improper (under n t) = if nat_eq (name_of (label t)) n then Some 0 else further 2 (improper t)
