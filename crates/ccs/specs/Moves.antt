-- The transition rules: by which proofs a term moves, and to what.
use Rattle.std.specs.Prelude.{◌≡◌, ℕ}
use Rattle.ccs.specs.Syntax.{Term, Proof}
use Rattle.ccs.specs.Syntax.Term.{prefix, par, sum, restrict, call}
use Rattle.ccs.specs.Syntax.Proof.{act, on_left, on_right, both, choose_left, choose_right, under}

-- With these definitions, p moves by t to p'.
pub data Moves (body : ℕ → Term) : Term → Proof → Term → Type 0 where
  acts : {a b : ℕ} {p : Term}
      → a ≡ b
      → Moves body (prefix a p) (act b) p
  left_moves : {p q p' : Term} {t : Proof}
      → Moves body p t p'
      → Moves body (par p q) (on_left t) (par p' q)
  right_moves : {p q q' : Term} {t : Proof}
      → Moves body q t q'
      → Moves body (par p q) (on_right t) (par p q')
  both_move : {p q p' q' : Term} {t u : Proof}
      → Moves body p t p'
      → Moves body q u q'
      → Moves body (par p q) (both t u) (par p' q')
  left_chosen : {p q p' : Term} {t : Proof}
      → Moves body p t p'
      → Moves body (sum p q) (choose_left t) p'
  right_chosen : {p q q' : Term} {t : Proof}
      → Moves body q t q'
      → Moves body (sum p q) (choose_right t) q'
  moves_under : {n m : ℕ} {p p' : Term} {t : Proof}
      → n ≡ m
      → Moves body p t p'
      → Moves body (restrict n p) (under m t) (restrict n p')
  unfolds : {d : ℕ} {t : Proof} {p' : Term}
      → Moves body (body d) t p'
      → Moves body (call d) t p'
