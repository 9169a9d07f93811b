-- How long a step is, of which another is left.
use Rattle.std.proofs.Common.{ℕ, ◌+◌, ◌≤◌, [], length, Ok, Err, Result, length-append, arith}
use Rattle.steps.specs.Meaning.{Str}
use Rattle.ccs.specs.Syntax.{Proof}
use Rattle.ccs.specs.Spelling.{proof_bytes}
use Rattle.ccs.specs.After.{After}
use Rattle.ccs.specs.After.After.{left_right, right_left, left_both, both_left, right_both, both_right, both_both, left_left, right_right, under_under, chosen_left, chosen_right}

-- the bytes of what was read
abbrev pub bytes_if : Result Proof ℕ → Str
bytes_if (Ok t) = proof_bytes t
bytes_if (Err k) = []

-- a step is no longer than what is left of it and the step that it is left after
pub length_before : {t u t' u' : Proof} → After t u t' u'
    → length (proof_bytes t) ≤ length (proof_bytes t') + length (proof_bytes u)
unfolding proof_bytes
length_before left_right = omega arith
length_before right_left = omega arith
length_before (left_both {u = u} {v = v} a) = omega
    (arith, length_before a, length-append (proof_bytes u) (proof_bytes v))
length_before (both_left {u = u} {v = v} {u' = u'} a) = omega (
  arith,
  length_before a,
  length-append (proof_bytes u) (proof_bytes v),
  length-append (proof_bytes u') (proof_bytes v),
)
length_before (right_both {u = u} {v = v} a) = omega
    (arith, length_before a, length-append (proof_bytes u) (proof_bytes v))
length_before (both_right {u = u} {v = v} {v' = v'} a) = omega (
  arith,
  length_before a,
  length-append (proof_bytes u) (proof_bytes v),
  length-append (proof_bytes u) (proof_bytes v'),
)
length_before (both_both {t = t} {u = u} {v = v} {w = w} {t' = t'} {u' = u'} a b) =
    omega (
      arith,
      length_before a,
      length_before b,
      length-append (proof_bytes t) (proof_bytes u),
      length-append (proof_bytes v) (proof_bytes w),
      length-append (proof_bytes t') (proof_bytes u'),
    )
length_before (left_left a) = omega (arith, length_before a)
length_before (right_right a) = omega (arith, length_before a)
length_before (under_under e a) = omega (arith, length_before a)
length_before (chosen_left a) = omega (arith, length_before a)
length_before (chosen_right a) = omega (arith, length_before a)
