-- What is left of a proof keeps its label, is as proper and as sound, and is no longer.
-- By induction on how the proofs are independent: only nodes of choices go, and they do none of this.
use Rattle.std.proofs.Common.{◌≡◌, ◌≤◌, length, refl, length-append, arith}
use Rattle.ccs.specs.Syntax.{Proof}
use Rattle.ccs.specs.Label.{label, proper}
use Rattle.ccs.specs.Spelling.{proof_bytes, sound_proof}
use Rattle.ccs.specs.After.{After}
use Rattle.ccs.specs.After.After.{left_right, right_left, left_both, both_left, right_both, both_right, both_both, left_left, right_right, under_under, chosen_left, chosen_right}

pub label_kept : {t u t' u' : Proof} → After t u t' u' → label t' ≡ label t
unfolding label
label_kept left_right = refl
label_kept right_left = refl
label_kept (left_both a) = label_kept a
label_kept (both_left a) = refl
label_kept (right_both a) = label_kept a
label_kept (both_right a) = refl
label_kept (both_both a b) = refl
label_kept (left_left a) = label_kept a
label_kept (right_right a) = label_kept a
label_kept (under_under e a) = label_kept a
label_kept (chosen_left a) = label_kept a
label_kept (chosen_right a) = label_kept a

pub proper_kept : {t u t' u' : Proof} → After t u t' u' → proper t' ≡ proper t
unfolding proper
proper_kept left_right = refl
proper_kept right_left = refl
proper_kept (left_both a) = proper_kept a
proper_kept (both_left a) = rw (label_kept a, proper_kept a) refl
proper_kept (right_both a) = proper_kept a
proper_kept (both_right a) = rw (label_kept a, proper_kept a) refl
proper_kept (both_both a b) = rw (label_kept a, proper_kept a, label_kept b, proper_kept b) refl
proper_kept (left_left a) = proper_kept a
proper_kept (right_right a) = proper_kept a
proper_kept (under_under e a) = rw (label_kept a, proper_kept a) refl
proper_kept (chosen_left a) = proper_kept a
proper_kept (chosen_right a) = proper_kept a

pub sound_kept : {t u t' u' : Proof} → After t u t' u' → sound_proof t' ≡ sound_proof t
unfolding sound_proof
sound_kept left_right = refl
sound_kept right_left = refl
sound_kept (left_both a) = sound_kept a
sound_kept (both_left a) = rw (sound_kept a) refl
sound_kept (right_both a) = sound_kept a
sound_kept (both_right a) = rw (sound_kept a) refl
sound_kept (both_both a b) = rw (sound_kept a, sound_kept b) refl
sound_kept (left_left a) = sound_kept a
sound_kept (right_right a) = sound_kept a
sound_kept (under_under e a) = rw (sound_kept a) refl
sound_kept (chosen_left a) = sound_kept a
sound_kept (chosen_right a) = sound_kept a

pub length_kept : {t u t' u' : Proof} → After t u t' u' → length (proof_bytes t') ≤ length (proof_bytes t)
unfolding proof_bytes
length_kept left_right = omega arith
length_kept right_left = omega arith
length_kept (left_both a) = omega (arith, length_kept a)
length_kept (both_left {u = u} {v = v} {u' = u'} a) =
    let long = length-append (proof_bytes u) (proof_bytes v) in
    let left = length-append (proof_bytes u') (proof_bytes v) in
    omega (arith, length_kept a, long, left)
length_kept (right_both a) = omega (arith, length_kept a)
length_kept (both_right {u = u} {v = v} {v' = v'} a) =
    let long = length-append (proof_bytes u) (proof_bytes v) in
    let left = length-append (proof_bytes u) (proof_bytes v') in
    omega (arith, length_kept a, long, left)
length_kept (both_both {t = t} {u = u} {t' = t'} {u' = u'} a b) =
    let long = length-append (proof_bytes t) (proof_bytes u) in
    let left = length-append (proof_bytes t') (proof_bytes u') in
    omega (arith, length_kept a, length_kept b, long, left)
length_kept (left_left a) = omega (arith, length_kept a)
length_kept (right_right a) = omega (arith, length_kept a)
length_kept (under_under e a) = omega (arith, length_kept a)
length_kept (chosen_left a) = omega (arith, length_kept a)
length_kept (chosen_right a) = omega (arith, length_kept a)
