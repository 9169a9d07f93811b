-- What independence and what is left keep, for proofs as trees.
-- All by induction on how the proofs are independent. Where they go to two sides, each stays as it is; where they share
-- a node, the law of what stands under it goes under the node; and where both go to both sides, so it does on each.
use Rattle.std.proofs.Common.{◌≡◌, ℕ, sym, refl, ap, ap₂, ◌∙◌}
use Rattle.ccs.specs.Syntax.{Term, Proof}
use Rattle.ccs.specs.Syntax.Proof.{on_left, on_right, both, choose_left, choose_right, under}
use Rattle.ccs.specs.Moves.{Moves}
use Rattle.ccs.specs.Moves.Moves.{acts, left_moves, right_moves, both_move, left_chosen, right_chosen, moves_under, unfolds}
use Rattle.ccs.specs.After.{After}
use Rattle.ccs.specs.After.After.{left_right, right_left, left_both, both_left, right_both, both_right, both_both, left_left, right_right, under_under, chosen_left, chosen_right}

-- independence is symmetric, and of nothing to itself
pub after_sym : {t u t' u' : Proof} → After t u t' u' → After u t u' t'
after_sym left_right = right_left
after_sym right_left = left_right
after_sym (left_both a) = both_left (after_sym a)
after_sym (both_left a) = left_both (after_sym a)
after_sym (right_both a) = both_right (after_sym a)
after_sym (both_right a) = right_both (after_sym a)
after_sym (both_both a b) = both_both (after_sym a) (after_sym b)
after_sym (left_left a) = left_left (after_sym a)
after_sym (right_right a) = right_right (after_sym a)
after_sym (under_under e a) = under_under (sym e) (after_sym a)
after_sym (chosen_left a) = chosen_left (after_sym a)
after_sym (chosen_right a) = chosen_right (after_sym a)

pub not_of_itself : {t u t' u' : Proof} → After t u t' u' → t ≡ u → ⊥
not_of_itself left_right e = cc e
not_of_itself right_left e = cc e
not_of_itself (left_both a) e = cc e
not_of_itself (both_left a) e = cc e
not_of_itself (right_both a) e = cc e
not_of_itself (both_right a) e = cc e
not_of_itself (both_both a b) e = not_of_itself a (cc e)
not_of_itself (left_left a) e = not_of_itself a (cc e)
not_of_itself (right_right a) e = not_of_itself a (cc e)
not_of_itself (under_under n a) e = not_of_itself a (cc e)
not_of_itself (chosen_left a) e = not_of_itself a (cc e)
not_of_itself (chosen_right a) e = not_of_itself a (cc e)

-- what is left is one
pub one_left : {t u a b c d : Proof} → After t u a b → After t u c d → a ≡ c
one_left left_right left_right = refl
one_left right_left right_left = refl
one_left (left_both a) (left_both b) = ap on_left (one_left a b)
one_left (both_left a) (both_left b) = ap₂ both (one_left a b) refl
one_left (right_both a) (right_both b) = ap on_right (one_left a b)
one_left (both_right a) (both_right b) = ap₂ both refl (one_left a b)
one_left (both_both a c) (both_both b d) = ap₂ both (one_left a b) (one_left c d)
one_left (left_left a) (left_left b) = ap on_left (one_left a b)
one_left (right_right a) (right_right b) = ap on_right (one_left a b)
one_left (under_under e a) (under_under f b) = ap₂ under refl (one_left a b)
one_left (chosen_left a) (chosen_left b) = one_left a b
one_left (chosen_right a) (chosen_right b) = one_left a b

-- and it is left of one
pub one_origin : {t u x z a b : Proof} → After t x z a → After u x z b → t ≡ u
one_origin left_right left_right = refl
one_origin right_left right_left = refl
one_origin (left_both a) (left_both b) = ap on_left (one_origin a b)
one_origin (both_left a) (both_left b) = ap₂ both (one_origin a b) refl
one_origin (right_both a) (right_both b) = ap on_right (one_origin a b)
one_origin (both_right a) (both_right b) = ap₂ both refl (one_origin a b)
one_origin (both_both a c) (both_both b d) = ap₂ both (one_origin a b) (one_origin c d)
one_origin (left_left a) (left_left b) = ap on_left (one_origin a b)
one_origin (right_right a) (right_right b) = ap on_right (one_origin a b)
one_origin (under_under e a) (under_under f b) = ap₂ under (e ∙ sym f) (one_origin a b)
one_origin (chosen_left a) (chosen_left b) = ap choose_left (one_origin a b)
one_origin (chosen_right a) (chosen_right b) = ap choose_right (one_origin a b)

-- independent moves of a term go on to one term
pub diamond : {body : ℕ → Term} {p q r : Term} {t u t' u' : Proof} → After t u t' u' → Moves body p t q
    → Moves body p u r → (s : Term) × Moves body q u' s × Moves body r t' s
diamond left_right (left_moves m) (right_moves n) = (_, right_moves n, left_moves m)
diamond right_left (right_moves m) (left_moves n) = (_, left_moves n, right_moves m)
diamond (left_both a) (left_moves m) (both_move n k) = let d = diamond a m n in (_, both_move d.1 k, left_moves d.2)
diamond (both_left a) (both_move m k) (left_moves n) = let d = diamond a m n in (_, left_moves d.1, both_move d.2 k)
diamond (right_both a) (right_moves m) (both_move k n) = let d = diamond a m n in (_, both_move k d.1, right_moves d.2)
diamond (both_right a) (both_move k m) (right_moves n) = let d = diamond a m n in (_, right_moves d.1, both_move k d.2)
diamond (both_both a b) (both_move m k) (both_move n l) =
    let d = diamond a m n in let e = diamond b k l in (_, both_move d.1 e.1, both_move d.2 e.2)
diamond (left_left a) (left_moves m) (left_moves n) = let d = diamond a m n in (_, left_moves d.1, left_moves d.2)
diamond (right_right a) (right_moves m) (right_moves n) = let d = diamond a m n in (_, right_moves d.1, right_moves d.2)
diamond (under_under e a) (moves_under f m) (moves_under g n) =
    let d = diamond a m n in (_, moves_under g d.1, moves_under f d.2)
diamond (chosen_left a) (left_chosen m) (left_chosen n) = diamond a m n
diamond (chosen_right a) (right_chosen m) (right_chosen n) = diamond a m n
diamond a (unfolds m) (unfolds n) = diamond a m n
diamond a (acts e) n = elim a [ ]

-- a step that is left of another was possible before
pub possible_before : {body : ℕ → Term} {p q r : Term} {t x z x' : Proof} → After t x z x' → Moves body p x q
    → Moves body q z r → (s : Term) × Moves body p t s
possible_before left_right (right_moves m) (left_moves n) = (_, left_moves n)
possible_before right_left (left_moves m) (right_moves n) = (_, right_moves n)
possible_before (left_both a) (both_move m k) (left_moves n) = let d = possible_before a m n in (_, left_moves d.1)
possible_before (both_left a) (left_moves m) (both_move n k) = let d = possible_before a m n in (_, both_move d.1 k)
possible_before (right_both a) (both_move k m) (right_moves n) = let d = possible_before a m n in (_, right_moves d.1)
possible_before (both_right a) (right_moves m) (both_move k n) = let d = possible_before a m n in (_, both_move k d.1)
possible_before (both_both a b) (both_move m k) (both_move n l) =
    let d = possible_before a m n in let e = possible_before b k l in (_, both_move d.1 e.1)
possible_before (left_left a) (left_moves m) (left_moves n) = let d = possible_before a m n in (_, left_moves d.1)
possible_before (right_right a) (right_moves m) (right_moves n) = let d = possible_before a m n in (_, right_moves d.1)
possible_before (under_under e a) (moves_under f m) (moves_under g n) =
    let d = possible_before a m n in (_, moves_under g d.1)
possible_before (chosen_left a) (left_chosen m) n = let d = possible_before a m n in (_, left_chosen d.1)
possible_before (chosen_right a) (right_chosen m) n = let d = possible_before a m n in (_, right_chosen d.1)
possible_before a (acts e) n = elim a [ ]
possible_before a (unfolds m) n = let d = possible_before a m n in (_, unfolds d.1)

-- what is left of three independent steps after the other two does not depend on their order
pub cube : {x y w x' y' w' x'' y'' w'' : Proof} → After x y x' y' → After x w x'' w' → After y w y'' w''
    → (v : Proof) × ((s : Proof) × After w' y' v s) × ((s : Proof) × After w'' x' v s)
cube (left_left a1) (left_left b1) (left_left c1) =
    let r1 = cube a1 b1 c1 in (_, (_, left_left r1.1.1), (_, left_left r1.2.1))
cube (left_left a1) left_right left_right = (_, (_, right_left), (_, right_left))
cube (left_left a1) (left_both b1) (left_both c1) =
    let r1 = cube a1 b1 c1 in (_, (_, both_left r1.1.1), (_, both_left r1.2.1))
cube left_right (left_left b1) right_left = (_, (_, left_right), (_, left_left (after_sym b1)))
cube left_right left_right (right_right c2) = (_, (_, right_right (after_sym c2)), (_, right_left))
cube left_right (left_both b1) (right_both c2) = (_, (_, both_right (after_sym c2)), (_, both_left (after_sym b1)))
cube (left_both a1) (left_left b1) (both_left c1) =
    let r1 = cube a1 b1 c1 in (_, (_, left_both r1.1.1), (_, left_left r1.2.1))
cube (left_both a1) left_right (both_right c2) = (_, (_, right_both (after_sym c2)), (_, right_left))
cube (left_both a1) (left_both b1) (both_both c1 c2) =
    let r1 = cube a1 b1 c1 in (_, (_, both_both r1.1.1 (after_sym c2)), (_, both_left r1.2.1))
cube right_left right_left (left_left c1) = (_, (_, left_left (after_sym c1)), (_, left_right))
cube right_left (right_right b2) left_right = (_, (_, right_left), (_, right_right (after_sym b2)))
cube right_left (right_both b2) (left_both c1) = (_, (_, both_left (after_sym c1)), (_, both_right (after_sym b2)))
cube (right_right a2) right_left right_left = (_, (_, left_right), (_, left_right))
cube (right_right a2) (right_right b2) (right_right c2) =
    let r2 = cube a2 b2 c2 in (_, (_, right_right r2.1.1), (_, right_right r2.2.1))
cube (right_right a2) (right_both b2) (right_both c2) =
    let r2 = cube a2 b2 c2 in (_, (_, both_right r2.1.1), (_, both_right r2.2.1))
cube (right_both a2) right_left (both_left c1) = (_, (_, left_both (after_sym c1)), (_, left_right))
cube (right_both a2) (right_right b2) (both_right c2) =
    let r2 = cube a2 b2 c2 in (_, (_, right_both r2.1.1), (_, right_right r2.2.1))
cube (right_both a2) (right_both b2) (both_both c1 c2) =
    let r2 = cube a2 b2 c2 in (_, (_, both_both (after_sym c1) r2.1.1), (_, both_right r2.2.1))
cube (both_left a1) (both_left b1) (left_left c1) =
    let r1 = cube a1 b1 c1 in (_, (_, left_left r1.1.1), (_, left_both r1.2.1))
cube (both_left a1) (both_right b2) left_right = (_, (_, right_left), (_, right_both (after_sym b2)))
cube (both_left a1) (both_both b1 b2) (left_both c1) =
    let r1 = cube a1 b1 c1 in (_, (_, both_left r1.1.1), (_, both_both r1.2.1 (after_sym b2)))
cube (both_right a2) (both_left b1) right_left = (_, (_, left_right), (_, left_both (after_sym b1)))
cube (both_right a2) (both_right b2) (right_right c2) =
    let r2 = cube a2 b2 c2 in (_, (_, right_right r2.1.1), (_, right_both r2.2.1))
cube (both_right a2) (both_both b1 b2) (right_both c2) =
    let r2 = cube a2 b2 c2 in (_, (_, both_right r2.1.1), (_, both_both (after_sym b1) r2.2.1))
cube (both_both a1 a2) (both_left b1) (both_left c1) =
    let r1 = cube a1 b1 c1 in (_, (_, left_both r1.1.1), (_, left_both r1.2.1))
cube (both_both a1 a2) (both_right b2) (both_right c2) =
    let r2 = cube a2 b2 c2 in (_, (_, right_both r2.1.1), (_, right_both r2.2.1))
cube (both_both a1 a2) (both_both b1 b2) (both_both c1 c2) =
    let r1 = cube a1 b1 c1 in
    let r2 = cube a2 b2 c2 in
    (_, (_, both_both r1.1.1 r2.1.1), (_, both_both r1.2.1 r2.2.1))
cube (chosen_left a) (chosen_left b) (chosen_left c) = cube a b c
cube (chosen_right a) (chosen_right b) (chosen_right c) = cube a b c
cube (under_under e a) (under_under f b) (under_under g c) =
    let r = cube a b c in (_, (_, under_under (sym f ∙ e) r.1.1), (_, under_under (sym g ∙ sym e) r.2.1))

-- steps whose rests after a third are independent are independent
pub before : {x y w x' y' x'' w' y'' w'' : Proof} → After y x y' x' → After w x w' x'' → After y' w' y'' w''
    → (v : Proof) × (s : Proof) × After y w v s
before (left_left a1) (left_left b1) (left_left c1) = (_, _, left_left (before a1 b1 c1).2)
before (left_left a1) right_left left_right = (_, _, left_right)
before (left_left a1) (both_left b1) (left_both c1) = (_, _, left_both (before a1 b1 c1).2)
before right_left (left_left b1) right_left = (_, _, right_left)
before right_left right_left (right_right c2) = (_, _, right_right c2)
before right_left (both_left b1) (right_both c2) = (_, _, right_both c2)
before (both_left a1) (left_left b1) (both_left c1) = (_, _, both_left (before a1 b1 c1).2)
before (both_left a1) right_left (both_right c2) = (_, _, both_right c2)
before (both_left a1) (both_left b1) (both_both c1 c2) = (_, _, both_both (before a1 b1 c1).2 c2)
before left_right left_right (left_left c1) = (_, _, left_left c1)
before left_right (right_right b2) left_right = (_, _, left_right)
before left_right (both_right b2) (left_both c1) = (_, _, left_both c1)
before (right_right a2) left_right right_left = (_, _, right_left)
before (right_right a2) (right_right b2) (right_right c2) = (_, _, right_right (before a2 b2 c2).2)
before (right_right a2) (both_right b2) (right_both c2) = (_, _, right_both (before a2 b2 c2).2)
before (both_right a2) left_right (both_left c1) = (_, _, both_left c1)
before (both_right a2) (right_right b2) (both_right c2) = (_, _, both_right (before a2 b2 c2).2)
before (both_right a2) (both_right b2) (both_both c1 c2) = (_, _, both_both c1 (before a2 b2 c2).2)
before (left_both a1) (left_both b1) (left_left c1) = (_, _, left_left (before a1 b1 c1).2)
before (left_both a1) (right_both b2) left_right = (_, _, left_right)
before (left_both a1) (both_both b1 b2) (left_both c1) = (_, _, left_both (before a1 b1 c1).2)
before (right_both a2) (left_both b1) right_left = (_, _, right_left)
before (right_both a2) (right_both b2) (right_right c2) = (_, _, right_right (before a2 b2 c2).2)
before (right_both a2) (both_both b1 b2) (right_both c2) = (_, _, right_both (before a2 b2 c2).2)
before (both_both a1 a2) (left_both b1) (both_left c1) = (_, _, both_left (before a1 b1 c1).2)
before (both_both a1 a2) (right_both b2) (both_right c2) = (_, _, both_right (before a2 b2 c2).2)
before (both_both a1 a2) (both_both b1 b2) (both_both c1 c2) = (_, _, both_both (before a1 b1 c1).2 (before a2 b2 c2).2)
before (chosen_left a) (chosen_left b) c = let r = before a b c in (_, _, chosen_left r.2)
before (chosen_right a) (chosen_right b) c = let r = before a b c in (_, _, chosen_right r.2)
before (under_under e a) (under_under f b) (under_under g c) =
    let r = before a b c in (_, _, under_under (e ∙ sym f) r.2)
