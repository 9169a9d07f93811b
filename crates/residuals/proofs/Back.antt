-- What the nodes of two proofs tell of the proof of which the second is left after the first.
use Rattle.std.proofs.Common.{◌≡◌, ℕ, Bool, true, false, cond, ◌∷◌, Some, None, Ok, Err, Option, Result, nat_eq, sym, refl, ap, ap₂, ◌∙◌}
use Rattle.steps.specs.Meaning.{Str}
use Rattle.ccs.specs.Syntax.{Proof}
use Rattle.ccs.specs.Syntax.Proof.{on_left, on_right, choose_left, choose_right, under}
use Rattle.ccs.specs.Spelling.{proof_bytes}
use Rattle.ccs.specs.Reading.{read_proof}
use Rattle.ccs.specs.Residual.{origin, inside}
use Rattle.ccs.specs.System.{of_both, spelled_proof}
use Rattle.nodes.specs.Nodes.{NodeOfProof, ProofNode, sides_of, left_branch_of, right_branch_of, under_of}
use Rattle.nodes.specs.Nodes.NodeOfProof.{Act, Left, Right, Both, ChooseLeft, ChooseRight, Under}
use Rattle.nodes.specs.Nodes.ProofNode.{no_proof, act_node, left_node, right_node, both_node, choose_left_node, choose_right_node, under_node}
use Rattle.residuals.specs.declared.sink.Sink.{Sink}
use Rattle.residuals.specs.Sink.{with_byte, onto}
use Rattle.residuals.specs.Steps.{origin_of, beside_of}
use Rattle.residuals.proofs.Onto.{then_onto, with_sides, with_part, around, two, under_bytes, second_kept, first_kept, kept}

abbrev pub origin_onto : NodeOfProof → Option NodeOfProof → Sink → Option Sink
origin_onto n None k = None
origin_onto n (Some (Act a)) k = None
origin_onto n (Some (Left s)) k =
    with_sides (sides_of n) (λ l r. onto (with_byte k 0x11) (beside_of (λ x. origin_of x s) s l))
origin_onto n (Some (Right s)) k =
    with_sides (sides_of n) (λ l r. onto (with_byte k 0x12) (beside_of (λ x. origin_of x s) s r))
origin_onto n (Some (Both s p)) k = with_sides (sides_of n)
    (λ l r. then_onto (onto (with_byte k 0x13) (beside_of (λ x. origin_of x s) s l))
    (λ k. onto k (beside_of (λ x. origin_of x p) p r)))
origin_onto n (Some (ChooseLeft s)) k = None
origin_onto n (Some (ChooseRight s)) k = None
origin_onto n (Some (Under m s)) k =
    with_part (under_of m n) (λ r. onto (with_byte (with_byte k 0x16) m) (origin_of r s))

asked : (s r : Str) {t u : Proof} → read_proof s ≡ Ok t → read_proof r ≡ Ok u
    → origin_of s r ≡ spelled_proof (origin t u)
asked s r e f = ap₂ (of_both origin) e f

-- where the first makes a choice
chosen : (f : Proof → Proof) (b : ℕ) (s z : Str) (t : Proof) → read_proof s ≡ Ok t
    → ((u : Proof) → proof_bytes (f u) ≡ b ∷ proof_bytes u) → ((u : Proof) → origin (f t) u ≡ inside f (origin t u))
    → (k : Sink) → onto (with_byte k b) (origin_of s z) ≡ onto k (of_both origin (Ok (f t)) (read_proof z))
chosen f b s z t e g h k = go (read_proof z) refl
  where
    go : (r : Result Proof ℕ) → read_proof z ≡ r
        → onto (with_byte k b) (of_both origin (read_proof s) r) ≡ onto k (of_both origin (Ok (f t)) r)
    go (Ok u) i = ap (λ r. onto (with_byte k b) (of_both origin r (Ok u))) e ∙ around (origin t u) f b g k
        ∙ ap (λ o. onto k (spelled_proof o)) (sym (h u))
    go (Err j) i = ap (λ r. onto (with_byte k b) (of_both origin r (Err j))) e

pub chosen_left : {n : NodeOfProof} {x : Result Proof ℕ} → ProofNode (Some n) x → (s z : Str) (k : Sink)
    → Some s ≡ left_branch_of n → onto (with_byte k 0x14) (origin_of s z) ≡ onto k (of_both origin x (read_proof z))
unfolding origin proof_bytes
chosen_left act_node s z k e = absurd (cc e)
chosen_left (left_node g) s z k e = absurd (cc e)
chosen_left (right_node g) s z k e = absurd (cc e)
chosen_left (both_node g h) s z k e = absurd (cc e)
chosen_left (choose_left_node {s = r} {t = t} g) s z k e = let same : s ≡ r = cc e in
    chosen choose_left 0x14 s z t (ap read_proof same ∙ g) (λ u. refl) (λ u. refl) k
chosen_left (choose_right_node g) s z k e = absurd (cc e)
chosen_left (under_node g) s z k e = absurd (cc e)

pub chosen_right : {n : NodeOfProof} {x : Result Proof ℕ} → ProofNode (Some n) x → (s z : Str) (k : Sink)
    → Some s ≡ right_branch_of n → onto (with_byte k 0x15) (origin_of s z) ≡ onto k (of_both origin x (read_proof z))
unfolding origin proof_bytes
chosen_right act_node s z k e = absurd (cc e)
chosen_right (left_node g) s z k e = absurd (cc e)
chosen_right (right_node g) s z k e = absurd (cc e)
chosen_right (both_node g h) s z k e = absurd (cc e)
chosen_right (choose_left_node g) s z k e = absurd (cc e)
chosen_right (choose_right_node {s = r} {t = t} g) s z k e = let same : s ≡ r = cc e in
    chosen choose_right 0x15 s z t (ap read_proof same ∙ g) (λ u. refl) (λ u. refl) k
chosen_right (under_node g) s z k e = absurd (cc e)

-- where it makes none
pub origin_is : {n : NodeOfProof} {m : Option NodeOfProof} {x z : Result Proof ℕ} → ProofNode (Some n) x → ProofNode m z
    → None ≡ left_branch_of n → None ≡ right_branch_of n → (k : Sink) → origin_onto n m k ≡ onto k (of_both origin x z)
unfolding origin proof_bytes
origin_is act_node no_proof f g k = refl
origin_is act_node act_node f g k = refl
origin_is act_node (left_node d) f g k = refl
origin_is act_node (right_node d) f g k = refl
origin_is act_node (both_node d e) f g k = refl
origin_is act_node (choose_left_node d) f g k = refl
origin_is act_node (choose_right_node d) f g k = refl
origin_is act_node (under_node d) f g k = refl
origin_is (left_node c) no_proof f g k = refl
origin_is (left_node c) act_node f g k = refl
origin_is (left_node {t = u} c) (left_node {t = t} e) f g k = ap (onto (with_byte k 0x11)) (asked _ _ c e)
    ∙ around (origin u t) on_left 0x11 (λ v. refl) k
origin_is (left_node c) (right_node {s = s} {t = t} e) f g k = ap (onto (with_byte k 0x12)) (kept s t e)
    ∙ around (Some t) on_right 0x12 (λ v. refl) k
origin_is (left_node {t = v} c) (both_node {r = r} {t = t} {u = u} d e) f g k =
    ap₂ (λ o p. then_onto (onto (with_byte k 0x13) o) (λ k. onto k p)) (asked _ _ c d) (kept r u e)
    ∙ two (origin v t) (Some u) k ∙ ap (λ o. onto k (spelled_proof o)) (second_kept (origin v t) u)
origin_is (left_node c) (choose_left_node d) f g k = refl
origin_is (left_node c) (choose_right_node d) f g k = refl
origin_is (left_node c) (under_node d) f g k = refl
origin_is (right_node c) no_proof f g k = refl
origin_is (right_node c) act_node f g k = refl
origin_is (right_node c) (left_node {s = s} {t = t} e) f g k = ap (onto (with_byte k 0x11)) (kept s t e)
    ∙ around (Some t) on_left 0x11 (λ v. refl) k
origin_is (right_node {t = u} c) (right_node {t = t} e) f g k = ap (onto (with_byte k 0x12)) (asked _ _ c e)
    ∙ around (origin u t) on_right 0x12 (λ v. refl) k
origin_is (right_node {t = v} c) (both_node {s = s} {t = t} {u = u} d e) f g k =
    ap₂ (λ o p. then_onto (onto (with_byte k 0x13) o) (λ k. onto k p)) (kept s t d) (asked _ _ c e)
    ∙ two (Some t) (origin v u) k ∙ ap (λ o. onto k (spelled_proof o)) (first_kept t (origin v u))
origin_is (right_node c) (choose_left_node d) f g k = refl
origin_is (right_node c) (choose_right_node d) f g k = refl
origin_is (right_node c) (under_node d) f g k = refl
origin_is (both_node c b) no_proof f g k = refl
origin_is (both_node c b) act_node f g k = refl
origin_is (both_node {t = u} c b) (left_node {t = t} e) f g k = ap (onto (with_byte k 0x11)) (asked _ _ c e)
    ∙ around (origin u t) on_left 0x11 (λ v. refl) k
origin_is (both_node {u = v} c b) (right_node {t = t} e) f g k = ap (onto (with_byte k 0x12)) (asked _ _ b e)
    ∙ around (origin v t) on_right 0x12 (λ v. refl) k
origin_is (both_node {t = v} {u = w} c b) (both_node {t = t} {u = u} d e) f g k = ap₂
    (λ o p. then_onto (onto (with_byte k 0x13) o) (λ k. onto k p)) (asked _ _ c d) (asked _ _ b e)
    ∙ two (origin v t) (origin w u) k
origin_is (both_node c b) (choose_left_node d) f g k = refl
origin_is (both_node c b) (choose_right_node d) f g k = refl
origin_is (both_node c b) (under_node d) f g k = refl
origin_is (choose_left_node c) no_proof f g k = absurd (cc f)
origin_is (choose_left_node c) act_node f g k = absurd (cc f)
origin_is (choose_left_node c) (left_node d) f g k = absurd (cc f)
origin_is (choose_left_node c) (right_node d) f g k = absurd (cc f)
origin_is (choose_left_node c) (both_node d e) f g k = absurd (cc f)
origin_is (choose_left_node c) (choose_left_node d) f g k = absurd (cc f)
origin_is (choose_left_node c) (choose_right_node d) f g k = absurd (cc f)
origin_is (choose_left_node c) (under_node d) f g k = absurd (cc f)
origin_is (choose_right_node c) no_proof f g k = absurd (cc g)
origin_is (choose_right_node c) act_node f g k = absurd (cc g)
origin_is (choose_right_node c) (left_node d) f g k = absurd (cc g)
origin_is (choose_right_node c) (right_node d) f g k = absurd (cc g)
origin_is (choose_right_node c) (both_node d e) f g k = absurd (cc g)
origin_is (choose_right_node c) (choose_left_node d) f g k = absurd (cc g)
origin_is (choose_right_node c) (choose_right_node d) f g k = absurd (cc g)
origin_is (choose_right_node c) (under_node d) f g k = absurd (cc g)
origin_is (under_node c) no_proof f g k = refl
origin_is (under_node c) act_node f g k = refl
origin_is (under_node c) (left_node d) f g k = refl
origin_is (under_node c) (right_node d) f g k = refl
origin_is (under_node c) (both_node d e) f g k = refl
origin_is (under_node c) (choose_left_node d) f g k = refl
origin_is (under_node c) (choose_right_node d) f g k = refl
origin_is (under_node {m = m} {s = r} {t = u} c) (under_node {m = n} {s = s} {t = t} d) f g k = go (nat_eq n m)
  where
    go : (c : Bool)
        → with_part (cond c (Some r) None) (λ r. onto (with_byte (with_byte k 0x16) n) (origin_of r s))
        ≡ onto k (spelled_proof (cond c (inside (under n) (origin u t)) None))
    go true = ap (onto (with_byte (with_byte k 0x16) n)) (asked r s c d) ∙ under_bytes (origin u t) n k
    go false = refl
