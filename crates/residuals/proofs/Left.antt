-- What the nodes of two proofs tell of the residual of one after the other.
use Rattle.std.proofs.Common.{◌≡◌, ℕ, Bool, true, false, cond, Some, None, Ok, Option, Result, nat_eq, refl, ap, ap₂, ◌∙◌}
use Rattle.steps.specs.Meaning.{Str}
use Rattle.ccs.specs.Syntax.{Proof}
use Rattle.ccs.specs.Syntax.Proof.{on_left, on_right, under}
use Rattle.ccs.specs.Spelling.{proof_bytes}
use Rattle.ccs.specs.Reading.{read_proof}
use Rattle.ccs.specs.Residual.{residual, inside}
use Rattle.ccs.specs.System.{of_both, spelled_proof}
use Rattle.nodes.specs.Nodes.{NodeOfProof, ProofNode, sides_of, left_branch_of, right_branch_of, under_of}
use Rattle.nodes.specs.Nodes.NodeOfProof.{Act, Left, Right, Both, ChooseLeft, ChooseRight, Under}
use Rattle.nodes.specs.Nodes.ProofNode.{no_proof, act_node, left_node, right_node, both_node, choose_left_node, choose_right_node, under_node}
use Rattle.residuals.specs.declared.sink.Sink.{Sink}
use Rattle.residuals.specs.Sink.{with_byte, onto}
use Rattle.residuals.specs.Steps.{residual_of, beside_of}
use Rattle.residuals.proofs.Onto.{then_onto, with_sides, with_part, around, two, under_bytes, second_kept, first_kept, kept}

abbrev pub residual_onto : Option NodeOfProof → Option NodeOfProof → Sink → Option Sink
residual_onto None m k = None
residual_onto (Some n) None k = None
residual_onto (Some (Act a)) (Some m) k = None
residual_onto (Some (Left s)) (Some m) k =
    with_sides (sides_of m) (λ l r. onto (with_byte k 0x11) (beside_of (residual_of s) s l))
residual_onto (Some (Right s)) (Some m) k =
    with_sides (sides_of m) (λ l r. onto (with_byte k 0x12) (beside_of (residual_of s) s r))
residual_onto (Some (Both s p)) (Some m) k = with_sides (sides_of m)
    (λ l r. then_onto (onto (with_byte k 0x13) (beside_of (residual_of s) s l))
    (λ k. onto k (beside_of (residual_of p) p r)))
residual_onto (Some (ChooseLeft s)) (Some m) k = with_part (left_branch_of m) (λ r. onto k (residual_of s r))
residual_onto (Some (ChooseRight s)) (Some m) k = with_part (right_branch_of m) (λ r. onto k (residual_of s r))
residual_onto (Some (Under n s)) (Some m) k =
    with_part (under_of n m) (λ r. onto (with_byte (with_byte k 0x16) n) (residual_of s r))

asked : (s r : Str) {t u : Proof} → read_proof s ≡ Ok t → read_proof r ≡ Ok u
    → residual_of s r ≡ spelled_proof (residual t u)
asked s r e f = ap₂ (of_both residual) e f

pub residual_is : {n m : Option NodeOfProof} {x y : Result Proof ℕ} → ProofNode m y → ProofNode n x → (k : Sink)
    → residual_onto n m k ≡ onto k (of_both residual x y)
unfolding residual proof_bytes
residual_is h no_proof k = refl
residual_is no_proof act_node k = refl
residual_is no_proof (left_node e) k = refl
residual_is no_proof (right_node e) k = refl
residual_is no_proof (both_node e f) k = refl
residual_is no_proof (choose_left_node e) k = refl
residual_is no_proof (choose_right_node e) k = refl
residual_is no_proof (under_node e) k = refl
residual_is act_node act_node k = refl
residual_is (left_node g) act_node k = refl
residual_is (right_node g) act_node k = refl
residual_is (both_node g h) act_node k = refl
residual_is (choose_left_node g) act_node k = refl
residual_is (choose_right_node g) act_node k = refl
residual_is (under_node g) act_node k = refl
residual_is act_node (left_node e) k = refl
residual_is (left_node {t = u} g) (left_node {t = t} e) k = ap (onto (with_byte k 0x11)) (asked _ _ e g)
    ∙ around (residual t u) on_left 0x11 (λ v. refl) k
residual_is (right_node {t = u} g) (left_node {s = s} {t = t} e) k = ap (onto (with_byte k 0x11)) (kept s t e)
    ∙ around (Some t) on_left 0x11 (λ v. refl) k
residual_is (both_node {t = u} g h) (left_node {t = t} e) k = ap (onto (with_byte k 0x11)) (asked _ _ e g)
    ∙ around (residual t u) on_left 0x11 (λ v. refl) k
residual_is (choose_left_node g) (left_node e) k = refl
residual_is (choose_right_node g) (left_node e) k = refl
residual_is (under_node g) (left_node e) k = refl
residual_is act_node (right_node e) k = refl
residual_is (left_node g) (right_node {s = s} {t = t} e) k = ap (onto (with_byte k 0x12)) (kept s t e)
    ∙ around (Some t) on_right 0x12 (λ v. refl) k
residual_is (right_node {t = u} g) (right_node {t = t} e) k = ap (onto (with_byte k 0x12)) (asked _ _ e g)
    ∙ around (residual t u) on_right 0x12 (λ v. refl) k
residual_is (both_node {u = v} g h) (right_node {t = t} e) k = ap (onto (with_byte k 0x12)) (asked _ _ e h)
    ∙ around (residual t v) on_right 0x12 (λ v. refl) k
residual_is (choose_left_node g) (right_node e) k = refl
residual_is (choose_right_node g) (right_node e) k = refl
residual_is (under_node g) (right_node e) k = refl
residual_is act_node (both_node e f) k = refl
residual_is (left_node {t = v} g) (both_node {r = r} {t = t} {u = u} e f) k =
    ap₂ (λ o p. then_onto (onto (with_byte k 0x13) o) (λ k. onto k p)) (asked _ _ e g) (kept r u f)
    ∙ two (residual t v) (Some u) k ∙ ap (λ o. onto k (spelled_proof o)) (second_kept (residual t v) u)
residual_is (right_node {t = v} g) (both_node {s = s} {t = t} {u = u} e f) k =
    ap₂ (λ o p. then_onto (onto (with_byte k 0x13) o) (λ k. onto k p)) (kept s t e) (asked _ _ f g)
    ∙ two (Some t) (residual u v) k ∙ ap (λ o. onto k (spelled_proof o)) (first_kept t (residual u v))
residual_is (both_node {t = v} {u = w} g h) (both_node {t = t} {u = u} e f) k = ap₂
    (λ o p. then_onto (onto (with_byte k 0x13) o) (λ k. onto k p)) (asked _ _ e g) (asked _ _ f h)
    ∙ two (residual t v) (residual u w) k
residual_is (choose_left_node g) (both_node e f) k = refl
residual_is (choose_right_node g) (both_node e f) k = refl
residual_is (under_node g) (both_node e f) k = refl
residual_is act_node (choose_left_node e) k = refl
residual_is (left_node g) (choose_left_node e) k = refl
residual_is (right_node g) (choose_left_node e) k = refl
residual_is (both_node g h) (choose_left_node e) k = refl
residual_is (choose_left_node g) (choose_left_node e) k = ap (onto k) (asked _ _ e g)
residual_is (choose_right_node g) (choose_left_node e) k = refl
residual_is (under_node g) (choose_left_node e) k = refl
residual_is act_node (choose_right_node e) k = refl
residual_is (left_node g) (choose_right_node e) k = refl
residual_is (right_node g) (choose_right_node e) k = refl
residual_is (both_node g h) (choose_right_node e) k = refl
residual_is (choose_left_node g) (choose_right_node e) k = refl
residual_is (choose_right_node g) (choose_right_node e) k = ap (onto k) (asked _ _ e g)
residual_is (under_node g) (choose_right_node e) k = refl
residual_is act_node (under_node e) k = refl
residual_is (left_node g) (under_node e) k = refl
residual_is (right_node g) (under_node e) k = refl
residual_is (both_node g h) (under_node e) k = refl
residual_is (choose_left_node g) (under_node e) k = refl
residual_is (choose_right_node g) (under_node e) k = refl
residual_is (under_node {m = m} {s = r} {t = u} g) (under_node {m = n} {s = s} {t = t} e) k = go (nat_eq n m)
  where
    go : (c : Bool)
        → with_part (cond c (Some r) None) (λ r. onto (with_byte (with_byte k 0x16) n) (residual_of s r))
        ≡ onto k (spelled_proof (cond c (inside (under n) (residual t u)) None))
    go true = ap (onto (with_byte (with_byte k 0x16) n)) (asked s r e g) ∙ under_bytes (residual t u) n k
    go false = refl
