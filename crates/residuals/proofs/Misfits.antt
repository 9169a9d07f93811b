-- What a node tells of the first improper node.
use Rattle.std.proofs.Common.{◌≡◌, ℕ, ◌+◌, cond, length, Some, None, Ok, Option, Result, nat_eq, refl, ap, ap₂, arith}
use Rattle.steps.specs.Meaning.{Str}
use Rattle.ccs.specs.Syntax.{Proof}
use Rattle.actions.specs.Action.{name_of, complementary}
use Rattle.ccs.specs.Label.{label}
use Rattle.ccs.specs.Improper.{further, or_else, improper}
use Rattle.ccs.specs.Reading.{read_proof}
use Rattle.ccs.specs.System.{improper_of}
use Rattle.ccs.proofs.ProofReading.{read_is_proof}
use Rattle.residuals.specs.Steps.{shown_action}
use Rattle.residuals.proofs.Labels.{shown_is}
use Rattle.nodes.specs.Nodes.{NodeOfProof, ProofNode}
use Rattle.nodes.specs.Nodes.NodeOfProof.{Act, Left, Right, Both, ChooseLeft, ChooseRight, Under}
use Rattle.nodes.specs.Nodes.ProofNode.{act_node, left_node, right_node, both_node, choose_left_node, choose_right_node, under_node}

-- the first improper node of a string that is a proof
abbrev pub first_improper : Str → Option ℕ
first_improper s = improper_of (read_proof s)

abbrev pub improper_at : NodeOfProof → Option ℕ
improper_at (Act a) = None
improper_at (Left s) = further 1 (first_improper s)
improper_at (Right s) = further 1 (first_improper s)
improper_at (Both s r) = cond (complementary (shown_action s) (shown_action r))
    (or_else (further 1 (first_improper s)) (further (1 + length s) (first_improper r))) (Some 0)
improper_at (ChooseLeft s) = further 1 (first_improper s)
improper_at (ChooseRight s) = further 1 (first_improper s)
improper_at (Under m s) = cond (nat_eq (name_of (shown_action s)) m) (Some 0) (further 2 (first_improper s))

first_is : (s : Str) (t : Proof) → read_proof s ≡ Ok t → first_improper s ≡ improper t
first_is s t e = ap improper_of e

pub improper_is : {n : NodeOfProof} {r : Result Proof ℕ} → ProofNode (Some n) r → improper_at n ≡ improper_of r
unfolding improper
improper_is act_node = refl
improper_is (left_node {s = s} {t = t} e) = ap (further 1) (first_is s t e)
improper_is (right_node {s = s} {t = t} e) = ap (further 1) (first_is s t e)
improper_is (both_node {s = s} {r = r} {t = t} {u = u} e f) =
    rw (shown_is s t e, shown_is r u f, first_is s t e, first_is r u f)
    (ap (λ k. cond (complementary (label t) (label u)) (or_else (further 1 (improper t)) (further k (improper u)))
    (Some 0)) (omega (arith, ap length (read_is_proof s t e).0)))
improper_is (choose_left_node {s = s} {t = t} e) = ap (further 1) (first_is s t e)
improper_is (choose_right_node {s = s} {t = t} e) = ap (further 1) (first_is s t e)
improper_is (under_node {m = m} {s = s} {t = t} e) = ap₂ (λ a o. cond (nat_eq (name_of a) m) (Some 0) (further 2 o))
    (shown_is s t e) (first_is s t e)
