-- What a node tells of the string that was read as it, and of its parts.
use Rattle.std.proofs.Common.{◌≡◌, ℕ, Some, None, Ok, Err, Result, refl, subst}
use Rattle.ccs.specs.Syntax.{Term, Proof}
use Rattle.ccs.specs.Syntax.Term.{nil, prefix, par, sum, restrict, call}
use Rattle.ccs.specs.Syntax.Proof.{act, on_left, on_right, both, choose_left, choose_right, under}
use Rattle.ccs.specs.Reading.{read_term, read_proof}
use Rattle.nodes.specs.declared.proof.Proof as proofs
use Rattle.nodes.specs.Nodes.{NodeOfTerm, NodeOfProof, TermNode, ProofNode, node_of_proof}
use Rattle.nodes.specs.Nodes.NodeOfTerm.{Nil, Prefix, Par, Sum, Restrict, Call}
use Rattle.nodes.specs.Nodes.NodeOfProof.{Act, Left, Right, Both, ChooseLeft, ChooseRight, Under}
use Rattle.nodes.specs.Nodes.TermNode.{no_term, nil_node, prefix_node, par_node, sum_node, restrict_node, call_node}
use Rattle.nodes.specs.Nodes.ProofNode.{no_proof, act_node, left_node, right_node, both_node, choose_left_node, choose_right_node, under_node}

abbrev pub ProofParts : NodeOfProof → Result Proof ℕ → Type 0
ProofParts (Act a) r = r ≡ Ok (act a)
ProofParts (Left s) r = (t : Proof) × (read_proof s ≡ Ok t) × (r ≡ Ok (on_left t))
ProofParts (Right s) r = (t : Proof) × (read_proof s ≡ Ok t) × (r ≡ Ok (on_right t))
ProofParts (Both s p) r = (t : Proof) × (u : Proof) × (read_proof s ≡ Ok t) × (read_proof p ≡ Ok u)
    × (r ≡ Ok (both t u))
ProofParts (ChooseLeft s) r = (t : Proof) × (read_proof s ≡ Ok t) × (r ≡ Ok (choose_left t))
ProofParts (ChooseRight s) r = (t : Proof) × (read_proof s ≡ Ok t) × (r ≡ Ok (choose_right t))
ProofParts (Under m s) r = (t : Proof) × (read_proof s ≡ Ok t) × (r ≡ Ok (under m t))

pub proof_parts : {n : NodeOfProof} {r : Result Proof ℕ} → ProofNode (Some n) r → ProofParts n r
proof_parts act_node = refl
proof_parts (left_node e) = (_, e, refl)
proof_parts (right_node e) = (_, e, refl)
proof_parts (both_node e f) = (_, _, e, f, refl)
proof_parts (choose_left_node e) = (_, e, refl)
proof_parts (choose_right_node e) = (_, e, refl)
proof_parts (under_node e) = (_, e, refl)

pub not_a_proof : {r : Result Proof ℕ} → ProofNode None r → (k : ℕ) × (r ≡ Err k)
not_a_proof no_proof = (_, refl)

abbrev pub TermParts : ℕ → NodeOfTerm → Result Term ℕ → Type 0
TermParts n Nil r = r ≡ Ok nil
TermParts n (Prefix a s) r = (p : Term) × (read_term n s ≡ Ok p) × (r ≡ Ok (prefix a p))
TermParts n (Par s t) r = (p : Term) × (q : Term) × (read_term n s ≡ Ok p) × (read_term n t ≡ Ok q) × (r ≡ Ok (par p q))
TermParts n (Sum s t) r = (p : Term) × (q : Term) × (read_term n s ≡ Ok p) × (read_term n t ≡ Ok q) × (r ≡ Ok (sum p q))
TermParts n (Restrict m s) r = (p : Term) × (read_term n s ≡ Ok p) × (r ≡ Ok (restrict m p))
TermParts n (Call d) r = r ≡ Ok (call d)

pub term_parts : {n : ℕ} {o : NodeOfTerm} {r : Result Term ℕ} → TermNode n (Some o) r → TermParts n o r
term_parts nil_node = refl
term_parts (prefix_node e) = (_, e, refl)
term_parts (par_node e f) = (_, _, e, f, refl)
term_parts (sum_node e f) = (_, _, e, f, refl)
term_parts (restrict_node e) = (_, e, refl)
term_parts call_node = refl

pub not_a_term : {n : ℕ} {r : Result Term ℕ} → TermNode n None r → (k : ℕ) × (r ≡ Err k)
not_a_term no_term = (_, refl)

-- the same of a node that is known
pub proof_parts_at : {n m : proofs.Proof} {r : Result Proof ℕ} → ProofNode (Some (node_of_proof n)) r → n ≡ m
    → ProofParts (node_of_proof m) r
proof_parts_at {r = r} h e = proof_parts (subst (λ n. ProofNode (Some (node_of_proof n)) r) e h)
