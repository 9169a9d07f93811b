use Rattle.std.proofs.Common.{subst, sym}
use Rattle.ccs.specs.Reading.{read_proof}
use Rattle.nodes.specs.Nodes.{ProofNode}
use Rattle.nodes.proofs.Nodes.{proof_first, no_shape, proof_parts_read}
use Rattle.nodes.proofs.proof.Proof.of.Goals as goal

pub unreachable-requires : goal.unreachable-requires
unreachable-requires c = no_shape c.requires
    (subst (λ o. ProofNode o (read_proof c.args.bytes.now)) (sym c.in_default.ensures.node)
    (proof_first c.args.bytes.now c.requires))

pub returns-clause-node : goal.returns-clause-node
returns-clause-node c = subst (λ o. ProofNode o (read_proof c.args.bytes.now)) (sym c.in-Some.ensures.node)
    (proof_first c.args.bytes.now c.requires)

pub returns-clause-parts : goal.returns-clause-parts
returns-clause-parts c = proof_parts_read
    (subst (λ o. ProofNode o (read_proof c.args.bytes.now)) (sym c.in-Some.ensures.node)
    (proof_first c.args.bytes.now c.requires))
