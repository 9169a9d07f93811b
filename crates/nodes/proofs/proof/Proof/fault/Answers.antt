use Rattle.std.proofs.Common.{◌∙◌}
use Rattle.nodes.proofs.Faults.{proof_fault}
use Rattle.nodes.proofs.proof.Proof.fault.Goals as goal

pub returns : goal.returns
returns c = c.fault.ensures ∙ proof_fault c.args.bytes.now
