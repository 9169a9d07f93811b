use Rattle.std.proofs.Common.{◌∙◌}
use Rattle.nodes.proofs.Faults.{term_fault}
use Rattle.nodes.proofs.term.Term.fault.Goals as goal

pub returns : goal.returns
returns c = c.fault.ensures ∙ term_fault c.args.definitions c.args.bytes.now
