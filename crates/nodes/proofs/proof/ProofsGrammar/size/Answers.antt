use Rattle.std.proofs.Common.{subst, sym}
use Rattle.ccs.specs.Reading.{proof_byte}
use Rattle.nodes.specs.Whole.{IsSize}
use Rattle.nodes.specs.Grammars.{fits_of}
use Rattle.nodes.proofs.Sizes.{proof_sizes}
use Rattle.nodes.proofs.proof.ProofsGrammar.size.Goals as goal

pub returns-clause-size : goal.returns-clause-size
returns-clause-size c = subst (λ size. IsSize (fits_of proof_byte) c.args.kind size.own size.parts)
    (sym c.node_size.ensures.size) (proof_sizes c.args.kind)
