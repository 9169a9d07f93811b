use Rattle.nodes.proofs.Nodes.{both_begin}
use Rattle.nodes.proofs.proof.shape.Goals as goal

pub split-requires : goal.split-requires
split-requires c = both_begin c.args.bytes.now c.in_ok-kind.kind.now c.in_ok-kind.rest.now c.requires
    c.in_ok-kind.ensures.cases.0 c.in-19.is
