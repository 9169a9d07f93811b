use Rattle.nodes.proofs.Nodes.{par_begins, sum_begins}
use Rattle.nodes.proofs.term.Terms.shape.Goals as goal

pub split-requires : goal.split-requires
split-requires c = par_begins c.args.self.now.definitions c.args.bytes.now c.in_ok-kind.kind.now c.in_ok-kind.rest.now
    c.requires c.in_ok-kind.ensures.cases.0 c.in-2.is

pub split-requires-in-3 : goal.split-requires-in-3
split-requires-in-3 c = sum_begins c.args.self.now.definitions c.args.bytes.now c.in_ok-kind.kind.now
    c.in_ok-kind.rest.now c.requires c.in_ok-kind.ensures.cases.0 c.in-3.is
