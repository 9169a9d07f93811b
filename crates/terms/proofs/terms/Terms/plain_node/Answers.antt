use Rattle.terms.proofs.Unfolding.{own_node, idle_node, body_node, body_read}
use Rattle.terms.proofs.terms.Terms.plain_node.Goals as goal

pub returns-in_default-clause-node : goal.returns-in_default-clause-node
returns-in_default-clause-node c = own_node c.args.self.now.count c.args.self.now.bodies c.args.self.now.few
    c.args.term.now c.of-node.ensures.node c.in_default.ensures

pub returns-in_default-body-clause-node : goal.returns-in_default-body-clause-node
returns-in_default-body-clause-node c = idle_node c.args.self.now.count c.args.self.now.bodies c.args.self.now.few
    c.args.term.now c.in-Some.definition c.of-node.ensures.node c.in-Some.ensures c.in_default-body.ensures

pub of-requires : goal.of-requires
of-requires c = body_read c.args.self.now.count c.args.self.now.bodies c.in-Some.definition c.in-Some-body.body.now
    c.args.self.now.sound c.in-Some-body.ensures

pub returns-clause-node : goal.returns-clause-node
returns-clause-node c = body_node c.args.self.now.count c.args.self.now.bodies c.args.self.now.few c.args.term.now
    c.in-Some.definition c.in-Some-body.body.now c.of-node.ensures.node c.in-Some.ensures c.args.self.now.sound
    c.in-Some-body.ensures c.of.ensures.node
