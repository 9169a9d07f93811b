use Rattle.std.proofs.Common.{rules}
use Rattle.terms.specs.Contents.{terms_of}
use Rattle.terms.specs.Laws.Sound.{length_terms}
use Rattle.terms.proofs.Follows.{follow_is}
use Rattle.terms.proofs.terms.Terms.+follow.Goals as goal

pub returns-in_err-rest-in-Act-clause-answer : goal.returns-in_err-rest-in-Act-clause-answer
returns-in_err-rest-in-Act-clause-answer t c =
    search (
      rules,
      follow_is (terms_of c.args.self.now) c.args.self.now.count
          (length_terms c.args.self.now.count c.args.self.now.bodies c.args.self.now.few) c.args.term.now
          c.args.step.now c.plain_node-node.ensures.node c.of.ensures.node c.args.sink.now,
    )

pub returns-in_err-left-in-Left-clause-answer : goal.returns-in_err-left-in-Left-clause-answer
returns-in_err-left-in-Left-clause-answer t c =
    search (
      rules,
      follow_is (terms_of c.args.self.now) c.args.self.now.count
          (length_terms c.args.self.now.count c.args.self.now.bodies c.args.self.now.few) c.args.term.now
          c.args.step.now c.plain_node-node.ensures.node c.of.ensures.node c.args.sink.now,
    )

pub returns-in_err-further-in-Left-clause-answer : goal.returns-in_err-further-in-Left-clause-answer
returns-in_err-further-in-Left-clause-answer t c =
    search (
      rules,
      follow_is (terms_of c.args.self.now) c.args.self.now.count
          (length_terms c.args.self.now.count c.args.self.now.bodies c.args.self.now.few) c.args.term.now
          c.args.step.now c.plain_node-node.ensures.node c.of.ensures.node c.args.sink.now,
    )

pub returns-in_err-left-in-Right-clause-answer : goal.returns-in_err-left-in-Right-clause-answer
returns-in_err-left-in-Right-clause-answer t c =
    search (
      rules,
      follow_is (terms_of c.args.self.now) c.args.self.now.count
          (length_terms c.args.self.now.count c.args.self.now.bodies c.args.self.now.few) c.args.term.now
          c.args.step.now c.plain_node-node.ensures.node c.of.ensures.node c.args.sink.now,
    )

pub returns-in_err-left-in-Both-clause-answer : goal.returns-in_err-left-in-Both-clause-answer
returns-in_err-left-in-Both-clause-answer t c =
    search (
      rules,
      follow_is (terms_of c.args.self.now) c.args.self.now.count
          (length_terms c.args.self.now.count c.args.self.now.bodies c.args.self.now.few) c.args.term.now
          c.args.step.now c.plain_node-node.ensures.node c.of.ensures.node c.args.sink.now,
    )

pub returns-in_err-further-in-Both-clause-answer : goal.returns-in_err-further-in-Both-clause-answer
returns-in_err-further-in-Both-clause-answer t c =
    search (
      rules,
      follow_is (terms_of c.args.self.now) c.args.self.now.count
          (length_terms c.args.self.now.count c.args.self.now.bodies c.args.self.now.few) c.args.term.now
          c.args.step.now c.plain_node-node.ensures.node c.of.ensures.node c.args.sink.now,
    )

pub returns-in_err-left-in-ChooseLeft-clause-answer : goal.returns-in_err-left-in-ChooseLeft-clause-answer
returns-in_err-left-in-ChooseLeft-clause-answer t c =
    search (
      rules,
      follow_is (terms_of c.args.self.now) c.args.self.now.count
          (length_terms c.args.self.now.count c.args.self.now.bodies c.args.self.now.few) c.args.term.now
          c.args.step.now c.plain_node-node.ensures.node c.of.ensures.node c.args.sink.now,
    )

pub returns-in_err-right-in-ChooseRight-clause-answer : goal.returns-in_err-right-in-ChooseRight-clause-answer
returns-in_err-right-in-ChooseRight-clause-answer t c =
    search (
      rules,
      follow_is (terms_of c.args.self.now) c.args.self.now.count
          (length_terms c.args.self.now.count c.args.self.now.bodies c.args.self.now.few) c.args.term.now
          c.args.step.now c.plain_node-node.ensures.node c.of.ensures.node c.args.sink.now,
    )

pub returns-in_err-inner-in-Under-clause-answer : goal.returns-in_err-inner-in-Under-clause-answer
returns-in_err-inner-in-Under-clause-answer t c =
    search (
      rules,
      follow_is (terms_of c.args.self.now) c.args.self.now.count
          (length_terms c.args.self.now.count c.args.self.now.bodies c.args.self.now.few) c.args.term.now
          c.args.step.now c.plain_node-node.ensures.node c.of.ensures.node c.args.sink.now,
    )

pub returns-in_ok-rest-in-Act-clause-answer : goal.returns-in_ok-rest-in-Act-clause-answer
returns-in_ok-rest-in-Act-clause-answer t c =
    search (
      rules,
      follow_is (terms_of c.args.self.now) c.args.self.now.count
          (length_terms c.args.self.now.count c.args.self.now.bodies c.args.self.now.few) c.args.term.now
          c.args.step.now c.plain_node-node.ensures.node c.of.ensures.node c.args.sink.now,
    )

pub returns-in_ok-further-in-Left-clause-answer : goal.returns-in_ok-further-in-Left-clause-answer
returns-in_ok-further-in-Left-clause-answer t c =
    search (
      rules,
      follow_is (terms_of c.args.self.now) c.args.self.now.count
          (length_terms c.args.self.now.count c.args.self.now.bodies c.args.self.now.few) c.args.term.now
          c.args.step.now c.plain_node-node.ensures.node c.of.ensures.node c.args.sink.now,
    )

pub returns-in_ok-left-in-Right-clause-answer : goal.returns-in_ok-left-in-Right-clause-answer
returns-in_ok-left-in-Right-clause-answer t c =
    search (
      rules,
      follow_is (terms_of c.args.self.now) c.args.self.now.count
          (length_terms c.args.self.now.count c.args.self.now.bodies c.args.self.now.few) c.args.term.now
          c.args.step.now c.plain_node-node.ensures.node c.of.ensures.node c.args.sink.now,
    )

pub returns-in_ok-further-in-Both-clause-answer : goal.returns-in_ok-further-in-Both-clause-answer
returns-in_ok-further-in-Both-clause-answer t c =
    search (
      rules,
      follow_is (terms_of c.args.self.now) c.args.self.now.count
          (length_terms c.args.self.now.count c.args.self.now.bodies c.args.self.now.few) c.args.term.now
          c.args.step.now c.plain_node-node.ensures.node c.of.ensures.node c.args.sink.now,
    )

pub returns-in_ok-left-in-ChooseLeft-clause-answer : goal.returns-in_ok-left-in-ChooseLeft-clause-answer
returns-in_ok-left-in-ChooseLeft-clause-answer t c =
    search (
      rules,
      follow_is (terms_of c.args.self.now) c.args.self.now.count
          (length_terms c.args.self.now.count c.args.self.now.bodies c.args.self.now.few) c.args.term.now
          c.args.step.now c.plain_node-node.ensures.node c.of.ensures.node c.args.sink.now,
    )

pub returns-in_ok-right-in-ChooseRight-clause-answer : goal.returns-in_ok-right-in-ChooseRight-clause-answer
returns-in_ok-right-in-ChooseRight-clause-answer t c =
    search (
      rules,
      follow_is (terms_of c.args.self.now) c.args.self.now.count
          (length_terms c.args.self.now.count c.args.self.now.bodies c.args.self.now.few) c.args.term.now
          c.args.step.now c.plain_node-node.ensures.node c.of.ensures.node c.args.sink.now,
    )

pub returns-in_ok-inner-in-Under-clause-answer : goal.returns-in_ok-inner-in-Under-clause-answer
returns-in_ok-inner-in-Under-clause-answer t c =
    search (
      rules,
      follow_is (terms_of c.args.self.now) c.args.self.now.count
          (length_terms c.args.self.now.count c.args.self.now.bodies c.args.self.now.few) c.args.term.now
          c.args.step.now c.plain_node-node.ensures.node c.of.ensures.node c.args.sink.now,
    )
