use Rattle.std.proofs.Common.{rules}
use Rattle.residuals.proofs.Back.{chosen_left, chosen_right, origin_is}
use Rattle.residuals.proofs.origin.+origin.Goals as goal

pub origin-returns-in-Some : goal.origin-returns-in-Some
origin-returns-in-Some t c = search
    (rules, chosen_left c.of-node.ensures.node c.in-Some.part.now c.args.z.now c.args.sink.now c.in-Some.ensures)

pub origin-returns-in-Some-right_branch : goal.origin-returns-in-Some-right_branch
origin-returns-in-Some-right_branch t c = search (
  rules,
  chosen_right c.of-node.ensures.node c.in-Some-right_branch.part.now c.args.z.now c.args.sink.now
      c.in-Some-right_branch.ensures,
)

pub origin-returns-in_err-left-in-Left : goal.origin-returns-in_err-left-in-Left
origin-returns-in_err-left-in-Left t c = search (
  rules,
  origin_is c.of-node.ensures.node c.of.ensures.node c.in_default.ensures c.in_default-right_branch.ensures
      c.args.sink.now,
)

pub origin-returns-in_err-right-in-Right : goal.origin-returns-in_err-right-in-Right
origin-returns-in_err-right-in-Right t c = search (
  rules,
  origin_is c.of-node.ensures.node c.of.ensures.node c.in_default.ensures c.in_default-right_branch.ensures
      c.args.sink.now,
)

pub origin-returns-in_err-left-in-Both : goal.origin-returns-in_err-left-in-Both
origin-returns-in_err-left-in-Both t c = search (
  rules,
  origin_is c.of-node.ensures.node c.of.ensures.node c.in_default.ensures c.in_default-right_branch.ensures
      c.args.sink.now,
)

pub origin-returns-in_err-before-in-Both : goal.origin-returns-in_err-before-in-Both
origin-returns-in_err-before-in-Both t c = search (
  rules,
  origin_is c.of-node.ensures.node c.of.ensures.node c.in_default.ensures c.in_default-right_branch.ensures
      c.args.sink.now,
)

pub origin-returns-in_err-moved-in-Under : goal.origin-returns-in_err-moved-in-Under
origin-returns-in_err-moved-in-Under t c = search (
  rules,
  origin_is c.of-node.ensures.node c.of.ensures.node c.in_default.ensures c.in_default-right_branch.ensures
      c.args.sink.now,
)

pub origin-returns-in_ok-left-in-Left : goal.origin-returns-in_ok-left-in-Left
origin-returns-in_ok-left-in-Left t c = search (
  rules,
  origin_is c.of-node.ensures.node c.of.ensures.node c.in_default.ensures c.in_default-right_branch.ensures
      c.args.sink.now,
)

pub origin-returns-in_ok-right-in-Right : goal.origin-returns-in_ok-right-in-Right
origin-returns-in_ok-right-in-Right t c = search (
  rules,
  origin_is c.of-node.ensures.node c.of.ensures.node c.in_default.ensures c.in_default-right_branch.ensures
      c.args.sink.now,
)

pub origin-returns-in_ok-before-in-Both : goal.origin-returns-in_ok-before-in-Both
origin-returns-in_ok-before-in-Both t c = search (
  rules,
  origin_is c.of-node.ensures.node c.of.ensures.node c.in_default.ensures c.in_default-right_branch.ensures
      c.args.sink.now,
)

pub origin-returns-in_ok-moved-in-Under : goal.origin-returns-in_ok-moved-in-Under
origin-returns-in_ok-moved-in-Under t c = search (
  rules,
  origin_is c.of-node.ensures.node c.of.ensures.node c.in_default.ensures c.in_default-right_branch.ensures
      c.args.sink.now,
)

pub origin-returns-in-Act : goal.origin-returns-in-Act
origin-returns-in-Act t c = search (
  rules,
  origin_is c.of-node.ensures.node c.of.ensures.node c.in_default.ensures c.in_default-right_branch.ensures
      c.args.sink.now,
)
