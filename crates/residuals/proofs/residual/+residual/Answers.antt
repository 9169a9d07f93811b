use Rattle.std.proofs.Common.{rules}
use Rattle.residuals.proofs.Left.{residual_is}
use Rattle.residuals.proofs.residual.+residual.Goals as goal

pub residual-returns-in_err-left-in-Left : goal.residual-returns-in_err-left-in-Left
residual-returns-in_err-left-in-Left t c =
    search (rules, residual_is c.of-other.ensures.node c.of.ensures.node c.args.sink.now)

pub residual-returns-in_err-right-in-Right : goal.residual-returns-in_err-right-in-Right
residual-returns-in_err-right-in-Right t c =
    search (rules, residual_is c.of-other.ensures.node c.of.ensures.node c.args.sink.now)

pub residual-returns-in_err-left-in-Both : goal.residual-returns-in_err-left-in-Both
residual-returns-in_err-left-in-Both t c =
    search (rules, residual_is c.of-other.ensures.node c.of.ensures.node c.args.sink.now)

pub residual-returns-in_err-beside-in-Both : goal.residual-returns-in_err-beside-in-Both
residual-returns-in_err-beside-in-Both t c =
    search (rules, residual_is c.of-other.ensures.node c.of.ensures.node c.args.sink.now)

pub residual-returns-in_err-left_branch-in-ChooseLeft : goal.residual-returns-in_err-left_branch-in-ChooseLeft
residual-returns-in_err-left_branch-in-ChooseLeft t c =
    search (rules, residual_is c.of-other.ensures.node c.of.ensures.node c.args.sink.now)

pub residual-returns-in_err-right_branch-in-ChooseRight : goal.residual-returns-in_err-right_branch-in-ChooseRight
residual-returns-in_err-right_branch-in-ChooseRight t c =
    search (rules, residual_is c.of-other.ensures.node c.of.ensures.node c.args.sink.now)

pub residual-returns-in_err-moved-in-Under : goal.residual-returns-in_err-moved-in-Under
residual-returns-in_err-moved-in-Under t c =
    search (rules, residual_is c.of-other.ensures.node c.of.ensures.node c.args.sink.now)

pub residual-returns-in-Act : goal.residual-returns-in-Act
residual-returns-in-Act t c = search (rules, residual_is c.of-other.ensures.node c.of.ensures.node c.args.sink.now)

pub residual-returns-in_ok-left-in-Left : goal.residual-returns-in_ok-left-in-Left
residual-returns-in_ok-left-in-Left t c =
    search (rules, residual_is c.of-other.ensures.node c.of.ensures.node c.args.sink.now)

pub residual-returns-in_ok-right-in-Right : goal.residual-returns-in_ok-right-in-Right
residual-returns-in_ok-right-in-Right t c =
    search (rules, residual_is c.of-other.ensures.node c.of.ensures.node c.args.sink.now)

pub residual-returns-in_ok-beside-in-Both : goal.residual-returns-in_ok-beside-in-Both
residual-returns-in_ok-beside-in-Both t c =
    search (rules, residual_is c.of-other.ensures.node c.of.ensures.node c.args.sink.now)

pub residual-returns-in_ok-left_branch-in-ChooseLeft : goal.residual-returns-in_ok-left_branch-in-ChooseLeft
residual-returns-in_ok-left_branch-in-ChooseLeft t c =
    search (rules, residual_is c.of-other.ensures.node c.of.ensures.node c.args.sink.now)

pub residual-returns-in_ok-right_branch-in-ChooseRight : goal.residual-returns-in_ok-right_branch-in-ChooseRight
residual-returns-in_ok-right_branch-in-ChooseRight t c =
    search (rules, residual_is c.of-other.ensures.node c.of.ensures.node c.args.sink.now)

pub residual-returns-in_ok-moved-in-Under : goal.residual-returns-in_ok-moved-in-Under
residual-returns-in_ok-moved-in-Under t c =
    search (rules, residual_is c.of-other.ensures.node c.of.ensures.node c.args.sink.now)
