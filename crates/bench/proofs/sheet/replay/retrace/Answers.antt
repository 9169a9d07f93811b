use Rattle.std.proofs.Common.{rules, ◌≡◌, Ok}
use Rattle.steps.specs.Answers.{state_answer}
use Rattle.bench.specs.Walk.{walked}
use Rattle.bench.proofs.Following.{arrives, stops}
use Rattle.bench.proofs.sheet.replay.retrace.Goals as goal

pub returns-in_err-end : goal.returns-in_err-end
returns-in_err-end g c = search (rules, stops)

pub returns : goal.returns
returns g c =
    let t = g.S.StepSystem.transitions c.args.system.now in
    let walk : Ok c.in_ok-end.end ≡ walked t c.args.start.now c.args.rows.now 1 = search rules in
    let ok : state_answer t c.args.start.now ≡ Ok tt = search rules in
    arrives t c.args.start.now c.args.rows.now ok c.in_ok-end.end walk
