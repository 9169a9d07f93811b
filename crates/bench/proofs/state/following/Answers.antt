use Rattle.std.proofs.Common.{replicate}
use Rattle.bench.proofs.Rows.{next_held, next_fits}
use Rattle.bench.proofs.state.following.Goals as goal

pub unreachable-requires : goal.unreachable-requires
unreachable-requires g c =
    next_fits (g.S.StepSystem.transitions c.args.system.now) c.args.state.now c.args.step.now c.next.new.out (replicate 256 0) c.in_ok-len.len
    (rw c.items.ensures.value at c.in_ok-len.ensures.answer) (rw c.items.ensures.value at c.in_ok-len.ensures.buffer) c.in_default.ensures

pub returns : goal.returns
returns g c =
    next_held (g.S.StepSystem.transitions c.args.system.now) c.args.state.now c.args.step.now c.next.new.out (replicate 256 0) c.in_ok-len.len
    (rw c.items.ensures.value at c.in_ok-len.ensures.answer) (rw c.items.ensures.value at c.in_ok-len.ensures.buffer) c.in-Some.next c.in-Some.ensures
