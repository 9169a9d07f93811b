use Rattle.std.proofs.Common.{replicate, Ok, sym, ap, ◌∙◌}
use Rattle.joins.proofs.Asking.{left_not_refused, left_held}
use Rattle.joins.proofs.residual.residual.Goals as goal

pub unreachable-requires : goal.unreachable-requires
unreachable-requires g c =
    left_not_refused (g.met.S.StepSystem.lawful c.args.system.now) c.args.x.now c.args.y.now c.requires.first c.requires.second c.items.result.now c.items-2.result.now c.items.ensures.value c.items-2.ensures.value
    c.in_default.field-0 c.in_default.ensures.answer

pub returns : goal.returns
returns g c =
    c.of.ensures
    ∙ left_held (g.met.S.StepSystem.lawful c.args.system.now) c.args.x.now c.args.y.now c.requires.first c.requires.second c.items.result.now c.items-2.result.now c.items.ensures.value c.items-2.ensures.value
    c.in_ok-n.n c.residual.new.out (replicate 64 0) (ap Ok (sym c.in_ok-n.was) ∙ c.in-Ok.ensures.answer) c.in-Ok.ensures.buffer
