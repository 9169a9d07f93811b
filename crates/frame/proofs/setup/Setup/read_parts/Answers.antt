use Rattle.std.proofs.Common.{sym, ap, ◌∙◌, arith}
use Rattle.frame.specs.Reading.{layout_view}
use Rattle.frame.proofs.Behind.{layout_shorter}
use Rattle.frame.proofs.setup.Setup.read_parts.Goals as goal

pub overflow_sub-result : goal.overflow_sub-result
overflow_sub-result c = omega (
  arith,
  layout_shorter c.args.kind c.args.fields.now _
      (sym c.layout.ensures ∙ ap layout_view c.in_ok-parts.ensures.ok_part),
)
