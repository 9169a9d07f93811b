use Rattle.std.proofs.Common.{◌≡◌, ◌*◌, ◌≤◌, take}
use Rattle.bench.specs.Page.{page_of, steps_of}
use Rattle.bench.specs.Print.{lines_length}
use Rattle.bench.proofs.sheet.Sheet.text_len.Given as goal

abbrev pub invariant-loop-step : goal.invariant-loop-step
invariant-loop-step l = (l.n ≡ lines_length (take l.step-index (steps_of (page_of l.self)))) × (l.n ≤ 131 * l.step-index)
