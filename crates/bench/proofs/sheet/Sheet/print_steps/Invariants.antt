use Rattle.std.proofs.Common.{◌≡◌, ◌≤◌, length, take}
use Rattle.byte_strings.specs.Buffer.{over}
use Rattle.bench.specs.Page.{page_of, steps_of}
use Rattle.bench.specs.Print.{lines_length, step_lines}
use Rattle.bench.proofs.sheet.Sheet.print_steps.Given as goal

abbrev pub invariant-loop-row : goal.invariant-loop-row
invariant-loop-row g l =
    let done = take l.row-index (steps_of (page_of l.self)) in
    (l.n ≡ lines_length done) × (l.out ≡ over (step_lines (g.S.StepSystem.transitions l.system) done) l.initial.out) × (l.n ≤ length l.out) × (l.n ≤ length l.initial.out)
