use Rattle.std.proofs.Common.{◌≡◌, ◌-◌}
use Rattle.frame.specs.Parts.{behind_answer}
use Rattle.frame.proofs.layout.skip_definitions.Given as goal

abbrev pub invariant-loop : goal.invariant-loop
invariant-loop l = behind_answer (l.count - l.counter) l.rest ≡ behind_answer l.count l.bytes
