use Rattle.std.proofs.Common.{◌≡◌, ◌+◌, [], drop}
use Rattle.actions.specs.Contents.{names_of}
use Rattle.frame.specs.Rules.{more_names}
use Rattle.frame.proofs.rules.read_names.Given as goal

abbrev pub invariant-loop-name : goal.invariant-loop-name
invariant-loop-name l =
    (more_names (names_of l.names) l.place (drop l.name-index l.bytes) ≡ more_names [] (l.initial.place) l.bytes)
    × (l.place ≡ l.initial.place + l.name-index)
