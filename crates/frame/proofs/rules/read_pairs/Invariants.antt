use Rattle.std.proofs.Common.{◌≡◌, ◌+◌, [], length}
use Rattle.actions.specs.Contents.{pairs_of}
use Rattle.frame.specs.Rules.{more_pairs}
use Rattle.frame.proofs.rules.read_pairs.Given as goal

abbrev pub invariant-loop-rest : goal.invariant-loop-rest
invariant-loop-rest l = (more_pairs (pairs_of l.pairs) l.place l.rest ≡ more_pairs [] 3 l.bytes)
    × (l.place + length l.rest ≡ 3 + length l.bytes)

abbrev pub decreases-loop-rest : goal.decreases-loop-rest
decreases-loop-rest l = length l.rest
