use Rattle.std.proofs.Common.{◌≡◌, drop}
use Rattle.actions.specs.Contents.{pairs_of}
use Rattle.actions.specs.Pairs.{to_of}
use Rattle.actions.proofs.pairs.Pairs.to.Given as goal

-- no pair before this one has the name
abbrev pub invariant-loop-pair : goal.invariant-loop-pair
invariant-loop-pair l = to_of (pairs_of l.self) l.name ≡ to_of (drop l.pair-index (pairs_of l.self)) l.name
