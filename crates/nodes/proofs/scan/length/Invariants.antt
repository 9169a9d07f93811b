use Rattle.std.proofs.Common.{◌≡◌, ◌+◌, ◌-◌, ◌≤◌, length, drop}
use Rattle.nodes.specs.Whole.{whole, start, ahead}
use Rattle.nodes.proofs.scan.length.Given as goal

abbrev pub invariant-loop-due : goal.invariant-loop-due
invariant-loop-due g l = record {
  few : l.due ≤ l.at + 1;
  rest : ahead (g.G.Grammar.fits l.grammar) l.at l.due (drop l.at l.bytes)
      ≡ whole (g.G.Grammar.fits l.grammar) start l.bytes;
}

abbrev pub decreases-loop-due : goal.decreases-loop-due
decreases-loop-due g l = length l.bytes - l.at
