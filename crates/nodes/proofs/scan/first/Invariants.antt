use Rattle.std.proofs.Common.{◌≡◌, ◌+◌, ◌≤◌, drop}
use Rattle.nodes.specs.Whole.{whole, start, shifted}
use Rattle.nodes.proofs.scan.first.Given as goal

abbrev pub invariant-loop-i : goal.invariant-loop-i
invariant-loop-i g l = record {
  few : l.wanted.count ≤ l.i + 1;
  rest : shifted l.i (whole (g.G.Grammar.fits l.grammar) l.wanted (drop l.i l.bytes))
      ≡ whole (g.G.Grammar.fits l.grammar) start l.bytes;
}
