use Rattle.std.proofs.Common.{◌∙◌, sym, arith}
use Rattle.nodes.specs.Whole.{whole, start}
use Rattle.nodes.proofs.Whole.{shifted_none, misfit, ends, goes_on, runs_out}
use Rattle.nodes.proofs.scan.first.Goals as goal

pub loop-i-init : goal.loop-i-init
loop-i-init g c = record {
  few = omega arith;
  rest = shifted_none (whole (g.G.Grammar.fits c.args.grammar.now) start c.args.bytes.now);
}

pub returns-in_default : goal.returns-in_default
returns-in_default g c = misfit
    (g.G.Grammar.fits c.args.grammar.now) c.loop-i.wanted c.args.bytes.now c.loop-i.i _ c.loop-i.invariant.rest
    c.loop-i-test.true c.in_default.ensures.next

pub returns-then-done : goal.returns-then-done
returns-then-done g c = ends
    (g.G.Grammar.fits c.args.grammar.now) c.loop-i.wanted c.args.bytes.now c.loop-i.i _ c.loop-i.invariant.rest
    c.loop-i-test.true c.in-Some.next c.in-Some.ensures.next (sym c.done.ensures ∙ c.if-done.true)

pub loop-i-preserved : goal.loop-i-preserved
loop-i-preserved g c =
    let rest = goes_on
    (g.G.Grammar.fits c.args.grammar.now) c.loop-i.wanted c.args.bytes.now c.loop-i.i _ c.loop-i.invariant.rest
    c.loop-i-test.true c.in-Some.next c.in-Some.ensures.next (sym c.done.ensures ∙ c.if-done.false) in
    record { few = omega (arith, c.loop-i.invariant.few, c.in-Some.ensures.few); rest = rest }

pub returns : goal.returns
returns g c = runs_out
    (g.G.Grammar.fits c.args.grammar.now) c.loop-i.wanted c.args.bytes.now c.loop-i.i _ c.loop-i.invariant.rest
    c.loop-i-test.false c.loop-i.auto.i-end
