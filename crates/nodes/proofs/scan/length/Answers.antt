use Rattle.std.proofs.Common.{◌<◌, length, arith}
use Rattle.nodes.specs.Whole.{start}
use Rattle.nodes.proofs.Ahead.{at_start, in_string, node_over, nothing_due, ends_within}
use Rattle.nodes.proofs.scan.length.Given.{Over}
use Rattle.nodes.proofs.scan.length.Goals as goal

pub loop-due-init : goal.loop-due-init
loop-due-init g c = record { few = omega arith; rest = at_start (g.G.Grammar.fits c.args.grammar.now) c.args.bytes.now }

in_bounds : (g : Over) (c : goal.After-size-own g) → c.loop-due.at < length c.args.bytes.now
in_bounds g c = in_string
    (g.G.Grammar.fits c.args.grammar.now) c.args.bytes.now c.loop-due.at c.loop-due.due c.loop-due.invariant.rest
    c.requires c.loop-due-test.true

pub bounds-bytes-at : goal.bounds-bytes-at
bounds-bytes-at g c = in_string
    (g.G.Grammar.fits c.args.grammar.now) c.args.bytes.now c.loop-due.at c.loop-due.due c.loop-due.invariant.rest
    c.requires c.loop-due-test.true

pub overflow_add-at : goal.overflow_add-at
overflow_add-at g c = omega (arith, in_bounds g c, c.size-own.ensures.short, c.shared_slice_known-1)

pub overflow_add-due : goal.overflow_add-due
overflow_add-due g c = omega (
  arith,
  in_bounds g c,
  c.size-own.ensures.short,
  c.size-own.ensures.few,
  c.loop-due.invariant.few,
  c.shared_slice_known-1,
)

pub loop-due-preserved : goal.loop-due-preserved
loop-due-preserved g c =
    record {
      few = omega (arith, c.loop-due.invariant.few, c.size-own.ensures.few);
      rest = node_over
          (g.G.Grammar.fits c.args.grammar.now) c.args.bytes.now c.loop-due.at c.loop-due.due c.loop-due.invariant.rest
          c.requires c.size-own.result.own c.size-own.result.parts c.loop-due-test.true c.size-own.ensures.size;
    }

pub loop-due-smaller : goal.loop-due-smaller
loop-due-smaller g c = omega (arith, in_bounds g c, c.size-own.ensures.some)

pub returns-clause-value : goal.returns-clause-value
returns-clause-value g c = nothing_due
    (g.G.Grammar.fits c.args.grammar.now) c.args.bytes.now c.loop-due.at c.loop-due.due c.loop-due.invariant.rest
    c.requires (omega (arith, c.loop-due-test.false))

pub returns-clause-within : goal.returns-clause-within
returns-clause-within g c =
    ends_within (g.G.Grammar.fits c.args.grammar.now) start c.args.bytes.now c.loop-due.at
    (nothing_due (g.G.Grammar.fits c.args.grammar.now) c.args.bytes.now c.loop-due.at c.loop-due.due
    c.loop-due.invariant.rest c.requires (omega (arith, c.loop-due-test.false)))
