use Rattle.std.proofs.Common.{◌≡◌, Err, sym, ◌∙◌, ap, length, rules, arith, length-drop}
use Rattle.actions.specs.Contents.{pairs_of}
use Rattle.frame.specs.Reading.{result_view}
use Rattle.frame.proofs.Taken.{pairs_end, behind_two, pairs_more, pairs_bad, pairs_few}
use Rattle.frame.proofs.rules.read_pairs.Goals as goal

pub returns-in_err-pairs : goal.returns-in_err-pairs
returns-in_err-pairs c =
    let told : result_view pairs_of c.from_residual.result ≡ Err c.in_err-pairs.field-0.0 = search rules in
    let bad = pairs_bad _ c.loop-rest.place c.loop-rest.rest.now _ c.in-len2-up.len_at_least c.in_err-pairs.ensures in
    told ∙ sym (pairs_few c.args.bytes.now (omega arith) ∙ sym c.loop-rest.invariant.0 ∙ bad)

pub loop-rest-preserved : goal.loop-rest-preserved
loop-rest-preserved c = (
  sym (pairs_more _ _ c.loop-rest.place c.loop-rest.rest.now c.in-len2-up.len_at_least c.in_ok-pairs.ensures)
      ∙ c.loop-rest.invariant.0,
  omega (
    arith,
    ap length (behind_two c.loop-rest.rest.now),
    length-drop 2 c.loop-rest.rest.now,
    c.loop-rest.invariant.1,
    c.in-len2-up.len_at_least,
  ),
)

pub returns : goal.returns
returns c = sym
    (pairs_few c.args.bytes.now (omega arith) ∙ sym c.loop-rest.invariant.0
    ∙ pairs_end _ c.loop-rest.place c.loop-rest.rest.now (omega arith))
