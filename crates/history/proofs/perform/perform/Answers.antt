use Rattle.std.proofs.Common.{◌≡◌, [], map, length, take, ap, ◌∙◌, arith}
use Rattle.std.proofs.lemmas.List.{get_or-map, length-map}
use Rattle.history.specs.History.CallView.{open_sheet}
use Rattle.history.specs.Views.{call_view, answer_view}
use Rattle.history.proofs.Performing.{one_more, all_pages, all_answers, all_written}
use Rattle.history.proofs.Promised.{promised}
use Rattle.history.proofs.perform.perform.Goals as goal

pub loop-i-preserved : goal.loop-i-preserved
loop-i-preserved g c =
    let calls = c.args.calls.now in
    let i = c.loop-i.i in
    one_more c.loop-i.invariant _ (open_sheet 0 []) c.turn.result _ (rw length-map c.loop-i-test.true) (omega arith) (get_or-map call_view calls i _ (open_sheet 0 []) c.loop-i-test.true) c.turn.ensures.answer c.turn.ensures.pages

pub returns-clause-answers : goal.returns-clause-answers
returns-clause-answers g c =
    let long = length-map c.args.calls.now call_view in
    all_written c.loop-i.invariant (omega (arith, long)) (omega (arith, long))

pub returns-clause-promise : goal.returns-clause-promise
returns-clause-promise g c =
    let calls = c.args.calls.now in
    let each : length calls ≡ c.loop-i.i = omega arith in
    let whole : c.loop-i.i ≡ length (map call_view calls) = omega (arith, length-map calls call_view) in
    promised (g.met.S.StepSystem.lawful c.args.system.now) (map call_view calls) _ _ (ap (λ n. map answer_view (take n c.loop-i.answers)) each ∙ all_answers c.loop-i.invariant whole) (all_pages c.loop-i.invariant whole)
