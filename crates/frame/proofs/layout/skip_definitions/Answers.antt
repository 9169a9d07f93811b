use Rattle.std.proofs.Common.{◌≡◌, ◌-◌, ◌+◌, sym, ap, ◌∙◌, arith}
use Rattle.frame.specs.Parts.{behind_answer}
use Rattle.frame.proofs.Bodies.{behind_end, behind_missing, behind_more}
use Rattle.frame.proofs.layout.skip_definitions.Goals as goal

pub loop-init : goal.loop-init
loop-init c = ap (λ n. behind_answer n c.args.bytes.now) (omega arith)

pub returns-in_default : goal.returns-in_default
returns-in_default c =
    let left : c.args.count - c.loop.counter ≡ (c.args.count - (c.loop.counter + 1)) + 1 = omega arith in
    sym (behind_missing _ (c.args.count - (c.loop.counter + 1)) c.loop.rest.now left (sym (c.in_default.ensures.part)))
    ∙ c.loop.invariant

pub loop-preserved : goal.loop-preserved
loop-preserved c =
    let left : c.args.count - c.loop.counter ≡ (c.args.count - (c.loop.counter + 1)) + 1 = omega arith in
    sym (behind_more _ (c.args.count - (c.loop.counter + 1)) c.loop.rest.now _ c.in-Some.behind.now left
    (sym (c.in-Some.ensures.part))) ∙ c.loop.invariant

pub returns : goal.returns
returns c =
    let none : c.args.count - c.loop.counter ≡ 0 = omega arith in
    sym (behind_end c.loop.rest.now) ∙ ap (λ n. behind_answer n c.loop.rest.now) (sym none) ∙ c.loop.invariant
