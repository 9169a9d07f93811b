use Rattle.std.proofs.Common.{refl, length, ap, ◌∙◌}
use Rattle.byte_strings.specs.Buffer.{count, buffer_after}
use Rattle.terms.specs.Contents.{terms_of}
use Rattle.terms.proofs.Answered.{next_told_is, next_fault_is}
use Rattle.terms.specs.Rules.{NextRules, Written}
use Rattle.terms.specs.Rules.NextRules.{by_no_step, from_no_state}
use Rattle.terms.proofs.Rules.{next_rules, checked_is_step, at_step_fault, at_state_fault}
use Rattle.terms.proofs.system.TermsStepSystem.next.Goals as goal

pub returns-in-Ok-clause-answer : goal.returns-in-Ok-clause-answer
returns-in-Ok-clause-answer c =
    let told = next_told_is (terms_of c.args.self.now) c.args.state.now c.args.step.now
    (length c.args.out.now) c.follow.new.sink c.new-next.result c.in_ok-check_step.ensures c.in_ok-check_state.ensures
    c.new-next.ensures c.in-Ok.ensures.answer in
    c.put_state.ensures.answer ∙ ap count told

pub returns-in-Ok-clause-buffer : goal.returns-in-Ok-clause-buffer
returns-in-Ok-clause-buffer c =
    let told = next_told_is (terms_of c.args.self.now) c.args.state.now c.args.step.now
    (length c.args.out.now) c.follow.new.sink c.new-next.result c.in_ok-check_step.ensures c.in_ok-check_state.ensures
    c.new-next.ensures c.in-Ok.ensures.answer in
    c.put_state.ensures.buffer ∙ ap (λ r. buffer_after r c.args.out.now) told

pub returns-in-Err-clause-answer : goal.returns-in-Err-clause-answer
returns-in-Err-clause-answer c =
    ap count (next_fault_is (terms_of c.args.self.now) c.args.state.now c.args.step.now
    (length c.args.out.now) c.in-Err.place c.new-next.result c.in_ok-check_step.ensures c.in_ok-check_state.ensures
    c.new-next.ensures c.in-Err.ensures.answer)

pub returns-in-Err-clause-buffer : goal.returns-in-Err-clause-buffer
returns-in-Err-clause-buffer c =
    ap (λ r. buffer_after r c.args.out.now)
    (next_fault_is (terms_of c.args.self.now) c.args.state.now c.args.step.now
    (length c.args.out.now) c.in-Err.place c.new-next.result c.in_ok-check_step.ensures c.in_ok-check_state.ensures
    c.new-next.ensures c.in-Err.ensures.answer)

pub returns-in-Ok-clause-rules : goal.returns-in-Ok-clause-rules
returns-in-Ok-clause-rules c =
    let told = next_told_is (terms_of c.args.self.now) c.args.state.now c.args.step.now
    (length c.args.out.now) c.follow.new.sink c.new-next.result c.in_ok-check_step.ensures c.in_ok-check_state.ensures
    c.new-next.ensures c.in-Ok.ensures.answer in (
      _,
      next_rules c.args.self.now c.args.state.now c.args.step.now (length c.args.out.now),
      c.put_state.ensures.answer
          ∙ ap count told,
      c.put_state.ensures.buffer ∙ ap (λ r. buffer_after r c.args.out.now) told,
    )

pub returns-in-Err-clause-rules : goal.returns-in-Err-clause-rules
returns-in-Err-clause-rules c =
    let told = next_fault_is (terms_of c.args.self.now) c.args.state.now c.args.step.now
    (length c.args.out.now) c.in-Err.place c.new-next.result c.in_ok-check_step.ensures c.in_ok-check_state.ensures
    c.new-next.ensures c.in-Err.ensures.answer in (
      _,
      next_rules c.args.self.now c.args.state.now c.args.step.now (length c.args.out.now),
      ap count told,
      ap (λ r. buffer_after r c.args.out.now) told,
    )

pub returns-in_err-check_step-clause-rules : goal.returns-in_err-check_step-clause-rules
returns-in_err-check_step-clause-rules c =
    at_step_fault c.args.self.now
    (λ r. Written
    (NextRules (terms_of c.args.self.now) c.args.state.now c.args.step.now
    (length c.args.out.now)) r c.args.out.now c.args.out.now) c.args.step.now
    (λ p h g. (
      _,
      by_no_step h g,
      refl,
      refl,
    )) c.from_residual.result c.in_err-check_step.field-0.0 c.in_err-check_step.ensures c.from_residual.ensures

pub returns-in_err-check_state-clause-rules : goal.returns-in_err-check_state-clause-rules
returns-in_err-check_state-clause-rules c =
    at_state_fault c.args.self.now
    (λ r. Written
    (NextRules (terms_of c.args.self.now) c.args.state.now c.args.step.now
    (length c.args.out.now)) r c.args.out.now c.args.out.now) c.args.state.now
    (λ p h g. (
      _,
      from_no_state (checked_is_step c.args.self.now c.args.step.now c.in_ok-check_step.ensures) h g,
      refl,
      refl,
    )) c.from_residual-in_err-check_state.result c.in_err-check_state.field-0.0 c.in_err-check_state.ensures
    c.from_residual-in_err-check_state.ensures
