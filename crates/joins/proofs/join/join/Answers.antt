use Rattle.std.proofs.Common.{◌≡◌, ◌+◌, Ok, Err, length, ap, sym, ◌∙◌, rules, arith}
use Rattle.runs.specs.Join.{carry}
use Rattle.runs.specs.Join.Carried.{clash}
use Rattle.joins.specs.Carry.{carry_answer}
use Rattle.joins.proofs.Carrying.{read_at, short_read, clash_told}
use Rattle.joins.proofs.Joining.{step_clashes, step_gone, step_kept, all_joined}
use Rattle.joins.proofs.join.join.Goals as goal
use Rattle.joins.proofs.join.join.Goals.{in-Some, in_default}

pub carry-requires-clause-first : goal.carry-requires-clause-first
carry-requires-clause-first g c =
    short_read (g.S.StepSystem.transitions c.args.system.now) c.args.e.now c.loop-k.k c.step-item.result (rw c.items-step-items.ensures.value at c.loop-k-test.true) (rw c.items-step-items.ensures.value at c.step-item.is) c.requires.second

pub returns-in_err-survivor-clause-value : goal.returns-in_err-survivor-clause-value
returns-in_err-survivor-clause-value g c =
    let laws = g.met.S.StepSystem.lawful c.args.system.now in
    let e = c.args.e.now in
    let k = c.loop-k.k in
    let y = c.step-item.result in
    let few = rw c.items-step-items.ensures.value at c.items-step-items.ensures.few in
    let lt = rw c.items-step-items.ensures.value at c.loop-k-test.true in
    let is = rw c.items-step-items.ensures.value at c.step-item.is in
    let short = short_read (g.S.StepSystem.transitions c.args.system.now) e k y lt is c.requires.second in
    let clashed : clash ≡ carry (g.S.StepSystem.independence c.args.system.now) y c.loop-k.remains = search (rules, clash_told) in
    let told : c.from_residual.result ≡ Err (k + 1) = search rules in
    told ∙ step_clashes laws c.args.s.now e c.loop-k.added c.loop-k.remains k c.loop-k.invariant few lt y (read_at e k y lt is) short clashed

pub loop-k-preserved : goal.loop-k-preserved
loop-k-preserved g c =
    let laws = g.met.S.StepSystem.lawful c.args.system.now in
    let e = c.args.e.now in
    let k = c.loop-k.k in
    let y = c.step-item.result in
    let few = rw c.items-step-items.ensures.value at c.items-step-items.ensures.few in
    let lt = rw c.items-step-items.ensures.value at c.loop-k-test.true in
    let is = rw c.items-step-items.ensures.value at c.step-item.is in
    let short = short_read (g.S.StepSystem.transitions c.args.system.now) e k y lt is c.requires.second in
    let told : carry_answer (Ok (c.in_ok-survivor.survivor, c.in_ok-survivor.rest)) ≡ carry (g.S.StepSystem.independence c.args.system.now) y c.loop-k.remains = search rules in
    elim c.match-survivor.branch [
      | in-Some w ↦ step_kept laws c.args.s.now e c.loop-k.added c.loop-k.remains k c.loop-k.invariant few lt y (read_at e k y lt is) short c.match-survivor.added c.in_ok-survivor.rest c.match-survivor.remains w.in-Some.survivor (rw w.in-Some.is at told) (w.added-is ∙ w.push.ensures) w.remains-is
      | in_default w ↦ step_gone laws c.args.s.now e c.loop-k.added c.loop-k.remains k c.loop-k.invariant few lt y (read_at e k y lt is) short c.match-survivor.added c.in_ok-survivor.rest c.match-survivor.remains (rw w.in_default.is at told) w.added-is w.remains-is
    ]

pub returns-clause-value : goal.returns-clause-value
returns-clause-value g c = all_joined (g.met.S.StepSystem.lawful c.args.system.now) c.args.s.now c.args.e.now c.loop-k.added c.loop-k.remains c.loop-k.k c.loop-k.invariant (rw c.items-step-items.ensures.value at c.loop-k-test.false)
