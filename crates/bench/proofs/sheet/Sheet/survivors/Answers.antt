use Rattle.std.proofs.Common.{rules, Ok, ◌≡◌, ◌+◌, ◌<◌, ◌≤◌, length, Err, sym, ap, ◌∙◌, subst, arith}
use Rattle.joins.specs.Steps.{ShortSteps}
use Rattle.bench.specs.declared.fault.BenchFault.TheVariants.{TooMany}
use Rattle.bench.specs.Page.{page_of, steps_of}
use Rattle.bench.specs.Join.{led}
use Rattle.bench.specs.Walk.{walked}
use Rattle.std.proofs.lemmas.Result.{err_from_is_err_and}
use Rattle.bench.proofs.Replayed.{ok_is, replayed_short}
use Rattle.bench.proofs.Joining.{both_steps, conflicts, too_many, stops_on_the_way, survives}
use Rattle.bench.proofs.Following.{passes, blocks}
use Rattle.bench.proofs.sheet.Sheet.survivors.Goals as goal

pub join-requires : goal.join-requires
join-requires g c =
    let laws = g.met.S.StepSystem.lawful c.args.system.now in
    let t = g.S.StepSystem.transitions c.args.system.now in
    let p = page_of c.args.self.now in
    let e = page_of c.args.other.now in
    let one = ok_is _ c.requires.first in
    let two = ok_is _ c.requires.second in
    record {
      first = subst (ShortSteps t) (sym c.steps.ensures) (replayed_short laws p.start (steps_of p) one.0 one.1);
      second = subst (ShortSteps t) (sym c.steps-2.ensures) (replayed_short laws e.start (steps_of e) two.0 two.1);
    }

pub returns-in-Err : goal.returns-in-Err
returns-in-Err g c =
    let i = g.S.StepSystem.independence c.args.system.now in
    record {
      value = sym (conflicts (g.S.StepSystem.transitions c.args.system.now) i c.args.end.now (page_of c.args.self.now) (page_of c.args.other.now) c.in-Err.place (c.in-Err.ensures.value ∙ both_steps i _ _ _ _ c.steps.ensures c.steps-2.ensures));
      few = tt;
      room = tt;
    }

pub returns-then-len-gt32 : goal.returns-then-len-gt32
returns-then-len-gt32 g c =
    let i = g.S.StepSystem.independence c.args.system.now in
    let p = page_of c.args.self.now in
    let added = c.in-Ok.added in
    let size : length c.items.result.now ≡ length added = ap length c.items.ensures.value in
    let over : 32 < p.len + length added = omega arith in
    record {
      value = ap (λ n. Err (TooMany (p.len + n))) size ∙ sym (too_many (g.S.StepSystem.transitions c.args.system.now) i c.args.end.now p (page_of c.args.other.now) added (c.in-Ok.ensures.value ∙ both_steps i _ _ _ _ c.steps.ensures c.steps-2.ensures) over);
      few = tt;
      room = tt;
    }

pub returns-in_err-map_err-clause-value : goal.returns-in_err-map_err-clause-value
returns-in_err-map_err-clause-value g c =
    let t = g.S.StepSystem.transitions c.args.system.now in
    let i = g.S.StepSystem.independence c.args.system.now in
    let p = page_of c.args.self.now in
    let added = c.in-Ok.added in
    let size : length c.items.result.now ≡ length added = ap length c.items.ensures.value in
    let fits : p.len + length added ≤ 32 = omega arith in
    let q = err_from_is_err_and c.from_residual.result c.from_residual.ensures.1 in
    let way : Err c.in_err-map_err.field-0.0 ≡ led t c.args.end.now added = search (rules, blocks) in
    q.1 ∙ ap Err q.2 ∙ sym (stops_on_the_way t i c.args.end.now p (page_of c.args.other.now) added (c.in-Ok.ensures.value ∙ both_steps i _ _ _ _ c.steps.ensures c.steps-2.ensures) fits c.in_err-map_err.field-0.0 way)

pub returns-clause-value : goal.returns-clause-value
returns-clause-value g c =
    let t = g.S.StepSystem.transitions c.args.system.now in
    let i = g.S.StepSystem.independence c.args.system.now in
    let p = page_of c.args.self.now in
    let added = c.in-Ok.added in
    let size : length c.items.result.now ≡ length added = ap length c.items.ensures.value in
    let fits : p.len + length added ≤ 32 = omega arith in
    let walk : Ok c.in_ok-map_err.field-0 ≡ walked t c.args.end.now added 1 = search rules in
    sym (survives t i c.args.end.now p (page_of c.args.other.now) added (c.in-Ok.ensures.value ∙ both_steps i _ _ _ _ c.steps.ensures c.steps-2.ensures) fits c.in_ok-map_err.field-0 (passes t c.args.end.now added c.in_ok-map_err.field-0 walk))
