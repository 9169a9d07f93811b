use Rattle.std.proofs.Common.{◌≡◌, Some, None, sym, ap, ◌∙◌, ap₂, rules}
use Rattle.std.proofs.lemmas.Slice.Eq.{slice_eq-Decides}
use Rattle.std.proofs.lemmas.Bool.Decides.{Decides-eqb}
use Rattle.runs.specs.Join.{both_left}
use Rattle.runs.proofs.Carry.{meet_same}
use Rattle.joins.proofs.Asking.{meets_apart}
use Rattle.joins.proofs.Carrying.{hits_told}
use Rattle.joins.proofs.meet.meet.Goals as goal

pub returns-then-eq : goal.returns-then-eq
returns-then-eq g c =
    let equal = (slice_eq-Decides Decides-eqb c.items.result.now c.items-2.result.now c.eq.result c.eq.ensures).0 c.if-eq.true in
    sym (meet_same (g.S.StepSystem.independence c.args.system.now) c.args.y.now c.args.x.now (sym c.items.ensures.value ∙ equal ∙ c.items-2.ensures.value))

pub returns-in_err-y_rest : goal.returns-in_err-y_rest
returns-in_err-y_rest g c =
    let i = g.S.StepSystem.independence c.args.system.now in
    let none : None ≡ i.left c.args.y.now c.args.x.now = search rules in
    sym (hits_told c.from_residual.result c.from_residual.ensures.0) ∙ ap (λ o. both_left o (i.left c.args.x.now c.args.y.now)) none
    ∙ meets_apart i c.args.y.now c.args.x.now c.items.result.now c.items-2.result.now c.eq.result c.items.ensures.value c.items-2.ensures.value (slice_eq-Decides Decides-eqb c.items.result.now c.items-2.result.now c.eq.result c.eq.ensures) c.if-eq.false

pub returns : goal.returns
returns g c =
    let i = g.S.StepSystem.independence c.args.system.now in
    let one : Some c.in_ok-y_rest.y_rest ≡ i.left c.args.y.now c.args.x.now = search rules in
    let two : Some c.in_ok-x_rest.x_rest ≡ i.left c.args.x.now c.args.y.now = search rules in
    ap₂ both_left one two
    ∙ meets_apart i c.args.y.now c.args.x.now c.items.result.now c.items-2.result.now c.eq.result c.items.ensures.value c.items-2.ensures.value (slice_eq-Decides Decides-eqb c.items.result.now c.items-2.result.now c.eq.result c.eq.ensures) c.if-eq.false
