use Rattle.std.proofs.Common.{◌≡◌, List, Err, sym, refl, ap, ◌∙◌}
use Rattle.std.proofs.lemmas.Result.{err_from_is_err_and}
use Rattle.std.proofs.lemmas.Bool.{false≢true}
use Rattle.bench.specs.declared.fault.BenchFault.TheVariants.{WrongStanding}
use Rattle.steps.specs.Meaning.{Str}
use Rattle.bench.specs.declared.sheet.Standing.TheVariants.{Open}
use Rattle.bench.specs.Page.{Page, page_of}
use Rattle.byte_strings.proofs.Fitted.{fitted_is}
use Rattle.bench.specs.Calls.{opened, accepted, after}
use Rattle.bench.proofs.Calling.{was_released, opened_refused, opened_at, state_held}
use Rattle.bench.proofs.sheet.Sheet.start_at.Goals as goal

start_page : Str → List Str → Page
start_page w rows = record { standing = Open; len = 0; start = w; rows = rows }

pub returns-in-Released : goal.returns-in-Released
returns-in-Released g c =
    let p = page_of c.args.self.now in
    let e : opened (g.S.StepSystem.transitions c.args.system.now) c.args.state.now p ≡ Err (WrongStanding 1) = was_released p _ c.in-Released.is in
    record { answer = sym (ap accepted e); page = sym (ap (λ o. after o p) e); untouched = λ _. refl }

pub returns-in_err-state : goal.returns-in_err-state
returns-in_err-state g c =
    let p = page_of c.args.self.now in
    let q = err_from_is_err_and c.from_residual.result c.from_residual.ensures.1 in
    let e = opened_refused (g.S.StepSystem.transitions c.args.system.now) p c.args.state.now c.in_default.not-Released c.in_err-state.field-0.0 c.in_err-state.ensures in
    record { answer = q.1 ∙ ap Err q.2 ∙ sym (ap accepted e); page = sym (ap (λ o. after o p) e); untouched = λ _. refl }

pub unreachable-requires : goal.unreachable-requires
unreachable-requires g c = state_held (g.met.S.StepSystem.lawful c.args.system.now) c.args.state.now c.in_ok-state.ensures c.in_default-of.ensures

pub returns : goal.returns
unfolding start_page
returns g c =
    let p = page_of c.args.self.now in
    let e = opened_at (g.S.StepSystem.transitions c.args.system.now) p c.args.state.now c.in_default.not-Released c.in_ok-state.ensures in
    record { answer = sym (ap accepted e); page = ap (λ w. start_page w p.rows) (fitted_is c.args.state.now c.in-Some.start 256 c.in-Some.ensures) ∙ sym (ap (λ o. after o p) e); untouched = λ h. absurd (false≢true h) }
