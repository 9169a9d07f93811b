use Rattle.std.proofs.Common.{rules, Some, None, ◌≡◌, ℕ, ◌-◌, ◌<◌, List, set, is_ok, Ok, Err, sym, refl, ap, ◌∙◌, arith}
use Rattle.std.proofs.lemmas.Result.{err_from_is_err_and}
use Rattle.std.proofs.lemmas.Bool.{false≢true}
use Rattle.steps.specs.Answers.{next_answer}
use Rattle.joins.specs.Exchange.{Pair, neighbours_answer}
use Rattle.bench.specs.declared.sheet.Standing.TheVariants.{Open}
use Rattle.bench.specs.declared.fault.BenchFault.TheVariants.{NoSuchStep, Dependent}
use Rattle.steps.specs.Meaning.{Str}
use Rattle.bench.specs.declared.sheet.Standing.{Standing}
use Rattle.bench.specs.Page.{Page, page_of}
use Rattle.bench.specs.Calls.{accepted, after}
use Rattle.bench.specs.Swap.{swapped}
use Rattle.bench.proofs.Calling.{stopped, stands}
use Rattle.bench.proofs.Swapping.{swapped_nowhere, swapped_refused, swapped_dependent, swapped_stopped, swapped_too_long, swapped_done}
use Rattle.bench.proofs.sheet.Sheet.swap.Goals as goal

page_with : Standing → ℕ → Str → List Str → Page
page_with st n s rows = record { standing = st; len = n; start = s; rows = rows }

pub returns-in_err-end : goal.returns-in_err-end
returns-in_err-end g c =
    let p = page_of c.args.self.now in
    let q = err_from_is_err_and c.from_residual.result c.from_residual.ensures.1 in
    let e : swapped (g.S.StepSystem.transitions c.args.system.now) (g.S.StepSystem.independence c.args.system.now) c.args.place p ≡ Err c.in_err-end.field-0.0 = stopped (g.S.StepSystem.transitions c.args.system.now) Open p _ _ c.in_err-end.ensures in
    record { answer = q.1 ∙ ap Err q.2 ∙ sym (ap accepted e); page = sym (ap (λ o. after o p) e); untouched = λ _. refl }

pub returns-then-n-eq0 : goal.returns-then-n-eq0
returns-then-n-eq0 g c =
    let p = page_of c.args.self.now in
    let e = ap (λ k. swapped (g.S.StepSystem.transitions c.args.system.now) (g.S.StepSystem.independence c.args.system.now) k p) (sym c.from-n.ensures) ∙ swapped_nowhere (g.S.StepSystem.transitions c.args.system.now) (g.S.StepSystem.independence c.args.system.now) p c.from-n.result c.in_ok-end.field-0 c.in_ok-end.ensures c.then-n-eq0.either in
    record { answer = ap (λ k. Err (NoSuchStep k)) (c.from.ensures ∙ sym c.from-n.ensures) ∙ sym (ap accepted e); page = sym (ap (λ o. after o p) e); untouched = λ _. refl }

pub neighbours-requires : goal.neighbours-requires
neighbours-requires g c = record { above = omega arith; below = omega arith; replays = sym (ap is_ok (stands (g.S.StepSystem.transitions c.args.system.now) Open (page_of c.args.self.now) c.in_ok-end.field-0 c.in_ok-end.ensures).1) }

pub returns-in_err-neighbours : goal.returns-in_err-neighbours
returns-in_err-neighbours g c =
    let p = page_of c.args.self.now in
    let q = err_from_is_err_and c.from_residual-in_err-neighbours.result c.from_residual-in_err-neighbours.ensures.1 in
    let above : 0 < c.from-n.result = omega arith in
    let below : c.from-n.result < p.len = omega arith in
    let e = ap (λ k. swapped (g.S.StepSystem.transitions c.args.system.now) (g.S.StepSystem.independence c.args.system.now) k p) (sym c.from-n.ensures) ∙ swapped_refused (g.S.StepSystem.transitions c.args.system.now) (g.S.StepSystem.independence c.args.system.now) p c.from-n.result c.in_ok-end.field-0 c.in_ok-end.ensures above below c.in_err-neighbours.field-0.0 c.in_err-neighbours.ensures in
    record { answer = q.1 ∙ ap Err q.2 ∙ sym (ap accepted e); page = sym (ap (λ o. after o p) e); untouched = λ _. refl }

pub returns-in_err-neighbours-2 : goal.returns-in_err-neighbours-2
returns-in_err-neighbours-2 g c =
    let p = page_of c.args.self.now in
    let q = err_from_is_err_and c.from_residual-in_err-neighbours-2.result c.from_residual-in_err-neighbours-2.ensures.1 in
    let above : 0 < c.from-n.result = omega arith in
    let below : c.from-n.result < p.len = omega arith in
    let none : c.neighbours.result ≡ Ok None = search rules in
    let told : c.in_err-neighbours-2.field-0.0 ≡ Dependent c.from-n.result = search rules in
    let e = ap (λ k. swapped (g.S.StepSystem.transitions c.args.system.now) (g.S.StepSystem.independence c.args.system.now) k p) (sym c.from-n.ensures) ∙ swapped_dependent (g.S.StepSystem.transitions c.args.system.now) (g.S.StepSystem.independence c.args.system.now) p c.from-n.result c.in_ok-end.field-0 c.in_ok-end.ensures above below (sym (ap neighbours_answer none) ∙ c.neighbours.ensures) in
    record { answer = q.1 ∙ ap Err (q.2 ∙ told) ∙ sym (ap accepted e); page = sym (ap (λ o. after o p) e); untouched = λ _. refl }

pub returns-in_err-before : goal.returns-in_err-before
returns-in_err-before g c =
    let p = page_of c.args.self.now in
    let q = err_from_is_err_and c.from_residual-in_err-before.result c.from_residual-in_err-before.ensures.1 in
    let above : 0 < c.from-n.result = omega arith in
    let below : c.from-n.result < p.len = omega arith in
    let x : Pair = record { first = c.in_ok-neighbours-2.neighbours.first; second = c.in_ok-neighbours-2.neighbours.second } in
    let some : c.neighbours.result ≡ Ok (Some c.in_ok-neighbours-2.neighbours) = search rules in
    let told = sym (ap neighbours_answer some) ∙ c.neighbours.ensures in
    let e = ap (λ k. swapped (g.S.StepSystem.transitions c.args.system.now) (g.S.StepSystem.independence c.args.system.now) k p) (sym c.from-n.ensures) ∙ swapped_stopped (g.S.StepSystem.transitions c.args.system.now) (g.S.StepSystem.independence c.args.system.now) p c.from-n.result c.in_ok-end.field-0 c.in_ok-end.ensures above below x told c.in_err-before.field-0.0 c.in_err-before.ensures in
    record { answer = q.1 ∙ ap Err q.2 ∙ sym (ap accepted e); page = sym (ap (λ o. after o p) e); untouched = λ _. refl }

pub returns-in_err-following : goal.returns-in_err-following
returns-in_err-following g c =
    let p = page_of c.args.self.now in
    let q = err_from_is_err_and c.from_residual-in_err-following.result c.from_residual-in_err-following.ensures.1 in
    let above : 0 < c.from-n.result = omega arith in
    let below : c.from-n.result < p.len = omega arith in
    let x : Pair = record { first = c.in_ok-neighbours-2.neighbours.first; second = c.in_ok-neighbours-2.neighbours.second } in
    let some : c.neighbours.result ≡ Ok (Some c.in_ok-neighbours-2.neighbours) = search rules in
    let told = sym (ap neighbours_answer some) ∙ c.neighbours.ensures in
    let next = ap (λ w. next_answer (g.S.StepSystem.transitions c.args.system.now) c.in_ok-before.before w 256) c.items.ensures.value in
    let e = ap (λ k. swapped (g.S.StepSystem.transitions c.args.system.now) (g.S.StepSystem.independence c.args.system.now) k p) (sym c.from-n.ensures) ∙ swapped_too_long (g.S.StepSystem.transitions c.args.system.now) (g.S.StepSystem.independence c.args.system.now) p c.from-n.result c.in_ok-end.field-0 c.in_ok-end.ensures above below x told c.in_ok-before.before c.in_err-following.field-0.0 c.in_ok-before.ensures (c.in_err-following.ensures ∙ next) in
    record { answer = q.1 ∙ ap Err q.2 ∙ sym (ap accepted e); page = sym (ap (λ o. after o p) e); untouched = λ _. refl }

pub returns : goal.returns
unfolding page_with
returns g c =
    let p = page_of c.args.self.now in
    let above : 0 < c.from-n.result = omega arith in
    let below : c.from-n.result < p.len = omega arith in
    let x : Pair = record { first = c.in_ok-neighbours-2.neighbours.first; second = c.in_ok-neighbours-2.neighbours.second } in
    let some : c.neighbours.result ≡ Ok (Some c.in_ok-neighbours-2.neighbours) = search rules in
    let told = sym (ap neighbours_answer some) ∙ c.neighbours.ensures in
    let next = ap (λ w. next_answer (g.S.StepSystem.transitions c.args.system.now) c.in_ok-before.before w 256) c.items.ensures.value in
    let e = ap (λ k. swapped (g.S.StepSystem.transitions c.args.system.now) (g.S.StepSystem.independence c.args.system.now) k p) (sym c.from-n.ensures) ∙ swapped_done (g.S.StepSystem.transitions c.args.system.now) (g.S.StepSystem.independence c.args.system.now) p c.from-n.result c.in_ok-end.field-0 c.in_ok-end.ensures above below x told c.in_ok-before.before c.in_ok-following.field-0 c.in_ok-before.ensures (c.in_ok-following.ensures ∙ next) in
    record { answer = sym (ap accepted e); page = ap (λ st. page_with st p.len p.start (set (set c.args.self.now.rows (c.from-n.result - 1) c.in_ok-neighbours-2.neighbours.first) c.from-n.result c.in_ok-neighbours-2.neighbours.second)) (stands (g.S.StepSystem.transitions c.args.system.now) Open p c.in_ok-end.field-0 c.in_ok-end.ensures).0 ∙ sym (ap (λ o. after o p) e); untouched = λ h. absurd (false≢true h) }
