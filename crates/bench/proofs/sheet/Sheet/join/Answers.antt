use Rattle.std.proofs.Common.{rules, Some, None, ◌≡◌, ◌+◌, ◌-◌, [], ◌∷◌, length, Ok, Err, sym, refl, ap, ◌∙◌, ap₂, arith}
use Rattle.std.proofs.lemmas.Result.{err_from_is_err_and}
use Rattle.std.proofs.lemmas.Bool.{false≢true}
use Rattle.bench.specs.declared.fault.BenchFault.TheVariants.{WrongStanding, NoSheet}
use Rattle.bench.specs.Page.{page_of}
use Rattle.bench.specs.Calls.{answered, after}
use Rattle.bench.specs.Join.{named_page, pair_answer, joined}
use Rattle.bench.proofs.Calling.{not_open}
use Rattle.bench.proofs.Joining.{alike_ok, joined_none, joined_blank, joined_unlike, joined_refused, joined_done}
use Rattle.bench.proofs.sheet.Sheet.join.Goals as goal

pub returns-in_default : goal.returns-in_default
returns-in_default g c =
    let p = page_of c.args.self.now in
    let e : joined (g.S.StepSystem.transitions c.args.system.now) (g.S.StepSystem.independence c.args.system.now) (named_page c.args.other) p ≡ Err (WrongStanding 1) = not_open p _ c.in_default.not-Open in
    record { answer = sym (ap answered e); page = sym (ap (λ o. after o p) e); untouched = λ _. refl }

pub returns-in_err-other : goal.returns-in_err-other
returns-in_err-other g c =
    let p = page_of c.args.self.now in
    let q = err_from_is_err_and c.from_residual.result c.from_residual.ensures.1 in
    let none : c.args.other ≡ None = search rules in
    let told : c.in_err-other.field-0.0 ≡ NoSheet 2 = search rules in
    let e = ap (λ o. joined (g.S.StepSystem.transitions c.args.system.now) (g.S.StepSystem.independence c.args.system.now) (named_page o) p) none ∙ joined_none (g.S.StepSystem.transitions c.args.system.now) (g.S.StepSystem.independence c.args.system.now) p c.in-Open.is in
    record { answer = ap pair_answer (q.1 ∙ ap Err (q.2 ∙ told)) ∙ sym (ap answered e); page = sym (ap (λ o. after o p) e); untouched = λ _. refl }

pub returns-in-Blank : goal.returns-in-Blank
returns-in-Blank g c =
    let p = page_of c.args.self.now in
    let e' = page_of c.in_ok-other.other in
    let given : c.args.other ≡ Some c.in_ok-other.other = search rules in
    let named = ap (λ o. joined (g.S.StepSystem.transitions c.args.system.now) (g.S.StepSystem.independence c.args.system.now) (named_page o) p) given in
    let e = named ∙ joined_blank (g.S.StepSystem.transitions c.args.system.now) (g.S.StepSystem.independence c.args.system.now) p c.in-Open.is e' c.in-Blank.is in
    record { answer = sym (ap answered e); page = sym (ap (λ o. after o p) e); untouched = λ _. refl }

pub returns-in_err-end : goal.returns-in_err-end
returns-in_err-end g c =
    let p = page_of c.args.self.now in
    let q = err_from_is_err_and c.from_residual-in_err-end.result c.from_residual-in_err-end.ensures.1 in
    let e' = page_of c.in_ok-other.other in
    let given : c.args.other ≡ Some c.in_ok-other.other = search rules in
    let named = ap (λ o. joined (g.S.StepSystem.transitions c.args.system.now) (g.S.StepSystem.independence c.args.system.now) (named_page o) p) given in
    let e = named ∙ joined_unlike (g.S.StepSystem.transitions c.args.system.now) (g.S.StepSystem.independence c.args.system.now) p c.in-Open.is e' c.in_default-standing.not-Blank c.in_err-end.field-0.0 c.in_err-end.ensures in
    record { answer = ap pair_answer (q.1 ∙ ap Err q.2) ∙ sym (ap answered e); page = sym (ap (λ o. after o p) e); untouched = λ _. refl }

pub returns-in_err-added : goal.returns-in_err-added
returns-in_err-added g c =
    let p = page_of c.args.self.now in
    let q = err_from_is_err_and c.from_residual-in_err-added.result c.from_residual-in_err-added.ensures.1 in
    let e' = page_of c.in_ok-other.other in
    let given : c.args.other ≡ Some c.in_ok-other.other = search rules in
    let named = ap (λ o. joined (g.S.StepSystem.transitions c.args.system.now) (g.S.StepSystem.independence c.args.system.now) (named_page o) p) given in
    let e = named ∙ joined_refused (g.S.StepSystem.transitions c.args.system.now) (g.S.StepSystem.independence c.args.system.now) p c.in-Open.is e' c.in_default-standing.not-Blank c.in_ok-end.end c.in_ok-end.ensures c.in_err-added.field-0.0 c.in_err-added.ensures.value in
    record { answer = ap pair_answer (q.1 ∙ ap Err q.2) ∙ sym (ap answered e); page = sym (ap (λ o. after o p) e); untouched = λ _. refl }

pub survivors-requires : goal.survivors-requires
survivors-requires g c =
    let both = alike_ok (g.S.StepSystem.transitions c.args.system.now) (page_of c.args.self.now) (page_of c.in_ok-other.other) c.in_ok-end.end (sym c.in_ok-end.ensures) in
    record { first = both.0; second = both.1 }

pub overflow_sub-shared : goal.overflow_sub-shared
overflow_sub-shared g c = omega (arith, ap length c.items-2.ensures.value, c.in_ok-added.ensures.few)

pub returns : goal.returns
returns g c =
    let p = page_of c.args.self.now in
    let e' = page_of c.in_ok-other.other in
    let given : c.args.other ≡ Some c.in_ok-other.other = search rules in
    let named = ap (λ o. joined (g.S.StepSystem.transitions c.args.system.now) (g.S.StepSystem.independence c.args.system.now) (named_page o) p) given in
    let added = c.in_ok-added.added in
    let e = named ∙ joined_done (g.S.StepSystem.transitions c.args.system.now) (g.S.StepSystem.independence c.args.system.now) p c.in-Open.is e' c.in_default-standing.not-Blank c.in_ok-end.end c.in_ok-end.ensures added c.in_ok-added.ensures.value in
    let size : length c.items.result.now ≡ length added = ap length c.items.ensures.value in
    let size_2 : length c.items-2.result.now ≡ length added = ap length c.items-2.ensures.value in
    record {
      answer = ap₂ (λ n k. Ok ((p.len + n) ∷ (e'.len - k) ∷ [])) size size_2 ∙ sym (ap answered e);
      page = c.append.ensures ∙ sym (ap (λ o. after o p) e);
      untouched = λ h. absurd (false≢true h);
    }
