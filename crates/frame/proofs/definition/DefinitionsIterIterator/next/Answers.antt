use Rattle.std.proofs.Common.{◌≡◌, length, sym, subst, ◌∙◌, ap, rules, arith}
use Rattle.frame.specs.Parts.{bodies}
use Rattle.frame.specs.Definitions.{NextDefinition}
use Rattle.frame.proofs.Bodies.{part_length, bodies_end, bodies_missing, bodies_more}
use Rattle.frame.proofs.definition.DefinitionsIterIterator.next.Goals as goal

pub returns-in_err-count-clause-steps : goal.returns-in_err-count-clause-steps
returns-in_err-count-clause-steps c =
    let s = c.args.self.now in
    let zero : s.count ≡ 0 = omega (arith, c.in_err-count.ensures) in
    let none = ap (λ n. bodies n s.rest.now) zero ∙ bodies_end s.rest.now in
    subst (λ r. NextDefinition (bodies s.count s.rest.now) s.place r (bodies s.count s.rest.now) s.place)
    (sym c.from_residual.ensures) (none, none)

pub returns-in_err-body-clause-steps : goal.returns-in_err-body-clause-steps
returns-in_err-body-clause-steps c =
    let s = c.args.self.now in
    let none = bodies_missing s.count s.rest.now (sym c.in_err-body.ensures.part) in
    subst (λ r. NextDefinition (bodies s.count s.rest.now) s.place r (bodies s.count s.rest.now) s.place)
    (sym c.from_residual-in_err-body.ensures) (none, none)

pub returns-clause-steps : goal.returns-clause-steps
returns-clause-steps c =
    let s = c.args.self.now in
    record {
      first = bodies_more _ _ s.rest.now _ _ (omega arith) (sym c.in_ok-body.ensures.part);
      stands = search rules;
      next = search rules;
      short = omega (arith, c.in_ok-body.ensures.short);
      within = omega (arith, part_length 1 s.rest.now _ _ (sym c.in_ok-body.ensures.part));
    }

pub returns-clause-goes : goal.returns-clause-goes
returns-clause-goes c =
    let s = c.args.self.now in
    let first = bodies_more s.count c.in_ok-count.count s.rest.now _ _ (omega arith) (sym c.in_ok-body.ensures.part) in
    record { on = λ _. (tt, tt, omega (arith, ap length first)); keeps = tt; rests = λ _. tt }
