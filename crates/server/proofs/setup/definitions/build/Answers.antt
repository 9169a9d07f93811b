use Rattle.std.proofs.Common.{◌≡◌, ◌+◌, ◌<◌, [], ◌∷◌, ◌++◌, List, length, Ok, Err, Result, length-append, ap, ap₂, ◌∙◌, arith}
use Rattle.ccs.specs.Syntax.{Term}
use Rattle.frame.specs.declared.fault.FrameFault.{FrameFault}
use Rattle.frame.specs.declared.fault.FrameFault.TheVariants.{BadSetup}
use Rattle.frame.specs.Parts.{bodies}
use Rattle.frame.specs.Systems.{bodies_of}
use Rattle.terms.specs.Bodies.{terms_in, add_answer, bodies_after, place_of}
use Rattle.server.specs.TermsSetup.{behind, given}
use Rattle.server.proofs.Given.{behind_none, behind_more, given_all, given_on, given_bad, taken_fault, taken_after, refused_fault}
use Rattle.server.proofs.setup.definitions.build.Goals as goal

pub loop-definition-init : goal.loop-definition-init
loop-definition-init c =
    let start = c.args.definitions.now.place in
    let i = c.into_iter-definition-iterator.result in
    let same = c.into_iter-definition-iterator.ensures.into_iter_gives in
    let none = c.new-terms.ensures.bodies in
    let count : i.count ≡ c.args.definitions.now.count = ap (λ j. j.count) same ∙ c.iter-definition-items.ensures.count in
    let rest : i.rest.now ≡ c.args.definitions.now.bytes.now = ap (λ j. j.rest.now) same ∙ c.iter-definition-items.ensures.rest in
    let all : bodies i.count i.rest.now ≡ bodies_of c.args.definitions.now = ap₂ bodies count rest in
    record {
      can = tt;
      finite = tt;
      count = omega (arith, c.new-terms.ensures.count, c.args.definitions.now.whole, c.requires);
      place = omega (arith, behind_none start, ap (behind start) none, ap (λ j. j.place) same, c.iter-definition-items.ensures.place);
      left = omega (arith, ap length none, ap length all);
      so_far = ap₂ (given start (length (bodies_of c.args.definitions.now))) none all;
    }

pub returns-in-Err : goal.returns-in-Err
returns-in-Err c =
    let start = c.args.definitions.now.place in
    let inv = c.loop-definition.invariant in
    let step = c.in-Some.ensures.steps in
    let n = length (bodies_of c.args.definitions.now) in
    let ss = c.loop-definition.terms.bodies in
    let room : length ss < n = omega (arith, inv.left, ap length step.first) in
    let told : Err c.in-Err.fault ≡ add_answer n ss c.in-Some.definition.body.now = c.in-Err.ensures.answer ∙ ap (λ k. add_answer k ss c.in-Some.definition.body.now) inv.count in
    let bad = given_bad start n ss (bodies c.loop-definition.definition-iterator.count c.loop-definition.definition-iterator.rest.now) _ inv.so_far c.in-Some.definition.body.now (bodies c.next.new.self.count c.next.new.self.rest.now) step.first (place_of c.in-Err.fault) (refused_fault n ss c.in-Some.definition.body.now room c.in-Err.fault told) in
    let at : c.in-Some.definition.place + c.place.result ≡ behind start ss + place_of c.in-Err.fault = omega (arith, step.stands, inv.place, c.place.ensures) in
    ap (λ k. Err (BadSetup k)) at ∙ ap (λ r. elim r as (λ _. Result (List Term) FrameFault) [ Ok ss ↦ Ok (terms_in n ss) | Err f ↦ Err f ]) bad

pub loop-definition-preserved : goal.loop-definition-preserved
loop-definition-preserved c =
    let start = c.args.definitions.now.place in
    let inv = c.loop-definition.invariant in
    let step = c.in-Some.ensures.steps in
    let n = length (bodies_of c.args.definitions.now) in
    let ss = c.loop-definition.terms.bodies in
    let s = c.in-Some.definition.body.now in
    let room : length ss < n = omega (arith, inv.left, ap length step.first) in
    let told : Ok tt ≡ add_answer n ss s = c.in_default.ensures.answer ∙ ap (λ k. add_answer k ss s) inv.count in
    let after : c.add.new.self.bodies ≡ ss ++ s ∷ [] = c.add.ensures.bodies ∙ ap (λ k. bodies_after k ss s) inv.count ∙ taken_after n ss s room told in
    record {
      can = tt;
      finite = tt;
      count = c.add.ensures.count ∙ inv.count;
      place = omega (arith, ap (behind start) after, behind_more start ss s, step.next, step.stands, inv.place);
      left = omega (arith, ap length after, length-append ss (s ∷ []), inv.left, ap length step.first);
      so_far = ap (λ ss. given start n ss (bodies c.next.new.self.count c.next.new.self.rest.now)) after
          ∙ given_on start n ss (bodies c.loop-definition.definition-iterator.count c.loop-definition.definition-iterator.rest.now) _ inv.so_far s (bodies c.next.new.self.count c.next.new.self.rest.now) step.first (taken_fault n ss s room told);
    }

pub returns : goal.returns
returns c =
    let start = c.args.definitions.now.place in
    let inv = c.loop-definition.invariant in
    let n = length (bodies_of c.args.definitions.now) in
    let done = given_all start n c.loop-definition.terms.bodies (bodies c.loop-definition.definition-iterator.count c.loop-definition.definition-iterator.rest.now) _ inv.so_far c.in-None.ensures.steps.0 in
    ap (λ k. Ok (terms_in k c.loop-definition.terms.bodies)) inv.count ∙ ap (λ r. elim r as (λ _. Result (List Term) FrameFault) [ Ok ss ↦ Ok (terms_in n ss) | Err f ↦ Err f ]) done
