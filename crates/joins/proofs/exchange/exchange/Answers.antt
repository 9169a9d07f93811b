use Rattle.std.proofs.Common.{◌≡◌, rules, replicate, Ok, sym, ap, ◌∙◌}
use Rattle.joins.specs.Exchange.{neighbours_answer, turned, behind}
use Rattle.joins.proofs.Asking.{back_held}
use Rattle.joins.proofs.exchange.exchange.Goals as goal

pub residual-second-requires-clause-second : goal.residual-second-requires-clause-second
residual-second-requires-clause-second g c =
    (back_held (g.met.S.StepSystem.lawful c.args.system.now) c.args.x.now c.args.z.now c.requires.first c.requires.second c.items.result.now c.items-2.result.now c.items.ensures.value c.items-2.ensures.value
    c.in-Some.n c.back.new.out (replicate 64 0) (ap Ok (sym c.in-Some.is) ∙ c.in_ok-n.ensures.answer) c.in_ok-n.ensures.buffer c.in-Some-of.first c.in-Some-of.ensures).1

pub returns : goal.returns
returns g c =
    let i = g.S.StepSystem.independence c.args.system.now in
    let x = c.args.x.now in
    let back = back_held (g.met.S.StepSystem.lawful c.args.system.now) x c.args.z.now c.requires.first c.requires.second c.items.result.now c.items-2.result.now c.items.ensures.value c.items-2.ensures.value
    c.in-Some.n c.back.new.out (replicate 64 0) (ap Ok (sym c.in-Some.is) ∙ c.in_ok-n.ensures.answer) c.in_ok-n.ensures.buffer c.in-Some-of.first c.in-Some-of.ensures in
    let told : neighbours_answer (Ok c.map.result) ≡ Ok (behind c.in-Some-of.first c.residual-second.result) = search rules in
    told ∙ ap (λ o. Ok (behind c.in-Some-of.first o)) c.residual-second.ensures ∙ sym (ap (turned i x) back.0)
