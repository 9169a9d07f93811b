use Rattle.std.proofs.Common.{rules, true, false, is_err, ◌≡◌, ◌+◌, ◌-◌, ◌*◌, ◌<◌, Err, ap, ◌∙◌, arith, drop, inl, inr}
use Rattle.std.proofs.lemmas.List.{drop-drop}
use Rattle.std.specs.Iterator.Adapters.{zip_first, zip_second}
use Rattle.frame.specs.declared.fault.FrameFault.TheVariants.{BadSetup}
use Rattle.nets.specs.Contents.{events_of}
use Rattle.server.specs.Setup.{built}
use Rattle.server.specs.Setup.{net_view}
use Rattle.server.proofs.Building.{built_none, built_all, built_bad, built_more}
use Rattle.server.proofs.setup.net.build.Goals as goal

pub returns-in_err-map_err : goal.returns-in_err-map_err
returns-in_err-map_err c =
    let inv = c.loop-i.invariant in
    let step = c.in-Some.ensures.steps in
    let i = (zip_first c.loop-i.i-iterator).start in
    let lt : i < 48 = omega (arith, step.0.1.0, inv.end) in
    let failed : is_err c.add.result ≡ true = search rules in
    let told : net_view c.from_residual.result ≡ Err (BadSetup c.place_of-place.result) = search rules in
    told ∙ ap (λ n. Err (BadSetup n)) (c.place_of-place.ensures ∙ ap (λ k. c.args.events.now.place + 17 * k) step.0.1.1)
    ∙ built_bad c.args.events.now.place c.args.events.now.bytes.now (zip_second c.loop-i.i-iterator).rest.now (events_of c.loop-i.net) i _ inv.so_far inv.left c.in-Some.event lt step.1.0 c.add.result c.add.ensures.answer failed

pub loop-i-preserved : goal.loop-i-preserved
loop-i-preserved c =
    let inv = c.loop-i.invariant in
    let step = c.in-Some.ensures.steps in
    let bytes = c.args.events.now.bytes.now in
    let i = (zip_first c.loop-i.i-iterator).start in
    let lt : i < 48 = omega (arith, step.0.1.0, inv.end) in
    let next : (zip_first c.next.new.self).start ≡ i + 1 = step.0.1.2 in
    let on : 17 * i + 17 ≡ 17 * (zip_first c.next.new.self).start = omega arith in
    let taken : is_err c.add.result ≡ false = search rules in
    let more = built_more c.args.events.now.place bytes (zip_second c.loop-i.i-iterator).rest.now (events_of c.loop-i.net) i _ inv.so_far inv.left c.in-Some.event lt step.1.0 c.add.result (events_of c.add.new.self) c.add.ensures.answer taken c.add.ensures.events in
    record {
      can = inv.can;
      finite = inv.finite;
      end = step.0.0 ∙ inv.end;
      left = step.1.1 ∙ ap (drop 17) inv.left ∙ drop-drop 17 (17 * i) bytes ∙ ap (λ k. drop k bytes) on;
      so_far = ap (λ k. built c.args.events.now.place bytes (events_of c.add.new.self) k (48 - k)) next ∙ more;
    }

pub returns : goal.returns
returns c =
    let inv = c.loop-i.invariant in
    let bytes = c.args.events.now.bytes.now in
    let rest = (zip_second c.loop-i.i-iterator).rest.now in
    let i = (zip_first c.loop-i.i-iterator).start in
    elim c.in-None.ensures.steps [
      | inl (u, all) ↦ built_all c.args.events.now.place bytes rest (events_of c.loop-i.net) i _ inv.so_far inv.left (omega (arith, all.1.0, inv.end))
      | inr (u, none) ↦ built_none c.args.events.now.place bytes rest (events_of c.loop-i.net) i _ inv.so_far inv.left none.0
    ]
