use Rattle.std.proofs.Common.{sym, ◌∙◌}
use Rattle.joins.proofs.Carrying.{sets_out, still_short, short_read, read_at, turn_gone, turn_same, turn_passes, turn_hits, clash_told, ends}
use Rattle.joins.proofs.carry.carry.Goals as goal
use Rattle.joins.proofs.carry.carry.Goals.{in-None, in-Some+in_ok-meet-in-Some+in-None-2, in-Some+in_ok-meet-in-Some+in-Some-2}

pub loop-x-init : goal.loop-x-init
loop-x-init g c = sets_out (g.S.StepSystem.transitions c.args.system.now) (g.S.StepSystem.independence c.args.system.now) c.args.step.now c.args.list.now c.empty-remains.result c.empty-remains.ensures c.requires.first

pub meet-requires : goal.meet-requires
meet-requires g c =
    let laws = g.met.S.StepSystem.lawful c.args.system.now in
    let lt = rw c.items-x-items.ensures.value at c.loop-x-test.true in
    let is = rw c.items-x-items.ensures.value at c.x-item.is in
    record {
      first = still_short laws c.args.step.now c.args.list.now c.loop-x.remains c.loop-x.carried c.loop-x.x-index c.loop-x.invariant c.in-Some.y c.in-Some.is;
      second = short_read (g.S.StepSystem.transitions c.args.system.now) c.args.list.now c.loop-x.x-index c.x-item.result lt is c.requires.others;
    }

pub returns-in_err-meet-in-Some : goal.returns-in_err-meet-in-Some
returns-in_err-meet-in-Some g c =
    let laws = g.met.S.StepSystem.lawful c.args.system.now in
    let lt = rw c.items-x-items.ensures.value at c.loop-x-test.true in
    let at = read_at c.args.list.now c.loop-x.x-index c.x-item.result lt (rw c.items-x-items.ensures.value at c.x-item.is) in
    sym (clash_told c.from_residual.result c.from_residual.ensures.0)
    ∙ turn_hits laws c.args.step.now c.args.list.now c.loop-x.remains c.loop-x.carried c.loop-x.x-index c.loop-x.invariant (rw c.items-x-items.ensures.value at c.items-x-items.ensures.few) lt c.x-item.result at c.in-Some.y c.in-Some.is c.in_err-meet-in-Some.ensures

pub loop-x-preserved : goal.loop-x-preserved
loop-x-preserved g c =
    let laws = g.met.S.StepSystem.lawful c.args.system.now in
    let y = c.args.step.now in
    let xs = c.args.list.now in
    let k = c.loop-x.x-index in
    let x = c.x-item.result in
    let few = rw c.items-x-items.ensures.value at c.items-x-items.ensures.few in
    let lt = rw c.items-x-items.ensures.value at c.loop-x-test.true in
    let at = read_at xs k x lt (rw c.items-x-items.ensures.value at c.x-item.is) in
    elim c.match-carried.branch [
      | in-None w ↦ turn_gone laws y xs c.loop-x.remains c.loop-x.carried k c.loop-x.invariant few lt x at c.match-carried.remains c.match-carried.carried w.in-None.is (w.remains-is ∙ w.push.ensures) (w.carried-is ∙ w.in-None.is)
      | in-Some+in_ok-meet-in-Some+in-None-2 w ↦ turn_same laws y xs c.loop-x.remains c.loop-x.carried k c.loop-x.invariant few lt x at c.match-carried.remains c.match-carried.carried w.in-Some.y w.in-Some.is (rw w.in-None-2.is at w.in_ok-meet-in-Some.ensures) w.remains-is w.carried-is
      | in-Some+in_ok-meet-in-Some+in-Some-2 w ↦ turn_passes laws y xs c.loop-x.remains c.loop-x.carried k c.loop-x.invariant few lt x at c.match-carried.remains c.match-carried.carried w.in-Some.y w.in-Some-2.passed.y w.in-Some-2.passed.x w.in-Some.is (rw w.in-Some-2.is at w.in_ok-meet-in-Some.ensures) (w.remains-is ∙ w.push-in-Some-2.ensures) w.carried-is
    ]

pub returns : goal.returns
returns g c = ends (g.met.S.StepSystem.lawful c.args.system.now) c.args.step.now c.args.list.now c.loop-x.remains c.loop-x.carried c.loop-x.x-index c.loop-x.invariant (rw c.items-x-items.ensures.value at c.loop-x-test.false)
