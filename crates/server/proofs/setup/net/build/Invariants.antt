use Rattle.std.proofs.Common.{◌≡◌, ◌-◌, ◌*◌, drop}
use Rattle.std.specs.Iterator.Adapters.{zip_first, zip_second}
use Rattle.nets.specs.Contents.{events_of}
use Rattle.server.specs.Setup.{built, net_answer}
use Rattle.server.proofs.setup.net.build.Given as goal

abbrev pub invariant-loop-i : goal.invariant-loop-i
invariant-loop-i l =
    let i = (zip_first l.i-iterator).start in
    let bytes = l.events.bytes.now in
    record {
      can : (goal.iterator-loop-i).can_next l.i-iterator;
      finite : (goal.iterator-loop-i).is_finite l.i-iterator;
      end : (zip_first l.i-iterator).end ≡ 48;
      left : (zip_second l.i-iterator).rest.now ≡ drop (17 * i) bytes;
      so_far : built l.events.place bytes (events_of l.net) i (48 - i) ≡ net_answer l.events.place bytes;
    }
