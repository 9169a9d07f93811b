use Rattle.std.proofs.Common.{◌-◌, [], ◌∙◌, ap₂, arith}
use Rattle.std.proofs.lemmas.List.{get_or_default}
use Rattle.joins.specs.Exchange.{exchange_answer}
use Rattle.bench.proofs.Replayed.{row_short}
use Rattle.bench.proofs.sheet.Sheet.neighbours.Goals as goal

pub exchange-requires : goal.exchange-requires
exchange-requires g c =
    let laws = g.met.S.StepSystem.lawful c.args.system.now in
    let sheet = c.args.self.now in
    record {
      first = row_short laws sheet.start sheet.rows sheet.head.len c.requires.replays (c.args.n - 1) (omega (arith, c.requires.below)) (omega arith) c.index-self-n.result;
      second = row_short laws sheet.start sheet.rows sheet.head.len c.requires.replays c.args.n c.requires.below (omega arith) c.index-self-n-2.result;
    }

pub returns : goal.returns
returns g c =
    let rows = c.args.self.now.rows in
    let n = c.args.n in
    c.exchange.ensures
    ∙ ap₂ (exchange_answer (g.S.StepSystem.independence c.args.system.now)) (get_or_default rows (n - 1) c.index-self-n.result [] (omega arith)) (get_or_default rows n c.index-self-n-2.result [] (omega arith))
