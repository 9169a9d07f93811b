use Rattle.std.proofs.Common.{rules, Ok, sym, ap, ◌∙◌, arith}
use Rattle.std.specs.Array.{IsWholeChunk}
use Rattle.nets.specs.System.{marking_answer}
use Rattle.nets.specs.Laws.Markings.{spelled, read_eight}
use Rattle.nets.proofs.marking.read.Goals as goal

pub returns : goal.returns
returns c =
    let state : IsWholeChunk c.args.state.now c.in_ok-bytes.bytes.now 8 = search rules in
    ap Ok (c.from_be_bytes.ensures ∙ rw state.same (sym (spelled c.args.state.now state.long)))
    ∙ sym (ap marking_answer (read_eight c.args.state.now state.long (λ i. omega (arith, c.type_inv.state i))))
