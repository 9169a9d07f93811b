use Rattle.std.proofs.Common.{Option, sym, ap, ◌∙◌, ◌<◌, arith, length}
use Rattle.byte_strings.proofs.Lists.{pushed}
use Rattle.actions.specs.declared.pairs.PairFault.{PairFault}
use Rattle.actions.specs.Pairs.{sound_pairs, beside_fault, pairs_after}
use Rattle.actions.proofs.Paired.{faultless, besides, room, sound_push}
use Rattle.actions.proofs.pairs.Pairs.add.Goals as goal

pub invariant_of-self : goal.invariant_of-self
invariant_of-self c =
    let ps = c.args.self.now.items in
    let space : length ps < 8 = omega (arith, ap length c.items.ensures.value, c.if-items-ge-PAIR_LIMIT.false) in
    let taken = besides ps c.args.pair (faultless (beside_fault ps c.args.pair) c.in_ok-check.ensures) in
    record {
      sound = ap sound_pairs (c.push.ensures ∙ pushed 8 ps c.args.pair space)
          ∙ sound_push ps c.args.pair c.args.self.now.sound taken.0 taken.1 taken.2;
    }

pub returns-clause-pairs : goal.returns-clause-pairs
returns-clause-pairs c =
    let ps = c.args.self.now.items in
    let space : length ps < 8 = omega (arith, ap length c.items.ensures.value, c.if-items-ge-PAIR_LIMIT.false) in
    let none = room ps c.args.pair space ∙ faultless (beside_fault ps c.args.pair) c.in_ok-check.ensures in
    c.push.ensures ∙ pushed 8 ps c.args.pair space
    ∙ sym (ap (λ (o : Option PairFault). pairs_after o ps c.args.pair) none)
