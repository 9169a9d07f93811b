use Rattle.std.proofs.Common.{sym, ◌+◌, ◌∙◌, ap, drop, is_err, arith, length-drop}
use Rattle.actions.specs.Contents.{names_of}
use Rattle.frame.specs.Rules.{more_names}
use Rattle.frame.proofs.Taken.{names_end, names_more, names_bad, names_few}
use Rattle.frame.proofs.rules.read_names.Goals as goal

pub returns-then-is_err : goal.returns-then-is_err
returns-then-is_err c =
    let bad = names_bad (names_of c.loop-name.names) c.loop-name.place c.args.bytes.now c.loop-name.name-index
    (omega arith) (ap is_err (sym c.add.ensures.answer) ∙ sym c.is_err.ensures.value ∙ c.if-is_err.true) in
    sym (names_few c.args.place c.args.bytes.now (omega arith) ∙ sym c.loop-name.invariant.0 ∙ bad)

pub loop-name-preserved : goal.loop-name-preserved
loop-name-preserved c =
    let more = names_more (names_of c.loop-name.names) c.loop-name.place c.args.bytes.now c.loop-name.name-index
    (omega arith) (ap is_err (sym c.add.ensures.answer) ∙ sym c.is_err.ensures.value ∙ c.if-is_err.false) in (
      ap (λ ns. more_names ns (c.loop-name.place + 1)
          (drop (c.loop-name.name-index + 1) c.args.bytes.now)) c.add.ensures.names ∙ sym more
          ∙ c.loop-name.invariant.0,
      omega (arith, c.loop-name.invariant.1),
    )

pub returns : goal.returns
returns c = sym
    (names_few c.args.place c.args.bytes.now (omega arith) ∙ sym c.loop-name.invariant.0
    ∙ names_end _ c.loop-name.place _ (omega (arith, length-drop c.loop-name.name-index c.args.bytes.now)))
