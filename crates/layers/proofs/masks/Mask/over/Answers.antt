use Rattle.actions.specs.Contents.{names_of}
use Rattle.layers.proofs.MaskAnswers.{mask_answers}
use Rattle.layers.proofs.masks.Mask.over.Goals as goal

pub returns-clause-answers : goal.returns-clause-answers
returns-clause-answers g c =
    mask_answers (names_of c.args.names) c.args.names.sound (g.S.StepSystem.transitions c.args.system)
    (g.S.StepSystem.independence c.args.system)
