use Rattle.actions.specs.Contents.{pairs_of}
use Rattle.layers.proofs.Promises.{renaming_answers}
use Rattle.layers.proofs.renamings.Renaming.over.Goals as goal

pub returns-clause-answers : goal.returns-clause-answers
returns-clause-answers g c =
    renaming_answers (pairs_of c.args.pairs) (g.S.StepSystem.transitions c.args.system)
    (g.S.StepSystem.independence c.args.system)
