use Rattle.systems.proofs.Worked.{worked}
use Rattle.systems.proofs.worked_questions.Goals as goal

pub returns : goal.returns
returns c = record { answers = worked }
