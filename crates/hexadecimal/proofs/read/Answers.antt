use Rattle.hexadecimal.proofs.Text.{reads_what_is_spelled, cases_read_alike}
use Rattle.hexadecimal.proofs.read.Goals as goal

pub returns-then-line-n-clause-exactly : goal.returns-then-line-n-clause-exactly
returns-then-line-n-clause-exactly c = reads_what_is_spelled

pub returns-then-line-n-clause-cases : goal.returns-then-line-n-clause-cases
returns-then-line-n-clause-cases c = cases_read_alike

pub returns-else-line-n-clause-exactly : goal.returns-else-line-n-clause-exactly
returns-else-line-n-clause-exactly c = reads_what_is_spelled

pub returns-else-line-n-clause-cases : goal.returns-else-line-n-clause-cases
returns-else-line-n-clause-cases c = cases_read_alike
