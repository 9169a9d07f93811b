use Rattle.ccs.proofs.System.{terms_laws}
use Rattle.ccs.proofs.terms_are_lawful.Goals as goal

pub returns : goal.returns
returns c = record { laws = terms_laws }
