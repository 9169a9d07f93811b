use Rattle.actions.proofs.Listed.{hides_listed}
use Rattle.actions.proofs.names.Names.hides.Goals as goal

pub returns-clause-listed : goal.returns-clause-listed
returns-clause-listed c = hides_listed c.args.self.now.items c.args.action c.args.self.now.sound
