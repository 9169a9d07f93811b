use Rattle.systems.proofs.Possible.{possible_with, every_system}
use Rattle.systems.proofs.layered.Goals as goal

pub returns-clause-possible : goal.returns-clause-possible
returns-clause-possible c =
    possible_with c.over-2.result c.over.result c.args.system c.args.pairs c.args.names
    c.over-2.ensures.system c.over-2.ensures.names c.over.ensures.system c.over.ensures.pairs

pub returns-clause-every : goal.returns-clause-every
returns-clause-every c = every_system
