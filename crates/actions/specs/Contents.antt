-- What a list of names and a list of pairs hold.
use Rattle.std.specs.Prelude.{ℕ, List}
use Rattle.actions.specs.declared.names.Names.{Names}
use Rattle.actions.specs.declared.pairs.Pair.{Pair}
use Rattle.actions.specs.declared.pairs.Pairs.{Pairs}

abbrev pub names_of : Names → List ℕ
names_of ns = ns.items

abbrev pub pairs_of : Pairs → List Pair
pairs_of ps = ps.items
