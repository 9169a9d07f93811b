use Rattle.std.proofs.Common.{sym, ◌∙◌, arith}
use Rattle.actions.proofs.Paired.{renames_names, co_name_fits}
use Rattle.actions.proofs.pairs.Pairs.replacement.Goals as goal

pub overflow_add-result : goal.overflow_add-result
overflow_add-result c =
    let low = co_name_fits c.args.self.now.items c.name_of.result c.in-Some.to c.args.self.now.sound
    (sym c.to.ensures ∙ c.in-Some.is) in
    omega (arith, low)

pub returns-in_default-clause-names : goal.returns-in_default-clause-names
returns-in_default-clause-names c = renames_names c.args.self.now.items c.args.self.now.sound

pub returns-then-action-le63-clause-names : goal.returns-then-action-le63-clause-names
returns-then-action-le63-clause-names c = renames_names c.args.self.now.items c.args.self.now.sound

pub returns-else-action-le63-clause-names : goal.returns-else-action-le63-clause-names
returns-else-action-le63-clause-names c = renames_names c.args.self.now.items c.args.self.now.sound
