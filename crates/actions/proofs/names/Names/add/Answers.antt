use Rattle.std.proofs.Common.{sym, ap, ◌∙◌, ◌<◌, arith, length}
use Rattle.byte_strings.proofs.Lists.{pushed}
use Rattle.actions.specs.Names.{all_names}
use Rattle.actions.proofs.Listed.{all_names_push}
use Rattle.actions.proofs.names.Names.add.Goals as goal

pub invariant_of-self : goal.invariant_of-self
invariant_of-self c =
    let space : length c.args.self.now.items < 8 = omega
    (arith, ap length c.items.ensures.value, c.if-items-ge-NAME_LIMIT.false) in
    record {
      sound = ap all_names (c.push.ensures ∙ pushed 8 c.args.self.now.items c.args.name space)
          ∙ all_names_push c.args.self.now.items c.args.name c.args.self.now.sound
          (sym c.is_name.ensures ∙ c.if-not-is_name.false);
    }
