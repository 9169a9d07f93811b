use Rattle.std.proofs.Common.{subst, sym}
use Rattle.ccs.specs.Reading.{read_term}
use Rattle.nodes.specs.Nodes.{TermNode}
use Rattle.nodes.proofs.Nodes.{term_first, no_term_shape, term_parts_read}
use Rattle.nodes.proofs.term.Term.of.Goals as goal

pub unreachable-requires : goal.unreachable-requires
unreachable-requires c = no_term_shape c.args.definitions c.requires
    (subst (λ o. TermNode c.args.definitions o (read_term c.args.definitions c.args.bytes.now))
    (sym c.in_default.ensures) (term_first c.args.definitions c.args.bytes.now c.requires))

pub returns-clause-node : goal.returns-clause-node
returns-clause-node c = subst (λ o. TermNode c.args.definitions o (read_term c.args.definitions c.args.bytes.now))
    (sym c.in-Some.ensures) (term_first c.args.definitions c.args.bytes.now c.requires)

pub returns-clause-parts : goal.returns-clause-parts
returns-clause-parts c = term_parts_read c.args.definitions
    (subst (λ o. TermNode c.args.definitions o (read_term c.args.definitions c.args.bytes.now)) (sym c.in-Some.ensures)
    (term_first c.args.definitions c.args.bytes.now c.requires))
