use Rattle.std.proofs.Common.{subst, sym}
use Rattle.ccs.specs.Reading.{term_byte}
use Rattle.nodes.specs.Whole.{IsSize}
use Rattle.nodes.specs.Grammars.{fits_of}
use Rattle.nodes.proofs.Sizes.{term_sizes}
use Rattle.nodes.proofs.term.TermsGrammar.size.Goals as goal

pub returns-clause-size : goal.returns-clause-size
returns-clause-size c =
    subst (λ size. IsSize (fits_of (term_byte c.args.self.now.definitions)) c.args.kind size.own size.parts)
    (sym c.node_size.ensures.size) (term_sizes c.args.self.now.definitions c.args.kind)
