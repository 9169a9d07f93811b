-- Terms and nets keep the laws of step systems, so that either of them does. The impl has to name
-- this proof, so it stands in specs/; a reader of the meaning needs none of it.
use Rattle.steps.specs.Laws.{Laws}
use Rattle.ccs.proofs.System.{terms_laws}
use Rattle.nets.specs.Contents.{events_of}
use Rattle.nets.specs.Laws.{net_laws}
use Rattle.terms.specs.Contents.{terms_of}
use Rattle.terms.specs.Laws.Sound.{terms_sound}
use Rattle.systems.specs.declared.terms_or_net.TermsOrNet.{TermsOrNet}
use Rattle.systems.specs.declared.terms_or_net.TermsOrNet.TheVariants as variant
use Rattle.systems.specs.Design.{design_of, transitions_of, independence_of}

pub design_laws : (s : TermsOrNet)
    → Laws (transitions_of (design_of s)) (independence_of (design_of s))
design_laws (variant.Terms t) = terms_laws (terms_of t) (terms_sound t.count t.bodies t.few t.sound)
design_laws (variant.Net n) = net_laws (events_of n) n.sound
