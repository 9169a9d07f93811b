-- A design: terms over definitions, or a net.
use Rattle.std.specs.Prelude.{List}
use Rattle.steps.specs.Meaning.{Transitions, Independence}
use Rattle.ccs.specs.Syntax.{Term}
use Rattle.ccs.specs.System.{terms_transitions, terms_independence}
use Rattle.nets.specs.declared.event.Event.{Event}
use Rattle.nets.specs.Contents.{events_of}
use Rattle.nets.specs.System.{net_transitions, net_independence}
use Rattle.terms.specs.Contents.{terms_of}
use Rattle.systems.specs.declared.terms_or_net.TermsOrNet.{TermsOrNet}
use Rattle.systems.specs.declared.terms_or_net.TermsOrNet.TheVariants as variant

pub data Design : Type 0 where
  -- the bodies of the definitions
  of_terms : (ds : List Term) → Design
  -- the events of the net
  of_net : (es : List Event) → Design

abbrev pub design_of : TermsOrNet → Design
design_of (variant.Terms t) = of_terms (terms_of t)
design_of (variant.Net n) = of_net (events_of n)

abbrev pub transitions_of : Design → Transitions
transitions_of (of_terms ds) = terms_transitions ds
transitions_of (of_net es) = net_transitions es

abbrev pub independence_of : Design → Independence
independence_of (of_terms ds) = terms_independence
independence_of (of_net es) = net_independence es
