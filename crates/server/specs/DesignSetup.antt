-- The design that a setup makes: terms or a net.
use Rattle.std.specs.Prelude.{ℕ, Ok, Err, Result}
use Rattle.systems.specs.declared.terms_or_net.TermsOrNet.{TermsOrNet}
use Rattle.systems.specs.Design.{Design, design_of}
use Rattle.systems.specs.Design.Design.{of_terms, of_net}
use Rattle.frame.specs.declared.fault.FrameFault.{FrameFault}
use Rattle.frame.specs.Frames.{SystemView}
use Rattle.frame.specs.Frames.SystemView.{terms, net}
use Rattle.server.specs.Setup.{net_answer}
use Rattle.server.specs.TermsSetup.{terms_answer}

-- the definitions or events start at a place of the frame
abbrev pub design_answer : ℕ → SystemView → Result Design FrameFault
design_answer start (terms bodies) = elim (terms_answer start bodies) [ Ok ds ↦ Ok (of_terms ds) | Err f ↦ Err f ]
design_answer start (net events) = elim (net_answer start events) [ Ok es ↦ Ok (of_net es) | Err f ↦ Err f ]

abbrev pub design_view : Result TermsOrNet FrameFault → Result Design FrameFault
design_view (Ok s) = Ok (design_of s)
design_view (Err f) = Err f
