-- The system that a setup makes: terms or a net, behind the renaming and the mask.
use Rattle.std.specs.Prelude.{ℕ, List, Ok, Err, Result}
use Rattle.actions.specs.declared.pairs.Pair.{Pair}
use Rattle.systems.specs.declared.terms_or_net.TermsOrNet.{TermsOrNet}
use Rattle.layers.specs.declared.masks.Mask.{Mask}
use Rattle.layers.specs.declared.renamings.Renaming.{Renaming}
use Rattle.frame.specs.declared.fault.FrameFault.{FrameFault}
use Rattle.frame.specs.Frames.{SystemView, first_place}
use Rattle.server.specs.DesignSetup.{design_answer}
use Rattle.systems.specs.Layered.{Layered, layered_of}

abbrev pub layered_answer : List Pair → List ℕ → SystemView → Result Layered FrameFault
layered_answer pairs names system = elim (design_answer (first_place pairs names) system) [ Ok d ↦ Ok (record { design = d; pairs = pairs; names = names }) | Err f ↦ Err f ]

-- what was made, or why it was not
abbrev pub layered_view : Result (Mask (Renaming TermsOrNet)) FrameFault → Result Layered FrameFault
layered_view (Ok m) = Ok (layered_of m)
layered_view (Err f) = Err f
