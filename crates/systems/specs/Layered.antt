-- What the program's system holds, and what it means: terms or a net, behind pairs that rename what
-- steps show, behind names that mask them.
use Rattle.std.specs.Prelude.{ℕ, List}
use Rattle.actions.specs.declared.pairs.Pair.{Pair}
use Rattle.actions.specs.Contents.{names_of, pairs_of}
use Rattle.steps.specs.Meaning.{Transitions, Independence}
use Rattle.systems.specs.declared.terms_or_net.TermsOrNet.{TermsOrNet}
use Rattle.systems.specs.Design.{Design, design_of, transitions_of, independence_of}
use Rattle.layers.specs.declared.masks.Mask.{Mask}
use Rattle.layers.specs.declared.renamings.Renaming.{Renaming}
use Rattle.layers.specs.Mask.{mask_transitions, mask_independence}
use Rattle.layers.specs.Renaming.{renaming_transitions}

pub record Layered : Type 0 where
  pub design : Design
  pub pairs : List Pair
  pub names : List ℕ

abbrev pub layered_of : Mask (Renaming TermsOrNet) → Layered
layered_of m = record {
  design = design_of m.system.system;
  pairs = pairs_of m.system.pairs;
  names = names_of m.names;
}

-- what a step shows below the mask is renamed
abbrev pub renamed_transitions : Layered → Transitions
renamed_transitions l = renaming_transitions l.pairs (transitions_of l.design)

abbrev pub layered_transitions : Layered → Transitions
layered_transitions l = mask_transitions l.names (renamed_transitions l)

abbrev pub layered_independence : Layered → Independence
layered_independence l = mask_independence l.names (renamed_transitions l)
    (independence_of l.design)

-- what the system means, as a step system
abbrev pub transitions_of_system : Mask (Renaming TermsOrNet) → Transitions
transitions_of_system m = layered_transitions (layered_of m)

abbrev pub independence_of_system : Mask (Renaming TermsOrNet) → Independence
independence_of_system m = layered_independence (layered_of m)
