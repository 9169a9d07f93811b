-- The node that a first byte makes of the bytes behind it, whatever the parts are.
use Rattle.std.specs.Prelude.{ℕ, [], ◌∷◌, Some, None, Option, nat_eq, if◌then◌else◌}
use Rattle.ccs.specs.declared.node_bytes.TheConstants.{NIL, PREFIX, PARALLEL, SUM, RESTRICTION, CALL, ACT, LEFT, RIGHT, BOTH, CHOOSE_LEFT, CHOOSE_RIGHT, UNDER}
use Rattle.steps.specs.Meaning.{Str}
use Rattle.ccs.specs.Reading.{term_byte, proof_byte}
use Rattle.nodes.specs.Whole.{whole, start, split_answer}
use Rattle.nodes.specs.Grammars.{fits_of}
use Rattle.nodes.specs.Nodes.{NodeOfTerm, NodeOfProof}
use Rattle.nodes.specs.Nodes.NodeOfTerm.{Nil, Prefix, Par, Sum, Restrict, Call}
use Rattle.nodes.specs.Nodes.NodeOfProof.{Act, Left, Right, Both, ChooseLeft, ChooseRight, Under}

module _ {A : Type 0} where
  -- what belongs to the node alone; that and a part; two parts
  abbrev pub own_only : (ℕ → A) → Str → Option A
  own_only f [] = None
  own_only f (a ∷ s) = Some (f a)

  abbrev pub own_and_part : (ℕ → Str → A) → Str → Option A
  own_and_part f [] = None
  own_and_part f (a ∷ s) = Some (f a s)

  abbrev pub two_parts : (Str → Str → A) → Option (Str × Str) → Option A
  two_parts f None = None
  two_parts f (Some (s, r)) = Some (f s r)

-- the node of a string's first byte and the bytes behind it
abbrev pub on_first : {A : Type 0} → (ℕ → Str → Option A) → Str → Option A
on_first shape [] = None
on_first shape (k ∷ s) = shape k s

abbrev pub proof_shape : ℕ → Str → Option NodeOfProof
proof_shape kind s =
    if nat_eq kind ACT then own_only Act s
    else if nat_eq kind LEFT then Some (Left s)
    else if nat_eq kind RIGHT then Some (Right s)
    else if nat_eq kind BOTH
    then two_parts Both (split_answer (whole (fits_of proof_byte) start s) s)
    else if nat_eq kind CHOOSE_LEFT then Some (ChooseLeft s)
    else if nat_eq kind CHOOSE_RIGHT then Some (ChooseRight s)
    else if nat_eq kind UNDER then own_and_part Under s else None

abbrev pub term_shape : ℕ → ℕ → Str → Option NodeOfTerm
term_shape n kind s =
    if nat_eq kind NIL then Some Nil
    else if nat_eq kind PREFIX then own_and_part Prefix s
    else if nat_eq kind PARALLEL
    then two_parts Par (split_answer (whole (fits_of (term_byte n)) start s) s)
    else if nat_eq kind SUM
    then two_parts Sum (split_answer (whole (fits_of (term_byte n)) start s) s)
    else if nat_eq kind RESTRICTION then own_and_part Restrict s
    else if nat_eq kind CALL then own_only Call s else None
