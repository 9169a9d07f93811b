-- What is answered of strings that are to be proofs.
use Rattle.std.specs.Prelude.{ℕ, ◌≤◌, Bool, true, false, nat_eq, [], ◌∷◌, Some, None, Option, is_ok, IsTrue, if◌then◌else◌}
use Rattle.steps.specs.Meaning.{Str}
use Rattle.ccs.specs.Reading.{read_proof}
use Rattle.ccs.specs.Residual.{residual, origin}
use Rattle.ccs.specs.System.{of_both}

-- residuals and origins of strings that are proofs; none of others
abbrev pub residual_of : Str → Str → Option Str
residual_of x y = of_both residual (read_proof x) (read_proof y)

abbrev pub origin_of : Str → Str → Option Str
origin_of x z = of_both origin (read_proof x) (read_proof z)

-- of a part, with what another step does on its side: the same where that is nothing
abbrev pub beside_of : (Str → Option Str) → Str → Option Str → Option Str
beside_of f s (Some r) = f r
beside_of f s None = Some s

-- a part is a proof, if there is one
abbrev pub PartRead : Option Str → Type 0
PartRead (Some s) = IsTrue (is_ok (read_proof s))
PartRead None = Unit {0}

-- a place is within a string of this length, if there is one
abbrev pub Within : Option ℕ → ℕ → Type 0
Within (Some k) n = k ≤ n
Within None n = Unit {0}

-- the first byte, if there is one
abbrev pub first_byte : Str → ℕ
first_byte [] = 0
first_byte (a ∷ s) = a

-- what a string shows that begins with a proof, behind a name or not: two sides together are
-- silent, and so is what is none
unfoldable pub shown_action_behind : Bool → Str → ℕ
shown_action_behind named [] = 0
shown_action_behind true (n ∷ s) = shown_action_behind false s
shown_action_behind false (b ∷ s) =
    if nat_eq b 0x10 then first_byte s
    else if nat_eq b 0x11 then shown_action_behind false s
    else if nat_eq b 0x12 then shown_action_behind false s
    else if nat_eq b 0x14 then shown_action_behind false s
    else if nat_eq b 0x15 then shown_action_behind false s
    else if nat_eq b 0x16 then shown_action_behind true s else 0

abbrev pub shown_action : Str → ℕ
shown_action = shown_action_behind false
