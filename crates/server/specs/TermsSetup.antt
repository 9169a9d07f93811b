-- The terms that a setup makes: its bodies one by one, each taken or refused.
use Rattle.std.specs.Prelude.{◌≡◌, ℕ, ◌+◌, true, List, [], ◌∷◌, ◌++◌, length, map, Some, None, Ok, Err, Result}
use Rattle.std.specs.List.{All}
use Rattle.byte_strings.specs.Buffer.{Str}
use Rattle.ccs.specs.Syntax.{Term}
use Rattle.ccs.specs.Spelling.{term_bytes}
use Rattle.ccs.specs.System.{sound_bodies}
use Rattle.terms.specs.declared.terms.Terms.{Terms}
use Rattle.terms.specs.Contents.{terms_of}
use Rattle.terms.specs.Bodies.{body_fault, terms_in}
use Rattle.terms.specs.BodyLaws.{IsBody, BodyFaultAt}
use Rattle.frame.specs.declared.fault.FrameFault.{FrameFault}
use Rattle.frame.specs.declared.fault.FrameFault.TheVariants.{BadSetup}
use Rattle.frame.specs.Frames.{definitions}

-- the place of a body behind others, where the first definition starts at a place of the frame
abbrev pub behind : ℕ → List Str → ℕ
behind start front = start + length (definitions front) + 1

-- the bodies behind those that are there, for n definitions in all
unfoldable pub given : ℕ → ℕ → List Str → List Str → Result (List Str) FrameFault
given start n front [] = Ok front
given start n front (b ∷ bs) = elim (body_fault n b) [ None ↦ given start n (front ++ b ∷ []) bs | Some k ↦ Err (BadSetup (behind start front + k)) ]

-- the terms of a setup with these bodies; else the place of the first byte that fits no body
abbrev pub terms_answer : ℕ → List Str → Result (List Term) FrameFault
terms_answer start bodies = elim (given start (length bodies) [] bodies) [ Ok ss ↦ Ok (terms_in (length bodies) ss) | Err f ↦ Err f ]

-- what was made, by its definitions
abbrev pub terms_view : Result Terms FrameFault → Result (List Term) FrameFault
terms_view (Ok t) = Ok (terms_of t)
terms_view (Err f) = Err f

-- What a setup gives: the terms that its bodies spell, or the place of the first byte that fits no body, in the first string that is none.
pub data GivesTerms (start : ℕ) (bodies : List Str) : Result (List Term) FrameFault → Type 0 where
  whole : (ds : List Term) → map term_bytes ds ≡ bodies → sound_bodies (length ds) ds ≡ true → GivesTerms start bodies (Ok ds)
  broken : (front back : List Str) (b : Str) (k : ℕ) → bodies ≡ front ++ b ∷ back → All (IsBody (length bodies)) front → BodyFaultAt (length bodies) b k → GivesTerms start bodies (Err (BadSetup (behind start front + k)))

abbrev pub SetupsGiveTerms : Type 0
SetupsGiveTerms = (start : ℕ) (bodies : List Str) → GivesTerms start bodies (terms_answer start bodies)
