-- Joining lists of steps: which steps of one still have to follow the other.
use Rattle.std.specs.Prelude.{ℕ, suc, true, false, List, [], ◌∷◌, Some, None, Ok, Err, Option, Result}
use Rattle.std.specs.Str.{bytes_eq}
use Rattle.steps.specs.Meaning.{Str, Independence}

-- What a step does that meets another: it is the same, it passes and both become what is left of them, or it hits the other.
pub data Met : Type 0 where
  same : Met
  passes : (y' x' : Str) → Met
  hits : Met

abbrev pub both_left : Option Str → Option Str → Met
both_left (Some y') (Some x') = passes y' x'
both_left (Some y') None = hits
both_left None x' = hits

unfoldable pub meet : Independence → Str → Str → Met
meet i y x = elim (bytes_eq y x) [ true ↦ same | false ↦ both_left (i.left y x) (i.left x y) ]

-- What comes of a step that is carried through a list: it hits a step there, it is gone because it is a step there, or it is kept; with what remains of the list.
pub data Carried : Type 0 where
  clash : Carried
  gone : (remains : List Str) → Carried
  kept : (rest : Str) (remains : List Str) → Carried

-- one more step before what remains
abbrev pub in_front : Str → Carried → Carried
in_front x clash = clash
in_front x (gone xs) = gone (x ∷ xs)
in_front x (kept y xs) = kept y (x ∷ xs)

unfoldable pub carry : Independence → Str → List Str → Carried
carry i y [] = kept y []
carry i y (x ∷ xs) = elim (meet i y x) [ same ↦ gone xs | passes y' x' ↦ in_front x' (carry i y' xs) | hits ↦ clash ]

-- What comes of joining e to s.
pub record Joined : Type 0 where
  -- what is left of e behind s, and of s behind e
  pub added : List Str
  pub remains : List Str
  -- how many steps of e are gone, because s has them
  pub shared : ℕ

-- one more step of e, gone or kept, before the others; the number of the step that clashes grows by one
abbrev pub one_shared : Result Joined ℕ → Result Joined ℕ
one_shared (Ok j) = Ok (record { added = j.added; remains = j.remains; shared = suc j.shared })
one_shared (Err n) = Err (suc n)

abbrev pub one_added : Str → Result Joined ℕ → Result Joined ℕ
one_added y (Ok j) = Ok (record { added = y ∷ j.added; remains = j.remains; shared = j.shared })
one_added y (Err n) = Err (suc n)

-- each step of e is carried through what the earlier ones left of s; else the number, from 1, of the first that clashes
unfoldable pub join : Independence → List Str → List Str → Result Joined ℕ
join i s [] = Ok (record { added = []; remains = s; shared = 0 })
join i s (y ∷ e) = elim (carry i y s) [ clash ↦ Err 1 | gone r ↦ one_shared (join i r e) | kept y' r ↦ one_added y' (join i r e) ]
