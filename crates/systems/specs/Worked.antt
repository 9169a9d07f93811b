-- Questions to the meaning of terms and of nets, with their answers, which anyone can work out by
-- hand.
use Rattle.std.specs.Prelude.{◌≡◌, Option, [], ◌∷◌, Some, None, Ok, IsTrue}
use Rattle.steps.specs.Meaning.{Str, Transitions}
use Rattle.nets.specs.System.{net_transitions}
use Rattle.ccs.specs.Syntax.Proof.{act, under}
use Rattle.ccs.specs.Reading.{read_proof}
use Rattle.ccs.specs.First.{First}
use Rattle.ccs.specs.Improper.{ImproperAt}
use Rattle.ccs.specs.System.{terms_transitions, terms_independence}

-- what a step becomes behind another
abbrev pub left : Str → Str → Option Str
left = terms_independence.left

-- what back answers for a step and the one that follows it
abbrev pub back : Str → Str → Option Str
back = terms_independence.back

abbrev pub terms : Transitions
terms = terms_transitions []

-- the net of one event, from condition 0 to condition 1
abbrev pub one_event : Transitions
one_event = net_transitions (record { action = 0; before = 1; after = 2 } ∷ [])

-- Both are steps, and nothing is left of either after the other.
pub record Dependent (x y : Str) : Type 0 where
  pub first : IsTrue (terms.step x)
  pub second : IsTrue (terms.step y)
  pub none_left : left x y ≡ None
  pub none_left_of_second : left y x ≡ None

pub record Worked : Type 0 where
  -- The right branch is chosen by the left side's move: what is left of the right side's has no
  -- choice node any more, and back puts it on again.
  pub choice_made :
      left (0x15 ∷ 0x12 ∷ 0x10 ∷ 0x02 ∷ []) (0x15 ∷ 0x11 ∷ 0x10 ∷ 0x01 ∷ [])
      ≡ Some (0x12 ∷ 0x10 ∷ 0x02 ∷ [])
  pub choice_back :
      back (0x15 ∷ 0x11 ∷ 0x10 ∷ 0x01 ∷ []) (0x12 ∷ 0x10 ∷ 0x02 ∷ [])
      ≡ Some (0x15 ∷ 0x12 ∷ 0x10 ∷ 0x02 ∷ [])
  -- the two branches of a choice are dependent
  pub two_branches : Dependent (0x14 ∷ 0x10 ∷ 0x03 ∷ []) (0x15 ∷ 0x11 ∷ 0x10 ∷ 0x01 ∷ [])
  -- a name meets its co-name, silently
  pub handshake :
      terms.next
      (0x02 ∷ 0x01 ∷ 0x01 ∷ 0x00 ∷ 0x01 ∷ 0x41 ∷ 0x00 ∷ [])
      (0x13 ∷ 0x10 ∷ 0x01 ∷ 0x10 ∷ 0x41 ∷ [])
      ≡ Ok (0x02 ∷ 0x00 ∷ 0x00 ∷ [])
  pub handshake_label : terms.label (0x13 ∷ 0x10 ∷ 0x01 ∷ 0x10 ∷ 0x41 ∷ []) ≡ record { action = 0 }
  -- and is dependent on a move that uses one of its ends
  pub shared_end : Dependent (0x13 ∷ 0x10 ∷ 0x01 ∷ 0x10 ∷ 0x41 ∷ []) (0x11 ∷ 0x10 ∷ 0x01 ∷ [])
  -- a choice is made inside a handshake too
  pub choice_inside :
      left
      (0x13 ∷ 0x15 ∷ 0x11 ∷ 0x10 ∷ 0x01 ∷ 0x10 ∷ 0x41 ∷ [])
      (0x11 ∷ 0x15 ∷ 0x12 ∷ 0x10 ∷ 0x02 ∷ [])
      ≡ Some (0x13 ∷ 0x11 ∷ 0x10 ∷ 0x01 ∷ 0x10 ∷ 0x41 ∷ [])
  -- A restricted name is not shown: the string is a proof, its first node is improper, and is told.
  pub restricted : read_proof (0x16 ∷ 0x01 ∷ 0x10 ∷ 0x01 ∷ []) ≡ Ok (under 0x01 (act 0x01))
  pub restricted_improper : First (ImproperAt (under 0x01 (act 0x01))) 0
  pub restricted_told : terms.bad_step (0x16 ∷ 0x01 ∷ 0x10 ∷ 0x01 ∷ []) ≡ Some 0
  -- condition 0 gives way to condition 1, and condition 2 stays
  pub event :
      one_event.next (0 ∷ 0 ∷ 0 ∷ 0 ∷ 0 ∷ 0 ∷ 0 ∷ 5 ∷ []) (0 ∷ [])
      ≡ Ok (0 ∷ 0 ∷ 0 ∷ 0 ∷ 0 ∷ 0 ∷ 0 ∷ 6 ∷ [])
