-- That a design follows the rules, with no layer over it.
use Rattle.std.proofs.Common.{◌≡◌, ℕ, ◌↔◌, false, ⊎_elim, Some, None, Ok, Err, Option, refl, ap, ◌∙◌, arith}
use Rattle.std.proofs.lemmas.Bool.{cases_lt}
use Rattle.steps.specs.Meaning.{Str}
use Rattle.steps.specs.Beginning.{LongestBeginning}
use Rattle.systems.specs.Design.{Design, transitions_of, independence_of}
use Rattle.systems.specs.Rules.{Moves, Does, LeftOf, WithinState, WithinStep, NoStateAt, NoStepAt, StuckAt}
use Rattle.nets.specs.Rules.{AreBytes}

pub record FollowsRules (d : Design) : Type 0 where
  pub within_step : (x : Str) → ((transitions_of d).bad_step x ≡ None) ↔ WithinStep d x
  pub step_place : (x : Str) (p : ℕ) → ((transitions_of d).bad_step x ≡ Some p) ↔ NoStepAt d x p
  pub never_hidden : (x : Str) → (transitions_of d).hidden x ≡ false
  pub shows : (x : Str) (c : ℕ) → WithinStep d x → (((transitions_of d).label x).action ≡ c) ↔ Does d x c
  pub within_state : (s : Str) → ((transitions_of d).bad_state s ≡ None) ↔ WithinState d s
  pub state_place : (s : Str) (p : ℕ) → AreBytes s
      → ((transitions_of d).bad_state s ≡ Some p) ↔ NoStateAt d s p
  pub moves : (a x b : Str) → ((transitions_of d).next a x ≡ Ok b) ↔ Moves d a x b
  pub stuck : (a x : Str) (p : ℕ) → WithinState d a → WithinStep d x →
      ((transitions_of d).next a x ≡ Err p) ↔ (((b : Str) → Moves d a x b → ⊥) × StuckAt d a x p)
  pub left : (x y z : Str) → ((independence_of d).left x y ≡ Some z) ↔ LeftOf d x y z
  pub back : (x z y : Str) → ((independence_of d).back x z ≡ Some y) ↔ LeftOf d y x z

-- there is one longest beginning
pub one_longest : (Is : Str → Type 0) (s : Str) (p q : ℕ) → LongestBeginning Is s p → LongestBeginning Is s q → p ≡ q
one_longest Is s p q h g =
    ⊎_elim
    (λ below. absurd (h.longest q g.begins.0 below g.within g.begins.1))
    (λ above. ⊎_elim (λ below. absurd (g.longest p h.begins.0 below h.within h.begins.1))
    (λ low. omega (arith, above, low)) (cases_lt q p))
    (cases_lt p q)

-- a place is told exactly where it is the place, if any that is told is one, there is one at most, and none of what is
-- good
pub exactly_told : (o : Option ℕ) (At : ℕ → Type 0) → ((p : ℕ) → o ≡ Some p → At p) → ((p q : ℕ) → At p → At q → p ≡ q)
    → ((p : ℕ) → o ≡ None → At p → ⊥) → (p : ℕ) → (o ≡ Some p) ↔ At p
exactly_told o At told one never p = (told p, go o refl)
  where
    go : (q : Option ℕ) → o ≡ q → At p → o ≡ Some p
    go None e h = absurd (never p e h)
    go (Some k) e h = e ∙ ap Some (one k p (told k e) h)
