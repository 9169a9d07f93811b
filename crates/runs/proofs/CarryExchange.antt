-- Carrying a step through a list comes to the same where the list is exchanged. Assumes the laws of a step system.
use Rattle.std.proofs.Common.{◌≡◌, List, [], ◌∷◌, ◌++◌, Some, None, Option, sym, refl, ap, ◌∙◌}
use Rattle.steps.specs.Meaning.{Str, Transitions, Independence}
use Rattle.steps.specs.Laws.{Laws}
use Rattle.runs.specs.Exchange.{Exchange, Exchanged}
use Rattle.runs.specs.Exchange.Exchange.{here, there}
use Rattle.runs.specs.Exchange.Exchanged.{none, more}
use Rattle.runs.specs.Join.{Carried, carry}
use Rattle.runs.specs.Join.Carried.{clash, gone, kept}
use Rattle.runs.specs.CarryLaws.{CarriedAlike, Cancels}
use Rattle.runs.proofs.Exchange.{exchanged_one, exchanged_refl, exchanged_trans, exchanged_sym, exchanged_cons}
use Rattle.runs.proofs.Carry.{Carries, carried, Came, carry_means, carry_gone, carry_kept, carry_answers, independent_apart}
use Rattle.runs.proofs.Carry.Carries.{meets, past}

module _ {t : Transitions} {i : Independence} (laws : Laws t i) where
  -- a step has one origin
  pub origin_unique : {x y w z : Str} → i.left y x ≡ Some z → i.left w x ≡ Some z → y ≡ w
  origin_unique {x} {y} {w} {z} e f = cc ((laws.origin x y z).1 e, (laws.origin x w z).1 f)

  -- the sides of the cube that x, y and w span, from the three that meet where x is done
  pub record Cube (x y w x' y' w₁ x₁ y₁ w₂ : Str) : Type 0 where
    pub y₂ : Str
    pub w₃ : Str
    pub x₂ : Str
    pub left_y : i.left y w ≡ Some y₂
    pub left_w : i.left w y ≡ Some w₃
    pub left_w_x : i.left w₃ x' ≡ Some w₂
    pub left_x_w : i.left x' w₃ ≡ Some x₂
    pub left_x_y : i.left x₁ y₂ ≡ Some x₂
    pub left_y_x : i.left y₂ x₁ ≡ Some y₁

  pub cube : {x y w x' y' w₁ x₁ y₁ w₂ : Str} → i.left x y ≡ Some x' → i.left y x ≡ Some y' → i.left w x ≡ Some w₁ → i.left x w ≡ Some x₁ → i.left w₁ y' ≡ Some w₂ → i.left y' w₁ ≡ Some y₁ → Cube x y w x' y' w₁ x₁ y₁ w₂
  cube {x} {y} {w} {x'} {y'} {w₁} {x₁} {y₁} {w₂} ex ey ew ex₁ ew₂ ey₁ =
      let before = laws.independent_before x y w y' w₁ y₁ ey ew ey₁ in
      let other = laws.symmetric y w before.0 before.1 in
      let of_w = laws.cube x y w x' y' w₁ other.0 ey ew ex other.1 in
      let of_y = laws.cube x w y x₁ w₁ y' before.0 ew ey ex₁ before.1 in
      let of_x = laws.cube y w x before.0 other.0 x' x₁ other.1 ex before.1 ex₁ in
      record {
        y₂ = before.0;
        w₃ = other.0;
        x₂ = of_x.0;
        left_y = before.1;
        left_w = other.1;
        left_w_x = of_w.2 ∙ sym of_w.1 ∙ ew₂;
        left_x_w = of_x.1;
        left_x_y = of_x.2;
        left_y_x = of_y.2 ∙ sym of_y.1 ∙ ey₁;
      }

  -- one exchange
  pub carries_exchange : {us vs : List Str} → Exchange i us vs → {w : Str} {rest : Option Str} {q : List Str} → Carries i w us rest q → (q' : List Str) × Carries i w vs rest q' × Exchanged i q q'
  carries_exchange (here {x = x} {y = y} {x' = x'} {y' = y'} {xs = xs} ex ey) {w} (meets e) =
      (y' ∷ xs, past (ap (λ v. i.left v y) e ∙ ex) (ap (λ v. i.left y v) e ∙ ey) (meets refl), none)
  carries_exchange (here {x = x} {y = y} {x' = x'} {xs = xs} ex ey) {w} (past {x' = x₁} ew ex₁ (meets e)) =
      let same = origin_unique ew (ey ∙ ap Some (sym e)) in
      let rest : x₁ ≡ x' = cc in
      (x' ∷ xs, meets same, exchanged_refl (ap (λ v. v ∷ xs) rest))
  carries_exchange (here ex ey) (past ew ex₁ (past {remains = r} ew₂ ey₁ c)) =
      let k = cube ex ey ew ex₁ ew₂ ey₁ in
      (k.y₂ ∷ k.x₂ ∷ r, past k.left_w k.left_y (past k.left_w_x k.left_x_w c), exchanged_one (here k.left_x_y k.left_y_x))
  carries_exchange (there {ys = ys} x) (meets e) = (ys, meets e, exchanged_one x)
  carries_exchange (there x) (past {x' = x'} e f c) =
      let h = carries_exchange x c in
      (x' ∷ h.0, past e f h.1, exchanged_cons x' h.2)

  -- any number of exchanges
  pub carries_along : {us vs : List Str} → Exchanged i us vs → {w : Str} {rest : Option Str} {q : List Str} → Carries i w us rest q → (q' : List Str) × Carries i w vs rest q' × Exchanged i q q'
  carries_along none {q = q} c = (q, c, none)
  carries_along (more e p) c =
      let one = carries_exchange e c in
      let others = carries_along p one.1 in
      (others.0, others.1, exchanged_trans one.2 others.2)

  -- a step that meets itself first is gone at once
  pub meets_first : {x y : Str} {us q : List Str} → Carries i x (y ∷ us) None q → x ≡ y → q ≡ us
  meets_first (meets e) p = refl
  meets_first {x} {y} (past {y' = y'} e f c) p = absurd (independent_apart laws x y y' e p)

  -- steps in front cancel
  pub cancel_first : {x : Str} {us vs : List Str} → Exchanged i (x ∷ us) (x ∷ vs) → Exchanged i us vs
  cancel_first {us = us} e = let h = carries_along e (meets refl) in exchanged_trans h.2 (exchanged_refl (meets_first h.1 refl))

  pub cancel_front : (before : List Str) {us vs : List Str} → Exchanged i (before ++ us) (before ++ vs) → Exchanged i us vs
  cancel_front [] e = e
  cancel_front (x ∷ before) e = cancel_front before (cancel_first e)

  -- the same of what carry answers; it clashes in the one where it clashes in the other, since else it would not clash there
  pub carry_along : (s s' : List Str) → Exchanged i s s' → {y : Str} {rest : Option Str} {q : List Str} → Carries i y s rest q → (q' : List Str) × (carry i y s' ≡ carried rest q') × Exchanged i q q'
  carry_along s s' e c = let h = carries_along e c in (h.0, carry_answers laws h.1, h.2)

  pub clash_along : (y : Str) (s s' : List Str) → Exchanged i s s' → carry i y s ≡ clash → carry i y s' ≡ clash
  clash_along y s s' e p = go (carry i y s') (carry_means i y s')
    where
      back : {rest : Option Str} {q : List Str} → Carries i y s' rest q → (q' : List Str) × (carry i y s ≡ carried rest q') × Exchanged i q q'
      back c = carry_along s' s (exchanged_sym e) c

      go : (c : Carried) → Came i y s' c → c ≡ clash
      go clash k = refl
      go (gone q) k = let f = (back k).1 in cc
      go (kept y' q) k = let f = (back k).1 in cc

-- the same of every step system
pub carried_alike : CarriedAlike
carried_alike t i laws y s s' e = (
  (λ p. clash_along laws y s s' e p),
  (λ q p. carry_along laws s s' e (carry_gone i y s q p)),
  (λ y' q p. carry_along laws s s' e (carry_kept i y s y' q p)),
)

pub cancels : Cancels
cancels t i laws before xs ys e = cancel_front laws before e
