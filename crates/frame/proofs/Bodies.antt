-- Definitions taken off the front of a string, one by one.
use Rattle.std.proofs.Common.{◌≡◌, ℕ, zero, suc, ◌+◌, ◌*◌, ◌/◌, Bool, true, false, cond, leb, List, [], ◌∷◌, length, take, drop, Some, None, Option, sym, refl, ap, ◌∙◌, subst, arith}
use Rattle.std.proofs.lemmas.List.{length-take-le, length-drop}
use Rattle.std.proofs.lemmas.Option.{none-some, same_Some}
use Rattle.std.proofs.lemmas.Bool.{leb-true}
use Rattle.std.specs.Option.{option_map_or}
use Rattle.frame.specs.Parts.{part_answer, behind_answer, bodies}

-- a part, its count and what stands behind it are the whole
pub part_length : (size : ℕ) (s items rest : List ℕ) → part_answer size s ≡ Some (items, rest)
    → length s ≡ 1 + (length items + length rest)
part_length size [] items rest e = absurd (none-some _ e)
part_length size (count ∷ s) items rest e = cases (leb (count * size) (length s)) refl e
  where
    cases : (t : Bool) → leb (count * size) (length s) ≡ t
        → cond {A = Option (List ℕ × List ℕ)} t (Some (take (count * size) s, drop (count * size) s)) None
        ≡ Some (items, rest) → length (count ∷ s) ≡ 1 + (length items + length rest)
    cases true is h =
        let front : take (count * size) s ≡ items = ap (λ (p : List ℕ × List ℕ). p.0) (same_Some _ _ h) in
        let back : drop (count * size) s ≡ rest = ap (λ (p : List ℕ × List ℕ). p.1) (same_Some _ _ h) in
        omega (
          arith,
          leb-true _ _ is,
          length-take-le (count * size) s (leb-true _ _ is),
          length-drop (count * size) s,
          ap length front,
          ap length back,
        )
    cases false is h = absurd (none-some _ h)

-- items of two bytes are whole
pub part_even : (s items rest : List ℕ) → part_answer 2 s ≡ Some (items, rest) → length items ≡ 2 * (length items / 2)
part_even [] items rest e = absurd (none-some _ e)
part_even (count ∷ s) items rest e = cases (leb (count * 2) (length s)) refl e
  where
    cases : (t : Bool) → leb (count * 2) (length s) ≡ t
        → cond {A = Option (List ℕ × List ℕ)} t (Some (take (count * 2) s, drop (count * 2) s)) None
        ≡ Some (items, rest) → length items ≡ 2 * (length items / 2)
    cases true is h =
        let front : take (count * 2) s ≡ items = ap (λ (p : List ℕ × List ℕ). p.0) (same_Some _ _ h) in
        omega (arith, length-take-le (count * 2) s (leb-true _ _ is), ap length front)
    cases false is h = absurd (none-some _ h)

-- a number above 0, and the one before it
from_before : (P : ℕ → Type 0) (n m : ℕ) → n ≡ m + 1 → P (suc m) → P n
from_before P n m e p = let same : suc m ≡ n = omega arith in subst P same p

pub bodies_end : (s : List ℕ) → bodies 0 s ≡ []
unfolding bodies
bodies_end s = refl

pub bodies_missing : (n : ℕ) (s : List ℕ) → part_answer 1 s ≡ None → bodies n s ≡ []
unfolding bodies
bodies_missing zero s none = refl
bodies_missing (suc n) s none = ap (λ (o : Option (List ℕ × List ℕ)). option_map_or (λ p. p.0 ∷ bodies n p.1) o []) none

pub bodies_more : (n m : ℕ) (s body rest : List ℕ) → n ≡ m + 1 → part_answer 1 s ≡ Some (body, rest)
    → bodies n s ≡ body ∷ bodies m rest
unfolding bodies
bodies_more n m s body rest e is = from_before (λ k. bodies k s ≡ body ∷ bodies m rest) n m e
    (ap (λ (o : Option (List ℕ × List ℕ)). option_map_or (λ p. p.0 ∷ bodies m p.1) o []) is)

pub behind_end : (s : List ℕ) → behind_answer 0 s ≡ Some s
unfolding behind_answer
behind_end s = refl

pub behind_missing : (n m : ℕ) (s : List ℕ) → n ≡ m + 1 → part_answer 1 s ≡ None → behind_answer n s ≡ None
unfolding behind_answer
behind_missing n m s e none = from_before (λ k. behind_answer k s ≡ None) n m e
    (ap (λ (o : Option (List ℕ × List ℕ)). elim o [ None ↦ None | Some (body, rest) ↦ behind_answer m rest ]) none)

pub behind_more : (n m : ℕ) (s body rest : List ℕ) → n ≡ m + 1 → part_answer 1 s ≡ Some (body, rest)
    → behind_answer n s ≡ behind_answer m rest
unfolding behind_answer
behind_more n m s body rest e is = from_before (λ k. behind_answer k s ≡ behind_answer m rest) n m e
    (ap (λ (o : Option (List ℕ × List ℕ)). elim o [ None ↦ None | Some (body, rest) ↦ behind_answer m rest ]) is)

-- where nothing is missing there are as many bodies as were counted
pub all_there : (n : ℕ) (s rest : List ℕ) → behind_answer n s ≡ Some rest → length (bodies n s) ≡ n
unfolding bodies
all_there zero s rest e = refl
all_there (suc n) s rest e = cases (all_there n) (part_answer 1 s) refl
  where
    cases : ((t rest : List ℕ) → behind_answer n t ≡ Some rest → length (bodies n t) ≡ n)
        → (o : Option (List ℕ × List ℕ)) → part_answer 1 s ≡ o → length (bodies (suc n) s) ≡ suc n
    cases there None is = absurd (none-some _ (sym (behind_missing (suc n) n s (omega arith) is) ∙ e))
    cases there (Some (body, t)) is =
        ap length (bodies_more (suc n) n s body t (omega arith) is)
        ∙ omega (arith, there t rest (sym (behind_more (suc n) n s body t (omega arith) is) ∙ e))
