-- Names in a list, and the actions that show them.
use Rattle.std.proofs.Common.{◌≡◌, ℕ, ◌+◌, ◌-◌, ◌≤◌, ◌<◌, true, false, ◌||◌, ◌⊎◌, inl, inr, nat_eq, nat_le, List, [], ◌∷◌, ◌++◌, refl, ap, sym, ◌∙◌, arith}
use Rattle.std.proofs.lemmas.Bool.{and_from, and_parts, or_cases, cond-true, cond-false, leb-true, leb-false, le-leb, lt-leb, eqb-true, eq-eqb}
use Rattle.std.proofs.Math.Bool.{or-true, true-or}
use Rattle.std.proofs.lemmas.List.Elements.{Contains-append_left, Contains-append_right, Contains-append_cases, Contains-push, Contains-push_cases}
use Rattle.std.specs.List.{list_any, Contains}
use Rattle.actions.specs.Action.{is_name, name_of}
use Rattle.actions.specs.Names.{all_names, hides, HidesListed}

-- a name behind names
pub all_names_push : (ns : List ℕ) (n : ℕ) → all_names ns ≡ true → is_name n ≡ true → all_names (ns ++ n ∷ []) ≡ true
all_names_push [] n h k = and_from (is_name n) true k refl
all_names_push (m ∷ ns) n h k =
    let parts = and_parts (is_name m) (all_names ns) h in
    and_from (is_name m) (all_names (ns ++ n ∷ [])) parts.0 (all_names_push ns n parts.1 k)

pub contains_one : {A : Type 0} (n m : A) → n ≡ m → Contains (n ∷ []) m
contains_one n m e = rw e (Contains-push [] m)

-- a listed name is found, and only such a one
pub found : (ns : List ℕ) (m : ℕ) → list_any (λ n. nat_eq n m) ns ≡ true → Contains ns m
found [] m h = cc
found (n ∷ ns) m h =
    elim (or_cases (nat_eq n m) (list_any (λ k. nat_eq k m) ns) h) [
      | inl e ↦ Contains-append_left (n ∷ []) ns m (contains_one n m (eqb-true n m e))
      | inr t ↦ Contains-append_right (n ∷ []) ns m (found ns m t)
    ]

pub finds : (ns : List ℕ) (m : ℕ) → Contains ns m → list_any (λ n. nat_eq n m) ns ≡ true
finds [] m (k, below, at) = absurd (omega arith)
finds (n ∷ ns) m h =
    elim (Contains-append_cases (n ∷ []) ns m h) [
      | inl first ↦ elim (Contains-push_cases [] n m first) [
        | inl (k, below, at) ↦ absurd (omega arith)
        | inr e ↦ ap (λ b. b || list_any (λ k. nat_eq k m) ns) (eq-eqb n m e) ∙ true-or (list_any (λ k. nat_eq k m) ns)
      ]
      | inr later ↦ ap (λ b. nat_eq n m || b) (finds ns m later) ∙ or-true (nat_eq n m)
    ]

-- all that is listed are names
pub name_found : (ns : List ℕ) (m : ℕ) → all_names ns ≡ true → list_any (λ n. nat_eq n m) ns ≡ true → is_name m ≡ true
name_found [] m names h = cc
name_found (n ∷ ns) m names h =
    let parts = and_parts (is_name n) (all_names ns) names in
    elim (or_cases (nat_eq n m) (list_any (λ k. nat_eq k m) ns) h) [
      | inl e ↦ ap is_name (sym (eqb-true n m e)) ∙ parts.0
      | inr t ↦ name_found ns m parts.1 t
    ]

-- a name is from 1 to 63
pub at_least : (n : ℕ) → is_name n ≡ true → 1 ≤ n
at_least n h = leb-true 1 n (and_parts (nat_le 1 n) (nat_le n 63) h).0

pub at_most : (n : ℕ) → is_name n ≡ true → n ≤ 63
at_most n h = leb-true n 63 (and_parts (nat_le 1 n) (nat_le n 63) h).1

-- what shows a name is it or its co-name
co_shown : (a : ℕ) → 63 < a → name_of a ≡ a - 64 → 1 ≤ name_of a → a ≡ name_of a + 64
co_shown a past e some = omega (arith, past, e, some)

pub shown : (a : ℕ) → is_name (name_of a) ≡ true → (a ≡ name_of a) ⊎ (a ≡ name_of a + 64)
shown a h =
    elim (nat_le a 63) as (λ b. nat_le a 63 ≡ b → (a ≡ name_of a) ⊎ (a ≡ name_of a + 64)) [
      | true ↦ λ e. inl (sym (cond-true (nat_le a 63) a (a - 64) e))
      | false ↦ λ e. inr
          (co_shown a (leb-false a 63 e) (cond-false (nat_le a 63) a (a - 64) e) (at_least (name_of a) h))
    ] refl

pub name_of_name : (n : ℕ) → is_name n ≡ true → name_of n ≡ n
name_of_name n h = cond-true (nat_le n 63) n (n - 64) (le-leb n 63 (at_most n h))

pub name_of_co_name : (n : ℕ) → name_of (n + 64) ≡ n
name_of_co_name n = cond-false (nat_le (n + 64) 63) (n + 64) (n + 64 - 64) (lt-leb (n + 64) 63 (omega arith))
    ∙ omega arith

-- What a list of names hides. That an action is hidden says that its name is found in the list, so that
-- it is a name, and the action it or its co-name; and a listed name is found from both.
pub hides_listed : (ns : List ℕ) (a : ℕ) → all_names ns ≡ true → HidesListed ns a
hides_listed ns a names = (to, from)
  where
    to : hides ns a ≡ true → (n : ℕ) × (is_name n ≡ true) × Contains ns n × ((a ≡ n) ⊎ (a ≡ n + 64))
    to h = let name = name_found ns (name_of a) names h in (name_of a, name, found ns (name_of a) h, shown a name)

    from : (n : ℕ) × (is_name n ≡ true) × Contains ns n × ((a ≡ n) ⊎ (a ≡ n + 64)) → hides ns a ≡ true
    from (n, name, has, inl e) = finds ns (name_of a) (rw (ap name_of e ∙ name_of_name n name) has)
    from (n, name, has, inr e) = finds ns (name_of a) (rw (ap name_of e ∙ name_of_co_name n) has)
