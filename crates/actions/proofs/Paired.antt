-- Pairs in a list, and what they make of actions.
use Rattle.std.proofs.Common.{◌≡◌, ◌≢◌, ℕ, ◌+◌, ◌<◌, Bool, true, false, cond, not, ◌&&◌, ◌||◌, inl, inr, nat_eq, nat_le, nat_lt, List, [], ◌∷◌, ◌++◌, length, is_some, Some, None, Option, Ok, refl, ap, sym, ◌∙◌, arith}
use Rattle.std.proofs.lemmas.Bool.{and_from, and_parts, or_cases, cond-true, cond-false, le-leb, lt-leb, lt-ltb, eqb-true, eqb-false, eq-eqb, ne_eqb}
use Rattle.std.proofs.Math.Bool.{or-true, true-or}
use Rattle.std.proofs.lemmas.List.Elements.{Contains-append_left, Contains-append_right, Contains-append_cases, Contains-push_cases}
use Rattle.std.specs.List.{Contains}
use Rattle.actions.specs.declared.pairs.Pair.{Pair}
use Rattle.actions.specs.Action.{is_name, name_of, complementary}
use Rattle.actions.specs.declared.pairs.PairFault.{PairFault}
use Rattle.actions.specs.declared.pairs.PairFault.TheVariants.{Full, FromNoName, FromTwice, ToNoName}
use Rattle.actions.specs.Pairs.{to_of, sound_pairs, beside_fault, pair_fault, pair_answer, with_name, replacement, RenamesNames}
use Rattle.actions.proofs.Listed.{contains_one, at_least, at_most, name_of_name, name_of_co_name}

-- what holds of the first of sound pairs, and of the others
record FirstSound (p : Pair) (ps : List Pair) : Type 0 where
  pub from : is_name p.from ≡ true
  pub to : is_name p.to ≡ true
  pub once : not (is_some (to_of ps p.from)) ≡ true
  pub rest : sound_pairs ps ≡ true

first_sound : (p : Pair) (ps : List Pair) → sound_pairs (p ∷ ps) ≡ true → FirstSound p ps
first_sound p ps h =
    let (names, more) =
    and_parts (is_name p.from && is_name p.to) (not (is_some (to_of ps p.from)) && sound_pairs ps) h in
    let (from, to) = and_parts (is_name p.from) (is_name p.to) names in
    let (once, rest) = and_parts (not (is_some (to_of ps p.from))) (sound_pairs ps) more in
    record { from = from; to = to; once = once; rest = rest }

some_same : (n m : ℕ) → Some n ≡ Some m → n ≡ m
some_same n m e = ap (λ (o : Option ℕ). elim o [ None ↦ n | Some k ↦ k ]) e

-- what a pair puts in the place of a name is a name
pub to_name : (ps : List Pair) (n m : ℕ) → sound_pairs ps ≡ true → to_of ps n ≡ Some m → is_name m ≡ true
to_name [] n m sound e = cc
to_name (p ∷ ps) n m sound e =
    elim (nat_eq p.from n) as (λ b. cond b (Some p.to) (to_of ps n) ≡ Some m → is_name m ≡ true) [
      | true ↦ λ e. ap is_name (sym (some_same p.to m e)) ∙ (first_sound p ps sound).to
      | false ↦ λ e. to_name ps n m (first_sound p ps sound).rest e
    ] e

-- a pair behind pairs without its name
absent_first : (p : Pair) (ps : List Pair) (n : ℕ) → to_of (p ∷ ps) n ≡ None
    → (nat_eq p.from n ≡ false) × (to_of ps n ≡ None)
absent_first p ps n e =
    elim (nat_eq p.from n) as (λ b. cond b (Some p.to) (to_of ps n) ≡ None → (b ≡ false) × (to_of ps n ≡ None)) [
      | true ↦ λ e. cc
      | false ↦ λ e. (refl, e)
    ] e

absent_push : (ps : List Pair) (p : Pair) (n : ℕ) → to_of ps n ≡ None → nat_eq p.from n ≡ false
    → to_of (ps ++ p ∷ []) n ≡ None
absent_push [] p n e other = cond-false (nat_eq p.from n) (Some p.to) None other
absent_push (q ∷ ps) p n e other =
    let parts = absent_first q ps n e in
    cond-false (nat_eq q.from n) (Some q.to) (to_of (ps ++ p ∷ []) n) parts.0 ∙ absent_push ps p n parts.1 other

none_of : (o : Option ℕ) → not (is_some o) ≡ true → o ≡ None
none_of None h = refl
none_of (Some n) h = cc

other_way : (n m : ℕ) → nat_eq n m ≡ false → nat_eq m n ≡ false
other_way n m h = ne_eqb m n (λ e. eqb-false n m h (sym e))

pub sound_push : (ps : List Pair) (p : Pair) → sound_pairs ps ≡ true → is_name p.from ≡ true → is_name p.to ≡ true
    → to_of ps p.from ≡ None → sound_pairs (ps ++ p ∷ []) ≡ true
sound_push [] p sound from to new =
    and_from (is_name p.from && is_name p.to) true (and_from (is_name p.from) (is_name p.to) from to) refl
sound_push (q ∷ ps) p sound from to new =
    let parts = absent_first q ps p.from new in
    and_from (is_name q.from && is_name q.to)
    (not (is_some (to_of (ps ++ p ∷ []) q.from)) && sound_pairs (ps ++ p ∷ []))
    (and_from (is_name q.from) (is_name q.to) (first_sound q ps sound).from (first_sound q ps sound).to)
    (and_from (not (is_some (to_of (ps ++ p ∷ []) q.from))) (sound_pairs (ps ++ p ∷ []))
    (ap (λ (o : Option ℕ). not (is_some o))
    (absent_push ps p q.from (none_of (to_of ps q.from) (first_sound q ps sound).once)
    (other_way q.from p.from parts.0)))
    (sound_push ps p (first_sound q ps sound).rest from to parts.1))

-- a pair of the list gives its name
first_of : (q p : Pair) (ps : List Pair) → q ≡ p → to_of (q ∷ ps) p.from ≡ Some p.to
first_of q p ps e = cond-true (nat_eq q.from p.from) (Some q.to) (to_of ps p.from)
    (eq-eqb q.from p.from (ap (λ r. r.from) e)) ∙ ap (λ r. Some r.to) e

none_some : (n : ℕ) → None ≡ Some n → ⊥
none_some n e = cc

later_of : (q p : Pair) (ps : List Pair) → sound_pairs (q ∷ ps) ≡ true → to_of ps p.from ≡ Some p.to
    → to_of (q ∷ ps) p.from ≡ Some p.to
later_of q p ps sound e =
    elim (nat_eq q.from p.from) as (λ b. nat_eq q.from p.from ≡ b → cond b (Some q.to) (to_of ps p.from) ≡ Some p.to) [
      | true ↦ λ same.
          let clash : to_of ps p.from ≡ None = ap (to_of ps) (sym (eqb-true q.from p.from same))
          ∙ none_of (to_of ps q.from) (first_sound q ps sound).once in
          absurd (none_some p.to (sym clash ∙ e))
      | false ↦ λ same. e
    ] refl

pub listed : (ps : List Pair) (p : Pair) → sound_pairs ps ≡ true → Contains ps p → to_of ps p.from ≡ Some p.to
listed [] p sound (k, below, at) = absurd (omega arith)
listed (q ∷ ps) p sound h =
    elim (Contains-append_cases (q ∷ []) ps p h) [
      | inl first ↦ elim (Contains-push_cases [] q p first) [
        | inl (k, below, at) ↦ absurd (omega arith)
        | inr e ↦ first_of q p ps e
      ]
      | inr later ↦ later_of q p ps sound (listed ps p (first_sound q ps sound).rest later)
    ]

pub others : (ps : List Pair) (n : ℕ) → ((p : Pair) → Contains ps p → p.from ≢ n) → to_of ps n ≡ None
others [] n h = refl
others (q ∷ ps) n h =
    cond-false (nat_eq q.from n) (Some q.to) (to_of ps n)
    (ne_eqb q.from n (h q (Contains-append_left (q ∷ []) ps q (contains_one q q refl))))
    ∙ others ps n (λ p later. h p (Contains-append_right (q ∷ []) ps p later))

-- what becomes of a name
abbrev named : List Pair → ℕ → ℕ
named ps n = elim (to_of ps n) [ None ↦ n | Some m ↦ m ]

named_is_name : (ps : List Pair) (n : ℕ) → sound_pairs ps ≡ true → is_name n ≡ true → is_name (named ps n) ≡ true
named_is_name ps n sound name =
    elim (to_of ps n) as (λ o. to_of ps n ≡ o → is_name (elim o [ None ↦ n | Some m ↦ m ]) ≡ true) [
      | None ↦ λ e. name
      | Some m ↦ λ e. to_name ps n m sound e
    ] refl

renamed_name : (ps : List Pair) (n : ℕ) → is_name n ≡ true → replacement ps n ≡ named ps n
renamed_name ps n name =
    ap (λ k. with_name n (to_of ps k)) (name_of_name n name)
    ∙ elim (to_of ps n) as (λ o. with_name n o ≡ elim o [ None ↦ n | Some m ↦ m ]) [
      | None ↦ refl
      | Some m ↦ cond-true (nat_le n 63) m (m + 64) (le-leb n 63 (at_most n name))
    ]

renamed_co_name : (ps : List Pair) (n : ℕ) → replacement ps (n + 64) ≡ named ps n + 64
renamed_co_name ps n =
    ap (λ k. with_name (n + 64) (to_of ps k)) (name_of_co_name n)
    ∙ elim (to_of ps n) as (λ o. with_name (n + 64) o ≡ elim o [ None ↦ n | Some m ↦ m ] + 64) [
      | None ↦ refl
      | Some m ↦ cond-false (nat_le (n + 64) 63) m (m + 64) (lt-leb (n + 64) 63 (omega arith))
    ]

-- a name and its co-name
pair_up : (n : ℕ) → is_name n ≡ true → complementary n (n + 64) ≡ true
pair_up n name = ap (λ b. b || (is_name (n + 64) && nat_eq n (n + 64 + 64)))
    (and_from (is_name n) (nat_eq (n + 64) (n + 64)) name (eq-eqb (n + 64) (n + 64) refl))
    ∙ true-or (is_name (n + 64) && nat_eq n (n + 64 + 64))

pair_down : (n : ℕ) → is_name n ≡ true → complementary (n + 64) n ≡ true
pair_down n name = ap (λ b. (is_name (n + 64) && nat_eq n (n + 64 + 64)) || b)
    (and_from (is_name n) (nat_eq (n + 64) (n + 64)) name (eq-eqb (n + 64) (n + 64) refl))
    ∙ or-true (is_name (n + 64) && nat_eq n (n + 64 + 64))

up : (ps : List Pair) (n b : ℕ) → sound_pairs ps ≡ true → is_name n ≡ true → b ≡ n + 64
    → complementary (replacement ps n) (replacement ps b) ≡ true
up ps n b sound name e = rw (renamed_name ps n name, e, renamed_co_name ps n)
    (pair_up (named ps n) (named_is_name ps n sound name))

down : (ps : List Pair) (n a : ℕ) → sound_pairs ps ≡ true → is_name n ≡ true → a ≡ n + 64
    → complementary (replacement ps a) (replacement ps n) ≡ true
down ps n a sound name e = rw (renamed_name ps n name, e, renamed_co_name ps n)
    (pair_down (named ps n) (named_is_name ps n sound name))

complements : (ps : List Pair) (a b : ℕ) → sound_pairs ps ≡ true → complementary a b ≡ true
    → complementary (replacement ps a) (replacement ps b) ≡ true
complements ps a b sound h =
    elim (or_cases (is_name a && nat_eq b (a + 64)) (is_name b && nat_eq a (b + 64)) h) [
      | inl l ↦ let parts =
          and_parts (is_name a) (nat_eq b (a + 64)) l in up ps a b sound parts.0 (eqb-true b (a + 64) parts.1)
      | inr r ↦ let parts =
          and_parts (is_name b) (nat_eq a (b + 64)) r in down ps b a sound parts.0 (eqb-true a (b + 64) parts.1)
    ]

no_name : (n : ℕ) → is_name n ≡ true → n ≡ 0 → ⊥
no_name n name e = let some = at_least n name in absurd (omega (arith, some, e))

silent : (ps : List Pair) → sound_pairs ps ≡ true → to_of ps 0 ≡ None
silent [] sound = refl
silent (p ∷ ps) sound =
    cond-false (nat_eq p.from 0) (Some p.to) (to_of ps 0)
    (ne_eqb p.from 0 (λ e. no_name p.from (first_sound p ps sound).from e))
    ∙ silent ps (first_sound p ps sound).rest

has_name : (ps : List Pair) (p : Pair) → sound_pairs ps ≡ true → Contains ps p → is_name p.from ≡ true
has_name [] p sound (k, below, at) = absurd (omega arith)
has_name (q ∷ ps) p sound h =
    elim (Contains-append_cases (q ∷ []) ps p h) [
      | inl first ↦ elim (Contains-push_cases [] q p first) [
        | inl (k, below, at) ↦ absurd (omega arith)
        | inr e ↦ ap (λ r. is_name r.from) (sym e) ∙ (first_sound q ps sound).from
      ]
      | inr later ↦ has_name ps p (first_sound q ps sound).rest later
    ]

-- a co-name's byte fits
pub co_name_fits : (ps : List Pair) (n m : ℕ) → sound_pairs ps ≡ true → to_of ps n ≡ Some m → m + 64 < 256
co_name_fits ps n m sound e = let low = at_most m (to_name ps n m sound e) in omega (arith, low)

-- What a list of sound pairs makes of actions. A pair of the list is found, since no other pair has its
-- name; a name without a pair is found nowhere. What is found is a name, so a name stays one and a
-- co-name gets 64 more than that; a name and its co-name have the same name, and so stay together.
pub renames_names : (ps : List Pair) → sound_pairs ps ≡ true → RenamesNames ps
renames_names ps sound =
    record {
      listed = λ p has. let e = listed ps p sound has in let name = has_name ps p sound has in (
        renamed_name ps p.from name ∙ ap (λ o. elim o [ None ↦ p.from | Some m ↦ m ]) e,
        renamed_co_name ps p.from
            ∙ ap (λ o. elim o [ None ↦ p.from | Some m ↦ m ] + 64) e,
      );
      others = λ a none. ap (λ o. with_name a o) (others ps (name_of a) none);
      silent = ap (λ o. with_name 0 o) (silent ps sound);
      complements = λ a b h. complements ps a b sound h;
    }

-- a pair that is taken has no fault
pub faultless : (o : Option PairFault) → Ok tt ≡ pair_answer o → o ≡ None
faultless None e = refl
faultless (Some f) e = cc

fault_some : {A : Type 0} (f : PairFault) → Some f ≡ None → A
fault_some f e = cc

pub besides : (ps : List Pair) (p : Pair) → beside_fault ps p ≡ None
    → (is_name p.from ≡ true) × (is_name p.to ≡ true) × (to_of ps p.from ≡ None)
besides ps p e = go (is_name p.from) (to_of ps p.from) (is_name p.to) e
  where
    go : (b : Bool) (o : Option ℕ) (c : Bool)
        → cond b (cond (is_some o) (Some FromTwice) (cond c None (Some ToNoName))) (Some FromNoName) ≡ None
        → (b ≡ true) × (c ≡ true) × (o ≡ None)
    go true None true h = (refl, refl, refl)
    go true None false h = fault_some ToNoName h
    go true (Some m) c h = fault_some FromTwice h
    go false o c h = fault_some FromNoName h

-- where there is room
pub room : (ps : List Pair) (p : Pair) → length ps < 8 → pair_fault ps p ≡ beside_fault ps p
room ps p h = cond-true (nat_lt (length ps) 8) (beside_fault ps p) (Some Full) (lt-ltb (length ps) 8 h)
