-- The rules of a setup: what is taken is in order, and what is refused stands at the first byte that breaks one.
use Rattle.std.proofs.Common.{◌≡◌, ℕ, ◌+◌, ◌*◌, ◌<◌, ◌≤◌, Bool, true, false, cond, not, ◌&&◌, ◌⊎◌, inl, inr, is_some, nat_eq, nat_lt, leb, List, [], ◌∷◌, ◌++◌, length, drop, Some, None, Ok, Err, Option, Result, sym, refl, ap, ◌∙◌, subst, arith}
use Rattle.std.proofs.lemmas.List.{append_assoc, append-nil, length-append}
use Rattle.std.proofs.lemmas.List.Elements.{Contains-append_left, Contains-append_right, Contains-append_cases, Contains-push, Contains-push_cases}
use Rattle.std.proofs.lemmas.Option.{none-some}
use Rattle.std.proofs.lemmas.Bool.{cond_both, cond-true, and_parts, leb-true, leb-false, lt-ltb, eqb-true}
use Rattle.actions.specs.declared.pairs.Pair.{Pair}
use Rattle.actions.specs.declared.pairs.PairFault.{PairFault}
use Rattle.actions.specs.declared.pairs.PairFault.TheVariants.{Full, FromNoName, FromTwice, ToNoName}
use Rattle.actions.specs.declared.names.NameFault.{NameFault}
use Rattle.actions.specs.declared.names.NameFault.TheVariants as name_variant
use Rattle.actions.specs.Action.{is_name}
use Rattle.actions.specs.Pairs.{to_of, sound_pairs, beside_fault, pair_fault}
use Rattle.actions.specs.Names.{all_names, name_fault}
use Rattle.actions.proofs.Listed.{all_names_push}
use Rattle.actions.proofs.Paired.{sound_push, listed, room}
use Rattle.frame.specs.declared.fault.FrameFault.{FrameFault}
use Rattle.frame.specs.declared.fault.FrameFault.TheVariants.{Malformed, BadSetup}
use Rattle.frame.specs.Frames.{PairsAllowed, NamesAllowed, pair_bytes, pair_limit, name_limit, pair_place, names_place, name_place}
use Rattle.frame.specs.Rules.{result_and_then, beside_answer, more_pairs, pairs_answer, unless_refused, more_names, names_answer}
use Rattle.frame.specs.Format.{Replaces, PairsBadAt, NamesBadAt}
use Rattle.frame.specs.Format.PairsBadAt.{from_no_name, from_twice, to_no_name}
use Rattle.frame.specs.Format.NamesBadAt.{no_name}
use Rattle.frame.proofs.Places.{length-pair_bytes}

-- one pair beside others

replaces : (ps : List Pair) (n : ℕ) → is_some (to_of ps n) ≡ true → Replaces ps n
replaces [] n h = cc
replaces (p ∷ ps) n h = cases (replaces ps n) (nat_eq p.from n) refl h
  where
    cases : (is_some (to_of ps n) ≡ true → Replaces ps n) → (b : Bool) → nat_eq p.from n ≡ b
        → is_some (cond b (Some p.to) (to_of ps n)) ≡ true → Replaces (p ∷ ps) n
    cases later true is h = (p, Contains-append_left (p ∷ []) ps p (Contains-push [] p), eqb-true p.from n is)
    cases later false is h = let (q, has, e) = later h in (q, Contains-append_right (p ∷ []) ps q has, e)

replaces_none : (ps : List Pair) (n : ℕ) → sound_pairs ps ≡ true → to_of ps n ≡ None → Replaces ps n → ⊥
replaces_none ps n sound none (p, has, e) = none-some p.to (sym none ∙ ap (to_of ps) (sym e) ∙ listed ps p sound has)

absent : (o : Option ℕ) → is_some o ≡ false → o ≡ None
absent None h = refl
absent (Some n) h = cc

abbrev BesideSays : List Pair → Pair → Option PairFault → Type 0
BesideSays ps p None = (is_name p.from ≡ true) × (is_name p.to ≡ true) × (to_of ps p.from ≡ None)
BesideSays ps p (Some Full) = ⊥
BesideSays ps p (Some FromNoName) = is_name p.from ≡ false
BesideSays ps p (Some FromTwice) = (is_name p.from ≡ true) × Replaces ps p.from
BesideSays ps p (Some ToNoName) = (is_name p.from ≡ true) × (to_of ps p.from ≡ None) × (is_name p.to ≡ false)

beside_says : (ps : List Pair) (p : Pair) → BesideSays ps p (beside_fault ps p)
beside_says ps p =
    cond_both (is_name p.from) _ _ (BesideSays ps p)
    (λ from. cond_both (is_some (to_of ps p.from)) _ _ (BesideSays ps p)
    (λ twice. (from, replaces ps p.from twice))
    (λ once. cond_both (is_name p.to) _ _ (BesideSays ps p)
    (λ to. (from, to, absent (to_of ps p.from) once))
    (λ no_to. (from, absent (to_of ps p.from) once, no_to))))
    (λ no_from. no_from)

-- pairs, one behind the other

abbrev PairsSay : List Pair → Result (List Pair) FrameFault → Type 0
PairsSay all (Ok qs) = (qs ≡ all) × (sound_pairs all ≡ true)
PairsSay all (Err (Malformed place)) = ⊥
PairsSay all (Err (BadSetup place)) = PairsBadAt all place

pairs_say : (back front : List Pair) → sound_pairs front ≡ true → length (front ++ back) ≤ pair_limit
    → PairsSay (front ++ back) (more_pairs front (pair_place front) (pair_bytes back))
unfolding more_pairs pair_bytes
pairs_say [] front sound few =
    (sym (append-nil front), subst (λ t. sound_pairs t ≡ true) (sym (append-nil front)) sound)
pairs_say (p ∷ back) front sound few = cases (pairs_say back) (pair_fault front p)
    (subst (BesideSays front p) (sym (room front p less)) (beside_says front p))
  where
    less : length front < pair_limit
    less = omega (arith, length-append front (p ∷ back))

    here : pair_place front ≡ pair_place front + 0
    here = omega arith

    cases : ((front : List Pair) → sound_pairs front ≡ true → length (front ++ back) ≤ pair_limit
        → PairsSay (front ++ back) (more_pairs front (pair_place front) (pair_bytes back)))
        → (o : Option PairFault) → BesideSays front p o
        → PairsSay (front ++ p ∷ back)
        (result_and_then (λ qs. more_pairs qs (pair_place front + 2) (pair_bytes back))
        (beside_answer front p (pair_place front) o))
    cases say None (from, to, new) =
        let all : (front ++ p ∷ []) ++ back ≡ front ++ p ∷ back = append_assoc front (p ∷ []) back in
        let next : pair_place (front ++ p ∷ []) ≡ pair_place front + 2 = omega (arith, length-append front (p ∷ [])) in
        let later = say (front ++ p ∷ []) (sound_push front p sound from to new) (omega (arith, few, ap length all)) in
        subst (λ k. PairsSay (front ++ p ∷ back) (more_pairs (front ++ p ∷ []) k (pair_bytes back))) next
        (subst (λ t. PairsSay t
        (more_pairs (front ++ p ∷ []) (pair_place (front ++ p ∷ [])) (pair_bytes back))) all later)
    cases say (Some Full) h = absurd h
    cases say (Some FromNoName) h = subst (PairsBadAt (front ++ p ∷ back)) here (from_no_name front p back sound h)
    cases say (Some FromTwice) (from, twice) =
        subst (PairsBadAt (front ++ p ∷ back)) here (from_twice front p back sound from twice)
    cases say (Some ToNoName) (from, new, no_to) =
        to_no_name front p back sound from (replaces_none front p.from sound new) no_to

-- what is told of the pairs of a setup
abbrev pub PairsTold : List Pair → Result (List Pair) FrameFault → Type 0
PairsTold ps (Ok qs) = (qs ≡ ps) × PairsAllowed ps
PairsTold ps (Err (Malformed place)) = ⊥
PairsTold ps (Err (BadSetup place)) =
    ((pair_limit < length ps) × (place ≡ 2)) ⊎ ((length ps ≤ pair_limit) × PairsBadAt ps place)

pub told_pairs : (ps : List Pair) → PairsTold ps (pairs_answer (pair_bytes ps))
told_pairs ps =
    cond_both (leb (length (pair_bytes ps)) (2 * pair_limit)) _ _ (PairsTold ps)
    (λ is. let few : length ps ≤ pair_limit = omega (arith, leb-true _ _ is, length-pair_bytes ps) in
    said (more_pairs [] 3 (pair_bytes ps)) few (pairs_say ps [] refl few))
    (λ is. inl (omega (arith, leb-false _ _ is, length-pair_bytes ps), refl))
  where
    said : (r : Result (List Pair) FrameFault) → length ps ≤ pair_limit → PairsSay ps r → PairsTold ps r
    said (Ok qs) few (same, sound) = (same, (few, sound))
    said (Err (Malformed place)) few h = absurd h
    said (Err (BadSetup place)) few h = inr (few, h)

-- names, one behind the other

abbrev NameSays : ℕ → Option NameFault → Type 0
NameSays n None = is_name n ≡ true
NameSays n (Some name_variant.Full) = ⊥
NameSays n (Some name_variant.NoName) = is_name n ≡ false

name_says : (ns : List ℕ) (n : ℕ) → length ns < name_limit → NameSays n (name_fault ns n)
name_says ns n less =
    let spare = cond-true (nat_lt (length ns) name_limit) (cond (is_name n) None (Some name_variant.NoName))
    (Some name_variant.Full) (lt-ltb (length ns) name_limit less) in
    subst (NameSays n) (sym spare) (cond_both (is_name n) _ _ (NameSays n) (λ is. is) (λ is. is))

abbrev NamesSay : List Pair → List ℕ → Result (List ℕ) FrameFault → Type 0
NamesSay pairs all (Ok ms) = (ms ≡ all) × (all_names all ≡ true)
NamesSay pairs all (Err (Malformed place)) = ⊥
NamesSay pairs all (Err (BadSetup place)) = NamesBadAt pairs all place

names_say : (pairs : List Pair) (back front : List ℕ) → all_names front ≡ true → length (front ++ back) ≤ name_limit
    → NamesSay pairs (front ++ back) (more_names front (name_place pairs front) back)
unfolding more_names
names_say pairs [] front sound few =
    (sym (append-nil front), subst (λ t. all_names t ≡ true) (sym (append-nil front)) sound)
names_say pairs (n ∷ back) front sound few = cases (names_say pairs back) (name_fault front n) (name_says front n less)
  where
    less : length front < name_limit
    less = omega (arith, length-append front (n ∷ back))

    cases : ((front : List ℕ) → all_names front ≡ true → length (front ++ back) ≤ name_limit
        → NamesSay pairs (front ++ back) (more_names front (name_place pairs front) back))
        → (o : Option NameFault) → NameSays n o
        → NamesSay pairs (front ++ n ∷ back)
        (unless_refused (name_place pairs front) (more_names (front ++ n ∷ []) (name_place pairs front + 1) back) o)
    cases say None name =
        let all : (front ++ n ∷ []) ++ back ≡ front ++ n ∷ back = append_assoc front (n ∷ []) back in
        let next : name_place pairs (front ++ n ∷ [])
        ≡ name_place pairs front + 1 = omega (arith, length-append front (n ∷ [])) in
        let later = say (front ++ n ∷ []) (all_names_push front n sound name) (omega (arith, few, ap length all)) in
        subst (λ k. NamesSay pairs (front ++ n ∷ back) (more_names (front ++ n ∷ []) k back)) next
        (subst (λ t. NamesSay pairs t
        (more_names (front ++ n ∷ []) (name_place pairs (front ++ n ∷ [])) back)) all later)
    cases say (Some name_variant.Full) h = absurd h
    cases say (Some name_variant.NoName) h = no_name front n back sound h

-- what is told of the names of a setup
abbrev pub NamesTold : List Pair → List ℕ → Result (List ℕ) FrameFault → Type 0
NamesTold pairs ns (Ok ms) = (ms ≡ ns) × NamesAllowed ns
NamesTold pairs ns (Err (Malformed place)) = ⊥
NamesTold pairs ns (Err (BadSetup place)) = ((name_limit < length ns) × (place ≡ names_place pairs))
    ⊎ ((length ns ≤ name_limit) × NamesBadAt pairs ns place)

pub told_names : (pairs : List Pair) (ns : List ℕ) → NamesTold pairs ns (names_answer (names_place pairs) ns)
told_names pairs ns =
    cond_both (leb (length ns) name_limit) _ _ (NamesTold pairs ns)
    (λ is. said (more_names [] (names_place pairs + 1) ns) (leb-true _ _ is)
    (subst (λ k. NamesSay pairs ns (more_names [] k ns)) first (names_say pairs ns [] refl (leb-true _ _ is))))
    (λ is. inl (leb-false _ _ is, refl))
  where
    first : name_place pairs [] ≡ names_place pairs + 1
    first = omega arith

    said : (r : Result (List ℕ) FrameFault) → length ns ≤ name_limit → NamesSay pairs ns r → NamesTold pairs ns r
    said (Ok ms) few (same, sound) = (same, (few, sound))
    said (Err (Malformed place)) few h = absurd h
    said (Err (BadSetup place)) few h = inr (few, h)

-- what is allowed is taken

not-true : (b : Bool) → not b ≡ true → b ≡ false
not-true true h = cc
not-true false h = refl

-- what holds of the first of sound pairs, and of the others
record FirstSound (p : Pair) (ps : List Pair) : Type 0 where
  from : is_name p.from ≡ true
  to : is_name p.to ≡ true
  once : not (is_some (to_of ps p.from)) ≡ true
  rest : sound_pairs ps ≡ true

first_sound : (p : Pair) (ps : List Pair) → sound_pairs (p ∷ ps) ≡ true → FirstSound p ps
first_sound p ps h =
    let (names, more) =
    and_parts (is_name p.from && is_name p.to) (not (is_some (to_of ps p.from)) && sound_pairs ps) h in
    let (from, to) = and_parts (is_name p.from) (is_name p.to) names in
    let (once, rest) = and_parts (not (is_some (to_of ps p.from))) (sound_pairs ps) more in
    record { from = from; to = to; once = once; rest = rest }

sound_in : (front : List Pair) (p : Pair) (back : List Pair) → sound_pairs (front ++ p ∷ back) ≡ true
    → (is_name p.from ≡ true) × (is_name p.to ≡ true) × (Replaces front p.from → ⊥)
sound_in [] p back sound = ((first_sound p back sound).from, (first_sound p back sound).to, none)
  where
    none : Replaces [] p.from → ⊥
    none (q, (k, below, at), e) = absurd (omega arith)
sound_in (q ∷ front) p back sound =
    let (from, to, new) = sound_in front p back (first_sound q (front ++ p ∷ back) sound).rest in
    (from, to, none new)
  where
    found : to_of (front ++ p ∷ back) p.from ≡ Some p.to
    found = listed (front ++ p ∷ back) p (first_sound q (front ++ p ∷ back) sound).rest
        (Contains-append_right front (p ∷ back) p (Contains-append_left (p ∷ []) back p (Contains-push [] p)))

    once : is_some (to_of (front ++ p ∷ back) q.from) ≡ false
    once = not-true (is_some (to_of (front ++ p ∷ back) q.from)) (first_sound q (front ++ p ∷ back) sound).once

    first : (r : Pair) → q ≡ r → r.from ≡ p.from → ⊥
    first r same e =
        let there : is_some (to_of (front ++ p ∷ back) q.from)
        ≡ true = ap (λ s. is_some (to_of (front ++ p ∷ back) s.from)) same
        ∙ ap (λ n. is_some (to_of (front ++ p ∷ back) n)) e ∙ ap (λ (o : Option ℕ). is_some o) found in
        let clash : true ≡ false = sym there ∙ once in
        cc

    none : (Replaces front p.from → ⊥) → Replaces (q ∷ front) p.from → ⊥
    none new (r, has, e) =
        elim (Contains-append_cases (q ∷ []) front r has) [
          | inl one ↦ elim (Contains-push_cases [] q r one) [
            | inl (k, below, at) ↦ absurd (omega arith)
            | inr same ↦ first r same e
          ]
          | inr later ↦ new (r, later, e)
        ]

pairs_sound : (ps : List Pair) (place : ℕ) → PairsBadAt ps place → sound_pairs ps ≡ true → ⊥
pairs_sound ps place (from_no_name front p back before no_from) sound = let yes = (sound_in front p back sound).0 in cc
pairs_sound ps place (from_twice front p back before from twice) sound = (sound_in front p back sound).2 twice
pairs_sound ps place (to_no_name front p back before from new no_to) sound =
    let yes = (sound_in front p back sound).1 in cc

pub pairs_kept : (ps : List Pair) → PairsAllowed ps → pairs_answer (pair_bytes ps) ≡ Ok ps
pairs_kept ps (few, sound) = kept (pairs_answer (pair_bytes ps)) (told_pairs ps)
  where
    kept : (r : Result (List Pair) FrameFault) → PairsTold ps r → r ≡ Ok ps
    kept (Ok qs) (same, allowed) = ap Ok same
    kept (Err (Malformed place)) h = absurd h
    kept (Err (BadSetup place)) (inl (many, at)) = absurd (omega arith)
    kept (Err (BadSetup place)) (inr (enough, bad)) = absurd (pairs_sound ps place bad sound)

name_in : (front : List ℕ) (n : ℕ) (back : List ℕ) → all_names (front ++ n ∷ back) ≡ true → is_name n ≡ true
name_in [] n back h = (and_parts (is_name n) (all_names back) h).0
name_in (m ∷ front) n back h = name_in front n back (and_parts (is_name m) (all_names (front ++ n ∷ back)) h).1

names_sound : (pairs : List Pair) (ns : List ℕ) (place : ℕ) → NamesBadAt pairs ns place → all_names ns ≡ true → ⊥
names_sound pairs ns place (no_name front n back before not_one) h = let yes = name_in front n back h in cc

pub names_kept : (pairs : List Pair) (ns : List ℕ) → NamesAllowed ns → names_answer (names_place pairs) ns ≡ Ok ns
names_kept pairs ns (few, sound) = kept (names_answer (names_place pairs) ns) (told_names pairs ns)
  where
    kept : (r : Result (List ℕ) FrameFault) → NamesTold pairs ns r → r ≡ Ok ns
    kept (Ok ms) (same, allowed) = ap Ok same
    kept (Err (Malformed place)) h = absurd h
    kept (Err (BadSetup place)) (inl (many, at)) = absurd (omega arith)
    kept (Err (BadSetup place)) (inr (enough, bad)) = absurd (names_sound pairs ns place bad sound)

-- one place

-- a list taken apart at two items: they are one, or the first stands in front of the second
record Before {A : Type 0} (f : List A) (a : A) (g : List A) : Type 0 where
  between : List A
  is : g ≡ f ++ a ∷ between

apart : {A : Type 0} (f g : List A) (a b : A) (s t : List A) → f ++ a ∷ s ≡ g ++ b ∷ t
    → ((f ≡ g) × (a ≡ b)) ⊎ (Before f a g ⊎ Before g b f)
apart [] [] a b s t e = inl (refl, cc)
apart [] (y ∷ g) a b s t e =
    let same : y ≡ a = cc in
    inr (inl (record { between = g; is = ap (λ x. x ∷ g) same }))
apart (x ∷ f) [] a b s t e =
    let same : x ≡ b = cc in
    inr (inr (record { between = f; is = ap (λ y. y ∷ f) same }))
apart (x ∷ f) (y ∷ g) a b s t e =
    let first : x ≡ y = cc in
    let rest : f ++ a ∷ s ≡ g ++ b ∷ t = ap (drop 1) e in
    elim (apart f g a b s t rest) [
      | inl (same, item) ↦ inl (ap (λ z. z ∷ f) first ∙ ap (λ u. y ∷ u) same, item)
      | inr (inl before) ↦ inr
          (inl (record { between = before.between; is = ap (λ z. z ∷ g) (sym first) ∙ ap (λ u. x ∷ u) before.is }))
      | inr (inr before) ↦ inr
          (inr (record { between = before.between; is = ap (λ z. z ∷ f) first ∙ ap (λ u. y ∷ u) before.is }))
    ]

-- what is wrong with a pair behind others, and how far behind its first byte it stands
abbrev Wrong : List Pair → Pair → ℕ → Type 0
Wrong front p j =
    ((j ≡ 0) × ((is_name p.from ≡ true) → Replaces front p.from))
    ⊎ ((j ≡ 1) × (is_name p.from ≡ true) × (Replaces front p.from → ⊥) × (is_name p.to ≡ false))

record WrongPair (ps : List Pair) (place : ℕ) : Type 0 where
  front : List Pair
  p : Pair
  back : List Pair
  offset : ℕ
  is : ps ≡ front ++ p ∷ back
  sound : sound_pairs front ≡ true
  stands : place ≡ pair_place front + offset
  wrong : Wrong front p offset

wrong_pair : (ps : List Pair) (place : ℕ) → PairsBadAt ps place → WrongPair ps place
wrong_pair ps place (from_no_name front p back sound no_from) =
    record {
      front = front;
      p = p;
      back = back;
      offset = 0;
      is = refl;
      sound = sound;
      stands = omega arith;
      wrong = inl (refl, λ from. absurd (no_true from));
    }
  where
    no_true : is_name p.from ≡ true → ⊥
    no_true from = cc
wrong_pair ps place (from_twice front p back sound from twice) =
    record {
      front = front;
      p = p;
      back = back;
      offset = 0;
      is = refl;
      sound = sound;
      stands = omega arith;
      wrong = inl (refl, λ h. twice);
    }
wrong_pair ps place (to_no_name front p back sound from new no_to) =
    record {
      front = front;
      p = p;
      back = back;
      offset = 1;
      is = refl;
      sound = sound;
      stands = refl;
      wrong = inr (refl, from, new, no_to);
    }

-- a pair in sound pairs is not wrong
not_wrong : (front : List Pair) (p : Pair) (back : List Pair) (j : ℕ) → sound_pairs (front ++ p ∷ back) ≡ true
    → Wrong front p j → ⊥
not_wrong front p back j sound (inl (at, twice)) = let (from, to, new) = sound_in front p back sound in new (twice from)
not_wrong front p back j sound (inr (at, from, new, no_to)) = let yes = (sound_in front p back sound).1 in cc

same_offset : (front : List Pair) (p : Pair) (i j : ℕ) → Wrong front p i → Wrong front p j → i ≡ j
same_offset front p i j (inl (x, twice)) (inl (y, again)) = omega arith
same_offset front p i j (inl (x, twice)) (inr (y, from, new, to)) = absurd (new (twice from))
same_offset front p i j (inr (x, from, new, to)) (inl (y, twice)) = absurd (new (twice from))
same_offset front p i j (inr (x, from, new, to)) (inr (y, again, other, second)) = omega arith

-- pairs are bad at one place only
pairs_once : (ps : List Pair) (j k : ℕ) → WrongPair ps j → WrongPair ps k → j ≡ k
pairs_once ps j k v w =
    elim (apart v.front w.front v.p w.p v.back w.back (sym v.is ∙ w.is)) [
      | inl (same, item) ↦
          let moved : Wrong w.front w.p v.offset = subst (λ f. Wrong f w.p v.offset) same
          (subst (λ q. Wrong v.front q v.offset) item v.wrong) in
          omega (arith, v.stands, w.stands, ap length same, same_offset w.front w.p v.offset w.offset moved w.wrong)
      | inr (inl before) ↦ absurd
          (not_wrong v.front v.p before.between v.offset (subst (λ f. sound_pairs f ≡ true) before.is w.sound) v.wrong)
      | inr (inr before) ↦ absurd
          (not_wrong w.front w.p before.between w.offset (subst (λ f. sound_pairs f ≡ true) before.is v.sound) w.wrong)
    ]

pub pairs_answer-many : (ps : List Pair) → pair_limit < length ps → pairs_answer (pair_bytes ps) ≡ Err (BadSetup 2)
pairs_answer-many ps many = cases (pairs_answer (pair_bytes ps)) (told_pairs ps)
  where
    cases : (r : Result (List Pair) FrameFault) → PairsTold ps r → r ≡ Err (BadSetup 2)
    cases (Ok qs) (same, (few, sound)) = absurd (omega arith)
    cases (Err (Malformed k)) h = absurd h
    cases (Err (BadSetup k)) (inl (more, at)) = ap (λ j. Err (BadSetup j)) at
    cases (Err (BadSetup k)) (inr (few, bad)) = absurd (omega arith)

pub pairs_answer-bad : (ps : List Pair) (place : ℕ) → length ps ≤ pair_limit → PairsBadAt ps place
    → pairs_answer (pair_bytes ps) ≡ Err (BadSetup place)
pairs_answer-bad ps place few bad = cases (pairs_answer (pair_bytes ps)) (told_pairs ps)
  where
    cases : (r : Result (List Pair) FrameFault) → PairsTold ps r → r ≡ Err (BadSetup place)
    cases (Ok qs) (same, (enough, sound)) = absurd (pairs_sound ps place bad sound)
    cases (Err (Malformed k)) h = absurd h
    cases (Err (BadSetup k)) (inl (more, at)) = absurd (omega arith)
    cases (Err (BadSetup k)) (inr (enough, other)) =
        ap (λ j. Err (BadSetup j)) (pairs_once ps k place (wrong_pair ps k other) (wrong_pair ps place bad))

-- names

record WrongName (pairs : List Pair) (ns : List ℕ) (place : ℕ) : Type 0 where
  front : List ℕ
  n : ℕ
  back : List ℕ
  is : ns ≡ front ++ n ∷ back
  sound : all_names front ≡ true
  wrong : is_name n ≡ false
  stands : place ≡ name_place pairs front

wrong_name : (pairs : List Pair) (ns : List ℕ) (place : ℕ) → NamesBadAt pairs ns place → WrongName pairs ns place
wrong_name pairs ns place (no_name front n back sound wrong) =
    record { front = front; n = n; back = back; is = refl; sound = sound; wrong = wrong; stands = refl }

no_wrong : (front : List ℕ) (n : ℕ) (back : List ℕ) → all_names (front ++ n ∷ back) ≡ true → is_name n ≡ false → ⊥
no_wrong front n back sound wrong = let yes = name_in front n back sound in cc

names_once : (pairs : List Pair) (ns : List ℕ) (j k : ℕ) → WrongName pairs ns j → WrongName pairs ns k → j ≡ k
names_once pairs ns j k v w =
    elim (apart v.front w.front v.n w.n v.back w.back (sym v.is ∙ w.is)) [
      | inl (same, item) ↦ v.stands ∙ ap (name_place pairs) same ∙ sym w.stands
      | inr (inl before) ↦ absurd
          (no_wrong v.front v.n before.between (subst (λ f. all_names f ≡ true) before.is w.sound) v.wrong)
      | inr (inr before) ↦ absurd
          (no_wrong w.front w.n before.between (subst (λ f. all_names f ≡ true) before.is v.sound) w.wrong)
    ]

pub names_answer-many : (pairs : List Pair) (ns : List ℕ) → name_limit < length ns
    → names_answer (names_place pairs) ns ≡ Err (BadSetup (names_place pairs))
names_answer-many pairs ns many = cases (names_answer (names_place pairs) ns) (told_names pairs ns)
  where
    cases : (r : Result (List ℕ) FrameFault) → NamesTold pairs ns r → r ≡ Err (BadSetup (names_place pairs))
    cases (Ok ms) (same, (few, sound)) = absurd (omega arith)
    cases (Err (Malformed k)) h = absurd h
    cases (Err (BadSetup k)) (inl (more, at)) = ap (λ j. Err (BadSetup j)) at
    cases (Err (BadSetup k)) (inr (few, bad)) = absurd (omega arith)

pub names_answer-bad : (pairs : List Pair) (ns : List ℕ) (place : ℕ) → length ns ≤ name_limit
    → NamesBadAt pairs ns place
    → names_answer (names_place pairs) ns ≡ Err (BadSetup place)
names_answer-bad pairs ns place few bad = cases (names_answer (names_place pairs) ns) (told_names pairs ns)
  where
    cases : (r : Result (List ℕ) FrameFault) → NamesTold pairs ns r → r ≡ Err (BadSetup place)
    cases (Ok ms) (same, (enough, sound)) = absurd (names_sound pairs ns place bad sound)
    cases (Err (Malformed k)) h = absurd h
    cases (Err (BadSetup k)) (inl (more, at)) = absurd (omega arith)
    cases (Err (BadSetup k)) (inr (enough, other)) =
        ap (λ j. Err (BadSetup j))
        (names_once pairs ns k place (wrong_name pairs ns k other) (wrong_name pairs ns place bad))
