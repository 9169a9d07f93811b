-- The pairs and the names of a setup, taken one by one.
use Rattle.std.proofs.Common.{◌≡◌, ℕ, ◌+◌, ◌-◌, ◌/◌, ◌<◌, ◌≤◌, Bool, true, false, cond, is_err, leb, List, [], ◌∷◌, ◌++◌, length, get_or, take, drop, Some, None, Ok, Err, Option, Result, sym, refl, ap, ◌∙◌, arith}
use Rattle.std.proofs.lemmas.List.{take_all, drop_more, length-append, length-drop}
use Rattle.std.proofs.lemmas.Bool.{le-leb, cond-true}
use Rattle.actions.specs.declared.pairs.Pair.{Pair}
use Rattle.actions.specs.declared.pairs.PairFault.{PairFault}
use Rattle.actions.specs.declared.names.NameFault.{NameFault}
use Rattle.actions.specs.Pairs.{pair_fault}
use Rattle.actions.specs.Names.{name_fault, name_answer, names_after}
use Rattle.frame.specs.declared.fault.FrameFault.{FrameFault}
use Rattle.frame.specs.declared.fault.FrameFault.TheVariants.{BadSetup}
use Rattle.frame.specs.Rules.{result_and_then, beside_answer, pair_answer, more_pairs, pairs_answer, unless_refused, more_names, names_answer}

-- pairs

abbrev first_pair : List ℕ → Pair
first_pair s = record { from = get_or s 0 0; to = get_or s 1 0 }

pub pairs_end : (ps : List Pair) (place : ℕ) (s : List ℕ) → length s < 2 → more_pairs ps place s ≡ Ok ps
unfolding more_pairs
pairs_end ps place [] short = refl
pairs_end ps place (a ∷ []) short = refl
pairs_end ps place (a ∷ b ∷ s) short = absurd (omega arith)

pairs_step : (ps : List Pair) (place : ℕ) (s : List ℕ) (r : Result (List Pair) FrameFault) → 2 ≤ length s
    → r ≡ pair_answer ps (first_pair s) place
    → more_pairs ps place s ≡ result_and_then (λ qs. more_pairs qs (place + 2) (drop 2 s)) r
unfolding more_pairs
pairs_step ps place [] r long is = absurd (omega arith)
pairs_step ps place (a ∷ []) r long is = absurd (omega arith)
pairs_step ps place (a ∷ b ∷ s) r long is =
    ap (result_and_then (λ qs. more_pairs qs (place + 2) s)) (sym is)

pub behind_two : (s : List ℕ) → take (length s - 2) (drop 2 s) ≡ drop 2 s
behind_two s = take_all (length s - 2) (drop 2 s) (omega (arith, length-drop 2 s))

pub pairs_more : (ps qs : List Pair) (place : ℕ) (s : List ℕ) → 2 ≤ length s
    → Ok qs ≡ pair_answer ps (first_pair s) place
    → more_pairs ps place s ≡ more_pairs qs (place + 2) (take (length s - 2) (drop 2 s))
pairs_more ps qs place s long is =
    pairs_step ps place s (Ok qs) long is ∙ ap (more_pairs qs (place + 2)) (sym (behind_two s))

pub pairs_bad : (ps : List Pair) (place : ℕ) (s : List ℕ) (f : FrameFault) → 2 ≤ length s
    → Err f ≡ pair_answer ps (first_pair s) place → more_pairs ps place s ≡ Err f
pairs_bad ps place s f long is = pairs_step ps place s (Err f) long is

pub pairs_few : (s : List ℕ) → length s ≤ 16 → pairs_answer s ≡ more_pairs [] 3 s
pairs_few s h = cond-true (leb (length s) 16) (more_pairs [] 3 s) (Err (BadSetup 2)) (le-leb _ _ h)

-- names

pub names_end : (ns : List ℕ) (place : ℕ) (s : List ℕ) → length s ≡ 0 → more_names ns place s ≡ Ok ns
unfolding more_names
names_end ns place [] none = refl
names_end ns place (n ∷ s) none = absurd (omega arith)

pub names_step : (ns : List ℕ) (place : ℕ) (s : List ℕ) (i : ℕ) (o : Option NameFault) → i < length s
    → name_fault ns (get_or s i 0) ≡ o
    → more_names ns place (drop i s)
    ≡ unless_refused place (more_names (ns ++ get_or s i 0 ∷ []) (place + 1) (drop (i + 1) s)) o
unfolding more_names
names_step ns place s i o there is =
    ap (more_names ns place) (drop_more s i 0 there)
    ∙ ap (unless_refused place (more_names (ns ++ get_or s i 0 ∷ []) (place + 1) (drop (i + 1) s))) is

pub names_more : (ns : List ℕ) (place : ℕ) (s : List ℕ) (i : ℕ) → i < length s
    → is_err (name_answer (name_fault ns (get_or s i 0))) ≡ false
    → more_names ns place (drop i s)
    ≡ more_names (names_after (name_fault ns (get_or s i 0)) ns (get_or s i 0)) (place + 1) (drop (i + 1) s)
names_more ns place s i there fine = cases (name_fault ns (get_or s i 0)) refl fine
  where
    cases : (o : Option NameFault) → name_fault ns (get_or s i 0) ≡ o → is_err (name_answer o) ≡ false
        → more_names ns place (drop i s) ≡ more_names (names_after o ns (get_or s i 0)) (place + 1) (drop (i + 1) s)
    cases None is h = names_step ns place s i None there is
    cases (Some f) is h = cc

pub names_bad : (ns : List ℕ) (place : ℕ) (s : List ℕ) (i : ℕ) → i < length s
    → is_err (name_answer (name_fault ns (get_or s i 0))) ≡ true → more_names ns place (drop i s) ≡ Err (BadSetup place)
names_bad ns place s i there bad = cases (name_fault ns (get_or s i 0)) refl bad
  where
    cases : (o : Option NameFault) → name_fault ns (get_or s i 0) ≡ o → is_err (name_answer o) ≡ true
        → more_names ns place (drop i s) ≡ Err (BadSetup place)
    cases None is h = cc
    cases (Some f) is h = names_step ns place s i (Some f) there is

pub names_few : (place : ℕ) (s : List ℕ) → length s ≤ 8 → names_answer place s ≡ more_names [] (place + 1) s
names_few place s h = cond-true (leb (length s) 8) (more_names [] (place + 1) s) (Err (BadSetup place)) (le-leb _ _ h)

-- how many were taken

pairs_grown : (s : List ℕ) (ps qs : List Pair) (place : ℕ) → more_pairs ps place s ≡ Ok qs
    → length qs ≡ length ps + length s / 2
unfolding more_pairs
pairs_grown [] ps qs place e = let same : ps ≡ qs = cc in omega (arith, ap length same)
pairs_grown (a ∷ []) ps qs place e = let same : ps ≡ qs = cc in omega (arith, ap length same)
pairs_grown (a ∷ b ∷ s) ps qs place e = cases (pairs_grown s) (pair_fault ps (record { from = a; to = b })) e
  where
    cases : ((ps qs : List Pair) (place : ℕ) → more_pairs ps place s ≡ Ok qs → length qs ≡ length ps + length s / 2)
        → (o : Option PairFault)
        → result_and_then (λ qs. more_pairs qs (place + 2) s) (beside_answer ps (record { from = a; to = b }) place o)
        ≡ Ok qs
        → length qs ≡ length ps + length (a ∷ b ∷ s) / 2
    cases grown None h = omega (
      arith,
      grown (ps ++ record { from = a; to = b } ∷ []) qs (place + 2) h,
      length-append ps (record { from = a; to = b } ∷ []),
    )
    cases grown (Some f) h = cc

pub pairs_length : (s : List ℕ) (qs : List Pair) → Ok qs ≡ pairs_answer s → length qs ≡ length s / 2
pairs_length s qs e = cases (leb (length s) 16) refl (sym e)
  where
    cases : (b : Bool) → leb (length s) 16 ≡ b → cond b (more_pairs [] 3 s) (Err (BadSetup 2)) ≡ Ok qs
        → length qs ≡ length s / 2
    cases true is h = omega (arith, pairs_grown s [] qs 3 h)
    cases false is h = cc

names_grown : (s ns ms : List ℕ) (place : ℕ) → more_names ns place s ≡ Ok ms → length ms ≡ length ns + length s
unfolding more_names
names_grown [] ns ms place e = let same : ns ≡ ms = cc in omega (arith, ap length same)
names_grown (n ∷ s) ns ms place e = cases (names_grown s) (name_fault ns n) e
  where
    cases : ((ns ms : List ℕ) (place : ℕ) → more_names ns place s ≡ Ok ms → length ms ≡ length ns + length s)
        → (o : Option NameFault)
        → unless_refused place (more_names (ns ++ n ∷ []) (place + 1) s) o ≡ Ok ms
        → length ms ≡ length ns + length (n ∷ s)
    cases grown None h = omega (arith, grown (ns ++ n ∷ []) ms (place + 1) h, length-append ns (n ∷ []))
    cases grown (Some f) h = cc

pub names_length : (place : ℕ) (s ms : List ℕ) → Ok ms ≡ names_answer place s → length ms ≡ length s
names_length place s ms e = cases (leb (length s) 8) refl (sym e)
  where
    cases : (b : Bool) → leb (length s) 8 ≡ b → cond b (more_names [] (place + 1) s) (Err (BadSetup place)) ≡ Ok ms
        → length ms ≡ length s
    cases true is h = omega (arith, names_grown s [] ms (place + 1) h)
    cases false is h = cc
