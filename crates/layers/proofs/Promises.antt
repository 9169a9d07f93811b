-- What masks and renamings promise holds over every step system.
use Rattle.std.proofs.Common.{◌≡◌, ℕ, ◌+◌, Bool, true, false, cond, not, ◌&&◌, ◌||◌, ◌⊎◌, ◌↔◌, inl, inr, List, [], ◌∷◌, nat_eq, is_some, Some, None, Ok, Err, Option, Result, refl, sym, ap, subst, ◌∙◌, arith}
use Rattle.std.proofs.lemmas.Bool.{and_parts, cond-false, false≢true, eqb-true, eqb-false}
use Rattle.std.proofs.lemmas.List.Elements.{Contains-append_left, Contains-append_right, Contains-append_cases, Contains-push_cases}
use Rattle.std.specs.List.{Contains}
use Rattle.actions.specs.declared.pairs.Pair.{Pair}
use Rattle.actions.specs.Action.{is_name, name_of}
use Rattle.actions.specs.Names.{all_names, hides}
use Rattle.actions.specs.Pairs.{to_of, sound_pairs, replacement}
use Rattle.actions.proofs.Listed.{contains_one, finds, name_found, hides_listed, at_least, at_most, shown}
use Rattle.actions.proofs.Paired.{listed, to_name, renames_names}
use Rattle.steps.specs.declared.label.Label.{Label}
use Rattle.steps.specs.declared.fault.MaskFault.{MaskFault}
use Rattle.steps.specs.Answers.{first, step_refusal, hidden_refusal}
use Rattle.steps.proofs.Answered.{ok_not_err, some_not_none}
use Rattle.steps.specs.Meaning.{Str, Transitions, Independence}
use Rattle.layers.specs.Mask.{stops, mask_transitions, mask_independence}
use Rattle.layers.specs.Renaming.{renamed_label, renaming_transitions}
use Rattle.layers.specs.Laws.MaskLaws.{mask_laws}
use Rattle.layers.specs.Laws.RenamingLaws.{renaming_laws}
use Rattle.layers.specs.Promises.{Shows, ShowsListed, Renames, MaskedSteps, RenamedLabels, renamed_answer, RenamingAnswers, MaskedRenamed, NothingListed, LawsKept}

-- a listed name or the co-name of one is hidden, and nothing else
pub hides_from : (ns : List ℕ) (a : ℕ) → all_names ns ≡ true → ShowsListed ns a → hides ns a ≡ true
hides_from ns a names (n, has, shows) =
    (hides_listed ns a names).1 (n, name_found ns n names (finds ns n has), has, shows)

pub hides_to : (ns : List ℕ) (a : ℕ) → all_names ns ≡ true → hides ns a ≡ true → ShowsListed ns a
hides_to ns a names h = let l = (hides_listed ns a names).0 h in (l.0, l.2, l.3)

hides_not : (ns : List ℕ) (a : ℕ) → all_names ns ≡ true → hides ns a ≡ false → ShowsListed ns a → ⊥
hides_not ns a names h l = false≢true (sym h ∙ hides_from ns a names l)

pub shows_not : (ns : List ℕ) (a : ℕ) → all_names ns ≡ true → (ShowsListed ns a → ⊥) → hides ns a ≡ false
shows_not ns a names none = go (hides ns a) refl
  where
    go : (b : Bool) → hides ns a ≡ b → b ≡ false
    go true e = absurd (none (hides_to ns a names e))
    go false e = refl

hides_silent : (ns : List ℕ) (a : ℕ) → all_names ns ≡ true → a ≡ 0 → hides ns a ≡ false
hides_silent ns a names zero = shows_not ns a names none
  where
    none : ShowsListed ns a → ⊥
    none (n, has, inl e) = let some = at_least n (name_found ns n names (finds ns n has)) in
        omega (arith, some, e, zero)
    none (n, has, inr e) = omega (arith, e, zero)

-- a test in front of an answer
behind_step : (h s : Bool) → (cond h false s ≡ true) ↔ ((s ≡ true) × (h ≡ false))
behind_step true s = (λ e. absurd (false≢true e), λ p. absurd (false≢true (sym p.1)))
behind_step false s = (λ e. (e, refl), λ p. p.0)

pub nothing_listed : (t : Transitions) (i : Independence) → NothingListed t i
nothing_listed t i = record { mask = refl; independence = refl; renaming = refl }

pub laws_kept : (ns : List ℕ) (ps : List Pair) (t : Transitions) (i : Independence) → LawsKept ns ps t i
laws_kept ns ps t i = record { mask = λ l. mask_laws ns t i l; renaming = λ l. renaming_laws ps t i l }

behind_move : (h : Bool) (r : Result Str ℕ) (b : Str) → (cond h (Err 0) r ≡ Ok b) ↔ ((r ≡ Ok b) × (h ≡ false))
behind_move true r b = (λ e. ok_not_err b 0 (sym e), λ p. absurd (false≢true (sym p.1)))
behind_move false r b = (λ e. (e, refl), λ p. p.0)

behind_left : (h k : Bool) (o : Option Str) (z : Str)
    → (cond (h || k) None o ≡ Some z) ↔ ((o ≡ Some z) × (h ≡ false) × (k ≡ false))
behind_left true k o z = (λ e. some_not_none z (sym e), λ p. absurd (false≢true (sym p.1)))
behind_left false true o z = (λ e. some_not_none z (sym e), λ p. absurd (false≢true (sym p.2)))
behind_left false false o z = (λ e. (e, refl, refl), λ p. p.0)

module _ (ns : List ℕ) (names : all_names ns ≡ true) (t : Transitions) where
  stays_step : (x : Str)
      → ((mask_transitions ns t).step x ≡ true) ↔ ((t.step x ≡ true) × (ShowsListed ns (t.label x).action → ⊥))
  stays_step x =
      let b = behind_step (stops ns t x) (t.step x) in (
        λ e. let p = b.0 e in (p.0, hides_not ns (t.label x).action names p.1),
        λ p. b.1 (p.0, shows_not ns (t.label x).action names p.1),
      )

  stays_move : (a x b : Str)
      → ((mask_transitions ns t).next a x ≡ Ok b) ↔ ((t.next a x ≡ Ok b) × (ShowsListed ns (t.label x).action → ⊥))
  stays_move a x y =
      let b = behind_move (stops ns t x) (t.next a x) y in (
        λ e. let p = b.0 e in (p.0, hides_not ns (t.label x).action names p.1),
        λ p. b.1 (p.0, shows_not ns (t.label x).action names p.1),
      )

  stays_left : (i : Independence) (x y z : Str)
      → ((mask_independence ns t i).left x y ≡ Some z)
      ↔ ((i.left x y ≡ Some z) × (ShowsListed ns (t.label x).action → ⊥) × (ShowsListed ns (t.label y).action → ⊥))
  stays_left i x y z =
      let b = behind_left (stops ns t x) (stops ns t y) (i.left x y) z in (
        λ e. let p = b.0 e in
            (p.0, hides_not ns (t.label x).action names p.1, hides_not ns (t.label y).action names p.2),
        λ p. b.1 (p.0, shows_not ns (t.label x).action names p.1, shows_not ns (t.label y).action names p.2),
      )

  pub masked_steps : (i : Independence) → MaskedSteps ns t i
  masked_steps i =
      record {
        steps = stays_step;
        silent = λ x zero. cond-false (stops ns t x) false (t.step x) (hides_silent ns (t.label x).action names zero);
        moves = stays_move;
        rests = stays_left i;
        states = refl;
        labels = refl;
      }

-- an action shows a name, or does not
shows_or_not : (a n : ℕ) → Shows a n ⊎ (Shows a n → ⊥)
shows_or_not a n = go (nat_eq a n) refl (nat_eq a (n + 64)) refl
  where
    go : (b : Bool) → nat_eq a n ≡ b → (c : Bool) → nat_eq a (n + 64) ≡ c → Shows a n ⊎ (Shows a n → ⊥)
    go true e c f = inl (inl (eqb-true a n e))
    go false e true f = inl (inr (eqb-true a (n + 64) f))
    go false e false f = inr (λ shows. elim shows [ inl g ↦ eqb-false a n e g | inr g ↦ eqb-false a (n + 64) f g ])

-- a pair has the name that it shows, or none has
pair_or_none : (qs : List Pair) (a : ℕ)
    → ((p : Pair) × Contains qs p × Shows a p.from) ⊎ ((p : Pair) → Contains qs p → Shows a p.from → ⊥)
pair_or_none [] a = inr (λ p has shows. omega (arith, has.1))
pair_or_none (q ∷ qs) a = go (shows_or_not a q.from) (pair_or_none qs a)
  where
    none_of_all : (Shows a q.from → ⊥) → ((p : Pair) → Contains qs p → Shows a p.from → ⊥) → (p : Pair)
        → Contains (q ∷ qs) p → Shows a p.from → ⊥
    none_of_all not_first none p has shows =
        elim (Contains-append_cases (q ∷ []) qs p has) [
          | inl first ↦ elim (Contains-push_cases [] q p first) [
            | inl (k, below, at) ↦ absurd (omega (arith, below))
            | inr e ↦ not_first (subst (λ r. Shows a r.from) (sym e) shows)
          ]
          | inr later ↦ none p later shows
        ]

    go : Shows a q.from ⊎ (Shows a q.from → ⊥)
        → ((p : Pair) × Contains qs p × Shows a p.from) ⊎ ((p : Pair) → Contains qs p → Shows a p.from → ⊥)
        → ((p : Pair) × Contains (q ∷ qs) p × Shows a p.from) ⊎ ((p : Pair) → Contains (q ∷ qs) p → Shows a p.from → ⊥)
    go (inl shows) rest = inl (q, Contains-append_left (q ∷ []) qs q (contains_one q q refl), shows)
    go (inr not_first) (inl (p, has, shows)) = inl (p, Contains-append_right (q ∷ []) qs p has, shows)
    go (inr not_first) (inr none) = inr (none_of_all not_first none)

-- what shows a pair's name is the name or its co-name
label_same : (ps : List Pair) (l : Label) → replacement ps l.action ≡ l.action → renamed_label ps l ≡ l
label_same ps l e = ap (λ a. record l { action = a }) e

-- the first of sound pairs replaces a name, and the others are sound
first_of_sound : (p : Pair) (ps : List Pair) → sound_pairs (p ∷ ps) ≡ true
    → (is_name p.from ≡ true) × (sound_pairs ps ≡ true)
first_of_sound p ps h =
    let parts = and_parts (is_name p.from && is_name p.to) (not (is_some (to_of ps p.from)) && sound_pairs ps) h in (
      (and_parts (is_name p.from) (is_name p.to) parts.0).0,
      (and_parts (not (is_some (to_of ps p.from))) (sound_pairs ps) parts.1).1,
    )

-- what has a pair is a name
from_name : (ps : List Pair) (n m : ℕ) → sound_pairs ps ≡ true → to_of ps n ≡ Some m → is_name n ≡ true
from_name [] n m sound e = some_not_none m (sym e)
from_name (p ∷ ps) n m sound e =
    elim (nat_eq p.from n) as (λ b. nat_eq p.from n ≡ b → cond b (Some p.to) (to_of ps n) ≡ Some m → is_name n ≡ true) [
      | true ↦ λ same e. ap is_name (sym (eqb-true p.from n same)) ∙ (first_of_sound p ps sound).0
      | false ↦ λ other e. from_name ps n m (first_of_sound p ps sound).1 e
    ] refl e

module _ (ps : List Pair) (sound : sound_pairs ps ≡ true) where
  has_name : (p : Pair) → Contains ps p → is_name p.from ≡ true
  has_name p has = from_name ps p.from p.to sound (listed ps p sound has)

  gives_name : (p : Pair) → Contains ps p → is_name p.to ≡ true
  gives_name p has = to_name ps p.from p.to sound (listed ps p sound has)

  renamed_other : (a : ℕ) → ((p : Pair) → Contains ps p → Shows a p.from → ⊥) → replacement ps a ≡ a
  renamed_other a none = (renames_names ps sound).others a
      (λ p has e. none p has (shows_of a p.from (has_name p has) e))
    where
      shows_of : (a n : ℕ) → is_name n ≡ true → n ≡ name_of a → Shows a n
      shows_of a n name e = elim
          (shown a (ap is_name (sym e) ∙ name)) [ inl h ↦ inl (h ∙ sym e) | inr h ↦ inr (h ∙ ap (λ k. k + 64) (sym e)) ]

  renamed_name : (a : ℕ) (p : Pair) → Contains ps p → a ≡ p.from → replacement ps a ≡ p.to
  renamed_name a p has e = ap (replacement ps) e ∙ ((renames_names ps sound).listed p has).0

  renamed_co_name : (a : ℕ) (p : Pair) → Contains ps p → a ≡ p.from + 64 → replacement ps a ≡ p.to + 64
  renamed_co_name a p has e = ap (replacement ps) e ∙ ((renames_names ps sound).listed p has).1

  pub renames_exactly : (a c : ℕ) → (replacement ps a ≡ c) ↔ Renames ps a c
  renames_exactly a c = (to, from)
    where
      paired : (p : Pair) → Contains ps p → Shows a p.from → replacement ps a ≡ c → Renames ps a c
      paired p has (inl e) h = Renames.name p has e (sym h ∙ renamed_name a p has e)
      paired p has (inr e) h = Renames.co_name p has e (sym h ∙ renamed_co_name a p has e)

      by_pair : ((p : Pair) × Contains ps p × Shows a p.from) ⊎ ((p : Pair) → Contains ps p → Shows a p.from → ⊥)
          → replacement ps a ≡ c → Renames ps a c
      by_pair (inl (p, has, shows)) h = paired p has shows h
      by_pair (inr none) h = Renames.other none (sym h ∙ renamed_other a none)

      to : replacement ps a ≡ c → Renames ps a c
      to h = by_pair (pair_or_none ps a) h

      from : Renames ps a c → replacement ps a ≡ c
      from (Renames.name p has e f) = renamed_name a p has e ∙ sym f
      from (Renames.co_name p has e f) = renamed_co_name a p has e ∙ sym f
      from (Renames.other none f) = renamed_other a none ∙ sym f

  pub renamed_labels : (t : Transitions) → RenamedLabels ps t
  renamed_labels t =
      record {
        names = λ x p has e. renamed_name (t.label x).action p has e;
        co_names = λ x p has e. renamed_co_name (t.label x).action p has e;
        others = λ x none. label_same ps (t.label x) (renamed_other (t.label x).action none);
        shown = λ x c. renames_exactly (t.label x).action c;
        steps = refl;
        moves = refl;
      }

  -- what a paired action becomes is listed where the other name of the pair is
  pair_listed : (ns : List ℕ) (a : ℕ) (p : Pair) → all_names ns ≡ true → Contains ps p → Shows a p.from
      → ShowsListed ns (replacement ps a) ↔ Contains ns p.to
  pair_listed ns a p names has (inl e) = (to, λ l. (p.to, l, inl is))
    where
      is : replacement ps a ≡ p.to
      is = renamed_name a p has e

      to : ShowsListed ns (replacement ps a) → Contains ns p.to
      to (n, l, inl h) = subst (Contains ns) (sym h ∙ is) l
      to (n, l, inr h) = let low = at_most p.to (gives_name p has) in absurd (omega (arith, low, h, is))
  pair_listed ns a p names has (inr e) = (to, λ l. (p.to, l, inr is))
    where
      is : replacement ps a ≡ p.to + 64
      is = renamed_co_name a p has e

      to : ShowsListed ns (replacement ps a) → Contains ns p.to
      to (n, l, inl h) = let low = at_most n (name_found ns n names (finds ns n l)) in
          absurd (omega (arith, low, h, is))
      to (n, l, inr h) = subst (Contains ns) (omega (arith, h, is)) l

  pub masked_renamed : (ns : List ℕ) (t : Transitions) → all_names ns ≡ true → MaskedRenamed ns ps t
  masked_renamed ns t names =
      record {
        paired = λ x p has s.
            let b = stays_step ns names (renaming_transitions ps t) x in
            let l = pair_listed ns (t.label x).action p names has s in (
              λ e. let q = b.0 e in (q.0, λ h. q.1 (l.1 h)),
              λ q. b.1 (q.0, λ h. q.1 (l.0 h)),
            );
        others = λ x none.
            let b = stays_step ns names (renaming_transitions ps t) x in
            let same = renamed_other (t.label x).action none in (
              λ e. let q = b.0 e in (q.0, λ h. q.1 (subst (ShowsListed ns) (sym same) h)),
              λ q. b.1 (q.0, λ h. q.1 (subst (ShowsListed ns) same h)),
            );
      }

-- a label behind the refusals of its step; nothing else speaks of labels
pub renaming_answers : (ps : List Pair) (t : Transitions) (i : Independence) →
    RenamingAnswers ps t i (renaming_transitions ps t) i
renaming_answers ps t i =
    record {
      state = λ s. refl;
      step = λ x. refl;
      label = λ x. behind (step_refusal t x) (hidden_refusal t x) (t.label x);
      next = λ a x n. refl;
      independent = λ x y. refl;
      residual = λ x y n. refl;
      back = λ x z n. refl;
    }
  where
    behind : (o h : Option MaskFault) (l : Label)
        → first o (first h (Ok (renamed_label ps l))) ≡ renamed_answer ps (first o (first h (Ok l)))
    behind (Some f) h l = refl
    behind None (Some f) l = refl
    behind None None l = refl
