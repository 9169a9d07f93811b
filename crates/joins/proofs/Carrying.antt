-- A step carried through a list, one meeting after the other. Assumes the laws of a step system where it says so.
use Rattle.std.proofs.Common.{◌≡◌, ℕ, zero, suc, ◌+◌, ◌<◌, ◌≤◌, List, [], ◌∷◌, ◌++◌, map, length, get_or, take, drop, Some, None, Ok, Err, Option, Result, sym, refl, ap, ◌∙◌, subst, append-nil, arith}
use Rattle.std.proofs.lemmas.List.{at_drop_more, at_drop_all, length_push, get_or_default, take_all}
use Rattle.std.proofs.lemmas.Bool.{true≢false}
use Rattle.std.specs.Result.{IsErr}
use Rattle.steps.specs.Meaning.{Str, Transitions, Independence}
use Rattle.steps.specs.Laws.{Laws}
use Rattle.runs.specs.Join.{meet, Carried, in_front, carry}
use Rattle.runs.specs.Join.Met.{same, passes, hits}
use Rattle.runs.specs.Join.Carried.{clash, gone, kept}
use Rattle.runs.proofs.Carry.{Carries, meet_means, carry_same, carry_passes, carry_hits}
use Rattle.runs.proofs.Carry.Carries.{through, meets, past}
use Rattle.joins.specs.Steps.{ShortStep, ShortSteps}
use Rattle.joins.specs.Carry.{carry_answer}
use Rattle.joins.specs.declared.meet.Clash.{Clash}
use Rattle.joins.specs.declared.meet.Passed.{Passed}
use Rattle.joins.specs.Meet.{meet_answer}
use Rattle.joins.proofs.Asking.{left_short}

-- steps in front of what remains
abbrev pub ahead : List Str → Carried → Carried
ahead [] c = c
ahead (x ∷ q) c = in_front x (ahead q c)

ahead_push : (q : List Str) (x : Str) (c : Carried) → ahead (q ++ x ∷ []) c ≡ ahead q (in_front x c)
ahead_push [] x c = refl
ahead_push (y ∷ q) x c = ap (in_front y) (ahead_push q x c)

ahead_clash : (q : List Str) → ahead q clash ≡ clash
ahead_clash [] = refl
ahead_clash (y ∷ q) = ap (in_front y) (ahead_clash q)

ahead_gone : (q xs : List Str) → ahead q (gone xs) ≡ gone (q ++ xs)
ahead_gone [] xs = refl
ahead_gone (y ∷ q) xs = ap (in_front y) (ahead_gone q xs)

ahead_kept : (q : List Str) (y : Str) (xs : List Str) → ahead q (kept y xs) ≡ kept y (q ++ xs)
ahead_kept [] y xs = refl
ahead_kept (x ∷ q) y xs = ap (in_front x) (ahead_kept q y xs)

-- what comes of a step that is still carried, or gone already
unfoldable pub goes_on : Independence → Option Str → List Str → Carried
goes_on i None xs = gone xs
goes_on i (Some y) xs = carry i y xs

-- a step more that is kept within the room
pub pushed_all : (q q' : List Str) (x : Str) (k n : ℕ) → q' ≡ take 32 (q ++ x ∷ []) → length q ≤ k → k < n → n ≤ 32 → (q' ≡ q ++ x ∷ []) × (length q' ≤ k + 1)
pushed_all q q' x k n e le lt few =
    let size : length (q ++ x ∷ []) ≡ length q + 1 = length_push q x in
    let all : q' ≡ q ++ x ∷ [] = e ∙ take_all 32 (q ++ x ∷ []) (omega arith) in
    (all, omega (arith, ap length all))

module _ (i : Independence) (xs : List Str) (k : ℕ) (q : List Str) (r : Carried) where
  module _ (lt : k < length xs) (x : Str) (at : get_or xs k [] ≡ x) where
    more : (o : Option Str) → ahead q (goes_on i o (drop k xs)) ≡ r → ahead q (goes_on i o (x ∷ drop (k + 1) xs)) ≡ r
    more o inv = ap (λ v. ahead q (goes_on i o (v ∷ drop (k + 1) xs))) (sym at) ∙ sym (at_drop_more (λ ys. ahead q (goes_on i o ys)) xs k [] lt) ∙ inv

    pub after_gone : (q' : List Str) → q' ≡ q ++ x ∷ [] → ahead q (goes_on i None (drop k xs)) ≡ r → ahead q' (goes_on i None (drop (k + 1) xs)) ≡ r
    unfolding goes_on
    after_gone q' e inv = ap (λ p. ahead p (gone (drop (k + 1) xs))) e ∙ ahead_push q x (gone (drop (k + 1) xs)) ∙ more None inv

    pub at_same : (y : Str) → same ≡ meet i y x → ahead q (goes_on i (Some y) (drop k xs)) ≡ r → ahead q (goes_on i None (drop (k + 1) xs)) ≡ r
    unfolding goes_on
    at_same y m inv = sym (ap (ahead q) (carry_same i y x (drop (k + 1) xs) (sym m))) ∙ more (Some y) inv

    pub at_passes : (y y' x' : Str) (q' : List Str) → passes y' x' ≡ meet i y x → q' ≡ q ++ x' ∷ [] → ahead q (goes_on i (Some y) (drop k xs)) ≡ r → ahead q' (goes_on i (Some y') (drop (k + 1) xs)) ≡ r
    unfolding goes_on
    at_passes y y' x' q' m e inv =
        ap (λ p. ahead p (carry i y' (drop (k + 1) xs))) e ∙ ahead_push q x' (carry i y' (drop (k + 1) xs)) ∙ sym (ap (ahead q) (carry_passes i y x y' x' (drop (k + 1) xs) (sym m))) ∙ more (Some y) inv

    pub at_hits : (y : Str) → hits ≡ meet i y x → ahead q (goes_on i (Some y) (drop k xs)) ≡ r → clash ≡ r
    unfolding goes_on
    at_hits y m inv = sym (ahead_clash q) ∙ sym (ap (ahead q) (carry_hits i y x (drop (k + 1) xs) (sym m))) ∙ more (Some y) inv

  module _ (done : length xs ≤ k) where
    pub all_gone : ahead q (goes_on i None (drop k xs)) ≡ r → gone q ≡ r
    unfolding goes_on
    all_gone inv = ap gone (sym (append-nil q)) ∙ sym (ahead_gone q []) ∙ sym (at_drop_all (λ ys. ahead q (gone ys)) xs k done) ∙ inv

    pub all_kept : (y : Str) → ahead q (goes_on i (Some y) (drop k xs)) ≡ r → kept y q ≡ r
    unfolding goes_on carry
    all_kept y inv = ap (kept y) (sym (append-nil q)) ∙ sym (ahead_kept q y []) ∙ sym (at_drop_all (λ ys. ahead q (carry i y ys)) xs k done) ∙ inv

-- steps within the limit stay within it
pub short_at : (t : Transitions) (xs : List Str) (k : ℕ) (d : Str) → ShortSteps t xs → k < length xs → ShortStep t (get_or xs k d)
short_at t [] k d s lt = absurd (omega arith)
short_at t (x ∷ xs) zero d s lt = s.0
short_at t (x ∷ xs) (suc k) d s lt = short_at t xs k d s.1 (omega arith)

-- the element of the list that is read
pub read_at : (xs : List Str) (k : ℕ) (x : Str) → k < length xs → x ≡ get_or xs k x → get_or xs k [] ≡ x
read_at xs k x lt is = get_or_default xs k [] x lt ∙ sym is

pub short_read : (t : Transitions) (xs : List Str) (k : ℕ) (x : Str) → k < length xs → x ≡ get_or xs k x → ShortSteps t xs → ShortStep t x
short_read t xs k x lt is short = subst (ShortStep t) (read_at xs k x lt is) (short_at t xs k [] short lt)

abbrev pub ShortOrGone : Transitions → Option Str → Type 0
ShortOrGone t None = Unit {0}
ShortOrGone t (Some y) = ShortStep t y

module _ {t : Transitions} {i : Independence} (laws : Laws t i) where
  pub passes_short : (y x y' x' : Str) → ShortStep t y → passes y' x' ≡ meet i y x → ShortStep t y'
  passes_short y x y' x' s m = left_short laws y x y' s (rw (sym m) at (meet_means i y x)).0

  pub carries_short : {y : Str} {xs : List Str} {rest : Option Str} {q : List Str} → Carries i y xs rest q → ShortStep t y → ShortSteps t xs → ShortSteps t q
  carries_short through s ss = tt
  carries_short (meets e) s ss = ss.1
  carries_short (past {y = y} {x = x} {y' = y'} {x' = x'} e f c) s ss = (left_short laws x y x' ss.0 f, carries_short c (left_short laws y x y' s e) ss.1)

-- a clash is told as one
pub hits_told : (r : Result (Option Passed) Clash) → IsErr r → hits ≡ meet_answer r
hits_told (Ok p) e = absurd (true≢false (sym e))
hits_told (Err f) e = refl

pub clash_told : (r : Result (Option Str × List Str) Clash) → IsErr r → clash ≡ carry_answer r
clash_told (Ok p) e = absurd (true≢false (sym e))
clash_told (Err f) e = refl

-- The invariant of carrying y through xs: what was passed, in front of going on with the rest, is carrying from the start.
abbrev pub OnTheWay : Transitions → Independence → Str → List Str → List Str → Option Str → ℕ → Type 0
OnTheWay t i y xs q o k = (ahead q (goes_on i o (drop k xs)) ≡ carry i y xs) × (length q ≤ k) × ShortOrGone t o

pub sets_out : (t : Transitions) (i : Independence) (y : Str) (xs q : List Str) → q ≡ [] → ShortStep t y → OnTheWay t i y xs q (Some y) 0
unfolding goes_on
sets_out t i y xs q e s = (ap (λ p. ahead p (carry i y xs)) e, omega (arith, ap length e), s)

module _ {t : Transitions} {i : Independence} (laws : Laws t i) (y : Str) (xs q : List Str) (o : Option Str) (k : ℕ) (inv : OnTheWay t i y xs q o k) where
  pub still_short : (w : Str) → o ≡ Some w → ShortStep t w
  still_short w e = rw e at inv.2

  module _ (few : length xs ≤ 32) (lt : k < length xs) (x : Str) (at : get_or xs k [] ≡ x) where
    pub turn_gone : (q' : List Str) (o' : Option Str) → o ≡ None → q' ≡ take 32 (q ++ x ∷ []) → o' ≡ None → OnTheWay t i y xs q' o' (k + 1)
    turn_gone q' o' was put is =
        let p = pushed_all q q' x k (length xs) put inv.1 lt few in
        rw is (after_gone i xs k q _ lt x at q' p.0 (rw was at inv.0), p.1, tt)

    pub turn_same : (q' : List Str) (o' : Option Str) (w : Str) → o ≡ Some w → same ≡ meet i w x → q' ≡ q → o' ≡ None → OnTheWay t i y xs q' o' (k + 1)
    turn_same q' o' w was m keeps is = rw (is, keeps) (at_same i xs k q _ lt x at w m (rw was at inv.0), omega (arith, inv.1), tt)

    pub turn_passes : (q' : List Str) (o' : Option Str) (w w' x' : Str) → o ≡ Some w → passes w' x' ≡ meet i w x → q' ≡ take 32 (q ++ x' ∷ []) → o' ≡ Some w' → OnTheWay t i y xs q' o' (k + 1)
    turn_passes q' o' w w' x' was m put is =
        let p = pushed_all q q' x' k (length xs) put inv.1 lt few in
        rw is (at_passes i xs k q _ lt x at w w' x' q' m p.0 (rw was at inv.0), p.1, passes_short laws w x w' x' (still_short w was) m)

    pub turn_hits : (w : Str) → o ≡ Some w → hits ≡ meet i w x → clash ≡ carry i y xs
    turn_hits w was m = at_hits i xs k q _ lt x at w m (rw was at inv.0)

  module _ (done : length xs ≤ k) where
    pub ends : carry_answer (Ok (o, q)) ≡ carry i y xs
    ends = go o inv.0
      where
        go : (p : Option Str) → ahead q (goes_on i p (drop k xs)) ≡ carry i y xs → carry_answer (Ok (p, q)) ≡ carry i y xs
        go None e = all_gone i xs k q _ done e
        go (Some w) e = all_kept i xs k q _ done w e
