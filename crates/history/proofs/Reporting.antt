-- What sheets report where a call is accepted. Assumes the laws of a step system where it says so.
use Rattle.std.proofs.Common.{◌≡◌, ℕ, suc, ◌+◌, ◌-◌, ◌≤◌, ◌≢◌, Bool, true, false, cond, ltb, leb, min, List, [], ◌∷◌, ◌++◌, length, take, set, None, Ok, Err, Result, sym, refl, ap, ◌∙◌, subst, arith}
use Rattle.std.proofs.lemmas.List.{take-take, take_more_set, take-append-drop}
use Rattle.std.proofs.lemmas.Bool.{cond-true, le-leb, leb-true, ltb-true}
use Rattle.steps.specs.declared.fault.MaskFault.{MaskFault}
use Rattle.steps.specs.declared.fault.MaskFault.TheVariants.{Inner}
use Rattle.steps.specs.declared.fault.SystemFault.TheVariants.{StateTooLong}
use Rattle.steps.specs.Meaning.{Str, Transitions, Independence}
use Rattle.steps.specs.Laws.{Laws}
use Rattle.steps.specs.Answers.{next_answer, fitting_state, told_length}
use Rattle.steps.proofs.Answered.{ok_not_err, fits_ok, next_ok, state_ok}
use Rattle.runs.specs.Run.{Run}
use Rattle.runs.specs.Run.Run.{stays, goes}
use Rattle.runs.proofs.Runs.{run_none, run_end_unique, run_start_state, run_snoc}
use Rattle.joins.specs.Steps.{ShortSteps}
use Rattle.bench.specs.declared.fault.BenchFault.{BenchFault}
use Rattle.bench.specs.declared.fault.BenchFault.TheVariants.{WrongStanding, System, Full, NoSuchStep}
use Rattle.bench.specs.declared.sheet.Standing.{Standing}
use Rattle.bench.specs.declared.sheet.Standing.TheVariants.{Blank, Open, Released}
use Rattle.bench.specs.Page.{Page, steps_of}
use Rattle.bench.specs.Replay.{replayed, end_answer}
use Rattle.bench.specs.Calls.{Done, Outcome, then, from_system, when_open, when_released, added, withdrawn}
use Rattle.bench.specs.Print.{sheet_text, printed}
use Rattle.bench.specs.Look.{when_begun, looked}
use Rattle.bench.proofs.Following.{starts}
use Rattle.bench.proofs.Replayed.{replayed_short}
use Rattle.bench.proofs.Looking.{looked_back}
use Rattle.history.specs.History.{Sheet, Ends}
use Rattle.history.specs.History.Sheet.{blank, holds}
use Rattle.history.specs.Views.{page_view}
use Rattle.history.specs.Reports.{first_steps, Replays, Shows, SheetsReport}
use Rattle.history.proofs.Paths.{Path, path_split, path_followed, path_short, next_within, next_state}
use Rattle.history.proofs.Paths.Path.{here, along}
use Rattle.history.proofs.Replays.{replayed_start, replayed_path, replayed_run, path_replayed, state_told_ok}

-- what an accepted call has passed
then_ok_is : {A B : Type 0} (r : Result A BenchFault) (k : A → Result B BenchFault) (d : B) → then r k ≡ Ok d → (a : A) × (r ≡ Ok a) × (k a ≡ Ok d)
then_ok_is (Ok a) k d e = (a, refl, e)
then_ok_is (Err f) k d e = ok_not_err d f (sym e)

from_system_is : (r : Result Str MaskFault) (b : Str) → from_system r ≡ Ok b → r ≡ Ok b
from_system_is (Ok a) b e = let same : a ≡ b = cc in ap Ok same
from_system_is (Err f) b e = ok_not_err b (System f) (sym e)

either_is : (c : Bool) (o : Outcome) (f : BenchFault) (d : Done) → cond c o (Err f) ≡ Ok d → (c ≡ true) × (o ≡ Ok d)
either_is true o f d e = (refl, e)
either_is false o f d e = ok_not_err d f (sym e)

done_is : (c d : Done) → ◌≡◌ {A = Outcome} (Ok c) (Ok d) → c ≡ d
done_is c d e = cc

module _ (p : Page) (o : Outcome) (d : Done) where
  open_is : when_open p o ≡ Ok d → (p.standing ≡ Open) × (o ≡ Ok d)
  open_is e = go p.standing e
    where
      go : (s : Standing) → elim s as (λ _. Outcome) [ Blank ↦ Err (WrongStanding 1) | Open ↦ o | Released ↦ Err (WrongStanding 1) ] ≡ Ok d → (s ≡ Open) × (o ≡ Ok d)
      go Blank e = ok_not_err d (WrongStanding 1) (sym e)
      go Open e = (refl, e)
      go Released e = ok_not_err d (WrongStanding 1) (sym e)

  released_is : when_released p o ≡ Ok d → (p.standing ≡ Released) × (o ≡ Ok d)
  released_is e = go p.standing e
    where
      go : (s : Standing) → elim s as (λ _. Outcome) [ Blank ↦ Err (WrongStanding 1) | Open ↦ Err (WrongStanding 1) | Released ↦ o ] ≡ Ok d → (s ≡ Released) × (o ≡ Ok d)
      go Blank e = ok_not_err d (WrongStanding 1) (sym e)
      go Open e = ok_not_err d (WrongStanding 1) (sym e)
      go Released e = (refl, e)

  begun_is : when_begun p o ≡ Ok d → (p.standing ≡ Blank → ⊥) × (o ≡ Ok d)
  begun_is e = go p.standing e
    where
      go : (s : Standing) → elim s as (λ _. Outcome) [ Blank ↦ Err (WrongStanding 1) | Open ↦ o | Released ↦ o ] ≡ Ok d → (s ≡ Blank → ⊥) × (o ≡ Ok d)
      go Blank e = ok_not_err d (WrongStanding 1) (sym e)
      go Open e = ((λ n. cc), e)
      go Released e = ((λ n. cc), e)

-- a sheet that is not blank holds its page's start and steps
view_held : (p : Page) → (p.standing ≡ Blank → ⊥) → page_view p ≡ holds p.start (steps_of p)
view_held p h = go p.standing h
  where
    go : (s : Standing) → (s ≡ Blank → ⊥) → elim s as (λ _. Sheet) [ Blank ↦ blank | Open ↦ holds p.start (steps_of p) | Released ↦ holds p.start (steps_of p) ] ≡ holds p.start (steps_of p)
    go Blank n = absurd (n refl)
    go Open n = refl
    go Released n = refl

not_blank : (p : Page) → page_view p ≢ blank → p.standing ≡ Blank → ⊥
not_blank p h e = h (ap (λ (s : Standing). elim s as (λ _. Sheet) [ Blank ↦ blank | Open ↦ holds p.start (steps_of p) | Released ↦ holds p.start (steps_of p) ]) e)

held_not_blank : (a : Str) (xs : List Str) (s : Sheet) → s ≡ holds a xs → s ≢ blank
held_not_blank a xs s e n = cc (e, n)

-- a run whose steps and states are within the limits is a path
module _ {t : Transitions} {i : Independence} (laws : Laws t i) where
  steps_are : (xs : List Str) (a b : Str) → Run t a xs b → ((front : List Str) (x : Str) (rest : List Str) → xs ≡ front ++ x ∷ rest → length x ≤ 64) → ShortSteps t xs
  steps_are [] a b r h = tt
  steps_are (x ∷ xs) a b (goes {b = c} n r) h = (((laws.leads a x c n).1, h [] x xs refl), steps_are xs c b r (λ front y rest e. h (x ∷ front) y rest (ap (λ l. x ∷ l) e)))

  short_is : (front : List Str) (x : Str) (rest xs : List Str) → ShortSteps t xs → xs ≡ front ++ x ∷ rest → length x ≤ 64
  short_is front x rest xs s e = at front (subst (ShortSteps t) e s)
    where
      at : (front : List Str) → ShortSteps t (front ++ x ∷ rest) → length x ≤ 64
      at [] s = s.0.1
      at (y ∷ front) s = at front s.1

  run_path : (xs : List Str) (a b : Str) → t.bad_state a ≡ None → ShortSteps t xs → Run t a xs b → ((m : ℕ) (c : Str) → Run t a (take m xs) c → length c ≤ 256) → Path t a xs b
  run_path [] a b s short r h = subst (λ c. Path t a [] c) (run_none t r) here
  run_path (x ∷ xs) a b s short (goes {b = c} n r) h =
      let fits = h 1 c (goes n (stays (laws.leads a x c n).2)) in
      along (next_within laws a x c short.0 s n fits) (run_path xs c b (next_state laws a x c n fits) short.1 r (λ m d q. h (suc m) d (goes n q)))

  replays_is : (a : Str) (xs : List Str) → Replays t a xs → (b : Str) × (replayed t a xs ≡ Ok b)
  replays_is a xs w =
      let start = (laws.state_refusals a).1 (run_start_state laws w.leads.1, w.states 0 a (stays (run_start_state laws w.leads.1))) in
      let path = run_path xs a w.leads.0 start (steps_are xs a w.leads.0 w.leads.1 w.steps) w.leads.1 w.states in
      (w.leads.0, sym (starts t a xs (Ok w.leads.0) (state_told_ok t a start) (sym (path_followed t path 1))))

  is_replays : (a : Str) (xs : List Str) (b : Str) → replayed t a xs ≡ Ok b → Replays t a xs
  is_replays a xs b e = record {
    leads = (b, (replayed_run laws a xs b e).0);
    states = path_short laws (state_ok t a (replayed_start t a xs b e).0) (replayed_path t a xs b e);
    steps = λ front x rest is. short_is front x rest xs (replayed_short laws a xs b e) is;
  }

  -- what a sheet that is not blank ends in
  ends_in : (p : Page) (b : Str) → (p.standing ≡ Blank → ⊥) → Run t p.start (steps_of p) b → Ends t (page_view p) b
  ends_in p b h r = subst (λ s. Ends t s b) (sym (view_held p h)) r

  first_ends_in : (p : Page) (k : ℕ) (b : Str) → (p.standing ≡ Blank → ⊥) → Run t p.start (take k (steps_of p)) b → Ends t (first_steps k (page_view p)) b
  first_ends_in p k b h r = subst (λ s. Ends t (first_steps k s) b) (sym (view_held p h)) r

  first_end_is : (p : Page) (k : ℕ) (b : Str) → (p.standing ≡ Blank → ⊥) → Ends t (first_steps k (page_view p)) b → Run t p.start (take k (steps_of p)) b
  first_end_is p k b h r = subst (λ s. Ends t (first_steps k s) b) (view_held p h) r

  -- a look that is accepted
  record Seen (k n : ℕ) (p : Page) (d : Done) : Type 0 where
    pub begun : p.standing ≡ Blank → ⊥
    pub end : (z : Str) × (end_answer t p ≡ Ok z)
    pub there : k ≤ p.len
    pub first : replayed t p.start (take k (steps_of p)) ≡ Ok d.answer
    pub fits : length d.answer ≤ n
    pub same : d.page ≡ p

  seen : (k n : ℕ) (p : Page) (d : Done) → looked t k n p ≡ Ok d → Seen k n p d
  seen k n p d e =
      let one = begun_is p _ d e in
      let two = then_ok_is (end_answer t p) _ d one.1 in
      let three = either_is (leb k p.len) _ (NoSuchStep k) d two.2 in
      let four = then_ok_is (replayed t p.start (take k p.rows)) _ d three.1 in
      let five = then_ok_is (from_system (fitting_state four.0 n)) _ d four.2 in
      let fits = fits_ok four.0 five.0 n (from_system_is (fitting_state four.0 n) five.0 five.1) in
      let there : k ≤ p.len = leb-true k p.len three.0 in
      let answer : four.0 ≡ d.answer = fits.0 ∙ cc in
      let page : d.page ≡ p = cc in
      record {
        begun = one.0;
        end = (two.0, two.1);
        there = there;
        first = ap (replayed t p.start) (take-take k p.len p.rows there) ∙ four.1 ∙ ap Ok answer;
        fits = subst (λ b. length b ≤ n) answer fits.1;
        same = page;
      }

  pub looks : (k n : ℕ) (p : Page) (d : Done) → looked t k n p ≡ Ok d → Ends t (first_steps k (page_view p)) d.answer × (d.page ≡ p)
  looks k n p d e =
      let s = seen k n p d e in
      (first_ends_in p k d.answer s.begun (replayed_run laws p.start (take k (steps_of p)) d.answer s.first).0, s.same)

  pub looks_at_all : (n : ℕ) (p : Page) (d : Done) → looked t p.len n p ≡ Ok d → Ends t (page_view p) d.answer
  looks_at_all n p d e =
      let s = seen p.len n p d e in
      ends_in p d.answer s.begun (subst (λ xs. Run t p.start xs d.answer) (take-take p.len p.len p.rows (omega arith)) (replayed_run laws p.start (take p.len (steps_of p)) d.answer s.first).0)

  shown : (k n : ℕ) (p : Page) (b : Str) → looked t k n p ≡ Ok (record { answer = b; page = p }) → Shows t k n p b
  shown k n p b e =
      let s = seen k n p _ e in
      (held_not_blank p.start (steps_of p) (page_view p) (view_held p s.begun), is_replays p.start (steps_of p) s.end.0 s.end.1, s.there, (looks k n p _ e).0, s.fits)

  shows : (k n : ℕ) (p : Page) (b : Str) → Shows t k n p b → looked t k n p ≡ Ok (record { answer = b; page = p })
  shows k n p b w =
      let begun = not_blank p w.0 in
      let xs = steps_of p in
      let end = replays_is p.start xs w.1 in
      let path = subst (λ ys. Path t p.start ys end.0) (sym (take-append-drop k xs)) (replayed_path t p.start xs end.0 end.1) in
      let halves = path_split t (take k xs) path in
      let half = path_replayed t p.start xs end.0 (take k xs) halves.0 end.1 halves.1 in
      let same : halves.0 ≡ b = run_end_unique t (replayed_run laws p.start (take k xs) halves.0 half).0 (first_end_is p k b begun w.3) in
      let first : Ok b ≡ replayed t p.start (take k p.rows) = ap Ok (sym same) ∙ sym half ∙ ap (replayed t p.start) (take-take k p.len p.rows w.2) in
      let short : length b ≤ 256 = w.1.states k b (first_end_is p k b begun w.3) in
      looked_back t k n p begun end.0 (sym end.1) w.2 b first b
      (cond-true (leb (length b) (min n 256)) (Ok b) (Err (Inner (StateTooLong (told_length (length b))))) (le-leb _ _ (omega (arith, short, w.4))))

  pub prints : (n : ℕ) (p : Page) (d : Done) → printed t n p ≡ Ok d → (b : Str) × Ends t (page_view p) b × (d.answer ≡ sheet_text t p b) × (d.page ≡ p)
  prints n p d e =
      let one = released_is p _ d e in
      let two = then_ok_is (end_answer t p) _ d one.1 in
      let three = either_is (leb (length (sheet_text t p two.0)) n) _ _ d two.2 in
      let begun : p.standing ≡ Blank → ⊥ = λ b. cc (b, one.0) in
      let answer : d.answer ≡ sheet_text t p two.0 = cc in
      let page : d.page ≡ p = cc in
      (two.0, ends_in p two.0 begun (replayed_run laws p.start (steps_of p) two.0 two.1).0, answer, page)

  pub adds : (x : Str) (n : ℕ) (p : Page) (d : Done) → added t x n p ≡ Ok d → Run t p.start (steps_of p ++ x ∷ []) d.answer × (length p.rows ≡ 32 → page_view d.page ≡ holds p.start (steps_of p ++ x ∷ []))
  adds x n p d e =
      let one = open_is p _ d e in
      let two = then_ok_is (end_answer t p) _ d one.1 in
      let three = either_is (ltb p.len 32) _ Full d two.2 in
      let four = then_ok_is (from_system (next_answer t two.0 x n)) _ d three.1 in
      let next = from_system_is (next_answer t two.0 x n) four.0 four.1 in
      let run = run_snoc laws (replayed_run laws p.start (steps_of p) two.0 two.1).0 (next_ok t two.0 x four.0 n next).leads in
      let done = done_is _ d four.2 in
      let grown : length p.rows ≡ 32 → take (p.len + 1) (set p.rows p.len x) ≡ steps_of p ++ x ∷ [] = λ long. take_more_set p.rows p.len x (omega (arith, long, ltb-true p.len 32 three.0)) in
      (subst (λ c. Run t p.start (steps_of p ++ x ∷ []) c.answer) done run, λ long. subst (λ c. page_view c.page ≡ holds p.start (steps_of p ++ x ∷ [])) done (ap (holds p.start) (grown long)))

  pub withdrawals : (n : ℕ) (p : Page) (d : Done) → withdrawn t n p ≡ Ok d → Ends t (page_view d.page) d.answer
  withdrawals n p d e =
      let one = open_is p _ d e in
      let two = then_ok_is (end_answer t p) _ d one.1 in
      let three = either_is (ltb 0 p.len) _ (NoSuchStep 0) d two.2 in
      let four = then_ok_is (replayed t p.start (take (p.len - 1) p.rows)) _ d three.1 in
      let five = then_ok_is (from_system (fitting_state four.0 n)) _ d four.2 in
      let fits = fits_ok four.0 five.0 n (from_system_is (fitting_state four.0 n) five.0 five.1) in
      let run : Run t p.start (take (p.len - 1) p.rows) five.0 = subst (λ b. Run t p.start (take (p.len - 1) p.rows) b) fits.0 (replayed_run laws p.start (take (p.len - 1) p.rows) four.0 four.1).0 in
      subst (λ c. Ends t (page_view c.page) c.answer) (done_is _ d five.2) run

one_end : (t : Transitions) (s : Sheet) (b c : Str) → Ends t s b → Ends t s c → b ≡ c
one_end t blank b c r q = absurd r
one_end t (holds a xs) b c r q = run_end_unique t r q

pub sheets_report : SheetsReport
sheets_report t i laws = record {
  looks = looks laws;
  looks_at_all = looks_at_all laws;
  looks_where = λ k n p b. (shown laws k n p b, shows laws k n p b);
  prints = prints laws;
  adds = adds laws;
  withdrawals = withdrawals laws;
  one_end = one_end t;
}
