-- What the methods answer is the rules' answer. A method answers what the meaning says, or the first refusal; each
-- lemma takes
-- the answer apart by what was read of the step and of the state, and hands over to the law of the meaning.
use Rattle.std.proofs.Common.{◌≡◌, ℕ, ◌<◌, ◌≤◌, ◌↔◌, List, length, take, drop, ◌++◌, min, None, Some, Ok, Err, Option, Result, refl, sym, ap, ap₂, ◌∙◌, subst, ⊎_elim, arith, IsTrue, IsOk, IfOk, is_ok, cond, leb}
use Rattle.std.proofs.lemmas.Bool.{cases_Bool, cond-true, cond-false, le-leb, false≢true}
use Rattle.std.proofs.Math.Seq.{take-append_seam}
use Rattle.std.specs.Result.{result_err}
use Rattle.byte_strings.specs.Buffer.{count, buffer_after}
use Rattle.steps.specs.declared.fault.MaskFault.{MaskFault}
use Rattle.steps.specs.declared.fault.MaskFault.TheVariants.{Inner}
use Rattle.steps.specs.declared.fault.SystemFault.TheVariants.{NoState, NoStep, Impossible, StateTooLong}
use Rattle.steps.specs.Meaning.{Str}
use Rattle.steps.specs.Beginning.{LongestBeginning}
use Rattle.steps.specs.Answers.{first, told_length, state_answer, step_answer, fitting_state, move_answer, next_answer}
use Rattle.nets.specs.declared.event.Event.{Event}
use Rattle.nets.specs.Events.{all_sound}
use Rattle.nets.specs.Marking.{bytes_of, read_marking}
use Rattle.nets.specs.Firing.{fire}
use Rattle.nets.specs.System.{read_event, next_state, spelled_state, net_transitions}
use Rattle.nets.specs.Rules.{AreBytes, IsMarking, IsEvent, NetGoes, Stuck, StepPlace}
use Rattle.nets.proofs.ByRules.{net_states, net_steps, net_moves_by_rule, net_stuck}
use Rattle.nets.proofs.Places.{net_state_places, net_step_places}

-- what is answered of a string that was read, or was not, as a state or a step
abbrev state_told : Result ℕ ℕ → Result (Unit {0}) MaskFault
state_told q = first (elim (result_err q) [ None ↦ None | Some k ↦ Some (Inner (NoState k)) ]) (Ok tt)

abbrev step_told : Result Event ℕ → Result (Unit {0}) MaskFault
step_told q = first (elim (result_err q) [ None ↦ None | Some k ↦ Some (Inner (NoStep k)) ]) (Ok tt)

module _ (es : List Event) where
  pub state_markings : (s : Str) {r : Result (Unit {0}) MaskFault} → r ≡ state_answer (net_transitions es) s
      → IsOk r ↔ IsMarking s
  state_markings s e = rw e (go (read_marking s) (net_states es s))
    where
      go : (q : Result ℕ ℕ) → IsTrue (is_ok q) ↔ IsMarking s → IsOk (state_told q) ↔ IsMarking s
      go (Ok m) h = h
      go (Err k) h = h

  pub state_place : (s : Str) {r : Result (Unit {0}) MaskFault} → r ≡ state_answer (net_transitions es) s → AreBytes s
      → (p : ℕ) → r ≡ Err (Inner (NoState p)) → LongestBeginning IsMarking s p
  state_place s e bytes p h = net_state_places es s p bytes (go (read_marking s) (sym e ∙ h))
    where
      go : (q : Result ℕ ℕ) → state_told q ≡ Err (Inner (NoState p)) → result_err q ≡ Some p
      go (Ok m) h = absurd (cc)
      go (Err k) h = ap Some (cc)

  pub step_place : (x : Str) {r : Result (Unit {0}) MaskFault} → r ≡ step_answer (net_transitions es) x → (p : ℕ)
      → r ≡ Err (Inner (NoStep p)) → StepPlace es x p
  step_place x e p h = net_step_places es x p (go (read_event es x) (sym e ∙ h))
    where
      go : (q : Result Event ℕ) → step_told q ≡ Err (Inner (NoStep p)) → result_err q ≡ Some p
      go (Ok m) h = absurd (cc)
      go (Err k) h = ap Some (cc)

-- a state that fits is the one that is meant
fitting : (b w : Str) (n : ℕ) → fitting_state b n ≡ Ok w → b ≡ w
fitting b w n h =
    ⊎_elim
    (λ t. let same = sym
    (cond-true (leb (length b) (min n 256)) (Ok b) (Err (Inner (StateTooLong (told_length (length b))))) t)
    ∙ h in cc)
    (λ f. let none = sym
    (cond-false (leb (length b) (min n 256)) (Ok b) (Err (Inner (StateTooLong (told_length (length b))))) f)
    ∙ h in absurd (cc))
    (cases_Bool (leb (length b) (min n 256)))

never_impossible : (b : Str) (n p : ℕ) → fitting_state b n ≡ Err (Inner (Impossible p)) → ⊥
never_impossible b n p h =
    ⊎_elim
    (λ t. let same = sym
    (cond-true (leb (length b) (min n 256)) (Ok b) (Err (Inner (StateTooLong (told_length (length b))))) t)
    ∙ h in absurd (cc))
    (λ f. let none = sym
    (cond-false (leb (length b) (min n 256)) (Ok b) (Err (Inner (StateTooLong (told_length (length b))))) f)
    ∙ h in absurd (cc))
    (cases_Bool (leb (length b) (min n 256)))

-- what is answered of an event and a marking that were read, or were not, in a buffer of n bytes
abbrev next_told : Result Event ℕ → Result ℕ ℕ → ℕ → Result Str MaskFault
next_told q p n =
    first (elim (result_err q) [ None ↦ None | Some k ↦ Some (Inner (NoStep k)) ])
    (first (elim (result_err p) [ None ↦ None | Some k ↦ Some (Inner (NoState k)) ]) (move_answer (next_state q p) n))

told_moves : (q : Result Event ℕ) (p : Result ℕ ℕ) (n : ℕ) (b : Str) → next_told q p n ≡ Ok b → next_state q p ≡ Ok b
told_moves (Err k) p n b h = absurd (cc)
told_moves (Ok e) (Err k) n b h = absurd (cc)
told_moves (Ok e) (Ok m) n b h = go (next_state (Ok e) (Ok m)) h
  where
    go : (r : Result Str ℕ) → move_answer r n ≡ Ok b → r ≡ Ok b
    go (Ok w) h = ap Ok (fitting w b n h)
    go (Err k) h = absurd (cc)

-- what is not possible was read on both sides
pub record Unmoved (q : Result Event ℕ) (p : Result ℕ ℕ) (k : ℕ) : Type 0 where
  pub step : IsTrue (is_ok q)
  pub state : IsTrue (is_ok p)
  pub nowhere : next_state q p ≡ Err k

told_stuck : (q : Result Event ℕ) (p : Result ℕ ℕ) (n k : ℕ) → next_told q p n ≡ Err (Inner (Impossible k))
    → Unmoved q p k
told_stuck (Err j) p n k h = absurd (cc)
told_stuck (Ok e) (Err j) n k h = absurd (cc)
told_stuck (Ok e) (Ok m) n k h = record { step = refl; state = refl; nowhere = go (next_state (Ok e) (Ok m)) h }
  where
    go : (r : Result Str ℕ) → move_answer r n ≡ Err (Inner (Impossible k)) → r ≡ Err k
    go (Ok w) h = absurd (never_impossible w n k h)
    go (Err j) h = ap Err (cc)

-- a step and a state that were read are told by what follows
told_read : (q : Result Event ℕ) (p : Result ℕ ℕ) (n : ℕ) → IsTrue (is_ok q) → IsTrue (is_ok p)
    → next_told q p n ≡ move_answer (next_state q p) n
told_read (Err k) p n h i = absurd (false≢true h)
told_read (Ok e) (Err k) n h i = absurd (false≢true i)
told_read (Ok e) (Ok m) n h i = refl

counted : (r : Result Str MaskFault) (f : MaskFault) → count r ≡ Err f → r ≡ Err f
counted (Ok w) f h = absurd (cc)
counted (Err g) f h = ap Err (cc)

written : (P : Str → Type 0) (t : Result Str MaskFault) (out : Str) → ((b : Str) → t ≡ Ok b → P b)
    → IfOk (count t) (λ n. P (take n (buffer_after t out)))
written P (Ok b) out h = subst P (sym (take-append_seam b (drop (length b) out))) (h b refl)
written P (Err f) out h = tt

module _ (es : List Event) (sound : IsTrue (all_sound es)) (a x : Str) (n : ℕ) where
  pub next_moves : (out : Str) {r : Result ℕ MaskFault} {w : Str} → r ≡ count (next_answer (net_transitions es) a x n)
      → w ≡ buffer_after (next_answer (net_transitions es) a x n) out → IfOk r (λ k. NetGoes es a x (take k w))
  next_moves out e f =
      rw (e, f) (written (NetGoes es a x) (next_told (read_event es x) (read_marking a) n) out
      (λ b h. (net_moves_by_rule es sound a x b).0 (told_moves (read_event es x) (read_marking a) n b h)))

  pub next_whole : {r : Result ℕ MaskFault} → r ≡ count (next_answer (net_transitions es) a x n) → (b : Str)
      → NetGoes es a x b → 8 ≤ n → r ≡ Ok 8
  next_whole e b g room =
      let step = (net_steps es x).1 (g.event, g.step) in
      let state = (net_states es a).1 g.start.state in
      let leads = (net_moves_by_rule es sound a x b).1 g in
      let eight : length b ≡ 8 = g.end.state.eight in
      let fits = cond-true (leb (length b) (min n 256)) (Ok b) (Err (Inner (StateTooLong (told_length (length b)))))
      (le-leb (length b) (min n 256) (omega arith)) in
      e ∙ ap count (told_read (read_event es x) (read_marking a) n step state
      ∙ ap (λ (r : Result Str ℕ). move_answer r n) leads ∙ fits) ∙ ap Ok eight

  pub next_stuck : {r : Result ℕ MaskFault} → r ≡ count (next_answer (net_transitions es) a x n)
      → (r ≡ Err (Inner (Impossible 0))) ↔ Stuck es a x
  next_stuck e = (
    λ h.
        let u = told_stuck (read_event es x) (read_marking a) n 0
        (counted (next_told (read_event es x) (read_marking a) n) (Inner (Impossible 0)) (sym e ∙ h)) in
        ((net_stuck es sound a x 0 ((net_states es a).0 u.state) ((net_steps es x).0 u.step)).0 u.nowhere).1,
    λ s.
        let none = (net_stuck es sound a x 0 s.state s.step).1 (refl, s) in
        e ∙ ap count (told_read (read_event es x) (read_marking a) n ((net_steps es x).1 s.step)
        ((net_states es a).1 s.state) ∙ ap (λ (r : Result Str ℕ). move_answer r n) none),
  )
