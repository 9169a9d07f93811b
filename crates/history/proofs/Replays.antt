-- A replay that ends, and the path and run that it goes along. Assumes the laws of a step system where it says so.
use Rattle.std.proofs.Common.{◌≡◌, leb, List, [], ◌∷◌, ◌++◌, length, Some, None, Ok, Err, Option, Result, sym, refl, ap}
use Rattle.std.proofs.lemmas.Bool.{cond-true, le-leb}
use Rattle.steps.specs.declared.fault.MaskFault.{MaskFault}
use Rattle.steps.specs.declared.fault.MaskFault.TheVariants.{Inner}
use Rattle.steps.specs.declared.fault.SystemFault.TheVariants.{NoState, StateTooLong}
use Rattle.steps.specs.Meaning.{Str, Transitions, Independence}
use Rattle.steps.specs.Laws.{Laws}
use Rattle.steps.specs.Answers.{first, state_answer, next_answer, fitting_state, told_length}
use Rattle.steps.proofs.Answered.{ok_not_err, state_ok}
use Rattle.runs.specs.Run.{Run}
use Rattle.bench.specs.declared.fault.BenchFault.{BenchFault}
use Rattle.bench.specs.declared.fault.BenchFault.TheVariants.{Stopped}
use Rattle.bench.specs.Replay.{followed, replayed}
use Rattle.bench.proofs.Following.{starts}
use Rattle.history.proofs.Paths.{Path, path_append, path_split, path_step, followed_path, path_followed, path_run}
use Rattle.history.proofs.Paths.Path.{here, along}

module _ (t : Transitions) where
  -- a replay that ends started in a state
  pub replayed_start : (a : Str) (xs : List Str) (b : Str) → replayed t a xs ≡ Ok b → (state_answer t a ≡ Ok tt) × (followed t a xs 1 ≡ Ok b)
  replayed_start a xs b e = go (state_answer t a) refl e
    where
      go : (r : Result (Unit {0}) MaskFault) → state_answer t a ≡ r → elim r as (λ _. Result Str BenchFault) [ Ok _ ↦ followed t a xs 1 | Err f ↦ Err (Stopped 0 f) ] ≡ Ok b → (state_answer t a ≡ Ok tt) × (followed t a xs 1 ≡ Ok b)
      go (Ok u) s p = (s, p)
      go (Err f) s p = ok_not_err b (Stopped 0 f) (sym p)

  pub replayed_path : (a : Str) (xs : List Str) (b : Str) → replayed t a xs ≡ Ok b → Path t a xs b
  replayed_path a xs b e = followed_path t xs a 1 b (replayed_start a xs b e).1

  -- what a start replays to, it replays to by every path from there
  pub path_replayed : (a : Str) (xs : List Str) (b : Str) (ys : List Str) (c : Str) → replayed t a xs ≡ Ok b → Path t a ys c → replayed t a ys ≡ Ok c
  path_replayed a xs b ys c e p = sym (starts t a ys (Ok c) (replayed_start a xs b e).0 (sym (path_followed t p 1)))

  pub replayed_none : (a : Str) → state_answer t a ≡ Ok tt → replayed t a [] ≡ Ok a
  replayed_none a s = sym (starts t a [] (Ok a) s refl)

  -- one step more at the end, and one less
  pub replayed_snoc : (a : Str) (xs : List Str) (b x c : Str) → replayed t a xs ≡ Ok b → next_answer t b x 256 ≡ Ok c → replayed t a (xs ++ x ∷ []) ≡ Ok c
  replayed_snoc a xs b x c e n = path_replayed a xs b (xs ++ x ∷ []) c e (path_append t (replayed_path a xs b e) (along n here))

  pub replayed_unsnoc : (a : Str) (xs : List Str) (x c : Str) → replayed t a (xs ++ x ∷ []) ≡ Ok c
      → (b : Str) × (replayed t a xs ≡ Ok b) × (next_answer t b x 256 ≡ Ok c)
  replayed_unsnoc a xs x c e =
      let s = path_split t xs (replayed_path a (xs ++ x ∷ []) c e) in
      (s.0, path_replayed a (xs ++ x ∷ []) c xs s.0 e s.1, path_step t s.2)

  pub state_told_ok : (s : Str) → t.bad_state s ≡ None → state_answer t s ≡ Ok tt
  state_told_ok s e = ap (λ o. first {A = Unit {0}} (elim o as (λ _. Option MaskFault) [ None ↦ None | Some p ↦ Some (Inner (NoState p)) ]) (Ok tt)) e

module _ {t : Transitions} {i : Independence} (laws : Laws t i) where
  -- a replay goes along a run, and its end is within the limit
  pub replayed_run : (a : Str) (xs : List Str) (b : Str) → replayed t a xs ≡ Ok b → Run t a xs b × (t.bad_state b ≡ None)
  replayed_run a xs b e = path_run laws (state_ok t a (replayed_start t a xs b e).0) (replayed_path t a xs b e)

  pub replayed_fits : (a : Str) (xs : List Str) (b : Str) → replayed t a xs ≡ Ok b → fitting_state b 256 ≡ Ok b
  replayed_fits a xs b e = cond-true (leb (length b) 256) (Ok b) (Err (Inner (StateTooLong (told_length (length b))))) (le-leb _ _ ((laws.state_refusals b).0 (replayed_run a xs b e).1).1)
