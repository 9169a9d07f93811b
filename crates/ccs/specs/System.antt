-- Terms over some definitions as a step system: its states are terms, and its steps proper proofs.
use Rattle.std.specs.Prelude.{ℕ, min, Bool, true, false, ◌&&◌, List, [], ◌∷◌, length, is_ok, Some, None, Ok, Err, Option, Result, nat_le, slice_index_or, if◌then◌else◌}
use Rattle.std.specs.Result.{result_err}
use Rattle.steps.specs.declared.label.Label.{Label}
use Rattle.steps.specs.Meaning.{Str, Transitions, Independence}
use Rattle.steps.specs.Laws.{state_limit, step_limit}
use Rattle.ccs.specs.Syntax.{Term, Proof}
use Rattle.ccs.specs.Syntax.Term.{nil}
use Rattle.ccs.specs.Label.{label}
use Rattle.ccs.specs.Spelling.{term_bytes, proof_bytes, sound_term}
use Rattle.ccs.specs.Reading.{read_term, read_proof}
use Rattle.ccs.specs.Improper.{improper, or_else}
use Rattle.ccs.specs.Follow.{plain, follow}
use Rattle.ccs.specs.Residual.{residual, origin}

-- a definition's body, by its number
abbrev pub body_of : List Term → ℕ → Term
body_of ds d = slice_index_or ds d nil

-- no body is a call, and each is a term over n definitions
unfoldable pub sound_bodies : ℕ → List Term → Bool
sound_bodies n [] = true
sound_bodies n (p ∷ ds) = (plain p && sound_term n p) && sound_bodies n ds

-- a proof, if it is proper; else the place of the first improper node
abbrev pub if_proper : Proof → Option ℕ → Result Proof ℕ
if_proper t None = Ok t
if_proper t (Some k) = Err k

-- of a string that is to be a step: it is read as a proof, and has to be proper
abbrev pub proper_only : Result Proof ℕ → Result Proof ℕ
proper_only (Ok t) = if_proper t (improper t)
proper_only (Err k) = Err k

abbrev pub read_step : Str → Result Proof ℕ
read_step x = proper_only (read_proof x)

-- what a proof shows; of a string that is none, silence
abbrev pub label_of : Result Proof ℕ → Label
label_of (Ok t) = record { action = label t }
label_of (Err k) = record { action = 0 }

-- an answer in its bytes
abbrev pub spelled_term : Result Term ℕ → Result Str ℕ
spelled_term (Ok p) = Ok (term_bytes p)
spelled_term (Err k) = Err k

abbrev pub spelled_proof : Option Proof → Option Str
spelled_proof (Some t) = Some (proof_bytes t)
spelled_proof None = None

-- what follows a state by a step; place 0 where one of the strings is none
abbrev pub go_on : List Term → Result Term ℕ → Result Proof ℕ → Result Str ℕ
go_on ds (Ok p) (Ok t) = spelled_term (follow (body_of ds) p t)
go_on ds (Ok p) (Err k) = Err 0
go_on ds (Err k) r = Err 0

-- of two steps, what is asked of their proofs
abbrev pub of_both : (Proof → Proof → Option Proof) → Result Proof ℕ → Result Proof ℕ → Option Str
of_both f (Ok t) (Ok u) = spelled_proof (f t u)
of_both f (Ok t) (Err k) = None
of_both f (Err k) r = None

-- the place of the first byte that fits none; a byte past the limit never does
abbrev pub past : ℕ → Str → Option ℕ → Option ℕ
past limit s (Some k) = Some (min k limit)
past limit s None = if nat_le (length s) limit then None else Some limit

-- the place of a proof's first improper node
abbrev pub improper_of : Result Proof ℕ → Option ℕ
improper_of (Ok t) = improper t
improper_of (Err k) = None

abbrev pub terms_transitions : List Term → Transitions
terms_transitions ds =
    record {
      state = λ s. is_ok (read_term (length ds) s);
      step = λ x. is_ok (read_step x);
      label = λ x. label_of (read_proof x);
      next = λ a x. go_on ds (read_term (length ds) a) (read_step x);
      bad_state = λ s. past state_limit s (result_err (read_term (length ds) s));
      bad_step = λ x.
          or_else (past step_limit x (result_err (read_proof x))) (improper_of (read_proof x));
      hidden = λ x. false;
    }

abbrev pub terms_independence : Independence
terms_independence =
    record {
      left = λ x y. of_both residual (read_step x) (read_step y);
      back = λ x z. of_both origin (read_step x) (read_step z);
    }
