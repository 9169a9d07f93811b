-- Terms and proofs as bytes.
use Rattle.std.specs.Prelude.{ℕ, Bool, true, ◌&&◌, [], ◌∷◌, ◌++◌, nat_lt}
use Rattle.steps.specs.Meaning.{Str}
use Rattle.ccs.specs.declared.node_bytes.TheConstants.{NIL, PREFIX, PARALLEL, SUM, RESTRICTION, CALL, ACT, LEFT, RIGHT, BOTH, CHOOSE_LEFT, CHOOSE_RIGHT, UNDER}
use Rattle.ccs.specs.Syntax.{Term, Proof}
use Rattle.ccs.specs.Syntax.Term.{nil, prefix, par, sum, restrict, call}
use Rattle.ccs.specs.Syntax.Proof.{act, on_left, on_right, both, choose_left, choose_right, under}
use Rattle.actions.specs.Action.{is_name, is_action}

-- each node's byte, then its action, name or number, then its parts
unfoldable pub term_bytes : Term → Str
term_bytes nil = NIL ∷ []
term_bytes (prefix a p) = PREFIX ∷ a ∷ term_bytes p
term_bytes (par p q) = PARALLEL ∷ term_bytes p ++ term_bytes q
term_bytes (sum p q) = SUM ∷ term_bytes p ++ term_bytes q
term_bytes (restrict n p) = RESTRICTION ∷ n ∷ term_bytes p
term_bytes (call d) = CALL ∷ d ∷ []

unfoldable pub proof_bytes : Proof → Str
proof_bytes (act a) = ACT ∷ a ∷ []
proof_bytes (on_left t) = LEFT ∷ proof_bytes t
proof_bytes (on_right t) = RIGHT ∷ proof_bytes t
proof_bytes (both t u) = BOTH ∷ proof_bytes t ++ proof_bytes u
proof_bytes (choose_left t) = CHOOSE_LEFT ∷ proof_bytes t
proof_bytes (choose_right t) = CHOOSE_RIGHT ∷ proof_bytes t
proof_bytes (under n t) = UNDER ∷ n ∷ proof_bytes t

-- a term over n definitions: its actions are actions, its restricted names are names, and it calls
-- none but these
unfoldable pub sound_term : ℕ → Term → Bool
sound_term n nil = true
sound_term n (prefix a p) = is_action a && sound_term n p
sound_term n (par p q) = sound_term n p && sound_term n q
sound_term n (sum p q) = sound_term n p && sound_term n q
sound_term n (restrict m p) = is_name m && sound_term n p
sound_term n (call d) = nat_lt d n

unfoldable pub sound_proof : Proof → Bool
sound_proof (act a) = is_action a
sound_proof (on_left t) = sound_proof t
sound_proof (on_right t) = sound_proof t
sound_proof (both t u) = sound_proof t && sound_proof u
sound_proof (choose_left t) = sound_proof t
sound_proof (choose_right t) = sound_proof t
sound_proof (under n t) = is_name n && sound_proof t
