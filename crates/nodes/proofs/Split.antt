-- How far the first term, or the first proof, of a string goes.
use Rattle.std.proofs.Common.{◌≡◌, ℕ, suc, true, ◌∷◌, ◌++◌, length, Some, Ok, Option, nat_le, sym, refl, ap, ◌∙◌, append_assoc, length-append, arith}
use Rattle.std.proofs.lemmas.Bool.{ltb-true, le-leb}
use Rattle.ccs.specs.declared.node_bytes.TheConstants.{NIL, PREFIX, PARALLEL, SUM, RESTRICTION, CALL, ACT, LEFT, RIGHT, BOTH, CHOOSE_LEFT, CHOOSE_RIGHT, UNDER}
use Rattle.steps.specs.Meaning.{Str}
use Rattle.ccs.specs.Syntax.{Term, Proof}
use Rattle.ccs.specs.Syntax.Term.{nil, prefix, par, sum, restrict, call}
use Rattle.ccs.specs.Syntax.Proof.{act, on_left, on_right, both, choose_left, choose_right, under}
use Rattle.actions.specs.Action.{is_name, is_action}
use Rattle.ccs.specs.Spelling.{term_bytes, sound_term, proof_bytes, sound_proof}
use Rattle.ccs.specs.Reading.{term_byte, proof_byte}
use Rattle.ccs.proofs.Cases.{both_of}
use Rattle.ccs.specs.declared.due.Due.TheVariants.{Node, Action, Name, Number}
use Rattle.nodes.specs.declared.scan.Wanted.{Wanted}
use Rattle.nodes.specs.Whole.{one_on, whole, start, shifted, ahead}
use Rattle.nodes.specs.Grammars.{fits_of}
use Rattle.nodes.proofs.Ahead.{more_due, one_ahead, shifted_ahead, on_byte, last_byte}

module _ (fits : Wanted → ℕ → Option Wanted) where
  -- a node before one part, and before two
  before_part : (w : Wanted) (k b : ℕ) (x s : Str) → fits w b ≡ Some (record { due = Node; count = suc k })
      → whole fits (record { due = Node; count = suc k }) (x ++ s) ≡ ahead fits (length x) k s
      → whole fits w (b ∷ (x ++ s)) ≡ ahead fits (suc (length x)) k s
  before_part w k b x s e h = on_byte fits w (record { due = Node; count = suc k }) b (x ++ s) e (more_due k)
      ∙ ap one_on h ∙ one_ahead fits (length x) k s

  before_parts : (w : Wanted) (k b : ℕ) (x y s : Str) → fits w b ≡ Some (record { due = Node; count = suc (suc k) })
      → ((r : Str) → whole fits (record { due = Node; count = suc (suc k) }) (x ++ r) ≡ ahead fits (length x) (suc k) r)
      → whole fits (record { due = Node; count = suc k }) (y ++ s) ≡ ahead fits (length y) k s
      → whole fits w (b ∷ ((x ++ y) ++ s)) ≡ ahead fits (suc (length (x ++ y))) k s
  unfolding ahead
  before_parts w k b x y s e h g =
      on_byte fits w (record { due = Node; count = suc (suc k) }) b ((x ++ y) ++ s) e (more_due (suc k))
      ∙ ap one_on (ap (whole fits (record { due = Node; count = suc (suc k) })) (append_assoc x y s) ∙ h (y ++ s)
      ∙ ap (shifted (length x)) g ∙ shifted_ahead fits (length x) (length y) k s
      ∙ ap (λ l. ahead fits l k s) (sym (length-append x y)))
      ∙ one_ahead fits (length (x ++ y)) k s

whole_proof : (t : Proof) → sound_proof t ≡ true → (k : ℕ) (s : Str)
    → whole (fits_of proof_byte) (record { due = Node; count = suc k }) (proof_bytes t ++ s)
    ≡ ahead (fits_of proof_byte) (length (proof_bytes t)) k s
unfolding proof_bytes sound_proof proof_byte
whole_proof (act a) e k s =
    on_byte (fits_of proof_byte) (record { due = Node; count = suc k }) (record { due = Action; count = k }) ACT
    (a ∷ s) refl refl
    ∙ ap one_on (last_byte (fits_of proof_byte) (record { due = Action; count = k }) k a s (rw e refl))
    ∙ one_ahead (fits_of proof_byte) 1 k s
whole_proof (on_left t) e k s = before_part (fits_of proof_byte) (record { due = Node; count = suc k }) k LEFT
    (proof_bytes t) s refl (whole_proof t e k s)
whole_proof (on_right t) e k s = before_part (fits_of proof_byte) (record { due = Node; count = suc k }) k RIGHT
    (proof_bytes t) s refl (whole_proof t e k s)
whole_proof (both t u) e k s =
    let c = both_of (sound_proof t) (sound_proof u) e in
    before_parts (fits_of proof_byte) (record { due = Node; count = suc k }) k BOTH (proof_bytes t)
    (proof_bytes u) s refl (whole_proof t c.0 (suc k)) (whole_proof u c.1 k s)
whole_proof (choose_left t) e k s = before_part (fits_of proof_byte)
    (record { due = Node; count = suc k }) k CHOOSE_LEFT (proof_bytes t) s refl (whole_proof t e k s)
whole_proof (choose_right t) e k s = before_part (fits_of proof_byte)
    (record { due = Node; count = suc k }) k CHOOSE_RIGHT (proof_bytes t) s refl (whole_proof t e k s)
whole_proof (under m t) e k s =
    let c = both_of (is_name m) (sound_proof t) e in
    on_byte (fits_of proof_byte) (record { due = Node; count = suc k }) (record { due = Name; count = k }) UNDER
    (m ∷ (proof_bytes t ++ s)) refl refl
    ∙ ap one_on (before_part (fits_of proof_byte) (record { due = Name; count = k }) k m (proof_bytes t) s (rw c.0 refl)
    (whole_proof t c.1 k s)) ∙ one_ahead (fits_of proof_byte) (suc (length (proof_bytes t))) k s

-- a string that begins with a proof is one as far as the proof goes
pub first_proof : (t : Proof) → sound_proof t ≡ true → (s : Str)
    → whole (fits_of proof_byte) start (proof_bytes t ++ s) ≡ Ok (length (proof_bytes t))
unfolding ahead
first_proof t e s = whole_proof t e 0 s

module _ (n : ℕ) where
  whole_term : (p : Term) → sound_term n p ≡ true → (k : ℕ) (s : Str)
      → whole (fits_of (term_byte n)) (record { due = Node; count = suc k }) (term_bytes p ++ s)
      ≡ ahead (fits_of (term_byte n)) (length (term_bytes p)) k s
  unfolding term_bytes sound_term term_byte
  whole_term nil e k s = last_byte (fits_of (term_byte n)) (record { due = Node; count = suc k }) k NIL s refl
  whole_term (prefix a p) e k s =
      let c = both_of (is_action a) (sound_term n p) e in
      on_byte (fits_of (term_byte n)) (record { due = Node; count = suc k }) (record { due = Action; count = k }) PREFIX
      (a ∷ (term_bytes p ++ s)) refl refl
      ∙ ap one_on (before_part (fits_of (term_byte n)) (record { due = Action; count = k }) k a (term_bytes p) s
      (rw c.0 refl) (whole_term p c.1 k s)) ∙ one_ahead (fits_of (term_byte n)) (suc (length (term_bytes p))) k s
  whole_term (par p q) e k s =
      let c = both_of (sound_term n p) (sound_term n q) e in
      before_parts (fits_of (term_byte n)) (record { due = Node; count = suc k }) k PARALLEL (term_bytes p)
      (term_bytes q) s refl (whole_term p c.0 (suc k)) (whole_term q c.1 k s)
  whole_term (sum p q) e k s =
      let c = both_of (sound_term n p) (sound_term n q) e in
      before_parts (fits_of (term_byte n)) (record { due = Node; count = suc k }) k SUM (term_bytes p)
      (term_bytes q) s refl (whole_term p c.0 (suc k)) (whole_term q c.1 k s)
  whole_term (restrict m p) e k s =
      let c = both_of (is_name m) (sound_term n p) e in
      on_byte (fits_of (term_byte n)) (record { due = Node; count = suc k })
      (record { due = Name; count = k }) RESTRICTION (m ∷ (term_bytes p ++ s)) refl refl
      ∙ ap one_on (before_part (fits_of (term_byte n)) (record { due = Name; count = k }) k m (term_bytes p) s
      (rw c.0 refl) (whole_term p c.1 k s)) ∙ one_ahead (fits_of (term_byte n)) (suc (length (term_bytes p))) k s
  whole_term (call d) e k s =
      let o : nat_le 1 n ≡ true = le-leb 1 n (omega (arith, ltb-true d n e)) in
      on_byte (fits_of (term_byte n)) (record { due = Node; count = suc k }) (record { due = Number; count = k }) CALL
      (d ∷ s) (rw o refl) refl
      ∙ ap one_on (last_byte (fits_of (term_byte n)) (record { due = Number; count = k }) k d s (rw e refl))
      ∙ one_ahead (fits_of (term_byte n)) 1 k s

  -- a string that begins with a term is one as far as the term goes
  pub first_term : (p : Term) → sound_term n p ≡ true → (s : Str)
      → whole (fits_of (term_byte n)) start (term_bytes p ++ s) ≡ Ok (length (term_bytes p))
  unfolding ahead
  first_term p e s = whole_term p e 0 s
