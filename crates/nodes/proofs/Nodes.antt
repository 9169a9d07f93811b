-- The nodes of the strings that are terms or proofs.
use Rattle.std.proofs.Common.{◌≡◌, ℕ, true, ◌∷◌, ◌++◌, length, drop, is_ok, Some, None, Ok, Err, Result, nat_le, sym, refl, ap, ◌∙◌, subst, length-append, arith}
use Rattle.std.proofs.lemmas.Bool.{cond-true, le-leb}
use Rattle.std.proofs.lemmas.List.{take_at, drop_at}
use Rattle.steps.specs.Meaning.{Str}
use Rattle.ccs.specs.Syntax.{Term, Proof}
use Rattle.ccs.specs.Syntax.Term.{nil, prefix, par, sum, restrict, call}
use Rattle.ccs.specs.Syntax.Proof.{act, on_left, on_right, both, choose_left, choose_right, under}
use Rattle.actions.specs.Action.{is_name, is_action}
use Rattle.ccs.specs.Spelling.{term_bytes, sound_term, proof_bytes, sound_proof}
use Rattle.ccs.specs.Reading.{term_byte, proof_byte, read_term, read_proof}
use Rattle.ccs.proofs.Cases.{both_of}
use Rattle.ccs.proofs.TermReading.{term_is_read, read_is_term}
use Rattle.ccs.proofs.ProofReading.{proof_is_read, read_is_proof}
use Rattle.nodes.specs.Whole.{whole, start, split_answer}
use Rattle.nodes.specs.Grammars.{fits_of}
use Rattle.nodes.specs.Nodes.{NodeOfTerm, NodeOfProof, TermNode, ProofNode, ProofsRead, TermsRead}
use Rattle.nodes.specs.Nodes.NodeOfTerm.{Par, Sum}
use Rattle.nodes.specs.Nodes.NodeOfProof.{Both}
use Rattle.nodes.specs.Nodes.TermNode.{no_term, nil_node, prefix_node, par_node, sum_node, restrict_node, call_node}
use Rattle.nodes.specs.Nodes.ProofNode.{no_proof, act_node, left_node, right_node, both_node, choose_left_node, choose_right_node, under_node}
use Rattle.nodes.specs.Shapes.{proof_shape, term_shape, two_parts, on_first}
use Rattle.nodes.proofs.Split.{first_proof, first_term}

-- a string of two is split behind the first
split_at : (s r : Str) (o : Result ℕ ℕ) → o ≡ Ok (length s) → split_answer o (s ++ r) ≡ Some (s, r)
split_at s r o e =
    ap (λ o. split_answer o (s ++ r)) e
    ∙ cond-true (nat_le (length s) (length (s ++ r))) _ None
    (le-leb (length s) (length (s ++ r)) (omega (arith, length-append s r)))
    ∙ ap (λ x. Some (x, drop (length s) (s ++ r))) (take_at s r (length s) refl)
    ∙ ap (λ x. Some (s, x)) (drop_at s r (length s) refl)

proof_node : (t : Proof) → sound_proof t ≡ true → ProofNode (on_first proof_shape (proof_bytes t)) (Ok t)
unfolding proof_bytes sound_proof
proof_node (act a) e = act_node
proof_node (on_left t) e = left_node (proof_is_read t e)
proof_node (on_right t) e = right_node (proof_is_read t e)
proof_node (both t u) e =
    let c = both_of (sound_proof t) (sound_proof u) e in
    subst (λ o. ProofNode (two_parts Both o) (Ok (both t u)))
    (sym (split_at (proof_bytes t) (proof_bytes u) _ (first_proof t c.0 (proof_bytes u))))
    (both_node (proof_is_read t c.0) (proof_is_read u c.1))
proof_node (choose_left t) e = choose_left_node (proof_is_read t e)
proof_node (choose_right t) e = choose_right_node (proof_is_read t e)
proof_node (under m t) e = under_node (proof_is_read t (both_of (is_name m) (sound_proof t) e).1)

-- the node that a proof begins with, and that its parts are proofs
pub proof_first : (s : Str) → is_ok (read_proof s) ≡ true → ProofNode (on_first proof_shape s) (read_proof s)
proof_first s e = go (read_proof s) refl e
  where
    go : (r : Result Proof ℕ) → read_proof s ≡ r → is_ok r ≡ true → ProofNode (on_first proof_shape s) r
    go (Ok t) f e = let h = read_is_proof s t f in
        subst (λ s. ProofNode (on_first proof_shape s) (Ok t)) h.0 (proof_node t h.1)
    go (Err k) f e = absurd (cc e)

pub no_shape : {A : Type 0} {r : Result Proof ℕ} → is_ok r ≡ true → ProofNode None r → A
no_shape e no_proof = absurd (cc e)

pub proof_parts_read : {n : NodeOfProof} {r : Result Proof ℕ} → ProofNode (Some n) r → ProofsRead n
proof_parts_read act_node = tt
proof_parts_read (left_node e) = ap is_ok e
proof_parts_read (right_node e) = ap is_ok e
proof_parts_read (both_node e f) = (ap is_ok e, ap is_ok f)
proof_parts_read (choose_left_node e) = ap is_ok e
proof_parts_read (choose_right_node e) = ap is_ok e
proof_parts_read (under_node e) = ap is_ok e

-- two parts stand behind their node, so the first of them begins there
pub both_begin : (z : Str) (k : ℕ) (s : Str) → is_ok (read_proof z) ≡ true → z ≡ k ∷ s → k ≡ 0x13
    → is_ok (whole (fits_of proof_byte) start s) ≡ true
both_begin z k s e f g = go (whole (fits_of proof_byte) start s)
    (subst (λ z. ProofNode (on_first proof_shape z) (read_proof z)) (f ∙ ap (λ k. k ∷ s) g) (proof_first z e))
  where
    go : (r : Result ℕ ℕ) → ProofNode (two_parts Both (split_answer r s)) (read_proof (0x13 ∷ s)) → is_ok r ≡ true
    go (Ok n) h = refl
    go (Err p) h = no_shape (ap (λ z. is_ok (read_proof z)) (sym (f ∙ ap (λ k. k ∷ s) g)) ∙ e) h

module _ (n : ℕ) where
  term_node : (p : Term) → sound_term n p ≡ true → TermNode n (on_first (term_shape n) (term_bytes p)) (Ok p)
  unfolding term_bytes sound_term
  term_node nil e = nil_node
  term_node (prefix a p) e = prefix_node (term_is_read n p (both_of (is_action a) (sound_term n p) e).1)
  term_node (par p q) e =
      let c = both_of (sound_term n p) (sound_term n q) e in
      subst (λ o. TermNode n (two_parts Par o) (Ok (par p q)))
      (sym (split_at (term_bytes p) (term_bytes q) _ (first_term n p c.0 (term_bytes q))))
      (par_node (term_is_read n p c.0) (term_is_read n q c.1))
  term_node (sum p q) e =
      let c = both_of (sound_term n p) (sound_term n q) e in
      subst (λ o. TermNode n (two_parts Sum o) (Ok (sum p q)))
      (sym (split_at (term_bytes p) (term_bytes q) _ (first_term n p c.0 (term_bytes q))))
      (sum_node (term_is_read n p c.0) (term_is_read n q c.1))
  term_node (restrict m p) e = restrict_node (term_is_read n p (both_of (is_name m) (sound_term n p) e).1)
  term_node (call d) e = call_node

  -- the node that a term begins with, and that its parts are terms
  pub term_first : (s : Str) → is_ok (read_term n s) ≡ true → TermNode n (on_first (term_shape n) s) (read_term n s)
  term_first s e = go (read_term n s) refl e
    where
      go : (r : Result Term ℕ) → read_term n s ≡ r → is_ok r ≡ true → TermNode n (on_first (term_shape n) s) r
      go (Ok p) f e = let h = read_is_term n s p f in
          subst (λ s. TermNode n (on_first (term_shape n) s) (Ok p)) h.0 (term_node p h.1)
      go (Err k) f e = absurd (cc e)

  pub no_term_shape : {A : Type 0} {r : Result Term ℕ} → is_ok r ≡ true → TermNode n None r → A
  no_term_shape e no_term = absurd (cc e)

  pub term_parts_read : {o : NodeOfTerm} {r : Result Term ℕ} → TermNode n (Some o) r → TermsRead n o
  term_parts_read nil_node = tt
  term_parts_read (prefix_node e) = ap is_ok e
  term_parts_read (par_node e f) = (ap is_ok e, ap is_ok f)
  term_parts_read (sum_node e f) = (ap is_ok e, ap is_ok f)
  term_parts_read (restrict_node e) = ap is_ok e
  term_parts_read call_node = tt

  -- two parts stand behind their node, so the first of them begins there
  pub par_begins : (z : Str) (k : ℕ) (s : Str) → is_ok (read_term n z) ≡ true → z ≡ k ∷ s → k ≡ 0x02
      → is_ok (whole (fits_of (term_byte n)) start s) ≡ true
  par_begins z k s e f g = go (whole (fits_of (term_byte n)) start s)
      (subst (λ z. TermNode n (on_first (term_shape n) z) (read_term n z)) (f ∙ ap (λ k. k ∷ s) g) (term_first z e))
    where
      go : (r : Result ℕ ℕ) → TermNode n (two_parts Par (split_answer r s)) (read_term n (0x02 ∷ s)) → is_ok r ≡ true
      go (Ok n) h = refl
      go (Err p) h = no_term_shape (ap (λ z. is_ok (read_term n z)) (sym (f ∙ ap (λ k. k ∷ s) g)) ∙ e) h

  pub sum_begins : (z : Str) (k : ℕ) (s : Str) → is_ok (read_term n z) ≡ true → z ≡ k ∷ s → k ≡ 0x03
      → is_ok (whole (fits_of (term_byte n)) start s) ≡ true
  sum_begins z k s e f g = go (whole (fits_of (term_byte n)) start s)
      (subst (λ z. TermNode n (on_first (term_shape n) z) (read_term n z)) (f ∙ ap (λ k. k ∷ s) g) (term_first z e))
    where
      go : (r : Result ℕ ℕ) → TermNode n (two_parts Sum (split_answer r s)) (read_term n (0x03 ∷ s)) → is_ok r ≡ true
      go (Ok n) h = refl
      go (Err p) h = no_term_shape (ap (λ z. is_ok (read_term n z)) (sym (f ∙ ap (λ k. k ∷ s) g)) ∙ e) h
