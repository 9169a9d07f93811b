-- The term that a call stands for.
use Rattle.std.proofs.Common.{◌≡◌, ℕ, zero, suc, ◌-◌, ◌≤◌, true, not, List, [], ◌∷◌, ◌++◌, length, map, replicate, is_ok, is_some, Some, None, Ok, Option, Result, slice_index_or, sym, refl, ap, ◌∙◌, subst}
use Rattle.std.specs.List.{slice_get}
use Rattle.steps.specs.Meaning.{Str}
use Rattle.ccs.specs.Syntax.{Term}
use Rattle.ccs.specs.Syntax.Term.{nil}
use Rattle.ccs.specs.Reading.{read_term}
use Rattle.ccs.specs.System.{body_of}
use Rattle.ccs.proofs.Cases.{both_of}
use Rattle.nodes.specs.Nodes.{NodeOfTerm, TermNode, called_of}
use Rattle.nodes.specs.Nodes.NodeOfTerm.{Nil}
use Rattle.nodes.specs.Nodes.TermNode.{nil_node, prefix_node, par_node, sum_node, restrict_node, call_node}
use Rattle.terms.specs.Bodies.{body_fault, sound_bodies_of, body_in, terms_in}
use Rattle.terms.specs.Laws.Sound.{length_terms, is_body, body_is}
use Rattle.terms.specs.Follow.{plain_read, plain_term}

idle : (k d : ℕ) → slice_index_or (replicate k nil) d nil ≡ nil
idle zero d = refl
idle (suc k) zero = refl
idle (suc k) (suc d) = idle k d

-- a definition whose body is still to come, and one whose body is there
past_all : (n k : ℕ) (ss : List Str) (d : ℕ) → None ≡ slice_get ss d
    → slice_index_or (map (body_in n) ss ++ replicate k nil) d nil ≡ nil
past_all n k [] d e = idle k d
past_all n k (s ∷ ss) zero e = absurd (cc e)
past_all n k (s ∷ ss) (suc d) e = past_all n k ss d e

among : (n k : ℕ) (ss : List Str) (d : ℕ) (s : Str) → Some s ≡ slice_get ss d
    → slice_index_or (map (body_in n) ss ++ replicate k nil) d nil ≡ body_in n s
among n k [] d s e = absurd (cc e)
among n k (r ∷ ss) zero s e = let same : s ≡ r = cc e in ap (body_in n) (sym same)
among n k (r ∷ ss) (suc d) s e = among n k ss d s e

sound_at : (n : ℕ) (ss : List Str) (d : ℕ) (s : Str) → sound_bodies_of n ss ≡ true → Some s ≡ slice_get ss d
    → not (is_some (body_fault n s)) ≡ true
unfolding sound_bodies_of
sound_at n [] d s e h = absurd (cc h)
sound_at n (r ∷ ss) zero s e h =
    let same : s ≡ r = cc h in ap (λ s. not (is_some (body_fault n s))) same ∙ (both_of _ _ e).0
sound_at n (r ∷ ss) (suc d) s e h =
    sound_at n ss d s (both_of (not (is_some (body_fault n r))) (sound_bodies_of n ss) e).1 h

-- the body of a definition is a term
pub body_read : (n : ℕ) (ss : List Str) (d : ℕ) (s : Str) → sound_bodies_of n ss ≡ true → Some s ≡ slice_get ss d
    → is_ok (read_term n s) ≡ true
body_read n ss d s e h = ap is_ok (is_body n s (sound_at n ss d s e h)).1

module _ (n : ℕ) (ss : List Str) (few : length ss ≤ n) (a : Str) where
  is_unfolded : plain_read (terms_in n ss) (read_term n a) ≡ plain_term (terms_in n ss) a
  is_unfolded = ap (λ m. plain_read (terms_in n ss) (read_term m a)) (sym (length_terms n ss few))

  -- a term that is no call
  pub own_node : {o : NodeOfTerm} → TermNode n (Some o) (read_term n a) → None ≡ called_of o
      → TermNode n (Some o) (plain_term (terms_in n ss) a)
  own_node {o = o} h e = subst (TermNode n (Some o)) is_unfolded (go h e)
    where
      go : {o : NodeOfTerm} {r : Result Term ℕ} → TermNode n (Some o) r → None ≡ called_of o
          → TermNode n (Some o) (plain_read (terms_in n ss) r)
      go nil_node e = nil_node
      go (prefix_node h) e = prefix_node h
      go (par_node h g) e = par_node h g
      go (sum_node h g) e = sum_node h g
      go (restrict_node h) e = restrict_node h
      go call_node e = absurd (cc e)

  -- a call
  calls : {o : NodeOfTerm} (d : ℕ) → TermNode n (Some o) (read_term n a) → Some d ≡ called_of o
      → plain_term (terms_in n ss) a ≡ Ok (body_of (terms_in n ss) d)
  calls d h e = sym is_unfolded ∙ go h e
    where
      go : {o : NodeOfTerm} {r : Result Term ℕ} → TermNode n (Some o) r → Some d ≡ called_of o
          → plain_read (terms_in n ss) r ≡ Ok (body_of (terms_in n ss) d)
      go nil_node e = absurd (cc e)
      go (prefix_node h) e = absurd (cc e)
      go (par_node h g) e = absurd (cc e)
      go (sum_node h g) e = absurd (cc e)
      go (restrict_node h) e = absurd (cc e)
      go (call_node {d = c}) e = let same : d ≡ c = cc e in ap (λ c. Ok (body_of (terms_in n ss) c)) (sym same)

  pub idle_node : {o : NodeOfTerm} (d : ℕ) → TermNode n (Some o) (read_term n a) → Some d ≡ called_of o
      → None ≡ slice_get ss d → TermNode n (Some Nil) (plain_term (terms_in n ss) a)
  idle_node d h e past = subst (TermNode n (Some Nil))
      (sym (calls d h e ∙ ap Ok (past_all n (n - length ss) ss d past))) nil_node

  pub body_node : {o : NodeOfTerm} {v : Option NodeOfTerm} (d : ℕ) (s : Str) → TermNode n (Some o) (read_term n a)
      → Some d ≡ called_of o → sound_bodies_of n ss ≡ true → Some s ≡ slice_get ss d
      → TermNode n v (read_term n s) → TermNode n v (plain_term (terms_in n ss) a)
  body_node {v = v} d s h e sound at g =
      let b = is_body n s (sound_at n ss d s sound at) in
      subst (TermNode n v)
      (b.1 ∙ ap Ok (sym (among n (n - length ss) ss d s at ∙ body_is n s b.0 b.1)) ∙ sym (calls d h e)) g
