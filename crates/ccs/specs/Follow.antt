-- Which term follows by a proof, and which nodes of the proof do not fit.
use Rattle.std.specs.Prelude.{◌≡◌, ℕ, suc, ◌+◌, Bool, true, false, length, Ok, Err, Result, nat_eq, IsTrue, if◌then◌else◌}
use Rattle.ccs.specs.Syntax.{Term, Proof}
use Rattle.ccs.specs.Syntax.Term.{nil, prefix, par, sum, restrict, call}
use Rattle.ccs.specs.Syntax.Proof.{act, on_left, on_right, both, choose_left, choose_right, under}
use Rattle.ccs.specs.Spelling.{proof_bytes}

-- the proof's first node fits the term's
pub data Suits : Term → Proof → Type 0 where
  action : {a b : ℕ} {p : Term} → a ≡ b → Suits (prefix a p) (act b)
  left_side : {p q : Term} {t : Proof} → Suits (par p q) (on_left t)
  right_side : {p q : Term} {t : Proof} → Suits (par p q) (on_right t)
  both_sides : {p q : Term} {t u : Proof} → Suits (par p q) (both t u)
  left_branch : {p q : Term} {t : Proof} → Suits (sum p q) (choose_left t)
  right_branch : {p q : Term} {t : Proof} → Suits (sum p q) (choose_right t)
  restriction : {n m : ℕ} {p : Term} {t : Proof} → n ≡ m → Suits (restrict n p) (under m t)

-- a term that is no call
abbrev pub plain : Term → Bool
plain nil = true
plain (prefix a p) = true
plain (par p q) = true
plain (sum p q) = true
plain (restrict n p) = true
plain (call d) = false

-- The node at this place, from 0, of the proof's bytes does not fit the term that it comes to.
pub data MisfitAt (body : ℕ → Term) : Term → Proof → ℕ → Type 0 where
  here : {p : Term} {t : Proof}
      → IsTrue (plain p)
      → (Suits p t → ⊥)
      → MisfitAt body p t 0
  on_the_left : {p q : Term} {t : Proof} {k : ℕ}
      → MisfitAt body p t k
      → MisfitAt body (par p q) (on_left t) (suc k)
  on_the_right : {p q : Term} {t : Proof} {k : ℕ}
      → MisfitAt body q t k
      → MisfitAt body (par p q) (on_right t) (suc k)
  in_first : {p q : Term} {t u : Proof} {k : ℕ}
      → MisfitAt body p t k
      → MisfitAt body (par p q) (both t u) (suc k)
  in_second : {p q : Term} {t u : Proof} {k j : ℕ}
      → MisfitAt body q u k
      → j ≡ suc (length (proof_bytes t) + k)
      → MisfitAt body (par p q) (both t u) j
  in_left_branch : {p q : Term} {t : Proof} {k : ℕ}
      → MisfitAt body p t k
      → MisfitAt body (sum p q) (choose_left t) (suc k)
  in_right_branch : {p q : Term} {t : Proof} {k : ℕ}
      → MisfitAt body q t k
      → MisfitAt body (sum p q) (choose_right t) (suc k)
  in_restriction : {n m : ℕ} {p : Term} {t : Proof} {k : ℕ}
      → n ≡ m
      → MisfitAt body p t k
      → MisfitAt body (restrict n p) (under m t) (suc (suc k))
  in_body : {d : ℕ} {t : Proof} {k : ℕ}
      → MisfitAt body (body d) t k
      → MisfitAt body (call d) t k

-- a call stands for the body of its definition
abbrev pub unfold_call : (ℕ → Term) → Term → Term
unfold_call body nil = nil
unfold_call body (prefix a p) = prefix a p
unfold_call body (par p q) = par p q
unfold_call body (sum p q) = sum p q
unfold_call body (restrict n p) = restrict n p
unfold_call body (call d) = body d

-- on a term of one shape; the proof's first node does not fit any other
abbrev pub on_prefix : Term → (ℕ → Term → Result Term ℕ) → Result Term ℕ
on_prefix (prefix a p) f = f a p
on_prefix p f = Err 0

abbrev pub on_par : Term → (Term → Term → Result Term ℕ) → Result Term ℕ
on_par (par p q) f = f p q
on_par p f = Err 0

abbrev pub on_sum : Term → (Term → Term → Result Term ℕ) → Result Term ℕ
on_sum (sum p q) f = f p q
on_sum p f = Err 0

abbrev pub on_restrict : Term → (ℕ → Term → Result Term ℕ) → Result Term ℕ
on_restrict (restrict n p) f = f n p
on_restrict p f = Err 0

-- around what a part becomes; a misfit there is so many bytes further on
abbrev pub around : ℕ → (Term → Term) → Result Term ℕ → Result Term ℕ
around n f (Ok p) = Ok (f p)
around n f (Err k) = Err (n + k)

-- both sides go on; the second proof stands n bytes behind the first one's start
abbrev pub both_sides_go : ℕ → Result Term ℕ → Result Term ℕ → Result Term ℕ
both_sides_go n (Ok p) (Ok q) = Ok (par p q)
both_sides_go n (Ok p) (Err k) = Err (suc n + k)
both_sides_go n (Err k) r = Err (1 + k)

-- the term that follows, or the place of the first node that does not fit
unfoldable pub follow : (ℕ → Term) → Term → Proof → Result Term ℕ
follow body p (act b) =
    on_prefix (unfold_call body p) (λ a q. if nat_eq a b then Ok q else Err 0)
follow body p (on_left t) =
    on_par (unfold_call body p) (λ q r. around 1 (λ q'. par q' r) (follow body q t))
follow body p (on_right t) =
    on_par (unfold_call body p) (λ q r. around 1 (λ r'. par q r') (follow body r t))
follow body p (both t u) =
    on_par (unfold_call body p)
    (λ q r. both_sides_go (length (proof_bytes t)) (follow body q t) (follow body r u))
follow body p (choose_left t) =
    on_sum (unfold_call body p) (λ q r. around 1 (λ q'. q') (follow body q t))
follow body p (choose_right t) =
    on_sum (unfold_call body p) (λ q r. around 1 (λ r'. r') (follow body r t))
follow body p (under m t) =
    on_restrict (unfold_call body p)
    (λ n q. if nat_eq n m then around 2 (restrict n) (follow body q t) else Err 0)
