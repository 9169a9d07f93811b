-- The place of the first improper node.
-- By induction on the proof: the node itself is improper, and nothing goes before it; or it is not, and the first is
-- that of its parts, so many bytes further on.
use Rattle.std.proofs.Common.{◌≡◌, ℕ, suc, ◌+◌, ◌<◌, Bool, true, false, ◌&&◌, not, length, Some, None, Option, nat_eq, sym, refl, ap, ◌∙◌, subst, inl, inr, ◌⊎◌, length-append, arith}
use Rattle.ccs.specs.Syntax.{Proof}
use Rattle.ccs.specs.Syntax.Proof.{act, on_left, on_right, both, choose_left, choose_right, under}
use Rattle.actions.specs.Action.{name_of, complementary}
use Rattle.ccs.specs.Label.{label, proper}
use Rattle.ccs.specs.Spelling.{proof_bytes}
use Rattle.ccs.specs.First.{First, FirstIf}
use Rattle.ccs.specs.Improper.{ImproperAt, further, or_else, improper}
use Rattle.ccs.specs.Improper.ImproperAt.{apart, shown, in_left, in_right, in_first, in_second, in_chosen_left, in_chosen_right, in_under}
use Rattle.ccs.proofs.Cases.{cond_case}
use Rattle.ccs.proofs.First.{first_of_two, at_start, one_further, two_further, part_at}

within : {t : Proof} {k : ℕ} → ImproperAt t k → k < length (proof_bytes t)
unfolding proof_bytes
within (apart e) = omega arith
within (shown e) = omega arith
within (in_left i) = omega (arith, within i)
within (in_right i) = omega (arith, within i)
within (in_first {t = t} {u = u} i) = omega (arith, within i, length-append (proof_bytes t) (proof_bytes u))
within (in_second {t = t} {u = u} i e) = omega (arith, within i, e, length-append (proof_bytes t) (proof_bytes u))
within (in_chosen_left i) = omega (arith, within i)
within (in_chosen_right i) = omega (arith, within i)
within (in_under i) = omega (arith, within i)

-- what a rule's conclusion says of its premise
from_left : {t : Proof} (j : ℕ) → ImproperAt (on_left t) j → (k : ℕ) × (j ≡ 1 + k) × ImproperAt t k
from_left j (in_left i) = (_, omega arith, i)

from_right : {t : Proof} (j : ℕ) → ImproperAt (on_right t) j → (k : ℕ) × (j ≡ 1 + k) × ImproperAt t k
from_right j (in_right i) = (_, omega arith, i)

from_chosen_left : {t : Proof} (j : ℕ) → ImproperAt (choose_left t) j → (k : ℕ) × (j ≡ 1 + k) × ImproperAt t k
from_chosen_left j (in_chosen_left i) = (_, omega arith, i)

from_chosen_right : {t : Proof} (j : ℕ) → ImproperAt (choose_right t) j → (k : ℕ) × (j ≡ 1 + k) × ImproperAt t k
from_chosen_right j (in_chosen_right i) = (_, omega arith, i)

from_under : {n : ℕ} {t : Proof} → nat_eq (name_of (label t)) n ≡ false → (j : ℕ) → ImproperAt (under n t) j
    → (k : ℕ) × (j ≡ 2 + k) × ImproperAt t k
from_under e j (shown f) = absurd (cc (sym e ∙ f))
from_under e j (in_under i) = (_, omega arith, i)

from_both : {t u : Proof} → complementary (label t) (label u) ≡ true → (j : ℕ) → ImproperAt (both t u) j
    → ((k : ℕ) × (j ≡ 1 + k) × ImproperAt t k) ⊎ ((k : ℕ) × (j ≡ suc (length (proof_bytes t)) + k) × ImproperAt u k)
from_both e j (apart f) = absurd (cc (sym e ∙ f))
from_both e j (in_first i) = inl (_, omega arith, i)
from_both e j (in_second i f) = inr (_, omega (arith, f), i)

pub improper_first : (t : Proof) → FirstIf (ImproperAt t) (improper t)
unfolding improper
improper_first (act a) = λ j i. elim i [ ]
improper_first (on_left t) =
    one_further (ImproperAt t) (ImproperAt (on_left t)) (λ k i. in_left i) from_left
    (improper t) (improper_first t)
improper_first (on_right t) =
    one_further (ImproperAt t) (ImproperAt (on_right t)) (λ k i. in_right i) from_right
    (improper t) (improper_first t)
improper_first (both t u) =
    cond_case (FirstIf (ImproperAt (both t u))) (complementary (label t) (label u)) _ _
    (λ e. first_of_two (ImproperAt t) (ImproperAt u) (ImproperAt (both t u)) (length (proof_bytes t)) (λ k i. within i)
    (λ k i. in_first i) (λ k j f i. in_second i f) (from_both e)
    (improper t) (improper u) (improper_first t) (improper_first u))
    (λ e. at_start (ImproperAt (both t u)) (apart e))
improper_first (choose_left t) =
    one_further (ImproperAt t) (ImproperAt (choose_left t)) (λ k i. in_chosen_left i) from_chosen_left
    (improper t) (improper_first t)
improper_first (choose_right t) =
    one_further (ImproperAt t) (ImproperAt (choose_right t)) (λ k i. in_chosen_right i) from_chosen_right
    (improper t) (improper_first t)
improper_first (under n t) =
    cond_case (FirstIf (ImproperAt (under n t))) (nat_eq (name_of (label t)) n) _ _
    (λ e. at_start (ImproperAt (under n t)) (shown e))
    (λ e. two_further (ImproperAt t) (ImproperAt (under n t)) (λ k i. in_under i) (from_under e)
    (improper t) (improper_first t))

-- no node of a proper proof is improper, and only of a proper one none is
none : Option ℕ → Bool
none (Some k) = false
none None = true

none_further : (n : ℕ) (o : Option ℕ) → none (further n o) ≡ none o
unfolding none
none_further n (Some k) = refl
none_further n None = refl

none_or_else : (o p : Option ℕ) → none (or_else o p) ≡ (none o && none p)
unfolding none
none_or_else (Some k) p = refl
none_or_else None p = refl

proper_none : (t : Proof) → none (improper t) ≡ proper t
unfolding improper proper none
proper_none (act a) = refl
proper_none (on_left t) = none_further 1 (improper t) ∙ proper_none t
proper_none (on_right t) = none_further 1 (improper t) ∙ proper_none t
proper_none (both t u) =
    cond_case (λ o. none o ≡ (complementary (label t) (label u) && (proper t && proper u)))
    (complementary (label t) (label u)) _ _
    (λ e. rw (
      none_or_else (further 1 (improper t)) (further (suc (length (proof_bytes t))) (improper u)),
      none_further 1 (improper t),
      none_further (suc (length (proof_bytes t))) (improper u),
      proper_none t,
      proper_none u,
      e,
    ) refl)
    (λ e. rw e refl)
proper_none (choose_left t) = none_further 1 (improper t) ∙ proper_none t
proper_none (choose_right t) = none_further 1 (improper t) ∙ proper_none t
proper_none (under n t) =
    cond_case (λ o. none o ≡ (not (nat_eq (name_of (label t)) n) && proper t)) (nat_eq (name_of (label t)) n) _ _
    (λ e. rw e refl)
    (λ e. rw (e, none_further 2 (improper t)) (proper_none t))

pub none_is_proper : (t : Proof) → improper t ≡ None → proper t ≡ true
unfolding none
none_is_proper t e = sym (proper_none t) ∙ ap none e

pub proper_is_none : (t : Proof) → proper t ≡ true → improper t ≡ None
unfolding none
proper_is_none t e = go (improper t) (proper_none t ∙ e)
  where
    go : (o : Option ℕ) → none o ≡ true → o ≡ None
    go (Some k) f = absurd (cc f)
    go None f = refl
