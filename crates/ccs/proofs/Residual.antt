-- The residual and the origin are those of the rules.
-- By induction on both proofs: an answer is put around the parts' answers by one rule, and where there is none, no rule
-- has the two proofs in its conclusion, or its premise fails by induction.
use Rattle.std.proofs.Common.{◌≡◌, ℕ, Some, None, Option, nat_eq, sym, ap, ◌∙◌, subst}
use Rattle.std.proofs.lemmas.Bool.{eqb-true, eq-eqb}
use Rattle.ccs.specs.Syntax.{Proof}
use Rattle.ccs.specs.Syntax.Proof.{on_left, on_right, both, choose_left, choose_right, under}
use Rattle.ccs.specs.After.{After}
use Rattle.ccs.specs.After.After.{left_right, right_left, left_both, both_left, right_both, both_right, both_both, left_left, right_right, under_under, chosen_left, chosen_right}
use Rattle.ccs.specs.Residual.{inside, in_both, residual, origin}
use Rattle.ccs.proofs.Cases.{cond_case}
use Rattle.ccs.proofs.After.{one_left, one_origin}

-- what an answer says of what is left of t after u
abbrev pub Left : Proof → Proof → Option Proof → Type 0
Left t u (Some t') = (u' : Proof) × After t u t' u'
Left t u None = (t' u' : Proof) → After t u t' u' → ⊥

-- what a rule's conclusion says of its premise
abbrev Independent : Proof → Proof → Type 0
Independent t u = (t' u' : Proof) × After t u t' u'

from_left_both : {t u v v' w' : Proof} → After (on_left t) (both u v) v' w' → Independent t u
from_left_both (left_both a) = (_, _, a)

from_both_left : {t u v v' w' : Proof} → After (both u v) (on_left t) v' w' → Independent u t
from_both_left (both_left a) = (_, _, a)

from_right_both : {t u v v' w' : Proof} → After (on_right t) (both u v) v' w' → Independent t v
from_right_both (right_both a) = (_, _, a)

from_both_right : {t u v v' w' : Proof} → After (both u v) (on_right t) v' w' → Independent v t
from_both_right (both_right a) = (_, _, a)

from_left_left : {t u v' w' : Proof} → After (on_left t) (on_left u) v' w' → Independent t u
from_left_left (left_left a) = (_, _, a)

from_right_right : {t u v' w' : Proof} → After (on_right t) (on_right u) v' w' → Independent t u
from_right_right (right_right a) = (_, _, a)

from_chosen_left : {t u v' w' : Proof} → After (choose_left t) (choose_left u) v' w' → Independent t u
from_chosen_left (chosen_left a) = (_, _, a)

from_chosen_right : {t u v' w' : Proof} → After (choose_right t) (choose_right u) v' w' → Independent t u
from_chosen_right (chosen_right a) = (_, _, a)

from_under : {n m : ℕ} {t u v' w' : Proof} → After (under n t) (under m u) v' w' → (n ≡ m) × Independent t u
from_under (under_under e a) = (e, (_, _, a))

from_both : {t u v w t' u' : Proof} → After (both t u) (both v w) t' u' → Independent t v × Independent u w
from_both (both_both a b) = ((_, _, a), (_, _, b))

-- a node around what is left of the parts
inside_left : (f : Proof → Proof) (t u v w : Proof)
    → ((t' u' : Proof) → After t u t' u' → (w' : Proof) × After v w (f t') w')
    → ((v' w' : Proof) → After v w v' w' → Independent t u) → (o : Option Proof) → Left t u o → Left v w (inside f o)
inside_left f t u v w up down (Some t') h = up t' h.0 h.1
inside_left f t u v w up down None h = λ v' w' a. let d = down v' w' a in h d.0 d.1 d.2

both_left_of : (t u v w : Proof) (o p : Option Proof) → Left t v o → Left u w p
    → Left (both t u) (both v w) (in_both o p)
both_left_of t u v w (Some t') (Some u') h k = (_, both_both h.1 k.1)
both_left_of t u v w (Some t') None h k = λ t' u' a. let p = (from_both a).1 in k p.0 p.1 p.2
both_left_of t u v w None o h k = λ t' u' a. let p = (from_both a).0 in h p.0 p.1 p.2

chosen_left_of : (t u : Proof) (o : Option Proof) → Left t u o → Left (choose_left t) (choose_left u) o
chosen_left_of t u (Some t') h = (_, chosen_left h.1)
chosen_left_of t u None h = λ t' u' a. let p = from_chosen_left a in h p.0 p.1 p.2

chosen_right_of : (t u : Proof) (o : Option Proof) → Left t u o → Left (choose_right t) (choose_right u) o
chosen_right_of t u (Some t') h = (_, chosen_right h.1)
chosen_right_of t u None h = λ t' u' a. let p = from_chosen_right a in h p.0 p.1 p.2

pub residual_means : (t u : Proof) → Left t u (residual t u)
unfolding residual
residual_means (on_left t) (on_right u) = (_, left_right)
residual_means (on_right t) (on_left u) = (_, right_left)
residual_means (on_left t) (both u v) =
    inside_left on_left t u (on_left t) (both u v) (λ t' u' a. (_, left_both a)) (λ v' w' a. from_left_both a)
    (residual t u) (residual_means t u)
residual_means (both u v) (on_left t) =
    inside_left (λ u'. both u' v) u t (both u v) (on_left t) (λ t' u' a. (_, both_left a)) (λ v' w' a. from_both_left a)
    (residual u t) (residual_means u t)
residual_means (on_right t) (both u v) =
    inside_left on_right t v (on_right t) (both u v) (λ t' u' a. (_, right_both a)) (λ v' w' a. from_right_both a)
    (residual t v) (residual_means t v)
residual_means (both u v) (on_right t) =
    inside_left (λ v'. both u v') v t (both u v) (on_right t) (λ t' u' a. (_, both_right a))
    (λ v' w' a. from_both_right a) (residual v t) (residual_means v t)
residual_means (both t u) (both v w) =
    both_left_of t u v w (residual t v) (residual u w) (residual_means t v) (residual_means u w)
residual_means (on_left t) (on_left u) =
    inside_left on_left t u (on_left t) (on_left u) (λ t' u' a. (_, left_left a)) (λ v' w' a. from_left_left a)
    (residual t u) (residual_means t u)
residual_means (on_right t) (on_right u) =
    inside_left on_right t u (on_right t) (on_right u) (λ t' u' a. (_, right_right a)) (λ v' w' a. from_right_right a)
    (residual t u) (residual_means t u)
residual_means (under n t) (under m u) =
    cond_case (Left (under n t) (under m u)) (nat_eq n m) _ _
    (λ e. inside_left (under n) t u (under n t) (under m u) (λ t' u' a. (_, under_under (eqb-true n m e) a))
    (λ v' w' a. (from_under a).1) (residual t u) (residual_means t u))
    (λ e. λ t' u' a. absurd (cc (sym e ∙ eq-eqb n m (from_under a).0)))
residual_means (choose_left t) (choose_left u) = chosen_left_of t u (residual t u) (residual_means t u)
residual_means (choose_right t) (choose_right u) = chosen_right_of t u (residual t u) (residual_means t u)
residual_means t u = λ t' u' a. elim a [ ]

pub residual_is : (t u t' u' : Proof) → After t u t' u' → residual t u ≡ Some t'
residual_is t u t' u' a = go (residual t u) (residual_means t u)
  where
    go : (o : Option Proof) → Left t u o → o ≡ Some t'
    go (Some s) h = ap Some (one_left h.1 a)
    go None h = absurd (h t' u' a)

pub is_residual : (t u t' : Proof) → residual t u ≡ Some t' → (u' : Proof) × After t u t' u'
is_residual t u t' e = subst (Left t u) e (residual_means t u)

-- what an answer says of the proof of which z is left after x
abbrev pub Origin : Proof → Proof → Option Proof → Type 0
Origin x z (Some y) = (x' : Proof) × After y x z x'
Origin x z None = (y x' : Proof) → After y x z x' → ⊥

abbrev HasOrigin : Proof → Proof → Type 0
HasOrigin x z = (y x' : Proof) × After y x z x'

before_left_both : {y t u v x' : Proof} → After y (both u v) (on_left t) x' → HasOrigin u t
before_left_both (left_both a) = (_, _, a)

before_both_left : {y t u v x' : Proof} → After y (on_left t) (both u v) x' → HasOrigin t u
before_both_left (both_left a) = (_, _, a)

before_right_both : {y t u v x' : Proof} → After y (both u v) (on_right t) x' → HasOrigin v t
before_right_both (right_both a) = (_, _, a)

before_both_right : {y t u v x' : Proof} → After y (on_right t) (both u v) x' → HasOrigin t v
before_both_right (both_right a) = (_, _, a)

before_left_left : {y t u x' : Proof} → After y (on_left u) (on_left t) x' → HasOrigin u t
before_left_left (left_left a) = (_, _, a)

before_right_right : {y t u x' : Proof} → After y (on_right u) (on_right t) x' → HasOrigin u t
before_right_right (right_right a) = (_, _, a)

before_chosen_left : {y u z x' : Proof} → After y (choose_left u) z x' → HasOrigin u z
before_chosen_left (chosen_left a) = (_, _, a)

before_chosen_right : {y u z x' : Proof} → After y (choose_right u) z x' → HasOrigin u z
before_chosen_right (chosen_right a) = (_, _, a)

before_under : {n m : ℕ} {y t u x' : Proof} → After y (under m u) (under n t) x' → (n ≡ m) × HasOrigin u t
before_under (under_under e a) = (e, (_, _, a))

before_both : {y t u v w x' : Proof} → After y (both v w) (both t u) x' → HasOrigin v t × HasOrigin w u
before_both (both_both a b) = ((_, _, a), (_, _, b))

inside_origin : (f : Proof → Proof) (x z v w : Proof)
    → ((y x' : Proof) → After y x z x' → (v' : Proof) × After (f y) v w v')
    → ((y v' : Proof) → After y v w v' → HasOrigin x z) → (o : Option Proof) → Origin x z o → Origin v w (inside f o)
inside_origin f x z v w up down (Some y) h = up y h.0 h.1
inside_origin f x z v w up down None h = λ y v' a. let d = down y v' a in h d.0 d.1 d.2

both_origin : (t u v w : Proof) (o p : Option Proof) → Origin v t o → Origin w u p
    → Origin (both v w) (both t u) (in_both o p)
both_origin t u v w (Some y) (Some z) h k = (_, both_both h.1 k.1)
both_origin t u v w (Some y) None h k = λ y' x' a. let p = (before_both a).1 in k p.0 p.1 p.2
both_origin t u v w None o h k = λ y' x' a. let p = (before_both a).0 in h p.0 p.1 p.2

-- what x and z look like where z is left of something after x
abbrev Shapes : Proof → Proof → Type 0
Shapes (choose_left u) z = Unit {0}
Shapes (choose_right u) z = Unit {0}
Shapes (on_right u) (on_left t) = Unit {0}
Shapes (on_left u) (on_right t) = Unit {0}
Shapes (both u v) (on_left t) = Unit {0}
Shapes (on_left t) (both u v) = Unit {0}
Shapes (both u v) (on_right t) = Unit {0}
Shapes (on_right t) (both u v) = Unit {0}
Shapes (both v w) (both t u) = Unit {0}
Shapes (on_left u) (on_left t) = Unit {0}
Shapes (on_right u) (on_right t) = Unit {0}
Shapes (under m u) (under n t) = Unit {0}
Shapes x z = ⊥

only_these : {y x z x' : Proof} → After y x z x' → Shapes x z
only_these left_right = tt
only_these right_left = tt
only_these (left_both a) = tt
only_these (both_left a) = tt
only_these (right_both a) = tt
only_these (both_right a) = tt
only_these (both_both a b) = tt
only_these (left_left a) = tt
only_these (right_right a) = tt
only_these (under_under e a) = tt
only_these (chosen_left a) = tt
only_these (chosen_right a) = tt

pub origin_means : (x z : Proof) → Origin x z (origin x z)
unfolding origin
origin_means (choose_left u) z =
    inside_origin choose_left u z (choose_left u) z (λ y x' a. (_, chosen_left a)) (λ y v' a. before_chosen_left a)
    (origin u z) (origin_means u z)
origin_means (choose_right u) z =
    inside_origin choose_right u z (choose_right u) z (λ y x' a. (_, chosen_right a)) (λ y v' a. before_chosen_right a)
    (origin u z) (origin_means u z)
origin_means (on_right u) (on_left t) = (_, left_right)
origin_means (on_left u) (on_right t) = (_, right_left)
origin_means (both u v) (on_left t) =
    inside_origin on_left u t (both u v) (on_left t) (λ y x' a. (_, left_both a)) (λ y v' a. before_left_both a)
    (origin u t) (origin_means u t)
origin_means (on_left t) (both u v) =
    inside_origin (λ u'. both u' v) t u (on_left t) (both u v) (λ y x' a. (_, both_left a))
    (λ y v' a. before_both_left a) (origin t u) (origin_means t u)
origin_means (both u v) (on_right t) =
    inside_origin on_right v t (both u v) (on_right t) (λ y x' a. (_, right_both a)) (λ y v' a. before_right_both a)
    (origin v t) (origin_means v t)
origin_means (on_right t) (both u v) =
    inside_origin (λ v'. both u v') t v (on_right t) (both u v) (λ y x' a. (_, both_right a))
    (λ y v' a. before_both_right a) (origin t v) (origin_means t v)
origin_means (both v w) (both t u) = both_origin t u v w (origin v t) (origin w u) (origin_means v t) (origin_means w u)
origin_means (on_left u) (on_left t) =
    inside_origin on_left u t (on_left u) (on_left t) (λ y x' a. (_, left_left a)) (λ y v' a. before_left_left a)
    (origin u t) (origin_means u t)
origin_means (on_right u) (on_right t) =
    inside_origin on_right u t (on_right u) (on_right t) (λ y x' a. (_, right_right a)) (λ y v' a. before_right_right a)
    (origin u t) (origin_means u t)
origin_means (under m u) (under n t) =
    cond_case (Origin (under m u) (under n t)) (nat_eq n m) _ _
    (λ e. inside_origin (under n) u t (under m u) (under n t) (λ y x' a. (_, under_under (eqb-true n m e) a))
    (λ y v' a. (before_under a).1) (origin u t) (origin_means u t))
    (λ e. λ y x' a. absurd (cc (sym e ∙ eq-eqb n m (before_under a).0)))
origin_means x z = λ y x' a. absurd (only_these a)

pub origin_is : (x z y x' : Proof) → After y x z x' → origin x z ≡ Some y
origin_is x z y x' a = go (origin x z) (origin_means x z)
  where
    go : (o : Option Proof) → Origin x z o → o ≡ Some y
    go (Some t) h = ap Some (one_origin h.1 a)
    go None h = absurd (h y x' a)

pub is_origin : (x z y : Proof) → origin x z ≡ Some y → (x' : Proof) × After y x z x'
is_origin x z y e = subst (Origin x z) e (origin_means x z)
