-- Which proofs are independent, and what is left of each after the other.
use Rattle.std.specs.Prelude.{◌≡◌, ℕ}
use Rattle.ccs.specs.Syntax.{Proof}
use Rattle.ccs.specs.Syntax.Proof.{on_left, on_right, both, choose_left, choose_right, under}

-- t and u are independent; t' is left of t after u, and u' of u after t.
pub data After : (t u t' u' : Proof) → Type 0 where
  -- The two sides of a parallel term do not see each other.
  left_right : {t u : Proof} → After (on_left t) (on_right u) (on_left t) (on_right u)
  right_left : {t u : Proof} → After (on_right t) (on_left u) (on_right t) (on_left u)
  -- One side alone, and both together: only the part on that side changes, to what is left of it.
  left_both : {t u v t' u' : Proof}
      → After t u t' u'
      → After (on_left t) (both u v) (on_left t') (both u' v)
  both_left : {t u v t' u' : Proof}
      → After u t u' t'
      → After (both u v) (on_left t) (both u' v) (on_left t')
  right_both : {t u v t' v' : Proof}
      → After t v t' v'
      → After (on_right t) (both u v) (on_right t') (both u v')
  both_right : {t u v t' v' : Proof}
      → After v t v' t'
      → After (both u v) (on_right t) (both u v') (on_right t')
  both_both : {t u v w t' u' v' w' : Proof}
      → After t v t' v'
      → After u w u' w'
      → After (both t u) (both v w) (both t' u') (both v' w')
  -- On one side, and under a restriction, the node stays around what is left.
  left_left : {t u t' u' : Proof}
      → After t u t' u'
      → After (on_left t) (on_left u) (on_left t') (on_left u')
  right_right : {t u t' u' : Proof}
      → After t u t' u'
      → After (on_right t) (on_right u) (on_right t') (on_right u')
  under_under : {n m : ℕ} {t u t' u' : Proof}
      → n ≡ m
      → After t u t' u'
      → After (under n t) (under m u) (under n t') (under m u')
  -- In one branch of a choice the other step has made the choice, so the node is gone.
  chosen_left : {t u t' u' : Proof}
      → After t u t' u'
      → After (choose_left t) (choose_left u) t' u'
  chosen_right : {t u t' u' : Proof}
      → After t u t' u'
      → After (choose_right t) (choose_right u) t' u'
