-- What is left of a proof after an independent one, and of which proof one is left.
use Rattle.std.specs.Prelude.{Some, None, Option, nat_eq, if◌then◌else◌}
use Rattle.ccs.specs.Syntax.{Proof}
use Rattle.ccs.specs.Syntax.Proof.{on_left, on_right, both, choose_left, choose_right, under}

abbrev pub inside : (Proof → Proof) → Option Proof → Option Proof
inside f (Some t) = Some (f t)
inside f None = None

abbrev pub in_both : Option Proof → Option Proof → Option Proof
in_both (Some t) (Some u) = Some (both t u)
in_both (Some t) None = None
in_both None o = None

-- what is left of one proof after another; none where they are dependent
unfoldable pub residual : Proof → Proof → Option Proof
residual (on_left t) (on_right u) = Some (on_left t)
residual (on_right t) (on_left u) = Some (on_right t)
residual (on_left t) (both u v) = inside on_left (residual t u)
residual (both u v) (on_left t) = inside (λ u'. both u' v) (residual u t)
residual (on_right t) (both u v) = inside on_right (residual t v)
residual (both u v) (on_right t) = inside (λ v'. both u v') (residual v t)
residual (both t u) (both v w) = in_both (residual t v) (residual u w)
residual (on_left t) (on_left u) = inside on_left (residual t u)
residual (on_right t) (on_right u) = inside on_right (residual t u)
residual (under n t) (under m u) = if nat_eq n m then inside (under n) (residual t u) else None
residual (choose_left t) (choose_left u) = residual t u
residual (choose_right t) (choose_right u) = residual t u
residual t u = None

-- the proof, independent of x, of which z is left after x; none where there is none
unfoldable pub origin : Proof → Proof → Option Proof
origin (choose_left u) z = inside choose_left (origin u z)
origin (choose_right u) z = inside choose_right (origin u z)
origin (on_right u) (on_left t) = Some (on_left t)
origin (on_left u) (on_right t) = Some (on_right t)
origin (both u v) (on_left t) = inside on_left (origin u t)
origin (on_left t) (both u v) = inside (λ u'. both u' v) (origin t u)
origin (both u v) (on_right t) = inside on_right (origin v t)
origin (on_right t) (both u v) = inside (λ v'. both u v') (origin t v)
origin (both v w) (both t u) = in_both (origin v t) (origin w u)
origin (on_left u) (on_left t) = inside on_left (origin u t)
origin (on_right u) (on_right t) = inside on_right (origin u t)
origin (under m u) (under n t) = if nat_eq n m then inside (under n) (origin u t) else None
origin x z = None
