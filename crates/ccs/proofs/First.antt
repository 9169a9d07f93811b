-- The first of what holds in a whole, from the firsts of its parts.
-- A whole holds at a place where a part does so many bytes before. So its first is the part's, moved on; and of two
-- parts, one behind the other, the first one's goes before the second one's.
use Rattle.std.proofs.Common.{◌≡◌, ℕ, suc, ◌+◌, ◌<◌, Some, None, Option, sym, subst, inl, inr, ◌⊎◌, arith}
use Rattle.ccs.specs.First.{First, FirstIf}
use Rattle.ccs.specs.Improper.{further, or_else}

-- there is but one first
pub first_is_one : (P : ℕ → Type 0) (k j : ℕ) → First P k → First P j → k ≡ j
first_is_one P k j f g =
    let not_before : k < j → ⊥ = λ l. g.least k l f.holds in
    let not_behind : j < k → ⊥ = λ l. f.least j l g.holds in
    omega (arith, not_before, not_behind)

-- nothing goes before the start
pub at_start : (P : ℕ → Type 0) → P 0 → First P 0
at_start P h = record { holds = h; least = λ j l i. absurd (omega (arith, l)) }

-- what holds at a place, by an equation of places
pub part_at : (P : ℕ → Type 0) {i j : ℕ} → j ≡ i → P i → P j
part_at P e p = subst P (sym e) p

-- the first of what holds so many further on
moved_on : (P Q : ℕ → Type 0) (n : ℕ)
    → ((k : ℕ) → P k → Q (n + k))
    → ((j : ℕ) → Q j → (k : ℕ) × (j ≡ n + k) × P k)
    → (o : Option ℕ) → FirstIf P o → FirstIf Q (further n o)
moved_on P Q n up down (Some k) h =
    record {
      holds = up k h.holds;
      least = λ j l q. let d = down j q in h.least d.0 (omega (arith, l, d.1)) d.2;
    }
moved_on P Q n up down None h = λ j q. let d = down j q in h d.0 d.2

pub one_further : (P Q : ℕ → Type 0)
    → ((k : ℕ) → P k → Q (suc k))
    → ((j : ℕ) → Q j → (k : ℕ) × (j ≡ 1 + k) × P k)
    → (o : Option ℕ) → FirstIf P o → FirstIf Q (further 1 o)
one_further P Q up = moved_on P Q 1 (λ k p. part_at Q {i = suc k} (omega arith) (up k p))

pub two_further : (P Q : ℕ → Type 0)
    → ((k : ℕ) → P k → Q (suc (suc k)))
    → ((j : ℕ) → Q j → (k : ℕ) × (j ≡ 2 + k) × P k)
    → (o : Option ℕ) → FirstIf P o → FirstIf Q (further 2 o)
two_further P Q up = moved_on P Q 2 (λ k p. part_at Q {i = suc (suc k)} (omega arith) (up k p))

-- what holds in one of two parts behind a first byte, the second n bytes behind the first
abbrev pub InOne : (P R : ℕ → Type 0) → ℕ → ℕ → Type 0
InOne P R n j = ((k : ℕ) × (j ≡ 1 + k) × P k) ⊎ ((k : ℕ) × (j ≡ suc n + k) × R k)

pub first_in_first : (P R Q : ℕ → Type 0) (n : ℕ)
    → ((k : ℕ) → P k → k < n)
    → ((k : ℕ) → P k → Q (suc k))
    → ((j : ℕ) → Q j → InOne P R n j)
    → (k : ℕ) → First P k → First Q (1 + k)
first_in_first P R Q n bound left down k h =
    record { holds = part_at Q {i = suc k} (omega arith) (left k h.holds); least = λ j l q. go j l (down j q) }
  where
    go : (j : ℕ) → j < 1 + k → InOne P R n j → ⊥
    go j l (inl d) = h.least d.0 (omega (arith, l, d.1)) d.2
    go j l (inr d) = omega (arith, l, d.1, bound k h.holds)

-- the first of what holds in one of the two
pub first_of_two : (P R Q : ℕ → Type 0) (n : ℕ)
    → ((k : ℕ) → P k → k < n)
    → ((k : ℕ) → P k → Q (suc k))
    → ((k j : ℕ) → j ≡ suc (n + k) → R k → Q j)
    → ((j : ℕ) → Q j → InOne P R n j)
    → (o p : Option ℕ) → FirstIf P o → FirstIf R p → FirstIf Q (or_else (further 1 o) (further (suc n) p))
first_of_two P R Q n bound left right down (Some k) p h g = first_in_first P R Q n bound left down k h
first_of_two P R Q n bound left right down None (Some k) h g =
    record { holds = right k (suc n + k) (omega arith) g.holds; least = λ j l q. go j l (down j q) }
  where
    go : (j : ℕ) → j < suc n + k → InOne P R n j → ⊥
    go j l (inl d) = h d.0 d.2
    go j l (inr d) = g.least d.0 (omega (arith, l, d.1)) d.2
first_of_two P R Q n bound left right down None None h g = λ j q. go j (down j q)
  where
    go : (j : ℕ) → InOne P R n j → ⊥
    go j (inl d) = h d.0 d.2
    go j (inr d) = g d.0 d.2
