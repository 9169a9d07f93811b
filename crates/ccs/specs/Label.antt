-- What a proof shows, and which proofs are proper.
use Rattle.std.specs.Prelude.{ℕ, Bool, true, ◌&&◌, not, nat_eq}
use Rattle.ccs.specs.Syntax.{Proof}
use Rattle.ccs.specs.Syntax.Proof.{act, on_left, on_right, both, choose_left, choose_right, under}
use Rattle.actions.specs.Action.{name_of, complementary}

-- both sides together are silent; all else shows what its prefix does
unfoldable pub label : Proof → ℕ
label (act a) = a
label (on_left t) = label t
label (on_right t) = label t
label (both t u) = 0
label (choose_left t) = label t
label (choose_right t) = label t
label (under n t) = label t

-- two sides meet in a name and its co-name, and nothing that shows a restricted name leaves the
-- restriction
unfoldable pub proper : Proof → Bool
proper (act a) = true
proper (on_left t) = proper t
proper (on_right t) = proper t
proper (both t u) = complementary (label t) (label u) && (proper t && proper u)
proper (choose_left t) = proper t
proper (choose_right t) = proper t
proper (under n t) = not (nat_eq (name_of (label t)) n) && proper t
