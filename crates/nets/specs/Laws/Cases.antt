-- Answers that are equal hold the same value, and answers of two kinds are never equal.
use Rattle.std.specs.Prelude.{◌≡◌, ℕ, Some, None, Ok, Err, Result, ◌≢◌}
use Rattle.std.proofs.Common.{arith}

pub some_same : {X : Type 0} {a b : X} → Some a ≡ Some b → a ≡ b
some_same e = cc

pub none_some : {X : Type 0} {a : X} → None ≢ Some a
none_some e = let z : ◌≡◌ {A = ℕ} 0 1 = cc in omega arith

pub ok_same : {X : Type 0} {a b : X} → ◌≡◌ {A = Result X ℕ} (Ok a) (Ok b) → a ≡ b
ok_same e = cc

pub err_ok : {X : Type 0} {p : ℕ} {a : X} → ◌≡◌ {A = Result X ℕ} (Err p) (Ok a) → ⊥
err_ok e = let z : ◌≡◌ {A = ℕ} 0 1 = cc in omega arith
