-- The place that reading tells is where the longest beginning ends.
-- Up to there the string begins one that is read. A longer beginning goes through the byte there, and none is read.
use Rattle.std.proofs.Common.{◌≡◌, ℕ, zero, suc, ◌≤◌, List, [], ◌∷◌, ◌++◌, take, Ok, Err, Option, sym, refl, ap, ◌∙◌, subst, arith}
use Rattle.steps.specs.Meaning.{Str}
use Rattle.ccs.specs.declared.due.Due.{Due}
use Rattle.ccs.specs.Reading.{Next, read}
use Rattle.ccs.specs.declared.due.Due.TheVariants.{Node}
use Rattle.ccs.specs.Beginning.{LongestBeginning}
use Rattle.ccs.proofs.Reading.{Stops, stops, Begins}

-- a longer beginning is a shorter one and what follows
pub take_on : (p q : ℕ) (s r : Str) → p ≤ q → (t : Str) × (take q s ++ r ≡ take p s ++ t)
take_on zero q s r l = (take q s ++ r, refl)
take_on (suc p) zero s r l = absurd (omega (arith, l))
take_on (suc p) (suc q) [] r l = (r, refl)
take_on (suc p) (suc q) (b ∷ s) r l = let t = take_on p q s r (omega (arith, l)) in (t.0, ap (b ∷◌) t.1)

module _ {A : Type 0} (Is : Str → Type 0) (byte : Due → ℕ → ℕ → Option (Next A))
    (is_read : (s : Str) → Is s → (x : A) × read byte Node 1 s ≡ Ok (x ∷ []))
    (read_is : (s : Str) (xs : List A) → read byte Node 1 s ≡ Ok xs → Is s)
    (begins : (s : Str) → Begins byte Node 1 s (read byte Node 1 s)) where
  pub longest : (s : Str) (p : ℕ) → read byte Node 1 s ≡ Err p → LongestBeginning Is s p
  longest s p e =
      let stop = subst (Stops byte Node 1 s) e (stops byte Node 1 s) in
      let begun = subst (Begins byte Node 1 s) e (begins s) in
      record {
        within = stop.0;
        begins = (begun.0, read_is (take p s ++ begun.0) begun.1 begun.2);
        longest = λ q r l m is.
            let ok = is_read (take q s ++ r) is in
            let same = take_on (suc p) q s r (omega (arith, l)) in
            absurd (cc (sym ok.1 ∙ ap (read byte Node 1) same.1 ∙ stop.1 same.0 (omega (arith, l, m))));
      }
