-- Going through a string byte by byte, and reading it: they agree on where it stops.
use Rattle.std.proofs.Common.{◌≡◌, ℕ, zero, suc, ◌+◌, Bool, true, false, cond, List, [], ◌∷◌, length, Some, None, Ok, Err, Option, Result, nat_lt, sym, refl, ap, ◌∙◌, arith}
use Rattle.std.specs.Result.{result_err}
use Rattle.std.proofs.lemmas.Bool.{cond-true, cond-false, lt-ltb, le-ltb, ltb-true, ltb-false, eqb-true}
use Rattle.steps.specs.Meaning.{Str}
use Rattle.ccs.specs.Reading.{Next, behind, onward, read}
use Rattle.ccs.specs.declared.due.Due.{Due}
use Rattle.ccs.specs.declared.due.Due.TheVariants.{Node, Action, Name, Number}
use Rattle.nodes.specs.Whole.{behind_byte, done, one_on, whole, whole_fault}
use Rattle.nodes.specs.Grammars.{wanted_next, fits_of}

further : Option ℕ → Option ℕ
further (Some p) = Some (1 + p)
further None = None

fault_on : (r : Result ℕ ℕ) (l : ℕ) → whole_fault (one_on r) (suc l) ≡ further (whole_fault r l)
unfolding further
fault_on (Ok n) l = go (nat_lt n l) refl
  where
    go : (c : Bool) → nat_lt n l ≡ c
        → cond (nat_lt (1 + n) (suc l)) (Some (1 + n)) None ≡ further (cond c (Some n) None)
    go true e = cond-true (nat_lt (1 + n) (suc l)) (Some (1 + n)) None
        (lt-ltb (1 + n) (suc l) (omega (arith, ltb-true n l e)))
    go false e = cond-false (nat_lt (1 + n) (suc l)) (Some (1 + n)) None
        (le-ltb (1 + n) (suc l) (omega (arith, ltb-false n l e)))
fault_on (Err p) l = refl

read_further : {A : Type 0} (f : List A → List A) (r : Result (List A) ℕ)
    → result_err (behind f r) ≡ further (result_err r)
unfolding further
read_further f (Ok xs) = refl
read_further f (Err p) = ap Some (omega arith)

none_due : (d : Due) (k : ℕ) → done (record { due = d; count = k }) ≡ true → (d ≡ Node) × (k ≡ 0)
none_due Node k e = (refl, eqb-true k 0 e)
none_due Action k e = absurd (cc e)
none_due Name k e = absurd (cc e)
none_due Number k e = absurd (cc e)

module _ {A : Type 0} (byte : Due → ℕ → ℕ → Option (Next A)) (full : (b : ℕ) → byte Node 0 b ≡ None) where
  -- behind the last one any byte is too many
  behind_last : (f : List A → List A) (b : ℕ) (s : Str)
      → result_err (behind f (read byte Node 0 s)) ≡ whole_fault (Ok 1) (length (b ∷ s))
  unfolding read
  behind_last f b [] = refl
  behind_last f b (c ∷ s) =
      ap (λ o. result_err (behind f (onward o (λ d j. read byte d j s)))) (full c)
      ∙ sym (cond-true (nat_lt 1 (length (b ∷ c ∷ s))) (Some 1) None (lt-ltb 1 (length (b ∷ c ∷ s)) (omega arith)))

  -- reading a byte, and going over it, where this is due behind it
  abbrev OverByte : ℕ → Str → Option (Next A) → Type 0
  OverByte b s o =
      result_err (onward o (λ d j. read byte d j s))
      ≡ whole_fault
      (behind_byte (wanted_next o) (λ v. whole (fits_of byte) v s)) (length (b ∷ s))

  pub agree : (d : Due) (k : ℕ) (s : Str) → done (record { due = d; count = k }) ≡ false
      → result_err (read byte d k s) ≡ whole_fault (whole (fits_of byte) (record { due = d; count = k }) s) (length s)
  unfolding read whole
  agree Node zero [] e = absurd (cc e)
  agree Node (suc k) [] e = refl
  agree Action k [] e = refl
  agree Name k [] e = refl
  agree Number k [] e = refl
  agree d k (b ∷ s) e = go (byte d k b) (λ d k. agree d k s)
    where
      on : (x : Next A) (c : Bool) → done (record { due = x.due; count = x.count }) ≡ c
          → (c ≡ false → result_err (read byte (x.due) x.count s)
          ≡ whole_fault (whole (fits_of byte) (record { due = x.due; count = x.count }) s) (length s))
          → result_err (behind x.build (read byte x.due x.count s))
          ≡ whole_fault (cond c (Ok 1) (one_on (whole (fits_of byte) (record { due = x.due; count = x.count }) s)))
          (length (b ∷ s))
      on x true e h = let n = none_due x.due x.count e in rw (n.0, n.1) (behind_last x.build b s)
      on x false e h =
          read_further x.build (read byte x.due x.count s) ∙ ap further (h refl)
          ∙ sym (fault_on (whole (fits_of byte) (record { due = x.due; count = x.count }) s) (length s))

      go : (o : Option (Next A))
          → ((d : Due) (k : ℕ) → done (record { due = d; count = k }) ≡ false
          → result_err (read byte d k s)
          ≡ whole_fault (whole (fits_of byte) (record { due = d; count = k }) s) (length s)) → OverByte b s o
      go None h = refl
      go (Some x) h = on x (done (record { due = x.due; count = x.count })) refl (h x.due x.count)
