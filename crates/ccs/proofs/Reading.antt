-- What reading bytes answers, for terms and for proofs alike.
-- All by induction on the string: an answer of the string behind a byte becomes one of the string with the byte, moved
-- on by one. The place told is the first byte that fits none, so no string goes on there (`stops`), and one does before
-- (`begins`).
use Rattle.std.proofs.Common.{◌≡◌, ℕ, suc, ◌≤◌, ◌<◌, Bool, true, false, cond, List, [], ◌∷◌, ◌++◌, length, take, Some, None, Ok, Err, Option, Result, refl, ap, ◌∙◌, arith}
use Rattle.steps.specs.Meaning.{Str}
use Rattle.ccs.specs.declared.due.Due.{Due}
use Rattle.ccs.specs.Reading.{Next, nothing_due, behind, onward, read}

-- what holds of an answer, where it is a list
abbrev pub HoldsOf : {A : Type 0} → (Due → ℕ → Str → List A → Type 0) → Due → ℕ → Str → Result (List A) ℕ → Type 0
HoldsOf Holds d k s (Ok xs) = Holds d k s xs
HoldsOf Holds d k s (Err p) = Unit {0}

module _ {A : Type 0} (byte : Due → ℕ → ℕ → Option (Next A)) where
  -- a byte that fits, and one that does not
  pub read_on : (d : Due) (k b : ℕ) (s : Str) (n : Next A) → byte d k b ≡ Some n
      → read byte d k (b ∷ s) ≡ behind n.build (read byte n.due n.count s)
  unfolding read
  read_on d k b s n e = rw e refl

  pub read_unfit : (d : Due) (k b : ℕ) (s : Str) → byte d k b ≡ None → read byte d k (b ∷ s) ≡ Err 0
  unfolding read
  read_unfit d k b s e = rw e refl

  -- the place told is within the string, and no string that goes on as this one does up to there, and through the byte
  -- there, is read
  abbrev pub Stops : Due → ℕ → Str → Result (List A) ℕ → Type 0
  Stops d k s (Ok xs) = Unit {0}
  Stops d k s (Err p) = (p ≤ length s) × ((r : Str) → p < length s → read byte d k (take (suc p) s ++ r) ≡ Err p)

  pub stops : (d : Due) (k : ℕ) (s : Str) → Stops d k s (read byte d k s)
  unfolding read
  stops d k [] = go (nothing_due d k)
    where
      go : (f : Bool) → Stops d k [] (cond f (Ok []) (Err 0))
      go true = tt
      go false = (omega arith, λ r l. absurd (omega (arith, l)))
  stops d k (b ∷ s) = go (byte d k b) refl (λ e j. stops e j s)
    where
      on : (n : Next A) → byte d k b ≡ Some n → (r : Result (List A) ℕ) → Stops n.due n.count s r
          → Stops d k (b ∷ s) (behind n.build r)
      on n e (Ok xs) h = tt
      on n e (Err p) h = (
        omega (arith, h.0),
        λ r l. read_on d k b (take (suc p) s ++ r) n e ∙ ap (behind n.build) (h.1 r (omega (arith, l))),
      )

      go : (o : Option (Next A)) → byte d k b ≡ o → ((e : Due) (j : ℕ) → Stops e j s (read byte e j s))
          → Stops d k (b ∷ s) (onward o (λ e j. read byte e j s))
      go None e h = (omega arith, λ r l. read_unfit d k b r e)
      go (Some n) e h = on n e (read byte n.due n.count s) (h n.due n.count)

  -- the string as far as the place told begins one that is read
  abbrev pub Begins : Due → ℕ → Str → Result (List A) ℕ → Type 0
  Begins d k s (Ok xs) = Unit {0}
  Begins d k s (Err p) = (r : Str) × (xs : List A) × read byte d k (take p s ++ r) ≡ Ok xs

  -- what is due, and can still be read
  module _ (Alive : Due → ℕ → Type 0)
      (alive_on : (d : Due) (k b : ℕ) (n : Next A) → byte d k b ≡ Some n → Alive d k → Alive n.due n.count)
      (ending : (d : Due) (k : ℕ) → Alive d k → (r : Str) × (xs : List A) × read byte d k r ≡ Ok xs) where
    pub begins : (d : Due) (k : ℕ) (s : Str) → Alive d k → Begins d k s (read byte d k s)
    unfolding read
    begins d k [] alive = go (nothing_due d k)
      where
        go : (f : Bool) → Begins d k [] (cond f (Ok []) (Err 0))
        go true = tt
        go false = ending d k alive
    begins d k (b ∷ s) alive = go (byte d k b) refl (λ e j h. begins e j s h)
      where
        on : (n : Next A) → byte d k b ≡ Some n → (r : Result (List A) ℕ) → Begins n.due n.count s r
            → Begins d k (b ∷ s) (behind n.build r)
        on n e (Ok xs) h = tt
        on n e (Err p) h = (h.0, n.build h.1, read_on d k b (take p s ++ h.0) n e ∙ ap (behind n.build) h.2)

        go : (o : Option (Next A)) → byte d k b ≡ o → ((e : Due) (j : ℕ) → Alive e j → Begins e j s (read byte e j s))
            → Begins d k (b ∷ s) (onward o (λ e j. read byte e j s))
        go None e h = ending d k alive
        go (Some n) e h = on n e (read byte n.due n.count s) (h n.due n.count (alive_on d k b n e alive))

  -- What is read holds of what was due and of the string, if it holds of nothing at the end and each byte keeps it.
  module _ (Holds : Due → ℕ → Str → List A → Type 0)
      (at_end : (d : Due) (k : ℕ) → nothing_due d k ≡ true → Holds d k [] [])
      (at_byte : (d : Due) (k b : ℕ) (n : Next A) (s : Str) (xs : List A) → byte d k b ≡ Some n
      → Holds n.due n.count s xs → Holds d k (b ∷ s) (n.build xs)) where
    pub holds : (d : Due) (k : ℕ) (s : Str) → HoldsOf Holds d k s (read byte d k s)
    unfolding read
    holds d k [] = go (nothing_due d k) refl
      where
        go : (f : Bool) → nothing_due d k ≡ f → HoldsOf Holds d k [] (cond f (Ok []) (Err 0))
        go true e = at_end d k e
        go false e = tt
    holds d k (b ∷ s) = go (byte d k b) refl (λ e j. holds e j s)
      where
        on : (n : Next A) → byte d k b ≡ Some n → (r : Result (List A) ℕ) → HoldsOf Holds n.due n.count s r
            → HoldsOf Holds d k (b ∷ s) (behind n.build r)
        on n e (Ok xs) h = at_byte d k b n s xs e h
        on n e (Err p) h = tt

        go : (o : Option (Next A)) → byte d k b ≡ o → ((e : Due) (j : ℕ) → HoldsOf Holds e j s (read byte e j s))
            → HoldsOf Holds d k (b ∷ s) (onward o (λ e j. read byte e j s))
        go None e h = tt
        go (Some n) e h = on n e (read byte n.due n.count s) (h n.due n.count)
