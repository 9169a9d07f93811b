-- What a list of terms or proofs has to do with the bytes that it was read from.
-- A byte goes before what is read behind it. Each one keeps that the list is as long as was due, is sound, and is
-- spelled by the string behind the byte that opened its first node. So, by `holds`, what is read at last is spelled by
-- the string.
use Rattle.std.proofs.Common.{◌≡◌, ℕ, zero, suc, Bool, true, ◌&&◌, List, [], ◌∷◌, ◌++◌, length, Some, None, Ok, Err, Option, Result, sym, refl, ap, ◌∙◌, subst, append_assoc, append-nil}
use Rattle.steps.specs.Meaning.{Str}
use Rattle.ccs.specs.declared.due.Due.{Due}
use Rattle.ccs.specs.declared.due.Due.TheVariants.{Node, Action, Name, Number}
use Rattle.ccs.specs.Reading.{Next, nothing_due, read, alone, with_part, with_parts, before, only}
use Rattle.ccs.proofs.Cases.{both_of}
use Rattle.ccs.proofs.Reading.{holds, HoldsOf}

-- how many are due, with the one whose first byte was read
abbrev pub wanted : Due → ℕ → ℕ
wanted Node k = k
wanted Action k = suc k
wanted Name k = suc k
wanted Number k = suc k

module _ {A : Type 0} (bytes_of : A → Str) (sound : A → Bool) (opening : Due → Str) where
  -- so many, one behind the other
  unfoldable pub all_bytes : List A → Str
  all_bytes [] = []
  all_bytes (x ∷ xs) = bytes_of x ++ all_bytes xs

  unfoldable pub all_sound : List A → Bool
  all_sound [] = true
  all_sound (x ∷ xs) = sound x && all_sound xs

  -- The list is what was due, and the string is what is left of its bytes behind that which opened the first.
  pub record Spelled (d : Due) (k : ℕ) (s : Str) (xs : List A) : Type 0 where
    pub count : length xs ≡ wanted d k
    pub all : all_sound xs ≡ true
    pub bytes : all_bytes xs ≡ opening d ++ s

  -- what a byte that fits keeps
  abbrev pub Keeps : Due → ℕ → ℕ → Option (Next A) → Type 0
  Keeps d k b None = Unit {0}
  Keeps d k b (Some n) = (s : Str) (xs : List A) → Spelled n.due n.count s xs → Spelled d k (b ∷ s) (n.build xs)

  pub keeps_alone : (x : A) (d : Due) (k j b : ℕ) → wanted d j ≡ suc k → sound x ≡ true
      → ((s : Str) → bytes_of x ++ (opening Node ++ s) ≡ opening d ++ (b ∷ s)) → Keeps d j b (alone x k)
  unfolding all_bytes all_sound
  keeps_alone x d k j b w e f s xs h =
      record {
        count = ap suc h.count ∙ sym w;
        all = rw (e, h.all) refl;
        bytes = ap (bytes_of x ++◌) h.bytes ∙ f s;
      }

  pub keeps_part : (f : A → A) (d : Due) (k j b : ℕ) → wanted d j ≡ suc k → opening Node ≡ []
      → ((x : A) → sound x ≡ true → sound (f x) ≡ true) → ((x : A) → bytes_of (f x) ≡ opening d ++ (b ∷ bytes_of x))
      → Keeps d j b (with_part f k)
  unfolding all_bytes all_sound
  keeps_part f d k j b w o e g s [] h = absurd (cc h.count)
  keeps_part f d k j b w o e g s (x ∷ xs) h =
      let both = both_of (sound x) (all_sound xs) h.all in
      let rest : bytes_of x ++ all_bytes xs ≡ s = h.bytes ∙ ap (◌++ s) o in
      record {
        count = h.count ∙ sym w;
        all = rw (e x both.0, both.1) refl;
        bytes = ap (◌++ all_bytes xs) (g x) ∙ append_assoc (opening d) (b ∷ bytes_of x) (all_bytes xs)
            ∙ ap (λ r. opening d ++ (b ∷ r)) rest;
      }

  pub keeps_parts : (f : A → A → A) (d : Due) (k j b : ℕ) → wanted d j ≡ suc k → opening Node ≡ []
      → ((x y : A) → sound x ≡ true → sound y ≡ true → sound (f x y) ≡ true)
      → ((x y : A) → bytes_of (f x y) ≡ opening d ++ (b ∷ (bytes_of x ++ bytes_of y))) → Keeps d j b (with_parts f k)
  unfolding all_bytes all_sound
  keeps_parts f d k j b w o e g s [] h = absurd (cc h.count)
  keeps_parts f d k j b w o e g s (x ∷ []) h = absurd (cc h.count)
  keeps_parts f d k j b w o e g s (x ∷ y ∷ xs) h =
      let both = both_of (sound x) (sound y && all_sound xs) h.all in
      let more = both_of (sound y) (all_sound xs) both.1 in
      let rest : bytes_of x ++ (bytes_of y ++ all_bytes xs) ≡ s = h.bytes ∙ ap (◌++ s) o in
      record {
        count = cc (h.count, w);
        all = rw (e x y both.0 more.0, more.1) refl;
        bytes = ap (◌++ all_bytes xs) (g x y) ∙ append_assoc (opening d) (b ∷ (bytes_of x ++ bytes_of y)) (all_bytes xs)
            ∙ ap (λ r. opening d ++ (b ∷ r)) (append_assoc (bytes_of x) (bytes_of y) (all_bytes xs) ∙ rest);
      }

  pub keeps_before : (e d : Due) (k j b : ℕ) → wanted d j ≡ wanted e k
      → ((s : Str) → opening e ++ s ≡ opening d ++ (b ∷ s)) → Keeps d j b (before e k)
  keeps_before e d k j b w f s xs h = record { count = h.count ∙ sym w; all = h.all; bytes = h.bytes ∙ f s }

  -- so what is read is spelled by the string
  pub read_spelled : (byte : Due → ℕ → ℕ → Option (Next A)) → opening Node ≡ []
      → ((d : Due) (k b : ℕ) → Keeps d k b (byte d k b)) → (d : Due) (k : ℕ) (s : Str)
      → HoldsOf Spelled d k s (read byte d k s)
  unfolding all_bytes all_sound
  read_spelled byte o keeps d k s = holds byte Spelled at_end at_byte d k s
    where
      at_end : (d : Due) (k : ℕ) → nothing_due d k ≡ true → Spelled d k [] []
      at_end Node zero e = record { count = refl; all = refl; bytes = sym (append-nil _ ∙ o) }
      at_end Node (suc k) e = absurd (cc e)
      at_end Action k e = absurd (cc e)
      at_end Name k e = absurd (cc e)
      at_end Number k e = absurd (cc e)

      at_byte : (d : Due) (k b : ℕ) (n : Next A) (s : Str) (xs : List A) → byte d k b ≡ Some n
          → Spelled n.due n.count s xs → Spelled d k (b ∷ s) (n.build xs)
      at_byte d k b n s xs e = subst (Keeps d k b) e (keeps d k b) s xs

  -- a string that is read as one is spelled by it
  pub read_one : (byte : Due → ℕ → ℕ → Option (Next A)) → opening Node ≡ []
      → ((d : Due) (k b : ℕ) → Keeps d k b (byte d k b)) → (s : Str) (x : A) → only (read byte Node 1 s) ≡ Ok x
      → (bytes_of x ≡ s) × (sound x ≡ true)
  unfolding all_bytes all_sound
  read_one byte o keeps s x e = go (read byte Node 1 s) (read_spelled byte o keeps Node 1 s) e
    where
      go : (r : Result (List A) ℕ) → HoldsOf Spelled Node 1 s r → only r ≡ Ok x → (bytes_of x ≡ s) × (sound x ≡ true)
      go (Ok []) h e = absurd (cc h.count)
      go (Ok (y ∷ [])) h e =
          let same : y ≡ x = cc e in
          subst (λ x. (bytes_of x ≡ s) × (sound x ≡ true)) same
          (sym (append-nil (bytes_of y)) ∙ h.bytes ∙ ap (◌++ s) o, (both_of (sound y) true h.all).0)
      go (Ok (y ∷ z ∷ xs)) h e = absurd (cc h.count)
      go (Err k) h e = absurd (cc e)

  pub one_read : (byte : Due → ℕ → ℕ → Option (Next A)) → opening Node ≡ []
      → ((d : Due) (k b : ℕ) → Keeps d k b (byte d k b)) → (s : Str) (xs : List A) → read byte Node 1 s ≡ Ok xs
      → (x : A) × (bytes_of x ≡ s) × (sound x ≡ true)
  one_read byte o keeps s [] e =
      absurd (cc (subst (HoldsOf Spelled Node 1 s) e (read_spelled byte o keeps Node 1 s)).count)
  one_read byte o keeps s (x ∷ xs) e = let h = read_one byte o keeps s x (ap only e) in (x, h.0, h.1)
