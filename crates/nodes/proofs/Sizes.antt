-- How many bytes of its own a node has, and how many parts, by its first byte.
use Rattle.std.proofs.Common.{◌≡◌, ◌⊎◌, inl, inr, ℕ, suc, ◌+◌, Bool, true, false, cond, [], ◌∷◌, drop, Some, None, Ok, Option, nat_eq, nat_le, nat_lt, refl, ap, ◌∙◌, arith}
use Rattle.std.proofs.lemmas.Bool.{eqb-true}
use Rattle.ccs.specs.declared.node_bytes.TheConstants.{NIL, PREFIX, PARALLEL, SUM, RESTRICTION, CALL, ACT, LEFT, RIGHT, BOTH, CHOOSE_LEFT, CHOOSE_RIGHT, UNDER}
use Rattle.steps.specs.Meaning.{Str}
use Rattle.actions.specs.Action.{is_name, is_action}
use Rattle.ccs.specs.Syntax.{Term}
use Rattle.ccs.specs.Syntax.Term.{prefix, par, sum, restrict, call}
use Rattle.ccs.specs.Syntax.Proof.{act, on_left, on_right, choose_left, choose_right, under}
use Rattle.ccs.specs.Reading.{Next, alone, with_part, with_parts, before, term_byte, proof_byte}
use Rattle.ccs.specs.declared.due.Due.TheVariants.{Node, Action, Name, Number}
use Rattle.nodes.specs.declared.scan.Wanted.{Wanted}
use Rattle.nodes.specs.Whole.{done, one_on, whole, ahead, IsSize}
use Rattle.nodes.specs.Grammars.{wanted_next, fits_of, proof_size, term_size}
use Rattle.nodes.proofs.Ahead.{one_ahead, on_byte, last_byte, no_byte, no_end, goes_on}

-- a byte fits nowhere, or this is wanted behind it
abbrev Unless : Option Wanted → Wanted → Type 0
Unless o w = (o ≡ None) ⊎ (o ≡ Some w)

module _ (fits : Wanted → ℕ → Option Wanted) where
  -- a node of one byte, and one of two
  one_byte : (k parts : ℕ)
      → ((d : ℕ) → Unless (fits (record { due = Node; count = suc d }) k) (record { due = Node; count = parts + d }))
      → IsSize fits k 1 parts
  one_byte k parts fit d s n e = go (fit d)
    where
      go : Unless (fits (record { due = Node; count = suc d }) k) (record { due = Node; count = parts + d })
          → whole fits (record { due = Node; count = suc d }) (k ∷ s) ≡ ahead fits 1 (parts + d) (drop 1 (k ∷ s))
      go (inl none) = absurd (no_byte fits (record { due = Node; count = suc d }) k n s none e)
      go (inr some) = last_byte fits (record { due = Node; count = suc d }) (parts + d) k s some

  two_bytes : (k parts : ℕ) (w : ℕ → Wanted) → ((d : ℕ) → Unless (fits (record { due = Node; count = suc d }) k) (w d))
      → ((d : ℕ) → done (w d) ≡ false)
      → ((d b : ℕ) → Unless (fits (w d) b) (record { due = Node; count = parts + d })) → IsSize fits k 2 parts
  two_bytes k parts w fit more own d s n e = by_node (fit d)
    where
      by_own : (b : ℕ) (r : Str) (m : ℕ) → fits (record { due = Node; count = suc d }) k ≡ Some (w d)
          → whole fits (w d) (b ∷ r) ≡ Ok m → Unless (fits (w d) b) (record { due = Node; count = parts + d })
          → whole fits (record { due = Node; count = suc d }) (k ∷ b ∷ r) ≡ ahead fits 2 (parts + d) r
      by_own b r m f g (inl none) = absurd (no_byte fits (w d) b m r none g)
      by_own b r m f g (inr some) = on_byte fits (record { due = Node; count = suc d }) (w d) k (b ∷ r) f (more d)
          ∙ ap one_on (last_byte fits (w d) (parts + d) b r some) ∙ one_ahead fits 1 (parts + d) r

      by_rest : (r : Str) → fits (record { due = Node; count = suc d }) k ≡ Some (w d)
          → whole fits (record { due = Node; count = suc d }) (k ∷ r) ≡ Ok n
          → whole fits (record { due = Node; count = suc d }) (k ∷ r) ≡ ahead fits 2 (parts + d) (drop 2 (k ∷ r))
      by_rest [] f g = let m = goes_on fits (record { due = Node; count = suc d }) (w d) k n [] f (more d) g in
          absurd (no_end fits (w d) m.0 m.1)
      by_rest (b ∷ r) f g = let m = goes_on fits (record { due = Node; count = suc d }) (w d) k n (b ∷ r) f
          (more d) g in by_own b r m.0 f m.1 (own d b)

      by_node : Unless (fits (record { due = Node; count = suc d }) k) (w d)
          → whole fits (record { due = Node; count = suc d }) (k ∷ s) ≡ ahead fits 2 (parts + d) (drop 2 (k ∷ s))
      by_node (inl none) = absurd (no_byte fits (record { due = Node; count = suc d }) k n s none e)
      by_node (inr some) = by_rest s some e

one_more : (d : ℕ) → 1 + d ≡ suc d
one_more d = omega arith

two_more : (d : ℕ) → 2 + d ≡ suc (suc d)
two_more d = omega arith

none_more : (d : ℕ) → 0 + d ≡ d
none_more d = omega arith

-- what the first byte of a node with one part makes due, among the nodes that are left
one_part : (d : ℕ) (left right chosen_left chosen_right : Bool)
    → Unless (wanted_next
    (cond left (with_part on_left d)
    (cond right (with_part on_right d)
    (cond chosen_left (with_part choose_left d)
    (cond chosen_right (with_part choose_right d) None))))) (record { due = Node; count = suc d })
one_part d true right chosen_left chosen_right = inr refl
one_part d false true chosen_left chosen_right = inr refl
one_part d false false true chosen_right = inr refl
one_part d false false false true = inr refl
one_part d false false false false = inl refl

-- and what a node's own second byte makes due
action_due : (d a : ℕ) (c : Bool)
    → Unless (wanted_next (cond c (alone (act a) d) None)) (record { due = Node; count = 0 + d })
action_due d a true = rw (none_more d) (inr refl)
action_due d a false = inl refl

name_due : (d m : ℕ) (c : Bool)
    → Unless (wanted_next (cond c (with_part (under m) d) None)) (record { due = Node; count = 1 + d })
name_due d m true = rw (one_more d) (inr refl)
name_due d m false = inl refl

pub proof_sizes : (k : ℕ) → IsSize (fits_of proof_byte) k (proof_size k).own (proof_size k).parts
unfolding proof_byte
proof_sizes k = on_act (nat_eq k ACT) refl
  where
    on_under : (c : Bool) → nat_eq k UNDER ≡ c → nat_eq k ACT ≡ false → nat_eq k BOTH ≡ false
        → IsSize (fits_of proof_byte) k (proof_size k).own (proof_size k).parts
    on_under true e f g =
        let five : k ≡ UNDER = eqb-true k UNDER e in
        rw (e, f, g) (two_bytes (fits_of proof_byte) k 1 (λ d. record { due = Name; count = d })
        (λ d. rw five (inr refl)) (λ d. refl) (λ d b. name_due d b (is_name b)))
    on_under false e f g = rw (e, f, g)
        (one_byte (fits_of proof_byte) k 1
        (λ d. rw (e, f, g, one_more d)
        (one_part d (nat_eq k LEFT) (nat_eq k RIGHT) (nat_eq k CHOOSE_LEFT) (nat_eq k CHOOSE_RIGHT))))

    on_both : (c : Bool) → nat_eq k BOTH ≡ c → nat_eq k ACT ≡ false
        → IsSize (fits_of proof_byte) k (proof_size k).own (proof_size k).parts
    on_both true e f =
        let both : k ≡ BOTH = eqb-true k BOTH e in
        rw (e, f) (one_byte (fits_of proof_byte) k 2 (λ d. rw (both, two_more d) (inr refl)))
    on_both false e f = on_under (nat_eq k UNDER) refl f e

    on_act : (c : Bool) → nat_eq k ACT ≡ c → IsSize (fits_of proof_byte) k (proof_size k).own (proof_size k).parts
    on_act true e =
        let act : k ≡ ACT = eqb-true k ACT e in
        rw e (two_bytes (fits_of proof_byte) k 0 (λ d. record { due = Action; count = d }) (λ d. rw act (inr refl))
        (λ d. refl) (λ d b. action_due d b (is_action b)))
    on_act false e = on_both (nat_eq k BOTH) refl e

module _ (n : ℕ) where
  number_due : (d m : ℕ) (c : Bool)
      → Unless (wanted_next (cond c (alone (call m) d) None)) (record { due = Node; count = 0 + d })
  number_due d m true = rw (none_more d) (inr refl)
  number_due d m false = inl refl

  prefix_due : (d a : ℕ) (c : Bool)
      → Unless (wanted_next (cond c (with_part (prefix a) d) None)) (record { due = Node; count = 1 + d })
  prefix_due d a true = rw (one_more d) (inr refl)
  prefix_due d a false = inl refl

  restrict_due : (d m : ℕ) (c : Bool)
      → Unless (wanted_next (cond c (with_part (restrict m) d) None)) (record { due = Node; count = 1 + d })
  restrict_due d m true = rw (one_more d) (inr refl)
  restrict_due d m false = inl refl

  called : (d : ℕ) (c : Bool)
      → Unless (wanted_next (cond {A = Option (Next Term)} c (before Number d) None))
      (record { due = Number; count = d })
  called d true = inr refl
  called d false = inl refl

  two_parts : (d : ℕ) (p s : Bool)
      → Unless (wanted_next (cond p (with_parts par d) (cond s (with_parts sum d) None)))
      (record { due = Node; count = 2 + d })
  two_parts d true s = rw (two_more d) (inr refl)
  two_parts d false true = rw (two_more d) (inr refl)
  two_parts d false false = inl refl

  pub term_sizes : (k : ℕ) → IsSize (fits_of (term_byte n)) k (term_size k).own (term_size k).parts
  unfolding term_byte
  term_sizes k = on_nil (nat_eq k NIL) refl
    where
      on_call : (c : Bool) → nat_eq k CALL ≡ c → nat_eq k NIL ≡ false → nat_eq k PREFIX ≡ false
          → nat_eq k RESTRICTION ≡ false → IsSize (fits_of (term_byte n)) k (term_size k).own (term_size k).parts
      on_call true e f g h =
          let five : k ≡ CALL = eqb-true k CALL e in
          rw (e, f, g, h)
          (two_bytes (fits_of (term_byte n)) k 0 (λ d. record { due = Number; count = d })
          (λ d. rw five (called d (nat_le 1 n))) (λ d. refl) (λ d b. number_due d b (nat_lt b n)))
      on_call false e f g h = rw (e, f, g, h)
          (one_byte (fits_of (term_byte n)) k 2 (λ d. rw (e, f, g, h) (two_parts d (nat_eq k PARALLEL) (nat_eq k SUM))))

      on_restrict : (c : Bool) → nat_eq k RESTRICTION ≡ c → nat_eq k NIL ≡ false → nat_eq k PREFIX ≡ false
          → IsSize (fits_of (term_byte n)) k (term_size k).own (term_size k).parts
      on_restrict true e f g =
          let four : k ≡ RESTRICTION = eqb-true k RESTRICTION e in
          rw (e, f, g) (two_bytes (fits_of (term_byte n)) k 1 (λ d. record { due = Name; count = d })
          (λ d. rw four (inr refl)) (λ d. refl) (λ d b. restrict_due d b (is_name b)))
      on_restrict false e f g = on_call (nat_eq k CALL) refl f g e

      on_prefix : (c : Bool) → nat_eq k PREFIX ≡ c → nat_eq k NIL ≡ false
          → IsSize (fits_of (term_byte n)) k (term_size k).own (term_size k).parts
      on_prefix true e f =
          let one : k ≡ PREFIX = eqb-true k PREFIX e in
          rw (e, f) (two_bytes (fits_of (term_byte n)) k 1 (λ d. record { due = Action; count = d })
          (λ d. rw one (inr refl)) (λ d. refl) (λ d b. prefix_due d b (is_action b)))
      on_prefix false e f = on_restrict (nat_eq k RESTRICTION) refl f e

      on_nil : (c : Bool) → nat_eq k NIL ≡ c → IsSize (fits_of (term_byte n)) k (term_size k).own (term_size k).parts
      on_nil true e =
          let zero : k ≡ NIL = eqb-true k NIL e in
          rw e (one_byte (fits_of (term_byte n)) k 0 (λ d. rw (zero, none_more d) (inr refl)))
      on_nil false e = on_prefix (nat_eq k PREFIX) refl e
