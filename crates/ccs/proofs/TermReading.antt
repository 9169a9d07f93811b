-- Terms are read as they are spelled.
-- Each byte that fits keeps what was read in step with what was due, so a term that is read is spelled by the string.
-- And by induction on a term its bytes are read as the term, in front of whatever is read behind them.
use Rattle.std.proofs.Common.{◌≡◌, ℕ, zero, suc, ◌<◌, true, ◌&&◌, List, [], ◌∷◌, ◌++◌, Some, None, Ok, Option, nat_eq, nat_le, nat_lt, sym, refl, ap, ◌∙◌, subst, append_assoc, append-nil, arith}
use Rattle.std.proofs.lemmas.Bool.{eqb-true, ltb-true, lt-ltb, leb-true, le-leb}
use Rattle.steps.specs.Meaning.{Str}
use Rattle.ccs.specs.Syntax.{Term}
use Rattle.ccs.specs.Syntax.Term.{nil, prefix, par, sum, restrict, call}
use Rattle.actions.specs.Action.{is_name, is_action}
use Rattle.ccs.specs.Spelling.{term_bytes, sound_term}
use Rattle.ccs.specs.declared.node_bytes.TheConstants.{NIL, PREFIX, PARALLEL, SUM, RESTRICTION, CALL}
use Rattle.ccs.specs.declared.due.Due.{Due}
use Rattle.ccs.specs.declared.due.Due.TheVariants.{Node, Action, Name, Number}
use Rattle.ccs.specs.Reading.{Next, read, on_first, term_byte, only, read_term}
use Rattle.ccs.proofs.Cases.{cond_case, both_of}
use Rattle.ccs.proofs.Spelled.{Keeps, keeps_alone, keeps_part, keeps_parts, keeps_before, read_one}

-- the byte that opened the first term, where what belongs to it is due
abbrev pub opening : Due → Str
opening Node = []
opening Action = PREFIX ∷ []
opening Name = RESTRICTION ∷ []
opening Number = CALL ∷ []

module _ (n : ℕ) where
  abbrev Kept : Due → ℕ → ℕ → Option (Next Term) → Type 0
  Kept = Keeps term_bytes (sound_term n) opening

  pub byte_keeps : (d : Due) (k b : ℕ) → Kept d k b (term_byte n d k b)
  unfolding term_byte term_bytes sound_term
  byte_keeps Node zero b = tt
  byte_keeps Node (suc k) b =
      cond_case (Kept Node (suc k) b) (nat_eq b NIL) _ _
      (λ e. keeps_alone term_bytes (sound_term n) opening nil Node k (suc k) b refl refl
      (λ s. ap (◌∷ s) (sym (eqb-true b NIL e))))
      (λ _. cond_case (Kept Node (suc k) b) (nat_eq b PREFIX) _ _
      (λ e. keeps_before term_bytes (sound_term n) opening Action Node k (suc k) b refl
      (λ s. ap (◌∷ s) (sym (eqb-true b PREFIX e))))
      (λ _. cond_case (Kept Node (suc k) b) (nat_eq b PARALLEL) _ _
      (λ e. keeps_parts term_bytes (sound_term n) opening par Node k (suc k) b refl refl
      (λ p q f g. rw (f, g) refl) (λ p q. ap (◌∷ (term_bytes p ++ term_bytes q)) (sym (eqb-true b PARALLEL e))))
      (λ _. cond_case (Kept Node (suc k) b) (nat_eq b SUM) _ _
      (λ e. keeps_parts term_bytes (sound_term n) opening sum Node k (suc k) b refl refl
      (λ p q f g. rw (f, g) refl) (λ p q. ap (◌∷ (term_bytes p ++ term_bytes q)) (sym (eqb-true b SUM e))))
      (λ _. cond_case (Kept Node (suc k) b) (nat_eq b RESTRICTION) _ _
      (λ e. keeps_before term_bytes (sound_term n) opening Name Node k (suc k) b refl
      (λ s. ap (◌∷ s) (sym (eqb-true b RESTRICTION e))))
      (λ _. cond_case (Kept Node (suc k) b) (nat_eq b CALL && nat_le 1 n) _ _
      (λ e. keeps_before term_bytes (sound_term n) opening Number Node k (suc k) b refl
      (λ s. ap (◌∷ s) (sym (eqb-true b CALL (both_of _ _ e).0))))
      (λ _. tt))))))
  byte_keeps Action k a =
      cond_case (Kept Action k a) (is_action a) _ _
      (λ e. keeps_part term_bytes (sound_term n) opening (prefix a) Action k k a refl refl
      (λ p f. rw (e, f) refl) (λ p. refl))
      (λ _. tt)
  byte_keeps Name k m =
      cond_case (Kept Name k m) (is_name m) _ _
      (λ e. keeps_part term_bytes (sound_term n) opening (restrict m) Name k k m refl refl
      (λ p f. rw (e, f) refl) (λ p. refl))
      (λ _. tt)
  byte_keeps Number k d =
      cond_case (Kept Number k d) (nat_lt d n) _ _
      (λ e. keeps_alone term_bytes (sound_term n) opening (call d) Number k k d refl e (λ s. refl)) (λ _. tt)

  -- a spelled term is read, and what is read behind it stays
  pub reads_term : (p : Term) → sound_term n p ≡ true → (k : ℕ) (s : Str) (ps : List Term)
      → read (term_byte n) Node k s ≡ Ok ps → read (term_byte n) Node (suc k) (term_bytes p ++ s) ≡ Ok (p ∷ ps)
  unfolding term_byte term_bytes sound_term read
  reads_term nil e k s ps h = rw h refl
  reads_term (prefix a p) e k s ps h =
      let c = both_of (is_action a) (sound_term n p) e in
      rw (c.0, reads_term p c.1 k s ps h) refl
  reads_term (par p q) e k s ps h =
      let c = both_of (sound_term n p) (sound_term n q) e in
      let behind = reads_term q c.1 k s ps h in
      let whole = reads_term p c.0 (suc k) (term_bytes q ++ s) (q ∷ ps) behind in
      rw (append_assoc (term_bytes p) (term_bytes q) s, whole) refl
  reads_term (sum p q) e k s ps h =
      let c = both_of (sound_term n p) (sound_term n q) e in
      let behind = reads_term q c.1 k s ps h in
      let whole = reads_term p c.0 (suc k) (term_bytes q ++ s) (q ∷ ps) behind in
      rw (append_assoc (term_bytes p) (term_bytes q) s, whole) refl
  reads_term (restrict m p) e k s ps h =
      let c = both_of (is_name m) (sound_term n p) e in
      rw (c.0, reads_term p c.1 k s ps h) refl
  reads_term (call d) e k s ps h =
      let some : nat_le 1 n ≡ true = le-leb 1 n (omega (arith, ltb-true d n e)) in
      rw (some, e, h) refl

  -- a string is read as the one term that it spells
  pub read_is_term : (s : Str) (p : Term) → read_term n s ≡ Ok p → (term_bytes p ≡ s) × (sound_term n p ≡ true)
  read_is_term = read_one term_bytes (sound_term n) opening (term_byte n) refl byte_keeps

  pub term_is_read : (p : Term) → sound_term n p ≡ true → read_term n (term_bytes p) ≡ Ok p
  unfolding read
  term_is_read p e =
      ap only (ap (read (term_byte n) Node 1) (sym (append-nil (term_bytes p))) ∙ reads_term p e 0 [] [] refl)

  -- whatever is due, some string ends it
  abbrev pub Alive : Due → ℕ → Type 0
  Alive Node k = Unit {0}
  Alive Action k = Unit {0}
  Alive Name k = Unit {0}
  Alive Number k = 0 < n

  AliveNext : Option (Next Term) → Type 0
  AliveNext None = Unit {0}
  AliveNext (Some x) = Alive x.due x.count

  alive_next : (d : Due) (k b : ℕ) → AliveNext (term_byte n d k b)
  unfolding term_byte AliveNext
  alive_next Node zero b = tt
  alive_next Node (suc k) b =
      cond_case AliveNext (nat_eq b NIL) _ _ (λ _. tt)
      (λ _. cond_case AliveNext (nat_eq b PREFIX) _ _ (λ _. tt)
      (λ _. cond_case AliveNext (nat_eq b PARALLEL) _ _ (λ _. tt)
      (λ _. cond_case AliveNext (nat_eq b SUM) _ _ (λ _. tt)
      (λ _. cond_case AliveNext (nat_eq b RESTRICTION) _ _ (λ _. tt)
      (λ _. cond_case AliveNext (nat_eq b CALL && nat_le 1 n) _ _ (λ e. omega (arith, leb-true 1 n (both_of _ _ e).1))
      (λ _. tt))))))
  alive_next Action k a = cond_case AliveNext (is_action a) _ _ (λ _. tt) (λ _. tt)
  alive_next Name k m = cond_case AliveNext (is_name m) _ _ (λ _. tt) (λ _. tt)
  alive_next Number k d = cond_case AliveNext (nat_lt d n) _ _ (λ _. tt) (λ _. tt)

  pub alive_on : (d : Due) (k b : ℕ) (x : Next Term) → term_byte n d k b ≡ Some x → Alive d k → Alive x.due x.count
  unfolding AliveNext
  alive_on d k b x e a = subst AliveNext e (alive_next d k b)

  nils : ℕ → List Term
  nils zero = []
  nils (suc k) = nil ∷ nils k

  zeros : (k : ℕ) → (r : Str) × read (term_byte n) Node k r ≡ Ok (nils k)
  unfolding term_byte read nils term_bytes sound_term
  zeros zero = ([], refl)
  zeros (suc k) = let z = zeros k in (NIL ∷ z.0, reads_term nil refl k z.0 (nils k) z.1)

  pub ending : (d : Due) (k : ℕ) → Alive d k → (r : Str) × (ps : List Term) × read (term_byte n) d k r ≡ Ok ps
  unfolding term_byte read
  ending Node k a = let z = zeros k in (z.0, nils k, z.1)
  ending Action k a = let z = zeros (suc k) in (0 ∷ z.0, on_first (prefix 0) (nils (suc k)), rw z.1 refl)
  ending Name k a = let z = zeros (suc k) in (1 ∷ z.0, on_first (restrict 1) (nils (suc k)), rw z.1 refl)
  ending Number k a =
      let z = zeros k in
      let o : nat_lt 0 n ≡ true = lt-ltb 0 n a in
      (0 ∷ z.0, call 0 ∷ nils k, rw (o, z.1) refl)
