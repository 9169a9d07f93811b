-- Proofs are read as they are spelled.
-- Each byte that fits keeps what was read in step with what was due, so a proof that is read is spelled by the string.
-- And by induction on a proof its bytes are read as the proof, in front of whatever is read behind them.
use Rattle.std.proofs.Common.{◌≡◌, ℕ, zero, suc, true, List, [], ◌∷◌, ◌++◌, Some, None, Ok, Option, nat_eq, sym, refl, ap, ◌∙◌, subst, append_assoc, append-nil}
use Rattle.std.proofs.lemmas.Bool.{eqb-true}
use Rattle.steps.specs.Meaning.{Str}
use Rattle.ccs.specs.Syntax.{Proof}
use Rattle.ccs.specs.Syntax.Proof.{act, on_left, on_right, both, choose_left, choose_right, under}
use Rattle.actions.specs.Action.{is_name, is_action}
use Rattle.ccs.specs.Spelling.{proof_bytes, sound_proof}
use Rattle.ccs.specs.declared.node_bytes.TheConstants.{ACT, LEFT, RIGHT, BOTH, CHOOSE_LEFT, CHOOSE_RIGHT, UNDER}
use Rattle.ccs.specs.declared.due.Due.{Due}
use Rattle.ccs.specs.declared.due.Due.TheVariants.{Node, Action, Name, Number}
use Rattle.ccs.specs.Reading.{Next, read, on_first, proof_byte, only, read_proof}
use Rattle.ccs.proofs.Cases.{cond_case, both_of}
use Rattle.ccs.proofs.Spelled.{wanted, Keeps, keeps_alone, keeps_part, keeps_parts, keeps_before, read_one}

-- the byte that opened the first proof, where what belongs to it is due
abbrev pub opening : Due → Str
opening Node = []
opening Action = ACT ∷ []
opening Name = UNDER ∷ []
opening Number = []

abbrev Kept : Due → ℕ → ℕ → Option (Next Proof) → Type 0
Kept = Keeps proof_bytes sound_proof opening

part : (f : Proof → Proof) (k b c : ℕ) → ((t : Proof) → sound_proof t ≡ true → sound_proof (f t) ≡ true)
    → ((t : Proof) → proof_bytes (f t) ≡ c ∷ proof_bytes t) → nat_eq b c ≡ true
    → Kept Node (suc k) b (Some (record { due = Node; count = suc k; build = on_first f }))
part f k b c e g h =
    keeps_part proof_bytes sound_proof opening f Node k (suc k) b refl refl e
    (λ t. g t ∙ ap (◌∷ proof_bytes t) (sym (eqb-true b c h)))

before : (d : Due) (k b c : ℕ) → suc k ≡ wanted d k → ((s : Str) → opening d ++ s ≡ c ∷ s) → nat_eq b c ≡ true
    → Kept Node (suc k) b (Some (record { due = d; count = k; build = λ ts. ts }))
before d k b c w g h =
    keeps_before proof_bytes sound_proof opening d Node k (suc k) b w
    (λ s. g s ∙ ap (◌∷ s) (sym (eqb-true b c h)))

pub byte_keeps : (d : Due) (k b : ℕ) → Kept d k b (proof_byte d k b)
unfolding proof_byte proof_bytes sound_proof
byte_keeps Node zero b = tt
byte_keeps Node (suc k) b =
    cond_case (Kept Node (suc k) b) (nat_eq b ACT) _ _ (before Action k b ACT refl (λ s. refl))
    (λ _. cond_case (Kept Node (suc k) b) (nat_eq b LEFT) _ _ (part on_left k b LEFT (λ t e. e) (λ t. refl))
    (λ _. cond_case (Kept Node (suc k) b) (nat_eq b RIGHT) _ _ (part on_right k b RIGHT (λ t e. e) (λ t. refl))
    (λ _. cond_case (Kept Node (suc k) b) (nat_eq b BOTH) _ _
    (λ e. keeps_parts proof_bytes sound_proof opening both Node k (suc k) b refl refl (λ t u f g. rw (f, g) refl)
    (λ t u. ap (◌∷ (proof_bytes t ++ proof_bytes u)) (sym (eqb-true b BOTH e))))
    (λ _. cond_case (Kept Node (suc k) b) (nat_eq b CHOOSE_LEFT) _ _
    (part choose_left k b CHOOSE_LEFT (λ t e. e) (λ t. refl))
    (λ _. cond_case (Kept Node (suc k) b) (nat_eq b CHOOSE_RIGHT) _ _
    (part choose_right k b CHOOSE_RIGHT (λ t e. e) (λ t. refl))
    (λ _. cond_case (Kept Node (suc k) b) (nat_eq b UNDER) _ _ (before Name k b UNDER refl (λ s. refl))
    (λ _. tt)))))))
byte_keeps Action k a =
    cond_case (Kept Action k a) (is_action a) _ _
    (λ e. keeps_alone proof_bytes sound_proof opening (act a) Action k k a refl e (λ s. refl)) (λ _. tt)
byte_keeps Name k m =
    cond_case (Kept Name k m) (is_name m) _ _
    (λ e. keeps_part proof_bytes sound_proof opening (under m) Name k k m refl refl (λ t f. rw (e, f) refl) (λ t. refl))
    (λ _. tt)
byte_keeps Number k d = tt

-- a spelled proof is read, and what is read behind it stays
pub reads_proof : (t : Proof) → sound_proof t ≡ true → (k : ℕ) (s : Str) (ts : List Proof)
    → read proof_byte Node k s ≡ Ok ts → read proof_byte Node (suc k) (proof_bytes t ++ s) ≡ Ok (t ∷ ts)
unfolding proof_byte proof_bytes sound_proof read
reads_proof (act a) e k s ts h = rw (e, h) refl
reads_proof (on_left t) e k s ts h = rw (reads_proof t e k s ts h) refl
reads_proof (on_right t) e k s ts h = rw (reads_proof t e k s ts h) refl
reads_proof (both t u) e k s ts h =
    let c = both_of (sound_proof t) (sound_proof u) e in
    let behind = reads_proof u c.1 k s ts h in
    let whole = reads_proof t c.0 (suc k) (proof_bytes u ++ s) (u ∷ ts) behind in
    rw (append_assoc (proof_bytes t) (proof_bytes u) s, whole) refl
reads_proof (choose_left t) e k s ts h = rw (reads_proof t e k s ts h) refl
reads_proof (choose_right t) e k s ts h = rw (reads_proof t e k s ts h) refl
reads_proof (under m t) e k s ts h =
    let c = both_of (is_name m) (sound_proof t) e in
    rw (c.0, reads_proof t c.1 k s ts h) refl

-- a string is read as the one proof that it spells
pub read_is_proof : (s : Str) (t : Proof) → read_proof s ≡ Ok t → (proof_bytes t ≡ s) × (sound_proof t ≡ true)
read_is_proof = read_one proof_bytes sound_proof opening proof_byte refl byte_keeps

pub proof_is_read : (t : Proof) → sound_proof t ≡ true → read_proof (proof_bytes t) ≡ Ok t
unfolding read
proof_is_read t e =
    ap only (ap (read proof_byte Node 1) (sym (append-nil (proof_bytes t))) ∙ reads_proof t e 0 [] [] refl)

-- whatever is due, some string ends it; a number never is
abbrev pub Alive : Due → ℕ → Type 0
Alive Node k = Unit {0}
Alive Action k = Unit {0}
Alive Name k = Unit {0}
Alive Number k = ⊥

AliveNext : Option (Next Proof) → Type 0
AliveNext None = Unit {0}
AliveNext (Some x) = Alive x.due x.count

alive_next : (d : Due) (k b : ℕ) → AliveNext (proof_byte d k b)
unfolding proof_byte AliveNext
alive_next Node zero b = tt
alive_next Node (suc k) b =
    cond_case AliveNext (nat_eq b ACT) _ _ (λ _. tt)
    (λ _. cond_case AliveNext (nat_eq b LEFT) _ _ (λ _. tt)
    (λ _. cond_case AliveNext (nat_eq b RIGHT) _ _ (λ _. tt)
    (λ _. cond_case AliveNext (nat_eq b BOTH) _ _ (λ _. tt)
    (λ _. cond_case AliveNext (nat_eq b CHOOSE_LEFT) _ _ (λ _. tt)
    (λ _. cond_case AliveNext (nat_eq b CHOOSE_RIGHT) _ _ (λ _. tt)
    (λ _. cond_case AliveNext (nat_eq b UNDER) _ _ (λ _. tt) (λ _. tt)))))))
alive_next Action k a = cond_case AliveNext (is_action a) _ _ (λ _. tt) (λ _. tt)
alive_next Name k m = cond_case AliveNext (is_name m) _ _ (λ _. tt) (λ _. tt)
alive_next Number k d = tt

pub alive_on : (d : Due) (k b : ℕ) (x : Next Proof) → proof_byte d k b ≡ Some x → Alive d k → Alive x.due x.count
unfolding AliveNext
alive_on d k b x e a = subst AliveNext e (alive_next d k b)

acts : ℕ → List Proof
acts zero = []
acts (suc k) = act 0 ∷ acts k

silent : (k : ℕ) → (r : Str) × read proof_byte Node k r ≡ Ok (acts k)
unfolding proof_byte read acts proof_bytes sound_proof
silent zero = ([], refl)
silent (suc k) = let z = silent k in (ACT ∷ 0 ∷ z.0, reads_proof (act 0) refl k z.0 (acts k) z.1)

pub ending : (d : Due) (k : ℕ) → Alive d k → (r : Str) × (ts : List Proof) × read proof_byte d k r ≡ Ok ts
unfolding proof_byte read
ending Node k a = let z = silent k in (z.0, acts k, z.1)
ending Action k a = let z = silent k in (0 ∷ z.0, act 0 ∷ acts k, rw z.1 refl)
ending Name k a = let z = silent (suc k) in (1 ∷ z.0, on_first (under 1) (acts (suc k)), rw z.1 refl)
ending Number k a = absurd a
