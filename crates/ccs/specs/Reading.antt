-- Reading bytes: the terms or proofs that they are, or the first byte that fits none.
use Rattle.std.specs.Prelude.{ℕ, zero, suc, Bool, true, false, ◌&&◌, List, [], ◌∷◌, Some, None, Ok, Err, Option, Result, nat_eq, nat_le, nat_lt, if◌then◌else◌}
use Rattle.steps.specs.Meaning.{Str}
use Rattle.ccs.specs.declared.node_bytes.TheConstants.{NIL, PREFIX, PARALLEL, SUM, RESTRICTION, CALL, ACT, LEFT, RIGHT, BOTH, CHOOSE_LEFT, CHOOSE_RIGHT, UNDER}
use Rattle.ccs.specs.declared.due.Due.{Due}
use Rattle.ccs.specs.declared.due.Due.TheVariants.{Node, Action, Name, Number}
use Rattle.ccs.specs.Syntax.{Term, Proof}
use Rattle.ccs.specs.Syntax.Term.{nil, prefix, par, sum, restrict, call}
use Rattle.ccs.specs.Syntax.Proof.{act, on_left, on_right, both, choose_left, choose_right, under}
use Rattle.actions.specs.Action.{is_name, is_action}

-- What is due behind a byte that fits: the next byte, and how many terms or proofs; and what the
-- byte makes of those that are read there.
pub record Next (A : Type 0) : Type 0 where
  pub due : Due
  pub count : ℕ
  pub build : List A → List A

-- no term or proof is due any more, and none is begun
abbrev pub nothing_due : Due → ℕ → Bool
nothing_due Node zero = true
nothing_due Node (suc k) = false
nothing_due Action k = false
nothing_due Name k = false
nothing_due Number k = false

-- a byte was read before what is read
abbrev pub behind : {A B : Type 0} → (A → B) → Result A ℕ → Result B ℕ
behind f (Ok x) = Ok (f x)
behind f (Err p) = Err (suc p)

-- goes on behind a byte, if it fits
abbrev pub onward : {A : Type 0}
    → Option (Next A) → (Due → ℕ → Result (List A) ℕ) → Result (List A) ℕ
onward None rest = Err 0
onward (Some n) rest = behind n.build (rest n.due n.count)

-- So many, one behind the other and nothing else. Else the place of the first byte that fits none.
unfoldable pub read : {A : Type 0}
    → (Due → ℕ → ℕ → Option (Next A)) → Due → ℕ → Str → Result (List A) ℕ
read byte due k [] = if nothing_due due k then Ok [] else Err 0
read byte due k (b ∷ s) = onward (byte due k b) (λ d j. read byte d j s)

-- a node without parts, before what is read behind it
abbrev pub alone : {A : Type 0} → A → ℕ → Option (Next A)
alone x k = Some (record { due = Node; count = k; build = λ xs. x ∷ xs })

-- a node around the first of what is read behind it
abbrev pub on_first : {A : Type 0} → (A → A) → List A → List A
on_first f [] = []
on_first f (x ∷ xs) = f x ∷ xs

abbrev pub with_part : {A : Type 0} → (A → A) → ℕ → Option (Next A)
with_part f k = Some (record { due = Node; count = suc k; build = on_first f })

-- a node around the first two
abbrev pub on_first_two : {A : Type 0} → (A → A → A) → List A → List A
on_first_two f [] = []
on_first_two f (x ∷ []) = x ∷ []
on_first_two f (x ∷ y ∷ xs) = f x y ∷ xs

abbrev pub with_parts : {A : Type 0} → (A → A → A) → ℕ → Option (Next A)
with_parts f k = Some (record { due = Node; count = suc (suc k); build = on_first_two f })

-- a node's first byte, before what belongs to it
abbrev pub before : {A : Type 0} → Due → ℕ → Option (Next A)
before d k = Some (record { due = d; count = k; build = λ xs. xs })

-- a byte of terms over n definitions, where so many terms are due, and one more behind a node's
-- first byte
unfoldable pub term_byte : ℕ → Due → ℕ → ℕ → Option (Next Term)
term_byte n Node zero b = None
term_byte n Node (suc k) b =
    if nat_eq b NIL then alone nil k
    else if nat_eq b PREFIX then before Action k
    else if nat_eq b PARALLEL then with_parts par k
    else if nat_eq b SUM then with_parts sum k
    else if nat_eq b RESTRICTION then before Name k
    else if nat_eq b CALL && nat_le 1 n then before Number k else None
term_byte n Action k a = if is_action a then with_part (prefix a) k else None
term_byte n Name k m = if is_name m then with_part (restrict m) k else None
term_byte n Number k d = if nat_lt d n then alone (call d) k else None

-- a byte of proofs
unfoldable pub proof_byte : Due → ℕ → ℕ → Option (Next Proof)
proof_byte Node zero b = None
proof_byte Node (suc k) b =
    if nat_eq b ACT then before Action k
    else if nat_eq b LEFT then with_part on_left k
    else if nat_eq b RIGHT then with_part on_right k
    else if nat_eq b BOTH then with_parts both k
    else if nat_eq b CHOOSE_LEFT then with_part choose_left k
    else if nat_eq b CHOOSE_RIGHT then with_part choose_right k
    else if nat_eq b UNDER then before Name k else None
proof_byte Action k a = if is_action a then alone (act a) k else None
proof_byte Name k m = if is_name m then with_part (under m) k else None
proof_byte Number k d = None

-- a string as one term, or as one proof
abbrev pub only : {A : Type 0} → Result (List A) ℕ → Result A ℕ
only (Ok []) = Err 0
only (Ok (x ∷ xs)) = Ok x
only (Err p) = Err p

abbrev pub read_term : ℕ → Str → Result Term ℕ
read_term n s = only (read (term_byte n) Node 1 s)

abbrev pub read_proof : Str → Result Proof ℕ
read_proof s = only (read proof_byte Node 1 s)
