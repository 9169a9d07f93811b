-- The node that a string is read as, with its parts as strings.
use Rattle.std.specs.Prelude.{◌≡◌, ℕ, ◌+◌, nat_eq, length, is_ok, Some, None, Ok, Err, Option, Result, IsTrue, if◌then◌else◌}
use Rattle.steps.specs.Meaning.{Str}
use Rattle.ccs.specs.Syntax.{Term, Proof}
use Rattle.ccs.specs.Syntax.Term.{nil, prefix, par, sum, restrict, call}
use Rattle.ccs.specs.Syntax.Proof.{act, on_left, on_right, both, choose_left, choose_right, under}
use Rattle.ccs.specs.Reading.{read_term, read_proof}
use Rattle.nodes.specs.declared.term.Term as terms
use Rattle.nodes.specs.declared.term.Term.TheVariants as term
use Rattle.nodes.specs.declared.proof.Proof as proofs
use Rattle.nodes.specs.declared.proof.Proof.TheVariants as proof

-- A node of a term, and one of a proof, each with its parts as strings.
pub data NodeOfTerm : Type 0 where
  Nil : NodeOfTerm
  Prefix : (a : ℕ) (s : Str) → NodeOfTerm
  Par : (s r : Str) → NodeOfTerm
  Sum : (s r : Str) → NodeOfTerm
  Restrict : (m : ℕ) (s : Str) → NodeOfTerm
  Call : (d : ℕ) → NodeOfTerm

pub data NodeOfProof : Type 0 where
  Act : (a : ℕ) → NodeOfProof
  Left : (s : Str) → NodeOfProof
  Right : (s : Str) → NodeOfProof
  Both : (s r : Str) → NodeOfProof
  ChooseLeft : (s : Str) → NodeOfProof
  ChooseRight : (s : Str) → NodeOfProof
  Under : (m : ℕ) (s : Str) → NodeOfProof

abbrev pub node_of_term : terms.Term → NodeOfTerm
node_of_term term.Nil = Nil
node_of_term (term.Prefix a s) = Prefix a s.now
node_of_term (term.Par s r) = Par s.now r.now
node_of_term (term.Sum s r) = Sum s.now r.now
node_of_term (term.Restrict m s) = Restrict m s.now
node_of_term (term.Call d) = Call d

abbrev pub term_view : Option terms.Term → Option NodeOfTerm
term_view None = None
term_view (Some p) = Some (node_of_term p)

abbrev pub node_of_proof : proofs.Proof → NodeOfProof
node_of_proof (proof.Act a) = Act a
node_of_proof (proof.Left s) = Left s.now
node_of_proof (proof.Right s) = Right s.now
node_of_proof (proof.Both s r) = Both s.now r.now
node_of_proof (proof.ChooseLeft s) = ChooseLeft s.now
node_of_proof (proof.ChooseRight s) = ChooseRight s.now
node_of_proof (proof.Under m s) = Under m s.now

abbrev pub proof_view : Option proofs.Proof → Option NodeOfProof
proof_view None = None
proof_view (Some t) = Some (node_of_proof t)

-- A string that is a term over n definitions is read as its first node, whose parts are the strings
-- of the term's parts; any other as none.
pub data TermNode (n : ℕ) : Option NodeOfTerm → Result Term ℕ → Type 0 where
  no_term : {k : ℕ} → TermNode n None (Err k)
  nil_node : TermNode n (Some Nil) (Ok nil)
  prefix_node : {a : ℕ} {s : Str} {p : Term} → read_term n s ≡ Ok p
      → TermNode n (Some (Prefix a s)) (Ok (prefix a p))
  par_node : {s r : Str} {p q : Term} → read_term n s ≡ Ok p → read_term n r ≡ Ok q
      → TermNode n (Some (Par s r)) (Ok (par p q))
  sum_node : {s r : Str} {p q : Term} → read_term n s ≡ Ok p → read_term n r ≡ Ok q
      → TermNode n (Some (Sum s r)) (Ok (sum p q))
  restrict_node : {m : ℕ} {s : Str} {p : Term} → read_term n s ≡ Ok p
      → TermNode n (Some (Restrict m s)) (Ok (restrict m p))
  call_node : {d : ℕ} → TermNode n (Some (Call d)) (Ok (call d))

-- A string that is a proof, likewise.
pub data ProofNode : Option NodeOfProof → Result Proof ℕ → Type 0 where
  no_proof : {k : ℕ} → ProofNode None (Err k)
  act_node : {a : ℕ} → ProofNode (Some (Act a)) (Ok (act a))
  left_node : {s : Str} {t : Proof} → read_proof s ≡ Ok t
      → ProofNode (Some (Left s)) (Ok (on_left t))
  right_node : {s : Str} {t : Proof} → read_proof s ≡ Ok t
      → ProofNode (Some (Right s)) (Ok (on_right t))
  both_node : {s r : Str} {t u : Proof} → read_proof s ≡ Ok t → read_proof r ≡ Ok u
      → ProofNode (Some (Both s r)) (Ok (both t u))
  choose_left_node : {s : Str} {t : Proof} → read_proof s ≡ Ok t
      → ProofNode (Some (ChooseLeft s)) (Ok (choose_left t))
  choose_right_node : {s : Str} {t : Proof} → read_proof s ≡ Ok t
      → ProofNode (Some (ChooseRight s)) (Ok (choose_right t))
  under_node : {m : ℕ} {s : Str} {t : Proof} → read_proof s ≡ Ok t
      → ProofNode (Some (Under m s)) (Ok (under m t))

-- A node's own bytes and its parts together are the string: one byte is its own, or two.
abbrev pub Fills : Option NodeOfProof → ℕ → Type 0
Fills None n = Unit {0}
Fills (Some (Act a)) n = Unit {0}
Fills (Some (Left s)) n = n ≡ 1 + length s
Fills (Some (Right s)) n = n ≡ 1 + length s
Fills (Some (Both s r)) n = n ≡ 1 + (length s + length r)
Fills (Some (ChooseLeft s)) n = n ≡ 1 + length s
Fills (Some (ChooseRight s)) n = n ≡ 1 + length s
Fills (Some (Under m s)) n = n ≡ 2 + length s

-- The parts of a node are proofs, and those of a term's node terms over n definitions.
abbrev pub ProofsRead : NodeOfProof → Type 0
ProofsRead (Act a) = Unit {0}
ProofsRead (Left s) = IsTrue (is_ok (read_proof s))
ProofsRead (Right s) = IsTrue (is_ok (read_proof s))
ProofsRead (Both s r) = IsTrue (is_ok (read_proof s)) × IsTrue (is_ok (read_proof r))
ProofsRead (ChooseLeft s) = IsTrue (is_ok (read_proof s))
ProofsRead (ChooseRight s) = IsTrue (is_ok (read_proof s))
ProofsRead (Under m s) = IsTrue (is_ok (read_proof s))

abbrev pub TermsRead : ℕ → NodeOfTerm → Type 0
TermsRead n Nil = Unit {0}
TermsRead n (Prefix a s) = IsTrue (is_ok (read_term n s))
TermsRead n (Par s r) = IsTrue (is_ok (read_term n s)) × IsTrue (is_ok (read_term n r))
TermsRead n (Sum s r) = IsTrue (is_ok (read_term n s)) × IsTrue (is_ok (read_term n r))
TermsRead n (Restrict m s) = IsTrue (is_ok (read_term n s))
TermsRead n (Call d) = Unit {0}

-- what a proof does on the left and on the right of a parallel term
abbrev pub sides_of : NodeOfProof → Option (Option Str × Option Str)
sides_of (Act a) = None
sides_of (Left s) = Some (Some s, None)
sides_of (Right s) = Some (None, Some s)
sides_of (Both s r) = Some (Some s, Some r)
sides_of (ChooseLeft s) = None
sides_of (ChooseRight s) = None
sides_of (Under m s) = None

-- what it does in the left branch of a choice, in the right one, and under the restriction of a
-- name
abbrev pub left_branch_of : NodeOfProof → Option Str
left_branch_of (Act a) = None
left_branch_of (Left s) = None
left_branch_of (Right s) = None
left_branch_of (Both s r) = None
left_branch_of (ChooseLeft s) = Some s
left_branch_of (ChooseRight s) = None
left_branch_of (Under m s) = None

abbrev pub right_branch_of : NodeOfProof → Option Str
right_branch_of (Act a) = None
right_branch_of (Left s) = None
right_branch_of (Right s) = None
right_branch_of (Both s r) = None
right_branch_of (ChooseLeft s) = None
right_branch_of (ChooseRight s) = Some s
right_branch_of (Under m s) = None

abbrev pub under_of : ℕ → NodeOfProof → Option Str
under_of n (Act a) = None
under_of n (Left s) = None
under_of n (Right s) = None
under_of n (Both s r) = None
under_of n (ChooseLeft s) = None
under_of n (ChooseRight s) = None
under_of n (Under m s) = if nat_eq n m then Some s else None

-- what a term does next: the rest behind an action, two sides, two branches, a term under a
-- restriction, the body of a definition
abbrev pub rest_of : ℕ → NodeOfTerm → Option Str
rest_of a Nil = None
rest_of a (Prefix b s) = if nat_eq b a then Some s else None
rest_of a (Par s r) = None
rest_of a (Sum s r) = None
rest_of a (Restrict m s) = None
rest_of a (Call d) = None

abbrev pub par_of : NodeOfTerm → Option (Str × Str)
par_of Nil = None
par_of (Prefix a s) = None
par_of (Par s r) = Some (s, r)
par_of (Sum s r) = None
par_of (Restrict m s) = None
par_of (Call d) = None

abbrev pub sum_of : NodeOfTerm → Option (Str × Str)
sum_of Nil = None
sum_of (Prefix a s) = None
sum_of (Par s r) = None
sum_of (Sum s r) = Some (s, r)
sum_of (Restrict m s) = None
sum_of (Call d) = None

abbrev pub restricted_of : ℕ → NodeOfTerm → Option Str
restricted_of n Nil = None
restricted_of n (Prefix a s) = None
restricted_of n (Par s r) = None
restricted_of n (Sum s r) = None
restricted_of n (Restrict m s) = if nat_eq m n then Some s else None
restricted_of n (Call d) = None

abbrev pub called_of : NodeOfTerm → Option ℕ
called_of Nil = None
called_of (Prefix a s) = None
called_of (Par s r) = None
called_of (Sum s r) = None
called_of (Restrict m s) = None
called_of (Call d) = Some d
