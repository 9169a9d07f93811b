-- Where a string stops being one term, or one proof.
use Rattle.std.proofs.Common.{◌≡◌, ℕ, List, length, Ok, Err, Result, sym, refl, ap, ◌∙◌}
use Rattle.std.specs.Result.{result_err}
use Rattle.steps.specs.Meaning.{Str}
use Rattle.ccs.specs.Syntax.{Term, Proof}
use Rattle.ccs.specs.Spelling.{term_bytes, sound_term, proof_bytes, sound_proof}
use Rattle.ccs.specs.Reading.{read, only, read_term, read_proof, term_byte, proof_byte}
use Rattle.ccs.specs.declared.due.Due.TheVariants as due
use Rattle.ccs.proofs.Spelled.{one_read}
use Rattle.ccs.proofs.TermReading as terms
use Rattle.ccs.proofs.ProofReading as proofs
use Rattle.nodes.specs.Whole.{whole, start, whole_fault}
use Rattle.nodes.specs.Grammars.{fits_of}
use Rattle.nodes.proofs.Agree.{agree}

-- what is read as one is a list of one
one_only : {A : Type 0} (r : Result (List A) ℕ) → ((xs : List A) → r ≡ Ok xs → (x : A) × only r ≡ Ok x)
    → result_err (only r) ≡ result_err r
one_only (Ok xs) h = ap result_err (h xs refl).1
one_only (Err p) h = refl

pub proof_fault : (s : Str) → whole_fault (whole (fits_of proof_byte) start s) (length s) ≡ result_err (read_proof s)
unfolding proof_byte
proof_fault s = sym
    (one_only (read proof_byte due.Node 1 s) one ∙ agree proof_byte (λ b. refl) start.due start.count s refl)
  where
    one : (ts : List Proof) → read proof_byte due.Node 1 s ≡ Ok ts → (t : Proof) × read_proof s ≡ Ok t
    one ts e = let h = one_read proof_bytes sound_proof proofs.opening proof_byte refl proofs.byte_keeps s ts e in
        (h.0, ap read_proof (sym h.1) ∙ proofs.proof_is_read h.0 h.2)

pub term_fault : (n : ℕ) (s : Str)
    → whole_fault (whole (fits_of (term_byte n)) start s) (length s) ≡ result_err (read_term n s)
unfolding term_byte
term_fault n s = sym
    (one_only (read (term_byte n) due.Node 1 s) one ∙ agree (term_byte n) (λ b. refl) start.due start.count s refl)
  where
    one : (ps : List Term) → read (term_byte n) due.Node 1 s ≡ Ok ps → (p : Term) × read_term n s ≡ Ok p
    one ps e = let h = one_read term_bytes (sound_term n) terms.opening (term_byte n) refl
        (terms.byte_keeps n) s ps e in (h.0, ap (read_term n) (sym h.1) ∙ terms.term_is_read n h.0 h.2)
