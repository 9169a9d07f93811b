-- Answers written behind a byte, and one behind another.
use Rattle.std.proofs.Common.{◌≡◌, ℕ, ◌∷◌, ◌++◌, length, Some, None, Ok, Option, sym, refl, ap, ◌∙◌}
use Rattle.steps.specs.Meaning.{Str}
use Rattle.ccs.specs.Syntax.{Proof}
use Rattle.ccs.specs.Syntax.Proof.{both, under}
use Rattle.ccs.specs.Spelling.{proof_bytes}
use Rattle.ccs.specs.Reading.{read_proof}
use Rattle.ccs.specs.Residual.{inside, in_both}
use Rattle.ccs.specs.System.{spelled_proof}
use Rattle.ccs.proofs.ProofReading.{read_is_proof}
use Rattle.residuals.specs.declared.sink.Sink.{Sink}
use Rattle.residuals.specs.Sink.{with_byte, sink_after, onto}
use Rattle.residuals.proofs.Poured.{poured_on, byte_before}

-- written behind what was, and then more
abbrev pub then_onto : Option Sink → (Sink → Option Sink) → Option Sink
then_onto (Some k) f = f k
then_onto None f = None

abbrev pub with_sides : Option (Option Str × Option Str) → (Option Str → Option Str → Option Sink) → Option Sink
with_sides (Some (l, r)) f = f l r
with_sides None f = None

abbrev pub with_part : Option Str → (Str → Option Sink) → Option Sink
with_part (Some s) f = f s
with_part None f = None

-- how long a part is, where there is one
abbrev pub size : Option Str → ℕ
size (Some s) = length s
size None = 0

-- one byte before what is answered, and two answers behind a byte
pub around : (o : Option Proof) (f : Proof → Proof) (b : ℕ) → ((t : Proof) → proof_bytes (f t) ≡ b ∷ proof_bytes t)
    → (k : Sink) → onto (with_byte k b) (spelled_proof o) ≡ onto k (spelled_proof (inside f o))
around (Some t) f b e k = ap Some (byte_before k b (proof_bytes t) ∙ ap (sink_after k) (sym (e t)))
around None f b e k = refl

pub two : (o p : Option Proof) (k : Sink)
    → then_onto (onto (with_byte k 0x13) (spelled_proof o)) (λ k. onto k (spelled_proof p))
    ≡ onto k (spelled_proof (in_both o p))
unfolding proof_bytes
two (Some t) (Some u) k = ap Some
    (poured_on (with_byte k 0x13) (proof_bytes t) (proof_bytes u) ∙ byte_before k 0x13 (proof_bytes t ++ proof_bytes u))
two (Some t) None k = refl
two None p k = refl

pub under_bytes : (o : Option Proof) (n : ℕ) (k : Sink)
    → onto (with_byte (with_byte k 0x16) n) (spelled_proof o) ≡ onto k (spelled_proof (inside (under n) o))
unfolding proof_bytes
under_bytes (Some t) n k = ap Some
    (byte_before (with_byte k 0x16) n (proof_bytes t) ∙ byte_before k 0x16 (n ∷ proof_bytes t))
under_bytes None n k = refl

pub second_kept : (o : Option Proof) (u : Proof) → in_both o (Some u) ≡ inside (λ t. both t u) o
second_kept (Some t) u = refl
second_kept None u = refl

pub first_kept : (t : Proof) (o : Option Proof) → in_both (Some t) o ≡ inside (both t) o
first_kept t (Some u) = refl
first_kept t None = refl

-- a part that stays is spelled by its string
pub kept : (s : Str) (t : Proof) → read_proof s ≡ Ok t → Some s ≡ spelled_proof (Some t)
kept s t e = ap Some (sym (read_is_proof s t e).0)
