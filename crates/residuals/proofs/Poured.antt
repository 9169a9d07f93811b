-- What a sink holds when strings have been written to it.
use Rattle.std.proofs.Common.{◌≡◌, ℕ, zero, suc, min, [], ◌∷◌, ◌++◌, length, take, refl, ap, ◌∙◌, append_assoc, length-append, arith}
use Rattle.steps.specs.Meaning.{Str}
use Rattle.residuals.specs.declared.sink.Sink.{Sink}
use Rattle.residuals.specs.Sink.{empty_sink, with_byte, sink_after}

sink_is : {k j : Str} {m n : ℕ} → k ≡ j → m ≡ n
    → ◌≡◌ {A = Sink} (record { kept = k; len = m }) (record { kept = j; len = n })
sink_is e f = rw (e, f) refl

take_twice : (n : ℕ) (s r : Str) → take n (take n s ++ r) ≡ take n (s ++ r)
take_twice zero s r = refl
take_twice (suc n) [] r = refl
take_twice (suc n) (b ∷ s) r = ap (b ∷◌) (take_twice n s r)

-- one string behind another
pub poured_on : (s : Sink) (w v : Str) → sink_after (sink_after s w) v ≡ sink_after s (w ++ v)
poured_on s w v =
    sink_is (take_twice 256 (s.kept ++ w) v ∙ ap (take 256) (append_assoc s.kept w v))
    (omega (arith, length-append w v))

-- a byte before a string
pub byte_before : (s : Sink) (b : ℕ) (w : Str) → sink_after (with_byte s b) w ≡ sink_after s (b ∷ w)
byte_before s b w = sink_is (take_twice 256 (s.kept ++ b ∷ []) w ∙ ap (take 256) (append_assoc s.kept (b ∷ []) w))
    (omega arith)

-- as many bytes as a state may have are kept of a string, and 65,535 at most counted
pub sink_holds : (w : Str) → sink_after empty_sink w ≡ record { kept = take 256 w; len = min (length w) 65535 }
sink_holds w = sink_is refl (omega arith)
