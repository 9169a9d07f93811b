-- What comes of an outcome that was answered.
use Rattle.std.proofs.Common.{◌≡◌, ℕ, ◌-◌, ◌≤◌, List, [], ◌∷◌, ◌++◌, leb, length, take, drop, Some, None, Ok, Err, Option, Result, sym, refl, ap, ◌∙◌, arith}
use Rattle.std.specs.Result.{IsErrAnd}
use Rattle.std.proofs.lemmas.List.{take_at, append_assoc, take-append-drop, drop-append-le, length-take, length-append}
use Rattle.std.proofs.lemmas.Bool.{cond-true, le-leb}
use Rattle.byte_strings.specs.Buffer.{Str, over, count, buffer_after}
use Rattle.hexadecimal.specs.Line.{line}
use Rattle.hexadecimal.proofs.Lines.{length_line}
use Rattle.steps.specs.declared.fault.Refusal.{Refusal}
use Rattle.steps.proofs.Answered.{counted, not_counted, ok_not_err}
use Rattle.bench.specs.declared.fault.BenchFault.{BenchFault}
use Rattle.steps.specs.Meaning.{Transitions}
use Rattle.bench.specs.Page.{Page}
use Rattle.bench.specs.Calls.{Outcome, answered, accepted}
use Rattle.bench.specs.Refusals.{bench_refusal, beneath}
use Rattle.bench.specs.Print.{printed}
use Rattle.bench.specs.Table.{on_sheet}
use Rattle.frame.specs.Refusals.{frame_refusal}
use Rattle.server.specs.declared.fault.Fault.{Fault}
use Rattle.server.specs.declared.fault.Fault.TheVariants.{Frame, Call}
use Rattle.server.specs.Text.{text_limit, refusal_bytes, beneath_bytes, call_text, print_text, told_line, Answers}
use Rattle.server.specs.Answer.{Model, Reply, reply_length, reply_buffer, reply_model}

-- a call that was sent back
not_accepted : (o : Outcome) (f : BenchFault) → Err f ≡ accepted o → o ≡ Err f
not_accepted (Ok d) f e = ok_not_err tt f (sym e)
not_accepted (Err g) f e = ap Err (cc)

-- a fault that tells a text
tells : (text : Str) (f : Fault) (r : Result ℕ Fault) (old new : Str) → text ≡ told_line f → new ≡ old → IsErrAnd r (λ e. e ≡ f) → Answers text r old new
tells text f (Ok n) old new t w none = absurd none
tells text f (Err e) old new t w is = (t ∙ sym (ap told_line is), w)

pub sent_back : (o : Outcome) (f : BenchFault) (r : Result ℕ Fault) (old : Str) → Err f ≡ accepted o → IsErrAnd r (λ e. e ≡ Call f) → Answers (call_text (answered o)) r old old
sent_back o f r old e is = tells _ (Call f) r old old (ap (λ w. call_text (answered w)) (not_accepted o f e)) refl is

pub step_sent_back : (o : Outcome) (f : BenchFault) (r : Result ℕ Fault) (old : Str) → Err f ≡ count (answered o) → IsErrAnd r (λ e. e ≡ Call f) → Answers (call_text (answered o)) r old old
step_sent_back o f r old e is = tells _ (Call f) r old old (ap call_text (not_counted (answered o) f e)) refl is

pub print_sent_back : (t : Transitions) (ps : List Page) (s : ℕ) (f : BenchFault) (r : Result ℕ Fault) (old new : Str) → length old ≡ text_limit → Err f ≡ count (answered (on_sheet ps s (printed t (length old)))) → new ≡ buffer_after (answered (on_sheet ps s (printed t (length old)))) old → IsErrAnd r (λ e. e ≡ Call f)
    → Answers (print_text (answered (on_sheet ps s (printed t text_limit)))) r old new
print_sent_back t ps s f r old new long e left is =
    let back = not_counted (answered (on_sheet ps s (printed t (length old)))) f e in
    let same = ap (λ n. answered (on_sheet ps s (printed t n))) (sym long) ∙ back in
    tells _ (Call f) r old new (ap print_text same) (left ∙ ap (λ w. buffer_after w old) back) is

-- a text that is in a buffer with room for the longest
pub written : (text w o now : Str) (n : ℕ) → length now ≡ text_limit → text ≡ w → n ≡ length w → now ≡ over w o → Answers text (Ok n) o now
written text w o now n long is len left =
    let all = length-append w (drop (length w) o) in
    (len ∙ sym (ap length is), left ∙ sym (ap (λ v. over v o) is), omega (arith, ap length left))

-- the line of a string at the front of a buffer that held nothing before
pub answer_told : (o : Outcome) (n : ℕ) (now old : Str) → Ok n ≡ count (answered o) → now ≡ buffer_after (answered o) old → call_text (answered o) ≡ line (0 ∷ take (n - 0) now)
answer_told o n now old told left =
    let c = counted (answered o) n told in
    let held : now ≡ over c.0 old = left ∙ ap (λ q. buffer_after q old) c.1 in
    let whole : n - 0 ≡ length c.0 = omega (arith, c.2) in
    let front : take (n - 0) now ≡ c.0 = ap (λ k. take k now) whole ∙ ap (take (length c.0)) held ∙ take_at c.0 (drop (length c.0) old) (length c.0) refl in
    ap call_text c.1 ∙ ap (λ w. line (0 ∷ w)) (sym front)

-- the front of a buffer, as a text leaves it, before the rest
module _ (r : Reply) (out : Str) (room : text_limit ≤ length out) where
  pub told_length : (n : ℕ) → n ≡ length r.text → Some n ≡ reply_length r (length out)
  told_length n e = ap Some e ∙ sym (cond-true (leb text_limit (length out)) _ _ (le-leb _ _ room))

  pub told_model : (m m' : Model) → m' ≡ r.model → m' ≡ reply_model r (length out) m
  told_model m m' e = e ∙ sym (cond-true (leb text_limit (length out)) _ _ (le-leb _ _ room))

  pub told_buffer : (front chunk : Str) → chunk ≡ take text_limit out → length r.text ≤ text_limit → front ≡ over r.text chunk → front ++ drop text_limit out ≡ reply_buffer r out
  told_buffer front chunk is short wrote =
      let w = r.text in
      let split : drop (length w) out ≡ drop (length w) (take text_limit out) ++ drop text_limit out = ap (drop (length w)) (sym (take-append-drop text_limit out)) ∙ drop-append-le (length w) (take text_limit out) (drop text_limit out) (rw length-take (omega arith)) in
      let whole : front ++ drop text_limit out ≡ over w out = ap (λ q. q ++ drop text_limit out) (wrote ∙ ap (over w) is) ∙ append_assoc w (drop (length w) (take text_limit out)) (drop text_limit out) ∙ ap (λ d. w ++ d) (sym split) in
      whole ∙ sym (cond-true (leb text_limit (length out)) _ _ (le-leb _ _ room))

-- the line of a refusal is short
pub told_short : (f : Fault) → length (told_line f) ≤ text_limit
told_short (Frame f) = rw (length_line (refusal_bytes (frame_refusal f))) (omega arith)
told_short (Call f) = cause (beneath f)
  where
    cause : (o : Option Refusal) → length (line (refusal_bytes (bench_refusal f) ++ beneath_bytes o)) ≤ text_limit
    cause None = rw (length_line (refusal_bytes (bench_refusal f) ++ [])) (omega arith)
    cause (Some r) = rw (length_line (refusal_bytes (bench_refusal f) ++ refusal_bytes r)) (omega arith)
