-- The beginning of a line that is kept answers for the whole.
use Rattle.std.proofs.Common.{◌≡◌, ℕ, zero, suc, ◌+◌, ◌*◌, ◌<◌, ◌≤◌, Bool, true, false, cond, eqb, leb, [], ◌∷◌, ◌++◌, length, take, Some, None, Ok, Err, Option, sym, refl, ap, ◌∙◌, ⊎_elim, arith, length-take}
use Rattle.std.proofs.lemmas.List.{take_all, take-append-le, length-take-le}
use Rattle.std.proofs.lemmas.Bool.{cases_lt, ne_eqb, eq-eqb, cond-true, cond-false}
use Rattle.byte_strings.specs.Buffer.{Str}
use Rattle.hexadecimal.specs.Digits.{byte_of}
use Rattle.hexadecimal.specs.Hex.{byte_then, sound_bytes, all_or_count, read_answer}
use Rattle.steps.proofs.Answered.{some_not_none}
use Rattle.server.specs.Text.{text_limit}
use Rattle.server.specs.Answer.{Model, read_reply, line_reply, reply_length, reply_buffer, reply_model}
use Rattle.server.specs.Session.{SameAnswer, line_limit, taken_length, taken_buffer, taken_model, taken_line}

-- the first k bytes are spelled by the first 2k characters
sound_take : (k : ℕ) (l : Str) → take k (sound_bytes (take (2 * k + 1) l)) ≡ take k (sound_bytes l)
sound_take zero l = refl
sound_take (suc k) [] = let e : 2 * suc k + 1 ≡ suc (2 * k + 2) = omega arith in ap (λ n. take (suc k) (sound_bytes (take n []))) e
sound_take (suc k) (a ∷ []) = let e : 2 * suc k + 1 ≡ suc (suc (2 * k + 1)) = omega arith in ap (λ n. take (suc k) (sound_bytes (take n (a ∷ [])))) e
sound_take (suc k) (a ∷ b ∷ s) =
    let e : 2 * suc k + 1 ≡ suc (suc (2 * k + 1)) = omega arith in
    ap (λ n. take (suc k) (sound_bytes (take n (a ∷ b ∷ s)))) e ∙ go (byte_of a b) (sound_take k s)
  where
    go : (o : Option ℕ) → take k (sound_bytes (take (2 * k + 1) s)) ≡ take k (sound_bytes s) → take (suc k) (byte_then o (sound_bytes (take (2 * k + 1) s))) ≡ take (suc k) (byte_then o (sound_bytes s))
    go None e = refl
    go (Some v) e = ap (λ t. v ∷ t) e

-- lengths tell alike whether the line is whole
same_test : (l bs : Str) → length bs ≤ 1024 → eqb (length (take line_limit l)) (2 * length bs) ≡ eqb (length l) (2 * length bs)
same_test l bs short =
    ⊎_elim
    (λ (past : line_limit < length l). ne_eqb _ _ (λ e. let len = length-take line_limit l in absurd (omega arith)) ∙ sym (ne_eqb _ _ (λ e. absurd (omega arith))))
    (λ (within : length l ≤ line_limit). ap (λ t. eqb (length t) (2 * length bs)) (take_all line_limit l within))
    (cases_lt line_limit (length l))

same_read : (l : Str) → read_answer (take line_limit l) 1024 ≡ read_answer l 1024
same_read l =
    let bytes = sound_take 1024 l in
    let short : length (take 1024 (sound_bytes l)) ≤ 1024 = rw length-take (omega arith) in
    ap (all_or_count (take line_limit l)) bytes ∙ ap (λ b. cond b (Ok (take 1024 (sound_bytes l))) (Err (length (take 1024 (sound_bytes l))))) (same_test l (take 1024 (sound_bytes l)) short)

pub same_answer : SameAnswer
same_answer m l = ap (read_reply m) (same_read l)

-- what is kept of a longer line
pub kept_on : (l : Str) (b : ℕ) → take line_limit (take line_limit l ++ b ∷ []) ≡ take line_limit (l ++ b ∷ [])
kept_on l b =
    ⊎_elim
    (λ (past : line_limit < length l).
    let size : length (take line_limit l) ≡ line_limit = length-take-le line_limit l (omega arith) in
    take-append-le line_limit (take line_limit l) (b ∷ []) (omega arith) ∙ take_all line_limit (take line_limit l) (omega arith) ∙ sym (take-append-le line_limit l (b ∷ []) (omega arith)))
    (λ (within : length l ≤ line_limit). ap (λ t. take line_limit (t ++ b ∷ [])) (take_all line_limit l within))
    (cases_lt line_limit (length l))

-- a byte that ends no line
module _ (m : Model) (out l : Str) (b : ℕ) (other : b ≡ 10 → ⊥) where
  pub going : (Some 0 ≡ taken_length m l b (length out)) × (out ≡ taken_buffer m l b out) × (m ≡ taken_model m l b (length out)) × (l ++ b ∷ [] ≡ taken_line l b (length out))
  going =
      let no = ne_eqb b 10 other in
      (sym (cond-false (eqb b 10) _ _ no), sym (cond-false (eqb b 10) _ _ no), sym (cond-false (eqb b 10) _ _ no), sym (cond-false (eqb b 10) _ _ no))

-- a line end, where t is what was kept of the line
module _ (m : Model) (out l : Str) (b : ℕ) (end : b ≡ 10) (t : Str) (is : t ≡ take line_limit l) where
  pub ends_length : reply_length (line_reply m t) (length out) ≡ taken_length m l b (length out)
  ends_length = ap (λ w. reply_length (line_reply m w) (length out)) is ∙ ap (λ r. reply_length r (length out)) (same_answer m l) ∙ sym (cond-true (eqb b 10) _ _ (eq-eqb b 10 end))

  pub ends_buffer : reply_buffer (line_reply m t) out ≡ taken_buffer m l b out
  ends_buffer = ap (λ w. reply_buffer (line_reply m w) out) is ∙ ap (λ r. reply_buffer r out) (same_answer m l) ∙ sym (cond-true (eqb b 10) _ _ (eq-eqb b 10 end))

  pub ends_model : reply_model (line_reply m t) (length out) m ≡ taken_model m l b (length out)
  ends_model = ap (λ w. reply_model (line_reply m w) (length out) m) is ∙ ap (λ r. reply_model r (length out) m) (same_answer m l) ∙ sym (cond-true (eqb b 10) _ _ (eq-eqb b 10 end))

  pub ends_line : (n : ℕ) → Some n ≡ reply_length (line_reply m t) (length out) → [] ≡ take line_limit (taken_line l b (length out))
  ends_line n e = ap (take line_limit) (go (leb text_limit (length out)) e ∙ sym (cond-true (eqb b 10) _ _ (eq-eqb b 10 end)))
    where
      go : (d : Bool) → Some n ≡ cond d (Some (length (line_reply m t).text)) None → [] ≡ cond d [] l
      go true p = refl
      go false p = some_not_none n p

  pub stays_line : None ≡ reply_length (line_reply m t) (length out) → take line_limit l ≡ take line_limit (taken_line l b (length out))
  stays_line e = ap (take line_limit) (go (leb text_limit (length out)) e ∙ sym (cond-true (eqb b 10) _ _ (eq-eqb b 10 end)))
    where
      go : (d : Bool) → None ≡ cond d (Some (length (line_reply m t).text)) None → l ≡ cond d [] l
      go true p = some_not_none (length (line_reply m t).text) (sym p)
      go false p = refl
