-- The lines of the steps of a sheet that replays, one by one.
use Rattle.std.proofs.Common.{◌≡◌, ℕ, zero, suc, ◌+◌, ◌-◌, ◌*◌, ◌<◌, ◌≤◌, min, Bool, true, false, leb, List, [], ◌∷◌, ◌++◌, length, get_or, take, drop, is_ok, Ok, Err, Result, sym, refl, ap, ◌∙◌, arith, length-append}
use borrow.Rule.Slice.PartMut.{put_mid}
use Rattle.std.proofs.lemmas.List.{take_more, take-append-drop, flat_map_more, append_assoc}
use Rattle.std.proofs.lemmas.Bool.{cond-true, cond-false, le-leb, lt-leb}
use Rattle.byte_strings.specs.Buffer.{over, buffer_after_copy}
use Rattle.byte_strings.proofs.Over.{copied_over, over_part, copied_part}
use Rattle.hexadecimal.specs.Line.{line}
use Rattle.hexadecimal.proofs.Lines.{length_line}
use Rattle.steps.specs.declared.label.Label.{Label}
use Rattle.steps.specs.declared.fault.MaskFault.{MaskFault}
use Rattle.steps.specs.Meaning.{Str, Transitions}
use Rattle.steps.specs.Answers.{first, step_refusal, hidden_refusal, state_answer, label_answer, next_answer}
use Rattle.steps.proofs.Answered.{next_ok, label_ok, first_ok}
use Rattle.bench.specs.declared.fault.BenchFault.{BenchFault}
use Rattle.bench.specs.declared.fault.BenchFault.TheVariants.{Stopped, TextTooLong}
use Rattle.bench.specs.declared.sheet.Standing.TheVariants.{Released}
use Rattle.bench.specs.Replay.{followed, replayed, ended}
use Rattle.bench.specs.Page.{Page, steps_of}
use Rattle.bench.specs.Print.{step_line, step_lines, lines_length, sheet_text, text_length, printed}
use Rattle.bench.proofs.Calling.{goes_on}

lines_append : (xs ys : List Str) → lines_length (xs ++ ys) ≡ lines_length xs + lines_length ys
lines_append [] ys = omega arith
lines_append (x ∷ xs) ys = omega (arith, lines_append xs ys)

pub lines_more : (rows : List Str) (i : ℕ) (x : Str) → i < length rows → x ≡ get_or rows i x → lines_length (take (i + 1) rows) ≡ lines_length (take i rows) + (2 * length x + 3)
lines_more rows i x lt is = ap lines_length (take_more rows i x lt) ∙ lines_append (take i rows) (get_or rows i x ∷ []) ∙ omega (arith, ap length is)

pub lines_within : (xs : List Str) (i : ℕ) → lines_length (take i xs) ≤ lines_length xs
lines_within xs i =
    let split = ap lines_length (take-append-drop i xs) in
    omega (arith, split, lines_append (take i xs) (drop i xs))

pub length_step_lines : (t : Transitions) (xs : List Str) → length (step_lines t xs) ≡ lines_length xs
length_step_lines t [] = refl
length_step_lines t (x ∷ xs) =
    length-append (step_line t x) (step_lines t xs) ∙ omega (arith, length_line ((t.label x).action ∷ x), length_step_lines t xs)

-- one line more
pub lines_next : (t : Transitions) (rows : List Str) (i n : ℕ) (x : Str) (label : Label) (out now part : Str) → i < length rows → x ≡ get_or rows i x → label ≡ t.label x
    → n ≡ lines_length (take i rows) → lines_length (take (i + 1) rows) ≤ length out → now ≡ over (step_lines t (take i rows)) out → part ≡ buffer_after_copy (line ((label.action ∷ []) ++ x)) (take (length now - n) (drop n now))
    → put_mid n (length now - n) now part ≡ over (step_lines t (take (i + 1) rows)) out
lines_next t rows i n x label out now part lt at shows len room before wrote =
    let w = step_lines t (take i rows) in
    let v = line (label.action ∷ x) in
    let more = lines_more rows i x lt at in
    let long : length w ≡ n = length_step_lines t (take i rows) ∙ sym len in
    let same : v ≡ step_line t x = ap (λ l. line (l.action ∷ x)) shows in
    let size : length v ≡ 2 * length x + 3 = length_line (label.action ∷ x) ∙ omega arith in
    copied_part w v out now part n long (omega arith) before wrote ∙ ap (λ u. over (w ++ u) out) same
    ∙ ap (λ u. over u out) (flat_map_more (step_line t) [] (take i rows) x ∙ sym (ap (step_lines t) (take_more rows i x lt ∙ ap (λ y. take i rows ++ y ∷ []) (sym at))))

-- every step of a replay that ends shows its label
Shown : Transitions → Str → Type 0
Shown t x = label_answer t x ≡ Ok (t.label x)

shown_each : (t : Transitions) (xs : List Str) (a : Str) (k : ℕ) → is_ok (followed t a xs k) ≡ true → (i : ℕ) → i < length xs → Shown t (get_or xs i [])
unfolding Shown
shown_each t [] a k ok i lt = absurd (omega arith)
shown_each t (x ∷ xs) a k ok i lt = go (next_answer t a x 256) refl ok (λ b h. shown_each t xs b (k + 1) h) i lt
  where
    go : (r : Result Str MaskFault) → next_answer t a x 256 ≡ r → is_ok (elim r as (λ _. Result Str BenchFault) [ Ok b ↦ followed t b xs (k + 1) | Err f ↦ Err (Stopped k f) ]) ≡ true
        → ((b : Str) → is_ok (followed t b xs (k + 1)) ≡ true → (i : ℕ) → i < length xs → label_answer t (get_or xs i []) ≡ Ok (t.label (get_or xs i [])))
        → (i : ℕ) → i < length (x ∷ xs) → label_answer t (get_or (x ∷ xs) i []) ≡ Ok (t.label (get_or (x ∷ xs) i []))
    go (Ok b) e h more zero l = let f = next_ok t a x b 256 e in label_ok t x f.shaped f.shown
    go (Ok b) e h more (suc j) l = more b h j (omega arith)
    go (Err f) e h more j l = let z : ◌≡◌ {A = Bool} false true = h in let y : ◌≡◌ {A = ℕ} 0 1 = cc in absurd (omega arith)

pub all_shown : (t : Transitions) (a : Str) (xs : List Str) → is_ok (replayed t a xs) ≡ true → (i : ℕ) → i < length xs → label_answer t (get_or xs i []) ≡ Ok (t.label (get_or xs i []))
unfolding Shown
all_shown t a xs ok i lt = go (state_answer t a) ok
  where
    go : (r : Result (Unit {0}) MaskFault) → is_ok (elim r as (λ _. Result Str BenchFault) [ Ok _ ↦ followed t a xs 1 | Err f ↦ Err (Stopped 0 f) ]) ≡ true → label_answer t (get_or xs i []) ≡ Ok (t.label (get_or xs i []))
    go (Ok u) h = shown_each t xs a 1 h i lt
    go (Err f) h = let y : ◌≡◌ {A = ℕ} 0 1 = cc in absurd (omega arith)

-- an answered label is the step's
pub label_is : (t : Transitions) (x : Str) (l : Label) → Ok l ≡ label_answer t x → l ≡ t.label x
label_is t x l e =
    let shaped = first_ok (step_refusal t x) (first (hidden_refusal t x) (Ok (t.label x))) l (sym e) in
    let shown = first_ok (hidden_refusal t x) (Ok (t.label x)) l shaped.1 in
    cc

-- the whole text, written in three pieces
module _ (t : Transitions) (p : Page) (a : Str) where
  top_length : length (line (0 ∷ p.len ∷ p.start)) ≡ 2 * length p.start + 5
  top_length = length_line (0 ∷ p.len ∷ p.start) ∙ omega arith

  pub text_is_long : length (sheet_text t p a) ≡ text_length p a
  text_is_long =
      length-append (line (0 ∷ p.len ∷ p.start)) (step_lines t (steps_of p) ++ line a)
      ∙ omega (arith, top_length, length-append (step_lines t (steps_of p)) (line a), length_step_lines t (steps_of p), length_line a)

  -- asked for in a buffer of n bytes
  module _ (n : ℕ) (end : Ok a ≡ ended t Released p) where
    pub printed_not : n < text_length p a → text_length p a ≤ 5222 → printed t n p ≡ Err (TextTooLong (text_length p a))
    printed_not short bound =
        goes_on t Released p _ a end ∙ cond-false (leb (length (sheet_text t p a)) n) _ _ (lt-leb _ _ (omega (arith, text_is_long)))
        ∙ ap (λ k. Err (TextTooLong k)) (ap (λ k. min k 65535) text_is_long ∙ omega arith)

    pub printed_text : text_length p a ≤ n → printed t n p ≡ Ok (record { answer = sheet_text t p a; page = p })
    printed_text fits = goes_on t Released p _ a end ∙ cond-true (leb (length (sheet_text t p a)) n) _ _ (le-leb _ _ (omega (arith, text_is_long)))

  pub text_written : (out : Str) (room : text_length p a ≤ length out) (s p₁ part₁ part₂ : Str) (first steps : ℕ) → s ≡ p.start → first ≡ 2 * length s + 5 → steps ≡ lines_length (steps_of p)
      → p₁ ≡ buffer_after_copy (line ((0 ∷ p.len ∷ []) ++ s)) out
      → part₁ ≡ over (step_lines t (steps_of p)) (take (length p₁ - first) (drop first p₁))
      → part₂ ≡ buffer_after_copy (line ([] ++ a)) (take (length (put_mid first (length p₁ - first) p₁ part₁) - (first + steps)) (drop (first + steps) (put_mid first (length p₁ - first) p₁ part₁)))
      → put_mid (first + steps) (length (put_mid first (length p₁ - first) p₁ part₁) - (first + steps)) (put_mid first (length p₁ - first) p₁ part₁) part₂ ≡ over (sheet_text t p a) out
  text_written out room s p₁ part₁ part₂ first steps at one two e₁ e₂ e₃ =
      let w = line (0 ∷ p.len ∷ p.start) in
      let v = step_lines t (steps_of p) in
      let lw = top_length in
      let lv = length_step_lines t (steps_of p) in
      let la = length_line a in
      let ls = ap length at in
      let whole = text_is_long in
      let front : p₁ ≡ over w out = e₁ ∙ ap (λ x. buffer_after_copy (line (0 ∷ p.len ∷ x)) out) at ∙ (copied_over w out (omega arith)).1 in
      let both : put_mid first (length p₁ - first) p₁ part₁ ≡ over (w ++ v) out = over_part w v out p₁ part₁ first (omega arith) (omega arith) front e₂ in
      let lb : length (w ++ v) ≡ first + steps = length-append w v ∙ omega arith in
      copied_part (w ++ v) (line a) out (put_mid first (length p₁ - first) p₁ part₁) part₂ (first + steps) lb (omega arith) both e₃ ∙ ap (λ x. over x out) (append_assoc w v (line a))
