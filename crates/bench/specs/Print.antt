-- The text of a released sheet: a line for its length and start, one for each step with its label, and one for its end.
use Rattle.std.specs.Prelude.{ℕ, ◌+◌, ◌*◌, cond, List, [], ◌∷◌, ◌++◌, length, Ok, Err, nat_le}
use Rattle.std.specs.List.{flat_map}
use Rattle.steps.specs.Meaning.{Str, Transitions}
use Rattle.steps.specs.Answers.{told_length}
use Rattle.hexadecimal.specs.Line.{line}
use Rattle.bench.specs.declared.fault.BenchFault.TheVariants.{TextTooLong}
use Rattle.bench.specs.Page.{Page, steps_of}
use Rattle.bench.specs.Replay.{end_answer}
use Rattle.bench.specs.Calls.{Outcome, then, when_released}

abbrev pub step_line : Transitions → Str → Str
step_line t x = line ((t.label x).action ∷ x)

abbrev pub step_lines : Transitions → List Str → Str
step_lines t xs = flat_map (step_line t) xs

-- the text of a page that ends in a
abbrev pub sheet_text : Transitions → Page → Str → Str
sheet_text t p a = line (0 ∷ p.len ∷ p.start) ++ (step_lines t (steps_of p) ++ line a)

-- how long it is
abbrev pub lines_length : List Str → ℕ
lines_length [] = 0
lines_length (x ∷ xs) = 2 * length x + 3 + lines_length xs

abbrev pub text_length : Page → Str → ℕ
text_length p a = (2 * length p.start + 5) + (lines_length (steps_of p) + (2 * length a + 1))

-- a print, asked for in a buffer of n bytes; it changes nothing
abbrev pub printed : Transitions → ℕ → Page → Outcome
printed t n p =
    when_released p (then (end_answer t p) (λ a.
    cond (nat_le (length (sheet_text t p a)) n) (Ok (record { answer = sheet_text t p a; page = p })) (Err (TextTooLong (told_length (length (sheet_text t p a)))))))
