-- A join of one sheet into another.
use Rattle.std.specs.Prelude.{ℕ, ◌+◌, ◌-◌, cond, List, [], ◌∷◌, ◌++◌, length, take, drop, Some, None, Ok, Err, Option, Result, nat_le}
use Rattle.std.specs.Str.{bytes_eq}
use Rattle.steps.specs.Meaning.{Str, Transitions, Independence}
use Rattle.steps.specs.declared.fault.MaskFault.{MaskFault}
use Rattle.steps.specs.Answers.{next_answer}
use Rattle.runs.specs.Join.{join}
use Rattle.joins.specs.Join.{added_of}
use Rattle.bench.specs.declared.fault.BenchFault.{BenchFault}
use Rattle.bench.specs.declared.fault.BenchFault.TheVariants.{NoSheet, WrongStanding, StartsDiffer, Conflict, TooMany}
use Rattle.bench.specs.declared.sheet.Standing.TheVariants.{Blank, Open, Released}
use Rattle.bench.specs.declared.sheet.Sheet.{Sheet}
use Rattle.bench.specs.Page.{Page, page_of, steps_of}
use Rattle.bench.specs.Replay.{end_answer}
use Rattle.bench.specs.Calls.{Done, Outcome, then, from_system, when_open}

-- the state that steps lead to, or why one does not follow
abbrev pub led : Transitions → Str → List Str → Result Str MaskFault
led t a [] = Ok a
led t a (x ∷ xs) = elim (next_answer t a x 256) [ Ok b ↦ led t b xs | Err f ↦ Err f ]

-- both sheets replay and start alike: the end of the first
abbrev pub alike : Transitions → Page → Page → Result Str BenchFault
alike t p e =
    then (end_answer t p) (λ a.
    then (end_answer t e) (λ _.
    cond (bytes_eq p.start e.start) (Ok a) (Err StartsDiffer)))

-- steps that survive, behind n steps that end in a: there must be room for them, and for the states that they lead to
abbrev pub fitting : Transitions → Str → ℕ → Result (List Str) ℕ → Result (List Str) BenchFault
fitting t a n (Err k) = Err (Conflict k)
fitting t a n (Ok added) = cond (nat_le (n + length added) 32) (then (from_system (led t a added)) (λ _. Ok added)) (Err (TooMany (n + length added)))

-- the steps of e that survive behind those of p, which ends in a
abbrev pub surviving : Transitions → Independence → Str → Page → Page → Result (List Str) BenchFault
surviving t i a p e = fitting t a p.len (added_of (join i (steps_of p) (steps_of e)))

-- rows over those from n on
abbrev pub written : List Str → ℕ → List Str → List Str
written rows n xs = take n rows ++ (xs ++ drop (n + length xs) rows)

abbrev pub longer : Page → List Str → Page
longer p added = record { standing = p.standing; len = p.len + length added; start = p.start; rows = written p.rows p.len added }

-- the new length, and how many steps of e are shared
abbrev pub merged : Page → Page → List Str → Done
merged p e added = record { answer = (p.len + length added) ∷ (e.len - length added) ∷ []; page = longer p added }

abbrev pub unless_blank : Page → Outcome → Outcome
unless_blank e o = elim e.standing [ Blank ↦ Err (WrongStanding 2) | Open ↦ o | Released ↦ o ]

-- a join of a sheet, if there is one of that number, into p
abbrev pub joined : Transitions → Independence → Option Page → Page → Outcome
joined t i other p =
    when_open p (elim other [
      | None ↦ Err (NoSheet 2)
      | Some e ↦ unless_blank e (then (alike t p e) (λ a. then (surviving t i a p e) (λ added. Ok (merged p e added))))
    ])

-- a sheet that was named, and the pair of numbers that a join answers
abbrev pub named_page : Option Sheet → Option Page
named_page None = None
named_page (Some s) = Some (page_of s)

abbrev pub pair_answer : Result (ℕ × ℕ) BenchFault → Result Str BenchFault
pair_answer (Ok (n, k)) = Ok (n ∷ k ∷ [])
pair_answer (Err f) = Err f
