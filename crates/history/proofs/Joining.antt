-- A join of one page into another. Assumes the laws of a step system.
use Rattle.std.proofs.Common.{◌≡◌, ℕ, ◌+◌, ◌-◌, ◌<◌, ◌≤◌, Bool, true, false, ◌⊎◌, ◌↔◌, List, ◌++◌, length, take, Some, None, Ok, Err, Option, Result, sym, refl, ap, ◌∙◌, subst, inl, inr, arith}
use Rattle.std.proofs.lemmas.Slice.Eq.{bytes_eq-Decides}
use Rattle.std.proofs.lemmas.List.{length-append, length-take-le}
use Rattle.std.proofs.lemmas.Bool.{cases_lt, both_ways}
use Rattle.std.specs.Str.{bytes_eq}
use Rattle.steps.specs.declared.fault.MaskFault.{MaskFault}
use Rattle.steps.specs.declared.fault.MaskFault.TheVariants.{Inner}
use Rattle.steps.specs.declared.fault.SystemFault.TheVariants.{StateTooLong}
use Rattle.steps.specs.Meaning.{Str, Transitions, Independence}
use Rattle.steps.specs.Laws.{Laws}
use Rattle.steps.specs.Answers.{told_length}
use Rattle.steps.proofs.Answered.{state_ok}
use Rattle.runs.specs.Run.{Run}
use Rattle.runs.specs.Join.{Joined, join}
use Rattle.runs.specs.Compatible.{Compatible}
use Rattle.runs.specs.Merged.{Merged, InTurn}
use Rattle.runs.proofs.Runs.{run_append, run_split, run_end_unique}
use Rattle.runs.proofs.Exchange.{exchanged_length, exchanged_keeps_run}
use Rattle.runs.proofs.Join.{Joins, join_ok, joins_runs}
use Rattle.runs.proofs.Conflict.{clashes_first, joins_compatible, compatible_take}
use Rattle.runs.proofs.Merged.{joins_merged, joins_in_turn, merged_exchanged, in_turn_unique}
use Rattle.joins.specs.Join.{added_of}
use Rattle.bench.specs.declared.fault.BenchFault.{BenchFault}
use Rattle.bench.specs.declared.fault.BenchFault.TheVariants.{NoSheet, WrongStanding, System, StartsDiffer, Conflict, TooMany}
use Rattle.bench.specs.declared.sheet.Standing.TheVariants.{Blank, Open}
use Rattle.bench.specs.Page.{Page, steps_of}
use Rattle.bench.specs.Replay.{end_answer, replayed}
use Rattle.bench.specs.Join.{led, alike, surviving, longer, merged}
use Rattle.bench.specs.Join as join_of
use Rattle.bench.proofs.Calling.{not_open}
use Rattle.bench.proofs.Replayed.{replayed_short}
use Rattle.bench.proofs.Joining.{starts_alike, joined_none, joined_blank, joined_unlike, joined_refused, joined_done, survives, stops_on_the_way}
use Rattle.bench.proofs.Joining as bench_join
use Rattle.history.specs.History.{Sheet, sheet_at, Becomes, Reason, Happens, Ends}
use Rattle.history.specs.History.Sheet.{holds}
use Rattle.history.specs.History.CallView.{join as join_call}
use Rattle.history.specs.History.AnswerView.{joined as joined_answer}
use Rattle.history.specs.History.Reason.{no_sheet, no_other, nothing_to_join_to, nothing_to_join, other_start, conflict, too_many, on_the_way_too_long}
use Rattle.history.specs.History.Happens.{joins}
use Rattle.history.specs.Views.{page_view}
use Rattle.history.proofs.Replays.{replayed_start, replayed_path, path_replayed, replayed_run}
use Rattle.history.proofs.Paths.{Path, path_append, path_run, path_short, led_path, led_too_long}
use Rattle.history.proofs.Merging.{joins_short, merged_opposite, written_front, written_long}
use Rattle.history.proofs.Sound.{Sound, Stands, by_standing, blank_not_open, view_blank, view_open}
use Rattle.history.proofs.Verdict.{Verdict}
use Rattle.history.proofs.Verdict.Verdict.{turned_down, carried_out}

-- Two open pages with one start, and what a join of them comes to.
module _ {t : Transitions} {i : Independence} (laws : Laws t i) (p q : Page) (is_p : p.standing ≡ Open) (is_q : q.standing ≡ Open) (b c : Str) (to_b : end_answer t p ≡ Ok b) (to_c : end_answer t q ≡ Ok c) (same : p.start ≡ q.start) where
  not_blank : q.standing ≡ Blank → ⊥
  not_blank e = blank_not_open q e is_q

  start : Ok b ≡ alike t p q
  start =
      let told = (bytes_eq-Decides p.start q.start).1 same in
      sym (starts_alike t p q b c true (sym to_b) (sym to_c) (sym told))

  along_p : Run t p.start (steps_of p) b
  along_p = (replayed_run laws p.start (steps_of p) b to_b).0

  along_q : Run t p.start (steps_of q) c
  along_q = subst (λ a. Run t a (steps_of q) c) (sym same) (replayed_run laws q.start (steps_of q) c to_c).0

  at_b : t.bad_state b ≡ None
  at_b = (replayed_run laws p.start (steps_of p) b to_b).1

  pub on_clash : (n : ℕ) → join i (steps_of p) (steps_of q) ≡ Err n → join_of.joined t i (Some q) p ≡ Err (Conflict n)
  on_clash n j = joined_refused t i p is_p q not_blank b start (Conflict n) (sym (bench_join.conflicts t i b p q n (sym (ap added_of j))))

  module _ (j : Joined) (is_j : join i (steps_of p) (steps_of q) ≡ Ok j) where
    is_added : Ok j.added ≡ added_of (join i (steps_of p) (steps_of q))
    is_added = sym (ap added_of is_j)

    pub on_many : 32 < p.len + length j.added → join_of.joined t i (Some q) p ≡ Err (TooMany (p.len + length j.added))
    on_many over = joined_refused t i p is_p q not_blank b start (TooMany (p.len + length j.added)) (sym (bench_join.too_many t i b p q j.added is_added over))

    module _ (fits : p.len + length j.added ≤ 32) where
      pub on_far : (f : MaskFault) → led t b j.added ≡ Err f → join_of.joined t i (Some q) p ≡ Err (System f)
      on_far f l = joined_refused t i p is_p q not_blank b start (System f) (sym (stops_on_the_way t i b p q j.added is_added fits f (sym l)))

      pub on_near : (d : Str) → led t b j.added ≡ Ok d → join_of.joined t i (Some q) p ≡ Ok (merged p q j.added)
      on_near d l = joined_done t i p is_p q not_blank b start j.added (sym (survives t i b p q j.added is_added fits d (sym l)))

  -- a join is refused as a conflict exactly where the steps clash
  conflict_clash : (n : ℕ) → join_of.joined t i (Some q) p ≡ Err (Conflict n) → join i (steps_of p) (steps_of q) ≡ Err n
  conflict_clash n h = go (join i (steps_of p) (steps_of q)) refl
    where
      by_led : (j : Joined) (is_j : join i (steps_of p) (steps_of q) ≡ Ok j) → p.len + length j.added ≤ 32 → (r : Result Str MaskFault) → led t b j.added ≡ r → ⊥
      by_led j is_j fits (Ok d) l = cc (h, on_near j is_j fits d l)
      by_led j is_j fits (Err f) l = cc (h, on_far j is_j fits f l)

      by_length : (j : Joined) (is_j : join i (steps_of p) (steps_of q) ≡ Ok j) → (32 < p.len + length j.added) ⊎ (p.len + length j.added ≤ 32) → ⊥
      by_length j is_j (inl over) = cc (h, on_many j is_j over)
      by_length j is_j (inr fits) = by_led j is_j fits (led t b j.added) refl

      go : (o : Result Joined ℕ) → join i (steps_of p) (steps_of q) ≡ o → join i (steps_of p) (steps_of q) ≡ Err n
      go (Err m) e = let same : m ≡ n = cc (h, on_clash m e) in e ∙ ap Err same
      go (Ok j) e = absurd (by_length j e (cases_lt 32 (p.len + length j.added)))

  pub conflict_told : (n : ℕ) → (join_of.joined t i (Some q) p ≡ Err (Conflict n)) ↔ (join i (steps_of p) (steps_of q) ≡ Err n)
  conflict_told n = (conflict_clash n, on_clash n)

module _ {t : Transitions} {i : Independence} (laws : Laws t i) (ls : List Sheet) (s e : ℕ) (p q : Page) (within : s < 4) (view_p : sheet_at ls s ≡ page_view p) (view_q : sheet_at ls e ≡ page_view q) (sound_p : Sound t p) (sound_q : Sound t q) where
  on_blank : (o : Option Page) → p.standing ≡ Blank → Verdict t i ls (join_call s e) (join_of.joined t i o p)
  on_blank o b =
      turned_down (WrongStanding 1) (not_open p _ (blank_not_open p b))
      (nothing_to_join_to s e (view_p ∙ view_blank p b))

  module _ (is_p : p.standing ≡ Open) (b : Str) (to_b : end_answer t p ≡ Ok b) where
    held_p : sheet_at ls s ≡ holds p.start (steps_of p)
    held_p = view_p ∙ view_open p is_p

    on_none : 4 ≤ e → Verdict t i ls (join_call s e) (join_of.joined t i None p)
    on_none past = turned_down (NoSheet 2) (joined_none t i p is_p) (no_other s e past)

    on_blank_other : q.standing ≡ Blank → Verdict t i ls (join_call s e) (join_of.joined t i (Some q) p)
    on_blank_other blank = turned_down (WrongStanding 2) (joined_blank t i p is_p q blank) (nothing_to_join s e (view_q ∙ view_blank q blank))

    module _ (few : e < 4) (is_q : q.standing ≡ Open) (c : Str) (to_c : end_answer t q ≡ Ok c) where
      held_q : sheet_at ls e ≡ holds q.start (steps_of q)
      held_q = view_q ∙ view_open q is_q

      on_unlike : bytes_eq p.start q.start ≡ false → Verdict t i ls (join_call s e) (join_of.joined t i (Some q) p)
      on_unlike apart =
          turned_down StartsDiffer (joined_unlike t i p is_p q (λ z. blank_not_open q z is_q) StartsDiffer (sym (starts_alike t p q b c false (sym to_b) (sym to_c) (sym apart))))
          (other_start s e p.start (steps_of p) q.start (steps_of q) held_p held_q (λ z. both_ways (bytes_eq p.start q.start) apart ((bytes_eq-Decides p.start q.start).1 z)))

      module _ (same : p.start ≡ q.start) where
        held_e : sheet_at ls e ≡ holds p.start (steps_of q)
        held_e = held_q ∙ ap (λ a. holds a (steps_of q)) (sym same)

        run_p : Run t p.start (steps_of p) b
        run_p = along_p laws p q is_p is_q b c to_b to_c same

        run_q : Run t p.start (steps_of q) c
        run_q = along_q laws p q is_p is_q b c to_b to_c same

        long_p : length (steps_of p) ≡ p.len
        long_p = length-take-le p.len p.rows (omega (arith, sound_p.few, sound_p.long))

        long_q : length (steps_of q) ≡ q.len
        long_q = length-take-le q.len q.rows (omega (arith, sound_q.few, sound_q.long))

        clashes : (n : ℕ) → join i (steps_of p) (steps_of q) ≡ Err n → Verdict t i ls (join_call s e) (join_of.joined t i (Some q) p)
        clashes n j =
            let first = clashes_first laws (steps_of p) (steps_of q) n run_p run_q j in
            turned_down (Conflict n) (on_clash laws p q is_p is_q b c to_b to_c same n j)
            (conflict s e n p.start (steps_of p) (steps_of q) held_p held_e first.0 first.1)

        module _ (j : Joined) (is_j : join i (steps_of p) (steps_of q) ≡ Ok j) where
          by_steps : Joins i (steps_of p) (steps_of q) j.added j.remains
          by_steps = (join_ok i (steps_of p) (steps_of q) j is_j).0

          fewer : length j.added ≤ q.len
          fewer = omega (arith, (join_ok i (steps_of p) (steps_of q) j is_j).1, long_q)

          whole : length (steps_of p ++ j.added) ≡ p.len + length j.added
          whole = length-append (steps_of p) j.added ∙ ap (λ n. n + length j.added) long_p

          many : 32 < p.len + length j.added → Verdict t i ls (join_call s e) (join_of.joined t i (Some q) p)
          many over =
              turned_down (TooMany (p.len + length j.added)) (on_many laws p q is_p is_q b c to_b to_c same j is_j over)
              (too_many s e (p.len + length j.added) p.start (steps_of p) (steps_of q) (steps_of p ++ j.added) held_p held_e (joins_merged laws by_steps) (omega (arith, whole)) (sym whole))

          module _ (fits : p.len + length j.added ≤ 32) where
            -- a run by the steps of p and some first survivors goes on from the end of p
            from_b : (m : ℕ) (d : Str) → Run t p.start (steps_of p ++ take m j.added) d → Run t b (take m j.added) d
            from_b m d r =
                let parts = run_split laws (steps_of p) r in
                subst (λ a. Run t a (take m j.added) d) (run_end_unique t parts.1 run_p) parts.2

            far : (f : MaskFault) → led t b j.added ≡ Err f → Verdict t i ls (join_call s e) (join_of.joined t i (Some q) p)
            far f l =
                let on = joins_runs laws by_steps run_p run_q in
                let short = joins_short laws by_steps (replayed_short laws p.start (steps_of p) b to_b) (replayed_short laws q.start (steps_of q) c to_c) in
                let h = led_too_long laws j.added b on.0 f (at_b laws p q is_p is_q b c to_b to_c same) short on.1 l in
                turned_down (System (Inner (StateTooLong (told_length (length h.state))))) (on_far laws p q is_p is_q b c to_b to_c same j is_j fits f l ∙ ap (λ g. Err (System g)) h.told)
                (on_the_way_too_long s e p.start (steps_of p) (steps_of q) j.added h.count h.state (told_length (length h.state)) held_p held_e (joins_merged laws by_steps) (joins_in_turn laws by_steps) (run_append t run_p h.run) h.over refl
                (λ m d lt r. h.before m d lt (from_b m d r)))

            module _ (d : Str) (l : led t b j.added ≡ Ok d) where
              new_path : Path t p.start (steps_of p ++ j.added) d
              new_path = path_append t (replayed_path t p.start (steps_of p) b to_b) (led_path t j.added b d l)

              start_state : t.bad_state p.start ≡ None
              start_state = state_ok t p.start (replayed_start t p.start (steps_of p) b to_b).0

              compatible : Compatible t i p.start (steps_of p) (steps_of q)
              compatible = joins_compatible laws by_steps run_p run_q

              no_reason : (f : BenchFault) → Reason t i ls (join_call s e) f → ⊥
              no_reason f (no_sheet c past) = omega (arith, within, past)
              no_reason f (no_other s e past) = omega (arith, few, past)
              no_reason f (nothing_to_join_to s e h) = cc (h, held_p)
              no_reason f (nothing_to_join s e h) = cc (h, held_q)
              no_reason f (other_start s e a xs a' ys h h' apart) =
                  let first : a ≡ p.start = cc (h, held_p) in
                  let second : a' ≡ q.start = cc (h', held_q) in
                  apart (first ∙ same ∙ sym second)
              no_reason f (conflict s e n a xs ys h h' none below) =
                  let first : a ≡ p.start = cc (h, held_p) in
                  let steps : xs ≡ steps_of p = cc (h, held_p) in
                  let others : ys ≡ steps_of q = cc (h', held_e) in
                  none (subst (λ zs. Compatible t i a xs (take n zs)) (sym others) (subst (λ zs. Compatible t i a zs (take n (steps_of q))) (sym steps) (subst (λ v. Compatible t i v (steps_of p) (take n (steps_of q))) (sym first) (compatible_take laws (steps_of p) (steps_of q) n compatible))))
              no_reason f (too_many s e n a xs ys zs h h' m over told) =
                  let steps : xs ≡ steps_of p = cc (h, held_p) in
                  let others : ys ≡ steps_of q = cc (h', held_e) in
                  let mine : Merged i (steps_of p) (steps_of q) zs = subst (λ v. Merged i (steps_of p) v zs) others (subst (λ v. Merged i v ys zs) steps m) in
                  omega (arith, over, fits, whole, exchanged_length (merged_exchanged laws mine (joins_merged laws by_steps)))
              no_reason f (on_the_way_too_long s e a xs ys cs k g n h h' m turn run over told before) =
                  let first : a ≡ p.start = cc (h, held_p) in
                  let steps : xs ≡ steps_of p = cc (h, held_p) in
                  let others : ys ≡ steps_of q = cc (h', held_e) in
                  let mine : Merged i (steps_of p) (steps_of q) (steps_of p ++ cs) = subst (λ v. Merged i (steps_of p) v (steps_of p ++ cs)) others (subst (λ v. Merged i v ys (v ++ cs)) steps m) in
                  let my_turn : InTurn i (steps_of p) (steps_of q) cs = subst (λ v. InTurn i (steps_of p) v cs) others (subst (λ v. InTurn i v ys cs) steps turn) in
                  let is_added : cs ≡ j.added = in_turn_unique laws cs by_steps mine my_turn in
                  let along : Run t p.start (steps_of p ++ take k j.added) g = subst (λ v. Run t p.start (steps_of p ++ take k v) g) is_added (subst (λ v. Run t p.start (v ++ take k cs) g) steps (subst (λ v. Run t v (xs ++ take k cs) g) first run)) in
                  omega (arith, over, path_short laws (at_b laws p q is_p is_q b c to_b to_c same) (led_path t j.added b d l) k g (from_b k g along))

              room : p.len + length j.added ≤ length p.rows
              room = omega (arith, fits, sound_p.long)

              near : Verdict t i ls (join_call s e) (join_of.joined t i (Some q) p)
              near =
                  let after_steps : take (p.len + length j.added) (longer p j.added).rows ≡ steps_of p ++ j.added = written_front p.rows p.len j.added room in
                  carried_out (merged p q j.added) (on_near laws p q is_p is_q b c to_b to_c same j is_j fits d l)
                  within no_reason
                  (record { long = written_long p.rows p.len j.added room ∙ sound_p.long; few = fits; stands = subst (Stands t (longer p j.added)) (sym is_p) (d, ap (replayed t p.start) after_steps ∙ path_replayed t p.start (steps_of p) b (steps_of p ++ j.added) d to_b new_path) })
                  (λ after becomes. joins s e p.start (steps_of p) (steps_of q) j.added d (p.len + length j.added) (q.len - length j.added) held_p held_e (subst (Becomes ls after s) (view_open (longer p j.added) is_p ∙ ap (holds p.start) after_steps) becomes) (path_run laws start_state new_path).0 (joins_merged laws by_steps) (joins_in_turn laws by_steps) (sym whole) (omega (arith, fewer, long_p, long_q)))

        by_outcome : (o : Result Joined ℕ) → join i (steps_of p) (steps_of q) ≡ o → Verdict t i ls (join_call s e) (join_of.joined t i (Some q) p)
        by_outcome (Err n) is = clashes n is
        by_outcome (Ok j) is = by_length (cases_lt 32 (p.len + length j.added))
          where
            by_led : p.len + length j.added ≤ 32 → (r : Result Str MaskFault) → led t b j.added ≡ r → Verdict t i ls (join_call s e) (join_of.joined t i (Some q) p)
            by_led fits (Err f) l = far j is fits f l
            by_led fits (Ok d) l = near j is fits d l

            by_length : (32 < p.len + length j.added) ⊎ (p.len + length j.added ≤ 32) → Verdict t i ls (join_call s e) (join_of.joined t i (Some q) p)
            by_length (inl over) = many j is over
            by_length (inr fits) = by_led fits (led t b j.added) refl

      on_both : (same : Bool) → bytes_eq p.start q.start ≡ same → Verdict t i ls (join_call s e) (join_of.joined t i (Some q) p)
      on_both false told = on_unlike told
      on_both true told = by_outcome ((bytes_eq-Decides p.start q.start).0 told) (join i (steps_of p) (steps_of q)) refl

    with_other : e < 4 → Verdict t i ls (join_call s e) (join_of.joined t i (Some q) p)
    with_other few = by_standing sound_q on_blank_other (λ is_q c to_c. on_both few is_q c to_c (bytes_eq p.start q.start) refl)

  pub joining : (o : Option Page) → ((o ≡ None) × (4 ≤ e)) ⊎ ((o ≡ Some q) × (e < 4)) → Verdict t i ls (join_call s e) (join_of.joined t i o p)
  joining o (inl (none, past)) = by_standing sound_p (on_blank o) (λ is_p b to_b. subst (λ v. Verdict t i ls (join_call s e) (join_of.joined t i v p)) (sym none) (on_none is_p b to_b past))
  joining o (inr (some, few)) = by_standing sound_p (on_blank o) (λ is_p b to_b. subst (λ v. Verdict t i ls (join_call s e) (join_of.joined t i v p)) (sym some) (with_other is_p b to_b few))

-- the opposite join ends in the same state
pub same_end : {t : Transitions} {i : Independence} → Laws t i → (before after after' : List Sheet) (s e n k n' k' : ℕ) → Happens t i before after (join_call s e) (joined_answer n k) → Happens t i before after' (join_call e s) (joined_answer n' k') → (b : Str) × Ends t (sheet_at after s) b × Ends t (sheet_at after' e) b
same_end {t} {i} laws before after after' s e n k n' k' (joins _ _ a xs ys cs b _ _ h h' becomes run m turn size shared) (joins _ _ a' xs' ys' cs' b' _ _ g g' becomes' run' m' turn' size' shared') =
    let start : a' ≡ a = cc (h, g') in
    let firsts : ys' ≡ xs = cc (h, g') in
    let seconds : xs' ≡ ys = cc (h', g) in
    let other : Merged i xs ys (xs' ++ cs') = subst (λ v. Merged i v ys (xs' ++ cs')) firsts (subst (λ v. Merged i ys' v (xs' ++ cs')) seconds (merged_opposite m')) in
    let back : Run t a (xs' ++ cs') b = exchanged_keeps_run laws (merged_exchanged laws m other) run in
    (b, subst (λ v. Ends t v b) (sym becomes.that) run, subst (λ v. Ends t v b) (sym becomes'.that) (subst (λ v. Run t v (xs' ++ cs') b) (sym start) back))
