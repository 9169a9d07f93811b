-- A swap on one page. Assumes the laws of a step system.
use Rattle.std.proofs.Common.{◌≡◌, ℕ, ◌+◌, ◌-◌, ◌<◌, ◌≤◌, leb, ◌⊎◌, List, [], ◌∷◌, ◌++◌, length, get_or, take, drop, set, Some, None, Ok, Err, Option, sym, refl, ap, ◌∙◌, subst, ap₂, inl, inr, arith}
use Rattle.std.proofs.lemmas.List.{length-set, length-take-le}
use Rattle.std.proofs.lemmas.Bool.{cases_lt, cases_eq, cond-true, cond-false, le-leb, lt-leb}
use Rattle.steps.specs.declared.fault.MaskFault.{MaskFault}
use Rattle.steps.specs.declared.fault.MaskFault.TheVariants.{Inner}
use Rattle.steps.specs.declared.fault.SystemFault.TheVariants.{StateTooLong, StepTooLong}
use Rattle.steps.specs.Meaning.{Str, Transitions, Independence}
use Rattle.steps.specs.Laws.{Laws}
use Rattle.steps.specs.Answers.{next_answer, fitting_step, told_length}
use Rattle.steps.proofs.Answered.{some_not_none, next_ok, state_ok}
use Rattle.runs.specs.Run.{Run}
use Rattle.runs.specs.Exchange.{Exchange}
use Rattle.runs.specs.Exchange.Exchange.{here}
use Rattle.runs.proofs.Runs.{run_end_unique}
use Rattle.runs.proofs.Exchange.{exchange_sym, exchange_behind, exchanged_one, extends_exchanged}
use Rattle.joins.specs.Steps.{ShortStep}
use Rattle.joins.specs.Exchange.{Pair, turned, behind, exchange_answer}
use Rattle.joins.proofs.Asking.{left_short}
use Rattle.bench.specs.declared.fault.BenchFault.{BenchFault}
use Rattle.bench.specs.declared.fault.BenchFault.TheVariants.{WrongStanding, System, NoSuchStep, Dependent}
use Rattle.bench.specs.declared.sheet.Standing.TheVariants.{Blank, Open}
use Rattle.bench.specs.Page.{Page, steps_of}
use Rattle.bench.specs.Replay.{end_answer, replayed}
use Rattle.bench.specs.Swap.{with_neighbours}
use Rattle.bench.specs.Swap as swap_of
use Rattle.bench.proofs.Calling.{ends_standing, not_open}
use Rattle.bench.proofs.Swapping.{swapped_nowhere, swapped_refused, swapped_dependent, swapped_too_long, swapped_done}
use Rattle.history.specs.History.{Sheet, sheet_at, Becomes, Reason}
use Rattle.history.specs.History.Sheet.{holds}
use Rattle.history.specs.History.CallView.{swap}
use Rattle.history.specs.History.Reason.{no_sheet, nothing_to_swap, no_neighbours, dependent, between_too_long}
use Rattle.history.specs.History.Reason.{swapped_too_long as step_over}
use Rattle.history.specs.History.Happens.{swaps}
use Rattle.history.specs.Views.{page_view}
use Rattle.history.proofs.Replays.{replayed_start, replayed_path, path_replayed}
use Rattle.history.proofs.Paths.{Path, path_append, path_split, path_run, next_within, next_over, next_state}
use Rattle.history.proofs.Paths.Path.{along}
use Rattle.history.proofs.Neighbours.{split_two, split_other, front_long, two_at}
use Rattle.history.proofs.Sound.{Sound, by_standing, blank_not_open, view_blank, view_open}
use Rattle.history.proofs.Verdict.{Verdict}
use Rattle.history.proofs.Verdict.Verdict.{turned_down, carried_out}

module _ {t : Transitions} {i : Independence} (laws : Laws t i) (ls : List Sheet) (s n : ℕ) (p : Page) (within : s < 4) (view : sheet_at ls s ≡ page_view p) (sound : Sound t p) where
  on_blank : p.standing ≡ Blank → Verdict t i ls (swap s n) (swap_of.swapped t i n p)
  on_blank e =
      turned_down (WrongStanding 1) (not_open p _ (blank_not_open p e))
      (nothing_to_swap s n (view ∙ view_blank p e))

  module _ (e : p.standing ≡ Open) (z : Str) (r : end_answer t p ≡ Ok z) where
    held : sheet_at ls s ≡ holds p.start (steps_of p)
    held = view ∙ view_open p e

    long : length (steps_of p) ≡ p.len
    long = length-take-le p.len p.rows (omega (arith, sound.few, sound.long))

    nowhere : (n ≡ 0) ⊎ ((n ≡ 0 → ⊥) × (p.len ≤ n)) → Verdict t i ls (swap s n) (swap_of.swapped t i n p)
    nowhere w =
        turned_down (NoSuchStep n) (swapped_nowhere t i p n z (ends_standing t Open p z e (sym r)) w)
        (no_neighbours s n p.start (steps_of p) held (why w))
      where
        why : (n ≡ 0) ⊎ ((n ≡ 0 → ⊥) × (p.len ≤ n)) → (n ≡ 0) ⊎ (length (steps_of p) ≤ n)
        why (inl none) = inl none
        why (inr (some, past)) = inr (omega (arith, long))

    -- the steps x and w stand at the place, with the others in front of and behind them
    module _ (above : 0 < n) (below : n < p.len) (front : List Str) (x w : Str) (rest : List Str) (place : n ≡ length front + 1)
        (is_front : take (n - 1) p.rows ≡ front) (is_x : get_or p.rows (n - 1) [] ≡ x) (is_w : get_or p.rows n [] ≡ w) (split : steps_of p ≡ front ++ x ∷ w ∷ rest)
        (other : (y x' : Str) → take p.len (set (set p.rows (n - 1) y) n x') ≡ front ++ y ∷ x' ∷ rest) where
      stands : sheet_at ls s ≡ holds p.start (front ++ x ∷ w ∷ rest)
      stands = held ∙ ap (holds p.start) split

      told : exchange_answer i (get_or p.rows (n - 1) []) (get_or p.rows n []) ≡ turned i x (fitting_step (i.back x w) 64)
      told = ap₂ (exchange_answer i) is_x is_w

      -- what another sheet of the same steps has at the place
      same_place : (a : Str) (front' : List Str) (x' w' : Str) (rest' : List Str) → sheet_at ls s ≡ holds a (front' ++ x' ∷ w' ∷ rest') → n ≡ length front' + 1 → (a ≡ p.start) × (front' ≡ front) × (x' ≡ x) × (w' ≡ w)
      same_place a front' x' w' rest' h at =
          let start : a ≡ p.start = cc (h, stands) in
          let steps : front ++ x ∷ w ∷ rest ≡ front' ++ x' ∷ w' ∷ rest' = cc (h, stands) in
          let mine = two_at (front ++ x ∷ w ∷ rest) front x w rest n refl place in
          let theirs = two_at (front ++ x ∷ w ∷ rest) front' x' w' rest' n steps at in
          (start, theirs.0 ∙ sym mine.0, theirs.1 ∙ sym mine.1, theirs.2 ∙ sym mine.2)

      on_dependent : i.back x w ≡ None → Verdict t i ls (swap s n) (swap_of.swapped t i n p)
      on_dependent none =
          turned_down (Dependent n) (swapped_dependent t i p n z (ends_standing t Open p z e (sym r)) above below (sym (told ∙ ap (λ o. turned i x (fitting_step o 64)) none)))
          (dependent s n p.start front x w rest stands place (λ y h. some_not_none y (sym ((laws.origin x y w).1 h) ∙ none)))

      module _ (y : Str) (back : i.back x w ≡ Some y) where
        left_y : i.left y x ≡ Some w
        left_y = (laws.origin x y w).0 back

        on_over : 64 < length y → Verdict t i ls (swap s n) (swap_of.swapped t i n p)
        on_over over =
            let f : MaskFault = Inner (StepTooLong (told_length (length y))) in
            let fits : fitting_step (Some y) 64 ≡ Err f = cond-false (leb (length y) 64) (Ok (Some y)) (Err f) (lt-leb _ _ over) in
            turned_down (System f) (swapped_refused t i p n z (ends_standing t Open p z e (sym r)) above below f (sym (told ∙ ap (λ o. turned i x (fitting_step o 64)) back ∙ ap (turned i x) fits)))
            (step_over s n p.start front x w rest y (told_length (length y)) stands place left_y over refl)

        -- the states on the way: a before x, b behind it, c behind both, d behind y
        module _ (short_y : length y ≤ 64) (x' : Str) (left_x : i.left x y ≡ Some x') (a b c d : Str) (start : t.bad_state p.start ≡ None) (to_a : Path t p.start front a) (to_b : next_answer t a x 256 ≡ Ok b) (to_c : next_answer t b w 256 ≡ Ok c) (to_z : Path t c rest z) (to_d : t.next a y ≡ Ok d) where
          pair : exchange_answer i (get_or p.rows (n - 1) []) (get_or p.rows n []) ≡ Ok (Some (record { first = y; second = x' }))
          pair =
              let fits : fitting_step (Some y) 64 ≡ Ok (Some y) = cond-true (leb (length y) 64) (Ok (Some y)) (Err (Inner (StepTooLong (told_length (length y))))) (le-leb _ _ short_y) in
              told ∙ ap (λ o. turned i x (fitting_step o 64)) back ∙ ap (turned i x) fits ∙ ap (λ o. Ok (behind y o)) left_x

          before_a : replayed t p.start (take (n - 1) p.rows) ≡ Ok a
          before_a = ap (replayed t p.start) is_front ∙ path_replayed t p.start (steps_of p) z front a r to_a

          at_a : t.bad_state a ≡ None
          at_a = (path_run laws start to_a).1

          step_y : ShortStep t y
          step_y = (laws.between_steps y x w left_y, short_y)

          step_x : ShortStep t x
          step_x = let f = next_ok t a x b 256 to_b in (laws.step_refusals x).0 (f.shaped, f.shown)

          -- an y of which w is left after x is this one
          same_y : (v : Str) → i.left v x ≡ Some w → v ≡ y
          same_y v h = let both : Some v ≡ Some y = sym ((laws.origin x v w).1 h) ∙ back in cc

          on_far : 256 < length d → Verdict t i ls (swap s n) (swap_of.swapped t i n p)
          on_far far =
              let f : MaskFault = Inner (StateTooLong (told_length (length d))) in
              turned_down (System f) (swapped_too_long t i p n z (ends_standing t Open p z e (sym r)) above below (record { first = y; second = x' }) (sym pair) a f (sym before_a) (sym (next_over laws a y d step_y at_a to_d far)))
              (between_too_long s n p.start front x w rest y a d (told_length (length d)) stands place left_y (path_run laws start to_a).0 to_d far refl)

          module _ (near : length d ≤ 256) where
            d_to_c : t.next d x' ≡ Ok c
            d_to_c =
                let square = laws.diamond a b d x y x' w (next_ok t a x b 256 to_b).leads to_d left_x left_y in
                square.2 ∙ sym square.1 ∙ (next_ok t b w c 256 to_c).leads

            new_path : Path t p.start (front ++ y ∷ x' ∷ rest) z
            new_path =
                path_append t to_a
                (along (next_within laws a y d step_y at_a to_d near)
                (along (next_within laws d x' c (left_short laws x y x' step_x left_x) (next_state laws a y d to_d near) d_to_c (next_ok t b w c 256 to_c).short) to_z))

            old_path : Path t p.start (front ++ x ∷ w ∷ rest) z
            old_path = path_append t to_a (along to_b (along to_c to_z))

            exchange : Exchange i (front ++ x ∷ w ∷ rest) (front ++ y ∷ x' ∷ rest)
            exchange = exchange_behind front (here left_x left_y)

            no_reason : (f : BenchFault) → Reason t i ls (swap s n) f → ⊥
            no_reason f (no_sheet c past) = omega (arith, within, past)
            no_reason f (nothing_to_swap s n h) = cc (h, stands)
            no_reason f (no_neighbours s n a' xs h w') = go w'
              where
                go : (n ≡ 0) ⊎ (length xs ≤ n) → ⊥
                go (inl none) = omega (arith, above, none)
                go (inr past) = let same : xs ≡ steps_of p = cc (h, held) in omega (arith, below, past, ap length same, long)
            no_reason f (dependent s n a' front' x'' w'' rest' h at never) =
                let q = same_place a' front' x'' w'' rest' h at in
                never y (ap (i.left y) q.2 ∙ left_y ∙ ap Some (sym q.3))
            no_reason f (step_over s n a' front' x'' w'' rest' v k h at left over length_told) =
                let q = same_place a' front' x'' w'' rest' h at in
                let same = same_y v (sym (ap (i.left v) q.2) ∙ left ∙ ap Some q.3) in
                omega (arith, ap length same, over, short_y)
            no_reason f (between_too_long s n a' front' x'' w'' rest' v b' c' k h at left run leads far length_told) =
                let q = same_place a' front' x'' w'' rest' h at in
                let same = same_y v (sym (ap (i.left v) q.2) ∙ left ∙ ap Some q.3) in
                let there : b' ≡ a = run_end_unique t (subst (λ l. Run t p.start l b') q.1 (subst (λ u. Run t u front' b') q.0 run)) (path_run laws start to_a).0 in
                let to : t.next a y ≡ Ok c' = sym (ap₂ t.next there same) ∙ leads in
                let end : d ≡ c' = cc (to, to_d) in
                omega (arith, ap length end, far, near)

            on_near : Verdict t i ls (swap s n) (swap_of.swapped t i n p)
            on_near =
                let x_y : Pair = record { first = y; second = x' } in
                carried_out _ (swapped_done t i p n z (ends_standing t Open p z e (sym r)) above below x_y (sym pair) a d (sym before_a) (sym (next_within laws a y d step_y at_a to_d near)))
                within no_reason
                (record { long = length-set (set p.rows (n - 1) y) n x' ∙ length-set p.rows (n - 1) y ∙ sound.long; few = sound.few; stands = (z, ap (replayed t p.start) (other y x') ∙ path_replayed t p.start (steps_of p) z (front ++ y ∷ x' ∷ rest) z r new_path) })
                (λ after q. swaps s n p.start front x w y x' rest z stands place left_y left_x (subst (λ l. Becomes ls after s (holds p.start l)) (other y x') q) (path_run laws start old_path).0 (path_run laws start new_path).0 (extends_exchanged (exchanged_one (exchange_sym exchange))) (extends_exchanged (exchanged_one exchange)))

        on_short : length y ≤ 64 → Verdict t i ls (swap s n) (swap_of.swapped t i n p)
        on_short short_y =
            let start = state_ok t p.start (replayed_start t p.start (steps_of p) z r).0 in
            let parts = path_split t front (subst (λ l. Path t p.start l z) split (replayed_path t p.start (steps_of p) z r)) in
            let left_x = laws.symmetric y x w left_y in
            go short_y left_x.0 left_x.1 start parts.0 parts.1 parts.2
          where
            go : length y ≤ 64 → (x' : Str) → i.left x y ≡ Some x' → t.bad_state p.start ≡ None → (a : Str) → Path t p.start front a → Path t a (x ∷ w ∷ rest) z → Verdict t i ls (swap s n) (swap_of.swapped t i n p)
            go short_y x' left_x start a to_a (along {b = b} to_b (along {b = c} to_c to_z)) =
                let possible = laws.origin_possible a b c x y w (next_ok t a x b 256 to_b).leads (next_ok t b w c 256 to_c).leads left_y in
                near_or_far possible.0 possible.1 (cases_lt 256 (length possible.0))
              where
                near_or_far : (d : Str) → t.next a y ≡ Ok d → (256 < length d) ⊎ (length d ≤ 256) → Verdict t i ls (swap s n) (swap_of.swapped t i n p)
                near_or_far d to_d (inl far) = on_far short_y x' left_x a b c d start to_a to_b to_c to_z to_d far
                near_or_far d to_d (inr near) = on_near short_y x' left_x a b c d start to_a to_b to_c to_z to_d near

      inside : Verdict t i ls (swap s n) (swap_of.swapped t i n p)
      inside = go (i.back x w) refl
        where
          go : (o : Option Str) → i.back x w ≡ o → Verdict t i ls (swap s n) (swap_of.swapped t i n p)
          go None back = on_dependent back
          go (Some y) back = by_length (cases_lt 64 (length y))
            where
              by_length : (64 < length y) ⊎ (length y ≤ 64) → Verdict t i ls (swap s n) (swap_of.swapped t i n p)
              by_length (inl over) = on_over y back over
              by_length (inr short) = on_short y back short

    on_open : (n ≡ 0) ⊎ (n ≡ 0 → ⊥) → (n < p.len) ⊎ (p.len ≤ n) → Verdict t i ls (swap s n) (swap_of.swapped t i n p)
    on_open (inl none) w = nowhere (inl none)
    on_open (inr some) (inr past) = nowhere (inr (some, past))
    on_open (inr some) (inl below) =
        let above : 0 < n = omega (arith, some) in
        let room : p.len ≤ length p.rows = omega (arith, sound.few, sound.long) in
        inside above below (take (n - 1) p.rows) (get_or p.rows (n - 1) []) (get_or p.rows n []) (drop (n + 1) (steps_of p)) (front_long p.rows n p.len above below room) refl refl refl (split_two p.rows n p.len above below room) (split_other p.rows n p.len above below room)

  pub swapping : Verdict t i ls (swap s n) (swap_of.swapped t i n p)
  swapping = by_standing sound on_blank (λ e b r. on_open e b r (cases_eq n 0) (cases_lt n p.len))
