-- The parts of a setup: what stands behind them is no longer than the whole.
use Rattle.std.proofs.Common.{◌≡◌, ℕ, zero, suc, ◌≤◌, List, [], ◌∷◌, length, Some, None, Option, sym, refl, ap, ◌∙◌, arith}
use Rattle.std.proofs.lemmas.Option.{none-some, same_Some}
use Rattle.frame.specs.declared.kind.Kind.{Kind}
use Rattle.frame.specs.declared.kind.Kind.TheVariants.{Terms, Net}
use Rattle.frame.specs.Parts.{part_answer, behind_answer}
use Rattle.frame.specs.Frames.{SystemView}
use Rattle.frame.specs.Reading.{Layout, with_behind, net_part, system_answer, with_system, with_names, with_pairs, layout_answer}
use Rattle.frame.proofs.Bodies.{part_length, behind_end, behind_missing, behind_more}

pub behind_shorter : (n : ℕ) (s rest : List ℕ) → behind_answer n s ≡ Some rest → length rest ≤ length s
behind_shorter zero s rest e =
    let same : s ≡ rest = same_Some _ _ (sym (behind_end s) ∙ e) in omega (arith, ap length same)
behind_shorter (suc n) s rest e = cases (behind_shorter n) (part_answer 1 s) refl
  where
    cases : ((t rest : List ℕ) → behind_answer n t ≡ Some rest → length rest ≤ length t)
        → (o : Option (List ℕ × List ℕ)) → part_answer 1 s ≡ o → length rest ≤ length s
    cases shorter None is = absurd (none-some _ (sym (behind_missing (suc n) n s (omega arith) is) ∙ e))
    cases shorter (Some (body, t)) is = omega
        (arith, part_length 1 s body t is, shorter t rest (sym (behind_more (suc n) n s body t (omega arith) is) ∙ e))

system_shorter : (k : Kind) (s : List ℕ) (system : SystemView) (rest : List ℕ) → system_answer k s ≡ Some (system, rest)
    → length rest ≤ length s
system_shorter Terms [] system rest e = absurd (none-some _ e)
system_shorter Terms (count ∷ s) system rest e = cases (behind_answer count s) refl e
  where
    cases : (o : Option (List ℕ)) → behind_answer count s ≡ o → with_behind count s o ≡ Some (system, rest)
        → length rest ≤ length (count ∷ s)
    cases None is h = absurd (none-some _ h)
    cases (Some behind) is h = let same : behind ≡ rest = ap (λ (p : SystemView × List ℕ). p.1) (same_Some _ _ h) in
        omega (arith, behind_shorter count s behind is, ap length same)
system_shorter Net s system rest e = cases (part_answer 17 s) refl e
  where
    cases : (o : Option (List ℕ × List ℕ)) → part_answer 17 s ≡ o → net_part o ≡ Some (system, rest)
        → length rest ≤ length s
    cases None is h = absurd (none-some _ h)
    cases (Some (events, behind)) is h = let same : behind
        ≡ rest = ap (λ (p : SystemView × List ℕ). p.1) (same_Some _ _ h) in
        omega (arith, part_length 17 s events behind is, ap length same)

pub layout_shorter : (k : Kind) (s : List ℕ) (l : Layout) → layout_answer k s ≡ Some l → length l.behind ≤ length s
layout_shorter k s l e = pairs (part_answer 2 s) refl e
  where
    systems : (a b : List ℕ) (t : List ℕ) (o : Option (SystemView × List ℕ)) → system_answer k t ≡ o
        → with_system a b o ≡ Some l → length l.behind ≤ length t
    systems a b t None is h = absurd (none-some _ h)
    systems a b t (Some (system, rest)) is h = let same : rest
        ≡ l.behind = ap (λ (p : Layout). p.behind) (same_Some _ _ h) in
        omega (arith, system_shorter k t system rest is, ap length same)

    names : (a : List ℕ) (t : List ℕ) (o : Option (List ℕ × List ℕ)) → part_answer 1 t ≡ o → with_names k a o ≡ Some l
        → length l.behind ≤ length t
    names a t None is h = absurd (none-some _ h)
    names a t (Some (items, rest)) is h =
        omega (arith, part_length 1 t items rest is, systems a items rest (system_answer k rest) refl h)

    pairs : (o : Option (List ℕ × List ℕ)) → part_answer 2 s ≡ o → with_pairs k o ≡ Some l → length l.behind ≤ length s
    pairs None is h = absurd (none-some _ h)
    pairs (Some (items, rest)) is h =
        omega (arith, part_length 2 s items rest is, names items rest (part_answer 1 rest) refl h)
