-- What is wanted behind a byte, and behind a node whose parts are counted.
use Rattle.std.proofs.Common.{◌≡◌, ℕ, zero, suc, ◌+◌, ◌-◌, ◌<◌, ◌≤◌, Bool, true, false, cond, [], ◌∷◌, length, drop, get_or, is_ok, nat_lt, Some, None, Ok, Err, Option, Result, sym, refl, ap, ap₂, ◌∙◌, arith}
use Rattle.std.proofs.lemmas.Bool.{ne_eqb, ltb-true, ltb-false}
use Rattle.std.proofs.lemmas.List.{drop_more, drop_all}
use Rattle.steps.specs.Meaning.{Str}
use Rattle.ccs.specs.declared.due.Due.TheVariants.{Node}
use Rattle.nodes.specs.declared.scan.Wanted.{Wanted}
use Rattle.nodes.specs.Whole.{behind_byte, done, one_on, whole, start, shifted, ahead, IsSize}

pub more_due : (k : ℕ) → done (record { due = Node; count = suc k }) ≡ false
more_due k = ne_eqb (suc k) 0 (λ e. absurd (omega (arith, e)))

drop_drop : (n m : ℕ) (s : Str) → drop n (drop m s) ≡ drop (m + n) s
drop_drop n zero s = ap (λ k. drop k s) {x = n} (omega arith)
drop_drop n (suc m) [] = drop_all n [] (omega arith) ∙ sym (drop_all (suc m + n) [] (omega arith))
drop_drop n (suc m) (b ∷ s) = drop_drop n m s ∙ ap (λ k. drop k (b ∷ s)) {x = suc (m + n)} (omega arith)

module _ (fits : Wanted → ℕ → Option Wanted) where
  pub one_ahead : (l k : ℕ) (s : Str) → one_on (ahead fits l k s) ≡ ahead fits (suc l) k s
  unfolding ahead shifted
  one_ahead l zero s = ap Ok (omega arith)
  one_ahead l (suc k) s = go (whole fits (record { due = Node; count = suc k }) s)
    where
      go : (r : Result ℕ ℕ) → one_on (shifted l r) ≡ shifted (suc l) r
      go (Ok n) = ap Ok (omega arith)
      go (Err p) = ap Err (omega arith)

  pub shifted_ahead : (m l k : ℕ) (s : Str) → shifted m (ahead fits l k s) ≡ ahead fits (m + l) k s
  unfolding ahead shifted
  shifted_ahead m l zero s = refl
  shifted_ahead m l (suc k) s = go (whole fits (record { due = Node; count = suc k }) s)
    where
      go : (r : Result ℕ ℕ) → shifted m (shifted l r) ≡ shifted (m + l) r
      go (Ok n) = ap Ok (omega arith)
      go (Err p) = ap Err (omega arith)

  abbrev over_byte : Option Wanted → Str → Result ℕ ℕ
  over_byte o s = behind_byte o (λ v. whole fits v s)

  -- a byte behind which more is due, and the last byte of one
  pub on_byte : (w v : Wanted) (b : ℕ) (s : Str) → fits w b ≡ Some v → done v ≡ false
      → whole fits w (b ∷ s) ≡ one_on (whole fits v s)
  unfolding whole
  on_byte w v b s e d = ap (λ o. over_byte o s) e ∙ ap (λ c. cond c (Ok 1) (one_on (whole fits v s))) d

  pub last_byte : (w : Wanted) (k b : ℕ) (s : Str) → fits w b ≡ Some (record { due = Node; count = k })
      → whole fits w (b ∷ s) ≡ ahead fits 1 k s
  unfolding whole ahead shifted
  last_byte w zero b s e = ap (λ o. over_byte o s) e
  last_byte w (suc k) b s e = on_byte w (record { due = Node; count = suc k }) b s e (more_due k)
      ∙ (go (whole fits (record { due = Node; count = suc k }) s))
    where
      go : (r : Result ℕ ℕ) → one_on r ≡ shifted 1 r
      go (Ok n) = refl
      go (Err p) = refl

  -- a byte that does not fit, and the end of the string
  pub no_byte : (w : Wanted) (b n : ℕ) (s : Str) → fits w b ≡ None → whole fits w (b ∷ s) ≡ Ok n → ⊥
  unfolding whole
  no_byte w b n s e f = cc (sym (ap (λ o. over_byte o s) e) ∙ f)

  pub no_end : (w : Wanted) (n : ℕ) → whole fits w [] ≡ Ok n → ⊥
  unfolding whole
  no_end w n e = cc e

  -- what goes on behind a byte
  pub goes_on : (w v : Wanted) (b n : ℕ) (s : Str) → fits w b ≡ Some v → done v ≡ false → whole fits w (b ∷ s) ≡ Ok n
      → (m : ℕ) × (whole fits v s ≡ Ok m)
  goes_on w v b n s e d f = go (whole fits v s) refl
    where
      go : (r : Result ℕ ℕ) → whole fits v s ≡ r → (m : ℕ) × (whole fits v s ≡ Ok m)
      go (Ok m) g = (m, g)
      go (Err p) g = absurd (cc (sym (ap one_on g) ∙ sym (on_byte w v b s e d) ∙ f))

  -- it ends within the string
  pub ends_within : (w : Wanted) (s : Str) (n : ℕ) → whole fits w s ≡ Ok n → n ≤ length s
  unfolding whole
  ends_within w [] n e = absurd (cc e)
  ends_within w (b ∷ s) n e = on (λ v m g. ends_within v s m g) (fits w b) e
    where
      last : ((v : Wanted) (m : ℕ) → whole fits v s ≡ Ok m → m ≤ length s) → (v : Wanted) (r : Result ℕ ℕ)
          → whole fits v s ≡ r → one_on r ≡ Ok n → n ≤ suc (length s)
      last h v (Ok m) g f = let same : 1 + m ≡ n = cc f in omega (arith, same, h v m g)
      last h v (Err p) g f = absurd (cc f)

      by_done : ((v : Wanted) (m : ℕ) → whole fits v s ≡ Ok m → m ≤ length s) → (v : Wanted) (c : Bool)
          → cond c (Ok 1) (one_on (whole fits v s)) ≡ Ok n → n ≤ suc (length s)
      by_done h v true f = let same : 1 ≡ n = cc f in omega (arith, same)
      by_done h v false f = last h v (whole fits v s) refl f

      on : ((v : Wanted) (m : ℕ) → whole fits v s ≡ Ok m → m ≤ length s) → (o : Option Wanted) → over_byte o s ≡ Ok n
          → n ≤ suc (length s)
      on h None f = absurd (cc f)
      on h (Some v) f = by_done h v (done v) f

  pub at_start : (s : Str) → ahead fits 0 1 (drop 0 s) ≡ whole fits start s
  unfolding ahead shifted
  at_start s = go (whole fits start s)
    where
      go : (r : Result ℕ ℕ) → shifted 0 r ≡ r
      go (Ok n) = ap Ok (omega arith)
      go (Err p) = ap Err (omega arith)

  -- as far as a loop over nodes has come
  module _ (s : Str) (at due : ℕ) (inv : ahead fits at due (drop at s) ≡ whole fits start s)
      (ok : is_ok (whole fits start s) ≡ true) where
    sum_is_ok : (i : ℕ) (r : Result ℕ ℕ) → is_ok (shifted i r) ≡ true → (m : ℕ) × (r ≡ Ok m)
    unfolding shifted
    sum_is_ok i (Ok m) e = (m, refl)
    sum_is_ok i (Err p) e = absurd (cc e)

    -- more is due, so the string goes on
    going : (d : ℕ) → due ≡ suc d → (m : ℕ) × (whole fits (record { due = Node; count = suc d }) (drop at s) ≡ Ok m)
    unfolding ahead
    going d e = sum_is_ok at (whole fits (record { due = Node; count = suc d }) (drop at s))
        (ap is_ok (sym (ap (λ k. ahead fits at k (drop at s)) e) ∙ inv) ∙ ok)

    pub in_string : 0 < due → at < length s
    in_string more = by_due due refl
      where
        by_place : (d : ℕ) → due ≡ suc d → (c : Bool) → nat_lt at (length s) ≡ c → at < length s
        by_place d e true f = ltb-true at (length s) f
        by_place d e false f =
            let m = going d e in
            absurd (no_end (record { due = Node; count = suc d }) m.0
            (ap (whole fits (record { due = Node; count = suc d }))
            (sym (drop_all at s (ltb-false at (length s) f))) ∙ m.1))

        by_due : (d : ℕ) → due ≡ d → at < length s
        by_due zero e = absurd (omega (arith, more, e))
        by_due (suc d) e = by_place d e (nat_lt at (length s)) refl

    pub node_over : (own parts : ℕ) → 0 < due → IsSize fits (get_or s at 0) own parts
        → ahead fits (at + own) (due - 1 + parts) (drop (at + own) s) ≡ whole fits start s
    unfolding ahead
    node_over own parts more size = by_due due refl
      where
        by_due : (d : ℕ) → due ≡ d → ahead fits (at + own) (due - 1 + parts) (drop (at + own) s) ≡ whole fits start s
        by_due zero e = absurd (omega (arith, more, e))
        by_due (suc d) e =
            let here : drop at s ≡ get_or s at 0 ∷ drop (at + 1) s = drop_more s at 0 (in_string more) in
            let m = going d e in
            let node = size d (drop (at + 1) s) m.0
            (ap (whole fits (record { due = Node; count = suc d })) (sym here) ∙ m.1) in
            let less : due - 1 + parts ≡ parts + d = omega (arith, e) in
            ap₂ (ahead fits (at + own)) less (sym (drop_drop own at s))
            ∙ sym (shifted_ahead at own (parts + d) (drop own (drop at s)))
            ∙ ap (λ r. shifted at (ahead fits own (parts + d) (drop own r))) here
            ∙ ap (shifted at) (sym node)
            ∙ ap (λ r. shifted at (whole fits (record { due = Node; count = suc d }) r)) (sym here)
            ∙ sym (ap (λ k. ahead fits at k (drop at s)) e) ∙ inv

    pub nothing_due : due ≡ 0 → whole fits start s ≡ Ok at
    unfolding ahead
    nothing_due e = sym inv ∙ ap (λ k. ahead fits at k (drop at s)) e
