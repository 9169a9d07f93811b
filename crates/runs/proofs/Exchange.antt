-- What exchanges have in common. Assumes nothing but, where it says so, the laws of a step system.
use Rattle.std.proofs.Common.{◌≡◌, suc, List, [], ◌∷◌, ◌++◌, length, sym, refl, ap, ◌∙◌, subst, append_assoc, append-nil, arith, length-append}
use Rattle.steps.specs.Meaning.{Str, Transitions, Independence}
use Rattle.steps.specs.Laws.{Laws}
use Rattle.runs.specs.Run.{Run}
use Rattle.runs.specs.Run.Run.{goes}
use Rattle.runs.specs.Exchange.{Exchange, Exchanged, Extends}
use Rattle.runs.specs.Exchange.Exchange.{here, there}
use Rattle.runs.specs.Exchange.Exchanged.{none, more}
use Rattle.runs.specs.ExchangeLaws.{KeepRuns, Equivalence, BetweenOthers, SameLength, Preorder, Antisymmetric, Swaps}

module _ {i : Independence} where
  -- one exchange: back again, behind other steps, before other steps
  pub exchange_sym : {xs ys : List Str} → Exchange i xs ys → Exchange i ys xs
  exchange_sym (here p q) = here q p
  exchange_sym (there e) = there (exchange_sym e)

  pub exchange_behind : (before : List Str) {xs ys : List Str} → Exchange i xs ys → Exchange i (before ++ xs) (before ++ ys)
  exchange_behind [] e = e
  exchange_behind (x ∷ before) e = there (exchange_behind before e)

  pub exchange_before : {xs ys : List Str} (behind : List Str) → Exchange i xs ys → Exchange i (xs ++ behind) (ys ++ behind)
  exchange_before behind (here p q) = here p q
  exchange_before behind (there e) = there (exchange_before behind e)

  pub exchange_length : {xs ys : List Str} → Exchange i xs ys → length xs ≡ length ys
  exchange_length (here p q) = refl
  exchange_length (there e) = ap suc (exchange_length e)

  -- any number of exchanges are an equivalence
  pub exchanged_one : {xs ys : List Str} → Exchange i xs ys → Exchanged i xs ys
  exchanged_one e = more e none

  pub exchanged_refl : {xs ys : List Str} → xs ≡ ys → Exchanged i xs ys
  exchanged_refl {xs} e = subst (λ zs. Exchanged i xs zs) e none

  pub exchanged_trans : {xs ys zs : List Str} → Exchanged i xs ys → Exchanged i ys zs → Exchanged i xs zs
  exchanged_trans none q = q
  exchanged_trans (more e p) q = more e (exchanged_trans p q)

  pub exchanged_sym : {xs ys : List Str} → Exchanged i xs ys → Exchanged i ys xs
  exchanged_sym none = none
  exchanged_sym (more e p) = exchanged_trans (exchanged_sym p) (exchanged_one (exchange_sym e))

  -- and a congruence
  pub exchanged_behind : (before : List Str) {xs ys : List Str} → Exchanged i xs ys → Exchanged i (before ++ xs) (before ++ ys)
  exchanged_behind before none = none
  exchanged_behind before (more e p) = more (exchange_behind before e) (exchanged_behind before p)

  pub exchanged_before : {xs ys : List Str} (behind : List Str) → Exchanged i xs ys → Exchanged i (xs ++ behind) (ys ++ behind)
  exchanged_before behind none = none
  exchanged_before behind (more e p) = more (exchange_before behind e) (exchanged_before behind p)

  pub exchanged_cons : (x : Str) {xs ys : List Str} → Exchanged i xs ys → Exchanged i (x ∷ xs) (x ∷ ys)
  exchanged_cons x = exchanged_behind (x ∷ [])

  -- what goes on behind goes on behind both
  pub exchanged_on : {xs ys : List Str} (front added rest : List Str) → Exchanged i xs (front ++ ys) → Exchanged i ys (added ++ rest) → Exchanged i xs (front ++ added ++ rest)
  exchanged_on front added rest p q = exchanged_trans p (exchanged_trans (exchanged_behind front q) (exchanged_refl (sym (append_assoc front added rest))))

  pub exchanged_length : {xs ys : List Str} → Exchanged i xs ys → length xs ≡ length ys
  exchanged_length none = refl
  exchanged_length (more e p) = exchange_length e ∙ exchanged_length p

  -- extending is a preorder, and antisymmetric up to exchanges
  pub extends_refl : (xs : List Str) → Extends i xs xs
  extends_refl xs = ([], exchanged_refl (sym (append-nil xs)))

  pub extends_exchanged : {r q : List Str} → Exchanged i r q → Extends i r q
  extends_exchanged {r} {q} e = ([], exchanged_trans e (exchanged_refl (sym (append-nil q))))

  pub extends_front : (q c : List Str) → Extends i (q ++ c) q
  extends_front q c = (c, none)

  pub extends_trans : {r q : List Str} (p : List Str) → Extends i r q → Extends i q p → Extends i r p
  extends_trans p f g =
      (g.0 ++ f.0, exchanged_trans f.1 (exchanged_trans (exchanged_before f.0 g.1) (exchanged_refl (append_assoc p g.0 f.0))))

  pub extends_antisym : (r q : List Str) → Extends i r q → Extends i q r → Exchanged i r q
  extends_antisym r q ([], e) (d, f) = exchanged_trans e (exchanged_refl (append-nil q))
  extends_antisym r q (x ∷ c, e) (d, f) = absurd (omega (arith, exchanged_length e, exchanged_length f, length-append q (x ∷ c), length-append r d))

module _ {t : Transitions} {i : Independence} (laws : Laws t i) where
  -- exchanges keep runs
  pub exchange_keeps_run : {a : Str} {xs ys : List Str} {b : Str} → Exchange i xs ys → Run t a xs b → Run t a ys b
  exchange_keeps_run {a} (here {x = x} {y = y} {x' = x'} {y' = y'} p q) (goes {b = b} e (goes {b = c} f r)) =
      let before = laws.origin_possible a b c x y y' e f q in
      let square = laws.diamond a b before.0 x y x' y' e before.1 p q in
      goes before.1 (goes (square.2 ∙ sym square.1 ∙ f) r)
  exchange_keeps_run (there x) (goes e r) = goes e (exchange_keeps_run x r)

  pub exchanged_keeps_run : {a : Str} {xs ys : List Str} {b : Str} → Exchanged i xs ys → Run t a xs b → Run t a ys b
  exchanged_keeps_run none r = r
  exchanged_keeps_run (more e p) r = exchanged_keeps_run p (exchange_keeps_run e r)

-- the same of every step system
pub keep_runs : KeepRuns
keep_runs t i laws a xs ys b e r = exchanged_keeps_run laws e r

pub equivalence : Equivalence
equivalence i xs ys zs = (none, exchanged_sym, exchanged_trans)

pub between_others : BetweenOthers
between_others i before xs ys behind e = exchanged_before behind (exchanged_behind before e)

pub same_length : SameLength
same_length i xs ys e = exchanged_length e

pub preorder : Preorder
preorder i p q r = (extends_refl p, extends_trans p)

pub antisymmetric : Antisymmetric
antisymmetric i q r = extends_antisym r q

pub swaps : Swaps
swaps t i laws before x z behind y e =
    let left_y = (laws.origin x y z).0 e in
    let left_x = laws.symmetric y x z left_y in
    let exchange = exchange_behind before {xs = x ∷ z ∷ behind} (here left_x.1 left_y) in
    (left_x.0, left_x.1, (laws.origin y x left_x.0).1 left_x.1, left_y, exchange, λ a b r. exchange_keeps_run laws exchange r)
