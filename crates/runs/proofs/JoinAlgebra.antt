-- Joining as an operation, up to exchanges. Assumes the laws of a step system.
use Rattle.std.proofs.Common.{◌≡◌, ◌+◌, List, [], ◌∷◌, ◌++◌, length, Ok, refl, ap, ◌∙◌, subst, append-nil, arith, length-append}
use Rattle.steps.specs.Meaning.{Str, Transitions, Independence}
use Rattle.steps.specs.Laws.{Laws}
use Rattle.runs.specs.Exchange.{Extends}
use Rattle.runs.specs.Join.{Joined, join}
use Rattle.runs.specs.JoinAlgebra.{WithItself, AddsNothing, JoinedAlike, WithThird}
use Rattle.runs.proofs.Exchange.{exchanged_sym, exchanged_length, extends_refl, extends_exchanged, extends_trans, extends_antisym}
use Rattle.runs.proofs.Carry.Carries.{meets}
use Rattle.runs.proofs.Join.{Joins, join_ok, join_accepts}
use Rattle.runs.proofs.Join.Joins.{ends, then}
use Rattle.runs.proofs.Joined.{joined_extends, joined_length}
use Rattle.runs.proofs.Least.{least}

module _ {i : Independence} where
  pub joins_itself : (s : List Str) → Joins i s s [] []
  joins_itself [] = ends
  joins_itself (x ∷ s) = then (meets refl) (joins_itself s)

module _ {t : Transitions} {i : Independence} (laws : Laws t i) where
  -- what extends both extends this join
  pub extends_join : (s e r : List Str) (j : Joined) → join i s e ≡ Ok j → Extends i r s → Extends i r e → Extends i r (s ++ j.added)
  extends_join s e r j p f g =
      let l = least t i laws s e r f g in
      let same : l.0 ≡ j = cc l.1 in
      subst (λ (m : Joined). Extends i r (s ++ m.added)) same l.2

pub with_itself : WithItself
with_itself t i laws s =
    let a = join_accepts laws (joins_itself s) in
    let l : 0 + a.0 ≡ length s = (join_ok i s s _ a.1).1 in
    a.1 ∙ ap (λ n. Ok (record { added = []; remains = []; shared = n })) (omega arith)

pub adds_nothing : AddsNothing
adds_nothing t i laws s e = (to, from)
  where
    empty : (xs : List Str) → Extends i s (s ++ xs) → xs ≡ []
    empty [] f = refl
    empty (x ∷ xs) f = absurd (omega (arith, exchanged_length f.1, length-append (s ++ x ∷ xs) f.0, length-append s (x ∷ xs)))

    to : Extends i s e → (j : Joined) × (join i s e ≡ Ok j) × (j.added ≡ [])
    to f = let l = least t i laws s e s (extends_refl s) f in (l.0, l.1, empty l.0.added l.2)

    from : (j : Joined) × (join i s e ≡ Ok j) × (j.added ≡ []) → Extends i s e
    from (j, p, q) = subst (λ xs. Extends i xs e) (ap (λ xs. s ++ xs) q ∙ append-nil s) (joined_extends i s e j p).2

pub joined_alike : JoinedAlike
joined_alike t i laws s s' e e' j p q h =
    let both = joined_extends i s e j h in
    let k = least t i laws s' e' (s ++ j.added) (extends_trans s' both.1 (extends_exchanged p)) (extends_trans e' both.2 (extends_exchanged q)) in
    let back = joined_extends i s' e' k.0 k.1 in
    let same = extends_antisym (s ++ j.added) (s' ++ k.0.added) k.2 (extends_join laws s e (s' ++ k.0.added) j h (extends_trans s back.1 (extends_exchanged (exchanged_sym p))) (extends_trans e back.2 (extends_exchanged (exchanged_sym q)))) in
    (k.0, k.1, same, omega (arith, exchanged_length same, exchanged_length p, exchanged_length q, joined_length i s e j h, joined_length i s' e' k.0 k.1))

pub with_third : WithThird
with_third t i laws s e f j k p q =
    let se = s ++ j.added in
    let all = se ++ k.added in
    let two = joined_extends i s e j p in
    let three = joined_extends i se f k q in
    let l = least t i laws e f all (extends_trans e three.1 two.2) three.2 in
    let ef = e ++ l.0.added in
    let m = least t i laws s ef all (extends_trans s three.1 two.1) l.2 in
    let other = s ++ m.0.added in
    let later = joined_extends i e f l.0 l.1 in
    let both = joined_extends i s ef m.0 m.1 in
    let over_two = extends_join laws s e other j p both.1 (extends_trans e both.2 later.1) in
    (l.0, m.0, l.1, m.1, extends_antisym all other m.2 (extends_join laws se f other k q over_two (extends_trans f both.2 later.2)))
