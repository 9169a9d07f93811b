-- The least list that extends two others is what join answers, and only one takes the second in its order. Assumes the laws of a step system.
use Rattle.std.proofs.Common.{◌≡◌, ℕ, zero, suc, ◌+◌, ◌<◌, ◌≤◌, ◌⊎◌, List, [], ◌∷◌, ◌++◌, length, take, Some, None, sym, refl, ap, ◌∙◌, subst, inl, inr, append_assoc, append-nil, arith, length-append, length-take}
use Rattle.std.proofs.lemmas.List.{take_all, take_at, length-take-le, length_push, nil_from_length}
use Rattle.std.proofs.lemmas.Bool.{cases_lt}
use Rattle.steps.specs.Meaning.{Str, Transitions, Independence}
use Rattle.steps.specs.Laws.{Laws}
use Rattle.runs.specs.Exchange.{Exchange, Exchanged}
use Rattle.runs.specs.Exchange.Exchange.{here, there}
use Rattle.runs.specs.Exchange.Exchanged.{none, more}
use Rattle.runs.specs.Join.{Joined}
use Rattle.runs.specs.Merged.{Merged, InTurn}
use Rattle.runs.proofs.Exchange.{exchanged_length, extends_front, extends_antisym}
use Rattle.runs.proofs.CarryExchange.{cancel_front}
use Rattle.runs.proofs.Join.{Joins, join_accepts, joins_exchanged}
use Rattle.runs.proofs.Join.Joins.{ends, then}
use Rattle.runs.proofs.JoinAlgebra.{extends_join}

-- first steps of the second list are joined by first steps of what is added
pub joins_take : {i : Independence} {s e added remains : List Str} → Joins i s e added remains → (j : ℕ) → (k : ℕ) × (q : List Str) × Joins i s (take j e) (take k added) q
joins_take {s = s} ends zero = (0, s, ends)
joins_take {s = s} ends (suc j) = (0, s, ends)
joins_take {s = s} (then c r) zero = (0, s, ends)
joins_take (then {rest = None} c r) (suc j) = let h = joins_take r j in (h.0, h.1, then c h.2)
joins_take (then {rest = Some y} c r) (suc j) = let h = joins_take r j in (suc h.0, h.1, then c h.2)

-- an exchange takes two steps
exchange_two : {i : Independence} {xs ys : List Str} → Exchange i xs ys → 2 ≤ length xs
exchange_two (here p q) = omega arith
exchange_two (there e) = omega (arith, exchange_two e)

exchanged_single : {i : Independence} {x y : Str} → Exchanged i (x ∷ []) (y ∷ []) → x ≡ y
exchanged_single none = refl
exchanged_single (more e r) = absurd (omega (arith, exchange_two e))

module _ {t : Transitions} {i : Independence} (laws : Laws t i) where
  pub joins_merged : {s e added remains : List Str} → Joins i s e added remains → Merged i s e (s ++ added)
  joins_merged {s} {e} {added} {remains} j =
      let a = join_accepts laws j in
      record {
        extends_first = extends_front s added;
        extends_second = (remains, joins_exchanged j);
        least = λ r f g. extends_join laws s e r (record { added = added; remains = remains; shared = a.0 }) a.1 f g;
      }

  pub joins_in_turn : {s e added remains : List Str} → Joins i s e added remains → InTurn i s e added
  joins_in_turn r j = let h = joins_take r j in (h.0, joins_merged h.2)

  -- two least lists are exchanged
  pub merged_exchanged : {s e zs ws : List Str} → Merged i s e zs → Merged i s e ws → Exchanged i zs ws
  merged_exchanged {zs = zs} {ws = ws} m n = extends_antisym zs ws (n.least zs m.extends_first m.extends_second) (m.least ws n.extends_first n.extends_second)

-- the first j steps of the second list, and one more: what is added stays, or is longer by one
pub record Grows (i : Independence) (s e added : List Str) (j : ℕ) : Type 0 where
  pub first : List Str
  pub next : List Str
  pub behind : List Str
  pub first_remains : List Str
  pub next_remains : List Str
  pub joins_first : Joins i s (take j e) first first_remains
  pub joins_next : Joins i s (take (suc j) e) next next_remains
  pub begins : added ≡ next ++ behind
  pub grown : (next ≡ first) ⊎ ((u : Str) × (next ≡ first ++ u ∷ []))

pub grows : {i : Independence} {s e added remains : List Str} → Joins i s e added remains → (j : ℕ) → Grows i s e added j
grows {s = s} ends zero = record { first = []; next = []; behind = []; first_remains = s; next_remains = s; joins_first = ends; joins_next = ends; begins = refl; grown = inl refl }
grows {s = s} ends (suc j) = record { first = []; next = []; behind = []; first_remains = s; next_remains = s; joins_first = ends; joins_next = ends; begins = refl; grown = inl refl }
grows {s = s} (then {rest = None} {q = q} {added = added} c r) zero = record { first = []; next = []; behind = added; first_remains = s; next_remains = q; joins_first = ends; joins_next = then c ends; begins = refl; grown = inl refl }
grows {s = s} (then {rest = Some y} {q = q} {added = added} c r) zero = record { first = []; next = y ∷ []; behind = added; first_remains = s; next_remains = q; joins_first = ends; joins_next = then c ends; begins = refl; grown = inr (y, refl) }
grows (then {rest = None} c r) (suc j) =
    let g = grows r j in
    record { first = g.first; next = g.next; behind = g.behind; first_remains = g.first_remains; next_remains = g.next_remains; joins_first = then c g.joins_first; joins_next = then c g.joins_next; begins = g.begins; grown = g.grown }
grows {i} (then {rest = Some y} c r) (suc j) =
    let g = grows r j in
    record { first = y ∷ g.first; next = y ∷ g.next; behind = g.behind; first_remains = g.first_remains; next_remains = g.next_remains; joins_first = then c g.joins_first; joins_next = then c g.joins_next; begins = ap (λ l. y ∷ l) g.begins; grown = go g.first g.next g.grown }
  where
    go : (p q : List Str) → (q ≡ p) ⊎ ((u : Str) × (q ≡ p ++ u ∷ [])) → (y ∷ q ≡ y ∷ p) ⊎ ((u : Str) × (y ∷ q ≡ (y ∷ p) ++ u ∷ []))
    go p q (inl e) = inl (ap (λ l. y ∷ l) e)
    go p q (inr (u, e)) = inr (u, ap (λ l. y ∷ l) e)

module _ {t : Transitions} {i : Independence} (laws : Laws t i) where
  pub joins_unique : {s e added remains added' remains' : List Str} → Joins i s e added remains → Joins i s e added' remains' → added ≡ added'
  joins_unique {s} {e} {added} {remains} {added'} {remains'} j k =
      let a = join_accepts laws j in
      let b = join_accepts laws k in
      let same : ◌≡◌ {A = Joined} (record { added = added; remains = remains; shared = a.0 }) (record { added = added'; remains = remains'; shared = b.0 }) = cc (a.1, b.1) in
      ap (λ (l : Joined). l.added) same

  -- a front of cs that has one step more than p, where cs begins with p
  one_more : (p cs rest : List Str) (k : ℕ) (u : Str) → cs ≡ p ++ rest → Exchanged i (take k cs) (p ++ u ∷ []) → (rest' : List Str) × (cs ≡ (p ++ u ∷ []) ++ rest')
  one_more p cs [] k u is x = absurd (omega (arith, exchanged_length x, length_push p u, length-take k cs, ap length is, length-append p []))
  one_more p cs (v ∷ rest) k u is x =
      let long : length (take k cs) ≡ length p + 1 = exchanged_length x ∙ length_push p u in
      let size : length cs ≡ length p + 1 + length rest = ap length is ∙ length-append p (v ∷ rest) ∙ omega arith in
      let whole : cs ≡ (p ++ v ∷ []) ++ rest = is ∙ sym (append_assoc p (v ∷ []) rest) in
      let front : take k cs ≡ p ++ v ∷ [] = cut k cs (p ++ v ∷ []) rest whole (long ∙ sym (length_push p v)) in
      let same : v ≡ u = exchanged_single (cancel_front laws p (subst (λ l. Exchanged i l (p ++ u ∷ [])) front x)) in
      (rest, whole ∙ ap (λ w. (p ++ w ∷ []) ++ rest) same)
    where
      cut : (k : ℕ) (cs p r : List Str) → cs ≡ p ++ r → length (take k cs) ≡ length p → take k cs ≡ p
      cut k cs p r is long = go (cases_lt k (length cs))
        where
          go : (k < length cs) ⊎ (length cs ≤ k) → take k cs ≡ p
          go (inl lt) = let n : length p ≡ k = sym long ∙ length-take-le k cs (omega arith) in ap (take k) is ∙ take_at p r k n
          go (inr le) =
              let all = take_all k cs le in
              let none : length r ≡ 0 = omega (arith, ap length is, length-append p r, ap length all, long) in
              all ∙ is ∙ ap (λ l. p ++ l) (nil_from_length r none) ∙ append-nil p

  record Agrees (s e added cs : List Str) (j : ℕ) : Type 0 where
    front : List Str
    remains : List Str
    rest : List Str
    joins : Joins i s (take j e) front remains
    begins : cs ≡ front ++ rest

  agrees : {s e added remains : List Str} (cs : List Str) → Joins i s e added remains → InTurn i s e cs → (j : ℕ) → Agrees s e added cs j
  agrees {s} cs r turn zero = record { front = []; remains = s; rest = cs; joins = ends; begins = refl }
  agrees {s} {e} {added} cs r turn (suc j) =
      let a = agrees cs r turn j in
      let g = grows r j in
      let same : a.front ≡ g.first = joins_unique a.joins g.joins_first in
      go g.next g.next_remains g.joins_next a.front a.rest a.begins (subst (λ p. (g.next ≡ p) ⊎ ((u : Str) × (g.next ≡ p ++ u ∷ []))) (sym same) g.grown) (turn (suc j)).0 (turn (suc j)).1
    where
      go : (next q : List Str) → Joins i s (take (suc j) e) next q → (p rest : List Str) → cs ≡ p ++ rest → (next ≡ p) ⊎ ((u : Str) × (next ≡ p ++ u ∷ [])) → (k : ℕ) → Merged i s (take (suc j) e) (s ++ take k cs) → Agrees s e added cs (suc j)
      go next q n p rest is (inl same) k m = record { front = next; remains = q; rest = rest; joins = n; begins = is ∙ ap (λ l. l ++ rest) (sym same) }
      go next q n p rest is (inr (u, same)) k m =
          let x : Exchanged i (take k cs) (p ++ u ∷ []) = subst (λ l. Exchanged i (take k cs) l) same (cancel_front laws s (merged_exchanged laws m (joins_merged laws n))) in
          let h = one_more p cs rest k u is x in
          record { front = next; remains = q; rest = h.0; joins = n; begins = h.1 ∙ ap (λ l. l ++ h.0) (sym same) }

  -- only one list takes the second in its order
  pub in_turn_unique : {s e added remains : List Str} (cs : List Str) → Joins i s e added remains → Merged i s e (s ++ cs) → InTurn i s e cs → cs ≡ added
  in_turn_unique {s} {e} {added} {remains} cs r m turn =
      let a = agrees cs r turn (length e) in
      let whole : Joins i s e a.front a.remains = subst (λ l. Joins i s l a.front a.remains) (take_all (length e) e (omega arith)) a.joins in
      let same : a.front ≡ added = joins_unique whole r in
      let begins : cs ≡ added ++ a.rest = a.begins ∙ ap (λ l. l ++ a.rest) same in
      let long = exchanged_length (merged_exchanged laws m (joins_merged laws r)) in
      let none : length a.rest ≡ 0 = omega (arith, long, length-append s cs, length-append s added, ap length begins, length-append added a.rest) in
      begins ∙ ap (λ l. added ++ l) (nil_from_length a.rest none) ∙ append-nil added
