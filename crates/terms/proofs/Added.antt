-- A body behind the others.
use Rattle.std.proofs.Common.{◌≡◌, ℕ, ◌<◌, ◌≤◌, Bool, true, false, cond, not, nat_lt, List, [], ◌∷◌, ◌++◌, length, take, is_some, Some, None, sym, refl, ap, ◌∙◌, length-append, arith}
use Rattle.std.specs.Cmp.Derive.{both_true}
use Rattle.std.proofs.lemmas.List.{take_all}
use Rattle.std.proofs.lemmas.Bool.{cond-true, lt-ltb}
use Rattle.steps.specs.Meaning.{Str}
use Rattle.ccs.proofs.Cases.{both_of}
use Rattle.terms.specs.Bodies.{body_fault, sound_bodies_of, no_body, add_fault, with_body, bodies_after}

-- what fits is the string itself
pub held_is : (h s : Str) (c : Bool) → Some h ≡ cond c (Some s) None → h ≡ s
held_is h s true e = cc e
held_is h s false e = absurd (cc e)

pub push_sound : (n : ℕ) (ss : List Str) (s : Str) → sound_bodies_of n ss ≡ true → None ≡ body_fault n s
    → sound_bodies_of n (ss ++ s ∷ []) ≡ true
unfolding sound_bodies_of
push_sound n [] s e h = both_true (ap (λ o. not (is_some o)) (sym h)) refl
push_sound n (r ∷ ss) s e h = let c = both_of (not (is_some (body_fault n r))) (sound_bodies_of n ss) e in
    both_true c.0 (push_sound n ss s c.1 h)

module _ (n : ℕ) (ss : List Str) (h s : Str) (same : h ≡ s) (few : length ss < n) (limited : n ≤ 16) where
  stored : take 16 (ss ++ h ∷ []) ≡ ss ++ s ∷ []
  stored = take_all 16 (ss ++ h ∷ []) (omega (arith, length-append ss (h ∷ []), few, limited))
      ∙ ap (λ h. ss ++ h ∷ []) same

  pub stored_few : length (take 16 (ss ++ h ∷ [])) ≤ n
  stored_few = omega (arith, ap length stored, length-append ss (s ∷ []), few)

  pub stored_sound : sound_bodies_of n ss ≡ true → None ≡ body_fault n s
      → sound_bodies_of n (take 16 (ss ++ h ∷ [])) ≡ true
  stored_sound e f = ap (sound_bodies_of n) stored ∙ push_sound n ss s e f

  pub stored_after : None ≡ body_fault n s → take 16 (ss ++ h ∷ []) ≡ bodies_after n ss s
  stored_after f =
      let fault : add_fault n ss s ≡ None = cond-true (nat_lt (length ss) n) _ _ (lt-ltb (length ss) n few)
      ∙ ap no_body (sym f) in
      stored ∙ sym (ap (λ o. with_body o ss s) fault)
