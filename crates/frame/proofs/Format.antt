-- Reading answers by the format: what is read is what was laid out, and a fault stands where no frame goes on.
use Rattle.std.proofs.Common.{◌≡◌, ℕ, zero, suc, ◌+◌, ◌-◌, ◌*◌, ◌<◌, ◌≤◌, Bool, true, false, cond, ◌⊎◌, inl, inr, eqb, leb, List, [], ◌∷◌, ◌++◌, length, get_or, take, drop, Some, None, Ok, Err, Option, Result, IfOk, sym, refl, ap, ◌∙◌, subst, arith}
use lib.Seq.{take-append-add}
use Rattle.std.proofs.lemmas.List.{append_assoc, append-nil, take_at, drop_at, drop-drop, length-append, take_all, nil_from_length, length-take}
use Rattle.std.proofs.lemmas.List.Elements.{All-tail, All-from_get_or}
use Rattle.std.proofs.lemmas.Bool.{le-leb, lt-leb, cases_lt, cond_both, cond-true, cond-false, leb-true, leb-false, eqb-true, eqb-false}
use Rattle.frame.specs.declared.frame.TheConstants.{FRAME_LIMIT}
use Rattle.frame.specs.declared.call.Call.{Call}
use Rattle.frame.specs.declared.call.Call.TheVariants as calls
use Rattle.frame.specs.declared.call.TheConstants.{SETUP, OPEN, ADD, SWAP, WITHDRAW, JOIN, RELEASE, REOPEN, PRINT, LOOK}
use Rattle.frame.specs.declared.kind.TheConstants.{TERMS, NET}
use Rattle.frame.specs.declared.fault.FrameFault.{FrameFault}
use Rattle.frame.specs.declared.fault.FrameFault.TheVariants.{Malformed, BadSetup}
use Rattle.frame.specs.declared.frame.Frame.{Frame}
use Rattle.frame.specs.declared.kind.Kind.{Kind}
use Rattle.frame.specs.declared.kind.Kind.TheVariants.{Terms, Net}
use Rattle.actions.specs.declared.pairs.Pair.{Pair}
use Rattle.frame.specs.Frames.{SystemView, FrameView, PairsAllowed, NamesAllowed, pair_bytes, definitions, system_bytes, kind_of, setup_bytes, bytes_of, LaidOut, Few, Many, WithinRules, Accepted, Begins, names_place, count_place, first_place, body_place}
use Rattle.frame.specs.Frames.SystemView.{terms, net}
use Rattle.frame.specs.Frames.FrameView.{setup, open_sheet, add, swap, withdraw, join, release, reopen, print, look}
use Rattle.frame.specs.Calls.{call_of, with_rest}
use Rattle.frame.specs.Kinds.{named_kind}
use Rattle.frame.specs.Rules.{few, behind_names, behind_pairs, pairs_answer, names_answer, rules_answer}
use Rattle.frame.specs.Reading.{Layout, layout_answer, parts_answer, kind_answer, setup_answer, split_answer, sheet_rest_answer, sheet_answer, sheet_byte_answer, string_answer, frame_answer, frame_view, result_view}
use Rattle.frame.specs.Format.{AreBytes, ReadsFrames, MalformedAt, PlacesMalformed, HasOtherKind, PlacesKinds, IsSetup, PairsBadAt, NamesBadAt, BadAt, PlacesBadSetups, IsReadAs, ReadsOnce, PlacesBodies, PlacesEvents}
use Rattle.frame.specs.Format.PairsBadAt.{from_no_name, from_twice, to_no_name}
use Rattle.frame.specs.Format.NamesBadAt.{no_name}
use Rattle.frame.specs.Format.BadAt.{kind, many_pairs, bad_pair, many_names, bad_name, many_parts}
use Rattle.frame.proofs.Calls.{within_told}
use Rattle.frame.proofs.Layouts.{byte_of, no_items, laid, layout_built, SetupTells, setup_tells, no_layout, ends}
use Rattle.frame.proofs.Places.{length-pair_bytes, at_first, definitions-append}
use Rattle.frame.proofs.Ruled.{PairsTold, told_pairs, NamesTold, told_names, pairs_kept, names_kept, pairs_answer-many, pairs_answer-bad, names_answer-many, names_answer-bad}

-- first bytes

long : (f : FrameView) → 2 ≤ length (bytes_of f)
long (setup ps ns system) = omega arith
long (open_sheet sheet state) = omega arith
long (add sheet step) = omega arith
long (swap sheet place) = omega arith
long (withdraw sheet) = omega arith
long (join sheet other) = omega arith
long (release sheet) = omega arith
long (reopen sheet) = omega arith
long (print sheet) = omega arith
long (look sheet count) = omega arith

-- a frame names one of the calls
record Unknown (call : ℕ) : Type 0 where
  not_setup : call ≡ 0xA0 → ⊥
  not_open : call ≡ 0xB0 → ⊥
  not_add : call ≡ 0xB1 → ⊥
  not_swap : call ≡ 0xB2 → ⊥
  not_withdraw : call ≡ 0xB3 → ⊥
  not_join : call ≡ 0xB4 → ⊥
  not_release : call ≡ 0xB5 → ⊥
  not_reopen : call ≡ 0xB6 → ⊥
  not_print : call ≡ 0xB7 → ⊥
  not_look : call ≡ 0xB9 → ⊥

named : (call : ℕ) → Unknown call → (f : FrameView) (t : List ℕ) → bytes_of f ≡ call ∷ t → ⊥
named call u (setup ps ns system) t e = u.not_setup (sym (ap (λ s. get_or s 0 0) e))
named call u (open_sheet sheet state) t e = u.not_open (sym (ap (λ s. get_or s 0 0) e))
named call u (add sheet step) t e = u.not_add (sym (ap (λ s. get_or s 0 0) e))
named call u (swap sheet place) t e = u.not_swap (sym (ap (λ s. get_or s 0 0) e))
named call u (withdraw sheet) t e = u.not_withdraw (sym (ap (λ s. get_or s 0 0) e))
named call u (join sheet other) t e = u.not_join (sym (ap (λ s. get_or s 0 0) e))
named call u (release sheet) t e = u.not_release (sym (ap (λ s. get_or s 0 0) e))
named call u (reopen sheet) t e = u.not_reopen (sym (ap (λ s. get_or s 0 0) e))
named call u (print sheet) t e = u.not_print (sym (ap (λ s. get_or s 0 0) e))
named call u (look sheet count) t e = u.not_look (sym (ap (λ s. get_or s 0 0) e))

-- a call that is no setup and takes no rest has a sheet alone, or one byte more
abbrev size : ℕ → ℕ
size call = cond (eqb call 0xB2) 3 (cond (eqb call 0xB4) 3 (cond (eqb call 0xB9) 3 2))

sized : (call : ℕ) → 0xB1 < call → (f : FrameView) (t : List ℕ) → bytes_of f ≡ call ∷ t
    → length (bytes_of f) ≡ size call
sized call h (setup ps ns system) t e = absurd (omega (arith, ap (λ s. get_or s 0 0) e))
sized call h (open_sheet sheet state) t e = absurd (omega (arith, ap (λ s. get_or s 0 0) e))
sized call h (add sheet step) t e = absurd (omega (arith, ap (λ s. get_or s 0 0) e))
sized call h (swap sheet place) t e = ap (λ s. size (get_or s 0 0)) e
sized call h (withdraw sheet) t e = ap (λ s. size (get_or s 0 0)) e
sized call h (join sheet other) t e = ap (λ s. size (get_or s 0 0)) e
sized call h (release sheet) t e = ap (λ s. size (get_or s 0 0)) e
sized call h (reopen sheet) t e = ap (λ s. size (get_or s 0 0)) e
sized call h (print sheet) t e = ap (λ s. size (get_or s 0 0)) e
sized call h (look sheet count) t e = ap (λ s. size (get_or s 0 0)) e

-- what an answer says of the bytes that were read
abbrev Right : List ℕ → Result FrameView FrameFault → Type 0
Right s (Ok f) = (bytes_of f ≡ s) × LaidOut f × WithinRules f
Right s (Err (Malformed p)) = MalformedAt s p
Right s (Err (BadSetup p)) = BadAt s p

nothing_right : Right [] (Err (Malformed 0))
nothing_right = record {
  within = omega arith;
  begins = (withdraw 0, 0xB3 ∷ 0 ∷ [], tt, refl);
  longest = λ n h k b. absurd (omega arith);
  no_frame = λ f l e. absurd (omega (arith, long f, ap length e));
}

unknown_right : (call : ℕ) (rest : List ℕ) → Unknown call → MalformedAt (call ∷ rest) 0
unknown_right call rest u = record {
  within = omega arith;
  begins = (withdraw 0, 0xB3 ∷ 0 ∷ [], tt, refl);
  longest = longer;
  no_frame = λ f l e. named call u f rest e;
}
  where
    longer : (n : ℕ) → 0 < n → n ≤ length (call ∷ rest) → Begins (take n (call ∷ rest)) → ⊥
    longer zero h k b = absurd (omega arith)
    longer (suc n) h k (f, more, l, e) = named call u f (take n rest ++ more) e

-- the byte that names a call, alone
lone_right : (call : ℕ) → Begins (call ∷ []) → MalformedAt (call ∷ []) 1
lone_right call b = record {
  within = omega arith;
  begins = b;
  longest = λ n h k b. absurd (omega arith);
  no_frame = λ f l e. absurd (omega (arith, long f, ap length e));
}

-- a call with a rest
open_right : (rest : List ℕ) → Right (0xB0 ∷ rest) (sheet_rest_answer open_sheet rest)
open_right [] = lone_right 0xB0 (open_sheet 0 [], 0 ∷ [], tt, refl)
open_right (sheet ∷ state) = (refl, tt, tt)

add_right : (rest : List ℕ) → Right (0xB1 ∷ rest) (sheet_rest_answer add rest)
add_right [] = lone_right 0xB1 (add 0 [], 0 ∷ [], tt, refl)
add_right (sheet ∷ step) = (refl, tt, tt)

-- a call of a fixed size: too few bytes, and too many
missing_right : (call n : ℕ) (s : List ℕ) → 0xB1 < call → size call ≡ n → length (call ∷ s) < n → Begins (call ∷ s)
    → MalformedAt (call ∷ s) (length (call ∷ s))
missing_right call n s h is few b = record {
  within = omega arith;
  begins = subst Begins (sym (take_all (length (call ∷ s)) (call ∷ s) (omega arith))) b;
  longest = λ n h k b. absurd (omega arith);
  no_frame = λ f l e. absurd (omega (arith, sized call h f s e, ap length e));
}

extra_right : (call n : ℕ) (s : List ℕ) → 0xB1 < call → size call ≡ n → n < length (call ∷ s)
    → Begins (take n (call ∷ s)) → MalformedAt (call ∷ s) n
extra_right call n s h is many b = record {
  within = omega arith;
  begins = b;
  longest = longer;
  no_frame = λ f l e. absurd (omega (arith, sized call h f s e, ap length e));
}
  where
    longer : (m : ℕ) → n < m → m ≤ length (call ∷ s) → Begins (take m (call ∷ s)) → ⊥
    longer zero k w b = absurd (omega arith)
    longer (suc m) k w (f, more, l, e) = absurd
        (omega (
          arith,
          sized call h f (take m s ++ more) e,
          ap length e,
          length-append (take m s) more,
          length-take m s,
        ))

-- a call with a sheet alone, and one with a sheet and one byte more
sheet_right : (call : ℕ) (frame : ℕ → FrameView) → 0xB1 < call → size call ≡ 2
    → ((sheet : ℕ) → Right (call ∷ sheet ∷ []) (Ok (frame sheet))) → (rest : List ℕ)
    → Right (call ∷ rest) (sheet_answer frame rest)
sheet_right call frame h is r [] = missing_right call 2 [] h is (omega arith) (frame 0, 0 ∷ [], (r 0).1, (r 0).0)
sheet_right call frame h is r (sheet ∷ []) = r sheet
sheet_right call frame h is r (sheet ∷ x ∷ rest) =
    extra_right call 2 (sheet ∷ x ∷ rest) h is (omega arith) (frame sheet, [], (r sheet).1, (r sheet).0)

sheet_byte_right : (call : ℕ) (frame : ℕ → ℕ → FrameView) → 0xB1 < call → size call ≡ 3
    → ((sheet byte : ℕ) → Right (call ∷ sheet ∷ byte ∷ []) (Ok (frame sheet byte))) → (rest : List ℕ)
    → Right (call ∷ rest) (sheet_byte_answer frame rest)
sheet_byte_right call frame h is r [] =
    missing_right call 3 [] h is (omega arith) (frame 0 0, 0 ∷ 0 ∷ [], (r 0 0).1, (r 0 0).0)
sheet_byte_right call frame h is r (sheet ∷ []) =
    missing_right call 3 (sheet ∷ []) h is (omega arith) (frame sheet 0, 0 ∷ [], (r sheet 0).1, (r sheet 0).0)
sheet_byte_right call frame h is r (sheet ∷ byte ∷ []) = r sheet byte
sheet_byte_right call frame h is r (sheet ∷ byte ∷ x ∷ rest) = extra_right call 3 (sheet ∷ byte ∷ x ∷ rest) h is
    (omega arith) (frame sheet byte, [], (r sheet byte).1, (r sheet byte).0)

swap_right : (rest : List ℕ) → Right (0xB2 ∷ rest) (sheet_byte_answer swap rest)
swap_right = sheet_byte_right 0xB2 swap (omega arith) refl (λ sheet place. (refl, tt, tt))

withdraw_right : (rest : List ℕ) → Right (0xB3 ∷ rest) (sheet_answer withdraw rest)
withdraw_right = sheet_right 0xB3 withdraw (omega arith) refl (λ sheet. (refl, tt, tt))

join_right : (rest : List ℕ) → Right (0xB4 ∷ rest) (sheet_byte_answer join rest)
join_right = sheet_byte_right 0xB4 join (omega arith) refl (λ sheet other. (refl, tt, tt))

release_right : (rest : List ℕ) → Right (0xB5 ∷ rest) (sheet_answer release rest)
release_right = sheet_right 0xB5 release (omega arith) refl (λ sheet. (refl, tt, tt))

reopen_right : (rest : List ℕ) → Right (0xB6 ∷ rest) (sheet_answer reopen rest)
reopen_right = sheet_right 0xB6 reopen (omega arith) refl (λ sheet. (refl, tt, tt))

print_right : (rest : List ℕ) → Right (0xB7 ∷ rest) (sheet_answer print rest)
print_right = sheet_right 0xB7 print (omega arith) refl (λ sheet. (refl, tt, tt))

look_right : (rest : List ℕ) → Right (0xB9 ∷ rest) (sheet_byte_answer look rest)
look_right = sheet_byte_right 0xB9 look (omega arith) refl (λ sheet count. (refl, tt, tt))

-- setups

filled : (t : List ℕ) → eqb (length t) 0 ≡ false → 0 < length t
filled t h = positive (length t) (eqb-false _ _ h)
  where
    positive : (n : ℕ) → (n ≡ 0 → ⊥) → 0 < n
    positive n no_zero = omega arith

few_enough : (system : SystemView) → few system ≡ true → Few system
few_enough (terms bs) h = leb-true _ _ h
few_enough (net es) h = leb-true _ _ h

too_many : (system : SystemView) → few system ≡ false → Many system
too_many (terms bs) h = leb-false _ _ h
too_many (net es) h = leb-false _ _ h

is_few : (system : SystemView) → Few system → few system ≡ true
is_few (terms bs) h = le-leb _ _ h
is_few (net es) h = le-leb _ _ h

-- a setup whose pairs and names are allowed
system_right : (ps : List Pair) (ns : List ℕ) (system : SystemView) (place : ℕ) → LaidOut (setup ps ns system)
    → PairsAllowed ps → NamesAllowed ns → place ≡ count_place ps ns
    → Right (bytes_of (setup ps ns system)) (behind_names place ps system (Ok ns))
system_right ps ns system place l p n is =
    cond_both (few system) _ _ (Right (bytes_of (setup ps ns system)))
    (λ enough. (refl, l, (p, n, few_enough system enough)))
    (λ more. subst (BadAt (bytes_of (setup ps ns system))) (sym is)
    (many_parts ps ns system (refl, l) p n (too_many system more)))

-- a setup whose pairs are allowed
names_right : (ps : List Pair) (ns : List ℕ) (system : SystemView) (place : ℕ) → LaidOut (setup ps ns system)
    → PairsAllowed ps → place ≡ count_place ps ns → (r : Result (List ℕ) FrameFault) → NamesTold ps ns r
    → Right (bytes_of (setup ps ns system)) (behind_names place ps system r)
names_right ps ns system place l p is (Ok ms) (same, n) =
    subst (λ ms. Right (bytes_of (setup ps ns system)) (behind_names place ps system (Ok ms))) (sym same)
    (system_right ps ns system place l p n is)
names_right ps ns system place l p is (Err (Malformed k)) h = absurd h
names_right ps ns system place l p is (Err (BadSetup k)) (inl (many, at)) =
    subst (BadAt (bytes_of (setup ps ns system))) (sym at) (many_names ps ns system (refl, l) p many)
names_right ps ns system place l p is (Err (BadSetup k)) (inr (enough, bad)) =
    bad_name ps ns system (refl, l) p enough bad

pairs_right : (ps : List Pair) (ns : List ℕ) (system : SystemView) (at : ℕ) → LaidOut (setup ps ns system)
    → at ≡ names_place ps → (r : Result (List Pair) FrameFault) → PairsTold ps r
    → Right (bytes_of (setup ps ns system)) (behind_pairs at ns system r)
pairs_right ps ns system at l here (Ok qs) (same, p) =
    subst (λ qs. Right (bytes_of (setup ps ns system)) (behind_pairs at ns system (Ok qs))) (sym same)
    (names_right ps ns system (at + 1 + length ns) l p (omega (arith, here)) (names_answer at ns)
    (subst (λ k. NamesTold ps ns (names_answer k ns)) (sym here) (told_names ps ns)))
pairs_right ps ns system at l here (Err (Malformed k)) h = absurd h
pairs_right ps ns system at l here (Err (BadSetup k)) (inl (many, two)) =
    subst (BadAt (bytes_of (setup ps ns system))) (sym two) (many_pairs ps ns system (refl, l) many)
pairs_right ps ns system at l here (Err (BadSetup k)) (inr (enough, bad)) = bad_pair ps ns system (refl, l) enough bad

rules_right : (ps : List Pair) (ns : List ℕ) (system : SystemView) → LaidOut (setup ps ns system)
    → Right (bytes_of (setup ps ns system)) (rules_answer (pair_bytes ps) ns system)
rules_right ps ns system l =
    pairs_right ps ns system (3 + length (pair_bytes ps)) l (omega (arith, length-pair_bytes ps))
    (pairs_answer (pair_bytes ps)) (told_pairs ps)

-- bytes behind the parts of a setup
behind_right : (k : Kind) (ps : List Pair) (ns : List ℕ) (system : SystemView) (t : List ℕ) (p : ℕ)
    → kind_of system ≡ byte_of k → LaidOut (setup ps ns system) → 0 < length t
    → p ≡ length (setup_bytes ps ns system) + 2 → MalformedAt (0xA0 ∷ byte_of k ∷ (setup_bytes ps ns system ++ t)) p
behind_right k ps ns system t p same l some is = record {
  within = omega (arith, length-append (setup_bytes ps ns system) t);
  begins = (
    setup ps ns system,
    [],
    l,
    ap (λ j. 0xA0 ∷ j ∷ setup_bytes ps ns system) same
        ∙ sym (append-nil _ ∙ take_at whole t p (omega arith)),
  );
  longest = longer;
  no_frame = λ f l′ e. absurd (omega (arith, ap length (ends k ps ns system t same l f l′ e)));
}
  where
    whole : List ℕ
    whole = 0xA0 ∷ byte_of k ∷ setup_bytes ps ns system

    longer : (n : ℕ) → p < n → n ≤ length (0xA0 ∷ byte_of k ∷ (setup_bytes ps ns system ++ t))
        → Begins (take n (0xA0 ∷ byte_of k ∷ (setup_bytes ps ns system ++ t))) → ⊥
    longer n h within (f, more, l′, e) =
        let w : List ℕ = setup_bytes ps ns system in
        let all : List ℕ = 0xA0 ∷ byte_of k ∷ w in
        let m : ℕ = n - p in
        let split : n ≡ length all + m = omega arith in
        let front : take n (all ++ t) ≡ all ++ take m t = ap (λ j. take j (all ++ t)) split ∙ take-append-add all t m in
        let bytes : bytes_of f ≡ 0xA0 ∷ byte_of k ∷ (w ++ (take m t ++ more)) = e
        ∙ (ap (λ u. u ++ more) front ∙ append_assoc all (take m t) more) in
        let none = ap length (ends k ps ns system (take m t ++ more) same l f l′ bytes) in
        omega (arith, none, length-append (take m t) more, length-take m t, length-append w t)

parts_right : (k : Kind) (s : List ℕ) (o : Option Layout) → layout_answer k s ≡ o → SetupTells k s o
    → Right (0xA0 ∷ byte_of k ∷ s) (parts_answer (length s + 2) o)
parts_right k s None is (ps, ns, system, more, same, l, goes) = record {
  within = omega arith;
  begins = subst Begins (sym (take_all (length s + 2) (0xA0 ∷ byte_of k ∷ s) (omega arith))) (
    setup ps ns system,
    more,
    l,
    ap (λ j. 0xA0 ∷ j ∷ setup_bytes ps ns system) same
        ∙ ap (λ t. 0xA0 ∷ byte_of k ∷ t) goes,
  );
  longest = λ n h within b. absurd (omega arith);
  no_frame = λ f l′ e. no_layout k f s l′ e is;
}
parts_right k s (Some l) is (ps, pairs, same, laid_out, goes) =
    cond_both (eqb (length l.behind) 0) _ _ (Right (0xA0 ∷ byte_of k ∷ s)) all extra
  where
    all : eqb (length l.behind) 0 ≡ true → Right (0xA0 ∷ byte_of k ∷ s) (rules_answer l.pairs l.names l.system)
    all none =
        let empty : l.behind ≡ [] = nil_from_length l.behind (eqb-true _ _ none) in
        let whole : setup_bytes ps l.names l.system
        ≡ s = sym (goes
        ∙ (ap (λ t. setup_bytes ps l.names l.system ++ t) empty ∙ append-nil (setup_bytes ps l.names l.system))) in
        let bytes : bytes_of (setup ps l.names l.system)
        ≡ 0xA0 ∷ byte_of k ∷ s =
        ap (λ j. 0xA0 ∷ j ∷ setup_bytes ps l.names l.system) same ∙ ap (λ t. 0xA0 ∷ byte_of k ∷ t) whole in
        subst (λ t. Right t (rules_answer l.pairs l.names l.system)) bytes
        (subst (λ t. Right (bytes_of (setup ps l.names l.system)) (rules_answer t l.names l.system)) (sym pairs)
        (rules_right ps l.names l.system laid_out))

    extra : eqb (length l.behind) 0 ≡ false → MalformedAt (0xA0 ∷ byte_of k ∷ s) (length s + 2 - length l.behind)
    extra some =
        let len : length s ≡ length (setup_bytes ps l.names l.system) + length l.behind = ap length goes
        ∙ length-append (setup_bytes ps l.names l.system) l.behind in
        subst (λ t. MalformedAt (0xA0 ∷ byte_of k ∷ t) (length s + 2 - length l.behind)) (sym goes)
        (behind_right k ps l.names l.system l.behind (length s + 2 - length l.behind) same laid_out
        (filled l.behind some) (omega (arith, len)))

-- what a byte says of the kind of a setup
abbrev KindSays : ℕ → Option Kind → Type 0
KindSays byte None = (byte ≡ TERMS → ⊥) × (byte ≡ NET → ⊥)
KindSays byte (Some k) = byte ≡ byte_of k

kind_says : (byte : ℕ) → KindSays byte (named_kind byte)
kind_says byte =
    cond_both (eqb byte TERMS) _ _ (KindSays byte) (λ is. eqb-true byte TERMS is) (λ no_terms.
    cond_both (eqb byte NET) _ _ (KindSays byte) (λ is. eqb-true byte NET is) (λ no_net.
    (eqb-false byte TERMS no_terms, eqb-false byte NET no_net)))

kind_right : (byte : ℕ) (s : List ℕ) → AreBytes (SETUP ∷ byte ∷ s) → (o : Option Kind) → KindSays byte o
    → Right (SETUP ∷ byte ∷ s) (kind_answer o s)
kind_right byte s h None (no_terms, no_net) = kind no_terms no_net
kind_right byte s h (Some k) is =
    let rest : AreBytes s = All-tail (λ b. b < 256) byte s (All-tail (λ b. b < 256) SETUP (byte ∷ s) h) in
    subst (λ i. Right (SETUP ∷ i ∷ s) (parts_answer (length s + 2) (layout_answer k s))) (sym is)
    (parts_right k s (layout_answer k s) refl (setup_tells k s rest))

setup_right : (rest : List ℕ) → AreBytes (SETUP ∷ rest) → Right (SETUP ∷ rest) (setup_answer rest)
unfolding pair_bytes
setup_right [] h = lone_right SETUP
    (setup [] [] (net []), 2 ∷ 0 ∷ 0 ∷ 0 ∷ [], (omega arith, omega arith, no_items 17), refl)
setup_right (byte ∷ s) h = kind_right byte s h (named_kind byte) (kind_says byte)

-- every answer is right

abbrev byte_of_call : Call → ℕ
byte_of_call calls.Setup = SETUP
byte_of_call calls.Open = OPEN
byte_of_call calls.Add = ADD
byte_of_call calls.Swap = SWAP
byte_of_call calls.Withdraw = WITHDRAW
byte_of_call calls.Join = JOIN
byte_of_call calls.Release = RELEASE
byte_of_call calls.Reopen = REOPEN
byte_of_call calls.Print = PRINT
byte_of_call calls.Look = LOOK

-- what a byte says of the call of a frame
abbrev CallSays : ℕ → Option Call → Type 0
CallSays byte None = Unknown byte
CallSays byte (Some call) = byte ≡ byte_of_call call

call_says : (byte : ℕ) → CallSays byte (call_of byte)
call_says byte =
    cond_both (eqb byte SETUP) _ _ (CallSays byte) (λ is. eqb-true byte SETUP is) (λ n0.
    cond_both (eqb byte OPEN) _ _ (CallSays byte) (λ is. eqb-true byte OPEN is) (λ n1.
    cond_both (eqb byte ADD) _ _ (CallSays byte) (λ is. eqb-true byte ADD is) (λ n2.
    cond_both (eqb byte SWAP) _ _ (CallSays byte) (λ is. eqb-true byte SWAP is) (λ n3.
    cond_both (eqb byte WITHDRAW) _ _ (CallSays byte) (λ is. eqb-true byte WITHDRAW is) (λ n4.
    cond_both (eqb byte JOIN) _ _ (CallSays byte) (λ is. eqb-true byte JOIN is) (λ n5.
    cond_both (eqb byte RELEASE) _ _ (CallSays byte) (λ is. eqb-true byte RELEASE is) (λ n6.
    cond_both (eqb byte REOPEN) _ _ (CallSays byte) (λ is. eqb-true byte REOPEN is) (λ n7.
    cond_both (eqb byte PRINT) _ _ (CallSays byte) (λ is. eqb-true byte PRINT is) (λ n8.
    cond_both (eqb byte LOOK) _ _ (CallSays byte) (λ is. eqb-true byte LOOK is) (λ n9.
    record {
      not_setup = eqb-false byte SETUP n0;
      not_open = eqb-false byte OPEN n1;
      not_add = eqb-false byte ADD n2;
      not_swap = eqb-false byte SWAP n3;
      not_withdraw = eqb-false byte WITHDRAW n4;
      not_join = eqb-false byte JOIN n5;
      not_release = eqb-false byte RELEASE n6;
      not_reopen = eqb-false byte REOPEN n7;
      not_print = eqb-false byte PRINT n8;
      not_look = eqb-false byte LOOK n9;
    }))))))))))

at_call : (byte code : ℕ) (rest : List ℕ) (r : Result FrameView FrameFault) → byte ≡ code → Right (code ∷ rest) r
    → Right (byte ∷ rest) r
at_call byte code rest r is h = subst (λ c. Right (c ∷ rest) r) (sym is) h

call_right : (byte : ℕ) (rest : List ℕ) → AreBytes (byte ∷ rest) → (o : Option Call) → CallSays byte o
    → Right (byte ∷ rest) (split_answer (with_rest o rest))
call_right byte rest h None unknown = unknown_right byte rest unknown
call_right byte rest h (Some calls.Setup) is =
    at_call byte SETUP rest (setup_answer rest) is (setup_right rest (subst (λ c. AreBytes (c ∷ rest)) is h))
call_right byte rest h (Some calls.Open) is =
    at_call byte OPEN rest (sheet_rest_answer open_sheet rest) is (open_right rest)
call_right byte rest h (Some calls.Add) is = at_call byte ADD rest (sheet_rest_answer add rest) is (add_right rest)
call_right byte rest h (Some calls.Swap) is = at_call byte SWAP rest (sheet_byte_answer swap rest) is (swap_right rest)
call_right byte rest h (Some calls.Withdraw) is =
    at_call byte WITHDRAW rest (sheet_answer withdraw rest) is (withdraw_right rest)
call_right byte rest h (Some calls.Join) is = at_call byte JOIN rest (sheet_byte_answer join rest) is (join_right rest)
call_right byte rest h (Some calls.Release) is =
    at_call byte RELEASE rest (sheet_answer release rest) is (release_right rest)
call_right byte rest h (Some calls.Reopen) is =
    at_call byte REOPEN rest (sheet_answer reopen rest) is (reopen_right rest)
call_right byte rest h (Some calls.Print) is = at_call byte PRINT rest (sheet_answer print rest) is (print_right rest)
call_right byte rest h (Some calls.Look) is = at_call byte LOOK rest (sheet_byte_answer look rest) is (look_right rest)

-- By the call, and for a setup by its kind and its layout: a layout tells of the bytes what they are
-- the parts of, or what parts go on from them (`setup_tells`).
bytes_right : (s : List ℕ) → AreBytes s → Right s (string_answer s)
bytes_right [] h = nothing_right
bytes_right (byte ∷ rest) h = call_right byte rest h (call_of byte) (call_says byte)

-- a setup that is laid out is held to the rules

setup_ruled : (k : Kind) (ps : List Pair) (ns : List ℕ) (system : SystemView) → kind_of system ≡ byte_of k
    → LaidOut (setup ps ns system)
    → parts_answer (length (setup_bytes ps ns system) + 2) (layout_answer k (setup_bytes ps ns system))
    ≡ rules_answer (pair_bytes ps) ns system
setup_ruled k ps ns system same l =
    let built : layout_answer k (setup_bytes ps ns system) ≡ Some (laid (pair_bytes ps) ns system []) =
    ap (layout_answer k) (sym (append-nil (setup_bytes ps ns system))) ∙ layout_built k ps ns system [] same l in
    ap (parts_answer (length (setup_bytes ps ns system) + 2)) built

ruled : (ps : List Pair) (ns : List ℕ) (system : SystemView) → LaidOut (setup ps ns system)
    → string_answer (bytes_of (setup ps ns system)) ≡ rules_answer (pair_bytes ps) ns system
ruled ps ns (terms bs) l = setup_ruled Terms ps ns (terms bs) refl l
ruled ps ns (net es) l = setup_ruled Net ps ns (net es) refl l

-- what is told where the pairs are allowed, and where the names are too

names_ruled : (ps : List Pair) (ns : List ℕ) (system : SystemView) (r : Result (List ℕ) FrameFault)
    → LaidOut (setup ps ns system) → PairsAllowed ps → names_answer (names_place ps) ns ≡ r
    → string_answer (bytes_of (setup ps ns system)) ≡ behind_names (count_place ps ns) ps system r
names_ruled ps ns system r l p told =
    let here : 3 + length (pair_bytes ps) ≡ names_place ps = omega (arith, length-pair_bytes ps) in
    ruled ps ns system l
    ∙ ap (behind_pairs (3 + length (pair_bytes ps)) ns system) (pairs_kept ps p)
    ∙ ap (λ at. behind_pairs at ns system (Ok ps)) here
    ∙ ap (behind_names (count_place ps ns) ps system) told

system_ruled : (ps : List Pair) (ns : List ℕ) (system : SystemView)
    → LaidOut (setup ps ns system) → PairsAllowed ps → NamesAllowed ns
    → string_answer (bytes_of (setup ps ns system)) ≡ behind_names (count_place ps ns) ps system (Ok ns)
system_ruled ps ns system l p n = names_ruled ps ns system (Ok ns) l p (names_kept ps ns n)

-- the bytes of an accepted frame are read as that frame
accepted_read : (f : FrameView) → LaidOut f → WithinRules f → string_answer (bytes_of f) ≡ Ok f
accepted_read (setup ps ns system) l (p, n, enough) =
    system_ruled ps ns system l p n
    ∙ cond-true (few system) (Ok (setup ps ns system)) (Err (BadSetup (count_place ps ns))) (is_few system enough)
accepted_read (open_sheet sheet state) l r = refl
accepted_read (add sheet step) l r = refl
accepted_read (swap sheet place) l r = refl
accepted_read (withdraw sheet) l r = refl
accepted_read (join sheet other) l r = refl
accepted_read (release sheet) l r = refl
accepted_read (reopen sheet) l r = refl
accepted_read (print sheet) l r = refl
accepted_read (look sheet count) l r = refl

-- a setup that is bad at a place is told there

other_told : (byte : ℕ) (s : List ℕ) → (byte ≡ TERMS → ⊥) → (byte ≡ NET → ⊥)
    → string_answer (SETUP ∷ byte ∷ s) ≡ Err (BadSetup 1)
other_told byte s no_terms no_net = ap (λ o. kind_answer o s) (none (named_kind byte) (kind_says byte))
  where
    none : (o : Option Kind) → KindSays byte o → o ≡ None
    none None h = refl
    none (Some Terms) is = absurd (no_terms is)
    none (Some Net) is = absurd (no_net is)

is_many : (system : SystemView) → Many system → few system ≡ false
is_many (terms bs) h = lt-leb _ _ h
is_many (net es) h = lt-leb _ _ h

at_setup : (s : List ℕ) (ps : List Pair) (ns : List ℕ) (system : SystemView) (r : Result FrameView FrameFault)
    → IsSetup s ps ns system → string_answer (bytes_of (setup ps ns system)) ≡ r → string_answer s ≡ r
at_setup s ps ns system r (is, l) told = subst (λ t. string_answer t ≡ r) is told

bad_told : (s : List ℕ) (place : ℕ) → BadAt s place → string_answer s ≡ Err (BadSetup place)
bad_told s place (kind {k = k} {s = t} no_terms no_net) = other_told k t no_terms no_net
bad_told s place (many_pairs ps ns system is many) =
    at_setup s ps ns system (Err (BadSetup place)) is
    (ruled ps ns system is.1 ∙ ap (behind_pairs (3 + length (pair_bytes ps)) ns system) (pairs_answer-many ps many))
bad_told s place (bad_pair ps ns system is enough bad) =
    at_setup s ps ns system (Err (BadSetup place)) is
    (ruled ps ns system is.1
    ∙ ap (behind_pairs (3 + length (pair_bytes ps)) ns system) (pairs_answer-bad ps place enough bad))
bad_told s place (many_names ps ns system is p many) =
    at_setup s ps ns system (Err (BadSetup place)) is
    (names_ruled ps ns system (Err (BadSetup (names_place ps))) is.1 p (names_answer-many ps ns many))
bad_told s place (bad_name ps ns system is p enough bad) =
    at_setup s ps ns system (Err (BadSetup place)) is
    (names_ruled ps ns system (Err (BadSetup place)) is.1 p (names_answer-bad ps ns place enough bad))
bad_told s place (many_parts ps ns system is p n many) =
    at_setup s ps ns system (Err (BadSetup place)) is
    (system_ruled ps ns system is.1 p n
    ∙ cond-false (few system) (Ok (setup ps ns system)) (Err (BadSetup (count_place ps ns))) (is_many system many))

within_limit : (s : List ℕ) → AreBytes s → length s ≤ FRAME_LIMIT → Right s (frame_answer s)
within_limit s b h = subst (Right s) (sym (within_told s h)) (bytes_right s b)

-- an answer other than the refusal of what is too long comes from the bytes
bytes_answer : (s : List ℕ) (r : Result FrameView FrameFault) → (r ≡ Err (Malformed FRAME_LIMIT) → ⊥)
    → frame_answer s ≡ r → (length s ≤ FRAME_LIMIT) × (string_answer s ≡ r)
bytes_answer s r other e = cases (leb (length s) FRAME_LIMIT) refl e
  where
    cases : (t : Bool) → leb (length s) FRAME_LIMIT ≡ t → cond t (string_answer s) (Err (Malformed FRAME_LIMIT)) ≡ r
        → (length s ≤ FRAME_LIMIT) × (string_answer s ≡ r)
    cases true is h = (leb-true _ _ is, h)
    cases false is h = absurd (other (sym h))

pub reads_frames : ReadsFrames
reads_frames s f b = (there, back)
  where
    there : frame_answer s ≡ Ok f → (bytes_of f ≡ s) × Accepted f
    there e =
        let (within, told) = bytes_answer s (Ok f) (λ h. let z : ◌≡◌ {A = ℕ} 0 1 = cc in omega arith) e in
        let (is, l, r) = subst (Right s) told (bytes_right s b) in
        (is, (l, r, subst (λ t. length t ≤ FRAME_LIMIT) (sym is) within))

    back : (bytes_of f ≡ s) × Accepted f → frame_answer s ≡ Ok f
    back (is, (l, r, fits)) =
        subst (λ t. frame_answer t ≡ Ok f) is (within_told (bytes_of f) fits ∙ accepted_read f l r)

pub places_malformed : PlacesMalformed
places_malformed s place b fits e = subst (Right s) e (within_limit s b fits)

pub places_bad_setups : PlacesBadSetups
places_bad_setups s place b e =
    let (within, told) = bytes_answer s (Err (BadSetup place)) (λ h. let z : ◌≡◌ {A = ℕ} 0 1 = cc in omega arith) e in
    subst (Right s) told (bytes_right s b)

-- a setup of another kind

other_read : (s : List ℕ) → length s ≤ FRAME_LIMIT → HasOtherKind s → frame_answer s ≡ Err (BadSetup 1)
other_read s within o =
    within_told s within ∙ ap string_answer o.begins ∙ other_told o.kind o.rest o.no_terms o.no_net

pair_behind : (ps : List Pair) (place : ℕ) → PairsBadAt ps place → 3 ≤ place
pair_behind ps place (from_no_name front p back sound from) = omega arith
pair_behind ps place (from_twice front p back sound from twice) = omega arith
pair_behind ps place (to_no_name front p back sound from new to) = omega arith

name_behind : (ps : List Pair) (ns : List ℕ) (place : ℕ) → NamesBadAt ps ns place → 3 ≤ place
name_behind ps ns place (no_name front n back all not_one) = omega arith

bad_kind : (s : List ℕ) (place : ℕ) → BadAt s place → place ≡ 1 → HasOtherKind s
bad_kind s place (kind {k = k} {s = t} no_terms no_net) one =
    record { kind = k; rest = t; begins = refl; no_terms = no_terms; no_net = no_net }
bad_kind s place (many_pairs ps ns system is many) one = absurd (omega arith)
bad_kind s place (bad_pair ps ns system is enough bad) one = absurd (omega (arith, pair_behind ps place bad))
bad_kind s place (many_names ps ns system is p many) one = absurd (omega arith)
bad_kind s place (bad_name ps ns system is p enough bad) one = absurd (omega (arith, name_behind ps ns place bad))
bad_kind s place (many_parts ps ns system is p n many) one = absurd (omega arith)

pub places_kinds : PlacesKinds
places_kinds s b within = (λ e. bad_kind s 1 (places_bad_setups s 1 b e) refl, other_read s within)

-- of each string one thing is said

-- a setup that is bad at a place is of another kind, or it is laid out
abbrev Frames : List ℕ → Type 0
Frames s = (f : FrameView) × LaidOut f × (bytes_of f ≡ s)

bad_is : (s : List ℕ) (place : ℕ) → BadAt s place → HasOtherKind s ⊎ Frames s
bad_is s place (kind {k = k} {s = t} no_terms no_net) =
    inl (record { kind = k; rest = t; begins = refl; no_terms = no_terms; no_net = no_net })
bad_is s place (many_pairs ps ns system (is, l) many) = inr (setup ps ns system, l, is)
bad_is s place (bad_pair ps ns system (is, l) enough bad) = inr (setup ps ns system, l, is)
bad_is s place (many_names ps ns system (is, l) p many) = inr (setup ps ns system, l, is)
bad_is s place (bad_name ps ns system (is, l) p enough bad) = inr (setup ps ns system, l, is)
bad_is s place (many_parts ps ns system (is, l) p n many) = inr (setup ps ns system, l, is)

one_place : (s : List ℕ) (j k : ℕ) → MalformedAt s j → MalformedAt s k → j ≡ k
one_place s j k m n =
    elim (cases_lt j k) [
      | inl less ↦ absurd (m.longest k less n.within n.begins)
      | inr more ↦ elim (cases_lt k j) [
        | inl less ↦ absurd (n.longest j less m.within m.begins)
        | inr both ↦ omega arith
      ]
    ]

malformed_told : (s : List ℕ) (place : ℕ) → (HasOtherKind s → ⊥) → MalformedAt s place
    → (r : Result FrameView FrameFault) → Right s r → r ≡ Err (Malformed place)
malformed_told s place other m (Ok f) (is, l, w) = absurd (m.no_frame f l is)
malformed_told s place other m (Err (Malformed k)) n = ap (λ j. Err (Malformed j)) (one_place s k place n m)
malformed_told s place other m (Err (BadSetup k)) bad =
    elim (bad_is s k bad) [
      | inl wrong ↦ absurd (other wrong)
      | inr (f, l, is) ↦ absurd (m.no_frame f l is)
    ]

abbrev place_of_fault : Result FrameView FrameFault → ℕ
place_of_fault (Ok f) = 0
place_of_fault (Err (Malformed place)) = place
place_of_fault (Err (BadSetup place)) = place

same_place : (j k : ℕ) → ◌≡◌ {A = Result FrameView FrameFault} (Err (Malformed j)) (Err (Malformed k)) → j ≡ k
same_place j k e = ap place_of_fault e

-- That an answer is right is `bytes_right`. That no other is right: the place of a malformed string
-- ends its longest beginning, so there is one, and no frame has its bytes. A bad setup is of another
-- kind, or it is laid out: then it is held to the rules as its counts say (`ruled`), and its pairs,
-- or its names, are bad at one place, since all in front of that is in order.

clash : (j k : ℕ) → ◌≡◌ {A = Result FrameView FrameFault} (Err (Malformed j)) (Err (BadSetup k)) → ⊥
clash j k e = cc

beyond : (s : List ℕ) → FRAME_LIMIT < length s → frame_answer s ≡ Err (Malformed FRAME_LIMIT)
beyond s long = cond-false (leb (length s) FRAME_LIMIT) (string_answer s) (Err (Malformed FRAME_LIMIT))
    (lt-leb _ _ long)

pub reads_once : ReadsOnce
reads_once s r b = (there r, back r)
  where
    there : (r : Result FrameView FrameFault) → frame_answer s ≡ r → IsReadAs s r
    there (Ok f) e = (reads_frames s f b).0 e
    there (Err (Malformed place)) e =
        elim (cases_lt FRAME_LIMIT (length s)) [
          | inl long ↦ inl (long, same_place place FRAME_LIMIT (sym e ∙ beyond s long))
          | inr within ↦ inr
              (within, λ o. clash place 1 (sym e ∙ other_read s within o), places_malformed s place b within e)
        ]
    there (Err (BadSetup place)) e = (
      (bytes_answer s (Err (BadSetup place)) (λ h. clash FRAME_LIMIT place (sym h)) e).0,
      places_bad_setups s place b e,
    )

    back : (r : Result FrameView FrameFault) → IsReadAs s r → frame_answer s ≡ r
    back (Ok f) h = (reads_frames s f b).1 h
    back (Err (Malformed place)) (inl (long, is)) = beyond s long ∙ ap (λ k. Err (Malformed k)) (sym is)
    back (Err (Malformed place)) (inr (within, other, m)) =
        malformed_told s place other m (frame_answer s) (within_limit s b within)
    back (Err (BadSetup place)) (within, bad) = within_told s within ∙ bad_told s place bad

-- what stands from the first definition or event on
read_first : (s : List ℕ) (ps : List Pair) (ns : List ℕ) (system : SystemView) → AreBytes s
    → frame_answer s ≡ Ok (setup ps ns system) → drop (first_place ps ns) s ≡ system_bytes system
read_first s ps ns system b e =
    ap (drop (first_place ps ns)) (sym ((reads_frames s (setup ps ns system) b).0 e).0) ∙ at_first ps ns system

pub places_bodies : PlacesBodies
unfolding definitions
places_bodies s ps ns front body back b e =
    let all = front ++ body ∷ back in
    let head : List ℕ = definitions front ++ length body ∷ [] in
    let split : definitions all ≡ head ++ (body ++ definitions back) =
    definitions-append front (body ∷ back)
    ∙ sym (append_assoc (definitions front) (length body ∷ []) (body ++ definitions back)) in
    let place : body_place ps ns front
    ≡ first_place ps ns + length head = omega (arith, length-append (definitions front) (length body ∷ [])) in
    let there : drop (body_place ps ns front) s ≡ body ++ definitions back =
    ap (λ n. drop n s) place ∙ sym (drop-drop (length head) (first_place ps ns) s)
    ∙ ap (drop (length head)) (read_first s ps ns (terms all) b e ∙ split)
    ∙ drop_at head (body ++ definitions back) (length head) refl in
    ap (take (length body)) there ∙ take_at body (definitions back) (length body) refl

pub places_events : PlacesEvents
places_events s ps ns events i b e =
    sym (drop-drop (17 * i) (first_place ps ns) s) ∙ ap (drop (17 * i)) (read_first s ps ns (net events) b e)

pub rules_kept : (r : Result Frame FrameFault) (s : List ℕ) → ((i : ℕ) → get_or s i 0 < 256)
    → result_view frame_view r ≡ frame_answer s → IfOk r (λ f. WithinRules (frame_view f))
rules_kept (Ok f) s b e =
    ((reads_frames s (frame_view f) (All-from_get_or (λ b. b < 256) s 0 (λ i h. b i))).0 (sym e)).1.1
rules_kept (Err fault) s b e = tt
