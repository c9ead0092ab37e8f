-- The slots of a map's memory, and the pairs that they mean.
use Rattle.std.proofs.Common.{◌≡◌, ℕ, zero, suc, ◌<◌, ◌≤◌, Bool, true, false, eqb, List, [], ◌∷◌, map, length, get_or, take, Some, None, Option as Maybe, ⊎_elim, sym, refl, ap, ◌∙◌, subst, arith}
use mathlib.Core.Option.{Option, none, some}
use Rattle.std.proofs.lemmas.Bool.{cases_lt, true≢false, eqb-true, eq-eqb, and_from}
use Rattle.std.proofs.lemmas.List.{length-map, length-take-le, get_or-map, get_or-take}
use Rattle.std.proofs.lemmas.Option.{slice_get_within}
use Rattle.std.specs.List.{slice_get}
use Rattle.std.specs.Option.{IfSome}
use Rattle.std.specs.Cmp.{first_so, second_so}
use Rattle.theory.specs.Outcomes.{at}
use Rattle.maps.specs.declared.slot.Slot.{Slot}
use Rattle.maps.specs.Chains.{newest, place_of, Sought}
use Rattle.maps.specs.Pairs.{Pair, Table, IsBounded, agrees, hit, place, value_in, value_at, found}
use Rattle.maps.specs.Means.{pair_of, table, IsIndexed}
use Rattle.maps.proofs.Newest.{newest_le, newest_is, newest_none}
use Rattle.maps.proofs.Elements.{at_in, at_out}

-- what the slots say of the table that they mean
module _ {K V : Type 0} {ss : List (Slot K V)} {hd : List ℕ} {n limit : ℕ} (m : IsIndexed ss hd n limit) {t : Table K V} (is : table (take n ss) limit ≡ t) where
  long : length (take n ss) ≡ n
  long = length-take-le n ss (omega (arith, m.within, m.lent))

  pub many_pairs : length t.pairs ≡ n
  many_pairs = ap (λ u. length u.pairs) (sym is) ∙ length-map (take n ss) pair_of ∙ long

  pub room_is : t.room ≡ limit
  room_is = ap (λ u. u.room) (sym is)

  pub bounded : IsBounded t
  bounded = (omega (arith, many_pairs, room_is, m.within), omega (arith, room_is, m.few))

  pub pair_at : (i : ℕ) (s : Slot K V) → i < n → at t.pairs i ≡ some (pair_of (get_or ss i s))
  pair_at i s l =
      ap (λ u. at u.pairs i) (sym is)
      ∙ at_in (map pair_of (take n ss)) i (pair_of s) (omega (arith, length-map (take n ss) (pair_of {K = K} {V = V}), long))
      ∙ ap some (get_or-map pair_of (take n ss) i s (pair_of s) (omega (arith, long)) ∙ ap pair_of (get_or-take n ss i s l))

  pub no_pair_at : (i : ℕ) → n ≤ i → at t.pairs i ≡ none
  no_pair_at i l = at_out t.pairs i (omega (arith, many_pairs))

-- the place that a link to one of so many names
named : {m : ℕ} (n : ℕ) → n ≤ m → IfSome (place_of n) (λ i. i < m)
named zero l = tt
named (suc i) l = l

-- the pair of a slot in use
pair_of_slot : {K V : Type 0} (used : List (Slot K V)) (i : ℕ) (s : Slot K V) → slice_get used i ≡ Some s → at (map pair_of used) i ≡ some (pair_of s)
pair_of_slot [] i s e = let z : ◌≡◌ {A = ℕ} 0 1 = cc in absurd (omega arith)
pair_of_slot (x ∷ used) zero s e = let z : x ≡ s = cc in ap (λ y. some (pair_of y)) z
pair_of_slot (x ∷ used) (suc i) s e = pair_of_slot used i s e

-- there is a slot at each place below the length
slot_there : {A : Type 0} (xs : List A) (i : ℕ) → i < length xs → (x : A) × (slice_get xs i ≡ Some x)
slot_there [] i l = absurd (omega arith)
slot_there (x ∷ xs) zero l = (x, refl)
slot_there (x ∷ xs) (suc i) l = slot_there xs i (omega arith)

module _ {K V : Type 0} (alike : K → K → Bool) (digest : K → ℕ) where
  pub hit_is : (ps : List (Pair K V)) (k : K) (i : ℕ) → hit alike digest ps k i ≡ agrees alike digest k (at ps i)
  unfolding hit
  hit_is ps k i = refl

  -- a pair that agrees with a key is there, with its digest, and alike
  pub agrees_is : (k : K) (o : Option (Pair K V)) → agrees alike digest k o ≡ true → (p : Pair K V) × (o ≡ some p) × (p.digest ≡ digest k) × (alike p.key k ≡ true)
  agrees_is k none e = absurd (true≢false (sym e))
  agrees_is k (some p) e =
      (p, refl, eqb-true p.digest (digest k) (first_so (eqb p.digest (digest k)) (alike p.key k) e), second_so (eqb p.digest (digest k)) (alike p.key k) e)

  -- the search for a slot by a test that tells whether its key is alike finds the place of the key's pair
  module _ (used : List (Slot K V)) (key : K) (hash : ℕ) (own : hash ≡ digest key) (Says : Slot K V → Bool → Type 0) where
    abbrev Tells : Type 0
    Tells = (s : Slot K V) (b : Bool) → Says s b → b ≡ alike s.key key

    long_pairs : length (map (pair_of {K = K} {V = V}) used) ≡ length used
    long_pairs = length-map used pair_of

    -- what is refused is not the key's
    refused : Tells → (k : ℕ) → k < length (map (pair_of {K = K} {V = V}) used) → hit alike digest (map pair_of used) key k ≡ true → ((s : Slot K V) → slice_get used k ≡ Some s → s.hash ≡ hash → Says s false) → ⊥
    refused tells k l h never =
        let x = slot_there used k (omega (arith, long_pairs)) in
        let s = x.0 in
        let e : agrees alike digest key (some (pair_of s)) ≡ true =
        ap (agrees alike digest key) (sym (pair_of_slot used k s x.1)) ∙ sym (hit_is (map pair_of used) key k) ∙ h
        in
        let a = agrees_is key (some (pair_of s)) e in
        let p : pair_of s ≡ a.0 = let z : some (pair_of s) ≡ some a.0 = a.1 in cc in
        let f : false ≡ alike s.key key = tells s false (never s x.1 (ap (λ q. q.digest) p ∙ a.2 ∙ sym own)) in
        true≢false (sym (f ∙ ap (λ q. alike q.key key) p ∙ a.3))

    pub place_is : (r : Maybe ℕ) → Sought (λ (s : Slot K V). s.hash) Says hash used r → Tells → r ≡ place alike digest (map pair_of used) key
    place_is None f tells =
        sym
        (ap place_of
        (newest_none (hit alike digest (map pair_of used) key) (length (map pair_of used))
        (λ k l h. refused tells k l h (λ s at is. f.passed k s tt at is))))
    place_is (Some i) f tells =
        let s = f.found.0 in
        let there = f.found.1 in
        let inside : i < length used = slice_get_within used i s there in
        let here : hit alike digest (map pair_of used) key i ≡ true =
        hit_is (map pair_of used) key i ∙ ap (agrees alike digest key) (pair_of_slot used i s there)
        ∙ and_from (eqb s.hash (digest key)) (alike s.key key) (eq-eqb s.hash (digest key) (f.found.2 ∙ own)) (sym (tells s true f.found.3))
        in
        sym
        (ap place_of
        (newest_is (hit alike digest (map pair_of used) key) (length (map pair_of used)) i (omega (arith, long_pairs)) here
        (λ k l h.
        ⊎_elim
        (λ (past : i < k). absurd (refused tells k l h (λ s at is. f.passed k s past at is)))
        (λ (z : k ≤ i). z)
        (cases_lt i k))))

  -- the value at the place of a key
  pub found_at : (ps : List (Pair K V)) (key : K) (i : ℕ) (p : Pair K V) → Some i ≡ place alike digest ps key → at ps i ≡ some p → Some p.value ≡ found alike digest ps key
  found_at ps key i p is there = sym (ap (value_at alike digest ps) (sym is) ∙ ap value_in there)

  -- the place of a key is that of a pair
  pub place_in : (ps : List (Pair K V)) (key : K) (r : Maybe ℕ) → r ≡ place alike digest ps key → IfSome r (λ i. i < length ps)
  place_in ps key r is =
      let n = newest (hit alike digest ps key) (length ps) in
      subst (λ o. IfSome o (λ i. i < length ps)) (sym is) (named n (newest_le (hit alike digest ps key) (length ps)))
