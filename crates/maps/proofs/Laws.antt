-- Inserting is what a map's user takes it for: the key and what is alike have the value, and nothing else changes.
use Rattle.std.proofs.Common.{◌≡◌, ℕ, zero, suc, ◌%◌, ◌^◌, ◌<◌, ◌≤◌, Bool, true, false, ◌&&◌, eqb, ltb, List, [], ◌∷◌, ◌++◌, length, Some, None, Ok, Err, Result, Option as Maybe, sym, refl, ap, ◌∙◌, subst, ⊎_elim, arith}
use mathlib.Core.Option.{Option, none, some}
use Rattle.std.proofs.lemmas.Bool.{cases_Bool, cond_both, cond-true, cond-false, both_ways, eq-eqb, and_from, lt-ltb, le-ltb}
use Rattle.std.proofs.lemmas.List.{length_push}
use Rattle.std.specs.Cmp.{IsEquivalence}
use Rattle.std.specs.Hash.{HashWrites}
use Rattle.maps.specs.Hashing.{started, written, finished}
use Rattle.std.specs.List.{fold}
use Rattle.theory.specs.declared.words.StoreFault.{StoreFault}
use Rattle.theory.specs.declared.words.StoreFault.TheVariants.{Full}
use Rattle.theory.specs.Outcomes.{at}
use Rattle.maps.specs.Chains.{newest, place_of}
use Rattle.maps.specs.Keys.{digest}
use Rattle.maps.specs.Pairs.{Pair, pair, Table, IsBounded, agrees, hit, place, value_in, value_at, found, revalued, insert_at, inserted, ReadsAs}
use Rattle.maps.proofs.Newest.{newest_le, newest-hit, newest_here, newest_past, newest_same}
use Rattle.maps.proofs.Tables.{agrees_is, hit_is}

-- keys that are equal have one digest
pub one_digest : {K : Type 0} {alike : K → K → Bool} {input : K → HashWrites} → ((x y : K) → alike x y ≡ true → input x ≡ input y) → (x y : K) → alike x y ≡ true → digest input x ≡ digest input y
unfolding digest
one_digest fed x y e = ap (λ w. finished (fold written started w) % 2 ^ 32) (fed x y e)

-- Elements after a push, and after a value is replaced

module _ {A : Type 0} where
  at_old : (xs : List A) (y : A) (i : ℕ) → i < length xs → at (xs ++ y ∷ []) i ≡ at xs i
  at_old [] y i l = absurd (omega arith)
  at_old (x ∷ xs) y zero l = refl
  at_old (x ∷ xs) y (suc i) l = at_old xs y i (omega arith)

  at_new : (xs : List A) (y : A) → at (xs ++ y ∷ []) (length xs) ≡ some y
  at_new [] y = refl
  at_new (x ∷ xs) y = at_new xs y

module _ {K V : Type 0} where
  pub length-revalued : (ps : List (Pair K V)) (i : ℕ) (v : V) → length (revalued ps i v) ≡ length ps
  length-revalued [] i v = refl
  length-revalued (p ∷ ps) zero v = refl
  length-revalued (p ∷ ps) (suc i) v = ap suc (length-revalued ps i v)

  -- another value, and one pair more where there is room, keep the pairs within the room
  pub bounded_revalued : (t u : Table K V) (i : ℕ) (v : V) → IsBounded t → u ≡ record t { pairs = revalued t.pairs i v } → IsBounded u
  bounded_revalued t u i v b e = subst IsBounded (sym e) (omega (arith, length-revalued t.pairs i v, b.0), b.1)

  pub bounded_more : (t u : Table K V) (p : Pair K V) → IsBounded t → length t.pairs < t.room → u ≡ record t { pairs = t.pairs ++ p ∷ [] } → IsBounded u
  bounded_more t u p b l e = subst IsBounded (sym e) (omega (arith, length_push t.pairs p, l), b.1)

  revalued_other : (ps : List (Pair K V)) (i j : ℕ) (v : V) → (j ≡ i → ⊥) → at (revalued ps i v) j ≡ at ps j
  revalued_other [] i j v ne = refl
  revalued_other (p ∷ ps) zero zero v ne = absurd (ne refl)
  revalued_other (p ∷ ps) zero (suc j) v ne = refl
  revalued_other (p ∷ ps) (suc i) zero v ne = refl
  revalued_other (p ∷ ps) (suc i) (suc j) v ne = revalued_other ps i j v (λ e. ne (ap suc e))

  revalued_here : (ps : List (Pair K V)) (i : ℕ) (v : V) → i < length ps → value_in (at (revalued ps i v) i) ≡ Some v
  revalued_here [] i v l = absurd (omega arith)
  revalued_here (p ∷ ps) zero v l = refl
  revalued_here (p ∷ ps) (suc i) v l = revalued_here ps i v (omega arith)

and_false : (a b : Bool) → b ≡ false → a && b ≡ false
and_false true b e = e
and_false false b e = refl

-- the link that names a place
link_is : (n i : ℕ) → place_of n ≡ Some i → n ≡ suc i
link_is zero i e = let z : ◌≡◌ {A = ℕ} 0 1 = cc in absurd (omega arith)
link_is (suc n) i e = let z : n ≡ i = cc in ap suc z

module _ {K V : Type 0} (alike : K → K → Bool) (digest_of : K → ℕ) (equal : IsEquivalence alike) (same_digest : (x y : K) → alike x y ≡ true → digest_of x ≡ digest_of y) where
  abbrev hits : List (Pair K V) → K → ℕ → Bool
  hits ps k i = hit alike digest_of ps k i

  agrees-revalued : (ps : List (Pair K V)) (i j : ℕ) (v : V) (k : K) → agrees alike digest_of k (at (revalued ps i v) j) ≡ agrees alike digest_of k (at ps j)
  agrees-revalued [] i j v k = refl
  agrees-revalued (p ∷ ps) zero zero v k = refl
  agrees-revalued (p ∷ ps) zero (suc j) v k = refl
  agrees-revalued (p ∷ ps) (suc i) zero v k = refl
  agrees-revalued (p ∷ ps) (suc i) (suc j) v k = agrees-revalued ps i j v k

  -- keys that are alike have the same pairs
  agrees_alike : (a b : K) → alike a b ≡ true → (o : Option (Pair K V)) → agrees alike digest_of a o ≡ agrees alike digest_of b o
  agrees_alike a b e none = refl
  agrees_alike a b e (some p) =
      let d = same_digest a b e in
      let s = equal.symm p.key a ∙ equal.congr a b p.key e ∙ equal.symm b p.key in
      ap (λ n. eqb p.digest n && alike p.key a) d ∙ ap (λ t. eqb p.digest (digest_of b) && t) s

  hits_alike : (ps : List (Pair K V)) (a b : K) (i : ℕ) → alike a b ≡ true → hits ps a i ≡ hits ps b i
  hits_alike ps a b i e = hit_is alike digest_of ps a i ∙ agrees_alike a b e (at ps i) ∙ sym (hit_is alike digest_of ps b i)

  -- one pair is of alike keys only
  both-hit : (ps : List (Pair K V)) (a b : K) (i : ℕ) → hits ps a i ≡ true → hits ps b i ≡ true → alike a b ≡ true
  both-hit ps a b i h k =
      let x = agrees_is alike digest_of a (at ps i) (sym (hit_is alike digest_of ps a i) ∙ h) in
      let y = agrees_is alike digest_of b (at ps i) (sym (hit_is alike digest_of ps b i) ∙ k) in
      let is : x.0 ≡ y.0 = let e : some x.0 ≡ some y.0 = sym x.1 ∙ y.1 in cc in
      sym (equal.congr x.0.key a b x.3) ∙ ap (λ p. alike p.key b) is ∙ y.3

  -- a new key
  module _ (ps : List (Pair K V)) (key : K) (v : V) where
    abbrev new : Pair K V
    new = pair key v (digest_of key)

    abbrev after : List (Pair K V)
    after = ps ++ new ∷ []

    long : length (ps ++ pair key v (digest_of key) ∷ []) ≡ suc (length ps)
    long = omega (arith, length_push ps new)

    old_hits : (k : K) (i : ℕ) → i < length ps → hits after k i ≡ hits ps k i
    old_hits k i l = hit_is alike digest_of after k i ∙ ap (agrees alike digest_of k) (at_old ps new i l) ∙ sym (hit_is alike digest_of ps k i)

    at_end : (k : K) → hits after k (length ps) ≡ (eqb (digest_of key) (digest_of k) && alike key k)
    at_end k = hit_is alike digest_of after k (length ps) ∙ ap (agrees alike digest_of k) (at_new ps new)

    old_value : (n : ℕ) → n ≤ length ps → value_at alike digest_of after (place_of n) ≡ value_at alike digest_of ps (place_of n)
    old_value zero l = refl
    old_value (suc i) l = ap value_in (at_old ps new i (omega arith))

    reads_new : ReadsAs alike digest_of ps key v true (ps ++ pair key v (digest_of key) ∷ [])
    reads_new k =
        ⊎_elim
        (λ (t : alike key k ≡ true).
        let here : hits after k (length ps) ≡ true =
        at_end k ∙ and_from (eqb (digest_of key) (digest_of k)) (alike key k) (eq-eqb (digest_of key) (digest_of k) (same_digest key k t)) t
        in
        ap (λ n. value_at alike digest_of after (place_of n)) (ap (newest (hits after k)) long ∙ newest_here (hits after k) (length ps) here)
        ∙ ap value_in (at_new ps new)
        ∙ sym (cond-true (alike key k) (Some v) (found alike digest_of ps k) t))
        (λ (f : alike key k ≡ false).
        let away : hits after k (length ps) ≡ false = at_end k ∙ and_false (eqb (digest_of key) (digest_of k)) (alike key k) f in
        let same : newest (hits after k) (length after) ≡ newest (hits ps k) (length ps) =
        ap (newest (hits after k)) long ∙ newest_past (hits after k) (length ps) away
        ∙ newest_same (hits after k) (hits ps k) (length ps) (λ i l. old_hits k i l)
        in
        ap (λ n. value_at alike digest_of after (place_of n)) same
        ∙ old_value (newest (hits ps k) (length ps)) (newest_le (hits ps k) (length ps))
        ∙ sym (cond-false (alike key k) (Some v) (found alike digest_of ps k) f))
        (cases_Bool (alike key k))

  -- a key that is there
  module _ (ps : List (Pair K V)) (key : K) (v : V) (i : ℕ) (there : place alike digest_of ps key ≡ Some i) where
    abbrev changed : List (Pair K V)
    changed = revalued ps i v

    link : newest (hits ps key) (length ps) ≡ suc i
    link = link_is (newest (hits ps key) (length ps)) i there

    same_place : (k : K) → place alike digest_of (revalued ps i v) k ≡ place alike digest_of ps k
    same_place k =
        ap place_of
        (ap (newest (hits changed k)) (length-revalued ps i v)
        ∙ newest_same (hits changed k) (hits ps k) (length ps)
        (λ j l. hit_is alike digest_of changed k j ∙ agrees-revalued ps i j v k ∙ sym (hit_is alike digest_of ps k j)))

    other_value : (o : Maybe ℕ) → (o ≡ Some i → ⊥) → value_at alike digest_of (revalued ps i v) o ≡ value_at alike digest_of ps o
    other_value None ne = refl
    other_value (Some j) ne = ap value_in (revalued_other ps i j v (λ e. ne (ap Some e)))

    reads_old : ReadsAs alike digest_of ps key v true (revalued ps i v)
    reads_old k =
        ⊎_elim
        (λ (t : alike key k ≡ true).
        let at_key : place alike digest_of ps k ≡ Some i =
        ap place_of (newest_same (hits ps k) (hits ps key) (length ps) (λ j l. sym (hits_alike ps key k j t))) ∙ there
        in
        ap (value_at alike digest_of changed) (same_place k ∙ at_key)
        ∙ revalued_here ps i v (omega (arith, newest_le (hits ps key) (length ps), link))
        ∙ sym (cond-true (alike key k) (Some v) (found alike digest_of ps k) t))
        (λ (f : alike key k ≡ false).
        let apart : place alike digest_of ps k ≡ Some i → ⊥ =
        λ e.
        both_ways (alike key k) f
        (both-hit ps key k i (newest-hit (hits ps key) (length ps) i link)
        (newest-hit (hits ps k) (length ps) i (link_is (newest (hits ps k) (length ps)) i e)))
        in
        ap (value_at alike digest_of changed) (same_place k)
        ∙ other_value (place alike digest_of ps k) apart
        ∙ sym (cond-false (alike key k) (Some v) (found alike digest_of ps k) f))
        (cases_Bool (alike key k))

  -- What inserting answers and leaves, by the key's place

  module _ (t u : Table K V) (key : K) (v : V) where
    pub inserts_old : (i : ℕ) → place alike digest_of t.pairs key ≡ Some i → u ≡ record t { pairs = revalued t.pairs i v } → ((Ok tt, u) ≡ inserted alike digest_of t key v) × ReadsAs alike digest_of t.pairs key v true u.pairs
    unfolding inserted
    inserts_old i there is = (
      ap (λ w. (Ok tt, w)) is ∙ sym (ap (insert_at alike digest_of t key v) there),
      λ k. ap (λ w. found alike digest_of w.pairs k) is ∙ reads_old t.pairs key v i there k,
    )

    pub inserts_new : place alike digest_of t.pairs key ≡ None → length t.pairs < t.room → u ≡ record t { pairs = t.pairs ++ pair key v (digest_of key) ∷ [] } → ((Ok tt, u) ≡ inserted alike digest_of t key v) × ReadsAs alike digest_of t.pairs key v true u.pairs
    unfolding inserted
    inserts_new absent l is = (
      ap (λ w. (Ok tt, w)) is
          ∙ sym (ap (insert_at alike digest_of t key v) absent ∙ cond-true (ltb (length t.pairs) t.room) (Ok tt, record t { pairs = t.pairs ++ pair key v (digest_of key) ∷ [] }) (Err Full, t) (lt-ltb (length t.pairs) t.room l)),
      λ k. ap (λ w. found alike digest_of w.pairs k) is ∙ reads_new t.pairs key v k,
    )

module _ {K V : Type 0} (alike : K → K → Bool) (digest_of : K → ℕ) where
  pub inserts_not : (t : Table K V) (key : K) (v : V) → place alike digest_of t.pairs key ≡ None → t.room ≤ length t.pairs → (Err Full, t) ≡ inserted alike digest_of t key v
  unfolding inserted
  inserts_not t key v absent l =
      sym
      (ap (insert_at alike digest_of t key v) absent
      ∙ cond-false (ltb (length t.pairs) t.room) (Ok tt, record t { pairs = t.pairs ++ pair key v (digest_of key) ∷ [] }) (Err Full, t) (le-ltb (length t.pairs) t.room l))

  -- the room stays
  pub room-inserted : (t : Table K V) (key : K) (v : V) → (inserted alike digest_of t key v).1.room ≡ t.room
  unfolding inserted
  room-inserted t key v = room_at (place alike digest_of t.pairs key)
    where
      room_at : (o : Maybe ℕ) → (insert_at alike digest_of t key v o).1.room ≡ t.room
      room_at None = cond_both (ltb (length t.pairs) t.room) _ _ (λ (r : Result (Unit {0}) StoreFault × Table K V). r.1.room ≡ t.room) (λ _. refl) (λ _. refl)
      room_at (Some i) = refl
