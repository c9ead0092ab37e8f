-- A walk along a bucket's chain meets each entry that has the hash of that bucket's search.
use Rattle.std.proofs.Common.{◌≡◌, ℕ, zero, suc, ◌%◌, ◌<◌, ◌≤◌, Bool, true, false, List, map, length, get_or, Some, None, Option, sym, refl, ap, ◌∙◌, subst, ⊎_elim, arith}
use Rattle.std.proofs.lemmas.Bool.{eqb-true, eq-eqb, cases_eq, cases_lt}
use Rattle.std.proofs.lemmas.List.{length-map, get_or-map}
use Rattle.std.proofs.lemmas.Option.{slice_get_within, slice_get_read, get_or_from_slice_get}
use Rattle.std.specs.List.{slice_get}
use Rattle.maps.specs.Chains.{newest, place_of, on_bucket, Chained, Sought}
use Rattle.maps.proofs.Newest.{newest_le, newest-hit, newest_covers}

-- the link to a place
abbrev pub link_to : Option ℕ → ℕ
link_to None = 0
link_to (Some i) = suc i

link_to-place_of : (n : ℕ) → link_to (place_of n) ≡ n
link_to-place_of zero = refl
link_to-place_of (suc i) = refl

-- a number of the entry at a place
read_here : {T : Type 0} (f : T → ℕ) (entries : List T) (k : ℕ) (e : T) → slice_get entries k ≡ Some e → get_or (map f entries) k 0 ≡ f e
read_here f entries k e at =
    get_or-map f entries k e 0 (slice_get_within entries k e at) ∙ ap f (get_or_from_slice_get entries k e e at)

module _ {T : Type 0} (hash : T → ℕ) (Says : T → Bool → Type 0) (sought size : ℕ) (entries : List T) where
  -- the test says no of each entry with the hash from a place on
  abbrev pub NoneFrom : ℕ → Type 0
  NoneFrom i = (k : ℕ) (e : T) → i ≤ k → slice_get entries k ≡ Some e → hash e ≡ sought → Says e false

  -- the walk goes on at this link of the chain for the hash: from there on, the test has said no of each entry with the hash
  pub record Left (link : ℕ) : Type 0 where
    pub inside : link ≤ length entries
    pub own : (i : ℕ) → link ≡ suc i → get_or (map hash entries) i 0 % size ≡ sought % size
    pub rest : NoneFrom link

  in_bucket : (k : ℕ) (e : T) → slice_get entries k ≡ Some e → hash e ≡ sought → on_bucket (map hash entries) size (sought % size) k ≡ true
  unfolding on_bucket
  in_bucket k e at is =
      eq-eqb (get_or (map hash entries) k 0 % size) (sought % size) (ap (λ h. h % size) (read_here hash entries k e at ∙ is))

  -- the newest of the bucket below m, where the test said no from m on
  below : (m : ℕ) → m ≤ length entries → NoneFrom m → Left (newest (on_bucket (map hash entries) size (sought % size)) m)
  unfolding on_bucket
  below m l none =
      let P = on_bucket (map hash entries) size (sought % size) in
      record {
        inside = omega (arith, newest_le P m);
        own = λ i is. eqb-true (get_or (map hash entries) i 0 % size) (sought % size) (newest-hit P m i is);
        rest = λ k e from at is.
            ⊎_elim
            (λ (before : k < m). absurd (omega (arith, newest_covers P m k before (in_bucket k e at is))))
            (λ (past : m ≤ k). none k e past at is)
            (cases_lt k m);
      }

  module _ (next : T → ℕ) (buckets : List ℕ) (long : length buckets ≡ size) (chained : Chained (map hash entries) (map next entries) buckets) where
    pub left_first : sought % size < size → (at : Option ℕ) → at ≡ place_of (get_or buckets (sought % size) 0) → Left (link_to at)
    left_first l at is =
        subst Left
        (sym
        (ap link_to is ∙ link_to-place_of (get_or buckets (sought % size) 0) ∙ chained.firsts (sought % size) (omega arith)
        ∙ ap (λ z. newest (on_bucket (map hash entries) z (sought % size)) (length (map hash entries))) long))
        (below (length (map hash entries)) (omega (arith, length-map entries hash))
        (λ k e past at is. absurd (omega (arith, slice_get_within entries k e at, length-map entries hash))))

    -- at an entry
    module _ (at : Option ℕ) (w : Left (link_to at)) (i : ℕ) (is : at ≡ Some i) (e : T) (read : e ≡ get_or entries i e) where
      here-left : Left (suc i)
      here-left = subst Left (ap link_to is) w

      here : slice_get entries i ≡ Some e
      here = slice_get_read entries (length entries) i e refl (omega (arith, here-left.inside)) read

      pub found_here : hash e ≡ sought → Says e true → Sought hash Says sought entries (Some i)
      found_here own says = record { found = (e, here, own, says); passed = here-left.rest }

      link_is : get_or (map next entries) i 0 ≡ newest (on_bucket (map hash entries) size (sought % size)) i
      link_is =
          chained.others i (omega (arith, here-left.inside, length-map entries hash))
          ∙ ap (λ z. newest (on_bucket (map hash entries) z (get_or (map hash entries) i 0 % z)) i) long
          ∙ ap (λ b. newest (on_bucket (map hash entries) size b) i) (here-left.own i refl)

      -- the link to the next place
      next_link : (n : Option ℕ) → n ≡ place_of (next e) → link_to n ≡ newest (on_bucket (map hash entries) size (sought % size)) i
      next_link n step = ap link_to step ∙ link_to-place_of (next e) ∙ sym (read_here next entries i e here) ∙ link_is

      -- the test says no of it, or it has another hash
      pub left_next : (n : Option ℕ) → n ≡ place_of (next e) → (hash e ≡ sought → Says e false) → Left (link_to n)
      left_next n step refused =
          subst Left (sym (next_link n step))
          (below i (omega (arith, here-left.inside))
          (λ k f past at is.
          ⊎_elim
          (λ (z : k ≡ i).
          let same : Some f ≡ Some e = sym at ∙ ap (slice_get entries) z ∙ here in
          let s : e ≡ f = cc in
          subst (λ x. Says x false) s (refused (ap hash s ∙ is)))
          (λ (ne : k ≡ i → ⊥). here-left.rest k f (omega arith) at is)
          (cases_eq k i)))

      pub left_less : (n : Option ℕ) → n ≡ place_of (next e) → link_to n < link_to at
      left_less n step =
          omega (arith, next_link n step, ap link_to is, newest_le (on_bucket (map hash entries) size (sought % size)) i)

  pub found_nowhere : (at : Option ℕ) → at ≡ None → Left (link_to at) → Sought hash Says sought entries None
  found_nowhere at is w =
      let e = subst Left (ap link_to is) w in record { found = tt; passed = λ k x _ at own. e.rest k x (omega arith) at own }
