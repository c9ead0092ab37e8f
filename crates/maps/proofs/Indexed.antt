-- A map's memory is indexed after each write.
use Rattle.std.proofs.Common.{◌≡◌, ℕ, zero, suc, ◌+◌, ◌%◌, ◌<◌, ◌≤◌, List, [], ◌∷◌, ◌++◌, map, length, get_or, take, set, sym, refl, ap, ◌∙◌, subst, arith}
use Rattle.std.proofs.lemmas.Nat.{mod_below}
use Rattle.std.proofs.lemmas.List.{length-set, length-take-le, set-get_or, get_or-map, get_or-take, map-set, take_more, take_more_set}
use Rattle.std.proofs.Math.Seq.{take-set-lt}
use Rattle.maps.specs.declared.slot.Slot.{Slot}
use Rattle.maps.specs.Chains.{Chained}
use Rattle.maps.specs.Pairs.{revalued}
use Rattle.maps.specs.Means.{pair_of, IsIndexed}
use Rattle.maps.proofs.Links.{chained_push, chained_pop}

module _ {K V : Type 0} where
  abbrev hash_of : Slot K V → ℕ
  hash_of s = s.hash

  abbrev next_of : Slot K V → ℕ
  next_of s = s.next

  -- the slots in use are indexed by the buckets
  abbrev AreChained : List (Slot K V) → List ℕ → Type 0
  AreChained used hd = Chained (map hash_of used) (map next_of used) hd

  module _ (ss : List (Slot K V)) (hd : List ℕ) (n limit : ℕ) where
    -- one slot more, right behind those in use
    pub indexed_push : IsIndexed ss hd n limit → n < limit → (s : Slot K V) → s.next ≡ get_or hd (s.hash % length hd) 0 → IsIndexed (set ss n s) (set hd (s.hash % length hd) (n + 1)) (n + 1) limit
    indexed_push m room s link =
        let v = n + 1 in
        let some : s.hash % length hd < length hd = mod_below s.hash (length hd) (omega (arith, m.indexed)) in
        let size = length-set hd (s.hash % length hd) v in
        record {
          within = omega arith;
          few = m.few;
          lent = omega (arith, m.lent, length-set ss n s);
          indexed = omega (arith, m.indexed, size);
          chained =
              subst (λ used. AreChained used (set hd (s.hash % length hd) v)) (sym (take_more_set ss n s (omega (arith, m.lent))))
              (subst (λ k. AreChained (take n ss ++ s ∷ []) (set hd (s.hash % length hd) (k + 1))) (length-take-le n ss (omega (arith, m.within, m.lent)))
              (chained_push hash_of next_of (take n ss) s hd some link m.chained));
        }

    -- the last slot in use goes
    pub indexed_pop : (s : Slot K V) → IsIndexed ss hd (n + 1) limit → IsIndexed ss (set hd ((get_or ss n s).hash % length hd) (get_or ss n s).next) n limit
    indexed_pop s m =
        let e = get_or ss n s in
        let some : e.hash % length hd < length hd = mod_below e.hash (length hd) (omega (arith, m.within, m.indexed)) in
        record {
          within = omega (arith, m.within);
          few = m.few;
          lent = m.lent;
          indexed = omega (arith, m.indexed, length-set hd (e.hash % length hd) e.next);
          chained =
              chained_pop hash_of next_of (take n ss) e hd some
              (subst (λ used. AreChained used hd) (take_more ss n s (omega (arith, m.within, m.lent))) m.chained);
        }

    -- another value in a slot in use
    module _ (m : IsIndexed ss hd n limit) (i : ℕ) (l : i < n) (s : Slot K V) (v : V) where
      abbrev changed : Slot K V
      changed = let e = get_or ss i s in record { key = e.key; value = v; hash = e.hash; next = e.next }

      long : length (take n ss) ≡ n
      long = length-take-le n ss (omega (arith, m.within, m.lent))

      same_number : (f : Slot K V → ℕ) → f changed ≡ f (get_or ss i s) → map f (take n (set ss i changed)) ≡ map f (take n ss)
      same_number f e =
          ap (map f) (take-set-lt n ss i changed l) ∙ map-set f (take n ss) i changed
          ∙ ap (set (map f (take n ss)) i)
          (e ∙ sym (ap f (get_or-take n ss i s l)) ∙ sym (get_or-map f (take n ss) i s 0 (omega (arith, long))))
          ∙ set-get_or (map f (take n ss)) i 0

      pub indexed_revalued : IsIndexed (set ss i changed) hd n limit
      indexed_revalued =
          record {
            within = m.within;
            few = m.few;
            lent = omega (arith, m.lent, length-set ss i changed);
            indexed = m.indexed;
            chained = rw (same_number hash_of refl, same_number next_of refl) m.chained;
          }

  pub pairs-revalued : (ss : List (Slot K V)) (n i : ℕ) (s : Slot K V) (v : V) → i < n → n ≤ length ss → map pair_of (take n (set ss i (let e = get_or ss i s in record { key = e.key; value = v; hash = e.hash; next = e.next }))) ≡ revalued (map pair_of (take n ss)) i v
  pairs-revalued [] n i s v l few = absurd (omega arith)
  pairs-revalued (t ∷ ss) zero i s v l few = absurd (omega arith)
  pairs-revalued (t ∷ ss) (suc n) zero s v l few = refl
  pairs-revalued (t ∷ ss) (suc n) (suc i) s v l few = ap (λ ps. pair_of t ∷ ps) (pairs-revalued ss n i s v (omega arith) (omega arith))
