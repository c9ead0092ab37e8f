-- A store after a push: its facts stand, and it means one tree more.
use Rattle.std.proofs.Common.{◌≡◌, ℕ, ◌+◌, ◌%◌, ◌<◌, ◌≤◌, List, [], ◌∷◌, ◌++◌, length, get_or, take, set, sym, refl, ap, ◌∙◌, subst, arith}
use Rattle.std.proofs.lemmas.Nat.{mod_below}
use Rattle.std.proofs.lemmas.List.{length-take-le, take_more_set}
use Rattle.terms.specs.declared.memory.entry.Entry.{Entry}
use Rattle.terms.specs.declared.store.Store.TheInside.{Inside}
use Rattle.terms.specs.Hash.{hashed}
use Rattle.terms.specs.Memory.{cell, tree_of, held}
use Rattle.terms.specs.Interning.{Addable}
use Rattle.terms.specs.Means.{pool_of, entries_of, trees_of, means, Sound, IsIntact}
use Rattle.terms.proofs.Stands.{sound_at, sound_push, held-push}
use Rattle.terms.proofs.Interned.{not_at}

pub length_pool : (s : Inside) → IsIntact s → length (pool_of s) ≡ s.used
length_pool s w = length-take-le s.used s.items.now (omega (arith, w.inside, w.lent_items))

pub length-entries : (s : Inside) → IsIntact s → length (entries_of s) ≡ s.len
length-entries s w = length-take-le s.len s.entries.now (omega (arith, w.within, w.lent))

-- the new entry, behind those in use
module _ (s : Inside) (w : IsIntact s) (e : Entry) (ns : List ℕ) (a : Addable (means s) (cell e.node ns) e.facts)
    (first : e.first ≡ s.used) (hash : e.hash ≡ hashed e.node ns)
    (link : e.next ≡ get_or s.buckets.now (e.hash % length s.buckets.now) 0) where
  pub entry_left : s.len < s.limit
  entry_left = omega (arith, w.long, a.entry)

  bucket_in : e.hash % length s.buckets.now < length s.buckets.now
  bucket_in = mod_below e.hash (length s.buckets.now) (omega (arith, w.indexed, entry_left))

  pub items_left : s.used + length ns ≤ s.room
  items_left = omega (arith, length_pool s w, w.sound.counted, a.room)

  pub trees_pushed : held (pool_of s ++ ns) (entries_of s ++ e ∷ []) ≡ trees_of s ++ tree_of (trees_of s) (cell e.node ns) ∷ []
  trees_pushed = held-push (pool_of s) (entries_of s) s.buckets.now w.sound e ns (first ∙ sym (length_pool s w)) a.proper.all hash a.proper.fit

  pub sound_pushed : Sound (pool_of s ++ ns) (entries_of s ++ e ∷ []) (set s.buckets.now (e.hash % length s.buckets.now) (s.len + 1))
  sound_pushed =
      let hd = s.buckets.now in
      let b = e.hash % length hd in
      subst (λ k. Sound (pool_of s ++ ns) (entries_of s ++ e ∷ []) (set hd b (k + 1))) (length-entries s w)
      (sound_push (pool_of s) (entries_of s) hd w.sound e ns (first ∙ sym (length_pool s w)) a.proper.all hash a.proper.fit a.is a.low (omega (arith, a.few, a.proper.all))
      (not_at s w (cell e.node ns) a.proper a.fresh) bucket_in link)

  -- the memory after it, of which the items in use are those before and the new parts
  module _ (xs : List ℕ) (items : take (s.used + length ns) xs ≡ pool_of s ++ ns) where
    abbrev pub new_entries : List Entry
    new_entries = set s.entries.now s.len e

    entries : take (s.len + 1) new_entries ≡ entries_of s ++ e ∷ []
    entries = take_more_set s.entries.now s.len e (omega (arith, entry_left, w.lent))

    pub trees-after : held (take (s.used + length ns) xs) (take (s.len + 1) (set s.entries.now s.len e)) ≡ trees_of s ++ tree_of (trees_of s) (cell e.node ns) ∷ []
    trees-after = ap (λ ys. held ys (take (s.len + 1) new_entries)) items ∙ ap (held (pool_of s ++ ns)) entries ∙ trees_pushed

    pub sound_after : Sound (take (s.used + length ns) xs) (take (s.len + 1) (set s.entries.now s.len e)) (set s.buckets.now (e.hash % length s.buckets.now) (s.len + 1))
    sound_after = sound_at _ _ _ _ _ _ (sym items) (sym entries) refl sound_pushed
