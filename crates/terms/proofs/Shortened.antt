-- A store after its newest term was taken away.
use Rattle.std.proofs.Common.{◌≡◌, ◌+◌, ◌-◌, ◌%◌, ◌<◌, ◌≤◌, length, get_or, take, set, sym, ap, ◌∙◌, subst, arith}
use Rattle.std.proofs.lemmas.Nat.{mod_below}
use Rattle.std.proofs.lemmas.List.{get_or_default, get_or-take, take-take, length-take-le}
use Rattle.terms.specs.declared.memory.entry.Entry.{Entry}
use Rattle.terms.specs.declared.store.Store.TheInside.{Inside}
use Rattle.terms.specs.Memory.{held, vacant}
use Rattle.terms.specs.Means.{pool_of, entries_of, trees_of, Sound, IsIntact}
use Rattle.terms.proofs.Stands.{sound_at}
use Rattle.terms.proofs.Pushed.{length-entries, length_pool}
use Rattle.terms.proofs.Cuts.{held_cut, sound_cut}

-- the newest entry is read with any entry as the default
module _ (s : Inside) (w : IsIntact s) (some : 0 < s.len) (d : Entry) where
  abbrev pub newest-entry : Entry
  newest-entry = get_or s.entries.now (s.len - 1) d

  last : s.len - 1 + 1 ≡ length (entries_of s)
  last = omega (arith, length-entries s w)

  same : get_or (entries_of s) (s.len - 1) vacant ≡ newest-entry
  same =
      get_or_default (entries_of s) (s.len - 1) vacant d (omega (arith, last))
      ∙ get_or-take s.len s.entries.now (s.len - 1) d (omega arith)

  pub first_in : newest-entry.first ≤ s.used
  first_in =
      let l : s.len - 1 < length (entries_of s) = omega (arith, last) in
      omega (arith, (w.sound.kept (s.len - 1) l).0, length_pool s w, ap (λ (x : Entry). x.first) same)

  pub bucket_in : newest-entry.hash % length s.buckets.now < length s.buckets.now
  bucket_in = mod_below newest-entry.hash (length s.buckets.now) (omega (arith, w.indexed, w.within))

  entries_cut : take (s.len - 1) (entries_of s) ≡ take (s.len - 1) s.entries.now
  entries_cut = take-take (s.len - 1) s.len s.entries.now (omega arith)

  pool_cut : take (get_or (entries_of s) (s.len - 1) vacant).first (pool_of s) ≡ take newest-entry.first s.items.now
  pool_cut = ap (λ (x : Entry). take x.first (pool_of s)) same ∙ take-take newest-entry.first s.used s.items.now first_in

  pub trees_cut : held (take newest-entry.first s.items.now) (take (s.len - 1) s.entries.now) ≡ take (s.len - 1) (trees_of s)
  trees_cut =
      ap (λ xs. held xs (take (s.len - 1) s.entries.now)) (sym pool_cut)
      ∙ ap (held (take (get_or (entries_of s) (s.len - 1) vacant).first (pool_of s))) (sym entries_cut)
      ∙ held_cut (pool_of s) (entries_of s) s.buckets.now w.sound (s.len - 1) last

  pub long_cut : s.len - 1 ≡ length (held (take newest-entry.first s.items.now) (take (s.len - 1) s.entries.now))
  long_cut = sym (ap length trees_cut ∙ length-take-le (s.len - 1) (trees_of s) (omega (arith, w.long)))

  pub sound_shortened : Sound (take newest-entry.first s.items.now) (take (s.len - 1) s.entries.now) (set s.buckets.now (newest-entry.hash % length s.buckets.now) newest-entry.next)
  sound_shortened =
      let hd = s.buckets.now in
      let own : (get_or (entries_of s) (s.len - 1) vacant).hash % length hd < length hd = subst (λ (x : Entry). x.hash % length hd < length hd) (sym same) bucket_in in
      sound_at _ _ _ _ _ _ pool_cut entries_cut (ap (λ (x : Entry). set hd (x.hash % length hd) x.next) same)
      (sound_cut (pool_of s) (entries_of s) hd w.sound (s.len - 1) last own)
