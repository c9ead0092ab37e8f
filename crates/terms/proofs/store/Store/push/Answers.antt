use borrow.Rule.Slice.PartMut.{put_mid, same_len_mid}
use Rattle.std.proofs.Common.{◌≡◌, ℕ, ◌+◌, ◌-◌, ◌%◌, ◌≤◌, List, ◌++◌, length, get_or, take, sym, refl, ap, ◌∙◌, subst, arith}
use Rattle.std.proofs.lemmas.List.{length-set, length_push}
use Rattle.std.proofs.lemmas.Slice.{take-put_mid}
use Rattle.theory.specs.Store.{Contents}
use Rattle.terms.specs.declared.memory.entry.Entry.{Entry}
use Rattle.terms.specs.Memory.{cell, tree_of}
use Rattle.terms.specs.Interning.{Addable}
use Rattle.terms.specs.Means.{trees_of, means}
use Rattle.terms.proofs.Pushed.{entry_left, items_left, trees-after, sound_after}
use Rattle.terms.proofs.Reading.{whole}
use Rattle.terms.proofs.store.Store.push.Goals as goal

-- the items in use after the parts are written
written : (xs ps ys : List ℕ) (used : ℕ) → used ≤ length xs → ys ≡ ps → take (used + length ps) (put_mid used (used + length ps - used) xs ys) ≡ take used xs ++ ps
written xs ps ys used l e =
    take-put_mid used (used + length ps - used) xs ys (used + length ps) (ap (λ zs. used + length zs) (sym e)) l ∙ ap (λ zs. take used xs ++ zs) e

pub invariant_of-self : goal.invariant_of-self
invariant_of-self c =
    let s = c.self.inside in
    let w = c.self.invariant in
    let ps = c.args.own.parts.now in
    let e : Entry = record { node = c.args.own.node; first = s.used; hash = c.args.hash; next = get_or s.buckets.now (c.args.hash % length s.buckets.now) 0; facts = c.args.facts } in
    let a : Addable (means s) (cell e.node ps) e.facts = subst (λ (m : Contents). Addable m (cell e.node ps) e.facts) (sym c.self.view_is) c.requires.addable in
    let hash = c.requires.hash in
    let items = written s.items.now ps c.copy_from_slice.new.self s.used (omega (arith, w.inside, w.lent_items)) c.copy_from_slice.ensures.after in
    let after = trees-after s w e ps a refl hash refl _ items in
    rw (c.put_first-next.ensures.next, c.put_first-next.ensures.after)
    record {
      within = omega (arith, entry_left s w e ps a refl hash refl);
      few = w.few;
      lent = omega (arith, w.lent, length-set s.entries.now s.len e);
      indexed = omega (arith, w.indexed, length-set s.buckets.now (c.args.hash % length s.buckets.now) (s.len + 1));
      inside = items_left s w e ps a refl hash refl;
      few_items = w.few_items;
      lent_items = omega (arith, w.lent_items, same_len_mid s.used _ s.items.now c.copy_from_slice.new.self c.copy_from_slice.ensures.len);
      long = omega (arith, w.long, ap length after, length_push (trees_of s) (tree_of (trees_of s) (cell e.node ps)));
      sound = sound_after s w e ps a refl hash refl _ items;
    }

pub returns-clause-after : goal.returns-clause-after
returns-clause-after c =
    let s = c.self.inside in
    let w = c.self.invariant in
    let ps = c.args.own.parts.now in
    let e : Entry = record { node = c.args.own.node; first = s.used; hash = c.args.hash; next = get_or s.buckets.now (c.args.hash % length s.buckets.now) 0; facts = c.args.facts } in
    let a : Addable (means s) (cell e.node ps) e.facts = subst (λ (m : Contents). Addable m (cell e.node ps) e.facts) (sym c.self.view_is) c.requires.addable in
    let items = written s.items.now ps c.copy_from_slice.new.self s.used (omega (arith, w.inside, w.lent_items)) c.copy_from_slice.ensures.after in
    rw (c.put_first-next.ensures.next, ← c.self.view_is) (ap (λ ts. record { trees = ts; entries = s.limit; items = s.room }) (trees-after s w e ps a refl c.requires.hash refl _ items))

pub returns-clause-whole : goal.returns-clause-whole
returns-clause-whole c = whole _ (invariant_of-self c)
