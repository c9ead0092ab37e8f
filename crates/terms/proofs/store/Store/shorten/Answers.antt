use Rattle.std.proofs.Common.{◌-◌, ◌%◌, ◌<◌, length, take, sym, ap, ◌∙◌, subst, arith}
use Rattle.std.proofs.lemmas.List.{length-set}
use Rattle.theory.specs.Store.{Contents}
use Rattle.terms.specs.Means.{trees_of}
use Rattle.terms.proofs.Shortened.{newest-entry, first_in, trees_cut, long_cut, sound_shortened}
use Rattle.terms.proofs.store.Store.shorten.Goals as goal

pub invariant_of-self : goal.invariant_of-self
invariant_of-self c =
    let s = c.self.inside in
    let w = c.self.invariant in
    let some : 0 < s.len = omega (arith, w.long, subst (λ (m : Contents). 0 < length m.trees) (sym c.self.view_is) c.requires) in
    let last = c.index-self-last.result in
    let e = newest-entry s w some last in
    let hd = s.buckets.now in
    rw c.take_first.ensures
    record {
      within = omega (arith, w.within);
      few = w.few;
      lent = w.lent;
      indexed = omega (arith, w.indexed, length-set hd (e.hash % length hd) e.next);
      inside = omega (arith, w.inside, first_in s w some last);
      few_items = w.few_items;
      lent_items = w.lent_items;
      long = long_cut s w some last;
      sound = sound_shortened s w some last;
    }

pub returns : goal.returns
returns c =
    let s = c.self.inside in
    let w = c.self.invariant in
    let some : 0 < s.len = omega (arith, w.long, subst (λ (m : Contents). 0 < length m.trees) (sym c.self.view_is) c.requires) in
    rw (← c.self.view_is)
    (ap (λ ts. record { trees = ts; entries = s.limit; items = s.room }) (trees_cut s w some c.index-self-last.result ∙ ap (λ n. take (n - 1) (trees_of s)) w.long))
