-- A new table is vacant.
use Rattle.std.proofs.Common.{◌≡◌, ℕ, List, get_or, replicate, vec_items, ap, ◌∙◌, arith, lit<}
use Rattle.solver.specs.declared.canonical.cache.Cached.{Cached}
use Rattle.solver.specs.Caches.{vacant}
use Rattle.solver.proofs.Tables.{none_held, all-vacant}
use Rattle.solver.proofs.canonical.cache.Cache.new.Goals as goal

empty : (cs : List Cached) → cs ≡ replicate 65535 vacant → (t : ℕ) → get_or cs t vacant ≡ vacant
empty cs e t = ap (λ l. get_or l t vacant) e ∙ all-vacant 65535 t

pub invariant_of-result : goal.invariant_of-result
invariant_of-result c =
    let cs = vec_items c.in_ok-table.table in
    let all = empty cs (c.in_ok-table.ensures.items_if_clones_equal (λ y e. e)) in
    record { begun = lit< tt; past = λ t. let e = ap (λ (x : Cached). x.round) (all t) in omega (arith, e) }

pub returns : goal.returns
returns c = λ t.
    let cs = vec_items c.in_ok-table.table in
    none_held 1 cs t (lit< tt) (empty cs (c.in_ok-table.ensures.items_if_clones_equal (λ y e. e)) t)
