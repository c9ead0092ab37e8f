-- The steps of a substitution: parts one after another, then the head over them; what the cache holds stays right.
use Rattle.std.proofs.Common.{◌≡◌, ℕ, suc, ◌+◌, ◌<◌, ◌≤◌, Bool, true, false, cond, ◌&&◌, eqb, List, [], ◌∷◌, ◌++◌, length, get_or, take, drop, set, Some, Ok, Err, Result, sym, refl, ap, ◌∙◌, subst, ⊎_elim, append_assoc, arith}
use Rattle.std.proofs.lemmas.List.{length-map, length-take-le, length-set, get_or-take, get_or-map, get_or-set_same, get_or-set_other, take_more_set, map_push, drop_more, drop_all, append-nil}
use Rattle.std.proofs.lemmas.Bool.{cases_Bool, cases_eq, eqb-true, cond-true, cond-false}
use Rattle.theory.specs.declared.words.ListSort.TheVariants.{Arguments}
use Rattle.theory.specs.declared.words.Head.{Head}
use Rattle.theory.specs.declared.words.Head.TheVariants.{List as AList}
use Rattle.theory.specs.declared.words.StoreFault.{StoreFault}
use Rattle.theory.specs.Faults.{Fault, from_store}
use Rattle.theory.specs.Outcomes.{raised, answered, ◌>>=◌, StandsAt}
use Rattle.theory.specs.Trees.{Tree, node, nil, parts, applies, assembled, seen, takes, wants}
use Rattle.theory.specs.Store.{Contents, checked, put, add_node, Grown}
use Rattle.theory.specs.Folds.{Folded, folded, FoldedAll, folded_all, fold_all, anywhere}
use Rattle.theory.specs.Applying.{fill_leaf, fill}
use Rattle.theory.proofs.Growth.{grown_same, grown-then}
use Rattle.theory.proofs.Holding.{Put, put_ok, stays_at, below, read_at}
use Rattle.std.specs.Hash.{u32}
use Rattle.maps.specs.Keys.{digest}
use Rattle.maps.specs.Pairs.{Pair, found as cached}
use Rattle.maps.proofs.Elements.{at_in}
use Rattle.terms.proofs.Places.{Below, trees-at}
use Rattle.terms.proofs.Fits.{one_list, accepted-takes, accepted-least, takes-accepted}
use Rattle.terms.proofs.Formed.{OverParts}
use Rattle.walks.specs.declared.fault.SubstituteFault.{SubstituteFault}
use Rattle.walks.specs.declared.fault.SubstituteFault.TheVariants.{Store as in_store}
use Rattle.walks.specs.Substituted.{fault_of, values_at, AllNamed, Filled, Right}
use Rattle.walks.proofs.Filling.{fill-all, put_over, over_plain, over_list, listed, fill_serves, fill-grown, fill-again}

-- What was held stays

pub tree_stays : (c d : Contents) (n : ℕ) → Grown c d → n < length c.trees → (n < length d.trees) × (get_or d.trees n nil ≡ get_or c.trees n nil)
tree_stays c d n g l =
    let s : StandsAt d.trees n (get_or c.trees n nil) = stays_at c d n (get_or c.trees n nil) g (at_in c.trees n nil l) in
    (below d.trees n (get_or c.trees n nil) s, read_at d.trees n (get_or c.trees n nil) nil s)

pub named_stay : (c d : Contents) (ns : List ℕ) → Grown c d → AllNamed c.trees ns → AllNamed d.trees ns
named_stay c d ns g a k l = (tree_stays c d (get_or ns k 0) g (a k l)).0

pub values_stay : (c d : Contents) (ns : List ℕ) → Grown c d → AllNamed c.trees ns → values_at d.trees ns ≡ values_at c.trees ns
values_stay c d [] g a = refl
values_stay c d (n ∷ ns) g a =
    let e : get_or d.trees n nil ≡ get_or c.trees n nil = (tree_stays c d n g (a 0 (omega arith))).1 in
    let r : values_at d.trees ns ≡ values_at c.trees ns = values_stay c d ns g (λ k l. a (suc k) (omega arith)) in
    ap (λ t. t ∷ values_at d.trees ns) e ∙ ap (λ ts. get_or c.trees n nil ∷ ts) r

-- the cache stays right
pub right_stays : (c d : Contents) (ns : List ℕ) (ps : List (Pair ℕ ℕ)) → Grown c d → AllNamed c.trees ns → Right c ns ps → Right d ns ps
right_stays c d ns ps g a right k r e =
    let q = right k r e in
    let t = tree_stays c d k g q.0 in
    let u = tree_stays c d r g q.1 in (
      t.0,
      u.0,
      ap (λ vs. fill vs (get_or d.trees k nil) d) (values_stay c d ns g a)
          ∙ ap (λ x. fill (values_at c.trees ns) x d) t.1
          ∙ fill-again (values_at c.trees ns) (get_or c.trees k nil) c (folded (get_or c.trees r nil) tt c) d q.2 g
          ∙ ap (λ x. Ok (folded x tt d)) (sym u.1),
    )

-- and with one result more
pub right_more : (c d : Contents) (ns : List ℕ) (n r : ℕ) (ps qs : List (Pair ℕ ℕ)) (accepted : Bool) → AllNamed c.trees ns → n < length c.trees → Filled c ns n (Ok r) d → Right d ns ps
    → ((k : ℕ) → cached eqb (digest u32) qs k ≡ cond (accepted && eqb n k) (Some r) (cached eqb (digest u32) ps k)) → Right d ns qs
right_more c d ns n r ps qs accepted a l filled right law k q e =
    ⊎_elim
    (λ (y : (accepted && eqb n k) ≡ true).
    let vs = values_at c.trees ns in
    let g : Grown c d = fill-grown vs (get_or c.trees n nil) c (folded (get_or d.trees r nil) tt d) filled.1 in
    let same : r ≡ q = let z : Some r ≡ Some q = sym (law k ∙ cond-true (accepted && eqb n k) (Some r) (cached eqb (digest u32) ps k) y) ∙ e in cc in
    let own : n ≡ k = eqb-true n k (second accepted (eqb n k) y) in
    let t = tree_stays c d n g l in (
      subst (λ i. i < length d.trees) own t.0,
      subst (λ i. i < length d.trees) same filled.0,
      ap (λ i. fill (values_at d.trees ns) (get_or d.trees i nil) d) (sym own)
          ∙ ap (λ us. fill us (get_or d.trees n nil) d) (values_stay c d ns g a)
          ∙ ap (λ x. fill vs x d) t.1
          ∙ fill-again vs (get_or c.trees n nil) c (folded (get_or d.trees r nil) tt d) d filled.1 (grown_same d)
          ∙ ap (λ i. Ok (folded (get_or d.trees i nil) tt d)) same,
    ))
    (λ (n : (accepted && eqb n k) ≡ false). right k q (sym (law k ∙ cond-false (accepted && eqb _ k) (Some r) (cached eqb (digest u32) ps k) n) ∙ e))
    (cases_Bool (accepted && eqb n k))
  where
    second : (x y : Bool) → (x && y) ≡ true → y ≡ true
    second true y e = e
    second false y e = absurd (mathlib.Core.Bool.true≢false (sym e))

-- Parts, one after another

-- what is left to do, behind trees that are done
abbrev resumed : List Tree → Result (FoldedAll (Unit {0})) Fault → Result (FoldedAll (Unit {0})) Fault
resumed us r = r >>= λ g. Ok (folded_all (us ++ g.trees) g.state g.store)

resumed_none : (r : Result (FoldedAll (Unit {0})) Fault) → resumed [] r ≡ r
resumed_none (Ok g) = refl
resumed_none (Err k) = refl

resumed_more : (us : List Tree) (u : Tree) (r : Result (FoldedAll (Unit {0})) Fault) → resumed us (r >>= λ g. Ok (folded_all (u ∷ g.trees) g.state g.store)) ≡ resumed (us ++ u ∷ []) r
resumed_more us u (Ok g) = ap (λ ts. Ok (folded_all ts g.state g.store)) (sym (append_assoc us (u ∷ []) g.trees))
resumed_more us u (Err k) = refl

module _ (vs : List Tree) where
  all_more : (t : Tree) (ts : List Tree) (c : Contents) (f : Folded (Unit {0})) → fill vs t c ≡ Ok f → fill-all vs (t ∷ ts) c ≡ (fill-all vs ts f.store >>= λ g. Ok (folded_all (f.tree ∷ g.trees) g.state g.store))
  unfolding fill fold_all
  all_more t ts c f e =
      ap (λ (o : Result (Folded (Unit {0})) Fault). o >>= λ f. fold_all from_store anywhere (fill_leaf vs) ts f.state f.store >>= λ g. Ok (folded_all (f.tree ∷ g.trees) g.state g.store)) e

  all_stops : (t : Tree) (ts : List Tree) (c : Contents) (k : Fault) → fill vs t c ≡ Err k → fill-all vs (t ∷ ts) c ≡ Err k
  unfolding fill fold_all
  all_stops t ts c k e =
      ap (λ (o : Result (Folded (Unit {0})) Fault). o >>= λ f. fold_all from_store anywhere (fill_leaf vs) ts f.state f.store >>= λ g. Ok (folded_all (f.tree ∷ g.trees) g.state g.store)) e

  all_done : (c : Contents) → fill-all vs [] c ≡ Ok (folded_all [] tt c)
  unfolding fold_all
  all_done c = refl

-- the parts of the term at n, in the store c at the beginning, up to place k, with results in xs, have led to the store d
pub record Going (c : Contents) (ns : List ℕ) (n : ℕ) (h : Head) (k : ℕ) (xs : List ℕ) (d : Contents) : Type 0 where
  pub grown : Grown c d
  pub named : (j : ℕ) → j < k → get_or xs j 0 < length d.trees
  pub served : (j : ℕ) → j < k → takes h j (seen (get_or d.trees (get_or xs j 0) nil)) ≡ true
  pub so_far : fill-all (values_at c.trees ns) (parts (get_or c.trees n nil)) c ≡ resumed (values_at d.trees (take k xs)) (fill-all (values_at c.trees ns) (drop k (parts (get_or c.trees n nil))) d)
  pub long : length xs ≡ 256

pub going_none : (c : Contents) (ns : List ℕ) (n : ℕ) (h : Head) (xs : List ℕ) → length xs ≡ 256 → Going c ns n h 0 xs c
going_none c ns n h xs l =
    record {
      grown = grown_same c;
      named = λ j lj. absurd (omega arith);
      served = λ j lj. absurd (omega arith);
      so_far = sym (resumed_none (fill-all (values_at c.trees ns) (parts (get_or c.trees n nil)) c));
      long = l;
    }

module _ (c : Contents) (ns : List ℕ) (n : ℕ) (h : Head) (o : OverParts c.trees n h) (k : ℕ) (xs : List ℕ) (d : Contents)
    (going : Going c ns n h k xs d) (values : AllNamed c.trees ns) (here : k < length o.handles) (few : length o.handles ≤ 256)
    (inside : get_or o.handles k 0 < length c.trees) where
  abbrev vs : List Tree
  vs = values_at c.trees ns

  abbrev ps : List Tree
  ps = parts (get_or c.trees n nil)

  abbrev p : ℕ
  p = get_or o.handles k 0

  abbrev t : Tree
  t = get_or c.trees p nil

  left : drop k ps ≡ t ∷ drop (k + 1) ps
  left =
      drop_more ps k nil (omega (arith, ap length o.parts_are, length-map o.handles (λ i. get_or c.trees i nil)))
      ∙ ap (λ u. u ∷ drop (k + 1) ps) (ap (λ us. get_or us k nil) o.parts_are ∙ get_or-map (λ i. get_or c.trees i nil) o.handles k 0 nil here)

  -- the values and the part are what they were
  as_was : fill (values_at d.trees ns) (get_or d.trees p nil) d ≡ fill vs t d
  as_was = ap (λ us. fill us (get_or d.trees p nil) d) (values_stay c d ns going.grown values) ∙ ap (λ x. fill vs x d) (tree_stays c d p going.grown inside).1

  pub going_stops : (f : SubstituteFault) (e : Contents) → Filled d ns (get_or o.handles k 0) (Err f) e → (fill-all (values_at c.trees ns) (parts (get_or c.trees n nil)) c ≡ Err (fault_of f)) × Grown c e
  going_stops f e filled = (
    going.so_far ∙ ap (resumed (values_at d.trees (take k xs))) (ap (λ us. fill-all vs us d) left ∙ all_stops vs t (drop (k + 1) ps) d (fault_of f) (sym as_was ∙ filled.0)),
    grown-then c d e going.grown filled.1,
  )

  pub going_on : (r : ℕ) (e : Contents) → Filled d ns (get_or o.handles k 0) (Ok r) e → Going c ns n h (k + 1) (set xs k r) e
  going_on r e filled =
      let u = get_or e.trees r nil in
      let own : fill vs t d ≡ Ok (folded u tt e) = sym as_was ∙ filled.1 in
      let g : Grown d e = fill-grown vs t d (folded u tt e) own in
      let lx : k < length xs = omega (arith, going.long) in
      let old : (j : ℕ) → j < k → get_or (set xs k r) j 0 ≡ get_or xs j 0 = λ j lj. get_or-set_other xs k j r 0 (λ z. omega arith) in
      let new : get_or (set xs k r) k 0 ≡ r = get_or-set_same xs k r 0 lx in
      let front : AllNamed d.trees (take k xs) =
      λ j lj.
      let lk : j < k = omega (arith, length-take-le k xs (omega (arith, lx))) in
      subst (λ i. i < length d.trees) (sym (get_or-take k xs j 0 lk)) (going.named j lk)
      in
      record {
        grown = grown-then c d e going.grown g;
        named = λ j lj.
            ⊎_elim
            (λ (z : j ≡ k). subst (λ i. i < length e.trees) (sym (ap (λ i. get_or (set xs k r) i 0) z ∙ new)) filled.0)
            (λ (ne : j ≡ k → ⊥). let lk : j < k = omega arith in subst (λ i. i < length e.trees) (sym (old j lk)) (tree_stays d e (get_or xs j 0) g (going.named j lk)).0)
            (cases_eq j k);
        served = λ j lj.
            ⊎_elim
            (λ (z : j ≡ k).
            ap (λ i. takes h i (seen (get_or e.trees (get_or (set xs k r) i 0) nil))) z
            ∙ ap (λ i. takes h k (seen (get_or e.trees i nil))) new
            ∙ fill_serves vs (wants h k) t d (folded u tt e) own (let y : k ≡ 0 + k = omega arith in ap (λ i. takes h i (seen t)) y ∙ accepted-takes c.trees h 0 o.handles k o.fit here_too))
            (λ (ne : j ≡ k → ⊥).
            let lk : j < k = omega arith in
            ap (λ i. takes h j (seen (get_or e.trees i nil))) (old j lk)
            ∙ ap (λ x. takes h j (seen x)) (tree_stays d e (get_or xs j 0) g (going.named j lk)).1
            ∙ going.served j lk)
            (cases_eq j k);
        so_far =
            going.so_far
            ∙ ap (resumed (values_at d.trees (take k xs))) (ap (λ us. fill-all vs us d) left ∙ all_more vs t (drop (k + 1) ps) d (folded u tt e) own)
            ∙ resumed_more (values_at d.trees (take k xs)) u (fill-all vs (drop (k + 1) ps) e)
            ∙ ap (λ us. resumed us (fill-all vs (drop (k + 1) ps) e))
            (sym
            (ap (values_at e.trees) (take_more_set xs k r lx) ∙ map_push (λ i. get_or e.trees i nil) (take k xs) r
            ∙ ap (λ us. us ++ u ∷ []) (values_stay d e (take k xs) g front)));
        long = length-set xs k r ∙ going.long;
      }
    where
      here_too : k < length o.handles
      here_too = here

-- The head over the parts

module _ (vs : List Tree) (c : Contents) (n : ℕ) (h : Head) (o : OverParts c.trees n h) where
  -- what filling a term in does, from its parts
  pub fill_over : fill vs (get_or c.trees n nil) c ≡ put_over vs h (fill-all vs (parts (get_or c.trees n nil)) c)
  fill_over =
      ⊎_elim
      (λ (a : applies h ≡ true).
      let q = one_list c.trees h o.handles a o.fit in
      let us = q.0 in
      let is : trees-at c.trees o.handles ≡ node (AList Arguments) us ∷ [] = q.1 in
      ap (λ t. fill vs t c) (o.tree ∙ ap (assembled h) is ∙ listed h us a) ∙ over_list vs h us c a ∙ ap (λ ts. put_over vs h (fill-all vs ts c)) (sym (o.parts_are ∙ is)))
      (λ (a : applies h ≡ false).
      ap (λ t. fill vs t c) o.tree ∙ over_plain vs h (trees-at c.trees o.handles) c a ∙ ap (λ ts. put_over vs h (fill-all vs ts c)) (sym o.parts_are))
      (cases_Bool (applies h))

pub fill_stops : (vs : List Tree) (c : Contents) (n : ℕ) (h : Head) → OverParts c.trees n h → (k : Fault) → fill-all vs (parts (get_or c.trees n nil)) c ≡ Err k → fill vs (get_or c.trees n nil) c ≡ Err k
fill_stops vs c n h o k e = fill_over vs c n h o ∙ ap (put_over vs h) e

below_from : (m : List Tree) (ns : List ℕ) → AllNamed m ns → Below (length m) ns
below_from m [] a = tt
below_from m (n ∷ ns) a = (a 0 (omega arith), below_from m ns (λ k l. a (suc k) (omega arith)))

-- what putting the whole gives
put_whole : (c : Contents) (ns : List ℕ) (n : ℕ) (d : Contents) (w : Tree) (o : Result (ℕ × Contents) StoreFault) → put d w ≡ o → Grown c d
    → fill (values_at c.trees ns) (get_or c.trees n nil) c ≡ raised from_store (o >>= λ q. Ok (folded w tt q.1))
    → (r : Result ℕ StoreFault) (e : Contents) → (r, e) ≡ answered d o → Filled c ns n (raised in_store r) e
put_whole c ns n d w (Ok q) is g f r e same =
    let own : r ≡ Ok q.0 = ap (λ (x : Result ℕ StoreFault × Contents). x.0) same in
    let left : e ≡ q.1 = ap (λ (x : Result ℕ StoreFault × Contents). x.1) same in
    let p : Put d w q = put_ok d w q is in
    let at : get_or q.1.trees q.0 nil ≡ w = read_at q.1.trees q.0 w nil p.stands in
    subst (λ x. Filled c ns n (raised in_store x) e) (sym own)
    (subst (λ x. Filled c ns n (Ok q.0) x) (sym left) (below q.1.trees q.0 w p.stands, f ∙ ap (λ t. Ok (folded t tt q.1)) (sym at)))
put_whole c ns n d w (Err k) is g f r e same =
    let own : r ≡ Err k = ap (λ (x : Result ℕ StoreFault × Contents). x.0) same in
    let left : e ≡ d = ap (λ (x : Result ℕ StoreFault × Contents). x.1) same in
    subst (λ x. Filled c ns n (raised in_store x) e) (sym own) (subst (λ x. Filled c ns n (Err (in_store k)) x) (sym left) (f, g))

module _ (c : Contents) (ns : List ℕ) (n : ℕ) (h : Head) (o : OverParts c.trees n h) (xs : List ℕ) (d : Contents) (going : Going c ns n h (length o.handles) xs d) where
  abbrev count : ℕ
  count = length o.handles

  abbrev done : List Tree
  done = values_at d.trees (take count xs)

  many : count ≡ length (parts (get_or c.trees n nil))
  many = sym (ap length o.parts_are ∙ length-map o.handles (λ i. get_or c.trees i nil))

  all : count ≤ length xs → fill-all (values_at c.trees ns) (parts (get_or c.trees n nil)) c ≡ Ok (folded_all done tt d)
  all l =
      going.so_far
      ∙ ap (resumed done) (ap (λ us. fill-all (values_at c.trees ns) us d) (drop_all count (parts (get_or c.trees n nil)) (omega (arith, many))) ∙ all_done (values_at c.trees ns) d)
      ∙ ap (λ us. Ok (folded_all us tt d)) (append-nil done)

  pub going_whole : length o.handles ≤ 256 → (r : Result ℕ StoreFault) (e : Contents) → (r, e) ≡ add_node d h (take (length o.handles) xs) → Filled c ns n (raised in_store r) e
  unfolding add_node
  going_whole few r e same =
      let lx : count ≤ length xs = omega (arith, going.long) in
      let long : length (take count xs) ≡ count = length-take-le count xs lx in
      let at_place : (k : ℕ) → k < count → get_or (take count xs) k 0 ≡ get_or xs k 0 = λ k l. get_or-take count xs k 0 l in
      let named : AllNamed d.trees (take count xs) = λ k l. subst (λ i. i < length d.trees) (sym (at_place k (omega (arith, long)))) (going.named k (omega (arith, long))) in
      let fits : checked d.trees h 0 (take count xs) ≡ Ok done =
      takes-accepted d.trees h 0 (take count xs) (below_from d.trees (take count xs) named)
      (λ k l.
      let lk : k < count = omega (arith, long) in
      let z : 0 + k ≡ k = omega arith in
      ap (λ i. takes h i (seen (get_or d.trees (get_or (take count xs) k 0) nil))) z ∙ ap (λ i. takes h k (seen (get_or d.trees i nil))) (at_place k lk) ∙ going.served k lk)
      (omega (arith, long, accepted-least c.trees h 0 o.handles o.fit))
      in
      put_whole c ns n d (assembled h done) (put d (assembled h done)) refl going.grown
      (fill_over (values_at c.trees ns) c n h o ∙ ap (put_over (values_at c.trees ns) h) (all lx))
      r e (same ∙ ap (λ (x : Result (List Tree) StoreFault). answered d (x >>= λ ts. put d (assembled h ts))) fits)
