-- Parts that fit a head: the tree over them is read back as that head over those parts.
use Rattle.std.proofs.Common.{◌≡◌, ℕ, zero, suc, ◌+◌, ◌<◌, ◌≤◌, Bool, true, false, cond, eqb, ltb, List, [], ◌∷◌, ◌++◌, length, get_or, Ok, Err, Result, sym, refl, ap, ◌∙◌, ⊎_elim, arith}
use mathlib.Core.Option.{Option, none, some}
use Rattle.std.proofs.lemmas.Bool.{cases_Bool, both_ways, cond-true, cond-false, eqb-true, le-ltb, ltb-false}
use Rattle.std.proofs.lemmas.List.{length-append, get_or_append_left}
use Rattle.theory.specs.declared.words.ListSort.TheVariants.{Arguments, Environment, OpaquePairs, Goals, Constraints, Kinds}
use Rattle.theory.specs.declared.words.ArgSort.TheVariants.{Ty as ty, Region as region, Const as const}
use Rattle.theory.specs.declared.words.Sort.TheVariants.{Argument, List as list_of}
use Rattle.theory.specs.declared.words.Leaf.{Leaf}
use Rattle.theory.specs.declared.words.Leaf.TheVariants.{Variable, RegionVariable, Parameter, LateParameter, Placeholder, Bound, Canonical, Error, Static, Erased, Kind as AKind}
use Rattle.theory.specs.declared.words.Head.{Head}
use Rattle.theory.specs.declared.words.Head.TheVariants.{Constructor, Alias, Function, Unevaluated, Value, Predicate, OpaquePair, Goal, Outlives, Equal, List as AList}
use Rattle.theory.specs.declared.words.Node.TheVariants.{Over}
use Rattle.theory.specs.declared.words.Want.TheVariants.{Of}
use Rattle.theory.specs.declared.words.StoreFault.{StoreFault}
use Rattle.theory.specs.declared.words.StoreFault.TheVariants.{BadPart}
use Rattle.theory.specs.Outcomes.{at, ◌>>=◌}
use Rattle.theory.specs.Trees.{Tree, leaf, node, nil, cons, items, row, applies, parts, under, applied, assembled, seen, node_sort, leaf_sort, head_sort, sort_code, wants, only, least, takes}
use Rattle.theory.specs.Store.{checked, checked_at}
use Rattle.terms.specs.Memory.{accepted}
use Rattle.terms.proofs.Places.{at_some, at_in, Below, trees-at}

-- What accepted parts are

rest-accepted : (b : Bool) (t : Tree) (r : Result (List Tree) StoreFault) (f : StoreFault) → accepted (cond b (r >>= λ ts. Ok (t ∷ ts)) (Err f)) ≡ true → (b ≡ true) × (accepted r ≡ true)
rest-accepted true t (Ok ts) f e = (refl, refl)
rest-accepted true t (Err g) f e = absurd (both_ways false refl e)
rest-accepted false t r f e = absurd (both_ways false refl e)

-- the first part is held and taken, and the others are accepted
pub first_accepted : (m : List Tree) (h : Head) (k n : ℕ) (ns : List ℕ) → accepted (checked m h k (n ∷ ns)) ≡ true → (at m n ≡ some (get_or m n nil)) × (n < length m) × (takes h k (seen (get_or m n nil)) ≡ true) × (accepted (checked m h (suc k) ns) ≡ true)
first_accepted m h k n ns = by (at m n) refl
  where
    by : (o : Option Tree) → at m n ≡ o → accepted (checked_at h k n o (checked m h (suc k) ns)) ≡ true → (at m n ≡ some (get_or m n nil)) × (n < length m) × (takes h k (seen (get_or m n nil)) ≡ true) × (accepted (checked m h (suc k) ns) ≡ true)
    by none is e = absurd (both_ways false refl e)
    by (some t) is e =
        let p = at_some m n t is in
        let q = rest-accepted (takes h k (seen t)) t (checked m h (suc k) ns) (BadPart k) e in
        (is ∙ ap some (sym p.1), p.0, ap (λ u. takes h k (seen u)) p.1 ∙ q.0, q.1)

pub accepted_below : (m : List Tree) (h : Head) (k : ℕ) (ns : List ℕ) → accepted (checked m h k ns) ≡ true → Below (length m) ns
accepted_below m h k [] e = tt
accepted_below m h k (n ∷ ns) e = let p = first_accepted m h k n ns e in (p.1, accepted_below m h (suc k) ns p.3)

abbrev ended : StoreFault → Bool → Result (List Tree) StoreFault
ended f b = cond b (Err f) (Ok [])

pub accepted-trees : (m : List Tree) (h : Head) (k : ℕ) (ns : List ℕ) → accepted (checked m h k ns) ≡ true → checked m h k ns ≡ Ok (trees-at m ns)
accepted-trees m h k [] e = none_left (ltb k (least h)) e
  where
    none_left : (b : Bool) → accepted (ended (BadPart k) b) ≡ true → ended (BadPart k) b ≡ Ok []
    none_left true e = absurd (both_ways false refl e)
    none_left false e = refl
accepted-trees m h k (n ∷ ns) e =
    let p = first_accepted m h k n ns e in
    let r : checked m h (suc k) ns ≡ Ok (trees-at m ns) = accepted-trees m h (suc k) ns p.3 in
    let a : at m n ≡ some (get_or m n nil) = p.0 in
    let t : takes h k (seen (get_or m n nil)) ≡ true = p.2 in
    rw (a, t, r) refl

-- accepted parts are accepted over more trees
pub accepted_more : (m us : List Tree) (h : Head) (k : ℕ) (ns : List ℕ) → accepted (checked m h k ns) ≡ true → accepted (checked (m ++ us) h k ns) ≡ true
accepted_more m us h k [] e = e
accepted_more m us h k (n ∷ ns) e =
    let p = first_accepted m h k n ns e in
    let l : n < length (m ++ us) = omega (arith, p.1, length-append m us) in
    let a : at (m ++ us) n ≡ some (get_or m n nil) = at_in (m ++ us) n l ∙ ap some (get_or_append_left m us nil n p.1) in
    let t : takes h k (seen (get_or m n nil)) ≡ true = p.2 in
    let r : accepted (checked (m ++ us) h (suc k) ns) ≡ true = accepted_more m us h (suc k) ns p.3 in
    rw (a, t) (all-accepted (checked (m ++ us) h (suc k) ns) r)
  where
    all-accepted : (r : Result (List Tree) StoreFault) → accepted r ≡ true → accepted (r >>= λ ts. Ok (get_or m n nil ∷ ts)) ≡ true
    all-accepted (Ok ts) e = refl
    all-accepted (Err f) e = e

-- Heads over one list of arguments

arg_code : (a : Rattle.theory.specs.declared.words.ArgSort.ArgSort) → sort_code (Argument a) < 3
arg_code ty = omega arith
arg_code region = omega arith
arg_code const = omega arith

leaf_no_list : (x : Leaf) → sort_code (leaf_sort x) < 8
leaf_no_list (Variable s n) = omega (arith, arg_code (Rattle.theory.specs.Trees.var_sort s))
leaf_no_list (RegionVariable n) = omega arith
leaf_no_list (Parameter a n) = omega (arith, arg_code a)
leaf_no_list (LateParameter n) = omega arith
leaf_no_list (Placeholder a u n) = omega (arith, arg_code a)
leaf_no_list (Bound a d n) = omega (arith, arg_code a)
leaf_no_list (Canonical a n) = omega (arith, arg_code a)
leaf_no_list (Error a) = omega (arith, arg_code a)
leaf_no_list Static = omega arith
leaf_no_list Erased = omega arith
leaf_no_list (AKind k) = omega arith

list_head : (h : Head) (us : Tree) → 8 ≡ sort_code (head_sort h) → node h us ≡ node (AList Arguments) us
list_head (Constructor n) us e = absurd (omega arith)
list_head (Alias n) us e = absurd (omega arith)
list_head (Function c) us e = absurd (omega arith)
list_head (Unevaluated n) us e = absurd (omega arith)
list_head (Value v) us e = absurd (omega arith)
list_head (Predicate n c) us e = absurd (omega arith)
list_head OpaquePair us e = absurd (omega arith)
list_head Goal us e = absurd (omega arith)
list_head (Outlives v) us e = absurd (omega arith)
list_head (Equal v) us e = absurd (omega arith)
list_head (AList Arguments) us e = refl
list_head (AList Environment) us e = absurd (omega arith)
list_head (AList OpaquePairs) us e = absurd (omega arith)
list_head (AList Goals) us e = absurd (omega arith)
list_head (AList Constraints) us e = absurd (omega arith)
list_head (AList Kinds) us e = absurd (omega arith)

-- what is of the sort of argument lists is such a list
list_tree : (t : Tree) → 8 ≡ sort_code (node_sort (seen t)) → t ≡ node (AList Arguments) (under t)
list_tree (leaf x) e = absurd (omega (arith, leaf_no_list x))
list_tree (node h us) e = list_head h us e
list_tree nil e = absurd (omega arith)
list_tree (cons t u) e = absurd (omega arith)

applies-wants : (h : Head) (k : ℕ) → applies h ≡ true → wants h k ≡ only (Of (list_of Arguments)) k
applies-wants (Constructor n) k e = refl
applies-wants (Alias n) k e = refl
applies-wants (Function c) k e = refl
applies-wants (Unevaluated n) k e = refl
applies-wants (Value v) k e = absurd (both_ways false refl e)
applies-wants (Predicate n c) k e = refl
applies-wants OpaquePair k e = absurd (both_ways false refl e)
applies-wants Goal k e = absurd (both_ways false refl e)
applies-wants (Outlives v) k e = absurd (both_ways false refl e)
applies-wants (Equal v) k e = absurd (both_ways false refl e)
applies-wants (AList s) k e = absurd (both_ways false refl e)

applies-least : (h : Head) → applies h ≡ true → least h ≡ 1
applies-least (Constructor n) e = refl
applies-least (Alias n) e = refl
applies-least (Function c) e = refl
applies-least (Unevaluated n) e = refl
applies-least (Value v) e = absurd (both_ways false refl e)
applies-least (Predicate n c) e = refl
applies-least OpaquePair e = absurd (both_ways false refl e)
applies-least Goal e = absurd (both_ways false refl e)
applies-least (Outlives v) e = absurd (both_ways false refl e)
applies-least (Equal v) e = absurd (both_ways false refl e)
applies-least (AList s) e = absurd (both_ways false refl e)

-- such a head has one part, and that is a list of arguments
pub one_list : (m : List Tree) (h : Head) (ns : List ℕ) → applies h ≡ true → accepted (checked m h 0 ns) ≡ true → (us : Tree) × (trees-at m ns ≡ node (AList Arguments) us ∷ [])
one_list m h [] a e =
    let z : ltb 0 (least h) ≡ true = ap (ltb 0) (applies-least h a) in
    absurd (both_ways (accepted (checked m h 0 [])) (ap accepted (cond-true (ltb 0 (least h)) _ _ z)) e)
one_list m h (n ∷ []) a e =
    let p = first_accepted m h 0 n [] e in
    let t = get_or m n nil in
    let w : takes h 0 (seen t) ≡ eqb 8 (sort_code (node_sort (seen t))) = ap (λ w. Rattle.theory.specs.Trees.served w (seen t)) (applies-wants h 0 a) in
    (under t, ap (λ u. u ∷ []) (list_tree t (eqb-true 8 _ (sym w ∙ p.2))))
one_list m h (n ∷ k ∷ ns) a e =
    let p = first_accepted m h 0 n (k ∷ ns) e in
    let q = first_accepted m h 1 k ns p.3 in
    let t = get_or m k nil in
    absurd (both_ways (takes h 1 (seen t)) (ap (λ w. Rattle.theory.specs.Trees.served w (seen t)) (applies-wants h 1 a)) q.2)

pub items-row : (ts : List Tree) → items (row ts) ≡ ts
items-row [] = refl
items-row (t ∷ ts) = ap (λ us. t ∷ us) (items-row ts)

-- the parts of a tree that was put together from accepted parts are those
pub parts-assembled : (m : List Tree) (h : Head) (ns : List ℕ) → accepted (checked m h 0 ns) ≡ true → parts (assembled h (trees-at m ns)) ≡ trees-at m ns
unfolding assembled
parts-assembled m h ns e =
    ⊎_elim
    (λ (a : applies h ≡ true).
    let o = one_list m h ns a e in
    let us = o.0 in
    let is : trees-at m ns ≡ node (AList Arguments) us ∷ [] = o.1 in
    rw (is, a, a) refl)
    (λ (a : applies h ≡ false). rw (a, a) (items-row (trees-at m ns)))
    (cases_Bool (applies h))

pub seen-assembled : (h : Head) (ts : List Tree) → seen (assembled h ts) ≡ Over h (length (parts (assembled h ts)))
unfolding assembled
seen-assembled h ts = by (applies h) ts
  where
    by : (b : Bool) (ts : List Tree) → seen (cond b (applied h ts) (node h (row ts))) ≡ Over h (length (parts (cond b (applied h ts) (node h (row ts)))))
    by true [] = refl
    by true (t ∷ ts) = refl
    by false ts = refl

-- each of the accepted parts is taken at its place
pub accepted-takes : (m : List Tree) (h : Head) (j : ℕ) (ns : List ℕ) (k : ℕ) → accepted (checked m h j ns) ≡ true → k < length ns → takes h (j + k) (seen (get_or m (get_or ns k 0) nil)) ≡ true
accepted-takes m h j [] k e l = absurd (omega arith)
accepted-takes m h j (n ∷ ns) zero e l =
    let z : j + 0 ≡ j = omega arith in
    ap (λ i. takes h i (seen (get_or m n nil))) z ∙ (first_accepted m h j n ns e).2
accepted-takes m h j (n ∷ ns) (suc k) e l =
    let z : j + suc k ≡ suc j + k = omega arith in
    ap (λ i. takes h i (seen (get_or m (get_or ns k 0) nil))) z ∙ accepted-takes m h (suc j) ns k (first_accepted m h j n ns e).3 (omega arith)

pub accepted-least : (m : List Tree) (h : Head) (j : ℕ) (ns : List ℕ) → accepted (checked m h j ns) ≡ true → least h ≤ j + length ns
accepted-least m h j [] e = by (ltb j (least h)) refl e
  where
    by : (b : Bool) → ltb j (least h) ≡ b → accepted (ended (BadPart j) b) ≡ true → least h ≤ j + 0
    by true is q = absurd (both_ways false refl q)
    by false is q = omega (arith, ltb-false j (least h) is)
accepted-least m h j (n ∷ ns) e = omega (arith, accepted-least m h (suc j) ns (first_accepted m h j n ns e).3)

-- parts that are held and taken, and enough of them, are accepted
pub takes-accepted : (m : List Tree) (h : Head) (j : ℕ) (ns : List ℕ) → Below (length m) ns → ((k : ℕ) → k < length ns → takes h (j + k) (seen (get_or m (get_or ns k 0) nil)) ≡ true) → least h ≤ j + length ns → checked m h j ns ≡ Ok (trees-at m ns)
takes-accepted m h j [] b t l = cond-false (ltb j (least h)) (Err (BadPart j)) (Ok []) (le-ltb j (least h) (omega arith))
takes-accepted m h j (n ∷ ns) b t l =
    let z : j + 0 ≡ j = omega arith in
    let here : takes h j (seen (get_or m n nil)) ≡ true = ap (λ i. takes h i (seen (get_or m n nil))) (sym z) ∙ t 0 (omega arith) in
    let held : at m n ≡ some (get_or m n nil) = at_in m n b.0 in
    let rest : checked m h (suc j) ns ≡ Ok (trees-at m ns) =
    takes-accepted m h (suc j) ns b.1
    (λ k lk. let e : suc j + k ≡ j + suc k = omega arith in ap (λ i. takes h i (seen (get_or m (get_or ns k 0) nil))) e ∙ t (suc k) (omega arith))
    (omega arith)
    in
    rw (held, here, rest) refl
