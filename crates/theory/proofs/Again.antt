-- A fold of what was folded before gives the same tree, and changes neither state nor store: so a cache changes no result.
use Rattle.std.proofs.Common.{◌≡◌, ℕ, ◌+◌, ◌<◌, Bool, true, false, List, length, Ok, Result, sym, refl, ap, ◌∙◌, subst}
use Rattle.std.proofs.lemmas.Bool.{cond-true, lt-ltb}
use Rattle.theory.specs.declared.words.ListSort.TheVariants.{Arguments}
use Rattle.theory.specs.declared.words.Leaf.{Leaf}
use Rattle.theory.specs.declared.words.Head.{Head}
use Rattle.theory.specs.declared.words.Head.TheVariants.{List as AList}
use Rattle.theory.specs.declared.words.StoreFault.{StoreFault}
use Rattle.theory.specs.Outcomes.{◌>>=◌, raised}
use Rattle.theory.specs.Trees.{Tree, leaf, node, nil, cons, applies, opens}
use Rattle.theory.specs.Store.{Contents, handle, holds, put_new, put, Grown}
use Rattle.theory.specs.Folds.{Folded, folded, put_list, rebuild, fold}
use Rattle.theory.proofs.Growth.{grown-then}
use Rattle.theory.proofs.Steps.{ok_one, bind_ok, raised_ok}
use Rattle.theory.proofs.Holding.{Held, held_more, handle-stands, below, Put, put_ok, rebuild_ok, fold-leaf, fold-node, fold-nil, fold-cons}

-- a tree that is held is put without a change
pub held-put : (c : Contents) (t : Tree) → Held c.trees t → put c t ≡ Ok (handle c.trees t, c)
unfolding put
held-put c t h =
    let l : handle c.trees t < length c.trees = below c.trees (handle c.trees t) t (handle-stands c.trees t h) in
    cond-true (holds c.trees t) (Ok (handle c.trees t, c)) (put_new c t) (lt-ltb (handle c.trees t) (length c.trees) l)

-- a head over a row, where the list of its arguments and the whole are held
abbrev pub ListHeld : Bool → List Tree → Tree → Type 0
ListHeld true m ts = Held m (node (AList Arguments) ts)
ListHeld false m ts = Unit {0}

put_list-held : (b : Bool) (ts : Tree) (c : Contents) → ListHeld b c.trees ts → put_list b ts c ≡ Ok c
put_list-held true ts c h = ap (λ (r : Result (ℕ × Contents) StoreFault). r >>= λ q. Ok q.1) (held-put c (node (AList Arguments) ts) h)
put_list-held false ts c h = refl

pub rebuild-held : {S : Type 0} (h : Head) (ts : Tree) (s : S) (c : Contents) → ListHeld (applies h) c.trees ts → Held c.trees (node h ts) → rebuild h (folded ts s c) ≡ Ok (folded (node h ts) s c)
unfolding rebuild
rebuild-held {S} h ts s c l n =
    let next : Contents → Result (Folded S) StoreFault = λ d. put d (node h ts) >>= λ r. Ok (folded (node h ts) s r.1) in
    ap (λ (r : Result Contents StoreFault). r >>= next) (put_list-held (applies h) ts c l)
    ∙ ap (λ (r : Result (ℕ × Contents) StoreFault). r >>= λ q. Ok (folded (node h ts) s q.1)) (held-put c (node h ts) n)

list_then : (b : Bool) (ts : Tree) (c d e : Contents) → put_list b ts c ≡ Ok d → Grown d e → ListHeld b e.trees ts
list_then true ts c d e q g =
    let a = bind_ok (put c (node (AList Arguments) ts)) (λ r. Ok r.1) d q in
    let p : Put c (node (AList Arguments) ts) a.0 = put_ok c (node (AList Arguments) ts) a.0 a.1 in
    let is : a.0.1 ≡ d = ok_one a.0.1 d a.2 in
    held_more a.0.1 e (node (AList Arguments) ts) (subst (λ x. Grown x e) (sym is) g) (a.0.0, p.stands)
list_then false ts c d e q g = tt

-- what a rebuilt term needs is held from then on
pub rebuilt_held : {S : Type 0} (h : Head) (f g : Folded S) (e : Contents) → rebuild h f ≡ Ok g → Grown g.store e → ListHeld (applies h) e.trees f.tree × Held e.trees (node h f.tree)
unfolding rebuild
rebuilt_held {S} h f g e q grown =
    let next : Contents → Result (Folded S) StoreFault = λ c. put c (node h f.tree) >>= λ r. Ok (folded (node h f.tree) f.state r.1) in
    let a = bind_ok (put_list (applies h) f.tree f.store) next g q in
    let b = bind_ok (put a.0 (node h f.tree)) (λ r. Ok (folded (node h f.tree) f.state r.1)) g a.2 in
    let p : Put a.0 (node h f.tree) b.0 = put_ok a.0 (node h f.tree) b.0 b.1 in
    let is : b.0.1 ≡ g.store = ap (λ (x : Folded S). x.store) (ok_one (folded (node h f.tree) f.state b.0.1) g b.2) in
    let on : Grown b.0.1 e = subst (λ x. Grown x e) (sym is) grown in
    (list_then (applies h) f.tree f.store a.0 e a.1 (grown-then a.0 b.0.1 e p.grown on), held_more b.0.1 e (node h f.tree) on (b.0.0, p.stands))

-- A folder whose state and store only go on, and that does the same at a leaf again, changing nothing

pub record Repeats {S E : Type 0} (visit : ℕ → Leaf → S → Contents → Result (Folded S) E) (Later : S → Contents → S → Contents → Type 0) : Type 0 where
  pub on : (s : S) (c d : Contents) → Grown c d → Later s c s d
  pub onward : (s : S) (c : Contents) (s' : S) (c' : Contents) (s'' : S) (c'' : Contents) → Later s c s' c' → Later s' c' s'' c'' → Later s c s'' c''
  pub grows : (s : S) (c : Contents) (s' : S) (c' : Contents) → Later s c s' c' → Grown c c'
  pub goes : (d : ℕ) (x : Leaf) (s : S) (c : Contents) (f : Folded S) → visit d x s c ≡ Ok f → Later s c f.state f.store
  pub again : (d : ℕ) (x : Leaf) (s : S) (c : Contents) (f : Folded S) (s' : S) (e : Contents) → visit d x s c ≡ Ok f → Later f.state f.store s' e → visit d x s' e ≡ Ok (folded f.tree s' e)

module _ {S E : Type 0} (raise : StoreFault → E) (before : Head → Tree → Result (Unit {0}) E) (visit : ℕ → Leaf → S → Contents → Result (Folded S) E)
    (Later : S → Contents → S → Contents → Type 0) (repeats : Repeats visit Later) where
  abbrev walk : ℕ → Tree → S → Contents → Result (Folded S) E
  walk = fold raise before visit

  -- a fold goes on
  pub fold_goes : (d : ℕ) (t : Tree) (s : S) (c : Contents) (f : Folded S) → walk d t s c ≡ Ok f → Later s c f.state f.store
  fold_goes d (leaf x) s c f e = repeats.goes d x s c f (fold-leaf raise before visit d x s c f e)
  fold_goes d (node h ts) s c f e =
      let a = fold-node raise before visit d h ts s c f e in
      let g = a.0 in
      repeats.onward s c g.state g.store f.state f.store (fold_goes (d + opens h) ts s c g a.1)
      (subst (λ z. Later g.state g.store z f.store) (sym a.2.state_is) (repeats.on g.state g.store f.store a.2.grown))
  fold_goes d nil s c f e =
      subst (λ (x : Folded S). Later s c x.state x.store) (fold-nil raise before visit d s c f e) (repeats.on s c c (Rattle.theory.proofs.Growth.grown_same c))
  fold_goes d (cons t u) s c f e =
      let a = fold-cons raise before visit d t u s c f e in
      subst (λ (x : Folded S). Later s c x.state x.store) a.both
      (repeats.onward s c a.first.state a.first.store a.second.state a.second.store (fold_goes d t s c a.first a.first_ok)
      (fold_goes d u a.first.state a.first.store a.second a.second_ok))

  pub fold-again : (d : ℕ) (t : Tree) (s : S) (c : Contents) (f : Folded S) (s' : S) (e : Contents) → walk d t s c ≡ Ok f → Later f.state f.store s' e → walk d t s' e ≡ Ok (folded f.tree s' e)
  unfolding fold
  fold-again d (leaf x) s c f s' e q l = repeats.again d x s c f s' e q l
  fold-again d (node h ts) s c f s' e q l =
      let a = bind_ok (before h ts) (λ _. walk (d + opens h) ts s c >>= λ g. raised raise (rebuild h g)) f q in
      let b = bind_ok (walk (d + opens h) ts s c) (λ g. raised raise (rebuild h g)) f a.2 in
      let g = b.0 in
      let r : rebuild h g ≡ Ok f = raised_ok raise (rebuild h g) f b.2 in
      let k = rebuild_ok h g f r in
      let row : walk (d + opens h) ts s' e ≡ Ok (folded g.tree s' e) =
      fold-again (d + opens h) ts s c g s' e b.1
      (repeats.onward g.state g.store f.state f.store s' e
      (subst (λ z. Later g.state g.store z f.store) (sym k.state_is) (repeats.on g.state g.store f.store k.grown)) l)
      in
      let held = rebuilt_held h g f e r (repeats.grows f.state f.store s' e l) in
      ap (λ (o : Result (Unit {0}) E). o >>= λ _. walk (d + opens h) ts s' e >>= λ x. raised raise (rebuild h x)) a.1
      ∙ ap (λ (o : Result (Folded S) E). o >>= λ x. raised raise (rebuild h x)) row
      ∙ ap (raised raise) (rebuild-held h g.tree s' e held.0 held.1)
      ∙ ap (λ t. Ok (folded t s' e)) (sym k.tree_is)
  fold-again d nil s c f s' e q l = ap (λ (x : Folded S). Ok (folded x.tree s' e)) (ok_one (folded nil s c) f q)
  fold-again d (cons t u) s c f s' e q l =
      let a = fold-cons raise before visit d t u s c f q in
      let on : Later a.second.state a.second.store s' e = subst (λ (x : Folded S). Later x.state x.store s' e) (sym a.both) l in
      let one : walk d t s' e ≡ Ok (folded a.first.tree s' e) =
      fold-again d t s c a.first s' e a.first_ok
      (repeats.onward a.first.state a.first.store a.second.state a.second.store s' e (fold_goes d u a.first.state a.first.store a.second a.second_ok) on)
      in
      let two : walk d u s' e ≡ Ok (folded a.second.tree s' e) = fold-again d u a.first.state a.first.store a.second s' e a.second_ok on in
      ap (λ (o : Result (Folded S) E). o >>= λ x. walk d u x.state x.store >>= λ y. Ok (folded (cons x.tree y.tree) y.state y.store)) one
      ∙ ap (λ (o : Result (Folded S) E). o >>= λ y. Ok (folded (cons a.first.tree y.tree) y.state y.store)) two
      ∙ ap (λ (x : Folded S). Ok (folded x.tree s' e)) a.both
