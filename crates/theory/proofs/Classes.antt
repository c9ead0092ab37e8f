-- Two type variables have one root exactly when they share a sub class.
-- Each event of the log either leaves the classes as they were or makes one of two.
use Rattle.std.proofs.Common.{◌≡◌, ℕ, zero, suc, min, Bool, true, false, cond, ◌||◌, eqb, ◌⊎◌, ◌↔◌, [], ◌∷◌, sym, refl, ap, ◌∙◌, subst, inl, inr}
use mathlib.Core.Option.{Option, none, some}
use native.Mathlib.Nat.{zero-min, min-zero, suc-min-suc}
use Rattle.theory.specs.declared.words.VarSort.TheVariants.{Ty as v_ty, Int as v_int, Float as v_float, Const as v_const}
use Rattle.theory.specs.declared.words.Leaf.{Leaf}
use Rattle.theory.specs.declared.words.Leaf.TheVariants.{Variable, RegionVariable, Parameter, LateParameter, Placeholder, Bound, Canonical, Error, Static, Erased, Kind as AKind}
use Rattle.theory.specs.Outcomes.{Among}
use Rattle.theory.specs.Trees.{Tree, leaf, node, nil, cons}
use Rattle.theory.specs.Log.{Event, opened, made, binds, lowered, joins, equates, outlived, hidden, duplicate, Log, merge, merge_at, leaf_ty, tree_ty, root}
use Rattle.theory.specs.Pairing.{Together, alone, turned, onward, by_join, by_binding}
use Rattle.theory.proofs.Steps.{some_one, none_some}
use Rattle.theory.proofs.Numbering.{eqb_sound, eqb_complete}

-- an older class stays
pub older : (e : Event) (l : Log) (a b : ℕ) → Together l a b → Together (e ∷ l) a b
older e l a b (alone x) = alone x
older e l a b (turned x y h) = turned x y (older e l x y h)
older e l a b (onward x y z h k) = onward x y z (older e l x y h) (older e l y z k)
older e l a b (by_join x y h) = by_join x y (inr h)
older e l a b (by_binding x y h) = by_binding x y (inr h)

min_either : (a b : ℕ) → (min a b ≡ a) ⊎ (min a b ≡ b)
min_either zero b = inl (zero-min b)
min_either (suc a) zero = inr (min-zero (suc a))
min_either (suc a) (suc b) = go (min_either a b)
  where
    go : (min a b ≡ a) ⊎ (min a b ≡ b) → (min (suc a) (suc b) ≡ suc a) ⊎ (min (suc a) (suc b) ≡ suc b)
    go (inl e) = inl (suc-min-suc a b ∙ ap suc e)
    go (inr e) = inr (suc-min-suc a b ∙ ap suc e)

merge_sound :
    (l : Log) (a b x ra rb rx : ℕ) → Together l a ra → Together l b rb → Together l x rx → Together l a b →
    Together l x (merge ra rb rx)
merge_sound l a b x ra rb rx ha hb hx hab = go (eqb rx ra) (eqb rx rb) refl refl
  where
    low : Together l x ra → Together l x rb → Together l x (min ra rb)
    low p q = elim (min_either ra rb)
        [ inl e ↦ subst (λ n. Together l x n) (sym e) p | inr e ↦ subst (λ n. Together l x n) (sym e) q ]

    go : (s t : Bool) → eqb rx ra ≡ s → eqb rx rb ≡ t → Together l x (cond (s || t) (min ra rb) rx)
    go true t e f =
        let p : Together l x ra = subst (λ n. Together l x n) (eqb_sound rx ra e) hx in
        low p (onward x ra rb p (onward ra a rb (turned a ra ha) (onward a b rb hab hb)))
    go false true e f =
        let p : Together l x rb = subst (λ n. Together l x n) (eqb_sound rx rb f) hx in
        low (onward x rb ra p (onward rb b ra (turned b rb hb) (onward b a ra (turned a b hab) ha))) p
    go false false e f = hx

ty_leaf : (y : Leaf) (a : ℕ) → leaf_ty y ≡ some a → y ≡ Variable v_ty a
ty_leaf (Variable v_ty n) a e = ap (λ k. Variable v_ty k) (some_one n a e)
ty_leaf (Variable v_int n) a e = none_some a e
ty_leaf (Variable v_float n) a e = none_some a e
ty_leaf (Variable v_const n) a e = none_some a e
ty_leaf (RegionVariable n) a e = none_some a e
ty_leaf (Parameter s n) a e = none_some a e
ty_leaf (LateParameter n) a e = none_some a e
ty_leaf (Placeholder s u n) a e = none_some a e
ty_leaf (Bound s d n) a e = none_some a e
ty_leaf (Canonical s n) a e = none_some a e
ty_leaf (Error s) a e = none_some a e
ty_leaf Static a e = none_some a e
ty_leaf Erased a e = none_some a e
ty_leaf (AKind k) a e = none_some a e

ty_tree : (t : Tree) (b : ℕ) → tree_ty t ≡ some b → t ≡ leaf (Variable v_ty b)
ty_tree (leaf x) b e = ap (λ y. leaf y) (ty_leaf x b e)
ty_tree (node h ts) b e = none_some b e
ty_tree nil b e = none_some b e
ty_tree (cons t u) b e = none_some b e

bind_sound :
    (l : Log) (y : Leaf) (t : Tree) (x : ℕ) → ((n : ℕ) → Together l n (root l n)) → (o o' : Option ℕ) → leaf_ty y ≡ o → tree_ty t ≡ o' →
    Together (binds y t ∷ l) x (merge_at o o' (root l) x)
bind_sound l y t x ih none o' e f = older (binds y t) l x (root l x) (ih x)
bind_sound l y t x ih (some a) none e f = older (binds y t) l x (root l x) (ih x)
bind_sound l y t x ih (some a) (some b) e f =
    merge_sound (binds y t ∷ l) a b x (root l a) (root l b) (root l x) (up a) (up b) (up x)
    (by_binding a b (inl (λ i. binds (sym (ty_leaf y a e) i) (sym (ty_tree t b f) i))))
  where
    up : (n : ℕ) → Together (binds y t ∷ l) n (root l n)
    up n = older (binds y t) l n (root l n) (ih n)

pub root_sound : (l : Log) (x : ℕ) → Together l x (root l x)
unfolding root
root_sound [] x = alone x
root_sound (opened ∷ l) x = older opened l x (root l x) (root_sound l x)
root_sound (made m u ∷ l) x = older (made m u) l x (root l x) (root_sound l x)
root_sound (binds y t ∷ l) x = bind_sound l y t x (λ n. root_sound l n) (leaf_ty y) (tree_ty t) refl refl
root_sound (lowered y u ∷ l) x = older (lowered y u) l x (root l x) (root_sound l x)
root_sound (joins a b ∷ l) x =
    merge_sound (joins a b ∷ l) a b x (root l a) (root l b) (root l x) (older (joins a b) l a (root l a) (root_sound l a))
    (older (joins a b) l b (root l b) (root_sound l b)) (older (joins a b) l x (root l x) (root_sound l x)) (by_join a b (inl refl))
root_sound (equates v a b ∷ l) x = older (equates v a b) l x (root l x) (root_sound l x)
root_sound (outlived v a b ∷ l) x = older (outlived v a b) l x (root l x) (root_sound l x)
root_sound (hidden a b ∷ l) x = older (hidden a b) l x (root l x) (root_sound l x)
root_sound (duplicate a b ∷ l) x = older (duplicate a b) l x (root l x) (root_sound l x)

-- the other way

merge_at_same : (o o' : Option ℕ) (f : ℕ → ℕ) (x y : ℕ) → f x ≡ f y → merge_at o o' f x ≡ merge_at o o' f y
merge_at_same none o' f x y e = e
merge_at_same (some a) none f x y e = e
merge_at_same (some a) (some b) f x y e = ap (λ n. merge (f a) (f b) n) e

still : (e : Event) (l : Log) (x y : ℕ) → root l x ≡ root l y → root (e ∷ l) x ≡ root (e ∷ l) y
unfolding root
still opened l x y q = q
still (made m u) l x y q = q
still (binds z t) l x y q = merge_at_same (leaf_ty z) (tree_ty t) (root l) x y q
still (lowered z u) l x y q = q
still (joins a b) l x y q = ap (λ n. merge (root l a) (root l b) n) q
still (equates v a b) l x y q = q
still (outlived v a b) l x y q = q
still (hidden a b) l x y q = q
still (duplicate a b) l x y q = q

merged : (a b : ℕ) → merge a b a ≡ merge a b b
merged a b = rw (eqb_complete a a refl, eqb_complete b b refl) (go (eqb b a))
  where
    go : (s : Bool) → min a b ≡ cond (s || true) (min a b) b
    go true = refl
    go false = refl

joined : (a b : ℕ) (l : Log) → Among (joins a b) l → root l a ≡ root l b
unfolding root
joined a b [] h = absurd h
joined a b (e ∷ l) (inl p) = subst (λ d. root (d ∷ l) a ≡ root (d ∷ l) b) p (now l)
  where
    now : (l : Log) → root (joins a b ∷ l) a ≡ root (joins a b ∷ l) b
    now l = merged (root l a) (root l b)
joined a b (e ∷ l) (inr h) = still e l a b (joined a b l h)

bound_to : (a b : ℕ) (l : Log) → Among (binds (Variable v_ty a) (leaf (Variable v_ty b))) l → root l a ≡ root l b
unfolding root
bound_to a b [] h = absurd h
bound_to a b (e ∷ l) (inl p) = subst (λ d. root (d ∷ l) a ≡ root (d ∷ l) b) p (now l)
  where
    now : (l : Log) → root (binds (Variable v_ty a) (leaf (Variable v_ty b)) ∷ l) a ≡ root (binds (Variable v_ty a) (leaf (Variable v_ty b)) ∷ l) b
    now l = merged (root l a) (root l b)
bound_to a b (e ∷ l) (inr h) = still e l a b (bound_to a b l h)

pub root_complete : (l : Log) (a b : ℕ) → Together l a b → root l a ≡ root l b
root_complete l a b (alone x) = refl
root_complete l a b (turned x y h) = sym (root_complete l x y h)
root_complete l a b (onward x y z h k) = root_complete l x y h ∙ root_complete l y z k
root_complete l a b (by_join x y h) = joined x y l h
root_complete l a b (by_binding x y h) = bound_to x y l h

pub root_together : (l : Log) (a b : ℕ) → (root l a ≡ root l b) ↔ Together l a b
root_together l a b = (
  λ e. onward a (root l a) b (root_sound l a) (subst (λ n. Together l n b) (sym e) (turned b (root l b) (root_sound l b))),
  root_complete l a b,
)
