-- From one canonical form to a pairing: the entries of the two tables, number by number. And reading back: the entries of a
-- table, put for the canonical variables that a walk wrote, give the tree that was walked.
use Rattle.std.proofs.Common.{◌≡◌, ℕ, zero, suc, Bool, true, false, cond, ◌&&◌, eqb, ◌⊎◌, ◌↔◌, List, [], ◌∷◌, map, get_or, sym, refl, ap, ◌∙◌, subst, ap₂, inl, inr, arith}
use mathlib.Core.Option.{none, some}
use Rattle.theory.specs.declared.words.ArgSort.{ArgSort}
use Rattle.theory.specs.declared.words.Leaf.{Leaf}
use Rattle.theory.specs.declared.words.Leaf.TheVariants.{Canonical}
use Rattle.theory.specs.Trees.{Tree, leaf, node, nil, cons}
use Rattle.theory.specs.Forms.{canonical_number}
use Rattle.theory.specs.Names.{Part, is_name, Name, Partners, Carries, kept, swapped, in_node, in_nil, in_cons, put_back}
use Rattle.theory.proofs.Numbering.{place, note, after, Moment, sort_of, typed, written, first_of, root_in, rooted, eqb_sound, eqb_complete, At, Distinct, at_leaf, at-number, not_both, noted, after_keeps, after_distinct, after_back}
use Rattle.theory.proofs.Partnered.{Halves, NameIn, first_names, names, Renamed, OneForm}

-- no canonical variable stands in a tree
abbrev pub Fresh : Tree → Type 0
Fresh (leaf a) = canonical_number a ≡ none
Fresh (node h t) = Fresh t
Fresh nil = Unit {0}
Fresh (cons t u) = Fresh t × Fresh u

pub get_d_at : (T : List Leaf) (i : ℕ) (a d : Leaf) → At T i a → get_or T i d ≡ a
get_d_at [] i a d h = elim h [ ]
get_d_at (x ∷ xs) zero a d h = sym h
get_d_at (x ∷ xs) (suc i) a d h = get_d_at xs i a d h

-- the pairs of two tables
abbrev pub pairs : List Leaf → List Leaf → List (Leaf × Leaf)
pairs [] T = []
pairs (x ∷ xs) [] = []
pairs (x ∷ xs) (y ∷ ys) = (x, y) ∷ pairs xs ys

pairs-at : (S T : List Leaf) (i : ℕ) (a b : Leaf) → At S i a → At T i b → Partners (pairs S T) a b
pairs-at [] T i a b h k = elim h [ ]
pairs-at (x ∷ xs) [] i a b h k = elim k [ ]
pairs-at (x ∷ xs) (y ∷ ys) zero a b h k = inl (h, k)
pairs-at (x ∷ xs) (y ∷ ys) (suc i) a b h k = inr (pairs-at xs ys i a b h k)

pairs-back : (S T : List Leaf) (a b : Leaf) → Partners (pairs S T) a b → (i : ℕ) × At S i a × At T i b
pairs-back [] T a b h = elim h [ ]
pairs-back (x ∷ xs) [] a b h = elim h [ ]
pairs-back (x ∷ xs) (y ∷ ys) a b (inl h) = (0, h.0, h.1)
pairs-back (x ∷ xs) (y ∷ ys) a b (inr h) =
    let r : (i : ℕ) × At xs i a × At ys i b = pairs-back xs ys a b h in
    (suc r.0, r.1, r.2)

-- equal images of two tables, number by number
map_at : {M : Type 0} (f g : Leaf → M) (S T : List Leaf) (i : ℕ) (a b : Leaf) → map f S ≡ map g T → At S i a → At T i b → f a ≡ g b
map_at f g [] T i a b e h k = elim h [ ]
map_at f g (x ∷ xs) [] i a b e h k = elim k [ ]
map_at f g (x ∷ xs) (y ∷ ys) zero a b e h k =
    let q : f x ≡ g y = cc in
    ap f h ∙ q ∙ sym (ap g k)
map_at f g (x ∷ xs) (y ∷ ys) (suc i) a b e h k =
    let q : map f xs ≡ map g ys = cc in
    map_at f g xs ys i a b q h k

-- Sub roots

module _ (m : Moment) where
  -- the first listed number of a class that is there is that of a leaf of the class
  first_at :
      (T : List Leaf) (i : ℕ) (a : Leaf) → At T i a → typed (m.form a) ≡ true →
      (x : Leaf) × At T (first_of m (m.class a) T) x × (m.class x ≡ m.class a)
  first_at [] i a h e = elim h [ ]
  first_at (x ∷ xs) zero a h e =
      let f : typed (m.form x) ≡ true = subst (λ y. typed (m.form y) ≡ true) h e in
      let q : m.class x ≡ m.class a = ap (λ y. m.class y) (sym h) in
      rw (f, eqb_complete (m.class x) (m.class a) q) (x, refl, q)
  first_at (x ∷ xs) (suc i) a h e = go (typed (m.form x)) (eqb (m.class x) (m.class a)) refl (first_at xs i a h e)
    where
      Found : Bool → Type 0
      Found s = (y : Leaf) × At (x ∷ xs) (cond s 0 (suc (first_of m (m.class a) xs))) y × (m.class y ≡ m.class a)

      go :
          (s s' : Bool) → eqb (m.class x) (m.class a) ≡ s' →
          (y : Leaf) × At xs (first_of m (m.class a) xs) y × (m.class y ≡ m.class a) → Found (s && s')
      go true true q ih = (x, refl, eqb_sound (m.class x) (m.class a) q)
      go true false q ih = ih
      go false true q ih = ih
      go false false q ih = ih

  first_tells :
      (T : List Leaf) (i j : ℕ) (a b : Leaf) → At T i a → At T j b → typed (m.form a) ≡ true → typed (m.form b) ≡ true →
      first_of m (m.class a) T ≡ first_of m (m.class b) T → m.class a ≡ m.class b
  first_tells T i j a b h k e f q =
      let r : (x : Leaf) × At T (first_of m (m.class a) T) x × (m.class x ≡ m.class a) = first_at T i a h e in
      let s : (x : Leaf) × At T (first_of m (m.class b) T) x × (m.class x ≡ m.class b) = first_at T j b k f in
      let o : r.0 ≡ s.0 = at_leaf T (first_of m (m.class b) T) r.0 s.0 (subst (λ n. At T n r.0) q r.1) s.1 in
      sym r.2 ∙ ap (λ y. m.class y) o ∙ s.2

  -- the root that a type variable's kind has
  root_of : (T : List Leaf) (a : Leaf) → typed (m.form a) ≡ true → root_in m T a ≡ some (first_of m (m.class a) T)
  root_of T a e = rw e

-- Trees

-- canonical variables have one number, and no other leaf is one
same_number : (a b : ArgSort) (i n : ℕ) → Canonical a i ≡ Canonical b n → i ≡ n
same_number a b i n e = cc

not_canonical : {A : Type 0} (s : ArgSort) (n : ℕ) (a : Leaf) → Canonical s n ≡ a → canonical_number a ≡ none → A
not_canonical s n a e f =
    let g : canonical_number (Canonical s n) ≡ canonical_number a = ap canonical_number e in
    let z : ◌≡◌ {A = ℕ} 0 1 = cc in
    absurd (omega arith)

-- the form of a tree, which the walk keeps
abbrev shape : Tree → ℕ
shape (leaf a) = 0
shape (node h t) = 1
shape nil = 2
shape (cons t u) = 3

module _ (p : Part) where
  shape_written : (m : Moment) (t : Tree) (T : List Leaf) → shape (written m p t T) ≡ shape t
  shape_written m (leaf a) T =
      elim (is_name p a) as (λ s. shape (cond s (leaf (Canonical (sort_of (m.form a)) (place a T))) (leaf a)) ≡ 0) [ true ↦ refl | false ↦ refl ]
  shape_written m (node h t) T = refl
  shape_written m nil T = refl
  shape_written m (cons t u) T = refl

  -- where the walks of two trees write the same, the entries of the tables carry one tree into the other
  module _ (m₁ m₂ : Moment) (F G : List Leaf) where
    leaves :
        (a b : Leaf) (S T : List Leaf) (s s' : Bool) → is_name p a ≡ s → is_name p b ≡ s' →
        ((i : ℕ) (x : Leaf) → At (cond s (note a S) S) i x → At F i x) →
        ((i : ℕ) (x : Leaf) → At (cond s' (note b T) T) i x → At G i x) →
        canonical_number a ≡ none → canonical_number b ≡ none →
        ◌≡◌ {A = Tree} (cond s (leaf (Canonical (sort_of (m₁.form a)) (place a S))) (leaf a))
        (cond s' (leaf (Canonical (sort_of (m₂.form b)) (place b T))) (leaf b)) →
        Carries (pairs F G) p (leaf a) (leaf b)
    leaves a b S T true true e f x y c d q =
        let w : Canonical (sort_of (m₁.form a)) (place a S) ≡ Canonical (sort_of (m₂.form b)) (place b T) = cc in
        let n : place a S ≡ place b T = same_number _ _ _ _ w in
        swapped a b e f
        (pairs-at F G (place b T) a b (x (place b T) a (subst (λ i. At (note a S) i a) n (noted a S))) (y (place b T) b (noted b T)))
    leaves a b S T true false e f x y c d q =
        let w : Canonical (sort_of (m₁.form a)) (place a S) ≡ b = cc in
        not_canonical _ _ b w d
    leaves a b S T false true e f x y c d q =
        let w : Canonical (sort_of (m₂.form b)) (place b T) ≡ a = cc in
        not_canonical _ _ a w c
    leaves a b S T false false e f x y c d q =
        let w : a ≡ b = cc in
        subst (λ z. Carries (pairs F G) p (leaf a) (leaf z)) w (kept a e)

    carried :
        (t u : Tree) → shape t ≡ shape u → (S T : List Leaf) → ((i : ℕ) (x : Leaf) → At (after p t S) i x → At F i x) →
        ((i : ℕ) (x : Leaf) → At (after p u T) i x → At G i x) → Fresh t → Fresh u → written m₁ p t S ≡ written m₂ p u T →
        Carries (pairs F G) p t u
    carried (leaf a) (leaf b) z S T x y c d q = leaves a b S T (is_name p a) (is_name p b) refl refl x y c d q
    carried (leaf a) (node h u) z S T x y c d q = absurd (omega arith)
    carried (leaf a) nil z S T x y c d q = absurd (omega arith)
    carried (leaf a) (cons u u') z S T x y c d q = absurd (omega arith)
    carried (node h t) (leaf b) z S T x y c d q = absurd (omega arith)
    carried (node h t) (node j u) z S T x y c d q =
        let w : written m₁ p t S ≡ written m₂ p u T = cc in
        let v : h ≡ j = cc in
        subst (λ k. Carries (pairs F G) p (node h t) (node k u)) v
        (in_node h t u (carried t u (sym (shape_written m₁ t S) ∙ ap shape w ∙ shape_written m₂ u T) S T x y c d w))
    carried (node h t) nil z S T x y c d q = absurd (omega arith)
    carried (node h t) (cons u u') z S T x y c d q = absurd (omega arith)
    carried nil (leaf b) z S T x y c d q = absurd (omega arith)
    carried nil (node h u) z S T x y c d q = absurd (omega arith)
    carried nil nil z S T x y c d q = in_nil
    carried nil (cons u u') z S T x y c d q = absurd (omega arith)
    carried (cons t t') (leaf b) z S T x y c d q = absurd (omega arith)
    carried (cons t t') (node h u) z S T x y c d q = absurd (omega arith)
    carried (cons t t') nil z S T x y c d q = absurd (omega arith)
    carried (cons t t') (cons u u') z S T x y c d q =
        let w : written m₁ p t S ≡ written m₂ p u T = cc in
        let v : written m₁ p t' (after p t S) ≡ written m₂ p u' (after p u T) = cc in
        in_cons t u t' u'
        (carried t u (sym (shape_written m₁ t S) ∙ ap shape w ∙ shape_written m₂ u T) S T
        (λ i a h. x i a (after_keeps p t' (after p t S) i a h)) (λ i a h. y i a (after_keeps p u' (after p u T) i a h)) c.0 d.0 w)
        (carried t' u' (sym (shape_written m₁ t' _) ∙ ap shape v ∙ shape_written m₂ u' _) (after p t S) (after p u T) x y c.1 d.1 v)

    carried_by :
        (t u : Tree) (S T : List Leaf) → ((i : ℕ) (x : Leaf) → At (after p t S) i x → At F i x) →
        ((i : ℕ) (x : Leaf) → At (after p u T) i x → At G i x) → Fresh t → Fresh u → written m₁ p t S ≡ written m₂ p u T →
        Carries (pairs F G) p t u
    carried_by t u S T x y c d q = carried t u (sym (shape_written m₁ t S) ∙ ap shape q ∙ shape_written m₂ u T) S T x y c d q

  -- each name of a tree that is carried into another has a partner, and each name of the other
  carries_left : (P : List (Leaf × Leaf)) (t u : Tree) (a : Leaf) → Carries P p t u → Name p t a → (b : Leaf) × Partners P a b
  carries_left P t u a (kept x e) n = not_both (is_name p x) n.0 e
  carries_left P t u a (swapped x y e f q) n = (y, subst (λ z. Partners P z y) (sym n.1) q)
  carries_left P t u a (in_node h t' u' k) n = carries_left P t' u' a k n
  carries_left P t u a in_nil n = elim n [ ]
  carries_left P t u a (in_cons t₁ t₂ u₁ u₂ k l) (inl n) = carries_left P t₁ t₂ a k n
  carries_left P t u a (in_cons t₁ t₂ u₁ u₂ k l) (inr n) = carries_left P u₁ u₂ a l n

  carries_right : (P : List (Leaf × Leaf)) (t u : Tree) (b : Leaf) → Carries P p t u → Name p u b → (a : Leaf) × Partners P a b
  carries_right P t u b (kept x e) n = not_both (is_name p x) n.0 e
  carries_right P t u b (swapped x y e f q) n = (x, subst (λ z. Partners P x z) (sym n.1) q)
  carries_right P t u b (in_node h t' u' k) n = carries_right P t' u' b k n
  carries_right P t u b in_nil n = elim n [ ]
  carries_right P t u b (in_cons t₁ t₂ u₁ u₂ k l) (inl n) = carries_right P t₁ t₂ b k n
  carries_right P t u b (in_cons t₁ t₂ u₁ u₂ k l) (inr n) = carries_right P u₁ u₂ b l n

  -- what the walk wrote, filled from a table that the walk's table grew into
  pub written_back :
      (m : Moment) (F : List Leaf) (t : Tree) (S : List Leaf) → ((i : ℕ) (x : Leaf) → At (after p t S) i x → At F i x) → Fresh t →
      put_back F (written m p t S) ≡ t
  written_back m F (leaf a) S x f = go (is_name p a) x
    where
      go :
          (s : Bool) → ((i : ℕ) (y : Leaf) → At (cond s (note a S) S) i y → At F i y) →
          put_back F (cond s (leaf (Canonical (sort_of (m.form a)) (place a S))) (leaf a)) ≡ leaf a
      go true z = ap (λ y. leaf y) (get_d_at F (place a S) a _ (z (place a S) a (noted a S)))
      go false z = rw f
  written_back m F (node h t) S x f = ap (λ (y : Tree). node h y) (written_back m F t S x f)
  written_back m F nil S x f = refl
  written_back m F (cons t u) S x f =
      ap₂ (λ (y z : Tree). cons y z) (written_back m F t S (λ i a h. x i a (after_keeps p u (after p t S) i a h)) f.0)
      (written_back m F u (after p t S) x f.1)

-- Values

module _ (p q : Part) where
  abbrev FreshHalves : Halves → Type 0
  FreshHalves s = Fresh s.first × Fresh s.rest

  names-distinct : (s : Halves) → Distinct (names p q s)
  names-distinct s = after_distinct q s.rest (first_names p q s) (after_distinct p s.first [] tt)

  names-back : (s : Halves) (i : ℕ) (a : Leaf) → At (names p q s) i a → NameIn p q s a
  names-back s i a h = late (after_back q s.rest (first_names p q s) i a h)
    where
      early : Name p s.first a ⊎ At [] i a → NameIn p q s a
      early (inl n) = inl n
      early (inr k) = elim k [ ]

      late : Name q s.rest a ⊎ At (first_names p q s) i a → NameIn p q s a
      late (inl n) = inr n
      late (inr k) = early (after_back p s.first [] i a k)

  module _ (m₁ m₂ : Moment) (s t : Halves) (f₁ : FreshHalves s) (f₂ : FreshHalves t) (e : OneForm p q m₁ m₂ s t) where
    abbrev S : List Leaf
    S = names p q s

    abbrev T : List Leaf
    T = names p q t

    abbrev P : List (Leaf × Leaf)
    P = pairs S T

    kinds_at : (i : ℕ) (a b : Leaf) → At S i a → At T i b → rooted m₁ S a ≡ rooted m₂ T b
    kinds_at i a b h k = map_at (rooted m₁ S) (rooted m₂ T) S T i a b e.kinds h k

    forms : (a b : Leaf) → Partners P a b → m₁.form a ≡ m₂.form b
    forms a b h =
        let r : (i : ℕ) × At S i a × At T i b = pairs-back S T a b h in
        ap (λ k. k.form) (kinds_at r.0 a b r.1 r.2)

    typed_too : (a b : Leaf) → Partners P a b → typed (m₁.form a) ≡ true → typed (m₂.form b) ≡ true
    typed_too a b h y = subst (λ k. typed k ≡ true) (forms a b h) y

    firsts : (a b : Leaf) → Partners P a b → typed (m₁.form a) ≡ true → first_of m₁ (m₁.class a) S ≡ first_of m₂ (m₂.class b) T
    firsts a b h y =
        let r : (i : ℕ) × At S i a × At T i b = pairs-back S T a b h in
        let k : root_in m₁ S a ≡ root_in m₂ T b = ap (λ k. k.sub_root) (kinds_at r.0 a b r.1 r.2) in
        some_one _ _ (sym (root_of m₁ S a y) ∙ k ∙ root_of m₂ T b (typed_too a b h y))
      where
        some_one : (i n : ℕ) → some i ≡ some n → i ≡ n
        some_one i n w = cc

    classes :
        (a b a' b' : Leaf) → Partners P a b → Partners P a' b' → typed (m₁.form a) ≡ true → typed (m₁.form a') ≡ true →
        (m₁.class a ≡ m₁.class a') ↔ (m₂.class b ≡ m₂.class b')
    classes a b a' b' h h' y y' =
        let r : (i : ℕ) × At S i a × At T i b = pairs-back S T a b h in
        let o : (i : ℕ) × At S i a' × At T i b' = pairs-back S T a' b' h' in (
          λ k. first_tells m₂ T r.0 o.0 b b' r.2 o.2 (typed_too a b h y) (typed_too a' b' h' y')
              (sym (firsts a b h y) ∙ ap (λ c. first_of m₁ c S) k ∙ firsts a' b' h' y'),
          λ k. first_tells m₁ S r.0 o.0 a a' r.1 o.1 y y'
              (firsts a b h y ∙ ap (λ c. first_of m₂ c T) k ∙ sym (firsts a' b' h' y')),
        )

    first_carried : Carries P p s.first t.first
    first_carried =
        carried_by p m₁ m₂ S T s.first t.first [] [] (λ i x h. after_keeps q s.rest (first_names p q s) i x h)
        (λ i x h. after_keeps q t.rest (first_names p q t) i x h) f₁.0 f₂.0 e.first

    rest_carried : Carries P q s.rest t.rest
    rest_carried =
        carried_by q m₁ m₂ S T s.rest t.rest (first_names p q s) (first_names p q t) (λ i x h. h) (λ i x h. h) f₁.1 f₂.1 e.rest

    left_all : (a : Leaf) → NameIn p q s a → (b : Leaf) × Partners P a b
    left_all a (inl n) = carries_left p P s.first t.first a first_carried n
    left_all a (inr n) = carries_left q P s.rest t.rest a rest_carried n

    right_all : (b : Leaf) → NameIn p q t b → (a : Leaf) × Partners P a b
    right_all b (inl n) = carries_right p P s.first t.first b first_carried n
    right_all b (inr n) = carries_right q P s.rest t.rest b rest_carried n

    pub renamed : Renamed p q m₁ m₂ s t P
    renamed =
        record {
          one_to_one =
              record {
                left_name = λ a b h. let r : (i : ℕ) × At S i a × At T i b = pairs-back S T a b h in names-back s r.0 a r.1;
                right_name = λ a b h. let r : (i : ℕ) × At S i a × At T i b = pairs-back S T a b h in names-back t r.0 b r.2;
                left_all = left_all;
                right_all = right_all;
                left_one = λ a b b' h k.
                    let r : (i : ℕ) × At S i a × At T i b = pairs-back S T a b h in
                    let o : (i : ℕ) × At S i a × At T i b' = pairs-back S T a b' k in
                    let n : r.0 ≡ o.0 = at-number S r.0 o.0 a (names-distinct s) r.1 o.1 in
                    at_leaf T o.0 b b' (subst (λ i. At T i b) n r.2) o.2;
                right_one = λ a a' b h k.
                    let r : (i : ℕ) × At S i a × At T i b = pairs-back S T a b h in
                    let o : (i : ℕ) × At S i a' × At T i b = pairs-back S T a' b k in
                    let n : r.0 ≡ o.0 = at-number T r.0 o.0 b (names-distinct t) r.2 o.2 in
                    at_leaf S o.0 a a' (subst (λ i. At S i a) n r.1) o.1;
              };
          forms = forms;
          classes = classes;
          first_carried = first_carried;
          rest_carried = rest_carried;
        }
