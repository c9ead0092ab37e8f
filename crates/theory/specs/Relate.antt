-- Relating two terms, with its checks: both in walk order, resolved at each step. A refusal leaves the host as it was.
-- A check is a walk of its own: it resolves each part and visits the leaves in order, with the count of binders above each.
use Rattle.std.specs.Prelude.{ℕ, zero, suc, ◌+◌, Bool, true, false, cond, Ok, Err, Result, ◌==◌, nat_le, nat_lt}
use Rattle.std.proofs.Math.Option.{Option, none, some}
use Rattle.theory.specs.declared.words.ArgSort.{ArgSort}
use Rattle.theory.specs.declared.words.ArgSort.TheVariants.{Ty as ty, Region as region, Const as const}
use Rattle.theory.specs.declared.words.VarSort.{VarSort}
use Rattle.theory.specs.declared.words.VarSort.TheVariants.{Ty as v_ty, Int as v_int, Float as v_float, Const as v_const}
use Rattle.theory.specs.declared.words.Sort.TheVariants.{Argument}
use Rattle.theory.specs.declared.words.Leaf.{Leaf}
use Rattle.theory.specs.declared.words.Leaf.TheVariants.{Variable, RegionVariable, Parameter, LateParameter, Placeholder, Bound, Canonical, Error, Static, Erased, Kind as AKind}
use Rattle.theory.specs.Limits.{most_levels}
use Rattle.theory.specs.Outcomes.{◌>>=◌, must, mustn't, test}
use Rattle.theory.specs.Codes.{leaf?, head?}
use Rattle.theory.specs.Trees.{Tree, leaf, node, nil, cons, tree?, same_sort, opens}
use Rattle.theory.specs.Forms.{sort_of, is_integer, is_floating, width}
use Rattle.theory.specs.Faults.{HostFault, too_deep, clash, inside_itself, above_universe, leaves_binder}
use Rattle.theory.specs.Log.{binds, lowered, equates, universe_of, resolve}
use Rattle.theory.specs.Host.{Host, push}

abbrev pub Visit : Type 0
Visit = ℕ → Leaf → Host → Result Host HostFault

abbrev pub walk_row : (Tree → Host → Result Host HostFault) → Tree → Host → Result Host HostFault
walk_row rec (leaf x) h = Ok h
walk_row rec (node k ts) h = Ok h
walk_row rec nil h = Ok h
walk_row rec (cons t u) h = rec t h >>= λ g. walk_row rec u g

abbrev pub walk_at : Visit → (ℕ → Tree → Host → Result Host HostFault) → ℕ → Tree → Host → Result Host HostFault
walk_at visit rec d (leaf x) h = visit d x h
walk_at visit rec d (node k ts) h = walk_row (rec (d + opens k)) ts h
walk_at visit rec d nil h = Ok h
walk_at visit rec d (cons t u) h = Ok h

-- n levels are left
unfoldable pub walk : Visit → ℕ → ℕ → Tree → Host → Result Host HostFault
walk visit zero d t h = Err (too_deep t)
walk visit (suc n) d t h = resolve h.log t >>= λ u. walk_at visit (walk visit n) d u h

-- 7: the variable stands inside its term
abbrev pub occurs : Leaf → Visit
occurs x d y h = mustn't (test (leaf? x y)) (inside_itself x) >>= λ a. Ok h

-- 9: a bound variable leaves its binder
abbrev pub escapes : Visit
escapes d (Variable s n) h = Ok h
escapes d (RegionVariable n) h = Ok h
escapes d (Parameter a n) h = Ok h
escapes d (LateParameter n) h = Ok h
escapes d (Placeholder a u n) h = Ok h
escapes d (Bound a k n) h = mustn't (nat_le d k) (leaves_binder (Bound a k n)) >>= λ x. Ok h
escapes d (Canonical a n) h = Ok h
escapes d (Error a) h = Ok h
escapes d Static h = Ok h
escapes d Erased h = Ok h
escapes d (AKind k) h = Ok h

-- 8: a placeholder type or constant above the universe u
abbrev pub above_as : ℕ → ArgSort → ℕ → ℕ → Host → Result Host HostFault
above_as u ty w n h = mustn't (nat_lt u w) (above_universe (Placeholder ty w n)) >>= λ x. Ok h
above_as u region w n h = Ok h
above_as u const w n h = mustn't (nat_lt u w) (above_universe (Placeholder const w n)) >>= λ x. Ok h

abbrev pub above : ℕ → Visit
above u d (Variable s n) h = Ok h
above u d (RegionVariable n) h = Ok h
above u d (Parameter a n) h = Ok h
above u d (LateParameter n) h = Ok h
above u d (Placeholder a w n) h = above_as u a w n h
above u d (Bound a k n) h = Ok h
above u d (Canonical a n) h = Ok h
above u d (Error a) h = Ok h
above u d Static h = Ok h
above u d Erased h = Ok h
above u d (AKind k) h = Ok h

-- each type or constant variable of a universe above u is lowered to u
abbrev pub lower_if : Bool → ℕ → Leaf → Host → Result Host HostFault
lower_if true u x h = push (lowered x u) h
lower_if false u x h = Ok h

abbrev pub lower_as : ℕ → VarSort → ℕ → Host → Result Host HostFault
lower_as u v_ty n h = lower_if (nat_lt u (universe_of h.log (Variable v_ty n))) u (Variable v_ty n) h
lower_as u v_int n h = Ok h
lower_as u v_float n h = Ok h
lower_as u v_const n h = lower_if (nat_lt u (universe_of h.log (Variable v_const n))) u (Variable v_const n) h

abbrev pub lowers : ℕ → Visit
lowers u d (Variable s n) h = lower_as u s n h
lowers u d (RegionVariable n) h = Ok h
lowers u d (Parameter a n) h = Ok h
lowers u d (LateParameter n) h = Ok h
lowers u d (Placeholder a w n) h = Ok h
lowers u d (Bound a k n) h = Ok h
lowers u d (Canonical a n) h = Ok h
lowers u d (Error a) h = Ok h
lowers u d Static h = Ok h
lowers u d Erased h = Ok h
lowers u d (AKind k) h = Ok h

-- a type or constant variable takes a term: checks 7, then 9, then 8, each a whole walk; then it is bound; then the lowerings
unfoldable pub takes_term : Leaf → Tree → Host → Result Host HostFault
takes_term x t h =
    walk (occurs x) most_levels 0 t h >>= λ a.
    walk escapes most_levels 0 t h >>= λ b.
    walk (above (universe_of h.log x)) most_levels 0 t h >>= λ c.
    push (binds x t) h >>= λ g.
    walk (lowers (universe_of h.log x)) most_levels 0 t g

-- a variable meets a term that is no variable; l is the left one of the two
unfoldable pub variable_takes : Tree → VarSort → ℕ → Tree → Host → Result Host HostFault
variable_takes l v_ty n t h = must (same_sort (Argument ty) (sort_of t)) (clash l) >>= λ a. takes_term (Variable v_ty n) t h
variable_takes l v_int n t h = must (is_integer t) (clash l) >>= λ a. push (binds (Variable v_int n) t) h
variable_takes l v_float n t h = must (is_floating t) (clash l) >>= λ a. push (binds (Variable v_float n) t) h
variable_takes l v_const n t h = must (same_sort (Argument const) (sort_of t)) (clash l) >>= λ a. takes_term (Variable v_const n) t h

-- the later variable x is bound to the earlier y, which is then lowered if its universe is larger
unfoldable pub younger : Leaf → Leaf → Host → Result Host HostFault
younger x y h =
    push (binds x (leaf y)) h >>= λ g.
    lower_if (nat_lt (universe_of h.log x) (universe_of h.log y)) (universe_of h.log x) y g

unfoldable pub two_of : VarSort → ℕ → ℕ → Host → Result Host HostFault
two_of s m n h = cond (nat_lt m n) (younger (Variable s n) (Variable s m) h) (younger (Variable s m) (Variable s n) h)

unfoldable pub two_vars : VarSort → ℕ → VarSort → ℕ → Host → Result Host HostFault
two_vars v_ty m v_ty n h = two_of v_ty m n h
two_vars v_ty m v_int n h = push (binds (Variable v_ty m) (leaf (Variable v_int n))) h
two_vars v_ty m v_float n h = push (binds (Variable v_ty m) (leaf (Variable v_float n))) h
two_vars v_ty m v_const n h = Err (clash (leaf (Variable v_ty m)))
two_vars v_int m v_ty n h = push (binds (Variable v_ty n) (leaf (Variable v_int m))) h
two_vars v_int m v_int n h = two_of v_int m n h
two_vars v_int m v_float n h = Err (clash (leaf (Variable v_int m)))
two_vars v_int m v_const n h = Err (clash (leaf (Variable v_int m)))
two_vars v_float m v_ty n h = push (binds (Variable v_ty n) (leaf (Variable v_float m))) h
two_vars v_float m v_int n h = Err (clash (leaf (Variable v_float m)))
two_vars v_float m v_float n h = two_of v_float m n h
two_vars v_float m v_const n h = Err (clash (leaf (Variable v_float m)))
two_vars v_const m v_ty n h = Err (clash (leaf (Variable v_const m)))
two_vars v_const m v_int n h = Err (clash (leaf (Variable v_const m)))
two_vars v_const m v_float n h = Err (clash (leaf (Variable v_const m)))
two_vars v_const m v_const n h = two_of v_const m n h

-- What relating makes of a leaf: a variable that is no region, a region not of bound form (its number, if it is a variable),
-- or anything else, which agrees with itself alone. A canonical region is not of bound form.
pub data Face : Type 0 where
  unbound : VarSort → ℕ → Face
  free : Option ℕ → Face
  rigid : Face

abbrev pub rigid_as : ArgSort → Face
rigid_as ty = rigid
rigid_as region = free none
rigid_as const = rigid

unfoldable pub face : Leaf → Face
face (Variable s n) = unbound s n
face (RegionVariable n) = free (some n)
face (Parameter a n) = rigid_as a
face (LateParameter n) = free none
face (Placeholder a u n) = rigid_as a
face (Bound a d n) = rigid
face (Canonical a n) = rigid_as a
face (Error a) = rigid_as a
face Static = free none
face Erased = free none
face (AKind k) = rigid

-- two distinct regions not of bound form are recorded as equal; of two region variables the later is then bound to the earlier
abbrev pub bind_regions : Option ℕ → Option ℕ → Host → Result Host HostFault
bind_regions none b h = Ok h
bind_regions (some a) none h = Ok h
bind_regions (some a) (some b) h =
    cond (nat_lt a b) (push (binds (RegionVariable b) (leaf (RegionVariable a))) h) (push (binds (RegionVariable a) (leaf (RegionVariable b))) h)

unfoldable pub two_regions : Bool → Leaf → Leaf → Option ℕ → Option ℕ → Host → Result Host HostFault
two_regions v x y a b h = push (equates v x y) h >>= λ g. bind_regions a b g

-- two distinct leaves
unfoldable pub two_leaves : Bool → Leaf → Leaf → Face → Face → Host → Result Host HostFault
two_leaves v x y (unbound s m) (unbound t n) h = two_vars s m t n h
two_leaves v x y (unbound s m) (free b) h = variable_takes (leaf x) s m (leaf y) h
two_leaves v x y (unbound s m) rigid h = variable_takes (leaf x) s m (leaf y) h
two_leaves v x y (free a) (unbound t n) h = variable_takes (leaf x) t n (leaf x) h
two_leaves v x y (free a) (free b) h = two_regions v x y a b h
two_leaves v x y (free a) rigid h = Err (clash (leaf x))
two_leaves v x y rigid (unbound t n) h = variable_takes (leaf x) t n (leaf x) h
two_leaves v x y rigid (free b) h = Err (clash (leaf x))
two_leaves v x y rigid rigid h = Err (clash (leaf x))

-- a leaf meets a node; l is the left one of the two
abbrev pub leaf_node : Tree → Face → Tree → Host → Result Host HostFault
leaf_node l (unbound s n) t h = variable_takes l s n t h
leaf_node l (free a) t h = Err (clash l)
leaf_node l rigid t h = Err (clash l)

-- two rows, part by part. (Where a row should stand and does not, its place is related as a term: the law of relating then needs
-- no premise of well-formedness.)
unfoldable pub relate_rows : (Tree → Tree → Host → Result Host HostFault) → Tree → Tree → Host → Result Host HostFault
relate_rows rec (leaf x) (leaf y) h = rec (leaf x) (leaf y) h
relate_rows rec (leaf x) (node k us) h = rec (leaf x) (node k us) h
relate_rows rec (leaf x) nil h = Err (clash (leaf x))
relate_rows rec (leaf x) (cons u v) h = Err (clash (leaf x))
relate_rows rec (node k ts) (leaf y) h = rec (node k ts) (leaf y) h
relate_rows rec (node k ts) (node j us) h = rec (node k ts) (node j us) h
relate_rows rec (node k ts) nil h = Err (clash (node k ts))
relate_rows rec (node k ts) (cons u v) h = Err (clash (node k ts))
relate_rows rec nil (leaf y) h = Err (clash nil)
relate_rows rec nil (node j us) h = Err (clash nil)
relate_rows rec nil nil h = Ok h
relate_rows rec nil (cons u v) h = Err (clash nil)
relate_rows rec (cons s t) (leaf y) h = Err (clash (cons s t))
relate_rows rec (cons s t) (node j us) h = Err (clash (cons s t))
relate_rows rec (cons s t) nil h = Err (clash (cons s t))
relate_rows rec (cons s t) (cons u v) h = rec s u h >>= λ g. relate_rows rec t v g

-- two distinct terms, resolved; heads and lengths are compared before any part
unfoldable pub differ : Bool → (Tree → Tree → Host → Result Host HostFault) → Tree → Tree → Host → Result Host HostFault
differ v rec (leaf x) (leaf y) h = two_leaves v x y (face x) (face y) h
differ v rec (leaf x) (node k us) h = leaf_node (leaf x) (face x) (node k us) h
differ v rec (leaf x) nil h = Err (clash (leaf x))
differ v rec (leaf x) (cons s t) h = Err (clash (leaf x))
differ v rec (node k ts) (leaf y) h = leaf_node (node k ts) (face y) (node k ts) h
differ v rec (node k ts) (node j us) h =
    must (test (head? k j)) (clash (node k ts)) >>= λ a.
    must (width ts == width us) (clash (node k ts)) >>= λ b.
    relate_rows rec ts us h
differ v rec (node k ts) nil h = Err (clash (node k ts))
differ v rec (node k ts) (cons s t) h = Err (clash (node k ts))
differ v rec nil (leaf y) h = Err (clash nil)
differ v rec nil (node j us) h = Err (clash nil)
differ v rec nil nil h = Err (clash nil)
differ v rec nil (cons u w) h = Err (clash nil)
differ v rec (cons s t) (leaf y) h = Err (clash (cons s t))
differ v rec (cons s t) (node j us) h = Err (clash (cons s t))
differ v rec (cons s t) nil h = Err (clash (cons s t))
differ v rec (cons s t) (cons u w) h = relate_rows rec (cons s t) (cons u w) h

-- relating with n levels left; region records carry the flag v
abbrev pub unless_same : Bool → Bool → (Tree → Tree → Host → Result Host HostFault) → Tree → Tree → Host → Result Host HostFault
unless_same true v rec s t h = Ok h
unless_same false v rec s t h = differ v rec s t h

unfoldable pub relate_in : Bool → ℕ → Tree → Tree → Host → Result Host HostFault
relate_in v zero s t h = Err (too_deep s)
relate_in v (suc n) s t h =
    resolve h.log s >>= λ x.
    resolve h.log t >>= λ y.
    unless_same (test (tree? x y)) v (relate_in v n) x y h

unfoldable pub relate : Tree → Tree → Host → Result Host HostFault
relate s t h = relate_in true most_levels s t h

-- two regions are equated as relating does, with a visibility
unfoldable pub equate : Bool → Tree → Tree → Host → Result Host HostFault
equate v s t h = relate_in v most_levels s t h
