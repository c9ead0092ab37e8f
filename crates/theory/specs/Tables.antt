-- Tables of names: the step that every canonicalizing walk takes at a leaf. A name becomes a canonical variable, of the number
-- that it has or of the next one; the first time its kind is listed.
use Rattle.std.specs.Prelude.{ℕ, suc, Bool, false, cond, List, [], ◌∷◌, ◌++◌, map, length, Ok, Err, Result, ◌==◌, nat_lt}
use Rattle.std.proofs.Math.Option.{Option, none, some, get_or}
use Rattle.theory.specs.declared.words.ArgSort.{ArgSort}
use Rattle.theory.specs.declared.words.ListSort.TheVariants.{Kinds}
use Rattle.theory.specs.declared.words.Kind.{Kind}
use Rattle.theory.specs.declared.words.Kind.TheVariants.{Ty as k_ty, Int as k_int, Float as k_float, Region as k_region, Const as k_const, Placeholder as k_placeholder}
use Rattle.theory.specs.declared.words.Leaf.{Leaf}
use Rattle.theory.specs.declared.words.Leaf.TheVariants.{Canonical, Kind as AKind}
use Rattle.theory.specs.declared.words.Head.TheVariants.{List as AList}
use Rattle.theory.specs.declared.words.StoreFault.{StoreFault}
use Rattle.theory.specs.Limits.{most_names}
use Rattle.theory.specs.Outcomes.{◌>>=◌, must, mustn't, raised, is_some, place_of}
use Rattle.theory.specs.Codes.{leaf?}
use Rattle.theory.specs.Trees.{Tree, leaf, node, row}
use Rattle.theory.specs.Store.{Contents, stored, stored_all}
use Rattle.theory.specs.Folds.{Folded, folded}
use Rattle.theory.specs.Forms.{any, is_canonical}
use Rattle.theory.specs.Faults.{unknown_variable, Fault, in_host, canonical_present, is_bound, type_in_environment, too_many_names, from_store}
use Rattle.theory.specs.Log.{Log, known, binding, leaf_ty, root}
use Rattle.theory.specs.Names.{Part, in_environment, elsewhere, in_response, Form, a_type, a_region, a_constant, an_integer, a_float, own_placeholder, a_placeholder, form_sort, decided}

-- the names in the order in which they are met, and their kinds
pub record Table : Type 0 where
  pub names : List Leaf
  pub kinds : List Kind

abbrev pub no_names : Table
no_names = record { names = []; kinds = [] }

-- the kind of a form, for a name with that sub root and that number
abbrev pub form_kind : Form → ℕ → ℕ → Kind
form_kind (a_type u) r i = k_ty u r
form_kind (a_region u) r i = k_region u
form_kind (a_constant u) r i = k_const u
form_kind an_integer r i = k_int
form_kind a_float r i = k_float
form_kind (own_placeholder a) r i = k_placeholder a 0 i
form_kind (a_placeholder a u n) r i = k_placeholder a u n

-- the first number of a type variable of a sub class, in a list that has one
abbrev pub of_class : Log → ℕ → Option ℕ → Bool
of_class l c none = false
of_class l c (some n) = root l n == c

abbrev pub first_of : Log → ℕ → List Leaf → ℕ
first_of l c [] = 0
first_of l c (x ∷ xs) = cond (of_class l c (leaf_ty x)) 0 (suc (first_of l c xs))

-- the sub root that a type variable gets behind the names before it
unfoldable pub sub_root : Log → List Leaf → Leaf → ℕ
sub_root l xs x = first_of l (root l (get_or (leaf_ty x) 0)) (xs ++ (x ∷ []))

-- a name is found, or entered; 15 for a name too many. `kind_at i` is its kind if i is its number.
abbrev pub enter_new : (ℕ → Kind) → Leaf → Table → Option ℕ → Result (ℕ × Table) Fault
enter_new kind_at x w (some i) = Ok (i, w)
enter_new kind_at x w none =
    must (nat_lt (length w.names) most_names) (too_many_names x) >>= λ _.
    Ok (length w.names, record { names = w.names ++ (x ∷ []); kinds = w.kinds ++ (kind_at (length w.names) ∷ []) })

unfoldable pub enter : (ℕ → Kind) → Leaf → Table → Result (ℕ × Table) Fault
enter kind_at x w = enter_new kind_at x w (place_of leaf? x w.names)

-- the name's number is known: its place gets the canonical variable, which is put in the store
unfoldable pub numbered : ArgSort → ℕ × Table → Contents → Result (Folded Table) Fault
numbered a r c =
    raised from_store (stored c (leaf (Canonical a r.0))) >>= λ d. Ok (folded (leaf (Canonical a r.0)) r.1 d)

-- a type variable in an environment
abbrev pub type_there : Part → Option ℕ → Bool
type_there in_environment o = is_some o
type_there elsewhere o = false
type_there in_response o = false

-- A leaf that is refused there; that stays; that is a name: at a name 4, 12, 13, 15, then 2.
abbrev pub leaf_as : Log → Part → Option Fault → Option Form → Leaf → Table → Contents → Result (Folded Table) Fault
leaf_as l p (some f) o x w c = Err f
leaf_as l p none none x w c = Ok (folded (leaf x) w c)
leaf_as l p none (some f) x w c =
    must (known l x) (in_host (unknown_variable x)) >>= λ _.
    mustn't (is_some (binding l x)) (is_bound x) >>= λ _.
    mustn't (type_there p (leaf_ty x)) (type_in_environment x) >>= λ _.
    enter (form_kind f (sub_root l w.names x)) x w >>= λ r.
    numbered (form_sort f) r c

-- the step at a leaf: `barred` says which leaves are refused whatever else holds, `universe` the universe that a kind is to have
unfoldable pub name_leaf : (Leaf → Option Fault) → (Leaf → ℕ) → Log → Part → ℕ → Leaf → Table → Contents → Result (Folded Table) Fault
name_leaf barred universe l p d x w c = leaf_as l p (barred x) (decided universe p x) x w c

-- 11: the first of some roots that holds a canonical variable
unfoldable pub no_canonical : List Tree → Result (Unit {0}) Fault
no_canonical [] = Ok tt
no_canonical (t ∷ ts) = mustn't (any is_canonical t) (canonical_present t) >>= λ _. no_canonical ts

abbrev pub kind_leaves : List Kind → List Tree
kind_leaves ks = map (λ k. leaf (AKind k)) ks

abbrev pub kinds_tree : List Kind → Tree
kinds_tree ks = node (AList Kinds) (row (kind_leaves ks))

-- kinds are put in order, then their list
unfoldable pub put_kinds : List Kind → Contents → Result Contents StoreFault
put_kinds ks c = stored_all c (kind_leaves ks) >>= λ d. stored d (kinds_tree ks)
