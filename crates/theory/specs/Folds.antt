-- The one fold: a tree is rewritten in walk order, parts before wholes, and each rebuilt term is put in the store: the list
-- of its arguments first, where it has one, then the term. What a folder does at a leaf, and before a head, is given.
-- A part that a fold does not change is held already, so that a program may leave it alone by its flags, or take the
-- result for a part that it met before from a cache.
use Rattle.std.specs.Prelude.{ℕ, ◌+◌, Bool, true, false, List, [], ◌∷◌, Ok, Result}
use Rattle.theory.specs.declared.words.ListSort.TheVariants.{Arguments}
use Rattle.theory.specs.declared.words.Leaf.{Leaf}
use Rattle.theory.specs.declared.words.Head.{Head}
use Rattle.theory.specs.declared.words.Head.TheVariants.{List as AList}
use Rattle.theory.specs.declared.words.StoreFault.{StoreFault}
use Rattle.theory.specs.Outcomes.{◌>>=◌, raised}
use Rattle.theory.specs.Trees.{Tree, leaf, node, nil, cons, applies, opens}
use Rattle.theory.specs.Store.{Contents, put}

-- what a step leaves: a tree, the folder's own state, the store
pub record Folded (S : Type 0) : Type 0 where
  pub tree : Tree
  pub state : S
  pub store : Contents

abbrev pub folded : {S : Type 0} → Tree → S → Contents → Folded S
folded t s c = record { tree = t; state = s; store = c }

pub record FoldedAll (S : Type 0) : Type 0 where
  pub trees : List Tree
  pub state : S
  pub store : Contents

abbrev pub folded_all : {S : Type 0} → List Tree → S → Contents → FoldedAll S
folded_all ts s c = record { trees = ts; state = s; store = c }

-- the list of its arguments, for a head that stands over one
abbrev pub put_list : Bool → Tree → Contents → Result Contents StoreFault
put_list true ts c = put c (node (AList Arguments) ts) >>= λ r. Ok r.1
put_list false ts c = Ok c

-- a head over a row that is folded already
unfoldable pub rebuild : {S : Type 0} → Head → Folded S → Result (Folded S) StoreFault
rebuild h f =
    put_list (applies h) f.tree f.store >>= λ c.
    put c (node h f.tree) >>= λ r.
    Ok (folded (node h f.tree) f.state r.1)

-- a folder: what it does before a head over a row, and at a leaf with the count of binders above it
module _ {S E : Type 0} (raise : StoreFault → E) (before : Head → Tree → Result (Unit {0}) E) (visit : ℕ → Leaf → S → Contents → Result (Folded S) E) where
  unfoldable pub fold : ℕ → Tree → S → Contents → Result (Folded S) E
  fold d (leaf x) s c = visit d x s c
  fold d (node h ts) s c = before h ts >>= λ _. fold (d + opens h) ts s c >>= λ f. raised raise (rebuild h f)
  fold d nil s c = Ok (folded nil s c)
  fold d (cons t u) s c =
      fold d t s c >>= λ f.
      fold d u f.state f.store >>= λ g.
      Ok (folded (cons f.tree g.tree) g.state g.store)

  -- root by root
  unfoldable pub fold_all : List Tree → S → Contents → Result (FoldedAll S) E
  fold_all [] s c = Ok (folded_all [] s c)
  fold_all (t ∷ ts) s c =
      fold 0 t s c >>= λ f.
      fold_all ts f.state f.store >>= λ g.
      Ok (folded_all (f.tree ∷ g.trees) g.state g.store)

-- nothing is refused before a head
abbrev pub anywhere : {E : Type 0} → Head → Tree → Result (Unit {0}) E
anywhere h ts = Ok tt
