-- A fold that has nothing to rewrite leaves tree, state and store as they are.
use Rattle.std.proofs.Common.{◌≡◌, ℕ, ◌+◌, Bool, true, false, ◌||◌, List, Ok, Result, refl, ap, ◌∙◌}
use Rattle.theory.specs.declared.words.Leaf.{Leaf}
use Rattle.theory.specs.declared.words.Head.{Head}
use Rattle.theory.specs.declared.words.StoreFault.{StoreFault}
use Rattle.theory.specs.Outcomes.{◌>>=◌, raised}
use Rattle.theory.specs.Trees.{Tree, leaf, node, nil, cons, applies, opens}
use Rattle.theory.specs.Forms.{any}
use Rattle.theory.specs.Store.{Contents}
use Rattle.theory.specs.Folds.{Folded, folded, rebuild, fold}
use Rattle.theory.proofs.Holding.{Held}
use Rattle.theory.proofs.Again.{ListHeld, rebuild-held}

-- every term inside is held, and so are the lists of arguments
abbrev pub Inside : List Tree → Tree → Type 0
Inside m (leaf x) = Unit {0}
Inside m (node h ts) = Held m (node h ts) × ListHeld (applies h) m ts × Inside m ts
Inside m nil = Unit {0}
Inside m (cons t u) = Inside m t × Inside m u

or_left : (a b : Bool) → a || b ≡ false → a ≡ false
or_left true b e = e
or_left false b e = refl

or_right : (a b : Bool) → a || b ≡ false → b ≡ false
or_right true b e = absurd (mathlib.Core.Bool.true≢false e)
or_right false b e = e

-- the folder refuses no head, and leaves the leaves alone that fail a test
module _ {S E : Type 0} (raise : StoreFault → E) (before : Head → Tree → Result (Unit {0}) E) (visit : ℕ → Leaf → S → Contents → Result (Folded S) E)
    (rewrites : Leaf → Bool) (free : (h : Head) (ts : Tree) → before h ts ≡ Ok tt)
    (alone : (d : ℕ) (x : Leaf) (s : S) (c : Contents) → rewrites x ≡ false → visit d x s c ≡ Ok (folded (leaf x) s c)) where
  pub fold_unchanged : (d : ℕ) (t : Tree) (s : S) (c : Contents) → any rewrites t ≡ false → Inside c.trees t → fold raise before visit d t s c ≡ Ok (folded t s c)
  unfolding fold any
  fold_unchanged d (leaf x) s c e i = alone d x s c e
  fold_unchanged d (node h ts) s c e i =
      ap (λ (o : Result (Unit {0}) E). o >>= λ _. fold raise before visit (d + opens h) ts s c >>= λ x. raised raise (rebuild h x)) (free h ts)
      ∙ ap (λ (o : Result (Folded S) E). o >>= λ x. raised raise (rebuild h x)) (fold_unchanged (d + opens h) ts s c e i.2)
      ∙ ap (raised raise) (rebuild-held h ts s c i.1 i.0)
  fold_unchanged d nil s c e i = refl
  fold_unchanged d (cons t u) s c e i =
      ap (λ (o : Result (Folded S) E). o >>= λ x. fold raise before visit d u x.state x.store >>= λ y. Ok (folded (cons x.tree y.tree) y.state y.store))
      (fold_unchanged d t s c (or_left (any rewrites t) (any rewrites u) e) i.0)
      ∙ ap (λ (o : Result (Folded S) E). o >>= λ y. Ok (folded (cons t y.tree) y.state y.store))
      (fold_unchanged d u s c (or_right (any rewrites t) (any rewrites u) e) i.1)
