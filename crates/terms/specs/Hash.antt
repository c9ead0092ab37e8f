-- The hash of an entry: a function of its form and parts. Nothing rests on which one it is.
use lib.Pointwise.{pointwise}
use Rattle.std.specs.Prelude.{◌≡◌, ℕ, ◌++◌, List, [], ◌∷◌, true, nat_eq, refl}
use Rattle.std.proofs.Common.{sym}
use Rattle.std.proofs.lemmas.Bool.{true≢false, eqb-true}
use Rattle.std.specs.Cmp.{first_so, second_so}
use Rattle.std.specs.List.{flat_map}
use Rattle.std.specs.Hash as fed
use Rattle.std.specs.Hash.{HashWrites}
use Rattle.theory.specs.declared.words.Node.{Node}
use Rattle.theory.specs.contracts.words.NodeHash.TheImpl.{ghosts as node_hash}
use Rattle.maps.specs.Keys.{digest}

-- what a form over parts feeds a hasher
abbrev pub fed_by : Node × List ℕ → HashWrites
fed_by c = node_hash.hash_input c.0 ++ flat_map fed.u32 c.1

unfoldable pub hashed : Node → List ℕ → ℕ
hashed v ns = digest fed_by (v, ns)

-- equal parts are fed alike
pub parts_fed : (xs ys : List ℕ) → pointwise nat_eq xs ys ≡ true → flat_map fed.u32 xs ≡ flat_map fed.u32 ys
parts_fed [] [] e = refl
parts_fed [] (y ∷ ys) e = absurd (true≢false (sym e))
parts_fed (x ∷ xs) [] e = absurd (true≢false (sym e))
parts_fed (x ∷ xs) (y ∷ ys) e =
    λ i. fed.u32 (eqb-true x y (first_so (nat_eq x y) (pointwise nat_eq xs ys) e) i) ++ parts_fed xs ys (second_so (nat_eq x y) (pointwise nat_eq xs ys) e) i
