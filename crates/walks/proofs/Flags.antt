-- A term whose flags show none of some bits has no leaf with one of them.
use Rattle.std.proofs.Common.{◌≡◌, ℕ, min, max, Bool, false, not, ◌||◌, None, refl, ap, ◌∙◌, arith}
use Rattle.std.specs.Int.{bit_at}
use Rattle.std.specs.Int.Bits.{bit_and, bit_or}
use Rattle.std.proofs.lemmas.Nat.Bits.{bit_at_and, bit_at_or, bit_at-zero, same_from_bits}
use Rattle.std.proofs.lemmas.Bool.{eq-eqb}
use Rattle.theory.specs.declared.words.Leaf.{Leaf}
use Rattle.theory.specs.Trees.{Tree, leaf, node, nil, cons, leaf_flags, flags}
use Rattle.theory.specs.Forms.{any}
use Rattle.walks.specs.Flagged.{or_else, flagged, if_so, first_leaf}

-- bits that two numbers have together, neither has
apart : (a b m : ℕ) → bit_and (bit_or a b) m ≡ 0 → (bit_and a m ≡ 0) × (bit_and b m ≡ 0)
apart a b m e =
    let none : (i : ℕ) → min (max (bit_at a i) (bit_at b i)) (bit_at m i) ≡ 0 =
    λ i. omega (arith, bit_at_and (bit_or a b) m i, bit_at_or a b i, ap (λ n. bit_at n i) e, bit_at-zero i)
    in (
      same_from_bits (bit_and a m) 0 (λ i. omega (arith, none i, bit_at_and a m i, bit_at-zero i)),
      same_from_bits (bit_and b m) 0 (λ i. omega (arith, none i, bit_at_and b m i, bit_at-zero i)),
    )

none_flagged : (bits : ℕ) (x : Leaf) → bit_and (leaf_flags x) bits ≡ 0 → flagged bits x ≡ false
none_flagged bits x e = ap not (eq-eqb (bit_and (leaf_flags x) bits) 0 e)

pub none_first : (bits : ℕ) (t : Tree) → bit_and (flags t) bits ≡ 0 → first_leaf (flagged bits) t ≡ None
unfolding first_leaf
none_first bits (leaf x) e = ap (λ b. if_so b x) (none_flagged bits x e)
none_first bits (node h ts) e = none_first bits ts e
none_first bits nil e = refl
none_first bits (cons t u) e =
    let a = apart (flags t) (flags u) bits e in
    ap (λ o. or_else o (first_leaf (flagged bits) u)) (none_first bits t a.0) ∙ none_first bits u a.1

-- some test of leaves that the bits show
pub none_any : (f : Leaf → Bool) (bits : ℕ) → ((x : Leaf) → bit_and (leaf_flags x) bits ≡ 0 → f x ≡ false) → (t : Tree) → bit_and (flags t) bits ≡ 0 → any f t ≡ false
unfolding any
none_any f bits shows (leaf x) e = shows x e
none_any f bits shows (node h ts) e = none_any f bits shows ts e
none_any f bits shows nil e = refl
none_any f bits shows (cons t u) e =
    let a = apart (flags t) (flags u) bits e in
    ap (λ b. b || any f u) (none_any f bits shows t a.0) ∙ none_any f bits shows u a.1
