-- Lists of one and of two elements, by their elements: the roots of one term and of a pair.
use Rattle.std.specs.Prelude.{◌≡◌, ℕ, List, [], ◌∷◌, length, slice_index, refl}
use Rattle.std.proofs.Common.{arith}

pub one_element : (rs : List ℕ) → length rs ≡ 1 → slice_index rs 0 ∷ [] ≡ rs
one_element [] e = absurd (omega arith)
one_element (r ∷ []) e = refl
one_element (r ∷ q ∷ rs) e = absurd (omega arith)

pub two_elements : (rs : List ℕ) → length rs ≡ 2 → slice_index rs 0 ∷ slice_index rs 1 ∷ [] ≡ rs
two_elements [] e = absurd (omega arith)
two_elements (r ∷ []) e = absurd (omega arith)
two_elements (r ∷ q ∷ []) e = refl
two_elements (r ∷ q ∷ p ∷ rs) e = absurd (omega arith)
