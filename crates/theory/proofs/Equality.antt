-- What a derived `==` answers at the words is true of equal values alone.
use Rattle.std.proofs.Common.{◌≡◌, ℕ, Bool, true, false, ◌&&◌, ◌==◌, List, [], ◌∷◌, refl, sym, ap, inl, inr}
use Rattle.std.proofs.lemmas.Bool.{eqb-true, true≢false}
use Rattle.std.specs.Bool.{beq}
use Rattle.std.specs.Cmp.{first_so, second_so, booleans_Decides}
use denote.Struct.Field.{Field}
use denote.Enum.Declared.{Record, Choice, values_one}
use denote.Enum.Compared.{Each, by}
use denote.Enum.Bare.{same_true}
use Rattle.theory.specs.contracts.words.ArgSort.{the_type as arg_sorts}
use Rattle.theory.specs.contracts.words.VarSort.{the_type as var_sorts}
use Rattle.theory.specs.contracts.words.ListSort.{the_type as list_sorts}
use Rattle.theory.specs.contracts.words.Kind.{enum as kinds}
use Rattle.theory.specs.contracts.words.Leaf.{enum as leaves}
use Rattle.theory.specs.contracts.words.Head.{enum as heads}
use Rattle.theory.specs.contracts.words.Node.{enum as nodes}
use Rattle.theory.specs.contracts.words.ArgSortPartialEq.TheImpl.{ghosts as arg_sort_eq}
use Rattle.theory.specs.contracts.words.VarSortPartialEq.TheImpl.{ghosts as var_sort_eq}
use Rattle.theory.specs.contracts.words.ListSortPartialEq.TheImpl.{ghosts as list_sort_eq}
use Rattle.theory.specs.contracts.words.KindPartialEq.TheImpl.{ghosts as kind_eq}
use Rattle.theory.specs.contracts.words.LeafPartialEq.TheImpl.{ghosts as leaf_eq}
use Rattle.theory.specs.contracts.words.HeadPartialEq.TheImpl.{ghosts as head_eq}
use Rattle.theory.specs.contracts.words.NodePartialEq.TheImpl.{ghosts as node_eq}

-- a test that is true of equal values alone; it is a record so that its type tells the test
pub record IsHonest {K : Type 0} (E : K → K → Bool) : Type 0 where
  pub same : (x y : K) → E x y ≡ true → x ≡ y

-- The fields of a variant, and the variants of an enum

no_field : IsHonest (λ (x y : Unit {0}). true)
no_field = record { same = λ x y e. refl }

module _ {A : Type 0} {E : A → A → Bool} (a : IsHonest E) where
  one_field : IsHonest (λ (x y : A × Unit {0}). E x.0 y.0)
  one_field = record { same = λ x y e. let p = a.same x.0 y.0 e in λ i. (p i, tt) }

  module _ {B : Type 0} {F : B → B → Bool} (b : IsHonest F) where
    two_fields : IsHonest (λ (x y : A × (B × Unit {0})). E x.0 y.0 && F x.1.0 y.1.0)
    two_fields =
        record {
          same = λ x y e.
              let p = a.same x.0 y.0 (first_so (E x.0 y.0) (F x.1.0 y.1.0) e) in
              let q = b.same x.1.0 y.1.0 (second_so (E x.0 y.0) (F x.1.0 y.1.0) e) in
              λ i. (p i, (q i, tt));
        }

    module _ {C : Type 0} {G : C → C → Bool} (c : IsHonest G) where
      three_fields : IsHonest (λ (x y : A × (B × (C × Unit {0}))). E x.0 y.0 && (F x.1.0 y.1.0 && G x.1.1.0 y.1.1.0))
      three_fields =
          record {
            same = λ x y e.
                let f = F x.1.0 y.1.0 in
                let g = G x.1.1.0 y.1.1.0 in
                let p = a.same x.0 y.0 (first_so (E x.0 y.0) (f && g) e) in
                let r = second_so (E x.0 y.0) (f && g) e in
                let q = b.same x.1.0 y.1.0 (first_so f g r) in
                let s = c.same x.1.1.0 y.1.1.0 (second_so f g r) in
                λ i. (p i, (q i, (s i, tt)));
          }

abbrev AllHonest : (Fss : List (List Field)) → Each Bool Fss → Type 0
AllHonest [] es = Unit {0}
AllHonest (Fs ∷ Fss) es = IsHonest es.0 × AllHonest Fss es.1

choices_same : (Fss : List (List Field)) (es : Each Bool Fss) → AllHonest Fss es → (c d : Choice Fss) → by false false Fss es c d ≡ true → c ≡ d
choices_same [] es all c d h = absurd c
choices_same (Fs ∷ Fss) es all (inl x) (inl y) h = ap inl (all.0.same x y h)
choices_same (Fs ∷ Fss) es all (inl x) (inr y) h = absurd (true≢false (sym h))
choices_same (Fs ∷ Fss) es all (inr x) (inl y) h = absurd (true≢false (sym h))
choices_same (Fs ∷ Fss) es all (inr x) (inr y) h = ap inr (choices_same Fss es.1 all.1 x y h)

honest_by : (N : Record) (es : Each Bool N.parts) → AllHonest N.parts es → IsHonest (λ x y. by false false N.parts es (N.as_values x) (N.as_values y))
honest_by N es all =
    record { same = λ x y h. values_one N x y (choices_same N.parts es all (N.as_values x) (N.as_values y) h) }

-- The words

numbers : IsHonest (λ (x y : ℕ). x == y)
numbers = record { same = λ x y e. eqb-true x y e }

bools : IsHonest beq
bools = record { same = λ x y e. (booleans_Decides x y).0 e }

honest_arg_sort : IsHonest arg_sort_eq.eq
honest_arg_sort = record { same = same_true arg_sorts tt }

honest_var_sort : IsHonest var_sort_eq.eq
honest_var_sort = record { same = same_true var_sorts tt }

honest_list_sort : IsHonest list_sort_eq.eq
honest_list_sort = record { same = same_true list_sorts tt }

pub honest_kind : IsHonest kind_eq.eq
honest_kind = honest_by kinds _ (two_fields numbers numbers, (no_field, (no_field, (one_field numbers, (one_field numbers, (three_fields honest_arg_sort numbers numbers, tt))))))

pub honest_leaf : IsHonest leaf_eq.eq
honest_leaf =
    honest_by leaves _ (
      two_fields honest_var_sort numbers,
      (one_field numbers, (two_fields honest_arg_sort numbers, (one_field numbers, (three_fields honest_arg_sort numbers numbers, (three_fields honest_arg_sort numbers numbers, (two_fields honest_arg_sort numbers, (one_field honest_arg_sort, (no_field, (no_field, (one_field honest_kind, tt)))))))))),
    )

pub honest_head : IsHonest head_eq.eq
honest_head =
    honest_by heads _ (
      one_field numbers,
      (one_field numbers, (one_field numbers, (one_field numbers, (one_field numbers, (two_fields numbers numbers, (no_field, (no_field, (one_field bools, (one_field bools, (one_field honest_list_sort, tt)))))))))),
    )

pub honest_node : IsHonest node_eq.eq
honest_node = honest_by nodes _ (one_field honest_leaf, (two_fields honest_head numbers, tt))
