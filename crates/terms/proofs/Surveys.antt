-- What one pass over the parts of a new term finds is what its tree says.
use Rattle.std.proofs.Common.{◌≡◌, ℕ, suc, ◌+◌, ◌<◌, ◌≤◌, Bool, true, false, cond, ltb, List, [], ◌∷◌, length, get_or, drop, Ok, Err, Result, sym, refl, ap, ◌∙◌, ⊎_elim, add-one, arith}
use Rattle.std.proofs.lemmas.List.{drop_more, drop_all}
use Rattle.theory.specs.declared.words.Node.{Node}
use mathlib.Core.Option.{Option, none, some}
use native.Mathlib.Nat.{max-zero, zero-max}
use Rattle.std.specs.Int.Bits.{bit_or, or_zero_r}
use Rattle.std.proofs.lemmas.Nat.Bits.{bit_at_or, same_from_bits}
use Rattle.std.proofs.lemmas.Bool.{cases_Bool, cond-true, cond-false, lt-ltb, le-ltb}
use Rattle.theory.specs.declared.words.Head.{Head}
use Rattle.theory.specs.declared.words.Head.TheVariants.{List as AList}
use Rattle.theory.specs.declared.words.ListSort.TheVariants.{Arguments}
use Rattle.theory.specs.declared.words.Facts.{Facts}
use Rattle.theory.specs.declared.words.StoreFault.{StoreFault}
use Rattle.theory.specs.declared.words.StoreFault.TheVariants.{NoSuch, BadPart}
use Rattle.theory.specs.Outcomes.{at, given, ◌>>=◌, answered}
use Rattle.theory.specs.Trees.{Tree, node, row, applies, assembled, seen, takes, least, facts}
use Rattle.theory.specs.Store.{Contents, checked, checked_at, put, add_node, get, facts_at}
use Rattle.terms.specs.Memory.{accepted}
use Rattle.terms.specs.Survey.{no_facts, beside, topped, surveyed, surveyed_at, Passed}
use Rattle.terms.proofs.Places.{trees-at}
use Rattle.terms.proofs.Fits.{accepted-trees, one_list}

-- Bits: or is associative

or_assoc : (a b c : ℕ) → bit_or (bit_or a b) c ≡ bit_or a (bit_or b c)
or_assoc a b c = same_from_bits _ _ (λ i. omega (arith, bit_at_or (bit_or a b) c i, bit_at_or a b i, bit_at_or a (bit_or b c) i, bit_at_or b c i))

-- Facts of rows

abbrev made_of : ℕ → ℕ → ℕ → Facts
made_of a b c = record { height = a; flags = record { bits = b }; outer = c }

same_facts : (a b c d e f : ℕ) → a ≡ d → b ≡ e → c ≡ f → made_of a b c ≡ made_of d e f
same_facts a b c d e f p q r = ap (λ k. made_of k b c) p ∙ ap (λ k. made_of d k c) q ∙ ap (λ k. made_of d e k) r

beside_assoc : (f g h : Facts) → beside (beside f g) h ≡ beside f (beside g h)
beside_assoc f g h =
    same_facts _ _ _ _ _ _ (omega arith) (or_assoc f.flags.bits g.flags.bits h.flags.bits) (omega arith)

beside_none : (f : Facts) → beside f no_facts ≡ f
beside_none f = same_facts _ _ _ _ _ _ (max-zero f.height) (or_zero_r f.flags.bits) (max-zero f.outer)

none_beside : (f : Facts) → beside no_facts f ≡ f
none_beside f = same_facts _ _ _ _ _ _ (zero-max f.height) refl (zero-max f.outer)

-- of one tree after another
abbrev row-found : Facts → List Tree → Facts
row-found f [] = f
row-found f (t ∷ ts) = row-found (beside f (facts t)) ts

row_found_is : (f : Facts) (ts : List Tree) → row-found f ts ≡ beside f (facts (row ts))
row_found_is f [] = sym (beside_none f)
row_found_is f (t ∷ ts) = row_found_is (beside f (facts t)) ts ∙ beside_assoc f (facts t) (facts (row ts))

-- The pass, and the checks of the definition

abbrev After : Head → Facts → Result (List Tree) StoreFault → Result Facts StoreFault
After h f r = r >>= λ ts. Ok (topped h (row-found f ts))

end_is : (h : Head) (f : Facts) (g : StoreFault) (b : Bool) → cond b (Err g) (Ok (topped h f)) ≡ After h f (cond b (Err g) (Ok []))
end_is h f g true = refl
end_is h f g false = refl

more_is : (h : Head) (f : Facts) (t : Tree) (r : Result (List Tree) StoreFault) → After h (beside f (facts t)) r ≡ After h f (r >>= λ ts. Ok (t ∷ ts))
more_is h f t (Ok ts) = refl
more_is h f t (Err g) = refl

taken_is : (h : Head) (k : ℕ) (f : Facts) (t : Tree) (r : Result (List Tree) StoreFault) (q : Result Facts StoreFault) → q ≡ After h (beside f (facts t)) r → (b : Bool) → cond b q (Err (BadPart k)) ≡ After h f (cond b (r >>= λ ts. Ok (t ∷ ts)) (Err (BadPart k)))
taken_is h k f t r q e true = e ∙ more_is h f t r
taken_is h k f t r q e false = refl

one_is : (h : Head) (k n : ℕ) (f : Facts) (r : Result (List Tree) StoreFault) (q : Facts → Result Facts StoreFault) → ((g : Facts) → q g ≡ After h g r) → (o : Option Tree) → surveyed_at h k n o q f ≡ After h f (checked_at h k n o r)
one_is h k n f r q e none = refl
one_is h k n f r q e (some t) = taken_is h k f t r (q (beside f (facts t))) (e (beside f (facts t))) (takes h k (seen t))

pub surveyed_is : (m : List Tree) (h : Head) (k : ℕ) (ns : List ℕ) (f : Facts) → surveyed m h k ns f ≡ After h f (checked m h k ns)
surveyed_is m h k [] f = end_is h f (BadPart k) (ltb k (least h))
surveyed_is m h k (n ∷ ns) f = one_is h k n f (checked m h (suc k) ns) (surveyed m h (suc k) ns) (surveyed_is m h (suc k) ns) (at m n)

-- what is found of a head over a row is found of the tree
topped_is : (m : List Tree) (h : Head) (ns : List ℕ) → accepted (checked m h 0 ns) ≡ true → topped h (facts (row (trees-at m ns))) ≡ facts (assembled h (trees-at m ns))
unfolding assembled
topped_is m h ns e =
    ⊎_elim
    (λ (a : applies h ≡ true).
    let o = one_list m h ns a e in
    let us = o.0 in
    let is : trees-at m ns ≡ node (AList Arguments) us ∷ [] = o.1 in
    let flat : beside (facts (node (AList Arguments) us)) no_facts ≡ facts us = beside_none (facts (node (AList Arguments) us)) ∙ same_facts _ _ _ _ _ _ (omega arith) refl (omega arith) in
    rw (is, a) (ap (topped h) flat))
    (λ (a : applies h ≡ false). rw a refl)
    (cases_Bool (applies h))

answer_ok : (h : Head) (f : Facts) (r : Result (List Tree) StoreFault) → After h no_facts r ≡ Ok f → accepted r ≡ true
answer_ok h f (Ok ts) e = refl
answer_ok h f (Err g) e = let z : ◌≡◌ {A = ℕ} 0 1 = cc in absurd (omega arith)

answer_err : (h : Head) (g : StoreFault) (r : Result (List Tree) StoreFault) → After h no_facts r ≡ Err g → r ≡ Err g
answer_err h g (Ok ts) e = let z : ◌≡◌ {A = ℕ} 0 1 = cc in absurd (omega arith)
answer_err h g (Err f) e = let z : f ≡ g = cc in ap Err z

module _ (m : List Tree) (h : Head) (ns : List ℕ) where
  pub survey_ok : (f : Facts) → Ok f ≡ surveyed m h 0 ns no_facts → (accepted (checked m h 0 ns) ≡ true) × (f ≡ facts (assembled h (trees-at m ns)))
  survey_ok f e =
      let a : accepted (checked m h 0 ns) ≡ true = answer_ok h f (checked m h 0 ns) (sym (e ∙ surveyed_is m h 0 ns no_facts)) in
      let c : checked m h 0 ns ≡ Ok (trees-at m ns) = accepted-trees m h 0 ns a in
      let same : Ok f ≡ Ok (topped h (row-found no_facts (trees-at m ns))) = e ∙ surveyed_is m h 0 ns no_facts ∙ ap (After h no_facts) c in
      let own : f ≡ topped h (row-found no_facts (trees-at m ns)) = cc in
      (a, own ∙ ap (topped h) (row_found_is no_facts (trees-at m ns) ∙ none_beside (facts (row (trees-at m ns)))) ∙ topped_is m h ns a)

  pub survey_err : (g : StoreFault) → Err g ≡ surveyed m h 0 ns no_facts → checked m h 0 ns ≡ Err g
  survey_err g e = answer_err h g (checked m h 0 ns) (sym (e ∙ surveyed_is m h 0 ns no_facts))

-- What the pass tells the call that adds

module _ (c : Contents) (h : Head) (ns : List ℕ) where
  pub pass_refused : (g : StoreFault) → Err g ≡ surveyed c.trees h 0 ns no_facts → Passed c h ns (Err g)
  unfolding add_node
  pass_refused g e =
      ap (λ (r : Result (List Tree) StoreFault). answered c (r >>= λ ts. put c (assembled h ts))) (sym (survey_err c.trees h ns g e))

  pub pass_accepted : (f : Facts) → Ok f ≡ surveyed c.trees h 0 ns no_facts → Passed c h ns (Ok f)
  unfolding add_node
  pass_accepted f e =
      let o = survey_ok c.trees h ns f e in (
        o.0,
        o.1,
        ap (λ (r : Result (List Tree) StoreFault). answered c (r >>= λ ts. put c (assembled h ts))) (sym (accepted-trees c.trees h 0 ns o.0)),
      )

-- One turn of the pass, by what is read at the handle

module _ (h : Head) (k n : ℕ) (q : Facts → Result Facts StoreFault) (f : Facts) where
  missing_at : (o : Option Tree) (g : StoreFault) → Err g ≡ (given o (NoSuch n) >>= λ t. Ok (seen t)) → Err g ≡ surveyed_at h k n o q f
  missing_at none g e = let same : g ≡ NoSuch n = cc in ap Err same
  missing_at (some t) g e = let z : ◌≡◌ {A = ℕ} 0 1 = cc in absurd (omega arith)

  bad_at : (o : Option Tree) (v : Node) → Ok v ≡ (given o (NoSuch n) >>= λ t. Ok (seen t)) → takes h k v ≡ false → Err (BadPart k) ≡ surveyed_at h k n o q f
  bad_at none v e b = let z : ◌≡◌ {A = ℕ} 0 1 = cc in absurd (omega arith)
  bad_at (some t) v e b =
      let form : v ≡ seen t = cc in
      let no : takes h k (seen t) ≡ false = ap (takes h k) (sym form) ∙ b in
      rw no refl

  more_at : (o : Option Tree) (v : Node) (own : Facts) → Ok v ≡ (given o (NoSuch n) >>= λ t. Ok (seen t)) → Ok own ≡ (given o (NoSuch n) >>= λ t. Ok (facts t)) → takes h k v ≡ true → q (beside f own) ≡ surveyed_at h k n o q f
  more_at none v own e d b = let z : ◌≡◌ {A = ℕ} 0 1 = cc in absurd (omega arith)
  more_at (some t) v own e d b =
      let form : v ≡ seen t = cc in
      let found : own ≡ facts t = cc in
      let yes : takes h k (seen t) ≡ true = ap (takes h k) (sym form) ∙ b in
      rw (found, yes) refl

-- at place k of the parts
module _ (m : List Tree) (h : Head) (k : ℕ) (ns : List ℕ) (l : k < length ns) (f : Facts) where
  here : surveyed m h k (drop k ns) f ≡ surveyed_at h k (get_or ns k 0) (at m (get_or ns k 0)) (surveyed m h (suc k) (drop (k + 1) ns)) f
  here = ap (λ xs. surveyed m h k xs f) (drop_more ns k 0 l)

  pub step_missing : (g : StoreFault) → Err g ≡ get m (get_or ns k 0) → Err g ≡ surveyed m h k (drop k ns) f
  unfolding get
  step_missing g e = missing_at h k (get_or ns k 0) (surveyed m h (suc k) (drop (k + 1) ns)) f (at m (get_or ns k 0)) g e ∙ sym here

  pub step_bad : (v : Node) → Ok v ≡ get m (get_or ns k 0) → takes h k v ≡ false → Err (BadPart k) ≡ surveyed m h k (drop k ns) f
  unfolding get
  step_bad v e b = bad_at h k (get_or ns k 0) (surveyed m h (suc k) (drop (k + 1) ns)) f (at m (get_or ns k 0)) v e b ∙ sym here

  pub step_more : (v : Node) (own : Facts) → Ok v ≡ get m (get_or ns k 0) → Ok own ≡ facts_at m (get_or ns k 0) → takes h k v ≡ true → surveyed m h (k + 1) (drop (k + 1) ns) (beside f own) ≡ surveyed m h k (drop k ns) f
  unfolding get facts_at
  step_more v own e d b =
      ap (λ j. surveyed m h j (drop (k + 1) ns) (beside f own)) (add-one k)
      ∙ more_at h k (get_or ns k 0) (surveyed m h (suc k) (drop (k + 1) ns)) f (at m (get_or ns k 0)) v own e d b ∙ sym here

-- after the last part
module _ (m : List Tree) (h : Head) (k : ℕ) (ns : List ℕ) (all : length ns ≡ k) (f : Facts) where
  past : surveyed m h k (drop k ns) f ≡ surveyed m h k [] f
  past = ap (λ xs. surveyed m h k xs f) (drop_all k ns (omega arith))

  pub end_bad : length ns < least h → Err (BadPart (length ns)) ≡ surveyed m h k (drop k ns) f
  end_bad less =
      ap (λ n. Err (BadPart n)) all
      ∙ sym (past ∙ cond-true (ltb k (least h)) (Err (BadPart k)) (Ok (topped h f)) (lt-ltb k (least h) (omega arith)))

  pub end_ok : least h ≤ length ns → Ok (topped h f) ≡ surveyed m h k (drop k ns) f
  end_ok more = sym (past ∙ cond-false (ltb k (least h)) (Err (BadPart k)) (Ok (topped h f)) (le-ltb k (least h) (omega arith)))
