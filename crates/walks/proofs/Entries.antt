-- What the calls that read a store say of the tree at a handle and of its parts.
use Rattle.std.proofs.Common.{◌≡◌, ℕ, ◌<◌, ◌≤◌, List, map, length, get_or, Ok, Err, Result, sym, ap, ◌∙◌, ⊎_elim, arith}
use Rattle.std.proofs.lemmas.Bool.{cases_lt}
use Rattle.std.proofs.lemmas.List.{length-map, get_or-map}
use Rattle.theory.specs.declared.words.Facts.{Facts}
use Rattle.theory.specs.declared.words.Head.{Head}
use Rattle.theory.specs.declared.words.Node.{Node}
use Rattle.theory.specs.declared.words.StoreFault.{StoreFault}
use Rattle.theory.specs.declared.words.StoreFault.TheVariants.{NoSuch}
use Rattle.theory.specs.Outcomes.{given, ◌>>=◌}
use Rattle.theory.specs.Trees.{Tree, nil, parts, seen, facts}
use Rattle.theory.specs.Store.{OneHandle, found, handle, get, parts_at, facts_at}
use Rattle.theory.proofs.Steps.{never_ok, ok_one}
use Rattle.maps.proofs.Elements.{at_in, at_out}
use Rattle.terms.proofs.Places.{Below, below_more, below_at, handles-back}
use Rattle.terms.proofs.Formed.{OverParts}

pub found_in : (m : List Tree) (n : ℕ) → n < length m → found m n ≡ Ok (get_or m n nil)
found_in m n l = ap (λ o. given o (NoSuch n)) (at_in m n nil l)

found_out : (m : List Tree) (n : ℕ) → length m ≤ n → found m n ≡ Err (NoSuch n)
found_out m n l = ap (λ o. given o (NoSuch n)) (at_out m n l)

err_one : {A E : Type 0} (e f : E) → ◌≡◌ {A = Result A E} (Err e) (Err f) → e ≡ f
err_one e f q = cc

-- a call that asks something of the tree at a handle
module _ {X : Type 0} (m : List Tree) (n : ℕ) (ask : Tree → X) where
  pub asked_here : (x : X) → Ok x ≡ (found m n >>= λ t. Ok (ask t)) → (n < length m) × (x ≡ ask (get_or m n nil))
  asked_here x e =
      ⊎_elim
      (λ (l : n < length m). (l, ok_one x (ask (get_or m n nil)) (e ∙ ap (λ (r : Result Tree StoreFault). r >>= λ t. Ok (ask t)) (found_in m n l))))
      (λ (l : length m ≤ n). never_ok (NoSuch n) x (sym (e ∙ ap (λ (r : Result Tree StoreFault). r >>= λ t. Ok (ask t)) (found_out m n l))))
      (cases_lt n (length m))

  pub asked_missing : (f : StoreFault) → Err f ≡ (found m n >>= λ t. Ok (ask t)) → found m n ≡ Err f
  asked_missing f e =
      ⊎_elim
      (λ (l : n < length m). never_ok f (ask (get_or m n nil)) (e ∙ ap (λ (r : Result Tree StoreFault). r >>= λ t. Ok (ask t)) (found_in m n l)))
      (λ (l : length m ≤ n).
      found_out m n l ∙ ap Err (sym (err_one f (NoSuch n) (e ∙ ap (λ (r : Result Tree StoreFault). r >>= λ t. Ok (ask t)) (found_out m n l)))))
      (cases_lt n (length m))

module _ (m : List Tree) (n : ℕ) where
  pub get_here : (v : Node) → Ok v ≡ get m n → (n < length m) × (v ≡ seen (get_or m n nil))
  unfolding get
  get_here v e = asked_here m n seen v e

  pub get_missing : (f : StoreFault) → Err f ≡ get m n → found m n ≡ Err f
  unfolding get
  get_missing f e = asked_missing m n seen f e

  pub facts_here : (f : Facts) → Ok f ≡ facts_at m n → (n < length m) × (f ≡ facts (get_or m n nil))
  unfolding facts_at
  facts_here f e = asked_here m n facts f e

  pub facts_missing : (f : StoreFault) → Err f ≡ facts_at m n → found m n ≡ Err f
  unfolding facts_at
  facts_missing f e = asked_missing m n facts f e

-- Parts

module _ (m : List Tree) (n : ℕ) (l : n < length m) (h : Head) (o : OverParts m n h) where
  pub many_handles : length o.handles ≡ length (parts (get_or m n nil))
  many_handles = sym (ap length o.parts_are ∙ length-map o.handles (λ i. get_or m i nil))

  pub handle_in : (k : ℕ) → k < length o.handles → get_or o.handles k 0 < length m
  handle_in k lk = omega (arith, below_at n o.handles k o.before lk)

  -- the parts, by their handles; and the part at a place, as a tree
  pub parts_are : OneHandle m → parts_at m n ≡ Ok o.handles
  unfolding parts_at
  parts_are sole =
      let below : Below (length m) o.handles = below_more n (length m) o.handles (omega arith) o.before in
      ap (λ (r : Result Tree StoreFault). r >>= λ t. Ok (map (handle m) (parts t))) (found_in m n l)
      ∙ ap (λ ts. Ok (map (handle m) ts)) o.parts_are ∙ ap Ok (handles-back m o.handles sole below)

  pub part-tree : (k : ℕ) → k < length o.handles → get_or (parts (get_or m n nil)) k nil ≡ get_or m (get_or o.handles k 0) nil
  part-tree k lk = ap (λ ts. get_or ts k nil) o.parts_are ∙ get_or-map (λ i. get_or m i nil) o.handles k 0 nil lk
