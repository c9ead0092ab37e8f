-- What is read of an entry is what its tree says.
use Rattle.std.proofs.Common.{◌≡◌, ℕ, ◌+◌, ◌<◌, ◌≤◌, zero, suc, eqb, List, [], ◌∷◌, map, length, get_or, take, drop, Ok, Err, Result, sym, refl, ap, ◌∙◌, subst, arith}
use mathlib.Core.Option.{none, some}
use Rattle.std.specs.List.{slice_get}
use Rattle.std.specs.Option.{ok_or}
use Rattle.std.proofs.lemmas.List.{drop-take, take-take}
use Rattle.std.proofs.lemmas.Bool.{eq-eqb, ne_eqb}
use Rattle.theory.specs.declared.words.Node.{Node}
use Rattle.theory.specs.declared.words.StoreFault.{StoreFault}
use Rattle.theory.specs.declared.words.StoreFault.TheVariants.{NoSuch, BadPart}
use Rattle.theory.specs.Outcomes.{at, given, ◌>>=◌, test}
use Rattle.theory.specs.Trees.{Tree, nil, tree?, parts, seen, node_sort, facts, height, flags}
use Rattle.theory.specs.Store.{found, handle, get, part, parts_at, sort_at, facts_at, OneHandle}
use Rattle.terms.specs.declared.memory.entry.Entry.{Entry}
use Rattle.terms.specs.declared.store.Store.TheInside.{Inside}
use Rattle.terms.specs.Memory.{vacant, cell_of, handles_at}
use Rattle.theory.specs.Trees.{part_count as count}
use Rattle.terms.specs.Means.{pool_of, entries_of, trees_of, means, IsIntact}
use Rattle.terms.specs.Whole.{IsMade, IsWhole}
use Rattle.terms.proofs.Stands.{parts_many}
use Rattle.terms.specs.Reads.{ReadAt, Reads, same_at}
use Rattle.theory.specs.Limits.{highest, longest}
use Rattle.terms.proofs.Places.{Below, at_in, at_out, trees-at, handles-back}
use Rattle.terms.proofs.Cells.{length-held, own_before, own_proper, own_tree_before, own_tree, seen_of, parts_of, proper_below}
use Rattle.terms.proofs.Pushed.{length_pool}

pub length-trees : (s : Inside) → length (trees_of s) ≡ length (entries_of s)
length-trees s = length-held (pool_of s) (entries_of s)

module _ (s : Inside) (w : IsIntact s) (i : ℕ) (l : i < length (entries_of s)) where
  pub seen_at : seen (get_or (trees_of s) i nil) ≡ (get_or (entries_of s) i vacant).node
  seen_at = ap seen (own_tree (pool_of s) (entries_of s) w.sound.kept w.sound.fitted i l) ∙ seen_of _ _ (own_proper (pool_of s) (entries_of s) w.sound.kept w.sound.fitted i l)

  pub facts_here : facts (get_or (trees_of s) i nil) ≡ (get_or (entries_of s) i vacant).facts
  facts_here =
      let t = get_or (trees_of s) i nil in
      let f = (get_or (entries_of s) i vacant).facts in
      sym
      (ap (λ (k : ℕ). record { height = k; flags = f.flags; outer = f.outer }) (w.sound.known i l).0
      ∙ ap (λ (k : ℕ). record { height = height t; flags = record { bits = k }; outer = f.outer }) (w.sound.known i l).1
      ∙ ap (λ (k : ℕ). record { height = height t; flags = record { bits = flags t }; outer = k }) (w.sound.deep i l))

  pub parts_here : parts (get_or (trees_of s) i nil) ≡ trees-at (trees_of s) (handles_at (pool_of s) (entries_of s) i)
  parts_here = ap parts (own_tree (pool_of s) (entries_of s) w.sound.kept w.sound.fitted i l) ∙ parts_of _ _ (own_proper (pool_of s) (entries_of s) w.sound.kept w.sound.fitted i l)

-- a range of the first elements is that of all
range-of-front : (xs : List ℕ) (i k n : ℕ) → i + k ≤ n → take k (drop i (take n xs)) ≡ take k (drop i xs)
range-of-front xs i k n l = sym (drop-take i k (take n xs)) ∙ ap (drop i) (take-take (i + k) n xs l) ∙ drop-take i k xs

-- The answers of the calls that read, from what was found in memory

pub missing_at : {X : Type 0} (s : Inside) (n : ℕ) (f : StoreFault) (g : Tree → Result X StoreFault) → (length (entries_of s) ≤ n) × (f ≡ NoSuch n) → Err f ≡ (found (trees_of s) n >>= g)
missing_at s n f g h = ap Err h.1 ∙ ap (λ o. given o (NoSuch n) >>= g) (sym (at_out (trees_of s) n (omega (arith, h.0, length-trees s))))

pub present_at : {X : Type 0} (s : Inside) (n : ℕ) (r : Result X StoreFault) (g : Tree → Result X StoreFault) → n < length (entries_of s) → r ≡ g (get_or (trees_of s) n nil) → r ≡ (found (trees_of s) n >>= g)
present_at s n r g l e = e ∙ ap (λ o. given o (NoSuch n) >>= g) (sym (at_in (trees_of s) n (omega (arith, length-trees s))))

module _ (s : Inside) (w : IsIntact s) (n : ℕ) (f : StoreFault) (h : (length (entries_of s) ≤ n) × (f ≡ NoSuch n)) where
  pub get_err : Err f ≡ get (trees_of s) n
  unfolding get
  get_err = missing_at s n f (λ t. Ok (seen t)) h

  pub facts_err : Err f ≡ facts_at (trees_of s) n
  unfolding facts_at
  facts_err = missing_at s n f (λ t. Ok (facts t)) h

  pub sort_err : Err f ≡ sort_at (trees_of s) n
  unfolding sort_at
  sort_err = ap (λ (r : Result Node StoreFault). r >>= λ v. Ok (node_sort v)) get_err

  pub parts_err : Err f ≡ parts_at (trees_of s) n
  unfolding parts_at
  parts_err = missing_at s n f (λ t. Ok (map (handle (trees_of s)) (parts t))) h

module _ (s : Inside) (w : IsIntact s) (n : ℕ) (e : Entry) (h : (n < length (entries_of s)) × (e ≡ get_or (entries_of s) n vacant)) where
  pub get_ok : Ok e.node ≡ get (trees_of s) n
  unfolding get
  get_ok = present_at s n (Ok e.node) (λ t. Ok (seen t)) h.0 (ap (λ (x : Entry). Ok x.node) h.1 ∙ ap Ok (sym (seen_at s w n h.0)))

  pub sort_ok : Ok (node_sort e.node) ≡ sort_at (trees_of s) n
  unfolding sort_at
  sort_ok = ap (λ (r : Result Node StoreFault). r >>= λ v. Ok (node_sort v)) get_ok

  pub facts_ok : Ok e.facts ≡ facts_at (trees_of s) n
  unfolding facts_at
  facts_ok = present_at s n (Ok e.facts) (λ t. Ok (facts t)) h.0 (ap (λ (x : Entry). Ok x.facts) h.1 ∙ ap Ok (sym (facts_here s w n h.0)))

  within : e.first + count e.node ≤ length (pool_of s)
  within = subst (λ (x : Entry). x.first + count x.node ≤ length (pool_of s)) (sym h.1) (w.sound.kept n h.0).0

  -- its parts are those of its tree, by their handles
  pub parts_ok : Ok (take (count e.node) (drop e.first s.items.now)) ≡ parts_at (trees_of s) n
  unfolding parts_at
  parts_ok =
      let hs = handles_at (pool_of s) (entries_of s) n in
      let here : hs ≡ take (count e.node) (drop e.first s.items.now) =
      ap (λ (x : Entry). take (count x.node) (drop x.first (pool_of s))) (sym h.1) ∙ range-of-front s.items.now e.first (count e.node) s.used (omega (arith, within, length_pool s w))
      in
      let below : Below (length (trees_of s)) hs = proper_below (trees_of s) _ (own_proper (pool_of s) (entries_of s) w.sound.kept w.sound.fitted n h.0) in
      present_at s n (Ok (take (count e.node) (drop e.first s.items.now))) (λ t. Ok (map (handle (trees_of s)) (parts t))) h.0
      (ap Ok (sym here ∙ sym (handles-back (trees_of s) hs w.sound.sole below) ∙ ap (map (handle (trees_of s))) (sym (parts_here s w n h.0))))

-- the part at a place is that place of the parts

placed_part : (f : Tree → ℕ) (fault : StoreFault) (ts : List Tree) (k : ℕ) → ok_or (slice_get (map f ts) k) fault ≡ (given (at ts k) fault >>= λ u. Ok (f u))
placed_part f fault [] k = refl
placed_part f fault (t ∷ ts) zero = refl
placed_part f fault (t ∷ ts) (suc k) = placed_part f fault ts k

module _ (m : List Tree) (n k : ℕ) where
  from_found : (r : Result Tree StoreFault) → (hs : List ℕ) → Ok hs ≡ (r >>= λ t. Ok (map (handle m) (parts t))) → ok_or (slice_get hs k) (BadPart k) ≡ (r >>= λ t. given (at (parts t) k) (BadPart k) >>= λ u. Ok (handle m u))
  from_found (Ok t) hs e = let same : hs ≡ map (handle m) (parts t) = cc in ap (λ xs. ok_or (slice_get xs k) (BadPart k)) same ∙ placed_part (handle m) (BadPart k) (parts t) k
  from_found (Err f) hs e = let z : ◌≡◌ {A = ℕ} 0 1 = cc in absurd (omega arith)

  pub part_of_parts : (hs : List ℕ) → Ok hs ≡ parts_at m n → ok_or (slice_get hs k) (BadPart k) ≡ part m n k
  unfolding parts_at part
  part_of_parts hs e = from_found (found m n) hs e

  from_missing : (r : Result Tree StoreFault) → (f : StoreFault) → Err f ≡ (r >>= λ t. Ok (map (handle m) (parts t))) → Err f ≡ (r >>= λ t. given (at (parts t) k) (BadPart k) >>= λ u. Ok (handle m u))
  from_missing (Ok t) f e = let z : ◌≡◌ {A = ℕ} 0 1 = cc in absurd (omega arith)
  from_missing (Err g) f e = let same : f ≡ g = cc in ap Err same

  pub part_refused : (f : StoreFault) → Err f ≡ parts_at m n → Err f ≡ part m n k
  unfolding parts_at part
  part_refused f e = from_missing (found m n) f e

-- equal terms have one handle

same_test : (m : List Tree) (a b : ℕ) → OneHandle m → a < length m → b < length m → eqb a b ≡ test (tree? (get_or m a nil) (get_or m b nil))
same_test m a b one la lb = by (tree? (get_or m a nil) (get_or m b nil))
  where
    by : (d : Dec (get_or m a nil ≡ get_or m b nil)) → eqb a b ≡ test d
    by (yes e) = eq-eqb a b (sym (one a la) ∙ ap (handle m) e ∙ one b lb)
    by (no n) = ne_eqb a b (λ e. n (ap (λ k. get_or m k nil) e))

module _ (s : Inside) (w : IsIntact s) (a b : ℕ) where
  pub same_ok : a < length (trees_of s) → b < length (trees_of s) → Ok (eqb a b) ≡ same_at (trees_of s) a b
  unfolding same_at
  same_ok la lb =
      let p : at (trees_of s) a ≡ some (get_or (trees_of s) a nil) = at_in (trees_of s) a la in
      let q : at (trees_of s) b ≡ some (get_or (trees_of s) b nil) = at_in (trees_of s) b lb in
      ap Ok (same_test (trees_of s) a b w.sound.sole la lb) ∙ rw (p, q) refl

  pub same_left : (f : StoreFault) → f ≡ NoSuch a → length (trees_of s) ≤ a → Err f ≡ same_at (trees_of s) a b
  unfolding same_at
  same_left f e l = let p : at (trees_of s) a ≡ none = at_out (trees_of s) a l in ap Err e ∙ rw p refl

  pub same_right : (f : StoreFault) → f ≡ NoSuch b → a < length (trees_of s) → length (trees_of s) ≤ b → Err f ≡ same_at (trees_of s) a b
  unfolding same_at
  same_right f e la l =
      let p : at (trees_of s) a ≡ some (get_or (trees_of s) a nil) = at_in (trees_of s) a la in
      let q : at (trees_of s) b ≡ none = at_out (trees_of s) b l in
      ap Err e ∙ rw (p, q) refl

-- What is read of the entry at a handle

module _ (s : Inside) (w : IsIntact s) (n : ℕ) where
  pub reads : (r : Result Entry StoreFault) → ReadAt (entries_of s) n r → Reads (trees_of s) n r
  reads (Ok e) h =
      let near : n < length (trees_of s) = omega (arith, h.0, length-trees s) in
      let low : e.facts.height ≤ highest = subst (λ (x : Entry). x.facts.height ≤ highest) (sym h.1) (w.sound.low n h.0).0 in
      record {
        form = get_ok s w n e h;
        facts = facts_ok s w n e h;
        sort = sort_ok s w n e h;
        same = λ q l. same_ok s w n q near l;
        inside = near;
        low = low;
      }
  reads (Err f) h =
      let far : length (trees_of s) ≤ n = omega (arith, h.0, length-trees s) in
      record {
        form = get_err s w n f h;
        facts = facts_err s w n f h;
        sort = sort_err s w n f h;
        same_left = λ q. same_left s w n q f h.1 far;
        same_right = λ p l. same_right s w p n f h.1 l far;
      }

-- What stands true of the memory stands of what it means

module _ (s : Inside) (w : IsIntact s) where
  made : (i : ℕ) → i < length (trees_of s) → IsMade (trees_of s) i
  made i l =
      let here : i < length (entries_of s) = omega (arith, length-trees s) in
      record {
        own = cell_of (pool_of s) (get_or (entries_of s) i vacant);
        proper = own_before (pool_of s) (entries_of s) w.sound.kept w.sound.fitted i here;
        tree = own_tree_before (pool_of s) (entries_of s) i here;
      }

  low : (i : ℕ) → i < length (trees_of s) → (height (get_or (trees_of s) i nil) ≤ highest) × (length (parts (get_or (trees_of s) i nil)) ≤ longest)
  low i l =
      let here : i < length (entries_of s) = omega (arith, length-trees s) in
      let e = get_or (entries_of s) i vacant in
      let own = own_proper (pool_of s) (entries_of s) w.sound.kept w.sound.fitted i here in
      let many : length (parts (get_or (trees_of s) i nil)) ≡ count e.node =
      ap (λ t. length (parts t)) (own_tree (pool_of s) (entries_of s) w.sound.kept w.sound.fitted i here) ∙ parts_many (trees_of s) (cell_of (pool_of s) e) own ∙ sym own.all
      in
      (omega (arith, (w.sound.known i here).0, (w.sound.low i here).0), omega (arith, many, (w.sound.low i here).1))

  pub whole : IsWhole (means s)
  whole =
      record {
        within = omega (arith, w.long, w.within);
        few = w.few;
        inside = omega (arith, length_pool s w, w.sound.counted, w.inside);
        few_items = w.few_items;
        sole = w.sound.sole;
        made = made;
        low = low;
      }
