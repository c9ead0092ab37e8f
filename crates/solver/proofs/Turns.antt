-- The turns of a walk: what growing a store, opening a term, and taking a turn do to those that are left.
use Rattle.std.proofs.Common.{◌≡◌, ℕ, suc, ◌+◌, ◌-◌, ◌*◌, ◌^◌, ◌<◌, ◌≤◌, List, [], ◌∷◌, ◌++◌, length, sum_by, refl, sym, ap, ◌∙◌, arith}
use Rattle.std.proofs.Math.Nat.{one-le-pow, pow-suc, pow-le-pow_right, mul-le-mul_right}
use Rattle.std.proofs.lemmas.List.{get_or-take, length-take}
use Rattle.std.proofs.lemmas.List.Sums.{sum_by-cons, sum_by_push}
use Rattle.theory.specs.Trees.{Tree, nil}
use Rattle.theory.specs.Store.{Contents, Grown}
use Rattle.solver.specs.declared.canonical.scratch.Open.{Open}
use Rattle.solver.specs.Sizes.{size, size_at}
use Rattle.solver.specs.declared.canonical.canonicalizer.Canonicalizer.{Canonicalizer}
use Rattle.solver.specs.Opened.{AllHeld, turns, turns_of_size}
use Rattle.solver.specs.Walks.{opens, SameOpen, turns_left}

module _ (c d : Contents) (g : Grown c d) where
  pub no_fewer : length c.trees ≤ length d.trees
  no_fewer = omega (arith, ap length g.front, length-take (length c.trees) d.trees)

  size_stays : (n : ℕ) → n < length c.trees → size_at d.trees n ≡ size_at c.trees n
  size_stays n l = sym (ap size (get_or-take (length c.trees) d.trees n nil l)) ∙ ap (λ m. size_at m n) g.front

  pub held_stay : (os : List Open) → AllHeld c.trees os → AllHeld d.trees os
  held_stay os held = λ k o l. omega (arith, held k o l, no_fewer)

  pub turns_stay : (os : List Open) → AllHeld c.trees os → sum_by (turns d.trees) os ≡ sum_by (turns c.trees) os
  turns_stay [] held = refl
  turns_stay (o ∷ os) held =
      let own : turns d.trees o ≡ turns c.trees o = ap (λ n. (o.places.end - o.places.start + 1) * turns_of_size n) (size_stays o.term (held 0 o (omega arith))) in
      let rest = turns_stay os (λ k p l. held (suc k) p (omega (arith, l))) in
      omega (arith, own, rest, sum_by-cons (turns d.trees) o os, sum_by-cons (turns c.trees) o os)

pub still_held : (a : Canonicalizer) (d : Contents) → Grown a.store.now d → AllHeld d.trees (opens a)
still_held a d g = held_stay a.store.now d g (opens a) a.held

pub same_turns : (a b : Canonicalizer) → SameOpen a b → turns_left b ≡ turns_left a
same_turns a b s = ap (sum_by (turns b.store.now.trees)) s.opened ∙ turns_stay a.store.now b.store.now s.grown (opens a) a.held

pub some_turns : (n : ℕ) → 0 < turns_of_size n
some_turns n = omega (arith, one-le-pow n (2 ^ 64 + 1) (omega arith))

-- all parts of a term together take fewer turns than a turn is worth at the term
pub parts_below : (p n : ℕ) → p < n → 2 ^ 64 * turns_of_size p < turns_of_size n
parts_below p n l =
    let more : turns_of_size (suc p) ≤ turns_of_size n = pow-le-pow_right (omega arith) (omega arith) in
    omega (arith, more, pow-suc (2 ^ 64 + 1) p, some_turns p)

pub opened_turns : (m : List Tree) (os : List Open) (o : Open) → o.places.start ≡ 0 → o.places.end < 2 ^ 64 → sum_by (turns m) (os ++ o ∷ []) ≤ sum_by (turns m) os + 2 ^ 64 * turns_of_size (size_at m o.term)
opened_turns m os o s e =
    let few : turns m o ≤ 2 ^ 64 * turns_of_size (size_at m o.term) = mul-le-mul_right (turns_of_size (size_at m o.term)) (omega arith) in
    omega (arith, few, sum_by_push (turns m) os o)

pub last_turn : (m : List Tree) (o : Open) → 0 < turns m o
last_turn m o =
    let one : 1 * turns_of_size (size_at m o.term) ≤ turns m o = mul-le-mul_right (turns_of_size (size_at m o.term)) (omega arith) in
    omega (arith, one, some_turns (size_at m o.term))

fewer : (s e t w : ℕ) → s < e → w < t → (e - (s + 1) + 1) * t + w < (e - s + 1) * t
fewer s e t w l lw = grind arith

-- the part at the first place that is left, and the rest of the places
pub next_turn : (m : List Tree) (o : Open) (p s e : ℕ) → o.places.start < o.places.end → s ≡ o.places.start + 1 → e ≡ o.places.end → size_at m p < size_at m o.term → (e - s + 1) * turns_of_size (size_at m o.term) + 2 ^ 64 * turns_of_size (size_at m p) < turns m o
next_turn m o p s e l is ie lp =
    rw (is, ie) (fewer o.places.start o.places.end (turns_of_size (size_at m o.term)) (2 ^ 64 * turns_of_size (size_at m p)) l (parts_below (size_at m p) (size_at m o.term) lp))
