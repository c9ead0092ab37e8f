-- The newest place with a property.
use Rattle.std.proofs.Common.{◌≡◌, ℕ, zero, suc, pred, ◌<◌, ◌≤◌, Bool, true, false, ◌⊎◌, sym, refl, ap, ◌∙◌, inl, inr, ⊎_elim, arith}
use Rattle.std.proofs.lemmas.Bool.{cond_both, cond-true, cond-false, cases_Bool, cases_eq, both_ways}
use Rattle.maps.specs.Chains.{newest}

at_or_below : (k m : ℕ) → k < suc m → (k ≡ m) ⊎ (k < m)
at_or_below k m l = ⊎_elim (λ e. inl e) (λ ne. inr (omega arith)) (cases_eq k m)

pub newest_here : (p : ℕ → Bool) (m : ℕ) → p m ≡ true → newest p (suc m) ≡ suc m
newest_here p m e = cond-true (p m) _ _ e

pub newest_past : (p : ℕ → Bool) (m : ℕ) → p m ≡ false → newest p (suc m) ≡ newest p m
newest_past p m e = cond-false (p m) _ _ e

pub newest_le : (p : ℕ → Bool) (m : ℕ) → newest p m ≤ m
newest_le p zero = omega arith
newest_le p (suc m) =
    cond_both (p m) _ _ (λ v. v ≤ suc m) (λ _. omega arith) (λ _. omega (arith, newest_le p m))

-- what stands at the newest place has the property
pub newest-hit : (p : ℕ → Bool) (m i : ℕ) → newest p m ≡ suc i → p i ≡ true
newest-hit p zero i e = absurd (omega arith)
newest-hit p (suc m) i e =
    ⊎_elim
    (λ t. let z : m ≡ i = omega (arith, newest_here p m t) in ap p (sym z) ∙ t)
    (λ f. newest-hit p m i (sym (newest_past p m f) ∙ e))
    (cases_Bool (p m))

-- a place with the property does not stand past the newest
pub newest_covers : (p : ℕ → Bool) (m k : ℕ) → k < m → p k ≡ true → k < newest p m
newest_covers p zero k l h = absurd (omega arith)
newest_covers p (suc m) k l h =
    ⊎_elim
    (λ t. omega (arith, newest_here p m t))
    (λ f.
    ⊎_elim
    (λ (z : k ≡ m). absurd (both_ways (p m) f (ap p (sym z) ∙ h)))
    (λ (z : k < m). omega (arith, newest_past p m f, newest_covers p m k z h))
    (at_or_below k m l))
    (cases_Bool (p m))

pub newest_same : (p q : ℕ → Bool) (m : ℕ) → ((k : ℕ) → k < m → p k ≡ q k) → newest p m ≡ newest q m
newest_same p q zero e = refl
newest_same p q (suc m) e =
    let h : p m ≡ q m = e m (omega arith) in
    let t : newest p m ≡ newest q m = newest_same p q m (λ k l. e k (omega arith)) in
    rw (h, t) refl

-- the newest place is known by its property, and by that none past it has it
pub newest_is : (p : ℕ → Bool) (m i : ℕ) → i < m → p i ≡ true → ((k : ℕ) → k < m → p k ≡ true → k ≤ i) → newest p m ≡ suc i
newest_is p m i l h most =
    let c : i < newest p m = newest_covers p m i l h in
    ⊎_elim
    (λ (z : newest p m ≡ suc i). z)
    (λ (ne : newest p m ≡ suc i → ⊥).
    let j : ℕ = pred (newest p m) in
    let s : newest p m ≡ suc j = omega arith in
    absurd (omega (arith, newest_le p m, most j (omega (arith, newest_le p m)) (newest-hit p m j s))))
    (cases_eq (newest p m) (suc i))

pub newest_none : (p : ℕ → Bool) (m : ℕ) → ((k : ℕ) → k < m → p k ≡ true → ⊥) → newest p m ≡ 0
newest_none p m never =
    ⊎_elim
    (λ (z : newest p m ≡ 0). z)
    (λ (ne : newest p m ≡ 0 → ⊥).
    let j : ℕ = pred (newest p m) in
    let s : newest p m ≡ suc j = omega arith in
    absurd (never j (omega (arith, newest_le p m)) (newest-hit p m j s)))
    (cases_eq (newest p m) 0)
