-- The chains of a hash index stand after one entry more, and after the last entry is taken away.
use Rattle.std.proofs.Common.{◌≡◌, ℕ, suc, ◌+◌, ◌%◌, ◌<◌, ◌≤◌, true, false, eqb, List, [], ◌∷◌, ◌++◌, map, length, get_or, set, sym, refl, ap, ◌∙◌, subst, ⊎_elim, arith}
use Rattle.std.proofs.lemmas.Bool.{eq-eqb, ne_eqb, cases_eq}
use Rattle.std.proofs.lemmas.List.{length-map, length-set, length_push, map_push, get_or_push, get_or_append_left, get_or-set_same, get_or-set_other}
use Rattle.maps.specs.Chains.{newest, on_bucket, Nexts, Chained}
use Rattle.maps.proofs.Newest.{newest_here, newest_past, newest_same}

-- the entries with hashes hs and links ls, and one more
module _ (hs ls : List ℕ) (h l : ℕ) (hd : List ℕ) (same : length ls ≡ length hs) (some : h % length hd < length hd) where
  abbrev more : List ℕ
  more = hs ++ h ∷ []

  abbrev size : ℕ
  size = length hd

  own : get_or more (length hs) 0 ≡ h
  own = get_or_push hs h 0 (length hs) refl

  long : length more ≡ suc (length hs)
  long = omega (arith, length_push hs h)

  front : (b m : ℕ) → m ≤ length hs → newest (on_bucket more size b) m ≡ newest (on_bucket hs size b) m
  unfolding on_bucket
  front b m le =
      newest_same (on_bucket more size b) (on_bucket hs size b) m
      (λ k lk. ap (λ x. eqb (x % size) b) (get_or_append_left hs (h ∷ []) 0 k (omega arith)))

  -- what the chain of a bucket begins with
  first_own : newest (on_bucket more size (h % size)) (length more) ≡ length hs + 1
  unfolding on_bucket
  first_own =
      let there : on_bucket more size (h % size) (length hs) ≡ true = eq-eqb (get_or more (length hs) 0 % size) (h % size) (ap (λ x. x % size) own) in
      omega (arith, ap (newest (on_bucket more size (h % size))) long, newest_here (on_bucket more size (h % size)) (length hs) there)

  first_other : (q : ℕ) → (q ≡ h % size → ⊥) → newest (on_bucket more size q) (length more) ≡ newest (on_bucket hs size q) (length hs)
  unfolding on_bucket
  first_other q ne =
      let away : on_bucket more size q (length hs) ≡ false =
      ne_eqb (get_or more (length hs) 0 % size) q (λ z. ne (sym z ∙ ap (λ x. x % size) own))
      in
      ap (newest (on_bucket more size q)) long ∙ newest_past (on_bucket more size q) (length hs) away ∙ front q (length hs) (omega arith)

  -- a bucket after the write
  written : (v q : ℕ) → q < size → (xs : List ℕ) → (q ≡ h % size → v ≡ newest (on_bucket xs size q) (length xs)) → ((q ≡ h % size → ⊥) → get_or hd q 0 ≡ newest (on_bucket xs size q) (length xs)) → get_or (set hd (h % size) v) q 0 ≡ newest (on_bucket xs (length (set hd (h % size) v)) q) (length xs)
  written v q lq xs same other =
      subst (λ z. get_or (set hd (h % size) v) q 0 ≡ newest (on_bucket xs z q) (length xs)) (sym (length-set hd (h % size) v))
      (⊎_elim
      (λ (z : q ≡ h % size). ap (λ k. get_or (set hd (h % size) v) k 0) z ∙ get_or-set_same hd (h % size) v 0 some ∙ same z)
      (λ (ne : q ≡ h % size → ⊥). get_or-set_other hd (h % size) q v 0 ne ∙ other ne)
      (cases_eq q (h % size)))

  push_numbers : l ≡ get_or hd (h % size) 0 → Chained hs ls hd → Chained more (ls ++ l ∷ []) (set hd (h % size) (length hs + 1))
  push_numbers link c =
      record {
        firsts = λ q lq.
            let q' : q < size = omega (arith, length-set hd (h % size) (length hs + 1)) in
            written (length hs + 1) q q' more
            (λ z. sym first_own ∙ ap (λ b. newest (on_bucket more size b) (length more)) (sym z))
            (λ ne. c.firsts q q' ∙ sym (first_other q ne));
        others =
            subst (λ z. Nexts more (ls ++ l ∷ []) z) (sym (length-set hd (h % size) (length hs + 1)))
            (λ i li.
            ⊎_elim
            (λ (z : i ≡ length hs).
            ap (λ k. get_or (ls ++ l ∷ []) k 0) z ∙ get_or_push ls l 0 (length hs) same ∙ link ∙ c.firsts (h % size) some
            ∙ sym (front (h % size) (length hs) (omega arith))
            ∙ ap (λ x. newest (on_bucket more size (x % size)) (length hs)) (sym own)
            ∙ ap (λ k. newest (on_bucket more size (get_or more k 0 % size)) k) (sym z))
            (λ (ne : i ≡ length hs → ⊥).
            let before : i < length hs = omega (arith, long) in
            get_or_append_left ls (l ∷ []) 0 i (omega arith) ∙ c.others i before
            ∙ sym (front (get_or hs i 0 % size) i (omega arith))
            ∙ ap (λ x. newest (on_bucket more size (x % size)) i) (sym (get_or_append_left hs (h ∷ []) 0 i before)))
            (cases_eq i (length hs)));
      }

  pop_numbers : Chained more (ls ++ l ∷ []) hd → Chained hs ls (set hd (h % size) l)
  pop_numbers c =
      record {
        firsts = λ q lq.
            let q' : q < size = omega (arith, length-set hd (h % size) l) in
            written l q q' hs
            (λ z.
            sym (get_or_push ls l 0 (length hs) same) ∙ c.others (length hs) (omega (arith, long))
            ∙ ap (λ x. newest (on_bucket more size (x % size)) (length hs)) own
            ∙ front (h % size) (length hs) (omega arith)
            ∙ ap (λ b. newest (on_bucket hs size b) (length hs)) (sym z))
            (λ ne. c.firsts q q' ∙ first_other q ne);
        others =
            subst (λ z. Nexts hs ls z) (sym (length-set hd (h % size) l))
            (λ i li.
            sym (get_or_append_left ls (l ∷ []) 0 i (omega arith)) ∙ c.others i (omega (arith, long))
            ∙ ap (λ x. newest (on_bucket more size (x % size)) i) (get_or_append_left hs (h ∷ []) 0 i li)
            ∙ front (get_or hs i 0 % size) i (omega arith));
      }

module _ {T : Type 0} (hash next : T → ℕ) (es : List T) (e : T) (hd : List ℕ) (some : hash e % length hd < length hd) where
  same : length (map next es) ≡ length (map hash es)
  same = omega (arith, length-map es next, length-map es hash)

  -- one entry more, at the front of its bucket's chain
  pub chained_push : next e ≡ get_or hd (hash e % length hd) 0 → Chained (map hash es) (map next es) hd → Chained (map hash (es ++ e ∷ [])) (map next (es ++ e ∷ [])) (set hd (hash e % length hd) (length es + 1))
  chained_push link c =
      rw (map_push hash es e, map_push next es e, ← length-map es hash)
      (push_numbers (map hash es) (map next es) (hash e) (next e) hd same some link c)

  -- the last entry goes
  pub chained_pop : Chained (map hash (es ++ e ∷ [])) (map next (es ++ e ∷ [])) hd → Chained (map hash es) (map next es) (set hd (hash e % length hd) (next e))
  chained_pop c =
      pop_numbers (map hash es) (map next es) (hash e) (next e) hd same some
      (rw (map_push hash es e, map_push next es e) at c)
