use Rattle.std.proofs.Common.{◌≡◌, ℕ, ◌<◌, ◌≤◌, List, length, Option, Some, None, Bor, MatchOption, sym, refl, ap, ◌∙◌}
use Rattle.std.specs.List.{slice_get, HoldsAt}
use Rattle.std.specs.Option.{ok_or, option_copied}
use Rattle.std.proofs.lemmas.Option.{slice_get_past, slice_get_read}
use Rattle.theory.specs.declared.words.StoreFault.TheVariants.{BadPart}
use Rattle.terms.proofs.Reading.{part_of_parts}
use Rattle.terms.proofs.store.Store.part.Goals as goal

-- what `get(k).copied()` gives of a slice
copied_at : (xs : List ℕ) (k : ℕ) (o : Option (Bor ℕ)) → MatchOption o (length xs ≤ k) (λ x. (k < length xs) × HoldsAt (λ y. x.now ≡ y) xs k) → option_copied o ≡ slice_get xs k
copied_at xs k None h = sym (slice_get_past xs k h)
copied_at xs k (Some x) h = sym (slice_get_read xs (length xs) k x.now refl h.0 (h.1 x.now))

pub returns-clause-answer : goal.returns-clause-answer
returns-clause-answer c =
    c.ok_or.ensures.value
    ∙ ap (λ o. ok_or o (BadPart c.args.place)) (c.copied.ensures ∙ copied_at c.in_ok-parts.parts.now c.args.place c.get.result c.get.ensures.lookup.3)
    ∙ part_of_parts c.args.self.now.trees c.args.term c.args.place c.in_ok-parts.parts.now c.in_ok-parts.ensures.answer
