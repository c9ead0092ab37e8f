use Rattle.std.proofs.Common.{Ok, sym, ap, ◌∙◌, arith}
use Rattle.std.proofs.lemmas.Result.{err_from_is_err_and}
use Rattle.walks.proofs.Entries.{facts_missing, get_missing}
use Rattle.walks.proofs.Searching.{refused_first, none_here, leaf_here, parts_never, part_lower, answer_never, found_here, go_on, none_left}
use Rattle.walks.proofs.flagged.+first_flagged.Goals as goal

pub returns-in_err-facts : goal.returns-in_err-facts
returns-in_err-facts t c =
    let m = c.args.store.now.trees in
    let p = err_from_is_err_and c.from_residual.result c.from_residual.ensures.1 in
    rw (p.1, p.2) (refused_first m c.args.term c.args.flags.bits _ (facts_missing m c.args.term _ c.in_err-facts.ensures.answer))

pub returns-then-not-meets : goal.returns-then-not-meets
returns-then-not-meets t c =
    none_here c.args.store.now.trees c.args.term c.args.flags.bits c.in_ok-facts.facts c.in_ok-facts.ensures.answer c.if-not-meets.ensures

pub returns-in_err-leaf : goal.returns-in_err-leaf
returns-in_err-leaf t c =
    let m = c.args.store.now.trees in
    let p = err_from_is_err_and c.from_residual-in_err-leaf.result c.from_residual-in_err-leaf.ensures.1 in
    rw (p.1, p.2) (refused_first m c.args.term c.args.flags.bits _ (get_missing m c.args.term _ c.in_err-leaf.ensures.answer))

pub returns-in-Leaf : goal.returns-in-Leaf
returns-in-Leaf t c =
    leaf_here c.args.store.now c.facts.ensures.whole c.args.term c.args.flags.bits c.in_ok-facts.facts c.in-Leaf.leaf c.in_ok-facts.ensures.answer c.if-not-meets.ensures
    (ap Ok (sym c.in-Leaf.is) ∙ c.in_ok-leaf.ensures.answer)

pub returns-in_err-parts : goal.returns-in_err-parts
returns-in_err-parts t c =
    parts_never c.args.store.now c.facts.ensures.whole c.args.term c.args.flags.bits c.in_default.field-0 c.in_default.field-1 (ap Ok (sym c.in_default.is) ∙ c.in_ok-leaf.ensures.answer)
    _ c.in_err-parts.ensures.answer

pub first_flagged-requires : goal.first_flagged-requires
first_flagged-requires t c = (
  omega (
    arith,
    c.decreases,
    part_lower c.args.store.now c.facts.ensures.whole c.args.term c.args.flags.bits c.in_default.field-0 c.in_default.field-1 (ap Ok (sym c.in_default.is) ∙ c.in_ok-leaf.ensures.answer)
        c.in_ok-parts.parts.now c.in_ok-parts.ensures.answer c.loop-place.place c.loop-place-test.true,
  ),
  tt,
)

pub returns-in_err-leaf-2 : goal.returns-in_err-leaf-2
returns-in_err-leaf-2 t c =
    answer_never c.args.store.now c.facts.ensures.whole c.args.term c.args.flags.bits c.in_default.field-0 c.in_default.field-1 (ap Ok (sym c.in_default.is) ∙ c.in_ok-leaf.ensures.answer)
    c.in_ok-parts.parts.now c.in_ok-parts.ensures.answer c.loop-place.place c.loop-place-test.true _ c.in_err-leaf-2.ensures

pub returns-in-Some : goal.returns-in-Some
returns-in-Some t c =
    found_here c.args.store.now c.facts.ensures.whole c.args.term c.args.flags.bits c.in_default.field-0 c.in_default.field-1 (ap Ok (sym c.in_default.is) ∙ c.in_ok-leaf.ensures.answer)
    c.in_ok-parts.parts.now c.in_ok-parts.ensures.answer c.loop-place.place c.loop-place-test.true
    c.loop-place.invariant c.in-Some.leaf (ap Ok (sym c.in-Some.is) ∙ c.in_ok-leaf-2.ensures)

pub loop-place-preserved : goal.loop-place-preserved
loop-place-preserved t c =
    go_on c.args.store.now c.facts.ensures.whole c.args.term c.args.flags.bits c.in_default.field-0 c.in_default.field-1 (ap Ok (sym c.in_default.is) ∙ c.in_ok-leaf.ensures.answer)
    c.in_ok-parts.parts.now c.in_ok-parts.ensures.answer c.loop-place.place c.loop-place-test.true
    c.loop-place.invariant (ap Ok (sym c.in_default-2.is) ∙ c.in_ok-leaf-2.ensures)

pub returns : goal.returns
returns t c =
    none_left c.args.store.now c.facts.ensures.whole c.args.term c.args.flags.bits c.in_default.field-0 c.in_default.field-1 (ap Ok (sym c.in_default.is) ∙ c.in_ok-leaf.ensures.answer)
    c.in_ok-parts.parts.now c.in_ok-parts.ensures.answer c.loop-place.place c.loop-place-test.false c.loop-place.invariant
