use Rattle.std.proofs.Common.{arith}
use Rattle.text.proofs.Before.{part_before, element_before}
use Rattle.text.proofs.print.Printer.+print.Goals as goal

pub parts-value-requires : goal.parts-value-requires
parts-value-requires t c = (
  omega (
    arith,
    c.decreases,
    element_before _ c.parts.ensures.whole c.args.term c.loop-part.part-index c.in_ok-part-items.part-items.now c.in_ok-part-items.ensures.answer c.loop-part-test.true,
  ),
  tt,
)

pub value-parts-requires : goal.value-parts-requires
value-parts-requires t c =
    (omega (arith, c.decreases, part_before c.args.self.now.store.now c.get.ensures.whole c.args.value 0 c.in_ok-list-in-Over.list c.in_ok-list-in-Over.ensures.answer), tt)
