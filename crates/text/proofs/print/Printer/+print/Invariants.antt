use Rattle.std.proofs.Common.{◌+◌, ◌*◌}
use Rattle.text.proofs.print.Printer.+print.Given as goal

abbrev pub decreases-value : goal.decreases-value
decreases-value l = 2 * l.value + 1

abbrev pub decreases-parts : goal.decreases-parts
decreases-parts l = 2 * l.term
