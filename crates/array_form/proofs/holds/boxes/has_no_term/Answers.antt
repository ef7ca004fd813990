use Rattle.std.proofs.Common.{refl, take}
use Rattle.array_form.proofs.holds.BoxLaws.{no_term_else, no_term_then}
use Rattle.array_form.proofs.holds.boxes.has_no_term.Goals as goal

pub returns-then-are_zero : goal.returns-then-are_zero
returns-then-are_zero c =
    no_term_then c.args.depth c.args.form.now (take c.args.depth c.args.form.now.loops) c.are_zero.result c.are_unused.result refl c.are_zero.ensures c.are_unused.ensures c.if-are_zero.true

pub returns-else-are_zero : goal.returns-else-are_zero
returns-else-are_zero c =
    no_term_else c.args.depth c.args.form.now (take c.args.depth c.args.form.now.loops) c.are_zero.result refl c.are_zero.ensures c.if-are_zero.false
