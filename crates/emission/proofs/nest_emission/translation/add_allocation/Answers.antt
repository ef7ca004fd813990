use Rattle.std.proofs.lemmas.Bool.{iff_false}
use Rattle.emission.proofs.nest_emission.TranslationLaws.{one_allocation}
use Rattle.emission.proofs.nest_emission.translation.add_allocation.Goals as goal

pub returns : goal.returns
returns c =
    one_allocation c.args.line c.args.made.now c.in_ok-copy_exprs.field-0 c.args.stmts.now.items c.push.new.self.items (iff_false c.is_empty.ensures c.if-is_empty.false)
    c.in_ok-copy_exprs.ensures c.in_ok-push.ensures.items
