use Rattle.tree.specs.View.{expression_of}
use Rattle.linear_forms.proofs.CanonicalRule.{text-expressed}
use Rattle.linear_forms.proofs.canonical.canonical_text.Goals as goal

pub returns-in-Some : goal.returns-in-Some
returns-in-Some c =
    text-expressed c.args.loops.now c.args.symbols.now (expression_of c.args.expr) c.in-Some.form c.express.result c.in-Some.ensures c.express.ensures
