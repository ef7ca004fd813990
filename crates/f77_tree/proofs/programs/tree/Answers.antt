use Rattle.f77_grammar.specs.syntax.Views.{text_of}
use Rattle.f77_tree.proofs.RangeLaws.{table_in_range}
use Rattle.f77_tree.proofs.programs.tree.Goals as goal

pub new-resolver-requires : goal.new-resolver-requires
new-resolver-requires c = table_in_range c.args.constants.now.width c.args.constants.now (text_of c.args.text.now) c.requires.constants
