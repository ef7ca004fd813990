use Rattle.linear_forms.proofs.TextLaws.{bare_is}
use Rattle.scalar_expand.proofs.texts.bare.Goals as goal

pub returns : goal.returns
returns c = bare_is c.args.name c.new.result c.new.ensures
