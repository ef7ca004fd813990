use Rattle.std.proofs.Common.{arith, drop, length-drop}
use Rattle.std.proofs.lemmas.List.{take_all}
use Rattle.f77_cards.proofs.source.Line.statement_field.Goals as goal

pub returns : goal.returns
returns c =
    let columns = c.args.self.now.columns in
    take_all 66 (drop 6 columns) (omega (arith, length-drop 6 columns))
