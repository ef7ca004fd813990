use Rattle.std.proofs.Common.{refl}
use Rattle.f77_cards.proofs.Columns.{columns_written}
use Rattle.f77_cards.proofs.source.columns.Goals as goal

pub returns : goal.returns
returns c = columns_written c.args.line.now _ c.copy_from_slice.new.self c.min-width.result refl c.min-width.ensures c.copy_from_slice.ensures.after
