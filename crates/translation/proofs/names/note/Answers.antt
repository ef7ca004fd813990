use Rattle.translation.proofs.MadeNames.{noted_name}
use Rattle.translation.proofs.names.note.Goals as goal

pub returns-in_ok-insert : goal.returns-in_ok-insert
returns-in_ok-insert c =
    noted_name c.args.names.now.keys c.args.name c.insert.new.self.keys
    c.is_source.result c.is_source.ensures c.if-not-is_source.true c.in_ok-insert.ensures.keys
