use Rattle.nest.specs.View.{guarded_of}
use Rattle.scalar_rename.specs.Renamed.{renamed_statement}
use Rattle.scalar_rename.proofs.Pushed.{pushed-run}
use Rattle.scalar_rename.proofs.names.RenamingStatementPass.add_each.Goals as goal

pub returns-clause-added : goal.returns-clause-added
returns-clause-added c =
    pushed-run c.push.result c.args.made.now c.push.new.self c.in_ok-renamed.field-0
    (renamed_statement c.args.self.now.webs c.args.number (guarded_of c.args.stmt.now)) c.in_ok-renamed.ensures c.push.ensures.ok
