use Rattle.std.proofs.Common.{map}
use Rattle.nest.specs.View.{guarded_of, loop_of}
use Rattle.symbols_anew.specs.Nests.{canonised}
use Rattle.symbols_anew.proofs.Pushed.{pushed-run}
use Rattle.symbols_anew.proofs.texts.CanonicalTextsStatementPass.add_each.Goals as goal

pub returns-clause-added : goal.returns-clause-added
returns-clause-added c =
    pushed-run c.push.result c.args.made.now c.push.new.self c.in_ok-canonised.field-0
    (canonised c.args.self.now.symbols (map loop_of c.args.loops.now) (guarded_of c.args.stmt.now))
    c.in_ok-canonised.ensures c.push.ensures.ok
