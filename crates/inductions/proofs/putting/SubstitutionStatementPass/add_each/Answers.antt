use Rattle.std.proofs.Common.{map, rules}
use Rattle.nest.specs.View.{guarded_of, loop_of}
use Rattle.inductions.specs.Putting.{grows_at, with_induction_forms}
use Rattle.inductions.proofs.ItemLaws.{pushed-unless}
use Rattle.inductions.proofs.putting.SubstitutionStatementPass.add_each.Goals as goal

pub returns-clause-added : goal.returns-clause-added
returns-clause-added c =
    pushed-unless c.push.result c.args.made.now c.push.new.self c.in_ok-with_forms.field-0
    (with_induction_forms c.args.self.now.counter c.args.self.now.inductions c.args.self.now.symbols (map loop_of c.args.loops.now) c.args.number (guarded_of c.args.stmt.now))
    (grows_at c.args.self.now.inductions c.args.number) (search rules) c.in_ok-with_forms.ensures c.push.ensures.ok
