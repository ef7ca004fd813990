use Rattle.emission.specs.nest_emission.Given.{nest_in}
use Rattle.emission.proofs.nest_emission.SourceLaws.{forms_at}
use Rattle.emission.proofs.nest_emission.StatementLaws.{formed_ok, loops_of}
use Rattle.emission.proofs.nest_emission.source.ListedNest.formed_block.Goals as goal

pub statement_form-requires-clause-loops : goal.statement_form-requires-clause-loops
statement_form-requires-clause-loops c =
    loops_of (nest_in c.args.self.now) c.args.number c.statement-standing.result.now c.statement-standing.ensures c.in_ok-surroundings.surroundings
    c.in_ok-surroundings.ensures.view c.in_ok-surroundings.ensures.loops (forms_at c.args.self.now c.requires.source c.args.number c.requires.number)

pub returns : goal.returns
returns c =
    formed_ok (nest_in c.args.self.now) c.args.number c.statement-standing.result.now c.statement-standing.ensures c.in_ok-surroundings.surroundings
    c.in_ok-surroundings.ensures.view c.in_ok-surroundings.ensures.loops c.statement_form.result c.args.level c.mark-mark.result c.requires.from_one c.mark-mark.ensures c.statement_form.ensures
