use Rattle.std.proofs.Common.{◌≡◌, ◌∙◌, ap, map, refl}
use Rattle.tree.specs.declared.stmts.Mark.{Mark}
use Rattle.nest.specs.Bodies.{nest_statements}
use Rattle.nest.specs.View.{nest_of}
use Rattle.nest.specs.statement_loops.Standings.{standing_of}
use Rattle.array_form.proofs.AskedLaws.{form_ok, loops_of}
use Rattle.array_form.proofs.statements.array_form.Goals as goal

pub statement_form-requires-clause-loops : goal.statement_form-requires-clause-loops
statement_form-requires-clause-loops c =
    let n = nest_of c.args.nest.now in
    let all : map standing_of c.as_slice.result.now ≡ nest_statements n = ap (map standing_of) c.as_slice.ensures ∙ c.in_ok-all.ensures in
    loops_of n c.args.s c.args.level c.as_slice.result.now c.index-as_slice-s.result c.in_ok-a.a c.requires all c.index-as_slice-s.is c.in_ok-a.ensures.loops

pub returns : goal.returns
returns c =
    let n = nest_of c.args.nest.now in
    let all : map standing_of c.as_slice.result.now ≡ nest_statements n = ap (map standing_of) c.as_slice.ensures ∙ c.in_ok-all.ensures in
    let mark : Mark = record { nest = c.args.nest.now.number; stmt = c.args.s; level = c.args.level } in
    form_ok n c.args.s c.args.level c.as_slice.result.now c.index-as_slice-s.result c.in_ok-a.a c.requires all c.index-as_slice-s.is c.statement_form.result mark c.in_ok-a.ensures.view refl c.statement_form.ensures
