use Rattle.std.proofs.Common.{◌≡◌, map, rules}
use Rattle.tree.specs.View.{expression_of, block_of, declaration_of, program_of}
use Rattle.nest.specs.View.{part_of}
use Rattle.nest_reasons.specs.Symbols.{symbols_of}
use Rattle.find_nests.specs.nest_parts.Numbers.{next_loop_number}
use Rattle.find_nests.specs.Loops.{Numbered}
use Rattle.find_nests.specs.Found.{body_of}
use Rattle.find_nests.proofs.SearchLaws.{nest-is}
use Rattle.find_nests.proofs.search.Search.nest.Goals as goal

pub returns-clause-nest : goal.returns-clause-nest
returns-clause-nest c =
    let p = program_of c.args.program.now in
    let l : Numbered = record { before = c.args.self.now.loops.loops; loop = record { line = c.args.line; variable = c.args.var; first = expression_of c.args.first.now; last = expression_of c.args.last.now; step = expression_of c.args.step.now; body = block_of c.args.body.now } } in
    let body : part_of c.in_ok-turns.turns ≡ body_of l = search rules in
    let declarations : map declaration_of c.in_ok-decls.decls ≡ p.declarations = search rules in
    let symbols : c.in_ok-symbols.symbols ≡ symbols_of p.declarations l.loop.variable l.loop.body = search rules in
    nest-is p (next_loop_number c.args.self.now.nests) l _ _ _ _ _ _ (search rules) body declarations symbols (search rules) c.nothing.ensures
