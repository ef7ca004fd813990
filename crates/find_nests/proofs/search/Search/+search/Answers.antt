use Rattle.std.proofs.Common.{◌≡◌, ◌∙◌, ◌≤◌, ap, sym, map, length, Some, None, [], ◌∷◌, ◌++◌, rules, arith}
use Rattle.std.proofs.lemmas.List.{length-map}
use Rattle.tree.specs.View.{expression_of, declaration_of, statement_of, block_of, program_of}
use Rattle.tree.specs.declared.stmts.Stmt.TheVariants as stmts
use Rattle.nest_reasons.specs.Symbols.{symbols_of}
use Rattle.nest.specs.Plain.{Nest}
use Rattle.find_nests.specs.nest_parts.Numbers.{next_loop_number}
use Rattle.find_nests.specs.Reasons.{reason_over}
use Rattle.find_nests.specs.Loops.{Numbered}
use Rattle.find_nests.specs.Found.{InNest, Kept, found_among, nest_of_loop}
use Rattle.find_nests.specs.View.{found_of}
use Rattle.find_nests.specs.declared.search.Found.TheVariants as found
use Rattle.find_nests.specs.Walk.{outermost_in, outermost_in_block, nests_among}
use Rattle.find_nests.proofs.SearchLaws.{next_statement, next_arm, few_symbols, one_nest, one_kept, nest-found, nest-nests, kept-found, kept-nests}
use Rattle.find_nests.proofs.search.Search.+search.Goals as goal

pub arms-loop-arm-preserved : goal.arms-loop-arm-preserved
arms-loop-arm-preserved t c =
    next_arm (program_of c.args.program.now) c.as_slice-arm-items.result.now c.args.self.now.loops.loops c.args.self.now.nests (map found_of c.args.self.now.found)
    (map found_of c.loop-arm.self.found) (map found_of c.arm.new.self.found) c.loop-arm.arm-index c.loop-arm.self.loops.loops c.loop-arm.self.nests
    c.arm.new.self.loops.loops c.arm.new.self.nests c.arm-item.result (omega arith) c.arm-item.is c.loop-arm.invariant c.in_ok-arm.ensures.found c.in_ok-arm.ensures.nests c.in_ok-arm.ensures.loops

pub stmts-loop-stmt-preserved : goal.stmts-loop-stmt-preserved
stmts-loop-stmt-preserved t c =
    next_statement (program_of c.args.program.now) c.as_slice-stmt-items.result.now c.args.self.now.loops.loops c.args.self.now.nests (map found_of c.args.self.now.found)
    (map found_of c.loop-stmt.self.found) (map found_of c.stmt.new.self.found) c.loop-stmt.stmt-index c.loop-stmt.self.loops.loops c.loop-stmt.self.nests
    c.stmt.new.self.loops.loops c.stmt.new.self.nests c.stmt-item.result (omega arith) c.stmt-item.is c.loop-stmt.invariant c.in_ok-stmt.ensures.found c.in_ok-stmt.ensures.nests c.in_ok-stmt.ensures.loops

pub stmt-reason_over-requires : goal.stmt-reason_over-requires
stmt-reason_over-requires t c =
    let ds = map declaration_of c.args.program.now.decls in
    let few = few_symbols ds c.in-Do.var (block_of c.in-Do.body) in
    let mapped = length-map c.args.program.now.decls declaration_of in
    let same : length c.in_ok-symbols-in-Do.symbols ≡ length (symbols_of ds c.in-Do.var (block_of c.in-Do.body)) = ap length c.in_ok-symbols-in-Do.ensures in
    let all : length c.args.program.now.decls ≤ 65536 = c.requires in
    omega (arith, few, mapped, same, all)

pub stmt-returns-in_default-clause-found : goal.stmt-returns-in_default-clause-found
stmt-returns-in_default-clause-found t c =
    let p = program_of c.args.program.now in
    let k = c.args.self.now.loops.loops in
    let m = c.args.self.now.nests in
    let old = map found_of c.args.self.now.found in
    let do' = stmts.Do c.in-Do.line c.in-Do.var c.in-Do.first c.in-Do.last c.in-Do.step c.in-Do.body in
    let symbols = symbols_of p.declarations c.in-Do.var (block_of c.in-Do.body) in
    let none : None ≡ reason_over symbols (statement_of do') =
    sym c.in_default.is ∙ c.in_ok-reason-in-Do.ensures ∙ ap (λ s. reason_over s (statement_of c.args.stmt.now)) c.in_ok-symbols-in-Do.ensures ∙ ap (λ s. reason_over symbols (statement_of s)) c.in-Do.is in
    let l : Numbered = record { before = k; loop = record { line = c.in-Do.line; variable = c.in-Do.var; first = expression_of c.in-Do.first; last = expression_of c.in-Do.last; step = expression_of c.in-Do.step; body = block_of c.in-Do.body } } in
    let q : Nest = nest_of_loop p (next_loop_number m) l in
    let pushed : c.push.new.self ≡ c.nest.new.self.found ++ found.Nest c.in_ok-nest-in-Do.nest ∷ [] = search rules in
    let more : map found_of c.push.new.self ≡ old ++ InNest q ∷ [] =
    one_nest c.nest.new.self.found c.push.new.self c.in_ok-nest-in-Do.nest q c.in_ok-nest-in-Do.ensures.nest pushed ∙ ap (λ fs. map found_of fs ++ InNest q ∷ []) c.in_ok-nest-in-Do.ensures.found in
    nest-found p k m c.in-Do.line c.in-Do.var c.in-Do.first c.in-Do.last c.in-Do.step c.in-Do.body old (map found_of c.push.new.self) none more
    ∙ ap (λ s. old ++ found_among p m (outermost_in p.declarations k (statement_of s))) (sym c.in-Do.is)

pub stmt-returns-in_default-clause-nests : goal.stmt-returns-in_default-clause-nests
stmt-returns-in_default-clause-nests t c =
    let p = program_of c.args.program.now in
    let k = c.args.self.now.loops.loops in
    let m = c.args.self.now.nests in
    let do' = stmts.Do c.in-Do.line c.in-Do.var c.in-Do.first c.in-Do.last c.in-Do.step c.in-Do.body in
    let symbols = symbols_of p.declarations c.in-Do.var (block_of c.in-Do.body) in
    let none : None ≡ reason_over symbols (statement_of do') =
    sym c.in_default.is ∙ c.in_ok-reason-in-Do.ensures ∙ ap (λ s. reason_over s (statement_of c.args.stmt.now)) c.in_ok-symbols-in-Do.ensures ∙ ap (λ s. reason_over symbols (statement_of s)) c.in-Do.is in
    c.in_ok-nest-in-Do.ensures.nests ∙ nest-nests p k m c.in-Do.line c.in-Do.var c.in-Do.first c.in-Do.last c.in-Do.step c.in-Do.body none
    ∙ ap (λ s. nests_among p.declarations m (outermost_in p.declarations k (statement_of s))) (sym c.in-Do.is)

pub stmt-returns-in_ok-block-in-Do-clause-found : goal.stmt-returns-in_ok-block-in-Do-clause-found
stmt-returns-in_ok-block-in-Do-clause-found t c =
    let p = program_of c.args.program.now in
    let k = c.args.self.now.loops.loops in
    let m = c.args.self.now.nests in
    let r = c.in-Some.kept in
    let old = map found_of c.args.self.now.found in
    let more = map found_of c.push-in-Do.new.self in
    let new = map found_of c.block-in-Do.new.self.found in
    let do' = stmts.Do c.in-Do.line c.in-Do.var c.in-Do.first c.in-Do.last c.in-Do.step c.in-Do.body in
    let symbols = symbols_of p.declarations c.in-Do.var (block_of c.in-Do.body) in
    let some : Some r ≡ reason_over symbols (statement_of do') =
    sym c.in-Some.is ∙ c.in_ok-reason-in-Do.ensures ∙ ap (λ s. reason_over s (statement_of c.args.stmt.now)) c.in_ok-symbols-in-Do.ensures ∙ ap (λ s. reason_over symbols (statement_of s)) c.in-Do.is in
    let pushed : c.push-in-Do.new.self ≡ c.args.self.now.found ++ found.Kept c.in-Do.line r ∷ [] = search rules in
    let one : more ≡ old ++ Kept c.in-Do.line r ∷ [] = one_kept c.args.self.now.found c.push-in-Do.new.self c.in-Do.line r pushed in
    let passed : c.pass_over.new.self.loops ≡ next_loop_number k = search rules in
    let inside : new ≡ more ++ found_among p m (outermost_in_block p.declarations c.pass_over.new.self.loops (block_of c.in-Do.body)) = search rules in
    kept-found p k m c.in-Do.line c.in-Do.var c.in-Do.first c.in-Do.last c.in-Do.step c.in-Do.body r old more new some one
    (inside ∙ ap (λ n. more ++ found_among p m (outermost_in_block p.declarations n (block_of c.in-Do.body))) passed)
    ∙ ap (λ s. old ++ found_among p m (outermost_in p.declarations k (statement_of s))) (sym c.in-Do.is)

pub stmt-returns-in_ok-block-in-Do-clause-nests : goal.stmt-returns-in_ok-block-in-Do-clause-nests
stmt-returns-in_ok-block-in-Do-clause-nests t c =
    let p = program_of c.args.program.now in
    let k = c.args.self.now.loops.loops in
    let m = c.args.self.now.nests in
    let r = c.in-Some.kept in
    let do' = stmts.Do c.in-Do.line c.in-Do.var c.in-Do.first c.in-Do.last c.in-Do.step c.in-Do.body in
    let symbols = symbols_of p.declarations c.in-Do.var (block_of c.in-Do.body) in
    let some : Some r ≡ reason_over symbols (statement_of do') =
    sym c.in-Some.is ∙ c.in_ok-reason-in-Do.ensures ∙ ap (λ s. reason_over s (statement_of c.args.stmt.now)) c.in_ok-symbols-in-Do.ensures ∙ ap (λ s. reason_over symbols (statement_of s)) c.in-Do.is in
    let passed : c.pass_over.new.self.loops ≡ next_loop_number k = search rules in
    let inside : c.block-in-Do.new.self.nests ≡ nests_among p.declarations m (outermost_in_block p.declarations c.pass_over.new.self.loops (block_of c.in-Do.body)) = search rules in
    inside ∙ ap (λ n. nests_among p.declarations m (outermost_in_block p.declarations n (block_of c.in-Do.body))) passed
    ∙ kept-nests p k m c.in-Do.line c.in-Do.var c.in-Do.first c.in-Do.last c.in-Do.step c.in-Do.body r some
    ∙ ap (λ s. nests_among p.declarations m (outermost_in p.declarations k (statement_of s))) (sym c.in-Do.is)
