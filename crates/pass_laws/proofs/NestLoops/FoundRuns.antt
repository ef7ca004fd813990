-- A nest that is found runs as its loop.
use Rattle.std.proofs.Common.{◌≡◌, refl, sym, ap, ap₂, ◌∙◌, subst, ℕ, Bool, true, false, ◌&&◌, List, [], ◌∷◌, Option, None}
use Rattle.tree.specs.Plain.{Statement, Assignment, Where, If, Do, Label, GoTo, Stop, Read, Print, Allocate, Deallocate, Arms, no_arms, arm, Block, no_statements, statement, Program}
use Rattle.meaning.specs.Dialect.{Dialect}
use Rattle.meaning.specs.Profile77.{IsProgram77}
use Rattle.meaning.specs.Blocks.{outermost}
use Rattle.meaning.specs.Relined.{without_lines}
use Rattle.meaning.specs.Run.{State, does}
use Rattle.nest_reasons.specs.Symbols.{symbols_of}
use Rattle.nest.specs.Plain.{Nest}
use Rattle.nest.specs.Blocks.{statement_of_part, block_of_nest}
use Rattle.pass_laws.specs.nest_sources.Sources.{may_stand, arms_may_stand, block_may_stand, with_numbers, arms_with_numbers, block_with_numbers}
use Rattle.pass_laws.proofs.NestSources.Sources.{nest_is_loop}
use Rattle.find_nests.specs.declared.reasons.Reason.TheVariants.{Exit, Step}
use Rattle.find_nests.specs.Loops.{SourceLoop, Numbered, as_statement}
use Rattle.find_nests.specs.LookedAt.{reason_of}
use Rattle.find_nests.specs.Found.{body_of, nest_of_loop}
use Rattle.find_nests.specs.Laws.{IsFoundNest}
use Rattle.find_nests.proofs.FoundLaws.{no_reason_holds}
use Rattle.find_nests.proofs.ReasonWalks.{finds_is}
use Rattle.pass_laws.specs.nest_loops.Runs.{RunsAsLoop, FoundNestRuns}
use Rattle.pass_laws.proofs.NestLoops.Standing.{loop_stands}
use Rattle.pass_laws.proofs.NestLoops.Exits.{loop_may_stand}
use Rattle.pass_laws.proofs.NestLoops.Increments.{same_does}
use Rattle.pass_laws.proofs.NestLoops.Lines.{lineless, lineless_alike, alike, stands-lines}

mutual
  stands-numbers : (c : Statement) → may_stand (with_numbers c) ≡ may_stand c
  stands-numbers (Assignment line m r e) = refl
  stands-numbers (Where line m k r e) = refl
  stands-numbers (If line arms other) = ap₂ (λ a b. a && b) (arms-numbers arms) (block-numbers other)
  stands-numbers (Do line x a b c body) = block-numbers body
  stands-numbers (Label n) = refl
  stands-numbers (GoTo line n) = refl
  stands-numbers (Stop line) = refl
  stands-numbers (Read line is) = refl
  stands-numbers (Print line is) = refl
  stands-numbers (Allocate line x es) = refl
  stands-numbers (Deallocate line x) = refl

  arms-numbers : (arms : Arms) → arms_may_stand (arms_with_numbers arms) ≡ arms_may_stand arms
  arms-numbers no_arms = refl
  arms-numbers (arm test body arms) = ap₂ (λ a b. a && b) (block-numbers body) (arms-numbers arms)

  block-numbers : (b : Block) → block_may_stand (block_with_numbers b) ≡ block_may_stand b
  block-numbers no_statements = refl
  block-numbers (statement c cs) = ap₂ (λ a b. a && b) (stands-numbers c) (block-numbers cs)

-- a loop of statements that may stand in a nest, with suitable increments
module _ (p : Program) (k : ℕ) (l : Numbered) (body : block_may_stand l.loop.body ≡ true) where
  abbrev numbers : Statement
  numbers = with_numbers (as_statement l.loop)

  abbrev written : Statement
  written = statement_of_part l.loop.line (body_of l)

  numbers_stand : may_stand numbers ≡ true
  numbers_stand = stands-numbers (as_statement l.loop) ∙ body

  written_stands : may_stand written ≡ true
  written_stands = sym (stands-lines written) ∙ (ap may_stand (nest_is_loop l.loop.line l body) ∙ (stands-lines numbers ∙ numbers_stand))

  runs_as_loop : ((lang : Dialect) (limit : Option ℕ) → does lang limit (as_statement l.loop) ≡ does lang limit numbers) → RunsAsLoop (nest_of_loop p k l) l.loop
  runs_as_loop increments lang limit s =
      alike (does lang limit (as_statement l.loop) s) (does lang limit written s)
      (ap (λ f. lineless (f s)) (increments lang limit)
      ∙ lineless_alike lang limit numbers written s numbers_stand written_stands (sym (nest_is_loop l.loop.line l body)))

pub found_nest_runs : FoundNestRuns
found_nest_runs d p n found whole =
    let l = found.loop.loop in
    let symbols = symbols_of p.declarations l.loop.variable l.loop.body in
    let c = as_statement l.loop in
    let stands = loop_stands p.declarations p.body 0 [] outermost found.loop whole.statements found.stands in
    let exit = finds_is Exit symbols c ∙ no_reason_holds symbols c Exit found.no_reason in
    let step = finds_is Step symbols c ∙ no_reason_holds symbols c Step found.no_reason in
    let body = loop_may_stand p.declarations symbols l.loop.line l.loop.variable l.loop.first l.loop.last l.loop.step l.loop.body stands.round exit stands.is in
    subst (λ m. RunsAsLoop m found.loop.loop.loop) (sym found.is) (runs_as_loop p n.number l body (λ lang limit. same_does lang limit symbols c [] step))
