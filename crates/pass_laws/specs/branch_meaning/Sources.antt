-- Nests of loops, statements, block IFs, labels and jumps that have a normal form.
use Rattle.std.specs.Prelude.{◌≡◌, ⊤, true, false, All, List, [], ◌∷◌, ◌++◌}
use Rattle.meaning.specs.Reads.{names_in}
use Rattle.tree.specs.Plain.{Expression}
use Rattle.normal_loops.specs.Normal.{is_normal}
use Rattle.nest_order.specs.orders.Lists.{Distinct}
use Rattle.nest_order.specs.runs.Touched.{IsPlain}
use Rattle.nest.specs.Bodies.{Standing, nest_statements}
use Rattle.nest.specs.Plain.{Nest, Part, Run, Turns, Choice, Label, Jump, Parts, no_parts, part}
use Rattle.nest.specs.Plain.{Branches, no_branches, branch}
use Rattle.pass_laws.specs.normal_runs.Sources.{HasOwnVariable, IsStraightStatement, IsSuitedStatement, counters_in}
use Rattle.pass_laws.specs.normal_runs.Sources.{loops_in, variables_in}
use Rattle.nest.specs.statement_loops.Names.{is_among}
use Rattle.pass_laws.specs.branch_meaning.Jumps.{JumpsAhead}

-- the conditions of the IFs, in the order of the text
abbrev mutual
  pub tests_of : Part → List Expression
  tests_of (Run g) = []
  tests_of (Turns l ps) = tests_in_parts ps
  tests_of (Choice bs ps) = tests_in_branches bs ++ tests_in_parts ps
  tests_of (Label k) = []
  tests_of (Jump k) = []

  pub tests_in_parts : Parts → List Expression
  tests_in_parts no_parts = []
  tests_in_parts (part p ps) = tests_of p ++ tests_in_parts ps

  pub tests_in_branches : Branches → List Expression
  tests_in_branches no_branches = []
  tests_in_branches (branch test ps bs) = (test ∷ tests_in_parts ps) ++ tests_in_branches bs

-- a condition without array forms, in which no counter stands
pub record IsSuitedTest (n : Nest) (e : Expression) : Type 0 where
  pub plain : IsPlain e
  pub counters : All (λ x. is_among (counters_in n) x ≡ false) (names_in e)

abbrev pub IsLoop : Part → Type 0
IsLoop (Run g) = ⊥
IsLoop (Turns l ps) = ⊤
IsLoop (Choice bs ps) = ⊥
IsLoop (Label k) = ⊥
IsLoop (Jump k) = ⊥

-- its statements are assignments without guards
abbrev pub IsStraightStanding : Standing → Type 0
IsStraightStanding s = IsStraightStatement s.statement

pub record IsBranchedSource (n : Nest) : Type 0 where
  pub normal : is_normal n.symbols [] n.body ≡ true
  pub loop : IsLoop n.body
  pub jumps : JumpsAhead [] n.body
  pub straight : All IsStraightStanding (nest_statements n)
  pub statements : All (IsSuitedStatement n) (nest_statements n)
  pub tests : All (IsSuitedTest n) (tests_of n.body)
  pub own : All HasOwnVariable (loops_in n)
  -- each loop has a counter of its own, which is no loop variable and no symbol, and no loop variable is a symbol
  pub once : Distinct (counters_in n)
  pub counters : All (λ x. is_among (variables_in n) x ≡ false) (counters_in n)
  pub apart : All (λ x. is_among n.symbols x ≡ false) (variables_in n ++ counters_in n)
