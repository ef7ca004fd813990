-- Nests of loops and statements alone that have a normal form, and the names whose values their runs needn't share.
use Rattle.std.specs.Prelude.{◌≡◌, ⊤, ℕ, Bool, true, false, ◌&&◌, ◌||◌, None, All, List, [], ◌∷◌, ◌++◌, map, length}
use Rattle.meaning.specs.Reads.{names_in, names_in_subscripts}
use Rattle.last_values.specs.Behind.{stands_behind}
use Rattle.last_values.specs.declared.behind.NestedLoop.{NestedLoop}
use Rattle.normal_loops.specs.Loops.{nested_loops}
use Rattle.normal_loops.specs.Normal.{is_normal}
use Rattle.nest_order.specs.orders.Lists.{Distinct}
use Rattle.nest_order.specs.runs.Touched.{ArePlain, IsPlain}
use Rattle.nest.specs.Bodies.{Standing, nest_statements}
use Rattle.nest.specs.Plain.{Guarded, Loop, Nest, Part, Run, Turns, Choice, Label, Jump, Parts, no_parts, part}
use Rattle.last_values.specs.normal_forms.NormalLoops.{variables_of}
use Rattle.last_values.specs.declared.normal_forms.loops.NormalLoop.{NormalLoop}
use Rattle.nest.specs.statement_loops.Names.{is_among}

-- ---- loops and statements alone

-- without a guard and without array forms
pub record IsStraightStatement (g : Guarded) : Type 0 where
  pub unguarded : g.guard ≡ None
  pub left : ArePlain g.left.subscripts
  pub right : IsPlain g.right

abbrev mutual
  pub IsStraight : Part → Type 0
  IsStraight (Run g) = IsStraightStatement g
  IsStraight (Turns l ps) = AreStraight ps
  IsStraight (Choice bs ps) = ⊥
  IsStraight (Label k) = ⊥
  IsStraight (Jump k) = ⊥

  pub AreStraight : Parts → Type 0
  AreStraight no_parts = ⊤
  AreStraight (part p ps) = IsStraight p × AreStraight ps

-- ---- names

abbrev pub loops_in : Nest → List NestedLoop
loops_in n = nested_loops n.symbols [] n.body

abbrev pub variables_in : Nest → List (List ℕ)
variables_in n = map (λ (l : NestedLoop). l.turns.variable) (loops_in n)

abbrev pub counters_in : Nest → List (List ℕ)
counters_in n = map (λ (l : NestedLoop). l.turns.counter) (loops_in n)

abbrev pub names_of_statement : Guarded → List (List ℕ)
names_of_statement g = g.left.name ∷ names_in_subscripts g.left.subscripts ++ names_in g.right

-- it gets its last values behind all loops
abbrev pub ends_behind : Nest → List ℕ → Bool
ends_behind n x = is_among (variables_in n) x && stands_behind (length n.symbols) (loops_in n) n.body x

-- Within these loops: counters, the variables of the loops, and variables that get their last values behind all loops
abbrev pub apart_within : Nest → List NormalLoop → List ℕ → Bool
apart_within n round x = is_among (counters_in n) x || (ends_behind n x || is_among (variables_of round) x)

-- ---- what a nest has to be

-- no loop variable is that of a loop round its loop
abbrev pub HasOwnVariable : NestedLoop → Type 0
HasOwnVariable l = is_among (variables_of l.round) l.turns.variable ≡ false

-- of the names in a statement none is a counter, and it stores in no variable of a loop round it and in no symbol
pub record IsSuitedStatement (n : Nest) (s : Standing) : Type 0 where
  pub counters : All (λ x. is_among (counters_in n) x ≡ false) (names_of_statement s.statement)
  pub variables : is_among (map (λ (l : Loop). l.variable) s.loops) s.statement.left.name ≡ false
  pub symbols : is_among n.symbols s.statement.left.name ≡ false

pub record IsNormalSource (n : Nest) : Type 0 where
  pub normal : is_normal n.symbols [] n.body ≡ true
  pub straight : IsStraight n.body
  pub statements : All (IsSuitedStatement n) (nest_statements n)
  pub own : All HasOwnVariable (loops_in n)
  -- each loop has a counter of its own, which is no loop variable and no symbol, and no loop variable is a symbol
  pub once : Distinct (counters_in n)
  pub counters : All (λ x. is_among (variables_in n) x ≡ false) (counters_in n)
  pub apart : All (λ x. is_among n.symbols x ≡ false) (variables_in n ++ counters_in n)
