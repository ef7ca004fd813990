-- Statements of a nest, each in the loops round it.
use Rattle.std.specs.Prelude.{◌≡◌, ◌⊎◌, ℕ, ◌≤◌, ◌<◌, ◌^◌, Option, Some, None, IfSome, All, Contains}
use Rattle.std.specs.Prelude.{List, [], ◌∷◌, ◌++◌, map}
use Rattle.std.specs.Option.{option_map}
use Rattle.tree.specs.Names.{IsSourceName}
use Rattle.tree.specs.Plain.{Declaration, Expression}
use Rattle.tree.specs.declared.ops.Kind.{Kind}
use Rattle.tree.specs.declared.ops.Kind.TheVariants.{Logical}
use Rattle.meaning.specs.Labels.{IsLine}
use Rattle.meaning.specs.Depths.{depth_of}
use Rattle.meaning.specs.Reads.{names_in}
use Rattle.meaning.specs.Typed90.{IsScalar}
use Rattle.meaning.specs.Value.{named}
use Rattle.rewrite.specs.Making.{made, made_subscripts}
use Rattle.linear_forms.specs.Canonical.{canonising}
use Rattle.nest.specs.Bodies.{Standing}
use Rattle.nest.specs.Plain.{Guarded, Loop, Made, Nest}
use Rattle.nest_order.specs.runs.Guarded as runs
use Rattle.nest_order.specs.runs.Guarded.{names_of}
use Rattle.nest_order.specs.runs.Touched.{IsPlainAssignment}
use Rattle.nest_order.specs.shapes.Shapes.{numbers_of}
use Rattle.last_values.specs.normal_forms.NormalLoops.{counter_name}
use Rattle.pass_laws.specs.prepared_nests.Loops.{variables_of_loops}

-- ---- what stands in a statement

-- without its line
abbrev pub assignment : Guarded → runs.GuardedAssignment
assignment g = record { guard = g.guard; left = g.left; right = g.right }

abbrev pub guard_or_none : Option Expression → List Expression
guard_or_none None = []
guard_or_none (Some e) = e ∷ []

-- guard, left side and right side
abbrev pub expressions_of : Guarded → List Expression
expressions_of g = guard_or_none g.guard ++ named g.left ∷ g.right ∷ []

-- ---- names

-- a name that counts loops counts one of these
abbrev pub IsOwn : List Loop → List ℕ → Type 0
IsOwn ls x = (k : ℕ) → k < 2 ^ 32 → x ≡ counter_name k → Contains (numbers_of ls) k

abbrev pub made_names : Nest → List (List ℕ)
made_names m = map (λ (a : Made). a.name) m.made

-- ---- canonical text

-- Over these loops and symbols canonical text leaves the statement as it is, but maybe for a right side in which
-- nothing stands but these, as last values of loops are written
pub record IsCanonical (loops symbols : List (List ℕ)) (g : Guarded) : Type 0 where
  pub guard : option_map (made (canonising loops symbols)) g.guard ≡ g.guard
  pub left : made_subscripts (canonising loops symbols) g.left.subscripts ≡ g.left.subscripts
  pub right : (made (canonising loops symbols) g.right ≡ g.right)
      ⊎ All (Contains (loops ++ symbols)) (names_in g.right)

-- ---- statements

-- An assignment of scalars of one kind by the declarations, maybe under a scalar condition. What it writes is a name of
-- the source or a made one, and no symbol
pub record IsPreparedStatement (es : List Declaration) (m : Nest) (deepest : ℕ) (x : Standing) : Type 0 where
  pub line : IsLine x.statement.line
  pub plain : IsPlainAssignment (assignment x.statement)
  pub names : All (IsOwn x.loops) (names_of (assignment x.statement))
  pub target : IsSourceName x.statement.left.name ⊎ Contains (made_names m) x.statement.left.name
  pub free : ¬ Contains m.symbols x.statement.left.name
  pub kind : Kind
  pub left : IsScalar es (named x.statement.left) kind
  pub right : IsScalar es x.statement.right kind
  pub guard : IfSome x.statement.guard (λ (e : Expression). IsScalar es e Logical)
  pub deep : All (λ (e : Expression). depth_of e ≤ deepest) (expressions_of x.statement)
  pub canonical : IsCanonical (variables_of_loops x.loops) m.symbols x.statement
