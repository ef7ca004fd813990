-- What was made for a nest stands in its guarded statements as elements, by the variables of their loops, so that each
-- reference to it names a cell whatever the guard is.
use Rattle.std.specs.Prelude.{◌≡◌, ℕ, ◌≤◌, Bool, true, Some, None, List, map, reverse}
use Rattle.tree.specs.Plain.{Program, Reference, subscripts}
use Rattle.linear_forms.specs.Laws.{HoldsSized}
use Rattle.meaning.specs.Profile90.{AreDeclarations}
use Rattle.meaning.specs.Run.{State}
use Rattle.nest.specs.Bodies.{Standing, nest_statements}
use Rattle.nest.specs.Plain.{Loop, Nest}
use Rattle.nest_order.specs.orders.Lists.{In}
use Rattle.array_form.specs.holds.Bounds.{is_made}
use Rattle.dependence_graph.specs.declared.graphs.Place.{Place}
use Rattle.emission.specs.emission_forms.Written.{HaveGuardedNames}
use Rattle.pass_laws.specs.prepared_nests.Loops.{variables_of_loops}
use Rattle.pass_laws.specs.prepared_nests.Nests.{IsPrepared}
use Rattle.pass_laws.specs.prepared_runs.Running.{MayRun, setting_at}
use Rattle.prepared_passes.specs.expansion.Left.{references_touched}
use Rattle.prepared_passes.specs.expansion.Prepared.{extent_depth}
use Rattle.node_splitting.specs.Arrays.{variable_subscript}
use Rattle.node_splitting.specs.Split.{with_nodes_split}
use Rattle.prepared_passes.specs.splitting.Splits.{MayBeSplit}
use Rattle.tree.specs.declared.width.Width.{Width}

-- its subscripts are variables of some of these loops, and nothing more
pub record IsElementIn (ls : List Loop) (r : Reference) : Type 0 where
  pub variables : List (List ℕ)
  pub is : r.subscripts ≡ subscripts (reverse (map variable_subscript variables))
  pub among : (x : List ℕ) → In x variables → In x (variables_of_loops ls)

abbrev pub HasElements : Nest → Type 0
HasElements n = (y : Standing) → In y (nest_statements n) → ¬ (y.statement.guard ≡ None) → (r : Reference)
    → In r (references_touched y.statement) → is_made n r.name ≡ true → IsElementIn y.loops r

-- what held of the nest holds of the split one
abbrev pub SplitNestHasElements : Type 0
SplitNestHasElements =
    (p : Program) (around : List (List ℕ)) (deepest : ℕ) (may : Place → Bool) (m k : Nest)
    → IsPrepared p.declarations around deepest m → MayBeSplit p.declarations may m
    → with_nodes_split may m ≡ Some k → HasElements m → HasElements k

-- where arrays are allocated by their extents
abbrev pub SplitNestHasGuardedNames : (width : Width) → Type 0
SplitNestHasGuardedNames width =
    (p : Program) (around : List (List ℕ)) (deepest : ℕ) (may : Place → Bool) (m k : Nest) (u : State)
    → AreDeclarations p.declarations → IsPrepared p.declarations around deepest m → MayBeSplit p.declarations may m
    → extent_depth ≤ deepest → with_nodes_split may m ≡ Some k → HasElements m
    → ((h : MayRun width p m u) → HaveGuardedNames m (setting_at width h)) → (run : MayRun width p k u)
    → HoldsSized u.store
    → HaveGuardedNames k (setting_at width run)
