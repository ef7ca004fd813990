-- Nests whose nodes were split, and what is asked where they are.
use Rattle.std.specs.Prelude.{◌≡◌, ◌⊎◌, ◌+◌, ◌<◌, ◌≤◌, ◌^◌, IsSome, Some, ℕ, Bool, Contains, List, length, unwrap_or}
use Rattle.std.specs.Option.{IsSomeAnd}
use Rattle.tree.specs.Names.{IsSourceName}
use Rattle.tree.specs.Plain.{Declaration}
use Rattle.meaning.specs.Reads.{names_in_block}
use Rattle.meaning.specs.Typed.{declared}
use Rattle.nest.specs.Bodies.{Standing, nest_statements}
use Rattle.nest.specs.Plain.{Made, Nest}
use Rattle.nest_order.specs.orders.Lists.{In}
use Rattle.nest_order.specs.runs.Guarded.{names_of}
use Rattle.dependence_graph.specs.declared.graphs.Place.{Place}
use Rattle.last_values.specs.normal_forms.NormalLoops.{counter_name}
use Rattle.statement_passes.specs.Standings.{IsLoop}
use Rattle.pass_laws.specs.prepared_nests.Made.{extent_for}
use Rattle.pass_laws.specs.prepared_nests.Statements.{assignment, made_names}
use Rattle.pass_laws.specs.prepared_runs.Running.{loops_then_after}
use Rattle.node_splitting.specs.Split.{made_arrays, with_nodes_split}

-- the nest behind the pass: where nothing is copied it stays as it is
abbrev pub nodes_split : (Place → Bool) → Nest → Nest
nodes_split may m = unwrap_or (with_nodes_split may m) m

-- the name of an array of copies
abbrev pub IsCopyName : (Place → Bool) → Nest → List ℕ → Type 0
IsCopyName may m x = (a : Made) × In a (made_arrays may m) × (a.name ≡ x)

-- a name that the nest's declarations have, or that was made for it, or that counts a loop
abbrev pub IsKnown : Nest → List ℕ → Type 0
IsKnown m x =
    IsSome (declared m.declarations x) ⊎ (Contains (made_names m) x ⊎ ((k : ℕ) × (k < 2 ^ 32) × (x ≡ counter_name k)))

-- A nest of one loop, in whose statements stand known names alone. Its declarations have names of the source, and are
-- among those of the program that it is to stand in; this has the arrays of copies by their kinds and extents. So far
-- they stand nowhere in the nest, and nothing that was made has the name of one. There are at most 2^32 copies
pub record MayBeSplit (es : List Declaration) (may : Place → Bool) (m : Nest) : Type 0 where
  pub loop : IsLoop m.body
  pub few : m.copies + length (made_arrays may m) ≤ 2 ^ 32
  pub among : (x : List ℕ) (d : Declaration) → declared m.declarations x ≡ Some d → declared es x ≡ Some d
  pub source : (x : List ℕ) (d : Declaration) → declared m.declarations x ≡ Some d → IsSourceName x
  pub known : (s : Standing) → In s (nest_statements m) → (x : List ℕ) → In x (names_of (assignment s.statement))
      → IsKnown m x
  pub declared : (a : Made) → In a (made_arrays may m) → IsSomeAnd (declared es a.name)
      (λ (d : Declaration). (d.kind ≡ a.kind) × (d.extent ≡ extent_for a.extents))
  pub fresh : (a : Made) → In a (made_arrays may m) → ¬ Contains (names_in_block (loops_then_after m)) a.name
  pub unmade : (a : Made) → In a (made_arrays may m) → ¬ Contains (made_names m) a.name
