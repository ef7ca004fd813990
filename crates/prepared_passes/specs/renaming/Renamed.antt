-- The names that renaming makes for a nest, and what is asked where they are made.
use Rattle.std.specs.Prelude.{◌≡◌, ℕ, ◌<◌, ◌^◌, Some, Contains, List, [], map}
use Rattle.std.specs.Option.{IsSomeAnd}
use Rattle.meaning.specs.Names.{IsInByteOrder}
use Rattle.meaning.specs.Reads.{names_in_block}
use Rattle.meaning.specs.Typed.{declared}
use Rattle.nest.specs.Plain.{Made, Nest}
use Rattle.nest_order.specs.orders.Lists.{In}
use Rattle.pass_laws.specs.prepared_nests.Statements.{made_names}
use Rattle.pass_laws.specs.prepared_runs.Running.{loops_then_after}
use Rattle.scalar_rename.specs.Ranges.{webs_of}
use Rattle.scalar_rename.specs.Renamed.{made_of_webs}
use Rattle.scalar_rename.specs.declared.ranges.Web.{Web}
use Rattle.statement_passes.specs.Standings.{IsLoop}
use Rattle.tree.specs.Plain.{Declaration, Given}

-- the scalars that renaming makes for a nest
abbrev pub names_made : Nest → List Made
names_made m = made_of_webs m.number (webs_of m)

-- by these declarations the names that are to be made are scalars of their kinds
abbrev pub AreNamesDeclared : List Declaration → Nest → Type 0
AreNamesDeclared es m = (a : Made) → In a (names_made m)
    → IsSomeAnd (declared es a.name) (λ (d : Declaration). (d.kind ≡ a.kind) × (d.extent ≡ Given []))

-- A nest of one loop, whose declarations stand in byte order, and are among those of the program that it is to stand
-- in; this has the names that are to be made. So far they stand nowhere in the nest, and nothing that was made has one
pub record MayBeRenamed (es : List Declaration) (m : Nest) : Type 0 where
  pub loop : IsLoop m.body
  pub few : (w : Web) → In w (webs_of m) → w.ranges < 2 ^ 64
  pub ordered : IsInByteOrder (map (λ (d : Declaration). d.name) m.declarations)
  pub among : (x : List ℕ) (d : Declaration) → declared m.declarations x ≡ Some d → declared es x ≡ Some d
  pub declared : AreNamesDeclared es m
  pub fresh : (a : Made) → In a (names_made m) → ¬ Contains (names_in_block (loops_then_after m)) a.name
  pub unmade : (a : Made) → In a (names_made m) → ¬ Contains (made_names m) a.name
