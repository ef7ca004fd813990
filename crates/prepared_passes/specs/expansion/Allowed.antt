-- Which prepared nests may be expanded.
use Rattle.std.specs.Prelude.{◌≡◌, None, ℕ, List}
use Rattle.tree.specs.Names.{IsSourceName}
use Rattle.tree.specs.Plain.{Declaration, Program}
use Rattle.meaning.specs.Dialect.{Dialect}
use Rattle.meaning.specs.Profile77.{IsProgram77}
use Rattle.meaning.specs.Typed.{declared}
use Rattle.meaning_laws.specs.profiles.Profiles.{AddMadeNames}
use Rattle.nest.specs.Plain.{Nest}
use Rattle.nest_order.specs.orders.Lists.{In}
use Rattle.pass_laws.specs.prepared_nests.Nests.{IsPrepared}
use Rattle.scalar_expand.specs.Privates.{private_scalars}
use Rattle.scalar_expand.specs.declared.privates.Private.{Private}
use Rattle.prepared_passes.specs.expansion.Laws.{MayBeExpanded}

-- A prepared nest that has the declarations of its program, where those that it stands in don't have the arrays yet:
-- what stands in it is declared, and so is what has been made for it
abbrev pub PreparedNestMayBeExpanded : Type 0
PreparedNestMayBeExpanded =
    (d : Dialect) (p : Program) (es : List Declaration) (around : List (List ℕ)) (deepest : ℕ) (m : Nest)
    → IsProgram77 d p → AddMadeNames p.declarations es → m.declarations ≡ p.declarations
    → IsPrepared es around deepest m
    → ((q : Private) → In q (private_scalars m) → IsSourceName q.name → declared es q.array ≡ None)
    → MayBeExpanded es m
