-- What was made for private scalars and for copies, in an expanded nest whose nodes were split and whose loops have
-- moved.
use Rattle.std.specs.Prelude.{◌≡◌, ℕ, ◌≤◌, Bool, List}
use Rattle.tree.specs.Plain.{Declaration, Program}
use Rattle.dependence_graph.specs.declared.graphs.Place.{Place}
use Rattle.emission.specs.emission_forms.Written.{HaveGuardedNames}
use Rattle.prepared_passes.specs.expansion.Left.{NoPrivateScalarIsLeft}
use Rattle.prepared_passes.specs.expansion.Places.{IsExpandedInPlaces}
use Rattle.prepared_passes.specs.expansion.Prepared.{extent_depth}
use Rattle.prepared_passes.specs.splitting.Splits.{MayBeSplit, nodes_split}
use Rattle.interchange.specs.Arranged.{arranged}
use Rattle.linear_forms.specs.Laws.{HoldsSized}
use Rattle.meaning.specs.Run.{State}
use Rattle.nest.specs.Plain.{Nest}
use Rattle.pass_laws.specs.prepared_nests.Nests.{IsPrepared}
use Rattle.pass_laws.specs.prepared_runs.Running.{MayRun, setting_at}
use Rattle.scalar_expand.specs.Expanded.{expanded}
use Rattle.statement_passes.specs.Standings.{IsLoop}
use Rattle.subscripts.specs.declared.affine.Dirs.{Dirs}
use Rattle.listing.specs.programs.Stages.{with_copies_before}
use Rattle.tree.specs.declared.width.Width.{Width}

-- Where the arrays are allocated by their extents, each reference to one names a cell in each instance of its
-- statement, whatever the guard is there, whichever reads are copied, and by whatever vectors the loops have moved
abbrev pub ArrangedNestHasGuardedNames : (width : Width) → Type 0
ArrangedNestHasGuardedNames width =
    (p b a : Program) (around : List (List ℕ)) (deepest deeper copies : ℕ) (m split : Nest) (may : Place → Bool)
    (vectors : List Dirs) (u : State) → IsExpandedInPlaces p b a around deepest deeper m → extent_depth ≤ deeper
    → MayBeSplit a.declarations may (with_copies_before copies (expanded m))
    → split ≡ nodes_split may (with_copies_before copies (expanded m))
    → (run : MayRun width a (arranged split vectors) u)
    → HoldsSized u.store → HaveGuardedNames (arranged split vectors) (setting_at width run)

-- Where no private scalar of m is left in the expanded nest but in copies, none is left once its loops have moved
abbrev pub ArrangedNestHasNoPrivateScalars : Type 0
ArrangedNestHasNoPrivateScalars =
    (es fs : List Declaration) (around outside : List (List ℕ)) (deepest deeper copies : ℕ) (m split : Nest)
    (may : Place → Bool) (vectors : List Dirs) → IsPrepared es around deepest m
    → IsPrepared fs outside deeper (expanded m) → IsLoop (expanded m).body
    → split ≡ nodes_split may (with_copies_before copies (expanded m))
    → MayBeSplit fs may (with_copies_before copies (expanded m))
    → extent_depth ≤ deeper → NoPrivateScalarIsLeft m (expanded m)
    → NoPrivateScalarIsLeft m (arranged split vectors)
