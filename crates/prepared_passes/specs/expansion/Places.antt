-- A prepared nest and the expanded one, each run in a place of its own: before expansion a mask is a LOGICAL scalar,
-- and behind it an array of the same name.
use Rattle.std.specs.Prelude.{◌≡◌, ℕ, None, Some, All, Contains, List, []}
use Rattle.tree.specs.Names.{IsSourceName}
use Rattle.tree.specs.Plain.{Declaration, Program}
use Rattle.emission.specs.emission_forms.Written.{HaveGuardedNames}
use Rattle.linear_forms.specs.Laws.{HoldsSized}
use Rattle.meaning.specs.Dialect.{fortran77}
use Rattle.tree.specs.declared.width.Width.{Width}
use Rattle.meaning.specs.Holding.{HoldsProgram}
use Rattle.meaning.specs.Run.{State, does_all}
use Rattle.meaning.specs.Store.{names_of}
use Rattle.meaning.specs.Typed.{declared}
use Rattle.meaning_laws.specs.profiles.Profiles.{AddMadeNames}
use Rattle.nest.specs.Plain.{Loop, Made, Nest, Parts, Turns}
use Rattle.nest_steps.specs.Keeping.{GoOnAlike}
use Rattle.pass_laws.specs.prepared_nests.Nests.{IsPrepared}
use Rattle.pass_laws.specs.prepared_nests.Statements.{made_names}
use Rattle.pass_laws.specs.prepared_runs.Allocations.{IsSameBut}
use Rattle.pass_laws.specs.prepared_runs.Running.{MayRun, loops_then_after, setting_at}
use Rattle.rewrite.specs.Following.{IsSound}
use Rattle.scalar_expand.specs.Expanded.{expanded}
use Rattle.prepared_passes.specs.expansion.Laws.{MayBeExpanded}
use Rattle.prepared_passes.specs.expansion.Runs.{IsFreeBehind}

-- ---- places

-- The program b declares what stands in the nest, and a what stands in the expanded one. Both have the names of p, a
-- program of FORTRAN 77, and further ones; what wasn't made for the nest is declared alike
pub record ArePlacesOf (p b a : Program) (m : Nest) : Type 0 where
  pub source : (x : List ℕ) → Contains (names_of p) x → IsSourceName x
  pub before : AddMadeNames p.declarations b.declarations
  pub behind : AddMadeNames p.declarations a.declarations
  pub alike : (x : List ℕ) (d : Declaration) → declared b.declarations x ≡ Some d → ¬ Contains (made_names m) x
      → declared a.declarations x ≡ Some d

-- passes have made scalars alone so far, as masks are
abbrev pub AreMadeScalars : Nest → Type 0
AreMadeScalars m = All (λ (a : Made). a.extents ≡ []) m.made

-- A nest of one loop, prepared by b, and by a once it is expanded
pub record IsExpandedInPlaces (p b a : Program) (around : List (List ℕ)) (deepest deeper : ℕ) (m : Nest) : Type 0 where
  pub places : ArePlacesOf p b a m
  pub loop : Loop
  pub body : Parts
  pub turns : m.body ≡ Turns loop body
  pub before : IsPrepared b.declarations around deepest m
  pub behind : IsPrepared a.declarations around deeper (expanded m)
  pub may : MayBeExpanded b.declarations m
  pub free : IsFreeBehind m
  pub scalars : AreMadeScalars m

-- ---- runs

-- A moment in the place of b that goes with the moment u in the place of a: all names but those that were made for the
-- nest have the bounds and the values that they have there. Where the nest's loops with what comes after them meet no
-- fault from it, neither do those of the expanded nest from u, and they come to moments that agree on p
pub record IsBegunBefore (width : Width) (p b : Program) (m : Nest) (u : State) : Type 0 where
  pub state : State
  pub holds : HoldsProgram (fortran77 width) b state.store
  pub sized : HoldsSized state.store
  pub others : IsSameBut (made_names m) u.store state.store
  pub alike : GoOnAlike p state u
  pub leads : IsSound (does_all (fortran77 width) None (loops_then_after m) state).way
      → GoOnAlike p (does_all (fortran77 width) None (loops_then_after m) state)
      (does_all (fortran77 width) None (loops_then_after (expanded m)) u)

-- So for each moment at which the expanded nest may be run there is one before
abbrev pub ExpandedNestIsBegunBefore : (width : Width) → Type 0
ExpandedNestIsBegunBefore width = (p b a : Program) (around : List (List ℕ)) (deepest deeper : ℕ) (m : Nest) (u : State)
    → IsExpandedInPlaces p b a around deepest deeper m → MayRun width a (expanded m) u → HoldsSized u.store
    → IsBegunBefore width p b m u

-- ---- guards

-- Where the arrays are allocated by their extents, each reference to one names a cell in each instance of its
-- statement, whatever the guard is there
abbrev pub ExpandedNestHasGuardedNames : (width : Width) → Type 0
ExpandedNestHasGuardedNames width =
    (p b a : Program) (around : List (List ℕ)) (deepest deeper : ℕ) (m : Nest) (u : State)
    → IsExpandedInPlaces p b a around deepest deeper m → (may : MayRun width a (expanded m) u) → HoldsSized u.store
    → HaveGuardedNames (expanded m) (setting_at width may)
