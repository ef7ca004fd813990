-- What is known of nests in which inductions were substituted.
use Rattle.std.specs.Prelude.{◌≡◌, ℕ, ◌+◌, ◌≤◌, None, List}
use Rattle.tree.specs.Plain.{Block, Declaration, Program}
use Rattle.meaning.specs.Dialect.{fortran77}
use Rattle.tree.specs.declared.width.Width.{Width}
use Rattle.meaning.specs.Holding.{HoldsProgram}
use Rattle.meaning.specs.Run.{State, Going, does_all}
use Rattle.rewrite.specs.Following.{IsSound}
use Rattle.linear_forms.specs.Laws.{HoldsSized}
use Rattle.nest.specs.Allocations.{block_then}
use Rattle.nest.specs.Plain.{Nest}
use Rattle.pass_laws.specs.prepared_nests.Nests.{IsPrepared}
use Rattle.pass_laws.specs.prepared_runs.Running.{loops_then_after}
use Rattle.prepared_passes.specs.symbols.Sources.{IsOfSource}
use Rattle.inductions.specs.Nests.{inductions_substituted}
use Rattle.prepared_passes.specs.substitution.Behind.{IsApartBehind}

-- the same moment, with the same store, but for the number of steps
abbrev pub IsSameButSteps : State → State → Type 0
IsSameButSteps s t = t ≡ record s { steps = t.steps }

-- Where the loops of a nest with what comes after them meet no fault, those of the nest with its inductions substituted
-- meet none, and come to the same moment but for the number of steps
abbrev pub SubstitutedNestRunsAlike : (width : Width) → Type 0
SubstitutedNestRunsAlike width = (p : Program) (around : List (List ℕ)) (deepest : ℕ) (n : Nest) (s : State)
    → IsPrepared p.declarations around deepest n → IsOfSource p.declarations n → IsApartBehind n
    → s.way ≡ Going → HoldsProgram (fortran77 width) p s.store → HoldsSized s.store
    → IsSound (does_all (fortran77 width) None (loops_then_after n) s).way
    → IsSameButSteps (does_all (fortran77 width) None (loops_then_after n) s)
    (does_all (fortran77 width) None (loops_then_after (inductions_substituted n)) s)

-- A form that stands for a scalar is at most 5 deep, and canonical text at most 18 deeper; this is room for last values
abbrev pub room : ℕ
room = 75

-- it is prepared by the same declarations
abbrev pub SubstitutedNestIsPrepared : Type 0
SubstitutedNestIsPrepared = (es : List Declaration) (around : List (List ℕ)) (deepest : ℕ) (n : Nest)
    → room ≤ deepest → IsPrepared es around deepest n → IsOfSource es n
    → IsPrepared es around (deepest + 23) (inductions_substituted n)

-- Whatever stands behind the nest, the same is substituted, and last values stand behind that
abbrev pub InductionsAreSubstitutedWithAnythingBehind : Type 0
InductionsAreSubstitutedWithAnythingBehind = (n : Nest) → (endings : Block)
    × ((after : Block) → inductions_substituted (record n { after = after })
    ≡ record (inductions_substituted n) { after = block_then after endings })
