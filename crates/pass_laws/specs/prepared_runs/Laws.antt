-- The meaning of what is emitted for prepared nests.
use Rattle.std.specs.Prelude.{◌≡◌, ℕ, ◌+◌, ◌^◌, ◌<◌, ◌≤◌, Some, None, All, IsSomeAnd, List, length, codes, Contains}
use Rattle.tree.specs.Limits.{expression_depth90}
use Rattle.tree.specs.Plain.{Declaration, Program}
use Rattle.meaning.specs.Blocks.{Surroundings}
use Rattle.meaning.specs.Dialect.{fortran77, fortran90}
use Rattle.tree.specs.declared.width.Width.{Width}
use Rattle.meaning.specs.Holding.{HoldsProgram}
use Rattle.meaning.specs.Profile77.{IsProgram77}
use Rattle.meaning.specs.Profile90.{AreDeclarations, IsBlock}
use Rattle.meaning.specs.Run.{State, does, does_all}
use Rattle.meaning.specs.Typed.{declared}
use Rattle.meaning.specs.Typed90.{IsFree}
use Rattle.meaning_laws.specs.profiles.Profiles.{AddMadeNames}
use Rattle.rewrite.specs.Following.{IsSound}
use Rattle.find_nests.specs.Found.{InNest, found_in}
use Rattle.find_nests.specs.Laws.{IsFoundNest}
use Rattle.find_nests.specs.Loops.{as_statement}
use Rattle.linear_forms.specs.Laws.{HoldsSized}
use Rattle.nest.specs.Bodies.{nest_loops, nest_statements}
use Rattle.nest.specs.Plain.{Loop, Nest}
use Rattle.nest_steps.specs.Keeping.{GoOnAlike}
use Rattle.normal_loops.specs.Normalised.{normalised}
use Rattle.pass_laws.specs.normal_facts.Laws.{IsCounter}
use Rattle.emission.specs.emission_forms.Written.{HaveGuardedNames}
use Rattle.array_form.specs.profile.Laws.{rise}
use Rattle.emission.specs.emission_pieces.Pieces.{Pieces, translation}
use Rattle.pass_laws.specs.prepared_nests.Nests.{IsPrepared}
use Rattle.pass_laws.specs.prepared_runs.Running.{ArePiecesOf, GoOnTogether, IsRunOfInstances, MayRun, loops_then_after}
use Rattle.pass_laws.specs.prepared_runs.Running.{pieces_then_after, setting_at}

-- ---- from a loop of the source to its nest

-- Let n be a nest of p, also with IFs and jumps, and m its normal form; r declares the names of p, the variables of m's
-- loops, and maybe further made names. From moments that agree on p, where the loop meets no fault, it goes on, and so
-- do the loops of m with what comes after them, to moments that agree on p. Numbers that the second store holds are of
-- 64 bits
abbrev pub NormalNestGoesOnAsLoop : (width : Width) → Type 0
NormalNestGoesOnAsLoop width = (p r : Program) (n m : Nest) (found : IsFoundNest p n) (s t : State)
    → IsProgram77 (fortran77 width) p → Contains (found_in p) (InNest n) → normalised n ≡ Some m
    → AddMadeNames p.declarations r.declarations
    → All (λ (l : Loop). IsSomeAnd (declared r.declarations l.variable) IsCounter) (nest_loops m)
    → HoldsProgram (fortran77 width) r t.store → HoldsSized t.store → GoOnAlike p s t
    → IsSound (does (fortran77 width) None (as_statement found.loop.loop.loop) s).way
    → GoOnAlike p (does (fortran77 width) None (as_statement found.loop.loop.loop) s)
    (does_all (fortran77 width) None (loops_then_after m) t)

-- ---- a nest's run

-- from a moment at which it may be run, where its loops and what comes after them meet no fault
abbrev pub RunOfPreparedNest : (width : Width) → Type 0
RunOfPreparedNest width = (p : Program) (around : List (List ℕ)) (deepest : ℕ) (m : Nest) (s : State)
    → IsPrepared p.declarations around deepest m → MayRun width p m s
    → IsSound (does_all (fortran77 width) None (loops_then_after m) s).way → IsRunOfInstances width m s

-- ---- from a nest to what is emitted for it

-- Let m be a prepared nest. From a moment at which it may be run, and where made arrays are as large as its guarded
-- statements ask, if the sequential run of its loops and of what comes after them meets no fault, the array run of what
-- is emitted goes on together with it
abbrev pub PiecesGoOnAsNest : (width : Width) → Type 0
PiecesGoOnAsNest width = (p : Program) (around : List (List ℕ)) (deepest : ℕ) (m : Nest) (ps : Pieces) (s : State)
    → AreDeclarations p.declarations → IsPrepared p.declarations around deepest m
    → ArePiecesOf m ps → (may : MayRun width p m s) → HaveGuardedNames m (setting_at width may)
    → IsSound (does_all (fortran77 width) None (loops_then_after m) s).way
    → GoOnTogether m s (does_all (fortran77 width) None (loops_then_after m) s)
    (does_all (fortran90 width) None (pieces_then_after m ps) s)

-- ---- as a block of the profile

-- Marks have numbers of 32 bits, array forms are so much deeper than what they are made of, no declared name hides a
-- function that they call, and the loops round the nest have these variables. Made arrays are allocated before, and
-- deallocated behind
abbrev pub PreparedTranslationIsOfProfile : Type 0
PreparedTranslationIsOfProfile = (es : List Declaration) (around : List (List ℕ)) (deepest : ℕ) (m : Nest) (ps : Pieces)
    (w : Surroundings)
    → AreDeclarations es → IsPrepared es around deepest m → ArePiecesOf m ps
    → length (nest_statements m) + 1 < 2 ^ 32 → deepest + rise ≤ expression_depth90
    → AddMadeNames m.declarations es → IsFree es (codes "TRANSPOSE") → IsFree es (codes "RESHAPE")
    → w.variables ≡ around → IsBlock es (translation m ps) w
