-- Prepared nests with their loops moved.
use Rattle.std.specs.Prelude.{ℕ, ◌+◌, None, List, Contains}
use Rattle.tree.specs.Plain.{Declaration, Program}
use Rattle.meaning.specs.Dialect.{fortran77}
use Rattle.tree.specs.declared.width.Width.{Width}
use Rattle.meaning.specs.Profile90.{AreDeclarations}
use Rattle.meaning.specs.Run.{State, does_all}
use Rattle.meaning.specs.Store.{names_of}
use Rattle.rewrite.specs.Following.{IsSound}
use Rattle.subscripts.specs.declared.affine.Dirs.{Dirs}
use Rattle.linear_forms.specs.Laws.{HoldsSized}
use Rattle.nest.specs.Plain.{Nest}
use Rattle.dependence_graph.specs.declared.graphs.Graph.{Graph}
use Rattle.dependence_graph.specs.nest_graph.Graph.{IsGraphOf}
use Rattle.interchange.specs.Arranged.{arranged, vectors_of}
use Rattle.nest_steps.specs.Keeping.{KeepsAgreement, MayStandFor, Place, Starts}
use Rattle.pass_laws.specs.prepared_nests.After.{CountsNone}
use Rattle.pass_laws.specs.prepared_nests.Nests.{IsPrepared}
use Rattle.pass_laws.specs.prepared_runs.Running.{GoOnTogether, MayRun, loops_then_after}

-- the nest is prepared again, whatever the vectors are; canonical text rises by 18 at most
abbrev pub ArrangedNestIsPrepared : Type 0
ArrangedNestIsPrepared = (es : List Declaration) (around : List (List ℕ)) (deepest : ℕ) (m : Nest) (vectors : List Dirs)
    → IsPrepared es around deepest m → IsPrepared es around (deepest + 18) (arranged m vectors)

-- By the vectors of its graph it goes on as the nest does, where the numbers that the store holds are of 64 bits
abbrev pub ArrangedNestGoesOnAsNest : (width : Width) → Type 0
ArrangedNestGoesOnAsNest width = (p : Program) (around : List (List ℕ)) (deepest : ℕ) (m : Nest) (g : Graph) (s : State)
    → AreDeclarations p.declarations → IsPrepared p.declarations around deepest m → IsGraphOf m g
    → MayRun width p m s → HoldsSized s.store → IsSound (does_all (fortran77 width) None (loops_then_after m) s).way
    → GoOnTogether m s (does_all (fortran77 width) None (loops_then_after m) s)
    (does_all (fortran77 width) None (loops_then_after (arranged m (vectors_of g.edges))) s)

-- So it may stand for the nest, where that keeps agreement on p, which has names of the place that count no loops, in a
-- place in which made arrays are as large as their extents say
abbrev pub ArrangedMayStandFor : (width : Width) → Type 0
ArrangedMayStandFor width = (p : Program) (around : List (List ℕ)) (deepest : ℕ) (m : Nest) (g : Graph) (w : Place)
    → AreDeclarations w.program.declarations → IsPrepared w.program.declarations around deepest m → IsGraphOf m g
    → ((x : List ℕ) → Contains (names_of p) x → Contains (names_of w.program) x)
    → ((x : List ℕ) → Contains (names_of p) x → CountsNone x)
    → ((s : State) → Starts width w s → MayRun width w.program m s) → KeepsAgreement width p w (loops_then_after m)
    → MayStandFor width p w (loops_then_after m) w (loops_then_after (arranged m (vectors_of g.edges)))
