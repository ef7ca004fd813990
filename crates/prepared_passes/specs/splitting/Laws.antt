-- What is known of nests whose nodes were split, whichever reads are copied.
use Rattle.std.specs.Prelude.{◌≡◌, ℕ, ◌+◌, ◌≤◌, Bool, Some, None, Contains, List}
use Rattle.tree.specs.Names.{IsSourceName}
use Rattle.tree.specs.Plain.{Declaration, Program}
use Rattle.linear_forms.specs.Laws.{HoldsSized}
use Rattle.meaning.specs.Dialect.{fortran77}
use Rattle.tree.specs.declared.width.Width.{Width}
use Rattle.meaning.specs.Reads.{names_in_block}
use Rattle.meaning.specs.Run.{State, Going, does_all}
use Rattle.meaning.specs.Store.{Cell, names_of}
use Rattle.meaning.specs.Typed.{declared}
use Rattle.nest.specs.Plain.{Made, Nest}
use Rattle.nest_order.specs.orders.Lists.{In}
use Rattle.nest_steps.specs.Keeping.{KeepsAgreement, MayStandFor, Place as Where, Starts}
use Rattle.rewrite.specs.Following.{IsSound}
use Rattle.dependence_graph.specs.declared.graphs.Place.{Place}
use Rattle.pass_laws.specs.prepared_nests.Nests.{IsPrepared}
use Rattle.pass_laws.specs.prepared_nests.Statements.{made_names}
use Rattle.pass_laws.specs.prepared_runs.Running.{MayRun, loops_then_after}
use Rattle.prepared_passes.specs.expansion.Prepared.{extent_depth}
use Rattle.node_splitting.specs.Split.{made_arrays, with_nodes_split}
use Rattle.prepared_passes.specs.splitting.Splits.{IsCopyName, MayBeSplit}

-- ---- preparation

-- By declarations that don't have the arrays, these stand nowhere in a prepared nest, and nothing that was made has the
-- name of one
abbrev pub CopiesAreFresh : Type 0
CopiesAreFresh = (es : List Declaration) (around : List (List ℕ)) (deepest : ℕ) (may : Place → Bool) (m : Nest)
    → IsPrepared es around deepest m → ((a : Made) → In a (made_arrays may m) → declared es a.name ≡ None)
    → (a : Made) → In a (made_arrays may m)
    → (¬ Contains (names_in_block (loops_then_after m)) a.name) × (¬ Contains (made_names m) a.name)

-- an element in the place of a scalar is deeper by one, and canonical text by 18 at most
abbrev pub split_rise : ℕ
split_rise = 19

-- it is prepared by the same declarations
abbrev pub SplitNestIsPrepared : Type 0
SplitNestIsPrepared =
    (es : List Declaration) (around : List (List ℕ)) (deepest : ℕ) (may : Place → Bool) (m k : Nest)
    → IsPrepared es around deepest m → MayBeSplit es may m → extent_depth ≤ deepest
    → with_nodes_split may m ≡ Some k → IsPrepared es around (deepest + split_rise) k

-- ---- runs

-- The first moment is going, and the second one is the same but for its number of steps and what the arrays of copies
-- hold
pub record GoOnButCopies (may : Place → Bool) (m : Nest) (t u : State) : Type 0 where
  pub going : t.way ≡ Going
  pub bounds : (x : List ℕ) → u.store.bounds x ≡ t.store.bounds x
  pub held : (c : Cell) → ¬ IsCopyName may m c.name → u.store.held c ≡ t.store.held c
  pub rest : u ≡ record t { store = u.store; steps = u.steps }

-- From a moment at which the split nest may be run, where the loops of the nest with what comes after them meet no
-- fault, neither do those of the split nest
abbrev pub SplitNestGoesOnAsNest : (width : Width) → Type 0
SplitNestGoesOnAsNest width =
    (p : Program) (around : List (List ℕ)) (deepest : ℕ) (may : Place → Bool) (m k : Nest) (s : State)
    → IsPrepared p.declarations around deepest m → MayBeSplit p.declarations may m
    → with_nodes_split may m ≡ Some k → MayRun width p k s → HoldsSized s.store
    → IsSound (does_all (fortran77 width) None (loops_then_after m) s).way
    → GoOnButCopies may m (does_all (fortran77 width) None (loops_then_after m) s)
    (does_all (fortran77 width) None (loops_then_after k) s)

-- So it may stand for the nest, where that keeps agreement on p, a program of FORTRAN 77 that has names of the place,
-- in a place in which the arrays are as large as their extents say
abbrev pub SplitMayStandFor : (width : Width) → Type 0
SplitMayStandFor width =
    (p : Program) (around : List (List ℕ)) (deepest : ℕ) (may : Place → Bool) (m k : Nest) (w : Where)
    → IsPrepared w.program.declarations around deepest m → MayBeSplit w.program.declarations may m
    → extent_depth ≤ deepest → with_nodes_split may m ≡ Some k
    → ((x : List ℕ) → Contains (names_of p) x → Contains (names_of w.program) x × IsSourceName x)
    → ((s : State) → Starts width w s → MayRun width w.program k s) → KeepsAgreement width p w (loops_then_after m)
    → MayStandFor width p w (loops_then_after m) w (loops_then_after k)
