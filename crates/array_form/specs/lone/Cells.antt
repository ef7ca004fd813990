-- References that name cells in each instance of their statement, whatever its guard is there.
use Rattle.std.specs.Prelude.{◌≡◌, ⊤, Some, None, IsSome, ℕ, ◌≤◌, ℤ, true, Option, List, [], ◌∷◌}
use Rattle.tree.specs.Plain.{Expression, Only, Section, Subscripts, no_subscripts, subscript, Reference}
use Rattle.meaning.specs.Run.{State, Going, does}
use Rattle.meaning.specs.Sections.{not_negative}
use Rattle.dependence_graph.specs.nest_graph.References.{variables_round as names_round}
use Rattle.nest.specs.Bodies.{Standing, nest_statements}
use Rattle.nest.specs.Plain.{Loop}
use Rattle.nest.specs.Plain as plain
use Rattle.nest_order.specs.facts.Facts.{HasFacts}
use Rattle.nest_order.specs.orders.Lists.{In}
use Rattle.nest_order.specs.orders.Nests.{IsInstance}
use Rattle.nest_order.specs.orders.Shapes.{Instance, statements}
use Rattle.nest_order.specs.runs.Blocks.{Layout, nest_statement}
use Rattle.nest_order.specs.runs.Cells.{NamesCell}
use Rattle.nest_order.specs.runs.Guarded.{sequential}
use Rattle.nest_order.specs.runs.Nests.{RunNest, variables_round}
use Rattle.nest_order.specs.runs.Stores.{Setting, HoldsNest, IsNestIn}
use Rattle.nest_order.specs.runs.Touched.{nth_of, references_read}
use Rattle.nest_order.specs.shapes.Shapes.{nest_of}
use Rattle.array_form.specs.forms.Loops.{FormTrip}
use Rattle.array_form.specs.holds.Bounds.{declared_bounds, is_constant_trip, is_made, is_safe, trips_round}
use Rattle.tree.specs.Widths.{bits_of}
use Rattle.tree.specs.declared.width.Width.{Width}

-- each subscript is linear
abbrev pub AreLinear : RunNest → ℕ → Subscripts → Type 0
AreLinear n s no_subscripts = ⊤
AreLinear n s (subscript (Only e) ps) = IsSome (n.linear s e) × AreLinear n s ps
AreLinear n s (subscript (Section a b c) ps) = ⊥

-- the reference r of the statement s has linear subscripts, and in each instance a cell within the bounds of its name
pub record HasCells (n : RunNest) (w : Setting) (s : ℕ) (r : Reference) : Type 0 where
  pub linear : AreLinear n s r.subscripts
  pub names : (x : Instance) → IsInstance n.loops_of (n.turns_of w.values) n.shape x → x.statement ≡ s
      → NamesCell n w x r

abbrev pub IsReferenceOf : RunNest → ℕ → Reference → Type 0
IsReferenceOf n s r = In r ((n.statement_at s).left ∷ references_read (n.statement_at s))

abbrev pub HaveCells : RunNest → Setting → ℕ → Type 0
HaveCells n w s = (r : Reference) → IsReferenceOf n s r → HasCells n w s r

-- the instances of statements without a guard name cells
abbrev pub UnguardedNameCells : RunNest → Setting → Type 0
UnguardedNameCells n w =
    (x : Instance) → IsInstance n.loops_of (n.turns_of w.values) n.shape x → (n.statement_at x.statement).guard ≡ None
    → (r : Reference) → IsReferenceOf n x.statement r → NamesCell n w x r

-- so they do where a sequential run of the nest goes on
abbrev pub RunNamesCells : Type 0
RunNamesCells = (bits : ℕ) (n : RunNest) (w : Setting) (y : Layout) (s : State)
    → IsNestIn bits n w → HoldsNest bits n w s.store
    → (does (sequential bits) None (nest_statement n y [] n.shape) s).way ≡ Going → UnguardedNameCells n w

-- ---- a nest in its setting

-- what the nest's program declares has its bounds
abbrev pub HasDeclaredBounds : plain.Nest → Setting → Type 0
HasDeclaredBounds p w =
    (x : List ℕ) (bs : List (ℤ × ℤ)) → declared_bounds p x ≡ Some bs → w.bounds x ≡ Some bs

-- the turns of loops, by the values of symbols and the iterations of the loops round them: a loop with a constant trip
-- turns as often at most
abbrev pub KeepConstantTrips : ((ℕ → ℤ) → ℕ → List ℕ → ℕ) → (ℕ → ℤ) → Standing → Type 0
KeepConstantTrips turns values x = (j : ℕ) (l : Loop) (t : FormTrip) (before : List ℕ)
    → nth_of x.loops j ≡ Some l → nth_of (trips_round x) j ≡ Some t → is_constant_trip t ≡ true
    → turns values l.number before ≤ not_negative t.form.constant

-- the nest's statements stand in the shape, each in its own loops
abbrev pub StatementsStand : plain.Nest → RunNest → Type 0
StatementsStand p n = (s : ℕ) (x : Standing) → nth_of (nest_statements p) s ≡ Some x
    → In s (statements n.shape) × (variables_round n s ≡ names_round x)

-- Let a nest of loops and statements alone stand in a setting with its facts, let what is declared have its bounds, let
-- a loop with a constant trip turn as often at most, and let made arrays be as large as their references ask. Where the
-- instances of statements without a guard name cells, so does each reference of a safe statement, whatever its guard is
abbrev pub SafeStatementsHaveCells : (width : Width) → Type 0
SafeStatementsHaveCells width =
    (p : plain.Nest) (linear : ℕ → Expression → Option ((ℕ → ℤ) → List ℕ → ℤ))
    (turns : (ℕ → ℤ) → ℕ → List ℕ → ℕ) (w : Setting) (s : ℕ) (x : Standing)
    → StatementsStand p (nest_of p.body p.symbols linear turns)
    → HasFacts (bits_of width) (nest_of p.body p.symbols linear turns) w
    → nth_of (nest_statements p) s ≡ Some x
    → HasDeclaredBounds p w → KeepConstantTrips turns w.values x
    → UnguardedNameCells (nest_of p.body p.symbols linear turns) w
    → ((r : Reference) → IsReferenceOf (nest_of p.body p.symbols linear turns) s r → is_made p r.name ≡ true
    → HasCells (nest_of p.body p.symbols linear turns) w s r)
    → is_safe p x ≡ true
    → HaveCells (nest_of p.body p.symbols linear turns) w s
