-- The holds of statements, level by level.
use Rattle.std.specs.Prelude.{ℕ, Bool, Option, Some, None, List, [], ◌∷◌, length}
use Rattle.std.specs.List.{flat_map}
use Rattle.tree.specs.Plain.{Expression, Reference}
use Rattle.meaning.specs.ArrayValues.{counted}
use Rattle.nest.specs.Bodies.{Standing, nest_statements}
use Rattle.nest.specs.Plain.{Nest}
use Rattle.array_form.specs.forms.Loops.{FormSurroundings}
use Rattle.array_form.specs.forms.Statements as forms
use Rattle.dependence_graph.specs.declared.graphs.Hold.{Hold}
use Rattle.dependence_graph.specs.declared.graphs.HoldReason.{HoldReason}
use Rattle.dependence_graph.specs.declared.graphs.HoldReason.TheVariants.{Form, Triangle, Bounds}
use Rattle.array_form.specs.holds.Bounds.{is_safe}
use Rattle.array_form.specs.holds.Statements.{statement_at}
use Rattle.array_form.specs.holds.Surroundings.{surroundings_of}

abbrev pub hold_reason_of : Option forms.HoldCause → Option HoldReason
hold_reason_of None = None
hold_reason_of (Some forms.FormHold) = Some Form
hold_reason_of (Some forms.TriangleHold) = Some Triangle
hold_reason_of (Some forms.BoundsHold) = Some Bounds

abbrev pub hold_with : ℕ → ℕ → Option HoldReason → List Hold
hold_with s k None = []
hold_with s k (Some r) = record { stmt = s; level = k; reason = r } ∷ []

-- the hold at a level, where there is one
abbrev pub hold_at_level : ℕ → FormSurroundings → Option Expression → Reference → Bool → ℕ → List Hold
hold_at_level s a guard left safe k = hold_with s k (hold_reason_of (forms.hold_at a k guard left safe))

-- what forbids the array form of a statement of the nest at a level
abbrev pub hold_of : Nest → Standing → ℕ → Option forms.HoldCause
hold_of n x k = forms.hold_at (surroundings_of n x.loops) k x.statement.guard x.statement.left (is_safe n x)

-- those of this statement, with the number s
abbrev pub holds_of_standing : Nest → ℕ → Standing → List Hold
holds_of_standing n s x =
    flat_map (hold_at_level s (surroundings_of n x.loops) x.statement.guard x.statement.left (is_safe n x))
    (counted 1 (length x.loops))

abbrev pub holds_of : Nest → ℕ → List Hold
holds_of n s = holds_of_standing n s (statement_at n s)

-- those of all statements, which are numbered from 1, in their order
abbrev pub all_holds : Nest → List Hold
all_holds n = flat_map (holds_of n) (counted 1 (length (nest_statements n)))
