-- The array forms of a nest's statements, in the place of loops that have nothing else in them.
use Rattle.std.specs.Prelude.{◌≡◌, ◌⊎◌, ℕ, suc, ◌<◌, ◌≤◌, ◌+◌, nat_lt, Bool, true, ◌&&◌, if◌then◌else◌}
use Rattle.std.specs.Prelude.{Option, Some, None, List, [], ◌∷◌, ◌++◌, length}
use Rattle.std.specs.Str.{bytes_eq}
use Rattle.tree.specs.Plain.{Statement, Block, no_statements, statement}
use Rattle.array_form.specs.forms.Following.{are_moved, is_regular}
use Rattle.array_form.specs.forms.Guarded.{is_regular_guard}
use Rattle.array_form.specs.forms.Loops.{FormSurroundings}
use Rattle.array_form.specs.forms.Statements.{loops_assigned}
use Rattle.array_form.specs.forms.Statements.{HoldCause as HoldThere}
use Rattle.dependence_graph.specs.declared.graphs.Edge.{Edge}
use Rattle.dependence_graph.specs.declared.graphs.Hold.{Hold}
use Rattle.emission.specs.emission_pieces.Levels.{is_held, may_be_formed}
use Rattle.emission.specs.emission_pieces.Nests.{loops_at, standing_at}
use Rattle.emission.specs.emission_pieces.Pieces.{formed_block, mark_of}
use Rattle.emission.specs.emission_pieces.Shapes.{numbers_at}
use Rattle.nest_order.specs.orders.Shapes.{Shape, Single, Loop, Shapes, no_shapes, shape}
use Rattle.nest_order.specs.runs.Blocks.{Layout}
use Rattle.nest.specs.Bodies.{nest_statements}
use Rattle.nest.specs.Plain.{Nest}
use Rattle.array_form.specs.holds.Holds.{hold_of}
use Rattle.array_form.specs.holds.Surroundings.{surroundings_of}

-- ---- shapes

-- a statement, and the loops in which it stands with nothing beside it
pub record Lone : Type 0 where
  pub loops : List ℕ
  pub statement : ℕ

abbrev pub within : ℕ → Option Lone → Option Lone
within l None = None
within l (Some x) = Some (record { loops = l ∷ x.loops; statement = x.statement })

abbrev mutual
  pub lone_in : Shape → Option Lone
  lone_in (Single s) = Some (record { loops = []; statement = s })
  lone_in (Loop l ts) = within l (lone_among ts)

  pub lone_among : Shapes → Option Lone
  lone_among no_shapes = None
  lone_among (shape t no_shapes) = lone_in t
  lone_among (shape t (shape u us)) = None

-- ---- what the statements of a nest have to be

abbrev pub surroundings_at : Nest → ℕ → FormSurroundings
surroundings_at n s = surroundings_of n (loops_at n s)

-- what forbids the array form of a statement at a level
abbrev pub hold_there : Nest → ℕ → ℕ → Option HoldThere
hold_there n k s = hold_of n (standing_at n s) k

-- with the loops from the level k on, a left subscript moves with a loop that stands in it, and guard and right side
-- are regular
pub record IsRegularAt (n : Nest) (k s : ℕ) : Type 0 where
  pub left : let a = surroundings_at n s in let r = (standing_at n s).statement.left in
      are_moved a (loops_assigned a k r) r.subscripts ≡ true
  pub guard : let a = surroundings_at n s in let x = (standing_at n s).statement in
      is_regular_guard a (loops_assigned a k x.left) x.guard ≡ true
  pub right : let a = surroundings_at n s in let x = (standing_at n s).statement in
      is_regular a (loops_assigned a k x.left) x.right ≡ true

abbrev pub IsLevelOf : Nest → ℕ → ℕ → Type 0
IsLevelOf n k s = (s < length (nest_statements n)) × (1 ≤ k) × (k ≤ length (loops_at n s))

-- wherever nothing forbids array form
abbrev pub AreRegular : Nest → Type 0
AreRegular n = (k s : ℕ) → IsLevelOf n k s → hold_there n k s ≡ None → IsRegularAt n k s

-- what forbids the array form of a statement at a level is listed
abbrev pub AreAllHolds : Nest → List Hold → Type 0
AreAllHolds n holds =
    (k s : ℕ) → IsLevelOf n k s → hold_there n k s ≡ None ⊎ (is_held holds k s ≡ true)

-- ---- the forms

-- the statement of a block that has just one
abbrev pub only_in : Block → Option Statement
only_in no_statements = None
only_in (statement c no_statements) = Some c
only_in (statement c (statement d cs)) = None

module _ (n : Nest) (edges : List Edge) (holds : List Hold) where
  -- it stands in these loops, within the outer ones
  abbrev pub stands_in : List ℕ → Lone → Bool
  stands_in outer x =
      nat_lt x.statement (length (nest_statements n)) && bytes_eq (numbers_at n x.statement) (outer ++ x.loops)

  abbrev pub may_stand : List ℕ → Lone → Bool
  may_stand outer x = stands_in outer x && may_be_formed edges holds (suc (length outer)) x.statement

  abbrev pub form_of_lone : List ℕ → Option Lone → Option Statement
  form_of_lone outer None = None
  form_of_lone outer (Some x) =
      if may_stand outer x then only_in (formed_block n (suc (length outer)) x.statement) else None

  -- in the place of a loop within the outer ones, where its one statement may stand in array form
  abbrev pub formed : List ℕ → Shape → Option Statement
  formed outer (Single s) = None
  formed outer (Loop l ts) = form_of_lone outer (lone_in (Loop l ts))

-- a statement within all of its loops has the mark of its last level, and a loop the line of the nest
abbrev pub marked_layout : Nest → Layout
marked_layout n = record {
  line_at = λ s. (standing_at n s).statement.line;
  mark_at = λ s. Some (mark_of n s (length (loops_at n s) + 1));
  loop_line = λ l. n.line;
}
