-- The marked statements of a block, with what stands round each.
use Rattle.std.specs.Prelude.{◌≡◌, ℕ, zero, suc, ◌+◌, ◌-◌, nat_le, pos, if◌then◌else◌, Option, None, Some}
use Rattle.std.specs.Prelude.{List, [], ◌∷◌, ◌++◌, map, length, take, Contains}
use Rattle.std.specs.List.{flat_map}
use Rattle.tree.specs.Plain.{Expression, Number, Statement, Assignment, Where, If, Do, Label, GoTo, Stop, Read}
use Rattle.tree.specs.Plain.{Print, Allocate, Deallocate, Arms, no_arms, arm, Block, no_statements, statement}
use Rattle.tree.specs.declared.stmts.Mark.{Mark}
use Rattle.array_form.specs.forms.Loops.{form_names_of}
use Rattle.array_form.specs.forms.Statements.{and_all, array_assignment, guarded_form, loops_assigned, loops_from}
use Rattle.array_form.specs.forms.Statements.{stand_in_guard, form_tests_of}
use Rattle.nest.specs.Plain.{Loop, Nest}
use Rattle.nest.specs.Bodies.{statement_number}
use Rattle.array_form.specs.holds.Surroundings.{surroundings_of}
use Rattle.emission.specs.emission_pieces.Nests.{loops_at, standing_at}
use Rattle.emission.specs.emission_pieces.Pieces.{kept_assignment, mark_of}

-- a loop with its variable and its bounds, a condition, or none of the conditions of an IF
pub data Round : Type 0 where
  Turning : List ℕ → Expression → Expression → Expression → Round
  Under : Expression → Round
  Otherwise : Round

-- an assignment or a WHERE with its mark, and what stands round it, from the outside in
pub record Marked : Type 0 where
  pub round : List Round
  pub mark : Mark
  pub statement : Statement

abbrev pub with_mark : List Round → Option Mark → Statement → List Marked
with_mark round None c = []
with_mark round (Some m) c = record { round = round; mark = m; statement = c } ∷ []

abbrev mutual
  pub marked : List Round → Statement → List Marked
  marked round (Assignment line mark left right) = with_mark round mark (Assignment line mark left right)
  marked round (Where line mark mask left right) = with_mark round mark (Where line mark mask left right)
  marked round (If line arms other) = marked_under round arms ++ marked_in (round ++ Otherwise ∷ []) other
  marked round (Do line x first last step body) = marked_in (round ++ Turning x first last step ∷ []) body
  marked round (Label k) = []
  marked round (GoTo line k) = []
  marked round (Stop line) = []
  marked round (Read line is) = []
  marked round (Print line is) = []
  marked round (Allocate line x es) = []
  marked round (Deallocate line x) = []

  pub marked_under : List Round → Arms → List Marked
  marked_under round no_arms = []
  marked_under round (arm test body arms) = marked_in (round ++ Under test ∷ []) body ++ marked_under round arms

  pub marked_in : List Round → Block → List Marked
  marked_in round no_statements = []
  marked_in round (statement c cs) = marked round c ++ marked_in round cs

-- ---- the bodies of the loops of a block, by levels

abbrev mutual
  pub bodies : Statement → List Block
  bodies (Assignment line mark left right) = []
  bodies (Where line mark mask left right) = []
  bodies (If line arms other) = bodies_under arms ++ bodies_in other
  bodies (Do line x first last step body) = body ∷ []
  bodies (Label k) = []
  bodies (GoTo line k) = []
  bodies (Stop line) = []
  bodies (Read line is) = []
  bodies (Print line is) = []
  bodies (Allocate line x es) = []
  bodies (Deallocate line x) = []

  pub bodies_under : Arms → List Block
  bodies_under no_arms = []
  bodies_under (arm test body arms) = bodies_in body ++ bodies_under arms

  pub bodies_in : Block → List Block
  bodies_in no_statements = []
  bodies_in (statement c cs) = bodies c ++ bodies_in cs

-- with so many loops round what stands in them
abbrev pub bodies_at : ℕ → Block → List Block
bodies_at zero b = b ∷ []
bodies_at (suc k) b = flat_map (bodies_at k) (bodies_in b)

-- the statement with this place stands marked in the block, by its number
pub record HasMarked (b : Block) (s : ℕ) : Type 0 where
  pub it : Marked
  pub among : Contains (marked_in [] b) it
  pub number : it.mark.stmt ≡ statement_number s

-- both stand in one loop of this level
pub record StandTogether (k : ℕ) (b : Block) (s r : ℕ) : Type 0 where
  pub body : Block
  pub among : Contains (bodies_at k b) body
  pub first : HasMarked body s
  pub second : HasMarked body r

-- ---- the statements of a nest

abbrev pub turning_of : Loop → Round
turning_of l = Turning l.variable (Number (pos 1)) l.last (Number (pos 1))

-- its guard, where it has one
abbrev pub guard_round : Option Expression → List Round
guard_round None = []
guard_round (Some e) = Under e ∷ []

-- the condition that the trips are at least 1, where they aren't known to be
abbrev pub conditions_of : List Expression → List Round
conditions_of [] = []
conditions_of (e ∷ es) = Under (and_all e es) ∷ []

module _ (n : Nest) where
  -- the loops before the level k
  abbrev pub round_at : ℕ → ℕ → List Round
  round_at s k = map turning_of (take (k - 1) (loops_at n s))

  -- what stands round it in array form, over its loops from the level k on
  abbrev pub outside_form : ℕ → ℕ → List Round
  outside_form s k =
      let a = surroundings_of n (loops_at n s) in round_at s k
      ++ conditions_of (form_tests_of (form_names_of a) (loops_from a k))

  -- a WHERE with its guard
  abbrev pub masked_at : ℕ → ℕ → Marked
  masked_at s k =
      let a = surroundings_of n (loops_at n s) in
      let x = (standing_at n s).statement in
      record {
        round = outside_form s k;
        mark = mark_of n s k;
        statement = guarded_form a k x.line (Some (mark_of n s k)) x.guard x.left x.right;
      }

  -- an assignment, in an IF where it has a guard
  abbrev pub assigned_at : ℕ → ℕ → Marked
  assigned_at s k =
      let a = surroundings_of n (loops_at n s) in
      let x = (standing_at n s).statement in
      record {
        round = outside_form s k ++ guard_round x.guard;
        mark = mark_of n s k;
        statement = array_assignment a k x.line (Some (mark_of n s k)) x.left x.right;
      }

  -- the first, where one of these loops stands in the guard
  abbrev pub formed_at : ℕ → ℕ → Marked
  formed_at s k =
      let a = surroundings_of n (loops_at n s) in
      let x = (standing_at n s).statement in
      if stand_in_guard (loops_assigned a k x.left) x.guard then masked_at s k else assigned_at s k

  -- as it is listed, in all its loops
  abbrev pub kept_at : ℕ → Marked
  kept_at s = record {
    round = round_at s (length (loops_at n s) + 1) ++ guard_round (standing_at n s).statement.guard;
    mark = mark_of n s (length (loops_at n s) + 1);
    statement = kept_assignment n s;
  }

  -- a statement of the level k
  abbrev pub marked_at : ℕ → ℕ → Marked
  marked_at s k = if nat_le k (length (loops_at n s)) then formed_at s k else kept_at s
