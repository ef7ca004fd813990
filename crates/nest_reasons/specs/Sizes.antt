-- How large a loop is.
use Rattle.std.specs.Prelude.{ℕ, ◌+◌, nat_lt, Bool, true, false, not, ◌||◌, List, [], ◌∷◌, ◌++◌, length, map}
use Rattle.std.specs.List.{filter, list_any}
use Rattle.std.specs.Str.{bytes_eq}
use Rattle.tree.specs.Limits.{most_nest_statements, nest_references}
use Rattle.tree.specs.Plain.{Statement, Assignment, Where, If, Do, Label, GoTo, Stop, Read, Print, Allocate, Deallocate}
use Rattle.tree.specs.Plain.{Arms, no_arms, arm, Block, no_statements, statement}
use Rattle.meaning.specs.Reads.{names_in, names_in_subscripts}
use Rattle.nest_reasons.specs.declared.sizes.Piece.{Piece}
use Rattle.nest_reasons.specs.declared.sizes.Piece.TheVariants.{Occurs, Assigns, Turns, Branches}

abbrev pub occurrences : List (List ℕ) → List Piece
occurrences xs = map (λ x. Occurs x) xs

-- assignments, loops, conditions and GO TOs, and names in left sides, right sides, subscripts, conditions and bounds of
-- loops
abbrev mutual
  pub pieces_in : Statement → List Piece
  pieces_in (Assignment line mark left right) =
      Assigns ∷ occurrences (left.name ∷ names_in_subscripts left.subscripts) ++ occurrences (names_in right)
  pieces_in (Where line mark mask left right) =
      Assigns ∷ occurrences (names_in mask) ++ occurrences (left.name ∷ names_in_subscripts left.subscripts)
      ++ occurrences (names_in right)
  pieces_in (If line arms other) = pieces_in_arms arms ++ pieces_in_block other
  pieces_in (Do line x a b c body) =
      Turns x ∷ occurrences (names_in a) ++ occurrences (names_in b) ++ occurrences (names_in c) ++ pieces_in_block body
  pieces_in (Label n) = []
  pieces_in (GoTo line n) = Branches ∷ []
  pieces_in (Stop line) = []
  pieces_in (Read line is) = []
  pieces_in (Print line is) = []
  pieces_in (Allocate line x es) = []
  pieces_in (Deallocate line x) = []

  pub pieces_in_arms : Arms → List Piece
  pieces_in_arms no_arms = []
  pieces_in_arms (arm test body arms) =
      (Branches ∷ occurrences (names_in test) ++ pieces_in_block body) ++ pieces_in_arms arms

  pub pieces_in_block : Block → List Piece
  pieces_in_block no_statements = []
  pieces_in_block (statement c cs) = pieces_in c ++ pieces_in_block cs

abbrev pub is_assignment : Piece → Bool
is_assignment (Occurs x) = false
is_assignment Assigns = true
is_assignment (Turns x) = false
is_assignment Branches = false

abbrev pub is_loop_piece : Piece → Bool
is_loop_piece (Occurs x) = false
is_loop_piece Assigns = false
is_loop_piece (Turns x) = true
is_loop_piece Branches = false

abbrev pub turns_with : List ℕ → Piece → Bool
turns_with x (Occurs y) = false
turns_with x Assigns = false
turns_with x (Turns y) = bytes_eq y x
turns_with x Branches = false

-- a name that none of these loops has as its variable
abbrev pub is_counted_name : List Piece → Piece → Bool
is_counted_name loops (Occurs x) = not (list_any (turns_with x) loops)
is_counted_name loops Assigns = false
is_counted_name loops (Turns x) = false
is_counted_name loops Branches = false

-- a condition, a GO TO or a loop
abbrev pub is_branching : Piece → Bool
is_branching (Occurs x) = false
is_branching Assigns = false
is_branching (Turns x) = true
is_branching Branches = true

-- conditions, GO TOs and loops in the outermost loop of a nest, together
abbrev pub nest_branches : ℕ
nest_branches = 200

-- More assignments, occurrences or branchings than a nest may have. The loop itself is one of the loops counted
abbrev pub is_over : ℕ → ℕ → ℕ → Bool
is_over assignments references branchings =
    nat_lt most_nest_statements assignments
    || (nat_lt nest_references references || nat_lt (nest_branches + 1) branchings)

-- the pieces are those of a loop; occurrences are those of variables other than those of the loops
abbrev pub is_large : List Piece → Bool
is_large ps =
    is_over (length (filter is_assignment ps)) (length (filter (is_counted_name (filter is_loop_piece ps)) ps))
    (length (filter is_branching ps))
