-- Loops over the pieces of a loop's iterations, with linear forms as their bounds.
use Rattle.std.specs.Prelude.{ℕ, ◌-◌, ℤ, pos, ◌+ℤ◌, ◌*ℤ◌, Bool, true, false, if◌then◌else◌, Option, Some, None}
use Rattle.std.specs.Prelude.{List, [], ◌∷◌, ◌++◌, map}
use Rattle.linear_forms.specs.Linear.{is_small}
use Rattle.linear_forms.specs.Texts.{text_of}
use Rattle.subscripts.specs.declared.affine.Affine.{Affine}
use Rattle.tree.specs.Plain.{Allocate, Assignment, Block, Deallocate, Do, GoTo, If, Label, Print, Read, Statement, Stop}
use Rattle.tree.specs.Plain.{Where, no_statements, statement}
use Rattle.index_split.specs.declared.pieces.Bounds.{Bounds}
use Rattle.index_split.specs.declared.pieces.Pieces.{Pieces}

-- the form with a number more, within the limits of forms
abbrev pub moved : Affine → ℤ → Option Affine
moved a z = if is_small (a.constant +ℤ z) then Some (record a { constant = a.constant +ℤ z }) else None

abbrev pub bounds_from_to : Option Affine → Option Affine → Option Bounds
bounds_from_to None b = None
bounds_from_to (Some a) None = None
bounds_from_to (Some a) (Some b) = Some (record { first = a; last = b })

-- the variable's values in the first and the last turn of the piece that comes after so many turns and ends with this
-- one, where a is its value in the loop's first turn
abbrev pub bounds_of : Affine → ℤ → ℕ → ℕ → Option Bounds
bounds_of a step before end = bounds_from_to (moved a (pos before *ℤ step)) (moved a (pos (end - 1) *ℤ step))

abbrev pub one_more : Option Bounds → Option (List Bounds) → Option (List Bounds)
one_more None bs = None
one_more (Some b) None = None
one_more (Some b) (Some bs) = Some (b ∷ bs)

-- of the pieces that end with these turns, one after the other
abbrev pub all_bounds : Affine → ℤ → ℕ → List ℕ → Option (List Bounds)
all_bounds a step before [] = Some []
all_bounds a step before (end ∷ ends) = one_more (bounds_of a step before end) (all_bounds a step end ends)

-- a form without loops and symbols
abbrev pub constant : ℤ → Affine
constant z = record {
  loops = pos 0 ∷ pos 0 ∷ pos 0 ∷ pos 0 ∷ pos 0 ∷ pos 0 ∷ pos 0 ∷ [];
  syms = (0, pos 0) ∷ (0, pos 0) ∷ (0, pos 0) ∷ (0, pos 0) ∷ (0, pos 0) ∷ (0, pos 0) ∷ (0, pos 0) ∷ (0, pos 0) ∷ [];
  constant = z;
}

-- line, variable and body are the loop's
abbrev pub loop_over : Pieces → ℕ → List ℕ → Block → Bounds → Statement
loop_over ps line x body b =
    Do line x (text_of [] ps.symbols [] b.first) (text_of [] ps.symbols [] b.last)
    (text_of [] [] [] (constant ps.step)) body

abbrev pub loops_over : Pieces → ℕ → List ℕ → Block → List Statement
loops_over ps line x body = map (loop_over ps line x body) ps.bounds

-- assignments alone
abbrev pub is_assignment : Statement → Bool
is_assignment (Assignment line mark left right) = true
is_assignment (Where line mark mask left right) = false
is_assignment (If line arms other) = false
is_assignment (Do line x a b c body) = false
is_assignment (Label n) = false
is_assignment (GoTo line n) = false
is_assignment (Stop line) = false
is_assignment (Read line is) = false
is_assignment (Print line is) = false
is_assignment (Allocate line x es) = false
is_assignment (Deallocate line x) = false

abbrev pub are_assignments : Block → Bool
are_assignments no_statements = true
are_assignments (statement c cs) = if is_assignment c then are_assignments cs else false

-- the list so far with these behind it, or none
abbrev pub grown : List Bounds → Option (List Bounds) → Option (List Bounds)
grown old None = None
grown old (Some bs) = Some (old ++ bs)

abbrev pub where_true : Bool → List Bounds → Option (List Bounds)
where_true true bs = Some bs
where_true false bs = None
