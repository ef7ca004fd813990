-- The array form of an assignment at a level, maybe under a guard, and what forbids it (Allen and Kennedy, "Optimizing
-- Compilers for Modern Architectures", section 2.4; of a guard ISO/IEC 1539:1991, section 7.5.3).
use Rattle.std.specs.Prelude.{◌==◌, ℕ, ◌+◌, ◌-◌, pos, Bool, true, false, ◌&&◌, ◌||◌, not, if◌then◌else◌, Option}
use Rattle.std.specs.Prelude.{Some, None, List, [], ◌∷◌, length, drop}
use Rattle.std.specs.List.{list_all, list_any}
use Rattle.std.specs.Ordering.{int_eq}
use Rattle.std.specs.Str.{bytes_eq}
use Rattle.tree.specs.Plain.{Expression, Number, Binary, Reference, Subscript, Only, Section, Subscripts}
use Rattle.tree.specs.Plain.{no_subscripts, subscript, Statement, Assignment, Where, If, no_arms, arm, Block}
use Rattle.tree.specs.Plain.{no_statements, statement}
use Rattle.tree.specs.declared.ops.Op.TheVariants.{Ge, And}
use Rattle.tree.specs.declared.stmts.Mark.{Mark}
use Rattle.meaning.specs.Reads.{names_in, names_in_subscript}
use Rattle.linear_forms.specs.Linear.{form_of}
use Rattle.array_form.specs.forms.Following.{has_no_loop}
use Rattle.array_form.specs.forms.Loops.{FormLoop, FormSurroundings, form_variables_of, form_names_of}
use Rattle.array_form.specs.forms.Loops.{is_positive_constant, is_among, loops_among, loops_in_order, coefficient}
use Rattle.array_form.specs.forms.Forms.{form_trip_text, form, subscript_forms}

-- the loops from the level k on, of which the outermost loop has the level 1
abbrev pub loops_from : FormSurroundings → ℕ → List FormLoop
loops_from a k = drop (k - 1) a.loops

-- ---- what forbids array form

pub data HoldCause : Type 0 where
  FormHold : HoldCause
  TriangleHold : HoldCause
  BoundsHold : HoldCause

-- in how many of the subscripts a variable stands
abbrev pub subscript_occurrences : List ℕ → Subscripts → ℕ
subscript_occurrences x no_subscripts = 0
subscript_occurrences x (subscript p ps) =
    (if is_among (names_in_subscript p) x then 1 else 0) + subscript_occurrences x ps

abbrev pub is_linear_subscript : FormSurroundings → Subscript → Bool
is_linear_subscript a (Only e) = elim (form_of (form_variables_of a.loops) a.symbols e) [ Some f ↦ true | None ↦ false ]
is_linear_subscript a (Section b c d) = false

-- a left subscript with such a loop is linear, and has no other one
abbrev pub are_formed : FormSurroundings → List FormLoop → Subscripts → Bool
are_formed a loops no_subscripts = true
are_formed a loops (subscript p ps) =
    ((length (loops_among loops (names_in_subscript p)) == 0)
    || ((length (loops_among loops (names_in_subscript p)) == 1) && is_linear_subscript a p))
    && are_formed a loops ps

-- each of the loops stands in exactly one left subscript
abbrev pub has_form : FormSurroundings → List FormLoop → Subscripts → Bool
has_form a loops ps =
    list_all (λ (l : FormLoop). subscript_occurrences l.variable ps == 1) loops && are_formed a loops ps

-- the trip of one of the loops has the variable of another one
abbrev pub depends_on : FormSurroundings → FormLoop → FormLoop → Bool
depends_on a l m = not (bytes_eq l.variable m.variable)
    && not (int_eq (coefficient (form_names_of a) m.variable l.trip.form.coefficients) (pos 0))

abbrev pub is_triangle : FormSurroundings → List FormLoop → Bool
is_triangle a loops = list_any (λ (l : FormLoop). list_any (depends_on a l) loops) loops

-- some of the loops stand in the guard
abbrev pub stand_in_guard : List FormLoop → Option Expression → Bool
stand_in_guard loops None = false
stand_in_guard loops (Some e) = not (has_no_loop (loops_among loops (names_in e)))

-- The first that is so of an assignment, maybe under a guard. `safe`: its references name cells whatever its guard is
abbrev pub hold_at : FormSurroundings → ℕ → Option Expression → Reference → Bool → Option HoldCause
hold_at a k guard left safe =
    if not (has_form a (loops_from a k) left.subscripts) then Some FormHold
    else if is_triangle a (loops_from a k) then Some TriangleHold
    else if stand_in_guard (loops_from a k) guard && not safe then Some BoundsHold
    else None

-- without a guard
abbrev pub unguarded_hold : FormSurroundings → ℕ → Reference → Option HoldCause
unguarded_hold a k left = hold_at a k None left true

-- ---- the statement

-- the loops from k on, in the order of the left subscripts
abbrev pub loops_assigned : FormSurroundings → ℕ → Reference → List FormLoop
loops_assigned a k left = loops_in_order (loops_from a k) left.subscripts

abbrev pub left_form : FormSurroundings → ℕ → Reference → Reference
left_form a k left =
    record { name = left.name; subscripts = subscript_forms a (loops_assigned a k left) left.subscripts }

abbrev pub right_form : FormSurroundings → ℕ → Reference → Expression → Expression
right_form a k left right = form a (loops_assigned a k left) right

-- the trips that have to be looked at as the program runs, each at least 1
abbrev pub form_tests_of : List (List ℕ) → List FormLoop → List Expression
form_tests_of names [] = []
form_tests_of names (l ∷ ls) =
    if is_positive_constant l.trip then form_tests_of names ls
    else Binary Ge (form_trip_text names l.trip) (Number (pos 1)) ∷ form_tests_of names ls

-- joined from the outside in
abbrev pub and_all : Expression → List Expression → Expression
and_all e [] = e
and_all e (f ∷ fs) = and_all (Binary And e f) fs

abbrev pub guarded_by : ℕ → List Expression → Block → Block
guarded_by line [] body = body
guarded_by line (e ∷ es) body = statement (If line (arm (and_all e es) body no_arms) no_statements) no_statements

abbrev pub array_assignment : FormSurroundings → ℕ → ℕ → Option Mark → Reference → Expression → Statement
array_assignment a k line mark left right = Assignment line mark (left_form a k left) (right_form a k left right)

-- under a guard in which one of the loops stands it is done where the guard's form is true, and under any other guard
-- where that is true
abbrev pub guarded_form : FormSurroundings → ℕ → ℕ → Option Mark → Option Expression → Reference → Expression
    → Statement
guarded_form a k line mark None left right = array_assignment a k line mark left right
guarded_form a k line mark (Some e) left right =
    if stand_in_guard (loops_assigned a k left) (Some e)
    then Where line mark (form a (loops_assigned a k left) e) (left_form a k left) (right_form a k left right)
    else If line (arm e (statement (array_assignment a k line mark left right) no_statements) no_arms) no_statements

abbrev pub array_form_of : FormSurroundings → ℕ → ℕ → Option Mark → Option Expression → Reference → Expression → Block
array_form_of a k line mark guard left right =
    guarded_by line (form_tests_of (form_names_of a) (loops_from a k))
    (statement (guarded_form a k line mark guard left right) no_statements)
