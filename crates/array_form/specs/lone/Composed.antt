-- The array form of a nest's statement is a form of which the laws of nests speak.
use Rattle.std.specs.Prelude.{◌≡◌, Some, None, Option, ℕ, suc, ◌≤◌, ℤ, pos, Bool, true, false, List, [], ◌++◌, map}
use Rattle.std.specs.Prelude.{length, Contains}
use Rattle.tree.specs.Plain.{Declaration, Statement, statement, no_statements}
use Rattle.tree.specs.declared.ops.Kind.TheVariants.{Integer}
use Rattle.tree.specs.declared.stmts.Mark.{Mark}
use Rattle.meaning.specs.Dialect.{fortran90}
use Rattle.tree.specs.declared.width.Width.{Width}
use Rattle.meaning.specs.Store.{Store}
use Rattle.meaning.specs.Typed.{declared}
use Rattle.array_form.specs.forms.Following.{has_no_loop, are_moved, is_regular}
use Rattle.array_form.specs.forms.Guarded.{NameCells, is_regular_guard}
use Rattle.array_form.specs.forms.Instances.{counts_of}
use Rattle.array_form.specs.forms.Laws.{HasTrip}
use Rattle.array_form.specs.forms.Loops.{FormLoop, FormSurroundings, form_variables_of, form_names_of}
use Rattle.array_form.specs.forms.Trips.{AreDistinct}
use Rattle.array_form.specs.forms.Statements.{loops_from, hold_at, unguarded_hold, loops_assigned, array_form_of}
use Rattle.nest_order.specs.facts.Facts.{HasFacts, values_from}
use Rattle.nest_order.specs.orders.Lists.{In}
use Rattle.nest_order.specs.orders.Shapes.{statements, Within}
use Rattle.nest_order.specs.runs.LoneForms.{IsFormOf}
use Rattle.nest_order.specs.runs.Nests.{RunNest, AreAt}
use Rattle.nest_order.specs.runs.Stores.{Setting, HoldsNest}
use Rattle.array_form.specs.lone.Cells.{HaveCells}
use Rattle.array_form.specs.lone.Instances.{AreRectangular}
use Rattle.tree.specs.Widths.{bits_of}

-- the loops and symbols round the statement s, as array forms speak of them, are the nest's
pub record AreSurroundings (n : RunNest) (w : Setting) (a : FormSurroundings) (outer inner : List ℕ) : Type 0 where
  pub loops : form_variables_of a.loops ≡ map n.variable_at (outer ++ inner)
  pub symbols : a.symbols ≡ n.symbols
  pub few : length a.loops ≤ 7
  pub distinct : AreDistinct (form_names_of a)
  pub variables : (l : ℕ) → In l inner
      → (d : Declaration) × (declared w.program.declarations (n.variable_at l) ≡ Some d) × (d.kind ≡ Integer)
  -- whatever the inner loop variables hold, the trips of the inner loops are their numbers of turns
  pub trips : (before : List ℕ) (zs : List ℤ) → Within (n.turns_of w.values) [] outer before → length zs ≡ length inner
      → ((l : FormLoop) → Contains (loops_from a (suc (length outer))) l
      → HasTrip a (map pos before ++ (zs ++ values_from w.values 0 n.symbols)) l)
      × AreRectangular (n.turns_of w.values) inner before
      (counts_of (map pos before ++ (zs ++ values_from w.values 0 n.symbols)) (loops_from a (suc (length outer))))

-- Where a statement's references name cells in each instance, they have values there as the laws of array forms ask for
abbrev pub CellsGiveValues : (width : Width) → Type 0
CellsGiveValues width =
    (n : RunNest) (w : Setting) (s : ℕ) (a : FormSurroundings) (outer inner before : List ℕ) (xs : List ℤ) (t : Store)
    → HasFacts (bits_of width) n w → In s (statements n.shape) → n.loops_of s ≡ outer ++ inner
    → form_variables_of a.loops ≡ map n.variable_at (outer ++ inner) → AreDistinct (form_names_of a)
    → unguarded_hold a (suc (length outer)) (n.statement_at s).left ≡ None
    → AreRectangular (n.turns_of w.values) inner before (counts_of xs (loops_from a (suc (length outer))))
    → Within (n.turns_of w.values) [] outer before → HoldsNest (bits_of width) n w t → AreAt n outer before t
    → HaveCells n w s
    → NameCells (fortran90 width) xs (loops_assigned a (suc (length outer)) (n.statement_at s).left)
    (n.statement_at s).left
    (n.statement_at s).right t

-- The array form of a statement, which nothing in its inner loops forbids, and whose guard and right side are regular,
-- goes on where its instances in these loops do, and leaves their store; `safe` only where its references name cells in
-- each instance
abbrev pub ArrayFormIsForm : (width : Width) → Type 0
ArrayFormIsForm width =
    (n : RunNest) (w : Setting) (s : ℕ) (a : FormSurroundings) (outer inner : List ℕ) (line : ℕ) (mark : Option Mark)
    (safe : Bool) (c : Statement)
    → HasFacts (bits_of width) n w → In s (statements n.shape) → n.loops_of s ≡ outer ++ inner
    → AreSurroundings n w a outer inner
    → has_no_loop (loops_from a (suc (length outer))) ≡ false
    → hold_at a (suc (length outer)) (n.statement_at s).guard (n.statement_at s).left safe ≡ None
    → (safe ≡ true → HaveCells n w s)
    → are_moved a (loops_assigned a (suc (length outer)) (n.statement_at s).left) (n.statement_at s).left.subscripts
    ≡ true
    → is_regular_guard a (loops_assigned a (suc (length outer)) (n.statement_at s).left) (n.statement_at s).guard ≡ true
    → is_regular a (loops_assigned a (suc (length outer)) (n.statement_at s).left) (n.statement_at s).right ≡ true
    → array_form_of a (suc (length outer)) line mark (n.statement_at s).guard (n.statement_at s).left
    (n.statement_at s).right ≡ statement c no_statements
    → IsFormOf (bits_of width) true n w outer inner s c
