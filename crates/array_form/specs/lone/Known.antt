-- The numbers that loop variables and symbols hold round a statement whose inner loops are in array form.
use Rattle.std.specs.Prelude.{◌≡◌, Some, ℕ, ◌≤◌, ℤ, pos, List, [], ◌++◌, map, length}
use Rattle.tree.specs.Plain.{Declaration}
use Rattle.tree.specs.declared.ops.Kind.TheVariants.{Integer}
use Rattle.meaning.specs.Store.{Store}
use Rattle.meaning.specs.Typed.{declared}
use Rattle.array_form.specs.forms.Laws.{AreKnown}
use Rattle.array_form.specs.forms.Loops.{FormSurroundings, form_variables_of, form_names_of}
use Rattle.array_form.specs.forms.Trips.{AreDistinct}
use Rattle.nest_order.specs.facts.Facts.{HasFacts, values_from}
use Rattle.nest_order.specs.orders.Lists.{In}
use Rattle.nest_order.specs.orders.Shapes.{statements, Within}
use Rattle.nest_order.specs.runs.Nests.{RunNest, AreAt}
use Rattle.nest_order.specs.runs.Stores.{Setting, HoldsNest}
use Rattle.tree.specs.Widths.{bits_of}
use Rattle.tree.specs.declared.width.Width.{Width}

-- Let the surroundings of a statement be its loops in the nest and the symbols, and let the inner loop variables be
-- declared. In a store in which the nest may be run, where the outer loops are at iterations within their trips, these
-- loops hold their iterations, the inner ones some numbers, and the symbols their values
abbrev pub NumbersAreKnown : (width : Width) → Type 0
NumbersAreKnown width =
    (n : RunNest) (w : Setting) (s : ℕ) (a : FormSurroundings) (outer inner before : List ℕ) (t : Store)
    → HasFacts (bits_of width) n w → In s (statements n.shape) → n.loops_of s ≡ outer ++ inner
    → form_variables_of a.loops ≡ map n.variable_at (outer ++ inner) → a.symbols ≡ n.symbols
    → length a.loops ≤ 7 → AreDistinct (form_names_of a)
    → ((l : ℕ) → In l inner
    → (d : Declaration) × (declared w.program.declarations (n.variable_at l) ≡ Some d) × (d.kind ≡ Integer))
    → Within (n.turns_of w.values) [] outer before → HoldsNest (bits_of width) n w t → AreAt n outer before t
    → (zs : List ℤ) × (length zs ≡ length inner)
    × AreKnown a t (map pos before ++ (zs ++ values_from w.values 0 n.symbols))
