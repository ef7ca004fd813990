-- The instances of a statement in its inner loops, as array forms speak of them.
use Rattle.std.specs.Prelude.{◌≡◌, ⊤, Ok, None, ℕ, List, [], ◌∷◌, ◌++◌, map}
use Rattle.meaning.specs.Dialect.{fortran90}
use Rattle.tree.specs.declared.width.Width.{Width}
use Rattle.meaning.specs.Store.{Store}
use Rattle.array_form.specs.forms.Guarded.{guarded_of}
use Rattle.array_form.specs.forms.Instances.{instances_of}
use Rattle.array_form.specs.forms.Loops.{FormLoop, form_variables_of}
use Rattle.meaning_laws.specs.arrays.Instances.{in_turn, NoneReadsWritten}
use Rattle.nest_order.specs.orders.Lists.{In}
use Rattle.nest_order.specs.orders.Shapes.{statements, Within}
use Rattle.nest_order.specs.runs.Alone.{inner_instances}
use Rattle.nest_order.specs.runs.Nests.{RunNest, AreAt}
use Rattle.nest_order.specs.runs.Stores.{Setting, HoldsNest, IsNestIn}
use Rattle.tree.specs.Widths.{bits_of}

-- whatever the iterations of inner loops are, each of these loops has so many turns
abbrev pub AreRectangular : (ℕ → List ℕ → ℕ) → List ℕ → List ℕ → List ℕ → Type 0
AreRectangular turns [] before [] = ⊤
AreRectangular turns (l ∷ ls) before (k ∷ ks) =
    (turns l before ≡ k) × ((i : ℕ) → AreRectangular turns ls (before ++ i ∷ []) ks)
AreRectangular turns _ before _ = ⊥

-- Let the inner loops of a statement without a guard have numbers of turns of their own, and let the outer ones be at
-- iterations within their trips. Where its instances in the inner loops, as the laws of nests have them, lead one after
-- another without fault to the store u, none of them reading what an earlier one has written, so do its instances as
-- the laws of array forms have them, with arrays as values
abbrev pub InstancesOfArrayForms : (width : Width) → Type 0
InstancesOfArrayForms width =
    (n : RunNest) (w : Setting) (s : ℕ) (outer inner before : List ℕ) (loops : List FormLoop) (counts : List ℕ)
    (t u : Store)
    → IsNestIn (bits_of width) n w → In s (statements n.shape) → n.loops_of s ≡ outer ++ inner
    → (n.statement_at s).guard ≡ None
    → form_variables_of loops ≡ map n.variable_at inner → AreRectangular (n.turns_of w.values) inner before counts
    → Within (n.turns_of w.values) [] outer before → HoldsNest (bits_of width) n w t → AreAt n outer before t
    → NoneReadsWritten [] (inner_instances (bits_of width) n w before inner s) t
    → in_turn (inner_instances (bits_of width) n w before inner s) t ≡ Ok u
    → NoneReadsWritten [] (instances_of (fortran90 width) loops counts (n.statement_at s).left
    (n.statement_at s).right) t
    × (in_turn (instances_of (fortran90 width) loops counts (n.statement_at s).left (n.statement_at s).right) t ≡ Ok u)

-- The same under a guard, if there is one
abbrev pub GuardedInstancesOfArrayForms : (width : Width) → Type 0
GuardedInstancesOfArrayForms width =
    (n : RunNest) (w : Setting) (s : ℕ) (outer inner before : List ℕ) (loops : List FormLoop) (counts : List ℕ)
    (t u : Store)
    → IsNestIn (bits_of width) n w → In s (statements n.shape) → n.loops_of s ≡ outer ++ inner
    → form_variables_of loops ≡ map n.variable_at inner
    → AreRectangular (n.turns_of w.values) inner before counts → Within (n.turns_of w.values) [] outer before
    → HoldsNest (bits_of width) n w t → AreAt n outer before t
    → NoneReadsWritten [] (inner_instances (bits_of width) n w before inner s) t
    → in_turn (inner_instances (bits_of width) n w before inner s) t ≡ Ok u
    → let g = n.statement_at s in NoneReadsWritten [] (guarded_of
    (fortran90 width) loops counts g.guard g.left g.right) t
    × (in_turn (guarded_of (fortran90 width) loops counts g.guard g.left g.right) t ≡ Ok u)
