-- Kinds, ranks and depths of array forms.
use Rattle.std.specs.Prelude.{◌≡◌, ℕ, ◌≤◌, ◌+◌, None, true, false, Option, IfSome, if◌then◌else◌}
use Rattle.std.specs.Prelude.{List, length, Contains}
use Rattle.tree.specs.Limits.{expression_depth90}
use Rattle.tree.specs.Plain.{Declaration, Expression, Reference}
use Rattle.tree.specs.declared.ops.Kind.{Kind}
use Rattle.tree.specs.declared.ops.Kind.TheVariants.{Logical}
use Rattle.tree.specs.declared.stmts.Mark.{Mark}
use Rattle.meaning.specs.Blocks.{Surroundings as Round}
use Rattle.meaning.specs.Labels.{IsLine}
use Rattle.meaning.specs.Depths.{depth_of}
use Rattle.meaning.specs.Profile90.{IsBlock, IsMark}
use Rattle.meaning.specs.Reads.{names_in}
use Rattle.meaning.specs.Typed90.{IsScalar, HasKind, rank_of}
use Rattle.meaning.specs.Value.{named}
use Rattle.array_form.specs.forms.Following.{are_moved, has_no_loop, is_regular}
use Rattle.array_form.specs.forms.Forms.{form}
use Rattle.array_form.specs.forms.Guarded.{is_regular_guard}
use Rattle.array_form.specs.forms.Loops.{FormLoop, FormSurroundings, loops_among}
use Rattle.array_form.specs.forms.Statements.{array_form_of, loops_assigned, loops_from, unguarded_hold}
use Rattle.array_form.specs.profile.Settings.{AreSomeLoops, IsWritable}

-- a form is at most so much deeper
abbrev pub rise : ℕ
rise = 100

-- a scalar where no loop of D stands in the expression, and else an array with a dimension for each loop of D
pub record HasFormKind (ds : List Declaration) (D : List FormLoop) (e F : Expression) (k : Kind) : Type 0 where
  pub kind : HasKind ds F k
  pub rank : rank_of ds F ≡ (if has_no_loop (loops_among D (names_in e)) then 0 else length D)
  pub depth : depth_of F ≤ depth_of e + rise

abbrev pub FormHasKind : Type 0
FormHasKind = (ds : List Declaration) (a : FormSurroundings) (D : List FormLoop) (e : Expression) (k : Kind)
    → IsWritable ds a → AreSomeLoops a D → IsScalar ds e k → is_regular a D e ≡ true
    → HasFormKind ds D e (form a D e) k

-- a condition, not too deep; none is one too
abbrev pub IsGuard : List Declaration → Option Expression → Type 0
IsGuard ds guard = IfSome guard (λ e. IsScalar ds e Logical × (depth_of e + rise ≤ expression_depth90))

-- Let left and right side be scalars of one kind, not too deep, let the guard be a condition, if there is one, and let
-- the left name be no DO variable round them. Where no loop from the level k on forbids the array form, it is a block
-- of the profile: a mask has the rank of the left side
abbrev pub ArrayFormIsOfProfile : Type 0
ArrayFormIsOfProfile = (ds : List Declaration) (a : FormSurroundings) (k line : ℕ) (mark : Option Mark)
    (guard : Option Expression) (left : Reference) (right : Expression) (kind : Kind) (w : Round)
    → IsWritable ds a → IsLine line → IfSome mark IsMark
    → IsGuard ds guard → IsScalar ds (named left) kind → IsScalar ds right kind
    → (Contains w.variables left.name → ⊥)
    → depth_of (named left) + rise ≤ expression_depth90 → depth_of right + rise ≤ expression_depth90
    → has_no_loop (loops_from a k) ≡ false → unguarded_hold a k left ≡ None
    → are_moved a (loops_assigned a k left) left.subscripts ≡ true
    → is_regular_guard a (loops_assigned a k left) guard ≡ true
    → is_regular a (loops_assigned a k left) right ≡ true
    → IsBlock ds (array_form_of a k line mark guard left right) w
