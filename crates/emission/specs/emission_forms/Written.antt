-- What array forms ask of a nest beside its facts.
use Rattle.std.specs.Prelude.{◌≡◌, ◌≢◌, ◌⊎◌, ◌<◌, ℕ, ℤ, pos, true, Some, None, IsSomeAnd, List, [], ◌∷◌, ◌++◌, length}
use Rattle.tree.specs.Plain.{Declaration, Expression, Number, Binary, Reference}
use Rattle.tree.specs.declared.ops.Kind.TheVariants.{Integer}
use Rattle.tree.specs.declared.ops.Op.TheVariants.{Div}
use Rattle.meaning.specs.Typed.{declared}
use Rattle.array_form.specs.forms.Trips.{AreDistinct}
use Rattle.array_form.specs.holds.Bounds.{is_made}
use Rattle.array_form.specs.lone.Cells.{HasCells, HasDeclaredBounds, IsReferenceOf}
use Rattle.emission.specs.emission_pieces.Nests.{loops_at, standing_at}
use Rattle.emission.specs.graph_orders.Nests.{run_nest}
use Rattle.linear_forms.specs.Linear.{Form, form_of}
use Rattle.linear_forms.specs.Affines.{IsAffineOf}
use Rattle.nest_order.specs.orders.Lists.{In}
use Rattle.nest_order.specs.orders.Shapes.{loops_of_shape}
use Rattle.nest_order.specs.runs.Stores.{Setting}
use Rattle.nest.specs.declared.parts.Trip.{Trip}
use Rattle.nest.specs.Bodies.{nest_statements}
use Rattle.nest.specs.Plain.{Loop, Nest}

-- what has this linear form, divided by the number
abbrev pub IsDivided : List (List ℕ) → List (List ℕ) → Expression → Form → ℤ → Type 0
IsDivided round symbols text form by =
    (e : Expression) × (b : ℕ)
    × (text ≡ Binary Div e (Number (pos b))) × (form_of round symbols e ≡ Some form) × (by ≡ pos b)

-- the trip is what is written: a linear form over the loops round the loop and the symbols, or one by a number
pub record IsTripText (round symbols : List (List ℕ)) (last : Expression) (t : Trip) : Type 0 where
  pub form : Form
  pub text : ((form_of round symbols last ≡ Some form) × (t.by ≡ pos 1))
      ⊎ IsDivided round symbols last form t.by
  pub top : IsAffineOf (length round) form t.top
  pub seven : length t.top.loops ≡ 7

-- from the outside in
abbrev pub HaveTripTexts : List (List ℕ) → List (List ℕ) → List Loop → Type 0
HaveTripTexts symbols round [] = Unit {0}
HaveTripTexts symbols round (l ∷ ls) =
    IsSomeAnd l.trip (IsTripText round symbols l.last) × HaveTripTexts symbols (round ++ l.variable ∷ []) ls

-- the trips of the loops are what is written, no two symbols have one name, and loop variables are declared INTEGER
pub record HasFormFacts (n : Nest) (w : Setting) : Type 0 where
  pub symbols : AreDistinct n.symbols
  pub trips : (s : ℕ) → s < length (nest_statements n) → HaveTripTexts n.symbols [] (loops_at n s)
  pub variables : (l : ℕ) → In l (loops_of_shape (run_nest n).shape)
      → (d : Declaration) × (declared w.program.declarations ((run_nest n).variable_at l) ≡ Some d) × (d.kind ≡ Integer)

-- ---- guards

-- What array forms ask beside where the statement s is guarded: what is declared has its bounds, and made arrays are so
-- large that each reference to one names a cell in each instance, whatever the guard is there
pub record HasGuardedNames (n : Nest) (w : Setting) (s : ℕ) : Type 0 where
  pub declared : HasDeclaredBounds n w
  pub made : (r : Reference) → IsReferenceOf (run_nest n) s r → is_made n r.name ≡ true → HasCells (run_nest n) w s r

-- nothing is asked of a nest without guards
abbrev pub HaveGuardedNames : Nest → Setting → Type 0
HaveGuardedNames n w =
    (s : ℕ) → s < length (nest_statements n) → (standing_at n s).statement.guard ≢ None → HasGuardedNames n w s
