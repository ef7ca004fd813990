-- What can be seen of a nest without running it: the linear forms of its subscripts and trips, and the kinds of its
-- statements.
use Rattle.std.specs.Prelude.{◌≡◌, ◌⊎◌, ℕ, suc, ◌^◌, ◌≤◌, nat_le, ℤ, pos, negsuc, nat_abs, int_div, Option, Some}
use Rattle.std.specs.Prelude.{None, IfSome, if◌then◌else◌, List, [], ◌∷◌, ◌++◌, map, length}
use Rattle.tree.specs.Plain.{Expression, Number, Binary, Declaration}
use Rattle.tree.specs.declared.ops.Kind.{Kind}
use Rattle.tree.specs.declared.ops.Kind.TheVariants.{Integer}
use Rattle.tree.specs.declared.ops.Op.TheVariants.{Div}
use Rattle.meaning.specs.Typed.{declared}
use Rattle.meaning.specs.Typed90.{HasKind}
use Rattle.linear_forms.specs.Linear.{Form, number_at, form_of}
use Rattle.nest_order.specs.orders.Lists.{In}
use Rattle.nest_order.specs.orders.Shapes.{loops_of_shape, statements}
use Rattle.nest_order.specs.runs.Nests.{RunNest, LoopStands, variables_round}
use Rattle.nest_order.specs.runs.Stores.{Setting, IsNestText, IsNestIn}
use Rattle.nest_order.specs.runs.Touched.{nth_of}

-- ---- linear forms

abbrev pub values_from : (ℕ → ℤ) → ℕ → List (List ℕ) → List ℤ
values_from v k [] = []
values_from v k (x ∷ xs) = v k ∷ values_from v (suc k) xs

-- the values of the places of a form: iterations of loops, and then the symbols
abbrev pub places_of : (ℕ → ℤ) → List (List ℕ) → List ℕ → List ℤ
places_of v symbols is = map pos is ++ values_from v 0 symbols

abbrev pub number_by : List (List ℕ) → Option Form → Option ((ℕ → ℤ) → List ℕ → ℤ)
number_by symbols None = None
number_by symbols (Some f) = Some (λ v is. number_at f (places_of v symbols is))

-- ---- trips

-- the number of turns of a loop from 1 to z by 1, where it can be counted; else there is none, and such a loop is a
-- fault
abbrev pub counted : ℤ → ℕ
counted (pos k) = if nat_le k 2147483646 then k else 0
counted (negsuc k) = 0

-- in these loops an expression has the number z: by its linear form, or by that of what is divided by a constant
abbrev pub HasTrip : List (List ℕ) → List (List ℕ) → Expression → (List ℤ → ℤ) → Type 0
HasTrip round symbols e z =
    ((f : Form) × (form_of round symbols e ≡ Some f) × ((xs : List ℤ) → z xs ≡ number_at f xs))
    ⊎ ((f : Form) × (a : Expression) × (b : ℕ) × (e ≡ Binary Div a (Number (pos b)))
    × (form_of round symbols a ≡ Some f)
    × ((xs : List ℤ) → z xs ≡ int_div (number_at f xs) (pos b)))

-- ---- all facts

-- bits: as many as INTEGER has. The statements assign expressions of the kind of their left side; linear expressions
-- and trips are what their forms say; symbols are numbers of 64 bits, and no loop has more turns than can be counted
pub record HasFacts (bits : ℕ) (n : RunNest) (w : Setting) : Type 0 where
  pub text : IsNestText n
  pub wide : 31 ≤ bits
  pub variables : (l : ℕ) → In l (loops_of_shape n.shape) → w.bounds (n.variable_at l) ≡ Some []
  pub integer : (l : ℕ) → In l (loops_of_shape n.shape)
      → IfSome (declared w.program.declarations (n.variable_at l)) (λ (d : Declaration). d.kind ≡ Integer)
  pub symbols : (x : List ℕ) → In x n.symbols → w.bounds x ≡ Some []
  pub values : (k : ℕ) (x : List ℕ) → nth_of n.symbols k ≡ Some x → nat_abs (w.values k) ≤ 2 ^ 63
  pub kinds : (s : ℕ) → In s (statements n.shape)
      → (k : Kind) × HasKind w.program.declarations (n.statement_at s).right k
      × IfSome (declared w.program.declarations (n.statement_at s).left.name) (λ (d : Declaration). d.kind ≡ k)
  pub linear : (s : ℕ) (e : Expression) → In s (statements n.shape)
      → n.linear s e ≡ number_by n.symbols (form_of (variables_round n s) n.symbols e)
  pub trips : (round : List ℕ) (l : ℕ) → LoopStands n.shape round l
      → (z : List ℤ → ℤ) × HasTrip (map n.variable_at round) n.symbols (n.trip_at l) z
      × ((before : List ℕ) → length before ≡ length round
      → n.turns_of w.values l before ≡ counted (z (places_of w.values n.symbols before)))
  pub bounded : (l : ℕ) (before : List ℕ) → In l (loops_of_shape n.shape) → n.turns_of w.values l before ≤ 2147483646

-- a nest with these facts is one of which runs and orders have their laws
abbrev pub FactsSuffice : Type 0
FactsSuffice = (bits : ℕ) (n : RunNest) (w : Setting) → HasFacts bits n w → IsNestIn bits n w
