-- The loops round a statement of a nest, in which each loop goes from 1 to its trip by 1, and which of them stand
-- where.
use Rattle.std.specs.Prelude.{ℕ, ◌==◌, ℤ, pos, nat_le, int_le, Bool, true, false, ◌&&◌, if◌then◌else◌, List, [], ◌∷◌}
use Rattle.std.specs.Prelude.{◌++◌, map, length, filter}
use Rattle.std.specs.Cmp.Lexicographic.{pointwise}
use Rattle.std.specs.Str.{bytes_eq}
use Rattle.tree.specs.Plain.{Subscripts, no_subscripts, subscript}
use Rattle.meaning.specs.Reads.{names_in_subscript}
use Rattle.linear_forms.specs.Linear.{Form, not_zero}

-- a linear form over the names of loops and symbols; it is divided where the divisor isn't 1
pub record FormTrip : Type 0 where
  pub form : Form
  pub divisor : ℕ

pub record FormLoop : Type 0 where
  pub variable : List ℕ
  pub trip : FormTrip

-- what stands round a statement: its loops from the outside in, and the symbols of the nest. SPREAD may be written
-- where the program neither declares that name nor bears it
pub record FormSurroundings : Type 0 where
  pub loops : List FormLoop
  pub symbols : List (List ℕ)
  pub may_spread : Bool

abbrev pub form_variables_of : List FormLoop → List (List ℕ)
form_variables_of ls = map (λ (l : FormLoop). l.variable) ls

-- the names over which forms are, in the order of their places
abbrev pub form_names_of : FormSurroundings → List (List ℕ)
form_names_of a = form_variables_of a.loops ++ a.symbols

-- ---- the number of a trip

-- a constant trip is never a divided one
abbrev pub is_positive_constant : FormTrip → Bool
is_positive_constant t = (t.divisor == 1) && ((not_zero t.form.coefficients == 0) && int_le (pos 1) t.form.constant)

-- ---- which loops stand in a text

abbrev pub is_among : List (List ℕ) → List ℕ → Bool
is_among [] x = false
is_among (y ∷ ys) x = if bytes_eq y x then true else is_among ys x

-- those of `loops`, in their order, whose variables are among the names of a text
abbrev pub loops_among : List FormLoop → List (List ℕ) → List FormLoop
loops_among loops names = filter (λ (l : FormLoop). is_among names l.variable) loops

-- the loops that stand in subscripts, in the order of these
abbrev pub loops_in_order : List FormLoop → Subscripts → List FormLoop
loops_in_order loops no_subscripts = []
loops_in_order loops (subscript p ps) = loops_among loops (names_in_subscript p) ++ loops_in_order loops ps

-- each subscript has one of them at most
abbrev pub one_each : List FormLoop → Subscripts → Bool
one_each loops no_subscripts = true
one_each loops (subscript p ps) = nat_le (length (loops_among loops (names_in_subscript p))) 1 && one_each loops ps

abbrev pub same_loops : List FormLoop → List FormLoop → Bool
same_loops ls ms = pointwise bytes_eq (form_variables_of ls) (form_variables_of ms)

-- these are all loops of D, but for some that are left out, in the order of D
abbrev pub is_part_of : List FormLoop → List FormLoop → Bool
is_part_of D ls = same_loops (loops_among D (form_variables_of ls)) ls

abbrev pub is_exchange_of : List FormLoop → List FormLoop → Bool
is_exchange_of (l ∷ m ∷ []) ls = same_loops (m ∷ l ∷ []) ls
is_exchange_of _ ls = false

-- ---- the coefficient of a name, and the coefficients without it

abbrev pub coefficient : List (List ℕ) → List ℕ → List ℤ → ℤ
coefficient [] x cs = pos 0
coefficient (y ∷ ys) x [] = pos 0
coefficient (y ∷ ys) x (c ∷ cs) = if bytes_eq y x then c else coefficient ys x cs

abbrev pub without : List (List ℕ) → List ℕ → List ℤ → List ℤ
without [] x cs = cs
without (y ∷ ys) x [] = []
without (y ∷ ys) x (c ∷ cs) = if bytes_eq y x then pos 0 ∷ cs else c ∷ without ys x cs

abbrev pub form_without : List (List ℕ) → List ℕ → Form → Form
form_without names x f = record { coefficients = without names x f.coefficients; constant = f.constant }
