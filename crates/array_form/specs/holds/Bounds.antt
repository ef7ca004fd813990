-- Which statements of a nest name cells within the declared bounds whatever their guards are. Under a false guard a
-- subscript of an array form is looked at all the same (ISO/IEC 1539:1991, section 7.5.3.2).
use Rattle.std.specs.Prelude.{ℕ, ◌==◌, ℤ, pos, negsuc, ◌+ℤ◌, int_le, Bool, false, ◌&&◌, ◌||◌, if◌then◌else◌}
use Rattle.std.specs.Prelude.{Option, Some, None, is_none, is_some, unwrap_or, List, [], ◌∷◌, map, drop, length}
use Rattle.std.specs.List.{flat_map, list_all, list_any}
use Rattle.std.specs.Option.{option_map}
use Rattle.std.specs.Cmp.Lexicographic.{pointwise}
use Rattle.std.specs.Ordering.{int_eq}
use Rattle.std.specs.Str.{bytes_eq}
use Rattle.tree.specs.Plain.{Only, Section, Subscript, Subscripts, no_subscripts, subscript, Reference}
use Rattle.meaning.specs.Sections.{not_negative}
use Rattle.meaning.specs.Store.{opening_bounds}
use Rattle.linear_forms.specs.Linear.{Form, form_of, multiple, not_zero, sum, weighted}
use Rattle.dependence_graph.specs.nest_graph.References.{references_of, variables_round}
use Rattle.nest.specs.Bodies.{Standing, nest_statements}
use Rattle.nest.specs.Plain.{Loop, Made, Nest}
use Rattle.array_form.specs.forms.Instances.{in_sequence}
use Rattle.array_form.specs.forms.Loops as forms
use Rattle.array_form.specs.holds.Surroundings.{counted_loop, form_trip_of}

-- ---- boxes: a form is within bounds at all iterations of its loops, whose trips are constants

-- a constant trip is never a divided one
abbrev pub is_constant_trip : forms.FormTrip → Bool
is_constant_trip t = (t.divisor == 1) && (not_zero t.form.coefficients == 0)

-- a loop that stands in a form: its coefficient there isn't 0
pub record Term : Type 0 where
  pub coefficient : ℤ
  pub trip : forms.FormTrip

-- of forms whose first places are those of loops with these trips
abbrev pub terms_in : List forms.FormTrip → List ℤ → List Term
terms_in [] cs = []
terms_in (t ∷ ts) [] = []
terms_in (t ∷ ts) (c ∷ cs) =
    if int_eq c (pos 0) then terms_in ts cs else record { coefficient = c; trip = t } ∷ terms_in ts cs

abbrev pub coefficients_of : List Term → List ℤ
coefficients_of ts = map (λ (t : Term). t.coefficient) ts

-- all their iterations; none where a loop doesn't turn
abbrev pub iterations_of : List Term → List (List ℕ)
iterations_of ts = in_sequence (map (λ (t : Term). not_negative t.trip.form.constant) ts)

-- a dimension's bounds: the lower one, the upper one
abbrev pub is_between : ℤ × ℤ → ℤ → Bool
is_between b z = int_le b.0 z && int_le z b.1

abbrev pub stays_between : ℤ × ℤ → ℤ → List Term → Bool
stays_between b z ts =
    list_all (λ is. is_between b (weighted (coefficients_of ts) (map pos is) +ℤ z)) (iterations_of ts)

abbrev pub is_in_box : List forms.FormTrip → Form → ℤ × ℤ → Bool
is_in_box trips f b =
    (not_zero (drop (length trips) f.coefficients) == 0)
    && (list_all (λ (t : Term). is_constant_trip t.trip) (terms_in trips f.coefficients)
    && stays_between b f.constant (terms_in trips f.coefficients))

-- ---- subscripts and the declared bounds of their places

-- of a subscript that isn't linear there is no form
pub record Bounded : Type 0 where
  pub form : Option Form
  pub bounds : ℤ × ℤ

-- equal forms: their difference is 0
abbrev pub is_zero_form : Form → Bool
is_zero_form f = (not_zero f.coefficients == 0) && int_eq f.constant (pos 0)

abbrev pub is_same : Form → Option Form → Bool
is_same f None = false
is_same f (Some g) = is_zero_form (sum f (multiple (negsuc 0) g))

-- the bounds c are no wider than b
abbrev pub lies_within : ℤ × ℤ → ℤ × ℤ → Bool
lies_within b c = int_le b.0 c.0 && int_le c.1 b.1

abbrev pub loop_numbers_round : Standing → List ℕ
loop_numbers_round x = map (λ (l : Loop). l.number) x.loops

abbrev pub trips_round : Standing → List forms.FormTrip
trips_round x = map (λ l. form_trip_of (length x.loops) (counted_loop l).trip) x.loops

module _ (n : Nest) where
  abbrev pub form_in : List (List ℕ) → Subscript → Option Form
  form_in loops (Only e) = form_of loops n.symbols e
  form_in loops (Section a b c) = None

  -- what the program declares; made arrays aren't declared there
  abbrev pub declared_bounds : List ℕ → Option (List (ℤ × ℤ))
  declared_bounds x = opening_bounds n.declarations x

  -- as many as there are dimensions, else none has bounds
  abbrev pub subscripts_with_bounds : List (List ℕ) → Subscripts → List (ℤ × ℤ) → Option (List Bounded)
  subscripts_with_bounds loops no_subscripts [] = Some []
  subscripts_with_bounds loops (subscript p ps) (b ∷ bs) =
      option_map (λ qs. record { form = form_in loops p; bounds = b } ∷ qs) (subscripts_with_bounds loops ps bs)
  subscripts_with_bounds loops _ _ = None

  abbrev pub is_made : List ℕ → Bool
  is_made x = list_any (λ (m : Made). bytes_eq m.name x) n.made

  -- the subscripts of a reference that may be out of bounds: none of a made array, which is as large as its loops make
  -- it
  abbrev pub bounded_subscripts : List (List ℕ) → Reference → Option (List Bounded)
  bounded_subscripts loops r =
      if is_made r.name then Some []
      else elim (declared_bounds r.name) [ None ↦ None | Some bs ↦ subscripts_with_bounds loops r.subscripts bs ]

  -- those of all references of a statement: of its guard, its left side and its right side
  abbrev pub subscripts_of : Standing → List Bounded
  subscripts_of x = flat_map (λ r. unwrap_or (bounded_subscripts (variables_round x) r) []) (references_of x)

  -- each reference names what is declared, with as many subscripts, or what was made
  abbrev pub is_sized : Standing → Bool
  is_sized x = list_all (λ r. is_some (bounded_subscripts (variables_round x) r)) (references_of x)

  -- ---- safe statements

  -- a statement without a guard, in the same loops, has an equal subscript with no wider bounds
  abbrev pub meets : List ℕ → Form → ℤ × ℤ → Standing → Bool
  meets loops f b y = is_none y.statement.guard
      && (pointwise (λ i j. i == j) (loop_numbers_round y) loops
      && list_any (λ (q : Bounded). is_same f q.form && lies_within b q.bounds) (subscripts_of y))

  -- one of the nest does
  abbrev pub is_met : List ℕ → Form → ℤ × ℤ → Bool
  is_met loops f b = list_any (meets loops f b) (nest_statements n)

  abbrev pub is_safe_subscript : Standing → Bounded → Bool
  is_safe_subscript x q = elim q.form [
    | None ↦ false
    | Some f ↦ is_in_box (trips_round x) f q.bounds || is_met (loop_numbers_round x) f q.bounds
  ]

  abbrev pub is_safe : Standing → Bool
  is_safe x = is_sized x && list_all (is_safe_subscript x) (subscripts_of x)
