-- Loops of a nest as loops from 1 by 1 (Allen and Kennedy, "Optimizing Compilers for Modern Architectures", section
-- 4.2, loop normalization).
use Rattle.std.specs.Prelude.{Option, Some, None, ℕ, ◌+◌, nat_lt, ◌==◌, ℤ, pos, negsuc, neg_ℤ}
use Rattle.std.specs.Prelude.{int_lt, nat_abs, int_div, Bool, not, ◌&&◌, if◌then◌else◌}
use Rattle.std.specs.Prelude.{List, [], ◌∷◌, ◌++◌, map, length, codes, decimal}
use Rattle.std.specs.List.{list_all}
use Rattle.std.specs.Ordering.{int_eq}
use Rattle.tree.specs.Plain.{Expression}
use Rattle.linear_forms.specs.Linear.{is_small, form_of}
use Rattle.nest.specs.Plain.{Loop}
use Rattle.nest.specs.declared.parts.Trip.{Trip}
use Rattle.subscripts.specs.declared.affine.Affine.{Affine}
use Rattle.last_values.specs.declared.normal_forms.combinations.Multiple.{Multiple}
use Rattle.last_values.specs.declared.normal_forms.loops.NormalLoop.{NormalLoop}
use Rattle.last_values.specs.declared.normal_forms.places.Place.TheVariants as place
use Rattle.last_values.specs.normal_forms.Steps.{◌>>=◌}
use Rattle.last_values.specs.normal_forms.Combinations.{number_of_place, combination, affine_of, number_form}
use Rattle.last_values.specs.normal_forms.Combinations.{without_loops, times, zero_loops, no_symbols, seven}

-- the variable of the n-th loop of the program
abbrev pub counter_name : ℕ → List ℕ
counter_name n = codes "FV_LOOP_" ++ decimal n

-- ---- what stands for the variables

abbrev pub variables_of : List NormalLoop → List (List ℕ)
variables_of rs = map (λ (r : NormalLoop). r.variable) rs

abbrev pub counters_of : List NormalLoop → List (List ℕ)
counters_of rs = map (λ (r : NormalLoop). r.counter) rs

-- the value of each variable as many times as the variable stands in a form, from the k-th loop on
abbrev pub variable_values_from : ℕ → Affine → List NormalLoop → List Multiple
variable_values_from k a [] = []
variable_values_from k a (r ∷ rs) = times (number_of_place a (place.Loop k)) r.value ∷ variable_values_from (k + 1) a rs

-- a form over the variables of these loops as one over their counters
abbrev pub with_counters : List NormalLoop → Affine → List Multiple
with_counters round a = variable_values_from 0 a round ++ times (pos 1) (without_loops a) ∷ []

-- a bound that is linear over the variables of the loops round it and the symbols, and further multiples
unfoldable pub bound_form : List (List ℕ) → List NormalLoop → Expression → List Multiple → Option Affine
bound_form symbols round e more = do
  f ← form_of (variables_of round) symbols e
  combination (length symbols) (with_counters round (affine_of (length round) f) ++ more)

abbrev pub one_at : ℕ → ℕ → ℤ
one_at k j = if j == k then pos 1 else pos 0

-- 1 for the k-th loop
abbrev pub loop_form : ℕ → Affine
loop_form k = record { loops = seven (one_at k); syms = no_symbols; constant = pos 0 }

-- 1 for the j-th symbol or divided trip
abbrev pub symbol_form : ℕ → Affine
symbol_form j = record {
  loops = zero_loops;
  syms = (j, pos 1) ∷ (0, pos 0) ∷ (0, pos 0) ∷ (0, pos 0) ∷ (0, pos 0) ∷ (0, pos 0) ∷ (0, pos 0) ∷ (0, pos 0) ∷ [];
  constant = pos 0;
}

-- ---- trips

abbrev pub is_zero : ℤ → Bool
is_zero z = int_eq z (pos 0)

abbrev pub is_unused : ℕ × ℤ → Bool
is_unused t = is_zero t.1

abbrev pub has_no_loops : Affine → Bool
has_no_loops a = list_all is_zero a.loops

abbrev pub has_no_symbols : Affine → Bool
has_no_symbols a = list_all is_unused a.syms

abbrev pub is_constant : Affine → Bool
is_constant a = has_no_loops a && has_no_symbols a

-- the quotient of a form by a number, folded where the form is constant
abbrev pub trip_of : Affine → ℤ → Trip
trip_of a d =
    if is_constant a then record { top = number_form (int_div a.constant d); by = pos 1 }
    else record { top = a; by = d }

abbrev pub is_undivided : Trip → Bool
is_undivided t = int_eq t.by (pos 1)

-- a trip as a form; a divided trip has the place j
abbrev pub trip_form : ℕ → Trip → Affine
trip_form j t = if is_undivided t then t.top else symbol_form j

abbrev pub is_known : Trip → Bool
is_known t = is_undivided t && is_constant t.top

-- a positive constant
abbrev pub is_positive : Trip → Bool
is_positive t = is_known t && int_lt (pos 0) t.top.constant

-- ---- a loop

-- an increment other than 0 and within the limit, in one of at most seven loops
abbrev pub is_suitable : ℤ → List NormalLoop → Bool
is_suitable z round = not (is_zero z) && (is_small z && nat_lt (length round) 7)

-- over n symbols: a form and a number
abbrev pub plus_number : ℕ → Affine → ℤ → Option Affine
plus_number n a z = combination n (times (pos 1) a ∷ times z (number_form (pos 1)) ∷ [])

-- a form and so many times another one
abbrev pub plus_multiple : ℕ → Affine → ℤ → Affine → Option Affine
plus_multiple n a z b = combination n (times (pos 1) a ∷ times z b ∷ [])

abbrev pub sign_of : ℤ → ℤ
sign_of z = if int_lt z (pos 0) then negsuc 0 else pos 1

-- (m2 - m1 + m3) / m3 for a positive increment m3, and (m1 - m2 - m3) / (-m3) for a negative one, where the form is
-- m2 - m1 + m3
abbrev pub trip_by : ℕ → ℤ → Affine → Option Trip
trip_by n step a = do
  top ← combination n (times (sign_of step) a ∷ [])
  Some (trip_of top (pos (nat_abs step)))

abbrev pub with_forms : Loop → Affine → Affine → Affine → Trip → Affine → NormalLoop
with_forms l first below value trip end = record {
  variable = l.variable;
  counter = counter_name l.number;
  step = l.step;
  first = first;
  below = below;
  value = value;
  trip = trip;
  end = end;
}

-- by the forms of m1, of m1 - m3, of the variable and of m2 - m1 + m3
unfoldable pub forms_by_trip : List (List ℕ) → Loop → Affine → Affine → Affine → Affine → Option NormalLoop
forms_by_trip symbols l first below value top = do
  trip ← trip_by (length symbols) l.step top
  end ← plus_multiple (length symbols + 1) first l.step (trip_form (length symbols) trip)
  Some (with_forms l first below value trip end)

-- by the forms of m1 and of m1 - m3
unfoldable pub forms_by_first : List (List ℕ) → List NormalLoop → Loop → Affine → Affine → Option NormalLoop
forms_by_first symbols round l first below = do
  value ← plus_multiple (length symbols) below l.step (loop_form (length round))
  top ← bound_form symbols round l.last (times (negsuc 0) below ∷ [])
  forms_by_trip symbols l first below value top

unfoldable pub forms_of : List (List ℕ) → List NormalLoop → Loop → Option NormalLoop
forms_of symbols round l = do
  first ← bound_form symbols round l.first []
  below ← plus_number (length symbols) first (neg_ℤ l.step)
  forms_by_first symbols round l first below

-- The loop l under these loops, which count from 1 by 1. Its lower bound m1, m1 - m3 and the dividend of the trip are
-- within the limits, and so is the variable's last value m1 + m3 * trip
unfoldable pub normal_loop : List (List ℕ) → List NormalLoop → Loop → Option NormalLoop
normal_loop symbols round l = if is_suitable l.step round then forms_of symbols round l else None
