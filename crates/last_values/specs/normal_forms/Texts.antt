-- The texts of normal loops.
use Rattle.std.specs.Prelude.{ℕ, ℤ, pos, if◌then◌else◌, List, [], ◌∷◌, slice_index_or}
use Rattle.std.specs.Ordering.{int_eq}
use Rattle.tree.specs.Plain.{Expression, Number, Binary}
use Rattle.tree.specs.declared.ops.Op.TheVariants.{Div, Ge}
use Rattle.linear_forms.specs.Texts.{text_of}
use Rattle.nest.specs.declared.parts.Trip.{Trip}
use Rattle.subscripts.specs.declared.affine.Affine.{Affine}
use Rattle.last_values.specs.declared.normal_forms.loops.NormalLoop.{NormalLoop}
use Rattle.last_values.specs.normal_forms.NormalLoops.{counters_of}

-- it isn't divided by 1
abbrev pub quotient_text : Expression → ℤ → Expression
quotient_text e d = if int_eq d (pos 1) then e else Binary Div e (Number d)

-- a trip over these loops and symbols, and further divided trips
unfoldable pub trip_text : List (List ℕ) → List (List ℕ) → List Expression → Trip → Expression
trip_text counters symbols trips t = quotient_text (text_of counters symbols trips t.top) t.by

-- the form with the increment's multiple of the loop's own counter before the counters of the loops round it
abbrev pub counter_first : ℤ → Affine → Affine
counter_first step a = record a {
  loops =
      step ∷ slice_index_or a.loops 0 (pos 0) ∷ slice_index_or a.loops 1 (pos 0) ∷ slice_index_or a.loops 2 (pos 0)
      ∷ slice_index_or a.loops 3 (pos 0) ∷ slice_index_or a.loops 4 (pos 0) ∷ slice_index_or a.loops 5 (pos 0) ∷ [];
}

-- m3 times the counter, and m1 - m3: what stands for the variable of a loop under these loops
unfoldable pub variable_text : List (List ℕ) → List NormalLoop → NormalLoop → Expression
variable_text symbols round r = text_of (r.counter ∷ counters_of round) symbols [] (counter_first r.step r.below)

abbrev pub at_least_one : Expression → Expression
at_least_one e = Binary Ge e (Number (pos 1))
