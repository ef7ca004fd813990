-- What a loop's own body has that keeps it from being in a nest, by its marks.
use Rattle.std.specs.Prelude.{ℕ, ◌==◌, Bool, true, false, not, ◌||◌, if◌then◌else◌, List, [], ◌∷◌}
use Rattle.std.specs.List.{list_any}
use Rattle.nest_reasons.specs.declared.marks.Mark.{Mark}
use Rattle.nest_reasons.specs.declared.marks.Mark.TheVariants.{Halts, Jumps, Arrives, Turns}

abbrev pub is_arrival : ℕ → Mark → Bool
is_arrival n Halts = false
is_arrival n (Jumps m) = false
is_arrival n (Arrives m) = n == m
is_arrival n (Turns b) = false

-- it halts or does input or output, or is a GO TO whose label isn't among the loop's own marks
abbrev pub leaves_loop : List Mark → Mark → Bool
leaves_loop ms Halts = true
leaves_loop ms (Jumps n) = not (list_any (is_arrival n) ms)
leaves_loop ms (Arrives n) = false
leaves_loop ms (Turns b) = false

abbrev pub exits : List Mark → Bool
exits ms = list_any (leaves_loop ms) ms

abbrev pub stands_in_if : Mark → Bool
stands_in_if Halts = false
stands_in_if (Jumps n) = false
stands_in_if (Arrives n) = false
stands_in_if (Turns b) = b

abbrev pub loop_in_if : List Mark → Bool
loop_in_if ms = list_any stands_in_if ms

abbrev pub is_loop_mark : Mark → Bool
is_loop_mark Halts = false
is_loop_mark (Jumps n) = false
is_loop_mark (Arrives n) = false
is_loop_mark (Turns b) = true

-- a loop stands there, and the label behind it
abbrev pub loop_then_label : ℕ → List Mark → Bool
loop_then_label n [] = false
loop_then_label n (m ∷ ms) = if is_loop_mark m then list_any (is_arrival n) ms else loop_then_label n ms

abbrev pub passes_loop : Mark → List Mark → Bool
passes_loop Halts ms = false
passes_loop (Jumps n) ms = loop_then_label n ms
passes_loop (Arrives n) ms = false
passes_loop (Turns b) ms = false

-- a loop stands between a GO TO and its label
abbrev pub jumps_over_loop : List Mark → Bool
jumps_over_loop [] = false
jumps_over_loop (m ∷ ms) = passes_loop m ms || jumps_over_loop ms
