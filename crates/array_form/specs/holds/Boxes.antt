-- The ends of a sum over all iterations of its loops.
use Rattle.std.specs.Prelude.{◌≡◌, ℕ, ◌≤◌, ◌*◌, ◌^◌, ℤ, pos, ◌+ℤ◌, ◌*ℤ◌, ◌≤ℤ◌, unsigned_abs, int_le, if◌then◌else◌}
use Rattle.std.specs.Prelude.{Option, Some, None, Contains, List, [], map, length}
use Rattle.linear_forms.specs.Linear.{weighted}
use Rattle.array_form.specs.forms.Loops as forms
use Rattle.array_form.specs.holds.Bounds.{Term, coefficients_of, iterations_of}
use Rattle.array_form.specs.holds.Surroundings.{form_trip_of}
use Rattle.array_form.specs.declared.holds.boxes.Ends.{Ends}
use Rattle.array_form.specs.declared.holds.loops.CountedLoop.{CountedLoop}

abbrev pub trips_of : ℕ → List CountedLoop → List forms.FormTrip
trips_of depth ls = map (λ (l : CountedLoop). form_trip_of depth l.trip) ls

abbrev pub sum_at : List Term → List ℕ → ℤ
sum_at ts is = weighted (coefficients_of ts) (map pos is)

-- both are reached; each term adds so much at most
pub record AreEnds (ts : List Term) (e : Ends) : Type 0 where
  pub within : (is : List ℕ) → Contains (iterations_of ts) is
      → (e.least ≤ℤ sum_at ts is) × (sum_at ts is ≤ℤ e.greatest)
  pub least : (is : List ℕ) × Contains (iterations_of ts) is × (sum_at ts is ≡ e.least)
  pub greatest : (is : List ℕ) × Contains (iterations_of ts) is × (sum_at ts is ≡ e.greatest)
  pub small : (unsigned_abs e.least ≤ length ts * 2 ^ 103) × (unsigned_abs e.greatest ≤ length ts * 2 ^ 103)

-- none where there is no iteration
abbrev pub HasEnds : List Term → Option Ends → Type 0
HasEnds ts None = iterations_of ts ≡ []
HasEnds ts (Some e) = AreEnds ts e

abbrev pub moved_by : Ends → ℤ → ℤ → Ends
moved_by e low high = record { least = e.least +ℤ low; greatest = e.greatest +ℤ high }

-- with one more loop, from its first iteration to its last
abbrev pub widened : Ends → ℤ → ℤ → Option Ends
widened e c t =
    if int_le (pos 1) t then Some (if int_le c (c *ℤ t) then moved_by e c (c *ℤ t) else moved_by e (c *ℤ t) c) else None
