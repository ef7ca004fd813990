-- The last value of a loop's variable after all loops round the loop have ended.
use Rattle.std.specs.Prelude.{Option, Some, ℕ, ◌+◌, pos, Bool, List, [], ◌∷◌, ◌++◌, length, drop}
use Rattle.std.specs.List.{list_all}
use Rattle.subscripts.specs.declared.affine.Affine.{Affine}
use Rattle.last_values.specs.declared.normal_forms.combinations.Multiple.{Multiple}
use Rattle.last_values.specs.declared.normal_forms.loops.NormalLoop.{NormalLoop}
use Rattle.last_values.specs.declared.normal_forms.last.LastForms.{LastForms}
use Rattle.last_values.specs.declared.normal_forms.places.Place.TheVariants as place
use Rattle.last_values.specs.normal_forms.Steps.{◌>>=◌}
use Rattle.last_values.specs.normal_forms.Combinations.{number_of_place, combination, without_loops, times}
use Rattle.last_values.specs.normal_forms.NormalLoops.{trip_of, trip_form, has_no_loops, plus_multiple}

-- Each loop's trip as many times as its counter stands in a form, from the k-th loop on; a divided trip of the k-th
-- loop has the place n + k
abbrev pub trips_from : ℕ → ℕ → Affine → List NormalLoop → List Multiple
trips_from n k a [] = []
trips_from n k a (r ∷ rs) =
    times (number_of_place a (place.Loop k)) (trip_form (n + k) r.trip) ∷ trips_from n (k + 1) a rs

-- a form with the counter of each of these loops replaced by its trip
abbrev pub with_trips : ℕ → List NormalLoop → Affine → List Multiple
with_trips n round a = trips_from n 0 a round ++ times (pos 1) (without_loops a) ∷ []

-- of a loop under these loops, with n symbols: its lower bound, its trip and its variable's last value in the last turn
-- of each of them
unfoldable pub last_forms : ℕ → List NormalLoop → NormalLoop → Option LastForms
last_forms n round r = do
  first ← combination (n + 7) (with_trips n round r.first)
  top ← combination (n + 7) (with_trips n round r.trip.top)
  end ← plus_multiple (n + 7) first r.step (trip_form (n + length round) (trip_of top r.trip.by))
  Some (record { first = first; trip = trip_of top r.trip.by; end = end })

-- the loops in the outermost one have trips without counters, so that the loop's last turn is known
abbrev pub has_plain_trip : NormalLoop → Bool
has_plain_trip r = has_no_loops r.trip.top

unfoldable pub have_plain_trips : List NormalLoop → Bool
have_plain_trips round = list_all has_plain_trip (drop 1 round)
