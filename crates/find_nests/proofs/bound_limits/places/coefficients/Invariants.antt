use Rattle.std.proofs.Common.{◌≡◌, ◌≤◌, ◌^◌, ℕ, ℤ, List, pos, get_or}
use Rattle.std.specs.Prelude.{nat_abs}
use Rattle.linear_forms.specs.Places.{padded, terms_from}
use Rattle.find_nests.specs.bound_limits.Composed.{filled}
use Rattle.find_nests.proofs.bound_limits.places.coefficients.Given as goal

abbrev pub invariant-loop-place : goal.invariant-loop-place
invariant-loop-place l =
    record {
      value : (cs : List ℤ) → l.terms ≡ padded (terms_from 0 cs) → l.list.items ≡ filled l.place cs;
      size : (j : ℕ) → nat_abs (get_or l.list.items j (pos 0)) ≤ 2 ^ 63;
    }
