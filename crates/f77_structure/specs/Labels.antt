-- Sets of labels.
use Rattle.std.specs.Prelude.{ℕ, ◌==◌, Bool, true, false, not, ◌||◌, Option, Some, None}
use Rattle.std.specs.BTreeSet.{contains}
use Rattle.std.specs.Ordering.{nat_cmp}
use Rattle.f77_structure.specs.declared.labels.Labels.{Labels}

abbrev pub has : Labels → ℕ → Bool
has s n = contains nat_cmp s.numbers n

abbrev pub same_truth : Bool → Bool → Bool
same_truth true b = b
same_truth false b = not b

-- a label that is 0, or is in the set where that is wrong, or isn't where it has to be
abbrev pub is_refused : Labels → Bool → Option ℕ → Bool
is_refused labels refused None = false
is_refused labels refused (Some n) = n == 0 || same_truth (has labels n) refused
