-- Sets of labels.
use Rattle.std.specs.Prelude.{◌≡◌, ℕ, Bool, List}
use Rattle.std.specs.BTreeSet.{contains}
use Rattle.std.specs.List.{list_any}
use Rattle.std.specs.Ordering.{nat_cmp}
use Rattle.f90_grammar.specs.Blocks.{Placed}
use Rattle.f90_grammar.specs.Surroundings.{label_digits_in, bears_label}
use Rattle.f90_blocks.specs.declared.structure.labels.Labels.{Labels}

abbrev pub has : Labels → ℕ → Bool
has s n = contains nat_cmp s.numbers n

-- those that stand before a place
abbrev pub AreLabels : Labels → List Placed → Type 0
AreLabels s before = (n : ℕ) → has s n ≡ list_any (λ (p : Placed). bears_label n (label_digits_in p.form)) before
