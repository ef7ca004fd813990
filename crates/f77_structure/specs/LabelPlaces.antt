-- Places of labels.
use Rattle.std.specs.Prelude.{◌≡◌, ℕ, Option, List, reverse}
use Rattle.std.specs.BTreeMap.{get}
use Rattle.std.specs.Ordering.{nat_cmp}
use Rattle.f77_grammar.specs.Statement77.{Labelled}
use Rattle.f77_structure.specs.declared.label_places.LabelPlaces.{LabelPlaces}
use Rattle.f77_structure.specs.Openings.{last_with}

abbrev pub place_of : LabelPlaces → ℕ → Option ℕ
place_of m n = get nat_cmp m.places n

-- each label has the place of the last statement that bears it, where a loop with the label ends
abbrev pub AreEndsIn : LabelPlaces → List Labelled → Type 0
AreEndsIn ends text = (n : ℕ) → place_of ends n ≡ last_with (reverse text) n
