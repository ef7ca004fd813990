-- Whether a name is one of a list.
use Rattle.std.specs.Prelude.{ℕ, Bool, List}
use Rattle.std.specs.List.{list_any}
use Rattle.std.specs.Str.{bytes_eq}

abbrev pub is_among : List (List ℕ) → List ℕ → Bool
is_among names x = list_any (λ y. bytes_eq y x) names
