-- The variables and symbolic constants that are counted.
use Rattle.std.specs.Prelude.{◌≡◌, ℕ, Bool, ◌||◌, List, ◌++◌, map, length}
use Rattle.std.specs.Str.{bytes_eq}
use Rattle.std.specs.List.{list_any, filter}
use Rattle.meaning.specs.Names.{is_among}
use Rattle.f77_grammar.specs.program.Uses.{Use77, is_variable, is_constant_name}
use Rattle.f77_grammar.specs.program.Limits.{once}
use Rattle.f77_names.specs.declared.counts.Counted.{Counted}
use Rattle.f77_names.specs.declared.names.Facts.{Facts}
use Rattle.f77_names.specs.declared.names.Names.{Names}
use Rattle.f77_names.specs.NameFacts.{AreNamesOf, is_variable_by}

abbrev pub is_counted_by : Facts → Bool
is_counted_by f = is_variable_by f || f.constant

-- the variables and symbolic constants of the program that stand so, as often as they stand
abbrev pub counted_in : List Use77 → List Use77 → List (List ℕ)
counted_in us vs =
    map (λ (u : Use77). u.name) (filter (λ (u : Use77). is_variable us u.name || is_constant_name us u.name) vs)

-- exactly these names, each once
pub record Holds (counted : Counted) (xs : List (List ℕ)) : Type 0 where
  pub among : (x : List ℕ) → list_any (bytes_eq x) counted.names.keys ≡ is_among xs x
  pub number : length counted.names.keys ≡ length (once xs)

-- the variables and symbolic constants among these uses are counted too
abbrev pub Counts : Names → Counted → Counted → List Use77 → Type 0
Counts names old new vs = (us : List Use77) (xs : List (List ℕ)) → AreNamesOf names us → Holds old xs
    → Holds new (counted_in us vs ++ xs)
