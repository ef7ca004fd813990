-- The first statement of a program at which something is wrong.
use Rattle.std.specs.Prelude.{ℕ, suc, Bool, Option, None, Some, min, if◌then◌else◌, List, [], ◌∷◌}
use Rattle.std.specs.Option.{option_map}
use Rattle.std.specs.List.{find}
use Rattle.f77_grammar.specs.Statement77.{Labelled}
use Rattle.f77_grammar.specs.program.Text.{Place77, places}

-- the line of the first place that passes the test
abbrev pub first_line : (Place77 → Bool) → List Labelled → Option ℕ
first_line test text = option_map (λ (p : Place77). p.here.line) (find test (places text))

-- its index
abbrev pub index_from : (Place77 → Bool) → ℕ → List Place77 → Option ℕ
index_from test i [] = None
index_from test i (p ∷ ps) = if test p then Some i else index_from test (suc i) ps

abbrev pub first_index : (Place77 → Bool) → List Labelled → Option ℕ
first_index test text = index_from test 0 (places text)

-- the sooner of two places that were found
abbrev pub sooner : Option ℕ → Option ℕ → Option ℕ
sooner None b = b
sooner (Some i) None = Some i
sooner (Some i) (Some j) = Some (min i j)
