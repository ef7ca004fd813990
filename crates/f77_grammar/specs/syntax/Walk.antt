-- A walk through the statements of a program, from the first one on.
use Rattle.std.specs.Prelude.{◌≡◌, ℕ, ◌+◌, Bool, List, reverse, take, drop}
use Rattle.f77_grammar.specs.Statement77.{Labelled}
use Rattle.f77_grammar.specs.program.Text.{Place77, places_from}
use Rattle.f77_grammar.specs.syntax.First.{first_index, index_from}

-- the first i statements, the nearest first
abbrev pub passed : List Labelled → ℕ → List Labelled
passed text i = reverse (take i text)

-- the place of the statement x, which stands behind i others
abbrev pub place_at : List Labelled → ℕ → Labelled → Place77
place_at text i x = record { before = passed text i; here = x; after = drop (i + 1) text }

-- none of the first i places passes the test: the first index that does is looked for behind them
abbrev pub IsSearched : (Place77 → Bool) → List Labelled → ℕ → Type 0
IsSearched test text i = first_index test text ≡ index_from test i (places_from (passed text i) (drop i text))
