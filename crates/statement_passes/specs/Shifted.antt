-- Nests into whose symbols a name has come in.
use Rattle.std.specs.Prelude.{ℕ, List, [], ◌∷◌}
use Rattle.std.specs.Option.{option_map}
use Rattle.nest.specs.Plain.{Loop, Part, Run, Turns, Choice, Label, Jump, Parts, no_parts, part, Branches, no_branches}
use Rattle.nest.specs.Plain.{branch, Nest}
use Rattle.nest.specs.View.{Branch}
use Rattle.statement_passes.specs.Symbols.{place_among, shifted_trip, with_name_placed}

module _ (at : ℕ) where
  abbrev pub shifted_loop : Loop → Loop
  shifted_loop l = record l { trip = option_map (shifted_trip at) l.trip }

  abbrev mutual
    pub shifted_part : Part → Part
    shifted_part (Run s) = Run s
    shifted_part (Turns l ps) = Turns (shifted_loop l) (shifted_parts ps)
    shifted_part (Choice bs ps) = Choice (shifted_branches bs) (shifted_parts ps)
    shifted_part (Label n) = Label n
    shifted_part (Jump n) = Jump n

    pub shifted_parts : Parts → Parts
    shifted_parts no_parts = no_parts
    shifted_parts (part p ps) = part (shifted_part p) (shifted_parts ps)

    pub shifted_branches : Branches → Branches
    shifted_branches no_branches = no_branches
    shifted_branches (branch test ps bs) = branch test (shifted_parts ps) (shifted_branches bs)

  abbrev pub shifted_branch : Branch → Branch
  shifted_branch b = record { test = b.test; body = shifted_parts b.body }

abbrev pub with_nest_symbol : Nest → List ℕ → Nest
with_nest_symbol n x =
    record n { symbols = with_name_placed n.symbols x; body = shifted_part (place_among n.symbols x) n.body }

-- one after the other
abbrev pub with_nest_symbols : Nest → List (List ℕ) → Nest
with_nest_symbols n [] = n
with_nest_symbols n (x ∷ xs) = with_nest_symbols (with_nest_symbol n x) xs
