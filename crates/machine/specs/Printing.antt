-- PRINT, with the values of whole arrays.
use Rattle.std.specs.Prelude.{Option, ℕ, List, [], ◌∷◌, map}
use Rattle.tree.specs.Plain.{Expression, Items, items}
use Rattle.tree.specs.View.{item_of}
use Rattle.tree.specs.declared.stmts.Item.{Item}
use Rattle.meaning.specs.Dialect.{Dialect}
use Rattle.meaning.specs.Texts.{output_text}
use Rattle.meaning.specs.Value.{item_values}
use Rattle.meaning.specs.Run.{Act, evaluates, writes, then, prints_items, first_blank}

abbrev pub prints_value : Dialect → ℕ → Expression → Act
prints_value lang line e = evaluates line (item_values lang e) (λ vs. writes (output_text vs))

abbrev pub plain_items : List Item → Items
plain_items is = items (map item_of is)

-- a PRINT, after its first step
abbrev pub prints : Dialect → Option ℕ → ℕ → Items → Act
prints lang limit line is = then (writes (first_blank is)) (then (prints_items lang limit is line) (writes (10 ∷ [])))
