-- A list of PRINT or READ as a list of its parts, each behind the parts that it is made of.
use Rattle.std.specs.Prelude.{ℕ, Option, List, [], ◌∷◌, ◌++◌}
use Rattle.f90_grammar.specs.Phrases.{Phrase90}
use Rattle.f90_grammar.specs.Items as items
use Rattle.f90_grammar.specs.Items.{ItemPhrase90, ItemPhrases90, Sole, More}

-- `Begin` stands before the items of an implied DO list, and its variable and bounds behind them
pub data Node : Type 0 where
  Of : Phrase90 → Node
  Text : List ℕ → Node
  Begin : Node
  Turns : List ℕ → Phrase90 → Phrase90 → Option Phrase90 → Node

abbrev mutual
  pub flat_item : ItemPhrase90 → List Node
  flat_item (items.Of p) = Of p ∷ []
  flat_item (items.Text t) = Text t ∷ []
  flat_item (items.Loop is x a b c) = Begin ∷ (flat_items is ++ Turns x a b c ∷ [])

  pub flat_items : ItemPhrases90 → List Node
  flat_items (Sole i) = flat_item i
  flat_items (More is i) = flat_items is ++ flat_item i
