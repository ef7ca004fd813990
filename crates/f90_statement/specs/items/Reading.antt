-- What it is for words to be a list of PRINT or READ.
use Rattle.std.specs.Prelude.{◌≡◌, List, Result, Ok, Err}
use Rattle.f90_grammar.specs.Items.{Direction, ItemPhrases90, AreItems90, written_items90, items_depth90}
use Rattle.f90_grammar.specs.Words.{Word90}
use Rattle.reading.specs.declared.stops.Stop.{Stop}
use Rattle.reading.specs.declared.stops.Stop.TheVariants.{Syntax, Memory}
use Rattle.f90_expressions.specs.Machine.{counted}
use Rattle.f90_statement.specs.items.Flat.{flat_items}
use Rattle.f90_statement.specs.items.Views.{AreNodesOf}
use Rattle.f90_statement.specs.declared.items.nodes.ItemList.{ItemList}

-- its parts, and its depth
pub record IsListOf (l : ItemList) (is : ItemPhrases90) : Type 0 where
  pub nodes : AreNodesOf l.nodes (flat_items is)
  pub depth : l.depth ≡ counted (items_depth90 is)

-- the words are a list, of which that was made
pub record AreList (d : Direction) (ws : List Word90) (l : ItemList) : Type 0 where
  pub phrases : ItemPhrases90
  pub good : AreItems90 d phrases
  pub is : IsListOf l phrases
  pub same : ws ≡ written_items90 phrases

-- that list is returned, unless memory ran out
abbrev pub Gives : Result ItemList Stop → ItemPhrases90 → Type 0
Gives (Ok l) is = IsListOf l is
Gives (Err Syntax) is = ⊥
Gives (Err Memory) is = Unit {0}
