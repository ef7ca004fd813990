-- What it is for words to be a list, and to be a DO variable with its parameters.
use Rattle.std.specs.Prelude.{◌≡◌, List, map, Result, Ok, Err}
use Rattle.tree.specs.View.{expression_of, item_of}
use Rattle.f77_grammar.specs.expressions.Phrases.{tree77_of}
use Rattle.f77_grammar.specs.expressions.Words.{Word77}
use Rattle.f77_grammar.specs.statements.Controls.{Control, IsControl, written_control, step_tree77, control_depth}
use Rattle.f77_grammar.specs.statements.Items.{ItemPhrases77, AreItems77, written_items77, item_trees77, items_depth77}
use Rattle.f77_grammar.specs.declared.directions.Direction.{Direction}
use Rattle.reading.specs.declared.stops.Stop.{Stop}
use Rattle.reading.specs.declared.stops.Stop.TheVariants.{Syntax, Memory}
use Rattle.f77_expressions.specs.Reader.{capped}
use Rattle.f77_words.specs.declared.lists.controls.DoControl.{DoControl}
use Rattle.f77_words.specs.declared.lists.lists.ItemList.{ItemList}

-- What is returned is so, unless memory ran out.
abbrev pub Given : {A : Type 0} → Result A Stop → (A → Type 0) → Type 0
Given (Ok a) P = P a
Given (Err Syntax) P = ⊥
Given (Err Memory) P = Unit {0}

-- ---- a list

-- what was made of a list
pub record IsMadeOf (l : ItemList) (is : ItemPhrases77) : Type 0 where
  pub trees : map item_of l.items ≡ item_trees77 is
  pub depth : l.depth ≡ capped (items_depth77 is)

-- The words are a list, of which that was made.
pub record Is (d : Direction) (ws : List Word77) (l : ItemList) : Type 0 where
  pub phrases : ItemPhrases77
  pub good : AreItems77 d phrases
  pub is : IsMadeOf l phrases
  pub same : ws ≡ written_items77 phrases

-- That list is returned, unless memory ran out.
abbrev pub Gives : Result ItemList Stop → ItemPhrases77 → Type 0
Gives result is = Given result (λ l. IsMadeOf l is)

-- ---- a DO variable with its parameters

-- what was made of it
pub record IsControlOf (made : DoControl) (k : Control) : Type 0 where
  pub variable : made.variable ≡ k.variable
  pub first : expression_of made.first ≡ tree77_of k.first
  pub last : expression_of made.last ≡ tree77_of k.last
  pub step : expression_of made.step ≡ step_tree77 k.step
  pub depth : made.depth ≡ capped (control_depth k)

-- The words are one, of which that was made.
pub record IsWholeControl (ws : List Word77) (made : DoControl) : Type 0 where
  pub control : Control
  pub good : IsControl control
  pub is : IsControlOf made control
  pub same : ws ≡ written_control control
