-- The lists of PRINT and READ as they are written, and what they stand for.
use Rattle.std.specs.Prelude.{ℕ, ◌+◌, ◌<◌, max, Bool, true, false, IsTrue, List, [], ◌∷◌, ◌++◌}
use Rattle.std.specs.List.{list_any}
use Rattle.tree.specs.Limits.{expression_depth77}
use Rattle.tree.specs.Plain.{Item, Single, Constant, ImpliedDo, items}
use Rattle.f77_grammar.specs.declared.directions.Direction.{Direction}
use Rattle.f77_grammar.specs.declared.directions.Direction.TheVariants.{Output, Input}
use Rattle.f77_grammar.specs.expressions.Phrases.{Phrase77, Literal, WideLiteral, Truth, Name, Listed, Paren, Signed}
use Rattle.f77_grammar.specs.expressions.Phrases.{Joined, IsExpression77, written77, tree77_of, phrase_depth77}
use Rattle.f77_grammar.specs.expressions.Words.{is_wide_word}
use Rattle.f77_grammar.specs.expressions.Words as words
use Rattle.f77_grammar.specs.expressions.Words.{Word77}
use Rattle.f77_grammar.specs.statements.Controls.{Control, IsControl, written_control, step_tree77, control_depth}

-- An item is an expression, a character constant or an implied DO list: its items and its control. A list has one item
-- at least.
mutual
  pub data ItemPhrase77 : Type 0 where
    Value : Phrase77 → ItemPhrase77
    Text : List ℕ → ItemPhrase77
    Loop : ItemPhrases77 → Control → ItemPhrase77

  pub data ItemPhrases77 : Type 0 where
    Sole : ItemPhrase77 → ItemPhrases77
    More : ItemPhrases77 → ItemPhrase77 → ItemPhrases77

-- a name, or a name with a list
abbrev pub IsReference77 : Phrase77 → Type 0
IsReference77 (Literal n) = ⊥
IsReference77 WideLiteral = ⊥
IsReference77 (Truth b) = ⊥
IsReference77 (Name x) = Unit {0}
IsReference77 (Listed x ps) = Unit {0}
IsReference77 (Paren p) = ⊥
IsReference77 (Signed s p) = ⊥
IsReference77 (Joined o a b) = ⊥

-- what is read is a variable, an element or a whole array; any value is printed
abbrev pub MayStand77 : Direction → Phrase77 → Type 0
MayStand77 Output p = Unit {0}
MayStand77 Input p = IsReference77 p

-- texts are printed alone
abbrev pub takes_text : Direction → Bool
takes_text Output = true
takes_text Input = false

abbrev mutual
  pub IsItem77 : Direction → ItemPhrase77 → Type 0
  IsItem77 d (Value p) = IsExpression77 p × MayStand77 d p
  IsItem77 d (Text t) = IsTrue (takes_text d)
  IsItem77 d (Loop is k) = AreItems77 d is × IsControl k

  pub AreItems77 : Direction → ItemPhrases77 → Type 0
  AreItems77 d (Sole i) = IsItem77 d i
  AreItems77 d (More is i) = AreItems77 d is × IsItem77 d i

-- ---- how it is written

abbrev mutual
  pub written_item77 : ItemPhrase77 → List Word77
  written_item77 (Value p) = written77 p
  written_item77 (Text t) = words.Constant t ∷ []
  written_item77 (Loop is k) =
      words.Open ∷ (written_items77 is ++ words.Comma ∷ (written_control k ++ words.Close ∷ []))

  pub written_items77 : ItemPhrases77 → List Word77
  written_items77 (Sole i) = written_item77 i
  written_items77 (More is i) = written_items77 is ++ words.Comma ∷ written_item77 i

-- ---- its tree

abbrev mutual
  pub item_tree77 : ItemPhrase77 → Item
  item_tree77 (Value p) = Single (tree77_of p)
  item_tree77 (Text t) = Constant t
  item_tree77 (Loop is k) =
      ImpliedDo (items (item_trees77 is)) k.variable (tree77_of k.first) (tree77_of k.last) (step_tree77 k.step)

  pub item_trees77 : ItemPhrases77 → List Item
  item_trees77 (Sole i) = item_tree77 i ∷ []
  item_trees77 (More is i) = item_trees77 is ++ item_tree77 i ∷ []

-- ---- its depth: the parenthesis of an implied DO list counts one for what stands in it

abbrev mutual
  pub item_depth77 : ItemPhrase77 → ℕ
  item_depth77 (Value p) = phrase_depth77 p
  item_depth77 (Text t) = 0
  item_depth77 (Loop is k) = max (items_depth77 is) (control_depth k) + 1

  pub items_depth77 : ItemPhrases77 → ℕ
  items_depth77 (Sole i) = item_depth77 i
  items_depth77 (More is i) = max (items_depth77 is) (item_depth77 i)

-- a literal of it is above 2^127-1
abbrev pub AreWide : ItemPhrases77 → Type 0
AreWide is = IsTrue (list_any is_wide_word (written_items77 is))

-- operators, parentheses and lists stand in one another too deep
abbrev pub AreDeep : ItemPhrases77 → Type 0
AreDeep is = expression_depth77 < items_depth77 is
