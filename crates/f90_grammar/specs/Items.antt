-- The lists of PRINT and READ as they are written, and what they stand for (ISO/IEC 1539:1991, section 9.4.2).
use Rattle.std.specs.Prelude.{ℕ, ◌+◌, max, pos, Option, Some, None, List, [], ◌∷◌, ◌++◌}
use Rattle.tree.specs.Plain.{Expression, Number, Item, Single, Constant, ImpliedDo, items}
use Rattle.f90_grammar.specs.Phrases.{Phrase90, Name, Listed, IsExpression90, AreValues, written90, tree_of}
use Rattle.f90_grammar.specs.Phrases.{phrase_depth90}
use Rattle.f90_grammar.specs.Words as words
use Rattle.f90_grammar.specs.Words.{Word90}
use Rattle.tree.specs.declared.functions.Intrinsic.{Intrinsic}

mutual
  pub data ItemPhrase90 : Type 0 where
    Of : Phrase90 → ItemPhrase90
    Text : List ℕ → ItemPhrase90
    Loop : ItemPhrases90 → List ℕ → Phrase90 → Phrase90 → Option Phrase90 → ItemPhrase90

  pub data ItemPhrases90 : Type 0 where
    Sole : ItemPhrase90 → ItemPhrases90
    More : ItemPhrases90 → ItemPhrase90 → ItemPhrases90

pub data Direction : Type 0 where
  Output : Direction
  Input : Direction

-- a name, or a name with a list
abbrev pub IsReference90 : Phrase90 → Type 0
IsReference90 (Name x) = Unit {0}
IsReference90 (Listed x ps) = Unit {0}
IsReference90 _ = ⊥

-- without a section
abbrev pub IsVariable : Phrase90 → Type 0
IsVariable (Name x) = Unit {0}
IsVariable (Listed x ps) = AreValues ps
IsVariable _ = ⊥

abbrev pub MayStand90 : Direction → Phrase90 → Type 0
MayStand90 Output p = Unit {0}
MayStand90 Input p = IsVariable p

abbrev pub TakesText : Direction → Type 0
TakesText Output = Unit {0}
TakesText Input = ⊥

abbrev pub IsStep90 : Option Phrase90 → Type 0
IsStep90 None = Unit {0}
IsStep90 (Some p) = IsExpression90 p

abbrev mutual
  pub IsItem90 : Direction → ItemPhrase90 → Type 0
  IsItem90 d (Of p) = IsExpression90 p × MayStand90 d p
  IsItem90 d (Text t) = TakesText d
  IsItem90 d (Loop is x a b c) = AreItems90 d is × IsExpression90 a × IsExpression90 b × IsStep90 c

  pub AreItems90 : Direction → ItemPhrases90 → Type 0
  AreItems90 d (Sole i) = IsItem90 d i
  AreItems90 d (More is i) = AreItems90 d is × IsItem90 d i

abbrev pub written_step90 : Option Phrase90 → List Word90
written_step90 None = []
written_step90 (Some p) = words.Comma ∷ written90 p

abbrev pub written_bounds90 : Phrase90 → Phrase90 → Option Phrase90 → List Word90
written_bounds90 a b c = written90 a ++ words.Comma ∷ (written90 b ++ written_step90 c)

abbrev mutual
  pub written_item90 : ItemPhrase90 → List Word90
  written_item90 (Of p) = written90 p
  written_item90 (Text t) = words.Constant t ∷ []
  written_item90 (Loop is x a b c) =
      words.Open ∷ (written_items90 is ++ words.Comma ∷ (words.Name x ∷ (words.Equals
      ∷ (written_bounds90 a b c ++ words.Close ∷ []))))

  pub written_items90 : ItemPhrases90 → List Word90
  written_items90 (Sole i) = written_item90 i
  written_items90 (More is i) = written_items90 is ++ words.Comma ∷ written_item90 i

module _ (function : List ℕ → Option Intrinsic) where
  abbrev pub step_tree90 : Option Phrase90 → Expression
  step_tree90 None = Number (pos 1)
  step_tree90 (Some p) = tree_of function p

  abbrev mutual
    pub item_tree90 : ItemPhrase90 → Item
    item_tree90 (Of p) = Single (tree_of function p)
    item_tree90 (Text t) = Constant t
    item_tree90 (Loop is x a b c) =
        ImpliedDo (items (item_trees90 is)) x (tree_of function a) (tree_of function b) (step_tree90 c)

    pub item_trees90 : ItemPhrases90 → List Item
    item_trees90 (Sole i) = item_tree90 i ∷ []
    item_trees90 (More is i) = item_trees90 is ++ item_tree90 i ∷ []

abbrev pub step_depth90 : Option Phrase90 → ℕ
step_depth90 None = 0
step_depth90 (Some p) = phrase_depth90 p

abbrev mutual
  pub item_depth90 : ItemPhrase90 → ℕ
  item_depth90 (Of p) = phrase_depth90 p
  item_depth90 (Text t) = 0
  item_depth90 (Loop is x a b c) =
      max (items_depth90 is) (max (max (phrase_depth90 a) (phrase_depth90 b)) (step_depth90 c)) + 1

  pub items_depth90 : ItemPhrases90 → ℕ
  items_depth90 (Sole i) = item_depth90 i
  items_depth90 (More is i) = max (items_depth90 is) (item_depth90 i)
