-- Items of lists whose calls suit.
use Rattle.std.specs.Prelude.{ℕ, Option, Some, None, List}
use Rattle.f90_grammar.specs.Phrases.{Phrase90, SuitsCalls}
use Rattle.tree.specs.declared.functions.Intrinsic.{Intrinsic}
use Rattle.f90_grammar.specs.Items.{ItemPhrase90, ItemPhrases90, Loop, More, Of, Sole, Text}

module _ (function : List ℕ → Option Intrinsic) where
  abbrev pub StepSuitsCalls : Option Phrase90 → Type 0
  StepSuitsCalls None = Unit {0}
  StepSuitsCalls (Some p) = SuitsCalls function p

  abbrev mutual
    pub ItemSuitsCalls : ItemPhrase90 → Type 0
    ItemSuitsCalls (Of p) = SuitsCalls function p
    ItemSuitsCalls (Text t) = Unit {0}
    ItemSuitsCalls (Loop is x a b c) = ItemsSuitCalls is × SuitsCalls function a × SuitsCalls function b
        × StepSuitsCalls c

    pub ItemsSuitCalls : ItemPhrases90 → Type 0
    ItemsSuitCalls (Sole i) = ItemSuitsCalls i
    ItemsSuitCalls (More is i) = ItemsSuitCalls is × ItemSuitsCalls i
