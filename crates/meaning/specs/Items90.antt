-- Items of the lists of READ and PRINT of a Fortran 90 program whose kinds suit (ISO/IEC 1539:1991, section 9.4.2).
use Rattle.std.specs.Prelude.{◌≡◌, ℕ, IsTrue, List, ◌∷◌, Contains}
use Rattle.tree.specs.Plain.{Expression, Named, Item, Single, Constant, ImpliedDo, Items, no_items, item, Declaration}
use Rattle.tree.specs.declared.ops.Kind.TheVariants.{Integer}
use Rattle.meaning.specs.Typed.{has_item, IsText}
use Rattle.meaning.specs.Typed90.{HasSomeKind, IsDoVariable, IsScalar, rank_of_subscripts}

-- by the declarations `ds`
module _ (ds : List Declaration) where
  -- a variable, an element or a whole array, which isn't a DO variable round it
  abbrev pub IsInput : Expression → List (List ℕ) → Type 0
  IsInput (Named x ps) around = HasSomeKind ds (Named x ps) × (rank_of_subscripts ds ps ≡ 0) × (Contains around x → ⊥)
  IsInput e around = ⊥

  abbrev mutual
    -- an item of an output list may be any expression
    pub IsOutputItem : Item → List (List ℕ) → Type 0
    IsOutputItem (Single e) around = HasSomeKind ds e
    IsOutputItem (Constant t) around = IsText t
    IsOutputItem (ImpliedDo is x a b c) around =
        IsTrue (has_item is) × IsDoVariable ds x around
        × IsScalar ds a Integer × IsScalar ds b Integer × IsScalar ds c Integer × AreOutputItems is (x ∷ around)

    pub AreOutputItems : Items → List (List ℕ) → Type 0
    AreOutputItems no_items around = Unit {0}
    AreOutputItems (item i is) around = IsOutputItem i around × AreOutputItems is around

  abbrev mutual
    pub IsInputItem : Item → List (List ℕ) → Type 0
    IsInputItem (Single e) around = IsInput e around
    IsInputItem (Constant t) around = ⊥
    IsInputItem (ImpliedDo is x a b c) around =
        IsTrue (has_item is) × IsDoVariable ds x around
        × IsScalar ds a Integer × IsScalar ds b Integer × IsScalar ds c Integer × AreInputItems is (x ∷ around)

    pub AreInputItems : Items → List (List ℕ) → Type 0
    AreInputItems no_items around = Unit {0}
    AreInputItems (item i is) around = IsInputItem i around × AreInputItems is around
