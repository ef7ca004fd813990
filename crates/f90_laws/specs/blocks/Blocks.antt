-- The block that statements form.
use Rattle.std.specs.Prelude.{◌≡◌, ℕ, Bool, false, ◌==◌, Option, List}
use Rattle.std.specs.List.{list_any}
use Rattle.tree.specs.Plain.{Block}
use Rattle.tree.specs.declared.functions.Intrinsic.{Intrinsic}
use Rattle.f90_grammar.specs.Phrases.{value_of_digits}
use Rattle.f90_grammar.specs.Forms as forms
use Rattle.f90_grammar.specs.Forms.{Form90}
use Rattle.f90_grammar.specs.Blocks.{Placed, AreBlock90}
use Rattle.f90_grammar.specs.Order.{IsInOrder}
use Rattle.f90_grammar.specs.Reading.{AreStatementsOf, is_target_in}
use Rattle.f90_grammar.specs.Surroundings.{AreBody}

-- ---- the labels that statements name

abbrev pub goes_to : ℕ → Form90 → Bool
goes_to n (forms.Go label) = n == value_of_digits label
goes_to n (forms.Test p f) = goes_to n f
goes_to n f = false

-- a GO TO among the statements names the label
abbrev pub name_target : List Placed → ℕ → Bool
name_target ps n = list_any (λ (p : Placed). goes_to n p.form) ps

-- the GO TOs of a block are those of its statements
abbrev pub TargetsAreNamed : Type 0
TargetsAreNamed = (function : List ℕ → Option Intrinsic) (is_target : ℕ → Bool) (ps : List Placed) (b : Block) (n : ℕ)
    → AreBlock90 function is_target ps b → is_target_in b n ≡ name_target ps n

-- ---- statements form a block

-- the executable statements of a text in order form one
abbrev pub BodyForms : Type 0
BodyForms = (text : List ℕ) (ps : List Placed) → AreStatementsOf text ps → IsInOrder ps → (b : Block) × AreBody ps b

-- no statements form two blocks
abbrev pub OneBlock : Type 0
OneBlock = (function : List ℕ → Option Intrinsic) (is_target : ℕ → Bool) (ps : List Placed) (b c : Block)
    → AreBlock90 function is_target ps b → AreBlock90 function is_target ps c → b ≡ c

abbrev pub OneBody : Type 0
OneBody = (ps : List Placed) (b c : Block) → AreBody ps b → AreBody ps c → b ≡ c
