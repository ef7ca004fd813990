-- What surrounds a statement in the blocks of a program, told from the statements before and behind it.
use Rattle.std.specs.Prelude.{◌≡◌, ◌↔◌, ◌⊎◌, ℕ, zero, suc, ◌<◌, IsTrue, Option, List, [], ◌∷◌, Contains}
use Rattle.tree.specs.Plain.{Declaration, items}
use Rattle.tree.specs.declared.functions.Intrinsic.{Intrinsic}
use Rattle.meaning.specs.Blocks.{Surroundings}
use Rattle.meaning.specs.Typed90.{IsDoVariable}
use Rattle.f90_grammar.specs.Phrases.{value_of_digits, tree_of}
use Rattle.f90_grammar.specs.Items.{Input, Output, item_trees90}
use Rattle.f90_grammar.specs.Forms as forms
use Rattle.f90_grammar.specs.Forms.{Form90}
use Rattle.f90_grammar.specs.Blocks.{Placed}
use Rattle.reading.specs.Signs.{reference_in}
use Rattle.f90_grammar.specs.Declared.{declarations_of, functions_in}
use Rattle.f90_grammar.specs.Order.{Place90, IsPlaceIn, IsInOrder, Opened, InIf, InElse, InDo, blocks_round}
use Rattle.f90_grammar.specs.Reading.{AreStatementsOf}
use Rattle.f90_grammar.specs.Surroundings.{IsMisplaced, is_wrong_label90, label_digits_in, ItemsKeepVariables}

-- the variables of the loops among what is open, the innermost first
abbrev pub loop_variables : List Opened → List (List ℕ)
loop_variables [] = []
loop_variables (InIf ∷ os) = loop_variables os
loop_variables (InElse ∷ os) = loop_variables os
loop_variables (InDo x ∷ os) = x ∷ loop_variables os

abbrev pub with_label : List ℕ → List ℕ → List ℕ
with_label [] ns = ns
with_label (d ∷ ds) ns = value_of_digits (d ∷ ds) ∷ ns

-- how many blocks are open behind a statement that weren't round the place before; the arm or the ELSE part that begins
-- is a block next to the one that ends
abbrev pub opened_since : Form90 → ℕ → ℕ
opened_since (forms.If p) n = suc n
opened_since (forms.Do x a b c) n = suc n
opened_since (forms.ElseIf p) zero = 1
opened_since forms.Else zero = 1
opened_since forms.EndIf (suc n) = n
opened_since forms.EndDo (suc n) = n
opened_since f n = n

-- the label of a statement that stands in the block of the place before or in one round it
abbrev pub with_label_at : ℕ → Form90 → List ℕ → List ℕ
with_label_at zero (forms.Continue digits) ns = with_label digits ns
with_label_at n f ns = ns

-- The labels of the statements, which stand behind a place, that may be jumped to from there: those in its block and in
-- the blocks round it; `n` blocks have been opened since
abbrev pub labels_ahead : List Placed → ℕ → List ℕ
labels_ahead [] n = []
labels_ahead (p ∷ ps) n = with_label_at n p.form (labels_ahead ps (opened_since p.form n))

abbrev pub surroundings_of : Place90 → Surroundings
surroundings_of p = record { variables = loop_variables (blocks_round p); ahead = labels_ahead p.after 0 }

-- A statement of this form suits what surrounds it: it sets no variable of a loop round it, its own DO variables are
-- right, and it jumps to a label that is ahead
module _ (ds : List Declaration) (function : List ℕ → Option Intrinsic) where
  abbrev pub SuitsPlace : Form90 → Surroundings → Type 0
  SuitsPlace (forms.Assign l r) w = Contains w.variables (reference_in (tree_of function l)).name → ⊥
  SuitsPlace (forms.Where m l r) w = Contains w.variables (reference_in (tree_of function l)).name → ⊥
  SuitsPlace (forms.Test p f) w = SuitsPlace f w
  SuitsPlace (forms.Do x a b c) w = IsDoVariable ds x w.variables
  SuitsPlace (forms.Read is) w = ItemsKeepVariables ds Input (items (item_trees90 function is)) w.variables
  SuitsPlace (forms.Print is) w = ItemsKeepVariables ds Output (items (item_trees90 function is)) w.variables
  SuitsPlace (forms.Go label) w = (0 < value_of_digits label) × Contains w.ahead (value_of_digits label)
  SuitsPlace f w = Unit {0}

-- its label is wrong, or it doesn't suit what surrounds it
abbrev pub IsWrongAt : List Placed → Place90 → Type 0
IsWrongAt ps p =
    IsTrue (is_wrong_label90 p.before (label_digits_in p.here.form))
    ⊎ (SuitsPlace (declarations_of ps) (functions_in ps) p.here.form (surroundings_of p) → ⊥)

-- what is wrong in the blocks of a text is wrong at places
abbrev pub MisplacedIsAtPlace : Type 0
MisplacedIsAtPlace = (text : List ℕ) (ps : List Placed) (line : ℕ) → AreStatementsOf text ps → IsInOrder ps
    → IsMisplaced ps line ↔ ((p : Place90) × IsPlaceIn ps p × IsWrongAt ps p × (line ≡ p.here.line))
