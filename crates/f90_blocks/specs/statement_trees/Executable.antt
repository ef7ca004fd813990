-- Which statements have trees.
use Rattle.std.specs.Prelude.{◌≡◌, ℕ, Bool, true, false, not, ◌&&◌, Option, None, List}
use Rattle.tree.specs.Plain.{Expression, Named}
use Rattle.tree.specs.declared.functions.Intrinsic.{Intrinsic}
use Rattle.tree.specs.declared.stmts.Mark.{Mark}
use Rattle.f90_grammar.specs.Blocks.{Placed}
use Rattle.f90_grammar.specs.Forms as forms
use Rattle.f90_grammar.specs.Forms.{Form90}
use Rattle.f90_grammar.specs.Order.{is_executable90}
use Rattle.f90_grammar.specs.Phrases.{Phrase90, tree_of}
use Rattle.f90_grammar.specs.Reading.{takes_mark}

-- a mark stands where one is taken alone
abbrev pub IsMarkOf : Option Mark → Form90 → Type 0
IsMarkOf m f = takes_mark f ≡ false → m ≡ None

abbrev pub IsMarked : Placed → Type 0
IsMarked p = IsMarkOf p.mark p.form

abbrev pub is_named : Expression → Bool
is_named (Named x ps) = true
is_named e = false

module _ (function : List ℕ → Option Intrinsic) where
  -- the left side isn't a name, an element or a section: it calls a function, whose name isn't declared
  abbrev pub is_call : Phrase90 → Bool
  is_call l = not (is_named (tree_of function l))

  -- such a left side has no tree
  abbrev pub stores_into_call : Form90 → Bool
  stores_into_call (forms.Assign l r) = is_call l
  stores_into_call (forms.Where m l r) = is_call l
  stores_into_call (forms.Test p f) = stores_into_call f
  stores_into_call f = false

  abbrev pub has_tree : Form90 → Bool
  has_tree f = is_executable90 f && not (stores_into_call f)
