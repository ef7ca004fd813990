-- What doesn't suit the blocks round it.
use Rattle.std.specs.Prelude.{◌≡◌, ℕ, min, true, false, Option, Some, None, List, []}
use Rattle.tree.specs.Plain.{Declaration}
use Rattle.tree.specs.declared.functions.Intrinsic.{Intrinsic}
use Rattle.f90_grammar.specs.Blocks.{Placed}
use Rattle.f90_grammar.specs.Forms.{IsWritten90}
use Rattle.f90_grammar.specs.Reading.{declares}
use Rattle.f90_grammar.specs.Words.{Word90}

abbrev pub earlier : Option ℕ → Option ℕ → Option ℕ
earlier None b = b
earlier (Some i) None = Some i
earlier (Some i) (Some j) = Some (min i j)

-- no declared name is empty or a function
pub record AreProper (ds : List Declaration) (function : List ℕ → Option Intrinsic) : Type 0 where
  pub named : declares ds [] ≡ false
  pub no_functions : (x : List ℕ) → declares ds x ≡ true → function x ≡ None

-- the statement is written in words
abbrev pub IsWrittenOut : Placed → Type 0
IsWrittenOut p = (ws : List Word90) × IsWritten90 p.form ws
