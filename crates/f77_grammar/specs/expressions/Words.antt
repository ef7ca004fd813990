-- The words of expressions and lists.
use Rattle.std.specs.Prelude.{ℕ, ℤ, Bool, List, true, false}
use Rattle.tree.specs.declared.ops.Op.{Op}

-- `Wide` is a literal above 2^127-1. `Head` is a name with the parenthesis directly behind it. A minus sign is the
-- operator Sub, wherever it stands. `Constant` is a character constant.
pub data Word77 : Type 0 where
  Number : ℤ → Word77
  Wide : Word77
  Truth : Bool → Word77
  Name : List ℕ → Word77
  Head : List ℕ → Word77
  Operator : Op → Word77
  Open : Word77
  Close : Word77
  Comma : Word77
  Equals : Word77
  Colon : Word77
  Constant : List ℕ → Word77

abbrev pub is_wide_word : Word77 → Bool
is_wide_word Wide = true
is_wide_word w = false
