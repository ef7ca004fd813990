-- Texts of last values as the program has them, and last values as a block.
use Rattle.std.specs.Prelude.{ℕ, Option, Some, None, List}
use Rattle.tree.specs.Plain.{Statement, Block, block}
use Rattle.tree.specs.View.{expression_of}
use Rattle.last_values.specs.declared.normal_forms.loops.NormalLoop.{NormalLoop}
use Rattle.last_values.specs.declared.normal_forms.last.LastTexts.{LastTexts}
use Rattle.last_values.specs.Endings.{Texts, after_statements}

abbrev pub texts_of : LastTexts → Texts
texts_of t = record { first = expression_of t.first; trip = expression_of t.trip; end = expression_of t.end }

abbrev pub as_block : Option (List Statement) → Option Block
as_block None = None
as_block (Some cs) = Some (block cs)

abbrev pub after_block : List (List ℕ) → ℕ → List NormalLoop → NormalLoop → Option Block
after_block symbols line round r = as_block (after_statements symbols line round r)
