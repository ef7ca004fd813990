-- Canonical text as what a rule makes of each node.
use Rattle.std.specs.Prelude.{Option, Some, None, ℕ, if◌then◌else◌, List, ◌++◌}
use Rattle.tree.specs.Plain.{Expression}
use Rattle.rewrite.specs.Making.{Making}
use Rattle.rewrite.specs.Names.{mentions}
use Rattle.linear_forms.specs.Linear.{Form, form_of}
use Rattle.linear_forms.specs.Expressed.{expressed, variables}

module _ (loops symbols : List (List ℕ)) where
  -- the canonical text of a form, or the expression where it has none
  abbrev pub text_or : Option Form → Expression → Expression
  text_or None e = e
  text_or (Some f) e = expressed (variables (loops ++ symbols)) f

  abbrev pub canonical_text : Expression → Expression
  canonical_text e = text_or (form_of loops symbols e) e

  -- A node in which the variable of a loop stood as it was first written becomes its canonical text, if it is linear as
  -- it is now. So a sum in which the variables cancel out becomes a constant
  abbrev pub canonical_node : Expression → Expression → Expression
  canonical_node first e = if mentions loops first then canonical_text e else e

  abbrev pub canonising : Making
  canonising = record { expression = canonical_node; left = λ l. l }
