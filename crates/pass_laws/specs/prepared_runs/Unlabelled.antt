-- Blocks in which no statement is a label.
use Rattle.std.specs.Prelude.{⊤}
use Rattle.tree.specs.Plain.{Statement, Label, Block, no_statements, statement}

-- none of its statements is a label, so that a run which jumps on passes them all
abbrev pub IsNoLabel : Statement → Type 0
IsNoLabel (Label n) = ⊥
IsNoLabel _ = ⊤

abbrev pub HasNoLabel : Block → Type 0
HasNoLabel no_statements = ⊤
HasNoLabel (statement c cs) = IsNoLabel c × HasNoLabel cs
