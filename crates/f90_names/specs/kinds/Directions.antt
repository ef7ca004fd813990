-- Which list is asked about.
use Rattle.f90_grammar.specs.Items.{Direction, Input, Output}
use Rattle.f90_names.specs.declared.kinds.statements.Transfer.{Transfer}
use Rattle.f90_names.specs.declared.kinds.statements.Transfer.TheVariants.{In, Out}

abbrev pub direction_of : Transfer → Direction
direction_of In = Input
direction_of Out = Output
