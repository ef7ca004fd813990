-- The uses of names by which the kinds of a program are checked.
use Rattle.std.specs.Prelude.{List}
use Rattle.f77_grammar.specs.program.Uses.{Use77}
use Rattle.f77_names.specs.UsesView.{listed}
use Rattle.f77_checks.specs.declared.kinds.kind_check.KindCheck.{KindCheck}

abbrev pub known_uses : KindCheck → List Use77
known_uses check = listed check.names.now.uses
