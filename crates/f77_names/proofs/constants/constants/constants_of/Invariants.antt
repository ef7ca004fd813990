use Rattle.std.proofs.Common.{◌≡◌, drop}
use Rattle.std.specs.List.{flat_map}
use Rattle.f77_grammar.specs.Statement77.{Labelled}
use Rattle.f77_grammar.specs.program.Limits as plain
use Rattle.f77_grammar.specs.syntax.Views.{text_of}
use Rattle.f77_names.specs.constants.Constants.{store_of}
use Rattle.meaning.specs.Dialect.{fortran77}
use Rattle.f77_names.proofs.constants.constants.constants_of.Given as goal

abbrev pub invariant-loop-statement : goal.invariant-loop-statement
invariant-loop-statement l =
    (plain.constants_of (fortran77 l.fn.width) (text_of l.text)
    ≡ plain.with_constants (fortran77 l.fn.width) (flat_map (λ (x : Labelled). plain.definitions_of x.statement) (drop l.statement-index (text_of l.text))) (store_of l.constants))
    × (l.constants.width ≡ l.fn.width)
