use Rattle.std.proofs.Common.{◌≡◌, map, drop}
use Rattle.f77_grammar.specs.program.Limits.{with_constants}
use Rattle.f77_grammar.specs.syntax.Views.{constant_of}
use Rattle.f77_names.specs.constants.Constants.{store_of}
use Rattle.meaning.specs.Dialect.{fortran77}
use Rattle.f77_names.proofs.constants.constants.Constants.define_all.Given as goal

abbrev pub invariant-loop-constant : goal.invariant-loop-constant
invariant-loop-constant l =
    (with_constants (fortran77 l.initial.self.width) (map constant_of l.constants) (store_of l.initial.self)
    ≡ with_constants (fortran77 l.initial.self.width) (map constant_of (drop l.constant-index l.constants)) (store_of l.self))
    × (l.self.width ≡ l.initial.self.width)
