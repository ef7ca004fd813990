use Rattle.std.proofs.Common.{IsTrue, List}
use Rattle.f90_grammar.specs.Blocks as grammar
use Rattle.f90_grammar.specs.Contents.{has_wide_literal_in}
use Rattle.f90_statement.specs.Views.{AreOf}
use Rattle.f90_blocks.specs.places.forms.Places.{IsPlacedOf}
use Rattle.f90_blocks.proofs.places.Walks.{HoldsAtNone}
use Rattle.f90_blocks.proofs.places.first.first_wide.Given as goal

abbrev pub invariant-loop-place : goal.invariant-loop-place
invariant-loop-place l =
    (ps : List grammar.Placed) → AreOf IsPlacedOf l.text ps
    → HoldsAtNone ps (λ p. IsTrue (has_wide_literal_in p.here.form)) l.place
