use Rattle.std.proofs.Common.{drop}
use Rattle.std.specs.Prelude.{reverse}
use Rattle.f90_lines.specs.Views.{statements_seen}
use Rattle.f90_statement.specs.Views.{AreOf}
use Rattle.f90_blocks.specs.places.forms.Forms.{IsFormIn}
use Rattle.f90_blocks.specs.places.forms.Places.{HavePlacesSoFar}
use Rattle.f90_blocks.proofs.places.forms.placing.places.Given as goal

abbrev pub invariant-placing : goal.invariant-placing
invariant-placing l = record {
  forms_left : AreOf IsFormIn (reverse l.left.items) (statements_seen (drop l.written-index l.statements));
  so_far : HavePlacesSoFar (statements_seen l.statements) (statements_seen (drop l.written-index l.statements)) l.placed l.pending;
}
