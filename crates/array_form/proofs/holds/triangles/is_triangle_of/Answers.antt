use Rattle.std.proofs.Common.{arith, length}
use Rattle.std.specs.List.{list_any}
use Rattle.array_form.specs.forms.Statements.{depends_on}
use Rattle.array_form.specs.holds.Surroundings.{counted_of}
use Rattle.array_form.specs.holds.View.{surroundings_view}
use Rattle.array_form.specs.declared.holds.loops.CountedLoop.{CountedLoop}
use Rattle.array_form.proofs.holds.TripLaws.{finds_plain}
use Rattle.array_form.proofs.holds.triangles.is_triangle_of.Goals as goal

pub returns-then-depends_on_one : goal.returns-then-depends_on_one
returns-then-depends_on_one c =
    finds_plain (λ (l : CountedLoop). list_any (λ (m : CountedLoop). depends_on (surroundings_view c.args.a.now) (counted_of (length c.args.a.now.loops) l) (counted_of (length c.args.a.now.loops) m)) c.args.loops.now)
    c.args.loops.now c.loop-l.l-index c.l-item.result c.depends_on_one.result (omega arith) c.l-item.is c.depends_on_one.ensures c.if-depends_on_one.true
