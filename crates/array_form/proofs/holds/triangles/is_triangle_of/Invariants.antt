-- None so far depends on another one.
use Rattle.std.proofs.Common.{◌≡◌, take, false, length}
use Rattle.std.specs.List.{list_any}
use Rattle.array_form.specs.forms.Statements.{depends_on}
use Rattle.array_form.specs.holds.Surroundings.{counted_of}
use Rattle.array_form.specs.holds.View.{surroundings_view}
use Rattle.array_form.specs.declared.holds.loops.CountedLoop.{CountedLoop}
use Rattle.array_form.proofs.holds.triangles.is_triangle_of.Given as goal

abbrev pub invariant-loop-l : goal.invariant-loop-l
invariant-loop-l l =
    list_any (λ (t : CountedLoop). list_any (λ (m : CountedLoop). depends_on (surroundings_view l.a) (counted_of (length l.a.loops) t) (counted_of (length l.a.loops) m)) l.loops)
    (take l.l-index l.loops) ≡ false
