-- It depends on none so far.
use Rattle.std.proofs.Common.{◌≡◌, take, false, length}
use Rattle.std.specs.List.{list_any}
use Rattle.array_form.specs.forms.Statements.{depends_on}
use Rattle.array_form.specs.holds.Surroundings.{counted_of}
use Rattle.array_form.specs.holds.View.{surroundings_view}
use Rattle.array_form.specs.declared.holds.loops.CountedLoop.{CountedLoop}
use Rattle.array_form.proofs.holds.triangles.depends_on_one.Given as goal

abbrev pub invariant-loop-m : goal.invariant-loop-m
invariant-loop-m l =
    list_any (λ (m : CountedLoop). depends_on (surroundings_view l.a) (counted_of (length l.a.loops) l.l) (counted_of (length l.a.loops) m)) (take l.m-index l.others) ≡ false
