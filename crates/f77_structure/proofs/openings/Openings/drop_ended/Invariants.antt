use Rattle.std.proofs.Common.{◌≡◌, length}
use Rattle.f77_structure.specs.Openings.{frames, loops_in, trimmed}
use Rattle.f77_structure.proofs.openings.Openings.drop_ended.Given as goal

abbrev pub invariant-ended : goal.invariant-ended
invariant-ended l = record {
  ifs : frames l.self ≡ frames l.initial.self;
  loops : trimmed l.before (loops_in l.self) ≡ trimmed l.before (loops_in l.initial.self);
}

abbrev pub decreases-ended : goal.decreases-ended
decreases-ended l = length l.self.loops.items
