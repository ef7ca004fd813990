use Rattle.meaning_laws.proofs.worked_programs.Constructors as worked
use Rattle.meaning_laws.proofs.worked_programs.worked_constructors.Goals as goal

pub returns : goal.returns
returns c = record {
  two_loops = worked.two_loops;
  inner_hides_outer = worked.inner_hides_outer;
  loop_without_turns = worked.loop_without_turns;
}
