use Rattle.tree.specs.View.{program_of}
use Rattle.run77.proofs.ProgramLaws.{are_arrays, are_distinct}
use Rattle.run77.proofs.programs.Machine77.new.Goals as goal

pub of_parts-requires-clause-sound : goal.of_parts-requires-clause-sound
of_parts-requires-clause-sound c = are_arrays c.args.width (program_of c.args.program) c.requires

pub of_parts-requires-clause-distinct : goal.of_parts-requires-clause-distinct
of_parts-requires-clause-distinct c = are_distinct c.args.width (program_of c.args.program) c.requires
