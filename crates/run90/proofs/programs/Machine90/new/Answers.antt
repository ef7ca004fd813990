use Rattle.tree.specs.View.{program_of_90}
use Rattle.run90.proofs.ProgramLaws.{are_distinct}
use Rattle.run90.proofs.programs.Machine90.new.Goals as goal

pub of_parts-requires : goal.of_parts-requires
of_parts-requires c = are_distinct (program_of_90 c.args.program) c.requires
