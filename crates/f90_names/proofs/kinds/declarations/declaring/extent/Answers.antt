use Rattle.std.proofs.Common.{ap}
use Rattle.tree.specs.Plain.{Later}
use Rattle.f90_statement.specs.Views.{IsDimensionOf}
use Rattle.f90_names.proofs.kinds.OfDeclarations.PlaceLaws.{same_length}
use Rattle.f90_names.proofs.kinds.declarations.declaring.extent.Goals as goal

pub returns-then-is_allocatable : goal.returns-then-is_allocatable
returns-then-is_allocatable c ds a b =
    rw c.if-is_allocatable.true (ap Later (same_length IsDimensionOf c.args.dimensions.now ds a))
