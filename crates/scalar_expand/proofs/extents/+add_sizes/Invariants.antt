use Rattle.std.proofs.Common.{length}
use Rattle.scalar_expand.proofs.extents.+add_sizes.Given as goal

abbrev pub decreases-add_sizes : goal.decreases-add_sizes
decreases-add_sizes l = length l.sizes.now
