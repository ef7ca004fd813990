use Rattle.std.proofs.Common.{length}
use Rattle.scalar_expand.proofs.privates.+declared_kind.Given as goal

abbrev pub decreases-declared_kind : goal.decreases-declared_kind
decreases-declared_kind l = length l.decls.now
