use Rattle.components.specs.Classes.{AreMembers}
use Rattle.components.proofs.tables.members_of.Given as goal

abbrev pub invariant-loop-number : goal.invariant-loop-number
invariant-loop-number l = AreMembers l.number l.count l.labels l.members.items
