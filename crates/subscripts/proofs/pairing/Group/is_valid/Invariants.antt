use Rattle.std.proofs.Common.{ℕ, ◌<◌, get_or}
use Rattle.subscripts.proofs.Members.{IsMemberBeside}
use Rattle.subscripts.specs.declared.pairing.Pairing.{Pairing}
use Rattle.subscripts.proofs.pairing.Group.is_valid.Given as goal

abbrev pub invariant-loop-member : goal.invariant-loop-member
invariant-loop-member l = (k : ℕ) (q : Pairing) → k < l.member-index → IsMemberBeside (get_or l.members 0 q) (get_or l.members k q)
