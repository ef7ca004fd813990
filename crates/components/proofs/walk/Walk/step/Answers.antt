use Rattle.std.proofs.Common.{subst, arith, Some, []}
use Rattle.components.specs.Walking.{IsLast}
use Rattle.components.proofs.Parts.{few_classes, fewer_by_one, last_inside, left_block, taken, taken_below}
use Rattle.components.proofs.walk.Walk.step.Goals as goal

pub leave-requires-clause-inside : goal.leave-requires-clause-inside
leave-requires-clause-inside c =
    let split = subst (IsLast (Some c.in-Some.last)) c.as_slice.ensures.value c.in-Some.ensures in
    let old = c.args.self.now in
    let h = last_inside old.starts.items c.in-Some.last split c.args.rows.now old.marks.items old.path.items old.work.items old.count c.requires.walk in
    omega arith

pub leave-requires-clause-few : goal.leave-requires-clause-few
leave-requires-clause-few c =
    let split = subst (IsLast (Some c.in-Some.last)) c.as_slice.ensures.value c.in-Some.ensures in
    let old = c.args.self.now in
    few_classes old.starts.items c.in-Some.last split c.args.rows.now old.marks.items old.path.items old.work.items old.count c.requires.walk

pub returns-then-len-last : goal.returns-then-len-last
returns-then-len-last c =
    let split = subst (IsLast (Some c.in-Some.last)) c.as_slice.ensures.value c.in-Some.ensures in
    let old = c.args.self.now in
    let new = c.leave.new.self in
    let p = left_block old.starts.items c.in-Some.last split c.args.rows.now old.marks.items old.path.items old.work.items old.count c.requires.walk
    (omega arith) new.marks.items new.path.items new.work.items new.starts.items new.count c.leave.ensures.marks c.leave.ensures.path c.leave.ensures.work c.leave.ensures.starts c.leave.ensures.count in
    let one = fewer_by_one old.starts.items c.in-Some.last split in
    let less = p.less in
    (record { is = p.is; keeps = p.keeps; less = omega arith }, λ e. omega arith, λ e. cc)

pub look-requires-clause-walk : goal.look-requires-clause-walk
look-requires-clause-walk c =
    let split = subst (IsLast (Some c.in-Some.last)) c.as_slice.ensures.value c.in-Some.ensures in
    let old = c.args.self.now in
    taken old.starts.items c.in-Some.last split c.args.rows.now old.marks.items old.path.items c.pop.new.self.items old.work.items old.count c.in-Some-pop.number c.requires.walk c.in-Some-pop.ensures.items (omega arith)

pub look-requires-clause-below : goal.look-requires-clause-below
look-requires-clause-below c =
    let old = c.args.self.now in
    taken_below c.args.rows.now [] old.marks.items old.path.items c.pop.new.self.items old.work.items old.starts.items old.count c.in-Some-pop.number c.requires.inside c.requires.walk c.in-Some-pop.ensures.items
