use Rattle.std.proofs.Common.{rules, ◌≡◌, ◌+◌, ◌≤◌, ℕ, length, take, set, get_or, refl, ap, sym, subst, arith, ◌∙◌, length-set}
use Rattle.subscripts.specs.declared.pairing.Group.{Group}
use Rattle.direction_vectors.proofs.vector_tests.Steps.{member_more, member_still}
use Rattle.direction_vectors.specs.vector_tests.Places.{picked}
use Rattle.direction_vectors.proofs.vector_tests.coupled.group_of.Goals as goal
use Rattle.direction_vectors.proofs.vector_tests.coupled.group_of.Goals.{then-groups-place, else-groups-place}

pub loop-place-preserved : goal.loop-place-preserved
loop-place-preserved c =
    let n7 : length c.args.groups.now.of ≡ 7 = search rules in
    let a7 : length c.loop-place.group.at ≡ 7 = c.loop-place.invariant.room in
    let few = c.requires.count in
    let so_far = c.loop-place.invariant.count in
    elim c.if-groups-place.branch [
      | then-groups-place w ↦ record {
        members = subst (λ (g : Group). take g.count g.at ≡ picked c.args.number c.args.groups.now.of (take (c.loop-place.place + 1) c.args.ps.now)) (sym w.group-is)
            (subst (λ (m : ℕ). take (c.loop-place.group.count + 1) (set c.loop-place.group.at m (get_or c.args.ps.now c.loop-place.place _)) ≡ picked c.args.number c.args.groups.now.of (take (c.loop-place.place + 1) c.args.ps.now))
            (sym w.from.ensures)
            (member_more c.args.number c.args.groups.now.of c.args.ps.now c.loop-place.place c.loop-place.group.count c.loop-place.group.at (get_or c.args.ps.now c.loop-place.place _) _ c.loop-place-test.true (omega arith)
            (omega arith) w.if-groups-place.true refl c.loop-place.invariant.members));
        count = subst (λ (g : Group). g.count ≤ c.loop-place.place + 1) (sym w.group-is) (omega arith);
        room = subst (λ (g : Group). length g.at ≡ 7) (sym w.group-is) (length-set c.loop-place.group.at w.from.result (get_or c.args.ps.now c.loop-place.place _) ∙ a7);
      }
      | else-groups-place w ↦ record {
        members = subst (λ (g : Group). take g.count g.at ≡ picked c.args.number c.args.groups.now.of (take (c.loop-place.place + 1) c.args.ps.now)) (sym w.group-is)
            (member_still c.args.number c.args.groups.now.of c.args.ps.now c.loop-place.place c.loop-place.group.count c.loop-place.group.at c.loop-place-test.true (omega arith) w.if-groups-place.false c.loop-place.invariant.members);
        count = subst (λ (g : Group). g.count ≤ c.loop-place.place + 1) (sym w.group-is) (omega arith);
        room = subst (λ (g : Group). length g.at ≡ 7) (sym w.group-is) a7;
      }
    ]
