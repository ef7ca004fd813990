use Rattle.std.proofs.Common.{arith, ◌≡◌, ◌<◌, ◌≤◌, ◌||◌, length, ap, sym, ◌∙◌, rules}
use Rattle.f90_names.proofs.kinds.OfDeclarations.EntryLaws.{none_more, one_declared, all_declared}
use Rattle.f90_names.proofs.kinds.declarations.names.Names.declare_all.Goals as goal
use Rattle.f90_names.proofs.kinds.declarations.names.Names.declare_all.Goals.{then-branch, else-branch}

pub loop-entity-init : goal.loop-entity-init
loop-entity-init c = record { declares = none_more c.args.self.now }

pub loop-entity-preserved : goal.loop-entity-preserved
loop-entity-preserved c =
    let l : c.loop-entity.entity-index < length c.args.entities.now = first_of (omega arith, search rules) in
    let again : c.if-branch.again ≡ (c.in_ok-again.again || c.loop-entity.again) =
    elim c.if-branch.branch [
      | then-branch w ↦ w.again-is ∙ w.if-branch.true ∙ sym (ap (λ b. b || c.loop-entity.again) w.if-branch.true)
      | else-branch w ↦ w.again-is ∙ sym (ap (λ b. b || c.loop-entity.again) w.if-branch.false)
    ] in
    record {
      declares = rw again (
          one_declared c.args.kind c.args.is_allocatable c.args.entities.now c.loop-entity.entity-index c.args.self.now
          c.loop-entity.self c.declare.new.self c.entity-item.result c.len-rank.result
          c.loop-entity.again c.in_ok-again.again l c.entity-item.is c.len-rank.ensures c.loop-entity.invariant.declares
          c.in_ok-again.ensures);
    }

pub returns : goal.returns
returns c =
    let l : length c.args.entities.now ≤ c.loop-entity.entity-index = first_of (omega arith, search rules) in
    all_declared c.args.kind c.args.is_allocatable c.args.entities.now c.loop-entity.entity-index c.args.self.now
    c.loop-entity.self c.loop-entity.again l
    c.loop-entity.invariant.declares
