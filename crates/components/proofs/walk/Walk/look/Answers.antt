use Rattle.std.proofs.Common.{◌≡◌, ◌<◌, ◌∙◌, length, subst, sym}
use Rattle.std.proofs.lemmas.List.{get_or_read}
use Rattle.components.specs.declared.walk.NodeState.TheVariants.{New, At, Done}
use Rattle.components.specs.Walking.{mark}
use Rattle.components.proofs.Parts.{joined, passed}
use Rattle.components.proofs.walk.Walk.look.Goals as goal

pub returns-in-At : goal.returns-in-At
returns-in-At c =
    let old = c.args.self.now in
    let listed : c.args.number < length old.marks.items = subst (λ z. c.args.number < z) (sym c.requires.walk.0.size) c.requires.below in
    let is : mark old.marks.items c.args.number ≡ At c.in-At.place = sym (get_or_read old.marks.items c.args.number c.index.result.now listed c.index.ensures New) ∙ c.in-At.is in
    let p = joined c.args.rows.now c.args.number old.marks.items old.path.items old.work.items old.starts.items old.count c.requires.walk c.in-At.place c.drop_after.new.starts.items is c.drop_after.ensures in
    record { is = p.is; keeps = p.keeps; less = p.less }

pub returns-in-Done : goal.returns-in-Done
returns-in-Done c =
    let old = c.args.self.now in
    let listed : c.args.number < length old.marks.items = subst (λ z. c.args.number < z) (sym c.requires.walk.0.size) c.requires.below in
    let is : mark old.marks.items c.args.number ≡ Done c.in-Done.field-0 = sym (get_or_read old.marks.items c.args.number c.index.result.now listed c.index.ensures New) ∙ c.in-Done.is in
    let p = passed c.args.rows.now c.args.number old.marks.items old.path.items old.work.items old.starts.items old.count c.requires.walk c.in-Done.field-0 is in
    record { is = p.is; keeps = p.keeps; less = p.less }
