use Rattle.std.proofs.Common.{refl, ap, ◌∙◌, reverse}
use Rattle.f77_grammar.specs.syntax.Views.{labelled_of}
use Rattle.f77_structure.proofs.LoopLabelLaws.{none_labelled, one_labelled, all_labelled}
use Rattle.f77_structure.proofs.loop_labels.with_loop_labels.Goals as goal

pub back-init : goal.back-init
back-init c = none_labelled c.args.text c.new-ends.result c.new-done.result c.new-ends.ensures c.new-done.ensures

pub back-preserved : goal.back-preserved
back-preserved c =
    one_labelled c.args.text c.back.left c.pop.new.self c.in-Some.statement c.set_labels.new.statement c.back.ends c.pass.new.self
    c.back.done c.push.new.self c.closer.result c.back.invariant c.in-Some.ensures.last c.in_ok-push.ensures.ok c.set_labels.ensures
    c.closer.ensures (λ xs h. c.in_ok-pass.ensures (labelled_of c.in-Some.statement) xs c.of-form.ensures refl refl h)

pub returns : goal.returns
returns c =
    all_labelled c.args.text c.back.left c.back.ends c.back.done c.from_vec.result c.back.invariant (c.in_default.ensures.empty.0 refl)
    (c.from_vec.ensures ∙ c.reverse.ensures.items ∙ ap reverse c.into_vec-labelled.ensures)
