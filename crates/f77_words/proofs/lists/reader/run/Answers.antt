use Rattle.std.proofs.Common.{subst, Ok}
use Rattle.f77_expressions.specs.Views.{words_of}
use Rattle.f77_words.specs.declared.lists.reader.Turn.{Turn}
use Rattle.f77_words.specs.lists.Reader.{step}
use Rattle.f77_words.specs.lists.Views.{Turns, state_of}
use Rattle.f77_words.proofs.lists.Paths.{started, one_more}
use Rattle.f77_words.proofs.lists.Stacks.{first_stack}
use Rattle.f77_words.proofs.lists.reader.run.Goals as goal

pub reading-init : goal.reading-init
reading-init c = started _ _ _ (first_stack c.push.new.self.items c.new-lists.result.items c.new.result c.in_ok-push.ensures.items c.new-lists.ensures.items c.new.ensures)

pub reading-preserved-in-Due : goal.reading-preserved-in-Due
reading-preserved-in-Due c =
    let at = step c.args.direction (state_of c.reading.is_due c.reading.lists.items (words_of c.reading.rest.now)) in
    one_more _ _ _ _ c.reading.invariant (subst (λ (t : Turn). Turns (Ok t) c.step.new.lists.items at) c.in-Due.is c.in_ok-tail.ensures.step)

pub reading-preserved : goal.reading-preserved
reading-preserved c =
    let at = step c.args.direction (state_of c.reading.is_due c.reading.lists.items (words_of c.reading.rest.now)) in
    one_more _ _ _ _ c.reading.invariant (subst (λ (t : Turn). Turns (Ok t) c.step.new.lists.items at) c.in-Done.is c.in_ok-tail.ensures.step)
