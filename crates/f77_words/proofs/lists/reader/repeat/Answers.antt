use Rattle.std.proofs.Common.{◌∙◌, ap}
use Rattle.f77_expressions.specs.Views.{words_of}
use Rattle.f77_expressions.specs.Reader.{deeper}
use Rattle.f77_words.specs.lists.Views.{stack}
use Rattle.f77_words.proofs.lists.ControlLaws.{fails, list_ends, list_goes_on, residual}
use Rattle.f77_words.proofs.lists.reader.repeat.Goals as goal

pub returns-in_default-clause-repeat : goal.returns-in_default-clause-repeat
returns-in_default-clause-repeat c =
    list_goes_on (stack c.args.lists.now.items) (words_of c.args.tokens.now) (words_of c.in_ok-control.rest.now) c.in_ok-control.control
    c.in_ok-control.ensures.control c.in_default.ensures

pub returns-in_err-put-clause-repeat : goal.returns-in_err-put-clause-repeat
returns-in_err-put-clause-repeat c =
    rw (residual c.from_residual-in_err-put.ensures.1)
    (fails c.in_err-put.field-0.0 _ (λ e.
    list_ends c.args.lists.now.items c.pop.new.self.items c.in-Some-pop.list c.in_ok-control.control (words_of c.args.tokens.now)
    (words_of c.in_ok-control.rest.now) (words_of c.in-Some.rest.now) c.deepened-depth.result _
    c.in-Some-pop.ensures.items c.in_ok-control.ensures.control c.in-Some.ensures (c.deepened-depth.ensures ∙ ap deeper c.max.ensures)
    (c.in_err-put.ensures.syntax e (words_of c.in-Some.rest.now))))

pub returns-clause-repeat : goal.returns-clause-repeat
returns-clause-repeat c =
    list_ends c.args.lists.now.items c.pop.new.self.items c.in-Some-pop.list c.in_ok-control.control (words_of c.args.tokens.now)
    (words_of c.in_ok-control.rest.now) (words_of c.in-Some.rest.now) c.deepened-depth.result _
    c.in-Some-pop.ensures.items c.in_ok-control.ensures.control c.in-Some.ensures (c.deepened-depth.ensures ∙ ap deeper c.max.ensures)
    (c.in_ok-put.ensures.ok (words_of c.in-Some.rest.now))
