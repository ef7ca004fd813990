use Rattle.f77_expressions.specs.Views.{words_of}
use Rattle.f77_words.proofs.lists.ControlLaws.{not_read, residual, something_left, whole_found, whole_only, none_left, some_left}
use Rattle.f77_words.proofs.lists.controls.whole_control.Goals as goal

pub returns-in_err-control-clause-only : goal.returns-in_err-control-clause-only
returns-in_err-control-clause-only c = λ k g e.
    rw (residual c.from_residual.ensures.1)
    (not_read (words_of c.args.tokens.now) c.in_err-control.field-0.0 c.in_err-control.ensures.control k g e)

pub returns-then-not-is_empty-clause-only : goal.returns-then-not-is_empty-clause-only
returns-then-not-is_empty-clause-only c = λ k g e.
    some_left c.in_ok-control.rest.now c.if-not-is_empty.ensures
    (something_left (words_of c.args.tokens.now) (words_of c.in_ok-control.rest.now) c.in_ok-control.control k c.in_ok-control.ensures.control g e)

pub returns-clause-found : goal.returns-clause-found
returns-clause-found c =
    whole_found (words_of c.args.tokens.now) (words_of c.in_ok-control.rest.now) c.in_ok-control.control c.in_ok-control.ensures.control
    (none_left c.in_ok-control.rest.now c.if-not-is_empty.ensures)

pub returns-clause-only : goal.returns-clause-only
returns-clause-only c = λ k g e.
    whole_only (words_of c.args.tokens.now) (words_of c.in_ok-control.rest.now) c.in_ok-control.control k c.in_ok-control.ensures.control
    (none_left c.in_ok-control.rest.now c.if-not-is_empty.ensures) g e
