use Rattle.std.proofs.Common.{◌∙◌, None, Some, ap}
use Rattle.tool.specs.declared.commands.commands.Options.{Options}
use Rattle.tool.specs.commands.Command.{texts, options_of}
use Rattle.tool.proofs.commands.Joined.{joined, joined-none, turn-steps, turn-option}
use Rattle.tool.proofs.commands.words.options.Goals as goal

pub loop-word-init : goal.loop-word-init
loop-word-init c =
    ap (λ (o : Options). joined o (options_of (texts c.args.words.now))) c.none-options.ensures
    ∙ joined-none (options_of (texts c.args.words.now))

pub returns-in_err-options : goal.returns-in_err-options
returns-in_err-options c =
    c.from_residual-in_err-options.ensures
    ∙ turn-steps c.loop-word.options c.loop-word.rest.now c.in-Some.after.now c.in_ok-digits.more.now c.in-Some.word.now c.in_ok-digits.digits.now
    c.as_str.result.now c.as_str-then-eq.result.now c.in_ok-number.field-0 None (options_of (texts c.args.words.now))
    c.in-Some.ensures.cases.0 c.in_ok-digits.ensures.cases.0 c.as_str.ensures.value c.if-eq.ensures c.as_str-then-eq.ensures.value c.in_ok-number.ensures
    c.in_err-options.ensures c.loop-word.invariant

pub loop-word-preserved-then-eq : goal.loop-word-preserved-then-eq
loop-word-preserved-then-eq c =
    turn-steps c.loop-word.options c.loop-word.rest.now c.in-Some.after.now c.in_ok-digits.more.now c.in-Some.word.now c.in_ok-digits.digits.now
    c.as_str.result.now c.as_str-then-eq.result.now c.in_ok-number.field-0 (Some c.in_ok-options.options) (options_of (texts c.args.words.now))
    c.in-Some.ensures.cases.0 c.in_ok-digits.ensures.cases.0 c.as_str.ensures.value c.if-eq.ensures c.as_str-then-eq.ensures.value c.in_ok-number.ensures
    c.in_ok-options.ensures c.loop-word.invariant

pub returns-in_err-options-2 : goal.returns-in_err-options-2
returns-in_err-options-2 c =
    c.from_residual-in_err-options-2.ensures
    ∙ turn-option c.loop-word.options c.loop-word.rest.now c.in-Some.after.now c.in-Some.word.now c.as_str.result.now c.as_str-else-eq.result.now None
    (options_of (texts c.args.words.now)) c.in-Some.ensures.cases.0 c.as_str.ensures.value c.if-eq.ensures c.as_str-else-eq.ensures.value
    c.in_err-options-2.ensures c.loop-word.invariant

pub loop-word-preserved : goal.loop-word-preserved
loop-word-preserved c =
    turn-option c.loop-word.options c.loop-word.rest.now c.in-Some.after.now c.in-Some.word.now c.as_str.result.now c.as_str-else-eq.result.now
    (Some c.in_ok-options-2.options) (options_of (texts c.args.words.now)) c.in-Some.ensures.cases.0 c.as_str.ensures.value c.if-eq.ensures
    c.as_str-else-eq.ensures.value c.in_ok-options-2.ensures c.loop-word.invariant
