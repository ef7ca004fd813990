use Rattle.std.proofs.Common.{sym, ◌∙◌, arith}
use Rattle.f77_names.proofs.TypingLaws.{none_here, none_more, none_left}
use Rattle.f77_names.proofs.real_names.has_implicit_none.Goals as goal

pub returns-then-is_implicit_none : goal.returns-then-is_implicit_none
returns-then-is_implicit_none c =
    sym (c.loop-statement.invariant
    ∙ none_here c.args.text.now c.loop-statement.statement-index c.statement-item.result (omega arith) c.statement-item.is (sym c.is_implicit_none.ensures ∙ c.if-is_implicit_none.true))

pub loop-statement-preserved : goal.loop-statement-preserved
loop-statement-preserved c =
    c.loop-statement.invariant
    ∙ none_more c.args.text.now c.loop-statement.statement-index c.statement-item.result (omega arith) c.statement-item.is (sym c.is_implicit_none.ensures ∙ c.if-is_implicit_none.false)

pub returns : goal.returns
returns c = sym (c.loop-statement.invariant ∙ none_left c.args.text.now c.loop-statement.statement-index (omega arith))
