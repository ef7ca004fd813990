use Rattle.std.proofs.Common.{sym, ◌∙◌}
use Rattle.meaning.proofs.decks.Parts.{rest_is_shorter, line_passed, source_at_data, input_at_data, there_at_data}
use Rattle.meaning.proofs.decks.lines.source_and_input.Goals as goal

pub slice_bounds-result-count : goal.slice_bounds-result-count
slice_bounds-result-count c = rest_is_shorter c.args.data_line c.args.deck.now c.loop-line.rest.now c.loop-line.invariant

pub returns-then-is_data_line-clause-source : goal.returns-then-is_data_line-clause-source
returns-then-is_data_line-clause-source c = source_at_data c.args.data_line c.args.deck.now c.loop-line.rest.now c.in-Some.line.now c.in-Some.after.now c.loop-line.invariant c.in-Some.ensures (sym c.is_data_line.ensures ∙ c.if-is_data_line.true)

pub returns-then-is_data_line-clause-input : goal.returns-then-is_data_line-clause-input
returns-then-is_data_line-clause-input c = input_at_data c.args.data_line c.args.deck.now c.loop-line.rest.now c.in-Some.line.now c.in-Some.after.now c.loop-line.invariant c.in-Some.ensures (sym c.is_data_line.ensures ∙ c.if-is_data_line.true)

pub returns-then-is_data_line-clause-there : goal.returns-then-is_data_line-clause-there
returns-then-is_data_line-clause-there c = there_at_data c.args.data_line c.args.deck.now c.loop-line.rest.now c.in-Some.line.now c.in-Some.after.now c.loop-line.invariant c.in-Some.ensures (sym c.is_data_line.ensures ∙ c.if-is_data_line.true)

pub loop-line-preserved : goal.loop-line-preserved
loop-line-preserved c = line_passed c.args.data_line c.args.deck.now c.loop-line.rest.now c.in-Some.line.now c.in-Some.after.now c.loop-line.invariant c.in-Some.ensures (sym c.is_data_line.ensures ∙ c.if-is_data_line.false)
