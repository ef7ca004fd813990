use Rattle.machine.proofs.ItemLaws.{blank_text, blank_one, blank_turns}
use Rattle.array_expressions.proofs.transfers.printing.first_blank.Goals as goal

pub returns-in-Some-Text : goal.returns-in-Some-Text
returns-in-Some-Text c = blank_text c.args.items.now c.as_slice.result.now c.in-Some-Text.field-0.now c.in-Some-Text.field-0-0 c.as_slice.ensures c.in-Some-Text.ensures.value c.in-Some-Text.field-0-is

pub returns-in-Some-One : goal.returns-in-Some-One
returns-in-Some-One c = blank_one c.args.items.now c.as_slice.result.now c.in-Some-One.field-0.now c.in-Some-One.field-0-0 c.as_slice.ensures c.in-Some-One.ensures.value c.in-Some-One.field-0-is

pub returns-in-Some-Turns : goal.returns-in-Some-Turns
returns-in-Some-Turns c = blank_turns c.args.items.now c.as_slice.result.now c.in-Some-Turns.field-0.now c.in-Some-Turns.field-0-0 c.in-Some-Turns.field-0-1 c.in-Some-Turns.field-0-2 c.in-Some-Turns.field-0-3 c.in-Some-Turns.field-0-4
    c.as_slice.ensures c.in-Some-Turns.ensures.value c.in-Some-Turns.field-0-is
