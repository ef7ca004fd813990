use Rattle.std.proofs.Common.{rules}
use Rattle.streams.proofs.Chained.{both_none}
use Rattle.streams.proofs.buffered.BufferedSinkSink.send.Goals as goal

pub returns-in_err-empty-clause-untouched : goal.returns-in_err-empty-clause-untouched
returns-in_err-empty-clause-untouched g c = λ none.
    let ok = c.empty.ensures.untouched (both_none _ _ none).1 in
    search rules

pub returns-clause-untouched : goal.returns-clause-untouched
returns-clause-untouched g c = λ none.
    let same = c.empty.ensures.untouched (both_none _ _ none).1 in
    search rules
