use Rattle.std.proofs.Common.{rules, ◌∙◌, ap, ◌-◌, length, drop, arith, length-drop, length-take}
use Rattle.std.proofs.lemmas.List.{take_rest}
use Rattle.streams.proofs.Chained.{front_more}
use Rattle.streams.proofs.transfer.give_front.Goals as goal

pub loop-given-preserved : goal.loop-given-preserved
loop-given-preserved g c =
    let text = c.args.text.now in
    let given = c.loop-given.given in
    record {
      front = front_more _ _ _ text _ given c.in-Bytes.n c.loop-given.invariant.front c.in-Bytes.ensures.bytes (take_rest text given);
      within = omega (arith, c.in-Bytes.ensures.count, length-take (length text - given) (drop given text), length-drop given text);
      untouched = λ none. absurd (omega (arith, c.in-Bytes.ensures.count, none));
      faultless = c.in-Bytes.ensures.not_failed (search rules) ∙ c.loop-given.invariant.faultless;
    }

pub returns-clause-untouched : goal.returns-clause-untouched
returns-clause-untouched g c =
    λ empty. c.loop-given.invariant.untouched (omega (arith, c.loop-given.invariant.within, ap length empty))

pub returns-clause-no_fault : goal.returns-clause-no_fault
returns-clause-no_fault g c = λ whole. c.loop-given.invariant.faultless
