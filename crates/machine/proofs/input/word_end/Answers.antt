use Rattle.std.proofs.Common.{◌≤◌, sym, ◌∙◌, arith}
use Rattle.machine.proofs.InputLaws.{no_line_end, word_goes_on, word_grows}
use Rattle.machine.proofs.input.word_end.Goals as goal

pub loop-byte-preserved : goal.loop-byte-preserved
loop-byte-preserved c =
    let gap = sym c.is_gap.ensures ∙ c.if-is_gap.false in
    let plain = c.in-Some.ensures.plain (no_line_end c.in-Some.byte gap) in
    let start : c.args.start ≤ c.loop-byte.at = c.loop-byte.invariant.1 in (
      word_goes_on c.args.input.now c.args.start c.loop-byte.at c.in-Some.next c.in-Some.byte c.in-Some.ensures.byte gap c.if-byte-eq44.false c.loop-byte.invariant.0,
      omega (arith, c.in-Some.ensures.within),
      omega (arith, c.in-Some.ensures.within),
      word_grows c.args.input.now c.args.start c.loop-byte.at c.in-Some.next c.in-Some.byte c.in-Some.ensures.byte gap c.if-byte-eq44.false c.loop-byte.invariant.1 (omega (arith, c.in-Some.ensures.within)) plain.0 plain.1 c.loop-byte.invariant.3,
    )
