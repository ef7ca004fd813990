use Rattle.std.proofs.Common.{arith, ◌≡◌, length, ◌∙◌}
use Rattle.std.proofs.lemmas.Bool.Decides.{nat_tests}
use Rattle.f90_expressions.specs.words.Tokens.{words_of}
use Rattle.f90_statement.specs.items.Views.{direction_of}
use Rattle.f90_statement.proofs.items.MadeLaws.{empty_words, marks_fit, marks_left_at, left_open_at}
use Rattle.f90_statement.proofs.items.reader.parts.Goals as goal

pub marks_behind-left-requires : goal.marks_behind-left-requires
marks_behind-left-requires c =
    marks_fit c.as_slice.result.now c.args.tokens.now c.reading.rest.now _ c.reading.nodes.items c.reading.due c.reading.loops
    (c.as_slice.ensures.value ∙ c.reading.invariant.marks_are) c.reading.invariant.reading

pub next_part-requires-clause-marks : goal.next_part-requires-clause-marks
next_part-requires-clause-marks c =
    c.marks_behind-left.ensures
    ∙ marks_left_at c.as_slice.result.now c.args.tokens.now c.reading.rest.now _ c.reading.nodes.items c.reading.due c.reading.loops
    (c.as_slice.ensures.value ∙ c.reading.invariant.marks_are) c.reading.invariant.reading

pub returns-then-loops-gt0 : goal.returns-then-loops-gt0
returns-then-loops-gt0 c ns h =
    let l : length c.reading.rest.now ≡ 0 = first_of (omega arith, grind (arith, nat_tests)) in
    left_open_at (direction_of c.args.direction) (words_of c.args.tokens.now) c.reading.nodes.items c.reading.due c.reading.loops (words_of c.reading.rest.now)
    c.reading.invariant.reading c.if-due.false (empty_words c.reading.rest.now l) c.if-loops-gt0.true ns h
