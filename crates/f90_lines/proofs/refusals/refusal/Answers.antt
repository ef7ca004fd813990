use Rattle.std.proofs.Common.{◌≡◌, None, Some, sym, subst, ◌∙◌}
use Rattle.std.specs.Str.Lines.{lines}
use Rattle.reading.specs.refusal_order.Answered.{IsAnswered}
use Rattle.f90_grammar.specs.LineCauses.{Between, HasLineCause}
use Rattle.f90_lines.specs.Standings.{first_bad, first_long, behind_lines, initial_of}
use Rattle.f90_lines.proofs.StandingLaws.{none_left, bad_answered, long_answered, unended_answered, none_answered}
use Rattle.f90_lines.proofs.refusals.refusal.Goals as goal

pub returns-in-Some-clause-refused : goal.returns-in-Some-clause-refused
returns-in-Some-clause-refused c =
    let e : first_bad 0 Between (lines c.args.text.now) ≡ Some c.in-Some.line = cc in
    subst (IsAnswered (HasLineCause c.args.text.now)) (sym c.at.ensures.refusal) (bad_answered c.args.text.now c.in-Some.line e)

pub returns-in-Some-first_long_line-clause-refused : goal.returns-in-Some-first_long_line-clause-refused
returns-in-Some-first_long_line-clause-refused c =
    let n : first_bad 0 Between (lines c.args.text.now) ≡ None = sym c.first_bad_byte.ensures ∙ none_left c.first_bad_byte.result c.in_default.not-Some in
    let e : first_long 0 (lines c.args.text.now) ≡ Some c.in-Some-first_long_line.line = cc in
    subst (IsAnswered (HasLineCause c.args.text.now)) (sym c.at-in-Some-first_long_line.ensures.refusal)
    (long_answered c.args.text.now c.in-Some-first_long_line.line n e)

pub returns-in_err-initial-clause-unrefused : goal.returns-in_err-initial-clause-unrefused
returns-in_err-initial-clause-unrefused c =
    let n : first_bad 0 Between (lines c.args.text.now) ≡ None = sym c.first_bad_byte.ensures ∙ none_left c.first_bad_byte.result c.in_default.not-Some in
    let m : first_long 0 (lines c.args.text.now) ≡ None
    = sym c.first_long_line.ensures ∙ none_left c.first_long_line.result c.in_default-first_long_line.not-Some in
    let h : initial_of (behind_lines 0 Between (lines c.args.text.now)) ≡ None = sym c.unended.ensures ∙ c.in_err-initial.was in
    let r : c.from_residual.result ≡ None = c.from_residual.ensures in
    rw r (none_answered c.args.text.now n m h)

pub returns-clause-refused : goal.returns-clause-refused
returns-clause-refused c =
    let n : first_bad 0 Between (lines c.args.text.now) ≡ None = sym c.first_bad_byte.ensures ∙ none_left c.first_bad_byte.result c.in_default.not-Some in
    let m : first_long 0 (lines c.args.text.now) ≡ None
    = sym c.first_long_line.ensures ∙ none_left c.first_long_line.result c.in_default-first_long_line.not-Some in
    let h : initial_of (behind_lines 0 Between (lines c.args.text.now)) ≡ Some c.in_ok-initial.initial = sym c.unended.ensures ∙ c.in_ok-initial.was in
    subst (IsAnswered (HasLineCause c.args.text.now)) (sym c.at-2.ensures.refusal) (unended_answered c.args.text.now c.in_ok-initial.initial n m h)
