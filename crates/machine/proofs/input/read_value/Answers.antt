use Rattle.std.proofs.Common.{sym, ◌∙◌, rules}
use Rattle.machine.proofs.Residuals.{settled}
use Rattle.machine.proofs.SpellLaws.{int_spells, truth_spells}
use Rattle.machine.proofs.input.read_value.Goals as goal

pub returns-in_ok-number-in-Int : goal.returns-in_ok-number-in-Int
returns-in_ok-number-in-Int c = rw (settled c.in_ok-number-in-Int.field-0 (search rules)) (int_spells c.args.old c.in-Int.field-0 c.in_ok-number-in-Int.field-0 c.args.word.now c.in-Int.is c.in_ok-number-in-Int.ensures)

pub returns-in_ok-truth-in-Truth : goal.returns-in_ok-truth-in-Truth
returns-in_ok-truth-in-Truth c = truth_spells c.args.old c.in-Truth.field-0 c.in_ok-truth-in-Truth.field-0 c.args.word.now c.in-Truth.is (sym c.in_ok-truth-in-Truth.was ∙ c.truth.ensures)
