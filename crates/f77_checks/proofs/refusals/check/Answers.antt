use Rattle.f77_grammar.specs.syntax.Views.{text_of}
use Rattle.f77_checks.proofs.Answers.{first_if_refused, only_that_refusal}
use Rattle.f77_checks.proofs.refusals.check.Goals as goal

pub returns-clause-rising : goal.returns-clause-rising
returns-clause-rising c = λ r e rising. first_if_refused c.args.known.now.constants.width (text_of c.args.text.now) c.check_text.result r c.check_text.ensures e rising

pub returns-clause-only_refused : goal.returns-clause-only_refused
returns-clause-only_refused c = λ r f rising. only_that_refusal c.args.known.now.constants.width (text_of c.args.text.now) c.check_text.result c.check_text.ensures r f rising
