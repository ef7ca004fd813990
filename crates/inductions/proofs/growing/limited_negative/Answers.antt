use Rattle.std.proofs.Common.{◌∙◌, ap, neg_ℤ, sym}
use Rattle.std.specs.Option.{option_map}
use Rattle.tree.specs.View.{expression_of}
use Rattle.linear_forms.specs.Linear.{constant_of}
use Rattle.inductions.proofs.StepLaws.{negative-limited, negative-step}
use Rattle.inductions.proofs.growing.limited_negative.Goals as goal

pub returns-in-Some : goal.returns-in-Some
returns-in-Some c = negative-step (constant_of (expression_of c.args.expr.now)) c.in-Some.step c.in-Some.ensures.value c.in-Some.ensures.small

pub returns-in-None : goal.returns-in-None
returns-in-None c = ap (option_map neg_ℤ) c.in-None.ensures.value ∙ sym (negative-limited (constant_of (expression_of c.args.expr.now)))
