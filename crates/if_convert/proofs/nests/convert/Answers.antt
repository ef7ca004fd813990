use Rattle.std.proofs.Common.{◌∙◌, Some, ap, map, subst, sym}
use Rattle.nest.specs.Plain as P
use Rattle.nest.specs.View.{loop_of, nest_of, part_of}
use Rattle.nest.proofs.Equations.{part_of-run, part_of-turns, part_of-choice, part_of-label, part_of-jump}
use Rattle.if_convert.proofs.BodyLaws.{IsNoLoop, none-converted, turns-converted}
use Rattle.if_convert.proofs.Plain.{converted_plain}
use Rattle.if_convert.proofs.nests.convert.Goals as goal

pub returns-in_ok-convert_loop-in-Turns-clause-converted : goal.returns-in_ok-convert_loop-in-Turns-clause-converted
returns-in_ok-convert_loop-in-Turns-clause-converted c =
    ap (λ (n : P.Nest). Some n) c.in_ok-convert_loop-in-Turns.ensures
    ∙ sym (turns-converted c.args.masks (nest_of c.args.nest.now) (loop_of c.in-Turns.turns) (P.parts (map part_of c.in-Turns.body)) (ap part_of c.in-Turns.is ∙ part_of-turns c.in-Turns.turns c.in-Turns.body))

pub returns-in_ok-convert_loop-in-Turns-clause-plain : goal.returns-in_ok-convert_loop-in-Turns-clause-plain
returns-in_ok-convert_loop-in-Turns-clause-plain c = λ normal.
    converted_plain c.args.masks (nest_of c.args.nest.now) (nest_of c.in_ok-convert_loop-in-Turns.field-0)
    (turns-converted c.args.masks (nest_of c.args.nest.now) (loop_of c.in-Turns.turns) (P.parts (map part_of c.in-Turns.body)) (ap part_of c.in-Turns.is ∙ part_of-turns c.in-Turns.turns c.in-Turns.body)
    ∙ sym (ap (λ (n : P.Nest). Some n) c.in_ok-convert_loop-in-Turns.ensures)) normal

pub returns-in-Run-clause-converted : goal.returns-in-Run-clause-converted
returns-in-Run-clause-converted c = sym (none-converted c.args.masks (nest_of c.args.nest.now) (subst IsNoLoop (sym (ap part_of c.in-Run.is ∙ part_of-run _)) tt))

pub returns-in-Choice-clause-converted : goal.returns-in-Choice-clause-converted
returns-in-Choice-clause-converted c = sym (none-converted c.args.masks (nest_of c.args.nest.now) (subst IsNoLoop (sym (ap part_of c.in-Choice.is ∙ part_of-choice _ _)) tt))

pub returns-in-Label-clause-converted : goal.returns-in-Label-clause-converted
returns-in-Label-clause-converted c = sym (none-converted c.args.masks (nest_of c.args.nest.now) (subst IsNoLoop (sym (ap part_of c.in-Label.is ∙ part_of-label _)) tt))

pub returns-in-Jump-clause-converted : goal.returns-in-Jump-clause-converted
returns-in-Jump-clause-converted c = sym (none-converted c.args.masks (nest_of c.args.nest.now) (subst IsNoLoop (sym (ap part_of c.in-Jump.is ∙ part_of-jump _)) tt))
