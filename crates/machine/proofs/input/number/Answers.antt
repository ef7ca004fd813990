use Rattle.std.proofs.Common.{ap, ◌∙◌, ◌∷◌, arith}
use Rattle.std.proofs.lemmas.Int.{ints, to_z-of_z}
use Rattle.std.proofs.lemmas.Grind.{common_steps}
use Rattle.machine.proofs.SpellLaws.{plus_spells, minus_spells, digits_spell}
use Rattle.machine.proofs.input.number.Goals as goal

pub returns-then-first-eq43 : goal.returns-then-first-eq43
returns-then-first-eq43 c =
    let h = c.in_ok-digits.ensures in
    plus_spells c.args.word.now c.in-Some.more.now h.0 c.in_ok-digits.field-0 _ (c.in-Some.ensures.cases.0 ∙ ap (λ b. b ∷ c.in-Some.more.now) c.if-first-eq43.true) h.1 h.2
    (grind (arith, ints, to_z-of_z, common_steps, c.from.ensures))

pub returns-then-first-eq45 : goal.returns-then-first-eq45
returns-then-first-eq45 c =
    let h = c.in_ok-digits-2.ensures in
    minus_spells c.args.word.now c.in-Some.more.now h.0 c.in_ok-digits-2.field-0 _ (c.in-Some.ensures.cases.0 ∙ ap (λ b. b ∷ c.in-Some.more.now) c.if-first-eq45.true) h.1 h.2
    (grind (arith, ints, to_z-of_z, common_steps, c.from-then-first-eq45.ensures))

pub returns : goal.returns
returns c =
    let h = c.in_ok-digits-3.ensures in
    digits_spell c.args.word.now c.in-Some.more.now c.in-Some.first.now h.0 c.in_ok-digits-3.field-0 _ c.in-Some.ensures.cases.0 c.if-first-eq43.false c.if-first-eq45.false h.1 h.2
    (grind (arith, ints, to_z-of_z, common_steps, c.from-2.ensures))
