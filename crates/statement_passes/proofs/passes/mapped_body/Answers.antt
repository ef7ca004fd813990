use Rattle.std.proofs.Common.{◌≡◌, ◌++◌, ◌∷◌, [], List, map, sym, ap, ◌∙◌, subst, rules, arith}
use Rattle.std.proofs.lemmas.Grind.{common_steps}
use Rattle.nest.specs.Plain as plain
use Rattle.nest.specs.View.{loop_of, part_of}
use Rattle.nest.specs.declared.parts.Part.{Part}
use Rattle.nest.specs.declared.parts.Part.TheVariants as variants
use Rattle.nest_steps.specs.Mapped.{mapped_in}
use Rattle.statement_passes.specs.Passes.{mapped_body}
use Rattle.statement_passes.proofs.PassLaws.{body-turns}
use Rattle.statement_passes.proofs.passes.mapped_body.Goals as goal

pub returns-in_ok-copy-in-Turns-clause-made : goal.returns-in_ok-copy-in-Turns-clause-made
returns-in_ok-copy-in-Turns-clause-made g c =
    let e = g.S.StatementPass.each c.args.pass.now in
    let within : map loop_of c.in_ok-loops-in-Turns.loops ≡ loop_of c.in-Turns.turns ∷ [] = first_of (cc, search rules, grind (arith, common_steps)) in
    let are : map part_of c.add_parts.new.made ≡ mapped_in e (map loop_of c.in_ok-loops-in-Turns.loops) 0 (plain.parts (map part_of c.in-Turns.parts))
    = c.in_ok-add_parts-in-Turns.ensures.added ∙ ap (λ (xs : List Part). map part_of xs ++ mapped_in e (map loop_of c.in_ok-loops-in-Turns.loops) 0 (plain.parts (map part_of c.in-Turns.parts))) c.new-made.ensures in
    subst (λ (p : Part). part_of (variants.Turns c.in_ok-copy-in-Turns.field-0 c.add_parts.new.made) ≡ mapped_body e (part_of p)) (sym c.in-Turns.is)
    (body-turns e (map loop_of c.in_ok-loops-in-Turns.loops) c.in-Turns.turns c.in-Turns.parts c.add_parts.new.made within are c.in_ok-copy-in-Turns.field-0 c.in_ok-copy-in-Turns.ensures)
