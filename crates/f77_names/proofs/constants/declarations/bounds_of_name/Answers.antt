use Rattle.std.proofs.Common.{◌+◌, drop, map, not, cond, sym, ap, ◌∙◌, arith}
use Rattle.f77_grammar.specs.program.Limits.{bounds_of_name, bounds_among}
use Rattle.f77_grammar.specs.syntax.Views.{text_of, bounds_of}
use Rattle.f77_names.proofs.constants.DeclarationLaws.{bounds_at}
use Rattle.f77_names.proofs.constants.declarations.bounds_of_name.Goals as goal

pub returns-then-not-is_empty : goal.returns-then-not-is_empty
returns-then-not-is_empty c =
    sym (c.loop-statement.invariant
    ∙ bounds_at c.args.text.now c.loop-statement.statement-index c.statement-item.result c.args.name c.bounds_among-bounds.result.now c.is_empty.result (omega arith) c.statement-item.is
    (c.bounds_among-bounds.ensures ∙ ap (λ es. bounds_among es c.args.name) c.entities.ensures) c.is_empty.ensures
    ∙ ap (λ b. cond (not b) (map bounds_of c.bounds_among-bounds.result.now) (bounds_of_name (drop (c.loop-statement.statement-index + 1) (text_of c.args.text.now)) c.args.name)) c.if-not-is_empty.true)

pub loop-statement-preserved : goal.loop-statement-preserved
loop-statement-preserved c =
    c.loop-statement.invariant
    ∙ bounds_at c.args.text.now c.loop-statement.statement-index c.statement-item.result c.args.name c.bounds_among-bounds.result.now c.is_empty.result (omega arith) c.statement-item.is
    (c.bounds_among-bounds.ensures ∙ ap (λ es. bounds_among es c.args.name) c.entities.ensures) c.is_empty.ensures
    ∙ ap (λ b. cond (not b) (map bounds_of c.bounds_among-bounds.result.now) (bounds_of_name (drop (c.loop-statement.statement-index + 1) (text_of c.args.text.now)) c.args.name)) c.if-not-is_empty.false
