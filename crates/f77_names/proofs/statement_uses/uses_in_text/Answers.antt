use Rattle.std.proofs.Common.{◌++◌, ap, sym, ◌∙◌, arith}
use Rattle.f77_grammar.specs.program.Uses as plain
use Rattle.f77_grammar.specs.syntax.Views.{statement_of}
use Rattle.f77_names.proofs.StatementUseLaws.{text_more}
use Rattle.f77_names.proofs.statement_uses.uses_in_text.Goals as goal

pub loop-statement-preserved : goal.loop-statement-preserved
loop-statement-preserved c =
    c.in_ok-add_statement.ensures ∙ ap (λ us. us ++ plain.uses77_of (statement_of c.statement-item.result.statement)) c.loop-statement.invariant
    ∙ sym (text_more c.args.text.now c.loop-statement.statement-index c.statement-item.result (omega arith) c.statement-item.is)
