use Rattle.std.proofs.Common.{ap, sym, ◌∙◌, subst}
use Rattle.f77_grammar.specs.statements.Forms.{Form77, separated77, written_entity77}
use Rattle.f77_expressions.specs.Views.{words_of}
use Rattle.f77_grammar.specs.declared.syntax.statements.Stmt77.TheVariants as stmts
use Rattle.f77_statement.specs.Parts.{IsFormedOf}
use Rattle.f77_statement.proofs.StatementLaws.{declared}
use Rattle.f77_statement.proofs.statements.declaration.Goals as goal

pub returns-clause-only : goal.returns-clause-only
returns-clause-only c f h =
    let w = c.in_ok-tokens.ensures.only (separated77 written_entity77 h.0) h.2 in
    subst (λ (g : Form77). IsFormedOf (record { statement = stmts.Declare c.args.kind c.in_ok-entities.entities; wide = c.has_wide.result; depth = c.in_ok-entities.depth }) g) (sym h.1)
    (declared c.args.kind h.0 _ c.in_ok-entities.entities _ _ (c.in_ok-entities.ensures.only h.0 h.3 (ap words_of c.as_slice.ensures.value ∙ w)) (ap words_of c.as_slice-2.ensures.value ∙ w) c.has_wide.ensures)
