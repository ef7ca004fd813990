use Rattle.std.proofs.Common.{◌≡◌, true, map, ap, sym, ◌∙◌, subst, rules}
use Rattle.std.specs.List.{list_all}
use Rattle.f77_grammar.specs.statements.Forms.{Form77, separated77, written_entity77}
use Rattle.f77_expressions.specs.Views.{words_of}
use Rattle.f77_grammar.specs.syntax.Views.{entity_of}
use Rattle.f77_grammar.specs.declared.syntax.statements.Stmt77.TheVariants as stmts
use Rattle.f77_statement.specs.Formed.{has_bounds}
use Rattle.f77_statement.specs.Parts.{IsFormedOf}
use Rattle.f77_statement.proofs.StatementLaws.{are_entities, have_bounds, dimensioned}
use Rattle.f77_statement.proofs.statements.dimension.Goals as goal

pub returns-then-not-are_bounded-clause-only : goal.returns-then-not-are_bounded-clause-only
returns-then-not-are_bounded-clause-only c f h =
    let w = c.in_ok-tokens.ensures.only (separated77 written_entity77 h.0) h.2 in
    let k = c.in_ok-entities.ensures.only h.0 (are_entities h.0 h.3) (ap words_of c.as_slice.ensures.value ∙ w) in
    let b : list_all has_bounds (map entity_of c.in_ok-entities.entities) ≡ true = ap (list_all has_bounds) k.trees ∙ have_bounds h.0 h.3 in
    search rules

pub returns-clause-only : goal.returns-clause-only
returns-clause-only c f h =
    let w = c.in_ok-tokens.ensures.only (separated77 written_entity77 h.0) h.2 in
    subst (λ (g : Form77). IsFormedOf (record { statement = stmts.Dimension c.in_ok-entities.entities; wide = c.has_wide.result; depth = c.in_ok-entities.depth }) g) (sym h.1)
    (dimensioned h.0 _ c.in_ok-entities.entities _ _ (c.in_ok-entities.ensures.only h.0 (are_entities h.0 h.3) (ap words_of c.as_slice.ensures.value ∙ w)) (ap words_of c.as_slice-3.ensures.value ∙ w) c.has_wide.ensures)
