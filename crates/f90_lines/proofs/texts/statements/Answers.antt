use Rattle.std.proofs.Common.{sym, subst, ◌∙◌, inl}
use Rattle.std.specs.Str.Lines.{lines}
use Rattle.tree.specs.declared.refusals.Refusal.{Refusal}
use Rattle.f90_grammar.specs.FreeForm.{AreStatements}
use Rattle.f90_grammar.specs.LineCauses.{HasLineCause}
use Rattle.f90_lines.proofs.StandingLaws.{unrefused_by}
use Rattle.f90_lines.proofs.StatementLaws.{are_statements, only_statements}
use Rattle.f90_lines.proofs.texts.statements.Goals as goal

unrefused : (c : goal.In_ok-read_statements) → (r : Refusal) → HasLineCause c.args.text.now r → ⊥
unrefused c = unrefused_by c.args.text.now c.refusal.result c.in_default.not-Some c.refusal.ensures.unrefused

pub returns-clause-ok : goal.returns-clause-ok
returns-clause-ok c =
    subst (AreStatements 1 (lines c.args.text.now)) (sym c.in_ok-read_statements.ensures) (are_statements c.args.text.now (unrefused c))

pub returns-clause-only_read : goal.returns-clause-only_read
returns-clause-only_read c =
    λ ss h k. inl (c.in_ok-read_statements.ensures ∙ only_statements c.args.text.now ss (unrefused c) h)
