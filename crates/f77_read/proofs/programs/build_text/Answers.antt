use Rattle.std.proofs.lemmas.Result.{err_from_is_err_and}
use Rattle.tree.specs.View.{program_of}
use Rattle.meaning.specs.Dialect.{fortran77}
use Rattle.f77_grammar.specs.syntax.Views.{text_of}
use Rattle.f77_laws.proofs.trees.Trees.{tree_is_read}
use Rattle.f77_read.proofs.TextLaws.{check_refused_at, no_bad_constant}
use Rattle.std.proofs.Common.{subst}
use Rattle.tree.specs.declared.width.Width.{Width}
use Rattle.f77_grammar.specs.program.Program77.{ReadsStatements}
use Rattle.f77_read.proofs.programs.build_text.Goals as goal

pub returns-in_err-check-clause-built : goal.returns-in_err-check-clause-built
returns-in_err-check-clause-built c =
    let p = err_from_is_err_and c.from_residual-in_err-check.result c.from_residual-in_err-check.ensures.1 in
    rw (p.1, p.2) (check_refused_at c.args.width c.in_ok-known.known.constants.width (text_of c.args.text.now) _ c.in_ok-known.ensures.width c.in_err-check.ensures.refused)

pub returns-clause-built : goal.returns-clause-built
returns-clause-built c =
    let sound = c.in_ok-check.ensures.ok in
    subst (λ (w : Width). ReadsStatements (fortran77 w) (text_of c.args.text.now) (program_of c.in_ok-tree.field-0)) c.in_ok-known.ensures.width
    (tree_is_read (fortran77 c.in_ok-known.known.constants.width) (text_of c.args.text.now) (program_of c.in_ok-tree.field-0) sound (c.in_ok-tree.ensures.tree (no_bad_constant c.in_ok-known.known.constants.width (text_of c.args.text.now) sound)))
