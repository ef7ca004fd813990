use Rattle.std.proofs.Common.{◌≡◌, ◌∙◌, ℕ, List, ap, map, true, rules, arith}
use Rattle.tree.specs.View.{block_of, declaration_of, program_of}
use Rattle.translation.specs.declared.made_declarations.names.MadeName.{MadeName}
use Rattle.translation.specs.made_declarations.Declaring.{declaration_by, declaration_of_name, with_declarations}
use Rattle.translation.proofs.Translations.{vectorised}
use Rattle.translation.proofs.translating.translate.Goals as goal

pub returns : goal.returns
returns c =
    let fits : c.is_within_limits.result ≡ true = first_of (cc, search rules, grind arith) in
    vectorised (program_of c.args.program) _ c.in_ok-names.names (block_of c.in_ok-body.body)
    (map declaration_of c.in_ok-decls.decls) (map declaration_of_name c.in_ok-answers.answers.made)
    c.in_ok-answers.answers.blocks c.as_slice.result.now
    c.as_slice-2.result.now c.is_within_limits.result c.in_ok-answers.ensures c.as_slice.ensures c.as_slice-2.ensures
    c.in_ok-names.ensures c.in_ok-body.ensures c.is_within_limits.ensures fits
    (c.in_ok-decls.ensures
    ∙ ap (λ (xs : List (List ℕ)). with_declarations (map declaration_of c.args.program.decls)
    (map (declaration_by (map declaration_of_name c.as_slice-4.result.now)) xs)) c.as_slice-3.ensures
    ∙ ap (λ (ms : List MadeName). with_declarations (map declaration_of c.args.program.decls)
    (map (declaration_by (map declaration_of_name ms)) c.in_ok-names.names)) c.as_slice-4.ensures)
