use Rattle.std.proofs.Common.{◌++◌, ap, sym, ◌∙◌, map, codes}
use Rattle.std.specs.Prelude.{flat_map}
use Rattle.tree.specs.View.{declaration_of, block_of}
use Rattle.f90_grammar.specs.Forms as forms
use Rattle.f90_grammar.specs.PrintedForms.{printed_title_of}
use Rattle.f90_print.specs.Notes.{line_text}
use Rattle.f90_print.specs.Texts.{lines_text, form_lines, declaration_lines, block_text}
use Rattle.f90_print.proofs.ProgramTexts.{program-text, joined}
use Rattle.f90_print.proofs.printer.print90.Goals as goal

pub returns : goal.returns
returns c =
    joined c.new-out.result.items c.print_notes.new.out.items c.print_title.new.out.items c.push.new.text.items c.print_declarations.new.out.items
    c.print_block.new.out.items c.push-2.new.text.items
    (lines_text (map line_text c.args.notes.now)) (form_lines (forms.Program (printed_title_of c.args.p.now.name))) (codes "IMPLICIT NONE\n")
    (flat_map declaration_lines (map declaration_of c.args.p.now.decls)) (block_text (block_of c.args.p.now.body)) (codes "END\n")
    c.new-out.ensures.items
    (c.in_ok-print_notes.ensures ∙ ap (λ ns. c.new-out.result.items ++ lines_text (map line_text ns)) c.as_slice.ensures)
    c.in_ok-print_title.ensures c.in_ok-push.ensures
    (c.in_ok-print_declarations.ensures ∙ ap (λ ds. c.push.new.text.items ++ flat_map declaration_lines (map declaration_of ds)) c.as_slice-2.ensures)
    c.in_ok-print_block.ensures c.in_ok-push-2.ensures
    ∙ sym (program-text c.args.p.now (map line_text c.args.notes.now))
