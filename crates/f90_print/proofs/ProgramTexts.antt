-- The text of a program.
use Rattle.std.proofs.Common.{◌≡◌, ℕ, List, [], ◌∷◌, ◌++◌, map, refl, ap, ◌∙◌, append_assoc, codes}
use Rattle.std.specs.Prelude.{flat_map}
use Rattle.std.proofs.lemmas.Grind.{flat_map-append}
use Rattle.tree.specs.declared.programs.Program90.{Program90}
use Rattle.tree.specs.Plain.{Declaration, Program}
use Rattle.tree.specs.View.{declaration_of, block_of, program_of_90}
use Rattle.f90_grammar.specs.Forms as forms
use Rattle.f90_grammar.specs.PrintedForms.{Printed, unmarked, printed_title_of, printed_declaration, printed_block, printed_program}
use Rattle.f90_grammar.specs.PrintedText.{with_line_feed, printed_lines, printed90}
use Rattle.f90_print.specs.Texts.{lines_text, statement_lines, form_lines, printed_text, declaration_lines, block_text}

printed-each : (ps : List Printed) → lines_text (flat_map printed_lines ps) ≡ flat_map printed_text ps
printed-each [] = refl
printed-each (p ∷ ps) = flat_map-append with_line_feed (printed_lines p) (flat_map printed_lines ps) ∙ ap (λ t. printed_text p ++ t) (printed-each ps)

declarations-each : (ds : List Declaration) → flat_map printed_text (map printed_declaration ds) ≡ flat_map declaration_lines ds
unfolding statement_lines
declarations-each [] = refl
declarations-each (d ∷ ds) = ap (λ t. declaration_lines d ++ t) (declarations-each ds)

body-text : (p : Program)
    → flat_map printed_text (printed_program p)
    ≡ form_lines (forms.Program (printed_title_of p.name)) ++ (codes "IMPLICIT NONE\n" ++ (flat_map declaration_lines p.declarations ++ (block_text p.body ++ codes "END\n")))
unfolding statement_lines
body-text p =
    ap (λ t. form_lines (forms.Program (printed_title_of p.name)) ++ (codes "IMPLICIT NONE\n" ++ t))
    (flat_map-append printed_text (map printed_declaration p.declarations) (printed_block p.body ++ unmarked forms.End ∷ [])
    ∙ (λ i. declarations-each p.declarations i ++ flat_map-append printed_text (printed_block p.body) (unmarked forms.End ∷ []) i))

pub program-text : (p : Program90) (notes : List (List ℕ))
    → printed90 (program_of_90 p) notes
    ≡ lines_text notes ++ (form_lines (forms.Program (printed_title_of p.name)) ++ (codes "IMPLICIT NONE\n"
    ++ (flat_map declaration_lines (map declaration_of p.decls) ++ (block_text (block_of p.body) ++ codes "END\n"))))
program-text p notes =
    flat_map-append with_line_feed notes (flat_map printed_lines (printed_program (program_of_90 p)))
    ∙ ap (λ t. lines_text notes ++ t) (printed-each (printed_program (program_of_90 p)) ∙ body-text (program_of_90 p))

-- texts that are written one after another
pub joined : (m0 m1 m2 m3 m4 m5 m6 a b c d e f : List ℕ) → m0 ≡ [] → m1 ≡ m0 ++ a → m2 ≡ m1 ++ b → m3 ≡ m2 ++ c → m4 ≡ m3 ++ d → m5 ≡ m4 ++ e
    → m6 ≡ m5 ++ f → m6 ≡ a ++ (b ++ (c ++ (d ++ (e ++ f))))
joined m0 m1 m2 m3 m4 m5 m6 a b c d e f e0 e1 e2 e3 e4 e5 e6 = rw (e6, e5, e4, e3, e2, e1, e0) (simp append_assoc)
