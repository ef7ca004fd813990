use Rattle.std.proofs.Common.{◌++◌, sym, ◌∙◌}
use Rattle.f77_expressions.specs.Symbols.{symbols_of}
use Rattle.f77_words.specs.keywords.Listed.{declarations, procedures, files_and_loops}
use Rattle.f77_words.proofs.keywords.ListedLaws.{listed_front, listed_back}
use Rattle.f77_words.proofs.keywords.words_left_out.listed_word.Goals as goal

pub returns-in-Some : goal.returns-in-Some
returns-in-Some c = sym (listed_front declarations (procedures ++ files_and_loops) (symbols_of c.args.text.now) c.in-Some.number (sym c.in-Some.ensures))

pub returns-in-Some-procedure : goal.returns-in-Some-procedure
returns-in-Some-procedure c =
    sym (listed_back declarations (procedures ++ files_and_loops) (symbols_of c.args.text.now) (sym c.in-None.ensures)
    ∙ listed_front procedures files_and_loops (symbols_of c.args.text.now) c.in-Some-procedure.number (sym c.in-Some-procedure.ensures))

pub returns-in-None-procedure : goal.returns-in-None-procedure
returns-in-None-procedure c =
    c.file_or_loop.ensures ∙ sym (listed_back declarations (procedures ++ files_and_loops) (symbols_of c.args.text.now) (sym c.in-None.ensures)
    ∙ listed_back procedures files_and_loops (symbols_of c.args.text.now) (sym c.in-None-procedure.ensures))
