use Rattle.std.proofs.Common.{◌++◌, Some, ap, sym, ◌∙◌, refl, subst, codes}
use Rattle.f77_grammar.specs.expressions.Spelling.{value, chars77}
use Rattle.f77_grammar.specs.statements.Forms.{optional_comma}
use Rattle.f77_grammar.specs.statements.Recognition.{BeginsWithLetter}
use Rattle.f77_expressions.specs.Symbols.{symbols_of}
use Rattle.f77_words.specs.keywords.FormsLeftOut.{without_comma}
use Rattle.f77_words.proofs.keywords.Stripping.{strip_same}
use Rattle.f77_statement.proofs.LoopLaws.{front_found, front_label, comma_gone, plain_stripped, letter_no_label}
use Rattle.f77_statement.proofs.forms.loop_front.Goals as goal

pub returns-in-Some-clause-found : goal.returns-in-Some-clause-found
returns-in-Some-clause-found c =
    rw c.behind_comma.ensures (front_found (symbols_of c.args.text.now) _ _ c.in-Some.number c.in_ok-rest.ensures c.in-Some.ensures.found)

pub returns-in-Some-clause-only : goal.returns-in-Some-clause-only
returns-in-Some-clause-only c digits comma rest l b e =
    let k = c.in-Some.ensures.only (value digits) (chars77 (optional_comma comma) ++ rest) (front_label (symbols_of c.args.text.now) _ rest digits comma c.in_ok-rest.ensures l b e) in
    (ap Some k.0, c.behind_comma.ensures ∙ (ap without_comma k.1 ∙ comma_gone comma rest b))

pub returns-in-Some-clause-only_plain : goal.returns-in-Some-clause-only_plain
returns-in-Some-clause-only_plain c rest b e =
    absurd (letter_no_label (symbols_of c.in_ok-rest.rest.now) _ c.in-Some.number
    (subst BeginsWithLetter (sym (plain_stripped (symbols_of c.args.text.now) _ rest c.in_ok-rest.ensures e)) b) c.in-Some.ensures.found)

pub returns-in-None-clause-found : goal.returns-in-None-clause-found
returns-in-None-clause-found c = strip_same (codes "DO") (symbols_of c.args.text.now) (symbols_of c.in_ok-rest.rest.now) c.in_ok-rest.ensures

pub returns-in-None-clause-only : goal.returns-in-None-clause-only
returns-in-None-clause-only c digits comma rest l b e =
    absurd (c.in-None.ensures.only (value digits) (chars77 (optional_comma comma) ++ rest) (front_label (symbols_of c.args.text.now) _ rest digits comma c.in_ok-rest.ensures l b e))

pub returns-in-None-clause-only_plain : goal.returns-in-None-clause-only_plain
returns-in-None-clause-only_plain c rest b e = (refl, plain_stripped (symbols_of c.args.text.now) _ rest c.in_ok-rest.ensures e)
