use Rattle.std.proofs.Common.{sym, ◌∙◌}
use Rattle.f77_expressions.specs.Symbols.{symbols_of}
use Rattle.f77_words.proofs.keywords.WordLaws.{has_keyword, listed_word_is, listed_word_only, form_words, form_of_keyword, no_equals_sign, implicit_none_refused, no_implicit_begins}
use Rattle.f77_words.proofs.keywords.words_left_out.keyword_left_out.Goals as goal

pub returns-then-of-clause-only : goal.returns-then-of-clause-only
returns-then-of-clause-only c w h = absurd (no_equals_sign (symbols_of c.args.text.now) w c.of.result.equals c.of.ensures.equals c.if-of.true c.requires h)

pub returns-then-begins_with-clause-only : goal.returns-then-begins_with-clause-only
returns-then-begins_with-clause-only c w h = absurd (implicit_none_refused (symbols_of c.args.text.now) w c.begins_with.result c.begins_with.ensures c.if-begins_with.true c.requires h)

pub returns-in-Some-clause-found : goal.returns-in-Some-clause-found
returns-in-Some-clause-found c =
    listed_word_is (symbols_of c.args.text.now) c.in-Some.number (record { unconditional = c.requires; no_equals = sym c.of.ensures.equals ∙ c.if-of.false })
    (no_implicit_begins (symbols_of c.args.text.now) c.begins_with.result c.begins_with.ensures c.if-begins_with.false) c.in-Some.ensures

pub returns-in-Some-clause-only : goal.returns-in-Some-clause-only
returns-in-Some-clause-only c w h = listed_word_only (symbols_of c.args.text.now) c.in-Some.number w c.in-Some.ensures (has_keyword h c.requires)

pub returns-in-None-clause-found : goal.returns-in-None-clause-found
returns-in-None-clause-found c =
    form_words (symbols_of c.args.text.now) c.form_left_out.result (record { unconditional = c.requires; no_equals = sym c.of.ensures.equals ∙ c.if-of.false }) c.form_left_out.ensures.found

pub returns-in-None-clause-only : goal.returns-in-None-clause-only
returns-in-None-clause-only c w h = c.form_left_out.ensures.only w (form_of_keyword (symbols_of c.args.text.now) w c.in-None.ensures (has_keyword h c.requires))
