use Rattle.std.proofs.Common.{◌≡◌, [], ◌∷◌, codes, rules}
use Rattle.f90_grammar.specs.Words as words
use Rattle.f90_expressions.specs.words.Tokens.{words_of}
use Rattle.f90_statement.proofs.LabelLaws.{labelled_is}
use Rattle.f90_statement.proofs.TokenLaws.{some_in}
use Rattle.f90_statement.proofs.fronts.continue_label.Goals as goal

pub returns : goal.returns
returns c =
    let l = some_in c.in-Some.digits.now c.is_empty.result c.is_empty.ensures c.if-is_empty.false in
    let k : words_of c.in-Some.rest.now ≡ words.Name (codes "CONTINUE") ∷ [] = search rules in
    labelled_is c.label_value.result (words_of c.args.tokens.now) (words_of c.in-Some.rest.now) c.in-Some.digits.now c.in-Some.ensures l k c.label_value.ensures
