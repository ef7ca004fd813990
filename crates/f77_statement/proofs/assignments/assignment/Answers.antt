use Rattle.std.proofs.Common.{◌≡◌, ◌∷◌, sym, ◌∙◌}
use Rattle.f77_grammar.specs.expressions.Phrases.{written77}
use Rattle.f77_grammar.specs.expressions.Words as words
use Rattle.f77_grammar.specs.expressions.Words.{Word77}
use Rattle.f77_expressions.specs.Views.{words_of}
use Rattle.f77_statement.proofs.AssignmentLaws.{assignment_found, formed}
use Rattle.f77_statement.proofs.assignments.assignment.Goals as goal

pub returns-clause-found : goal.returns-clause-found
returns-clause-found c =
    assignment_found _ _ _ c.in_ok-left.left c.in_ok-left.depth c.in_ok-right.right c.has_wide.ensures c.max.ensures c.in_ok-left.ensures.found c.in-Some.ensures c.in_ok-right.ensures.found

pub returns-clause-only : goal.returns-clause-only
returns-clause-only c l r bl gl gr e =
    let a = c.in_ok-left.ensures.only l (words.Equals ∷ written77 r) bl gl tt e in
    let k : words.Equals ∷ words_of c.in-Some.rest.now ≡ words.Equals ∷ written77 r = sym c.in-Some.ensures ∙ a.1 in
    let q : words_of c.in-Some.rest.now ≡ written77 r = cc in
    formed l r _ c.in_ok-left.left c.in_ok-left.depth c.in_ok-right.right _ _ e c.has_wide.ensures c.max.ensures a.0 (c.in_ok-right.ensures.only r gr q)
