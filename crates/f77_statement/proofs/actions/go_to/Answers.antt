use Rattle.std.proofs.Common.{◌≡◌, [], sym, subst, true}
use Rattle.f77_grammar.specs.expressions.Spelling.{value}
use Rattle.f77_words.proofs.keywords.FormLaws.{empty_is, is_empty}
use Rattle.f77_statement.specs.Parts.{IsFormedOf}
use Rattle.f77_statement.proofs.ActionLaws.{go_label, go_made, go_found}
use Rattle.f77_statement.proofs.actions.go_to.Goals as goal

pub returns-in_default-clause-only : goal.returns-in_default-clause-only
returns-in_default-clause-only c f h = c.in_default.ensures.only (value h.0) [] (go_label _ h.0 h.2 h.3)

pub returns-then-not-is_empty-clause-only : goal.returns-then-not-is_empty-clause-only
returns-then-not-is_empty-clause-only c f h =
    let g = c.in-Some.ensures.only (value h.0) [] (go_label _ h.0 h.2 h.3) in
    let k = is_empty c.in-Some.rest.now c.is_empty.result c.is_empty.ensures g.1 in
    let n = c.if-not-is_empty.true in let z : ⊥ = cc in z

pub returns-clause-found : goal.returns-clause-found
returns-clause-found c =
    let n = c.if-not-is_empty.false in
    let t : c.is_empty.result ≡ true = cc in
    go_found _ _ c.in-Some.number _ c.in-Some.ensures.found (empty_is c.in-Some.rest.now c.is_empty.result c.is_empty.ensures t) c.bare.ensures

pub returns-clause-only : goal.returns-clause-only
returns-clause-only c f h =
    let g = c.in-Some.ensures.only (value h.0) [] (go_label _ h.0 h.2 h.3) in
    subst (IsFormedOf c.bare.result) (sym h.1) (go_made c.in-Some.number h.0 c.bare.result g.0 c.bare.ensures)
