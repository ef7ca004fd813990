use Rattle.std.proofs.Common.{◌≡◌, sym, subst, true}
use Rattle.std.proofs.lemmas.Result.{err_from_is_err_and}
use Rattle.f77_grammar.specs.expressions.Phrases.{written77}
use Rattle.f77_grammar.specs.expressions.Squeezing.{Symbol77}
use Rattle.f77_grammar.specs.expressions.Spelling.{AreWords77}
use Rattle.std.specs.Prelude.{List}
use Rattle.f77_statement.specs.Parts.{IsFormedOf}
use Rattle.f77_statement.proofs.GivenLaws.{given_err}
use Rattle.f77_statement.proofs.ActionLaws.{no_cut, the_halves, else_if_made, else_if_found}
use Rattle.f77_statement.proofs.actions.else_if.Goals as goal

pub returns-in_default-clause-only : goal.returns-in_default-clause-only
returns-in_default-clause-only c f h = no_cut _ f c.in_default.ensures h

pub returns-then-not-is_then-clause-only : goal.returns-then-not-is_then-clause-only
returns-then-not-is_then-clause-only c f h =
    let k = the_halves _ _ _ f c.in-Some.ensures h in
    let t : c.is_then.result ≡ true = c.is_then.ensures.1 k.behind_is in
    let n = c.if-not-is_then.true in let z : ⊥ = cc in z

pub returns-in_err-tree-clause-only : goal.returns-in_err-tree-clause-only
returns-in_err-tree-clause-only c f h =
    let k = the_halves _ _ _ f c.in-Some.ensures h in
    let w = subst (λ (q : List Symbol77). AreWords77 q (written77 h.0)) (sym k.inside_is) h.4 in
    let p = err_from_is_err_and c.from_residual.result c.from_residual.ensures.1 in
    rw (p.1, p.2) (given_err _ _ _ (c.in_err-tree.ensures.only h.0 h.5 w))

pub returns-clause-found : goal.returns-clause-found
returns-clause-found c =
    let n = c.if-not-is_then.false in
    let t : c.is_then.result ≡ true = cc in
    else_if_found _ _ _ c.in_ok-tree.tree _ _ c.in-Some.ensures (c.is_then.ensures.0 t) c.in_ok-tree.ensures.found

pub returns-clause-only : goal.returns-clause-only
returns-clause-only c f h =
    let k = the_halves _ _ _ f c.in-Some.ensures h in
    let w = subst (λ (q : List Symbol77). AreWords77 q (written77 h.0)) (sym k.inside_is) h.4 in
    subst (IsFormedOf _) (sym h.2) (else_if_made h.0 c.in_ok-tree.tree _ _ (c.in_ok-tree.ensures.only h.0 h.5 w))
