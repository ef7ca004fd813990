use Rattle.std.proofs.Common.{refl, subst}
use Rattle.f77_grammar.specs.statements.Forms as forms
use Rattle.f77_expressions.specs.Symbols.{symbols_of}
use Rattle.f77_grammar.proofs.syntax.Equations.{statement_of-implicit_none, statement_of-else, statement_of-end_if, statement_of-end_do, statement_of-continue, statement_of-stop, statement_of-end}
use Rattle.f77_statement.specs.declared.keywords.Keyword.{Keyword}
use Rattle.f77_statement.specs.Keywords.{IsAfter}
use Rattle.f77_statement.proofs.forms.behind_keyword.Goals as goal

pub returns-in-ImplicitNone-clause-found : goal.returns-in-ImplicitNone-clause-found
returns-in-ImplicitNone-clause-found c = rw c.in-ImplicitNone.is (c.nothing.ensures.found forms.ImplicitNone statement_of-implicit_none refl refl)

pub returns-in-ImplicitNone-clause-only : goal.returns-in-ImplicitNone-clause-only
returns-in-ImplicitNone-clause-only c f h =
    c.nothing.ensures.only forms.ImplicitNone f statement_of-implicit_none refl refl (subst (λ (q : Keyword). IsAfter q (symbols_of c.args.rest.now) f) c.in-ImplicitNone.is h)

pub returns-in-Else-clause-found : goal.returns-in-Else-clause-found
returns-in-Else-clause-found c = rw c.in-Else.is (c.nothing-in-Else.ensures.found forms.Else statement_of-else refl refl)

pub returns-in-Else-clause-only : goal.returns-in-Else-clause-only
returns-in-Else-clause-only c f h =
    c.nothing-in-Else.ensures.only forms.Else f statement_of-else refl refl (subst (λ (q : Keyword). IsAfter q (symbols_of c.args.rest.now) f) c.in-Else.is h)

pub returns-in-EndIf-clause-found : goal.returns-in-EndIf-clause-found
returns-in-EndIf-clause-found c = rw c.in-EndIf.is (c.nothing-in-EndIf.ensures.found forms.EndIf statement_of-end_if refl refl)

pub returns-in-EndIf-clause-only : goal.returns-in-EndIf-clause-only
returns-in-EndIf-clause-only c f h =
    c.nothing-in-EndIf.ensures.only forms.EndIf f statement_of-end_if refl refl (subst (λ (q : Keyword). IsAfter q (symbols_of c.args.rest.now) f) c.in-EndIf.is h)

pub returns-in-EndDo-clause-found : goal.returns-in-EndDo-clause-found
returns-in-EndDo-clause-found c = rw c.in-EndDo.is (c.nothing-in-EndDo.ensures.found forms.EndDo statement_of-end_do refl refl)

pub returns-in-EndDo-clause-only : goal.returns-in-EndDo-clause-only
returns-in-EndDo-clause-only c f h =
    c.nothing-in-EndDo.ensures.only forms.EndDo f statement_of-end_do refl refl (subst (λ (q : Keyword). IsAfter q (symbols_of c.args.rest.now) f) c.in-EndDo.is h)

pub returns-in-Continue-clause-found : goal.returns-in-Continue-clause-found
returns-in-Continue-clause-found c = rw c.in-Continue.is (c.nothing-in-Continue.ensures.found forms.Continue statement_of-continue refl refl)

pub returns-in-Continue-clause-only : goal.returns-in-Continue-clause-only
returns-in-Continue-clause-only c f h =
    c.nothing-in-Continue.ensures.only forms.Continue f statement_of-continue refl refl (subst (λ (q : Keyword). IsAfter q (symbols_of c.args.rest.now) f) c.in-Continue.is h)

pub returns-in-Stop-clause-found : goal.returns-in-Stop-clause-found
returns-in-Stop-clause-found c = rw c.in-Stop.is (c.nothing-in-Stop.ensures.found forms.Stop statement_of-stop refl refl)

pub returns-in-Stop-clause-only : goal.returns-in-Stop-clause-only
returns-in-Stop-clause-only c f h =
    c.nothing-in-Stop.ensures.only forms.Stop f statement_of-stop refl refl (subst (λ (q : Keyword). IsAfter q (symbols_of c.args.rest.now) f) c.in-Stop.is h)

pub returns-in-End-clause-found : goal.returns-in-End-clause-found
returns-in-End-clause-found c = rw c.in-End.is (c.nothing-in-End.ensures.found forms.End statement_of-end refl refl)

pub returns-in-End-clause-only : goal.returns-in-End-clause-only
returns-in-End-clause-only c f h =
    c.nothing-in-End.ensures.only forms.End f statement_of-end refl refl (subst (λ (q : Keyword). IsAfter q (symbols_of c.args.rest.now) f) c.in-End.is h)
