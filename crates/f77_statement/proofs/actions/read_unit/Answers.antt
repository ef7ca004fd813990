use Rattle.std.proofs.Common.{sym, subst, inl, inr}
use Rattle.f77_words.proofs.keywords.FormLaws.{empty_is, is_empty}
use Rattle.f77_statement.specs.Parts.{IsFormedOf}
use Rattle.f77_statement.proofs.ActionLaws.{no_list}
use Rattle.f77_statement.proofs.actions.read_unit.Goals as goal

pub returns-then-is_empty-clause-only : goal.returns-then-is_empty-clause-only
returns-then-is_empty-clause-only c f (inl h) = subst (IsFormedOf c.no_inputs.result) (sym h.0) c.no_inputs.ensures
returns-then-is_empty-clause-only c f (inr h) = absurd (no_list _ h.0 (empty_is c.args.text.now c.is_empty.result c.is_empty.ensures c.if-is_empty.true) h.2)

pub returns-clause-only : goal.returns-clause-only
returns-clause-only c f (inl h) =
    let k = is_empty c.args.text.now c.is_empty.result c.is_empty.ensures h.1 in
    let n = c.if-is_empty.false in let z : ⊥ = cc in absurd z
returns-clause-only c f (inr h) = c.inputs.ensures.only f h
