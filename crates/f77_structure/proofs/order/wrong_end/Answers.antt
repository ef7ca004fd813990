use Rattle.std.proofs.Common.{◌≡◌, ℕ, ◌+◌, ◌<◌, ◌==◌, length, List, sym, ap, ◌∙◌, arith}
use Rattle.f77_grammar.specs.program.Order.{is_ended_wrongly}
use Rattle.f77_grammar.specs.declared.syntax.statements.Labelled.{Labelled as Labelled'}
use Rattle.f77_structure.specs.Forms.{form_of, is_wrong_end_form}
use Rattle.f77_grammar.specs.syntax.Views.{text_of, labelled_of, statement_of}
use Rattle.f77_grammar.specs.syntax.Walk.{place_at}
use Rattle.f77_structure.proofs.ByForm.{is_ended_wrongly-form}
use Rattle.f77_grammar.proofs.syntax.Walks.{search_goes_on, search_stops_at, search_ends, last_at}
use Rattle.f77_structure.proofs.order.wrong_end.Goals as goal

-- whether a statement is the last one says of it what its place says
end_at : (xs : List Labelled') (i : ℕ) (x : Labelled') → i < length xs
    → is_wrong_end_form (form_of (statement_of x.statement)) (i + 1 == length xs) ≡ is_ended_wrongly (place_at (text_of xs) i (labelled_of x))
end_at xs i x h =
    ap (is_wrong_end_form (form_of (statement_of x.statement))) (last_at xs i h)
    ∙ sym (is_ended_wrongly-form (place_at (text_of xs) i (labelled_of x)))

pub returns-then-is_wrong_end : goal.returns-then-is_wrong_end
returns-then-is_wrong_end c =
    search_stops_at is_ended_wrongly c.args.text.now c.loop-i.i c.index-text-i.result (omega arith) c.index-text-i.is
    (sym (end_at c.args.text.now c.loop-i.i c.index-text-i.result (omega arith))
    ∙ sym (c.is_wrong_end.ensures ∙ ap (λ f. is_wrong_end_form f (c.loop-i.i + 1 == length c.args.text.now)) c.of.ensures) ∙ c.if-is_wrong_end.true)
    c.loop-i.invariant

pub loop-i-preserved : goal.loop-i-preserved
loop-i-preserved c =
    search_goes_on is_ended_wrongly c.args.text.now c.loop-i.i c.index-text-i.result (omega arith) c.index-text-i.is
    (sym (end_at c.args.text.now c.loop-i.i c.index-text-i.result (omega arith))
    ∙ sym (c.is_wrong_end.ensures ∙ ap (λ f. is_wrong_end_form f (c.loop-i.i + 1 == length c.args.text.now)) c.of.ensures) ∙ c.if-is_wrong_end.false)
    c.loop-i.invariant

pub returns : goal.returns
returns c = search_ends is_ended_wrongly c.args.text.now c.loop-i.i (omega arith) c.loop-i.invariant
