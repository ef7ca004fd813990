use Rattle.std.proofs.Common.{◌≡◌, ◌+◌, ◌-◌, ◌≤◌, drop, cond, Some, sym, ap, ◌∙◌, arith}
use Rattle.f77_grammar.specs.program.Text.{places_from}
use Rattle.f77_grammar.specs.program.Nesting.{is_left_open}
use Rattle.f77_grammar.specs.declared.syntax.statements.Labelled.{Labelled}
use Rattle.f77_grammar.specs.syntax.First.{index_from}
use Rattle.f77_structure.specs.Forms.{form_of, pending, pending_with, lacks_end_if}
use Rattle.f77_grammar.specs.syntax.Views.{text_of, statement_of}
use Rattle.f77_grammar.specs.syntax.Walk.{passed}
use Rattle.f77_structure.proofs.LeftOpen.{found_back, pending_back, open_back, pending_more}
use Rattle.f77_structure.proofs.nesting.left_open.Goals as goal

pub loop-i-preserved : goal.loop-i-preserved
loop-i-preserved c =
    let back : c.loop-i.i ≡ c.loop-i.i - 1 + 1 = omega arith in
    let before : c.loop-i.pending ≡ pending (drop (c.loop-i.i - 1 + 1) (text_of c.args.text.now)) = c.loop-i.invariant.pending ∙ ap (λ j. pending (drop j (text_of c.args.text.now))) back in
    let later : c.loop-i.found ≡ index_from is_left_open (c.loop-i.i - 1 + 1) (places_from (passed (text_of c.args.text.now) (c.loop-i.i - 1 + 1)) (drop (c.loop-i.i - 1 + 1) (text_of c.args.text.now))) =
    c.loop-i.invariant.found ∙ ap (λ j. index_from is_left_open j (places_from (passed (text_of c.args.text.now) j) (drop j (text_of c.args.text.now)))) back in
    let form : c.of-form.result ≡ form_of (statement_of c.index-text-i.result.statement) =
    c.of-form.ensures ∙ ap (λ (x : Labelled). form_of (statement_of x.statement)) (sym c.index-text-i.is) in
    let more : pending_with c.of-form.result c.loop-i.pending ≤ c.loop-i.pending + 1 = pending_more c.of-form.result c.loop-i.pending in
    record {
      within = omega arith;
      few = omega arith;
      pending = c.pending_with-pending.ensures ∙ ap (λ f. pending_with f c.loop-i.pending) form
          ∙ pending_back c.args.text.now (c.loop-i.i - 1) c.index-text-i.result c.loop-i.pending (omega arith) c.index-text-i.is before;
      found = c.here_if-found.ensures
          ∙ ap (λ b. cond b (Some (c.loop-i.i - 1)) c.loop-i.found) (c.lacks_end_if.ensures ∙ ap (λ f. lacks_end_if f c.loop-i.pending) form ∙ open_back c.args.text.now (c.loop-i.i - 1) c.index-text-i.result c.loop-i.pending before)
          ∙ found_back is_left_open c.args.text.now (c.loop-i.i - 1) c.index-text-i.result c.loop-i.found (omega arith) c.index-text-i.is later;
    }
