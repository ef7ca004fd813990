use Rattle.std.proofs.Common.{◌++◌, ◌+◌, map, sym, ap, ◌∙◌, arith}
use Rattle.f77_grammar.specs.program.Uses as plain
use Rattle.f77_grammar.specs.program.Limits.{has_many_names}
use Rattle.f77_grammar.specs.syntax.Views.{text_of}
use Rattle.f77_grammar.specs.syntax.Walk.{passed}
use Rattle.f77_grammar.proofs.syntax.Walks.{search_goes_on, search_stops_at, search_ends}
use Rattle.f77_names.specs.UsesView.{plain_use}
use Rattle.f77_names.specs.Counted.{counted_in}
use Rattle.f77_names.proofs.FactLaws.{names_known}
use Rattle.f77_names.proofs.CountLaws.{holds_same, counted_behind, many_at}
use Rattle.f77_names.proofs.counts.many_names.Goals as goal

pub returns-then-are_many : goal.returns-then-are_many
returns-then-are_many c =
    search_stops_at (has_many_names (plain.uses_in_text (text_of c.args.text.now))) c.args.text.now c.loop-i.i c.index-text-i.result (omega arith) c.index-text-i.is
    (many_at c.args.text.now c.loop-i.i c.index-text-i.result c.note_all.new.self (omega arith) c.index-text-i.is
    (holds_same c.note_all.new.self
    (counted_in (plain.uses_in_text (text_of c.args.text.now)) (map plain_use c.as_slice.result.now) ++ counted_in (plain.uses_in_text (text_of c.args.text.now)) (plain.uses_in_text (passed (text_of c.args.text.now) c.loop-i.i)))
    (counted_in (plain.uses_in_text (text_of c.args.text.now)) (plain.uses_in_text (passed (text_of c.args.text.now) (c.loop-i.i + 1))))
    (ap (λ vs. counted_in (plain.uses_in_text (text_of c.args.text.now)) vs ++ counted_in (plain.uses_in_text (text_of c.args.text.now)) (plain.uses_in_text (passed (text_of c.args.text.now) c.loop-i.i))) (ap (map plain_use) c.as_slice.ensures ∙ c.in_ok-here.ensures)
    ∙ counted_behind (plain.uses_in_text (text_of c.args.text.now)) c.args.text.now c.loop-i.i c.index-text-i.result (omega arith) c.index-text-i.is)
    (c.in_ok-note_all.ensures (plain.uses_in_text (text_of c.args.text.now)) (counted_in (plain.uses_in_text (text_of c.args.text.now)) (plain.uses_in_text (passed (text_of c.args.text.now) c.loop-i.i))) (names_known c.args.known.now (plain.uses_in_text (text_of c.args.text.now)) c.requires) c.loop-i.invariant.holds))
    ∙ sym c.are_many.ensures ∙ c.if-are_many.true)
    c.loop-i.invariant.searched

pub loop-i-preserved : goal.loop-i-preserved
loop-i-preserved c = record {
  searched =
      search_goes_on (has_many_names (plain.uses_in_text (text_of c.args.text.now))) c.args.text.now c.loop-i.i c.index-text-i.result (omega arith) c.index-text-i.is
      (many_at c.args.text.now c.loop-i.i c.index-text-i.result c.note_all.new.self (omega arith) c.index-text-i.is
      (holds_same c.note_all.new.self
      (counted_in (plain.uses_in_text (text_of c.args.text.now)) (map plain_use c.as_slice.result.now) ++ counted_in (plain.uses_in_text (text_of c.args.text.now)) (plain.uses_in_text (passed (text_of c.args.text.now) c.loop-i.i)))
      (counted_in (plain.uses_in_text (text_of c.args.text.now)) (plain.uses_in_text (passed (text_of c.args.text.now) (c.loop-i.i + 1))))
      (ap (λ vs. counted_in (plain.uses_in_text (text_of c.args.text.now)) vs ++ counted_in (plain.uses_in_text (text_of c.args.text.now)) (plain.uses_in_text (passed (text_of c.args.text.now) c.loop-i.i))) (ap (map plain_use) c.as_slice.ensures ∙ c.in_ok-here.ensures)
      ∙ counted_behind (plain.uses_in_text (text_of c.args.text.now)) c.args.text.now c.loop-i.i c.index-text-i.result (omega arith) c.index-text-i.is)
      (c.in_ok-note_all.ensures (plain.uses_in_text (text_of c.args.text.now)) (counted_in (plain.uses_in_text (text_of c.args.text.now)) (plain.uses_in_text (passed (text_of c.args.text.now) c.loop-i.i))) (names_known c.args.known.now (plain.uses_in_text (text_of c.args.text.now)) c.requires) c.loop-i.invariant.holds))
      ∙ sym c.are_many.ensures ∙ c.if-are_many.false)
      c.loop-i.invariant.searched;
  holds = (holds_same c.note_all.new.self
      (counted_in (plain.uses_in_text (text_of c.args.text.now)) (map plain_use c.as_slice.result.now) ++ counted_in (plain.uses_in_text (text_of c.args.text.now)) (plain.uses_in_text (passed (text_of c.args.text.now) c.loop-i.i)))
      (counted_in (plain.uses_in_text (text_of c.args.text.now)) (plain.uses_in_text (passed (text_of c.args.text.now) (c.loop-i.i + 1))))
      (ap (λ vs. counted_in (plain.uses_in_text (text_of c.args.text.now)) vs ++ counted_in (plain.uses_in_text (text_of c.args.text.now)) (plain.uses_in_text (passed (text_of c.args.text.now) c.loop-i.i))) (ap (map plain_use) c.as_slice.ensures ∙ c.in_ok-here.ensures)
      ∙ counted_behind (plain.uses_in_text (text_of c.args.text.now)) c.args.text.now c.loop-i.i c.index-text-i.result (omega arith) c.index-text-i.is)
      (c.in_ok-note_all.ensures (plain.uses_in_text (text_of c.args.text.now)) (counted_in (plain.uses_in_text (text_of c.args.text.now)) (plain.uses_in_text (passed (text_of c.args.text.now) c.loop-i.i))) (names_known c.args.known.now (plain.uses_in_text (text_of c.args.text.now)) c.requires) c.loop-i.invariant.holds));
}

pub returns : goal.returns
returns c = search_ends (has_many_names (plain.uses_in_text (text_of c.args.text.now))) c.args.text.now c.loop-i.i (omega arith) c.loop-i.invariant.searched
