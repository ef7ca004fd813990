use Rattle.std.proofs.Common.{sym, ◌∙◌, arith}
use Rattle.f77_grammar.specs.program.Labels.{has_wrong_label}
use Rattle.f77_structure.specs.Labels.{has}
use Rattle.f77_grammar.specs.syntax.Views.{text_of}
use Rattle.f77_structure.proofs.LabelLaws.{labels_more, wrong_at}
use Rattle.f77_grammar.proofs.syntax.Walks.{search_goes_on, search_stops_at, search_ends}
use Rattle.f77_structure.proofs.labels_check.wrong_label.Goals as goal

pub loop-i-preserved : goal.loop-i-preserved
loop-i-preserved c = record {
  searched = search_goes_on (has_wrong_label (text_of c.args.text.now)) c.args.text.now c.loop-i.i c.index-text-i.result (omega arith) c.index-text-i.is
      (sym (wrong_at c.in_ok-all.all c.loop-i.earlier c.args.text.now c.loop-i.i c.index-text-i.result c.in_ok-all.ensures c.loop-i.invariant.earlier)
      ∙ sym c.has_wrong_label_among.ensures ∙ c.if-has_wrong_label_among.false)
      c.loop-i.invariant.searched;
  earlier = labels_more (has c.loop-i.earlier) (has c.note.new.self) c.args.text.now c.loop-i.i c.index-text-i.result
      (omega arith) c.index-text-i.is c.loop-i.invariant.earlier c.in_ok-note.ensures.ok;
}

pub returns-then-has_wrong_label_among : goal.returns-then-has_wrong_label_among
returns-then-has_wrong_label_among c =
    search_stops_at (has_wrong_label (text_of c.args.text.now)) c.args.text.now c.loop-i.i c.index-text-i.result (omega arith) c.index-text-i.is
    (sym (wrong_at c.in_ok-all.all c.loop-i.earlier c.args.text.now c.loop-i.i c.index-text-i.result c.in_ok-all.ensures c.loop-i.invariant.earlier)
    ∙ sym c.has_wrong_label_among.ensures ∙ c.if-has_wrong_label_among.true)
    c.loop-i.invariant.searched

pub returns : goal.returns
returns c = search_ends (has_wrong_label (text_of c.args.text.now)) c.args.text.now c.loop-i.i (omega arith) c.loop-i.invariant.searched
