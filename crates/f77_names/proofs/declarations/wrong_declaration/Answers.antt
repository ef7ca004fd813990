use Rattle.std.proofs.Common.{◌++◌, ◌+◌, sym, ◌∙◌, refl, arith}
use Rattle.f77_grammar.specs.program.Uses as plain
use Rattle.f77_grammar.specs.program.Declarations.{is_declared_wrongly}
use Rattle.f77_grammar.specs.syntax.Views.{text_of, statement_of}
use Rattle.f77_grammar.specs.syntax.Walk.{passed}
use Rattle.f77_grammar.proofs.syntax.Walks.{search_goes_on, search_stops_at, search_ends}
use Rattle.f77_names.proofs.FactLaws.{names_known}
use Rattle.f77_names.proofs.SeenLaws.{nothing_seen, seen_same}
use Rattle.f77_names.proofs.DeclarationLaws.{text_behind}
use Rattle.f77_names.proofs.declarations.wrong_declaration.Goals as goal

pub loop-i-init : goal.loop-i-init
loop-i-init c = record { searched = refl; seen = nothing_seen c.new-before.result c.new-before.ensures }

pub returns-then-branch : goal.returns-then-branch
returns-then-branch c =
    search_stops_at (is_declared_wrongly (plain.uses_in_text (text_of c.args.text.now))) c.args.text.now c.loop-i.i c.index-text-i.result (omega arith) c.index-text-i.is
    (sym (c.in_ok-is_wrong.ensures (plain.uses_in_text (text_of c.args.text.now)) (plain.uses_in_text (passed (text_of c.args.text.now) c.loop-i.i)) (names_known c.args.known.now (plain.uses_in_text (text_of c.args.text.now)) c.requires) c.loop-i.invariant.seen).0 ∙ c.if-branch.true)
    c.loop-i.invariant.searched

pub loop-i-preserved : goal.loop-i-preserved
loop-i-preserved c = record {
  searched =
      search_goes_on (is_declared_wrongly (plain.uses_in_text (text_of c.args.text.now))) c.args.text.now c.loop-i.i c.index-text-i.result (omega arith) c.index-text-i.is
      (sym (c.in_ok-is_wrong.ensures (plain.uses_in_text (text_of c.args.text.now)) (plain.uses_in_text (passed (text_of c.args.text.now) c.loop-i.i)) (names_known c.args.known.now (plain.uses_in_text (text_of c.args.text.now)) c.requires) c.loop-i.invariant.seen).0 ∙ c.if-branch.false)
      c.loop-i.invariant.searched;
  seen =
      seen_same c.is_wrong.new.self
      (plain.uses77_of (statement_of c.index-text-i.result.statement) ++ plain.uses_in_text (passed (text_of c.args.text.now) c.loop-i.i))
      (plain.uses_in_text (passed (text_of c.args.text.now) (c.loop-i.i + 1)))
      (sym (text_behind c.args.text.now c.loop-i.i c.index-text-i.result (omega arith) c.index-text-i.is))
      ((c.in_ok-is_wrong.ensures (plain.uses_in_text (text_of c.args.text.now)) (plain.uses_in_text (passed (text_of c.args.text.now) c.loop-i.i)) (names_known c.args.known.now (plain.uses_in_text (text_of c.args.text.now)) c.requires) c.loop-i.invariant.seen).1 c.if-branch.false);
}

pub returns : goal.returns
returns c = search_ends (is_declared_wrongly (plain.uses_in_text (text_of c.args.text.now))) c.args.text.now c.loop-i.i (omega arith) c.loop-i.invariant.searched
