use Rattle.std.proofs.Common.{map, sym, ap, ◌∙◌, arith}
use Rattle.f77_grammar.specs.program.Uses as plain
use Rattle.f77_grammar.specs.program.Declarations.{has_name, is_real}
use Rattle.f77_names.specs.UsesView.{plain_use}
use Rattle.f77_grammar.specs.syntax.Views.{text_of}
use Rattle.f77_names.proofs.FactLaws.{real_at, names_known}
use Rattle.f77_grammar.proofs.syntax.Walks.{search_goes_on, search_stops_at, search_ends}
use Rattle.f77_names.proofs.real_names.real_use.Goals as goal

pub returns-then-has_real : goal.returns-then-has_real
returns-then-has_real c =
    search_stops_at (has_name (is_real (plain.uses_in_text (text_of c.args.text.now)))) c.args.text.now c.loop-i.i c.index-text-i.result (omega arith) c.index-text-i.is
    (sym (real_at c.args.text.now c.loop-i.i c.index-text-i.result c.args.known.now.names c.as_slice.result.now
    (names_known c.args.known.now (plain.uses_in_text (text_of c.args.text.now)) c.requires) (ap (map plain_use) c.as_slice.ensures ∙ c.in_ok-here.ensures))
    ∙ sym c.has_real.ensures ∙ c.if-has_real.true)
    c.loop-i.invariant

pub loop-i-preserved : goal.loop-i-preserved
loop-i-preserved c =
    search_goes_on (has_name (is_real (plain.uses_in_text (text_of c.args.text.now)))) c.args.text.now c.loop-i.i c.index-text-i.result (omega arith) c.index-text-i.is
    (sym (real_at c.args.text.now c.loop-i.i c.index-text-i.result c.args.known.now.names c.as_slice.result.now
    (names_known c.args.known.now (plain.uses_in_text (text_of c.args.text.now)) c.requires) (ap (map plain_use) c.as_slice.ensures ∙ c.in_ok-here.ensures))
    ∙ sym c.has_real.ensures ∙ c.if-has_real.false)
    c.loop-i.invariant

pub returns : goal.returns
returns c = search_ends (has_name (is_real (plain.uses_in_text (text_of c.args.text.now)))) c.args.text.now c.loop-i.i (omega arith) c.loop-i.invariant
