use Rattle.std.proofs.Common.{sym, ◌∙◌, arith}
use Rattle.f77_grammar.specs.program.Uses as plain
use Rattle.f77_grammar.specs.program.Kinds.{has_unsuited_kind}
use Rattle.f77_names.specs.UsesView.{listed}
use Rattle.f77_grammar.specs.syntax.Views.{text_of}
use Rattle.f77_grammar.proofs.syntax.Walks.{search_goes_on, search_stops_at, search_ends}
use Rattle.f77_checks.proofs.kinds.StatementLaws.{unsuited_at}
use Rattle.f77_checks.proofs.kinds.unsuited.unsuited_kind.Goals as goal

pub returns-then-branch : goal.returns-then-branch
returns-then-branch c =
    search_stops_at (has_unsuited_kind (plain.uses_in_text (text_of c.args.text.now))) c.args.text.now c.loop-i.i c.index-text-i.result (omega arith) c.index-text-i.is
    (unsuited_at c.args.text.now c.loop-i.i c.index-text-i.result (listed c.args.known.now.uses) c.requires ∙ sym c.in_ok-is_unsuited.ensures ∙ c.if-branch.true)
    c.loop-i.invariant

pub loop-i-preserved : goal.loop-i-preserved
loop-i-preserved c =
    search_goes_on (has_unsuited_kind (plain.uses_in_text (text_of c.args.text.now))) c.args.text.now c.loop-i.i c.index-text-i.result (omega arith) c.index-text-i.is
    (unsuited_at c.args.text.now c.loop-i.i c.index-text-i.result (listed c.args.known.now.uses) c.requires ∙ sym c.in_ok-is_unsuited.ensures ∙ c.if-branch.false)
    c.loop-i.invariant

pub returns : goal.returns
returns c = search_ends (has_unsuited_kind (plain.uses_in_text (text_of c.args.text.now))) c.args.text.now c.loop-i.i (omega arith) c.loop-i.invariant
