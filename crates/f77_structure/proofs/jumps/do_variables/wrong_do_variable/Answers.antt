use Rattle.std.proofs.Common.{refl, sym, ap, ◌∙◌, arith}
use Rattle.f77_grammar.specs.program.Uses as plain
use Rattle.f77_grammar.specs.program.DoVariables.{has_wrong_do_variable}
use Rattle.f77_grammar.specs.syntax.Views.{text_of, statement_of}
use Rattle.f77_grammar.proofs.syntax.Walks.{search_goes_on, search_stops_at, search_ends}
use Rattle.f77_structure.specs.LabelPlaces.{place_of}
use Rattle.f77_names.specs.declared.names.Names.{Names}
use Rattle.f77_names.specs.NameFacts.{facts_in}
use Rattle.f77_structure.specs.jumps.LoopVariables.{last_in}
use Rattle.f77_names.proofs.FactLaws.{names_known}
use Rattle.f77_structure.proofs.jumps.Rounds.{misused_at, lasts_more}
use Rattle.f77_structure.proofs.jumps.do_variables.wrong_do_variable.Goals as goal

pub loop-i-init : goal.loop-i-init
loop-i-init c = record {
  searched = refl;
  known = λ y. ap (λ (names : Names). facts_in names y) c.new-variables.ensures.names ∙ names_known c.args.known.now (plain.uses_in_text (text_of c.args.text.now)) c.requires.names y;
  lasts = c.new-variables.ensures.lasts;
}

pub returns-then-wrong : goal.returns-then-wrong
returns-then-wrong c =
    search_stops_at (has_wrong_do_variable (plain.uses_in_text (text_of c.args.text.now))) c.args.text.now c.loop-i.i c.index-text-i.result (omega arith) c.index-text-i.is
    (misused_at c.args.text.now c.loop-i.i c.index-text-i.result (place_of c.args.ends.now) c.loop-i.variables (statement_of c.action.result.now) (omega arith) c.index-text-i.is
    c.requires.ends c.loop-i.invariant.known c.loop-i.invariant.lasts c.action.ensures
    ∙ sym c.in_ok-wrong.ensures ∙ c.if-wrong.true)
    c.loop-i.invariant.searched

pub loop-i-preserved : goal.loop-i-preserved
loop-i-preserved c = record {
  searched = search_goes_on (has_wrong_do_variable (plain.uses_in_text (text_of c.args.text.now))) c.args.text.now c.loop-i.i c.index-text-i.result (omega arith) c.index-text-i.is
      (misused_at c.args.text.now c.loop-i.i c.index-text-i.result (place_of c.args.ends.now) c.loop-i.variables (statement_of c.action.result.now) (omega arith) c.index-text-i.is
      c.requires.ends c.loop-i.invariant.known c.loop-i.invariant.lasts c.action.ensures
      ∙ sym c.in_ok-wrong.ensures ∙ c.if-wrong.false)
      c.loop-i.invariant.searched;
  known = λ y. ap (λ (names : Names). facts_in names y) c.in_ok-pass.ensures.names ∙ c.loop-i.invariant.known y;
  lasts = lasts_more c.args.text.now c.loop-i.i c.index-text-i.result (place_of c.args.ends.now) (last_in c.loop-i.variables) (last_in c.pass.new.self) (omega arith) c.index-text-i.is
      c.loop-i.invariant.lasts c.in_ok-pass.ensures.lasts;
}

pub returns : goal.returns
returns c = search_ends (has_wrong_do_variable (plain.uses_in_text (text_of c.args.text.now))) c.args.text.now c.loop-i.i (omega arith) c.loop-i.invariant.searched
