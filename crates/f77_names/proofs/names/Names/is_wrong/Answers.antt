use Rattle.std.proofs.Common.{◌++◌, map, sym, ap, ◌∙◌}
use Rattle.std.proofs.lemmas.Bool.{false≢true}
use Rattle.std.proofs.lemmas.Result.{IfOk-weaker}
use Rattle.f77_grammar.specs.program.Uses as plain
use Rattle.f77_grammar.specs.syntax.Views.{statement_of}
use Rattle.f77_names.specs.UsesView.{plain_use}
use Rattle.f77_names.specs.Seen.{declares_again, Declares, Passes}
use Rattle.f77_names.proofs.SeenLaws.{seen_defined, seen_same}
use Rattle.f77_names.proofs.DeclarationLaws.{misused_here, title_here, wrong_misused, wrong_title, wrong_unknown, wrong_again}
use Rattle.f77_names.proofs.names.Names.is_wrong.Goals as goal

pub returns-then-has_misused_name : goal.returns-then-has_misused_name
returns-then-has_misused_name c us seen h k = (
  wrong_misused us seen (statement_of c.args.statement.now)
      (misused_here c.args.names.now us (statement_of c.args.statement.now) c.as_slice-uses.result.now h (ap (map plain_use) c.as_slice-uses.ensures ∙ c.in_ok-here.ensures) ∙ sym c.has_misused_name.ensures ∙ c.if-has_misused_name.true),
  λ e. absurd (false≢true (sym e)),
)

pub returns-then-bear_title : goal.returns-then-bear_title
returns-then-bear_title c us seen h k = (
  wrong_title us seen (statement_of c.args.statement.now)
      (title_here c.args.self.now c.args.names.now us seen (statement_of c.args.statement.now) c.as_slice-uses.result.now k h (ap (map plain_use) c.as_slice-uses.ensures ∙ c.in_ok-here.ensures) ∙ sym c.bear_title.ensures ∙ c.if-bear_title.true),
  λ e. absurd (false≢true (sym e)),
)

pub returns-then-branch : goal.returns-then-branch
returns-then-branch c us seen h k = (
  wrong_unknown us seen (statement_of c.args.statement.now) (sym (c.in_ok-has_unknown_constant.ensures (plain.names_that plain.is_defined seen) (seen_defined c.args.self.now seen k)) ∙ c.if-branch.true),
  λ e. absurd (false≢true (sym e)),
)

pub returns : goal.returns
returns c =
    IfOk-weaker c.declares_again.result (Declares c.args.self.now c.declares_again.new.self (map plain_use c.as_slice-uses.result.now))
    (Passes c.args.names.now c.args.self.now c.declares_again.new.self (statement_of c.args.statement.now))
    (λ again declares us seen h k. (
      (declares seen k).0 ∙ ap (declares_again seen) (ap (map plain_use) c.as_slice-uses.ensures ∙ c.in_ok-here.ensures)
          ∙ wrong_again us seen (statement_of c.args.statement.now)
          (title_here c.args.self.now c.args.names.now us seen (statement_of c.args.statement.now) c.as_slice-uses.result.now k h (ap (map plain_use) c.as_slice-uses.ensures ∙ c.in_ok-here.ensures) ∙ sym c.bear_title.ensures ∙ c.if-bear_title.false)
          (sym (c.in_ok-has_unknown_constant.ensures (plain.names_that plain.is_defined seen) (seen_defined c.args.self.now seen k)) ∙ c.if-branch.false)
          (misused_here c.args.names.now us (statement_of c.args.statement.now) c.as_slice-uses.result.now h (ap (map plain_use) c.as_slice-uses.ensures ∙ c.in_ok-here.ensures) ∙ sym c.has_misused_name.ensures ∙ c.if-has_misused_name.false),
      λ e. seen_same c.declares_again.new.self (map plain_use c.as_slice-uses.result.now ++ seen) (plain.uses77_of (statement_of c.args.statement.now) ++ seen)
          (ap (λ vs. vs ++ seen) (ap (map plain_use) c.as_slice-uses.ensures ∙ c.in_ok-here.ensures)) ((declares seen k).1 e),
    ))
    c.declares_again.ensures
