use Rattle.std.proofs.Common.{sym, ap, ◌∙◌}
use Rattle.f77_grammar.specs.program.Kinds as kinds
use Rattle.f77_names.specs.UsesView.{plain_use}
use Rattle.f77_checks.specs.kinds.KnownUses.{known_uses}
use Rattle.f77_checks.proofs.kinds.HiddenLaws.{call-is}
use Rattle.f77_checks.proofs.kinds.kind_check.KindCheck.calls_hidden.Goals as goal

pub returns-in-Some : goal.returns-in-Some
returns-in-Some c =
    c.is_hidden.ensures
    ∙ ap (kinds.is_hidden_name (known_uses c.args.self.now) c.args.used.now.name) (sym c.in-Some.is ∙ c.called.ensures)
    ∙ sym (call-is (known_uses c.args.self.now) (plain_use c.args.used.now))

pub returns-in-None : goal.returns-in-None
returns-in-None c =
    ap (kinds.is_hidden_name (known_uses c.args.self.now) c.args.used.now.name) (sym c.in-None.is ∙ c.called.ensures)
    ∙ sym (call-is (known_uses c.args.self.now) (plain_use c.args.used.now))
