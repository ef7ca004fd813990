use Rattle.std.proofs.Common.{◌≡◌}
use Rattle.std.specs.Prelude.{◌||◌}
use Rattle.f77_statement.proofs.RecognitionLaws.{or_first, or_second, test_made}
use Rattle.f77_statement.proofs.forms.test.Goals as goal
use Rattle.f77_statement.proofs.forms.test.Goals.{then-wide, else-wide}

pub returns : goal.returns
returns c p f h m =
    let w : c.if-wide.wide ≡ c.args.wide || c.args.inner.wide =
    elim c.if-wide.branch [
      | then-wide w ↦ or_first c.args.wide c.args.inner.wide c.if-wide.wide w.if-wide.true w.wide-is
      | else-wide w ↦ or_second c.args.wide c.args.inner.wide c.if-wide.wide w.if-wide.false w.wide-is
    ] in
    test_made c.args.condition c.args.depth c.args.wide c.args.inner c.in_ok-inner.inner c.if-wide.wide c.max-depth.result p f c.in_ok-inner.ensures.ok w c.max-depth.ensures h m
