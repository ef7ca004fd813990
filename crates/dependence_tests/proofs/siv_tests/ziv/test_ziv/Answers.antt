use Rattle.std.proofs.Common.{rules, ◌≡◌, ap, sym, ◌∙◌}
use Rattle.std.specs.Prelude.{FitsSigned}
use Rattle.std.proofs.lemmas.Int.{to_z-of_z}
use mir.Syntax.{w64}
use mir.Val.{of_z, to_z}
use Rattle.dependence_tests.specs.loop_lines.OneLoop.{HasSevenLists}
use Rattle.dependence_tests.proofs.siv_tests.Zivs.{equal_constants, ones_least}
use Rattle.dependence_tests.proofs.siv_tests.ziv.test_ziv.Goals as goal

pub returns-then-p-clause-pair : goal.returns-then-p-clause-pair
returns-then-p-clause-pair c =
    let n : HasSevenLists c.args.p.now = record { from_loops = search rules; to_loops = search rules; from_spans = search rules; to_spans = search rules } in
    let ff : FitsSigned w64 c.args.p.now.from.constant = search rules in
    let ft : FitsSigned w64 c.args.p.now.to.constant = search rules in
    let e : c.args.p.now.from.constant ≡ c.args.p.now.to.constant =
    sym (to_z-of_z w64 c.args.p.now.from.constant ff) ∙ ap (to_z w64) c.if-p.true ∙ to_z-of_z w64 c.args.p.now.to.constant ft in
    λ d. ones_least c.args.p.now d c.requires.ziv n e

pub returns-else-p-clause-never : goal.returns-else-p-clause-never
returns-else-p-clause-never c =
    let n : HasSevenLists c.args.p.now = record { from_loops = search rules; to_loops = search rules; from_spans = search rules; to_spans = search rules } in
    λ d x y r. c.if-p.false (ap (of_z w64) (equal_constants c.args.p.now d x y c.requires.ziv n r))
