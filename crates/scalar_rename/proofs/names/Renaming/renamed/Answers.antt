use Rattle.std.proofs.Common.{◌∙◌, ap}
use Rattle.nest.specs.View.{guarded_of}
use Rattle.statement_passes.specs.Texts.{with_nodes}
use Rattle.scalar_rename.specs.Renamed.{renamed_statement, renaming}
use Rattle.scalar_rename.proofs.NodeLaws.{both_sides}
use Rattle.scalar_rename.proofs.names.Renaming.renamed.Goals as goal

pub returns : goal.returns
returns c =
    c.with_left_name.ensures
    ∙ both_sides c.as_slice-webs.result.now c.args.place (guarded_of c.args.stmt.now) (guarded_of c.in_ok-new.new) c.in_ok-left.left
    (c.in_ok-new.ensures.made ∙ ap (λ ns. with_nodes (renaming ns) (guarded_of c.args.stmt.now)) c.in_ok-names.ensures) c.in_ok-left.ensures
    ∙ ap (λ ws. renamed_statement ws c.args.place (guarded_of c.args.stmt.now)) c.as_slice-webs.ensures
