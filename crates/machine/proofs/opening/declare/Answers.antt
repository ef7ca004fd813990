use Rattle.std.proofs.Common.{◌∙◌}
use Rattle.std.specs.Str.{bytes_eq}
use Rattle.indexmap.proofs.CallerLemmas.{insert_entry-new}
use Rattle.machine.proofs.opening.declare.Goals as goal

pub returns : goal.returns
returns c = c.in_ok-insert.ensures.entries ∙ insert_entry-new bytes_eq c.args.variables.now c.args.decl.name (record { decl = c.args.decl; start = c.args.start }) c.requires
