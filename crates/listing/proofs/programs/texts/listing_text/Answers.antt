use Rattle.tree.specs.View.{program_of}
use Rattle.listing.proofs.programs.Entries.{text_given}
use Rattle.listing.proofs.programs.texts.listing_text.Goals as goal

pub returns : goal.returns
returns c =
    text_given c.lines_text.result (λ v. v.items) (program_of c.args.program.now) c.in_ok-lines.lines c.as_slice.result.now c.as_slice.ensures c.in_ok-lines.ensures
    c.lines_text.ensures
