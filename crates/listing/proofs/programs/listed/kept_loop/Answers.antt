use Rattle.listing.proofs.programs.Entries.{kept_texts}
use Rattle.listing.proofs.programs.listed.kept_loop.Goals as goal

pub returns : goal.returns
returns c =
    kept_texts c.kept_lines.result c.args.line c.args.reason c.reason_word.result.now c.reason_word.ensures
    c.kept_lines.ensures
