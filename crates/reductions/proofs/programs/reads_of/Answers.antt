use Rattle.std.proofs.Common.{◌≡◌, ◌∙◌, ℕ, List, ap}
use Rattle.std.specs.Str.{bytes_eq}
use Rattle.indexmap.specs.IndexSet.{insert_all}
use Rattle.std.proofs.Common.{[]}
use Rattle.tree.specs.View.{block_of}
use Rattle.meaning.specs.Names.{is_among}
use Rattle.reductions.specs.Reading.{read_in_block}
use Rattle.reductions.proofs.NameLaws.{if_ok, set_has}
use Rattle.reductions.proofs.programs.reads_of.Goals as goal

pub returns : goal.returns
returns c =
    if_ok c.set_of.result (λ set. set.keys ≡ insert_all bytes_eq [] c.as_slice.result.now) (λ set. (x : List ℕ) → is_among set.keys x ≡ is_among (read_in_block (block_of c.args.block.now)) x)
    (λ set e x. set_has x set.keys c.as_slice.result.now e ∙ ap (λ ns. is_among ns x) (c.as_slice.ensures ∙ c.in_ok-names.ensures)) c.set_of.ensures
