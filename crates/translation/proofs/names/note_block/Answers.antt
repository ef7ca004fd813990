use Rattle.std.proofs.Common.{◌∙◌, ℕ, Option, List, OnOk, sym, ap, subst}
use Rattle.std.specs.Option.{option_map}
use Rattle.tree.specs.View.{block_of}
use Rattle.tree.specs.declared.stmts.Block.{Block}
use Rattle.translation.specs.Names.{AreWithMade, names_in_option}
use Rattle.translation.proofs.names.note_block.Goals as goal

pub returns : goal.returns
returns c =
    subst (λ (xs : List (List ℕ)). OnOk c.note_all.result
    (AreWithMade c.args.names.now.keys xs c.note_all.new.names.keys))
    (c.as_slice.ensures ∙ c.in_ok-all.ensures
    ∙ sym (ap (λ (o : Option Block). names_in_option (option_map block_of o)) c.in-Some.is))
    c.note_all.ensures
