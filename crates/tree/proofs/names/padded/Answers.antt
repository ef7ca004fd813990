use Rattle.std.proofs.Common.{◌∙◌, ap, ℕ, List, ◌++◌, length, drop, replicate}
use Rattle.std.proofs.lemmas.List.{drop-replicate}
use Rattle.tree.proofs.names.padded.Goals as goal

pub returns : goal.returns
returns c =
    let text = c.args.text.now in
    let zeros = drop (length text) (replicate 31 0) in
    ap (λ (front : List ℕ). front ++ zeros) c.copy_from_slice.ensures.after ∙ ap (λ (rest : List ℕ). text ++ rest) (drop-replicate (length text) 31 0)
