use Rattle.std.proofs.Common.{sym, ap, ◌∙◌, subst, MatchOption}
use Rattle.std.specs.List.{position}
use Rattle.std.specs.Str.{bytes_eq}
use Rattle.array_values.specs.storage.Slots.{IsMissing, Has}
use Rattle.array_values.specs.storage.Stored.{slots_in}
use Rattle.array_values.proofs.storage.Searches.{searched}
use Rattle.array_values.proofs.storage.storage.Storage.find.Goals as goal

pub returns : goal.returns
returns c =
    let s = c.args.self.now in
    let x = c.args.name in
    subst (λ o. MatchOption o (IsMissing (slots_in s) x) (Has (slots_in s) x)) (sym (c.get_index_of.ensures.index ∙ ap (position (bytes_eq x)) s.named)) (searched x (slots_in s))
