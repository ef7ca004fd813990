use Rattle.std.proofs.Common.{rules}
use Rattle.std.proofs.lemmas.List.Sorted.{answers_always}
use Rattle.f90_names.specs.kinds.declarations.Declarations.{name_in}
use Rattle.f90_names.proofs.kinds.declarations.declaring.sorted.Goals as goal

pub returns-clause-rising : goal.returns-clause-rising
returns-clause-rising c =
    rw c.from_vec.ensures
    (c.sort_unstable_by_key.ensures.sorted name_in (answers_always _ _ _ (λ f a r g h. search rules)))
