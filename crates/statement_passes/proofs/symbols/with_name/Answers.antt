use Rattle.std.proofs.Common.{◌≡◌, ◌≤◌, ◌∙◌, List, ℕ, insert, length, ap, subst, arith}
use Rattle.statement_passes.specs.Symbols.{place_among}
use Rattle.statement_passes.proofs.symbols.with_name.Goals as goal

pub insert-requires : goal.insert-requires
insert-requires c =
    let place = subst (λ (xs : List (List ℕ)). c.place_of-place.result ≤ length xs) c.as_slice.ensures c.place_of-place.ensures.within in
    let many = c.in_ok-all.ensures.len in
    let same = ap (λ (xs : List (List ℕ)). length xs) c.as_slice-2.ensures in
    omega (arith, place, many, same)

pub returns : goal.returns
returns c =
    let are = c.in_ok-all.ensures.items ∙ c.as_slice-2.ensures in
    let place = c.place_of-place.ensures.place ∙ ap (λ (xs : List (List ℕ)). place_among xs c.args.name) c.as_slice.ensures in
    c.from_vec.ensures ∙ c.in_ok-insert.ensures.items ∙ (λ i. insert (are i) (place i) c.args.name)
