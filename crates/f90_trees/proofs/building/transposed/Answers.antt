use Rattle.std.proofs.Common.{arith, ◌≡◌, ◌∷◌, [], length, ◌∙◌}
use Rattle.std.proofs.lemmas.Bool.Decides.{nat_tests}
use Rattle.f90_trees.proofs.CalledLaws.{popped, one_part, transposed_other, transposed_is}
use Rattle.f90_trees.proofs.building.transposed.Goals as goal

pub returns-then-len-ne1 : goal.returns-then-len-ne1
returns-then-len-ne1 c = c.named.ensures ∙ transposed_other c.args.name c.args.parts (λ e. first_of (omega arith, grind (arith, nat_tests)))

pub returns : goal.returns
returns c =
    let h : length c.args.parts ≡ 1 = first_of (omega arith, grind (arith, nat_tests)) in
    let l : c.args.parts ≡ c.unwrap.result ∷ [] = one_part _ _ _ (popped _ _ _ _ _ c.into_vec-parts.ensures c.pop.ensures.items c.unwrap.ensures) h in
    transposed_is c.args.name c.args.parts c.unwrap.result c.argument-array.result c.in_ok-new.field-0 l c.argument-array.ensures c.in_ok-new.ensures.ok
