use Rattle.std.proofs.Common.{arith, ◌≡◌, ◌∷◌, [], length, ◌∙◌, ◌++◌, refl}
use Rattle.std.proofs.lemmas.Bool.Decides.{nat_tests}
use Rattle.f90_trees.proofs.CalledLaws.{popped, two_parts, reshaped_other, reshaped_is}
use Rattle.f90_trees.proofs.building.reshaped.Goals as goal

pub returns-then-len-ne2 : goal.returns-then-len-ne2
returns-then-len-ne2 c = c.named.ensures ∙ reshaped_other c.args.name c.args.parts (λ e. first_of (omega arith, grind (arith, nat_tests)))

pub returns : goal.returns
returns c =
    let h : length c.args.parts ≡ 2 = first_of (omega arith, grind (arith, nat_tests)) in
    let p = popped _ _ _ _ _ c.into_vec-parts.ensures c.pop.ensures.items c.unwrap.ensures in
    let q : c.pop.new.self.items ≡ c.pop-2.new.self.items ++ c.unwrap-2.result ∷ [] = popped _ _ _ _ _ refl c.pop-2.ensures.items c.unwrap-2.ensures in
    let l : c.args.parts ≡ c.unwrap-2.result ∷ (c.unwrap.result ∷ []) = two_parts _ _ _ _ _ p q h in
    reshaped_is c.args.name c.args.parts c.unwrap-2.result c.unwrap.result c.argument-array.result c.argument.result c.in_ok-new.field-0 c.values-extents.result l
    c.argument-array.ensures c.in_ok-new.ensures.ok c.argument.ensures c.values-extents.ensures
