use Rattle.std.proofs.Common.{arith, ◌≡◌, ◌∷◌, [], length, ◌∙◌, ◌++◌, refl}
use Rattle.std.proofs.lemmas.Bool.Decides.{nat_tests}
use Rattle.f90_trees.proofs.CalledLaws.{popped, three_parts, spread_other, spread_is}
use Rattle.f90_trees.proofs.building.spread.Goals as goal

pub returns-then-len-ne3 : goal.returns-then-len-ne3
returns-then-len-ne3 c = c.named.ensures ∙ spread_other c.args.name c.args.parts (λ e. first_of (omega arith, grind (arith, nat_tests)))

pub returns : goal.returns
returns c =
    let h : length c.args.parts ≡ 3 = first_of (omega arith, grind (arith, nat_tests)) in
    let p = popped _ _ _ _ _ c.into_vec-parts.ensures c.pop.ensures.items c.unwrap.ensures in
    let q : c.pop.new.self.items ≡ c.pop-2.new.self.items ++ c.unwrap-2.result ∷ [] = popped _ _ _ _ _ refl c.pop-2.ensures.items c.unwrap-2.ensures in
    let r : c.pop-2.new.self.items ≡ c.pop-3.new.self.items ++ c.unwrap-3.result ∷ [] = popped _ _ _ _ _ refl c.pop-3.ensures.items c.unwrap-3.ensures in
    let l : c.args.parts ≡ c.unwrap-3.result ∷ (c.unwrap-2.result ∷ (c.unwrap.result ∷ [])) = three_parts _ _ _ _ _ _ _ p q r h in
    spread_is c.args.name c.args.parts c.unwrap-3.result c.unwrap-2.result c.unwrap.result c.argument-array.result c.argument.result c.argument-extent.result
    c.in_ok-array.array c.in_ok-extent.extent c.dimension-dimension.result l
    c.argument-array.ensures c.in_ok-array.ensures.ok c.argument.ensures c.dimension-dimension.ensures c.argument-extent.ensures c.in_ok-extent.ensures.ok
