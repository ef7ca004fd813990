-- A nest of rewritten parts is the rewritten nest.
use Rattle.std.proofs.Common.{◌≡◌, refl, ap, ◌∙◌, List, map, Result, Ok, Err, IfOk}
use Rattle.tree.specs.Plain.{Block}
use Rattle.tree.specs.declared.lists.Memory.{Memory}
use Rattle.rewrite.specs.Making.{Making}
use Rattle.rewrite.specs.MadeBlocks.{made_block}
use Rattle.nest.specs.Plain.{Nest, Part, Made}
use Rattle.nest.specs.View.{nest_of}
use Rattle.nest.specs.declared.nests.Nest.{Nest as Tree}
use Rattle.nest_rewrite.specs.Rewritten.{rewritten, rewritten_array, rewritten_nest}
use Rattle.nest_rewrite.specs.Assembled.{with_parts}

assembled : (m : Making) (n : Nest) → with_parts n (rewritten m n.body) (map (rewritten_array m) n.made) (made_block m n.after) ≡ rewritten_nest m n
unfolding with_parts
assembled m n = refl

pub nest_made : (m k l : Making) (n : Nest) (p : Part) (as' : List Made) (b : Block) (r : Result Tree Memory) → k ≡ m → l ≡ m
    → p ≡ rewritten m n.body → as' ≡ map (rewritten_array k) n.made → b ≡ made_block l n.after
    → IfOk r (λ new. nest_of new ≡ with_parts n p as' b) → IfOk r (λ new. nest_of new ≡ rewritten_nest m n)
nest_made m k l n p as' b (Err e) same also f g h j = j
nest_made m k l n p as' b (Ok new) same also f g h j =
    let arrays = g ∙ ap (λ k. map (rewritten_array k) n.made) same in
    let after = h ∙ ap (λ k. made_block k n.after) also in
    j ∙ ((λ i. with_parts n (f i) (arrays i) (after i)) ∙ assembled m n)
