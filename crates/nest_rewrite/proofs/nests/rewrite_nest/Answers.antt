use Rattle.std.proofs.Common.{◌≡◌, ℕ, ℤ, List, sym, ap, ◌∙◌, subst, Result, Ok, Err, IfOk}
use Rattle.tree.specs.declared.lists.Memory.{Memory}
use Rattle.tree.specs.Plain.{Block}
use Rattle.meaning.specs.Store.{Store}
use Rattle.rewrite.specs.Following.{RunFollows, sequential}
use Rattle.rewrite.specs.Making.{Making}
use Rattle.rewrite.specs.MadeBlocks.{made_block}
use Rattle.rewrite.specs.Suits.{Suiting, SuitsBlock}
use Rattle.rewrite.specs.Rule.{IsRule}
use Rattle.rewrite.specs.Profile.{MakesProfile}
use Rattle.rewrite.proofs.Rewriting.{made_block_follows}
use Rattle.rewrite.proofs.ProfileBlocks.{made_block_makes}
use Rattle.nest.specs.Blocks.{block_of_nest}
use Rattle.nest.specs.Plain.{Nest}
use Rattle.nest.specs.View.{nest_of}
use Rattle.nest.specs.declared.nests.Nest.{Nest as Tree}
use Rattle.nest_rewrite.specs.Rewritten.{rewritten_nest, KeepsIncrements}
use Rattle.nest_rewrite.proofs.Blocks.{block_of_rewritten}
use Rattle.nest_rewrite.proofs.nests.rewrite_nest.Goals as goal

block_made : (m : Making) (n k : Nest) → k ≡ rewritten_nest m n → KeepsIncrements m n.body → made_block m (block_of_nest n) ≡ block_of_nest k
block_made m n k e h = sym (ap block_of_nest e ∙ block_of_rewritten m n h)

follows : (m : Making) (suits : Suiting) (like : ℕ → List ℤ → Store → Store → Type 0) → ((bits : ℕ) (turns : List ℤ) → IsRule (sequential bits) m suits (like bits turns)) → (n : Nest) (r : Result Tree Memory)
    → IfOk r (λ new. nest_of new ≡ rewritten_nest m n)
    → IfOk r (λ new. (bits : ℕ) (turns : List ℤ) → KeepsIncrements m n.body → SuitsBlock m suits (block_of_nest n) → RunFollows (sequential bits) (like bits turns) (block_of_nest n) (block_of_nest (nest_of new)))
follows m suits like keeps n (Ok new) e = λ bits turns k h. subst (λ (c : Block). RunFollows (sequential bits) (like bits turns) (block_of_nest n) c) (block_made m n (nest_of new) e k) (made_block_follows bits m suits (like bits turns) (keeps bits turns) (block_of_nest n) h)
follows m suits like keeps n (Err e) h = h

pub returns-clause-follows : goal.returns-clause-follows
returns-clause-follows g c =
    let rule = c.args.rule.now in
    follows (g.R.Rule.making rule) (g.R.Rule.suits rule) (g.R.Rule.like rule) (g.met.R.Rule.keeps rule) (nest_of c.args.nest) c.rewrite_parts_of.result c.rewrite_parts_of.ensures.made

profile : (m : Making) (n : Nest) (r : Result Tree Memory) → IfOk r (λ new. nest_of new ≡ rewritten_nest m n)
    → IfOk r (λ new. KeepsIncrements m n.body → MakesProfile m (block_of_nest n) (block_of_nest (nest_of new)))
profile m n (Ok new) e = λ k. subst (λ (c : Block). MakesProfile m (block_of_nest n) c) (block_made m n (nest_of new) e k) (made_block_makes m (block_of_nest n))
profile m n (Err e) h = h

pub returns-clause-profile : goal.returns-clause-profile
returns-clause-profile g c =
    profile (g.R.Rule.making c.args.rule.now) (nest_of c.args.nest) c.rewrite_parts_of.result c.rewrite_parts_of.ensures.made

pub returns-clause-made : goal.returns-clause-made
returns-clause-made g c = c.rewrite_parts_of.ensures.made

pub returns-clause-same : goal.returns-clause-same
returns-clause-same g c = c.rewrite_parts_of.ensures.same
