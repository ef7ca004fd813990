use Rattle.std.proofs.Common.{◌≡◌, ℕ, ℤ, List, sym, subst, Result, Ok, Err, IfOk}
use Rattle.tree.specs.View.{block_of}
use Rattle.tree.specs.declared.stmts.Block.{Block as Tree}
use Rattle.tree.specs.declared.lists.Memory.{Memory}
use Rattle.tree.specs.Plain.{Block}
use Rattle.meaning.specs.Store.{Store}
use Rattle.rewrite.specs.Following.{RunFollows, sequential}
use Rattle.rewrite.specs.Making.{Making}
use Rattle.rewrite.specs.MadeBlocks.{made_block}
use Rattle.rewrite.specs.Suits.{Suiting, SuitsBlock}
use Rattle.rewrite.specs.Rule.{IsRule}
use Rattle.rewrite.specs.Profile.{MakesProfile}
use Rattle.rewrite.proofs.Rewriting.{made_block_follows}
use Rattle.rewrite.proofs.ProfileBlocks.{made_block_makes}
use Rattle.rewrite.proofs.statements.rewrite.Goals as goal

follows : (m : Making) (suits : Suiting) (like : ℕ → List ℤ → Store → Store → Type 0) → ((bits : ℕ) (turns : List ℤ) → IsRule (sequential bits) m suits (like bits turns)) → (b : Block) (r : Result Tree Memory)
    → IfOk r (λ made. block_of made ≡ made_block m b) → IfOk r (λ made. (bits : ℕ) (turns : List ℤ) → SuitsBlock m suits b → RunFollows (sequential bits) (like bits turns) b (block_of made))
follows m suits like keeps b (Ok made) e = λ bits turns h. subst (λ (c : Block). RunFollows (sequential bits) (like bits turns) b c) (sym e) (made_block_follows bits m suits (like bits turns) (keeps bits turns) b h)
follows m suits like keeps b (Err e) h = h

pub returns-clause-follows : goal.returns-clause-follows
returns-clause-follows g c =
    let rule = c.args.rule.now in
    follows (g.R.Rule.making rule) (g.R.Rule.suits rule) (g.R.Rule.like rule) (g.met.R.Rule.keeps rule) (block_of c.args.tree.now) c.rewrite_block.result c.rewrite_block.ensures.made

profile : (m : Making) (b : Block) (r : Result Tree Memory) → IfOk r (λ made. block_of made ≡ made_block m b) → IfOk r (λ made. MakesProfile m b (block_of made))
profile m b (Ok made) e = subst (λ (c : Block). MakesProfile m b c) (sym e) (made_block_makes m b)
profile m b (Err e) h = h

pub returns-clause-profile : goal.returns-clause-profile
returns-clause-profile g c =
    profile (g.R.Rule.making c.args.rule.now) (block_of c.args.tree.now) c.rewrite_block.result c.rewrite_block.ensures.made
