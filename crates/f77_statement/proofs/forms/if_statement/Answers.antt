use Rattle.f77_expressions.specs.Symbols.{symbols_of}
use Rattle.f77_words.proofs.keywords.WordLaws.{true_false}
use Rattle.f77_statement.proofs.RecognitionLaws.{block_found, block_only, test_found, test_only}
use Rattle.f77_statement.proofs.forms.if_statement.Goals as goal

pub returns-then-is_then-clause-found : goal.returns-then-is_then-clause-found
returns-then-is_then-clause-found c =
    block_found (symbols_of c.args.inside.now) (symbols_of c.args.rest.now) c.in_ok-tree.tree c.in_ok-tree.depth c.in_ok-tree.wide c.in_ok-tree.ensures.found (c.is_then.ensures.0 c.if-is_then.true)

pub returns-then-is_then-clause-only : goal.returns-then-is_then-clause-only
returns-then-is_then-clause-only c f b =
    block_only (symbols_of c.args.inside.now) (symbols_of c.args.rest.now) c.in_ok-tree.tree c.in_ok-tree.depth c.in_ok-tree.wide f c.in_ok-tree.ensures.only (c.is_then.ensures.0 c.if-is_then.true) b

pub returns-clause-found : goal.returns-clause-found
returns-clause-found c =
    test_found (symbols_of c.args.inside.now) (symbols_of c.args.rest.now) c.in_ok-tree.tree c.in_ok-tree.depth c.in_ok-tree.wide c.in_ok-inner.inner c.test.result
    c.in_ok-tree.ensures.found c.in_ok-inner.ensures.found c.test.ensures

pub returns-clause-only : goal.returns-clause-only
returns-clause-only c f b =
    test_only (symbols_of c.args.inside.now) (symbols_of c.args.rest.now) c.in_ok-tree.tree c.in_ok-tree.depth c.in_ok-tree.wide c.in_ok-inner.inner c.test.result f
    (λ e. true_false c.is_then.result (c.is_then.ensures.1 e) c.if-is_then.false) c.in_ok-tree.ensures.only c.in_ok-inner.ensures.only c.test.ensures b
