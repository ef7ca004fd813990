use Rattle.std.proofs.Common.{arith, ◌≡◌, ◌<◌, ◌≤◌, IsTrue, length, get_or, sym, ◌∙◌, rules}
use Rattle.f90_grammar.specs.Contents.{has_deep_expression}
use Rattle.f90_blocks.proofs.places.Walks.{passed, met, ended, differ}
use Rattle.f90_blocks.proofs.places.first.first_deep.Goals as goal

pub returns-then-has_deep_expression : goal.returns-then-has_deep_expression
returns-then-has_deep_expression c ps a =
    let l : c.loop-place.place < length c.args.text.now = first_of (omega arith, search rules) in
    let g : get_or c.args.text.now c.loop-place.place c.index-text-place.result ≡ c.index-text-place.result
    = first_of (cc, search rules) in
    met c.args.text.now ps (λ p. IsTrue (has_deep_expression p.here.form)) c.loop-place.place c.index-text-place.result
    a l g
    (λ p s. sym (c.has_deep_expression.ensures p.here.form s.is.is) ∙ c.if-has_deep_expression.true)
    (c.loop-place.invariant ps a)

pub loop-place-preserved : goal.loop-place-preserved
loop-place-preserved c ps a =
    let l : c.loop-place.place < length c.args.text.now = first_of (omega arith, search rules) in
    let g : get_or c.args.text.now c.loop-place.place c.index-text-place.result ≡ c.index-text-place.result
    = first_of (cc, search rules) in
    passed c.args.text.now ps (λ p. IsTrue (has_deep_expression p.here.form)) c.loop-place.place
    c.index-text-place.result a l g
    (λ p s h. differ _ h (sym (c.has_deep_expression.ensures p.here.form s.is.is) ∙ c.if-has_deep_expression.false))
    (c.loop-place.invariant ps a)

pub returns : goal.returns
returns c ps a =
    let l : length c.args.text.now ≤ c.loop-place.place = first_of (omega arith, search rules) in
    ended c.args.text.now ps (λ p. IsTrue (has_deep_expression p.here.form)) c.loop-place.place a l
    (c.loop-place.invariant ps a)
