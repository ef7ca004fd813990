use Rattle.f77_expressions.specs.Symbols.{symbols_of}
use Rattle.f77_words.proofs.keywords.WordLaws.{inner_shorter, inner_more, no_inner, true_false}
use Rattle.f77_words.proofs.keywords.words_left_out.word_left_out.Goals as goal

pub inner-smaller : goal.inner-smaller
inner-smaller c = inner_shorter c.inner.rest.now c.in-Some.inner.now (symbols_of c.in-Some.field-0-0.now) c.in-Some.ensures.found

pub inner-preserved : goal.inner-preserved
inner-preserved c =
    inner_more (symbols_of c.args.text.now) (symbols_of c.inner.rest.now) (symbols_of c.in-Some.field-0-0.now) (symbols_of c.in-Some.inner.now) c.inner.invariant c.in-Some.ensures.found
    (λ e. true_false c.is_then.result (c.is_then.ensures.1 e) c.if-is_then.false)

pub returns-then-is_then-clause-only : goal.returns-then-is_then-clause-only
returns-then-is_then-clause-only c w h =
    absurd (no_inner (symbols_of c.args.text.now) (symbols_of c.inner.rest.now) (symbols_of c.in-Some.field-0-0.now) (symbols_of c.in-Some.inner.now)
    c.inner.invariant c.in-Some.ensures.found (c.is_then.ensures.0 c.if-is_then.true) w h)
