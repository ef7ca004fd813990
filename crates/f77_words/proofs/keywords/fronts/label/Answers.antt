use Rattle.std.proofs.Common.{ℕ, ◌+◌, ◌*◌, arith, sym, subst, lit≤}
use Rattle.f77_expressions.specs.Symbols.{symbols_of}
use Rattle.f77_words.proofs.keywords.FrontLaws.{IsNumberTo, number_nothing, number_more, many_digits, label_only}
use Rattle.f77_words.proofs.keywords.fronts.label.Goals as goal

pub digits-init : goal.digits-init
digits-init c = (lit≤ tt, number_nothing (symbols_of c.args.text.now))

pub returns-then-digits-eq-LABEL-clause-only : goal.returns-then-digits-eq-LABEL-clause-only
returns-then-digits-eq-LABEL-clause-only c number rest h =
    many_digits (symbols_of c.args.text.now) (symbols_of c.digits.rest.now) (symbols_of c.in-Some.tail.now) rest c.digits.digits c.digits.number number c.in-Some.digit
    c.digits.invariant.1 c.if-digits-eq-LABEL.true c.in-Some.ensures.0 c.in-Some.ensures.1 h

pub digits-preserved : goal.digits-preserved
digits-preserved c =
    let P : ℕ → Type 0 = λ n. IsNumberTo (symbols_of c.args.text.now) (symbols_of c.in-Some.tail.now) (c.digits.digits + 1) (10 * c.digits.number + n) in (
      omega arith,
      subst P (sym c.from.ensures)
          (number_more (symbols_of c.args.text.now) (symbols_of c.digits.rest.now) (symbols_of c.in-Some.tail.now) c.digits.digits c.digits.number c.in-Some.digit
          c.in-Some.ensures.0 c.in-Some.ensures.1 c.digits.invariant.1),
    )

pub returns-clause-only : goal.returns-clause-only
returns-clause-only c number rest h =
    label_only (symbols_of c.args.text.now) (symbols_of c.digits.rest.now) rest c.digits.digits c.digits.number number c.digits.invariant.1 c.in_default.ensures h
