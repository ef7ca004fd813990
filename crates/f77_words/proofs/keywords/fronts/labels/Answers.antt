use Rattle.std.proofs.Common.{◌+◌, ◌<◌, ◌≤◌, ◌≡◌, length, arith}
use Rattle.f77_expressions.specs.Symbols.{symbols_of}
use Rattle.f77_words.proofs.keywords.LabelLists.{has_first, no_first, has_next, no_next, labels_found, labels_only, label_shorter, comma_shorter}
use Rattle.f77_words.proofs.keywords.fronts.labels.Goals as goal

pub returns-in_err-rest-clause-only : goal.returns-in_err-rest-clause-only
returns-in_err-rest-clause-only c others rest h = absurd (no_first (symbols_of c.args.text.now) c.in_err-rest.ensures.only others rest h)

pub labels-init : goal.labels-init
labels-init c =
    let l : length c.in_ok-rest.rest.now < length c.args.text.now = label_shorter c.args.text.now c.in_ok-rest.rest.now c.in_ok-rest.field-0-0 c.in_ok-rest.ensures.found in
    (omega arith, has_first (symbols_of c.args.text.now) (symbols_of c.in_ok-rest.rest.now) c.in_ok-rest.field-0-0 c.in_ok-rest.ensures.found)

pub returns-in_err-behind-clause-only : goal.returns-in_err-behind-clause-only
returns-in_err-behind-clause-only c others rest h =
    absurd (no_next (symbols_of c.args.text.now) (symbols_of c.labels.rest.now) (symbols_of c.in-Some.tail.now) c.labels.others c.labels.invariant.1 c.in-Some.ensures c.in_err-behind.ensures.only others rest h)

pub labels-preserved : goal.labels-preserved
labels-preserved c =
    let l : length c.in_ok-behind.behind.now < length c.in-Some.tail.now = label_shorter c.in-Some.tail.now c.in_ok-behind.behind.now c.in_ok-behind.field-0-0 c.in_ok-behind.ensures.found in
    let k : length c.labels.rest.now ≡ length c.in-Some.tail.now + 1 = comma_shorter c.labels.rest.now c.in-Some.tail.now c.in-Some.ensures in
    let i : c.labels.others + length c.labels.rest.now ≤ length c.args.text.now = c.labels.invariant.0 in (
      omega arith,
      has_next (symbols_of c.args.text.now) (symbols_of c.labels.rest.now) (symbols_of c.in-Some.tail.now) (symbols_of c.in_ok-behind.behind.now) c.labels.others c.in_ok-behind.field-0-0
          c.labels.invariant.1 c.in-Some.ensures c.in_ok-behind.ensures.found,
    )

pub returns-clause-found : goal.returns-clause-found
returns-clause-found c = labels_found (symbols_of c.args.text.now) (symbols_of c.labels.rest.now) c.labels.others c.labels.invariant.1 c.in_default.ensures

pub returns-clause-only : goal.returns-clause-only
returns-clause-only c others rest h = labels_only (symbols_of c.args.text.now) (symbols_of c.labels.rest.now) c.labels.others c.labels.invariant.1 c.in_default.ensures others rest h
