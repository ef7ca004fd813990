use Rattle.std.proofs.Common.{arith, refl, sym, ap, ◌∙◌}
use Rattle.f77_words.specs.declared.keywords.outside.Outside.{Outside}
use Rattle.f77_words.proofs.keywords.Searching.{search_opening, search_closing, search_outside, search_inside, searched_as}
use Rattle.f77_words.proofs.keywords.outside.Outside.of.Goals as goal
use Rattle.f77_words.proofs.keywords.outside.Outside.of.Goals.{in-Opening, in-Closing, in-Neither, in-Neither+else-opened-eq0}

pub searching-preserved : goal.searching-preserved
searching-preserved c =
    elim c.match-of.branch [
      | in-Opening w ↦ (
        omega arith,
        searched_as w.opened-is (ap (λ (o : Outside). o.equals) w.found-is) (ap (λ (o : Outside). o.comma) w.found-is)
            (search_opening c.args.text.now c.searching.symbol-index c.searching.opened c.searching.found.equals c.searching.found.comma c.symbol-item.result c.searching-test.true c.symbol-item.is
            w.in-Opening.ensures c.searching.invariant.1),
      )
      | in-Closing w ↦ (
        omega arith,
        searched_as (w.opened-is ∙ w.saturating_sub-opened.ensures) (ap (λ (o : Outside). o.equals) w.found-is) (ap (λ (o : Outside). o.comma) w.found-is)
            (search_closing c.args.text.now c.searching.symbol-index c.searching.opened c.searching.found.equals c.searching.found.comma c.symbol-item.result c.searching-test.true c.symbol-item.is
            w.in-Closing.ensures c.searching.invariant.1),
      )
      | in-Neither w ↦ (
        omega arith,
        searched_as (w.opened-is ∙ w.if-opened-eq0.true) (ap (λ (o : Outside). o.equals) w.found-is ∙ w.with-found.ensures.equals) (ap (λ (o : Outside). o.comma) w.found-is ∙ w.with-found.ensures.comma)
            (search_outside c.args.text.now c.searching.symbol-index c.searching.found.equals c.searching.found.comma c.symbol-item.result c.searching-test.true c.symbol-item.is
            w.in-Neither.ensures (searched_as (sym w.if-opened-eq0.true) refl refl c.searching.invariant.1)),
      )
      | in-Neither+else-opened-eq0 w ↦ (
        omega arith,
        searched_as w.opened-is (ap (λ (o : Outside). o.equals) w.found-is) (ap (λ (o : Outside). o.comma) w.found-is)
            (search_inside c.args.text.now c.searching.symbol-index c.searching.opened c.searching.found.equals c.searching.found.comma c.symbol-item.result c.searching-test.true c.symbol-item.is
            w.in-Neither.ensures (omega arith) c.searching.invariant.1),
      )
    ]
