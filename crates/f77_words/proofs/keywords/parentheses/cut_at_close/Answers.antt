use Rattle.std.proofs.Common.{ℕ, ◌+◌, arith, sym, subst}
use Rattle.f77_expressions.specs.Symbols.{symbols_of}
use Rattle.f77_words.proofs.keywords.Cutting.{IsCutTo, cut_opening, cut_closing, cut_neither, cut_found}
use Rattle.f77_words.proofs.keywords.parentheses.cut_at_close.Goals as goal
use Rattle.f77_words.proofs.keywords.parentheses.cut_at_close.Goals.{in-Opening, in-Closing-2, in-Neither}

pub returns-in-Closing : goal.returns-in-Closing
returns-in-Closing c =
    cut_found c.args.text.now c.cutting.i c.cutting.opened c.index-text-i.result c.cutting-test.true c.index-text-i.is c.in-Closing.ensures c.if-opened-eq0.true c.cutting.invariant.1

pub cutting-preserved : goal.cutting-preserved
cutting-preserved c =
    let P : ℕ → Type 0 = λ n. IsCutTo (symbols_of c.args.text.now) (c.cutting.i + 1) n in
    elim c.match-of.branch [
      | in-Opening w ↦ (
        omega arith,
        subst P (sym w.opened-is)
            (cut_opening c.args.text.now c.cutting.i c.cutting.opened c.index-text-i.result c.cutting-test.true c.index-text-i.is w.in-Opening.ensures c.cutting.invariant.1),
      )
      | in-Closing-2 w ↦ (
        omega arith,
        subst P (sym w.opened-is)
            (cut_closing c.args.text.now c.cutting.i c.cutting.opened c.index-text-i.result c.cutting-test.true c.index-text-i.is w.in-Closing.ensures w.if-opened-eq0.false c.cutting.invariant.1),
      )
      | in-Neither w ↦ (
        omega arith,
        subst P (sym w.opened-is)
            (cut_neither c.args.text.now c.cutting.i c.cutting.opened c.index-text-i.result c.cutting-test.true c.index-text-i.is w.in-Neither.ensures c.cutting.invariant.1),
      )
    ]
