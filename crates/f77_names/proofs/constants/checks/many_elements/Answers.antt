use Rattle.std.proofs.Common.{◌∷◌, sym, ap, ◌∙◌, arith}
use Rattle.f77_grammar.specs.program.Limits.{declared_elements, has_many_elements}
use Rattle.f77_grammar.specs.syntax.First.{first_index}
use Rattle.f77_grammar.specs.syntax.Views.{text_of, labelled_of}
use Rattle.f77_grammar.specs.syntax.Walk.{passed}
use Rattle.f77_grammar.proofs.syntax.Walks.{search_goes_on, search_stops_at, search_ends, text_passed}
use Rattle.f77_names.specs.constants.Constants.{store_of}
use Rattle.meaning.specs.element_counts.Counts.{capped}
use Rattle.f77_names.proofs.constants.SizeLaws.{count_at, are_many, are_few}
use Rattle.meaning.specs.Dialect.{fortran77}
use Rattle.f77_names.proofs.constants.checks.many_elements.Goals as goal

pub returns-then-count-gt-ARRAY_ELEMENTS : goal.returns-then-count-gt-ARRAY_ELEMENTS
returns-then-count-gt-ARRAY_ELEMENTS c = λ s h.
    search_stops_at (has_many_elements (fortran77 c.args.constants.now.width) (store_of c.args.constants.now)) c.args.text.now c.loop-i.i c.index-text-i.result (omega arith) c.index-text-i.is
    (are_many (declared_elements (fortran77 c.args.constants.now.width) (store_of c.args.constants.now) (labelled_of c.index-text-i.result ∷ passed (text_of c.args.text.now) c.loop-i.i)) c.sum_of-count.result
    (count_at c.args.constants.now.width (store_of c.args.constants.now) c.args.text.now c.loop-i.i c.index-text-i.result c.entities.result.now c.in_ok-here.here c.loop-i.count c.sum_of-count.result
    c.in_ok-here.ensures c.entities.ensures c.loop-i.invariant.count c.sum_of-count.ensures)
    c.if-count-gt-ARRAY_ELEMENTS.true)
    c.loop-i.invariant.searched
    ∙ ap (λ t. first_index (has_many_elements (fortran77 c.args.constants.now.width) t) (text_of c.args.text.now)) (sym h.same)

pub loop-i-preserved : goal.loop-i-preserved
loop-i-preserved c = record {
  searched = search_goes_on (has_many_elements (fortran77 c.args.constants.now.width) (store_of c.args.constants.now)) c.args.text.now c.loop-i.i c.index-text-i.result (omega arith) c.index-text-i.is
      (are_few (declared_elements (fortran77 c.args.constants.now.width) (store_of c.args.constants.now) (labelled_of c.index-text-i.result ∷ passed (text_of c.args.text.now) c.loop-i.i)) c.sum_of-count.result
      (count_at c.args.constants.now.width (store_of c.args.constants.now) c.args.text.now c.loop-i.i c.index-text-i.result c.entities.result.now c.in_ok-here.here c.loop-i.count c.sum_of-count.result
      c.in_ok-here.ensures c.entities.ensures c.loop-i.invariant.count c.sum_of-count.ensures)
      c.if-count-gt-ARRAY_ELEMENTS.false)
      c.loop-i.invariant.searched;
  count = count_at c.args.constants.now.width (store_of c.args.constants.now) c.args.text.now c.loop-i.i c.index-text-i.result c.entities.result.now c.in_ok-here.here c.loop-i.count c.sum_of-count.result
      c.in_ok-here.ensures c.entities.ensures c.loop-i.invariant.count c.sum_of-count.ensures
      ∙ ap (λ ts. capped (declared_elements (fortran77 c.args.constants.now.width) (store_of c.args.constants.now) ts)) (sym (text_passed c.args.text.now c.loop-i.i c.index-text-i.result (omega arith) c.index-text-i.is));
}

pub returns : goal.returns
returns c = λ s h.
    search_ends (has_many_elements (fortran77 c.args.constants.now.width) (store_of c.args.constants.now)) c.args.text.now c.loop-i.i (omega arith) c.loop-i.invariant.searched
    ∙ ap (λ t. first_index (has_many_elements (fortran77 c.args.constants.now.width) t) (text_of c.args.text.now)) (sym h.same)
