use Rattle.std.proofs.Common.{arith, ◌≡◌, ℕ, ◌<◌, ◌≤◌, List, length, refl, rules}
use Rattle.f90_grammar.specs.Blocks as grammar
use Rattle.f90_grammar.specs.Bounds.{declared_up_to}
use Rattle.f90_grammar.specs.Declared.{declarations_of}
use Rattle.f90_blocks.specs.places.forms.Places.{IsPlacedOf}
use Rattle.f90_names.specs.kinds.declarations.Bounds.{all_elements}
use Rattle.meaning.specs.element_counts.Counts.{capped}
use Rattle.f90_names.proofs.kinds.OfDeclarations.PlaceLaws.{unmet, go_on, stop_at, never, start, step}
use Rattle.f90_names.proofs.kinds.OfDeclarations.SizeLaws.{Narrow, HasManyElements, count_more, narrow_before, narrow_last, narrow_up_to}
use Rattle.f90_names.proofs.kinds.OfDeclarations.SizeLaws.{are_few, are_many}
use Rattle.f90_names.proofs.kinds.declarations.limits.first_beyond_elements.Goals as goal

abbrev IsCount : ℕ → List grammar.Placed → Type 0
IsCount n ps = Narrow ps → n ≡ capped (all_elements (declarations_of ps))

pub loop-i-init : goal.loop-i-init
loop-i-init c = record {
  counted =
      λ ps a. start IsPlacedOf (IsCount 0) ps (λ n. refl) a;
  unmet = λ ps a n. unmet ps HasManyElements;
}

pub loop-i-preserved : goal.loop-i-preserved
loop-i-preserved c =
    let l : c.loop-i.i < length c.args.text.now = first_of (omega arith, search rules) in
    let k = c.index-text-i.result in
    let few : c.sum_of-count.result ≤ 4194304 = omega arith in
    record {
      counted = step IsPlacedOf (IsCount c.loop-i.count)
          (IsCount c.sum_of-count.result) c.args.text.now c.loop-i.i k l c.index-text-i.is
          (λ ps p h g n.
          count_more ps p c.loop-i.count c.elements_here.result c.sum_of-count.result (h (narrow_before ps p n))
          (c.elements_here.ensures p.form g.is (narrow_last ps p n)) c.sum_of-count.ensures)
          c.loop-i.invariant.counted;
      unmet = λ ps a n.
          go_on c.args.text.now ps c.loop-i.i k HasManyElements l c.index-text-i.is a
          (λ q t m.
          let w = narrow_up_to ps q t.in_text n in
          are_few (all_elements (declared_up_to q)) c.sum_of-count.result
          (count_more q.before q.here c.loop-i.count c.elements_here.result c.sum_of-count.result
          (c.loop-i.invariant.counted q.before t.of_before (narrow_before q.before q.here w))
          (c.elements_here.ensures q.here.form t.of_here.is (narrow_last q.before q.here w)) c.sum_of-count.ensures)
          few m)
          (c.loop-i.invariant.unmet ps a n);
    }

pub returns-then-count-gt-ARRAY_ELEMENTS : goal.returns-then-count-gt-ARRAY_ELEMENTS
returns-then-count-gt-ARRAY_ELEMENTS c ps a n =
    let l : c.loop-i.i < length c.args.text.now = first_of (omega arith, search rules) in
    let k = c.index-text-i.result in
    let many : 4194304 < c.sum_of-count.result = omega arith in
    stop_at c.args.text.now ps c.loop-i.i k HasManyElements l c.index-text-i.is a
    (λ q t.
    let w = narrow_up_to ps q t.in_text n in
    are_many (all_elements (declared_up_to q)) c.sum_of-count.result
    (count_more q.before q.here c.loop-i.count c.elements_here.result c.sum_of-count.result
    (c.loop-i.invariant.counted q.before t.of_before (narrow_before q.before q.here w))
    (c.elements_here.ensures q.here.form t.of_here.is (narrow_last q.before q.here w)) c.sum_of-count.ensures)
    many)
    (c.loop-i.invariant.unmet ps a n)

pub returns : goal.returns
returns c ps a n =
    let l : length c.args.text.now ≤ c.loop-i.i = first_of (omega arith, search rules) in
    never c.args.text.now ps HasManyElements c.loop-i.i l a (c.loop-i.invariant.unmet ps a n)
