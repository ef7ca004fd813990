use Rattle.std.proofs.Common.{◌≡◌, [], length, refl, ap, subst, arith, ◌∙◌}
use Rattle.std.proofs.lemmas.Bool.{both_ways, eq-eqb}
use Rattle.std.proofs.lemmas.Option.{slice_get-get_or, slice_get_within}
use Rattle.subscripts.specs.Classes.{HasClass}
use Rattle.subscripts.specs.declared.pairing.Class.{Class}
use Rattle.direction_vectors.proofs.vector_tests.Steps.{group_word, separable_word, ziv_more, ziv_word_of_all}
use Rattle.direction_vectors.proofs.vector_tests.words.edge_word.Goals as goal

pub returns-then-is_separable : goal.returns-then-is_separable
returns-then-is_separable c =
    separable_word c.args.ps.now c.loop-place.place _ c.in-Some.word (slice_get-get_or c.args.ps.now c.loop-place.place _ c.loop-place-test.true) (c.in-Some.ensures _ c.classify.ensures) c.loop-place.invariant
    (c.is_separable.ensures.0 c.if-is_separable.true)

pub returns-else-is_separable : goal.returns-else-is_separable
returns-else-is_separable c =
    group_word c.args.ps.now c.loop-place.place _ c.in-Some.word (slice_get-get_or c.args.ps.now c.loop-place.place _ c.loop-place-test.true) (c.in-Some.ensures _ c.classify.ensures) c.loop-place.invariant
    (λ s. both_ways c.is_separable.result c.if-is_separable.false (c.is_separable.ensures.1 s))

pub loop-place-preserved : goal.loop-place-preserved
loop-place-preserved c = ziv_more c.args.ps.now c.loop-place.place _ (rw c.in_default.ensures at c.classify.ensures) c.loop-place.invariant

pub returns-else-is_empty : goal.returns-else-is_empty
returns-else-is_empty c =
    ziv_word_of_all c.args.ps.now (λ e. both_ways c.is_empty.result c.if-is_empty.false (c.is_empty.ensures ∙ eq-eqb (length c.args.ps.now) 0 (ap length e)))
    (λ j q f. let b = slice_get_within c.args.ps.now j q f in c.loop-place.invariant j q (omega arith) f)
