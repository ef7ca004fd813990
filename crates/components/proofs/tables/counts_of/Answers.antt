use Rattle.std.proofs.Common.{◌≡◌, ◌<◌, ◌≤◌, ◌+◌, ℕ, length, get_or, set, take, subst, sym, ap, ◌∙◌, arith}
use Rattle.std.proofs.lemmas.List.{length-replicate, length-take-le, length-set, take_more, get_or_read}
use Rattle.components.specs.Counts.{times_to}
use Rattle.components.specs.Labels.{at}
use Rattle.components.proofs.Counting.{counted_more, no_counts, times_to-le}
use Rattle.components.proofs.ListLaws.{Each-get}
use Rattle.components.proofs.tables.counts_of.Goals as goal

pub loop-to-init : goal.loop-to-init
loop-to-init c =
    let start = c.in_ok-counts.ensures.items_if_clones_equal (λ y e. e) in
    record {
      size = ap length start ∙ length-replicate c.args.count 0;
      each = λ k. ap (λ z. at z k) start ∙ no_counts c.args.count k;
    }

pub loop-to-preserved : goal.loop-to-preserved
loop-to-preserved c =
    let inside : c.loop-to.to-index < length c.args.between.now = omega arith in
    let pair : ℕ × ℕ = get_or c.args.between.now c.loop-to.to-index (0, 0) in
    let below : (pair.0 < c.args.count) × (pair.1 < c.args.count) = Each-get (λ p. (p.0 < c.args.count) × (p.1 < c.args.count)) c.args.between.now c.requires c.loop-to.to-index (0, 0) inside in
    let listed : pair.1 < length c.loop-to.counts.items = subst (λ z. pair.1 < z) (sym c.loop-to.invariant.size) below.1 in
    let value = get_or_read c.loop-to.counts.items pair.1 c.index_mut.result.now listed c.index_mut.ensures.value 0 in
    record {
      size = length-set c.loop-to.counts.items pair.1 (c.index_mut.result.now + 1) ∙ c.loop-to.invariant.size;
      each = λ k.
          subst (λ ps. at (set c.loop-to.counts.items pair.1 (c.index_mut.result.now + 1)) k ≡ times_to k ps) (sym (take_more c.args.between.now c.loop-to.to-index (0, 0) inside))
          (counted_more c.loop-to.counts.items (take c.loop-to.to-index c.args.between.now) pair (c.index_mut.result.now + 1) listed (ap (λ z. z + 1) value) c.loop-to.invariant.each k);
    }

pub overflow_add-index_mut : goal.overflow_add-index_mut
overflow_add-index_mut c =
    let inside : c.loop-to.to-index < length c.args.between.now = omega arith in
    let pair : ℕ × ℕ = get_or c.args.between.now c.loop-to.to-index (0, 0) in
    let below : (pair.0 < c.args.count) × (pair.1 < c.args.count) = Each-get (λ p. (p.0 < c.args.count) × (p.1 < c.args.count)) c.args.between.now c.requires c.loop-to.to-index (0, 0) inside in
    let listed : pair.1 < length c.loop-to.counts.items = subst (λ z. pair.1 < z) (sym c.loop-to.invariant.size) below.1 in
    let value = get_or_read c.loop-to.counts.items pair.1 c.index_mut.result.now listed c.index_mut.ensures.value 0 in
    let each = c.loop-to.invariant.each pair.1 in
    let most = times_to-le pair.1 (take c.loop-to.to-index c.args.between.now) in
    let size : length (take c.loop-to.to-index c.args.between.now) ≡ c.loop-to.to-index = length-take-le c.loop-to.to-index c.args.between.now (omega arith) in
    let few : c.index_mut.result.now ≤ c.loop-to.to-index = omega arith in
    omega arith
