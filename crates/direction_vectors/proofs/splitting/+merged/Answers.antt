use Rattle.std.proofs.Common.{◌≡◌, ◌+◌, ◌∷◌, [], List, arith, subst, sym, ◌∙◌}
use Rattle.std.specs.Prelude.{MatchOption}
use Rattle.subscripts.specs.declared.affine.Dir.TheVariants.{Lt, Eq, Gt}
use Rattle.subscripts.specs.declared.affine.Dirs.{Dirs}
use Rattle.direction_vectors.proofs.Boxes.{IsSettled, exact_of, is_box, one_under, part_known, part_open, skipped_before}
use Rattle.direction_vectors.proofs.Growing.{if_ok}
use Rattle.direction_vectors.proofs.Listing.{AreParts, equal_plain, greater_plain, less_plain, merged_under}
use Rattle.direction_vectors.specs.Boxes.{IsDroppedBox, IsOpenBox, IsFreeBefore}
use Rattle.direction_vectors.specs.Candidates.{Answer}
use Rattle.direction_vectors.specs.Parts.{AreUnder}
use Rattle.direction_vectors.specs.Unions.{IsMergedOf}
use Rattle.direction_vectors.proofs.splitting.+merged.Goals as goal

pub split_place-split-requires-clause-exact : goal.split_place-split-requires-clause-exact
split_place-split-requires-clause-exact t c = exact_of c.args.refs.now c.args.d.now c.box_verdict-verdict.result c.box_verdict-verdict.ensures.tested

pub returns-then-split-from : goal.returns-then-split-from
returns-then-split-from t c =
    let r = c.args.refs.now in
    let d = c.args.d.now in
    let k = c.args.place in
    let n = c.split_place-split.result in
    let v = c.box_verdict-verdict.result in
    let e : n ≡ r.common = c.if-split-from.true ∙ c.from.ensures in
    let s : IsSettled r d k n v c.args.known =
    record { tested = c.box_verdict-verdict.ensures.tested; kept = c.box_verdict-verdict.ensures.kept; trips = c.split_place-split.ensures.trips; free = c.split_place-split.ensures.free } in
    if_ok c.one_box.result (λ answers. answers.items ≡ (d, v) ∷ []) (λ answers. AreUnder r d k answers.items)
    (λ answers o.
    skipped_before r d k r.common answers.items c.requires.starred.within (omega arith) c.requires.starred.starred
    (one_under r d v answers.items c.requires.refs (is_box r d k n v c.args.known c.requires.starred s e c.requires.known) s.tested o))
    c.one_box.ensures

pub merged-requires : goal.merged-requires
merged-requires t c =
    let r = c.args.refs.now in
    let d = c.args.d.now in
    let k = c.args.place in
    let n = c.split_place-split.result in
    let v = c.box_verdict-verdict.result in
    let s : IsSettled r d k n v c.args.known =
    record { tested = c.box_verdict-verdict.ensures.tested; kept = c.box_verdict-verdict.ensures.kept; trips = c.split_place-split.ensures.trips; free = c.split_place-split.ensures.free } in
    let up = c.split_place-split.ensures.from in
    let within = c.split_place-split.ensures.within in
    let apart = c.if-split-from.false in
    let counted = c.from.ensures in (
      let h = c.decreases in omega arith,
      (
        c.requires.refs,
        (
          subst (λ (z : Dirs). IsOpenBox r z (n + 1)) (sym c.with_dir.ensures) (part_open r d k n v c.args.known Lt c.requires.refs c.requires.starred s up (omega arith) less_plain),
          subst (λ (z : Dirs). MatchOption c.word_of-word.result (IsFreeBefore r z (n + 1)) (λ w. IsDroppedBox r z w)) (sym c.with_dir.ensures)
              (part_known r d k n v c.args.known Lt c.requires.refs c.requires.starred s up (omega arith) less_plain c.word_of-word.result c.word_of-word.ensures c.requires.known),
        ),
      ),
    )

pub merged-requires-2 : goal.merged-requires-2
merged-requires-2 t c =
    let r = c.args.refs.now in
    let d = c.args.d.now in
    let k = c.args.place in
    let n = c.split_place-split.result in
    let v = c.box_verdict-verdict.result in
    let s : IsSettled r d k n v c.args.known =
    record { tested = c.box_verdict-verdict.ensures.tested; kept = c.box_verdict-verdict.ensures.kept; trips = c.split_place-split.ensures.trips; free = c.split_place-split.ensures.free } in
    let up = c.split_place-split.ensures.from in
    let within = c.split_place-split.ensures.within in
    let apart = c.if-split-from.false in
    let counted = c.from.ensures in (
      let h = c.decreases in omega arith,
      (
        c.requires.refs,
        (
          subst (λ (z : Dirs). IsOpenBox r z (n + 1)) (sym c.with_dir-2.ensures) (part_open r d k n v c.args.known Eq c.requires.refs c.requires.starred s up (omega arith) equal_plain),
          subst (λ (z : Dirs). MatchOption c.word_of-word.result (IsFreeBefore r z (n + 1)) (λ w. IsDroppedBox r z w)) (sym c.with_dir-2.ensures)
              (part_known r d k n v c.args.known Eq c.requires.refs c.requires.starred s up (omega arith) equal_plain c.word_of-word.result c.word_of-word.ensures c.requires.known),
        ),
      ),
    )

pub merged-requires-3 : goal.merged-requires-3
merged-requires-3 t c =
    let r = c.args.refs.now in
    let d = c.args.d.now in
    let k = c.args.place in
    let n = c.split_place-split.result in
    let v = c.box_verdict-verdict.result in
    let s : IsSettled r d k n v c.args.known =
    record { tested = c.box_verdict-verdict.ensures.tested; kept = c.box_verdict-verdict.ensures.kept; trips = c.split_place-split.ensures.trips; free = c.split_place-split.ensures.free } in
    let up = c.split_place-split.ensures.from in
    let within = c.split_place-split.ensures.within in
    let apart = c.if-split-from.false in
    let counted = c.from.ensures in (
      let h = c.decreases in omega arith,
      (
        c.requires.refs,
        (
          subst (λ (z : Dirs). IsOpenBox r z (n + 1)) (sym c.with_dir-3.ensures) (part_open r d k n v c.args.known Gt c.requires.refs c.requires.starred s up (omega arith) greater_plain),
          subst (λ (z : Dirs). MatchOption c.word_of-word.result (IsFreeBefore r z (n + 1)) (λ w. IsDroppedBox r z w)) (sym c.with_dir-3.ensures)
              (part_known r d k n v c.args.known Gt c.requires.refs c.requires.starred s up (omega arith) greater_plain c.word_of-word.result c.word_of-word.ensures c.requires.known),
        ),
      ),
    )

pub returns : goal.returns
returns t c =
    let r = c.args.refs.now in
    let d = c.args.d.now in
    let k = c.args.place in
    let n = c.split_place-split.result in
    let up = c.split_place-split.ensures.from in
    let within = c.split_place-split.ensures.within in
    let apart = c.if-split-from.false in
    let counted = c.from.ensures in
    let depth = c.requires.refs.from_depth in
    let common = c.requires.refs.from_common in
    let parts : AreParts r d n c.in_ok-before.before.items c.in_ok-same.same.items c.in_ok-after.after.items =
    record {
      vector = c.requires.starred.vector;
      common = omega arith;
      seven = omega arith;
      before_under = subst (λ (z : Dirs). AreUnder r z (n + 1) c.in_ok-before.before.items) c.with_dir.ensures c.in_ok-before.ensures;
      same_under = subst (λ (z : Dirs). AreUnder r z (n + 1) c.in_ok-same.same.items) c.with_dir-2.ensures c.in_ok-same.ensures;
      after_under = subst (λ (z : Dirs). AreUnder r z (n + 1) c.in_ok-after.after.items) c.with_dir-3.ensures c.in_ok-after.ensures;
    } in
    if_ok c.merged_of.result (λ answers. IsMergedOf c.in_ok-before.before.items c.as_slice.result.now c.as_slice-2.result.now n answers.items) (λ answers. AreUnder r d k answers.items)
    (λ answers m. skipped_before r d k n answers.items up within c.requires.starred.starred
    (merged_under r d n c.in_ok-before.before.items c.in_ok-same.same.items c.in_ok-after.after.items answers.items parts
    (subst (λ (xs : List Answer). IsMergedOf c.in_ok-before.before.items xs c.in_ok-after.after.items n answers.items) c.as_slice.ensures.value
    (subst (λ (ys : List Answer). IsMergedOf c.in_ok-before.before.items c.as_slice.result.now ys n answers.items) c.as_slice-2.ensures.value m))))
    c.merged_of.ensures
