-- Classes that have come, one after the other.
use Rattle.std.proofs.Common.{◌≡◌, ◌↔◌, sym, ap, ◌∙◌, subst, ℕ, ◌+◌, ◌<◌, Bool, true, false, Some, None, List, [], ◌∷◌, ◌++◌, append_assoc, append-nil, length, replicate, set, arith}
use Rattle.std.proofs.lemmas.Bool.{both_ways}
use Rattle.std.proofs.lemmas.List.{length-replicate, length_push}
use Rattle.components.specs.declared.rest.Rest.{Rest}
use Rattle.components.specs.declared.tables.Tables.{Tables}
use Rattle.components.specs.Classes.{AreClassRows, AreMembers, flag}
use Rattle.components.specs.Counts.{times_to}
use Rattle.components.specs.Labels.{AreLabels, at}
use Rattle.components.specs.Lists.{IsMember}
use Rattle.components.specs.Orders.{IsOrder}
use Rattle.components.specs.Reachability.{AreBelow}
use Rattle.components.specs.Rest.{AreFilled, ComesNext, IsFreeFirst, IsRest, Nexts, has}
use Rattle.components.specs.Targets.{AreTargets, row}
use Rattle.components.proofs.Counting.{tally_all}
use Rattle.components.proofs.Emitting.{Comes, all_done, is_order}
use Rattle.components.proofs.Flags.{none_set, open_all, open_flags, open_set}

some_inside : (xs : List ℕ) (x : ℕ) → IsMember x xs → 0 < length xs
some_inside [] x i = absurd i
some_inside (y ∷ xs) x i = omega arith

pub are_filled : (n : ℕ) (pairs : List (ℕ × ℕ)) (count : ℕ) (labels : List ℕ) (t : Tables) → AreLabels n pairs count labels
    → AreMembers n count labels t.members.items → AreFilled count t
are_filled n pairs count labels t are members = record {
  size = members.size;
  each = λ c h. let m = are.met c h in some_inside (row t.members.items c) m.0 (((members.each c).each m.0).1 (m.1, m.2));
}

-- ---- none has come

module _ (n : ℕ) (pairs : List (ℕ × ℕ)) (count : ℕ) (labels : List ℕ) (between : List (ℕ × ℕ)) (t : Tables) (counts : List ℕ) (rest : Rest)
    (are : AreLabels n pairs count labels) (members : AreMembers n count labels t.members.items) (onward : AreTargets count between t.onward.items)
    (width : length counts ≡ count) (each : (c : ℕ) → at counts c ≡ times_to c between) (same : rest.counts.items ≡ counts)
    (ready : (v : ℕ) → (has rest.ready v ≡ true) ↔ IsFreeFirst t counts (length counts) v) where
  pub rest_begun : IsRest n count labels t (replicate count false) rest
  rest_begun = record {
    tables = record {
      size = are.size;
      below = are.below;
      members = members;
      filled = are_filled n pairs count labels t are members;
      onward = onward.count;
    };
    size = length-replicate count false;
    width = ap length same ∙ width;
    counts = λ c. ap (λ z. at z c) same ∙ (each c ∙ (sym (onward.often c) ∙ sym (tally_all count c t.onward.items)));
    closed = λ c e. absurd (both_ways (flag (replicate count false) c) (none_set count c) e);
    ready = λ v. (
      λ h. let k = (ready v).0 h in
          (k.0, subst (λ z. k.0 < z) width k.1, none_set count k.0, ap (λ z. at z k.0) same ∙ k.2, k.3),
      λ h. (ready v).1 (h.0, subst (λ z. h.0 < z) (sym width) h.1, ap (λ z. at z h.0) (sym same) ∙ h.3, h.4),
    );
  }

-- ---- some have come

-- the classes so far are followed by any that come from here on
pub record IsUnderWay (n count : ℕ) (labels : List ℕ) (t : Tables) (rest : Rest) (classes : List (List ℕ)) : Type 0 where
  pub done : List Bool
  pub is : IsRest n count labels t done rest
  pub progress : open_flags done + length classes ≡ count
  pub comes : (ks : List (List ℕ)) → Comes n count labels t.onward.items done ks
      → Comes n count labels t.onward.items (replicate count false) (classes ++ ks)

module _ (n count : ℕ) (labels : List ℕ) (t : Tables) (rest : Rest) where
  pub under_way_begun : IsRest n count labels t (replicate count false) rest → IsUnderWay n count labels t rest []
  under_way_begun is = record {
    done = replicate count false;
    is = is;
    progress = let h = open_all count in omega arith;
    comes = λ ks h. h;
  }

  module _ (classes : List (List ℕ)) (way : IsUnderWay n count labels t rest classes) (new : Rest) where
    pub under_way_more : (k : List ℕ) → Nexts labels t rest new (Some k)
        → IsUnderWay n count labels t new (classes ++ k ∷ []) × (length classes < count)
    under_way_more k nexts = by (nexts n count way.done way.is)
      where
        by : ComesNext n count labels t way.done new (Some k) → IsUnderWay n count labels t new (classes ++ k ∷ []) × (length classes < count)
        by (c, next, class, is) =
            let one = open_set way.done c (let a = next.small in let b = way.is.size in omega arith) next.undone in
            let so_far = way.progress in (
              record {
                done = set way.done c true;
                is = is;
                progress = let l = length_push classes k in omega arith;
                comes = λ ks h.
                    subst (Comes n count labels t.onward.items (replicate count false)) (sym (append_assoc classes (k ∷ []) ks))
                    (way.comes (k ∷ ks) (c, next, class, h));
              },
              omega arith,
            )

    pub under_way_ended : (pairs : List (ℕ × ℕ)) → AreBelow n pairs → AreLabels n pairs count labels → AreClassRows pairs labels t.onward.items
        → Nexts labels t rest new None → IsOrder n pairs classes
    under_way_ended pairs below are led nexts =
        let all = all_done n pairs count labels t.onward.items below are led way.done (nexts n count way.done way.is) in
        is_order n pairs count labels t.onward.items below are led (replicate count false) classes (length-replicate count false) (none_set count)
        (subst (Comes n count labels t.onward.items (replicate count false)) (append-nil classes) (way.comes [] all))
