-- The order of loops comes about by moves that are allowed.
use Rattle.std.proofs.Common.{◌≡◌, refl, sym, ap, ◌∙◌, subst, ℕ, ◌+◌, ◌-◌, ◌<◌, ◌≤◌, Bool, true, false, ◌&&◌, cond, Option, Some, None, List, [], ◌∷◌, ◌++◌, length, arith}
use Rattle.std.specs.List.{find, fold, range_with_len}
use Rattle.subscripts.specs.declared.affine.Dirs.{Dirs}
use Rattle.subscripts.specs.declared.affine.Span.{Span}
use Rattle.nest.specs.declared.parts.Trip.{Trip}
use Rattle.interchange.specs.Orders.{carries, is_fit, keeps_all, may_move, moved, moved_if_found, order_of, settled_at_place}
use Rattle.interchange.proofs.OrderLaws.{found_in, moved_length, range_inside, range_length}
use Rattle.interchange.specs.Laws.{OrderIsReached}
use Rattle.interchange.specs.Moves.{IsAllowed, IsReached, LeadTo, Move, moves_to}

true_false : true ≡ false → ⊥
true_false e = cc

and_both : (a b : Bool) → a && b ≡ true → (a ≡ true) × (b ≡ true)
and_both true b e = (refl, e)
and_both false b e = absurd (true_false (sym e))

-- what is found passes
found_passes : (test : ℕ → Bool) (xs : List ℕ) (x : ℕ) → find test xs ≡ Some x → test x ≡ true
found_passes test [] x e = absurd (none_some x e)
  where
    none_some : {A : Type 0} (a : A) → ◌≡◌ {A = Option A} None (Some a) → ⊥
    none_some a e = cc
found_passes test (y ∷ xs) x e = by (test y) refl e (λ f. found_passes test xs x f)
  where
    some_same : {A : Type 0} (a b : A) → ◌≡◌ {A = Option A} (Some a) (Some b) → a ≡ b
    some_same a b e = cc

    by : (b : Bool) → test y ≡ b → cond b (Some y) (find test xs) ≡ Some x → (find test xs ≡ Some x → test x ≡ true) → test x ≡ true
    by true f e more = ap test (sym (some_same y x e)) ∙ f
    by false f e more = more e

module _ (trips : List Trip) (spans : List Span) (vectors : List Dirs) (n : ℕ) where
  abbrev start : List ℕ
  start = range_with_len 0 n

  abbrev Reached : List ℕ → Type 0
  Reached = IsReached trips spans vectors n

  one_more : (ms : List Move) (order last : List ℕ) (m : Move) → LeadTo trips spans ms order last → IsAllowed trips spans last m → LeadTo trips spans (ms ++ m ∷ []) order (moves_to m last)
  one_more [] order last m h a = (subst (λ o. IsAllowed trips spans o m) (sym h) a, ap (moves_to m) h)
  one_more (k ∷ ms) order last m h a = (h.0, one_more ms (moves_to k order) last m h.1 a)

  step : (order : List ℕ) (p : ℕ) → Reached order → Reached (settled_at_place trips spans vectors order p)
  step order p r = by (carries vectors order p) (find (is_fit trips spans vectors order p) (range_with_len (p + 1) (length order - (p + 1)))) refl
    where
      by : (b : Bool) (o : Option ℕ) → find (is_fit trips spans vectors order p) (range_with_len (p + 1) (length order - (p + 1))) ≡ o → Reached (cond b order (moved_if_found order p o))
      by true o e = r
      by false None e = r
      by false (Some q) e =
          let inside = range_inside (p + 1) (length order - (p + 1)) q (found_in (is_fit trips spans vectors order p) (range_with_len (p + 1) (length order - (p + 1))) q e) in
          let fit = found_passes (is_fit trips spans vectors order p) (range_with_len (p + 1) (length order - (p + 1))) q e in
          let a = and_both (carries vectors order q) (may_move trips spans order p q && keeps_all vectors (moved p q order)) fit in
          let b = and_both (may_move trips spans order p q) (keeps_all vectors (moved p q order)) a.1 in
          let low : p + 1 ≤ q = inside.0 in
          let high : q < (p + 1) + (length order - (p + 1)) = inside.1 in
          let m : Move = record { to = p; from = q } in
          record {
            moves = r.moves ++ m ∷ [];
            lead = one_more r.moves start order m r.lead (record { outwards = omega arith; inside = omega arith; may = b.0 });
            keeps = λ h. b.1;
            size = moved_length p q order (omega arith) ∙ r.size;
          }

  all : (order : List ℕ) (ps : List ℕ) → Reached order → Reached (fold (settled_at_place trips spans vectors) order ps)
  all order [] r = r
  all order (p ∷ ps) r = all (settled_at_place trips spans vectors order p) ps (step order p r)

  reached_at_last : Reached (order_of trips spans vectors n)
  reached_at_last = all start (range_with_len 0 n) (record { moves = []; lead = refl; keeps = λ h. h; size = range_length 0 n })

pub order_is_reached : OrderIsReached
order_is_reached trips spans vectors n = reached_at_last trips spans vectors n
