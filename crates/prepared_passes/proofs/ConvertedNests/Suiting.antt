-- What is made for a part has masks of their kinds.
use Rattle.std.proofs.Common.{sym, subst, ◌⊎◌, inl, inr, ℕ, suc, ◌+◌, ◌<◌, ◌≤◌, Bool, true, false, List, [], ◌∷◌, ◌++◌, filter, Option, Some, None, arith}
use Rattle.nest.specs.Plain.{Part, Run, Turns, Choice, Label, Jump, Parts, no_parts, part, Branches, no_branches, branch}
use Rattle.nest_order.specs.orders.Lists.{In}
use Rattle.nest_order.proofs.orders.Lists.{In-append}
use Rattle.if_convert.specs.Converted.{converted, converted_parts, converted_branches, choice_at, rest_if, rest_under, has_rest, has_parts}
use Rattle.if_convert.specs.Jumps.{jumps_in, jumps_in_parts, jumps_in_branches, unless}
use Rattle.if_convert.specs.Masks.{Test, Other, Unleft, Masking, Kept, Asks, Leaves}
use Rattle.if_convert.specs.Points.{Converted, entered, resumed, rejoined, is_left, unless_skipped, jump_made}
use Rattle.if_convert.specs.declared.points.Jumped.{Jumped}
use Rattle.if_convert.specs.declared.points.MaskPoint.{MaskPoint}
use Rattle.prepared_passes.proofs.ConvertedNests.Masked.{BranchesAreFree, IsFree, AreFree, IsGuard, IsJump, IsNewGuard, IsNotGuard, IsSuited, IsThere, IsUsed}
use Rattle.prepared_passes.proofs.ConvertedNests.Moments.{AreLoopless, BranchesAreLoopless, IsLoopless}
use Rattle.prepared_passes.proofs.ConvertedNests.Points.{Below, below_more, in_filter}
use Rattle.prepared_passes.proofs.ConvertedNests.Rising.{counts, counts_branches, counts_parts, masks_rise_branches, masks_rise_parts, rejoined_mask, rest_mask, skips_are}

module _ (line k0 k1 low mid : ℕ) (first : k0 ≤ low) where
  abbrev pub AllSuited : List Masking → Type 0
  AllSuited ms = (m : Masking) → In m ms → IsSuited k0 k1 low mid m

  abbrev pub AllJumps : List Jumped → Type 0
  AllJumps ls = (l : Jumped) → In l ls → IsJump k0 k1 low mid l.mask

  pub none_suited : AllSuited []
  none_suited m i = absurd i

  pub one_suited : (x : Masking) → IsSuited k0 k1 low mid x → AllSuited (x ∷ [])
  one_suited x h m (inl e) = subst (IsSuited k0 k1 low mid) (sym e) h
  one_suited x h m (inr i) = absurd i

  pub both_suited : (xs ys : List Masking) → AllSuited xs → AllSuited ys → AllSuited (xs ++ ys)
  both_suited xs ys h k m i = by (In-append m xs ys i)
    where
      by : In m xs ⊎ In m ys → IsSuited k0 k1 low mid m
      by (inl i) = h m i
      by (inr i) = k m i

  pub first_suited : (x : Masking) (xs : List Masking) → IsSuited k0 k1 low mid x → AllSuited xs → AllSuited (x ∷ xs)
  first_suited x xs h k m (inl e) = subst (IsSuited k0 k1 low mid) (sym e) h
  first_suited x xs h k m (inr i) = k m i

  pub both_jump : (xs ys : List Jumped) → AllJumps xs → AllJumps ys → AllJumps (xs ++ ys)
  both_jump xs ys h k l i = by (In-append l xs ys i)
    where
      by : In l xs ⊎ In l ys → IsJump k0 k1 low mid l.mask
      by (inl i) = h l i
      by (inr i) = k l i

  pub one_jump : (l : Jumped) → IsJump k0 k1 low mid l.mask → AllJumps (l ∷ [])
  one_jump x h l (inl e) = subst (λ (z : Jumped). IsJump k0 k1 low mid z.mask) (sym e) h
  one_jump x h l (inr i) = absurd i

  not_guard : (g : Option ℕ) (i : ℕ) → Below g i → IsNotGuard k0 k1 low mid i g
  not_guard None i b = tt
  not_guard (Some k) i b = λ e. omega (arith, b, e)

  new_guard : (i : ℕ) → mid ≤ i → i < k1 → low ≤ mid → IsNewGuard k0 k1 low mid i
  new_guard i h l o = ((omega (arith, first, o, h), l), h)

  as_guard : (i : ℕ) → IsNewGuard k0 k1 low mid i → IsGuard k0 k1 low mid i
  as_guard i h = (h.0, inr h.1)

  -- ---- at a point

  pub record Fit (own : Option ℕ) (p : MaskPoint) : Type 0 where
    pub block : IsUsed k0 k1 low mid own
    pub guard : IsUsed k0 k1 low mid p.guard
    pub pending : AllJumps p.pending
    pub jumps : low ≤ p.jump
    pub masks : mid ≤ p.mask
    pub own_below : Below own p.mask
    pub guard_below : Below p.guard p.mask

  pub record Suits (own : Option ℕ) (c : Converted) : Type 0 where
    pub made : AllSuited c.made
    pub fit : Fit own c.point

  pub resumes_suit : (own : Option ℕ) (ls : List Jumped) (j k : ℕ) → low ≤ mid → IsUsed k0 k1 low mid own → Below own k → AllJumps ls → low ≤ j → mid ≤ k → (resumed own ls j k).point.mask ≤ k1 → Suits own (resumed own ls j k)
  resumes_suit own [] j k o u b h l m e = record {
    made = none_suited;
    fit = record { block = u; guard = u; pending = h; jumps = l; masks = m; own_below = b; guard_below = b };
  }
  resumes_suit own (x ∷ ls) j k o u b h l m e =
      let new = new_guard k m e o in
      record {
        made = one_suited (Asks own k (Unleft (x ∷ ls))) (u, new, h, not_guard own k b, tt);
        fit = record { block = u; guard = as_guard k new; pending = h; jumps = l; masks = omega (arith, m); own_below = below_more own k (suc k) (omega arith) b; guard_below = omega arith };
      }

  pub rejoins_suit : (own : Option ℕ) (p : MaskPoint) (ls : List Jumped) (j k : ℕ) → low ≤ mid → Fit own p → p.mask ≤ k → AllJumps ls → low ≤ j → (rejoined own p ls j k).point.mask ≤ k1 → Suits own (rejoined own p ls j k)
  rejoins_suit own p [] j k o f r h l e = record {
    made = none_suited;
    fit = record { block = f.block; guard = f.guard; pending = f.pending; jumps = l; masks = (let m = f.masks in omega (arith, m, r)); own_below = below_more own p.mask k r f.own_below; guard_below = below_more p.guard p.mask k r f.guard_below };
  }
  rejoins_suit own p (x ∷ ls) j k o f r h l e =
      resumes_suit own (p.pending ++ (x ∷ ls)) j k o f.block (below_more own p.mask k r f.own_below) (both_jump p.pending (x ∷ ls) f.pending h) l (let m = f.masks in omega (arith, m, r)) e

  -- ---- arms

  pub record ArmsSuit (c : Converted) : Type 0 where
    pub made : AllSuited c.made
    pub pending : AllJumps c.point.pending

  entered_fits : (g : Option ℕ) (j k : ℕ) → IsUsed k0 k1 low mid g → Below g k → low ≤ j → mid ≤ k → Fit g (entered g j k)
  entered_fits g j k u b l m = record { block = u; guard = u; pending = λ x i. absurd i; jumps = l; masks = m; own_below = b; guard_below = b }

  abbrev arms : Branches → Parts → Option ℕ → ℕ → ℕ → Converted
  arms bs other = converted_branches line bs (has_parts other) (λ g j m. converted_parts line true g other (entered g j m))

  module _ (order : low ≤ mid) where
    -- the mask m of the rest behind an arm with the mask x
    under_rest : (g : Option ℕ) (x m : ℕ) (c : Converted) → IsUsed k0 k1 low mid g → Below g m → IsNewGuard k0 k1 low mid x → x < m → mid ≤ m → suc m ≤ c.point.mask → c.point.mask ≤ k1 → ArmsSuit c → ArmsSuit (rest_under g m x c)
    under_rest g x m c u b new less k up top a =
        let own = new_guard m k (omega (arith, up, top)) order in
        record {
          made = first_suited (Asks g m (Other x)) c.made (u, own, as_guard x new, not_guard g m b, (λ q. omega (arith, q, less))) a.made;
          pending = a.pending;
        }

    rest_suits : (b : Bool) (j m : ℕ) (c : Converted) → (c.point.mask ≤ k1 → ArmsSuit c) → (rest_if b j m c).point.mask ≤ k1 → ArmsSuit (rest_if b j m c)
    rest_suits false j m c h top = record { made = none_suited; pending = λ y i. absurd i }
    rest_suits true j m c h top = h top

    else_suits : {own : Option ℕ} {c : Converted} → Suits own c → ArmsSuit c
    else_suits s = record { made = s.made; pending = s.fit.pending }

    mutual
      pub part_suits : (own : Option ℕ) (q : Part) (p : MaskPoint) → IsLoopless q → IsFree q → Fit own p → p.jump + jumps_in p.skips q ≤ mid → (converted line true own q p).point.mask ≤ k1 → Suits own (converted line true own q p)
      part_suits own (Run g) p h f fit n e = by p.skips
        where
          by : (b : Bool) → Suits own (unless_skipped b p (record { made = Kept p.guard g ∷ []; point = p }))
          by true = record { made = none_suited; fit = fit }
          by false = record { made = one_suited (Kept p.guard g) (fit.guard, h, f); fit = fit }
      part_suits own (Turns l ps) p h f fit n e = absurd h
      part_suits own (Choice bs other) p h f fit n e =
          by p.skips n e
          (λ n top. suit_arms bs (has_parts other) (jumps_in_parts false other) (λ g j m. converted_parts line true g other (entered g j m))
          (λ g j m u b l k n top. else_suits (parts_suit g other (entered g j m) h.2 f.1 (entered_fits g j m u b l k) n top)) (λ g j m. masks_rise_parts line true g other (entered g j m))
          p.guard p.jump p.mask h.1 f.0 fit.guard fit.guard_below fit.jumps fit.masks n top)
        where
          by : (b : Bool) → p.jump + unless b (jumps_in_branches bs + jumps_in_parts false other) ≤ mid → (unless_skipped b p (choice_at true own (jumps_in_branches bs + jumps_in_parts false other) p (arms bs other))).point.mask ≤ k1
              → (p.jump + (jumps_in_branches bs + jumps_in_parts false other) ≤ mid → (arms bs other p.guard p.jump p.mask).point.mask ≤ k1 → ArmsSuit (arms bs other p.guard p.jump p.mask))
              → Suits own (unless_skipped b p (choice_at true own (jumps_in_branches bs + jumps_in_parts false other) p (arms bs other)))
          by true n e suit = record { made = none_suited; fit = fit }
          by false n e suit =
              let c = arms bs other p.guard p.jump p.mask in
              let rise = masks_rise_branches line bs (has_parts other) (λ g j m. converted_parts line true g other (entered g j m)) (λ g j m. masks_rise_parts line true g other (entered g j m)) p.guard p.jump p.mask in
              let count = counts_branches line bs other p.guard p.jump p.mask in
              let up = rejoined_mask line own p c.point.pending c.point.jump c.point.mask in
              let a = suit n (omega (arith, up, e)) in
              let low_jump = fit.jumps in
              let r = rejoins_suit own p c.point.pending c.point.jump c.point.mask order fit rise a.pending (omega (arith, count, low_jump)) e in
              record { made = both_suited c.made _ a.made r.made; fit = r.fit }
      part_suits own (Label k) p h f fit n e =
          resumes_suit own (filter (is_left k) p.pending) p.jump p.mask order fit.block fit.own_below (λ l i. fit.pending l (in_filter (is_left k) p.pending l i).0) fit.jumps fit.masks e
      part_suits own (Jump k) p h f fit n e = by p.skips n e
        where
          by : (b : Bool) → p.jump + unless b 1 ≤ mid → (unless_skipped b p (jump_made true k p)).point.mask ≤ k1 → Suits own (unless_skipped b p (jump_made true k p))
          by true n e = record { made = none_suited; fit = fit }
          by false n e =
              let low_jump = fit.jumps in
              let mid_mask = fit.masks in
              let there : IsThere k0 k1 low mid p.jump = (omega (arith, first, low_jump), omega (arith, n, mid_mask, e)) in
              let under : p.jump < mid = omega (arith, n) in
              record {
                made = one_suited (Leaves p.guard p.jump) (fit.guard, (there, (low_jump, under)));
                fit = record {
                  block = fit.block;
                  guard = fit.guard;
                  pending = both_jump p.pending (record { mask = p.jump; label = k } ∷ []) fit.pending (one_jump (record { mask = p.jump; label = k }) (there, under));
                  jumps = omega (arith, low_jump);
                  masks = fit.masks;
                  own_below = fit.own_below;
                  guard_below = fit.guard_below;
                };
              }

      pub parts_suit : (own : Option ℕ) (ps : Parts) (p : MaskPoint) → AreLoopless ps → AreFree ps → Fit own p → p.jump + jumps_in_parts p.skips ps ≤ mid → (converted_parts line true own ps p).point.mask ≤ k1 → Suits own (converted_parts line true own ps p)
      parts_suit own no_parts p h f fit n e = record { made = none_suited; fit = fit }
      parts_suit own (part q ps) p h f fit n e =
          let c = converted line true own q p in
          let up = masks_rise_parts line true own ps c.point in
          let a = part_suits own q p h.0 f.0 fit (omega (arith, n)) (omega (arith, up, e)) in
          let count = counts line own q p in
          let skips = skips_are line true own q p in
          let more : c.point.jump + jumps_in_parts c.point.skips ps ≤ mid = subst (λ s. c.point.jump + jumps_in_parts s ps ≤ mid) (sym skips) (omega (arith, n, count)) in
          let b = parts_suit own ps c.point h.1 f.1 a.fit more e in
          record { made = both_suited c.made _ a.made b.made; fit = b.fit }

      suit_arms : (bs : Branches) (behind : Bool) (n : ℕ) (other : Option ℕ → ℕ → ℕ → Converted)
          → ((g : Option ℕ) (j m : ℕ) → IsUsed k0 k1 low mid g → Below g m → low ≤ j → mid ≤ m → j + n ≤ mid → (other g j m).point.mask ≤ k1 → ArmsSuit (other g j m)) → ((g : Option ℕ) (j m : ℕ) → m ≤ (other g j m).point.mask)
          → (g : Option ℕ) (j m : ℕ) → BranchesAreLoopless bs → BranchesAreFree bs → IsUsed k0 k1 low mid g → Below g m → low ≤ j → mid ≤ m
          → j + (jumps_in_branches bs + n) ≤ mid → (converted_branches line bs behind other g j m).point.mask ≤ k1 → ArmsSuit (converted_branches line bs behind other g j m)
      suit_arms no_branches behind n other o r g j m h f u b l k small top = o g j m u b l k (omega (arith, small)) top
      suit_arms (branch test ps bs) behind n other o r g j m h f u b l k small top =
          let arm = converted_parts line true (Some m) ps (entered (Some m) j (suc m)) in
          let within = converted_branches line bs behind other (Some arm.point.mask) arm.point.jump (suc arm.point.mask) in
          let under = rest_under g arm.point.mask m within in
          let more = rest_if (has_rest bs behind) arm.point.jump arm.point.mask under in
          let rise = masks_rise_parts line true (Some m) ps (entered (Some m) j (suc m)) in
          let count = counts_parts line (Some m) ps (entered (Some m) j (suc m)) in
          let up = masks_rise_branches line bs behind other r (Some arm.point.mask) arm.point.jump (suc arm.point.mask) in
          let all = rest_mask line (has_rest bs behind) arm.point.jump arm.point.mask under (omega (arith, up)) in
          let new = new_guard m k (omega (arith, rise, all, top)) order in
          let a = parts_suit (Some m) ps (entered (Some m) j (suc m)) h.0 f.1 (entered_fits (Some m) j (suc m) (as_guard m new) (omega arith) l (omega (arith, k))) (omega (arith, small)) (omega (arith, all, top)) in
          let below = below_more g m arm.point.mask (omega (arith, rise)) b in
          let r = rest_suits (has_rest bs behind) arm.point.jump arm.point.mask under
          (λ t. under_rest g m arm.point.mask within u below new (omega (arith, rise)) (omega (arith, k, rise)) up t
          (suit_arms bs behind n other o r (Some arm.point.mask) arm.point.jump (suc arm.point.mask) h.1 f.2 (as_guard arm.point.mask (new_guard arm.point.mask (omega (arith, k, rise)) (omega (arith, up, t)) order)) (omega arith)
          (omega (arith, l, count)) (omega (arith, k, rise)) (omega (arith, small, count)) t)) top in
          record {
            made = first_suited (Asks g m (Test test)) (arm.made ++ more.made) (u, new, f.0, not_guard g m b, tt) (both_suited arm.made more.made a.made r.made);
            pending = both_jump arm.point.pending more.point.pending a.fit.pending r.pending;
          }

    pub arms_suit : (bs : Branches) (other : Parts) (g : Option ℕ) (j m : ℕ) → BranchesAreLoopless bs → AreLoopless other → BranchesAreFree bs → AreFree other → IsUsed k0 k1 low mid g → Below g m → low ≤ j → mid ≤ m
        → j + (jumps_in_branches bs + jumps_in_parts false other) ≤ mid → (arms bs other g j m).point.mask ≤ k1 → ArmsSuit (arms bs other g j m)
    arms_suit bs other g j m h o f e u b l k n top =
        suit_arms bs (has_parts other) (jumps_in_parts false other) (λ g j m. converted_parts line true g other (entered g j m))
        (λ g j m u b l k n top. else_suits (parts_suit g other (entered g j m) o e (entered_fits g j m u b l k) n top)) (λ g j m. masks_rise_parts line true g other (entered g j m))
        g j m h f u b l k n top
