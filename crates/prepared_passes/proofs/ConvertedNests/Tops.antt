-- What is made for a part of a loop's body has masks of their kinds.
use Rattle.std.proofs.Common.{sym, subst, inl, inr, ℕ, zero, suc, ◌+◌, ◌<◌, ◌≤◌, Bool, true, false, List, [], ◌∷◌, ◌++◌, filter, Option, Some, None, arith}
use Rattle.nest.specs.Plain.{Part, Run, Turns, Choice, Label, Jump, Parts, Branches}
use Rattle.nest_order.specs.orders.Lists.{In}
use Rattle.if_convert.specs.Converted.{converted, converted_parts, converted_branches, choice_at, has_parts}
use Rattle.if_convert.specs.Jumps.{jumps_in, jumps_in_parts, jumps_in_branches, unless}
use Rattle.if_convert.specs.Masks.{Unleft, Masking, Kept, Asks, Clears, Leaves}
use Rattle.if_convert.specs.Points.{Converted, entered, numbered_jumps, cleared, resumed, is_left, unless_skipped, jump_made}
use Rattle.if_convert.specs.declared.points.Jumped.{Jumped}
use Rattle.if_convert.specs.declared.points.MaskPoint.{MaskPoint}
use Rattle.prepared_passes.proofs.ConvertedNests.Masked.{IsFree, IsJump, IsNewJump, IsSuited, IsThere, IsUsed}
use Rattle.prepared_passes.proofs.ConvertedNests.Moments.{IsLoopless}
use Rattle.prepared_passes.proofs.ConvertedNests.Points.{Below, below_more, in_filter}
use Rattle.prepared_passes.proofs.ConvertedNests.Rising.{counts_branches, masks_rise_branches, masks_rise_parts, rejoined_jump, rejoined_mask}
use Rattle.prepared_passes.proofs.ConvertedNests.Suiting.{Fit, arms_suit, both_jump, both_suited, first_suited, one_suited, one_jump, rejoins_suit}

abbrev pub IsFrom : ℕ → Option ℕ → Type 0
IsFrom k None = Unit {0}
IsFrom k (Some i) = k ≤ i

-- at a point of a loop's body
pub record IsTop (k0 : ℕ) (p : MaskPoint) : Type 0 where
  pub start : k0 ≤ p.mask
  pub ordered : p.jump ≤ p.mask
  pub guard : IsFrom k0 p.guard
  pub guard_below : Below p.guard p.mask
  pub pending : (l : Jumped) → In l p.pending → (k0 ≤ l.mask) × (l.mask < p.mask)

module _ (line k0 k1 : ℕ) where
  -- what is made for it, with n jumps
  pub record TopSuits (p : MaskPoint) (n : ℕ) (c : Converted) : Type 0 where
    pub made : (m : Masking) → In m c.made → IsSuited k0 k1 p.mask (p.mask + n) m
    pub guard : IsUsed k0 k1 p.mask (p.mask + n) c.point.guard
    pub pending : (l : Jumped) → In l c.point.pending → IsJump k0 k1 p.mask (p.mask + n) l.mask
    pub ordered : c.point.jump ≤ c.point.mask
    pub below : Below c.point.guard c.point.mask
    pub room : p.mask + n ≤ c.point.mask

  guard_used : (g : Option ℕ) (m n : ℕ) → IsFrom k0 g → Below g m → m ≤ k1 → IsUsed k0 k1 m (m + n) g
  guard_used None m n h b e = tt
  guard_used (Some i) m n h b e = ((h, omega (arith, b, e)), inl b)

  pending_jumps : (ls : List Jumped) (m n : ℕ) → ((l : Jumped) → In l ls → (k0 ≤ l.mask) × (l.mask < m)) → m ≤ k1 → (l : Jumped) → In l ls → IsJump k0 k1 m (m + n) l.mask
  pending_jumps ls m n h e l i = let z = h l i in let b = z.1 in ((z.0, omega (arith, b, e)), omega (arith, b))

  unchanged_suits : (p : MaskPoint) → IsTop k0 p → p.mask ≤ k1 → (ms : List Masking) → ((m : Masking) → In m ms → IsSuited k0 k1 p.mask (p.mask + 0) m) → TopSuits p 0 (record { made = ms; point = p })
  unchanged_suits p h e ms made = record {
    made = made;
    guard = guard_used p.guard p.mask 0 h.guard h.guard_below e;
    pending = pending_jumps p.pending p.mask 0 h.pending e;
    ordered = h.ordered;
    below = h.guard_below;
    room = omega arith;
  }

  cleared_suit : (low mid : ℕ) → k0 ≤ low → mid ≤ k1 → (n j : ℕ) → low ≤ j → j + n ≤ mid → (m : Masking) → In m (cleared j n) → IsSuited k0 k1 low mid m
  cleared_suit low mid a b zero j h e m i = absurd i
  cleared_suit low mid a b (suc n) j h e m (inl s) = subst (IsSuited k0 k1 low mid) (sym s) ((omega (arith, a, h), omega (arith, b, e)), (h, omega (arith, e)))
  cleared_suit low mid a b (suc n) j h e m (inr i) = cleared_suit low mid a b n (suc j) (omega (arith, h)) (omega (arith, e)) m i

  label_suits : (p : MaskPoint) (ls : List Jumped) → IsTop k0 p → ((l : Jumped) → In l ls → In l p.pending) → (resumed None ls p.jump p.mask).point.mask ≤ k1 → TopSuits p 0 (resumed None ls p.jump p.mask)
  label_suits p [] h sub e = record { made = λ m i. absurd i; guard = tt; pending = λ l i. absurd i; ordered = h.ordered; below = tt; room = omega arith }
  label_suits p (l ∷ ls) h sub e =
      let s = h.start in
      let o = h.ordered in
      let there : IsThere k0 k1 p.mask (p.mask + 0) p.mask = (s, omega (arith, e)) in
      let jumps = pending_jumps (l ∷ ls) p.mask 0 (λ x i. h.pending x (sub x i)) (omega (arith, e)) in
      record {
        made = one_suited line k0 k1 p.mask (p.mask + 0) s (Asks None p.mask (Unleft (l ∷ ls))) (tt, (there, omega arith), jumps, tt, tt);
        guard = (there, inr (omega arith));
        pending = jumps;
        ordered = omega (arith, o);
        below = omega arith;
        room = omega arith;
      }

  abbrev arms : Branches → Parts → Option ℕ → ℕ → ℕ → Converted
  arms bs other = converted_branches line bs (has_parts other) (λ g j m. converted_parts line true g other (entered g j m))

  entered_suits : (bs : Branches) (other : Parts) (p : MaskPoint) → IsLoopless (Choice bs other) → IsFree (Choice bs other) → IsTop k0 p
      → (choice_at false None (jumps_in_branches bs + jumps_in_parts false other) p (arms bs other)).point.mask ≤ k1
      → TopSuits p (jumps_in_branches bs + jumps_in_parts false other) (choice_at false None (jumps_in_branches bs + jumps_in_parts false other) p (arms bs other))
  entered_suits bs other p h f top e =
      let n = jumps_in_branches bs + jumps_in_parts false other in
      let low = p.mask in
      let mid = p.mask + n in
      let s = top.start in
      let q = numbered_jumps false n p in
      let c = arms bs other q.guard q.jump q.mask in
      let rise = masks_rise_branches line bs (has_parts other) (λ g j m. converted_parts line true g other (entered g j m)) (λ g j m. masks_rise_parts line true g other (entered g j m)) q.guard q.jump q.mask in
      let count = counts_branches line bs other q.guard q.jump q.mask in
      let up = rejoined_mask line None q c.point.pending c.point.jump c.point.mask in
      let jump = rejoined_jump None q c.point.pending c.point.jump c.point.mask in
      let order : low ≤ mid = omega arith in
      let used = guard_used p.guard p.mask n top.guard top.guard_below (omega (arith, rise, up, e)) in
      let below = below_more p.guard low mid order top.guard_below in
      let fit : Fit line k0 k1 low mid s None q = record {
        block = tt;
        guard = used;
        pending = pending_jumps p.pending p.mask n top.pending (omega (arith, rise, up, e));
        jumps = omega arith;
        masks = omega arith;
        own_below = tt;
        guard_below = below;
      } in
      let a = arms_suit line k0 k1 low mid s order bs other q.guard q.jump q.mask h.1 h.2 f.0 f.1 used below (omega arith) (omega arith) (omega arith) (omega (arith, up, e)) in
      let r = rejoins_suit line k0 k1 low mid s None q c.point.pending c.point.jump c.point.mask order fit rise a.pending (omega (arith, count)) e in
      record {
        made = both_suited line k0 k1 low mid s (cleared low n ++ c.made) _ (both_suited line k0 k1 low mid s (cleared low n) c.made (cleared_suit low mid s (omega (arith, rise, up, e)) n low (omega arith) (omega arith)) a.made) r.made;
        guard = r.fit.guard;
        pending = r.fit.pending;
        ordered = omega (arith, jump, count, rise, up);
        below = r.fit.guard_below;
        room = omega (arith, rise, up);
      }

  gone_suits : (k : ℕ) (p : MaskPoint) → IsTop k0 p → (jump_made false k (numbered_jumps false 1 p)).point.mask ≤ k1 → TopSuits p 1 (jump_made false k (numbered_jumps false 1 p))
  gone_suits k p top e =
      let low = p.mask in
      let mid = p.mask + 1 in
      let s = top.start in
      let new : IsNewJump k0 k1 low mid low = ((s, omega (arith, e)), (omega arith, omega arith)) in
      let used = guard_used p.guard p.mask 1 top.guard top.guard_below (omega (arith, e)) in
      record {
        made = first_suited line k0 k1 low mid s (Clears low) (Leaves p.guard low ∷ []) new (one_suited line k0 k1 low mid s (Leaves p.guard low) (used, new));
        guard = used;
        pending = both_jump line k0 k1 low mid s p.pending (record { mask = low; label = k } ∷ []) (pending_jumps p.pending p.mask 1 top.pending (omega (arith, e)))
            (one_jump line k0 k1 low mid s (record { mask = low; label = k }) (new.0, omega arith));
        ordered = omega arith;
        below = below_more p.guard low mid (omega arith) top.guard_below;
        room = omega arith;
      }

  pub top_suits : (q : Part) (p : MaskPoint) → IsLoopless q → IsFree q → IsTop k0 p → p.mask ≤ k1 → (converted line false None q p).point.mask ≤ k1 → TopSuits p (jumps_in p.skips q) (converted line false None q p)
  top_suits (Run g) p h f top low e = by p.skips
    where
      by : (b : Bool) → TopSuits p 0 (unless_skipped b p (record { made = Kept p.guard g ∷ []; point = p }))
      by true = unchanged_suits p top low [] (λ m i. absurd i)
      by false = unchanged_suits p top low (Kept p.guard g ∷ []) (one_suited line k0 k1 p.mask (p.mask + 0) top.start (Kept p.guard g) (guard_used p.guard p.mask 0 top.guard top.guard_below low, h, f))
  top_suits (Turns l ps) p h f top low e = absurd h
  top_suits (Choice bs other) p h f top low e = by p.skips e
    where
      n : ℕ
      n = jumps_in_branches bs + jumps_in_parts false other

      by : (b : Bool) → (unless_skipped b p (choice_at false None n p (arms bs other))).point.mask ≤ k1 → TopSuits p (unless b n) (unless_skipped b p (choice_at false None n p (arms bs other)))
      by true e = unchanged_suits p top low [] (λ m i. absurd i)
      by false e = entered_suits bs other p h f top e
  top_suits (Label k) p h f top low e = label_suits p (filter (is_left k) p.pending) top (λ l i. (in_filter (is_left k) p.pending l i).0) e
  top_suits (Jump k) p h f top low e = by p.skips e
    where
      by : (b : Bool) → (unless_skipped b p (jump_made false k (numbered_jumps false 1 p))).point.mask ≤ k1 → TopSuits p (unless b 1) (unless_skipped b p (jump_made false k (numbered_jumps false 1 p)))
      by true e = unchanged_suits p top low [] (λ m i. absurd i)
      by false e = gone_suits k p top e

  used_from : (low mid : ℕ) (g : Option ℕ) → IsUsed k0 k1 low mid g → IsFrom k0 g
  used_from low mid None u = tt
  used_from low mid (Some i) u = u.0.0

  -- the point behind it
  pub next_top : (p : MaskPoint) (n : ℕ) (c : Converted) → IsTop k0 p → TopSuits p n c → IsTop k0 c.point
  next_top p n c h s =
      let room = s.room in
      let start = h.start in
      record {
        start = omega (arith, start, room);
        ordered = s.ordered;
        guard = used_from p.mask (p.mask + n) c.point.guard s.guard;
        guard_below = s.below;
        pending = λ l i. (let j = s.pending l i in let b = j.1 in (j.0.0, omega (arith, b, room)));
      }
