-- The numbers of jumps rise by the jumps that get masks.
use Rattle.std.proofs.Common.{◌≡◌, refl, subst, ◌∙◌, sym, ℕ, suc, ◌+◌, ◌≤◌, Bool, true, false, true≢false, Option, Some, None, List, [], ◌∷◌, ◌++◌, arith}
use Rattle.nest.specs.Plain.{Part, Run, Turns, Choice, Label, Jump, Parts, no_parts, part, Branches, no_branches, branch}
use Rattle.if_convert.specs.Converted.{converted, converted_parts, converted_branches, choice_at, around_loop, rest_if, rest_under, has_rest, has_parts}
use Rattle.if_convert.specs.Jumps.{jumps_in, jumps_in_parts, jumps_in_branches, skips_behind, unless}
use Rattle.if_convert.specs.Masks.{Kept}
use Rattle.if_convert.specs.Points.{Converted, entered, resumed, rejoined, unless_skipped, jump_made, numbered_jumps}
use Rattle.if_convert.specs.declared.points.Jumped.{Jumped}
use Rattle.if_convert.specs.declared.points.MaskPoint.{MaskPoint}

pub resumed_jump : (own : Option ℕ) (ls : List Jumped) (j k : ℕ) → (resumed own ls j k).point.jump ≡ j
resumed_jump own [] j k = refl
resumed_jump own (l ∷ ls) j k = refl

pub rejoined_jump : (own : Option ℕ) (p : MaskPoint) (ls : List Jumped) (j k : ℕ) → (rejoined own p ls j k).point.jump ≡ j
rejoined_jump own p [] j k = refl
rejoined_jump own p (l ∷ ls) j k = resumed_jump own (p.pending ++ (l ∷ ls)) j k

resumed_skips : (own : Option ℕ) (ls : List Jumped) (j k : ℕ) → (resumed own ls j k).point.skips ≡ false
resumed_skips own [] j k = refl
resumed_skips own (l ∷ ls) j k = refl

rejoined_skips : (own : Option ℕ) (p : MaskPoint) (ls : List Jumped) (j k : ℕ) → (rejoined own p ls j k).point.skips ≡ false
rejoined_skips own p [] j k = refl
rejoined_skips own p (l ∷ ls) j k = resumed_skips own (p.pending ++ (l ∷ ls)) j k

module _ (line : ℕ) where
  -- ---- what is left out

  still : (b : Bool) (p : MaskPoint) (c : Converted) → p.skips ≡ b → c.point.skips ≡ p.skips → (unless_skipped b p c).point.skips ≡ p.skips
  still true p c e h = refl
  still false p c e h = h

  pub skips_are : (deep : Bool) (own : Option ℕ) (q : Part) (p : MaskPoint) → (converted line deep own q p).point.skips ≡ skips_behind p.skips q
  skips_are deep own (Run g) p = still p.skips p (record { made = Kept p.guard g ∷ []; point = p }) refl refl
  skips_are deep own (Turns l ps) p = still p.skips p (around_loop line l p (converted_parts line false None ps (entered None p.mask p.mask))) refl refl
  skips_are deep own (Choice bs other) p = by p.skips refl
    where
      n : ℕ
      n = jumps_in_branches bs + jumps_in_parts false other

      arms : Option ℕ → ℕ → ℕ → Converted
      arms = converted_branches line bs (has_parts other) (λ g j m. converted_parts line true g other (entered g j m))

      by : (b : Bool) → p.skips ≡ b → (unless_skipped b p (choice_at deep own n p arms)).point.skips ≡ p.skips
      by true e = refl
      by false e =
          let q = numbered_jumps deep n p in
          let c = arms q.guard q.jump q.mask in
          rejoined_skips own q c.point.pending c.point.jump c.point.mask ∙ sym e
  skips_are deep own (Label k) p = resumed_skips own _ p.jump p.mask
  skips_are deep own (Jump k) p = by p.skips refl
    where
      by : (b : Bool) → p.skips ≡ b → (unless_skipped b p (jump_made deep k (numbered_jumps deep 1 p))).point.skips ≡ true
      by true e = e
      by false e = refl

  -- ---- the numbers of jumps in an IF

  more_by : (b : Bool) (p : MaskPoint) (c : Converted) (n : ℕ) → c.point.jump ≡ p.jump + n → (unless_skipped b p c).point.jump ≡ p.jump + unless b n
  more_by true p c n h = omega arith
  more_by false p c n h = h

  -- so many jumps stand in the rest, and none where there is no rest
  none_in : (ps : Parts) → has_parts ps ≡ false → jumps_in_parts false ps ≡ 0
  none_in no_parts e = refl
  none_in (part q ps) e = absurd (true≢false e)

  none_behind : (bs : Branches) (rest : Bool) (n : ℕ) → (rest ≡ false → n ≡ 0) → has_rest bs rest ≡ false → jumps_in_branches bs + n ≡ 0
  none_behind no_branches rest n z e = let f = z e in omega (arith, f)
  none_behind (branch test ps bs) rest n z e = absurd (true≢false e)

  rest_counts : (b : Bool) (n j m : ℕ) (c : Converted) → (b ≡ false → n ≡ 0) → c.point.jump ≡ j + n → (rest_if b j m c).point.jump ≡ j + n
  rest_counts false n j m c z h = let f = z refl in omega (arith, f)
  rest_counts true n j m c z h = h

  mutual
    pub counts : (own : Option ℕ) (q : Part) (p : MaskPoint) → (converted line true own q p).point.jump ≡ p.jump + jumps_in p.skips q
    counts own (Run g) p = same p.skips
      where
        same : (b : Bool) → (unless_skipped b p (record { made = Kept p.guard g ∷ []; point = p })).point.jump ≡ p.jump + 0
        same true = omega arith
        same false = omega arith
    counts own (Turns l ps) p = same p.skips
      where
        same : (b : Bool) → (unless_skipped b p (around_loop line l p (converted_parts line false None ps (entered None p.mask p.mask)))).point.jump ≡ p.jump + 0
        same true = omega arith
        same false = omega arith
    counts own (Choice bs other) p =
        let c = converted_branches line bs (has_parts other) (λ g j m. converted_parts line true g other (entered g j m)) p.guard p.jump p.mask in
        more_by p.skips p (choice_at true own (jumps_in_branches bs + jumps_in_parts false other) p (converted_branches line bs (has_parts other) (λ g j m. converted_parts line true g other (entered g j m))))
        (jumps_in_branches bs + jumps_in_parts false other)
        (rejoined_jump own p c.point.pending c.point.jump c.point.mask
        ∙ counts_arms bs (has_parts other) (jumps_in_parts false other) (λ g j m. converted_parts line true g other (entered g j m)) (λ g j m. counts_parts g other (entered g j m)) (none_in other) p.guard p.jump p.mask)
    counts own (Label k) p = let e = resumed_jump own _ p.jump p.mask in e ∙ omega arith
    counts own (Jump k) p = more_by p.skips p (jump_made true k p) 1 (omega arith)

    pub counts_parts : (own : Option ℕ) (ps : Parts) (p : MaskPoint) → (converted_parts line true own ps p).point.jump ≡ p.jump + jumps_in_parts p.skips ps
    counts_parts own no_parts p = omega arith
    counts_parts own (part q ps) p =
        let a = counts own q p in
        let p2 = (converted line true own q p).point in
        let b : (converted_parts line true own ps p2).point.jump ≡ p2.jump + jumps_in_parts (skips_behind p.skips q) ps = subst (λ s. (converted_parts line true own ps p2).point.jump ≡ p2.jump + jumps_in_parts s ps) (skips_are true own q p) (counts_parts own ps p2) in
        omega (arith, a, b)

    counts_arms : (bs : Branches) (rest : Bool) (n : ℕ) (other : Option ℕ → ℕ → ℕ → Converted) → ((g : Option ℕ) (j m : ℕ) → (other g j m).point.jump ≡ j + n) → (rest ≡ false → n ≡ 0)
        → (g : Option ℕ) (j m : ℕ) → (converted_branches line bs rest other g j m).point.jump ≡ j + (jumps_in_branches bs + n)
    counts_arms no_branches rest n other h z g j m = let e = h g j m in omega (arith, e)
    counts_arms (branch test ps bs) rest n other h z g j m =
        let arm = converted_parts line true (Some m) ps (entered (Some m) j (suc m)) in
        let a = counts_parts (Some m) ps (entered (Some m) j (suc m)) in
        let b = counts_arms bs rest n other h z (Some arm.point.mask) arm.point.jump (suc arm.point.mask) in
        let c = rest_counts (has_rest bs rest) (jumps_in_branches bs + n) arm.point.jump arm.point.mask (rest_under g arm.point.mask m (converted_branches line bs rest other (Some arm.point.mask) arm.point.jump (suc arm.point.mask)))
        (none_behind bs rest n z) b in
        omega (arith, a, c)

  pub counts_branches : (bs : Branches) (other : Parts) (g : Option ℕ) (j m : ℕ)
      → (converted_branches line bs (has_parts other) (λ g j m. converted_parts line true g other (entered g j m)) g j m).point.jump ≡ j + (jumps_in_branches bs + jumps_in_parts false other)
  counts_branches bs other g j m =
      counts_arms bs (has_parts other) (jumps_in_parts false other) (λ g j m. converted_parts line true g other (entered g j m)) (λ g j m. counts_parts g other (entered g j m)) (none_in other) g j m

  -- ---- they rise

  pub rises : (own : Option ℕ) (q : Part) (p : MaskPoint) → p.jump ≤ (converted line true own q p).point.jump
  rises own q p = let e = counts own q p in omega (arith, e)

  pub rises_parts : (own : Option ℕ) (ps : Parts) (p : MaskPoint) → p.jump ≤ (converted_parts line true own ps p).point.jump
  rises_parts own ps p = let e = counts_parts own ps p in omega (arith, e)

  pub rises_rest : (b : Bool) (j m i : ℕ) (c : Converted) → j ≤ c.point.jump → j ≤ (rest_if b j m c).point.jump
  rises_rest false j m i c h = omega arith
  rises_rest true j m i c h = h

  pub rises_branches : (bs : Branches) (rest : Bool) (other : Option ℕ → ℕ → ℕ → Converted) → ((g : Option ℕ) (j m : ℕ) → j ≤ (other g j m).point.jump)
      → (g : Option ℕ) (j m : ℕ) → j ≤ (converted_branches line bs rest other g j m).point.jump
  rises_branches no_branches rest other h g j m = h g j m
  rises_branches (branch test ps bs) rest other h g j m =
      let arm = converted_parts line true (Some m) ps (entered (Some m) j (suc m)) in
      let a = rises_parts (Some m) ps (entered (Some m) j (suc m)) in
      let b = rises_branches bs rest other h (Some arm.point.mask) arm.point.jump (suc arm.point.mask) in
      let c = rises_rest (has_rest bs rest) arm.point.jump arm.point.mask 0 (rest_under g arm.point.mask m (converted_branches line bs rest other (Some arm.point.mask) arm.point.jump (suc arm.point.mask))) b in
      omega (arith, a, c)

  -- ---- the numbers of masks rise

  resumed_mask : (own : Option ℕ) (ls : List Jumped) (j k : ℕ) → k ≤ (resumed own ls j k).point.mask
  resumed_mask own [] j k = omega arith
  resumed_mask own (l ∷ ls) j k = omega arith

  pub rejoined_mask : (own : Option ℕ) (p : MaskPoint) (ls : List Jumped) (j k : ℕ) → k ≤ (rejoined own p ls j k).point.mask
  rejoined_mask own p [] j k = omega arith
  rejoined_mask own p (l ∷ ls) j k = resumed_mask own (p.pending ++ (l ∷ ls)) j k

  mask_by : (b : Bool) (p : MaskPoint) (c : Converted) → p.mask ≤ c.point.mask → p.mask ≤ (unless_skipped b p c).point.mask
  mask_by true p c h = omega arith
  mask_by false p c h = h

  pub numbered_mask : (deep : Bool) (n : ℕ) (p : MaskPoint) → p.mask ≤ (numbered_jumps deep n p).mask
  numbered_mask true n p = omega arith
  numbered_mask false n p = omega arith

  pub rest_mask : (b : Bool) (j m : ℕ) (c : Converted) → m ≤ c.point.mask → m ≤ (rest_if b j m c).point.mask
  rest_mask false j m c h = omega arith
  rest_mask true j m c h = h

  mutual
    pub masks_rise : (deep : Bool) (own : Option ℕ) (q : Part) (p : MaskPoint) → p.mask ≤ (converted line deep own q p).point.mask
    masks_rise deep own (Run g) p = mask_by p.skips p (record { made = Kept p.guard g ∷ []; point = p }) (omega arith)
    masks_rise deep own (Turns l ps) p =
        mask_by p.skips p (around_loop line l p (converted_parts line false None ps (entered None p.mask p.mask))) (masks_rise_parts false None ps (entered None p.mask p.mask))
    masks_rise deep own (Choice bs other) p =
        let n = jumps_in_branches bs + jumps_in_parts false other in
        let q = numbered_jumps deep n p in
        let arms : Option ℕ → ℕ → ℕ → Converted = converted_branches line bs (has_parts other) (λ g j m. converted_parts line true g other (entered g j m)) in
        let c = arms q.guard q.jump q.mask in
        let a = numbered_mask deep n p in
        let b = masks_rise_branches bs (has_parts other) (λ g j m. converted_parts line true g other (entered g j m)) (λ g j m. masks_rise_parts true g other (entered g j m)) q.guard q.jump q.mask in
        let d = rejoined_mask own q c.point.pending c.point.jump c.point.mask in
        mask_by p.skips p (choice_at deep own n p arms) (omega (arith, a, b, d))
    masks_rise deep own (Label k) p = resumed_mask own _ p.jump p.mask
    masks_rise deep own (Jump k) p = mask_by p.skips p (jump_made deep k (numbered_jumps deep 1 p)) (numbered_mask deep 1 p)

    pub masks_rise_parts : (deep : Bool) (own : Option ℕ) (ps : Parts) (p : MaskPoint) → p.mask ≤ (converted_parts line deep own ps p).point.mask
    masks_rise_parts deep own no_parts p = omega arith
    masks_rise_parts deep own (part q ps) p =
        let a = masks_rise deep own q p in
        let b = masks_rise_parts deep own ps (converted line deep own q p).point in
        omega (arith, a, b)

    pub masks_rise_branches : (bs : Branches) (rest : Bool) (other : Option ℕ → ℕ → ℕ → Converted) → ((g : Option ℕ) (j m : ℕ) → m ≤ (other g j m).point.mask)
        → (g : Option ℕ) (j m : ℕ) → m ≤ (converted_branches line bs rest other g j m).point.mask
    masks_rise_branches no_branches rest other h g j m = h g j m
    masks_rise_branches (branch test ps bs) rest other h g j m =
        let arm = converted_parts line true (Some m) ps (entered (Some m) j (suc m)) in
        let a = masks_rise_parts true (Some m) ps (entered (Some m) j (suc m)) in
        let b = masks_rise_branches bs rest other h (Some arm.point.mask) arm.point.jump (suc arm.point.mask) in
        let c = rest_mask (has_rest bs rest) arm.point.jump arm.point.mask (rest_under g arm.point.mask m (converted_branches line bs rest other (Some arm.point.mask) arm.point.jump (suc arm.point.mask))) (omega (arith, b)) in
        omega (arith, a, c)
