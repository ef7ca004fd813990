-- No more jumps are under way than masks were made.
use Rattle.std.proofs.Common.{◌≡◌, refl, ◌∙◌, ℕ, suc, ◌+◌, ◌≤◌, Bool, true, false, cond, List, [], ◌∷◌, ◌++◌, filter, length, length-append, Option, Some, None, arith}
use Rattle.nest.specs.Plain.{Part, Run, Turns, Choice, Label, Jump, Parts, no_parts, part, Branches, no_branches, branch}
use Rattle.if_convert.specs.Converted.{around_loop, choice_at, converted, converted_branches, converted_parts, has_parts, has_rest, rest_if, rest_under}
use Rattle.if_convert.specs.Jumps.{jumps_in_branches, jumps_in_parts}
use Rattle.if_convert.specs.Masks.{Kept}
use Rattle.if_convert.specs.Points.{Converted, entered, is_left, jump_made, numbered_jumps, rejoined, resumed, unless_skipped}
use Rattle.if_convert.specs.declared.points.Jumped.{Jumped}
use Rattle.if_convert.specs.declared.points.MaskPoint.{MaskPoint}
use Rattle.prepared_passes.proofs.ConvertedNests.Rising.{counts_branches, masks_rise_branches, masks_rise_parts, rejoined_mask}

pub fewer : {X : Type 0} (f : X → Bool) (xs : List X) → length (filter f xs) ≤ length xs
fewer f [] = omega arith
fewer f (x ∷ xs) = by (f x) (fewer f xs)
  where
    by : (b : Bool) → length (filter f xs) ≤ length xs → length (cond b (x ∷ filter f xs) (filter f xs)) ≤ suc (length xs)
    by true h = omega (arith, h)
    by false h = omega (arith, h)

pub resumed_few : (own : Option ℕ) (ls : List Jumped) (j k : ℕ) → length (resumed own ls j k).point.pending ≡ length ls
resumed_few own [] j k = refl
resumed_few own (l ∷ ls) j k = refl

pub rejoined_few : (own : Option ℕ) (p : MaskPoint) (ls : List Jumped) (j k : ℕ) → length (rejoined own p ls j k).point.pending ≡ length p.pending + length ls
rejoined_few own p [] j k = omega arith
rejoined_few own p (l ∷ ls) j k = resumed_few own (p.pending ++ (l ∷ ls)) j k ∙ length-append p.pending (l ∷ ls)

pub resumed_jump : (own : Option ℕ) (ls : List Jumped) (j k : ℕ) → (resumed own ls j k).point.jump ≡ j
resumed_jump own [] j k = refl
resumed_jump own (l ∷ ls) j k = refl

pub rejoined_jump : (own : Option ℕ) (p : MaskPoint) (ls : List Jumped) (j k : ℕ) → (rejoined own p ls j k).point.jump ≡ j
rejoined_jump own p [] j k = refl
rejoined_jump own p (l ∷ ls) j k = resumed_jump own (p.pending ++ (l ∷ ls)) j k

-- in an IF each has a number of its own
abbrev pub Less : MaskPoint → Converted → Type 0
Less p c = length c.point.pending + p.jump ≤ length p.pending + c.point.jump

less_by : (b : Bool) (p : MaskPoint) (c : Converted) → Less p c → Less p (unless_skipped b p c)
less_by true p c h = omega arith
less_by false p c h = h

module _ (line : ℕ) where
  abbrev pub arms : Branches → Parts → Option ℕ → ℕ → ℕ → Converted
  arms bs other = converted_branches line bs (has_parts other) (λ g j m. converted_parts line true g other (entered g j m))

  rest_less : (b : Bool) (j m : ℕ) (c : Converted) → length c.point.pending + j ≤ c.point.jump → length (rest_if b j m c).point.pending + j ≤ (rest_if b j m c).point.jump
  rest_less false j m c h = omega arith
  rest_less true j m c h = h

  mutual
    pub part_less : (own : Option ℕ) (q : Part) (p : MaskPoint) → Less p (converted line true own q p)
    part_less own (Run g) p = less_by p.skips p (record { made = Kept p.guard g ∷ []; point = p }) (omega arith)
    part_less own (Turns l ps) p = less_by p.skips p (around_loop line l p (converted_parts line false None ps (entered None p.mask p.mask))) (omega arith)
    part_less own (Choice bs other) p =
        let n = jumps_in_branches bs + jumps_in_parts false other in
        let c = arms bs other p.guard p.jump p.mask in
        let a = less_arms bs (has_parts other) (λ g j m. converted_parts line true g other (entered g j m)) (λ g j m. let z = parts_less g other (entered g j m) in omega (arith, z)) p.guard p.jump p.mask in
        let e = rejoined_few own p c.point.pending c.point.jump c.point.mask in
        let f = rejoined_jump own p c.point.pending c.point.jump c.point.mask in
        less_by p.skips p (choice_at true own n p (arms bs other)) (omega (arith, a, e, f))
    part_less own (Label k) p =
        let e = resumed_few own (filter (is_left k) p.pending) p.jump p.mask in
        let f = resumed_jump own (filter (is_left k) p.pending) p.jump p.mask in
        let l = fewer (is_left k) p.pending in
        omega (arith, e, f, l)
    part_less own (Jump k) p =
        let e = length-append p.pending (record { mask = p.jump; label = k } ∷ []) in
        less_by p.skips p (jump_made true k p) (omega (arith, e))

    pub parts_less : (own : Option ℕ) (ps : Parts) (p : MaskPoint) → Less p (converted_parts line true own ps p)
    parts_less own no_parts p = omega arith
    parts_less own (part q ps) p =
        let a = part_less own q p in
        let b = parts_less own ps (converted line true own q p).point in
        omega (arith, a, b)

    less_arms : (bs : Branches) (rest : Bool) (other : Option ℕ → ℕ → ℕ → Converted) → ((g : Option ℕ) (j m : ℕ) → length (other g j m).point.pending + j ≤ (other g j m).point.jump)
        → (g : Option ℕ) (j m : ℕ) → length (converted_branches line bs rest other g j m).point.pending + j ≤ (converted_branches line bs rest other g j m).point.jump
    less_arms no_branches rest other h g j m = h g j m
    less_arms (branch test ps bs) rest other h g j m =
        let arm = converted_parts line true (Some m) ps (entered (Some m) j (suc m)) in
        let under = rest_under g arm.point.mask m (converted_branches line bs rest other (Some arm.point.mask) arm.point.jump (suc arm.point.mask)) in
        let more = rest_if (has_rest bs rest) arm.point.jump arm.point.mask under in
        let a = parts_less (Some m) ps (entered (Some m) j (suc m)) in
        let b = rest_less (has_rest bs rest) arm.point.jump arm.point.mask under (less_arms bs rest other h (Some arm.point.mask) arm.point.jump (suc arm.point.mask)) in
        let e = length-append arm.point.pending more.point.pending in
        omega (arith, a, b, e)

  pub arms_less : (bs : Branches) (other : Parts) (g : Option ℕ) (j m : ℕ) → length (arms bs other g j m).point.pending + j ≤ (arms bs other g j m).point.jump
  arms_less bs other g j m =
      less_arms bs (has_parts other) (λ g j m. converted_parts line true g other (entered g j m)) (λ g j m. let a = parts_less g other (entered g j m) in omega (arith, a)) g j m

  -- in a loop's body they are no more than the masks so far
  pub part_few : (q : Part) (p : MaskPoint) → length p.pending ≤ p.mask → length (converted line false None q p).point.pending ≤ (converted line false None q p).point.mask
  part_few (Run g) p h = by p.skips
    where
      by : (b : Bool) → length (unless_skipped b p (record { made = Kept p.guard g ∷ []; point = p })).point.pending ≤ (unless_skipped b p (record { made = Kept p.guard g ∷ []; point = p })).point.mask
      by true = h
      by false = h
  part_few (Turns l ps) p h = by p.skips
    where
      by : (b : Bool) → length (unless_skipped b p (around_loop line l p (converted_parts line false None ps (entered None p.mask p.mask)))).point.pending ≤ (unless_skipped b p (around_loop line l p (converted_parts line false None ps (entered None p.mask p.mask)))).point.mask
      by true = h
      by false = let r = masks_rise_parts line false None ps (entered None p.mask p.mask) in omega (arith, h, r)
  part_few (Choice bs other) p h = by p.skips
    where
      n : ℕ
      n = jumps_in_branches bs + jumps_in_parts false other

      by : (b : Bool) → length (unless_skipped b p (choice_at false None n p (arms bs other))).point.pending ≤ (unless_skipped b p (choice_at false None n p (arms bs other))).point.mask
      by true = h
      by false =
          let q = numbered_jumps false n p in
          let c = arms bs other q.guard q.jump q.mask in
          let a = arms_less bs other q.guard q.jump q.mask in
          let e = rejoined_few None q c.point.pending c.point.jump c.point.mask in
          let count = counts_branches line bs other q.guard q.jump q.mask in
          let rise = masks_rise_branches line bs (has_parts other) (λ g j m. converted_parts line true g other (entered g j m)) (λ g j m. masks_rise_parts line true g other (entered g j m)) q.guard q.jump q.mask in
          let up = rejoined_mask line None q c.point.pending c.point.jump c.point.mask in
          omega (arith, h, a, e, count, rise, up)
  part_few (Label k) p h =
      let e = resumed_few None (filter (is_left k) p.pending) p.jump p.mask in
      let l = fewer (is_left k) p.pending in
      by (filter (is_left k) p.pending) (omega (arith, h, l))
    where
      by : (ls : List Jumped) → length ls ≤ p.mask → length (resumed None ls p.jump p.mask).point.pending ≤ (resumed None ls p.jump p.mask).point.mask
      by [] g = omega arith
      by (l ∷ ls) g = omega (arith, g)
  part_few (Jump k) p h = by p.skips
    where
      by : (b : Bool) → length (unless_skipped b p (jump_made false k (numbered_jumps false 1 p))).point.pending ≤ (unless_skipped b p (jump_made false k (numbered_jumps false 1 p))).point.mask
      by true = h
      by false = let e = length-append p.pending (record { mask = p.mask; label = k } ∷ []) in omega (arith, h, e)
