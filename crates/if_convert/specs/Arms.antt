-- Lists of parts and of arms, as they stand in memory, and what has been added to parts.
use Rattle.std.specs.Prelude.{◌≡◌, ℕ, suc, Bool, false, true, Option, Some, None, List, ◌∷◌, [], ◌++◌}
use Rattle.nest.specs.Plain.{Part, parts}
use Rattle.nest.specs.View.{Branch, branches}
use Rattle.if_convert.specs.Converted.{converted_parts, converted_branches, has_parts, has_rest, rest_if, rest_under}
use Rattle.if_convert.specs.Jumps.{jumps_in_parts, jumps_in_branches}
use Rattle.if_convert.specs.Masks.{Asks, Other, Test, all_parts_of}
use Rattle.if_convert.specs.Points.{Converted, entered, unchanged}
use Rattle.if_convert.specs.declared.points.MaskPoint.{MaskPoint}

abbrev pub jumps_in_list : Bool → List Part → ℕ
jumps_in_list skips ps = jumps_in_parts skips (parts ps)

abbrev pub jumps_in_arm : Branch → ℕ
jumps_in_arm b = jumps_in_parts false b.body

abbrev pub jumps_in_arms : List Branch → ℕ
jumps_in_arms bs = jumps_in_branches (branches bs)

-- the point behind a block of an IF that ends so, where p was the one before it
abbrev pub followed : MaskPoint → MaskPoint → MaskPoint
followed p end = record {
  guard = p.guard;
  pending = p.pending ++ end.pending;
  skips = p.skips;
  jump = end.jump;
  mask = end.mask;
}

-- the first mask of the rest, where an arm with the mask x stands before it
abbrev pub rest_begun : Option ℕ → MaskPoint → Converted
rest_begun None p = unchanged p
rest_begun (Some x) p = record {
  made = Asks p.guard p.mask (Other x) ∷ [];
  point = record {
    guard = Some p.mask;
    pending = p.pending;
    skips = p.skips;
    jump = p.jump;
    mask = suc p.mask;
  };
}

module _ (line : ℕ) where
  abbrev pub converted_list : Bool → Option ℕ → List Part → MaskPoint → Converted
  converted_list deep own ps p = converted_parts line deep own (parts ps) p

  -- arms, and what stands behind them as the ELSE part
  abbrev pub converted_arms : List Branch → List Part → Option ℕ → ℕ → ℕ → Converted
  converted_arms bs other g j m =
      converted_branches line (branches bs) (has_parts (parts other))
      (λ g j m. converted_parts line true g (parts other) (entered g j m)) g j m

  -- the arms from one on, whose rest has no mask so far where another arm, whose mask is `last`, stands before it
  abbrev pub arms_from : Option ℕ → List Branch → List Part → Option ℕ → ℕ → ℕ → Converted
  arms_from None bs other g j m = converted_arms bs other g j m
  arms_from (Some x) bs other g j m =
      rest_if (has_rest (branches bs) (has_parts (parts other))) j m
      (rest_under g m x (converted_arms bs other (Some m) j (suc m)))

  -- a block of an IF under a mask, and the point behind it, where p is the one before it
  abbrev pub block_added : Option ℕ → List Part → MaskPoint → Converted
  block_added g ps p = record {
    made = (converted_list true g ps (entered g p.jump p.mask)).made;
    point = followed p (converted_list true g ps (entered g p.jump p.mask)).point;
  }

  -- so of an arm, whose mask is asked for its condition
  abbrev pub arm_added : Branch → MaskPoint → Converted
  arm_added b p = record {
    made = Asks p.guard p.mask (Test b.test)
        ∷ (converted_parts line true (Some p.mask) b.body (entered (Some p.mask) p.jump (suc p.mask))).made;
    point = followed p
        (converted_parts line true (Some p.mask) b.body (entered (Some p.mask) p.jump (suc p.mask))).point;
  }

  -- ---- what was made has been added to the parts `old`

  pub record IsAdded (c : Converted) (new_point : MaskPoint) (old new : List Part) : Type 0 where
    pub point : new_point ≡ c.point
    pub made : new ≡ old ++ all_parts_of line c.made

  -- of arms, where the mask behind them isn't asked for
  pub record AreAdded (c : Converted) (end : MaskPoint) (old new : List Part) : Type 0 where
    pub pending : end.pending ≡ c.point.pending
    pub jump : end.jump ≡ c.point.jump
    pub mask : end.mask ≡ c.point.mask
    pub made : new ≡ old ++ all_parts_of line c.made

  -- what stands for the arms from one on, at the point p behind the others, leads from the parts so far to all
  pub record ArmsLeft (last : Option ℕ) (bs : List Branch) (other : List Part) (p : MaskPoint) (now : List Part)
      (all : Converted) (old : List Part) : Type 0 where
    pub pending : p.pending ++ (arms_from last bs other p.guard p.jump p.mask).point.pending ≡ all.point.pending
    pub jump : (arms_from last bs other p.guard p.jump p.mask).point.jump ≡ all.point.jump
    pub mask : (arms_from last bs other p.guard p.jump p.mask).point.mask ≡ all.point.mask
    pub made : now ++ all_parts_of line (arms_from last bs other p.guard p.jump p.mask).made
        ≡ old ++ all_parts_of line all.made
