-- What stands for the parts of a nest where its IFs and jumps have become masks (Allen and Kennedy, section 7.2).
use Rattle.std.specs.Prelude.{ℕ, suc, ◌+◌, ◌-◌, Bool, true, false, Option, Some, None, [], ◌∷◌, ◌++◌}
use Rattle.tree.specs.Plain.{Expression}
use Rattle.nest.specs.Plain.{Loop, Part, Run, Turns, Choice, Label, Jump, Parts, no_parts, part, parts, Branches}
use Rattle.nest.specs.Plain.{no_branches, branch, Nest}
use Rattle.if_convert.specs.Jumps.{jumps_in_parts, jumps_in_branches}
use Rattle.if_convert.specs.Masks.{Question, Test, Other, Asks, Turned, all_parts_of, masks_from}
use Rattle.if_convert.specs.Points.{Converted, unchanged, converted_after, unless_skipped, entered, numbered_jumps}
use Rattle.if_convert.specs.Points.{cleared_for, source_statement, jump_at, behind_label, rejoined}
use Rattle.if_convert.specs.declared.points.MaskPoint.{MaskPoint}

-- ---- arms

-- an arm under its mask m, and what stands behind it with its jumps
abbrev pub first_arm : Option ℕ → ℕ → Question → Converted → Converted → Converted
first_arm g m q arm more = record {
  made = Asks g m q ∷ (arm.made ++ more.made);
  point = record {
    guard = None;
    pending = arm.point.pending ++ more.point.pending;
    skips = false;
    jump = more.point.jump;
    mask = more.point.mask;
  };
}

-- the other arms and the ELSE part stand under a mask r of their own, which is true where m isn't
abbrev pub rest_under : Option ℕ → ℕ → ℕ → Converted → Converted
rest_under g r m c = converted_after (Asks g r (Other m) ∷ []) c

abbrev pub has_parts : Parts → Bool
has_parts no_parts = false
has_parts (part p ps) = true

abbrev pub has_rest : Branches → Bool → Bool
has_rest no_branches other = other
has_rest (branch test ps bs) other = true

abbrev pub rest_if : Bool → ℕ → ℕ → Converted → Converted
rest_if false j m c = unchanged (entered None j m)
rest_if true j m c = c

-- the rest has a mask only where there is one
abbrev pub with_rest : Option ℕ → ℕ → Expression → Bool → Converted → (Option ℕ → ℕ → ℕ → Converted) → Converted
with_rest g m test rest arm more =
    first_arm g m (Test test) arm
    (rest_if rest arm.point.jump arm.point.mask
    (rest_under g arm.point.mask m (more (Some arm.point.mask) arm.point.jump (suc arm.point.mask))))

-- an IF from the point p on, with n jumps in it, of which all have their numbers
abbrev pub around_choice : Bool → Option ℕ → ℕ → MaskPoint → Converted → Converted
around_choice deep own n p c =
    converted_after (cleared_for deep p.jump n ++ c.made) (rejoined own p c.point.pending c.point.jump c.point.mask)

-- an IF with n jumps in it and these arms
abbrev pub choice_at : Bool → Option ℕ → ℕ → MaskPoint → (Option ℕ → ℕ → ℕ → Converted) → Converted
choice_at deep own n p arms =
    around_choice deep own n (numbered_jumps deep n p)
    (arms (numbered_jumps deep n p).guard (numbered_jumps deep n p).jump (numbered_jumps deep n p).mask)

-- ---- parts

-- by the nest's line
module _ (line : ℕ) where
  -- a loop's body stands under no mask
  abbrev pub around_loop : Loop → MaskPoint → Converted → Converted
  around_loop l p c = record {
    made = Turned l (parts (all_parts_of line c.made)) ∷ [];
    point = record {
      guard = p.guard;
      pending = p.pending;
      skips = p.skips;
      jump = p.jump;
      mask = c.point.mask;
    };
  }

  -- deep: whether the block stands in an IF; own: the block's mask
  abbrev mutual
    pub converted : Bool → Option ℕ → Part → MaskPoint → Converted
    converted deep own (Run g) p = source_statement g p
    converted deep own (Turns l ps) p =
        unless_skipped p.skips p (around_loop l p (converted_parts false None ps (entered None p.mask p.mask)))
    converted deep own (Choice bs other) p =
        unless_skipped p.skips p (choice_at deep own (jumps_in_branches bs + jumps_in_parts false other) p
        (converted_branches bs (has_parts other) (λ g j m. converted_parts true g other (entered g j m))))
    converted deep own (Label k) p = behind_label own k p
    converted deep own (Jump k) p = jump_at deep k p

    pub converted_parts : Bool → Option ℕ → Parts → MaskPoint → Converted
    converted_parts deep own no_parts p = unchanged p
    converted_parts deep own (part q ps) p =
        converted_after (converted deep own q p).made (converted_parts deep own ps (converted deep own q p).point)

    -- the arms of an IF, and its ELSE part, if there is one, under the mask g, with the numbers of the next masks
    pub converted_branches : Branches → Bool → (Option ℕ → ℕ → ℕ → Converted) → Option ℕ → ℕ → ℕ → Converted
    converted_branches no_branches rest other g j m = other g j m
    converted_branches (branch test ps bs) rest other g j m =
        with_rest g m test (has_rest bs rest) (converted_parts true (Some m) ps (entered (Some m) j (suc m)))
        (converted_branches bs rest other)

-- ---- nests

abbrev pub with_converted_body : Nest → Loop → ℕ → Converted → Nest
with_converted_body n l masks c = record n {
  body = Turns l (parts (all_parts_of n.line c.made));
  made = n.made ++ masks_from masks (c.point.mask - masks);
  masks = c.point.mask;
}

-- the loop l with the parts ps, in a program in which so many masks were made before
abbrev pub converted_loop : Nest → ℕ → Loop → Parts → Nest
converted_loop n masks l ps =
    with_converted_body n l masks (converted_parts n.line false None ps (entered None masks masks))

-- The nest with masks in place of its IFs, labels and jumps; what is no loop is no nest. Its number of masks is that
-- of all masks of the program so far
unfoldable pub converted_nest : ℕ → Nest → Option Nest
converted_nest masks n = elim n.body [
  | Run g ↦ None
  | Turns l ps ↦ Some (converted_loop n masks l ps)
  | Choice bs other ↦ None
  | Label k ↦ None
  | Jump k ↦ None
]
