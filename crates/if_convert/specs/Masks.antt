-- Masks: LOGICAL scalars under which statements stand in place of IFs and jumps (Allen and Kennedy, "Optimizing
-- Compilers for Modern Architectures", section 7.2). They are numbered through the program; number 0 is the first one.
use Rattle.std.specs.Prelude.{ℕ, zero, suc, ◌+◌, ◌-◌, ◌/◌, true, false, Option, Some, None, List, [], ◌∷◌, ◌++◌}
use Rattle.std.specs.Prelude.{codes, decimal, length, take, drop}
use Rattle.std.specs.Option.{option_map}
use Rattle.tree.specs.Plain.{Expression, Logic, Named, Unary, Binary, Reference, no_subscripts}
use Rattle.tree.specs.declared.ops.Kind.TheVariants.{Logical}
use Rattle.tree.specs.declared.ops.Op.TheVariants.{Not, And}
use Rattle.nest.specs.Plain.{Loop, Guarded, Part, Run, Turns, Parts}
use Rattle.nest.specs.Plain as nests
use Rattle.if_convert.specs.declared.points.Jumped.{Jumped}

abbrev pub mask_name : ℕ → List ℕ
mask_name i = codes "FV_MASK_" ++ decimal (i + 1)

abbrev pub mask : ℕ → Expression
mask i = Named (mask_name i) no_subscripts

-- ---- no jump of a list has left

abbrev pub not_left : Jumped → Expression
not_left l = Unary Not (mask l.mask)

-- the first half is the longer one where their number is odd
abbrev pub first_half : List Jumped → ℕ
first_half ls = length ls - length ls / 2

-- joined by halves; n is their number, or more
abbrev pub none_of : ℕ → List Jumped → Expression
none_of zero ls = Logic true
none_of (suc n) [] = Logic true
none_of (suc n) (l ∷ []) = not_left l
none_of (suc n) (l ∷ k ∷ ls) =
    Binary And (none_of n (take (first_half (l ∷ k ∷ ls)) (l ∷ k ∷ ls)))
    (none_of n (drop (first_half (l ∷ k ∷ ls)) (l ∷ k ∷ ls)))

unfoldable pub none_left : List Jumped → Expression
none_left ls = none_of (length ls) ls

-- ---- what is made

-- what a mask is asked for: a condition of the source, that another mask is false, that none of these jumps has left
pub data Question : Type 0 where
  Test : Expression → Question
  Other : ℕ → Question
  Unleft : List Jumped → Question

-- A statement under a mask; a mask that is true only where the other one holds, and there is what is asked; a jump's
-- mask set false; a jump's mask set true under a mask; a loop with its body
pub data Masking : Type 0 where
  Kept : Option ℕ → Guarded → Masking
  Asks : Option ℕ → ℕ → Question → Masking
  Clears : ℕ → Masking
  Leaves : Option ℕ → ℕ → Masking
  Turned : Loop → Parts → Masking

-- ---- as parts of a nest, whose made statements have its line

abbrev pub under_mask : Option ℕ → Guarded → Guarded
under_mask None g = g
under_mask (Some i) g = record g { guard = Some (mask i) }

abbrev pub asked : Question → Expression
asked (Test e) = e
asked (Other i) = Unary Not (mask i)
asked (Unleft ls) = none_left ls

abbrev pub mask_scalar : List ℕ → Reference
mask_scalar x = record { name = x; subscripts = no_subscripts }

abbrev pub sets : ℕ → Option ℕ → ℕ → Expression → Part
sets line g i e =
    Run (record { line = line; guard = option_map mask g; left = mask_scalar (mask_name i); right = e })

-- where it stands under a mask it is false first
abbrev pub asks : ℕ → Option ℕ → ℕ → Expression → List Part
asks line None i e = sets line None i e ∷ []
asks line (Some k) i e = sets line None i (Logic false) ∷ sets line (Some k) i e ∷ []

abbrev pub masked_parts_of : ℕ → Masking → List Part
masked_parts_of line (Kept g c) = Run (under_mask g c) ∷ []
masked_parts_of line (Asks g i q) = asks line g i (asked q)
masked_parts_of line (Clears j) = sets line None j (Logic false) ∷ []
masked_parts_of line (Leaves g j) = sets line g j (Logic true) ∷ []
masked_parts_of line (Turned l ps) = Turns l ps ∷ []

abbrev pub all_parts_of : ℕ → List Masking → List Part
all_parts_of line [] = []
all_parts_of line (m ∷ ms) = masked_parts_of line m ++ all_parts_of line ms

-- ---- as names that are made

abbrev pub made_mask : ℕ → nests.Made
made_mask i = record { name = mask_name i; kind = Logical; extents = [] }

-- n masks from a number on
abbrev pub masks_from : ℕ → ℕ → List nests.Made
masks_from i zero = []
masks_from i (suc n) = made_mask i ∷ masks_from (suc i) n
