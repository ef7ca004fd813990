-- What masks hold beside a store, and what statements under masks do to both.
use Rattle.std.proofs.Common.{◌≡◌, Result, Ok, Err, Option, Some, None, ℕ, ◌==◌, Bool, true, false, ◌&&◌, not, cond, List, [], ◌∷◌}
use Rattle.tree.specs.Steps.{◌>>=◌}
use Rattle.tree.specs.declared.ops.Fault.{Fault}
use Rattle.tree.specs.declared.ops.Fault.TheVariants.{Overflow}
use Rattle.meaning.specs.Store.{Store, put}
use Rattle.meaning.specs.Value.{value_of, truth_of, cell_named, is_in_range}
use Rattle.rewrite.specs.Following.{sequential}
use Rattle.nest.specs.Plain.{Guarded, Part, Run, Turns, Choice, Label, Jump, Parts, no_parts, part, Branches, no_branches, branch}
use Rattle.if_convert.specs.Masks.{Question, Test, Other, Unleft, Masking, Kept, Asks, Clears, Leaves, Turned}
use Rattle.if_convert.specs.declared.points.Jumped.{Jumped}
use Rattle.prepared_passes.specs.conversion.Branching.{HasArm}

-- what the masks hold: those that guard statements, and those that say which jump is under way
pub record Masks : Type 0 where
  pub guards : ℕ → Bool
  pub jumps : ℕ → Bool

abbrev pub holds : Option ℕ → Masks → Bool
holds None m = true
holds (Some i) m = m.guards i

abbrev pub with_guard : ℕ → Bool → Masks → Masks
with_guard i b m = record { guards = λ k. cond (i == k) b (m.guards k); jumps = m.jumps }

abbrev pub with_jump : ℕ → Bool → Masks → Masks
with_jump j b m = record { guards = m.guards; jumps = λ k. cond (j == k) b (m.jumps k) }

abbrev pub none_has_left : List Jumped → Masks → Bool
none_has_left [] m = true
none_has_left (j ∷ js) m = not (m.jumps j.mask) && none_has_left js m

-- a store, and what the masks hold
pub record Moment : Type 0 where
  pub store : Store
  pub masks : Masks

module _ (bits : ℕ) where
  abbrev pub assigned : Guarded → Store → Result Store Fault
  assigned g s = do
    v ← value_of (sequential bits) g.right s
    c ← cell_named (sequential bits) g.left s
    cond (is_in_range bits v) (Ok (put c v s)) (Err Overflow)

  abbrev pub answer_to : Question → Moment → Result Bool Fault
  answer_to (Test e) m = truth_of (sequential bits) e m.store
  answer_to (Other i) m = Ok (not (m.masks.guards i))
  answer_to (Unleft js) m = Ok (none_has_left js m.masks)

  abbrev pub kept_if : Bool → Guarded → Moment → Result Moment Fault
  kept_if false g m = Ok m
  kept_if true g m = do
    s ← assigned g m.store
    Ok (record { store = s; masks = m.masks })

  abbrev pub asked_if : Bool → ℕ → Question → Moment → Result Moment Fault
  asked_if false i q m = Ok (record { store = m.store; masks = with_guard i false m.masks })
  asked_if true i q m = do
    b ← answer_to q m
    Ok (record { store = m.store; masks = with_guard i b m.masks })

  abbrev pub left_if : Bool → ℕ → Moment → Result Moment Fault
  left_if false j m = Ok m
  left_if true j m = Ok (record { store = m.store; masks = with_jump j true m.masks })

  -- loops aren't looked at here
  abbrev pub step : Masking → Moment → Result Moment Fault
  step (Kept g c) m = kept_if (holds g m.masks) c m
  step (Asks g i q) m = asked_if (holds g m.masks) i q m
  step (Clears j) m = Ok (record { store = m.store; masks = with_jump j false m.masks })
  step (Leaves g j) m = left_if (holds g m.masks) j m
  step (Turned l ps) m = Err Overflow

-- ---- parts without loops, whose statements have no guards

abbrev mutual
  pub IsLoopless : Part → Type 0
  IsLoopless (Run g) = g.guard ≡ None
  IsLoopless (Turns l ps) = ⊥
  IsLoopless (Choice bs other) = HasArm bs × BranchesAreLoopless bs × AreLoopless other
  IsLoopless (Label k) = Unit {0}
  IsLoopless (Jump k) = Unit {0}

  pub AreLoopless : Parts → Type 0
  AreLoopless no_parts = Unit {0}
  AreLoopless (part q ps) = IsLoopless q × AreLoopless ps

  pub BranchesAreLoopless : Branches → Type 0
  BranchesAreLoopless no_branches = Unit {0}
  BranchesAreLoopless (branch test ps bs) = AreLoopless ps × BranchesAreLoopless bs
