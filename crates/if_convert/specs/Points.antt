-- Points of a block of a nest: under which mask statements stand there, and which jumps are under way.
use Rattle.std.specs.Prelude.{ℕ, zero, suc, ◌+◌, ◌==◌, Bool, true, false, not, Option, Some, List, [], ◌∷◌}
use Rattle.std.specs.Prelude.{◌++◌, filter}
use Rattle.nest.specs.Plain.{Guarded}
use Rattle.if_convert.specs.Masks.{Unleft, Masking, Kept, Asks, Clears, Leaves}
use Rattle.if_convert.specs.declared.points.Jumped.{Jumped}
use Rattle.if_convert.specs.declared.points.MaskPoint.{MaskPoint}

-- what is made, and the point behind it
pub record Converted : Type 0 where
  pub made : List Masking
  pub point : MaskPoint

abbrev pub unchanged : MaskPoint → Converted
unchanged p = record { made = []; point = p }

abbrev pub converted_after : List Masking → Converted → Converted
converted_after ms c = record { made = ms ++ c.made; point = c.point }

abbrev pub unless_skipped : Bool → MaskPoint → Converted → Converted
unless_skipped true p c = unchanged p
unless_skipped false p c = c

-- a statement of the source
abbrev pub source_statement : Guarded → MaskPoint → Converted
source_statement g p = unless_skipped p.skips p (record { made = Kept p.guard g ∷ []; point = p })

-- the first point of a block under a mask, with the numbers of the next jump and the next mask
abbrev pub entered : Option ℕ → ℕ → ℕ → MaskPoint
entered g j m = record { guard = g; pending = []; skips = false; jump = j; mask = m }

-- ---- numbers

-- Masks have their numbers in the order of their first assignments. Since those of n jumps are set false before the
-- outermost IF round them, these come before all others in it; in an IF they have their numbers already
abbrev pub numbered_jumps : Bool → ℕ → MaskPoint → MaskPoint
numbered_jumps true n p = p
numbered_jumps false n p =
    record { guard = p.guard; pending = p.pending; skips = p.skips; jump = p.mask; mask = p.mask + n }

-- n jumps from number j on are set false
abbrev pub cleared : ℕ → ℕ → List Masking
cleared j zero = []
cleared j (suc n) = Clears j ∷ cleared (suc j) n

-- which is done before the outermost IF
abbrev pub cleared_for : Bool → ℕ → ℕ → List Masking
cleared_for true j n = []
cleared_for false j n = cleared j n

-- ---- jumps

abbrev pub behind_jump : ℕ → MaskPoint → MaskPoint
behind_jump k p = record {
  guard = p.guard;
  pending = p.pending ++ record { mask = p.jump; label = k } ∷ [];
  skips = true;
  jump = suc p.jump;
  mask = p.mask;
}

-- in no IF its mask is set false right before
abbrev pub jump_made : Bool → ℕ → MaskPoint → Converted
jump_made deep k p =
    record { made = cleared_for deep p.jump 1 ++ Leaves p.guard p.jump ∷ []; point = behind_jump k p }

abbrev pub jump_at : Bool → ℕ → MaskPoint → Converted
jump_at deep k p = unless_skipped p.skips p (jump_made deep k (numbered_jumps deep 1 p))

-- ---- where the block goes on

abbrev pub is_left : ℕ → Jumped → Bool
is_left k l = not (l.label == k)

-- from here on statements stand under the block's own mask, unless a jump is under way
abbrev pub resumed : Option ℕ → List Jumped → ℕ → ℕ → Converted
resumed own [] j m = unchanged (entered own j m)
resumed own (l ∷ ls) j m = record {
  made = Asks own m (Unleft (l ∷ ls)) ∷ [];
  point = record { guard = Some m; pending = l ∷ ls; skips = false; jump = j; mask = suc m };
}

abbrev pub behind_label : Option ℕ → ℕ → MaskPoint → Converted
behind_label own k p = resumed own (filter (is_left k) p.pending) p.jump p.mask

-- behind an IF whose jumps `left` lead out of it; p is the point before it
abbrev pub rejoined : Option ℕ → MaskPoint → List Jumped → ℕ → ℕ → Converted
rejoined own p [] j m =
    unchanged (record { guard = p.guard; pending = p.pending; skips = false; jump = j; mask = m })
rejoined own p (l ∷ ls) j m = resumed own (p.pending ++ (l ∷ ls)) j m
