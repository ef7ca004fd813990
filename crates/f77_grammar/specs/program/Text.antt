-- The text of a program: its statements in order, each loop with a label. What is asked of a statement is asked at its
-- place: what stands before it, and what stands after it.
use Rattle.std.specs.Prelude.{ℕ, zero, suc, ◌==◌, Bool, true, false, Option, None, Some, List, [], ◌∷◌}
use Rattle.std.specs.List.{list_any, filter}
use Rattle.f77_grammar.specs.Statement77.{Labelled, Statement77, Declare, Dimension, Constants, Test, If, ElseIf, Else}
use Rattle.f77_grammar.specs.Statement77.{ImplicitNone, EndIf, Do, EndDo, End}

-- the statements before a place stand with the nearest first
pub record Place77 : Type 0 where
  pub before : List Labelled
  pub here : Labelled
  pub after : List Labelled

abbrev pub places_from : List Labelled → List Labelled → List Place77
places_from before [] = []
places_from before (x ∷ xs) = record { before = before; here = x; after = xs } ∷ places_from (x ∷ before) xs

abbrev pub places : List Labelled → List Place77
places text = places_from [] text

-- what a statement does: of a logical IF, its inner statement (section 11.5)
abbrev pub action : Statement77 → Statement77
action (Test c s) = action s
action s = s

-- ---- labels

abbrev pub is_label : ℕ → Option ℕ → Bool
is_label n None = false
is_label n (Some m) = m == n

abbrev pub bears : ℕ → Labelled → Bool
bears n x = is_label n x.label

-- one of these statements bears the label
abbrev pub label_stands_in : List Labelled → ℕ → Bool
label_stands_in xs n = list_any (bears n) xs

-- ---- kinds of statements (section 7)

abbrev pub is_end77 : Statement77 → Bool
is_end77 End = true
is_end77 _ = false

abbrev pub is_block_if : Statement77 → Bool
is_block_if (If c) = true
is_block_if _ = false

-- ELSE IF or ELSE
abbrev pub is_else : Statement77 → Bool
is_else (ElseIf c) = true
is_else Else = true
is_else _ = false

abbrev pub is_last_else : Statement77 → Bool
is_last_else Else = true
is_last_else _ = false

abbrev pub is_end_if : Statement77 → Bool
is_end_if EndIf = true
is_end_if _ = false

abbrev pub is_end_do : Statement77 → Bool
is_end_do EndDo = true
is_end_do _ = false

abbrev pub is_implicit_none : Statement77 → Bool
is_implicit_none ImplicitNone = true
is_implicit_none _ = false

abbrev pub is_declaration : Statement77 → Bool
is_declaration (Declare k es) = true
is_declaration (Dimension es) = true
is_declaration (Constants ds) = true
is_declaration _ = false

-- ---- loops: a loop goes from its DO to the statement with its label, which comes later (section 11.10.2)

abbrev pub ends_in : List Labelled → Statement77 → Bool
ends_in rest (Do (Some n) x a b c) = label_stands_in rest n
ends_in rest s = false

-- the loop that x opens ends among `rest`
abbrev pub loop_ends_in : List Labelled → Labelled → Bool
loop_ends_in rest x = ends_in rest x.statement

-- the DO statements of the loops round a place; the last statement of a loop stands in it
abbrev pub open_loops : Place77 → List Labelled
open_loops p = filter (loop_ends_in (p.here ∷ p.after)) p.before

-- ---- block IFs, looked at alone (section 11.6): END IF ends the nearest block IF before it that hasn't ended

abbrev pub left_over : Statement77 → Labelled → (ℕ → List Labelled) → ℕ → List Labelled
left_over EndIf x more n = more (suc n)
left_over (If c) x more zero = x ∷ more zero
left_over (If c) x more (suc n) = more n
left_over s x more zero = x ∷ more zero
left_over s x more (suc n) = more (suc n)

-- Statements, the nearest first, without the block IFs that end among them and all that stands in these; `n` END IF
-- statements are
-- still without their block IF
abbrev pub without_ended : List Labelled → ℕ → List Labelled
without_ended [] n = []
without_ended (x ∷ xs) n = left_over x.statement x (without_ended xs) n

-- the statements before a place that stand in no block IF that has ended, the nearest first
abbrev pub unended : List Labelled → List Labelled
unended before = without_ended before 0

-- the block IFs round a place
abbrev pub open_ifs : Place77 → List Labelled
open_ifs p = filter (λ (x : Labelled). is_block_if x.statement) (unended p.before)
