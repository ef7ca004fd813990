-- A loop run as loops over pieces of its iterations, one after another (Allen and Kennedy, "Optimizing Compilers for
-- Modern Architectures", sections 5.8 and 5.9; ANSI X3.9-1978, section 11.10).
use Rattle.std.specs.Prelude.{◌≡◌, ◌≤◌, ⊤, Ok, Option, ℕ, suc, ◌+◌, ℤ, pos, ◌+ℤ◌, ◌*ℤ◌, false, IsTrue, List, [], ◌∷◌}
use Rattle.linear_forms.specs.Expressed.{expressed, variables}
use Rattle.linear_forms.specs.Laws.{AreSized}
use Rattle.linear_forms.specs.Linear.{Form, HaveValues, is_limited, number_at}
use Rattle.tree.specs.Plain.{Expression, Statement, Assignment, Label, Do, Block, no_statements, statement}
use Rattle.meaning.specs.Dialect.{Dialect}
use Rattle.meaning.specs.Run.{State, does, does_all}
use Rattle.meaning.specs.Store.{Store}
use Rattle.meaning.specs.Value.{number_of, increment_of, trip_count}
use Rattle.nest_order.specs.orders.Lists.{In}
use Rattle.nest_order.specs.runs.Guarded.{variable_cell}

-- the bounds of the loop over `more` turns and one, which come after `before` turns
pub record Piece : Type 0 where
  pub before : ℕ
  pub more : ℕ
  pub first : Expression
  pub last : Expression

-- the loop's variable after k turns
abbrev pub after_turns : ℤ → ℤ → ℕ → ℤ
after_turns m1 m3 k = m1 +ℤ pos k *ℤ m3

-- each piece begins where the one before it ends, and the last one ends after all t turns
abbrev pub AreConsecutive : ℕ → ℕ → List Piece → Type 0
AreConsecutive k t [] = k ≡ t
AreConsecutive k t (p ∷ ps) = (p.before ≡ k) × AreConsecutive (k + suc p.more) t ps

-- line, variable, step and body are the same in all of them
pub record Loop : Type 0 where
  pub line : ℕ
  pub variable : List ℕ
  pub step : Expression
  pub body : Block

abbrev pub loop_from : Loop → Expression → Expression → Statement
loop_from l first last = Do l.line l.variable first last l.step l.body

abbrev pub loops_over : Loop → List Piece → Block
loops_over l [] = no_statements
loops_over l (p ∷ ps) = statement (loop_from l p.first p.last) (loops_over l ps)

-- these scalars are the same in both
abbrev pub SameScalars : List (List ℕ) → Store → Store → Type 0
SameScalars xs s t = (x : List ℕ) → In x xs
    → (t.bounds x ≡ s.bounds x) × (t.held (variable_cell x) ≡ s.held (variable_cell x))

-- wherever these scalars are as in s, the bounds of each piece have their numbers, and so has the step
pub record HaveNumbers (lang : Dialect) (l : Loop) (xs : List (List ℕ)) (s : Store) (m1 m3 : ℤ) (ps : List Piece)
    : Type 0 where
  pub first : (p : Piece) (u : Store) → In p ps → SameScalars xs s u
      → number_of lang p.first u ≡ Ok (after_turns m1 m3 p.before)
  pub last : (p : Piece) (u : Store) → In p ps → SameScalars xs s u
      → number_of lang p.last u ≡ Ok (after_turns m1 m3 (p.before + p.more))
  pub step : (u : Store) → SameScalars xs s u → increment_of lang l.step u ≡ Ok m3

-- the body leaves the variable and these scalars as they are
pub record LeavesAlone (lang : Dialect) (limit : Option ℕ) (l : Loop) (xs : List (List ℕ)) : Type 0 where
  pub variable : (u : State) → SameScalars (l.variable ∷ []) u.store (does_all lang limit l.body u).store
  pub scalars : (u : State) → SameScalars xs u.store (does_all lang limit l.body u).store

-- Where the parameters of the loop have values and it has a turn, its run is that of the loops over the pieces, to the
-- last step: with any body, that faults, stops or jumps, and with any limit
abbrev pub PiecesRunAsLoop : Type 0
PiecesRunAsLoop =
    (lang : Dialect) (limit : Option ℕ) (l : Loop) (first last step : Expression) (xs : List (List ℕ)) (ps : List Piece)
    (s : State)
    (m1 m2 m3 : ℤ) (t : ℕ)
    → number_of lang first s.store ≡ Ok m1 → number_of lang last s.store ≡ Ok m2
    → increment_of lang step s.store ≡ Ok m3 → trip_count m1 m2 m3 ≡ Ok t → 1 ≤ t
    → AreConsecutive 0 t ps → HaveNumbers lang l xs s.store m1 m3 ps → LeavesAlone lang limit l xs
    → ¬ (In l.variable xs)
    → does_all lang limit (loops_over l ps) s ≡ does lang limit (Do l.line l.variable first last step l.body) s

-- ---- bounds that are linear forms of symbols

-- the form with a constant more
abbrev pub shifted : Form → ℤ → Form
shifted f z = record { coefficients = f.coefficients; constant = f.constant +ℤ z }

-- the bounds of each piece are the texts of the forms of its first and last iteration, within the limits
pub record AreTexts (symbols : List (List ℕ)) (f : Form) (m3 : ℤ) (ps : List Piece) : Type 0 where
  pub first : (p : Piece) → In p ps → p.first ≡ expressed (variables symbols) (shifted f (pos p.before *ℤ m3))
  pub last : (p : Piece) → In p ps
      → p.last ≡ expressed (variables symbols) (shifted f (pos (p.before + p.more) *ℤ m3))
  pub first_limits : (p : Piece) → In p ps → IsTrue (is_limited 0 (shifted f (pos p.before *ℤ m3)))
  pub last_limits : (p : Piece) → In p ps → IsTrue (is_limited 0 (shifted f (pos (p.before + p.more) *ℤ m3)))

-- where the symbols hold numbers of 64 bits, and the step has its number in any store, they have their numbers
abbrev pub TextsHaveNumbers : Type 0
TextsHaveNumbers =
    (lang : Dialect) (l : Loop) (symbols : List (List ℕ)) (f : Form) (s : Store) (zs : List ℤ) (m3 : ℤ)
    (ps : List Piece)
    → AreTexts symbols f m3 ps → ((u : Store) → increment_of lang l.step u ≡ Ok m3) → HaveValues symbols s zs
    → AreSized zs
    → HaveNumbers lang l symbols s (number_at f zs) m3 ps

-- ---- bodies of assignments

-- no array statement, and none of these names is assigned; labels change nothing
abbrev pub AssignsOthers : List (List ℕ) → Block → Type 0
AssignsOthers xs no_statements = ⊤
AssignsOthers xs (statement (Assignment line mark left right) cs) = ¬ (In left.name xs) × AssignsOthers xs cs
AssignsOthers xs (statement (Label n) cs) = AssignsOthers xs cs
AssignsOthers xs (statement c cs) = ⊥

abbrev pub AssignmentsLeaveAlone : Type 0
AssignmentsLeaveAlone =
    (lang : Dialect) (limit : Option ℕ) (l : Loop) (xs : List (List ℕ)) → lang.arrays ≡ false
    → AssignsOthers (l.variable ∷ xs) l.body → LeavesAlone lang limit l xs
