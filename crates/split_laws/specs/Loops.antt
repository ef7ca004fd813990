-- The loops that stand in the place of a loop that is cut.
use Rattle.std.specs.Prelude.{◌≡◌, ◌≢◌, ◌≤◌, ◌<◌, Ok, Some, Option, ℕ, ℤ, pos, IsTrue, List, [], ◌∷◌}
use Rattle.find_nests.specs.Loops.{SourceLoop, as_statement}
use Rattle.index_split.specs.Pieces.{all_bounds, loops_over}
use Rattle.index_split.specs.declared.pieces.Pieces.{Pieces}
use Rattle.linear_forms.specs.Affines.{IsAffineOf}
use Rattle.linear_forms.specs.Laws.{AreSized}
use Rattle.linear_forms.specs.Linear.{Form, HaveValues, is_limited, is_small, number_at}
use Rattle.meaning.specs.Dialect.{Dialect}
use Rattle.meaning.specs.Run.{State, does, does_all}
use Rattle.meaning.specs.Value.{increment_of, number_of, trip_count}
use Rattle.nest_order.specs.orders.Lists.{In}
use Rattle.split_laws.specs.Pieces.{LeavesAlone}
use Rattle.subscripts.specs.declared.affine.Affine.{Affine}
use Rattle.tree.specs.Plain.{Expression, block}

-- each turn with which a piece ends comes behind those before it, and the last one is t
abbrev pub EndWith : ℕ → List ℕ → ℕ → Type 0
EndWith before [] t = before ≡ t
EndWith before (e ∷ es) t = (before < e) × EndWith e es t

-- The pieces of the loop end with these turns, by a form of its first value over symbols that the body leaves alone, as
-- it does the variable, which is none of them
pub record AreLoopsPieces (lang : Dialect) (limit : Option ℕ) (l : SourceLoop) (ps : Pieces) (f : Form) (ends : List ℕ)
    : Type 0 where
  pub first : Affine
  pub form : IsAffineOf 0 f first
  pub limits : IsTrue (is_limited 0 f)
  pub bounds : all_bounds first ps.step 0 ends ≡ Some ps.bounds
  pub step : IsTrue (is_small ps.step)
  pub some_step : ps.step ≢ pos 0
  pub body : (step : Expression) → LeavesAlone lang limit
      (record { line = l.line; variable = l.variable; step = step; body = l.body }) ps.symbols
  pub apart : ¬ (In l.variable ps.symbols)

-- Where the parameters of the loop have values, and its first value is that of the form, the loops over its pieces run
-- as it does, to the last step
abbrev pub LoopsOverPiecesRunAsLoop : Type 0
LoopsOverPiecesRunAsLoop =
    (lang : Dialect) (limit : Option ℕ) (l : SourceLoop) (ps : Pieces) (f : Form) (ends : List ℕ) (t : ℕ) (s : State)
    (zs : List ℤ) (m2 : ℤ)
    → AreLoopsPieces lang limit l ps f ends → EndWith 0 ends t → 1 ≤ t
    → HaveValues ps.symbols s.store zs → AreSized zs
    → number_of lang l.first s.store ≡ Ok (number_at f zs) → number_of lang l.last s.store ≡ Ok m2
    → increment_of lang l.step s.store ≡ Ok ps.step → trip_count (number_at f zs) m2 ps.step ≡ Ok t
    → does_all lang limit (block (loops_over ps l.line l.variable l.body)) s ≡ does lang limit (as_statement l) s
