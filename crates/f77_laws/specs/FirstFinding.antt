-- Which line a refusal has, where each statement stands on a later line than those before it.
use Rattle.std.specs.Prelude.{◌≡◌, ℕ, false, Some, List, ◌∷◌}
use Rattle.tree.specs.declared.refusals.Refusal.{Refusal}
use Rattle.meaning.specs.Dialect.{Dialect}
use Rattle.reading.specs.refusal_order.Answered.{comes_before}
use Rattle.f77_grammar.specs.Statement77.{Labelled}
use Rattle.tree.specs.Causes.{refusal_at}
use Rattle.tree.specs.declared.refusals.Cause.{Cause}
use Rattle.f77_grammar.specs.program.Program77.{holds_in, RefusedStatements}
use Rattle.f77_grammar.specs.syntax.First.{first_line}
use Rattle.f77_laws.specs.Source.{AreRising}

-- the cause holds at a statement of the line first
abbrev pub HoldsFirst : Dialect → List Labelled → Cause → ℕ → Type 0
HoldsFirst d text c line = first_line (holds_in d text c) text ≡ Some line

-- The refusal of a text has a cause that holds at its line first
abbrev pub RefusalIsFirst : Type 0
RefusalIsFirst = (d : Dialect) (x : Labelled) (xs : List Labelled) (r : Refusal) → AreRising (x ∷ xs)
    → RefusedStatements d (x ∷ xs) r → (c : Cause) × (r ≡ refusal_at c r.line) × HoldsFirst d (x ∷ xs) c r.line

-- A text is refused by the cause that comes first, each where it holds first
abbrev pub FirstIsRefused : Type 0
FirstIsRefused = (d : Dialect) (x : Labelled) (xs : List Labelled) (c : Cause) (line : ℕ) → AreRising (x ∷ xs)
    → HoldsFirst d (x ∷ xs) c line
    → ((other : Cause) (k : ℕ) → HoldsFirst d (x ∷ xs) other k
    → comes_before (refusal_at other k) (refusal_at c line) ≡ false)
    → RefusedStatements d (x ∷ xs) (refusal_at c line)
