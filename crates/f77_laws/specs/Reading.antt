-- What is read of a text is a program of the profile, where its statements are such as cards give; and what is read as
-- an expression is.
use Rattle.std.specs.Prelude.{ℕ, ◌*◌, ◌^◌, ◌<◌, ◌≤◌, List, length}
use Rattle.std.specs.List.{AllByRecursion}
use Rattle.tree.specs.Plain.{Expression, Program}
use Rattle.meaning.specs.Dialect.{Dialect}
use Rattle.f77_grammar.specs.Statement77.{Labelled}
use Rattle.f77_grammar.specs.program.Program77.{ReadsStatements}
use Rattle.meaning.specs.Profile77.{IsProgram77}
use Rattle.f77_grammar.specs.expressions.Reading.{ReadsAs}
use Rattle.f77_laws.specs.Source.{IsShallow, AreRising, AreSourceStatements}

-- A statement becomes at most three of the tree: its label, and a logical IF with what stands in it
abbrev pub HasFewStatements : List Labelled → Type 0
HasFewStatements text = 3 * length text < 2 ^ 31

-- Where lines rise there are no more statements than lines
abbrev pub RisingLinesAreFew : Type 0
RisingLinesAreFew = (text : List Labelled) (n : ℕ) → AreRising text → AllByRecursion (λ (x : Labelled). x.line < n) text
    → length text ≤ n

-- an INTEGER is a literal or the negative of one
abbrev pub ReadTextIsProgram : Type 0
ReadTextIsProgram = (d : Dialect) (text : List Labelled) (p : Program) → d.bits ≤ 126
    → ReadsStatements d text p → AreSourceStatements text → HasFewStatements text → IsProgram77 d p

abbrev pub ReadExpressionIsSource : Type 0
ReadExpressionIsSource = (chars : List ℕ) (e : Expression) → ReadsAs chars e → IsShallow e
