-- Nests whose texts are printable.
use Rattle.std.proofs.Common.{refl, ℕ, List, [], codes, decimal}
use Rattle.std.specs.List.{AllByRecursion}
use Rattle.nest.specs.Bodies.{Standing, nest_statements}
use Rattle.nest.specs.Plain.{Loop, Nest}
use Rattle.last_values.specs.normal_forms.NormalLoops.{counter_name}
use Rattle.pass_laws.proofs.NormalFacts.LoopWalk.{EachLoop}
use Rattle.pass_laws.proofs.NormalFacts.Texts.{IsOver, IsStatementOver}
use Rattle.listing_laws.proofs.notes.Printable.{ArePrintable, both, number, word}

-- a statement and a loop whose texts are printable
abbrev pub IsPrintableStanding : Standing → Type 0
IsPrintableStanding x = IsStatementOver ArePrintable x.statement

abbrev pub IsPrintableIn : List Loop → Loop → Type 0
IsPrintableIn round l = ArePrintable l.variable × IsOver ArePrintable l.last

pub record IsPrintableNest (m : Nest) : Type 0 where
  pub statements : AllByRecursion IsPrintableStanding (nest_statements m)
  pub loops : EachLoop IsPrintableIn [] m.body

pub counter_printable : (n : ℕ) → ArePrintable (counter_name n)
counter_printable n = both (codes "FV_LOOP_") (decimal n) (word (codes "FV_LOOP_") refl) (number n)
