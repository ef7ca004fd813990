-- Nests whose entries can be read: their loops, and their statements with their references.
use Rattle.std.proofs.Common.{◌≤◌, ◌^◌, List, [], length}
use Rattle.std.specs.List.{AllByRecursion}
use Rattle.listing.specs.graphs.Listing.{loop_numbers}
use Rattle.listing_laws.specs.reader.Listable.{IsSmall, IsWord}
use Rattle.dependence_graph.specs.nest_graph.References.{references_of}
use Rattle.nest.specs.Bodies.{Standing, nest_statements}
use Rattle.nest.specs.Plain.{Loop, Nest}
use Rattle.pass_laws.proofs.NormalFacts.LoopWalk.{EachLoop}
use Rattle.pass_laws.proofs.NormalFacts.Texts.{IsStatementOver}

-- a statement whose names have no blanks and whose references are few, in loops with small numbers
pub record IsTidy (x : Standing) : Type 0 where
  pub over : IsStatementOver IsWord x.statement
  pub few : length (references_of x) ≤ 2 ^ 63
  pub loops : AllByRecursion IsSmall (loop_numbers x.loops)

pub record IsTidyLoop (l : Loop) : Type 0 where
  pub variable : IsWord l.variable
  pub number : IsSmall l.number

abbrev pub IsTidyIn : List Loop → Loop → Type 0
IsTidyIn round l = IsTidyLoop l

pub record IsTidyNest (m : Nest) : Type 0 where
  pub statements : AllByRecursion IsTidy (nest_statements m)
  pub loops : EachLoop IsTidyIn [] m.body
