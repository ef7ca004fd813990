-- Candidates for a dependence, and the pairs of instances at which there is one.
use Rattle.std.specs.Prelude.{◌≡◌, ℕ, zero, suc, ℤ, Option, Some, None, List, length}
use Rattle.meaning.specs.Store.{Cell}
use Rattle.subscripts.specs.Forms.{AreRelated}
use Rattle.subscripts.specs.declared.affine.Dir.{Dir}
use Rattle.dependence_graph.specs.declared.graphs.Dep.{Dep}
use Rattle.dependence_graph.specs.declared.graphs.Dep.TheVariants.{Flow, Anti, Output}
use Rattle.dependence_graph.specs.declared.graphs.Place.{Place}
use Rattle.nest.specs.Plain.{Nest}
use Rattle.dependence_graph.specs.nest_graph.Instances.{IsInstance}
use Rattle.dependence_graph.specs.nest_graph.References.{variables_round}
use Rattle.dependence_graph.specs.nest_graph.Tested.{AreReferences, common_of}
use Rattle.dependence_graph.specs.nest_graph.Touched.{Touches}
use Rattle.dependence_graph.specs.nest_graph.Vectors.{IsPlain, MayComeFirst}

-- from a write to a read, from a read to a write, between writes; two reads are none
abbrev pub kind_between : ℕ → ℕ → Option Dep
kind_between zero zero = Some Output
kind_between zero (suc q) = Some Flow
kind_between (suc r) zero = Some Anti
kind_between (suc r) (suc q) = None

pub record Candidate : Type 0 where
  pub from : Place
  pub to : Place
  pub kind : Dep
  pub vector : List Dir

-- two references of one name, one of them a write, in a vector in which the first may come first
pub record IsCandidate (n : Nest) (c : Candidate) : Type 0 where
  pub refs : AreReferences n c.from c.to
  pub kind : kind_between c.from.at c.to.at ≡ Some c.kind
  pub loops : length c.vector ≡ common_of refs.first.loops refs.second.loops
  pub plain : IsPlain c.vector
  pub forward : MayComeFirst c.from.stmt c.to.stmt c.vector

-- instances of the two statements that are related as the vector says and touch a common cell, for some values of the
-- symbols
pub record Pair (n : Nest) (c : Candidate) (x y : List ℤ) : Type 0 where
  pub values : ℕ → ℤ
  pub cell : Cell
  pub refs : AreReferences n c.from c.to
  pub first_instance : IsInstance n values c.from.stmt x
  pub second_instance : IsInstance n values c.to.stmt y
  pub related : AreRelated c.vector x y
  pub first_touches : Touches (variables_round refs.first) n.symbols values x refs.first_reference cell
  pub second_touches : Touches (variables_round refs.second) n.symbols values y refs.second_reference cell

abbrev pub HasPair : Nest → Candidate → Type 0
HasPair n c = (x : List ℤ) × ((y : List ℤ) × Pair n c x y)
