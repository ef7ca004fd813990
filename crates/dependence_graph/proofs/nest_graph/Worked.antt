-- Worked statements and levels.
use Rattle.std.proofs.Common.{◌≡◌, ℕ, List, [], ◌∷◌, refl, Some, None, Option}
use Rattle.std.specs.Prelude.{pos}
use Rattle.tree.specs.Plain.{Expression, Number, Named, Binary, Only, no_subscripts, subscript, Reference}
use Rattle.tree.specs.declared.ops.Op.TheVariants.{Add}
use Rattle.nest.specs.Bodies.{Standing}
use Rattle.nest.specs.Plain.{Loop}
use Rattle.subscripts.specs.declared.affine.Dir.TheVariants.{Lt, Eq, Gt, Any}
use Rattle.dependence_graph.specs.declared.graphs.Dep.TheVariants.{Flow, Anti, Output}
use Rattle.dependence_graph.specs.nest_graph.Arcs.{vector_level}
use Rattle.dependence_graph.specs.nest_graph.Pair.{kind_between}
use Rattle.dependence_graph.specs.nest_graph.References.{references_of}

i_loop : Loop
i_loop = record { number = 1; variable = 73 ∷ []; first = Number (pos 1); last = Number (pos 9); step = pos 1; trip = None }

index : Expression
index = Named (73 ∷ []) no_subscripts

-- B(I)
element : Reference
element = record { name = 66 ∷ []; subscripts = subscript (Only index) no_subscripts }

-- in a loop over I, the statement A(B(I)) = N + I has the references A(B(I)), B(I), N
left : Reference
left = record { name = 65 ∷ []; subscripts = subscript (Only (Named (66 ∷ []) (subscript (Only index) no_subscripts))) no_subscripts }

scalar : Reference
scalar = record { name = 78 ∷ []; subscripts = no_subscripts }

indirect : Standing
indirect = record {
  loops = i_loop ∷ [];
  statement = record { line = 3; guard = None; left = left; right = Binary Add (Named (78 ∷ []) no_subscripts) index };
}

three_references : references_of indirect ≡ left ∷ element ∷ scalar ∷ []
unfolding indirect i_loop index left element scalar
three_references = refl

-- the level is that of the first `<`
second_level : vector_level (record { len = 3; at = Eq ∷ Lt ∷ Lt ∷ Any ∷ Any ∷ Any ∷ Any ∷ [] }) ≡ 2
second_level = refl

independent : vector_level (record { len = 2; at = Eq ∷ Eq ∷ Any ∷ Any ∷ Any ∷ Any ∷ Any ∷ [] }) ≡ 0
independent = refl

write_then_read : kind_between 0 2 ≡ Some Flow
write_then_read = refl

read_then_write : kind_between 2 0 ≡ Some Anti
read_then_write = refl
