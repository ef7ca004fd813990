-- How the answers of two references in two loops merge.
use Rattle.std.specs.Prelude.{◌≡◌, List, [], ◌∷◌}
use Rattle.components.specs.Lists.{Each}
use Rattle.subscripts.specs.declared.affine.Dir.TheVariants.{Lt, Eq, Any}
use Rattle.subscripts.specs.declared.verdict.Test.{Test}
use Rattle.dependence_graph.specs.nest_graph.Arcs.{VectorVerdict, Never}
use Rattle.dependence_graph.specs.nest_graph.Merged.{IsListed}

-- where all answers are drops with one word, there are these two: (<,*) and (=,<)
abbrev pub DropsMerge : Type 0
DropsMerge = (w : Test) (answers : List VectorVerdict) → IsListed 0 0 2 answers → Each (λ a. a.1 ≡ Never w) answers
    → answers ≡ (Lt ∷ Any ∷ [], Never w) ∷ (Eq ∷ Lt ∷ [], Never w) ∷ []
