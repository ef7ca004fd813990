-- Names that passes make, and names that are declared: which are scalars.
use Rattle.std.specs.Prelude.{Option, Some, None, List, [], ◌∷◌, ◌++◌}
use Rattle.tree.specs.Plain.{Declaration, Expression, Extent, Given, Later}
use Rattle.tree.specs.declared.ops.Kind.{Kind}
use Rattle.nest.specs.Plain.{Made, Nest}

abbrev kind_by_extent : Kind → Extent → Option Kind
kind_by_extent k (Given []) = Some k
kind_by_extent k (Given (b ∷ bs)) = None
kind_by_extent k (Later n) = None

-- the kind of what is declared a scalar
abbrev pub kind_if_scalar : Declaration → Option Kind
kind_if_scalar d = kind_by_extent d.kind d.extent

abbrev kind_by_extents : Kind → List Expression → Option Kind
kind_by_extents k [] = Some k
kind_by_extents k (e ∷ es) = None

-- of a made scalar
abbrev pub made_kind_if_scalar : Made → Option Kind
made_kind_if_scalar a = kind_by_extents a.kind a.extents

-- further ones behind those that there are
abbrev pub with_made : Nest → List Made → Nest
with_made n as' = record n { made = n.made ++ as' }
