-- The kind and the rank that an expression of Fortran 90 has (ISO/IEC 1539:1991, section 7.1.4).
use Rattle.std.specs.Prelude.{◌≡◌, Option, None, Some, List}
use Rattle.tree.specs.Plain.{Expression, Declaration}
use Rattle.tree.specs.declared.ops.Kind.{Kind}
use Rattle.meaning.specs.Typed90.{HasKind, rank_of}
use Rattle.f90_names.specs.declared.kinds.nodes.Ranked.{Ranked}

-- by the declarations `ds` the expression has this kind and this rank, and all in it suits; None: something doesn't
abbrev pub IsKindOf : List Declaration → Expression → Option Ranked → Type 0
IsKindOf ds e (Some t) = HasKind ds e t.kind × (rank_of ds e ≡ t.rank)
IsKindOf ds e None = (k : Kind) → HasKind ds e k → ⊥
