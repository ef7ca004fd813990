-- Places that have masks besides.
use Rattle.std.specs.Prelude.{◌≡◌, ℕ, ◌<◌, ◌≤◌, Some, IsSomeAnd, Contains, List, []}
use Rattle.tree.specs.Plain.{Declaration, Given, Program}
use Rattle.tree.specs.declared.ops.Kind.TheVariants.{Logical}
use Rattle.meaning.specs.Store.{names_of}
use Rattle.meaning.specs.Typed.{declared}
use Rattle.nest_steps.specs.Keeping.{Place}
use Rattle.if_convert.specs.Masks.{mask_name}
use Rattle.prepared_passes.specs.conversion.Branching.{IsNoMask}

pub record IsMask (d : Declaration) : Type 0 where
  pub kind : d.kind ≡ Logical
  pub extent : d.extent ≡ Given []

-- The place x has what w has, and the masks from number k on, and below e, as LOGICAL scalars, which w may have, too; p
-- has no masks
pub record AddsMasks (p : Program) (w x : Place) (k e : ℕ) : Type 0 where
  pub program : (i : ℕ) → ¬ Contains (names_of p) (mask_name i)
  pub kept : (y : List ℕ) (d : Declaration) → declared w.program.declarations y ≡ Some d
      → declared x.program.declarations y ≡ Some d
  pub bounds : (y : List ℕ) → IsNoMask y → x.bounds y ≡ w.bounds y
  pub masks : (i : ℕ) → k ≤ i → i < e → IsSomeAnd (declared x.program.declarations (mask_name i)) IsMask
  pub scalars : (i : ℕ) → k ≤ i → i < e → x.bounds (mask_name i) ≡ Some []
