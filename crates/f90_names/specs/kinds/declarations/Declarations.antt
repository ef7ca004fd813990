-- Declarations in byte order of their names.
use Rattle.std.specs.Prelude.{◌≡◌, ◌↔◌, ℕ, IsTrue, List, length, Contains}
use Rattle.std.specs.List.{AllByRecursion}
use Rattle.tree.specs.Plain.{Declaration}
use Rattle.tree.specs.declared.programs.Decl.{Decl}
use Rattle.meaning.specs.Names.{IsInByteOrder}
use Rattle.f90_grammar.specs.Blocks.{Placed}
use Rattle.f90_grammar.specs.Bounds.{HasBounds}
use Rattle.f90_grammar.specs.Declared.{declarations_in, declares_again, declared_names_of}
use Rattle.f90_grammar.specs.Order.{Place90, IsPlaceIn}

abbrev pub name_in : Decl → List ℕ
name_in d = d.name

-- bounds are within 64 bits, and no name is declared again
pub record AreAccepted (ps : List Placed) : Type 0 where
  pub bounds : (p : Place90) → IsPlaceIn ps p → (AllByRecursion HasBounds (declarations_in p.here.form) → ⊥) → ⊥
  pub once : (p : Place90) → IsPlaceIn ps p → IsTrue (declares_again p.before p.here.form) → ⊥

-- the same declarations, in byte order of names and none twice
pub record AreInOrder (in_text ds : List Declaration) : Type 0 where
  pub sorted : IsInByteOrder (declared_names_of ds)
  pub each : (d : Declaration) → Contains in_text d ↔ Contains ds d
  pub once : length in_text ≡ length ds
