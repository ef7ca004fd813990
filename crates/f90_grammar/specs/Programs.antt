-- The program that statements are (ISO/IEC 1539:1991, sections 2.3.1 and 11.1).
use Rattle.std.specs.Prelude.{◌≡◌, ◌↔◌, List, length, Contains}
use Rattle.tree.specs.Plain.{Program, Declaration}
use Rattle.meaning.specs.Names.{IsInByteOrder}
use Rattle.f90_grammar.specs.Blocks.{Placed}
use Rattle.f90_grammar.specs.Declared.{declarations_of, declared_names_of}
use Rattle.f90_grammar.specs.Order.{IsInOrder, title_in_text}
use Rattle.f90_grammar.specs.Surroundings.{AreBody}

-- The statements are those of the program q: they are in order, and q has their title, their declarations in byte order
-- of names, and the block of their executable statements
pub record IsProgramOf (ps : List Placed) (q : Program) : Type 0 where
  pub in_order : IsInOrder ps
  pub title : q.name ≡ title_in_text ps
  pub sorted : IsInByteOrder (declared_names_of q.declarations)
  pub each : (d : Declaration) → Contains (declarations_of ps) d ↔ Contains q.declarations d
  pub once : length (declarations_of ps) ≡ length q.declarations
  pub body : AreBody ps q.body
