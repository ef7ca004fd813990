-- What is open behind one statement more.
use Rattle.std.proofs.Common.{◌≡◌, List, [], ◌∷◌, ◌++◌, refl, sym, subst}
use Rattle.f90_grammar.specs.Blocks.{Placed}
use Rattle.f90_grammar.specs.Order.{Opened, opened_by, opened_behind}
use Rattle.f90_blocks.specs.structure.Blocks.{AreOpen}
use Rattle.f90_blocks.specs.declared.structure.blocks.Blocks.{Blocks}

-- the blocks are those that are open behind the statements
abbrev pub AreOpenBehind : Blocks → List Placed → Type 0
AreOpenBehind b before = AreOpen b (opened_behind [] before)

opened_more : (os : List Opened) (before : List Placed) (p : Placed)
    → opened_behind os (before ++ p ∷ []) ≡ opened_by p.form (opened_behind os before)
opened_more os [] p = refl
opened_more os (q ∷ before) p = opened_more (opened_by q.form os) before p

pub open_behind : (b : Blocks) (before : List Placed) (p : Placed)
    → AreOpen b (opened_by p.form (opened_behind [] before))
    → AreOpenBehind b (before ++ p ∷ [])
open_behind b before p h = subst (AreOpen b) (sym (opened_more [] before p)) h
