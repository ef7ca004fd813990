-- What the machine relies on in a program of the profile.
use Rattle.std.proofs.Common.{◌≡◌, sym, map, ap, ◌∙◌, ℕ, false, List, [], ◌∷◌}
use Rattle.std.specs.List.{AllByRecursion}
use Rattle.std.specs.Str.{bytes_eq}
use Rattle.std.specs.Ordering.{nat_cmp, is_eq}
use Rattle.std.specs.Cmp.Lexicographic.{slice_cmp}
use Rattle.std.specs.declared.cmp.Ordering.TheVariants.{Less}
use Rattle.std.proofs.lemmas.Map.Text.{is_eq-slice_cmp}
use Rattle.tree.specs.Plain.{Declaration, Program, Statement, Assignment, Where, If, Do, Label, GoTo, Stop, Read, Print}
use Rattle.tree.specs.Plain.{Allocate, Deallocate, Arms, no_arms, arm, Block, no_statements, statement}
use Rattle.meaning.specs.Names.{IsInByteOrder}
use Rattle.meaning.specs.Blocks.{Surroundings, before_labels, labels_of, within_loop}
use Rattle.meaning.specs.Profile90.{IsProgram90, IsStatement, AreArms, IsBlock}
use Rattle.machine.specs.Statements.{HasArms, ArmsHaveArms, BlockHasArms}
use Rattle.machine.specs.Storage.{AreDistinct}

-- a name is none of those after it in byte order
apart : (x : List ℕ) (ds : List Declaration) → AllByRecursion (λ y. slice_cmp nat_cmp x y ≡ Less) (map (λ (d : Declaration). d.name) ds) → AllByRecursion (λ (d : Declaration). bytes_eq x d.name ≡ false) ds
apart x [] h = tt
apart x (d ∷ ds) h = (sym (is_eq-slice_cmp x d.name) ∙ ap is_eq h.0, apart x ds h.1)

distinct : (ds : List Declaration) → IsInByteOrder (map (λ (d : Declaration). d.name) ds) → AreDistinct ds
distinct [] h = tt
distinct (d ∷ ds) h = (apart d.name ds h.0, distinct ds h.1)

pub are_distinct : (p : Program) → IsProgram90 p → AreDistinct p.declarations
are_distinct p h = distinct p.declarations h.declarations.ordered

mutual
  pub statement_has_arms : (ds : List Declaration) (c : Statement) (w : Surroundings) → IsStatement ds c w → HasArms c
  statement_has_arms ds (Assignment line mark left right) w h = tt
  statement_has_arms ds (Where line mark mask left right) w h = tt
  statement_has_arms ds (If line as' other) w h = (h.1, arms_have_arms ds as' w h.2, block_has_arms ds other w h.3)
  statement_has_arms ds (Do line x a b c body) w h = block_has_arms ds body (within_loop x w) h.5
  statement_has_arms ds (Label n) w h = tt
  statement_has_arms ds (GoTo line n) w h = tt
  statement_has_arms ds (Stop line) w h = tt
  statement_has_arms ds (Read line is) w h = tt
  statement_has_arms ds (Print line is) w h = tt
  statement_has_arms ds (Allocate line x es) w h = tt
  statement_has_arms ds (Deallocate line x) w h = tt

  arms_have_arms : (ds : List Declaration) (as' : Arms) (w : Surroundings) → AreArms ds as' w → ArmsHaveArms as'
  arms_have_arms ds no_arms w h = tt
  arms_have_arms ds (arm test body more) w h = (block_has_arms ds body w h.1, arms_have_arms ds more w h.2)

  block_has_arms : (ds : List Declaration) (b : Block) (w : Surroundings) → IsBlock ds b w → BlockHasArms b
  block_has_arms ds no_statements w h = tt
  block_has_arms ds (statement c cs) w h = (statement_has_arms ds c (before_labels (labels_of cs) w) h.0, block_has_arms ds cs w h.1)
