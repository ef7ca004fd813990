-- The jumps of a program of the profile lead forwards.
use Rattle.std.proofs.Common.{List}
use Rattle.tree.specs.Plain.{Declaration, Statement, Assignment, Where, If, Do, Label, GoTo, Stop}
use Rattle.tree.specs.Plain.{Read, Print, Allocate, Deallocate, Arms, no_arms, arm, Block, no_statements, statement}
use Rattle.tree.specs.Plain.{Program}
use Rattle.meaning.specs.Dialect.{fortran77}
use Rattle.tree.specs.declared.width.Width.{Width}
use Rattle.meaning.specs.Blocks.{Surroundings, before_labels, labels_of, within_loop, outermost}
use Rattle.meaning.specs.Profile77.{IsStatement, AreArms, IsBlock, IsProgram77}
use Rattle.meaning.specs.Jumps.{JumpsForward, ArmsJumpForward, BlockJumpsForward, AllJumpsForward}

mutual
  statement_jumps : (ds : List Declaration) (c : Statement) (w : Surroundings) → IsStatement ds c w → JumpsForward w.ahead c
  statement_jumps ds (Assignment line mark left right) w h = tt
  statement_jumps ds (Where line mark mask left right) w h = absurd h
  statement_jumps ds (If line as' other) w h = (arms_jump ds as' w h.2, block_jumps ds other w h.3)
  statement_jumps ds (Do line x a b c body) w h = block_jumps ds body (within_loop x w) h.5
  statement_jumps ds (Label n) w h = tt
  statement_jumps ds (GoTo line n) w h = h.1
  statement_jumps ds (Stop line) w h = tt
  statement_jumps ds (Read line is) w h = tt
  statement_jumps ds (Print line is) w h = tt
  statement_jumps ds (Allocate line x es) w h = absurd h
  statement_jumps ds (Deallocate line x) w h = absurd h

  arms_jump : (ds : List Declaration) (as' : Arms) (w : Surroundings) → AreArms ds as' w → ArmsJumpForward w.ahead as'
  arms_jump ds no_arms w h = tt
  arms_jump ds (arm test body more) w h = (block_jumps ds body w h.1, arms_jump ds more w h.2)

  block_jumps : (ds : List Declaration) (b : Block) (w : Surroundings) → IsBlock ds b w → BlockJumpsForward w.ahead b
  block_jumps ds no_statements w h = tt
  block_jumps ds (statement c cs) w h =
      (statement_jumps ds c (before_labels (labels_of cs) w) h.0, block_jumps ds cs w h.1)

-- a GO TO of such a program names a label after it, in a block round it
pub jumps_forward : (width : Width) → (p : Program) → IsProgram77 (fortran77 width) p → AllJumpsForward p
jumps_forward width p h = block_jumps p.declarations p.body outermost h.statements
