-- In a program each GO TO leads forward.
use Rattle.std.proofs.Common.{List}
use Rattle.tree.specs.Plain.{Statement, Assignment, Where, If, Do, Label, GoTo, Stop, Read, Print, Allocate, Deallocate}
use Rattle.tree.specs.Plain.{Arms, no_arms, arm, Block, no_statements, statement, Declaration}
use Rattle.meaning.specs.Blocks.{Surroundings, outermost, within_loop, before_labels, labels_of}
use Rattle.meaning.specs.Jumps.{JumpsForward, ArmsJumpForward, BlockJumpsForward}
use Rattle.meaning.specs.Profile90.{IsStatement, AreArms, IsBlock}
use Rattle.meaning_laws.specs.profiles.Forward.{SourceJumpsForward, TargetJumpsForward}
use Rattle.meaning_laws.proofs.profiles.Targets.{block_is}
use Rattle.meaning_laws.proofs.profiles.Programs.{as_it_stands}

module _ (ds : List Declaration) where
  mutual
    jumps : (c : Statement) (w : Surroundings) → IsStatement ds c w → JumpsForward w.ahead c
    jumps (Assignment line mark left right) w h = tt
    jumps (Where line mark mask left right) w h = tt
    jumps (If line arms other) w h = (arms_jump arms w h.2, block_jumps other w h.3)
    jumps (Do line x a b c body) w h = block_jumps body (within_loop x w) h.5
    jumps (Label n) w h = tt
    jumps (GoTo line n) w h = h.1
    jumps (Stop line) w h = tt
    jumps (Read line is) w h = tt
    jumps (Print line is) w h = tt
    jumps (Allocate line x es) w h = tt
    jumps (Deallocate line x) w h = tt

    arms_jump : (arms : Arms) (w : Surroundings) → AreArms ds arms w → ArmsJumpForward w.ahead arms
    arms_jump no_arms w h = tt
    arms_jump (arm test body more) w h = (block_jumps body w h.1, arms_jump more w h.2)

    block_jumps : (b : Block) (w : Surroundings) → IsBlock ds b w → BlockJumpsForward w.ahead b
    block_jumps no_statements w h = tt
    block_jumps (statement c cs) w h = (jumps c (before_labels (labels_of cs) w) h.0, block_jumps cs w h.1)

pub target_jumps_forward : TargetJumpsForward
target_jumps_forward p h = block_jumps p.declarations p.body outermost h.statements

pub source_jumps_forward : SourceJumpsForward
source_jumps_forward lang p h =
    block_jumps p.declarations p.body outermost (block_is p.declarations p.declarations (as_it_stands lang p h) p.body outermost h.statements)
