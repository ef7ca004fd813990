-- Loops that stand in a block of the profile are statements of the profile.
use Rattle.std.proofs.Common.{◌≡◌, ℕ, List, [], ◌∷◌, ◌++◌, Contains}
use Rattle.std.specs.List.{All}
use Rattle.std.proofs.lemmas.List.Elements.{All-nil, All-cons, All-append, All-contains}
use Rattle.tree.specs.Plain.{Statement, Assignment, Where, If, Do, Label, GoTo, Stop, Read, Print, Allocate, Deallocate, Arms, no_arms, arm, Block, no_statements, statement, Declaration}
use Rattle.meaning.specs.Profile77.{IsStatement, AreArms, IsBlock}
use Rattle.meaning.specs.Blocks.{Surroundings, within_loop, before_labels, labels_of}
use Rattle.find_nests.specs.nest_parts.Numbers.{next_loop_number, number_after, after_arms, after_block}
use Rattle.find_nests.specs.Loops.{SourceLoop, SurroundedLoop, as_statement, loops_in, loops_in_arms, loops_in_block}

module _ (ds : List Declaration) where
  pub record Stands (l : SurroundedLoop) : Type 0 where
    pub round : Surroundings
    pub is : IsStatement ds (as_statement l.loop.loop) round

  abbrev AllStand : List SurroundedLoop → Type 0
  AllStand ls = All Stands ls

  mutual
    in_statement : (c : Statement) (k : ℕ) (around : List SourceLoop) (w : Surroundings) → IsStatement ds c w → AllStand (loops_in k around c)
    in_statement (Assignment line mark left right) k around w h = All-nil Stands
    in_statement (Where line mark mask left right) k around w h = All-nil Stands
    in_statement (If line arms other) k around w h =
        All-append Stands (loops_in_arms k around arms) (loops_in_block (after_arms k arms) around other) (in_arms arms k around w h.2) (in_block other (after_arms k arms) around w h.3)
    in_statement (Do line x a b c body) k around w h =
        let l : SourceLoop = record { line = line; variable = x; first = a; last = b; step = c; body = body } in
        All-cons Stands (record { around = around; loop = record { before = k; loop = l } }) (loops_in_block (next_loop_number k) (around ++ l ∷ []) body)
        (record { round = w; is = h })
        (in_block body (next_loop_number k) (around ++ l ∷ []) (within_loop x w) h.5)
    in_statement (Label n) k around w h = All-nil Stands
    in_statement (GoTo line n) k around w h = All-nil Stands
    in_statement (Stop line) k around w h = All-nil Stands
    in_statement (Read line is) k around w h = All-nil Stands
    in_statement (Print line is) k around w h = All-nil Stands
    in_statement (Allocate line x es) k around w h = All-nil Stands
    in_statement (Deallocate line x) k around w h = All-nil Stands

    in_arms : (arms : Arms) (k : ℕ) (around : List SourceLoop) (w : Surroundings) → AreArms ds arms w → AllStand (loops_in_arms k around arms)
    in_arms no_arms k around w h = All-nil Stands
    in_arms (arm test body arms) k around w h =
        All-append Stands (loops_in_block k around body) (loops_in_arms (after_block k body) around arms) (in_block body k around w h.1) (in_arms arms (after_block k body) around w h.2)

    in_block : (b : Block) (k : ℕ) (around : List SourceLoop) (w : Surroundings) → IsBlock ds b w → AllStand (loops_in_block k around b)
    in_block no_statements k around w h = All-nil Stands
    in_block (statement c cs) k around w h =
        All-append Stands (loops_in k around c) (loops_in_block (number_after k c) around cs) (in_statement c k around (before_labels (labels_of cs) w) h.0) (in_block cs (number_after k c) around w h.1)

  pub loop_stands : (b : Block) (k : ℕ) (around : List SourceLoop) (w : Surroundings) (l : SurroundedLoop) → IsBlock ds b w → Contains (loops_in_block k around b) l → Stands l
  loop_stands b k around w l h c = All-contains Stands (loops_in_block k around b) l (in_block b k around w h) c
