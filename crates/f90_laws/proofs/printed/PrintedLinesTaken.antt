-- A mark of a printed program stands before a statement that takes it.
use Rattle.std.proofs.Common.{◌≡◌, refl, false, None, IfSome, List, [], ◌∷◌, map}
use Rattle.std.specs.List.{AllByRecursion}
use Rattle.tree.specs.Plain as tree
use Rattle.tree.specs.Plain.{Statement, Arms, Block, Declaration, Program}
use Rattle.meaning.specs.Blocks.{Surroundings, before_labels, within_loop, labels_of, outermost}
use Rattle.meaning.specs.Profile90 as profile
use Rattle.meaning.specs.Profile90.{IsStatement, AreArms, IsBlock, IsProgram90}
use Rattle.f90_grammar.specs.Forms as forms
use Rattle.f90_grammar.specs.Forms.{Form90}
use Rattle.f90_grammar.specs.PrintedForms.{Printed, unmarked, printed_statement, printed_arms, printed_else, printed_block, printed_declaration, printed_program}
use Rattle.f90_grammar.specs.Reading.{takes_mark}
use Rattle.f90_laws.proofs.printed.Spelling.{all_append}

pub record MarkSuits (s : Printed) : Type 0 where
  pub is_mark : IfSome s.mark profile.IsMark
  pub taken : takes_mark s.form ≡ false → s.mark ≡ None

unmarked_suits : (f : Form90) → MarkSuits (unmarked f)
unmarked_suits f = record { is_mark = tt; taken = λ e. refl }

abbrev EachSuits : List Printed → Type 0
EachSuits ss = AllByRecursion MarkSuits ss

end_suits : (f : Form90) → EachSuits (unmarked f ∷ [])
end_suits f = (unmarked_suits f, tt)

else_suits : (o : Block) → EachSuits (printed_block o) → EachSuits (printed_else o)
else_suits tree.no_statements h = tt
else_suits (tree.statement c cs) h = (unmarked_suits _, h)

module _ (ds : List Declaration) where
  mutual
    statement_suits : (c : Statement) (w : Surroundings) → IsStatement ds c w → EachSuits (printed_statement c)
    statement_suits (tree.Assignment line mark left right) w h = (record { is_mark = h.0.1; taken = λ e. absurd cc }, tt)
    statement_suits (tree.Where line mark mask left right) w h = (record { is_mark = h.0.1; taken = λ e. absurd cc }, tt)
    statement_suits (tree.If line tree.no_arms other) w h = tt
    statement_suits (tree.If line (tree.arm test body more) other) w h = (
      unmarked_suits _,
      all_append MarkSuits (printed_block body) _ (block_suits body w h.2.1)
          (all_append MarkSuits (printed_arms more) _ (arms_suit more w h.2.2)
          (all_append MarkSuits (printed_else other) _ (else_suits other (block_suits other w h.3)) (end_suits forms.EndIf))),
    )
    statement_suits (tree.Do line x a b c body) w h =
        (unmarked_suits _, all_append MarkSuits (printed_block body) _ (block_suits body (within_loop x w) h.5) (end_suits forms.EndDo))
    statement_suits (tree.Label n) w h = end_suits _
    statement_suits (tree.GoTo line n) w h = end_suits _
    statement_suits (tree.Stop line) w h = end_suits _
    statement_suits (tree.Read line is) w h = end_suits _
    statement_suits (tree.Print line is) w h = end_suits _
    statement_suits (tree.Allocate line x es) w h = end_suits _
    statement_suits (tree.Deallocate line x) w h = end_suits _

    arms_suit : (m : Arms) (w : Surroundings) → AreArms ds m w → EachSuits (printed_arms m)
    arms_suit tree.no_arms w h = tt
    arms_suit (tree.arm test body more) w h =
        (unmarked_suits _, all_append MarkSuits (printed_block body) _ (block_suits body w h.1) (arms_suit more w h.2))

    block_suits : (b : Block) (w : Surroundings) → IsBlock ds b w → EachSuits (printed_block b)
    block_suits tree.no_statements w h = tt
    block_suits (tree.statement c cs) w h =
        all_append MarkSuits (printed_statement c) _ (statement_suits c (before_labels (labels_of cs) w) h.0) (block_suits cs w h.1)

declarations_suit : (ds : List Declaration) → EachSuits (map printed_declaration ds)
declarations_suit [] = tt
declarations_suit (d ∷ ds) = (unmarked_suits _, declarations_suit ds)

pub program_suits : (p : Program) → IsProgram90 p → AllByRecursion MarkSuits (printed_program p)
program_suits p h = (
  unmarked_suits _,
  (
    unmarked_suits _,
    all_append MarkSuits (map printed_declaration p.declarations) _ (declarations_suit p.declarations)
        (all_append MarkSuits (printed_block p.body) _ (block_suits p.declarations p.body outermost h.statements) (end_suits forms.End)),
  ),
)
