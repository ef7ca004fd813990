-- A program in which each loop that stands in no nest has become what its answer says. The answers stand in the order
-- of the text.
use Rattle.std.specs.Prelude.{ℕ, ◌+◌, nat_lt, length, if◌then◌else◌, List, [], ◌∷◌, ◌++◌, slice_index_or}
use Rattle.tree.specs.Plain.{Expression, Statement, Assignment, Where, If, Do, Label, GoTo, Stop, Read, Print, Allocate}
use Rattle.tree.specs.Plain.{Deallocate, Arms, no_arms, arm, Block, no_statements, statement, block}
use Rattle.tree.specs.View.{Tested}
use Rattle.index_split.specs.Pieces.{are_assignments, loops_over}
use Rattle.index_split.specs.declared.answers.Answer.{Answer}
use Rattle.index_split.specs.declared.answers.Answer.TheVariants.{Cut, Outer, Whole}
use Rattle.index_split.specs.declared.pieces.Pieces.{Pieces}

abbrev pub statements_in : Block → List Statement
statements_in no_statements = []
statements_in (statement c cs) = c ∷ statements_in cs

module _ (answers : List Answer) where
  abbrev pub answer_at : ℕ → Answer
  answer_at i = slice_index_or answers i Whole

  -- loops over pieces in the place of a loop of assignments alone
  abbrev pub pieces_or : Pieces → Statement → ℕ → List ℕ → Block → List Statement
  pieces_or ps c line x body = if are_assignments body then loops_over ps line x body else c ∷ []

  -- so many answers stand before the next loop, where i stand before this one
  abbrev pub next : ℕ → ℕ
  next i = if nat_lt i (length answers) then i + 1 else i

  -- so many stand before the end of a loop, where `inside` stand before the end of its body
  abbrev pub after_loop : Answer → ℕ → ℕ → ℕ
  after_loop Outer n inside = inside
  after_loop Whole n inside = n
  after_loop (Cut ps) n inside = n

  -- i answers stand before the statement
  abbrev mutual
    pub used : ℕ → Statement → ℕ
    used i (Assignment line mark left right) = i
    used i (Where line mark mask left right) = i
    used i (If line arms other) = used_block (used_arms i arms) other
    used i (Do line x a b c body) = after_loop (answer_at i) (next i) (used_block (next i) body)
    used i (Label n) = i
    used i (GoTo line n) = i
    used i (Stop line) = i
    used i (Read line is) = i
    used i (Print line is) = i
    used i (Allocate line x es) = i
    used i (Deallocate line x) = i

    pub used_arms : ℕ → Arms → ℕ
    used_arms i no_arms = i
    used_arms i (arm test body arms) = used_arms (used_block i body) arms

    pub used_block : ℕ → Block → ℕ
    used_block i no_statements = i
    used_block i (statement c cs) = used_block (used i c) cs

  abbrev pub filled_loop : Answer → ℕ → List ℕ → Expression → Expression → Expression → Block → Block → List Statement
  filled_loop Outer line x a b c body inside = Do line x a b c inside ∷ []
  filled_loop Whole line x a b c body inside = Do line x a b c body ∷ []
  filled_loop (Cut ps) line x a b c body inside = pieces_or ps (Do line x a b c body) line x body

  abbrev mutual
    pub filled : ℕ → Statement → List Statement
    filled i (Assignment line mark left right) = Assignment line mark left right ∷ []
    filled i (Where line mark mask left right) = Where line mark mask left right ∷ []
    filled i (If line arms other) = If line (filled_arms i arms) (block (filled_in (used_arms i arms) other)) ∷ []
    filled i (Do line x a b c body) =
        filled_loop (answer_at i) line x a b c body (block (filled_in (next i) body))
    filled i (Label n) = Label n ∷ []
    filled i (GoTo line n) = GoTo line n ∷ []
    filled i (Stop line) = Stop line ∷ []
    filled i (Read line is) = Read line is ∷ []
    filled i (Print line is) = Print line is ∷ []
    filled i (Allocate line x es) = Allocate line x es ∷ []
    filled i (Deallocate line x) = Deallocate line x ∷ []

    pub filled_arms : ℕ → Arms → Arms
    filled_arms i no_arms = no_arms
    filled_arms i (arm test body arms) = arm test (block (filled_in i body)) (filled_arms (used_block i body) arms)

    pub filled_in : ℕ → Block → List Statement
    filled_in i no_statements = []
    filled_in i (statement c cs) = filled i c ++ filled_in (used i c) cs

  -- of a list of statements, and of arms
  abbrev pub used_list : ℕ → List Statement → ℕ
  used_list i [] = i
  used_list i (c ∷ cs) = used_list (used i c) cs

  abbrev pub used_each : ℕ → List Tested → ℕ
  used_each i [] = i
  used_each i (t ∷ ts) = used_each (used_block i t.body) ts

  abbrev pub filled_list : ℕ → List Statement → List Statement
  filled_list i [] = []
  filled_list i (c ∷ cs) = filled i c ++ filled_list (used i c) cs

  abbrev pub filled_arm : ℕ → Tested → Tested
  filled_arm i t = record { test = t.test; body = block (filled_in i t.body) }

  abbrev pub filled_each : ℕ → List Tested → List Tested
  filled_each i [] = []
  filled_each i (t ∷ ts) = filled_arm i t ∷ filled_each (used_block i t.body) ts
