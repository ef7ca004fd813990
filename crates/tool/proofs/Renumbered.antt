-- Programs that are the same but for the numbers of their lines are the same without lines and marks.
use Rattle.std.proofs.Common.{◌≡◌, refl, ap, sym, ◌∙◌}
use mathlib.Core.Path.{ap₂}
use Rattle.tree.specs.Plain.{Statement, Assignment, Where, If, Do, Label, GoTo, Stop, Read, Print, Allocate, Deallocate, Arms, no_arms, arm, Block, no_statements, statement, Program}
use Rattle.meaning.specs.Relined.{without_lines, arms_without_lines, block_without_lines, SameButLines}
use Rattle.f90_laws.specs.printed.ReadBack.{without_numbers, arms_without_numbers, block_without_numbers, SameButNumbers}

mutual
  without-statement : (c : Statement) → without_lines (without_numbers c) ≡ without_lines c
  without-statement (Assignment line mark left right) = refl
  without-statement (Where line mark m left right) = refl
  without-statement (If line arms other) = ap₂ (If 0) (without-arms arms) (without-block other)
  without-statement (Do line x first last step body) = ap (Do 0 x first last step) (without-block body)
  without-statement (Label n) = refl
  without-statement (GoTo line n) = refl
  without-statement (Stop line) = refl
  without-statement (Read line is) = refl
  without-statement (Print line is) = refl
  without-statement (Allocate line x es) = refl
  without-statement (Deallocate line x) = refl

  without-arms : (arms : Arms) → arms_without_lines (arms_without_numbers arms) ≡ arms_without_lines arms
  without-arms no_arms = refl
  without-arms (arm test body arms) = ap₂ (arm test) (without-block body) (without-arms arms)

  without-block : (b : Block) → block_without_lines (block_without_numbers b) ≡ block_without_lines b
  without-block no_statements = refl
  without-block (statement c cs) = ap₂ statement (without-statement c) (without-block cs)

pub same_but_lines : (p q : Program) → SameButNumbers p q → SameButLines p q
same_but_lines p q h = record {
  declarations = h.declarations;
  body = sym (without-block p.body) ∙ ap block_without_lines h.body ∙ without-block q.body;
}
