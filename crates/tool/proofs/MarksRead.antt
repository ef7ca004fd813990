-- The marked statements of a block don't hang on the numbers of lines.
use Rattle.std.proofs.Common.{◌≡◌, refl, ap, ap₂, sym, ◌∙◌, Option, None, Some, List, [], ◌∷◌, ◌++◌, map}
use Rattle.std.proofs.lemmas.List.{map-append}
use Rattle.tree.specs.Plain.{Statement, Assignment, Where, If, Do, Label, GoTo, Stop, Read, Print, Allocate, Deallocate, Arms, no_arms, arm, Block, no_statements, statement}
use Rattle.tree.specs.declared.stmts.Mark.{Mark}
use Rattle.emission.specs.emission_marks.Marks.{Marked, Round, Turning, Under, Otherwise, with_mark, marked, marked_under, marked_in}
use Rattle.f90_laws.specs.printed.ReadBack.{without_numbers, arms_without_numbers, block_without_numbers}
use Rattle.translation.specs.program_marks.Marks.{without_line, without_line_number}

one_again : (r : List Round) (o : Option Mark) (c : Statement) → with_mark r o (without_line_number c) ≡ map without_line (with_mark r o c)
one_again r None c = refl
one_again r (Some m) c = refl

both_again : (xs ys us vs : List Marked) → xs ≡ map without_line us → ys ≡ map without_line vs → xs ++ ys ≡ map without_line (us ++ vs)
both_again xs ys us vs e f = ap₂ (λ (zs ws : List Marked). zs ++ ws) e f ∙ sym (map-append without_line us vs)

mutual
  statement_again : (r : List Round) (c : Statement) → marked r (without_numbers c) ≡ map without_line (marked r c)
  statement_again r (Assignment line mark left right) = one_again r mark (Assignment line mark left right)
  statement_again r (Where line mark mask left right) = one_again r mark (Where line mark mask left right)
  statement_again r (If line arms other) =
      both_again (marked_under r (arms_without_numbers arms)) (marked_in (r ++ Otherwise ∷ []) (block_without_numbers other))
      (marked_under r arms) (marked_in (r ++ Otherwise ∷ []) other) (arms_again r arms) (block_again (r ++ Otherwise ∷ []) other)
  statement_again r (Do line x first last step body) = block_again (r ++ Turning x first last step ∷ []) body
  statement_again r (Label n) = refl
  statement_again r (GoTo line n) = refl
  statement_again r (Stop line) = refl
  statement_again r (Read line is) = refl
  statement_again r (Print line is) = refl
  statement_again r (Allocate line x es) = refl
  statement_again r (Deallocate line x) = refl

  arms_again : (r : List Round) (arms : Arms) → marked_under r (arms_without_numbers arms) ≡ map without_line (marked_under r arms)
  arms_again r no_arms = refl
  arms_again r (arm test body arms) =
      both_again (marked_in (r ++ Under test ∷ []) (block_without_numbers body)) (marked_under r (arms_without_numbers arms))
      (marked_in (r ++ Under test ∷ []) body) (marked_under r arms) (block_again (r ++ Under test ∷ []) body) (arms_again r arms)

  block_again : (r : List Round) (b : Block) → marked_in r (block_without_numbers b) ≡ map without_line (marked_in r b)
  block_again r no_statements = refl
  block_again r (statement c cs) =
      both_again (marked r (without_numbers c)) (marked_in r (block_without_numbers cs)) (marked r c) (marked_in r cs)
      (statement_again r c) (block_again r cs)

-- blocks that are the same but for the numbers of lines have the same marked statements but for these
pub same_marks : (b c : Block) → block_without_numbers b ≡ block_without_numbers c → map without_line (marked_in [] b) ≡ map without_line (marked_in [] c)
same_marks b c e = sym (block_again [] b) ∙ ap (marked_in []) e ∙ block_again [] c
