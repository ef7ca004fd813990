-- What stands round a block stands round each marked statement in it.
use Rattle.std.proofs.Common.{◌≡◌, refl, sym, ap, ap₂, ◌∙◌, Option, Some, None, List, [], ◌∷◌, ◌++◌, map}
use Rattle.std.proofs.Common.{append_assoc, append-nil}
use Rattle.std.proofs.lemmas.List.{map-append}
use Rattle.tree.specs.Plain.{Statement, Assignment, Where, If, Do, Label, GoTo, Stop, Read, Print, Allocate}
use Rattle.tree.specs.Plain.{Deallocate, Arms, no_arms, arm, Block, no_statements, statement, block}
use Rattle.tree.specs.declared.stmts.Mark.{Mark}
use Rattle.emission.specs.emission_marks.Marks.{Marked, Otherwise, Round, Turning, Under, marked, marked_in, marked_under}
use Rattle.emission.specs.emission_marks.Marks.{with_mark}
use Rattle.translation.specs.program_marks.Marks.{within}

module _ (outer : List Round) where
  one : (m : Option Mark) (c : Statement) (round : List Round)
      → with_mark (outer ++ round) m c ≡ map (within outer) (with_mark round m c)
  one None c round = refl
  one (Some m) c round = refl

  both : (xs ys zs ws : List Marked) → xs ≡ map (within outer) zs → ys ≡ map (within outer) ws
      → xs ++ ys ≡ map (within outer) (zs ++ ws)
  both xs ys zs ws e f = ap₂ (λ a b. a ++ b) e f ∙ sym (map-append (within outer) zs ws)

  -- within one more
  deeper : (b : Block) (round : List Round) (r : Round)
      → marked_in (outer ++ (round ++ r ∷ [])) b ≡ map (within outer) (marked_in (round ++ r ∷ []) b)
      → marked_in ((outer ++ round) ++ r ∷ []) b ≡ map (within outer) (marked_in (round ++ r ∷ []) b)
  deeper b round r e = ap (λ around. marked_in around b) (append_assoc outer round (r ∷ [])) ∙ e

  mutual
    of_statement : (c : Statement) (round : List Round)
        → marked (outer ++ round) c ≡ map (within outer) (marked round c)
    of_statement (Assignment line mark left right) round = one mark (Assignment line mark left right) round
    of_statement (Where line mark mask left right) round = one mark (Where line mark mask left right) round
    of_statement (If line arms other) round =
        both (marked_under (outer ++ round) arms) (marked_in ((outer ++ round) ++ Otherwise ∷ []) other)
        (marked_under round arms) (marked_in (round ++ Otherwise ∷ []) other) (of_arms arms round)
        (deeper other round Otherwise (of_block other (round ++ Otherwise ∷ [])))
    of_statement (Do line x first last step body) round =
        let r : Round = Turning x first last step in
        deeper body round r (of_block body (round ++ r ∷ []))
    of_statement (Label k) round = refl
    of_statement (GoTo line k) round = refl
    of_statement (Stop line) round = refl
    of_statement (Read line is) round = refl
    of_statement (Print line is) round = refl
    of_statement (Allocate line x es) round = refl
    of_statement (Deallocate line x) round = refl

    of_arms : (arms : Arms) (round : List Round)
        → marked_under (outer ++ round) arms ≡ map (within outer) (marked_under round arms)
    of_arms no_arms round = refl
    of_arms (arm test body arms) round =
        both (marked_in ((outer ++ round) ++ Under test ∷ []) body) (marked_under (outer ++ round) arms)
        (marked_in (round ++ Under test ∷ []) body) (marked_under round arms)
        (deeper body round (Under test) (of_block body (round ++ Under test ∷ []))) (of_arms arms round)

    of_block : (b : Block) (round : List Round) → marked_in (outer ++ round) b ≡ map (within outer) (marked_in round b)
    of_block no_statements round = refl
    of_block (statement c cs) round =
        both (marked (outer ++ round) c) (marked_in (outer ++ round) cs) (marked round c) (marked_in round cs)
        (of_statement c round) (of_block cs round)

  pub all_within : (b : Block) → marked_in outer b ≡ map (within outer) (marked_in [] b)
  all_within b = ap (λ around. marked_in around b) (sym (append-nil outer)) ∙ of_block b []

-- one list of statements after the other
pub marked_after : (round : List Round) (xs ys : List Statement)
    → marked_in round (block (xs ++ ys)) ≡ marked_in round (block xs) ++ marked_in round (block ys)
marked_after round [] ys = refl
marked_after round (x ∷ xs) ys =
    ap (λ more. marked round x ++ more) (marked_after round xs ys)
    ∙ sym (append_assoc (marked round x) (marked_in round (block xs)) (marked_in round (block ys)))
