use Rattle.std.proofs.Common.{arith, ◌≤◌, ◌<◌, ◌∷◌, length}
use Rattle.std.proofs.lemmas.Bool.Decides.{nat_tests}
use Rattle.f90_grammar.specs.Words as words
use Rattle.f90_statement.proofs.EntityLaws.{ended, too_many}
use Rattle.f90_statement.proofs.declarations.bounded.Goals as goal

pub returns-then-len-gt-ARRAY_DIMENSIONS-clause-only : goal.returns-then-len-gt-ARRAY_DIMENSIONS-clause-only
returns-then-len-gt-ARRAY_DIMENSIONS-clause-only c ds last g n s =
    let m : 7 < length c.in-Ok.dimensions = grind (arith, nat_tests) in
    too_many c.args.is_allocatable c.in-Ok.dimensions ds (c.in-Ok.ensures.only ds (words.Close ∷ last) g tt s).0 m n

pub returns-else-len-gt-ARRAY_DIMENSIONS-clause-found : goal.returns-else-len-gt-ARRAY_DIMENSIONS-clause-found
returns-else-len-gt-ARRAY_DIMENSIONS-clause-found c =
    let m : length c.in-Ok.dimensions ≤ 7 = grind (arith, nat_tests) in
    ended c.args.is_allocatable _ _ _ c.args.name c.in-Ok.dimensions c.in-Ok.ensures.found c.in-Some.ensures m
