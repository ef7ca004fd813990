-- A name that stands in the reduced statements is declared, and stays so; so they are of the profile with the
-- declarations that are left.
use Rattle.std.proofs.Common.{◌≡◌, refl, ℕ, ◌+◌, ◌≤◌, Bool, true, false, not, ◌||◌, List, map, Contains}
use Rattle.std.proofs.lemmas.List.Elements.{Contains-get_or}
use Rattle.std.specs.Prelude.{All}
use Rattle.std.specs.List.{AllByRecursion}
use Rattle.tree.specs.Limits as limits
use Rattle.tree.specs.Plain.{Declaration, Program}
use Rattle.tree.specs.declared.width.Width.{Width}
use Rattle.meaning.specs.Blocks.{outermost}
use Rattle.meaning.specs.Names.{is_among}
use Rattle.meaning.specs.Profile90.{AreDeclarations, IsProgram90}
use Rattle.meaning.specs.Reads.{names_in_block}
use Rattle.meaning.specs.Store.{names_of}
use Rattle.meaning_laws.proofs.profiles.Lists.{all_at}
use Rattle.rewrite.specs.Profile.{deepest_in}
use Rattle.reductions.specs.Finding.{context_of, is_source}
use Rattle.reductions.specs.Reduced.{reduced_block, reduced_program, stays}
use Rattle.reduction_laws.proofs.blocks.Meaning.{reduced_keeps_meaning, still_there}
use Rattle.reduction_laws.proofs.blocks.Typing.{reduced_is_program}
use Rattle.translation.proofs.FewerNames.FewerStatements.{block_with_fewer_names}
use Rattle.translation.proofs.ProgramTranslation.Named.{block_known}
use Rattle.reduced_programs.specs.Whole.{ReducedProgramIsProgram, WholeProgramKeepsMeaning}
use Rattle.reduced_programs.proofs.Left.{are_left, was_there}
use Rattle.reduced_programs.proofs.Names.{among}

second : (a b c : Bool) → b ≡ true → (a || (b || c)) ≡ true
second true b c e = refl
second false true c e = refl
second false false c e = absurd cc

module _ (p : Program) (profile : IsProgram90 p) (deep : deepest_in p.body + 4 ≤ limits.expression_depth90) where
  abbrev r : Program
  r = reduced_program p

  abbrev test : List ℕ → Bool
  test = stays p.body r.body

  -- with all declarations
  whole : IsProgram90 (record p { body = reduced_block (context_of p) p.body })
  whole = reduced_is_program p profile deep

  known : AllByRecursion (Contains (names_of p)) (names_in_block r.body)
  known = block_known p.declarations r.body outermost whole.statements

  stands : (x : List ℕ) → Contains (names_in_block r.body) x → test x ≡ true
  stands x c = second (is_source x) (is_among (names_in_block r.body) x) (not (is_among (names_in_block p.body) x)) (among (names_in_block r.body) x c)

  is_left : (x : List ℕ) → Contains (names_in_block r.body) x → Contains (names_of r) x
  is_left x c = still_there test p.declarations x (stands x c) (all_at (Contains (names_of p)) (names_in_block r.body) x known c)

  pub all_left : All (Contains (names_of r)) (names_in_block r.body)
  all_left = λ j d i. is_left _ (Contains-get_or (names_in_block r.body) j d i)

  are : AreDeclarations r.declarations
  are = are_left test p.declarations profile.declarations

  pub is_program : IsProgram90 r
  is_program = record {
    name = whole.name;
    declarations = are;
    statements = block_with_fewer_names r.declarations p.declarations r.body outermost are profile.declarations (was_there test p.declarations) all_left whole.statements;
    blocks = whole.blocks;
    labels = whole.labels;
    named = whole.named;
    few = whole.few;
  }

pub reduced_program_is_program : ReducedProgramIsProgram
reduced_program_is_program p profile deep = is_program p profile deep

pub reduced_program_keeps_meaning : (width : Width) → WholeProgramKeepsMeaning width
reduced_program_keeps_meaning width q p input sources profile deep k = reduced_keeps_meaning width q p input sources profile (all_left p profile deep) k
