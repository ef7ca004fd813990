-- Translations of nests do what their loops do, so the program with them in the loops' place keeps its meaning.
use Rattle.std.proofs.Common.{sym, subst, []}
use Rattle.tree.specs.Plain.{Block, Program}
use Rattle.find_nests.specs.Loops.{SurroundedLoop, as_statement, loops_in_block}
use Rattle.meaning.specs.Dialect.{fortran77}
use Rattle.tree.specs.declared.width.Width.{Width}
use Rattle.meaning.specs.Profile77.{IsProgram77}
use Rattle.translation.specs.nest_translation.Laws.{TranslationDoesAsLoop}
use Rattle.translation.proofs.PlacedLoops.Placing.{placed_loops_keep_meaning}
use Rattle.translation.specs.placed_loops.Beside.{DoesAs}
use Rattle.pass_laws.specs.prepared_runs.Unlabelled.{HasNoLabel}
use Rattle.translation.specs.placed_loops.Placed.{IsPlaced}
use Rattle.meaning_laws.specs.profiles.Profiles.{AddMadeNames}
use Rattle.translation.specs.program_translation.Laws.{IsTranslationOf, TranslationKeepsMeaning}
use Rattle.translation.proofs.ProgramTranslation.Placing.{Stand, block_stands}

module _ (width : Width) (does_as : TranslationDoesAsLoop width) where
  one_stands : (p q r : Program) (l : SurroundedLoop) (b : Block) → IsProgram77 (fortran77 width) p
      → AddMadeNames p.declarations q.declarations → AddMadeNames q.declarations r.declarations → IsTranslationOf p q r l b
      → DoesAs width p q (as_statement l.loop.loop) b × HasNoLabel b
  one_stands p q r l b source more counters h =
      subst (λ (k : SurroundedLoop). DoesAs width p q (as_statement k.loop.loop) b × HasNoLabel b) h.is_loop
      (does_as p q r h.nest h.normal b h.surroundings h.found source h.among more counters h.translated h.counters h.made h.names h.profile)

  pub translation_keeps : TranslationKeepsMeaning width
  translation_keeps p q r blocks input source target more counters all body =
      let stand : Stand width p q blocks (loops_in_block 0 [] p.body) = λ l b i e. one_stands p q r l b source more counters (all l b i e) in
      placed_loops_keep_meaning width p q input source target more
      (subst (IsPlaced width p q p.body) (sym body) (block_stands width p q blocks 0 [] p.body stand))
