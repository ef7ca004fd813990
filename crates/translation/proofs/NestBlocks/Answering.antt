-- What is made of a nest that was found in a program of FORTRAN 77.
use Rattle.std.proofs.Common.{◌≡◌, ℕ, ◌≤◌, ◌<◌, ◌^◌, Option, Some, None, Result, Ok, Err, List, [], length, map, refl}
use Rattle.std.proofs.Common.{ap, subst, arith, option_map}
use Rattle.std.specs.Prelude.{IfOk}
use Rattle.f90_print.specs.Notes.{line_text}
use Rattle.dependence_graph.specs.declared.graphs.Graph.{Graph}
use Rattle.dependence_graph.specs.declared.graphs.Hold.{Hold}
use Rattle.emission.specs.emission_pieces.Emission.{IsEmission}
use Rattle.translation.proofs.EmissionReady.Ready.{ready_nests_may_be_emitted}
use Rattle.find_nests.specs.Found.{InNest}
use Rattle.find_nests.specs.Found as found
use Rattle.find_nests.specs.declared.reasons.Reason.{Reason}
use Rattle.tree.specs.Plain.{Block, Declaration}
use Rattle.tree.specs.View.{block_of}
use Rattle.listing.specs.graphs.Listing.{lines_of_entries}
use Rattle.emission.specs.nest_emission.Given.{MayBeEmitted}
use Rattle.dependence_graph.specs.nest_graph.Graph.{IsGraphOf}
use Rattle.nest.specs.Plain.{Nest}
use Rattle.listing.proofs.programs.Sources.{prepared_for, ready}
use Rattle.listing.proofs.programs.Stages.{made_by}
use Rattle.listing.specs.programs.Listing.{counts_of, kept_loop_entry}
use Rattle.listing.specs.declared.programs.counts.Counts.{Counts}
use Rattle.listing.specs.programs.Passed.{IsPassed, IsPassedAs}
use Rattle.listing.specs.declared.programs.nests.Passed.{Passed}
use Rattle.listing.specs.programs.Sources.{IsNestOfSource}
use Rattle.listing.specs.programs.Stages.{IsLastGraph}
use Rattle.listing.specs.programs.Testable.{AreTestsOf}
use Rattle.translation.specs.made_declarations.Declaring.{declaration_of_made, declaration_of_name}
use Rattle.translation.specs.declared.nest_blocks.loop_answers.LoopAnswer.{LoopAnswer as Answer'}
use Rattle.translation.specs.nest_blocks.LoopAnswers.{IsAnswerTo, Kept, Translated}
use Rattle.tree.specs.declared.width.Width.{Width}

-- ---- a nest that passes made

pub may_be_emitted : (width : Width) (counts : Counts) (n m : Nest) (g : Graph) → IsNestOfSource width n → IsPassedAs counts n m → IsGraphOf m g
    → MayBeEmitted m g
may_be_emitted width counts n m g h passed graph =
    let made = made_by counts n m passed in
    let least : length m.symbols ≤ 1000 = (prepared_for width h.program counts n m h.profile h.among made).parts.few in
    let few : length m.symbols < 2 ^ 16 = omega (arith, least) in
    ready_nests_may_be_emitted m g (ready width counts n m h made) few graph

-- ---- answers

pub translated : (counts : Counts) (n m : Nest) (g : Graph) (holds : List Hold) (lines : List (List ℕ)) (b : Block)
    (ds : List Declaration) (next : Counts) (passed : IsPassedAs counts n m) → IsLastGraph passed.split passed.graph g
    → AreTestsOf n.number m g holds lines → IsEmission m g holds b
    → ds ≡ map declaration_of_made m.made → next ≡ counts_of m → IsAnswerTo counts (InNest n) lines (Some b) ds next
translated counts n m g holds lines b ds next passed kept tests e declared count =
    let same = subst (λ (hs : List Hold). IsEmission m g hs b) tests.holds_are e in
    record {
      answer = Translated n m g same.pieces;
      right = record { passed = passed; graph = tests.graph; kept = kept; emitted = same.emitted };
      found = refl;
      entries = tests.entries;
      listed = tests.listed;
      lines_are = tests.lines_are;
      block_is = ap Some same.block;
      made_are = declared;
      counts_are = count;
    }

pub kept_as : (counts : Counts) (line : ℕ) (r : Reason) (lines : List (List ℕ)) (block : Option Block) (ds : List Declaration)
    → lines ≡ lines_of_entries (kept_loop_entry line r) → block ≡ None → ds ≡ []
    → IsAnswerTo counts (found.Kept line r) lines block ds counts
kept_as counts line r lines block ds is none declared = record {
  answer = Kept line r;
  right = tt;
  found = refl;
  entries = kept_loop_entry line r;
  listed = refl;
  lines_are = is;
  block_is = none;
  made_are = declared;
  counts_are = refl;
}

-- what is answered by all counts is so by one
pub answered : {E : Type 0} (r : Result Answer' E) (counts : Counts) (n : Nest) (p : Passed) → IsPassed counts n p
    → IfOk r (λ a. (k : Counts) (m : Nest) → IsPassed k m p
    → IsAnswerTo k (InNest m) (map line_text a.lines) (option_map block_of a.block) (map declaration_of_name a.made) a.counts)
    → IfOk r (λ a. IsAnswerTo counts (InNest n) (map line_text a.lines) (option_map block_of a.block)
    (map declaration_of_name a.made) a.counts)
answered (Ok a) counts n p is h = h counts n is
answered (Err e) counts n p is h = tt
