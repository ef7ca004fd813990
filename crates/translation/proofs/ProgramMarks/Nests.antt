-- What stands in the place of a nest is marked as its graph has it.
use Rattle.std.proofs.Common.{◌≡◌, ◌⊎◌, inl, inr, refl, sym, ap, subst, ◌∙◌, ◌<◌, ◌≤◌, Bool, true, false, cond, None}
use Rattle.std.proofs.Common.{Some, List, [], ◌∷◌, length, Contains, arith}
use Rattle.std.proofs.lemmas.Bool.{cases_lt}
use Rattle.std.proofs.lemmas.List.{get_or_past}
use Rattle.dependence_graph.specs.declared.graphs.Graph.{Graph}
use Rattle.emission.specs.emission_marks.Laws.{EmissionIsMarked, EmissionKeepsTogether, MayBeMarked}
use Rattle.emission.specs.emission_marks.Marks.{marked_in}
use Rattle.emission.specs.emission_pieces.Nests.{loops_at}
use Rattle.emission.specs.emission_pieces.Pieces.{Pieces, block_of_pieces, translation}
use Rattle.find_nests.proofs.FoundLaws.{found_nest_is_loop}
use Rattle.find_nests.specs.Found.{InNest, found_in}
use Rattle.meaning.specs.Dialect.{fortran77}
use Rattle.tree.specs.declared.width.Width.{Width}
use Rattle.meaning.specs.Profile77.{IsProgram77}
use Rattle.tree.specs.Plain.{Block, Program}
use Rattle.emission.proofs.GraphEdges.Leading.{edges_lead}
use Rattle.emission.specs.graph_edges.Laws.{IsShallow}
use Rattle.last_values.specs.ValuesBehind.{values_behind}
use Rattle.last_values.specs.declared.behind.NestedLoop.{NestedLoop}
use Rattle.scalar_expand.specs.Laws.{own_of}
use Rattle.listing.proofs.programs.Naming.{IsNamedFrom, named_from}
use Rattle.listing.proofs.programs.Sources as sources
use Rattle.listing.proofs.programs.Stages.{made_by}
use Rattle.listing.specs.declared.programs.counts.Counts.{Counts}
use Rattle.listing.specs.programs.Passed.{IsPassedAs}
use Rattle.nest_order.specs.shapes.Shapes.{IsPlain}
use Rattle.normal_loops.specs.Bodies.{normal_part}
use Rattle.normal_loops.specs.Normalised.{normalised, only_one, with_body, with_loops}
use Rattle.normal_loops.specs.Loops.{nested_loops}
use Rattle.normal_loops.specs.Normal.{is_normal}
use Rattle.dependence_graph.specs.nest_graph.Ready.{IsReady}
use Rattle.nest.specs.Allocations.{block_then}
use Rattle.nest.specs.Bodies.{Standing, nest_statements}
use Rattle.nest.specs.Plain.{Nest, Part}
use Rattle.pass_laws.proofs.NormalMeaning.Made.{behind, made_of}
use Rattle.array_form.specs.holds.Holds.{all_holds}
use Rattle.array_form.specs.holds.Statements.{no_statement}
use Rattle.std.specs.Option.{option_map}
use Rattle.translation.proofs.Converting.{IsAnewFrom, IsConvertedFrom, IsLastFrom, anew_from, converted_from, may_of, passed_from}
use Rattle.translation.specs.nest_blocks.LoopAnswers.{IsTranslation}
use Rattle.translation.specs.program_marks.Marks.{IsMarkedByGraph}
use Rattle.translation.proofs.ProgramMarks.Endings.{last_values_unmarked, substituted_unmarked, then_unmarked}
use Rattle.translation.proofs.ProgramMarks.Throughout.{marked_throughout}

-- no statement stands in more than seven loops
shallow : (n : Nest) → IsReady n → IsShallow n
shallow n h s = by (cases_lt s (length (nest_statements n)))
  where
    by : (s < length (nest_statements n)) ⊎ (length (nest_statements n) ≤ s) → length (loops_at n s) ≤ 7
    by (inl g) = (h.statements s no_statement g).depth
    by (inr g) =
        subst (λ (x : Standing). length x.loops ≤ 7) (sym (get_or_past (nest_statements n) s no_statement g))
        (omega arith)

number_is : (n : Nest) (more : Block) (p : Part) → (with_body n more p).number ≡ n.number
unfolding with_body
number_is n more p = refl

-- the nest that is made has the number of the one that was found
module _ (n m : Nest) where
  of_bodies : (more : Block) (ps : List Part) → option_map (with_body n more) (only_one ps) ≡ Some m
      → m.number ≡ n.number
  of_bodies more [] e = let no : ⊥ = cc in absurd no
  of_bodies more (p ∷ []) e =
      let same : with_body n more p ≡ m = cc in sym (ap (λ (k : Nest). k.number) same) ∙ number_is n more p
  of_bodies more (p ∷ q ∷ ps) e = let no : ⊥ = cc in absurd no

  of_loops : (ls : List NestedLoop) → with_loops n ls ≡ Some m → m.number ≡ n.number
  unfolding with_loops
  of_loops ls e = of_bodies (values_behind n.symbols n.line ls n.body) (normal_part n ls [] n.body) e

  pub same_number : normalised n ≡ Some m → m.number ≡ n.number
  unfolding normalised
  same_number e = by (is_normal n.symbols [] n.body) e
    where
      by : (b : Bool) → cond b (with_loops n (nested_loops n.symbols [] n.body)) None ≡ Some m → m.number ≡ n.number
      by true g = of_loops (nested_loops n.symbols [] n.body) g
      by false g = let no : ⊥ = cc in absurd no

module _ (width : Width) (p : Program) (counts : Counts) (n m : Nest) (g : Graph) (ps : Pieces) (program : IsProgram77 (fortran77 width) p)
    (found : Contains (found_in p) (InNest n)) (translated : IsTranslation counts n m g ps) where
  abbrev passed : IsPassedAs counts n m
  passed = translated.passed

  abbrev k : Nest
  k = passed.named

  converted : IsConvertedFrom counts.masks passed.normal passed.converted
  converted = converted_from counts.masks passed.normal passed.converted passed.is_converted

  anew_so : IsAnewFrom passed.converted passed.anew
  anew_so = anew_from passed.normal passed.converted passed.anew passed.is_anew

  named_so : IsNamedFrom passed.anew k
  named_so = named_from passed.anew passed.substituted k passed.is_substituted passed.is_named

  last_so : IsLastFrom (may_of counts n m passed) counts.copies k m
  last_so = passed_from counts n m passed

  ready : IsReady m
  ready = sources.ready width counts n m (record { program = p; profile = program; among = found }) (made_by counts n m passed)

  after_is : passed.anew.after ≡ behind n
  after_is =
      anew_so.after ∙ converted.after ∙ (made_of n passed.normal passed.made).after
      ∙ ap (λ (z : Nest). block_then z.after (behind n)) (found_nest_is_loop p n found).is

  plain : IsPlain m.body
  plain = (sources.prepared_for width p counts n m program found (made_by counts n m passed)).plain

  may_be : MayBeMarked m g.edges
  may_be = record {
    plain = plain;
    numbers = ready.loops;
    edges_are = edges_lead m g (shallow m ready) translated.graph;
    after =
        ap (marked_in []) last_so.after
        ∙ then_unmarked k.symbols k.line (own_of k) k.after
        (ap (marked_in []) named_so.after
        ∙ substituted_unmarked passed.anew (ap (marked_in []) after_is ∙ last_values_unmarked n));
  }

  pub marked_by_graph : EmissionIsMarked → EmissionKeepsTogether
      → IsMarkedByGraph (record { found = n; normal = m; graph = g }) (translation m ps)
  marked_by_graph is_marked keeps_together = record {
    number =
        last_so.number ∙ named_so.number ∙ anew_so.number ∙ converted.number
        ∙ same_number n passed.normal passed.made;
    core = block_of_pieces m 1 ps;
    throughout = marked_throughout m 1 ps;
    is = refl;
    marked = is_marked m g.edges (all_holds m) ps may_be translated.emitted;
    together = keeps_together m g.edges (all_holds m) ps may_be translated.emitted;
  }
