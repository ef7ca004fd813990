-- What is made of a nest that was found may be tested for dependences.
use Rattle.std.proofs.Common.{◌≡◌, sym, ap, ◌∙◌, subst, ℕ, zero, suc, ◌≤◌, List, [], ◌∷◌, length, Some, Contains, arith}
use Rattle.std.specs.Prelude.{slice_get}
use Rattle.tree.specs.Plain.{Program, Reference, Declaration}
use Rattle.meaning.specs.Blocks.{outermost}
use Rattle.meaning.specs.Dialect.{Dialect}
use Rattle.meaning.specs.Profile77.{IsProgram77}
use Rattle.components.specs.Lists.{Each, Distinct}
use Rattle.nest.specs.Plain.{Nest}
use Rattle.nest.specs.Bodies.{Standing, nest_statements}
use Rattle.find_nests.specs.nest_parts.Numbers.{next_loop_number}
use Rattle.dependence_graph.specs.nest_graph.Ready.{IsElement, IsReadyStatement, HaveEqualRank}
use Rattle.dependence_graph.specs.nest_graph.References.{references_of}
use Rattle.find_nests.specs.Found.{InNest, found_in}
use Rattle.find_nests.specs.Loops.{loops_in_block}
use Rattle.find_nests.proofs.FoundLaws.{found_nest_is_loop}
use Rattle.pass_laws.specs.ready_nests.Ready.{NormalNestIsReady}
use Rattle.pass_laws.specs.ready_nests.Trips.{IsInTrips}
use Rattle.pass_laws.proofs.ReadyNests.FoundNumbers.{found_loops_are_distinct}
use Rattle.pass_laws.proofs.ReadyNests.Lists.{Each-Contains, Each-All, Each-weaker}
use Rattle.pass_laws.proofs.ReadyNests.Made.{made_of}
use Rattle.pass_laws.proofs.ReadyNests.NormalNumbers.{normal_loops_are_those}
use Rattle.pass_laws.proofs.ReadyNests.NormalRanks.{AllFit, references_of_made}
use Rattle.pass_laws.proofs.ReadyNests.NormalTrips.{trips_of}
use Rattle.pass_laws.proofs.ReadyNests.Ranks.{Fits, AreScalars}
use Rattle.pass_laws.proofs.ReadyNests.SourceRanks.{rank_in, IsRankedStatement, HasScalar, IsRankedLoop, loops_ranked_block, few_dimensions, counter_rank, symbols_are_scalars, few_symbols}
use Rattle.pass_laws.proofs.ReadyNests.Walk.{EachIn}

Each-at : {A : Type 0} (P : A → Type 0) (xs : List A) (k : ℕ) (x : A) → Each P xs → slice_get xs k ≡ Some x → P x
Each-at P [] k x h e = let no : ⊥ = cc in absurd no
Each-at P (y ∷ ys) zero x h e = let same : y ≡ x = cc in subst P same h.0
Each-at P (y ∷ ys) (suc k) x h e = Each-at P ys k x h.1 e

-- the loop of the program that a nest is, with the ranks of the names in it
record HasRankedBody (ds : List Declaration) (n : Nest) : Type 0 where
  body : EachIn (IsRankedStatement (rank_in ds)) (HasScalar (rank_in ds)) n.body
  symbols : AreScalars (rank_in ds) n.symbols
  few : length n.symbols ≤ 1000

found_body : (d : Dialect) (p : Program) (n : Nest) → IsProgram77 d p → Contains (found_in p) (InNest n) → HasRankedBody p.declarations n
found_body d p n is h =
    let f = found_nest_is_loop p n h in
    let l = Each-Contains (IsRankedLoop p.declarations) (loops_in_block 0 [] p.body) f.loop (loops_ranked_block p.declarations 0 [] p.body outermost is.statements) f.stands in
    let most : length p.declarations ≤ 1000 = is.declarations.few in
    let within = few_symbols p.declarations f.loop.loop.loop.variable f.loop.loop.loop.body in
    subst (HasRankedBody p.declarations) (sym f.is)
    (record {
      body = (l.variable, l.body (next_loop_number f.loop.loop.before));
      symbols = symbols_are_scalars p.declarations d is.declarations f.loop.loop.loop.variable f.loop.loop.loop.body;
      few = omega (arith, most, within);
    })

module _ (rank : List ℕ → ℕ) (few : (x : List ℕ) → rank x ≤ 7) where
  element_of : (r : Reference) → Fits rank r → IsElement r
  element_of r h = let most = few r.name in let same = h.count in record { elements = h.elements; dimensions = omega (arith, most, same) }

  ready_each : (ss : List Standing) → Each IsInTrips ss → Each (AllFit rank) ss → Each IsReadyStatement ss
  ready_each [] h k = tt
  ready_each (s ∷ ss) h k = (
    record { depth = h.0.depth; trips = h.0.trips; references = Each-All IsElement (references_of s) (Each-weaker (Fits rank) IsElement (references_of s) element_of k.0) },
    ready_each ss h.1 k.1,
  )

  equal_ranks : (m : Nest) → Each (AllFit rank) (nest_statements m) → HaveEqualRank m
  equal_ranks m h p q s t r u i j same =
      let a = Each-at (Fits rank) (references_of s) p.at r (Each-at (AllFit rank) (nest_statements m) p.stmt s h i.statement) i.reference in
      let b = Each-at (Fits rank) (references_of t) q.at u (Each-at (AllFit rank) (nest_statements m) q.stmt t h j.statement) j.reference in
      a.count ∙ (ap rank same ∙ sym b.count)

pub normal_nest_is_ready : NormalNestIsReady
normal_nest_is_ready d p n m is h e =
    let made = made_of n m e in
    let b = found_body d p n is h in
    let rank = rank_in p.declarations in
    let fits = references_of_made (rank_in p.declarations) (counter_rank p.declarations d is.declarations) n b.symbols m made b.body in
    let most = b.few in
    let same = ap (λ (xs : List (List ℕ)). length xs) made.symbols in
    record {
      symbols = omega (arith, most, same);
      statements = Each-All IsReadyStatement (nest_statements m) (ready_each (rank_in p.declarations) (few_dimensions p.declarations d is.declarations) (nest_statements m) (trips_of n m made) fits);
      ranks = equal_ranks (rank_in p.declarations) (few_dimensions p.declarations d is.declarations) m fits;
      loops = subst (λ (ks : List ℕ). Distinct ks) (sym (normal_loops_are_those n m e)) (found_loops_are_distinct d p n is h);
    }
