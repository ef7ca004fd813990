-- Prepared nests may be tested for dependences.
use Rattle.std.proofs.Common.{◌≡◌, sym, ap, ◌∙◌, subst, ℕ, zero, suc, ◌≤◌, List, [], ◌∷◌, length, Some, arith}
use Rattle.std.specs.Prelude.{slice_get}
use Rattle.components.specs.Lists.{Each}
use Rattle.dependence_graph.specs.nest_graph.Ready.{HaveEqualRank, IsElement, IsReadyStatement}
use Rattle.dependence_graph.specs.nest_graph.References.{references_of}
use Rattle.meaning.specs.Profile90.{AreDeclarations}
use Rattle.nest.specs.Bodies.{Standing, nest_loops, nest_statements}
use Rattle.nest.specs.Plain.{Nest}
use Rattle.nest_order.specs.orders.Lists.{In}
use Rattle.nest_order.specs.shapes.Shapes.{numbers_of}
use Rattle.pass_laws.proofs.NormalFacts.Tables.{all_in, each_from}
use Rattle.pass_laws.proofs.ReadyNests.Lists.{Each-All, Each-weaker}
use Rattle.pass_laws.proofs.ReadyNests.NormalRanks.{AllFit}
use Rattle.pass_laws.proofs.ReadyNests.Ranks.{Fits}
use Rattle.tree.specs.Plain.{Declaration}
use Rattle.pass_laws.specs.prepared_nests.Laws.{PreparedNestIsReady}
use Rattle.pass_laws.specs.prepared_nests.Loops.{IsPreparedLoop}
use Rattle.pass_laws.specs.prepared_nests.Nests.{IsPrepared}
use Rattle.pass_laws.specs.prepared_nests.Statements.{IsPreparedStatement}
use Rattle.pass_laws.proofs.PreparedNests.Lists.{distinct_too}
use Rattle.pass_laws.proofs.PreparedNests.Ranks.{element_of, rank, references_of_prepared}
use Rattle.pass_laws.proofs.PreparedNests.Trips.{have_trips}
use Rattle.pass_laws.proofs.PreparedNests.Walks.{AreRound, few, rounds}

Each-at : {A : Type 0} (P : A → Type 0) (xs : List A) (k : ℕ) (x : A) → Each P xs → slice_get xs k ≡ Some x → P x
Each-at P [] k x h e = let no : ⊥ = cc in absurd no
Each-at P (y ∷ ys) zero x h e = let same : y ≡ x = cc in subst P same h.0
Each-at P (y ∷ ys) (suc k) x h e = Each-at P ys k x h.1 e

equal_ranks : (rank : List ℕ → ℕ) (m : Nest) → Each (AllFit rank) (nest_statements m) → HaveEqualRank m
equal_ranks rank m h p q s t r u i j same =
    let a = Each-at (Fits rank) (references_of s) p.at r (Each-at (AllFit rank) (nest_statements m) p.stmt s h i.statement) i.reference in
    let b = Each-at (Fits rank) (references_of t) q.at u (Each-at (AllFit rank) (nest_statements m) q.stmt t h j.statement) j.reference in
    a.count ∙ (ap rank same ∙ sym b.count)

module _ (es : List Declaration) (around : List (List ℕ)) (deepest : ℕ) (m : Nest) (h : IsPrepared es around deepest m) where
  pub round_statement : (x : Standing) → In x (nest_statements m) → AreRound (IsPreparedLoop es m.symbols) x.loops
  round_statement x i = rounds (IsPreparedLoop es m.symbols) m.body h.parts.loops (distinct_too (numbers_of (nest_loops m)) h.parts.once) x i

  pub few_loops : (x : Standing) → In x (nest_statements m) → length x.loops ≤ 7
  few_loops x i = few (IsPreparedLoop es m.symbols) 7 (λ round l k. k.depth) [] x.loops (round_statement x i).follow (omega arith)

  fits : (x : Standing) → In x (nest_statements m) → AllFit (rank es) x
  fits x i = references_of_prepared es m deepest x (all_in (IsPreparedStatement es m deepest) (nest_statements m) h.parts.statements x i)

  ready_statement : AreDeclarations es → (x : Standing) → In x (nest_statements m) → IsReadyStatement x
  ready_statement are x i = record {
    depth = few_loops x i;
    trips = have_trips es m.symbols [] x.loops (round_statement x i).follow;
    references = Each-All IsElement (references_of x) (Each-weaker (Fits (rank es)) IsElement (references_of x) (element_of es are) (fits x i));
  }

pub prepared_nest_is_ready : PreparedNestIsReady
prepared_nest_is_ready es around deepest m are h =
    let few = h.parts.few in
    record {
      symbols = omega (arith, few);
      statements = Each-All IsReadyStatement (nest_statements m) (each_from IsReadyStatement (nest_statements m) (ready_statement es around deepest m h are));
      ranks = equal_ranks (rank es) m (each_from (AllFit (rank es)) (nest_statements m) (fits es around deepest m h));
      loops = h.parts.once;
    }
