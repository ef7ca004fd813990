-- Statements whose variables of loops have become forms of the counters have the ranks that they had.
use Rattle.std.proofs.Common.{◌≡◌, refl, sym, ap, ◌∙◌, subst, ℕ, ℤ, pos, Bool, true, false, cond, List, [], ◌∷◌, ◌++◌, map, Option, Some, None}
use Rattle.std.specs.Option.{option_map}
use Rattle.std.specs.Ordering.{int_eq}
use Rattle.tree.specs.Plain.{Expression, Number, Binary, Reference}
use Rattle.tree.specs.declared.ops.Op.TheVariants.{Div}
use Rattle.rewrite.specs.Making.{Making, made, made_parts}
use Rattle.linear_forms.specs.Texts.{text_of}
use Rattle.components.specs.Lists.{Each}
use Rattle.components.proofs.ListLaws.{Each-append}
use Rattle.nest.specs.Plain.{Loop, Guarded, Nest}
use Rattle.nest.specs.Bodies.{Standing, nest_statements}
use Rattle.nest.specs.declared.parts.Trip.{Trip}
use Rattle.nest_rewrite.specs.Statements.{rewritten_statement}
use Rattle.dependence_graph.specs.nest_graph.Ready.{subscript_count}
use Rattle.dependence_graph.specs.nest_graph.References.{references_of, references_in, references_in_subscripts, references_in_guard}
use Rattle.last_values.specs.normal_forms.NormalLoops.{counter_name, counters_of, normal_loop}
use Rattle.last_values.specs.normal_forms.Texts.{quotient_text, trip_text, counter_first, variable_text}
use Rattle.last_values.specs.declared.normal_forms.loops.NormalLoop.{NormalLoop}
use Rattle.last_values.specs.InPlace.{first_text, own_trip_text, end_text}
use Rattle.normal_loops.specs.Values.{with_value, in_text, statement_with_values, normal_statement}
use Rattle.pass_laws.proofs.ReadyNests.LoopForms.{normal_loop_is}
use Rattle.pass_laws.proofs.ReadyNests.Made.{IsMadeOf}
use Rattle.pass_laws.proofs.ReadyNests.NormalTrips.{AreLoops, loop_more, no_loops}
use Rattle.pass_laws.proofs.ReadyNests.Ranks.{HasRanks, HaveRanks, Fits, AreScalars, are_elements, made_ranks, made_ranks_in, made_count, text_ranks, substituting_keeps, canonising_keeps, references_fit, references_fit_in}
use Rattle.pass_laws.proofs.ReadyNests.SourceRanks.{GuardHasRanks, IsRankedStatement, HasScalar}
use Rattle.pass_laws.proofs.ReadyNests.Walk.{EachIn, standing, assigning, Steps, each_statement}

module _ (rank : List ℕ → ℕ) where
  -- ---- one rule

  module _ (m : Making) (keeps : (first e : Expression) → HasRanks rank e → HasRanks rank (m.expression first e)) (same : (r : Reference) → m.left r ≡ r) where
    guard_made : (o : Option Expression) → GuardHasRanks rank o → GuardHasRanks rank (option_map (made m) o)
    guard_made None h = tt
    guard_made (Some e) h = made_ranks rank m keeps e h

    statement_made : (s : Guarded) → IsRankedStatement rank s → IsRankedStatement rank (rewritten_statement m s)
    statement_made s h =
        let left = sym (same (made_parts m s.left)) in
        record {
          guard = guard_made s.guard h.guard;
          count = subst (λ (r : Reference). subscript_count r.subscripts ≡ rank r.name) left (made_count rank m keeps s.left.subscripts ∙ h.count);
          left = subst (λ (r : Reference). HaveRanks rank r.subscripts) left (made_ranks_in rank m keeps s.left.subscripts h.left);
          right = made_ranks rank m keeps s.right h.right;
        }

  -- ---- all loops round a statement

  -- the counters and the variables of the loops are scalars
  abbrev pub HaveScalars : List NormalLoop → Type 0
  HaveScalars round = Each (λ (r : NormalLoop). (rank r.counter ≡ 0) × (rank r.variable ≡ 0)) round

  counters_are : (round : List NormalLoop) → HaveScalars round → AreScalars rank (counters_of round)
  counters_are [] h = tt
  counters_are (r ∷ rs) h = (h.0.0, counters_are rs h.1)

  module _ (symbols : List (List ℕ)) (scalars : AreScalars rank symbols) where
    value_ranks : (outer : List NormalLoop) (r : NormalLoop) → HaveScalars outer → rank r.counter ≡ 0 → HasRanks rank (variable_text symbols outer r)
    unfolding variable_text
    value_ranks outer r h c = text_ranks rank (r.counter ∷ counters_of outer) symbols [] (counter_first r.step r.below) (c, counters_are outer h) scalars tt

    values_ranks : (outer rs : List NormalLoop) (s : Guarded) → HaveScalars outer → HaveScalars rs → IsRankedStatement rank s → IsRankedStatement rank (statement_with_values symbols outer rs s)
    values_ranks outer [] s h k g = g
    values_ranks outer (r ∷ rs) s h k g =
        values_ranks (outer ++ r ∷ []) rs (rewritten_statement (with_value symbols outer r) s)
        (Each-append (λ (q : NormalLoop). (rank q.counter ≡ 0) × (rank q.variable ≡ 0)) outer (r ∷ []) h (k.0, tt)) k.1
        (statement_made (with_value symbols outer r) (substituting_keeps rank r.variable (variable_text symbols outer r) (value_ranks outer r h k.0.0)) (λ l. refl) s g)

    normal_ranks : (round : List NormalLoop) (s : Guarded) → HaveScalars round → IsRankedStatement rank s → IsRankedStatement rank (normal_statement symbols round s)
    unfolding normal_statement
    normal_ranks round s h g =
        statement_made (in_text symbols round) (canonising_keeps rank (counters_of round) symbols (counters_are round h) scalars) (λ l. refl)
        (statement_with_values symbols [] round s) (values_ranks [] round s tt h g)

    -- ---- last values in place

    quotient_ranks : (e : Expression) (z : ℤ) → HasRanks rank e → HasRanks rank (quotient_text e z)
    quotient_ranks e z h = by (int_eq z (pos 1))
      where
        by : (b : Bool) → HasRanks rank (cond b e (Binary Div e (Number z)))
        by true = h
        by false = (h, tt)

    trip_ranks : (round : List NormalLoop) (t : Trip) → HaveScalars round → HasRanks rank (trip_text (counters_of round) symbols [] t)
    unfolding trip_text
    trip_ranks round t h = quotient_ranks (text_of (counters_of round) symbols [] t.top) t.by (text_ranks rank (counters_of round) symbols [] t.top (counters_are round h) scalars tt)

    assigned : (line : ℕ) (v : List ℕ) (e : Expression) → rank v ≡ 0 → HasRanks rank e → IsRankedStatement rank (assigning line v e)
    assigned line v e h k = record { guard = tt; count = sym h; left = tt; right = k }

    first_ranks : (round : List NormalLoop) (r : NormalLoop) → HaveScalars round → HasRanks rank (first_text symbols round r)
    first_ranks round r h = text_ranks rank (counters_of round) symbols [] r.first (counters_are round h) scalars tt

    end_ranks : (round : List NormalLoop) (r : NormalLoop) → HaveScalars round → HasRanks rank (end_text symbols round r)
    end_ranks round r h = text_ranks rank (counters_of round) symbols (own_trip_text symbols round r ∷ []) r.end (counters_are round h) scalars (trip_ranks round r.trip h, tt)

  -- ---- references

  guard_fits : (loops : List (List ℕ)) (o : Option Expression) → GuardHasRanks rank o → Each (Fits rank) (references_in_guard loops o)
  guard_fits loops None h = tt
  guard_fits loops (Some e) h = references_fit rank loops e h

  abbrev pub AllFit : Standing → Type 0
  AllFit s = Each (Fits rank) (references_of s)

  statement_fits : (ls : List Loop) (s : Guarded) → IsRankedStatement rank s → AllFit (standing ls s)
  statement_fits ls s h =
      let xs : List (List ℕ) = map (λ (l : Loop). l.variable) ls in (
        record { elements = are_elements rank s.left.subscripts h.left; count = h.count },
        Each-append (Fits rank) (references_in_guard xs s.guard) (references_in_subscripts xs s.left.subscripts ++ references_in xs s.right)
            (guard_fits xs s.guard h.guard)
            (Each-append (Fits rank) (references_in_subscripts xs s.left.subscripts) (references_in xs s.right)
            (references_fit_in rank xs s.left.subscripts h.left) (references_fit rank xs s.right h.right)),
      )

  -- ---- a nest

  module _ (counter : (k : ℕ) → rank (counter_name k) ≡ 0) (n : Nest) (scalars : AreScalars rank n.symbols) where
    abbrev Under : List NormalLoop → List Loop → Type 0
    Under round ls = AreLoops round ls × HaveScalars round

    variable_rank : (round : List NormalLoop) (ls : List Loop) (l : Loop) (r : NormalLoop) → AreLoops round ls → HasScalar rank l → normal_loop n.symbols round l ≡ Some r → rank r.variable ≡ 0
    variable_rank round ls l r h g e = let is = normal_loop_is n.symbols round l r h.zeros e in ap rank is.variable ∙ g

    counter_is : (round : List NormalLoop) (ls : List Loop) (l : Loop) (r : NormalLoop) → AreLoops round ls → normal_loop n.symbols round l ≡ Some r → rank r.counter ≡ 0
    counter_is round ls l r h e = let is = normal_loop_is n.symbols round l r h.zeros e in ap rank is.counter ∙ counter l.number

    steps : Steps n (IsRankedStatement rank) (HasScalar rank) Under AllFit
    steps = record {
      run = λ round ls s u g. statement_fits ls (normal_statement n.symbols round s) (normal_ranks n.symbols scalars round s u.1 g);
      turns = λ round ls l r u g e. (
        loop_more n.symbols round ls l r u.0 e,
        Each-append (λ (q : NormalLoop). (rank q.counter ≡ 0) × (rank q.variable ≡ 0)) round (r ∷ []) u.1 ((counter_is round ls l r u.0 e, variable_rank round ls l r u.0 g e), tt),
      );
      first = λ round ls l r u g e. statement_fits ls (assigning n.line r.variable (first_text n.symbols round r))
          (assigned n.symbols scalars n.line r.variable (first_text n.symbols round r) (variable_rank round ls l r u.0 g e) (first_ranks n.symbols scalars round r u.1));
      end = λ round ls l r u g e. statement_fits ls (assigning n.line r.variable (end_text n.symbols round r))
          (assigned n.symbols scalars n.line r.variable (end_text n.symbols round r) (variable_rank round ls l r u.0 g e) (end_ranks n.symbols scalars round r u.1));
    }

    pub references_of_made : (m : Nest) → IsMadeOf n m → EachIn (IsRankedStatement rank) (HasScalar rank) n.body → Each AllFit (nest_statements m)
    references_of_made m h g = each_statement n m (IsRankedStatement rank) (HasScalar rank) Under AllFit steps (no_loops, tt) g h
