-- A prepared nest and the expanded one, with what stands behind their loops.
use Rattle.std.proofs.Common.{◌≡◌, refl, sym, ap₂, ◌∙◌, subst, ℕ, ◌≤◌, ℤ, pos, List, [], length, None}
use Rattle.tree.specs.Plain.{Block, Declaration, block, no_statements, statement}
use Rattle.meaning.specs.Run.{State, does, does_all}
use Rattle.meaning.specs.Store.{Store}
use Rattle.rewrite.specs.Following.{sequential}
use Rattle.rewrite.proofs.Acts.{Stays-does_all}
use Rattle.nest.specs.Allocations.{block_then}
use Rattle.nest.specs.Blocks.{statement_of_part}
use Rattle.nest.specs.Plain.{Loop, Nest, Parts, Turns}
use Rattle.nest_rewrite.specs.Assembled.{with_parts}
use Rattle.nest_steps.specs.Leading.{Led, Leads}
use Rattle.nest_steps.proofs.Acts.{Leads-then}
use Rattle.pass_laws.specs.prepared_nests.Made.{AreOf64Bits}
use Rattle.pass_laws.specs.prepared_nests.Nests.{IsPrepared}
use Rattle.scalar_expand.specs.Endings.{AreSettled}
use Rattle.scalar_expand.specs.Expanded.{expanded, last_values, with_made_arrays}
use Rattle.scalar_expand.specs.Laws.{AreAlike, IsExpandable, IsKept, own_of}
use Rattle.scalar_expand.specs.Numbers.{ends_of, limits_of, trip_at}
use Rattle.scalar_expand.specs.Privates.{private_scalars}
use Rattle.scalar_expand.specs.Stores.{all_at}
use Rattle.scalar_expand.specs.declared.privates.Private.{Private}
use Rattle.scalar_expand.proofs.Endings.{last_values_go_on}
use Rattle.scalar_expand.proofs.Theorems.{expanded_nest_goes_on}
use Rattle.prepared_passes.specs.expansion.Laws.{MayBeExpanded, counters_of, value_among}
use Rattle.prepared_passes.specs.expansion.Runs.{IsFreeBehind, IsSettled, PreparedNestRunsExpanded, runs_in}
use Rattle.prepared_passes.proofs.ExpandedNests.Expandable.{prepared_nest_is_expandable}
use Rattle.prepared_passes.proofs.ExpandedNests.Tells.{prepared_texts_tell}
use Rattle.prepared_passes.proofs.ExpandedNests.TripsKept.{expandable_now, tell_now}
use Rattle.prepared_passes.proofs.ExpandedNests.Written.{IsSo, all_lead}

does_block_then : (bits : ℕ) (a b : Block) (s : State) → does_all (sequential bits) None (block_then a b) s ≡ does_all (sequential bits) None b (does_all (sequential bits) None a s)
does_block_then bits no_statements b s = refl
does_block_then bits (statement c cs) b s = does_block_then bits cs b (does (sequential bits) None c s)

-- ---- the whole nest

after_is : (m : Nest) → (expanded m).after ≡ block_then m.after (block (last_values m.symbols m.line (own_of m)))
unfolding with_made_arrays with_parts
after_is m = refl

line_is : (m : Nest) → (expanded m).line ≡ m.line
unfolding with_made_arrays with_parts
line_is m = refl

module _ (bits : ℕ) (es : List Declaration) (around : List (List ℕ)) (deepest : ℕ) (m : Nest) (loop : Loop) (body : Parts) (values : ℕ → ℤ) (low : 31 ≤ bits)
    (h : IsPrepared es around deepest m) (turns : m.body ≡ Turns loop body) (may : MayBeExpanded es m) (free : IsFreeBehind m) (sized : AreOf64Bits values) where
  abbrev limits : Private → List (ℤ × ℤ)
  limits = limits_of (length m.symbols) values (pos 1)

  abbrev lasts : Private → List ℕ
  lasts = ends_of (length m.symbols) values

  abbrev was : List ℕ → ℤ
  was = value_among m.symbols 0 values

  abbrev trip : List ℕ → Loop → ℕ
  trip = trip_at (length m.symbols) values

  may_expand : IsExpandable bits m limits lasts (counters_of m) was trip
  may_expand = prepared_nest_is_expandable bits es around deepest m loop body values h turns may

  abbrev Alike : (List ℕ → ℤ) → List Private → Store → Store → Type 0
  Alike value ended = AreAlike bits m limits lasts (counters_of m) value ended

  -- the loops have ended; symbols that stand in no trip may have got other values since
  abbrev Ended : Store → Store → Type 0
  Ended = IsSo bits m limits lasts was may_expand.names (all_at [] (private_scalars m)) (IsKept (own_of m) lasts)

  -- the loops, and what stands behind them
  both : Leads (Alike was []) Ended
      (λ t. does_all (sequential bits) None m.after (does (sequential bits) None (statement_of_part m.line m.body) t))
      (λ t. does_all (sequential bits) None m.after (does (sequential bits) None (statement_of_part m.line (expanded m).body) t))
  both = Leads-then (Alike was []) Ended Ended
      (does (sequential bits) None (statement_of_part m.line m.body)) (does (sequential bits) None (statement_of_part m.line (expanded m).body)) (does_all (sequential bits) None m.after) (does_all (sequential bits) None m.after)
      (record { at = λ t v k w a e. begun t v k (expanded_nest_goes_on bits m limits lasts (counters_of m) was trip t v k low may_expand w a e) })
      (Stays-does_all (sequential bits) None m.after)
      (all_lead bits m limits lasts was may_expand.names (all_at [] (private_scalars m)) (IsKept (own_of m) lasts) m.after free)
    where
      begun : (t : State) (v : Store) (k : ℕ)
          → Led (Alike was (private_scalars m)) (does (sequential bits) None (statement_of_part m.line m.body) t) (does (sequential bits) None (statement_of_part m.line (expanded m).body) (record t { store = v; steps = k }))
          → Led Ended (does (sequential bits) None (statement_of_part m.line m.body) t) (does (sequential bits) None (statement_of_part m.line (expanded m).body) (record t { store = v; steps = k }))
      begun t v k l = record { stores = record { value = was; kept = λ z o i j. refl; so = l.stores }; rest = l.rest; going = l.going }

  -- and the last values
  settled : (t r : State) → Led Ended t r → IsSettled bits m values t (does_all (sequential bits) None (block (last_values m.symbols m.line (own_of m))) r)
  settled t r l = record {
    value = l.stores.value;
    kept = l.stores.kept;
    led =
        subst (λ (q : State). Led (AreSettled bits m limits lasts (counters_of m) l.stores.value) t
        (does_all (sequential bits) None (block (last_values m.symbols m.line (own_of m))) q)) (sym l.rest)
        (last_values_go_on bits m limits lasts (counters_of m) l.stores.value trip t r.store r.steps
        (expandable_now m was l.stores.value l.stores.kept bits limits lasts (counters_of m) trip may_expand)
        (tell_now m was l.stores.value l.stores.kept bits es around deepest h may lasts (prepared_texts_tell bits es around deepest m values h may sized))
        l.going l.stores.so);
  }

pub prepared_nest_runs_expanded : PreparedNestRunsExpanded
prepared_nest_runs_expanded bits es around deepest m loop body values s u n low h turns may free sized going alike' sound =
    subst (λ (t : State). IsSettled bits m values (runs_in bits m s) t) (sym second)
    (settled bits es around deepest m loop body values low h turns may free sized (runs_in bits m s)
    (does_all (sequential bits) None m.after (does (sequential bits) None (statement_of_part m.line (expanded m).body) (record s { store = u; steps = n })))
    ((both bits es around deepest m loop body values low h turns may free sized).at s u n going alike' sound))
  where
    second : runs_in bits (expanded m) (record s { store = u; steps = n })
        ≡ does_all (sequential bits) None (block (last_values m.symbols m.line (own_of m)))
        (does_all (sequential bits) None m.after (does (sequential bits) None (statement_of_part m.line (expanded m).body) (record s { store = u; steps = n })))
    second =
        ap₂ (λ (b : Block) (line : ℕ). does_all (sequential bits) None b (does (sequential bits) None (statement_of_part line (expanded m).body) (record s { store = u; steps = n }))) (after_is m) (line_is m)
        ∙ does_block_then bits m.after (block (last_values m.symbols m.line (own_of m))) (does (sequential bits) None (statement_of_part m.line (expanded m).body) (record s { store = u; steps = n }))
