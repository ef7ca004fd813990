-- A prepared nest may be expanded.
use Rattle.std.proofs.Common.{◌≡◌, ◌⊎◌, sym, ◌∙◌, inl, inr, subst, ℕ, ◌≤◌, ℤ, pos, List, [], ◌∷◌, length, arith}
use Rattle.std.proofs.lemmas.Int.{ints}
use Rattle.std.proofs.lemmas.List.{map-append}
use Rattle.linear_forms.specs.CanonicalLaws.{AreDistinct}
use Rattle.meaning.specs.Reads.{names_in}
use Rattle.nest.specs.Bodies.{Standing, nest_loops, nest_statements}
use Rattle.nest.specs.Plain.{Loop, Nest}
use Rattle.nest_order.specs.orders.Lists.{Distinct, In}
use Rattle.nest_order.specs.orders.Lists as orders_spec
use Rattle.nest_order.proofs.orders.Lists.{Each-In, Pairwise-front}
use Rattle.nest_order.proofs.orders.Membership.{In-map, map-In}
use Rattle.nest_order.specs.shapes.Shapes.{IsNormal, numbers_of}
use Rattle.pass_laws.proofs.NormalFacts.MadeStatements.{counter_same}
use Rattle.pass_laws.proofs.NormalFacts.Tables.{all_in, each_asked}
use Rattle.pass_laws.proofs.NormalFacts.Trips.{IsTripOf}
use Rattle.pass_laws.specs.prepared_nests.Loops.{IsPreparedLoop, IsPreparedTrip, variables_of_loops}
use Rattle.pass_laws.specs.prepared_nests.Nests.{IsPrepared, IsPreparedSymbol}
use Rattle.pass_laws.specs.prepared_nests.Statements.{IsPreparedStatement}
use Rattle.pass_laws.proofs.PreparedNests.Lists.{In-Contains, HasSome, distinct_too, ordered_distinct, some_of}
use Rattle.pass_laws.proofs.PreparedNests.Trips.{BearsNumber, bears_number, names_of_trip, number_of_trip}
use Rattle.pass_laws.proofs.PreparedNests.Walks.{once_before, walked}
use Rattle.tree.specs.Plain.{Declaration}
use Rattle.last_values.specs.normal_forms.NormalLoops.{counter_name}
use Rattle.scalar_expand.specs.Flow.{Counts, EachLoop, Fits}
use Rattle.scalar_expand.specs.Laws.{own_of}
use Rattle.scalar_expand.specs.Numbers.{ends_of, limits_of, trip_at}
use Rattle.scalar_expand.specs.Privates.{private_scalars, round_loop}
use Rattle.scalar_expand.specs.Stores.{AreApart}
use Rattle.scalar_expand.specs.declared.privates.Private.{Private}
use Rattle.scalar_expand.specs.declared.privates.RoundLoop.{RoundLoop}
use Rattle.scalar_expand.proofs.Covers.{covered}
use Rattle.scalar_expand.proofs.Trips.{trips_end}
use Rattle.prepared_passes.specs.expansion.Laws.{MayBeExpanded, PreparedNestIsExpandable, counters_of, value_among}
use Rattle.prepared_passes.proofs.ExpandedNests.Names.{Is-apart, apart, counter_apart, named_is, own_apart, start, symbol_apart, symbol_no_counter, target_counts_none, unnamed, whole}
use Rattle.prepared_passes.proofs.ExpandedNests.Trips.{turns_are}
use Rattle.prepared_passes.proofs.ExpandedNests.Walks.{Under, each, round_in}

module _ (bits : ℕ) (es : List Declaration) (around : List (List ℕ)) (deepest : ℕ) (m : Nest) (values : ℕ → ℤ) (h : IsPrepared es around deepest m) (may : MayBeExpanded es m) where
  abbrev ps : List Private
  ps = private_scalars m

  abbrev IsCounter : List ℕ → Type 0
  IsCounter z = In z (counters_of m)

  abbrev n : ℕ
  n = length m.symbols

  -- ---- counters

  counts : (l : Loop) → In l (nest_loops m) → In l.variable (counters_of m)
  counts l i = map-In (λ (o : Loop). o.variable) l (nest_loops m) i

  once : Distinct (numbers_of (nest_loops m))
  once = distinct_too (numbers_of (nest_loops m)) h.parts.once

  bearing : (l : Loop) → In l (nest_loops m) → BearsNumber l
  bearing l i =
      let r = each_asked (IsPreparedLoop es m.symbols) (nest_loops m) [] m.body h.plain (walked (IsPreparedLoop es m.symbols) [] m.body h.parts.loops) l i in
      bears_number es m.symbols r.round l r.asked

  -- a counter is that of a loop
  record IsCounterOf (z : List ℕ) : Type 0 where
    number : ℕ
    is : z ≡ counter_name number

  counter_of : (z : List ℕ) → In z (counters_of m) → IsCounterOf z
  counter_of z i =
      let o = In-map (λ (l : Loop). l.variable) z (nest_loops m) i in
      record { number = o.it.number; is = o.is ∙ (bearing o.it o.inside).0 }

  no_counter : (x : List ℕ) → ((k : ℕ) → ¬ (x ≡ counter_name k)) → ¬ In x (counters_of m)
  no_counter x none i = let c = counter_of x i in none c.number c.is

  -- ---- loops

  distinct : AreDistinct m.symbols
  distinct = ordered_distinct m.symbols h.parts.ordered

  abbrev CountsHere : List Loop → Loop → Type 0
  CountsHere = Counts (private_scalars m) m.symbols (λ z. In z (counters_of m)) bits (value_among m.symbols 0 values) (trip_at (length m.symbols) values)

  a_loop : (ls : List Loop) (l : Loop) → IsNormal l → Under es m.symbols (nest_loops m) ls l → CountsHere ls l
  a_loop ls l normal u = record {
    first = normal.first;
    step = normal.step;
    counter = counts l u.inside;
    own = λ o i e. Each-In (λ k. ¬ (k ≡ l.number)) (numbers_of ls) apart_round o.number (map-In (λ (x : Loop). x.number) o ls i) (same o i e);
    last = λ z i. names_of_trip (λ x. Is-apart es around deepest m h may x) (variables_of_loops ls) m.symbols trip.value
        (λ y j. (let o = In-map (λ (x : Loop). x.variable) y ls j in counter_apart es around deepest m h may y o.it.number (o.is ∙ (bearing o.it (u.outer o.it o.inside)).0)))
        (λ y j. symbol_apart es around deepest m h may y j) z (subst (λ e. In z (names_in e)) trip.has.text i);
    turns = λ is s z k holds hold e count. turns_are bits m.symbols values distinct ls l trip.value trip.is trip.has is_trip is s z k (λ o i. holds.counters o.variable (counts o (u.outer o i))) holds.fixed hold e count;
  }
    where
      apart_round : orders_spec.Each (λ k. ¬ (k ≡ l.number)) (numbers_of ls)
      apart_round = Pairwise-front (λ x y. ¬ (x ≡ y)) l.number (numbers_of ls) [] (subst Distinct (map-append (λ (x : Loop). x.number) ls (l ∷ [])) u.once)

      same : (o : Loop) → In o ls → l.variable ≡ o.variable → o.number ≡ l.number
      same o i e =
          let b = bearing o (u.outer o i) in
          let c = bearing l u.inside in
          counter_same o.number l.number b.1 c.1 (sym b.0 ∙ (sym e ∙ c.0))

      trip : HasSome (IsPreparedTrip (variables_of_loops ls) m.symbols l.last) l.trip
      trip = some_of (IsPreparedTrip (variables_of_loops ls) m.symbols l.last) l.trip u.prepared.trip

      few : length ls ≤ 7
      few = let deep = u.prepared.depth in omega (arith, deep)

      is_trip : IsTripOf (variables_of_loops ls) m.symbols l.last trip.value
      is_trip = number_of_trip m.symbols (λ x i. (all_in (IsPreparedSymbol es) m.symbols h.parts.symbols x i).name.within) distinct ls l.last trip.value few u.named
          (once_before ls (l ∷ []) u.once) trip.has

  loops : EachLoop CountsHere [] m.body
  loops = each es m.symbols (nest_loops m) CountsHere a_loop [] m.body h.plain h.parts.loops once (λ o j. absurd j) (λ o j. j) tt

  -- ---- statements

  fits : (x : Standing) → In x (nest_statements m) → Fits (private_scalars m) m.symbols (λ z. In z (counters_of m)) x.statement
  fits x i =
      let st = all_in (IsPreparedStatement es m deepest) (nest_statements m) h.parts.statements x i in
      record {
        guard_plain = st.plain.0;
        right_plain = st.plain.1;
        left_plain = st.plain.2;
        counts_none = no_counter x.statement.left.name (λ k. target_counts_none es around deepest m h may x.statement.left.name k st.target);
        free = λ j. st.free (In-Contains x.statement.left.name m.symbols j);
        unnamed = λ z s e. unnamed es around deepest m h may x i z s e;
        whole = λ p e. whole es around deepest m h may x i p e;
      }

  -- ---- names

  names : AreApart bits (private_scalars m) (limits_of (length m.symbols) values (pos 1)) (ends_of (length m.symbols) values) m.symbols (value_among m.symbols 0 values) (λ z. In z (counters_of m)) (λ p. In p (own_of m))
  names = record {
    named = λ p i. named_is es around deepest m h may p i;
    apart = λ p q i j e. apart es around deepest m h may p q i j e;
    counters = λ z i. (let c = counter_of z i in counter_apart es around deepest m h may z c.number c.is);
    free = λ z i. (let a = symbol_apart es around deepest m h may z i in (a.0, a.1, no_counter z (λ k. symbol_no_counter es around deepest m h may z k i)));
    loops = λ p i l j. counted p i l j;
    own = λ p q i j own. own_apart es around deepest m h may p q i j own;
  }
    where
      counted : (p : Private) → In p (private_scalars m) → (l : RoundLoop) → In l p.loops → In l.variable (counters_of m)
      counted p i l j =
          let s = start es around deepest m h may p i in
          let o = In-map round_loop l s.standing.loops (subst (In l) s.loops j) in
          subst (λ (k : RoundLoop). In k.variable (counters_of m)) (sym o.is) (counts o.it (inside o.it (round_in [] m.body h.plain s.standing s.inside o.it o.inside)))
        where
          inside : (o : Loop) → In o [] ⊎ In o (nest_loops m) → In o (nest_loops m)
          inside o (inl k) = absurd k
          inside o (inr k) = k

pub prepared_nest_is_expandable : PreparedNestIsExpandable
prepared_nest_is_expandable bits es around deepest m loop body values h turns may = record {
  loop = loop;
  body = body;
  turns = turns;
  loops = loops bits es around deepest m values h may;
  once = once bits es around deepest m values h may;
  statements = λ x i. fits bits es around deepest m values h may x i;
  names = names bits es around deepest m values h may;
  cover = λ p i ls same is k. covered m values (pos 1) (omega (arith, ints)) p i ls same is k;
  end = (trips_end m values).0;
  steady = (trips_end m values).1;
}
