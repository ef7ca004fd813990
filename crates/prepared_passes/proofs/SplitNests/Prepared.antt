-- A prepared nest whose nodes were split is prepared.
use Rattle.std.proofs.Common.{◌≡◌, ◌⊎◌, inl, inr, refl, sym, ap, ◌∙◌, subst, ℕ, ◌+◌, ◌*◌, ◌≤◌, Bool, true, List, [], ◌∷◌, ◌++◌, map, reverse, length, Option, Some, None, Contains, arith}
use mathlib.Core.List.{reverse_aux}
use Rattle.std.specs.Option.{IsSomeAnd}
use Rattle.std.specs.Prelude.{All, is_some, pos, slice_index_or, unwrap_or}
use Rattle.std.proofs.lemmas.List.{length-reverse, map-append}
use Rattle.std.proofs.lemmas.List.Elements.{All-append, All-weaker, Contains-append_left, Contains-append_right}
use Rattle.components.specs.Lists.{Distinct, Each}
use Rattle.dependence_graph.specs.declared.graphs.Place.{Place}
use Rattle.meaning.specs.Reads.{names_in}
use Rattle.meaning.specs.Typed.{declared, rank_of_extent}
use Rattle.meaning.specs.Typed90.{IsIntegerScalar}
use Rattle.nest.specs.Bodies.{Standing, nest_loops, nest_statements}
use Rattle.nest.specs.Plain.{Choice, Guarded, Jump, Label, Loop, Made, Nest, Part, Run, Turns}
use Rattle.nest.specs.declared.parts.Trip.{Trip}
use Rattle.nest_order.proofs.orders.Lists.{In-append, In-right}
use Rattle.nest_order.proofs.orders.Membership.{In-map, map-In}
use Rattle.nest_order.specs.orders.Lists.{In}
use Rattle.nest_order.specs.shapes.Shapes.{numbers_of}
use Rattle.pass_laws.proofs.NormalFacts.StatementKinds.{small_form}
use Rattle.pass_laws.proofs.NormalFacts.Tables.{all_in, each_asked, each_from, each_in}
use Rattle.pass_laws.proofs.PreparedNests.Lists.{Contains-In, In-Contains, some_of}
use Rattle.pass_laws.proofs.PreparedNests.Walks.{walked}
use Rattle.pass_laws.proofs.ReadyNests.Lists.{Each-All}
use Rattle.pass_laws.specs.normal_facts.Laws.{IsCounter}
use Rattle.pass_laws.specs.prepared_nests.After.{IsPreparedAfter}
use Rattle.pass_laws.specs.prepared_nests.Loops.{IsPreparedLoop, IsPreparedTrip, variables_of_loops}
use Rattle.pass_laws.specs.prepared_nests.Made.{IsPreparedExtent, IsPreparedMade}
use Rattle.pass_laws.specs.prepared_nests.Nests.{IsPrepared, IsPreparedSymbol}
use Rattle.pass_laws.specs.prepared_nests.Statements.{made_names}
use Rattle.prepared_passes.proofs.ExpandedNests.Elements.{counter_scalar}
use Rattle.prepared_passes.proofs.ExpandedNests.ExtentForms.{extents_small}
use Rattle.prepared_passes.proofs.ExpandedNests.Round.{as_many_texts}
use Rattle.prepared_passes.proofs.ExpandedNests.Texts.{AllSmall, IsExtentText, IsSmallTrip, all_texts, form_sized}
use Rattle.prepared_passes.proofs.ExpandedNests.Values.{texts_have_numbers}
use Rattle.prepared_passes.proofs.ExpandedNests.Walks.{round_in}
use Rattle.prepared_passes.proofs.SymbolsAnew.Comes.{IsButText, IsStatementBut}
use Rattle.prepared_passes.proofs.SymbolsAnew.Prepared.{body_has, texts_prepared}
use Rattle.scalar_expand.proofs.Covers.{extents_found}
use Rattle.scalar_expand.specs.Privates.{round_loop, trip_or_none}
use Rattle.scalar_expand.specs.Privates as privates
use Rattle.scalar_expand.specs.Texts.{extent_texts}
use Rattle.statement_passes.proofs.Standings.{mapped_nest_has}
use Rattle.statement_passes.specs.Passes.{mapped_body, mapped_nest}
use Rattle.statement_passes.specs.Standings.{IsLoop, IsMappedFrom}
use Rattle.tree.specs.Names.{IsSourceName}
use Rattle.tree.specs.Plain.{Declaration, Expression}
use Rattle.tree.specs.declared.ops.Kind.TheVariants.{Integer}
use Rattle.node_splitting.specs.Arrays.{copy_name, copy_element, extents_over, texts_over}
use Rattle.node_splitting.specs.Counts.{variables_from_outside}
use Rattle.node_splitting.specs.Reads.{split_statement}
use Rattle.node_splitting.specs.Split.{firsts, made_arrays, may_in, with_copy_arrays}
use Rattle.prepared_passes.specs.splitting.Laws.{SplitNestIsPrepared}
use Rattle.prepared_passes.specs.splitting.Splits.{MayBeSplit}
use Rattle.prepared_passes.proofs.SplitNests.Limits.{extents_are, few_extents}
use Rattle.prepared_passes.proofs.SplitNests.Names.{copy_long, copy_no_counter}
use Rattle.prepared_passes.proofs.SplitNests.Places.{IsForStatement, for_statement, reads, split_nest_has_copies}
use Rattle.prepared_passes.proofs.SplitNests.Reading.{extents_there}
use Rattle.prepared_passes.proofs.SplitNests.Standings.{comes_from, copy_or_statement, IsCopy}
use Rattle.prepared_passes.proofs.SplitNests.Statements.{copy_there, split_there}
use Rattle.prepared_passes.proofs.SplitNests.Texts.{each_raw, raw_nest, split_is, whole_is}

-- ---- lists

In-turned : {A : Type 0} (x : A) (xs ys : List A) → In x (reverse_aux xs ys) → In x xs ⊎ In x ys
In-turned x [] ys i = inr i
In-turned x (y ∷ xs) ys i = by (In-turned x xs (y ∷ ys) i)
  where
    by : In x xs ⊎ In x (y ∷ ys) → In x (y ∷ xs) ⊎ In x ys
    by (inl j) = inl (inr j)
    by (inr (inl e)) = inl (inl e)
    by (inr (inr j)) = inr j

In-reverse : {A : Type 0} (x : A) (xs : List A) → In x (reverse xs) → In x xs
In-reverse x xs i = by (In-turned x xs [] i)
  where
    by : In x xs ⊎ In x [] → In x xs
    by (inl j) = j
    by (inr j) = absurd j

all_of : {A : Type 0} (P : A → Type 0) (xs : List A) → ((x : A) → In x xs → P x) → All P xs
all_of P xs f = Each-All P xs (each_from P xs f)

both_distinct : (xs ys : List (List ℕ)) → Distinct xs → Distinct ys → ((x : List ℕ) → In x xs → ¬ In x ys) → Distinct (xs ++ ys)
both_distinct [] ys d e f = e
both_distinct (x ∷ xs) ys d e f = (
  each_of (xs ++ ys) (λ y i. apart y (In-append y xs ys i)),
  both_distinct xs ys d.1 e (λ z i. f z (inr i)),
)
  where
    apart : (y : List ℕ) → In y xs ⊎ In y ys → ¬ (x ≡ y)
    apart y (inl j) q = each_in (λ z. ¬ (x ≡ z)) xs d.0 y j q
    apart y (inr j) q = f x (inl refl) (subst (λ z. In z ys) (sym q) j)

    each_of : (zs : List (List ℕ)) → ((y : List ℕ) → In y zs → ¬ (x ≡ y)) → Each (λ y. ¬ (x ≡ y)) zs
    each_of [] g = tt
    each_of (z ∷ zs) g = (g z (inl refl), each_of zs (λ y i. g y (inr i)))

module _ (es : List Declaration) (around : List (List ℕ)) (deepest : ℕ) (may : Place → Bool) (m : Nest) (h : IsPrepared es around deepest m) (can : MayBeSplit es may m) (room : 252 ≤ deepest) where
  abbrev names_of_arrays : List (List ℕ)
  names_of_arrays = map (λ (a : Made). a.name) (made_arrays may m)

  -- ---- what has been made

  extent_kept : (e : Expression) → IsPreparedExtent es m.symbols deepest e → IsPreparedExtent es m.symbols (deepest + 1) e
  extent_kept e x = let deep = x.deep in record { plain = x.plain; names = x.names; kind = x.kind; deep = omega (arith, deep); value = x.value }

  old_made : (a : Made) → IsPreparedMade es m.symbols deepest a → IsPreparedMade es m.symbols (deepest + 1) a
  old_made a p = record {
    made = p.made;
    counter = p.counter;
    declaration = p.declaration;
    extents = All-weaker (IsPreparedExtent es m.symbols deepest) (IsPreparedExtent es m.symbols (deepest + 1)) extent_kept a.extents p.extents;
    few = p.few;
  }

  symbol_is : (y : List ℕ) → In y m.symbols → IsPreparedSymbol es y
  symbol_is y i = all_in (IsPreparedSymbol es) m.symbols h.parts.symbols y i

  symbols_there : Each (IsIntegerScalar es) m.symbols
  symbols_there = each_from (IsIntegerScalar es) m.symbols (λ y i. integer (declared es y) (symbol_is y i).scalar)
    where
      integer : (o : Option Declaration) → IsSomeAnd o IsCounter → IsSomeAnd o (λ (c : Declaration). (c.kind ≡ Integer) × (rank_of_extent c.extent ≡ 0))
      integer None g = absurd g
      integer (Some c) g = (g.kind, ap rank_of_extent g.scalar)

  loop_small : (s : Standing) → In s (nest_statements m) → (o : Loop) → In o s.loops → IsSmallTrip (trip_or_none o.trip)
  loop_small s j o i = by (round_in [] m.body h.plain s j o i)
    where
      by : In o [] ⊎ In o (nest_loops m) → IsSmallTrip (trip_or_none o.trip)
      by (inl q) = absurd q
      by (inr q) =
          let r = each_asked (IsPreparedLoop es m.symbols) (nest_loops m) [] m.body h.plain (walked (IsPreparedLoop es m.symbols) [] m.body h.parts.loops) o q in
          let t = some_of (IsPreparedTrip (variables_of_loops r.round) m.symbols o.last) o.trip r.asked.trip in
          subst IsSmallTrip (sym (ap trip_or_none t.is)) (record {
            top = small_form (length (variables_of_loops r.round)) t.value.top t.has.top;
            sized = form_sized m.symbols (variables_of_loops r.round) o.last t.value t.has;
            divisor = t.has.divisor;
            by = t.has.by;
            positive = t.has.positive;
            small = t.has.small;
          })

  loops_small : (ls : List Loop) → ((o : Loop) → In o ls → IsSmallTrip (trip_or_none o.trip)) → AllSmall (privates.trips_of (map round_loop ls))
  loops_small [] f = tt
  loops_small (l ∷ ls) f = (f l (inl refl), loops_small ls (λ o i. f o (inr i)))

  module _ (s : Standing) (j : In s (nest_statements m)) (exts : List Trip) (are : extents_over (length m.symbols) s.loops ≡ Some exts) where
    small : AllSmall (privates.trips_of (map round_loop s.loops))
    small = loops_small s.loops (loop_small s j)

    exts_small : AllSmall exts
    exts_small =
        extents_small (length m.symbols) [] (privates.trips_of (map round_loop s.loops)) exts small
        (extents_found (length m.symbols) (λ k. pos 0) (privates.trips_of (map round_loop s.loops)) exts (extents_are (length m.symbols) s.loops exts are)).under tt

    texts : Each (IsExtentText es m.symbols (0 + 36 * length exts)) (extent_texts m.symbols exts)
    texts = all_texts es m.symbols symbols_there (λ x i. counter_scalar es x (symbol_is x i).scalar) exts 0 [] exts_small tt

    extent_is : (e : Expression) → In e (extent_texts m.symbols exts) → IsPreparedExtent es m.symbols (deepest + 1) e
    extent_is e i =
        let t = each_in (IsExtentText es m.symbols (0 + 36 * length exts)) (extent_texts m.symbols exts) texts e i in
        let deep = t.deep in
        let few = (few_extents (length m.symbols) s.loops exts are).0 in
        record {
          plain = t.plain;
          names = all_of (Contains m.symbols) (names_in e) (λ y k. In-Contains y m.symbols (t.names y k));
          kind = t.number;
          deep = omega (arith, deep, few, room);
          value = λ v sized. texts_have_numbers m.symbols (privates.trips_of (map round_loop s.loops)) exts (extents_are (length m.symbols) s.loops exts are) small v sized e i;
        }

    all_extents : All (IsPreparedExtent es m.symbols (deepest + 1)) (texts_over m.symbols (extents_over (length m.symbols) s.loops))
    all_extents =
        subst (λ o. All (IsPreparedExtent es m.symbols (deepest + 1)) (texts_over m.symbols o)) (sym are)
        (all_of (IsPreparedExtent es m.symbols (deepest + 1)) (reverse (extent_texts m.symbols exts)) (λ e i. extent_is e (In-reverse e (extent_texts m.symbols exts) i)))

    few_texts : length (texts_over m.symbols (extents_over (length m.symbols) s.loops)) ≤ 7
    few_texts =
        subst (λ o. length (texts_over m.symbols o) ≤ 7) (sym are)
        (let few = (few_extents (length m.symbols) s.loops exts are).0 in
        let all = as_many_texts m.symbols [] exts in
        let turned = length-reverse (extent_texts m.symbols exts) in
        omega (arith, few, all, turned))

  some_is : (o : Option (List Trip)) → is_some o ≡ true → o ≡ Some (unwrap_or o [])
  some_is None e = cc
  some_is (Some ts) e = refl

  new_made : (a : Made) → In a (made_arrays may m) → IsPreparedMade es m.symbols (deepest + 1) a
  new_made a i = by (for_statement may m 0 m.copies (nest_statements m) a i)
    where
      by : IsForStatement may m a (nest_statements m) → IsPreparedMade es m.symbols (deepest + 1) a
      by q =
          let s = q.statement in
          let are = some_is (extents_over (length m.symbols) s.loops) (extents_there may (length m.symbols) s.loops q.place s.statement q.array.read q.array.among) in
          let name : a.name ≡ copy_name q.array.number = ap (λ (b : Made). b.name) q.array.is in
          record {
            made = λ t. copy_long q.array.number (subst IsSourceName name t);
            counter = λ k e. copy_no_counter q.array.number k (sym name ∙ e);
            declaration = can.declared a i;
            extents = subst (λ (b : Made). All (IsPreparedExtent es m.symbols (deepest + 1)) b.extents) (sym q.array.is) (all_extents s q.among (unwrap_or (extents_over (length m.symbols) s.loops) []) are);
            few = subst (λ (b : Made). length b.extents ≤ 7) (sym q.array.is) (few_texts s q.among (unwrap_or (extents_over (length m.symbols) s.loops) []) are);
          }

  -- ---- names

  names_are : made_names (raw_nest may m) ≡ made_names m ++ names_of_arrays
  names_are = map-append (λ (a : Made). a.name) m.made (made_arrays may m)

  old : (x : List ℕ) → Contains (made_names m) x → Contains (made_names (raw_nest may m)) x
  old x c = subst (λ xs. Contains xs x) (sym names_are) (Contains-append_left (made_names m) names_of_arrays x c)

  new : (a : Made) → In a (made_arrays may m) → Contains (made_names (raw_nest may m)) a.name
  new a i =
      subst (λ xs. Contains xs a.name) (sym names_are)
      (Contains-append_right (made_names m) names_of_arrays a.name (In-Contains a.name names_of_arrays (map-In (λ (b : Made). b.name) a (made_arrays may m) i)))

  once : Distinct (made_names (raw_nest may m))
  once =
      subst (λ (xs : List (List ℕ)). Distinct xs) (sym names_are)
      (both_distinct (made_names m) names_of_arrays h.parts.made_once (split_nest_has_copies may m can.few).once apart)
    where
      apart : (x : List ℕ) → In x (made_names m) → ¬ In x names_of_arrays
      apart x i j =
          let o = In-map (λ (a : Made). a.name) x (made_arrays may m) j in
          can.unmade o.it o.inside (subst (λ y. Contains (made_names m) y) o.is (In-Contains x (made_names m) i))

  -- ---- statements

  has : IsMappedFrom (each_raw may m) m (mapped_nest (each_raw may m) m)
  has = mapped_nest_has (each_raw may m) m can.loop h.plain

  abbrev IsThere : Standing → Type 0
  IsThere = IsStatementBut es (made_names (raw_nest may m)) (λ z. ¬ Contains m.symbols z) (deepest + 1)

  abbrev IsOutside : Standing → Type 0
  IsOutside x = ¬ Contains around x.statement.left.name

  statement_is : (x : Standing) → In x (nest_statements (mapped_nest (each_raw may m) m)) → IsThere x × IsOutside x
  statement_is x i =
      let c = comes_from (each_raw may m) 0 (nest_statements m) x (subst (λ (zs : List Standing). In x zs) has.statements i) in
      let e = c.is in
      let at : c.number ≡ length c.pre = omega (arith, e) in
      let there : In c.guarded (each_raw may m c.from.loops (length c.pre) c.from.statement) = subst (λ k. In c.guarded (each_raw may m c.from.loops k c.from.statement)) at c.inside in
      subst (λ (y : Standing). IsThere y × IsOutside y) (sym c.same)
      (by c.from c.pre c.post c.parted c.guarded
      (copy_or_statement m c.from.loops (copy_element (variables_from_outside c.from.loops)) c.from.statement (variables_from_outside c.from.loops) (may_in may (length m.symbols) c.from.loops (length c.pre))
      (slice_index_or (firsts may m) (length c.pre) 0) c.guarded there))
    where
      by : (s : Standing) (pre post : List Standing) → nest_statements m ≡ pre ++ s ∷ post → (y : Guarded)
          → IsCopy m s.loops (copy_element (variables_from_outside s.loops)) s.statement (slice_index_or (firsts may m) (length pre) 0) (reads may m (length pre) s) y
          ⊎ (y ≡ split_statement (variables_from_outside s.loops) (may_in may (length m.symbols) s.loops (length pre)) s.statement (copy_element (variables_from_outside s.loops))
          (slice_index_or (firsts may m) (length pre) 0))
          → IsThere (record { loops = s.loops; statement = y }) × IsOutside (record { loops = s.loops; statement = y })
      by s pre post parted y (inl c) = (
        copy_there es around deepest may m h can s pre post parted (made_names (raw_nest may m)) old new y c,
        λ i. copy_long c.number (all_in IsSourceName around h.parts.source (copy_name c.number)
            (Contains-In (copy_name c.number) around (subst (λ (z : Guarded). Contains around z.left.name) c.is i))),
      )
      by s pre post parted y (inr e) = (
        subst (λ (z : Guarded). IsThere (record { loops = s.loops; statement = z })) (sym e)
            (split_there es around deepest may m h can s pre post parted (made_names (raw_nest may m)) old new),
        λ i. all_in (λ (x : Standing). ¬ Contains around x.statement.left.name) (nest_statements m) h.parts.outside s
            (subst (λ (zs : List Standing). In s zs) (sym parted) (In-right s pre (s ∷ post) (inl refl)))
            (subst (λ (z : Guarded). Contains around z.left.name) e i),
      )

  after_kept : IsPreparedAfter es around (deepest + 1) m.after
  after_kept = let deep = h.parts.after.deep in record { endings = h.parts.after.endings; names = h.parts.after.names; profile = h.parts.after.profile; deep = omega (arith, deep) }

  but_text : IsButText es around (λ z. ¬ Contains m.symbols z) (deepest + 1) (raw_nest may m)
  but_text = record {
    plain = has.plain;
    loop = raw_loop m.body can.loop;
    line = h.parts.line;
    number = h.parts.number;
    symbols = h.parts.symbols;
    ordered = h.parts.ordered;
    loops = body_has (IsPreparedLoop es m.symbols) (each_raw may m) m.body can.loop h.parts.loops;
    once = subst (λ (ls : List Loop). Distinct (numbers_of ls)) (sym has.loops) h.parts.once;
    statements = all_of IsThere (nest_statements (mapped_nest (each_raw may m) m)) (λ x i. (statement_is x i).0);
    made = All-append (IsPreparedMade es m.symbols (deepest + 1)) m.made (made_arrays may m)
        (All-weaker (IsPreparedMade es m.symbols deepest) (IsPreparedMade es m.symbols (deepest + 1)) old_made m.made h.parts.made)
        (all_of (IsPreparedMade es m.symbols (deepest + 1)) (made_arrays may m) new_made);
    made_once = once;
    after = after_kept;
    source = h.parts.source;
    outside = all_of IsOutside (nest_statements (mapped_nest (each_raw may m) m)) (λ x i. (statement_is x i).1);
  }
    where
      raw_loop : (p : Part) → IsLoop p
          → IsLoop (mapped_body (each_raw may m) p)
      raw_loop (Turns l ps) t = tt
      raw_loop (Run g) t = t
      raw_loop (Choice bs ps) t = t
      raw_loop (Label n) t = t
      raw_loop (Jump n) t = t

  pub whole_prepared : IsPrepared es around (deepest + 19) (with_copy_arrays may m (made_arrays may m))
  whole_prepared =
      let sum : (deepest + 1) + 18 ≡ deepest + 19 = omega arith in
      subst (λ n. IsPrepared es around n (with_copy_arrays may m (made_arrays may m))) sum
      (subst (λ (z : Nest). IsPrepared es around ((deepest + 1) + 18) z) (sym (whole_is may m can.loop)) (texts_prepared es around (deepest + 1) (raw_nest may m) but_text h.parts.few))

pub split_nest_is_prepared : SplitNestIsPrepared
split_nest_is_prepared es around deepest may m k h can room split =
    subst (λ (z : Nest). IsPrepared es around (deepest + 19) z) (sym (split_is may m k split)) (whole_prepared es around deepest may m h can room)
