-- An expanded nest is prepared.
use Rattle.std.proofs.Common.{◌≡◌, ◌⊎◌, inl, inr, refl, sym, ap, ◌∙◌, subst, ℕ, ◌+◌, ◌*◌, ◌≤◌, ◌<◌, ◌^◌, pos, All, Contains, List, [], ◌∷◌, ◌++◌, map, reverse, length, Some, None, arith}
use mathlib.Core.List.{reverse_aux}
use Rattle.std.specs.Option.{IsSomeAnd}
use Rattle.std.proofs.lemmas.List.{length-map, length-reverse}
use Rattle.std.proofs.lemmas.List.Elements.{All-weaker}
use Rattle.components.specs.Lists.{Distinct, Each}
use Rattle.meaning.specs.Typed.{declared}
use Rattle.meaning.specs.Reads.{names_in}
use Rattle.meaning.specs.Labels.{IsLine}
use Rattle.meaning.specs.Names.{IsInByteOrder}
use Rattle.nest.specs.Allocations.{block_then}
use Rattle.nest.specs.Bodies.{Standing, nest_statements, statements_in}
use Rattle.nest.specs.Plain.{Loop, Made, Nest, Part, Run, Turns, Choice, Label, Jump, Parts, no_parts, part}
use Rattle.nest.specs.Plain.{Branches, no_branches, branch}
use Rattle.nest_order.specs.orders.Lists.{In}
use Rattle.nest_rewrite.specs.Assembled.{with_parts}
use Rattle.pass_laws.proofs.NormalFacts.Tables.{all_in, each_from, each_in}
use Rattle.pass_laws.proofs.ReadyNests.Lists.{Each-All}
use Rattle.pass_laws.specs.normal_facts.Laws.{IsCounter}
use Rattle.pass_laws.specs.ready_nests.Distinct as ready
use Rattle.pass_laws.specs.prepared_nests.After.{IsPreparedAfter}
use Rattle.pass_laws.specs.prepared_nests.Loops.{EachLoop, EachLoopIn, EachLoopUnder, IsPreparedLoop}
use Rattle.pass_laws.specs.prepared_nests.Made.{IsPreparedExtent, IsPreparedMade, extent_for}
use Rattle.pass_laws.specs.prepared_nests.Nests.{AreMadeParts, IsPrepared, IsPreparedSymbol}
use Rattle.pass_laws.specs.prepared_nests.Statements.{IsPreparedStatement, made_names}
use Rattle.pass_laws.proofs.PreparedNests.Lists.{Contains-In, In-Contains}
use Rattle.tree.specs.Plain.{Declaration, Expression, block}
use Rattle.tree.specs.declared.ops.Kind.TheVariants.{Integer}
use Rattle.scalar_expand.specs.Expanded.{array_of, expanded, expanded_part, expanding, last_values, made_before, made_now, named_private, with_made_arrays}
use Rattle.scalar_expand.specs.Laws.{own_of}
use Rattle.scalar_expand.specs.Numbers.{ends_of, limits_of, trip_at}
use Rattle.scalar_expand.specs.Privates.{private_scalars}
use Rattle.scalar_expand.specs.Texts.{extent_texts}
use Rattle.scalar_expand.specs.declared.privates.Private.{Private}
use Rattle.scalar_expand.specs.declared.privates.RoundLoop.{RoundLoop}
use Rattle.scalar_expand.proofs.PrivateLaws.{numbers_round}
use Rattle.scalar_expand.proofs.Theorems.{nest_flow}
use Rattle.prepared_passes.specs.expansion.Kept.{HasLoopsOf}
use Rattle.prepared_passes.specs.expansion.Laws.{MayBeExpanded, counters_of, value_among}
use Rattle.prepared_passes.specs.expansion.Prepared.{AreDeclaredFor, ExpandedNestIsPrepared}
use Rattle.prepared_passes.specs.expansion.Runs.{IsFreeBehind, IsOther}
use Rattle.prepared_passes.proofs.ExpandedNests.Behind.{behind_prepared, symbols_there}
use Rattle.prepared_passes.proofs.ExpandedNests.Bodies.{part_is}
use Rattle.prepared_passes.proofs.ExpandedNests.Declared.{scalar_kept, there}
use Rattle.prepared_passes.proofs.ExpandedNests.Elements.{counter_scalar}
use Rattle.prepared_passes.proofs.ExpandedNests.Expandable.{prepared_nest_is_expandable}
use Rattle.prepared_passes.proofs.ExpandedNests.ExtentForms.{all_small, found_extents}
use Rattle.prepared_passes.proofs.ExpandedNests.Kept.{expanded_nest_keeps_loops}
use Rattle.prepared_passes.proofs.ExpandedNests.Made.{all_once, array_made, each_made, made_apart, stays}
use Rattle.prepared_passes.proofs.ExpandedNests.Names.{counter_apart, symbol_apart}
use Rattle.prepared_passes.proofs.ExpandedNests.Round.{array_no_counter, as_many_loops, as_many_texts, round_numbers}
use Rattle.prepared_passes.proofs.ExpandedNests.Statements.{Is, array_not_source, copy_is, expanded_is}
use Rattle.prepared_passes.proofs.ExpandedNests.Texts.{IsExtentText, all_texts}
use Rattle.prepared_passes.proofs.ExpandedNests.Values.{extent_has_value}
use Rattle.tree.specs.Widths.{bits_of}
use Rattle.tree.specs.declared.width.Width.TheVariants.{Plain}

-- ---- lists

In-turned : {A : Type 0} (x : A) (xs ys : List A) → In x (reverse_aux xs ys) → In x xs ⊎ In x ys
In-turned x [] ys i = inr i
In-turned x (y ∷ xs) ys i = by (In-turned x xs (y ∷ ys) i)
  where
    by : In x xs ⊎ In x (y ∷ ys) → In x (y ∷ xs) ⊎ In x ys
    by (inl j) = inl (inr j)
    by (inr (inl e)) = inl (inl e)
    by (inr (inr j)) = inr j

In-reverse : {A : Type 0} (x : A) (xs : List A) → In x (reverse xs) → In x xs
In-reverse x xs i = by (In-turned x xs [] i)
  where
    by : In x xs ⊎ In x [] → In x xs
    by (inl j) = j
    by (inr j) = absurd j

all_of : {A : Type 0} (P : A → Type 0) (xs : List A) → ((x : A) → In x xs → P x) → All P xs
all_of P xs f = Each-All P xs (each_from P xs f)

-- ---- loops

module _ (Asked Known : List Loop → Loop → Type 0) (f : (ls : List Loop) (l : Loop) → Asked ls l → Known ls l) where
  mutual
    each_loop : (ls : List Loop) (q : Part) → EachLoop Asked ls q → EachLoop Known ls q
    each_loop ls (Run g) h = tt
    each_loop ls (Turns l qs) h = (f ls l h.0, each_loops (ls ++ l ∷ []) qs h.1)
    each_loop ls (Choice bs qs) h = (each_under ls bs h.0, each_loops ls qs h.1)
    each_loop ls (Label k) h = tt
    each_loop ls (Jump k) h = tt

    each_loops : (ls : List Loop) (qs : Parts) → EachLoopIn Asked ls qs → EachLoopIn Known ls qs
    each_loops ls no_parts h = tt
    each_loops ls (part q qs) h = (each_loop ls q h.0, each_loops ls qs h.1)

    each_under : (ls : List Loop) (bs : Branches) → EachLoopUnder Asked ls bs → EachLoopUnder Known ls bs
    each_under ls no_branches h = tt
    each_under ls (branch test qs bs) h = (each_loops ls qs h.0, each_under ls bs h.1)

module _ (es fs : List Declaration) (around : List (List ℕ)) (deepest : ℕ) (m : Nest) (loop : Loop) (body : Parts) (h : IsPrepared es around deepest m) (turns : m.body ≡ Turns loop body) (may : MayBeExpanded es m)
    (d : AreDeclaredFor es fs m) (room : 252 ≤ deepest) where
  same : (x : List ℕ) (c : Declaration) → IsOther m x → declared es x ≡ Some c → declared fs x ≡ Some c
  same x c o e = d.kept x c o.1 e

  symbol_scalar : (x : List ℕ) → In x m.symbols → IsSomeAnd (declared fs x) IsCounter
  symbol_scalar x i = there es fs (IsOther m) same d.free x IsCounter (symbol_apart es around deepest m h may x i) (all_in (IsPreparedSymbol es) m.symbols h.parts.symbols x i).scalar

  symbol_is : (x : List ℕ) → In x m.symbols → IsPreparedSymbol fs x
  symbol_is x i = record { name = (all_in (IsPreparedSymbol es) m.symbols h.parts.symbols x i).name; scalar = symbol_scalar x i }

  loop_is : (ls : List Loop) (l : Loop) → IsPreparedLoop es m.symbols ls l → IsPreparedLoop fs m.symbols ls l
  loop_is ls l p = record {
    depth = p.depth;
    number = p.number;
    variable = p.variable;
    counter = there es fs (IsOther m) same d.free l.variable IsCounter (counter_apart es around deepest m h may l.variable l.number p.variable) p.counter;
    normal = p.normal;
    trip = p.trip;
  }

  -- ---- what has been made

  extent_kept : (e : Expression) → IsPreparedExtent es m.symbols deepest e → IsPreparedExtent fs m.symbols (deepest + 1) e
  extent_kept e x =
      let deep = x.deep in
      record {
        plain = x.plain;
        names = x.names;
        kind = scalar_kept es fs (IsOther m) same d.free e Integer x.kind (λ y i. symbol_apart es around deepest m h may y (Contains-In y m.symbols (all_in (Contains m.symbols) (names_in e) x.names y i)));
        deep = omega (arith, deep);
        value = x.value;
      }

  old_made : (a : Made) → In a m.made → named_private (private_scalars m) a.name ≡ None → IsPreparedMade fs m.symbols (deepest + 1) a
  old_made a i none =
      let p = all_in (IsPreparedMade es m.symbols deepest) m.made h.parts.made a i in
      record {
        made = p.made;
        counter = p.counter;
        declaration = there es fs (IsOther m) same d.free a.name (λ (c : Declaration). (c.kind ≡ a.kind) × (c.extent ≡ extent_for a.extents)) (none, made_apart es around deepest m h may a i none) p.declaration;
        extents = All-weaker (IsPreparedExtent es m.symbols deepest) (IsPreparedExtent fs m.symbols (deepest + 1)) extent_kept a.extents p.extents;
        few = p.few;
      }

  texts : (p : Private) → In p (private_scalars m) → Each (IsExtentText fs m.symbols (0 + 36 * length p.extents)) (extent_texts m.symbols p.extents)
  texts p i = all_texts fs m.symbols (symbols_there es fs around deepest m h may d) (λ x j. counter_scalar fs x (symbol_scalar x j)) p.extents 0 [] (all_small es around deepest m h may p i) tt

  few_loops : (p : Private) → In p (private_scalars m) → length p.loops ≤ 7
  few_loops p i =
      let few = (found_extents es around deepest m h may p i).few in
      let same = length-map p.loops (λ (l : RoundLoop). l.trip) in
      omega (arith, few, same)

  array_prepared : (p : Private) → In p (private_scalars m) → IsPreparedMade fs m.symbols (deepest + 1) (array_of m.symbols p)
  array_prepared p i =
      let many = as_many_loops es around deepest m h may p i in
      let few = few_loops p i in
      let all = as_many_texts m.symbols [] p.extents in
      let turned = length-reverse (extent_texts m.symbols p.extents) in
      record {
        made = array_not_source es fs around deepest m h may d p i;
        counter = λ k e. array_no_counter es around deepest m h may p i k e;
        declaration = d.arrays p i;
        extents = all_of (IsPreparedExtent fs m.symbols (deepest + 1)) (reverse (extent_texts m.symbols p.extents)) (λ e j. extent_is e (In-reverse e (extent_texts m.symbols p.extents) j));
        few = omega (arith, many, few, all, turned);
      }
    where
      extent_is : (e : Expression) → In e (extent_texts m.symbols p.extents) → IsPreparedExtent fs m.symbols (deepest + 1) e
      extent_is e j =
          let t = each_in (IsExtentText fs m.symbols (0 + 36 * length p.extents)) (extent_texts m.symbols p.extents) (texts p i) e j in
          let deep = t.deep in
          let many = as_many_loops es around deepest m h may p i in
          let few = few_loops p i in
          record {
            plain = t.plain;
            names = all_of (Contains m.symbols) (names_in e) (λ y k. In-Contains y m.symbols (t.names y k));
            kind = t.number;
            deep = omega (arith, deep, many, few, room);
            value = λ v sized. extent_has_value es around deepest m h may p i v sized e j;
          }

  -- ---- the nest

  module _ (n : Nest) (symbols : n.symbols ≡ m.symbols) (line : n.line ≡ m.line) (number : n.number ≡ m.number)
      (made : n.made ≡ made_before m.symbols (private_scalars m) m.made ++ made_now m.symbols (private_scalars m))
      (after : n.after ≡ block_then m.after (block (last_values m.symbols m.line (own_of m))))
      (changed : n.body ≡ expanded_part m.line (expanding (private_scalars m)) (own_of m) m.body)
      (keeps : HasLoopsOf es m n) (free : IsFreeBehind m) where
    names_are : made_names n ≡ map (λ (a : Made). a.name) (made_before m.symbols (private_scalars m) m.made ++ made_now m.symbols (private_scalars m))
    names_are = ap (λ (as' : List Made). map (λ (a : Made). a.name) as') made

    stay : (x : List ℕ) → Contains (made_names m) x → named_private (private_scalars m) x ≡ None → Contains (made_names n) x
    stay x c none = subst (λ xs. Contains xs x) (sym names_are) (stays es around deepest m h may x c none)

    new : (p : Private) → In p (private_scalars m) → Contains (made_names n) p.array
    new p i = subst (λ xs. Contains xs p.array) (sym names_are) (array_made es around deepest m h may p i)

    abbrev IsThere : Standing → Type 0
    IsThere = Is es fs around deepest m h may d n symbols stay new

    statements : All IsThere (nest_statements n)
    statements =
        let f = nest_flow (bits_of Plain) m (limits_of (length m.symbols) (λ k. pos 0) (pos 1)) (ends_of (length m.symbols) (λ k. pos 0)) (counters_of m) (value_among m.symbols 0 (λ k. pos 0)) (trip_at (length m.symbols) (λ k. pos 0))
        (prepared_nest_is_expandable (bits_of Plain) es around deepest m loop body (λ k. pos 0) h turns may) in
        subst (λ (q : Part). All IsThere (statements_in [] q)) (sym changed)
        (part_is m (λ z. In z (counters_of m)) (bits_of Plain) (value_among m.symbols 0 (λ k. pos 0)) (trip_at (length m.symbols) (λ k. pos 0)) IsThere
        (λ s i. expanded_is es fs around deepest m h may d n symbols stay new s i)
        (λ ls inside p i known same. copy_is es fs around deepest m h may d n symbols stay new ls inside p i (ap numbers_round same ∙ round_numbers ls))
        [] m.body [] [] f.0 f.1 h.plain (λ s i. i) (λ o i. absurd i) (λ o i. i) f.2)

    parts : AreMadeParts fs around (deepest + 1) n
    parts = record {
      line = subst IsLine (sym line) h.parts.line;
      number = subst (λ k. k < 2 ^ 32) (sym number) h.parts.number;
      symbols = subst (λ xs. All (IsPreparedSymbol fs) xs) (sym symbols) (all_of (IsPreparedSymbol fs) m.symbols symbol_is);
      ordered = subst IsInByteOrder (sym symbols) h.parts.ordered;
      few = subst (λ (xs : List (List ℕ)). length xs ≤ 1000) (sym symbols) h.parts.few;
      loops = subst (λ xs. EachLoop (IsPreparedLoop fs xs) [] n.body) (sym symbols) (each_loop (IsPreparedLoop es m.symbols) (IsPreparedLoop fs m.symbols) loop_is [] n.body keeps.loops);
      once = subst (λ (ls : List Loop). Distinct (ready.numbers_of ls)) (sym keeps.same) h.parts.once;
      statements = All-weaker IsThere (IsPreparedStatement fs n (deepest + 1)) (λ x i. i.prepared) (nest_statements n) statements;
      made = subst (λ xs. All (IsPreparedMade fs xs (deepest + 1)) n.made) (sym symbols)
          (subst (λ (as' : List Made). All (IsPreparedMade fs m.symbols (deepest + 1)) as') (sym made)
          (Each-All (IsPreparedMade fs m.symbols (deepest + 1)) (made_before m.symbols (private_scalars m) m.made ++ made_now m.symbols (private_scalars m)) (each_made es around deepest m h may (IsPreparedMade fs m.symbols (deepest + 1)) old_made array_prepared)));
      made_once = subst (λ (xs : List (List ℕ)). Distinct xs) (sym names_are) (all_once es around deepest m h may);
      after = subst (IsPreparedAfter fs around (deepest + 1)) (sym after) (behind_prepared es fs around deepest m h may d room free);
      source = h.parts.source;
      outside = All-weaker IsThere (λ (x : Standing). ¬ Contains around x.statement.left.name) (λ x i. i.outside) (nest_statements n) statements;
    }

pub expanded_nest_is_prepared : ExpandedNestIsPrepared
unfolding with_made_arrays with_parts
expanded_nest_is_prepared es fs around deepest m loop body h turns may free d room =
    let keeps = expanded_nest_keeps_loops es around deepest m h in
    record { plain = keeps.plain; parts = parts es fs around deepest m loop body h turns may d room (expanded m) refl refl refl refl refl refl keeps free }
