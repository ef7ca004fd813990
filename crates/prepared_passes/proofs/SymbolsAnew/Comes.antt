-- A symbol comes in: the nest has what prepared nests have, but for its text.
use Rattle.std.proofs.Common.{◌≡◌, ◌⊎◌, inl, inr, refl, sym, ap, ◌∙◌, subst, ℕ, zero, suc, ◌+◌, ◌≤◌, ◌<◌, ◌^◌, ℤ, false, List, [], ◌∷◌, ◌++◌, insert, map, length, Option, Some, None, IfSome, Contains, arith}
use Rattle.std.specs.Option.{IsSomeAnd, option_map}
use Rattle.std.specs.Prelude.{All}
use Rattle.std.proofs.lemmas.Bool.Decides.{nat_tests}
use Rattle.std.proofs.lemmas.List.{length-map, map-append}
use Rattle.std.proofs.lemmas.List.Elements.{All-map, All-weaker}
use mathlib.Core.Path.{ap₂}
use Rattle.tree.specs.Names.{IsSourceName}
use Rattle.tree.specs.Plain.{Declaration, Expression}
use Rattle.tree.specs.declared.ops.Kind.{Kind}
use Rattle.tree.specs.declared.ops.Kind.TheVariants.{Logical}
use Rattle.tree.specs.declared.ops.Value.TheVariants.{Int}
use Rattle.meaning.specs.Depths.{depth_of}
use Rattle.meaning.specs.Labels.{IsLine}
use Rattle.meaning.specs.Names.{IsInByteOrder, is_among}
use Rattle.meaning.specs.Reads.{names_in}
use Rattle.meaning.specs.Store.{Store}
use Rattle.meaning.specs.Typed90.{IsScalar}
use Rattle.meaning.specs.Value.{named}
use Rattle.components.specs.Lists.{Distinct}
use Rattle.linear_forms.specs.Linear.{HaveValues}
use Rattle.linear_forms.specs.CanonicalLaws.{AreDistinct}
use Rattle.nest.specs.Bodies.{Standing, nest_loops, nest_statements}
use Rattle.nest.specs.Plain.{Loop, Made, Nest, Part, Run, Turns, Choice, Label, Jump, Parts, no_parts, part, Branches, no_branches, branch}
use Rattle.nest.specs.declared.parts.Trip.{Trip}
use Rattle.nest_order.specs.facts.Facts.{values_from}
use Rattle.nest_order.specs.orders.Lists.{In}
use Rattle.nest_order.specs.runs.Guarded.{names_of}
use Rattle.nest_order.specs.runs.Touched.{IsPlainAssignment}
use Rattle.nest_order.specs.shapes.Shapes.{IsPlain, numbers_of}
use Rattle.pass_laws.proofs.NormalFacts.Tables.{all_in, each_from}
use Rattle.pass_laws.proofs.ReadyNests.Lists.{Each-All}
use Rattle.pass_laws.specs.prepared_nests.After.{IsPreparedAfter}
use Rattle.pass_laws.specs.prepared_nests.Loops.{EachLoop, EachLoopIn, EachLoopUnder, IsPreparedLoop, IsPreparedTrip, variables_of_loops}
use Rattle.pass_laws.specs.prepared_nests.Made.{IsPreparedExtent, IsPreparedMade}
use Rattle.pass_laws.specs.prepared_nests.Nests.{IsPreparedSymbol}
use Rattle.pass_laws.specs.prepared_nests.Statements.{IsOwn, assignment, expressions_of, made_names}
use Rattle.pass_laws.proofs.PreparedNests.Lists.{Contains-In, In-Contains}
use Rattle.statement_passes.specs.Laws.{form_with_zero}
use Rattle.statement_passes.specs.Shifted.{shifted_branches, shifted_loop, shifted_part, shifted_parts, with_nest_symbol, with_nest_symbols}
use Rattle.statement_passes.specs.Standings.{IsLoop, shifted_standing}
use Rattle.statement_passes.specs.Symbols.{place_among, shifted_place, shifted_trip, with_name_placed}
use Rattle.statement_passes.proofs.Forms.{shifted_is_affine, shifted_is_form, shifted_trip_has_text}
use Rattle.statement_passes.proofs.Names.{names_stay_in_order, place_of-within}
use Rattle.statement_passes.proofs.Standings.{symbol_leaves_nest}
use Rattle.prepared_passes.proofs.SymbolsAnew.Names.{absent, in_either, in_more, length_more, not_in}

-- ---- what a statement has, but for its text; its left side has a name as is asked

pub record IsStatementBut (es : List Declaration) (made : List (List ℕ)) (Free : List ℕ → Type 0) (deepest : ℕ) (x : Standing) : Type 0 where
  pub line : IsLine x.statement.line
  pub plain : IsPlainAssignment (assignment x.statement)
  pub names : All (IsOwn x.loops) (names_of (assignment x.statement))
  pub target : IsSourceName x.statement.left.name ⊎ Contains made x.statement.left.name
  pub free : Free x.statement.left.name
  pub kind : Kind
  pub left : IsScalar es (named x.statement.left) kind
  pub right : IsScalar es x.statement.right kind
  pub guard : IfSome x.statement.guard (λ (e : Expression). IsScalar es e Logical)
  pub deep : All (λ (e : Expression). depth_of e ≤ deepest) (expressions_of x.statement)

pub record IsButText (es : List Declaration) (around : List (List ℕ)) (Free : List ℕ → Type 0) (deepest : ℕ) (n : Nest) : Type 0 where
  pub plain : IsPlain n.body
  pub loop : IsLoop n.body
  pub line : IsLine n.line
  pub number : n.number < 2 ^ 32
  pub symbols : All (IsPreparedSymbol es) n.symbols
  pub ordered : IsInByteOrder n.symbols
  pub loops : EachLoop (IsPreparedLoop es n.symbols) [] n.body
  pub once : Distinct (numbers_of (nest_loops n))
  pub statements : All (IsStatementBut es (made_names n) Free deepest) (nest_statements n)
  pub made : All (IsPreparedMade es n.symbols deepest) n.made
  pub made_once : Distinct (made_names n)
  pub after : IsPreparedAfter es around deepest n.after
  pub source : All IsSourceName around
  pub outside : All (λ (x : Standing). ¬ Contains around x.statement.left.name) (nest_statements n)

-- ---- values of symbols, of which one isn't looked at

same_values : (v w : ℕ → ℤ) (j : ℕ) (xs : List (List ℕ)) → ((k : ℕ) → j ≤ k → w k ≡ v (suc k)) → values_from w j xs ≡ values_from v (suc j) xs
same_values v w j [] f = refl
same_values v w j (x ∷ xs) f = ap₂ (λ z zs. z ∷ zs) (f j (omega arith)) (same_values v w (suc j) xs (λ k h. f k (omega (arith, h))))

at_or_behind : (at o : ℕ) → at ≤ o → shifted_place at o ≡ suc o
at_or_behind at o h = grind (arith, nat_tests)

before : (at o : ℕ) → o < at → shifted_place at o ≡ o
before at o h = grind (arith, nat_tests)

without_one : (xs : List (List ℕ)) (at j : ℕ) (x : List ℕ) (v : ℕ → ℤ) (s : Store) → at ≤ length xs
    → HaveValues (insert xs at x) s (values_from v j (insert xs at x)) → HaveValues xs s (values_from (λ k. v (shifted_place (j + at) k)) j xs)
without_one xs zero j x v s h have =
    subst (HaveValues xs s)
    (sym (same_values v (λ k. v (shifted_place (j + 0) k)) j xs (λ k f. ap v (at_or_behind (j + 0) k (omega (arith, f))))))
    (rest xs have)
  where
    rest : (xs : List (List ℕ)) → HaveValues (insert xs zero x) s (values_from v j (insert xs zero x)) → HaveValues xs s (values_from v (suc j) xs)
    rest [] have = tt
    rest (y ∷ ys) have = have.2
without_one [] (suc at) j x v s h have = tt
without_one (y ∷ ys) (suc at) j x v s h have =
    let further : suc j + at ≡ j + suc at = omega arith in (
      have.0,
      have.1 ∙ ap (λ k. Int (v k)) (sym (before (j + suc at) j (omega arith))),
      subst (λ m. HaveValues ys s (values_from (λ k. v (shifted_place m k)) (suc j) ys)) further
          (without_one ys at (suc j) x v s (omega (arith, h)) have.2),
    )

-- ---- a symbol

module _ (es : List Declaration) (symbols : List (List ℕ)) (x : List ℕ) where
  abbrev at : ℕ
  at = place_among symbols x

  abbrev all : List (List ℕ)
  all = with_name_placed symbols x

  abbrev shifted_loops : List Loop → List Loop
  shifted_loops ls = map (shifted_loop at) ls

  within : at ≤ length symbols
  within = place_of-within symbols x

  many : length all ≡ length symbols + 1
  many = length_more symbols at x

  same_variables : (ls : List Loop) → variables_of_loops (shifted_loops ls) ≡ variables_of_loops ls
  same_variables [] = refl
  same_variables (l ∷ ls) = ap (λ xs. l.variable ∷ xs) (same_variables ls)

  same_numbers : (ls : List Loop) → numbers_of (shifted_loops ls) ≡ numbers_of ls
  same_numbers [] = refl
  same_numbers (l ∷ ls) = ap (λ ks. l.number ∷ ks) (same_numbers ls)

  -- ---- loops

  trip_comes : (vs : List (List ℕ)) (last : Expression) (t : Trip) → IsPreparedTrip vs symbols last t → IsPreparedTrip vs all last (shifted_trip at t)
  trip_comes vs last t h =
      let a = shifted_is_affine (length vs) at h.form t.top h.affine in
      let few = a.few in
      let short = h.short in
      let more = many in
      record {
        top = shifted_is_form (length vs) at t.top h.top;
        form = form_with_zero (length vs + at) h.form;
        affine = a.affine;
        limited = a.limited ∙ h.limited;
        short = omega (arith, few, short, more);
        seven = h.seven;
        divisor = h.divisor;
        by = h.by;
        positive = h.positive;
        small = h.small;
        text = h.text ∙ sym (shifted_trip_has_text vs symbols [] x t);
      }

  loop_comes : (ls : List Loop) (l : Loop) → IsPreparedLoop es symbols ls l → IsPreparedLoop es all (shifted_loops ls) (shifted_loop at l)
  loop_comes ls l h =
      let deep = h.depth in
      let same = length-map ls (shifted_loop at) in
      record {
        depth = omega (arith, deep, same);
        number = h.number;
        variable = h.variable;
        counter = h.counter;
        normal = record { first = h.normal.first; step = h.normal.step };
        trip = by l.trip h.trip;
      }
    where
      by : (o : Option Trip) → IsSomeAnd o (IsPreparedTrip (variables_of_loops ls) symbols l.last)
          → IsSomeAnd (option_map (shifted_trip at) o) (IsPreparedTrip (variables_of_loops (shifted_loops ls)) all l.last)
      by None t = absurd t
      by (Some t) k =
          subst (λ vs. IsPreparedTrip vs all l.last (shifted_trip at t)) (sym (same_variables ls))
          (trip_comes (variables_of_loops ls) l.last t k)

  mutual
    loops_come : (ls : List Loop) (p : Part) → EachLoop (IsPreparedLoop es symbols) ls p
        → EachLoop (IsPreparedLoop es all) (shifted_loops ls) (shifted_part at p)
    loops_come ls (Run g) h = tt
    loops_come ls (Turns l ps) h = (
      loop_comes ls l h.0,
      subst (λ ms. EachLoopIn (IsPreparedLoop es all) ms (shifted_parts at ps)) (map-append (shifted_loop at) ls (l ∷ []))
          (loops_come_in (ls ++ l ∷ []) ps h.1),
    )
    loops_come ls (Choice bs ps) h = (loops_come_under ls bs h.0, loops_come_in ls ps h.1)
    loops_come ls (Label k) h = tt
    loops_come ls (Jump k) h = tt

    loops_come_in : (ls : List Loop) (ps : Parts) → EachLoopIn (IsPreparedLoop es symbols) ls ps
        → EachLoopIn (IsPreparedLoop es all) (shifted_loops ls) (shifted_parts at ps)
    loops_come_in ls no_parts h = tt
    loops_come_in ls (part p ps) h = (loops_come ls p h.0, loops_come_in ls ps h.1)

    loops_come_under : (ls : List Loop) (bs : Branches) → EachLoopUnder (IsPreparedLoop es symbols) ls bs
        → EachLoopUnder (IsPreparedLoop es all) (shifted_loops ls) (shifted_branches at bs)
    loops_come_under ls no_branches h = tt
    loops_come_under ls (branch test ps bs) h = (loops_come_in ls ps h.0, loops_come_under ls bs h.1)

  -- ---- statements

  statement_comes : (made : List (List ℕ)) (Free : List ℕ → Type 0) (deepest : ℕ) (y : Standing) → IsStatementBut es made Free deepest y
      → IsStatementBut es made Free deepest (shifted_standing at y)
  statement_comes made Free deepest y h = record {
    line = h.line;
    plain = h.plain;
    names = All-weaker (IsOwn y.loops) (IsOwn (shifted_loops y.loops))
        (λ z own k small e. subst (λ ks. Contains ks k) (sym (same_numbers y.loops)) (own k small e))
        (names_of (assignment y.statement)) h.names;
    target = h.target;
    free = h.free;
    kind = h.kind;
    left = h.left;
    right = h.right;
    guard = h.guard;
    deep = h.deep;
  }

  -- ---- what was made

  values_come : (v : ℕ → ℤ) (s : Store) → HaveValues all s (values_from v 0 all) → HaveValues symbols s (values_from (λ k. v (shifted_place at k)) 0 symbols)
  values_come v s have =
      let none : 0 + at ≡ at = omega arith in
      subst (λ m. HaveValues symbols s (values_from (λ k. v (shifted_place m k)) 0 symbols)) none (without_one symbols at 0 x v s within have)

  extent_comes : (deepest : ℕ) (e : Expression) → IsPreparedExtent es symbols deepest e → IsPreparedExtent es all deepest e
  extent_comes deepest e h = record {
    plain = h.plain;
    names = All-weaker (Contains symbols) (Contains all) (λ z c. In-Contains z all (in_more symbols at x z (Contains-In z symbols c)))
        (names_in e) h.names;
    kind = h.kind;
    deep = h.deep;
    value = λ v sized.
        let r = h.value (λ k. v (shifted_place at k)) (λ k. sized (shifted_place at k)) in
        (r.0, λ lang s have. r.1 lang s (values_come v s have));
  }

  made_comes : (deepest : ℕ) (a : Made) → IsPreparedMade es symbols deepest a → IsPreparedMade es all deepest a
  made_comes deepest a h = record {
    made = h.made;
    counter = h.counter;
    declaration = h.declaration;
    extents = All-weaker (IsPreparedExtent es symbols deepest) (IsPreparedExtent es all deepest) (extent_comes deepest) a.extents h.extents;
    few = h.few;
  }

  -- ---- symbols

  symbols_come : All (IsPreparedSymbol es) symbols → IsPreparedSymbol es x → All (IsPreparedSymbol es) all
  symbols_come h new =
      Each-All (IsPreparedSymbol es) all (each_from (IsPreparedSymbol es) all (λ y i. by y (in_either symbols at x y i)))
    where
      by : (y : List ℕ) → (y ≡ x) ⊎ In y symbols → IsPreparedSymbol es y
      by y (inl e) = subst (IsPreparedSymbol es) (sym e) new
      by y (inr i) = all_in (IsPreparedSymbol es) symbols h y i

-- ---- the nest

pub loop_stays : (j : ℕ) (p : Part) → IsLoop p → IsLoop (shifted_part j p)
loop_stays j (Turns l ps) h = tt
loop_stays j (Run g) h = absurd h
loop_stays j (Choice bs ps) h = absurd h
loop_stays j (Label k) h = absurd h
loop_stays j (Jump k) h = absurd h

module _ (es : List Declaration) (around : List (List ℕ)) (Free : List ℕ → Type 0) (deepest : ℕ) where
  abbrev Asked : Nest → Standing → Type 0
  Asked n = IsStatementBut es (made_names n) Free deepest

  abbrev Outside : Standing → Type 0
  Outside y = ¬ Contains around y.statement.left.name

  symbol_comes : (n : Nest) (x : List ℕ) → IsButText es around Free deepest n → IsPreparedSymbol es x → is_among n.symbols x ≡ false
      → IsButText es around Free deepest (with_nest_symbol n x)
  symbol_comes n x h new apart =
      let from = symbol_leaves_nest n x h.plain in
      let k = place_among n.symbols x in
      record {
        plain = from.plain;
        loop = loop_stays k n.body h.loop;
        line = h.line;
        number = h.number;
        symbols = symbols_come es n.symbols x h.symbols new;
        ordered = names_stay_in_order n.symbols x h.ordered apart;
        loops = loops_come es n.symbols x [] n.body h.loops;
        once = subst (λ (ls : List Loop). Distinct (numbers_of ls)) (sym from.loops)
            (subst Distinct (sym (same_numbers es n.symbols x (nest_loops n))) h.once);
        statements = subst (All (Asked n)) (sym from.statements)
            (All-map (Asked n) (shifted_standing k) (nest_statements n)
            (All-weaker (Asked n) (λ (y : Standing). Asked n (shifted_standing k y)) (statement_comes es n.symbols x (made_names n) Free deepest)
            (nest_statements n) h.statements));
        made = All-weaker (IsPreparedMade es n.symbols deepest) (IsPreparedMade es (with_name_placed n.symbols x) deepest)
            (made_comes es n.symbols x deepest) n.made h.made;
        made_once = h.made_once;
        after = h.after;
        source = h.source;
        outside = subst (All Outside) (sym from.statements) (All-map Outside (shifted_standing k) (nest_statements n) h.outside);
      }

  -- names that aren't symbols, none twice
  pub record AreFresh (symbols xs : List (List ℕ)) : Type 0 where
    pub apart : (y : List ℕ) → In y xs → ¬ In y symbols
    pub once : AreDistinct xs
    pub prepared : (y : List ℕ) → In y xs → IsPreparedSymbol es y

  later_fresh : (symbols : List (List ℕ)) (x : List ℕ) (xs : List (List ℕ)) → AreFresh symbols (x ∷ xs) → AreFresh (with_name_placed symbols x) xs
  later_fresh symbols x xs f = record {
    apart = λ y i j. by y i (in_either symbols (place_among symbols x) x y j);
    once = f.once.1;
    prepared = λ y i. f.prepared y (inr i);
  }
    where
      by : (y : List ℕ) → In y xs → (y ≡ x) ⊎ In y symbols → ⊥
      by y i (inl e) = not_in xs x f.once.0 (subst (λ z. In z xs) e i)
      by y i (inr j) = f.apart y (inr i) j

  pub symbols_have_come : (n : Nest) (xs : List (List ℕ)) → IsButText es around Free deepest n → AreFresh n.symbols xs
      → IsButText es around Free deepest (with_nest_symbols n xs)
  symbols_have_come n [] h f = h
  symbols_have_come n (x ∷ xs) h f =
      symbols_have_come (with_nest_symbol n x) xs
      (symbol_comes n x h (f.prepared x (inl refl)) (absent n.symbols x (f.apart x (inl refl)))) (later_fresh n.symbols x xs f)

-- what the symbols are then
pub symbols_are : (n : Nest) (xs : List (List ℕ)) (y : List ℕ) → In y (with_nest_symbols n xs).symbols → In y n.symbols ⊎ In y xs
symbols_are n [] y i = inl i
symbols_are n (x ∷ xs) y i = by (symbols_are (with_nest_symbol n x) xs y i)
  where
    first : (y ≡ x) ⊎ In y n.symbols → In y n.symbols ⊎ In y (x ∷ xs)
    first (inl e) = inr (inl e)
    first (inr j) = inl j

    by : In y (with_name_placed n.symbols x) ⊎ In y xs → In y n.symbols ⊎ In y (x ∷ xs)
    by (inl j) = first (in_either n.symbols (place_among n.symbols x) x y j)
    by (inr j) = inr (inr j)
