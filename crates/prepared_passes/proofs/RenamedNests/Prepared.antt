-- A renamed nest is prepared.
use Rattle.std.proofs.Common.{◌≡◌, ◌⊎◌, inl, inr, refl, sym, ap, ◌∙◌, subst, ℕ, zero, suc, ◌+◌, ◌-◌, ◌<◌, ◌≤◌, ◌^◌, Bool, true, false, cond, ◌||◌, All, Contains, List, [], ◌∷◌, ◌++◌, map, length, Option, Some, None, arith}
use Rattle.std.specs.Option.{IsSomeAnd}
use Rattle.std.proofs.lemmas.List.{map-append}
use Rattle.std.proofs.lemmas.List.Elements.{All-append, All-cons, All-nil, All-weaker, Contains-append_left, Contains-append_right}
use Rattle.std.specs.Str.{bytes_eq}
use Rattle.std.proofs.lemmas.Slice.Eq.{bytes_eq-Decides}
use Rattle.components.specs.Lists.{Distinct, Each}
use Rattle.linear_forms.specs.CanonicalLaws.{AreDistinct}
use Rattle.meaning.specs.Names.{is_among}
use Rattle.meaning.specs.Typed.{declared}
use Rattle.nest.specs.Bodies.{Standing, nest_statements}
use Rattle.nest.specs.Plain.{Choice, Guarded, Jump, Label, Loop, Made, Nest, Part, Parts, Run, Turns, no_parts, part, parts}
use Rattle.nest_order.proofs.orders.Lists.{In-append}
use Rattle.nest_order.proofs.orders.Membership.{In-map, map-In}
use Rattle.nest_order.specs.orders.Lists.{In}
use Rattle.nest_steps.specs.Mapped.{count_of, mapped_parts_of, mapped_in}
use Rattle.pass_laws.proofs.NormalFacts.Tables.{each_from, each_in}
use Rattle.pass_laws.proofs.ReadyNests.Lists.{Each-All}
use Rattle.pass_laws.specs.ready_nests.Distinct.{numbers_of}
use Rattle.pass_laws.proofs.PreparedNests.Lists.{In-Contains, ordered_distinct}
use Rattle.pass_laws.specs.prepared_nests.Loops.{EachLoop, EachLoopIn, IsPreparedLoop}
use Rattle.pass_laws.specs.prepared_nests.Made.{IsPreparedExtent, IsPreparedMade, extent_for}
use Rattle.pass_laws.specs.prepared_nests.Nests.{IsPrepared}
use Rattle.pass_laws.specs.prepared_nests.Statements.{IsPreparedStatement, made_names}
use Rattle.scalar_expand.specs.Privates.{is_source}
use Rattle.scalar_rename.specs.Ranges.{is_renamed, range_name, web_if_renamed, web_of, webs_among, webs_of}
use Rattle.scalar_rename.specs.Renamed.{each_renamed, made_from, made_of_web, made_of_webs, renamed, renamed_statement, with_names}
use Rattle.scalar_rename.specs.declared.ranges.Web.{Web}
use Rattle.statement_passes.proofs.Standings.{mapped_nest_has}
use Rattle.statement_passes.specs.MadeNames.{kind_if_scalar}
use Rattle.statement_passes.specs.Passes.{mapped_body, mapped_nest}
use Rattle.statement_passes.specs.Standings.{IsLoop, IsMappedFrom, mapped_standings}
use Rattle.tree.specs.Plain.{Declaration, Expression}
use Rattle.tree.specs.declared.ops.Kind.{Kind}
use Rattle.prepared_passes.proofs.RenamedNests.Facts.{made_long, made_no_counter}
use Rattle.prepared_passes.proofs.RenamedNests.Names.{one_range, one_scalar}
use Rattle.prepared_passes.proofs.RenamedNests.Statements.{Is, statement_is}
use Rattle.prepared_passes.proofs.RenamedNests.Webs.{made_is, source, web_is}
use Rattle.prepared_passes.specs.renaming.Laws.{IsMadeFor, RenamedNestIsPrepared}
use Rattle.prepared_passes.specs.renaming.Renamed.{MayBeRenamed, names_made}
use Rattle.tree.specs.declared.width.Width.TheVariants.{Plain}
use Rattle.tree.specs.declared.width.Width.{Width}

-- ---- loops stay where statements become others

module _ (Asked : List Loop → Loop → Type 0) (each : List Loop → ℕ → Guarded → List Guarded) where
  runs_in : (ls : List Loop) (gs : List Guarded) → EachLoopIn Asked ls (parts (map Run gs))
  runs_in ls [] = tt
  runs_in ls (g ∷ gs) = (tt, runs_in ls gs)

  joined_in : (ls : List Loop) (xs ys : List Part) → EachLoopIn Asked ls (parts xs) → EachLoopIn Asked ls (parts ys) → EachLoopIn Asked ls (parts (xs ++ ys))
  joined_in ls [] ys h k = k
  joined_in ls (x ∷ xs) ys h k = (h.0, joined_in ls xs ys h.1 k)

  mutual
    mapped_has : (ls : List Loop) (k : ℕ) (p : Part) → EachLoop Asked ls p → EachLoopIn Asked ls (parts (mapped_parts_of each ls k p))
    mapped_has ls k (Run g) h = runs_in ls (each ls k g)
    mapped_has ls k (Turns l ps) h = ((h.0, mapped_in_has (ls ++ l ∷ []) k ps h.1), tt)
    mapped_has ls k (Choice bs ps) h = (h, tt)
    mapped_has ls k (Label n) h = (h, tt)
    mapped_has ls k (Jump n) h = (h, tt)

    mapped_in_has : (ls : List Loop) (k : ℕ) (ps : Parts) → EachLoopIn Asked ls ps → EachLoopIn Asked ls (parts (mapped_in each ls k ps))
    mapped_in_has ls k no_parts h = tt
    mapped_in_has ls k (part p ps) h =
        joined_in ls (mapped_parts_of each ls k p) (mapped_in each ls (k + count_of p) ps) (mapped_has ls k p h.0) (mapped_in_has ls (k + count_of p) ps h.1)

  body_has : (p : Part) → IsLoop p → EachLoop Asked [] p → EachLoop Asked [] (mapped_body each p)
  body_has (Turns l ps) loop h = (h.0, mapped_in_has (l ∷ []) 0 ps h.1)
  body_has (Run g) loop h = absurd loop
  body_has (Choice bs ps) loop h = absurd loop
  body_has (Label n) loop h = absurd loop
  body_has (Jump n) loop h = absurd loop

-- ---- names that were made

abbrev names : List Made → List (List ℕ)
names ms = map (λ (a : Made). a.name) ms

names_append : (xs ys : List Made) → names (xs ++ ys) ≡ names xs ++ names ys
names_append xs ys = map-append (λ (a : Made). a.name) xs ys

all_of : {A : Type 0} (P : A → Type 0) (xs : List A) → ((x : A) → In x xs → P x) → All P xs
all_of P xs f = Each-All P xs (each_from P xs f)

each_append : {X : Type 0} (Q : X → Type 0) (xs ys : List X) → Each Q xs → Each Q ys → Each Q (xs ++ ys)
each_append Q [] ys h k = k
each_append Q (x ∷ xs) ys h k = (h.0, each_append Q xs ys h.1 k)

apart_from : (x : List ℕ) (ys : List (List ℕ)) → ¬ In x ys → Each (λ y. ¬ (x ≡ y)) ys
apart_from x [] f = tt
apart_from x (y ∷ ys) f = (λ e. f (inl e), apart_from x ys (λ i. f (inr i)))

both_distinct : (xs ys : List (List ℕ)) → Distinct xs → Distinct ys → ((x : List ℕ) → In x xs → ¬ In x ys) → Distinct (xs ++ ys)
both_distinct [] ys h k f = k
both_distinct (x ∷ xs) ys h k f = (each_append (λ y. ¬ (x ≡ y)) xs ys h.0 (apart_from x ys (f x (inl refl))), both_distinct xs ys h.1 k (λ y i. f y (inr i)))

-- the ranges of one scalar
in_range : (n : ℕ) (x : List ℕ) (k : Kind) (j c : ℕ) (y : List ℕ) → In y (names (made_from n x k j c)) → (i : ℕ) × (j ≤ i) × (i < j + c) × (y ≡ range_name n x i)
in_range n x k j zero y i = absurd i
in_range n x k j (suc c) y (inl e) = (j, omega arith, omega arith, e)
in_range n x k j (suc c) y (inr i) = let r = in_range n x k (suc j) c y i in (r.0, (let l = r.1 in omega (arith, l)), (let l = r.2 in omega (arith, l)), r.3)

ranges_distinct : (n : ℕ) (x : List ℕ) (k : Kind) (j c : ℕ) → (is_source x ≡ true) → j + c < 2 ^ 64 → Distinct (names (made_from n x k j c))
ranges_distinct n x k j zero s few = tt
ranges_distinct n x k j (suc c) s few = (
  apart_from (range_name n x j) (names (made_from n x k (suc j) c)) (λ i. other (in_range n x k (suc j) c (range_name n x j) i)),
  ranges_distinct n x k (suc j) c s (omega (arith, few)),
)
  where
    other : (i : ℕ) × (suc j ≤ i) × (i < suc j + c) × (range_name n x j ≡ range_name n x i) → ⊥
    other r =
        let low = r.1 in
        let high = r.2 in
        let same = one_range n x j r.0 s (omega (arith, few)) (omega (arith, few, high)) r.3 in
        omega (arith, low, same)

module _ (m : Nest) where
  in_names : (ws : List Web) (y : List ℕ) → In y (names (made_of_webs m.number ws)) → (w : Web) × In w ws × (i : ℕ) × (y ≡ range_name m.number w.name i)
  in_names ws y i =
      let o = In-map (λ (a : Made). a.name) y (made_of_webs m.number ws) i in
      let r = made_is m.number ws o.it o.inside in
      (r.web, r.inside, r.range, o.is ∙ ap (λ (a : Made). a.name) r.is)

  pub webs_distinct : (ws : List Web) → ((w : Web) → In w ws → (is_source w.name ≡ true) × (w.ranges < 2 ^ 64))
      → Distinct (map (λ (w : Web). w.name) ws) → Distinct (names (made_of_webs m.number ws))
  webs_distinct [] f d = tt
  webs_distinct (w ∷ ws) f d =
      subst (λ (xs : List (List ℕ)). Distinct xs) (sym (names_append (made_of_web m.number w) (made_of_webs m.number ws)))
      (both_distinct (names (made_of_web m.number w)) (names (made_of_webs m.number ws))
      (ranges_distinct m.number w.name w.kind 1 (w.ranges - 1) (f w (inl refl)).0 few)
      (webs_distinct ws (λ v i. f v (inr i)) d.1)
      (λ y i j. across y (in_range m.number w.name w.kind 1 (w.ranges - 1) y i) (in_names ws y j)))
    where
      least : 1 + (w.ranges - 1) < 2 ^ 64
      least = (let g = (f w (inl refl)).1 in by w.ranges g)
        where
          by : (r : ℕ) → r < 2 ^ 64 → 1 + (r - 1) < 2 ^ 64
          by zero g = (let h : 1 < 18446744073709551616 = omega arith in h)
          by (suc r) g = omega (arith, g)

      few : 1 + (w.ranges - 1) < 2 ^ 64
      few = least

      across : (y : List ℕ) → (i : ℕ) × (1 ≤ i) × (i < 1 + (w.ranges - 1)) × (y ≡ range_name m.number w.name i) → (v : Web) × In v ws × (i : ℕ) × (y ≡ range_name m.number v.name i) → ⊥
      across y r q =
          let same = one_scalar m.number w.name q.0.name r.0 q.2 (f w (inl refl)).0 (f q.0 (inr q.1)).0 (sym r.3 ∙ q.3) in
          each_in (λ x. ¬ (w.name ≡ x)) (map (λ (v : Web). v.name) ws) d.0 q.0.name (map-In (λ (v : Web). v.name) q.0 ws q.1) same

  -- ---- declarations in byte order have names of their own

  abbrev declared_names : List Declaration → List (List ℕ)
  declared_names ds = map (λ (d : Declaration). d.name) ds

  among_true : (ys : List (List ℕ)) (x : List ℕ) → In x ys → is_among ys x ≡ true
  among_true [] x i = absurd i
  among_true (y ∷ ys) x (inl e) = ap (λ b. b || is_among ys x) ((bytes_eq-Decides x y).1 e)
  among_true (y ∷ ys) x (inr i) = by (bytes_eq x y) (among_true ys x i)
    where
      by : (b : Bool) → is_among ys x ≡ true → (b || is_among ys x) ≡ true
      by true f = refl
      by false f = f

  not_among : (ys : List (List ℕ)) (x : List ℕ) → is_among ys x ≡ false → ¬ In x ys
  not_among ys x e i = let bad : true ≡ false = sym (among_true ys x i) ∙ e in cc

  one_named : (x : List ℕ) (o : Option Kind) (w : Web) → In w (web_if_renamed m.number (nest_statements m) x o) → w.name ≡ x
  one_named x None w i = absurd i
  one_named x (Some k) w i = by (is_renamed x (nest_statements m)) i
    where
      by : (b : Bool) → In w (cond b (web_of m.number (nest_statements m) x k ∷ []) []) → w.name ≡ x
      by true (inl e) = ap (λ (v : Web). v.name) e
      by true (inr j) = absurd j
      by false j = absurd j

  pub named_in : (ds : List Declaration) (w : Web) → In w (webs_among m.number (nest_statements m) ds) → In w.name (declared_names ds)
  named_in [] w i = absurd i
  named_in (d ∷ ds) w i = by (λ j. named_in ds w j) (In-append w (web_if_renamed m.number (nest_statements m) d.name (kind_if_scalar d)) (webs_among m.number (nest_statements m) ds) i)
    where
      by : (In w (webs_among m.number (nest_statements m) ds) → In w.name (declared_names ds)) → In w (web_if_renamed m.number (nest_statements m) d.name (kind_if_scalar d)) ⊎ In w (webs_among m.number (nest_statements m) ds) → In w.name (declared_names (d ∷ ds))
      by more (inl j) = inl (one_named d.name (kind_if_scalar d) w j)
      by more (inr j) = inr (more j)

  pub webs_once : (ds : List Declaration) → AreDistinct (declared_names ds) → Distinct (map (λ (w : Web). w.name) (webs_among m.number (nest_statements m) ds))
  webs_once [] d = tt
  webs_once (e ∷ ds) d = by (webs_once ds d.1) (kind_if_scalar e)
    where
      one : Distinct (map (λ (w : Web). w.name) (webs_among m.number (nest_statements m) ds)) → (b : Bool) (k : Kind) → Distinct (map (λ (w : Web). w.name) (cond b (web_of m.number (nest_statements m) e.name k ∷ []) [] ++ webs_among m.number (nest_statements m) ds))
      one more false k = more
      one more true k = (
        apart_from e.name (map (λ (w : Web). w.name) (webs_among m.number (nest_statements m) ds)) (λ i.
            (let o = In-map (λ (w : Web). w.name) e.name (webs_among m.number (nest_statements m) ds) i in
            not_among (declared_names ds) e.name d.0 (subst (λ y. In y (declared_names ds)) (sym o.is) (named_in ds o.it o.inside)))),
        more,
      )

      by : Distinct (map (λ (w : Web). w.name) (webs_among m.number (nest_statements m) ds)) → (o : Option Kind) → Distinct (map (λ (w : Web). w.name) (web_if_renamed m.number (nest_statements m) e.name o ++ webs_among m.number (nest_statements m) ds))
      by more None = more
      by more (Some k) = one more (is_renamed e.name (nest_statements m)) k

-- ---- the nest

module _ (width : Width) (es : List Declaration) (around : List (List ℕ)) (deepest : ℕ) (m : Nest) (h : IsPrepared es around deepest m) (may : MayBeRenamed es m) where
  all_distinct : Distinct (names (names_made m))
  all_distinct =
      webs_distinct m (webs_of m) (λ w i. (source m w (web_is m w i), may.few w i)) (webs_once m m.declarations (ordered_distinct (map (λ (d : Declaration). d.name) m.declarations) may.ordered))

  entry_prepared : (a : Made) → In a (names_made m) → IsPreparedMade es m.symbols deepest a
  entry_prepared a i =
      let r = made_is m.number (webs_of m) a i in
      record {
        made = made_long width es around deepest m h may a.name (a, i, refl);
        counter = made_no_counter width es around deepest m h may a.name (a, i, refl);
        declaration = subst (λ xs. IsSomeAnd (declared es a.name) (λ (d : Declaration). (d.kind ≡ a.kind) × (d.extent ≡ extent_for xs))) (sym (ap (λ (b : Made). b.extents) r.is)) (may.declared a i);
        extents = subst (λ xs. All (IsPreparedExtent es m.symbols deepest) xs) (sym (ap (λ (b : Made). b.extents) r.is)) (All-nil (IsPreparedExtent es m.symbols deepest));
        few = subst (λ (xs : List Expression). length xs ≤ 7) (sym (ap (λ (b : Made). b.extents) r.is)) (omega arith);
      }

  module _ (w : Web) (ws : List Web) (are : webs_of m ≡ w ∷ ws) where
    abbrev vs : List Web
    vs = w ∷ ws

    abbrev n : Nest
    n = with_names m (w ∷ ws)

    made_is_more : n.made ≡ m.made ++ names_made m
    made_is_more = ap (λ us. m.made ++ made_of_webs m.number us) (sym are)

    names_are : made_names n ≡ made_names m ++ names (names_made m)
    names_are = ap names made_is_more ∙ names_append m.made (names_made m)

    old : (x : List ℕ) → Contains (made_names m) x → Contains (made_names n) x
    old x c = subst (λ xs. Contains xs x) (sym names_are) (Contains-append_left (made_names m) (names (names_made m)) x c)

    new : (x : List ℕ) → IsMadeFor m x → Contains (made_names n) x
    new x made =
        subst (λ xs. Contains xs x) (sym names_are)
        (Contains-append_right (made_names m) (names (names_made m)) x
        (In-Contains x (names (names_made m)) (subst (λ y. In y (names (names_made m))) made.2 (map-In (λ (a : Made). a.name) made.0 (names_made m) made.1))))

    abbrev IsThere : Standing → Type 0
    IsThere = Is width es around deepest m h may n refl old new

    each_there : (xs : List Standing) → ((x : Standing) → In x xs → In x (nest_statements m)) → (k : ℕ) → All IsThere (mapped_standings (each_renamed (w ∷ ws)) k xs)
    each_there [] f k = All-nil IsThere
    each_there (x ∷ xs) f k =
        All-cons IsThere (record { loops = x.loops; statement = renamed_statement (w ∷ ws) k x.statement }) (mapped_standings (each_renamed (w ∷ ws)) (k + 1) xs)
        (subst (λ us. IsThere (record { loops = x.loops; statement = renamed_statement us k x.statement })) are (statement_is width es around deepest m h may n refl old new x (f x (inl refl)) k))
        (each_there xs (λ y i. f y (inr i)) (k + 1))

    has : IsMappedFrom (each_renamed (w ∷ ws)) m (mapped_nest (each_renamed (w ∷ ws)) m)
    has = mapped_nest_has (each_renamed (w ∷ ws)) m may.loop h.plain

    statements : All IsThere (nest_statements n)
    statements = subst (λ (xs : List Standing). All IsThere xs) (sym has.statements) (each_there (nest_statements m) (λ x i. i) 0)

    pub some_prepared : IsPrepared es around deepest (with_names m (w ∷ ws))
    some_prepared = record {
      plain = has.plain;
      parts = record {
        line = h.parts.line;
        number = h.parts.number;
        symbols = h.parts.symbols;
        ordered = h.parts.ordered;
        few = h.parts.few;
        loops = body_has (IsPreparedLoop es m.symbols) (each_renamed (w ∷ ws)) m.body may.loop h.parts.loops;
        once = subst (λ (ls : List Loop). Distinct (numbers_of ls)) (sym has.loops) h.parts.once;
        statements = All-weaker IsThere (IsPreparedStatement es n deepest) (λ x i. i.prepared) (nest_statements n) statements;
        made = subst (λ (as' : List Made). All (IsPreparedMade es m.symbols deepest) as') (sym made_is_more)
            (All-append (IsPreparedMade es m.symbols deepest) m.made (names_made m) h.parts.made (all_of (IsPreparedMade es m.symbols deepest) (names_made m) entry_prepared));
        made_once = subst (λ (xs : List (List ℕ)). Distinct xs) (sym names_are) (both_distinct (made_names m) (names (names_made m)) h.parts.made_once all_distinct apart);
        after = h.parts.after;
        source = h.parts.source;
        outside = All-weaker IsThere (λ (x : Standing). ¬ Contains around x.statement.left.name) (λ x i. i.outside) (nest_statements n) statements;
      };
    }
      where
        apart : (x : List ℕ) → In x (made_names m) → ¬ In x (names (names_made m))
        apart x i j =
            let o = In-map (λ (a : Made). a.name) x (names_made m) j in
            may.unmade o.it o.inside (subst (λ y. Contains (made_names m) y) o.is (In-Contains x (made_names m) i))

  pub prepared : (ws : List Web) → webs_of m ≡ ws → IsPrepared es around deepest (with_names m ws)
  prepared [] e = h
  prepared (w ∷ ws) e = some_prepared w ws e

pub renamed_nest_is_prepared : RenamedNestIsPrepared
unfolding renamed
renamed_nest_is_prepared es around deepest m h may = prepared Plain es around deepest m h may (webs_of m) refl
