-- A prepared nest with all its symbols is prepared.
use Rattle.std.proofs.Common.{◌≡◌, ◌⊎◌, inl, inr, refl, sym, ap, ◌∙◌, subst, ℕ, ◌+◌, ◌≤◌, false, ◌&&◌, not, List, [], ◌∷◌, ◌++◌, map, length, Option, Some, Contains, arith}
use Rattle.std.specs.List.{AllByRecursion}
use Rattle.std.specs.Option.{IsSomeAnd}
use Rattle.std.specs.Prelude.{All}
use Rattle.std.proofs.lemmas.List.{length-map}
use Rattle.std.proofs.lemmas.List.Elements.{All-weaker}
use Rattle.components.specs.Lists.{Distinct, Each}
use Rattle.tree.specs.Names.{IsSourceName}
use Rattle.tree.specs.Plain.{Declaration, Expression}
use Rattle.meaning.specs.Depths.{depth_of}
use Rattle.meaning.specs.Names.{is_among}
use Rattle.meaning.specs.Typed.{declared}
use Rattle.meaning_laws.proofs.profiles.Names.{once as declared_once}
use Rattle.nest.specs.Bodies.{Standing, nest_loops, nest_statements}
use Rattle.nest.specs.Plain.{Guarded, Loop, Made, Nest, Part, Run, Turns, Choice, Label, Jump, Parts, no_parts, part, parts}
use Rattle.nest_order.specs.orders.Lists.{In}
use Rattle.nest_order.specs.shapes.Shapes.{numbers_of}
use Rattle.nest_reasons.specs.Symbols.{is_integer, is_integer_scalar, is_scalar_extent}
use Rattle.nest_steps.specs.Mapped.{count_of, mapped_parts_of, mapped_in}
use Rattle.pass_laws.proofs.NormalFacts.FoundSymbols.{chosen, chosen_once, integer_is, scalar_is}
use Rattle.pass_laws.proofs.NormalFacts.Tables.{all_in, each_from}
use Rattle.pass_laws.proofs.ReadyNests.Lists.{Each-All}
use Rattle.pass_laws.specs.normal_facts.Laws.{IsCounter}
use Rattle.pass_laws.specs.prepared_nests.After.{IsPreparedAfter}
use Rattle.pass_laws.specs.prepared_nests.Loops.{EachLoop, EachLoopIn, IsPreparedLoop}
use Rattle.pass_laws.specs.prepared_nests.Made.{IsPreparedExtent, IsPreparedMade}
use Rattle.pass_laws.specs.prepared_nests.Nests.{IsPrepared, IsPreparedSymbol}
use Rattle.pass_laws.specs.prepared_nests.Statements.{IsPreparedStatement, expressions_of, made_names}
use Rattle.pass_laws.proofs.PreparedNests.Lists.{Contains-In, In-Contains, distinct_too}
use Rattle.pass_laws.proofs.PreparedNests.Walks.{AreRound, rounds}
use Rattle.statement_passes.specs.Passes.{mapped_body}
use Rattle.statement_passes.specs.Shifted.{with_nest_symbols}
use Rattle.statement_passes.specs.Standings.{IsLoop, mapped_standings}
use Rattle.statement_passes.proofs.Standings.{mapped_nest_has}
use Rattle.symbols_anew.specs.Found.{is_new, known_names, names_assigned, new_symbols}
use Rattle.symbols_anew.specs.Nests.{each_canonised, with_new, with_symbols_found, with_texts}
use Rattle.prepared_passes.specs.symbols.Laws.{PreparedNestIsPreparedAnew}
use Rattle.prepared_passes.specs.symbols.Sources.{IsOfSource, names_declared}
use Rattle.prepared_passes.proofs.SymbolsAnew.Comes.{AreFresh, IsButText, IsStatementBut, symbols_are, symbols_have_come}
use Rattle.prepared_passes.proofs.SymbolsAnew.Names.{both_true, in_neither, no_more, not_in, not_true}
use Rattle.prepared_passes.proofs.SymbolsAnew.Settled.{settled_is, settled_standing}

-- ---- loops stay where statements become others

module _ (Asked : List Loop → Loop → Type 0) (each : List Loop → ℕ → Guarded → List Guarded) where
  runs_in : (ls : List Loop) (gs : List Guarded) → EachLoopIn Asked ls (parts (map Run gs))
  runs_in ls [] = tt
  runs_in ls (g ∷ gs) = (tt, runs_in ls gs)

  joined_in : (ls : List Loop) (xs ys : List Part) → EachLoopIn Asked ls (parts xs) → EachLoopIn Asked ls (parts ys) → EachLoopIn Asked ls (parts (xs ++ ys))
  joined_in ls [] ys h k = k
  joined_in ls (x ∷ xs) ys h k = (h.0, joined_in ls xs ys h.1 k)

  mutual
    mapped_has : (ls : List Loop) (k : ℕ) (p : Part) → EachLoop Asked ls p → EachLoopIn Asked ls (parts (mapped_parts_of each ls k p))
    mapped_has ls k (Run g) h = runs_in ls (each ls k g)
    mapped_has ls k (Turns l ps) h = ((h.0, mapped_in_has (ls ++ l ∷ []) k ps h.1), tt)
    mapped_has ls k (Choice bs ps) h = (h, tt)
    mapped_has ls k (Label n) h = (h, tt)
    mapped_has ls k (Jump n) h = (h, tt)

    mapped_in_has : (ls : List Loop) (k : ℕ) (ps : Parts) → EachLoopIn Asked ls ps → EachLoopIn Asked ls (parts (mapped_in each ls k ps))
    mapped_in_has ls k no_parts h = tt
    mapped_in_has ls k (part p ps) h =
        joined_in ls (mapped_parts_of each ls k p) (mapped_in each ls (k + count_of p) ps) (mapped_has ls k p h.0) (mapped_in_has ls (k + count_of p) ps h.1)

  pub body_has : (p : Part) → IsLoop p → EachLoop Asked [] p → EachLoop Asked [] (mapped_body each p)
  body_has (Turns l ps) loop h = (h.0, mapped_in_has (l ∷ []) 0 ps h.1)
  body_has (Run g) loop h = absurd loop
  body_has (Choice bs ps) loop h = absurd loop
  body_has (Label n) loop h = absurd loop
  body_has (Jump n) loop h = absurd loop

pub settled_standings : (symbols : List (List ℕ)) (k : ℕ) (xs : List Standing) → mapped_standings (each_canonised symbols) k xs ≡ map (settled_standing symbols) xs
settled_standings symbols k [] = refl
settled_standings symbols k (x ∷ xs) = ap (λ ys. settled_standing symbols x ∷ ys) (settled_standings symbols (k + 1) xs)

all_mapped : {A B : Type 0} (Q : B → Type 0) (f : A → B) (xs : List A) → ((x : A) → In x xs → Q (f x)) → All Q (map f xs)
all_mapped {A} {B} Q f xs g = Each-All Q (map f xs) (by xs g)
  where
    by : (ys : List A) → ((x : A) → In x ys → Q (f x)) → Each Q (map f ys)
    by [] g = tt
    by (y ∷ ys) g = (g y (inl refl), by ys (λ x i. g x (inr i)))

-- ---- depths

deeper_after : (es : List Declaration) (around : List (List ℕ)) (d : ℕ) (m : Nest) → IsPreparedAfter es around d m.after → IsPreparedAfter es around (d + 18) m.after
deeper_after es around d m h =
    let deep = h.deep in
    record { endings = h.endings; names = h.names; profile = h.profile; deep = omega (arith, deep) }

deeper_made : (es : List Declaration) (symbols : List (List ℕ)) (d : ℕ) (a : Made) → IsPreparedMade es symbols d a → IsPreparedMade es symbols (d + 18) a
deeper_made es symbols d a h = record {
  made = h.made;
  counter = h.counter;
  declaration = h.declaration;
  extents = All-weaker (IsPreparedExtent es symbols d) (IsPreparedExtent es symbols (d + 18)) extent a.extents h.extents;
  few = h.few;
}
  where
    extent : (e : Expression) → IsPreparedExtent es symbols d e → IsPreparedExtent es symbols (d + 18) e
    extent e k =
        let deep = k.deep in
        record { plain = k.plain; names = k.names; kind = k.kind; deep = omega (arith, deep); value = k.value }

-- ---- with its text

module _ (es : List Declaration) (around : List (List ℕ)) (deepest : ℕ) (m : Nest) (h : IsButText es around (λ z. ¬ Contains m.symbols z) deepest m)
    (few : length m.symbols ≤ 1000) where
  round : (x : Standing) → In x (nest_statements m) → AreRound (IsPreparedLoop es m.symbols) x.loops
  round x i = rounds (IsPreparedLoop es m.symbols) m.body h.loops (distinct_too (numbers_of (nest_loops m)) h.once) x i

  statements_settled : All (IsPreparedStatement es (with_texts m) (deepest + 18)) (map (settled_standing m.symbols) (nest_statements m))
  statements_settled =
      all_mapped (IsPreparedStatement es (with_texts m) (deepest + 18)) (settled_standing m.symbols) (nest_statements m)
      (λ x i. settled_is es m h.symbols h.ordered (with_texts m) deepest x refl refl (round x i)
      (all_in (IsStatementBut es (made_names m) (λ z. ¬ Contains m.symbols z) deepest) (nest_statements m) h.statements x i))

  abbrev Outside : Standing → Type 0
  Outside x = ¬ Contains around x.statement.left.name

  pub texts_prepared : IsPrepared es around (deepest + 18) (with_texts m)
  texts_prepared =
      let has = mapped_nest_has (each_canonised m.symbols) m h.loop h.plain in
      let are : nest_statements (with_texts m) ≡ map (settled_standing m.symbols) (nest_statements m)
      = has.statements ∙ settled_standings m.symbols 0 (nest_statements m) in
      record {
        plain = has.plain;
        parts = record {
          line = h.line;
          number = h.number;
          symbols = h.symbols;
          ordered = h.ordered;
          few = few;
          loops = body_has (IsPreparedLoop es m.symbols) (each_canonised m.symbols) m.body h.loop h.loops;
          once = subst (λ (ls : List Loop). Distinct (numbers_of ls)) (sym has.loops) h.once;
          statements = subst (All (IsPreparedStatement es (with_texts m) (deepest + 18))) (sym are) statements_settled;
          made = All-weaker (IsPreparedMade es m.symbols deepest) (IsPreparedMade es m.symbols (deepest + 18)) (deeper_made es m.symbols deepest) m.made h.made;
          made_once = h.made_once;
          after = deeper_after es around deepest m h.after;
          source = h.source;
          outside = subst (All Outside) (sym are)
              (all_mapped Outside (settled_standing m.symbols) (nest_statements m) (λ x i. all_in Outside (nest_statements m) h.outside x i));
        };
      }

-- ---- the new symbols

every : {A : Type 0} (P : A → Type 0) (xs : List A) → AllByRecursion P xs → (x : A) → In x xs → P x
every P [] h x i = absurd i
every P (y ∷ ys) h x (inl e) = subst P (sym e) h.0
every P (y ∷ ys) h x (inr i) = every P ys h.1 x i

named_in : (ds : List Declaration) (d : Declaration) → Contains ds d → In d.name (map (λ (e : Declaration). e.name) ds)
named_in ds d c = by ds (Contains-In d ds c)
  where
    by : (es : List Declaration) → In d es → In d.name (map (λ (e : Declaration). e.name) es)
    by [] i = absurd i
    by (e ∷ es) (inl q) = inl (ap (λ (x : Declaration). x.name) q)
    by (e ∷ es) (inr i) = inr (by es i)

-- what is known of one
record IsNewSymbol (es : List Declaration) (n : Nest) (y : List ℕ) : Type 0 where
  prepared : IsPreparedSymbol es y
  declared_in : In y (names_declared n)
  apart : ¬ In y n.symbols
  unassigned : ¬ In y (names_assigned n)

module _ (es : List Declaration) (before n : Nest) (source : IsOfSource es n) where
  is_new_symbol : (y : List ℕ) → In y (new_symbols before n) → IsNewSymbol es n y
  is_new_symbol y i =
      let c = chosen (is_new (names_assigned before) (known_names n)) n.declarations y i in
      let p =
      both_true (is_integer_scalar c.declaration)
      (is_among (names_assigned before) c.declaration.name && not (is_among (known_names n) c.declaration.name)) c.passes in
      let r = both_true (is_among (names_assigned before) c.declaration.name) (not (is_among (known_names n) c.declaration.name)) p.1 in
      let q = both_true (is_integer c.declaration.kind) (is_scalar_extent c.declaration.extent) p.0 in
      let unknown : is_among (known_names n) y ≡ false
      = ap (is_among (known_names n)) c.name ∙ not_true (is_among (known_names n) c.declaration.name) r.1 in
      let second = in_neither n.symbols (names_assigned n) y unknown in
      let within : In y (names_declared n) = subst (λ z. In z (names_declared n)) (sym c.name) (named_in n.declarations c.declaration c.among) in
      let found : declared es y ≡ Some c.declaration
      = source.among y c.declaration (ap (declared n.declarations) c.name ∙ declared_once n.declarations c.declaration source.ordered c.among) in
      record {
        prepared = record {
          name = every IsSourceName (names_declared n) source.names y within;
          scalar = subst (λ (o : Option Declaration). IsSomeAnd o IsCounter) (sym found)
              (record { kind = integer_is c.declaration.kind q.0; scalar = scalar_is c.declaration.extent q.1 });
        };
        declared_in = within;
        apart = not_in n.symbols y second.0;
        unassigned = not_in (names_assigned n) y second.1;
      }

  fresh : (around : List (List ℕ)) (Free : List ℕ → Type 0) (deepest : ℕ) → AreFresh es around Free deepest n.symbols (new_symbols before n)
  fresh around Free deepest = record {
    apart = λ y i. (is_new_symbol y i).apart;
    once = chosen_once (is_new (names_assigned before) (known_names n)) n.declarations source.ordered;
    prepared = λ y i. (is_new_symbol y i).prepared;
  }

  module _ (around : List (List ℕ)) (deepest : ℕ) (h : IsPrepared es around deepest n) where
    -- no symbol, and none that comes in
    abbrev IsNone : List ℕ → Type 0
    IsNone z = (¬ In z n.symbols) × (¬ In z (new_symbols before n))

    assigned_in : (xs : List Standing) (x : Standing) → In x xs → In x.statement.left.name (map (λ (s : Standing). s.statement.left.name) xs)
    assigned_in [] x i = absurd i
    assigned_in (y ∷ ys) x (inl e) = inl (ap (λ (s : Standing). s.statement.left.name) e)
    assigned_in (y ∷ ys) x (inr i) = inr (assigned_in ys x i)

    statement_is : (x : Standing) → In x (nest_statements n) → IsStatementBut es (made_names n) IsNone deepest x
    statement_is x i =
        let s = all_in (IsPreparedStatement es n deepest) (nest_statements n) h.parts.statements x i in
        record {
          line = s.line;
          plain = s.plain;
          names = s.names;
          target = s.target;
          free = (
            λ j. s.free (In-Contains x.statement.left.name n.symbols j),
            λ j. (is_new_symbol x.statement.left.name j).unassigned (assigned_in (nest_statements n) x i),
          );
          kind = s.kind;
          left = s.left;
          right = s.right;
          guard = s.guard;
          deep = s.deep;
        }

    but_text : IsButText es around IsNone deepest n
    but_text = record {
      plain = h.plain;
      loop = source.loop;
      line = h.parts.line;
      number = h.parts.number;
      symbols = h.parts.symbols;
      ordered = h.parts.ordered;
      loops = h.parts.loops;
      once = h.parts.once;
      statements = Each-All (IsStatementBut es (made_names n) IsNone deepest) (nest_statements n)
          (each_from (IsStatementBut es (made_names n) IsNone deepest) (nest_statements n) statement_is);
      made = h.parts.made;
      made_once = h.parts.made_once;
      after = h.parts.after;
      source = h.parts.source;
      outside = h.parts.outside;
    }

    -- with all symbols
    module _ (m : Nest) (is : m ≡ with_nest_symbols n (new_symbols before n)) (all : IsButText es around IsNone deepest m) where
      are : (y : List ℕ) → In y m.symbols → In y n.symbols ⊎ In y (new_symbols before n)
      are y i = symbols_are n (new_symbols before n) y (subst (λ (k : Nest). In y k.symbols) is i)

      free_of : (z : List ℕ) → IsNone z → ¬ Contains m.symbols z
      free_of z f c = by (are z (Contains-In z m.symbols c))
        where
          by : In z n.symbols ⊎ In z (new_symbols before n) → ⊥
          by (inl i) = f.0 i
          by (inr i) = f.1 i

      within : (y : List ℕ) → In y n.symbols ⊎ In y (new_symbols before n) → In y (names_declared n)
      within y (inl i) = Contains-In y (names_declared n) (every (Contains (names_declared n)) n.symbols source.symbols y i)
      within y (inr i) = (is_new_symbol y i).declared_in

      few : length m.symbols ≤ 1000
      few =
          let least = no_more m.symbols (names_declared n) all.ordered (λ y i. within y (are y i)) in
          let same = length-map n.declarations (λ (d : Declaration). d.name) in
          let most = source.few in
          omega (arith, least, same, most)

      freed : (made : List (List ℕ)) (x : Standing) → IsStatementBut es made IsNone deepest x → IsStatementBut es made (λ z. ¬ Contains m.symbols z) deepest x
      freed made x s = record {
        line = s.line;
        plain = s.plain;
        names = s.names;
        target = s.target;
        free = free_of x.statement.left.name s.free;
        kind = s.kind;
        left = s.left;
        right = s.right;
        guard = s.guard;
        deep = s.deep;
      }

      pub all_prepared : IsPrepared es around (deepest + 18) (with_texts m)
      all_prepared =
          texts_prepared es around deepest m
          (record {
            plain = all.plain;
            loop = all.loop;
            line = all.line;
            number = all.number;
            symbols = all.symbols;
            ordered = all.ordered;
            loops = all.loops;
            once = all.once;
            statements = All-weaker (IsStatementBut es (made_names m) IsNone deepest) (IsStatementBut es (made_names m) (λ z. ¬ Contains m.symbols z) deepest)
                (freed (made_names m)) (nest_statements m) all.statements;
            made = all.made;
            made_once = all.made_once;
            after = all.after;
            source = all.source;
            outside = all.outside;
          }) few

    -- without a new symbol it is as it was
    stays : IsPrepared es around (deepest + 18) n
    stays = record {
      plain = h.plain;
      parts = record {
        line = h.parts.line;
        number = h.parts.number;
        symbols = h.parts.symbols;
        ordered = h.parts.ordered;
        few = h.parts.few;
        loops = h.parts.loops;
        once = h.parts.once;
        statements = All-weaker (IsPreparedStatement es n deepest) (IsPreparedStatement es n (deepest + 18)) deeper (nest_statements n) h.parts.statements;
        made = All-weaker (IsPreparedMade es n.symbols deepest) (IsPreparedMade es n.symbols (deepest + 18)) (deeper_made es n.symbols deepest) n.made h.parts.made;
        made_once = h.parts.made_once;
        after = deeper_after es around deepest n h.parts.after;
        source = h.parts.source;
        outside = h.parts.outside;
      };
    }
      where
        deeper : (x : Standing) → IsPreparedStatement es n deepest x → IsPreparedStatement es n (deepest + 18) x
        deeper x s = record {
          line = s.line;
          plain = s.plain;
          names = s.names;
          target = s.target;
          free = s.free;
          kind = s.kind;
          left = s.left;
          right = s.right;
          guard = s.guard;
          deep = All-weaker (λ (e : Expression). depth_of e ≤ deepest) (λ (e : Expression). depth_of e ≤ deepest + 18) (λ e d. omega (arith, d))
              (expressions_of x.statement) s.deep;
          canonical = s.canonical;
        }

    pub new_prepared : (xs : List (List ℕ)) → new_symbols before n ≡ xs → IsPrepared es around (deepest + 18) (with_new n xs)
    new_prepared [] e = stays
    new_prepared (x ∷ xs) e =
        all_prepared (with_nest_symbols n (x ∷ xs)) (ap (with_nest_symbols n) (sym e))
        (subst (λ ys. IsButText es around IsNone deepest (with_nest_symbols n ys)) e
        (symbols_have_come es around IsNone deepest n (new_symbols before n) but_text (fresh around IsNone deepest)))

pub prepared_nest_is_prepared_anew : PreparedNestIsPreparedAnew
unfolding with_symbols_found
prepared_nest_is_prepared_anew es around deepest before n h source = new_prepared es before n source around deepest h (new_symbols before n) refl
