-- In a prepared nest all inductions grow in the outermost loop's own body.
use Rattle.std.proofs.Common.{◌≡◌, ◌⊎◌, inl, inr, refl, sym, ap, ◌∙◌, subst, ℕ, ◌+◌, ◌<◌, ◌≤◌, Bool, true, false, not, ◌&&◌, ◌||◌, List, [], ◌∷◌, ◌++◌, length, Option, Some, None, Contains, arith}
use Rattle.std.specs.Prelude.{is_some, slice_get}
use Rattle.std.specs.List.{AllByRecursion}
use Rattle.std.specs.Option.{IsSomeAnd}
use Rattle.std.specs.Str.{bytes_eq}
use Rattle.std.proofs.lemmas.Bool.{cases_lt}
use Rattle.std.proofs.lemmas.List.{map-append}
use Rattle.std.proofs.lemmas.Slice.Eq.{bytes_eq-Decides}
use Rattle.tree.specs.Names.{IsSourceName}
use Rattle.tree.specs.Plain.{Declaration}
use Rattle.tree.specs.declared.ops.Kind.TheVariants.{Integer}
use Rattle.meaning.specs.Names.{is_among}
use Rattle.meaning.specs.Reads.{names_in}
use Rattle.meaning.specs.Typed.{declared, rank_of_extent}
use Rattle.meaning.specs.Typed90.{IsIntegerScalar}
use Rattle.meaning_laws.proofs.profiles.Names.{once as declared_once}
use Rattle.rewrite.proofs.Replacing.{bytes_eq-false, either_false}
use Rattle.linear_forms.specs.CanonicalLaws.{AreDistinct}
use Rattle.rewrite.specs.Suits.{SuitsStatement}
use Rattle.nest.specs.Blocks.{guarded_statement}
use Rattle.nest.specs.Bodies.{Standing, loops_in_parts, loops_of, nest_loops, nest_statements, statements_in, statements_in_parts}
use Rattle.nest.specs.Plain.{Choice, Guarded, Jump, Label, Loop, Made, Nest, Part, Parts, Run, Turns, no_parts, part}
use Rattle.nest.specs.declared.parts.Trip.{Trip}
use Rattle.nest_order.proofs.orders.Lists.{Each-In, In-append, In-left, In-right}
use Rattle.nest_order.proofs.orders.Membership.{In-map, map-In}
use Rattle.nest_order.proofs.orders.Once.{Pairwise-left, Pairwise-right}
use Rattle.nest_order.specs.orders.Lists.{Distinct, In}
use Rattle.nest_order.specs.shapes.Shapes.{ArePlain, IsPlain, numbers_of}
use Rattle.nest_steps.specs.Mapped.{count_in, count_of}
use Rattle.last_values.specs.normal_forms.NormalLoops.{counter_name}
use Rattle.pass_laws.proofs.NormalFacts.CounterNames.{distinct_names}
use Rattle.pass_laws.proofs.NormalFacts.MadeStatements.{counter_long}
use Rattle.pass_laws.proofs.NormalFacts.Tables.{all_in, each_asked}
use Rattle.pass_laws.specs.normal_facts.Laws.{IsCounter}
use Rattle.pass_laws.specs.prepared_nests.Loops.{EachLoop, EachLoopIn, IsPreparedLoop, IsPreparedTrip, variables_of_loops}
use Rattle.pass_laws.specs.prepared_nests.Made.{IsPreparedMade}
use Rattle.pass_laws.specs.prepared_nests.Nests.{IsPrepared, IsPreparedSymbol}
use Rattle.pass_laws.specs.prepared_nests.Statements.{IsPreparedStatement, made_names}
use Rattle.pass_laws.proofs.PreparedNests.Lists.{Contains-In, In-Contains, distinct_too, some_of, within_32}
use Rattle.pass_laws.proofs.PreparedNests.Trips.{names_of_trip}
use Rattle.pass_laws.proofs.PreparedNests.Walks.{walked}
use Rattle.prepared_passes.specs.symbols.Sources.{IsOfSource, names_declared}
use Rattle.prepared_passes.proofs.SymbolsAnew.Names.{absent}
use Rattle.inductions.specs.Found.{inductions_by}
use Rattle.inductions.specs.Growing.{is_outermost}
use Rattle.inductions.specs.Putting.{grows_at, putting}
use Rattle.inductions.specs.Together.{AllGrowIn, AreInductions, Counts, Fits, FitIn, Grows, Is, LetsGrow, forms_suit, is_free, is_own}
use Rattle.inductions.specs.declared.found.Induction.{Induction}
use Rattle.inductions.proofs.FoundLaws.{IsFoundIn}
use Rattle.inductions.proofs.Listed.{IsListed, got_in, grown_here, is_in, listed, other_written, own_one, same_name, scalar_declared, within, written}
use Rattle.inductions.proofs.Placing.{StandFrom, counted, counted_in, inner_is_not, loops_begin_in, one_of, stand_all, stand_front, stand_rest}
use Rattle.inductions.proofs.Suited.{statement_suits}
use Rattle.tree.specs.Widths.{bits_of}
use Rattle.tree.specs.declared.width.Width.TheVariants.{Plain}

true_false : {A : Type 0} → true ≡ false → A
true_false e = cc

every : {A : Type 0} (P : A → Type 0) (xs : List A) → AllByRecursion P xs → (x : A) → In x xs → P x
every P [] h x i = absurd i
every P (y ∷ ys) h x (inl e) = subst P (sym e) h.0
every P (y ∷ ys) h x (inr i) = every P ys h.1 x i

from_each : {A : Type 0} (P : A → Type 0) (xs : List A) → ((x : A) → In x xs → P x) → AllByRecursion P xs
from_each P [] f = tt
from_each P (x ∷ xs) f = (f x (inl refl), from_each P xs (λ y i. f y (inr i)))

pub member : (ys : List (List ℕ)) (x : List ℕ) → In x ys → is_among ys x ≡ true
member [] x i = absurd i
member (y ∷ ys) x (inl e) = ap (λ b. b || is_among ys x) ((bytes_eq-Decides x y).1 e)
member (y ∷ ys) x (inr i) = by (bytes_eq x y) (member ys x i)
  where
    by : (b : Bool) → is_among ys x ≡ true → (b || is_among ys x) ≡ true
    by true h = refl
    by false h = h

-- two loops of different numbers have different variables
apart_counters : (j k : ℕ) → j ≤ 4294967295 → k ≤ 4294967295 → ¬ (j ≡ k) → bytes_eq (counter_name j) (counter_name k) ≡ false
apart_counters j k small less apart =
    let d : AreDistinct (counter_name j ∷ counter_name k ∷ [])
    = distinct_names (j ∷ k ∷ []) [] ((apart, tt), (tt, tt)) (λ i c. below i c) (λ y c. absurd c) tt in
    (either_false (bytes_eq (counter_name j) (counter_name k)) false d.0).0
  where
    below : (i : ℕ) → In i (j ∷ k ∷ []) → i ≤ 4294967295
    below i (inl e) = subst (λ z. z ≤ 4294967295) (sym e) small
    below i (inr (inl e)) = subst (λ z. z ≤ 4294967295) (sym e) less
    below i (inr (inr c)) = absurd c

-- a nest, and its outermost loop
module _ (es : List Declaration) (around : List (List ℕ)) (deepest : ℕ) (n : Nest) (l : Loop) (ps : Parts) (t : Trip) (h : IsPrepared es around deepest n) (source : IsOfSource es n)
    (body : n.body ≡ Turns l ps) where
  abbrev pub ss : List Standing
  ss = nest_statements n

  abbrev pub ds : List Induction
  ds = inductions_by n (Some (l.variable, t))

  abbrev pub counters : List ℕ → Bool
  counters x = is_among (variables_of_loops (nest_loops n)) x

  -- ---- inductions

  pub is_listed : (d : Induction) → In d (inductions_by n (Some (l.variable, t))) → IsListed n.symbols t (nest_statements n) n.declarations d
  is_listed d i = listed n.symbols t ss n.declarations d i

  pub found_so : (d : Induction) → Is (inductions_by n (Some (l.variable, t))) d → IsFoundIn n.symbols t (nest_statements n) d
  found_so d is = (is_listed d (is_in ds d is)).found

  pub source_name : (d : Induction) → In d (inductions_by n (Some (l.variable, t))) → IsSourceName d.name
  source_name d i =
      let r = is_listed d i in
      subst IsSourceName (sym r.name)
      (every IsSourceName (names_declared n) source.names r.declaration.name (map-In (λ (e : Declaration). e.name) r.declaration n.declarations r.among))

  pub declared_so : (d : Induction) → In d (inductions_by n (Some (l.variable, t))) → IsSomeAnd (declared es d.name) IsCounter
  declared_so d i =
      let r = is_listed d i in
      let is = scalar_declared r.declaration r.kind in
      let there : declared es r.declaration.name ≡ Some r.declaration
      = source.among r.declaration.name r.declaration (declared_once n.declarations r.declaration source.ordered (In-Contains r.declaration n.declarations r.among)) in
      subst (λ (o : Option Declaration). IsSomeAnd o IsCounter) (sym (ap (declared es) r.name ∙ there)) (record { kind = is.kind; scalar = is.extent })

  integer_of : (o : Option Declaration) → IsSomeAnd o IsCounter → IsSomeAnd o (λ (e : Declaration). (e.kind ≡ Integer) × (rank_of_extent e.extent ≡ 0))
  integer_of None g = absurd g
  integer_of (Some e) g = (g.kind, ap rank_of_extent g.scalar)

  pub integer_so : (d : Induction) → In d (inductions_by n (Some (l.variable, t))) → IsIntegerScalar es d.name
  integer_so d i = integer_of (declared es d.name) (declared_so d i)

  own_integer : (x : List ℕ) → is_own (inductions_by n (Some (l.variable, t))) x ≡ true → IsIntegerScalar es x
  own_integer x e = let o = own_one ds x e in subst (IsIntegerScalar es) o.name (integer_so o.induction (is_in ds o.induction o.is))

  own_source : (x : List ℕ) → is_own (inductions_by n (Some (l.variable, t))) x ≡ true → IsSourceName x
  own_source x e = let o = own_one ds x e in subst IsSourceName o.name (source_name o.induction (is_in ds o.induction o.is))

  -- ---- statements

  pub statement_so : (x : Standing) → In x (nest_statements n) → IsPreparedStatement es n deepest x
  statement_so x i = all_in (IsPreparedStatement es n deepest) (nest_statements n) h.parts.statements x i

  -- a symbol is none
  pub symbol_not_own : (y : List ℕ) → In y n.symbols → is_own (inductions_by n (Some (l.variable, t))) y ≡ false
  symbol_not_own y i = by (is_own ds y) refl
    where
      by : (b : Bool) → is_own ds y ≡ b → is_own ds y ≡ false
      by true e =
          let o = own_one ds y e in
          let w = written (bits_of Plain) n.symbols t ss o.induction (found_so o.induction o.is) in
          absurd ((statement_so w.standing (got_in ss o.induction.place w.standing w.there)).free
          (subst (Contains n.symbols) (sym (w.name ∙ o.name)) (In-Contains y n.symbols i)))
      by false e = e

  -- ---- loops

  abbrev Asked : List Loop → Loop → Type 0
  Asked = IsPreparedLoop es n.symbols

  abbrev All_loops : Part → Type 0
  All_loops p = EachLoop (IsPreparedLoop es n.symbols) [] p

  loop_so : (o : Loop) → In o (nest_loops n) → (o.variable ≡ counter_name o.number) × (o.number ≤ 4294967295)
  loop_so o i =
      let r = each_asked (IsPreparedLoop es n.symbols) (nest_loops n) [] n.body h.plain (walked (IsPreparedLoop es n.symbols) [] n.body h.parts.loops) o i in
      (r.asked.variable, within_32 o.number r.asked.number)

  short_no_counter : (x : List ℕ) → length x ≤ 6 → is_among (variables_of_loops (nest_loops n)) x ≡ false
  short_no_counter x short = absent (variables_of_loops (nest_loops n)) x
      (λ i. (let o = In-map (λ (q : Loop). q.variable) x (nest_loops n) i in counter_long x o.it.number short (o.is ∙ (loop_so o.it o.inside).0)))

  pub own_no_counter : (x : List ℕ) → is_own (inductions_by n (Some (l.variable, t))) x ≡ true → is_among (variables_of_loops (nest_loops n)) x ≡ false
  own_no_counter x e = short_no_counter x (own_source x e).within

  -- nor is a counter a symbol
  pub counter_no_symbol : (y : List ℕ) → is_among (variables_of_loops (nest_loops n)) y ≡ true → is_among n.symbols y ≡ false
  counter_no_symbol y e = absent n.symbols y
      (λ i. true_false (sym e ∙ short_no_counter y (all_in (IsPreparedSymbol es) n.symbols h.parts.symbols y i).name.within))

  pub counter_so : (o : Loop) → In o (nest_loops n) → is_among (variables_of_loops (nest_loops n)) o.variable ≡ true
  counter_so o i = member (variables_of_loops (nest_loops n)) o.variable (map-In (λ (q : Loop). q.variable) o (nest_loops n) i)

  pub counter_not_own : (o : Loop) → In o (nest_loops n) → is_own (inductions_by n (Some (l.variable, t))) o.variable ≡ false
  counter_not_own o i = by (is_own ds o.variable) refl
    where
      by : (b : Bool) → is_own ds o.variable ≡ b → is_own ds o.variable ≡ false
      by true e = true_false (sym (counter_so o i) ∙ own_no_counter o.variable e)
      by false e = e

  -- a statement writes no counter
  left_no_counter : (x : Standing) → In x (nest_statements n) → is_among (variables_of_loops (nest_loops n)) x.statement.left.name ≡ false
  left_no_counter x i = by (statement_so x i).target
    where
      by : IsSourceName x.statement.left.name ⊎ Contains (made_names n) x.statement.left.name → is_among (variables_of_loops (nest_loops n)) x.statement.left.name ≡ false
      by (inl s) = short_no_counter x.statement.left.name s.within
      by (inr c) =
          let m = In-map (λ (a : Made). a.name) x.statement.left.name n.made (Contains-In x.statement.left.name (made_names n) c) in
          let made = all_in (IsPreparedMade es n.symbols deepest) n.made h.parts.made m.it m.inside in
          absent (variables_of_loops (nest_loops n)) x.statement.left.name
          (λ j. (let o = In-map (λ (q : Loop). q.variable) x.statement.left.name (nest_loops n) j in
          made.counter o.it.number (sym m.is ∙ (o.is ∙ (loop_so o.it o.inside).0))))

  -- what isn't an induction is written as other names are
  pub left_free : (x : Standing) → In x (nest_statements n) → is_own (inductions_by n (Some (l.variable, t))) x.statement.left.name ≡ false
      → is_free (λ y. is_among (variables_of_loops (nest_loops n)) y || is_among n.symbols y) (inductions_by n (Some (l.variable, t))) x.statement.left.name ≡ true
  left_free x i own =
      let counter : is_among (variables_of_loops (nest_loops n)) x.statement.left.name ≡ false = left_no_counter x i in
      let symbol : is_among n.symbols x.statement.left.name ≡ false
      = absent n.symbols x.statement.left.name (λ j. (statement_so x i).free (In-Contains x.statement.left.name n.symbols j)) in
      ap (λ b. not b && not (is_among (variables_of_loops (nest_loops n)) x.statement.left.name || is_among n.symbols x.statement.left.name)) own
      ∙ (ap (λ b. not (b || is_among n.symbols x.statement.left.name)) counter ∙ ap not symbol)

  -- ---- one loop

  record Stands (ls : List Loop) (p : List Loop) : Type 0 where
    -- the loops round it, and those within it, are the nest's, and have numbers of their own
    round : (o : Loop) → In o ls → In o (nest_loops n)
    inside : (o : Loop) → In o p → In o (nest_loops n)
    apart : (x : Loop) → In x p → (o : Loop) → In o ls → ¬ (x.number ≡ o.number)
    once : Distinct (numbers_of p)

  counts : (ls : List Loop) (m : Loop) (qs : List Loop) → Stands ls (m ∷ qs) → IsPreparedLoop es n.symbols ls m
      → Counts (λ x. is_among (variables_of_loops (nest_loops n)) x) (inductions_by n (Some (l.variable, t))) ls m
  counts ls m qs s a = record {
    first = a.normal.first;
    step = a.normal.step;
    counts = counter_so m (s.inside m (inl refl));
    own = from_each (λ (o : Loop). bytes_eq m.variable o.variable ≡ false) ls (λ o i. own o i);
    last = from_each (λ x. is_own ds x ≡ false) (names_in m.last) (λ x i. last (some_of (IsPreparedTrip (variables_of_loops ls) n.symbols m.last) m.trip a.trip).value
        (some_of (IsPreparedTrip (variables_of_loops ls) n.symbols m.last) m.trip a.trip).has x i);
  }
    where
      own : (o : Loop) → In o ls → bytes_eq m.variable o.variable ≡ false
      own o i =
          let one = loop_so m (s.inside m (inl refl)) in
          let other = loop_so o (s.round o i) in
          ap (λ x. bytes_eq x o.variable) one.0 ∙ (ap (bytes_eq (counter_name m.number)) other.0
          ∙ apart_counters m.number o.number one.1 other.1 (s.apart m (inl refl) o i))

      variable_not : (y : List ℕ) → In y (variables_of_loops ls) → is_own ds y ≡ false
      variable_not y i =
          let o = In-map (λ (q : Loop). q.variable) y ls i in
          ap (is_own ds) o.is ∙ counter_not_own o.it (s.round o.it o.inside)

      last : (u : Trip) → IsPreparedTrip (variables_of_loops ls) n.symbols m.last u → (x : List ℕ) → In x (names_in m.last) → is_own ds x ≡ false
      last u p x i =
          names_of_trip (λ y. is_own ds y ≡ false) (variables_of_loops ls) n.symbols u variable_not symbol_not_own x (subst (λ e. In x (names_in e)) p.text i)

  inner : (ls : List Loop) (m : Loop) (qs : List Loop) → Stands ls (m ∷ qs) → Stands (ls ++ m ∷ []) qs
  inner ls m qs s = record {
    round = λ o i. round o (In-append o ls (m ∷ []) i);
    inside = λ o i. s.inside o (inr i);
    apart = λ x i o j. apart x i o (In-append o ls (m ∷ []) j);
    once = s.once.1;
  }
    where
      round : (o : Loop) → In o ls ⊎ In o (m ∷ []) → In o (nest_loops n)
      round o (inl i) = s.round o i
      round o (inr (inl e)) = s.inside o (inl e)
      round o (inr (inr i)) = absurd i

      apart : (x : Loop) → In x qs → (o : Loop) → In o ls ⊎ In o (m ∷ []) → ¬ (x.number ≡ o.number)
      apart x i o (inl j) = s.apart x (inr i) o j
      apart x i o (inr (inl e)) = λ q. Each-In (λ y. ¬ (m.number ≡ y)) (numbers_of qs) s.once.0 x.number (map-In (λ (z : Loop). z.number) x qs i)
          (sym (q ∙ ap (λ (z : Loop). z.number) e))
      apart x i o (inr (inr j)) = absurd j

  numbers_joined : (xs ys : List Loop) → numbers_of (xs ++ ys) ≡ numbers_of xs ++ numbers_of ys
  numbers_joined xs ys = map-append (λ (z : Loop). z.number) xs ys

  front : (ls ms qs : List Loop) → Stands ls (ms ++ qs) → Stands ls ms
  front ls ms qs s = record {
    round = s.round;
    inside = λ o i. s.inside o (In-left o ms qs i);
    apart = λ x i o j. s.apart x (In-left x ms qs i) o j;
    once = Pairwise-left (λ x y. ¬ (x ≡ y)) (numbers_of ms) (numbers_of qs) (subst Distinct (numbers_joined ms qs) s.once);
  }

  rest : (ls ms qs : List Loop) → Stands ls (ms ++ qs) → Stands ls qs
  rest ls ms qs s = record {
    round = s.round;
    inside = λ o i. s.inside o (In-right o ms qs i);
    apart = λ x i o j. s.apart x (In-right x ms qs i) o j;
    once = Pairwise-right (λ x y. ¬ (x ≡ y)) (numbers_of ms) (numbers_of qs) (subst Distinct (numbers_joined ms qs) s.once);
  }

  -- ---- the walk

  module _ (bits : ℕ) where
    abbrev C : List ℕ → Bool
    C x = is_among (variables_of_loops (nest_loops n)) x

    -- counters and symbols
    abbrev S : List ℕ → Bool
    S x = is_among (variables_of_loops (nest_loops n)) x || is_among n.symbols x

    abbrev D : List Induction
    D = inductions_by n (Some (l.variable, t))

    statement_fits : (ls : List Loop) (k : ℕ) (g : Guarded) → slice_get (nest_statements n) k ≡ Some (record { loops = ls; statement = g })
        → LetsGrow bits (inductions_by n (Some (l.variable, t))) k g
        ⊎ ((grows_at (inductions_by n (Some (l.variable, t))) k ≡ false)
        × SuitsStatement (putting l.variable (inductions_by n (Some (l.variable, t))) k) (forms_suit (λ x. is_among (variables_of_loops (nest_loops n)) x || is_among n.symbols x) (inductions_by n (Some (l.variable, t))))
        (guarded_statement g))
    statement_fits ls k g there = by (grows_at D k) refl
      where
        x : Standing
        x = record { loops = ls; statement = g }

        among : In (record { loops = ls; statement = g }) (nest_statements n)
        among = got_in ss k (record { loops = ls; statement = g }) there

        prepared : IsPreparedStatement es n deepest (record { loops = ls; statement = g })
        prepared = statement_so (record { loops = ls; statement = g }) among

        lets : (d : Induction) × Is D d × (k ≡ d.place) → LetsGrow bits D k g
        lets r =
            let w = written bits n.symbols t ss r.0 (found_so r.0 r.1) in
            let both : ◌≡◌ {A = Option Standing} (Some w.standing) (Some (record { loops = ls; statement = g })) = sym w.there ∙ (ap (slice_get ss) (sym r.2) ∙ there) in
            let same : ◌≡◌ {A = Standing} w.standing (record { loops = ls; statement = g }) = cc in
            record {
              induction = r.0;
              is = r.1;
              place = r.2;
              grows = subst (λ (y : Standing). Grows bits r.0 y.statement) same w.growth.grows;
              only = λ e is place. only e is place (ap (λ (y : Standing). y.statement.left.name) (sym same) ∙ w.name);
            }
          where
            only : (e : Induction) → Is D e → e.place ≡ k → g.left.name ≡ r.0.name → e ≡ r.0
            only e is place name =
                let v = written bits n.symbols t ss e (found_so e is) in
                let both : ◌≡◌ {A = Option Standing} (Some v.standing) (Some (record { loops = ls; statement = g })) = sym v.there ∙ (ap (slice_get ss) place ∙ there) in
                let same : ◌≡◌ {A = Standing} v.standing (record { loops = ls; statement = g }) = cc in
                same_name D e r.0 is r.1 (sym v.name ∙ (ap (λ (y : Standing). y.statement.left.name) same ∙ name))

        free : grows_at D k ≡ false → is_free S D g.left.name ≡ true
        free e = left_free (record { loops = ls; statement = g }) among (other_written ss n.symbols t D found_so k (record { loops = ls; statement = g }) there e)

        by : (b : Bool) → grows_at D k ≡ b → LetsGrow bits D k g ⊎ ((grows_at D k ≡ false)
            × SuitsStatement (putting l.variable D k) (forms_suit S D) (guarded_statement g))
        by true e = inl (lets (grown_here ss n.symbols t D (λ d i. (is_listed d i).found) k e))
        by false e = inr (e, statement_suits es l.variable S D k own_integer g prepared.kind (free e) prepared.left prepared.right prepared.guard)

    -- none grows in an inner loop
    none_inside : (o : Loop) (ls : List Loop) (m : Loop) (qs : Parts) (k : ℕ) → ArePlain qs → StandFrom (nest_statements n) k (statements_in_parts ((o ∷ ls) ++ m ∷ []) qs)
        → (d : Induction) → Is (inductions_by n (Some (l.variable, t))) d → (d.place < k) ⊎ (k + count_in qs ≤ d.place)
    none_inside o ls m qs k plain stand d is = by (cases_lt d.place k)
      where
        size : length (statements_in_parts ((o ∷ ls) ++ m ∷ []) qs) ≡ count_in qs
        size = counted_in ((o ∷ ls) ++ m ∷ []) qs plain

        within_it : k ≤ d.place → d.place < k + count_in qs → ⊥
        within_it from below =
            let s = size in
            let r = one_of ss k (statements_in_parts ((o ∷ ls) ++ m ∷ []) qs) stand d.place from (omega (arith, below, s)) in
            let w = written bits n.symbols t ss d (found_so d is) in
            let both : ◌≡◌ {A = Option Standing} (Some r.standing) (Some w.standing) = sym r.there ∙ w.there in
            let same : r.standing ≡ w.standing = cc in
            let inner_loop = inner_is_not o m ls r.standing.loops (loops_begin_in ((o ∷ ls) ++ m ∷ []) qs plain r.standing r.among) in
            true_false (sym w.growth.outermost ∙ (ap (λ (y : Standing). is_outermost y.loops) (sym same) ∙ inner_loop))

        later : k ≤ d.place → (d.place < k + count_in qs) ⊎ (k + count_in qs ≤ d.place) → (d.place < k) ⊎ (k + count_in qs ≤ d.place)
        later from (inl below) = absurd (within_it from below)
        later from (inr past) = inr past

        by : (d.place < k) ⊎ (k ≤ d.place) → (d.place < k) ⊎ (k + count_in qs ≤ d.place)
        by (inl below) = inl below
        by (inr from) = later from (cases_lt d.place (k + count_in qs))

    mutual
      part_fits : (o : Loop) (ls : List Loop) (k : ℕ) (p : Part) → IsPlain p → EachLoop (IsPreparedLoop es n.symbols) (o ∷ ls) p → Stands (o ∷ ls) (loops_of p)
          → StandFrom (nest_statements n) k (statements_in (o ∷ ls) p)
          → Fits bits l.variable (λ x. is_among (variables_of_loops (nest_loops n)) x) (λ x. is_among n.symbols x) (inductions_by n (Some (l.variable, t))) (o ∷ ls) k p
      part_fits o ls k (Run g) plain each s stand = statement_fits (o ∷ ls) k g stand.0
      part_fits o ls k (Turns m qs) plain each s stand = (
        counts (o ∷ ls) m (loops_in_parts qs) s each.0,
        none_inside o ls m qs k plain.1 stand,
        parts_fit o (ls ++ m ∷ []) k qs plain.1 each.1 (inner (o ∷ ls) m (loops_in_parts qs) s) stand,
      )
      part_fits o ls k (Choice bs qs) plain each s stand = absurd plain
      part_fits o ls k (Label j) plain each s stand = absurd plain
      part_fits o ls k (Jump j) plain each s stand = absurd plain

      parts_fit : (o : Loop) (ls : List Loop) (k : ℕ) (qs : Parts) → ArePlain qs → EachLoopIn (IsPreparedLoop es n.symbols) (o ∷ ls) qs → Stands (o ∷ ls) (loops_in_parts qs)
          → StandFrom (nest_statements n) k (statements_in_parts (o ∷ ls) qs)
          → FitIn bits l.variable (λ x. is_among (variables_of_loops (nest_loops n)) x) (λ x. is_among n.symbols x) (inductions_by n (Some (l.variable, t))) (o ∷ ls) k qs
      parts_fit o ls k no_parts plain each s stand = tt
      parts_fit o ls k (part p qs) plain each s stand = (
        part_fits o ls k p plain.0 each.0 (front (o ∷ ls) (loops_of p) (loops_in_parts qs) s)
            (stand_front ss k (statements_in (o ∷ ls) p) (statements_in_parts (o ∷ ls) qs) stand),
        parts_fit o ls (k + count_of p) qs plain.1 each.1 (rest (o ∷ ls) (loops_of p) (loops_in_parts qs) s)
            (subst (λ j. StandFrom (nest_statements n) (k + j) (statements_in_parts (o ∷ ls) qs)) (counted (o ∷ ls) p plain.0)
            (stand_rest ss k (statements_in (o ∷ ls) p) (statements_in_parts (o ∷ ls) qs) stand)),
      )

    -- ---- the nest

    plain_turns : IsPlain (Turns l ps)
    plain_turns = subst IsPlain body h.plain

    each_turns : EachLoop (IsPreparedLoop es n.symbols) [] (Turns l ps)
    each_turns = subst (EachLoop (IsPreparedLoop es n.symbols) []) body h.parts.loops

    loops_are : nest_loops n ≡ l ∷ loops_in_parts ps
    loops_are = ap loops_of body

    statements_are : nest_statements n ≡ statements_in_parts (l ∷ []) ps
    statements_are = ap (statements_in []) body

    all_stand : Stands [] (l ∷ loops_in_parts ps)
    all_stand = record {
      round = λ o i. absurd i;
      inside = λ o i. subst (In o) (sym loops_are) i;
      apart = λ x i o j. absurd j;
      once = subst (λ ls. Distinct (numbers_of ls)) loops_are (distinct_too (numbers_of (nest_loops n)) h.parts.once);
    }

    pub size_is : length (nest_statements n) ≡ count_in ps
    size_is = ap (λ xs. length xs) statements_are ∙ counted_in (l ∷ []) ps plain_turns.1

    place_below : (d : Induction) → Is (inductions_by n (Some (l.variable, t))) d → d.place < count_in ps
    place_below d is =
        let f = found_so d is in
        let b = within ss d.place f.standing f.stands in
        let s = size_is in
        omega (arith, b, s)

    pub inductions_are : AreInductions l.variable (λ x. is_among (variables_of_loops (nest_loops n)) x) (inductions_by n (Some (l.variable, t)))
    inductions_are d is =
        let f = found_so d is in
        let w = written bits n.symbols t ss d f in
        let own : is_own D d.name ≡ true = ap is_some is in
        let free = own_no_counter d.name own in
        record {
          less = f.less;
          before = w.growth.before;
          behind = w.growth.behind;
          apart = bytes_eq-false l.variable d.name (λ e. true_false (sym (counter_so l (subst (In l) (sym loops_are) (inl refl))) ∙ (ap C e ∙ free)));
          free = free;
        }

    pub counter_integer : IsIntegerScalar es l.variable
    counter_integer = integer_of (declared es l.variable) each_turns.0.counter

    -- nor is one a symbol
    pub are_settled : AreInductions l.variable (λ y. is_among (variables_of_loops (nest_loops n)) y || is_among n.symbols y) (inductions_by n (Some (l.variable, t)))
    are_settled d is =
        let i = inductions_are d is in
        let own : is_own D d.name ≡ true = ap is_some is in
        let symbol : is_among n.symbols d.name ≡ false = absent n.symbols d.name (λ j. true_false (sym own ∙ symbol_not_own d.name j)) in
        record { less = i.less; before = i.before; behind = i.behind; apart = i.apart; free = ap (λ b. b || is_among n.symbols d.name) i.free ∙ symbol }

    -- where there is one
    pub all_grow : (d : Induction) → Is (inductions_by n (Some (l.variable, t))) d
        → AllGrowIn bits l.variable (λ x. is_among (variables_of_loops (nest_loops n)) x) (λ x. is_among n.symbols x) (inductions_by n (Some (l.variable, t))) l ps
    all_grow d is = record {
      counts = counts [] l (loops_in_parts ps) all_stand each_turns.0;
      variable = refl;
      places = place_below;
      some = let b = place_below d is in omega (arith, b);
      fit = parts_fit l [] 0 ps plain_turns.1 each_turns.1 (inner [] l (loops_in_parts ps) all_stand)
          (subst (λ xs. StandFrom (nest_statements n) 0 xs) statements_are (stand_all (nest_statements n)));
    }

    pub last_free : AllByRecursion (λ x. is_among (variables_of_loops (nest_loops n)) x ≡ false) (names_in l.last)
    last_free = from_each (λ x. C x ≡ false) (names_in l.last) (λ x i. by (some_of (IsPreparedTrip [] n.symbols l.last) l.trip each_turns.0.trip).value
        (some_of (IsPreparedTrip [] n.symbols l.last) l.trip each_turns.0.trip).has x i)
      where
        by : (u : Trip) → IsPreparedTrip [] n.symbols l.last u → (x : List ℕ) → In x (names_in l.last) → C x ≡ false
        by u p x i = names_of_trip (λ y. C y ≡ false) [] n.symbols u (λ y j. absurd j)
            (λ y j. short_no_counter y (all_in (IsPreparedSymbol es) n.symbols h.parts.symbols y j).name.within) x (subst (λ e. In x (names_in e)) p.text i)
