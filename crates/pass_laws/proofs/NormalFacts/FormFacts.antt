-- What array forms ask of what is made of a nest that was found, in its setting.
use Rattle.std.proofs.Common.{◌≡◌, ◌⊎◌, inl, inr, refl, sym, ap, ap₂, ◌∙◌, subst, ℕ, zero, suc, ◌≤◌, ◌<◌, Bool, true}
use Rattle.std.proofs.Common.{false, cond, ◌||◌, List, [], ◌∷◌, ◌++◌, map, length, get_or, Option, Some, None, Contains}
use Rattle.std.proofs.Common.{append-nil, append_assoc, arith}
use Rattle.std.specs.Option.{IsSomeAnd}
use Rattle.std.specs.Str.{bytes_eq}
use Rattle.std.proofs.lemmas.List.{length-map, map-append}
use Rattle.std.proofs.lemmas.Slice.Eq.{bytes_eq-Decides}
use Rattle.array_form.specs.forms.Loops as array
use Rattle.array_form.specs.forms.Trips as form_trips
use Rattle.components.proofs.ListLaws.{Each-append}
use Rattle.components.specs.Lists as lists
use Rattle.emission.proofs.EmissionForms.WrittenTables.{loops_once}
use Rattle.emission.specs.emission_forms.Written.{IsTripText, HaveTripTexts, HasFormFacts}
use Rattle.emission.specs.emission_pieces.Nests.{loops_at}
use Rattle.find_nests.specs.Found.{InNest, found_in}
use Rattle.meaning.specs.Dialect.{fortran77}
use Rattle.tree.specs.declared.width.Width.{Width}
use Rattle.meaning.specs.Names.{is_among}
use Rattle.meaning.specs.Profile77.{IsProgram77}
use Rattle.meaning.specs.Typed.{declared}
use Rattle.tree.specs.Plain.{Expression, Declaration, Program}
use Rattle.tree.specs.declared.ops.Kind.TheVariants.{Integer}
use Rattle.linear_forms.specs.CanonicalLaws.{AreDistinct}
use Rattle.normal_loops.specs.Normalised.{normalised}
use Rattle.nest_order.proofs.orders.Lists as order
use Rattle.nest_order.proofs.orders.Lists.{In-append}
use Rattle.nest_order.proofs.orders.Once.{Pairwise-left, Pairwise-right}
use Rattle.nest_order.specs.orders.Lists.{In, Distinct}
use Rattle.nest_order.specs.orders.Lists as order_lists
use Rattle.nest_order.specs.orders.Shapes.{loops_of_shape}
use Rattle.nest_order.specs.runs.Stores.{Setting}
use Rattle.nest_order.specs.shapes.Shapes.{IsPlain, ArePlain, shape_of, numbers_of, loop_numbered, variable_of_loop}
use Rattle.nest.specs.Bodies.{Standing, loops_of, loops_in_parts, nest_loops, nest_statements, statements_in}
use Rattle.nest.specs.Bodies.{statements_in_parts}
use Rattle.nest.specs.Plain.{Loop, Part, Run, Turns, Choice, Label, Jump, Parts, no_parts, part, Nest}
use Rattle.nest.specs.declared.parts.Trip.{Trip}
use Rattle.last_values.specs.normal_forms.NormalLoops.{counter_name, counters_of}
use Rattle.last_values.specs.normal_forms.Texts.{trip_text}
use Rattle.last_values.specs.declared.normal_forms.loops.NormalLoop.{NormalLoop}
use Rattle.pass_laws.proofs.ReadyNests.Made.{IsMadeOf, made_of}
use Rattle.pass_laws.proofs.ReadyNests.NormalReady.{normal_nest_is_ready}
use Rattle.array_form.specs.holds.Statements.{no_statement}
use Rattle.pass_laws.proofs.NormalFacts.CounterNames.{distinct_names}
use Rattle.pass_laws.proofs.NormalFacts.FoundStatements.{IsFoundBody, found_body}
use Rattle.pass_laws.proofs.NormalFacts.LoopLimits.{HasTop}
use Rattle.pass_laws.proofs.NormalFacts.LoopWalk.{EachLoop, EachLoopIn}
use Rattle.pass_laws.proofs.NormalFacts.MadeStatements.{variables_of_loops, IsMadeLoop, made_loops}
use Rattle.pass_laws.proofs.NormalFacts.Tables.{all_in, loop_there, loops_are, numbered}
use Rattle.pass_laws.proofs.NormalFacts.Trips.{trip_is_text}
use Rattle.pass_laws.proofs.NormalFacts.Facts.{facts}
use Rattle.pass_laws.specs.normal_facts.Laws.{IsCounter, IsSettingOf, NormalNestHasFacts, NormalNestHasFormFacts}

-- ---- lists

element : {X : Type 0} (xs : List X) (k : ℕ) (d : X) → k < length xs → In (get_or xs k d) xs
element [] k d g = absurd (omega arith)
element (x ∷ xs) zero d g = inl refl
element (x ∷ xs) (suc k) d g = inr (element xs k d (omega arith))

among_none : (names : List (List ℕ)) (x : List ℕ) → is_among names x ≡ false → array.is_among names x ≡ false
among_none [] x h = refl
among_none (y ∷ names) x h = by (among_none names x) (bytes_eq y x) refl (bytes_eq x y) refl h
  where
    by : (is_among names x ≡ false → array.is_among names x ≡ false) → (a : Bool) → bytes_eq y x ≡ a → (b : Bool) → bytes_eq x y ≡ b
        → (b || is_among names x) ≡ false → cond a true (array.is_among names x) ≡ false
    by rest a e true f g = let no : ⊥ = cc in absurd no
    by rest false e false f g = rest g
    by rest true e false f g =
        let same : bytes_eq x y ≡ true = (bytes_eq-Decides x y).1 (sym ((bytes_eq-Decides y x).0 e)) in
        let no : ⊥ = cc in
        absurd no

distinct_too : (names : List (List ℕ)) → AreDistinct names → form_trips.AreDistinct names
distinct_too [] h = tt
distinct_too (x ∷ names) h = (among_none names x h.0, distinct_too names h.1)

abbrev AreOnce : List Loop → Type 0
AreOnce ls = Distinct (numbers_of ls)

once_first : (ls xs ys : List Loop) → AreOnce (ls ++ (xs ++ ys)) → AreOnce (ls ++ xs)
once_first ls xs ys d =
    Pairwise-left (λ x y. ¬ (x ≡ y)) (numbers_of (ls ++ xs)) (numbers_of ys)
    (subst Distinct (map-append (λ (l : Loop). l.number) (ls ++ xs) ys) (subst AreOnce (sym (append_assoc ls xs ys)) d))

once_last : (ls xs ys : List Loop) → AreOnce (ls ++ (xs ++ ys)) → AreOnce (ls ++ ys)
once_last [] xs ys d = Pairwise-right (λ x y. ¬ (x ≡ y)) (numbers_of xs) (numbers_of ys) (subst Distinct (map-append (λ (l : Loop). l.number) xs ys) d)
once_last (l ∷ ls) xs ys d = (without (λ k. ¬ (l.number ≡ k)) ls d.0, once_last ls xs ys d.1)
  where
    without : (P : ℕ → Type 0) (ms : List Loop) → order_lists.Each P (numbers_of (ms ++ (xs ++ ys))) → order_lists.Each P (numbers_of (ms ++ ys))
    without P [] h = order.Each-right P (numbers_of xs) (numbers_of ys) (subst (order_lists.Each P) (map-append (λ (l : Loop). l.number) xs ys) h)
    without P (m ∷ ms) h = (h.0, without P ms h.1)

-- ---- the loops round a statement

module _ (width : Width) (Asked : List Loop → Loop → Type 0) where
  -- each of these loops is as is asked under those before it
  abbrev Follow : List Loop → List Loop → Type 0
  Follow before [] = Unit {0}
  Follow before (l ∷ ls) = Asked before l × Follow (before ++ l ∷ []) ls

  follow_more : (before ls : List Loop) (l : Loop) → Follow before ls → Asked (before ++ ls) l → Follow before (ls ++ l ∷ [])
  follow_more before [] l h a = (subst (λ (xs : List Loop). Asked xs l) (append-nil before) a, tt)
  follow_more before (m ∷ ls) l h a =
      (h.0, follow_more (before ++ m ∷ []) ls l h.1 (subst (λ (xs : List Loop). Asked xs l) (sym (append_assoc before (m ∷ []) ls)) a))

  record AreRound (ls : List Loop) : Type 0 where
    follow : Follow [] ls
    once : AreOnce ls

  mutual
    round_of : (ls : List Loop) (p : Part) → IsPlain p → EachLoop Asked ls p → Follow [] ls → AreOnce (ls ++ loops_of p) → (x : Standing) → In x (statements_in ls p)
        → AreRound x.loops
    round_of ls (Run s) plain h u d x (inl e) =
        subst (λ (y : Standing). AreRound y.loops) (sym e) (record { follow = u; once = subst AreOnce (append-nil ls) d })
    round_of ls (Run s) plain h u d x (inr i) = absurd i
    round_of ls (Turns l ps) plain h u d x i =
        round_in (ls ++ l ∷ []) ps plain.1 h.1 (follow_more [] ls l u h.0) (subst AreOnce (sym (append_assoc ls (l ∷ []) (loops_in_parts ps))) d) x i
    round_of ls (Choice bs ps) plain h u d x i = absurd plain
    round_of ls (Label k) plain h u d x i = absurd plain
    round_of ls (Jump k) plain h u d x i = absurd plain

    round_in : (ls : List Loop) (ps : Parts) → ArePlain ps → EachLoopIn Asked ls ps → Follow [] ls → AreOnce (ls ++ loops_in_parts ps) → (x : Standing) → In x (statements_in_parts ls ps)
        → AreRound x.loops
    round_in ls no_parts plain h u d x i = absurd i
    round_in ls (part p ps) plain h u d x i =
        either (λ j. round_of ls p plain.0 h.0 u (once_first ls (loops_of p) (loops_in_parts ps) d) x j)
        (λ j. round_in ls ps plain.1 h.1 u (once_last ls (loops_of p) (loops_in_parts ps) d) x j)
        (In-append x (statements_in ls p) (statements_in_parts ls ps) i)
      where
        either : (In x (statements_in ls p) → AreRound x.loops) → (In x (statements_in_parts ls ps) → AreRound x.loops)
            → In x (statements_in ls p) ⊎ In x (statements_in_parts ls ps) → AreRound x.loops
        either f g (inl j) = f j
        either f g (inr j) = g j

-- ---- names of counters

abbrev BearsNumber : Loop → Type 0
BearsNumber l = (l.variable ≡ counter_name l.number) × (l.number ≤ 4294967295)

names_of_counters : (ls : List Loop) → lists.Each BearsNumber ls → variables_of_loops ls ≡ map counter_name (numbers_of ls)
names_of_counters [] h = refl
names_of_counters (l ∷ ls) h = ap₂ (λ x xs. x ∷ xs) h.0.0 (names_of_counters ls h.1)

small_numbers : (ls : List Loop) → lists.Each BearsNumber ls → (k : ℕ) → In k (numbers_of ls) → k ≤ 4294967295
small_numbers [] h k i = absurd i
small_numbers (l ∷ ls) h k (inl e) = subst (λ j. j ≤ 4294967295) (sym e) h.0.1
small_numbers (l ∷ ls) h k (inr i) = small_numbers ls h.1 k i

-- ---- trips

module _ (width : Width) (es : List Declaration) (n : Nest) (body : IsFoundBody es n) where
  trip_text_holds : (before : List Loop) (l : Loop) → IsMadeLoop es n.symbols before l → lists.Each BearsNumber before → AreOnce before
      → IsSomeAnd l.trip (IsTripText (variables_of_loops before) n.symbols l.last)
  trip_text_holds before l a named once =
      let counters : List (List ℕ) = counters_of a.round in
      let many : length counters ≡ length a.round = length-map a.round (λ (r : NormalLoop). r.counter) in
      let few : length counters ≤ 7 = let most = a.under.loops.few in omega (arith, many, most) in
      let apart : AreDistinct (counters ++ n.symbols) =
      subst (λ xs. AreDistinct (xs ++ n.symbols)) (sym (a.under.counters ∙ names_of_counters before named))
      (distinct_names (numbers_of before) n.symbols once (small_numbers before named) (λ y i. (body.symbols y i).1) body.distinct) in
      let top : HasTop (length n.symbols) (length counters) a.turns.trip = subst (λ d. HasTop (length n.symbols) d a.turns.trip) (sym many) a.top in
      let t : IsTripText counters n.symbols (trip_text counters n.symbols [] a.turns.trip) a.turns.trip =
      trip_is_text counters n.symbols a.turns.trip a.small.divisor few apart top a.small.by in
      carried counters (variables_of_loops before) (trip_text counters n.symbols [] a.turns.trip) l.last a.turns.trip l.trip a.under.counters (sym a.last) (sym a.trip) t
    where
      carried : (cs ds : List (List ℕ)) (e f : Expression) (t : Trip) (o : Option Trip) → cs ≡ ds → e ≡ f → Some t ≡ o → IsTripText cs n.symbols e t
          → IsSomeAnd o (IsTripText ds n.symbols f)
      carried cs ds e f t o a b c h =
          subst (λ o. IsSomeAnd o (IsTripText ds n.symbols f)) c (subst (λ xs. IsTripText xs n.symbols f t) a (subst (λ g. IsTripText cs n.symbols g t) b h))

  texts : (before ls : List Loop) → Follow width (IsMadeLoop es n.symbols) before ls → lists.Each BearsNumber before → AreOnce (before ++ ls)
      → HaveTripTexts n.symbols (variables_of_loops before) ls
  texts before [] h named once = tt
  texts before (l ∷ ls) h named once = (
    trip_text_holds before l h.0 named
        (Pairwise-left (λ x y. ¬ (x ≡ y)) (numbers_of before) (numbers_of (l ∷ ls)) (subst Distinct (map-append (λ (l : Loop). l.number) before (l ∷ ls)) once)),
    subst (λ xs. HaveTripTexts n.symbols xs ls) (map-append (λ (l : Loop). l.variable) before (l ∷ []))
        (texts (before ++ l ∷ []) ls h.1 (Each-append BearsNumber before (l ∷ []) named ((h.0.variable, h.0.number), tt))
        (subst AreOnce (sym (append_assoc before (l ∷ []) ls)) once)),
  )

-- ---- all facts

declared_integer : (o : Option Declaration) → IsSomeAnd o IsCounter → (d : Declaration) × (o ≡ Some d) × (d.kind ≡ Integer)
declared_integer None h = absurd h
declared_integer (Some d) h = (d, refl, h.kind)

module _ (width : Width) (p : Program) (n m : Nest) (w : Setting) (is : IsProgram77 (fortran77 width) p) (found : Contains (found_in p) (InNest n)) (normal : normalised n ≡ Some m)
    (plain : IsPlain m.body) (set : IsSettingOf p m w) where
  abbrev es : List Declaration
  es = w.program.declarations

  made : IsMadeOf n m
  made = made_of n m normal

  body : IsFoundBody es n
  body = found_body (fortran77 width) p es is set.declarations n found

  once : AreOnce (nest_loops m)
  once = loops_once m (normal_nest_is_ready (fortran77 width) p n m is found normal)

  trips : (s : ℕ) → s < length (nest_statements m) → HaveTripTexts n.symbols [] (loops_at m s)
  trips s h =
      let r : AreRound width (IsMadeLoop es n.symbols) (loops_at m s) =
      round_of width (IsMadeLoop es n.symbols) [] m.body plain (made_loops es n body m made) tt once (get_or (nest_statements m) s no_statement)
      (element (nest_statements m) s no_statement h) in
      texts width es n body [] (loops_at m s) r.follow tt r.once

  variable : (l : ℕ) → In l (loops_of_shape (shape_of 0 m.body))
      → (d : Declaration) × (declared es (variable_of_loop (loop_numbered (nest_loops m) l)) ≡ Some d) × (d.kind ≡ Integer)
  variable l i =
      let r = numbered (nest_loops m) l (subst (In l) (loops_are 0 m.body plain) i) in
      let there : loop_numbered (nest_loops m) l ≡ Some r.loop = ap (loop_numbered (nest_loops m)) r.number ∙ loop_there (nest_loops m) r.loop once r.among in
      declared_integer (declared es (variable_of_loop (loop_numbered (nest_loops m) l)))
      (subst (λ x. IsSomeAnd (declared es x) IsCounter) (sym (ap variable_of_loop there))
      (all_in (λ (l : Loop). IsSomeAnd (declared es l.variable) IsCounter) (nest_loops m) set.counters r.loop r.among))

  pub form_facts : HasFormFacts m w
  form_facts = record {
    symbols = subst form_trips.AreDistinct (sym made.symbols) (distinct_too n.symbols body.distinct);
    trips = λ s h. subst (λ xs. HaveTripTexts xs [] (loops_at m s)) (sym made.symbols) (trips s h);
    variables = variable;
  }

pub normal_nest_has_form_facts : (width : Width) → NormalNestHasFormFacts width
normal_nest_has_form_facts width p n m w is found normal plain set = form_facts width p n m w is found normal plain set

pub normal_nest_has_facts : (width : Width) → NormalNestHasFacts width
normal_nest_has_facts width p n m w is found normal plain set = facts width p n m w is found normal plain set
