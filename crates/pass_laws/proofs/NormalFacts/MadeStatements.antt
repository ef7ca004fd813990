-- The statements and loops that are made of a nest that was found, under the loops round them.
use Rattle.std.proofs.Common.{◌≡◌, refl, sym, ap, ◌∙◌, subst, inl, ℕ, ◌^◌, ◌≤◌, ◌<◌, List, [], ◌∷◌, ◌++◌, map}
use Rattle.std.proofs.Common.{length, length-append, Option, Some, None, arith}
use Rattle.std.specs.Option.{IsSomeAnd}
use Rattle.std.specs.Prelude.{codes, decimal}
use Rattle.std.proofs.lemmas.Fmt.{decimal_injective}
use Rattle.std.proofs.lemmas.List.{map-append}
use Rattle.components.specs.Lists.{Each}
use Rattle.components.proofs.ListLaws.{Each-append}
use Rattle.meaning.specs.Typed.{declared, rank_of_extent}
use Rattle.meaning.specs.Typed90.{HasKind, IsIntegerScalar}
use Rattle.tree.specs.Plain.{Expression, Declaration}
use Rattle.tree.specs.declared.ops.Kind.TheVariants.{Integer}
use Rattle.last_values.specs.InPlace.{first_text, end_text}
use Rattle.normal_loops.specs.Counting.{counting}
use Rattle.normal_loops.specs.Values.{with_value, statement_with_values, normal_statement}
use Rattle.nest_order.proofs.orders.Lists.{In-left, In-right}
use Rattle.nest_order.specs.orders.Lists.{In}
use Rattle.nest_rewrite.specs.Statements.{rewritten_statement}
use Rattle.nest_order.specs.shapes.Shapes.{numbers_of}
use Rattle.nest.specs.Bodies.{Standing, nest_statements}
use Rattle.nest.specs.Plain.{Loop, Guarded, Nest}
use Rattle.last_values.specs.normal_forms.NormalLoops.{counter_name, counters_of, normal_loop}
use Rattle.last_values.specs.normal_forms.Texts.{trip_text}
use Rattle.last_values.specs.declared.normal_forms.loops.NormalLoop.{NormalLoop}
use Rattle.pass_laws.proofs.ReadyNests.LoopForms.{normal_loop_is}
use Rattle.pass_laws.proofs.ReadyNests.Made.{IsMadeOf}
use Rattle.pass_laws.proofs.ReadyNests.NormalTrips.{AreLoops, loop_more, no_loops}
use Rattle.pass_laws.proofs.ReadyNests.Walk.{Steps, assigning, standing, each_statement}
use Rattle.pass_laws.proofs.NormalFacts.FoundStatements.{IsShort, IsSource, IsSourceLoop, IsFoundBody}
use Rattle.pass_laws.proofs.NormalFacts.FoundSymbols.{symbol_integer}
use Rattle.pass_laws.proofs.NormalFacts.LoopLimits.{HasTop, loop_has_limits}
use Rattle.pass_laws.proofs.NormalFacts.LoopWalk.{LoopSteps, EachLoop, each_loop}
use Rattle.pass_laws.proofs.NormalFacts.StatementKinds.{IsSmallLoop, IsNumber, HasKinds, IsTypedLoop, normal_kinds, first_is}
use Rattle.pass_laws.proofs.NormalFacts.StatementKinds.{end_is}
use Rattle.pass_laws.proofs.NormalFacts.Tables.{each_from}
use Rattle.pass_laws.proofs.NormalFacts.Texts.{IsStatementOver, IsOver, normal_over, first_over, end_over, statement_weaker}

-- ---- names of counters

same_rest : (xs ys zs : List ℕ) → xs ++ ys ≡ xs ++ zs → ys ≡ zs
same_rest [] ys zs e = e
same_rest (x ∷ xs) ys zs e = let rest : xs ++ ys ≡ xs ++ zs = cc in same_rest xs ys zs rest

small_number : (n : ℕ) → n ≤ 4294967295 → n < 2 ^ 64
small_number n h = let e : n < 18446744073709551616 = omega (arith, h) in e

pub counter_same : (m n : ℕ) → m ≤ 4294967295 → n ≤ 4294967295 → counter_name m ≡ counter_name n → m ≡ n
counter_same m n h k e = decimal_injective m n (small_number m h) (small_number n k) (same_rest (codes "FV_LOOP_") (decimal m) (decimal n) e)

pub counter_long : (x : List ℕ) (k : ℕ) → IsShort x → ¬ (x ≡ counter_name k)
counter_long x k h e =
    let short : length x ≤ 6 = h in
    let same : length x ≡ length (codes "FV_LOOP_" ++ decimal k) = ap (λ (y : List ℕ). length y) e in
    let long = length-append (codes "FV_LOOP_") (decimal k) in
    omega (arith, short, same, long)

-- in a statement in these loops a name may stand: a counter, if it is one, of these loops
abbrev pub IsKnown : List Loop → List ℕ → Type 0
IsKnown ls x = (k : ℕ) → k ≤ 4294967295 → x ≡ counter_name k → In k (numbers_of ls)

pub short_known : (ls : List Loop) (x : List ℕ) → IsShort x → IsKnown ls x
short_known ls x h k l e = absurd (counter_long x k h e)

abbrev pub variables_of_loops : List Loop → List (List ℕ)
variables_of_loops ls = map (λ (l : Loop). l.variable) ls

numbers_with : (ls : List Loop) (l : Loop) → numbers_of (ls ++ l ∷ []) ≡ numbers_of ls ++ l.number ∷ []
numbers_with ls l = map-append (λ (l : Loop). l.number) ls (l ∷ [])

known_more : (ls : List Loop) (l : Loop) (x : List ℕ) → IsKnown ls x → IsKnown (ls ++ l ∷ []) x
known_more ls l x h k small e = subst (In k) (sym (numbers_with ls l)) (In-left k (numbers_of ls) (l.number ∷ []) (h k small e))

known_own : (ls : List Loop) (l : Loop) (x : List ℕ) → l.number ≤ 4294967295 → x ≡ counter_name l.number → IsKnown (ls ++ l ∷ []) x
known_own ls l x own same k small e =
    subst (In k) (sym (numbers_with ls l)) (In-right k (numbers_of ls) (l.number ∷ []) (inl (sym (counter_same l.number k own small (sym same ∙ e)))))

Each_weaker : {A : Type 0} (P Q : A → Type 0) (xs : List A) → ((x : A) → P x → Q x) → Each P xs → Each Q xs
Each_weaker P Q [] f h = tt
Each_weaker P Q (x ∷ xs) f h = (f x h.0, Each_weaker P Q xs f h.1)

-- ---- under these loops

abbrev IsFit : List Declaration → NormalLoop → Type 0
IsFit es r = IsIntegerScalar es r.variable × IsSmallLoop r

pub record AreUnder (es : List Declaration) (round : List NormalLoop) (ls : List Loop) : Type 0 where
  pub loops : AreLoops round ls
  pub counters : counters_of round ≡ variables_of_loops ls
  pub known : Each (λ (r : NormalLoop). IsKnown ls r.counter) round
  pub fit : Each (IsFit es) round

counters_more : (round : List NormalLoop) (r : NormalLoop) → counters_of (round ++ r ∷ []) ≡ counters_of round ++ r.counter ∷ []
counters_more round r = map-append (λ (r : NormalLoop). r.counter) round (r ∷ [])

variables_more : (ls : List Loop) (l : Loop) → variables_of_loops (ls ++ l ∷ []) ≡ variables_of_loops ls ++ l.variable ∷ []
variables_more ls l = map-append (λ (l : Loop). l.variable) ls (l ∷ [])

-- what is counted is the source's loop
record IsCounting (symbols : List (List ℕ)) (round : List NormalLoop) (l : Loop) (r : NormalLoop) (c : Loop) : Type 0 where
  number : c.number ≡ l.number
  variable : c.variable ≡ r.counter
  last : c.last ≡ trip_text (counters_of round) symbols [] r.trip
  trip : c.trip ≡ Some r.trip

counting_is : (symbols : List (List ℕ)) (round : List NormalLoop) (l : Loop) (r : NormalLoop) → IsCounting symbols round l r (counting symbols round l r)
unfolding counting
counting_is symbols round l r = record { number = refl; variable = refl; last = refl; trip = refl }

-- ---- what is made

pub record IsMade (es : List Declaration) (symbols : List (List ℕ)) (x : Standing) : Type 0 where
  pub over : IsStatementOver (IsKnown x.loops) x.statement
  pub kinds : Each (IsIntegerScalar es) (variables_of_loops x.loops) → HasKinds es x.statement
  pub short : IsShort x.statement.left.name
  pub free : ¬ (In x.statement.left.name symbols)

pub record IsMadeLoop (es : List Declaration) (symbols : List (List ℕ)) (ls : List Loop) (l : Loop) : Type 0 where
  pub round : List NormalLoop
  pub turns : NormalLoop
  pub under : AreUnder es round ls
  pub number : l.number ≤ 4294967295
  pub variable : l.variable ≡ counter_name l.number
  pub last : l.last ≡ trip_text (counters_of round) symbols [] turns.trip
  pub trip : l.trip ≡ Some turns.trip
  pub small : IsSmallLoop turns
  pub top : HasTop (length symbols) (length round) turns.trip

module _ (es : List Declaration) (n : Nest) (body : IsFoundBody es n) where
  abbrev symbols : List (List ℕ)
  symbols = n.symbols

  integers : Each (IsIntegerScalar es) symbols
  integers = each_from (IsIntegerScalar es) symbols (λ y i. symbol_integer es y (body.symbols y i).0)

  known_symbols : (ls : List Loop) → Each (IsKnown ls) symbols
  known_symbols ls = each_from (IsKnown ls) symbols (λ y i. short_known ls y (body.symbols y i).1)

  abbrev Fair : Loop → Type 0
  Fair l = IsSourceLoop es symbols l

  -- ---- one loop more

  module _ (round : List NormalLoop) (ls : List Loop) (l : Loop) (r : NormalLoop) (u : AreUnder es round ls) (f : Fair l) (e : normal_loop symbols round l ≡ Some r) where
    abbrev made : Loop
    made = counting symbols round l r

    is : IsCounting symbols round l r made
    is = counting_is symbols round l r

    variable_is : r.variable ≡ l.variable
    variable_is = (normal_loop_is symbols round l r u.loops.zeros e).variable

    counter_is : r.counter ≡ counter_name l.number
    counter_is = (normal_loop_is symbols round l r u.loops.zeros e).counter

    integer : IsIntegerScalar es r.variable
    integer = subst (IsIntegerScalar es) (sym variable_is) f.integer

    small : IsSmallLoop r
    small = (loop_has_limits symbols round l r u.loops.zeros e).small

    small_counting : made.number ≤ 4294967295
    small_counting = let same = is.number in let most = f.number in omega (arith, same, most)

    own : r.counter ≡ counter_name made.number
    own = counter_is ∙ ap counter_name (sym is.number)

    under_more : AreUnder es (round ++ r ∷ []) (ls ++ made ∷ [])
    under_more = record {
      loops = loop_more symbols round ls l r u.loops e;
      counters = counters_more round r ∙ (ap (λ xs. xs ++ r.counter ∷ []) u.counters ∙ (ap (λ x. variables_of_loops ls ++ x ∷ []) (sym is.variable) ∙ sym (variables_more ls made)));
      known = Each-append (λ (q : NormalLoop). IsKnown (ls ++ made ∷ []) q.counter) round (r ∷ [])
          (Each_weaker (λ (q : NormalLoop). IsKnown ls q.counter) (λ (q : NormalLoop). IsKnown (ls ++ made ∷ []) q.counter) round (λ q h. known_more ls made q.counter h) u.known)
          (known_own ls made r.counter small_counting own, tt);
      fit = Each-append (IsFit es) round (r ∷ []) u.fit ((integer, small), tt);
    }

    made_loop : IsMadeLoop es symbols ls made
    made_loop = record {
      round = round;
      turns = r;
      under = u;
      number = small_counting;
      variable = is.variable ∙ own;
      last = is.last;
      trip = is.trip;
      small = small;
      top = (loop_has_limits symbols round l r u.loops.zeros e).top;
    }

  -- ---- statements

  typed : (ls : List Loop) (round : List NormalLoop) → AreUnder es round ls → Each (IsIntegerScalar es) (variables_of_loops ls) → Each (IsTypedLoop es) round
  typed ls round u h = each round u.fit (subst (Each (IsIntegerScalar es)) (sym u.counters) h)
    where
      each : (rs : List NormalLoop) → Each (IsFit es) rs → Each (IsIntegerScalar es) (counters_of rs) → Each (IsTypedLoop es) rs
      each [] f g = tt
      each (r ∷ rs) f g = ((g.0, f.0), each rs f.1 g.1)

  name_kept : (outer rs : List NormalLoop) (s : Guarded) → (statement_with_values symbols outer rs s).left.name ≡ s.left.name
  name_kept outer [] s = refl
  name_kept outer (r ∷ rs) s = name_kept (outer ++ r ∷ []) rs (rewritten_statement (with_value symbols outer r) s)

  normal_name : (round : List NormalLoop) (s : Guarded) → (normal_statement symbols round s).left.name ≡ s.left.name
  unfolding normal_statement
  normal_name round s = name_kept [] round s

  made_run : (round : List NormalLoop) (ls : List Loop) (s : Guarded) → AreUnder es round ls → IsSource es symbols s → IsMade es symbols (standing ls (normal_statement symbols round s))
  made_run round ls s u h = record {
    over = normal_over (IsKnown ls) symbols (known_symbols ls) round s u.known (statement_weaker IsShort (IsKnown ls) (short_known ls) s h.over);
    kinds = λ t. normal_kinds es symbols integers round s (typed ls round u t) h.kinds;
    short = subst IsShort (sym (normal_name round s)) h.over.name;
    free = subst (λ x. ¬ (In x symbols)) (sym (normal_name round s)) h.free;
  }

  assigns : (line : ℕ) (v : List ℕ) (e : Expression) → IsIntegerScalar es v → IsNumber es e → HasKinds es (assigning line v e)
  assigns line v e h k = by (declared es v) refl h
    where
      by : (o : Option Declaration) → declared es v ≡ o → IsSomeAnd o (λ (d : Declaration). (d.kind ≡ Integer) × (rank_of_extent d.extent ≡ 0)) → HasKinds es (assigning line v e)
      by None f g = absurd g
      by (Some d) f g = record { declaration = d; found = f; right = subst (HasKind es e) (sym g.0) k.0 }

  made_assigning : (round : List NormalLoop) (ls : List Loop) (l : Loop) (r : NormalLoop) (e : Expression) → AreUnder es round ls → Fair l → normal_loop symbols round l ≡ Some r
      → IsOver (IsKnown ls) e → (Each (IsTypedLoop es) round → IsNumber es e) → IsMade es symbols (standing ls (assigning n.line r.variable e))
  made_assigning round ls l r e u f h over number =
      let same = variable_is round ls l r u f h in
      let short : IsShort r.variable = subst IsShort (sym same) f.short in
      record {
        over = record { guard = tt; name = short_known ls r.variable short; left = tt; right = over };
        kinds = λ t. assigns n.line r.variable e (integer round ls l r u f h) (number (typed ls round u t));
        short = short;
        free = subst (λ x. ¬ (In x symbols)) (sym same) f.free;
      }

  steps : Steps n (IsSource es symbols) Fair (AreUnder es) (IsMade es symbols)
  steps = record {
    run = made_run;
    turns = under_more;
    first = λ round ls l r u f h. made_assigning round ls l r (first_text symbols round r) u f h
        (first_over (IsKnown ls) symbols (known_symbols ls) round r u.known)
        (λ t. first_is es symbols integers round r t (small round ls l r u f h));
    end = λ round ls l r u f h. made_assigning round ls l r (end_text symbols round r) u f h
        (end_over (IsKnown ls) symbols (known_symbols ls) round r u.known)
        (λ t. end_is es symbols integers round r t (small round ls l r u f h));
  }

  loop_steps : LoopSteps n Fair (AreUnder es) (IsMadeLoop es symbols)
  loop_steps = record { turns = under_more; asked = made_loop }

  outside : AreUnder es [] []
  outside = record { loops = no_loops; counters = refl; known = tt; fit = tt }

  pub made_statements : (m : Nest) → IsMadeOf n m → Each (IsMade es symbols) (nest_statements m)
  made_statements m h = each_statement n m (IsSource es symbols) Fair (AreUnder es) (IsMade es symbols) steps outside body.body h

  pub made_loops : (m : Nest) → IsMadeOf n m → EachLoop (IsMadeLoop es symbols) [] m.body
  made_loops m h = each_loop n m (IsSource es symbols) Fair (AreUnder es) (IsMadeLoop es symbols) loop_steps outside body.body h
