-- The nest with its inductions substituted comes to the same moment but for the number of steps.
use Rattle.std.proofs.Common.{◌≡◌, inl, refl, sym, ap, ◌∙◌, subst, ℕ, suc, ◌≤◌, ℤ, pos, ◌+ℤ◌, ◌*ℤ◌, Bool, true, false, List, [], ◌∷◌, ◌++◌, length, map, Result, Ok, Option, Some, None, IfSome, Contains, arith}
use Rattle.std.specs.List.{AllByRecursion}
use Rattle.std.specs.Option.{IsSomeAnd, option_map}
use Rattle.std.specs.Prelude.{All, is_some}
use Rattle.tree.specs.OperationFaults.{kind_of}
use Rattle.tree.specs.Operators.{as_number}
use Rattle.tree.specs.Plain.{Block, Declaration, Program, Statement, block, no_statements, statement}
use Rattle.tree.specs.Steps.{◌>>=◌}
use Rattle.tree.specs.declared.ops.Fault.{Fault}
use Rattle.tree.specs.declared.ops.Kind.{Kind}
use Rattle.tree.specs.declared.ops.Kind.TheVariants.{Integer, Logical}
use Rattle.tree.specs.declared.ops.Value.{Value}
use Rattle.tree.specs.declared.ops.Value.TheVariants.{Int, Truth}
use Rattle.meaning.specs.Dialect.{fortran77}
use Rattle.tree.specs.declared.width.Width.{Width}
use Rattle.meaning.specs.Holding.{HasBounds, HoldsProgram, IsStorable}
use Rattle.meaning.specs.Names.{is_among}
use Rattle.meaning.specs.Reads.{names_in, names_in_block}
use Rattle.meaning.specs.Run.{Going, State, does, does_all}
use Rattle.meaning.specs.Store.{Store}
use Rattle.meaning.specs.Typed.{declared}
use Rattle.meaning.specs.Value.{is_in_range, number_of}
use Rattle.rewrite.specs.Following.{IsSound}
use Rattle.rewrite.specs.Names.{uses_in_block}
use Rattle.rewrite.specs.declared.uses.Use.{Use}
use Rattle.rewrite.specs.declared.uses.Way.TheVariants.{Writes}
use Rattle.rewrite.proofs.Acts.{Stays-does_all}
use Rattle.linear_forms.specs.Laws.{AreSized, HoldsSized}
use Rattle.linear_forms.specs.Linear.{HaveValues}
use Rattle.nest.specs.Allocations.{block_then}
use Rattle.nest.specs.Blocks.{statement_of_part}
use Rattle.nest.specs.Bodies.{nest_loops, nest_statements}
use Rattle.nest.specs.Plain.{Choice, Jump, Label, Loop, Nest, Part, Parts, Run, Turns}
use Rattle.nest.specs.declared.parts.Trip.{Trip}
use Rattle.nest_order.proofs.orders.Lists.{Each-In, Each-from}
use Rattle.nest_order.proofs.orders.Membership.{In-map, map-In}
use Rattle.nest_order.proofs.runs.Ending.{count_from_one}
use Rattle.nest_order.proofs.runs.Going.{trip_bounded}
use Rattle.nest_order.specs.orders.Lists.{Each, In}
use Rattle.nest_steps.specs.Leading.{Led, Leads}
use Rattle.nest_steps.specs.Statements.{cell_of}
use Rattle.last_values.specs.normal_forms.Numbers.{trip_number}
use Rattle.pass_laws.proofs.LastRuns.Forms.{At}
use Rattle.pass_laws.proofs.LastRuns.Pieces.{none_yet}
use Rattle.pass_laws.proofs.NormalFacts.Tables.{all_in, each_asked}
use Rattle.pass_laws.specs.normal_facts.Laws.{IsCounter}
use Rattle.pass_laws.specs.prepared_nests.Loops.{EachLoop, IsPreparedLoop, IsPreparedTrip, variables_of_loops}
use Rattle.pass_laws.specs.prepared_nests.Nests.{IsPrepared, IsPreparedSymbol}
use Rattle.pass_laws.proofs.PreparedNests.Lists.{In-Contains, some_of}
use Rattle.pass_laws.proofs.PreparedNests.Walks.{walked}
use Rattle.statement_passes.specs.Passes.{mapped_body}
use Rattle.statement_passes.specs.Shifted.{with_nest_symbols}
use Rattle.statement_passes.specs.Standings.{IsLoop}
use Rattle.pass_laws.specs.prepared_runs.Running.{loops_then_after}
use Rattle.prepared_passes.specs.symbols.Sources.{IsOfSource}
use Rattle.prepared_passes.proofs.SymbolsAnew.Names.{absent, is_in as is_in_names}
use Rattle.inductions.specs.Found.{inductions_by, inductions_of, outermost_trip}
use Rattle.inductions.specs.Nests.{induction_names, inductions_substituted, substituted_by, with_inductions}
use Rattle.inductions.specs.Ends.{induction_ending}
use Rattle.inductions.specs.Found.{end_form}
use Rattle.inductions.specs.Putting.{put_in}
use Rattle.inductions.specs.Stores.{AreApart, AreBefore, AreBehind, IsApart}
use Rattle.inductions.specs.Together.{AreInductions, Is, is_own}
use Rattle.inductions.specs.declared.found.Induction.{Induction}
use Rattle.inductions.proofs.Listed.{in_found, is_in, own_one}
use Rattle.inductions.proofs.Texts.{sized}
use Rattle.inductions.proofs.Together.{both-put, substituted_loops_lead}
use Rattle.prepared_passes.specs.substitution.Behind.{IsApartBehind}
use Rattle.prepared_passes.specs.substitution.Laws.{IsSameButSteps, SubstitutedNestRunsAlike}
use Rattle.prepared_passes.proofs.SubstitutedNests.Behind as behind
use Rattle.prepared_passes.proofs.SubstitutedNests.EndNumbers.{trip_value}
use Rattle.prepared_passes.proofs.SubstitutedNests.Ends as ends
use Rattle.prepared_passes.proofs.SubstitutedNests.Grown as grown
use Rattle.prepared_passes.proofs.SubstitutedNests.Once.{once_each, once_found}
use Rattle.prepared_passes.proofs.SubstitutedNests.Shifted.{GrowsIn, IsRunAlike, run_alike, with_more}
use Rattle.tree.specs.Widths.{bits_of}
use Rattle.meaning.proofs.Widths.{narrowest, widest}

does_block_then : (width : Width) (a b : Block) (s : State) → does_all (fortran77 width) None (block_then a b) s ≡ does_all (fortran77 width) None b (does_all (fortran77 width) None a s)
does_block_then width no_statements b s = refl
does_block_then width (statement c cs) b s = does_block_then width cs b (does (fortran77 width) None c s)

-- ---- a nest of one loop

pub record IsTurns (n : Nest) : Type 0 where
  pub loop : Loop
  pub parts : Parts
  pub is : n.body ≡ Turns loop parts

pub turns_of : (n : Nest) → IsLoop n.body → IsTurns n
turns_of n h = by n.body refl h
  where
    by : (p : Part) → n.body ≡ p → IsLoop p → IsTurns n
    by (Turns l ps) e k = record { loop = l; parts = ps; is = e }
    by (Run g) e k = absurd k
    by (Choice bs ps) e k = absurd k
    by (Label j) e k = absurd k
    by (Jump j) e k = absurd k

pub record HasTrip (es : List Declaration) (n : Nest) (l : Loop) : Type 0 where
  pub trip : Trip
  pub is : l.trip ≡ Some trip
  pub prepared : IsPreparedTrip [] n.symbols l.last trip

pub trip_of : (es : List Declaration) (around : List (List ℕ)) (deepest : ℕ) (n : Nest) (t : IsTurns n) → IsPrepared es around deepest n → HasTrip es n t.loop
trip_of es around deepest n t h =
    let each : EachLoop (IsPreparedLoop es n.symbols) [] (Turns t.loop t.parts) = subst (EachLoop (IsPreparedLoop es n.symbols) []) t.is h.parts.loops in
    let s = some_of (IsPreparedTrip [] n.symbols t.loop.last) t.loop.trip each.0.trip in
    record { trip = s.value; is = s.is; prepared = s.has }

pub outermost_is : (n : Nest) (t : IsTurns n) (u : Trip) → t.loop.trip ≡ Some u → outermost_trip n.body ≡ Some (t.loop.variable, u)
outermost_is n t u e = ap outermost_trip t.is ∙ ap (option_map (λ (v : Trip). (t.loop.variable, v))) e

-- ---- numbers that a store holds

abbrev int_of : Value → ℤ
int_of (Int z) = z
int_of (Truth b) = pos 0

record HoldsInt (width : Width) (s : Store) (x : List ℕ) : Type 0 where
  bounds : s.bounds x ≡ Some []
  held : s.held (cell_of x) ≡ Int (int_of (s.held (cell_of x)))
  range : is_in_range (bits_of width) (Int (int_of (s.held (cell_of x)))) ≡ true

holds_int : (width : Width) (p : Program) (s : Store) (x : List ℕ) → HoldsProgram (fortran77 width) p s → IsSomeAnd (declared p.declarations x) IsCounter → HoldsInt width s x
holds_int width p s x h c = by (declared p.declarations x) c (h.bounds x) (h.kinds (cell_of x))
  where
    integer : (v : Value) → kind_of v ≡ Integer → v ≡ Int (int_of v)
    integer (Int z) e = refl
    integer (Truth b) e = let bad : ◌≡◌ {A = Kind} Logical Integer = e in let no : ⊥ = cc in absurd no

    by : (o : Option Declaration) → IsSomeAnd o IsCounter → IfSome o (λ (e : Declaration). HasBounds e.extent (s.bounds x))
        → IfSome o (λ (e : Declaration). IsStorable (fortran77 width) e.kind (s.held (cell_of x))) → HoldsInt width s x
    by None k b v = absurd k
    by (Some e) k b v =
        let held = integer (s.held (cell_of x)) (v.kind ∙ k.kind) in
        record {
          bounds = subst (λ y. HasBounds y (s.bounds x)) k.scalar b;
          held = held;
          range = subst (λ w. is_in_range (bits_of width) w ≡ true) held v.within;
        }

abbrev numbers_in : List (List ℕ) → Store → List ℤ
numbers_in [] s = []
numbers_in (y ∷ ys) s = int_of (s.held (cell_of y)) ∷ numbers_in ys s

have_all : (width : Width) (s : Store) (ys : List (List ℕ)) → Each (HoldsInt width s) ys → HaveValues ys s (numbers_in ys s)
have_all width s [] h = tt
have_all width s (y ∷ ys) h = (h.0.bounds, h.0.held, have_all width s ys h.1)

all_sized : (width : Width) (s : Store) (ys : List (List ℕ)) → Each (HoldsInt width s) ys → AreSized (numbers_in ys s)
all_sized width s [] h = tt
all_sized width s (y ∷ ys) h = (sized (bits_of width) (widest width) (int_of (s.held (cell_of y))) h.0.range, all_sized width s ys h.1)

have_stays : (s u : Store) (ys : List (List ℕ)) (zs : List ℤ) → Each (λ y. (u.bounds y ≡ s.bounds y) × (u.held (cell_of y) ≡ s.held (cell_of y))) ys → HaveValues ys s zs → HaveValues ys u zs
have_stays s u [] [] h a = tt
have_stays s u [] (z ∷ zs) h a = absurd a
have_stays s u (y ∷ ys) [] h a = absurd a
have_stays s u (y ∷ ys) (z ∷ zs) h a = (h.0.0 ∙ a.0, h.0.1 ∙ a.1, have_stays s u ys zs h.1 a.2)

from_all : {A : Type 0} (P Q : A → Type 0) (xs : List A) → ((x : A) → P x → Q x) → All P xs → AllByRecursion Q xs
from_all P Q [] f h = tt
from_all P Q (x ∷ xs) f h = (f x (h 0 x (omega arith)), from_all P Q xs f (λ k d g. h (suc k) d (omega (arith, g))))

-- ---- the nest

module _ (width : Width) (p : Program) (around : List (List ℕ)) (deepest : ℕ) (n : Nest) (l : Loop) (ps : Parts) (t : Trip) (s : State) (h : IsPrepared p.declarations around deepest n)
    (source : IsOfSource p.declarations n) (body : n.body ≡ Turns l ps) (trip : IsPreparedTrip [] n.symbols l.last t) (going : s.way ≡ Going)
    (holds : HoldsProgram (fortran77 width) p s.store) (all_in_64 : HoldsSized s.store) where
  abbrev es : List Declaration
  es = p.declarations

  abbrev ds : List Induction
  ds = inductions_by n (Some (l.variable, t))

  abbrev C : List ℕ → Bool
  C x = is_among (variables_of_loops (nest_loops n)) x

  abbrev K : List ℕ → Bool
  K x = is_among n.symbols x

  abbrev start : List ℕ → ℤ
  start x = int_of (s.store.held (cell_of x))

  abbrev vs : List ℤ
  vs = numbers_in n.symbols s.store

  symbols_hold : Each (HoldsInt width s.store) n.symbols
  symbols_hold = Each-from (HoldsInt width s.store) n.symbols (λ y i. holds_int width p s.store y holds (all_in (IsPreparedSymbol es) n.symbols h.parts.symbols y i).scalar)

  abbrev z : ℤ
  z = trip_number (length n.symbols) none_yet (At (numbers_in n.symbols s.store ++ [])) t

  trip_is : number_of (fortran77 width) l.last s.store ≡ Ok (trip_number (length n.symbols) none_yet (At (numbers_in n.symbols s.store ++ [])) t)
  trip_is =
      ap (λ e. number_of (fortran77 width) e s.store) trip.text
      ∙ ap (λ (r : Result Value Fault). do v ← r; as_number v)
      (trip_value (bits_of width) n.symbols l.last t trip s.store vs (have_all width s.store n.symbols symbols_hold) (all_sized width s.store n.symbols symbols_hold))

  counters_are : (y : List ℕ) → is_among (variables_of_loops (nest_loops n)) y ≡ true → (s.store.bounds y ≡ Some []) × (s.store.bounds y ≡ Some [])
  counters_are y e =
      let o = In-map (λ (q : Loop). q.variable) y (nest_loops n) (is_in_names (variables_of_loops (nest_loops n)) y e) in
      let r = each_asked (IsPreparedLoop es n.symbols) (nest_loops n) [] n.body h.plain (walked (IsPreparedLoop es n.symbols) [] n.body h.parts.loops) o.it o.inside in
      let i = holds_int width p s.store o.it.variable holds r.asked.counter in
      let b : s.store.bounds y ≡ Some [] = ap s.store.bounds o.is ∙ i.bounds in
      (b, b)

  begins : AreBefore (bits_of width) (inductions_by n (Some (l.variable, t))) start (λ x. is_among n.symbols x) s.store (λ x. is_among (variables_of_loops (nest_loops n)) x) l.last
      (trip_number (length n.symbols) none_yet (At (numbers_in n.symbols s.store ++ [])) t) s.store s.store
  begins = record {
    apart = record {
      bounds = λ y. refl;
      held = λ c e. refl;
      elements = λ y j js. refl;
      each = λ d is. each d is;
      sized = all_in_64;
      bounds_stay = λ y. refl;
      held_stay = λ c e. refl;
    };
    trip = trip_is;
    scalars = counters_are;
  }
    where
      each : (d : Induction) → Is ds d → IsApart (bits_of width) ds start K s.store d (start d.name) s.store s.store
      each d is =
          let o = own_one ds d.name (ap is_some is) in
          let c = subst (λ x. IsSomeAnd (declared es x) IsCounter) o.name
          (grown.declared_so es around deepest n l ps t h source body o.induction (is_in ds o.induction o.is)) in
          let i = holds_int width p s.store d.name holds c in
          record { scalar = i.bounds; first = i.held; second = i.held; start_in = i.range; range = i.range }

  moving : (y : List ℕ) → is_among (variables_of_loops (nest_loops n)) y ≡ true → is_among n.symbols y ≡ false
  moving y e = grown.counter_no_symbol es around deepest n l ps t h source body y e

  are : AreInductions l.variable (λ x. is_among (variables_of_loops (nest_loops n)) x) (inductions_by n (Some (l.variable, t)))
  are = grown.inductions_are es around deepest n l ps t h source body (bits_of width)

  last_free : AllByRecursion (λ x. is_among (variables_of_loops (nest_loops n)) x ≡ false) (names_in l.last)
  last_free = grown.last_free es around deepest n l ps t h source body (bits_of width)

  -- ---- where there is an induction

  module _ (apart : IsApartBehind n) (same : inductions_of n ≡ inductions_by n (Some (l.variable, t))) (first : Induction) (is_first : Is (inductions_by n (Some (l.variable, t))) first)
      (sound : IsSound (does_all (fortran77 width) None (loops_then_after n) s).way) where
    abbrev names : List (List ℕ)
    names = induction_names (inductions_by n (Some (l.variable, t)))

    abbrev m : Nest
    m = with_nest_symbols n names

    grows : GrowsIn (bits_of width) l.variable (λ x. is_among (variables_of_loops (nest_loops n)) x) (λ x. is_among n.symbols x) (inductions_by n (Some (l.variable, t))) l.last
        (with_nest_symbols n (induction_names (inductions_by n (Some (l.variable, t)))))
    grows = with_more (bits_of width) l.variable C K ds l.last n names (record {
      loop = l;
      parts = ps;
      is = body;
      last_is = refl;
      grow = grown.all_grow es around deepest n l ps t h source body (bits_of width) first is_first;
    })

    alike : IsRunAlike n (with_nest_symbols n (induction_names (inductions_by n (Some (l.variable, t)))))
    alike = run_alike n names

    -- the loops
    loops_lead : Leads (AreBefore (bits_of width) ds start K s.store C l.last z) (AreBehind (bits_of width) ds start K s.store C z)
        (does (fortran77 width) None (statement_of_part n.line n.body))
        (does (fortran77 width) None (statement_of_part n.line (mapped_body (put_in l.variable ds m.symbols) m.body)))
    loops_lead =
        subst (λ (c : Statement). Leads (AreBefore (bits_of width) ds start K s.store C l.last z) (AreBehind (bits_of width) ds start K s.store C z) (does (fortran77 width) None c)
        (does (fortran77 width) None (statement_of_part n.line (mapped_body (put_in l.variable ds m.symbols) m.body))))
        (alike.runs n.line)
        (subst (λ (b : Part). Leads (AreBefore (bits_of width) ds start K s.store C l.last z) (AreBehind (bits_of width) ds start K s.store C z) (does (fortran77 width) None (statement_of_part n.line b))
        (does (fortran77 width) None (statement_of_part n.line (mapped_body (put_in l.variable ds m.symbols) b))))
        (sym grows.is)
        (subst (λ e. Leads (AreBefore (bits_of width) ds start K s.store C e z) (AreBehind (bits_of width) ds start K s.store C z) (does (fortran77 width) None (statement_of_part n.line (Turns grows.loop grows.parts)))
        (does (fortran77 width) None (statement_of_part n.line (mapped_body (put_in l.variable ds m.symbols) (Turns grows.loop grows.parts)))))
        grows.last_is
        (substituted_loops_lead (bits_of width) n.line l.variable C K ds m.symbols start s.store z grows.loop grows.parts (narrowest width) (widest width) are grows.grow
        (subst (λ e. AllByRecursion (λ x. C x ≡ false) (names_in e)) (sym grows.last_is) last_free) moving)))

    abbrev old : State
    old = does (fortran77 width) None (statement_of_part n.line n.body) s

    abbrev new : State
    new = does (fortran77 width) None (statement_of_part n.line (mapped_body (put_in l.variable (inductions_by n (Some (l.variable, t))) m.symbols) m.body)) s

    led : Led (AreBehind (bits_of width) ds start K s.store C z) (does (fortran77 width) None (statement_of_part n.line n.body) s)
        (does (fortran77 width) None (statement_of_part n.line (mapped_body (put_in l.variable ds m.symbols) m.body)) s)
    led = loops_lead.at s s.store s.steps going begins
        ((Stays-does_all (fortran77 width) None n.after).at (does (fortran77 width) None (statement_of_part n.line n.body) s) sound)

    abbrev v : Induction → ℤ
    v d = start d.name +ℤ d.step *ℤ pos led.stores.turns

    -- what came after them
    not_own : (x : List ℕ) → ¬ Contains (induction_names (inductions_of n)) x → is_own ds x ≡ false
    not_own x none = by (is_own ds x) refl
      where
        by : (b : Bool) → is_own ds x ≡ b → is_own ds x ≡ false
        by true e =
            let o = own_one ds x e in
            absurd (none (In-Contains x (induction_names (inductions_of n))
            (subst (λ y. In y (induction_names (inductions_of n))) o.name
            (subst (λ (xs : List Induction). In o.induction.name (induction_names xs)) (sym same)
            (map-In (λ (d : Induction). d.name) o.induction ds (is_in ds o.induction o.is))))))
        by false e = e

    after_leads : Leads (AreApart (bits_of width) ds start K s.store v) (AreApart (bits_of width) ds start K s.store v) (does_all (fortran77 width) None n.after) (does_all (fortran77 width) None n.after)
    after_leads = behind.all_lead (bits_of width) ds start K s.store v
        (λ c w a u own free range both. both-put (bits_of width) (widest width) (narrowest width) l.variable C K ds n.symbols are start s.store l.last z last_free moving n.line c w v a u own free range both)
        n.after h.parts.after.endings
        (from_all (λ (x : List ℕ). ¬ Contains (induction_names (inductions_of n)) x) (λ x. is_own ds x ≡ false) (names_in_block n.after) not_own apart.inductions)
        (from_all (λ (u : Use). u.way ≡ Writes → ¬ Contains n.symbols u.name) (λ (u : Use). u.way ≡ Writes → K u.name ≡ false) (uses_in_block n.after)
        (λ u f e. absent n.symbols u.name (λ i. f e (In-Contains u.name n.symbols i))) apart.symbols)

    both : Led (AreApart (bits_of width) ds start K s.store v) (does_all (fortran77 width) None n.after old) (does_all (fortran77 width) None n.after new)
    both = subst (λ (r : State). Led (AreApart (bits_of width) ds start K s.store v) (does_all (fortran77 width) None n.after old) (does_all (fortran77 width) None n.after r)) (sym led.rest)
        (after_leads.at old new.store new.steps led.going led.stores.apart sound)

    -- and the last values
    to_come : (a u : Store) → AreApart (bits_of width) ds start K s.store v a u → ends.AreToCome (bits_of width) (widest width) start n.symbols vs led.stores.turns (trip_bounded z led.stores.turns led.stores.count) ds a u
    to_come a u k = record {
      bounds = k.bounds;
      elements = k.elements;
      held = λ x none. k.held (cell_of x) (other x none);
      scalar = Each-from (λ (d : Induction). u.bounds d.name ≡ Some []) ds (λ d i. (one d i).scalar);
      first = Each-from (λ (d : Induction). a.held (cell_of d.name) ≡ Int (v d)) ds (λ d i. (one d i).first);
      second = Each-from (λ (d : Induction). u.held (cell_of d.name) ≡ Int (start d.name)) ds (λ d i. (one d i).second);
      start_in = Each-from (λ (d : Induction). is_in_range (bits_of width) (Int (start d.name)) ≡ true) ds (λ d i. (one d i).start_in);
      range = Each-from (λ (d : Induction). is_in_range (bits_of width) (Int (v d)) ≡ true) ds (λ d i. (one d i).range);
      have = have_stays s.store u n.symbols vs
          (Each-from (λ y. (u.bounds y ≡ s.store.bounds y) × (u.held (cell_of y) ≡ s.store.held (cell_of y))) n.symbols
          (λ y i. (k.bounds_stay y, k.held_stay (cell_of y) (grown.member n.symbols y i))))
          (have_all width s.store n.symbols symbols_hold);
      apart = Each-from (λ (d : Induction). Each (λ y. ¬ (d.name ≡ y)) n.symbols) ds (λ d i. Each-from (λ y. ¬ (d.name ≡ y)) n.symbols (λ y j e. no_symbol d i y j e));
    }
      where
        one : (d : Induction) → In d ds → IsApart (bits_of width) ds start K s.store d (v d) a u
        one d i = k.each d (once_found n.symbols t (nest_statements n) n.declarations source.ordered d i)

        other : (x : List ℕ) → Each (λ (d : Induction). ¬ (d.name ≡ x)) ds → is_own ds x ≡ false
        other x none = by (is_own ds x) refl
          where
            by : (b : Bool) → is_own ds x ≡ b → is_own ds x ≡ false
            by true e = let o = own_one ds x e in
                absurd (Each-In (λ (d : Induction). ¬ (d.name ≡ x)) ds none o.induction (is_in ds o.induction o.is) o.name)
            by false e = e

        no_symbol : (d : Induction) → In d ds → (y : List ℕ) → In y n.symbols → d.name ≡ y → ⊥
        no_symbol d i y j e =
            let own : is_own ds d.name ≡ true = in_found ds d i in
            let none : is_own ds y ≡ false = grown.symbol_not_own es around deepest n l ps t h source body y j in
            let bad : true ≡ false = sym own ∙ (ap (is_own ds) e ∙ none) in
            let no : ⊥ = cc in
            no

    end_forms : Each (λ (d : Induction). end_form n.symbols t d.name d.step ≡ Some d.end) ds
    end_forms = Each-from (λ (d : Induction). end_form n.symbols t d.name d.step ≡ Some d.end) ds
        (λ d i. (grown.is_listed es around deepest n l ps t h source body d i).found.end)

    abbrev whole : State
    whole = does_all (fortran77 width) None n.after old

    abbrev other_whole : State
    other_whole = does_all (fortran77 width) None n.after new

    last : Led (λ a u. u ≡ a) whole (does_all (fortran77 width) None (block (map (induction_ending n.symbols n.line t) ds)) other_whole)
    last =
        subst (λ (r : State). Led (λ a u. u ≡ a) whole (does_all (fortran77 width) None (block (map (induction_ending n.symbols n.line t) ds)) r)) (sym both.rest)
        (ended ((ends.all_go (bits_of width) (widest width) start n.symbols vs led.stores.turns (trip_bounded z led.stores.turns led.stores.count) l.last t trip (all_sized width s.store n.symbols symbols_hold)
        (count_from_one z led.stores.turns led.stores.count) n.line ds end_forms (once_each n.symbols t (nest_statements n) n.declarations source.ordered)).at
        whole other_whole.store other_whole.steps both.going (to_come whole.store other_whole.store both.stores)))
      where
        ended : {r : State} → Led (ends.AreToCome (bits_of width) (widest width) start n.symbols vs led.stores.turns (trip_bounded z led.stores.turns led.stores.count) []) whole r → Led (λ a u. u ≡ a) whole r
        ended {r} k = record {
          stores = ends.same_store (bits_of width) (widest width) start n.symbols vs led.stores.turns (trip_bounded z led.stores.turns led.stores.count) whole.store r.store k.stores;
          rest = k.rest;
          going = k.going;
        }

    same_moment : (a r : State) → Led (λ a u. u ≡ a) a r → r ≡ record a { steps = r.steps }
    same_moment a r k = k.rest ∙ ap (λ y. record a { store = y; steps = r.steps }) k.stores

    pub runs_alike : IsSameButSteps (does_all (fortran77 width) None (loops_then_after n) s)
        (does_all (fortran77 width) None (loops_then_after (record m { body = mapped_body (put_in l.variable ds m.symbols) m.body; after = block_then n.after (block (map (induction_ending n.symbols n.line t) ds)) })) s)
    runs_alike =
        subst (λ (r : State). IsSameButSteps whole r) (sym there) (same_moment whole (does_all (fortran77 width) None (block (map (induction_ending n.symbols n.line t) ds)) other_whole) last)
      where
        there : does_all (fortran77 width) None (block_then n.after (block (map (induction_ending n.symbols n.line t) ds))) (does (fortran77 width) None (statement_of_part m.line (mapped_body (put_in l.variable ds m.symbols) m.body)) s)
            ≡ does_all (fortran77 width) None (block (map (induction_ending n.symbols n.line t) ds)) other_whole
        there =
            ap (λ k. does_all (fortran77 width) None (block_then n.after (block (map (induction_ending n.symbols n.line t) ds))) (does (fortran77 width) None (statement_of_part k (mapped_body (put_in l.variable ds m.symbols) m.body)) s)) alike.line
            ∙ does_block_then width n.after (block (map (induction_ending n.symbols n.line t) ds)) new

by_inductions : (width : Width) (p : Program) (around : List (List ℕ)) (deepest : ℕ) (n : Nest) (s : State) (t : IsTurns n) (u : HasTrip p.declarations n t.loop) → IsPrepared p.declarations around deepest n
    → IsOfSource p.declarations n → IsApartBehind n → s.way ≡ Going → HoldsProgram (fortran77 width) p s.store → HoldsSized s.store → IsSound (does_all (fortran77 width) None (loops_then_after n) s).way
    → inductions_of n ≡ inductions_by n (Some (t.loop.variable, u.trip))
    → IsSameButSteps (does_all (fortran77 width) None (loops_then_after n) s)
    (does_all (fortran77 width) None (loops_then_after (with_inductions n (t.loop.variable, u.trip) (inductions_by n (Some (t.loop.variable, u.trip))))) s)
by_inductions width p around deepest n s t u h source apart going holds in_64 sound same = by (inductions_by n (Some (t.loop.variable, u.trip))) refl
  where
    by : (xs : List Induction) → inductions_by n (Some (t.loop.variable, u.trip)) ≡ xs
        → IsSameButSteps (does_all (fortran77 width) None (loops_then_after n) s) (does_all (fortran77 width) None (loops_then_after (with_inductions n (t.loop.variable, u.trip) xs)) s)
    by [] e = refl
    by (d ∷ xs) e =
        let is : Is (inductions_by n (Some (t.loop.variable, u.trip))) d
        = once_found n.symbols u.trip (nest_statements n) n.declarations source.ordered d (subst (In d) (sym e) (inl refl)) in
        subst (λ (ys : List Induction). IsSameButSteps (does_all (fortran77 width) None (loops_then_after n) s)
        (does_all (fortran77 width) None (loops_then_after (record (with_nest_symbols n (induction_names ys)) {
          body = mapped_body (put_in t.loop.variable ys (with_nest_symbols n (induction_names ys)).symbols) (with_nest_symbols n (induction_names ys)).body;
          after = block_then n.after (block (map (induction_ending n.symbols n.line u.trip) ys));
        })) s)) e
        (runs_alike width p around deepest n t.loop t.parts u.trip s h source t.is u.prepared going holds in_64 apart same d is sound)

pub substituted_nest_runs_alike : (width : Width) → SubstitutedNestRunsAlike width
unfolding inductions_substituted
substituted_nest_runs_alike width p around deepest n s h source apart going holds in_64 sound =
    let t = turns_of n source.loop in
    let u = trip_of p.declarations around deepest n t h in
    let o = outermost_is n t u.trip u.is in
    subst (λ (q : Option (List ℕ × Trip)). IsSameButSteps (does_all (fortran77 width) None (loops_then_after n) s) (does_all (fortran77 width) None (loops_then_after (substituted_by n q)) s)) (sym o)
    (by_inductions width p around deepest n s t u h source apart going holds in_64 sound (ap (inductions_by n) o))
