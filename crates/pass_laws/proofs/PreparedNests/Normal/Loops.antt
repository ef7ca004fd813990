-- The loops of what is made of a nest that was found are prepared.
use Rattle.std.proofs.Common.{◌≡◌, refl, sym, ap, ◌∙◌, subst, inl, inr, ℕ, ◌≤◌, ◌<◌, ℤ, pos, List, [], ◌∷◌, ◌++◌, length}
use Rattle.std.proofs.Common.{Some, arith}
use Rattle.std.specs.Option.{IsSomeAnd}
use Rattle.std.specs.Prelude.{◌≤ℤ◌}
use Rattle.std.proofs.lemmas.Int.{ints}
use Rattle.std.proofs.lemmas.List.{length-map, map-append}
use Rattle.dependence_graph.specs.nest_graph.Ready.{IsTripIn}
use Rattle.last_values.specs.declared.normal_forms.loops.NormalLoop.{NormalLoop}
use Rattle.last_values.specs.normal_forms.NormalLoops.{counter_name, counters_of, normal_loop}
use Rattle.last_values.specs.normal_forms.Texts.{trip_text}
use Rattle.meaning.specs.Typed.{declared}
use Rattle.nest.specs.Bodies.{loops_in_branches, loops_in_parts, loops_of}
use Rattle.nest.specs.Plain.{Branches, branch, no_branches}
use Rattle.nest.specs.Plain.{Choice, Jump, Label, Loop, Nest, Part, Parts, Run, Turns, no_parts, part}
use Rattle.nest_order.proofs.orders.Lists.{In-left, In-right}
use Rattle.nest_order.specs.orders.Lists.{In}
use Rattle.nest_order.specs.shapes.Shapes.{IsNormal}
use Rattle.normal_loops.specs.Counting.{counting}
use Rattle.pass_laws.proofs.NormalFacts.FoundStatements.{IsSource, IsSourceLoop}
use Rattle.pass_laws.proofs.NormalFacts.LoopLimits.{HasTop, loop_has_limits}
use Rattle.pass_laws.proofs.NormalFacts.LoopWalk as walk
use Rattle.pass_laws.proofs.NormalFacts.LoopWalk.{LoopSteps, each_loop}
use Rattle.pass_laws.proofs.NormalFacts.StatementKinds.{IsSmallLoop}
use Rattle.pass_laws.proofs.ReadyNests.LoopForms.{normal_loop_is}
use Rattle.pass_laws.proofs.ReadyNests.Made.{IsMadeOf}
use Rattle.pass_laws.proofs.ReadyNests.NormalTrips.{AreLoops, loop_more, no_loops}
use Rattle.pass_laws.proofs.ReadyNests.Walk.{EachIn}
use Rattle.pass_laws.specs.normal_facts.Laws.{IsCounter}
use Rattle.subscripts.specs.Shapes.{IsForm}
use Rattle.tree.specs.Plain.{Declaration}
use Rattle.pass_laws.specs.prepared_nests.Loops.{EachLoop, EachLoopIn, EachLoopUnder, IsPreparedLoop, IsPreparedTrip, variables_of_loops}
use Rattle.pass_laws.proofs.PreparedNests.Lists.{below_32}

-- ---- trips

positive_divisor : (z : ℤ) (n : ℕ) → z ≡ pos n → pos 1 ≤ℤ z → 1 ≤ n
positive_divisor z n e h = let k : pos 1 ≤ℤ pos n = subst (λ y. pos 1 ≤ℤ y) e h in omega (arith, ints, k)

prepared_trip : (round : List NormalLoop) (symbols : List (List ℕ)) (r : NormalLoop) → IsTripIn (length round) r.trip → IsSmallLoop r → HasTop (length symbols) (length round) r.trip
    → IsPreparedTrip (counters_of round) symbols (trip_text (counters_of round) symbols [] r.trip) r.trip
prepared_trip round symbols r t s h =
    let many : length round ≡ length (counters_of round) = sym (length-map round (λ (q : NormalLoop). q.counter)) in
    let top : HasTop (length symbols) (length (counters_of round)) r.trip = subst (λ d. HasTop (length symbols) d r.trip) many h in
    record {
      top = subst (λ d. IsForm d r.trip.top) many t.top;
      form = top.form;
      affine = top.affine;
      limited = top.limited;
      short = top.short;
      seven = top.seven;
      divisor = s.divisor;
      by = s.by;
      positive = positive_divisor r.trip.by s.divisor s.by t.positive;
      small = s.small;
      text = refl;
    }

-- ---- a loop that is made

-- as it is, but for what is declared
pub record IsNormalised (symbols : List (List ℕ)) (ls : List Loop) (l : Loop) : Type 0 where
  pub depth : length ls < 7
  pub number : l.number ≤ 4294967295
  pub variable : l.variable ≡ counter_name l.number
  pub normal : IsNormal l
  pub trip : IsSomeAnd l.trip (IsPreparedTrip (variables_of_loops ls) symbols l.last)

-- loops from 1 by 1, and the loops that are made of them
pub record AreUnder (round : List NormalLoop) (ls : List Loop) : Type 0 where
  pub loops : AreLoops round ls
  pub counters : counters_of round ≡ variables_of_loops ls

counting_under : (symbols : List (List ℕ)) (round : List NormalLoop) (ls : List Loop) (l : Loop) (r : NormalLoop) → counters_of round ≡ variables_of_loops ls
    → counters_of (round ++ r ∷ []) ≡ variables_of_loops (ls ++ counting symbols round l r ∷ [])
unfolding counting
counting_under symbols round ls l r h =
    map-append (λ (q : NormalLoop). q.counter) round (r ∷ [])
    ∙ (ap (λ xs. xs ++ r.counter ∷ []) h ∙ sym (map-append (λ (k : Loop). k.variable) ls (counting symbols round l r ∷ [])))

module _ (n : Nest) (Fair : Loop → Type 0) (few : (l : Loop) → Fair l → l.number ≤ 4294967295) where
  pub under_more : (round : List NormalLoop) (ls : List Loop) (l : Loop) (r : NormalLoop) → AreUnder round ls → normal_loop n.symbols round l ≡ Some r
      → AreUnder (round ++ r ∷ []) (ls ++ counting n.symbols round l r ∷ [])
  under_more round ls l r u e = record { loops = loop_more n.symbols round ls l r u.loops e; counters = counting_under n.symbols round ls l r u.counters }

  asked : (round : List NormalLoop) (ls : List Loop) (l : Loop) (r : NormalLoop) → AreUnder round ls → Fair l → normal_loop n.symbols round l ≡ Some r
      → IsNormalised n.symbols ls (counting n.symbols round l r)
  unfolding counting
  asked round ls l r u f e =
      let is = normal_loop_is n.symbols round l r u.loops.zeros e in
      let limits = loop_has_limits n.symbols round l r u.loops.zeros e in
      let deep = is.deep in
      let same = u.loops.as_many in
      record {
        depth = omega (arith, deep, same);
        number = few l f;
        variable = is.counter;
        normal = record { first = refl; step = refl };
        trip = subst (λ xs. IsPreparedTrip xs n.symbols (trip_text (counters_of round) n.symbols [] r.trip) r.trip) u.counters
            (prepared_trip round n.symbols r is.trip limits.small limits.top);
      }

  loop_steps : LoopSteps n Fair AreUnder (IsNormalised n.symbols)
  loop_steps = record { turns = λ round ls l r u f e. under_more round ls l r u e; asked = asked }

pub none_under : AreUnder [] []
none_under = record { loops = no_loops; counters = refl }

-- ---- with what is declared

module _ (es : List Declaration) (symbols : List (List ℕ)) where
  abbrev IsDeclared : Loop → Type 0
  IsDeclared l = IsSomeAnd (declared es l.variable) IsCounter

  mutual
    pub each_prepared : (ls : List Loop) (p : Part) → ((l : Loop) → In l (loops_of p) → IsDeclared l) → walk.EachLoop (IsNormalised symbols) ls p → EachLoop (IsPreparedLoop es symbols) ls p
    each_prepared ls (Run s) f h = tt
    each_prepared ls (Turns l ps) f h = (
      record { depth = h.0.depth; number = below_32 l.number h.0.number; variable = h.0.variable; counter = f l (inl refl); normal = h.0.normal; trip = h.0.trip },
      each_prepared_in (ls ++ l ∷ []) ps (λ k i. f k (inr i)) h.1,
    )
    each_prepared ls (Choice bs ps) f h = (
      each_prepared_under ls bs (λ l i. f l (In-left l (loops_in_branches bs) (loops_in_parts ps) i)) h.0,
      each_prepared_in ls ps (λ l i. f l (In-right l (loops_in_branches bs) (loops_in_parts ps) i)) h.1,
    )
    each_prepared ls (Label k) f h = tt
    each_prepared ls (Jump k) f h = tt

    each_prepared_in : (ls : List Loop) (ps : Parts) → ((l : Loop) → In l (loops_in_parts ps) → IsDeclared l) → walk.EachLoopIn (IsNormalised symbols) ls ps → EachLoopIn (IsPreparedLoop es symbols) ls ps
    each_prepared_in ls no_parts f h = tt
    each_prepared_in ls (part p ps) f h = (
      each_prepared ls p (λ l i. f l (In-left l (loops_of p) (loops_in_parts ps) i)) h.0,
      each_prepared_in ls ps (λ l i. f l (In-right l (loops_of p) (loops_in_parts ps) i)) h.1,
    )

    each_prepared_under : (ls : List Loop) (bs : Branches) → ((l : Loop) → In l (loops_in_branches bs) → IsDeclared l) → walk.EachLoopUnder (IsNormalised symbols) ls bs
        → EachLoopUnder (IsPreparedLoop es symbols) ls bs
    each_prepared_under ls no_branches f h = tt
    each_prepared_under ls (branch test ps bs) f h = (
      each_prepared_in ls ps (λ l i. f l (In-left l (loops_in_parts ps) (loops_in_branches bs) i)) h.0,
      each_prepared_under ls bs (λ l i. f l (In-right l (loops_in_parts ps) (loops_in_branches bs) i)) h.1,
    )

-- the loops of what is made of n, where they are declared
pub normal_loops_prepared : (es : List Declaration) (n m : Nest) → IsMadeOf n m → EachIn (IsSource es n.symbols) (IsSourceLoop es n.symbols) n.body
    → ((l : Loop) → In l (loops_of m.body) → IsSomeAnd (declared es l.variable) IsCounter) → EachLoop (IsPreparedLoop es n.symbols) [] m.body
normal_loops_prepared es n m made body f =
    each_prepared es n.symbols [] m.body f
    (each_loop n m (IsSource es n.symbols) (IsSourceLoop es n.symbols) AreUnder (IsNormalised n.symbols) (loop_steps n (IsSourceLoop es n.symbols) (λ l f. f.number)) none_under body made)
