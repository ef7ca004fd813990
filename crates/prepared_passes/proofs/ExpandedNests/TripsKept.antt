-- Where symbols that stand in no trip have got other numbers, loops have as many turns as they had, and the texts of
-- trips have the same numbers.
use Rattle.std.proofs.Common.{◌≡◌, ◌⊎◌, inl, inr, refl, sym, ap, ◌∙◌, subst, ℕ, ℤ, Bool, true, false, cond, List, [], ◌∷◌, ◌++◌, Result, Ok, Some}
use Rattle.std.specs.List.{AllByRecursion, list_all}
use Rattle.tree.specs.Steps.{◌>>=◌}
use Rattle.tree.specs.Operators.{as_number}
use Rattle.tree.specs.Plain.{Declaration}
use Rattle.tree.specs.declared.ops.Fault.{Fault}
use Rattle.tree.specs.declared.ops.Value.{Value}
use Rattle.tree.specs.declared.ops.Value.TheVariants.{Int}
use Rattle.linear_forms.proofs.Sizes.{both}
use Rattle.meaning.specs.Names.{is_among}
use Rattle.meaning.specs.Reads.{names_in}
use Rattle.meaning.specs.Store.{Cell, Store, cell_at}
use Rattle.meaning.specs.Value.{number_of, value_of}
use Rattle.rewrite.specs.Following.{sequential}
use Rattle.nest.specs.Bodies.{loops_in_parts, loops_of, nest_loops}
use Rattle.nest.specs.Plain.{Choice, Jump, Label, Loop, Nest, Part, Parts, Run, Turns, no_parts, part}
use Rattle.nest.specs.declared.parts.Trip.{Trip}
use Rattle.nest_order.proofs.orders.Lists.{In-append, In-left, In-right}
use Rattle.nest_order.proofs.runs.Alike.{Alike, value_alike}
use Rattle.nest_order.proofs.runs.Variables.{cell_name, scalar_place}
use Rattle.nest_order.specs.orders.Lists.{In}
use Rattle.nest_steps.specs.Rounds.{Hold}
use Rattle.nest_steps.specs.Statements.{cell_of}
use Rattle.last_values.specs.normal_forms.NormalLoops.{has_no_loops}
use Rattle.last_values.specs.normal_forms.Texts.{trip_text}
use Rattle.pass_laws.proofs.NormalFacts.Tables.{each_asked}
use Rattle.pass_laws.proofs.PreparedNests.Lists.{some_of}
use Rattle.pass_laws.proofs.PreparedNests.Walks.{walked}
use Rattle.pass_laws.specs.prepared_nests.Loops.{IsPreparedLoop, IsPreparedTrip, variables_of_loops}
use Rattle.pass_laws.specs.prepared_nests.Nests.{IsPrepared}
use Rattle.scalar_expand.specs.Endings.{TellTurns, TextsTell}
use Rattle.scalar_expand.specs.Expanded.{trip_expression}
use Rattle.scalar_expand.specs.Flow.{Counts, EachLoop, EachLoopIn}
use Rattle.scalar_expand.specs.Laws.{IsExpandable}
use Rattle.scalar_expand.specs.Privates.{private_scalars, trip_or_none}
use Rattle.scalar_expand.specs.declared.privates.Private.{Private}
use Rattle.scalar_expand.specs.declared.privates.RoundLoop.{RoundLoop}
use Rattle.prepared_passes.proofs.ArrangedNests.Names.{text_alone}
use Rattle.prepared_passes.proofs.ExpandedNests.Round.{round_loop_is}
use Rattle.prepared_passes.proofs.SymbolsAnew.Names.{absent, is_in, member}
use Rattle.prepared_passes.specs.expansion.Laws.{MayBeExpanded}

-- names that stand in trips have the numbers that they had
abbrev pub AreKept : Nest → (List ℕ → ℤ) → (List ℕ → ℤ) → Type 0
AreKept m was value = (z : List ℕ) (l : Loop) → In l (nest_loops m) → In z (names_in l.last) → value z ≡ was z

each_name : (P : List ℕ → Type 0) (xs : List (List ℕ)) → ((x : List ℕ) → In x xs → P x) → AllByRecursion P xs
each_name P [] f = tt
each_name P (x ∷ xs) f = (f x (inl refl), each_name P xs (λ y i. f y (inr i)))

module _ (m : Nest) (was value : List ℕ → ℤ) (kept : (z : List ℕ) (l : Loop) → In l (nest_loops m) → In z (names_in l.last) → value z ≡ was z) where
  -- ---- the store in which the symbols hold what they held

  abbrev once : Store → Store
  once s = record { bounds = s.bounds; held = λ c. cond (is_among m.symbols c.name) (Int (was c.name)) (s.held c) }

  module _ (s : Store) (fixed : (z : List ℕ) → In z m.symbols → (s.bounds z ≡ Some []) × (s.held (cell_of z) ≡ Int (value z))) where
    fixed_once : (z : List ℕ) → In z m.symbols → (s.bounds z ≡ Some []) × (cond (is_among m.symbols z) (Int (was z)) (s.held (cell_of z)) ≡ Int (was z))
    fixed_once z i = ((fixed z i).0, ap (λ b. cond b (Int (was z)) (s.held (cell_of z))) (member m.symbols z i))

    held_once : (l : Loop) → In l (nest_loops m) → (z : List ℕ) → In z (names_in l.last) → (is : List ℤ) (c : Cell) → cell_at z is s ≡ Ok c
        → (b : Bool) → is_among m.symbols c.name ≡ b → s.held c ≡ cond b (Int (was c.name)) (s.held c)
    held_once l i z j is c e false f = refl
    held_once l i z j is c e true f =
        let name : c.name ≡ z = (cell_name (s.bounds z) z is c e).0 in
        let h = fixed z (subst (λ y. In y m.symbols) name (is_in m.symbols c.name f)) in
        let one : c ≡ cell_of z = scalar_place (s.bounds z) z is c h.0 e in
        ap s.held one ∙ (h.1 ∙ (ap Int (kept z l i j) ∙ ap (λ y. Int (was y)) (sym name)))

    -- what stands in a trip
    alike_once : (bits : ℕ) (l : Loop) → In l (nest_loops m) → (z : List ℕ) → In z (names_in l.last) → Alike bits s (once s) z
    alike_once bits l i z j = (refl, λ is c e. held_once l i z j is c e (is_among m.symbols c.name) refl)

    trip_once : (bits : ℕ) (l : Loop) → In l (nest_loops m) → value_of (sequential bits) l.last s ≡ value_of (sequential bits) l.last (once s)
    trip_once bits l i = value_alike bits s (once s) l.last (each_name (Alike bits s (once s)) (names_in l.last) (alike_once bits l i))

    number_once : (bits : ℕ) (l : Loop) → In l (nest_loops m) → number_of (sequential bits) l.last s ≡ number_of (sequential bits) l.last (once s)
    number_once bits l i = ap (λ (r : Result Value Fault). do v ← r; as_number v) (trip_once bits l i)

  -- ---- loops

  module _ (bits : ℕ) (counters : List (List ℕ)) (trip : List ℕ → Loop → ℕ) (apart : (z : List ℕ) → In z m.symbols → ¬ In z counters) where
    abbrev Counted : List Loop → Type 0
    Counted ls = (o : Loop) → In o ls → In o.variable counters

    hold_once : (s : Store) (ls : List Loop) (is : List ℕ) → Counted ls → Hold ls is s → Hold ls is (once s)
    hold_once s [] [] counted h = h
    hold_once s [] (i ∷ is) counted h = h
    hold_once s (l ∷ ls) [] counted h = h
    hold_once s (l ∷ ls) (i ∷ is) counted h = (
      ap (λ b. cond b (Int (was l.variable)) (s.held (cell_of l.variable))) (absent m.symbols l.variable (λ j. apart l.variable j (counted l (inl refl)))) ∙ h.0,
      hold_once s ls is (λ o j. counted o (inr j)) h.1,
    )

    abbrev CountsWas : List Loop → Loop → Type 0
    CountsWas = Counts (private_scalars m) m.symbols (λ z. In z counters) bits was trip

    abbrev CountsNow : List Loop → Loop → Type 0
    CountsNow = Counts (private_scalars m) m.symbols (λ z. In z counters) bits value trip

    counts_now : (ls : List Loop) (l : Loop) → In l (nest_loops m) → Counted ls → CountsWas ls l → CountsNow ls l
    counts_now ls l i counted c = record {
      first = c.first;
      step = c.step;
      counter = c.counter;
      own = c.own;
      last = c.last;
      turns = λ is s z n holds hold e f.
          c.turns is (once s) z n (record { counters = holds.counters; fixed = fixed_once s holds.fixed }) (hold_once s ls is counted hold)
          (sym (number_once s holds.fixed bits l i) ∙ e) f;
    }

    more_counted : (ls : List Loop) (l : Loop) → Counted ls → In l.variable counters → Counted (ls ++ l ∷ [])
    more_counted ls l counted c o i = by (In-append o ls (l ∷ []) i)
      where
        by : In o ls ⊎ In o (l ∷ []) → In o.variable counters
        by (inl j) = counted o j
        by (inr (inl e)) = subst (λ (x : Loop). In x.variable counters) (sym e) c
        by (inr (inr j)) = absurd j

    mutual
      each_now : (ls : List Loop) (q : Part) → ((o : Loop) → In o (loops_of q) → In o (nest_loops m)) → Counted ls → EachLoop CountsWas ls q → EachLoop CountsNow ls q
      each_now ls (Run g) among counted h = tt
      each_now ls (Turns l qs) among counted h = (
        counts_now ls l (among l (inl refl)) counted h.0,
        each_in_now (ls ++ l ∷ []) qs (λ o i. among o (inr i)) (more_counted ls l counted h.0.counter) h.1,
      )
      each_now ls (Choice bs qs) among counted h = absurd h
      each_now ls (Label n) among counted h = absurd h
      each_now ls (Jump n) among counted h = absurd h

      each_in_now : (ls : List Loop) (qs : Parts) → ((o : Loop) → In o (loops_in_parts qs) → In o (nest_loops m)) → Counted ls → EachLoopIn CountsWas ls qs → EachLoopIn CountsNow ls qs
      each_in_now ls no_parts among counted h = tt
      each_in_now ls (part q qs) among counted h = (
        each_now ls q (λ o i. among o (In-left o (loops_of q) (loops_in_parts qs) i)) counted h.0,
        each_in_now ls qs (λ o i. among o (In-right o (loops_of q) (loops_in_parts qs) i)) counted h.1,
      )

  -- the nest has what its loops need
  pub expandable_now : (bits : ℕ) (limits : Private → List (ℤ × ℤ)) (lasts : Private → List ℕ) (counters : List (List ℕ)) (trip : List ℕ → Loop → ℕ)
      → IsExpandable bits m limits lasts counters was trip → IsExpandable bits m limits lasts counters value trip
  expandable_now bits limits lasts counters trip e = record {
    loop = e.loop;
    body = e.body;
    turns = e.turns;
    loops = each_now bits counters trip (λ z i. (e.names.free z i).2) [] m.body (λ o i. i) (λ o i. absurd i) e.loops;
    once = e.once;
    statements = e.statements;
    names = record {
      named = e.names.named;
      apart = e.names.apart;
      counters = e.names.counters;
      free = e.names.free;
      loops = e.names.loops;
      own = e.names.own;
    };
    cover = e.cover;
    end = e.end;
    steady = e.steady;
  }

  -- ---- texts of trips

  told_now : (bits : ℕ) (u : Store) (fixed : (z : List ℕ) → In z m.symbols → (u.bounds z ≡ Some []) × (u.held (cell_of z) ≡ Int (value z))) (ls : List RoundLoop) (is : List ℕ)
      → ((l : RoundLoop) → In l ls → value_of (sequential bits) (trip_expression m.symbols l) u ≡ value_of (sequential bits) (trip_expression m.symbols l) (once u))
      → TellTurns bits m.symbols (once u) ls is → TellTurns bits m.symbols u ls is
  told_now bits u fixed [] [] f h = h
  told_now bits u fixed [] (i ∷ is) f h = h
  told_now bits u fixed (l ∷ ls) [] f h = h
  told_now bits u fixed (l ∷ ls) (i ∷ is) f h = (
    (h.0.0, f l (inl refl) ∙ h.0.1, h.0.2),
    h.1,
    told_now bits u fixed ls is (λ k j. f k (inr j)) h.2,
  )

  module _ (bits : ℕ) (es : List Declaration) (around : List (List ℕ)) (deepest : ℕ) (h : IsPrepared es around deepest m) (may : MayBeExpanded es m) where
    record IsLast (l : RoundLoop) : Type 0 where
      loop : Loop
      inside : In loop (nest_loops m)
      text : loop.last ≡ trip_expression m.symbols l

    last_of : (p : Private) → In p (private_scalars m) → (l : RoundLoop) → In l p.loops → has_no_loops l.trip.top ≡ true → IsLast l
    last_of p i l j none =
        let o = round_loop_is es around deepest m h may p i l j in
        let r = each_asked (IsPreparedLoop es m.symbols) (nest_loops m) [] m.body h.plain (walked (IsPreparedLoop es m.symbols) [] m.body h.parts.loops) o.0 o.1 in
        let t = some_of (IsPreparedTrip (variables_of_loops r.round) m.symbols o.0.last) o.0.trip r.asked.trip in
        let same : l.trip ≡ t.value = ap (λ (k : RoundLoop). k.trip) o.2 ∙ ap trip_or_none t.is in
        record {
          loop = o.0;
          inside = o.1;
          text =
              t.has.text ∙ (text_alone (variables_of_loops r.round) m.symbols t.value (subst (λ (x : Trip). has_no_loops x.top ≡ true) same none)
              ∙ ap (λ (x : Trip). trip_text [] m.symbols [] x) (sym same));
        }

    each_known : (ls : List RoundLoop) (l : RoundLoop) → In l ls → list_all (λ (k : RoundLoop). has_no_loops k.trip.top) ls ≡ true → has_no_loops l.trip.top ≡ true
    each_known [] l i e = absurd i
    each_known (k ∷ ls) l (inl f) e =
        subst (λ (x : RoundLoop). has_no_loops x.trip.top ≡ true) (sym f)
        (both (has_no_loops k.trip.top) (list_all (λ (x : RoundLoop). has_no_loops x.trip.top) ls) e).0
    each_known (k ∷ ls) l (inr j) e = each_known ls l j (both (has_no_loops k.trip.top) (list_all (λ (x : RoundLoop). has_no_loops x.trip.top) ls) e).1

    pub tell_now : (lasts : Private → List ℕ) → TextsTell bits m lasts was → TextsTell bits m lasts value
    tell_now lasts tell u hold p i known =
        told_now bits u hold p.loops (lasts p)
        (λ l j. (let o = last_of p i l j (each_known p.loops l j known) in
        subst (λ e. value_of (sequential bits) e u ≡ value_of (sequential bits) e (once u)) o.text (trip_once u hold bits o.loop o.inside)))
        (tell (once u) (fixed_once u hold) p i known)
