-- The last values behind the loops of an expanded nest.
use Rattle.std.proofs.Common.{◌≡◌, refl, sym, ap, ap₂, ◌∙◌, ◌⊎◌, inl, inr, subst, ℕ, zero, suc, ◌+◌, ◌≤◌, ℤ, pos, negsuc, Bool, true, false, ◌&&◌, cond, List, [], ◌∷◌, ◌++◌, map, arith, Result, Ok, Some, None}
use mathlib.Core.List.{reverse_aux}
use Rattle.std.specs.Prelude.{int_le}
use Rattle.std.proofs.lemmas.Bool.{le-leb}
use Rattle.tree.specs.Steps as results
use Rattle.tree.specs.Steps.{◌>>=◌}
use Rattle.tree.specs.Operators.{apply, as_number, as_truth}
use Rattle.tree.specs.Plain.{Expression, Binary, If, arm, no_arms, Block, no_statements, Statement, Subscript, subscripts, block}
use Rattle.tree.specs.declared.ops.Fault.{Fault}
use Rattle.tree.specs.declared.ops.Op.TheVariants.{And, Ge}
use Rattle.tree.specs.declared.ops.Value.{Value}
use Rattle.tree.specs.declared.ops.Value.TheVariants.{Int, Truth}
use Rattle.meaning.specs.Run.{Act, State, Going, does, does_all, either, nothing, while_going, evaluates, counts_step}
use Rattle.meaning.specs.Store.{Store, Cell, cell_at, is_within}
use Rattle.meaning.specs.Value.{is_in_range, subscript_value, subscript_values, truth_of, value_of}
use Rattle.rewrite.specs.Following.{sequential}
use Rattle.nest.specs.Bodies.{nest_statements}
use Rattle.nest.specs.Plain.{Loop, Nest}
use Rattle.nest_order.specs.orders.Lists.{Each, In}
use Rattle.nest_order.proofs.runs.Variables.{place_of}
use Rattle.nest_steps.specs.Leading.{Led}
use Rattle.nest_steps.specs.Statements.{cell_of}
use Rattle.nest_steps.proofs.Acts.{Goes}
use Rattle.nest_steps.proofs.Assigning.{second_assignment}
use Rattle.last_values.specs.Endings.{all_hold, where_all_hold}
use Rattle.last_values.specs.Scalars.{scalar}
use Rattle.last_values.specs.normal_forms.NormalLoops.{is_positive}
use Rattle.last_values.specs.normal_forms.Texts.{at_least_one}
use Rattle.scalar_expand.specs.Endings.{HoldSymbols, LastValuesGoOn, TellTurns}
use Rattle.scalar_expand.specs.Expanded.{as_expression, has_known_end, trip_expression, known_trip_at, last_assignment, last_element, last_value, last_values, trip_tests}
use Rattle.scalar_expand.specs.Flow.{AreTurns, lasts_of}
use Rattle.scalar_expand.specs.Laws.{IsKept, own_of}
use Rattle.scalar_expand.specs.Numbers.{turns_to}
use Rattle.scalar_expand.specs.Privates.{names_written, private_among, private_scalars, round_loop}
use Rattle.scalar_expand.specs.Stores.{AreApart, AreSo, IsFront, all_at, element_cell, numbers}
use Rattle.scalar_expand.specs.declared.privates.Private.{Private}
use Rattle.scalar_expand.specs.declared.privates.RoundLoop.{RoundLoop}
use Rattle.scalar_expand.proofs.Bodies.{Goes-nothing, Goes-then, Goes-to, tagged}
use Rattle.scalar_expand.proofs.Changes.{copied_back}
use Rattle.scalar_expand.proofs.Places.{element_there}
use Rattle.scalar_expand.proofs.PrivateLaws.{first_begins, has_first}
use Rattle.scalar_expand.proofs.Theorems.{in_declared, in_privates}

-- ---- turns

abbrev has_turn : ℕ → Bool
has_turn zero = false
has_turn (suc k) = true

abbrev all_turn : List ℕ → Bool
all_turn [] = true
all_turn (i ∷ is) = has_turn i && all_turn is

each_turn : (is : List ℕ) → all_turn is ≡ true → Each (λ i. 1 ≤ i) is
each_turn [] h = tt
each_turn (zero ∷ is) h = cc
each_turn (suc k ∷ is) h = (omega arith, each_turn is h)

none_turns : (is : List ℕ) → all_turn is ≡ false → In 0 is
none_turns [] h = cc
none_turns (zero ∷ is) h = inl refl
none_turns (suc k ∷ is) h = inr (none_turns is h)

turn_of : (i : ℕ) → 1 ≤ i → has_turn i ≡ true
turn_of zero h = absurd (omega (arith, h))
turn_of (suc k) h = refl

at_least : (z : ℤ) → int_le (pos 1) z ≡ has_turn (turns_to z)
at_least (pos zero) = refl
at_least (pos (suc k)) = le-leb 1 (suc k) (omega arith)
at_least (negsuc k) = refl

whole : (z : ℤ) (i : ℕ) → turns_to z ≡ i → 1 ≤ i → z ≡ pos i
whole (pos k) i e h = ap pos e
whole (negsuc k) i e h = absurd (omega (arith, e, h))

front : (is : List ℕ) → IsFront [] is
front is = tt

-- last iterations are turns
lasts_turn : (trip : List ℕ → Loop → ℕ) (done : List ℕ) (ls : List Loop) → Each (λ i. 1 ≤ i) (lasts_of trip done ls) → AreTurns trip done ls (lasts_of trip done ls)
lasts_turn trip done [] h = tt
lasts_turn trip done (l ∷ ls) h = (h.0, omega arith, lasts_turn trip (done ++ trip done l ∷ []) ls h.1)

-- ---- tests

abbrev ands : List Bool → Bool
ands [] = true
ands (b ∷ bs) = b && ands bs

module _ (bits : ℕ) where
  abbrev lang : Rattle.meaning.specs.Dialect.Dialect
  lang = sequential bits

  abbrev moved : State → ℕ → State
  moved s k = record s { steps = k; way = Going }

  chooses_at : (line : ℕ) (test : Expression) (body : Block) (s : State) (b : Bool) → s.way ≡ Going → truth_of lang test s.store ≡ Ok b
      → does lang None (If line (arm test body no_arms) no_statements) s ≡ either b (does_all lang None body) nothing (moved s (s.steps + 1))
  unfolding while_going evaluates counts_step
  chooses_at line test body s b w f = rw (w, f) refl

  abbrev AreTrue : Store → List Expression → List Bool → Type 0
  AreTrue u [] [] = Unit {0}
  AreTrue u (t ∷ ts) (b ∷ bs) = (value_of lang t u ≡ Ok (Truth b)) × AreTrue u ts bs
  AreTrue u _ _ = ⊥

  and_grouped : (a b c : Bool) → ((a && b) && c) ≡ (a && (b && c))
  and_grouped true b c = refl
  and_grouped false b c = refl

  all_hold_value : (u : Store) (e : Expression) (ts : List Expression) (b : Bool) (bs : List Bool) → value_of lang e u ≡ Ok (Truth b) → AreTrue u ts bs → value_of lang (all_hold e ts) u ≡ Ok (Truth (b && ands bs))
  all_hold_value u e [] b [] h k = h ∙ ap (λ c. Ok (Truth c)) (one b)
    where
      one : (b : Bool) → b ≡ (b && true)
      one true = refl
      one false = refl
  all_hold_value u e [] b (c ∷ bs) h k = absurd k
  all_hold_value u e (t ∷ ts) b [] h k = absurd k
  all_hold_value u e (t ∷ ts) b (c ∷ bs) h k =
      all_hold_value u (Binary And e t) ts (b && c) bs
      (ap (λ q. results.◌>>=◌ q (λ x. results.◌>>=◌ (value_of lang t u) (λ y. apply And x y))) h ∙ ap (λ q. results.◌>>=◌ q (λ y. apply And (Truth b) y)) k.0) k.1
      ∙ ap (λ c. Ok (Truth c)) (and_grouped b c (ands bs))

  at_least_value : (u : Store) (e : Expression) (z : ℤ) → value_of lang e u ≡ Ok (Int z) → value_of lang (at_least_one e) u ≡ Ok (Truth (has_turn (turns_to z)))
  at_least_value u e z h = ap (λ q. results.◌>>=◌ q (λ x. apply Ge x (Int (pos 1)))) h ∙ ap (λ b. Ok (Truth b)) (at_least z)

  -- under the tests, if there are any
  record Where (line : ℕ) (ts : List Expression) (b : Bool) (cs : List Statement) (s : State) : Type 0 where
    steps : ℕ
    is : does_all lang None (block (where_all_hold line ts cs)) s ≡ either b (does_all lang None (block cs)) nothing (moved s steps)

  where_goes : (line : ℕ) (ts : List Expression) (bs : List Bool) (cs : List Statement) (s : State) → s.way ≡ Going → AreTrue s.store ts bs → Where line ts (ands bs) cs s
  where_goes line [] [] cs s w k = record { steps = s.steps; is = ap (does_all lang None (block cs)) (same s w) }
    where
      same : (s : State) → s.way ≡ Going → s ≡ moved s s.steps
      same s w = ap (λ w. let t : State = record s { way = w } in t) w
  where_goes line [] (b ∷ bs) cs s w k = absurd k
  where_goes line (t ∷ ts) [] cs s w k = absurd k
  where_goes line (t ∷ ts) (b ∷ bs) cs s w k = record {
    steps = s.steps + 1;
    is = chooses_at line (all_hold t ts) (block cs) s (b && ands bs) w (ap (λ q. results.◌>>=◌ q as_truth) (all_hold_value s.store t ts b bs k.0 k.1));
  }

  does_both : (xs ys : List Statement) (s : State) → does_all lang None (block (xs ++ ys)) s ≡ does_all lang None (block ys) (does_all lang None (block xs) s)
  does_both [] ys s = refl
  does_both (x ∷ xs) ys s = does_both xs ys (does lang None x s)

  -- ---- texts

  module _ (symbols : List (List ℕ)) (u : Store) where
    record AreTests (ls : List RoundLoop) (is : List ℕ) : Type 0 where
      truths : List Bool
      are : AreTrue u (trip_tests symbols ls) truths
      all : ands truths ≡ all_turn is

    tests : (ls : List RoundLoop) (is : List ℕ) → TellTurns bits symbols u ls is → AreTests ls is
    tests [] [] h = record { truths = []; are = tt; all = refl }
    tests [] (i ∷ is) h = absurd h
    tests (l ∷ ls) [] h = absurd h
    tests (l ∷ ls) (i ∷ is) h = by (tests ls is h.2) (is_positive l.trip) refl
      where
        by : AreTests ls is → (b : Bool) → is_positive l.trip ≡ b → AreTests (l ∷ ls) (i ∷ is)
        by rest true e = record {
          truths = rest.truths;
          are = subst (λ b. AreTrue u (cond b [] (at_least_one (trip_expression symbols l) ∷ []) ++ trip_tests symbols ls) rest.truths) (sym e) rest.are;
          all = rest.all ∙ ap (λ b. b && all_turn is) (sym (turn_of i (h.1 e)));
        }
        by rest false e = record {
          truths = has_turn i ∷ rest.truths;
          are = subst (λ b. AreTrue u (cond b [] (at_least_one (trip_expression symbols l) ∷ []) ++ trip_tests symbols ls) (has_turn i ∷ rest.truths)) (sym e)
              (at_least_value u (trip_expression symbols l) h.0.0 h.0.1 ∙ ap (λ k. Ok (Truth (has_turn k))) h.0.2, rest.are);
          all = ap (λ b. has_turn i && b) rest.all;
        }

    values_onto : (ls : List RoundLoop) (is : List ℕ) (qs : List Subscript) (zs : List ℤ) → TellTurns bits symbols u ls is → Each (λ i. 1 ≤ i) is → subscript_values lang (subscripts qs) u ≡ Ok zs
        → subscript_values lang (subscripts (reverse_aux (map (known_trip_at symbols) ls) qs)) u ≡ Ok (reverse_aux (map pos is) zs)
    values_onto [] [] qs zs h k e = e
    values_onto [] (i ∷ is) qs zs h k e = absurd h
    values_onto (l ∷ ls) [] qs zs h k e = absurd h
    values_onto (l ∷ ls) (i ∷ is) qs zs h k e =
        let one : subscript_value lang (known_trip_at symbols l) u ≡ Ok (pos i) = ap (λ (r : Result Value Fault). do v ← r; as_number v) (h.0.1 ∙ ap (λ z. Ok (Int z)) (whole h.0.0 i h.0.2 k.0)) in
        values_onto ls is (known_trip_at symbols l ∷ qs) (pos i ∷ zs) h.2 k.1
        (ap₂ (λ (r : Result ℤ Fault) (q : Result (List ℤ) Fault). do z ← r; ys ← q; Ok (z ∷ ys)) one e)

    last_held : (p : Private) (is : List ℕ) (bs : List (ℤ × ℤ)) → TellTurns bits symbols u p.loops is → Each (λ i. 1 ≤ i) is → u.bounds p.array ≡ Some bs → is_within bs (numbers is) ≡ true
        → value_of lang (as_expression (last_element symbols p)) u ≡ Ok (u.held (element_cell p is))
    last_held p is bs h k b w =
        ap (λ (r : Result (List ℤ) Fault). do zs ← r; c ← cell_at p.array zs u; Ok (u.held c)) (values_onto p.loops is [] [] h k refl)
        ∙ ap (λ (r : Result Cell Fault). do c ← r; Ok (u.held c)) (element_there bits u p is bs b w)

  -- ---- scalars

  module _ (line : ℕ) (ps own : List Private) (limits : Private → List (ℤ × ℤ)) (lasts : Private → List ℕ) (symbols : List (List ℕ)) (value : List ℕ → ℤ) (IsCounter : List ℕ → Type 0)
      (names : AreApart bits ps limits lasts symbols value IsCounter (λ p. In p own)) (all : (p : Private) → In p own → In p ps)
      (within : (p : Private) → In p ps → Each (λ i. 1 ≤ i) (lasts p) → is_within (limits p) (numbers (lasts p)) ≡ true)
      (tell : (u : Store) → HoldSymbols symbols value u → (p : Private) → In p ps → has_known_end p ≡ true → TellTurns bits symbols u p.loops (lasts p)) where
    abbrev So : (Private → Type 0) → Store → Store → Type 0
    So K = AreSo bits ps limits lasts symbols value IsCounter (λ p. In p own) [] [] [] (all_at [] ps) K

    kept_less : (K J : Private → Type 0) → ((q : Private) → J q → K q) → (s u : Store) → So K s u → So J s u
    kept_less K J less s u h = record { beside = h.beside; turned = h.turned; elements = h.elements; passed = h.passed; kept = λ q i k. h.kept q i (less q k) }

    hold : (K : Private → Type 0) (s u : Store) → So K s u → HoldSymbols symbols value u
    hold K s u h z i =
        let n = names.free z i in
        let f = h.beside.fixed z i in
        (h.beside.bounds z n.0 n.1 ∙ f.0, h.beside.held (cell_of z) n.0 n.1 ∙ f.1)

    module _ (p : Private) (i : In p own) (K : Private → Type 0) (more : (q : Private) → IsKept own lasts q → K q) where
      abbrev Now : Private → Type 0
      Now q = K q ⊎ (q ≡ p)

      abbrev act : Act
      act = does lang None (last_assignment symbols line p)

      -- what is kept already
      stays : IsKept own lasts p → (q : Private) → Now q → K q
      stays k q (inl j) = j
      stays k q (inr e) = subst K (sym e) (more p k)

      assigns : has_known_end p ≡ true → all_turn (lasts p) ≡ true → Goes (So K) (So Now) (does lang None (last_assignment symbols line p))
      assigns e t = second_assignment bits (So K) (So Now) line None (scalar p.name) (as_expression (last_element symbols p))
          (λ s u h.
          let low = each_turn (lasts p) t in
          let last = (h.passed (p, []) (tagged [] ps p (all p i))).same (front (lasts p)) low in (
            u.held (element_cell p (lasts p)),
            cell_of p.name,
            last_held symbols u p (lasts p) (limits p) (tell u (hold K s u h) p (all p i) e) low (h.beside.arrays p (all p i)) (within p (all p i) low),
            place_of p.name u (h.beside.own p (all p i) i),
            ap (is_in_range bits) last.0 ∙ last.1,
            copied_back bits ps limits lasts symbols value IsCounter (λ p. In p own) names [] [] [] (all_at [] ps) K Now p (u.held (element_cell p (lasts p))) s u (all p i) i last.0 (λ q j k. k) h,
          ))

      under_tests : has_known_end p ≡ true → Goes (So K) (So Now) (does_all lang None (block (where_all_hold line (trip_tests symbols p.loops) (last_assignment symbols line p ∷ []))))
      under_tests e = record {
        at = λ s u n w h.
            let t : State = record s { store = u; steps = n } in
            let a = tests symbols u p.loops (lasts p) (tell u (hold K s.store u h) p (all p i) e) in
            let g = where_goes line (trip_tests symbols p.loops) a.truths (last_assignment symbols line p ∷ []) t w a.are in
            subst (λ (r : State). Led (So Now) s r) (sym g.is) (chosen s u g.steps w h (ands a.truths) (sym a.all));
      }
        where
          chosen : (s : State) (u : Store) (k : ℕ) → s.way ≡ Going → So K s.store u → (b : Bool) → all_turn (lasts p) ≡ b
              → Led (So Now) s (either b (does_all lang None (block (last_assignment symbols line p ∷ []))) nothing (record s { store = u; steps = k; way = Going }))
          chosen s u k w h true t =
              subst (λ y. Led (So Now) s (does lang None (last_assignment symbols line p) (record s { store = u; steps = k; way = y }))) w ((assigns e t).at s u k w h)
          chosen s u k w h false t = record {
            stores = kept_less K Now (stays (i, inr (none_turns (lasts p) t))) s.store u h;
            rest = ap (λ y. let r : State = record s { store = u; steps = k; way = y } in r) (sym w);
            going = w;
          }

      one_goes : Goes (So K) (So Now) (does_all lang None (block (last_value symbols line p)))
      one_goes = by (has_known_end p) refl
        where
          by : (b : Bool) → has_known_end p ≡ b → Goes (So K) (So Now) (does_all lang None (block (cond b (where_all_hold line (trip_tests symbols p.loops) (last_assignment symbols line p ∷ [])) [])))
          by true e = under_tests e
          by false e = Goes-nothing (So K) (So Now) (kept_less K Now (stays (i, inl e)))

    abbrev Also : List Private → (Private → Type 0) → Private → Type 0
    Also os K q = K q ⊎ In q os

    all_go : (os : List Private) → ((p : Private) → In p os → In p own) → (K : Private → Type 0) → ((q : Private) → IsKept own lasts q → K q)
        → Goes (So K) (So (Also os K)) (does_all lang None (block (last_values symbols line os)))
    all_go [] own' K more = Goes-nothing (So K) (So (Also [] K)) (kept_less K (Also [] K) (λ q k. by q k))
      where
        by : (q : Private) → Also [] K q → K q
        by q (inl k) = k
        by q (inr j) = absurd j
    all_go (p ∷ os) own' K more = record {
      at = λ s u n w h.
          subst (λ (r : State). Led (So (Also (p ∷ os) K)) s r) (sym (does_both (last_value symbols line p) (last_values symbols line os) (record s { store = u; steps = n })))
          ((both (all_go os (λ q j. own' q (inr j)) (λ q. K q ⊎ (q ≡ p)) (λ q k. inl (more q k)))).at s u n w h);
    }
      where
        Now : Private → Type 0
        Now q = K q ⊎ (q ≡ p)

        to : (q : Private) → Also (p ∷ os) K q → Also os Now q
        to q (inl k) = inl (inl k)
        to q (inr (inl e)) = inl (inr e)
        to q (inr (inr j)) = inr j

        both : Goes (So Now) (So (Also os Now)) (does_all lang None (block (last_values symbols line os)))
            → Goes (So K) (So (Also (p ∷ os) K)) (λ r. does_all lang None (block (last_values symbols line os)) (does_all lang None (block (last_value symbols line p)) r))
        both rest = Goes-then (So K) (So Now) (So (Also (p ∷ os) K)) (does_all lang None (block (last_value symbols line p))) (does_all lang None (block (last_values symbols line os)))
            (one_goes p (own' p (inl refl)) K more)
            (Goes-to (So Now) (So (Also os Now)) (So (Also (p ∷ os) K)) _ (kept_less (Also os Now) (Also (p ∷ os) K) to) rest)

-- ---- nests

loops_of : (m : Nest) (p : Private) → In p (private_scalars m) → (ls : List Loop) × (p.loops ≡ map round_loop ls)
loops_of m p i =
    let e = in_privates m (names_written [] (nest_statements m)) p i in
    let f = has_first m p.name p (nest_statements m) e in
    let o = first_begins m p.name p f.before f.standing f.behind (ap (private_among m p.name) (sym f.splits) ∙ e) f.none f.stands in
    (f.standing.loops, o.1.loops)

pub last_values_go_on : LastValuesGoOn
last_values_go_on bits m limits lasts counters value trip s u n is tell going alike =
    (Goes-to (So Kept) (So (Also bits m.line (private_scalars m) (own_of m) limits lasts m.symbols value IsCounter is.names declared within tell (own_of m) Kept)) (So (λ p. In p (own_of m))) _
    (kept_less bits m.line (private_scalars m) (own_of m) limits lasts m.symbols value IsCounter is.names declared within tell _ (λ p. In p (own_of m)) (λ q i. inr i))
    (all_go bits m.line (private_scalars m) (own_of m) limits lasts m.symbols value IsCounter is.names declared within tell (own_of m) (λ p i. i) Kept (λ q k. k))).at s u n going alike
  where
    IsCounter : List ℕ → Type 0
    IsCounter z = In z counters

    Kept : Private → Type 0
    Kept = IsKept (own_of m) lasts

    So : (Private → Type 0) → Store → Store → Type 0
    So K = AreSo bits (private_scalars m) limits lasts m.symbols value IsCounter (λ p. In p (own_of m)) [] [] [] (all_at [] (private_scalars m)) K

    declared : (p : Private) → In p (own_of m) → In p (private_scalars m)
    declared = in_declared (private_scalars m) m.declarations

    within : (p : Private) → In p (private_scalars m) → Each (λ i. 1 ≤ i) (lasts p) → is_within (limits p) (numbers (lasts p)) ≡ true
    within p i low =
        let o = loops_of m p i in
        let e = is.end p i o.0 o.1 in
        is.cover p i o.0 o.1 (lasts p) (subst (λ js. AreTurns trip [] o.0 js) (sym e) (lasts_turn trip [] o.0 (subst (λ js. Each (λ i. 1 ≤ i) js) e low)))
