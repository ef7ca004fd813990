-- A nest in which all inductions of its outermost loop are substituted at once leads on beside the nest.
use Rattle.std.proofs.Common.{◌≡◌, refl, sym, ap, ◌∙◌, ap₂, subst, ◌⊎◌, inl, inr, ℕ, zero, suc, ◌+◌, ◌≤◌, ◌<◌, ◌^◌, ◌==◌, ℤ, pos, ◌+ℤ◌, ◌-ℤ◌, ◌*ℤ◌, Bool, true, false, cond, not, ◌&&◌, ◌||◌, List, [], ◌∷◌, ◌++◌, map, Result, Ok, Option, Some, None, arith}
use Rattle.std.specs.Prelude.{IsTrue, is_some, nat_abs, nat_le}
use Rattle.std.specs.List.{AllByRecursion}
use Rattle.std.specs.Str.{bytes_eq}
use Rattle.std.specs.Cmp.Lexicographic.{pointwise}
use Rattle.std.specs.Ordering.{int_eq}
use Rattle.std.proofs.lemmas.Bool.Decides.{nat_tests}
use Rattle.std.proofs.lemmas.Int.{ints}
use Rattle.std.proofs.lemmas.Slice.Eq.{bytes_eq-Decides}
use Rattle.std.proofs.Math.IntN.{*ℤ-zero}
use Rattle.tree.specs.Steps.{◌>>=◌}
use Rattle.tree.specs.declared.ops.Fault.{Fault}
use Rattle.tree.specs.declared.ops.Value.{Value}
use Rattle.tree.specs.declared.ops.Value.TheVariants.{Int}
use Rattle.tree.specs.Plain.{Expression, Number, Logic, Named, Unary, Binary, Apply, Constructor, Spread, Transpose, Reshape, Reduce, Reference, Assignment, Subscripts, no_subscripts, subscript}
use Rattle.meaning.specs.Reads.{names_in}
use Rattle.meaning.specs.Run.{State, nothing, does, does_all}
use Rattle.meaning.specs.Store.{Store, Cell, put, same_cell, cell_at, cell_in, cells_of, bounds_in, is_within}
use Rattle.meaning.specs.Value.{value_of, number_of, subscript_values, item_values, is_in_range, trip_count}
use Rattle.meaning.proofs.Columns.{cells-within}
use Rattle.rewrite.specs.Following.{IsSound, sequential}
use Rattle.rewrite.specs.Suits.{SuitsStatement}
use Rattle.rewrite.specs.Rule.{IsRule, HaveInCommon, Assigned, value_between}
use Rattle.rewrite.proofs.Values.{cell_in-named, joined, parted, single_item}
use Rattle.rewrite.proofs.Replacing.{both_true, not_true, bytes_eq-false, either_false}
use Rattle.linear_forms.specs.Laws.{HoldsSized}
use Rattle.nest.specs.Blocks.{block_of_parts, guarded_statement, statement_of_part}
use Rattle.nest.specs.Plain.{Loop, Guarded, Part, Run, Turns, Choice, Label, Jump, Parts, no_parts, part, parts}
use Rattle.nest_steps.specs.Leading.{Led, Leads}
use Rattle.nest_steps.specs.Mapped.{count_in, count_of, mapped_parts_of, AllLead, AllLeadIn}
use Rattle.nest_steps.specs.Rounds.{Hold, InLoops, IsSteady, Turning}
use Rattle.nest_steps.specs.Statements.{cell_of, with_making}
use Rattle.nest_steps.proofs.Acts.{Leads-from, Leads-to}
use Rattle.nest_steps.proofs.Assigning.{Leads-first_assignment}
use Rattle.nest_steps.proofs.Mapped.{mapped_nest_leads, wide_enough}
use Rattle.nest_steps.proofs.Rounds.{hold_put, loop_turns}
use Rattle.nest_steps.proofs.Ruled.{rule_leads}
use Rattle.statement_passes.proofs.Alike.{number_alike}
use Rattle.inductions.specs.Putting.{found, grows_at, induction_in, put_in, putting, form_text_or, induction_text, with_induction_forms}
use Rattle.inductions.specs.Together.{AllGrowIn, AreInductions, Counts, Fits, FitIn, forms_suit, Is, is_free, is_own, is_suited, LetsGrow, number_in}
use Rattle.inductions.specs.Laws.{SubstitutedLoopsLead}
use Rattle.inductions.specs.Stores.{AreApart, AreBefore, AreBehind, IsApart, SameHeld, element}
use Rattle.inductions.specs.declared.found.Induction.{Induction}
use Rattle.inductions.proofs.HeldRule.{canonised_leads}
use Rattle.inductions.proofs.Texts.{grown, sized, text_is_right}

true_false : {A : Type 0} → true ≡ false → A
true_false e = cc

-- ---- one run through another

-- what leads from the first run to the second, and from the second to the third, whose stores begin alike
pub Leads-through : (before after same other : Store → Store → Type 0) (f g h : State → State) → ((s u : Store) → before s u → same u u)
    → ((s t u : Store) → after s t → other t u → after s u) → Leads before after f g → Leads same other g h → Leads before after f h
Leads-through before after same other f g h alike over p q = record {
  at = λ s u n i a e.
      let one = p.at s u n i a e in
      let there : (g (record s { store = u; steps = n })).way ≡ (f s).way = ap (λ (t : State). t.way) one.rest in
      let sound : IsSound (g (record s { store = u; steps = n })).way = subst IsSound (sym there) e in
      let two = q.at (record s { store = u; steps = n }) u n i (alike s.store u a) sound in
      by (f s) (g (record s { store = u; steps = n })) (h (record s { store = u; steps = n })) one two;
}
  where
    by : (s t r : State) → Led after s t → Led other t r → Led after s r
    by s t r one two = record {
      stores = over s.store t.store r.store one.stores two.stores;
      rest = two.rest ∙ ap (λ (x : State). record x { store = r.store; steps = r.steps }) one.rest;
      going = one.going;
    }

-- ---- those that are found

pub found-name : (ds : List Induction) (x : List ℕ) (d : Induction) → found ds x ≡ Some d → d.name ≡ x
found-name [] x d h = absurd cc
found-name (e ∷ es) x d h = by (bytes_eq e.name x) refl (λ g. found-name es x d g) h
  where
    by : (b : Bool) → bytes_eq e.name x ≡ b → (found es x ≡ Some d → d.name ≡ x) → cond b (Some e) (found es x) ≡ Some d → d.name ≡ x
    by true q more g = let same : e ≡ d = cc in ap (λ (i : Induction). i.name) (sym same) ∙ (bytes_eq-Decides e.name x).0 q
    by false q more g = more g

pub found-grows : (ds : List Induction) (x : List ℕ) (d : Induction) (k : ℕ) → found ds x ≡ Some d → (d.place == k) ≡ true → grows_at ds k ≡ true
found-grows [] x d k h e = absurd cc
found-grows (i ∷ is) x d k h e = by (bytes_eq i.name x) (λ g. found-grows is x d k g e) h
  where
    or_true : (a : Bool) → (a || true) ≡ true
    or_true true = refl
    or_true false = refl

    by : (b : Bool) → (found is x ≡ Some d → grows_at is k ≡ true) → cond b (Some i) (found is x) ≡ Some d → ((i.place == k) || grows_at is k) ≡ true
    by true more g = let same : i ≡ d = cc in ap (λ b. b || grows_at is k) (ap (λ (j : Induction). j.place == k) same ∙ e)
    by false more g = ap (λ b. (i.place == k) || b) (more g) ∙ or_true (i.place == k)

turned-eq : (a b : ℕ) → (a == b) ≡ false → (b == a) ≡ false
turned-eq a b h = grind (arith, nat_tests)

is-eq : (a b : ℕ) → a ≡ b → (a == b) ≡ true
is-eq a b h = grind (arith, nat_tests)

eq-is : (a b : ℕ) → (a == b) ≡ true → a ≡ b
eq-is a b h = grind (arith, nat_tests)

no-place : (ds : List Induction) (d : Induction) (k : ℕ) → found ds d.name ≡ Some d → grows_at ds k ≡ false → (k == d.place) ≡ false
no-place ds d k h e = turned-eq d.place k (by (d.place == k) refl)
  where
    by : (b : Bool) → (d.place == k) ≡ b → (d.place == k) ≡ false
    by true q = absurd (true_false (sym (found-grows ds d.name d k h q) ∙ e))
    by false q = q

module _ (bits : ℕ) (high : bits ≤ 63) (wide : 31 ≤ bits) (counter : List ℕ) (counters kept : List ℕ → Bool) (ds : List Induction) (symbols : List (List ℕ))
    (are : AreInductions counter counters ds) (start : List ℕ → ℤ) (base : Store) (last : Expression) (z : ℤ)
    (own_trip : AllByRecursion (λ x. counters x ≡ false) (names_in last)) (moving : (y : List ℕ) → counters y ≡ true → kept y ≡ false) (line : ℕ) where
  abbrev Is' : Induction → Type 0
  Is' d = Is ds d

  abbrev Own : List ℕ → Bool
  Own x = is_own ds x

  abbrev settled : List ℕ → Bool
  settled x = counters x || kept x

  abbrev number : Induction → ℕ → ℕ → ℤ
  number d i k = number_in start d i k

  owned : (x : List ℕ) → Own x ≡ true → (d : Induction) × (found ds x ≡ Some d)
  owned x h = by (found ds x) refl h
    where
      by : (o : Option Induction) → found ds x ≡ o → is_some o ≡ true → (d : Induction) × (found ds x ≡ Some d)
      by (Some d) e g = (d, e)
      by None e g = absurd cc

  found-itself : (x : List ℕ) (d : Induction) → found ds x ≡ Some d → Is' d
  found-itself x d h = subst (λ y. found ds y ≡ Some d) (sym (found-name ds x d h)) h

  own-name : (d : Induction) → Is' d → Own d.name ≡ true
  own-name d h = ap is_some h

  other-name : (x : List ℕ) (d : Induction) → Is' d → Own x ≡ false → bytes_eq x d.name ≡ false
  other-name x d h e = bytes_eq-false x d.name (λ q. true_false (sym (own-name d h) ∙ (ap Own (sym q) ∙ e)))

  same-induction : (d e : Induction) → Is' d → Is' e → d.name ≡ e.name → d ≡ e
  same-induction d e h g q = let both : ◌≡◌ {A = Option Induction} (Some d) (Some e) = sym h ∙ (ap (found ds) q ∙ g) in cc

  no-counter : (y : List ℕ) → counters y ≡ true → Own y ≡ false
  no-counter y h = by (Own y) refl
    where
      by : (b : Bool) → Own y ≡ b → Own y ≡ false
      by true e =
          let o = owned y e in
          absurd (true_false (sym h ∙ (ap counters (sym (found-name ds y o.0 o.1)) ∙ (are o.0 (found-itself y o.0 o.1)).free)))
      by false e = e

  -- ---- the two stores

  abbrev Apart : (Induction → ℤ) → Store → Store → Type 0
  Apart = AreApart bits ds start kept base

  abbrev Many : ℕ → Type 0
  Many n = trip_count (pos 1) z (pos 1) ≡ Ok n

  pub other-held : (c : Cell) (w : Value) (s : Store) (x : List ℕ) → bytes_eq c.name x ≡ false → (put c w s).held (cell_of x) ≡ s.held (cell_of x)
  other-held c w s x e = ap (λ b. cond (b && pointwise int_eq c.subscripts []) w (s.held (cell_of x))) e

  pub own-held : (x : List ℕ) (w : Value) (s : Store) → (put (cell_of x) w s).held (cell_of x) ≡ w
  own-held x w s = ap (λ b. cond (b && true) w (s.held (cell_of x))) ((bytes_eq-Decides x x).1 refl)

  pub sized-put : (c : Cell) (w : Value) (u : Store) → is_in_range bits w ≡ true → HoldsSized u → HoldsSized (put c w u)
  sized-put c w u r h d z e = by (same_cell c d) e
    where
      by : (b : Bool) → cond b w (u.held d) ≡ Int z → nat_abs z ≤ 2 ^ 63
      by true g = sized bits high z (subst (λ v. is_in_range bits v ≡ true) g r)
      by false g = h d z g

  pub both-put : (c : Cell) (w : Value) (v : Induction → ℤ) (s u : Store) → Own c.name ≡ false → kept c.name ≡ false → is_in_range bits w ≡ true → Apart v s u → Apart v (put c w s) (put c w u)
  both-put c w v s u e f r a = record {
    bounds = a.bounds;
    held = λ c' k. ap (cond (same_cell c c') w) (a.held c' k);
    elements = λ y j js. ap (cond (same_cell c (element y j js)) w) (a.elements y j js);
    each = λ d h. (
        let i = a.each d h in
        let n = other-name c.name d h e in
        record { scalar = i.scalar; first = other-held c w s d.name n ∙ i.first; second = other-held c w u d.name n ∙ i.second; start_in = i.start_in; range = i.range });
    sized = sized-put c w u r a.sized;
    bounds_stay = a.bounds_stay;
    held_stay = λ c' k. ap (λ b. cond (b && pointwise int_eq c.subscripts c'.subscripts) w (u.held c')) (bytes_eq-false c.name c'.name (λ q. true_false (sym k ∙ (ap kept (sym q) ∙ f)))) ∙ a.held_stay c' k;
  }

  with-numbers : (v w : Induction → ℤ) → ((d : Induction) → Is' d → v d ≡ w d) → (s u : Store) → Apart v s u → Apart w s u
  with-numbers v w e s u a = record {
    bounds = a.bounds;
    held = a.held;
    elements = a.elements;
    each = λ d h. subst (λ y. IsApart bits ds start kept base d y s u) (e d h) (a.each d h);
    sized = a.sized;
    bounds_stay = a.bounds_stay;
    held_stay = a.held_stay;
  }

  -- the second store may be another one that holds the same
  held-alike : (v : Induction → ℤ) (s u t : Store) → SameHeld bits u t → Apart v s u → Apart v s t
  held-alike v s u t same a = record {
    bounds = λ y. a.bounds y ∙ same.bounds y;
    held = λ c e. a.held c e ∙ same.held c;
    elements = λ y j js. a.elements y j js ∙ same.held (element y j js);
    each = λ d h. (
        let i = a.each d h in
        record { scalar = sym (same.bounds d.name) ∙ i.scalar; first = i.first; second = sym (same.held (cell_of d.name)) ∙ i.second; start_in = i.start_in; range = i.range });
    sized = same.sized;
    bounds_stay = λ y. sym (same.bounds y) ∙ a.bounds_stay y;
    held_stay = λ c e. sym (same.held c) ∙ a.held_stay c e;
  }

  -- ---- between turns and in them

  -- in the turn i
  pub record InTurn (i k : ℕ) (s u : Store) : Type 0 where
    pub apart : Apart (λ d. number d i k) s u
    pub small : is_in_range bits (Int (pos i)) ≡ true

  -- where the loop's trip has the number z
  record Begins (s u : Store) : Type 0 where
    pub apart : Apart (λ d. start d.name) s u
    pub trip : number_of (sequential bits) last s ≡ Ok z

  -- before the loop, and behind it after so many turns
  abbrev like : List ℕ → ℕ → Store → Store → Type 0
  like [] zero s u = Begins s u
  like [] (suc k) s u = (n : ℕ) × Many n × Apart (λ d. start d.name +ℤ d.step *ℤ pos n) s u
  like (i ∷ is) k s u = InTurn i k s u

  -- names that count no loop hold what they held
  unread : (y : List ℕ) (w : Value) (s : Store) → counters y ≡ true → (xs : List (List ℕ)) → AllByRecursion (λ x. counters x ≡ false) xs
      → AllByRecursion (λ x. (s.bounds x ≡ (put (cell_of y) w s).bounds x) × ((zs : List ℤ) (c : Cell) → cell_at x zs s ≡ Ok c → s.held c ≡ (put (cell_of y) w s).held c)) xs
  unread y w s h [] g = tt
  unread y w s h (x ∷ xs) g = (
    (
      refl,
      λ zs c e. sym (ap (λ b. cond (b && pointwise int_eq [] c.subscripts) w (s.held c))
          (bytes_eq-false y c.name (λ q. true_false (sym h ∙ (ap counters (q ∙ cell_in-named (s.bounds x) x zs c e) ∙ g.0))))),
    ),
    unread y w s h xs g.1,
  )

  steady : IsSteady bits counters like
  steady [] zero s u y w r c a = record {
    apart = both-put (cell_of y) w (λ d. start d.name) s u (no-counter y c) (moving y c) r a.apart;
    trip = sym (number_alike bits s (put (cell_of y) w s) last (unread y w s c (names_in last) own_trip)) ∙ a.trip;
  }
  steady [] (suc k) s u y w r c a = (a.0, a.1, both-put (cell_of y) w (λ d. start d.name +ℤ d.step *ℤ pos a.0) s u (no-counter y c) (moving y c) r a.2)
  steady (i ∷ is) k s u y w r c a = record { apart = both-put (cell_of y) w (λ d. number d i k) s u (no-counter y c) (moving y c) r a.apart; small = a.small }

  abbrev Known : List ℕ → Loop → ℕ → Type 0
  Known [] l n = Many n
  Known (i ∷ is) l n = Unit {0}

  abbrev At : List Loop → List ℕ → ℕ → Store → Store → Type 0
  At = InLoops bits counters like

  abbrev Known-loops : List Loop → Type 0
  Known-loops ls = AllByRecursion (λ (o : Loop). counters o.variable ≡ true) ls

  no-loop : (y : List ℕ) → counters y ≡ false → (ms : List Loop) → Known-loops ms → AllByRecursion (λ (m : Loop). bytes_eq y m.variable ≡ false) ms
  no-loop y e [] h = tt
  no-loop y e (m ∷ ms) h = (bytes_eq-false y m.variable (λ q. true_false (sym h.0 ∙ (ap counters (sym q) ∙ e))), no-loop y e ms h.1)

  held-same : (ls : List Loop) (is : List ℕ) (u t : Store) → SameHeld bits u t → Hold ls is u → Hold ls is t
  held-same [] [] u t same h = tt
  held-same [] (i ∷ is) u t same h = absurd h
  held-same (l ∷ ls) [] u t same h = absurd h
  held-same (l ∷ ls) (i ∷ is) u t same h = (sym (same.held (cell_of l.variable)) ∙ h.0, held-same ls is u t same h.1)

  -- ---- numbers from statement to statement

  three : (a b c : ℤ) → (a +ℤ b) +ℤ c ≡ a +ℤ (b +ℤ c)
  three a b c = omega (arith, ints)

  low : (m n : ℕ) → m ≤ n → nat_le m n ≡ true
  low m n h = grind arith

  high-up : (m n : ℕ) → n < m → nat_le m n ≡ false
  high-up m n h = grind arith

  number-before : (d : Induction) (i k : ℕ) → k ≤ d.place → number d i k ≡ start d.name +ℤ d.step *ℤ (pos i -ℤ pos 1)
  number-before d i k l = ap (λ b. start d.name +ℤ d.step *ℤ cond b (pos i -ℤ pos 1) (pos i)) (low k d.place l)

  number-after : (d : Induction) (i k : ℕ) → d.place < k → number d i k ≡ start d.name +ℤ d.step *ℤ pos i
  number-after d i k l = ap (λ b. start d.name +ℤ d.step *ℤ cond b (pos i -ℤ pos 1) (pos i)) (high-up k d.place l)

  grows-on : (d : Induction) (i k : ℕ) → k ≡ d.place → number d i k +ℤ d.step ≡ number d i (k + 1)
  grows-on d i k e =
      let less : k ≤ d.place = omega (arith, e) in
      let more : d.place < k + 1 = omega (arith, e) in
      ap (λ z. z +ℤ d.step) (number-before d i k less)
      ∙ (three (start d.name) (d.step *ℤ (pos i -ℤ pos 1)) d.step ∙ (ap (λ z. start d.name +ℤ z) (grown d.step (pos i)) ∙ sym (number-after d i (k + 1) more)))

  unchanged : (d : Induction) (i k m : ℕ) → ((k ≤ d.place) × (m ≤ d.place)) ⊎ ((d.place < k) × (d.place < m)) → number d i k ≡ number d i m
  unchanged d i k m (inl h) = number-before d i k h.0 ∙ sym (number-before d i m h.1)
  unchanged d i k m (inr h) = number-after d i k h.0 ∙ sym (number-after d i m h.1)

  split : (k p : ℕ) (b : Bool) → nat_le k p ≡ b → (k == p) ≡ false → ((k ≤ p) × (k + 1 ≤ p)) ⊎ ((p < k) × (p < k + 1))
  split k p true f e = let l : k ≤ p = grind arith in let m : k + 1 ≤ p = grind arith in inl (l, m)
  split k p false f e = let l : p < k = grind arith in inr (l, omega (arith, l))

  either-side : (d : Induction) (k : ℕ) → (k == d.place) ≡ false → ((k ≤ d.place) × (k + 1 ≤ d.place)) ⊎ ((d.place < k) × (d.place < k + 1))
  either-side d k e = split k d.place (nat_le k d.place) refl e

  -- ---- statements

  module _ (o : Loop) (ls : List Loop) (is_counter : o.variable ≡ counter) (all : Known-loops (o ∷ ls)) (i : ℕ) (is : List ℕ) (k : ℕ) where
    abbrev Here : Store → Store → Type 0
    Here = At (o ∷ ls) (i ∷ is) k

    abbrev There : Store → Store → Type 0
    There = At (o ∷ ls) (i ∷ is) (k + 1)

    -- the text has the value of the scalar
    stands : (d : Induction) → Is' d → (s u : Store) → Here s u → value_of (sequential bits) (induction_text counter d k) u ≡ Ok (s.held (cell_of d.name))
    stands d h s u a =
        let one = a.stores.apart.each d h in
        let counts = (a.scalars counter (subst (λ y. counters y ≡ true) is_counter all.0)).1 in
        text_is_right bits high counter counters d (are d h) k (start d.name) i u one.start_in a.stores.small one.scalar counts one.second
        (subst (λ x. u.held (cell_of x) ≡ Int (pos i)) is_counter a.second.0) ∙ ap Ok (sym one.first)

    put-in-both : (c : Cell) (w : Value) (s u : Store) → is_free settled ds c.name ≡ true → is_in_range bits w ≡ true → Here s u → Here (put c w s) (put c w u)
    put-in-both c w s u h r a =
        let free = both_true (not (Own c.name)) (not (settled c.name)) h in
        let either = either_false (counters c.name) (kept c.name) (not_true (settled c.name) free.1) in
        let n = no-loop c.name either.0 (o ∷ ls) all in
        record {
          stores = record { apart = both-put c w (λ d. number d i k) s u (not_true (Own c.name) free.0) either.1 r a.stores.apart; small = a.stores.small };
          scalars = a.scalars;
          first = hold_put c w (o ∷ ls) (i ∷ is) s n a.first;
          second = hold_put c w (o ∷ ls) (i ∷ is) u n a.second;
        }

    -- ---- the rule

    scalar-value : (x : List ℕ) (d : Induction) → found ds x ≡ Some d → (s u : Store) → Here s u → (v : Value)
        → ◌≡◌ {A = Result Value Fault} (do c ← cell_at x [] s; Ok (s.held c)) (Ok v) → value_of (sequential bits) (induction_text counter d k) u ≡ Ok v
    scalar-value x d h s u a v e =
        let itself = found-itself x d h in
        let there : s.bounds x ≡ Some [] = ap s.bounds (sym (found-name ds x d h)) ∙ (a.stores.apart.bounds d.name ∙ (a.stores.apart.each d itself).scalar) in
        stands d itself s u a ∙ (ap (λ y. Ok (s.held (cell_of y))) (found-name ds x d h) ∙ (sym (ap (λ b. do c ← cell_in b x []; Ok (s.held c)) there) ∙ e))

    shared-value : (x : List ℕ) (ps : Subscripts) (s u : Store) → Here s u → Own x ≡ false → (v : Value)
        → value_between (sequential bits) (Named x ps) s u ≡ Ok v → value_of (sequential bits) (Named x ps) u ≡ Ok v
    shared-value x ps s u a h v e =
        let zs = parted (subscript_values (sequential bits) ps u) (λ zs. do c ← cell_at x zs s; Ok (s.held c)) v e in
        let c = parted (cell_at x zs.part s) (λ c. Ok (s.held c)) v zs.second in
        let name = cell_in-named (s.bounds x) x zs.part c.part c.first in
        joined (subscript_values (sequential bits) ps u) (λ zs. do c ← cell_at x zs u; Ok (u.held c)) zs.part v zs.first
        (joined (cell_at x zs.part u) (λ c. Ok (u.held c)) c.part v (ap (λ b. cell_in b x zs.part) (sym (a.stores.apart.bounds x)) ∙ c.first)
        (ap Ok (sym (a.stores.apart.held c.part (ap Own name ∙ h))) ∙ c.second))

    none-own : (x : List ℕ) → found ds x ≡ None → Own x ≡ false
    none-own x h = ap is_some h

    bare-value : (x : List ℕ) (s u : Store) (v : Value) → Here s u → value_between (sequential bits) (Named x no_subscripts) s u ≡ Ok v
        → value_of (sequential bits) (form_text_or counter k (found ds x) (Named x no_subscripts)) u ≡ Ok v
    bare-value x s u v a e = by (found ds x) refl
      where
        by : (q : Option Induction) → found ds x ≡ q → value_of (sequential bits) (form_text_or counter k q (Named x no_subscripts)) u ≡ Ok v
        by (Some d) h = scalar-value x d h s u a v e
        by None h = shared-value x no_subscripts s u a (none-own x h) v e

    value : (first e : Expression) (s u : Store) (v : Value) → IsTrue (is_suited ds e) → Here s u → value_between (sequential bits) e s u ≡ Ok v
        → value_of (sequential bits) (form_text_or counter k (induction_in ds e) e) u ≡ Ok v
    value first (Named x no_subscripts) s u v h a e = bare-value x s u v a e
    value first (Named x (subscript p ps)) s u v h a e = shared-value x (subscript p ps) s u a (not_true (Own x) h) v e
    value first (Number n) s u v h a e = e
    value first (Logic b) s u v h a e = e
    value first (Unary q b) s u v h a e = e
    value first (Binary q b c) s u v h a e = e
    value first (Apply f es) s u v h a e = e
    value first (Constructor es ms) s u v h a e = e
    value first (Spread b n c) s u v h a e = e
    value first (Transpose b) s u v h a e = e
    value first (Reshape b es) s u v h a e = e
    value first (Reduce q b) s u v h a e = e

    same-values : (x : List ℕ) (s u : Store) → Here s u → Own x ≡ false → (bs : List (ℤ × ℤ)) (cs : List Cell) → AllByRecursion (λ (c : Cell). (c.name ≡ x) × (is_within bs c.subscripts ≡ true)) cs → map s.held cs ≡ map u.held cs
    same-values x s u a h bs [] g = refl
    same-values x s u a h bs (c ∷ cs) g = ap₂ (λ v vs. v ∷ vs) (a.stores.apart.held c (ap Own g.0.0 ∙ h)) (same-values x s u a h bs cs g.1)

    shared-items : (x : List ℕ) (s u : Store) → Here s u → Own x ≡ false → (vs : List Value) → item_values (sequential bits) (Named x no_subscripts) s ≡ Ok vs → item_values (sequential bits) (Named x no_subscripts) u ≡ Ok vs
    shared-items x s u a h vs e = sym (by (s.bounds x) ∙ ap (λ b. do cs ← (do bs ← bounds_in b; Ok (cells_of x bs)); Ok (map u.held cs)) (a.stores.apart.bounds x)) ∙ e
      where
        by : (b : Option (List (ℤ × ℤ))) → ◌≡◌ {A = Result (List Value) Fault} (do cs ← (do bs ← bounds_in b; Ok (cells_of x bs)); Ok (map s.held cs)) (do cs ← (do bs ← bounds_in b; Ok (cells_of x bs)); Ok (map u.held cs))
        by (Some bs) = ap Ok (same-values x s u a h bs (cells_of x bs) (cells-within x bs))
        by None = refl

    scalar-items : (x : List ℕ) (d : Induction) → found ds x ≡ Some d → (s u : Store) → Here s u → (vs : List Value)
        → item_values (sequential bits) (Named x no_subscripts) s ≡ Ok vs → item_values (sequential bits) (induction_text counter d k) u ≡ Ok vs
    scalar-items x d h s u a vs e =
        let itself = found-itself x d h in
        let there : s.bounds x ≡ Some [] = ap s.bounds (sym (found-name ds x d h)) ∙ (a.stores.apart.bounds d.name ∙ (a.stores.apart.each d itself).scalar) in
        single_item bits (induction_text counter d k) u (s.held (cell_of d.name)) (stands d itself s u a)
        ∙ (ap (λ y. Ok (s.held (cell_of y) ∷ [])) (found-name ds x d h) ∙ (sym (ap (λ b. do cs ← (do bs ← bounds_in b; Ok (cells_of x bs)); Ok (map s.held cs)) there) ∙ e))

    printed : (x : List ℕ) (s u : Store) (vs : List Value) → IsTrue (is_suited ds (Named x no_subscripts)) → Here s u
        → item_values (sequential bits) (Named x no_subscripts) s ≡ Ok vs → item_values (sequential bits) (form_text_or counter k (found ds x) (Named x no_subscripts)) u ≡ Ok vs
    printed x s u vs h a e = by (found ds x) refl
      where
        by : (q : Option Induction) → found ds x ≡ q → item_values (sequential bits) (form_text_or counter k q (Named x no_subscripts)) u ≡ Ok vs
        by (Some d) g = scalar-items x d g s u a vs e
        by None g = shared-items x s u a (none-own x g) vs e

    assigned : (l : Reference) (s u : Store) (zs : List ℤ) (c : Cell) → IsTrue (is_free settled ds l.name) → Here s u
        → subscript_values (sequential bits) l.subscripts u ≡ Ok zs → cell_at l.name zs s ≡ Ok c → Assigned (sequential bits) Here s u c l
    assigned l s u zs c h a e g =
        let name = cell_in-named (s.bounds l.name) l.name zs c g in
        record {
          cell = c;
          named = joined (subscript_values (sequential bits) l.subscripts u) (λ zs. cell_at l.name zs u) zs c e (ap (λ b. cell_in b l.name zs) (sym (a.stores.apart.bounds l.name)) ∙ g);
          put = λ w q. put-in-both c w s u (ap (is_free settled ds) name ∙ h) q a;
        }

    variable : (x : List ℕ) (s u : Store) → IsTrue (is_free settled ds x) → Here s u → HaveInCommon (sequential bits) Here s u x
    variable x s u h a =
        let own = not_true (Own x) (both_true (not (Own x)) (not (settled x)) h).0 in
        record {
          bounds = a.stores.apart.bounds x;
          held = λ c e. a.stores.apart.held c (ap Own e ∙ own);
          put = λ c w e q. put-in-both c w s u (ap (is_free settled ds) e ∙ h) q a;
        }

    forms_are_rule : IsRule (sequential bits) (putting counter ds k) (forms_suit settled ds) Here
    forms_are_rule = record { value = value; printed = printed; assigned = assigned; variable = variable }

    -- ---- what each leads to

    abbrev loop-names : List (List ℕ)
    loop-names = map (λ (l : Loop). l.variable) (o ∷ ls)

    text-alike : (s u t : Store) → Here s u → SameHeld bits u t → Here s t
    text-alike s u t a same = record {
      stores = record { apart = held-alike (λ d. number d i k) s u t same a.stores.apart; small = a.stores.small };
      scalars = λ y c. ((a.scalars y c).0, sym (same.bounds y) ∙ (a.scalars y c).1);
      first = a.first;
      second = held-same (o ∷ ls) (i ∷ is) u t same a.second;
    }

    sized-itself : (s u : Store) → Here s u → SameHeld bits u u
    sized-itself s u a = record { bounds = λ x. refl; held = λ c. refl; few = high; sized = a.stores.apart.sized }

    with-next : (s u : Store) → grows_at ds k ≡ false → Here s u → There s u
    with-next s u e a = record {
      stores = record {
        apart = with-numbers (λ d. number d i k) (λ d. number d i (k + 1)) (λ d h. unchanged d i k (k + 1) (either-side d k (no-place ds d k h e))) s u a.stores.apart;
        small = a.stores.small;
      };
      scalars = a.scalars;
      first = a.first;
      second = a.second;
    }

    other-leads : (g : Guarded) → grows_at ds k ≡ false → SuitsStatement (putting counter ds k) (forms_suit settled ds) (guarded_statement g)
        → Leads Here There (does (sequential bits) None (guarded_statement g)) (does (sequential bits) None (guarded_statement (with_induction_forms counter ds symbols (o ∷ ls) k g)))
    other-leads g e h =
        Leads-to Here Here There _ _ (λ s u a. with-next s u e a)
        (Leads-through Here Here (SameHeld bits) (SameHeld bits) _ _ _ sized-itself text-alike
        (rule_leads bits (putting counter ds k) (forms_suit settled ds) Here forms_are_rule g h)
        (canonised_leads bits loop-names symbols (with_making (putting counter ds k) g)))

    -- the scalar grows in the first run alone
    grown-apart : (d : Induction) → Is' d → k ≡ d.place → ((e : Induction) → Is' e → e.place ≡ k → e ≡ d) → (v : Value) (s u : Store)
        → v ≡ Int (number d i k +ℤ d.step) → is_in_range bits v ≡ true → Apart (λ e. number e i k) s u → Apart (λ e. number e i (k + 1)) (put (cell_of d.name) v s) u
    grown-apart d is-one place only v s u what range a = record {
      bounds = a.bounds;
      held = λ c e. ap (λ b. cond (b && pointwise int_eq [] c.subscripts) v (s.held c)) (bytes_eq-false d.name c.name (λ q. true_false (sym (own-name d is-one) ∙ (ap Own q ∙ e)))) ∙ a.held c e;
      elements = λ y j js. ap (λ b. cond b v (s.held (element y j js))) (never (bytes_eq d.name y)) ∙ a.elements y j js;
      each = λ e h. by e h (e.place == k) refl;
      sized = a.sized;
      bounds_stay = a.bounds_stay;
      held_stay = a.held_stay;
    }
      where
        never : (b : Bool) → (b && false) ≡ false
        never true = refl
        never false = refl

        now : v ≡ Int (number d i (k + 1))
        now = what ∙ ap Int (grows-on d i k place)

        itself : IsApart bits ds start kept base d (number d i (k + 1)) (put (cell_of d.name) v s) u
        itself =
            let b = a.each d is-one in
            record { scalar = b.scalar; first = own-held d.name v s ∙ now; second = b.second; start_in = b.start_in; range = subst (λ w. is_in_range bits w ≡ true) now range }

        by : (e : Induction) → Is' e → (q : Bool) → (e.place == k) ≡ q → IsApart bits ds start kept base e (number e i (k + 1)) (put (cell_of d.name) v s) u
        by e h true f = subst (λ (j : Induction). IsApart bits ds start kept base j (number j i (k + 1)) (put (cell_of d.name) v s) u) (sym (only e h (eq-is e.place k f))) itself
        by e h false f =
            let b = a.each e h in
            let differs : bytes_eq d.name e.name ≡ false = bytes_eq-false d.name e.name (λ q. true_false (sym (is-eq e.place k (ap (λ (j : Induction). j.place) (sym (same-induction d e is-one h q)) ∙ sym place)) ∙ f)) in
            subst (λ y. IsApart bits ds start kept base e y (put (cell_of d.name) v s) u) (unchanged e i k (k + 1) (either-side e k (turned-eq e.place k f)))
            (record { scalar = b.scalar; first = other-held (cell_of d.name) v s e.name differs ∙ b.first; second = b.second; start_in = b.start_in; range = b.range })

    no-other : (x : List ℕ) (c : Cell) → cell_in (Some []) x [] ≡ Ok c → c ≡ cell_of x
    no-other x c e = let same : cell_of x ≡ c = cc in sym same

    grows-leads : (g : Guarded) → LetsGrow bits ds k g → Leads Here There (does (sequential bits) None (guarded_statement g)) nothing
    grows-leads g h =
        let d = h.induction in
        subst (λ (q : Option Expression). Leads Here There (does (sequential bits) None (guarded_statement (record g { guard = q }))) nothing) (sym h.grows.unguarded)
        (subst (λ (r : Reference). Leads Here There (does (sequential bits) None (Assignment g.line None r g.right)) nothing) (sym h.grows.left)
        (Leads-first_assignment bits Here There g.line None (record { name = d.name; subscripts = no_subscripts }) g.right (λ s u a v f c q range.
        let one = a.stores.apart.each d h.is in
        let there = a.stores.apart.bounds d.name ∙ one.scalar in
        let value = h.grows.right (number d i k) v s one.range there one.first f in
        let same : c ≡ cell_of d.name = no-other d.name c (sym (ap (λ b. cell_in b d.name []) there) ∙ q) in
        subst (λ (c : Cell). There (put c v s) u) (sym same) (record {
          stores = record { apart = grown-apart d h.is h.place h.only v s u value range a.stores.apart; small = a.stores.small };
          scalars = a.scalars;
          first = hold_put (cell_of d.name) v (o ∷ ls) (i ∷ is) s (no-loop d.name (are d h.is).free (o ∷ ls) all) a.first;
          second = a.second;
        }))))

  -- ---- the nest

  known-more : (ls : List Loop) (l : Loop) → Known-loops ls → counters l.variable ≡ true → Known-loops (ls ++ l ∷ [])
  known-more [] l h e = (e, tt)
  known-more (o ∷ ls) l h e = (h.0, known-more ls l h.1 e)

  -- a name that isn't one of them is the same in both
  pub alike-names : (v : Induction → ℤ) (s u : Store) → Apart v s u → (xs : List (List ℕ)) → AllByRecursion (λ x. Own x ≡ false) xs
      → AllByRecursion (λ x. (s.bounds x ≡ u.bounds x) × ((zs : List ℤ) (c : Cell) → cell_at x zs s ≡ Ok c → s.held c ≡ u.held c)) xs
  alike-names v s u a [] h = tt
  alike-names v s u a (x ∷ xs) h = ((a.bounds x, λ zs c e. a.held c (ap Own (cell_in-named (s.bounds x) x zs c e) ∙ h.0)), alike-names v s u a xs h.1)

  -- an inner loop: none of the scalars grows in it
  inner-turns : (o : Loop) (ls : List Loop) (l : Loop) (i : ℕ) (is : List ℕ) (k m : ℕ) → Counts counters ds (o ∷ ls) l
      → ((d : Induction) → Is' d → (d.place < k) ⊎ (k + m ≤ d.place)) → Turning bits counters like Known (o ∷ ls) l (i ∷ is) k m
  inner-turns o ls l i is k m c places = record {
    first = c.first;
    step = c.step;
    counter = c.counts;
    own = c.own;
    same = λ s u a z e. sym (number_alike bits s u l.last (alike-names (λ d. number d i k) s u a.stores.apart (names_in l.last) c.last)) ∙ e;
    turns_are = λ s u a z n e f. tt;
    begins = λ s u a. a;
    next = λ j small s u a. record { apart = with-numbers (λ d. number d i (k + m)) (λ d. number d i k) (λ d h. sym (stays d h)) s u a.apart; small = a.small };
    ends = λ n known s u a. record { apart = with-numbers (λ d. number d i k) (λ d. number d i (k + m)) stays s u a.apart; small = a.small };
  }
    where
      either_way : (d : Induction) → (d.place < k) ⊎ (k + m ≤ d.place) → ((k ≤ d.place) × (k + m ≤ d.place)) ⊎ ((d.place < k) × (d.place < k + m))
      either_way d (inl h) = inr (h, omega (arith, h))
      either_way d (inr h) = inl (omega (arith, h), h)

      stays : (d : Induction) → Is' d → number d i k ≡ number d i (k + m)
      stays d h = unchanged d i k (k + m) (either_way d (places d h))

  abbrev each-of : List Loop → ℕ → Guarded → List Guarded
  each-of = put_in counter ds symbols

  mutual
    part-leads : (o : Loop) (ls : List Loop) → o.variable ≡ counter → Known-loops (o ∷ ls) → (i : ℕ) (is : List ℕ) (k : ℕ) (p : Part) → Fits bits counter counters kept ds (o ∷ ls) k p
        → AllLead each-of bits line Known At (o ∷ ls) (i ∷ is) k p
    part-leads o ls v all i is k (Run g) (inl h) =
        subst (λ b. Leads (At (o ∷ ls) (i ∷ is) k) (At (o ∷ ls) (i ∷ is) (k + 1)) (does (sequential bits) None (guarded_statement g))
        (does_all (sequential bits) None (block_of_parts line (parts (map Run (cond b [] (with_induction_forms counter ds symbols (o ∷ ls) k g ∷ [])))))))
        (sym (found-grows ds h.induction.name h.induction k h.is (is-eq h.induction.place k (sym h.place)))) (grows-leads o ls v all i is k g h)
    part-leads o ls v all i is k (Run g) (inr h) =
        subst (λ b. Leads (At (o ∷ ls) (i ∷ is) k) (At (o ∷ ls) (i ∷ is) (k + 1)) (does (sequential bits) None (guarded_statement g))
        (does_all (sequential bits) None (block_of_parts line (parts (map Run (cond b [] (with_induction_forms counter ds symbols (o ∷ ls) k g ∷ []))))))) (sym h.0) (other-leads o ls v all i is k g h.0 h.1)
    part-leads o ls v all i is k (Turns l ps) h = (
      loop_turns each-of bits line counters like (wide_enough bits wide) steady Known (o ∷ ls) l (i ∷ is) k (count_in ps) (inner-turns o ls l i is k (count_in ps) h.0 h.1),
      λ n known j p q. parts-lead o (ls ++ l ∷ []) v (known-more (o ∷ ls) l all h.0.counts) i (is ++ j ∷ []) k ps h.2,
    )
    part-leads o ls v all i is k (Choice bs ps) h = absurd h
    part-leads o ls v all i is k (Label n) h = absurd h
    part-leads o ls v all i is k (Jump n) h = absurd h

    parts-lead : (o : Loop) (ls : List Loop) → o.variable ≡ counter → Known-loops (o ∷ ls) → (i : ℕ) (is : List ℕ) (k : ℕ) (ps : Parts) → FitIn bits counter counters kept ds (o ∷ ls) k ps
        → AllLeadIn each-of bits line Known At (o ∷ ls) (i ∷ is) k ps
    parts-lead o ls v all i is k no_parts h = tt
    parts-lead o ls v all i is k (part p ps) h = (part-leads o ls v all i is k p h.0, parts-lead o ls v all i is (k + count_of p) ps h.1)

  module _ (l : Loop) (ps : Parts) (grow : AllGrowIn bits counter counters kept ds l ps) (is_last : l.last ≡ last) where
    one-less : (n : ℕ) → pos (suc n) -ℤ pos 1 ≡ pos n
    one-less n = omega (arith, ints)

    no-more : (a : ℤ) → a +ℤ pos 0 ≡ a
    no-more a = omega (arith, ints)

    none-yet : (d : Induction) → Is' d → start d.name ≡ number d 1 0
    none-yet d h = sym (number-before d 1 0 (omega arith) ∙ (ap (λ z. start d.name +ℤ z) (*ℤ-zero d.step) ∙ no-more (start d.name)))

    one-on : (i : ℕ) (d : Induction) → Is' d → number d i (0 + count_in ps) ≡ number d (suc i) 0
    one-on i d h =
        let p = grow.places d h in
        let behind : d.place < 0 + count_in ps = omega (arith, p) in
        number-after d i (0 + count_in ps) behind ∙ (ap (λ z. start d.name +ℤ d.step *ℤ z) (sym (one-less i)) ∙ sym (number-before d (suc i) 0 (omega arith)))

    at-end : (n : ℕ) (d : Induction) → Is' d → number d (suc n) 0 ≡ start d.name +ℤ d.step *ℤ pos n
    at-end n d h = number-before d (suc n) 0 (omega arith) ∙ ap (λ z. start d.name +ℤ d.step *ℤ z) (one-less n)

    leaves : (m n : ℕ) → 0 < m → Many n → (s u : Store) → InTurn (suc n) 0 s u → like [] m s u
    leaves zero n h many s u a = absurd (omega (arith, h))
    leaves (suc m) n h many s u a = (n, many, with-numbers (λ d. number d (suc n) 0) (λ d. start d.name +ℤ d.step *ℤ pos n) (at-end n) s u a.apart)

    small-turn : (i : ℕ) → i ≤ 2147483647 → is_in_range bits (Int (pos i)) ≡ true
    small-turn i h = (wide_enough bits wide i h).1

    one-trip : (s : Store) (y : ℤ) → number_of (sequential bits) l.last s ≡ Ok y → number_of (sequential bits) last s ≡ Ok z → y ≡ z
    one-trip s y e f = let both : ◌≡◌ {A = Result ℤ Fault} (Ok y) (Ok z) = sym e ∙ (ap (λ a. number_of (sequential bits) a s) is_last ∙ f) in cc

    outer-turns : Turning bits counters like Known [] l [] 0 (count_in ps)
    outer-turns = record {
      first = grow.counts.first;
      step = grow.counts.step;
      counter = grow.counts.counts;
      own = grow.counts.own;
      same = λ s u a y e. sym (number_alike bits s u l.last (alike-names (λ d. start d.name) s u a.stores.apart (names_in l.last) grow.counts.last)) ∙ e;
      turns_are = λ s u a y n e f. subst (λ x. trip_count (pos 1) x (pos 1) ≡ Ok n) (one-trip s y e a.stores.trip) f;
      begins = λ s u a. record { apart = with-numbers (λ d. start d.name) (λ d. number d 1 0) none-yet s u a.apart; small = small-turn 1 (omega arith) };
      next = λ i small s u a. record { apart = with-numbers (λ d. number d i (0 + count_in ps)) (λ d. number d (suc i) 0) (one-on i) s u a.apart; small = small-turn (suc i) small };
      ends = λ n many s u a. subst (λ m. like [] m s u) (plus-zero (count_in ps)) (leaves (count_in ps) n grow.some many s u a);
    }
      where
        plus-zero : (m : ℕ) → m ≡ 0 + m
        plus-zero m = omega arith

    loops-lead : Leads (At [] [] 0) (At [] [] (count_in ps)) (does (sequential bits) None (statement_of_part line (Turns l ps)))
        (does_all (sequential bits) None (block_of_parts line (parts (mapped_parts_of each-of [] 0 (Turns l ps)))))
    loops-lead = mapped_nest_leads each-of bits line Known At (Turns l ps) wide (
      loop_turns each-of bits line counters like (wide_enough bits wide) steady Known [] l [] 0 (count_in ps) outer-turns,
      λ n many i p q. parts-lead l [] grow.variable (grow.counts.counts, tt) i [] 0 ps grow.fit,
    )

    -- behind the nest, which has a statement
    behind : (m : ℕ) → 0 < m → (s u : Store) → At [] [] m s u → AreBehind bits ds start kept base counters z s u
    behind zero h s u a = absurd (omega (arith, h))
    behind (suc m) h s u a = record { turns = a.stores.0; count = a.stores.1; apart = a.stores.2; scalars = a.scalars }

    -- the nest's loops, and those with all inductions substituted, which lack their last values
    pub inductions_lead : Leads (AreBefore bits ds start kept base counters last z) (AreBehind bits ds start kept base counters z) (does (sequential bits) None (statement_of_part line (Turns l ps)))
        (does_all (sequential bits) None (block_of_parts line (parts (mapped_parts_of each-of [] 0 (Turns l ps)))))
    inductions_lead =
        Leads-from (At [] [] 0) (AreBefore bits ds start kept base counters last z) (AreBehind bits ds start kept base counters z) _ _
        (λ s u a. record { stores = record { apart = a.apart; trip = a.trip }; scalars = a.scalars; first = tt; second = tt })
        (Leads-to (At [] [] 0) (At [] [] (count_in ps)) (AreBehind bits ds start kept base counters z) _ _ (behind (count_in ps) grow.some) loops-lead)

pub substituted_loops_lead : SubstitutedLoopsLead
substituted_loops_lead bits line counter counters kept ds symbols start base z l ps wide high are grow own moving =
    inductions_lead bits high wide counter counters kept ds symbols are start base l.last z own moving line l ps grow refl
