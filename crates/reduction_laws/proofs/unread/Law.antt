-- Statements go the same way, whatever variables hold that they read in the bodies of their loops alone.
use Rattle.std.proofs.Common.{◌≡◌, refl, sym, ap, ◌∙◌, subst, ◌⊎◌, inl, inr, ℕ, ℤ, ◌+ℤ◌, Bool, true, false, ◌&&◌, not, cond, List, [], ◌∷◌, map, Result, Ok, Err, Option, Some, None}
use Rattle.std.specs.Str.{bytes_eq}
use Rattle.std.specs.List.{AllByRecursion}
use Rattle.std.proofs.lemmas.Slice.Eq.{bytes_eq-Decides}
use Rattle.tree.specs.Operators.{as_number}
use Rattle.tree.specs.Steps.{◌>>=◌}
use Rattle.tree.specs.Plain.{Expression, Number, Logic, Named, Subscripts, no_subscripts, subscript, Unary, Binary, Apply, Constructor, Spread, Transpose, Reshape, Reduce, Reference, Item, Single, Constant, ImpliedDo, Items, no_items, item, Statement, Assignment, Where, If, Do, Label, GoTo, Stop, Read, Print, Allocate, Deallocate, Arms, no_arms, arm, Block, no_statements, statement}
use Rattle.tree.specs.declared.ops.Value.{Value}
use Rattle.tree.specs.declared.ops.Value.TheVariants.{Int}
use Rattle.tree.specs.declared.ops.Fault.{Fault}
use Rattle.tree.specs.declared.ops.Fault.TheVariants.{Overflow}
use Rattle.meaning.specs.ArrayStatements.{writes_of, allocated_bounds}
use Rattle.meaning.specs.Dialect.{Dialect}
use Rattle.meaning.specs.Store.{Store, Cell, cells_of, column_major, numbers_from, size_of, put, same_cell, cell_at, cell_in, bounds_in, stored_bounds, nought_like}
use Rattle.meaning.specs.Texts.{output_text, read_value}
use Rattle.meaning.specs.Value.{value_of, truth_of, number_of, increment_of, subscript_values, cell_named, item_cells, item_values, is_array, is_scalar, named, is_in_range, exact, trip_count}
use Rattle.meaning.specs.Run.{State, Way, Going, Jumping, Stopped, Failed, Cut, Act, nothing, then, either, repeated, for_each, goes, on_way, while_going, answered, evaluates, stores, stores_element, first_blank, arrives, counts_step, checks_range, assigns, array_assigns, sets_variable, increases, turn, loops, reads_into, reads_item, reads_items, prints_item, prints_items, allocates, deallocates, does, chooses, does_all}
use Rattle.meaning.proofs.Exchanges.{same_cell-refl}
use Rattle.nest_order.specs.orders.Lists.{In}
use Rattle.nest_order.specs.runs.Guarded.{variable_cell}
use Rattle.nest_order.proofs.runs.Results.{both_ok, ok_same}
use Rattle.nest_order.proofs.runs.Variables.{cell_name}
use Rattle.rewrite.specs.Following.{IsSound, MomentsAlike}
use Rattle.rewrite.proofs.Acts.{Stays, Stays-then, Stays-evaluates, Stays-writes, Stays-skips_line, Stays-takes_word, Stays-counts_step, Stays-for_each, Stays-reads_items, Stays-prints_items, Stays-does_all, Beside, Follows, Follows-nothing, Follows-then, Follows-goes, Follows-while_going, Follows-either, Follows-writes, Follows-stores, Follows-begins_line, Follows-skips_line, Follows-takes_word, Follows-counts_step, Follows-checks_range, Follows-asks, Follows-evaluates, Follows-repeated}
use Rattle.reductions.specs.Reading.{without}
use Rattle.reduction_laws.specs.unread.Unread.{AlikeBut, IsBlind, AreBlind, KeptInput, KeptInputs, KeptOutput, KeptOutputs, Kept, KeptArms, KeptBlock, KeptStatementsFollow}

abbrev pub is_going : Way → Bool
is_going Going = true
is_going _ = false

pub going_is : (w : Way) → is_going w ≡ true → w ≡ Going
going_is Going e = refl
going_is (Jumping n) e = cc
going_is Stopped e = cc
going_is (Failed f n) e = cc
going_is Cut e = cc

-- ---- variables

true_false : true ≡ false → ⊥
true_false e = cc

pub still_in : (x y : List ℕ) (ys : List (List ℕ)) → In y ys → ¬ (y ≡ x) → In y (without x ys)
still_in x y [] i n = absurd i
still_in x y (z ∷ ys) i n = by (bytes_eq z x) refl i (λ j. still_in x y ys j n)
  where
    by : (b : Bool) → bytes_eq z x ≡ b → (y ≡ z) ⊎ In y ys → (In y ys → In y (without x ys)) → In y (cond b (without x ys) (z ∷ without x ys))
    by true e (inl f) more = absurd (n (f ∙ (bytes_eq-Decides z x).0 e))
    by true e (inr j) more = more j
    by false e (inl f) more = inl f
    by false e (inr j) more = inr (more j)

pub was_in : (x y : List ℕ) (ys : List (List ℕ)) → In y (without x ys) → In y ys × ¬ (y ≡ x)
was_in x y [] i = absurd i
was_in x y (z ∷ ys) i = by (bytes_eq z x) refl i (was_in x y ys)
  where
    by : (b : Bool) → bytes_eq z x ≡ b → In y (cond b (without x ys) (z ∷ without x ys)) → (In y (without x ys) → In y ys × ¬ (y ≡ x)) → ((y ≡ z) ⊎ In y ys) × ¬ (y ≡ x)
    by true e j more = let m = more j in (inr m.0, m.1)
    by false e (inl f) more = (inl f, λ g. true_false (sym ((bytes_eq-Decides z x).1 (sym f ∙ g)) ∙ e))
    by false e (inr j) more = let m = more j in (inr m.0, m.1)

pub alike_put : (xs : List (List ℕ)) (c : Cell) (v : Value) (s u : Store) → AlikeBut xs s u → AlikeBut xs (put c v s) (put c v u)
alike_put xs c v s u a = record { bounds = a.bounds; held = λ d n. ap (cond (same_cell c d) v) (a.held d n) }

-- once the variable is set, it is the same too
pub alike_set : (xs : List (List ℕ)) (x : List ℕ) (v : Value) (s u : Store) → AlikeBut xs s u → AlikeBut (without x xs) (put (variable_cell x) v s) (put (variable_cell x) v u)
alike_set xs x v s u a = record { bounds = a.bounds; held = λ d n. by d n (same_cell (variable_cell x) d) refl }
  where
    by : (d : Cell) → ((y : List ℕ) → In y (without x xs) → ¬ (d ≡ variable_cell y)) → (b : Bool) → same_cell (variable_cell x) d ≡ b → cond b v (s.held d) ≡ cond b v (u.held d)
    by d n true e = refl
    by d n false e = a.held d (λ y i f. n y (still_in x y xs i (λ g. true_false (sym (same_cell-refl (variable_cell x)) ∙ (ap (same_cell (variable_cell x)) (ap variable_cell (sym g) ∙ sym f) ∙ e)))) f)

pub alike_less : (xs : List (List ℕ)) (x : List ℕ) (s u : Store) → AlikeBut (without x xs) s u → AlikeBut xs s u
alike_less xs x s u a = record { bounds = a.bounds; held = λ d n. a.held d (λ y i. n y (was_in x y xs i).0) }

pub scalar_cell : (b : Option (List (ℤ × ℤ))) (x : List ℕ) (c : Cell) → cell_in b x [] ≡ Ok c → c ≡ variable_cell x
scalar_cell b x c e = let h = cell_name b x [] c e in λ i. record { name = h.0 i; subscripts = sym h.1 i }

-- a cell of a name that isn't among them
pub other_name : (xs : List (List ℕ)) (x : List ℕ) (c : Cell) → c.name ≡ x → ¬ (In x xs) → (y : List ℕ) → In y xs → ¬ (c ≡ variable_cell y)
other_name xs x c e n y i f = n (subst (λ z. In z xs) (sym (ap (λ (d : Cell). d.name) f) ∙ e) i)

-- ---- acts

abbrev AllNamed : List ℕ → List Cell → Type 0
AllNamed x cs = AllByRecursion (λ (c : Cell). c.name ≡ x) cs

module _ (lang : Dialect) where
  module _ (xs : List (List ℕ)) where
    abbrev pub like : Store → Store → Type 0
    like = AlikeBut xs

    abbrev pub Goes : Act → Act → Type 0
    Goes f g = Follows (AlikeBut xs) (AlikeBut xs) f g

    id : (s u : Store) → AlikeBut xs s u → AlikeBut xs s u
    id s u a = a

    -- a question that is blind
    asks : {A : Type 0} (line : ℕ) (q : Store → Result A Fault) (k : A → Act) → IsBlind xs q → ((x : A) → Goes (k x) (k x)) → Goes (evaluates line q k) (evaluates line q k)
    asks line q k h g = Follows-asks (AlikeBut xs) (AlikeBut xs) id line q q k k (λ s u a x e. sym (h s u a) ∙ e) g

    stores_goes : (c : Cell) (v : Value) → Goes (stores c v) (stores c v)
    stores_goes c v = Follows-stores (AlikeBut xs) (AlikeBut xs) id c c v (alike_put xs c v)

    steps_goes : (k : Act) → Goes k k → Goes (counts_step lang None k) (counts_step lang None k)
    steps_goes k h = Follows-counts_step (AlikeBut xs) (AlikeBut xs) id lang k k h

    range_goes : (line : ℕ) (v : Value) (k : Act) → Goes k k → Goes (checks_range lang None line v k) (checks_range lang None line v k)
    range_goes line v k h = Follows-checks_range (AlikeBut xs) (AlikeBut xs) id lang line v k k (λ e. h)

    -- the cell of a name, by its bounds
    pub cell_blind : (x : List ℕ) (is : List ℤ) → IsBlind xs (cell_at x is)
    cell_blind x is s u a = ap (λ (b : List ℕ → Option (List (ℤ × ℤ))). cell_in (b x) x is) a.bounds

    assigns_goes : (line : ℕ) (r : Reference) (e : Expression) → IsBlind xs (value_of lang e) → IsBlind xs (cell_named lang r) → Goes (assigns lang None line r e) (assigns lang None line r e)
    assigns_goes line r e h k = asks line (value_of lang e) _ h (λ v. asks line (cell_named lang r) _ k (λ c. range_goes line v _ (steps_goes _ (stores_goes c v))))

    each_goes : (ws : List (Cell × Value)) → Goes (for_each ws (stores_element lang None)) (for_each ws (stores_element lang None))
    each_goes [] = Follows-nothing (AlikeBut xs) (AlikeBut xs) id
    each_goes (w ∷ ws) = Follows-then (AlikeBut xs) (AlikeBut xs) id _ _ _ _ (steps_goes _ (stores_goes w.0 w.1)) (Stays-for_each ws (stores_element lang None) (λ v. Stays-counts_step lang None _)) (each_goes ws)

    array_goes : (line : ℕ) (m : Expression) (r : Reference) (e : Expression) → IsBlind xs (writes_of lang m r e) → Goes (array_assigns lang None line m r e) (array_assigns lang None line m r e)
    array_goes line m r e h = asks line (writes_of lang m r e) _ h each_goes

    assignment_goes : (line : ℕ) (r : Reference) (e : Expression) → IsBlind xs (value_of lang e) → IsBlind xs (cell_named lang r) → IsBlind xs (writes_of lang (Logic true) r e)
        → Goes (λ s. either (is_array lang (named r) s.store) (array_assigns lang None line (Logic true) r e) (assigns lang None line r e) s) (λ s. either (is_array lang (named r) s.store) (array_assigns lang None line (Logic true) r e) (assigns lang None line r e) s)
    assignment_goes line r e h k g = record {
      at = λ s u n a w. subst (λ b. Beside (AlikeBut xs) (either (is_array lang (named r) s.store) (array_assigns lang None line (Logic true) r e) (assigns lang None line r e) s)
          (either b (array_assigns lang None line (Logic true) r e) (assigns lang None line r e) (record s { store = u; steps = n })))
          (ap (λ (b : List ℕ → Option (List (ℤ × ℤ))). lang.arrays && not (is_scalar (named r) b)) a.bounds)
          ((Follows-either (AlikeBut xs) (AlikeBut xs) id (is_array lang (named r) s.store) _ _ _ _ (λ q. array_goes line (Logic true) r e g) (λ q. assigns_goes line r e h k)).at s u n a w);
    }

    -- ---- loops whose variable isn't among them

    sets_goes : (line : ℕ) (x : List ℕ) (z : ℤ) → Goes (sets_variable lang None line x z) (sets_variable lang None line x z)
    sets_goes line x z = asks line (cell_at x []) _ (cell_blind x []) (λ c. range_goes line (Int z) _ (stores_goes c (Int z)))

    abbrev grows : ℕ → List ℕ → ℤ → Cell → Act
    grows line x m3 c = evaluates line (λ s. do z ← as_number (s.held c); exact (z +ℤ m3)) (sets_variable lang None line x)

    increases_goes : (line : ℕ) (x : List ℕ) (m3 : ℤ) → ¬ (In x xs) → Goes (increases lang None line x m3) (increases lang None line x m3)
    increases_goes line x m3 n = Follows-evaluates (AlikeBut xs) (AlikeBut xs) id (λ s u c d. (c ≡ d) × (c.name ≡ x)) line line (cell_at x []) (cell_at x []) _ _
        (λ s u a c e. record { answer = c; answered = sym (cell_blind x [] s u a) ∙ e; related = (refl, (cell_name (s.bounds x) x [] c e).0) })
        (λ c d. record { at = λ s u m a w. subst (λ (d : Cell). Beside (AlikeBut xs) (grows line x m3 c s) (grows line x m3 d (record s { store = u; steps = m }))) a.1.0 ((known c a.1.1).at s u m a.0 w) })
      where
        known : (c : Cell) → c.name ≡ x → Goes (grows line x m3 c) (grows line x m3 c)
        known c e = asks line (λ s. do z ← as_number (s.held c); exact (z +ℤ m3)) (sets_variable lang None line x)
            (λ s u a. ap (λ h. do z ← as_number h; exact (z +ℤ m3)) (a.held c (other_name xs x c e n))) (sets_goes line x)

    turn_goes : (line : ℕ) (x : List ℕ) (m3 : ℤ) (f : Act) → ¬ (In x xs) → Goes f f → Goes (turn lang None line x m3 f) (turn lang None line x m3 f)
    turn_goes line x m3 f n h = steps_goes _ (Follows-then (AlikeBut xs) (AlikeBut xs) id f f _ _ h (Stays-evaluates line (cell_at x []) _) (increases_goes line x m3 n))

    turns_go : (line : ℕ) (x : List ℕ) (m1 m2 m3 : ℤ) (f : Act) → ¬ (In x xs) → Goes f f → Goes (evaluates line (λ s. trip_count m1 m2 m3) (λ n. repeated n (turn lang None line x m3 f))) (evaluates line (λ s. trip_count m1 m2 m3) (λ n. repeated n (turn lang None line x m3 f)))
    turns_go line x m1 m2 m3 f n h = asks line (λ s. trip_count m1 m2 m3) _ (λ s u a. refl) (λ k. Follows-repeated (AlikeBut xs) k _ _ (turn_goes line x m3 f n h) (Stays-counts_step lang None _))

  -- ---- a loop of one of them, or of another one

  pub not_in : (x : List ℕ) (xs : List (List ℕ)) → ¬ (In x (without x xs))
  not_in x xs i = (was_in x x xs i).1 refl

  -- a question that is asked where the run isn't going
  pub idle : {A : Type 0} (line : ℕ) (q : Store → Result A Fault) (k : A → Act) (s : State) → is_going s.way ≡ false → evaluates line q k s ≡ s
  unfolding evaluates while_going
  idle line q k s e = by s.way e
    where
      by : (w : Way) → is_going w ≡ false → on_way w (λ s. answered line (q s.store) k s) s ≡ s
      by Going e = cc
      by (Jumping n) e = refl
      by Stopped e = refl
      by (Failed f n) e = refl
      by Cut e = refl

  going_asks : {A : Type 0} (line : ℕ) (q : Store → Result A Fault) (k : A → Act) (s : State) → s.way ≡ Going → evaluates line q k s ≡ answered line (q s.store) k s
  unfolding evaluates while_going
  going_asks line q k s w = rw w refl

  going_range : (line : ℕ) (v : Value) (k : Act) (s : State) → s.way ≡ Going → checks_range lang None line v k s ≡ either (is_in_range lang.bits v) k (goes (Failed Overflow line)) s
  unfolding checks_range while_going
  going_range line v k s w = rw w refl

  pub sound_by : (s t : State) → s ≡ t → IsSound s.way → IsSound t.way
  sound_by s t e h = subst (λ (r : State). IsSound r.way) e h

  abbrev pub afterwards : ℕ → ℤ → Cell → Act
  afterwards line z c = checks_range lang None line (Int z) (stores c (Int z))

  -- the variable could be set
  pub sets_sound : (line : ℕ) (x : List ℕ) (z : ℤ) (s : State) → s.way ≡ Going → IsSound (sets_variable lang None line x z s).way
      → (cell_at x [] s.store ≡ Ok (variable_cell x)) × (is_in_range lang.bits (Int z) ≡ true)
  sets_sound line x z s w h =
      by (cell_at x [] s.store) refl (sound_by (sets_variable lang None line x z s) (answered line (cell_at x [] s.store) (afterwards line z) s) (going_asks line (cell_at x []) (afterwards line z) s w) h)
    where
      range : (c : Cell) (b : Bool) → is_in_range lang.bits (Int z) ≡ b → IsSound (either b (stores c (Int z)) (goes (Failed Overflow line)) s).way → is_in_range lang.bits (Int z) ≡ true
      range c true e g = e
      range c false e g = absurd g

      by : (r : Result Cell Fault) → cell_at x [] s.store ≡ r → IsSound (answered line r (afterwards line z) s).way → (cell_at x [] s.store ≡ Ok (variable_cell x)) × (is_in_range lang.bits (Int z) ≡ true)
      by (Err f) e g = absurd g
      by (Ok c) e g = (
        e ∙ ap Ok (scalar_cell (s.store.bounds x) x c e),
        range c (is_in_range lang.bits (Int z)) refl (sound_by (afterwards line z c s) (either (is_in_range lang.bits (Int z)) (stores c (Int z)) (goes (Failed Overflow line)) s) (going_range line (Int z) (stores c (Int z)) s w) g),
      )

  pub sets_at : (line : ℕ) (x : List ℕ) (z : ℤ) (s : State) → s.way ≡ Going → cell_at x [] s.store ≡ Ok (variable_cell x) → is_in_range lang.bits (Int z) ≡ true
      → sets_variable lang None line x z s ≡ record s { store = put (variable_cell x) (Int z) s.store }
  unfolding evaluates while_going checks_range stores
  sets_at line x z s w e r = rw (w, e, r) refl

  -- from where the variable is set
  after_set : {A : Type 0} (xs : List (List ℕ)) (line : ℕ) (x : List ℕ) (z : ℤ) (q : Store → Result A Fault) (k : A → Act) → Follows (AlikeBut (without x xs)) (AlikeBut (without x xs)) (evaluates line q k) (evaluates line q k)
      → Follows (AlikeBut xs) (AlikeBut xs) (then (sets_variable lang None line x z) (evaluates line q k)) (then (sets_variable lang None line x z) (evaluates line q k))
  after_set {A} xs line x z q k h = record { at = λ s u n a w. by s u n a (is_going s.way) refl w }
    where
      by : (s : State) (u : Store) (n : ℕ) → AlikeBut xs s.store u → (b : Bool) → is_going s.way ≡ b → IsSound (evaluates line q k (sets_variable lang None line x z s)).way → Beside (AlikeBut xs) (evaluates line q k (sets_variable lang None line x z s)) (evaluates line q k (sets_variable lang None line x z (record s { store = u; steps = n })))
      by s u n a false e w =
          let t : State = record s { store = u; steps = n } in
          let one : evaluates line q k (sets_variable lang None line x z s) ≡ s = ap (evaluates line q k) (idle line (cell_at x []) (afterwards line z) s e) ∙ idle line q k s e in
          let two : evaluates line q k (sets_variable lang None line x z t) ≡ t = ap (evaluates line q k) (idle line (cell_at x []) (afterwards line z) t e) ∙ idle line q k t e in
          subst (λ (r : State). Beside (AlikeBut xs) r (evaluates line q k (sets_variable lang None line x z t))) (sym one) (subst (λ (r : State). Beside (AlikeBut xs) s r) (sym two) (record { stores = a; rest = refl }))
      by s u n a true e w =
          let t : State = record s { store = u; steps = n } in
          let going = going_is s.way e in
          let f = sets_sound line x z s going ((Stays-evaluates line q k).at (sets_variable lang None line x z s) w) in
          let one : sets_variable lang None line x z s ≡ record s { store = put (variable_cell x) (Int z) s.store } = sets_at line x z s going f.0 f.1 in
          let two : sets_variable lang None line x z t ≡ record t { store = put (variable_cell x) (Int z) u } = sets_at line x z t going (sym (cell_blind xs x [] s.store u a) ∙ f.0) f.1 in
          let b = h.at (record s { store = put (variable_cell x) (Int z) s.store }) (put (variable_cell x) (Int z) u) n (alike_set xs x (Int z) s.store u a) (sound_by (evaluates line q k (sets_variable lang None line x z s)) (evaluates line q k (record s { store = put (variable_cell x) (Int z) s.store })) (ap (evaluates line q k) one) w) in
          subst (λ (r : State). Beside (AlikeBut xs) (evaluates line q k r) (evaluates line q k (sets_variable lang None line x z t))) (sym one) (subst (λ (r : State). Beside (AlikeBut xs) (evaluates line q k (record s { store = put (variable_cell x) (Int z) s.store })) (evaluates line q k r)) (sym two)
          (record { stores = alike_less xs x (evaluates line q k (record s { store = put (variable_cell x) (Int z) s.store })).store (evaluates line q k (record s { store = put (variable_cell x) (Int z) u; steps = n })).store b.stores; rest = b.rest }))

  loops_go : (xs : List (List ℕ)) (line : ℕ) (x : List ℕ) (a b c : Expression) (f : Act) → AreBlind lang xs a b c → Goes (without x xs) f f → Goes xs (loops lang None line x a b c f) (loops lang None line x a b c f)
  loops_go xs line x a b c f h g = asks xs line (number_of lang a) _ h.0 (λ m1. asks xs line (number_of lang b) _ h.1 (λ m2. asks xs line (increment_of lang c) _ h.2 (λ m3.
      after_set xs line x m1 (λ s. trip_count m1 m2 m3) (λ n. repeated n (turn lang None line x m3 f)) (turns_go (without x xs) line x m1 m2 m3 f (not_in x xs) g))))

  -- ---- READ and PRINT

  reads_goes : (xs : List (List ℕ)) (line : ℕ) (c : Cell) → ((y : List ℕ) → In y xs → ¬ (c ≡ variable_cell y)) → Goes xs (reads_into lang None line c) (reads_into lang None line c)
  reads_goes xs line c n = Follows-takes_word (AlikeBut xs) (AlikeBut xs) (λ s u a. a) line _ _ (λ w. asks xs line (λ s. read_value (s.held c) w) _ (λ s u a. ap (λ h. read_value h w) (a.held c n))
      (λ v. range_goes xs line v _ (steps_goes xs _ (stores_goes xs c v))))

  each_read : (xs : List (List ℕ)) (line : ℕ) (x : List ℕ) → ¬ (In x xs) → (cs : List Cell) → AllNamed x cs → Goes xs (for_each cs (reads_into lang None line)) (for_each cs (reads_into lang None line))
  each_read xs line x n [] h = Follows-nothing (AlikeBut xs) (AlikeBut xs) (λ s u a. a)
  each_read xs line x n (c ∷ cs) h = Follows-then (AlikeBut xs) (AlikeBut xs) (λ s u a. a) _ _ _ _ (reads_goes xs line c (other_name xs x c h.0 n)) (Stays-for_each cs (reads_into lang None line) (λ d. Stays-takes_word line _)) (each_read xs line x n cs h.1)

  -- the cells that are read into are those of the name
  pub items_named : (x : List ℕ) (ps : Subscripts) (s : Store) (cs : List Cell) → item_cells lang x ps s ≡ Ok cs → AllNamed x cs
  items_named x no_subscripts s cs e =
      let p = both_ok (stored_bounds x s) (λ bs. Ok (cells_of x bs)) cs e in
      subst (AllNamed x) (ok_same {F = Fault} (cells_of x p.0) cs p.2) (named_so (column_major (map (λ (b : ℤ × ℤ). numbers_from b.0 (size_of b)) p.0)))
    where
      named_so : (iss : List (List ℤ)) → AllNamed x (map (λ is. record { name = x; subscripts = is }) iss)
      named_so [] = tt
      named_so (is ∷ iss) = (refl, named_so iss)
  items_named x (subscript p ps) s cs e =
      let i = both_ok (subscript_values lang (subscript p ps) s) (λ is. (do c ← cell_at x is s; Ok (c ∷ []))) cs e in
      let c = both_ok (cell_at x i.0 s) (λ c. Ok (c ∷ [])) cs i.2 in
      subst (AllNamed x) (ok_same {F = Fault} (c.0 ∷ []) cs c.2) ((cell_name (s.bounds x) x i.0 c.0 c.1).0, tt)

  mutual
    input_goes : (i : Item) (xs : List (List ℕ)) (line : ℕ) → KeptInput lang xs i → Goes xs (reads_item lang None i line) (reads_item lang None i line)
    input_goes (Single (Named x ps)) xs line h = Follows-evaluates (AlikeBut xs) (AlikeBut xs) (λ s u a. a) (λ s u c d. (c ≡ d) × AllNamed x c) line line (item_cells lang x ps) (item_cells lang x ps) _ _
        (λ s u a c e. record { answer = c; answered = sym (h.1 s u a) ∙ e; related = (refl, items_named x ps s c e) })
        (λ c d. record { at = λ s u m a w. subst (λ (d : List Cell). Beside (AlikeBut xs) (for_each c (reads_into lang None line) s) (for_each d (reads_into lang None line) (record s { store = u; steps = m }))) a.1.0 ((each_read xs line x h.0 c a.1.1).at s u m a.0 w) })
    input_goes (ImpliedDo is x a b c) xs line h = loops_go xs line x a b c (reads_items lang None is line) h.0 (inputs_go is (without x xs) line h.1)
    input_goes (Constant t) xs line h = Follows-nothing (AlikeBut xs) (AlikeBut xs) (λ s u a. a)
    input_goes (Single (Number n)) xs line h = Follows-nothing (AlikeBut xs) (AlikeBut xs) (λ s u a. a)
    input_goes (Single (Logic n)) xs line h = Follows-nothing (AlikeBut xs) (AlikeBut xs) (λ s u a. a)
    input_goes (Single (Unary o e)) xs line h = Follows-nothing (AlikeBut xs) (AlikeBut xs) (λ s u a. a)
    input_goes (Single (Binary o e f)) xs line h = Follows-nothing (AlikeBut xs) (AlikeBut xs) (λ s u a. a)
    input_goes (Single (Apply f es)) xs line h = Follows-nothing (AlikeBut xs) (AlikeBut xs) (λ s u a. a)
    input_goes (Single (Constructor es ls)) xs line h = Follows-nothing (AlikeBut xs) (AlikeBut xs) (λ s u a. a)
    input_goes (Single (Spread e k f)) xs line h = Follows-nothing (AlikeBut xs) (AlikeBut xs) (λ s u a. a)
    input_goes (Single (Transpose e)) xs line h = Follows-nothing (AlikeBut xs) (AlikeBut xs) (λ s u a. a)
    input_goes (Single (Reshape e es)) xs line h = Follows-nothing (AlikeBut xs) (AlikeBut xs) (λ s u a. a)
    input_goes (Single (Reduce r e)) xs line h = Follows-nothing (AlikeBut xs) (AlikeBut xs) (λ s u a. a)

    inputs_go : (is : Items) (xs : List (List ℕ)) (line : ℕ) → KeptInputs lang xs is → Goes xs (reads_items lang None is line) (reads_items lang None is line)
    inputs_go no_items xs line h = Follows-nothing (AlikeBut xs) (AlikeBut xs) (λ s u a. a)
    inputs_go (item i is) xs line h = Follows-then (AlikeBut xs) (AlikeBut xs) (λ s u a. a) _ _ _ _ (input_goes i xs line h.0) (Stays-reads_items lang None is line) (inputs_go is xs line h.1)

  mutual
    output_goes : (i : Item) (xs : List (List ℕ)) (line : ℕ) → KeptOutput lang xs i → Goes xs (prints_item lang None i line) (prints_item lang None i line)
    output_goes (Single e) xs line h = asks xs line (item_values lang e) _ h (λ vs. Follows-writes (AlikeBut xs) (AlikeBut xs) (λ s u a. a) (output_text vs))
    output_goes (Constant t) xs line h = Follows-writes (AlikeBut xs) (AlikeBut xs) (λ s u a. a) t
    output_goes (ImpliedDo is x a b c) xs line h = loops_go xs line x a b c (prints_items lang None is line) h.0 (outputs_go is (without x xs) line h.1)

    outputs_go : (is : Items) (xs : List (List ℕ)) (line : ℕ) → KeptOutputs lang xs is → Goes xs (prints_items lang None is line) (prints_items lang None is line)
    outputs_go no_items xs line h = Follows-nothing (AlikeBut xs) (AlikeBut xs) (λ s u a. a)
    outputs_go (item i is) xs line h = Follows-then (AlikeBut xs) (AlikeBut xs) (λ s u a. a) _ _ _ _ (output_goes i xs line h.0) (Stays-prints_items lang None is line) (outputs_go is xs line h.1)

  -- ---- statements

  allocates_goes : (xs : List (List ℕ)) (x : List ℕ) (bs : List (ℤ × ℤ)) → Goes xs (allocates x bs) (allocates x bs)
  unfolding allocates
  allocates_goes xs x bs = Follows-while_going (AlikeBut xs) (AlikeBut xs) (λ s u a. a) _ _ (record {
    at = λ s u n a w. record {
      stores = record {
        bounds = ap {B = List ℕ → Option (List (ℤ × ℤ))} (λ (b : List ℕ → Option (List (ℤ × ℤ))) (y : List ℕ). cond (bytes_eq x y) (Some bs) (b y)) a.bounds;
        held = λ c m. ap (λ h. cond (bytes_eq x c.name) (nought_like h) h) (a.held c m);
      };
      rest = refl;
    };
  })

  deallocates_goes : (xs : List (List ℕ)) (x : List ℕ) → Goes xs (deallocates x) (deallocates x)
  unfolding deallocates
  deallocates_goes xs x = Follows-while_going (AlikeBut xs) (AlikeBut xs) (λ s u a. a) _ _ (record {
    at = λ s u n a w. record {
      stores = record { bounds = ap {B = List ℕ → Option (List (ℤ × ℤ))} (λ (b : List ℕ → Option (List (ℤ × ℤ))) (y : List ℕ). cond (bytes_eq x y) None (b y)) a.bounds; held = λ c m. a.held c m };
      rest = refl;
    };
  })

  label_goes : (xs : List (List ℕ)) (n : ℕ) → Goes xs (does lang None (Label n)) (does lang None (Label n))
  label_goes xs n = record { at = λ s. (Follows-either (AlikeBut xs) (AlikeBut xs) (λ s u a. a) (arrives n s.way) (goes Going) (goes Going) nothing nothing (λ e. Follows-goes (AlikeBut xs) (AlikeBut xs) (λ s u a. a) Going) (λ e. Follows-nothing (AlikeBut xs) (AlikeBut xs) (λ s u a. a))).at s }

  mutual
    pub statement_goes : (c : Statement) (xs : List (List ℕ)) → Kept lang xs c → Goes xs (does lang None c) (does lang None c)
    statement_goes (Assignment line mark r e) xs h = steps_goes xs _ (assignment_goes xs line r e h.0 h.1 h.2)
    statement_goes (Where line mark m r e) xs h = Follows-either (AlikeBut xs) (AlikeBut xs) (λ s u a. a) lang.arrays _ _ nothing nothing (λ q. steps_goes xs _ (array_goes xs line m r e h)) (λ q. Follows-nothing (AlikeBut xs) (AlikeBut xs) (λ s u a. a))
    statement_goes (If line arms other) xs h = arms_go arms line (does_all lang None other) xs h.0 (Stays-does_all lang None other) (block_goes other xs h.1)
    statement_goes (Do line x a b c body) xs h = loops_go xs line x a b c (does_all lang None body) h.0 (block_goes body (without x xs) h.1)
    statement_goes (Label n) xs h = label_goes xs n
    statement_goes (GoTo line n) xs h = steps_goes xs _ (Follows-goes (AlikeBut xs) (AlikeBut xs) (λ s u a. a) (Jumping n))
    statement_goes (Stop line) xs h = steps_goes xs _ (Follows-goes (AlikeBut xs) (AlikeBut xs) (λ s u a. a) Stopped)
    statement_goes (Read line is) xs h = steps_goes xs _ (Follows-then (AlikeBut xs) (AlikeBut xs) (λ s u a. a) _ _ _ _ (Follows-begins_line (AlikeBut xs) (AlikeBut xs) (λ s u a. a) line)
        (Stays-then _ _ (Stays-reads_items lang None is line) Stays-skips_line)
        (Follows-then (AlikeBut xs) (AlikeBut xs) (λ s u a. a) _ _ _ _ (inputs_go is xs line h) Stays-skips_line (Follows-skips_line (AlikeBut xs) (AlikeBut xs) (λ s u a. a))))
    statement_goes (Print line is) xs h = steps_goes xs _ (Follows-then (AlikeBut xs) (AlikeBut xs) (λ s u a. a) _ _ _ _ (Follows-writes (AlikeBut xs) (AlikeBut xs) (λ s u a. a) (first_blank is))
        (Stays-then _ _ (Stays-prints_items lang None is line) (Stays-writes (10 ∷ [])))
        (Follows-then (AlikeBut xs) (AlikeBut xs) (λ s u a. a) _ _ _ _ (outputs_go is xs line h) (Stays-writes (10 ∷ [])) (Follows-writes (AlikeBut xs) (AlikeBut xs) (λ s u a. a) (10 ∷ []))))
    statement_goes (Allocate line x es) xs h = Follows-either (AlikeBut xs) (AlikeBut xs) (λ s u a. a) lang.arrays _ _ nothing nothing
        (λ q. steps_goes xs _ (asks xs line (allocated_bounds lang x es) _ h (allocates_goes xs x))) (λ q. Follows-nothing (AlikeBut xs) (AlikeBut xs) (λ s u a. a))
    statement_goes (Deallocate line x) xs h = Follows-either (AlikeBut xs) (AlikeBut xs) (λ s u a. a) lang.arrays _ _ nothing nothing
        (λ q. steps_goes xs _ (asks xs line (stored_bounds x) _ (λ s u a. ap (λ (b : List ℕ → Option (List (ℤ × ℤ))). bounds_in (b x)) a.bounds) (λ b. deallocates_goes xs x))) (λ q. Follows-nothing (AlikeBut xs) (AlikeBut xs) (λ s u a. a))

    arms_go : (arms : Arms) (line : ℕ) (f : Act) (xs : List (List ℕ)) → KeptArms lang xs arms → Stays f → Goes xs f f → Goes xs (chooses lang None line arms f) (chooses lang None line arms f)
    arms_go no_arms line f xs h w g = g
    arms_go (arm test body arms) line f xs h w g = steps_goes xs _ (asks xs line (truth_of lang test) _ h.0
        (λ b. Follows-either (AlikeBut xs) (AlikeBut xs) (λ s u a. a) b _ _ _ _ (λ e. block_goes body xs h.1) (λ e. arms_go arms line f xs h.2 w g)))

    pub block_goes : (cs : Block) (xs : List (List ℕ)) → KeptBlock lang xs cs → Goes xs (does_all lang None cs) (does_all lang None cs)
    block_goes no_statements xs h = Follows-nothing (AlikeBut xs) (AlikeBut xs) (λ s u a. a)
    block_goes (statement c cs) xs h = Follows-then (AlikeBut xs) (AlikeBut xs) (λ s u a. a) _ _ _ _ (statement_goes c xs h.0) (Stays-does_all lang None cs) (block_goes cs xs h.1)

pub kept_statements_follow : KeptStatementsFollow
kept_statements_follow lang xs cs h s t a w =
    let same : ◌≡◌ {A = State} (record s { store = t.store; steps = t.steps }) t
    = (λ i. record { store = t.store; written = a.written i; input = a.input i; had_value = a.had_value i; steps = t.steps; way = a.way i }) in
    let one = (block_goes lang cs xs h).at s t.store t.steps a.store w in
    subst (λ (r : State). MomentsAlike (AlikeBut xs) (does_all lang None cs s) (does_all lang None cs r)) same (record {
      store = one.stores;
      written = sym (ap (λ (r : State). r.written) one.rest);
      input = sym (ap (λ (r : State). r.input) one.rest);
      had_value = sym (ap (λ (r : State). r.had_value) one.rest);
      way = sym (ap (λ (r : State). r.way) one.rest);
    })
