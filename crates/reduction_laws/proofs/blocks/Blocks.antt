-- Statements with forms in place of loops go the same way.
use Rattle.std.proofs.Common.{◌≡◌, refl, sym, ap, ap₂, ◌∙◌, subst, ◌⊎◌, inl, inr, ℕ, ◌+◌, ◌^◌, ℤ, ◌+ℤ◌, ◌≤◌, pos, arith, negsuc, Bool, true, false, not, ◌&&◌, cond, List, [], ◌∷◌, ◌++◌, map, Result, Ok, Err, Option, Some, None}
use Rattle.std.specs.Prelude.{IfSome, Contains, int_le}
use Rattle.std.specs.Option.{IsSomeAnd}
use Rattle.std.specs.List.{filter}
use Rattle.std.specs.Str.{bytes_eq}
use Rattle.std.proofs.lemmas.Bool.Decides.{Decides-ltb}
use Rattle.std.proofs.lemmas.Nat.{pow_pos}
use Rattle.std.proofs.lemmas.Slice.Eq.{bytes_eq-Decides}
use Rattle.tree.specs.Operators.{as_number}
use Rattle.tree.specs.Steps.{◌>>=◌}
use Rattle.tree.specs.Plain.{Expression, Number, Logic, Named, Unary, Binary, Apply, Constructor, Spread, Transpose, Reshape, Reduce, Reference, Declaration, Program}
use Rattle.tree.specs.Plain.{Statement, Assignment, Where, If, Do, Label, GoTo, Stop, Read, Print, Allocate, Deallocate, Arms, no_arms, arm, Block, no_statements, statement}
use Rattle.tree.specs.declared.ops.Fault.{Fault}
use Rattle.tree.specs.declared.ops.Kind.TheVariants.{Integer}
use Rattle.tree.specs.declared.ops.Value.{Value}
use Rattle.tree.specs.declared.ops.Value.TheVariants.{Int, Truth}
use Rattle.meaning.specs.Blocks.{Surroundings, before_labels, labels_of, outermost, within_loop}
use Rattle.meaning.specs.Dialect.{Dialect}
use Rattle.meaning.specs.Holding.{HoldsProgram, IsStorable}
use Rattle.meaning.specs.Names.{is_among}
use Rattle.meaning.specs.Profile90.{AreArms, IsBlock, IsProgram90, IsStatement}
use Rattle.meaning.specs.Ranges.{HoldsInRange}
use Rattle.meaning.specs.Run.{State, Way, Going, Jumping, Stopped, Failed, Cut, Act, nothing, then, either, repeated, goes, on_way, while_going, arrives, evaluates, stores, checks_range, counts_step, sets_variable, increases, turn, loops, does, chooses, does_all}
use Rattle.meaning.specs.Store.{Store, Cell, put, same_cell, cell_at, names_of, nought_like}
use Rattle.meaning.specs.Typed.{declared, rank_of_extent}
use Rattle.meaning.specs.Typed90.{IsIntegerScalar}
use Rattle.meaning.specs.Value.{exact, increment_of, is_in_range, named, number_of, trip_count, truth_of}
use Rattle.meaning.proofs.Exchanges.{same_cell-same}
use Rattle.meaning.proofs.Kept as holding
use Rattle.meaning_laws.proofs.profiles.Lists.{here, there}
use Rattle.meaning_laws.proofs.profiles.TargetRuns.{statements_keep_stores}
use Rattle.nest_order.specs.orders.Lists.{In}
use Rattle.nest_order.specs.runs.Guarded.{variable_cell}
use Rattle.rewrite.specs.Following.{IsSound, MomentsAlike}
use Rattle.rewrite.proofs.Acts.{Stays, Stays-evaluates, Stays-counts_step, Stays-does_all, Beside, Follows, Follows-nothing, Follows-then, Follows-either, Follows-stores, Follows-counts_step, Follows-checks_range, Follows-asks, Follows-evaluates, Follows-repeated}
use Rattle.reductions.specs.Finding.{Context, FoundLoop, context_of, is_positive, is_source, may_be_section, reducible}
use Rattle.reductions.specs.Gathering.{Lines, Loop, form_of, in_turn, listed, loop_of, section_of, tested}
use Rattle.reductions.specs.Reading.{read_in, read_in_arms, read_in_block, read_in_loop, read_in_statement, without}
use Rattle.reductions.specs.Reduced.{assignment, form, formed_or, lines_of, reduced, reduced_arms, reduced_block, values_of}
use Rattle.reduction_laws.specs.blocks.Reduced.{ReducedBlockFollows, unread_names}
use Rattle.reduction_laws.specs.gathering.Gathering.{IsReducible, MayBeSection, MayStart}
use Rattle.reduction_laws.specs.unread.Unread.{AlikeBut, AreBlind, IsBlind, Kept}
use Rattle.reduction_laws.specs.unread.Reading.{Spared}
use Rattle.reduction_laws.specs.unread.Replaced.{FollowsAs, FollowsAsForm}
use Rattle.reduction_laws.proofs.blocks.Conditions.{Conditions, Typed, among, conditions, differ, may_start, no, reducible_loop, section, typed}
use Rattle.reduction_laws.proofs.blocks.FormReads.{form_spared, tested_spared, values_spared}
use Rattle.reduction_laws.proofs.blocks.Kept.{bounds_blind, kept, test_blind}
use Rattle.reduction_laws.proofs.blocks.Sameness.{both}
use Rattle.reduction_laws.proofs.blocks.Shape.{IsFound, lines_at, reducible_is}
use Rattle.reduction_laws.proofs.unread.Blind.{left, right}
use Rattle.reduction_laws.proofs.unread.Law.{afterwards, alike_less, alike_put, alike_set, cell_blind, going_is, idle, is_going, not_in, other_name, scalar_cell, sets_at, sets_sound, sound_by, statement_goes, still_in, was_in}
use Rattle.reduction_laws.proofs.unread.Replaced.{replaced_loop_follows}

-- ---- lists of names

kept_name : (test : List ℕ → Bool) (x : List ℕ) (ns : List (List ℕ)) → In x ns → test x ≡ true → In x (filter test ns)
kept_name test x [] i e = absurd i
kept_name test x (n ∷ ns) i e = by (test n) refl i (λ j. kept_name test x ns j e)
  where
    by : (b : Bool) → test n ≡ b → (x ≡ n) ⊎ In x ns → (In x ns → In x (filter test ns)) → In x (cond b (n ∷ filter test ns) (filter test ns))
    by true g (inl f) more = inl f
    by true g (inr j) more = inr (more j)
    by false g (inl f) more = absurd (differ (test x) e (ap test f ∙ g))
    by false g (inr j) more = more j

pub passed : (test : List ℕ → Bool) (x : List ℕ) (ns : List (List ℕ)) → In x (filter test ns) → test x ≡ true
passed test x [] i = absurd i
passed test x (n ∷ ns) i = by (test n) refl i (passed test x ns)
  where
    by : (b : Bool) → test n ≡ b → In x (cond b (n ∷ filter test ns) (filter test ns)) → (In x (filter test ns) → test x ≡ true) → test x ≡ true
    by true g (inl f) more = ap test f ∙ g
    by true g (inr j) more = more j
    by false g j more = more j

declared_name : (ds : List Declaration) (x : List ℕ) → IsIntegerScalar ds x → In x (map (λ (d : Declaration). d.name) ds)
declared_name [] x h = absurd h
declared_name (d ∷ ds) x h = by (bytes_eq d.name x) refl h (declared_name ds x)
  where
    by : (b : Bool) → bytes_eq d.name x ≡ b → IsSomeAnd (cond b (Some d) (declared ds x)) (λ d. (d.kind ≡ Integer) × (rank_of_extent d.extent ≡ 0))
        → (IsIntegerScalar ds x → In x (map (λ (d : Declaration). d.name) ds)) → (x ≡ d.name) ⊎ In x (map (λ (d : Declaration). d.name) ds)
    by true e h more = inl (sym ((bytes_eq-Decides d.name x).0 e))
    by false e h more = inr (more h)

module _ (lang : Dialect) (p : Program) (arrays : lang.arrays ≡ true) (bits : lang.bits ≤ 64) where
  abbrev ds : List Declaration
  ds = p.declarations

  abbrev w : Context
  w = context_of p

  -- the first run's store holds the program
  pub record Held (s : Store) : Type 0 where
    pub program : HoldsProgram lang p s
    pub range : HoldsInRange lang.bits s

  abbrev Both : List (List ℕ) → Store → Store → Type 0
  Both xs s u = AlikeBut xs s u × Held s

  abbrev Goes : List (List ℕ) → Act → Act → Type 0
  Goes xs f g = Follows (Both xs) (Both xs) f g

  same : (xs : List (List ℕ)) (s u : Store) → Both xs s u → Both xs s u
  same xs s u a = a

  -- ---- the variable of a loop is set

  stored : (o : Option Declaration) (z : ℤ) → IsSomeAnd o (λ d. (d.kind ≡ Integer) × (rank_of_extent d.extent ≡ 0)) → is_in_range lang.bits (Int z) ≡ true → IfSome o (λ d. IsStorable lang d.kind (Int z))
  stored (Some d) z h r = record { kind = sym h.0; within = r }
  stored None z h r = absurd h

  set_held : (x : List ℕ) (z : ℤ) (s : Store) → IsIntegerScalar ds x → is_in_range lang.bits (Int z) ≡ true → Held s → Held (put (variable_cell x) (Int z) s)
  set_held x z s h r held = record {
    program = record {
      bounds = held.program.bounds;
      kinds = λ c. kind c (same_cell (variable_cell x) c) refl;
    };
    range = λ c. range c (same_cell (variable_cell x) c);
  }
    where
      kind : (c : Cell) (b : Bool) → same_cell (variable_cell x) c ≡ b → IfSome (declared ds c.name) (λ d. IsStorable lang d.kind (cond b (Int z) (s.held c)))
      kind c true e = subst (λ (y : List ℕ). IfSome (declared ds y) (λ d. IsStorable lang d.kind (Int z))) (ap (λ (d : Cell). d.name) (same_cell-same (variable_cell x) c e)) (stored (declared ds x) z h r)
      kind c false e = held.program.kinds c

      range : (c : Cell) (b : Bool) → is_in_range lang.bits (cond b (Int z) (s.held c)) ≡ true
      range c true = r
      range c false = held.range c

  asks : {A : Type 0} (xs : List (List ℕ)) (line : ℕ) (q : Store → Result A Fault) (k k' : A → Act) → IsBlind xs q → ((x : A) → Goes xs (k x) (k' x)) → Goes xs (evaluates line q k) (evaluates line q k')
  asks xs line q k k' h g = Follows-asks (Both xs) (Both xs) (same xs) line q q k k' (λ s u a x e. sym (h s u a.0) ∙ e) g

  steps : (xs : List (List ℕ)) (k k' : Act) → Goes xs k k' → Goes xs (counts_step lang None k) (counts_step lang None k')
  steps xs k k' h = Follows-counts_step (Both xs) (Both xs) (same xs) lang k k' h

  -- the cell of a scalar is known
  known_cell : (xs : List (List ℕ)) (line : ℕ) (x : List ℕ) (k : Cell → Act) → Goes xs (k (variable_cell x)) (k (variable_cell x)) → Goes xs (evaluates line (cell_at x []) k) (evaluates line (cell_at x []) k)
  known_cell xs line x k h = Follows-evaluates (Both xs) (Both xs) (same xs) (λ s u c d. (c ≡ variable_cell x) × (d ≡ variable_cell x)) line line (cell_at x []) (cell_at x []) k k
      (λ s u a c e. record { answer = c; answered = sym (cell_blind lang xs x [] s u a.0) ∙ e; related = (scalar_cell (s.bounds x) x c e, scalar_cell (s.bounds x) x c e) })
      (λ c d. record {
        at = λ s u m a w. subst (λ (d : Cell). Beside (Both xs) (k c s) (k d (record s { store = u; steps = m }))) (sym a.1.1)
            (subst (λ (c : Cell). Beside (Both xs) (k c s) (k (variable_cell x) (record s { store = u; steps = m }))) (sym a.1.0) (h.at s u m a.0 (subst (λ (c : Cell). IsSound (k c s).way) a.1.0 w)));
      })

  after_range : (xs : List (List ℕ)) (line : ℕ) (x : List ℕ) (z : ℤ) → IsIntegerScalar ds x → Goes xs (afterwards lang line z (variable_cell x)) (afterwards lang line z (variable_cell x))
  after_range xs line x z h = Follows-checks_range (Both xs) (Both xs) (same xs) lang line (Int z) _ _ (λ r.
      Follows-stores (Both xs) (Both xs) (same xs) (variable_cell x) (variable_cell x) (Int z) (λ s u a. (alike_put xs (variable_cell x) (Int z) s u a.0, set_held x z s h r a.1)))

  sets : (xs : List (List ℕ)) (line : ℕ) (x : List ℕ) (z : ℤ) → IsIntegerScalar ds x → Goes xs (sets_variable lang None line x z) (sets_variable lang None line x z)
  sets xs line x z h = known_cell xs line x (afterwards lang line z) (after_range xs line x z h)

  abbrev grows : ℕ → List ℕ → ℤ → Cell → Act
  grows line x m3 c = evaluates line (λ s. do z ← as_number (s.held c); exact (z +ℤ m3)) (sets_variable lang None line x)

  increase : (xs : List (List ℕ)) (line : ℕ) (x : List ℕ) (m3 : ℤ) → ¬ (In x xs) → IsIntegerScalar ds x → Goes xs (increases lang None line x m3) (increases lang None line x m3)
  increase xs line x m3 n h = known_cell xs line x (grows line x m3) (asks xs line (λ s. do z ← as_number (s.held (variable_cell x)); exact (z +ℤ m3)) (sets_variable lang None line x) (sets_variable lang None line x)
      (λ s u a. ap (λ v. do z ← as_number v; exact (z +ℤ m3)) (a.held (variable_cell x) (other_name xs x (variable_cell x) refl n))) (λ z. sets xs line x z h))

  turn_goes : (xs : List (List ℕ)) (line : ℕ) (x : List ℕ) (m3 : ℤ) (f g : Act) → ¬ (In x xs) → IsIntegerScalar ds x → Goes xs f g → Goes xs (turn lang None line x m3 f) (turn lang None line x m3 g)
  turn_goes xs line x m3 f g n h k = steps xs _ _ (Follows-then (Both xs) (Both xs) (same xs) f g _ _ k (Stays-evaluates line (cell_at x []) _) (increase xs line x m3 n h))

  turns_go : (xs : List (List ℕ)) (line : ℕ) (x : List ℕ) (m1 m2 m3 : ℤ) (f g : Act) → ¬ (In x xs) → IsIntegerScalar ds x → Goes xs f g
      → Goes xs (evaluates line (λ s. trip_count m1 m2 m3) (λ n. repeated n (turn lang None line x m3 f))) (evaluates line (λ s. trip_count m1 m2 m3) (λ n. repeated n (turn lang None line x m3 g)))
  turns_go xs line x m1 m2 m3 f g n h k = asks xs line (λ s. trip_count m1 m2 m3) _ _ (λ s u a. refl)
      (λ m. Follows-repeated (Both xs) m (turn lang None line x m3 f) (turn lang None line x m3 g) (turn_goes xs line x m3 f g n h k) (Stays-counts_step lang None _))

  -- from where the variable is set
  after_set : {A : Type 0} (xs : List (List ℕ)) (line : ℕ) (x : List ℕ) (z : ℤ) (q : Store → Result A Fault) (k k' : A → Act) → IsIntegerScalar ds x → Goes (without x xs) (evaluates line q k) (evaluates line q k')
      → Goes xs (then (sets_variable lang None line x z) (evaluates line q k)) (then (sets_variable lang None line x z) (evaluates line q k'))
  after_set {A} xs line x z q k k' integer h = record { at = λ s u n a w. by s u n a (is_going s.way) refl w }
    where
      by : (s : State) (u : Store) (n : ℕ) → Both xs s.store u → (b : Bool) → is_going s.way ≡ b → IsSound (evaluates line q k (sets_variable lang None line x z s)).way
          → Beside (Both xs) (evaluates line q k (sets_variable lang None line x z s)) (evaluates line q k' (sets_variable lang None line x z (record s { store = u; steps = n })))
      by s u n a false e w =
          let t : State = record s { store = u; steps = n } in
          let one : evaluates line q k (sets_variable lang None line x z s) ≡ s = ap (evaluates line q k) (idle lang line (cell_at x []) (afterwards lang line z) s e) ∙ idle lang line q k s e in
          let two : evaluates line q k' (sets_variable lang None line x z t) ≡ t = ap (evaluates line q k') (idle lang line (cell_at x []) (afterwards lang line z) t e) ∙ idle lang line q k' t e in
          subst (λ (r : State). Beside (Both xs) r (evaluates line q k' (sets_variable lang None line x z t))) (sym one) (subst (λ (r : State). Beside (Both xs) s r) (sym two) (record { stores = a; rest = refl }))
      by s u n a true e w =
          let t : State = record s { store = u; steps = n } in
          let going = going_is s.way e in
          let f = sets_sound lang line x z s going ((Stays-evaluates line q k).at (sets_variable lang None line x z s) w) in
          let one : sets_variable lang None line x z s ≡ record s { store = put (variable_cell x) (Int z) s.store } = sets_at lang line x z s going f.0 f.1 in
          let two : sets_variable lang None line x z t ≡ record t { store = put (variable_cell x) (Int z) u } = sets_at lang line x z t going (sym (cell_blind lang xs x [] s.store u a.0) ∙ f.0) f.1 in
          let b = h.at (record s { store = put (variable_cell x) (Int z) s.store }) (put (variable_cell x) (Int z) u) n (alike_set xs x (Int z) s.store u a.0, set_held x z s.store integer f.1 a.1)
          (sound_by lang (evaluates line q k (sets_variable lang None line x z s)) (evaluates line q k (record s { store = put (variable_cell x) (Int z) s.store })) (ap (evaluates line q k) one) w) in
          subst (λ (r : State). Beside (Both xs) (evaluates line q k r) (evaluates line q k' (sets_variable lang None line x z t))) (sym one) (subst (λ (r : State). Beside (Both xs) (evaluates line q k (record s { store = put (variable_cell x) (Int z) s.store })) (evaluates line q k' r)) (sym two)
          (record { stores = (alike_less xs x (evaluates line q k (record s { store = put (variable_cell x) (Int z) s.store })).store (evaluates line q k' (record s { store = put (variable_cell x) (Int z) u; steps = n })).store b.stores.0, b.stores.1); rest = b.rest }))

  loops_go : (xs : List (List ℕ)) (line : ℕ) (x : List ℕ) (a b c : Expression) (f g : Act) → IsIntegerScalar ds x → AreBlind lang xs a b c → Goes (without x xs) f g → Goes xs (loops lang None line x a b c f) (loops lang None line x a b c g)
  loops_go xs line x a b c f g integer h k = asks xs line (number_of lang a) _ _ h.0 (λ m1. asks xs line (number_of lang b) _ _ h.1 (λ m2. asks xs line (increment_of lang c) _ _ h.2 (λ m3.
      after_set xs line x m1 (λ s. trip_count m1 m2 m3) (λ n. repeated n (turn lang None line x m3 f)) (λ n. repeated n (turn lang None line x m3 g)) integer (turns_go (without x xs) line x m1 m2 m3 f g (not_in lang x xs) integer k))))

  -- ---- statements that stay as they are

  range_kept : holding.IsKeptByParts lang None (λ s. HoldsInRange lang.bits s.store)
  range_kept = record {
    failed = λ f line s h. h;
    cut = λ s n h. h;
    written = λ t s h. h;
    stored = λ c v s e h d. put_in c v s.store d (same_cell c d) e (h d);
    allocated = λ x bs s e h d. blank s.store d (bytes_eq x d.name) (h d);
    deallocated = λ x s e h. h;
    input = λ rest b s h. h;
    step = λ s h. h;
  }
    where
      nought : (v : Value) → is_in_range lang.bits (nought_like v) ≡ true
      nought (Int z) = (Decides-ltb 0 (2 ^ lang.bits)).1 (pow_pos lang.bits)
      nought (Truth b) = refl

      put_in : (c : Cell) (v : Value) (s : Store) (d : Cell) (b : Bool) → is_in_range lang.bits v ≡ true → is_in_range lang.bits (s.held d) ≡ true → is_in_range lang.bits (cond b v (s.held d)) ≡ true
      put_in c v s d true e h = e
      put_in c v s d false e h = h

      blank : (s : Store) (d : Cell) (b : Bool) → is_in_range lang.bits (s.held d) ≡ true → is_in_range lang.bits (cond b (nought_like (s.held d)) (s.held d)) ≡ true
      blank s d true h = nought (s.held d)
      blank s d false h = h

  -- a statement without others in it
  abbrev IsLeaf : Statement → Type 0
  IsLeaf (If line arms other) = ⊥
  IsLeaf (Do line x a b c body) = ⊥
  IsLeaf c = Unit {0}

  leaf_range : (c : Statement) → IsLeaf c → holding.Keeps (λ s. HoldsInRange lang.bits s.store) (does lang None c)
  leaf_range (Assignment line m r e) h = holding.Keeps-assignment lang None _ range_kept line m r e
  leaf_range (Where line m k r e) h = holding.Keeps-where lang None _ range_kept line m k r e
  leaf_range (If line arms other) h = absurd h
  leaf_range (Do line x a b c body) h = absurd h
  leaf_range (Label l) h = record { at = λ s r. label (arrives l s.way) s r }
    where
      label : (b : Bool) (s : State) → HoldsInRange lang.bits s.store → HoldsInRange lang.bits (either b (goes Going) nothing s).store
      label true s r = r
      label false s r = r
  leaf_range (GoTo line l) h = holding.Keeps-counts_step lang None _ range_kept _ (record { at = λ s r. r })
  leaf_range (Stop line) h = holding.Keeps-counts_step lang None _ range_kept _ (record { at = λ s r. r })
  leaf_range (Read line is) h = holding.Keeps-read lang None _ range_kept line is
  leaf_range (Print line is) h = holding.Keeps-print lang None _ range_kept line is
  leaf_range (Allocate line x es) h = holding.Keeps-allocate lang None _ range_kept line x es
  leaf_range (Deallocate line x) h = holding.Keeps-deallocate lang None _ range_kept line x

  program_after : (c : Statement) (v : Surroundings) → IsStatement ds c v → (s : State) → HoldsProgram lang p s.store → HoldsProgram lang p (does lang None c s).store
  program_after c v h s k = statements_keep_stores lang None p (statement c no_statements) v s (h, tt) k

  leaf : (c : Statement) (xs : List (List ℕ)) (v : Surroundings) → IsLeaf c → IsStatement ds c v → Spared xs (read_in_statement c) → Goes xs (does lang None c) (does lang None c)
  leaf c xs v l h n = record {
    at = λ s u m a k.
        let b = (statement_goes lang c xs (kept lang c xs n)).at s u m a.0 k in
        record { stores = (b.stores, record { program = program_after c v h s a.1.program; range = (leaf_range c l).at s a.1.range }); rest = b.rest };
  }

  -- ---- a loop that has its form

  -- where such a loop has begun to go and meets no fault, it goes on
  abbrev Calm : State → Type 0
  Calm s = IsSound s.way → s.way ≡ Going

  calm_kept : holding.IsKeptByParts lang None Calm
  calm_kept = record {
    failed = λ f line s h k. absurd k;
    cut = λ s n h k. absurd k;
    written = λ t s h. h;
    stored = λ c v s e h. h;
    allocated = λ x bs s e h. h;
    deallocated = λ x s e h. h;
    input = λ rest b s h. h;
    step = λ s h. h;
  }

  loop_calm : (y : Lines) (l : Loop) → holding.Keeps Calm (does lang None (loop_of y l))
  loop_calm y l = holding.Keeps-loops lang None Calm calm_kept y.loop_line l.variable (Number (pos 1)) l.trip (Number (pos 1)) _
      (holding.Keeps-then lang None Calm calm_kept _ _ (holding.Keeps-assignment lang None Calm calm_kept y.line y.mark l.left (in_turn l.how (named l.left) l.operand)) (holding.Keeps-nothing lang None Calm calm_kept))

  loop_range : (y : Lines) (l : Loop) → holding.Keeps (λ s. HoldsInRange lang.bits s.store) (does lang None (loop_of y l))
  loop_range y l = holding.Keeps-loops lang None _ range_kept y.loop_line l.variable (Number (pos 1)) l.trip (Number (pos 1)) _
      (holding.Keeps-then lang None _ range_kept _ _ (holding.Keeps-assignment lang None _ range_kept y.line y.mark l.left (in_turn l.how (named l.left) l.operand)) (holding.Keeps-nothing lang None _ range_kept))

  beside : (xs : List (List ℕ)) (s t : State) → MomentsAlike (AlikeBut xs) s t → t ≡ record s { store = t.store; steps = t.steps }
  beside xs s t a = λ i. record { store = t.store; written = sym a.written i; input = sym a.input i; had_value = sym a.had_value i; steps = t.steps; way = sym a.way i }

  -- a statement in the loop's place, which does nothing where the run isn't going
  in_place : (y : Lines) (l : Loop) (c : Statement) (xs : List (List ℕ)) (v : Surroundings) → IsStatement ds (loop_of y l) v
      → Kept lang xs c → ((s : State) → is_going s.way ≡ false → does lang None c s ≡ s)
      → ((s t : State) → Held s.store → FollowsAs y lang l c xs s t)
      → Goes xs (does lang None (loop_of y l)) (does lang None c)
  in_place y l c xs v h k still law = record { at = λ s u n a q. by s u n a q (is_going s.way) refl }
    where
      held : (s : State) → Held s.store → Held (does lang None (loop_of y l) s).store
      held s m = record { program = program_after (loop_of y l) v h s m.program; range = (loop_range y l).at s m.range }

      by : (s : State) (u : Store) (n : ℕ) → Both xs s.store u → IsSound (does lang None (loop_of y l) s).way → (b : Bool) → is_going s.way ≡ b → Beside (Both xs) (does lang None (loop_of y l) s) (does lang None c (record s { store = u; steps = n }))
      by s u n a q true e =
          let t : State = record s { store = u; steps = n } in
          let going = (loop_calm y l).at s (λ z. going_is s.way e) q in
          let m = law s t a.1 k going (record { store = a.0; written = refl; input = refl; had_value = refl; way = refl }) in
          record { stores = (m.store, held s a.1); rest = beside xs (does lang None (loop_of y l) s) (does lang None c t) m }
      by s u n a q false e =
          let t : State = record s { store = u; steps = n } in
          let one : does lang None (loop_of y l) s ≡ s = idle lang y.loop_line (number_of lang (Number (pos 1))) _ s e in
          subst (λ (r : State). Beside (Both xs) r (does lang None c t)) (sym one) (subst (λ (r : State). Beside (Both xs) s r) (sym (still t e)) (record { stores = a; rest = refl }))

  idle_step : (k : Act) (s : State) → is_going s.way ≡ false → counts_step lang None k s ≡ s
  unfolding counts_step while_going
  idle_step k s e = by s.way e
    where
      by : (w : Way) → is_going w ≡ false → on_way w (λ s. either true (λ t. k (record t { steps = t.steps + 1 })) (goes Cut) s) s ≡ s
      by Going e = cc
      by (Jumping n) e = refl
      by Stopped e = refl
      by (Failed f n) e = refl
      by Cut e = refl

  -- ---- all statements

  -- the variables that are unread, but for those of the loops round a statement
  abbrev Has : List (List ℕ) → Surroundings → Type 0
  Has xs v = (i : List ℕ) → In i (unread_names p) → ¬ Contains v.variables i → In i xs

  has_within : (xs : List (List ℕ)) (v : Surroundings) (x : List ℕ) → Has xs v → Has (without x xs) (within_loop x v)
  has_within xs v x h i m n = still_in x i xs (h i m (λ c. n (there x v.variables i c))) (λ e. n (subst (λ y. Contains (x ∷ v.variables) y) (sym e) (here x v.variables)))

  unread_variable : (l : Loop) (v : Surroundings) → Conditions w l → Typed ds l v → In l.variable (unread_names p)
  unread_variable l v c t = kept_name (λ x. not (is_source x) && not (w.reads x)) l.variable (names_of p) (declared_name ds l.variable t.integer)
      (ap (λ b. not b && not (w.reads l.variable)) c.made ∙ ap not c.unread)

  positive : (t : Expression) → is_positive t ≡ true → (n : ℕ) × (t ≡ Number (pos n)) × (1 ≤ n)
  positive (Number (pos n)) e = (n, refl, one n e)
    where
      one : (n : ℕ) → int_le (pos 1) (pos n) ≡ true → 1 ≤ n
      one n e = grind arith
  positive (Number (negsuc n)) e = cc
  positive (Logic b) e = cc
  positive (Named x ps) e = cc
  positive (Unary o a) e = cc
  positive (Binary o a b) e = cc
  positive (Apply f es) e = cc
  positive (Constructor es ls) e = cc
  positive (Spread a k f) e = cc
  positive (Transpose a) e = cc
  positive (Reshape a es) e = cc
  positive (Reduce r a) e = cc

  formed : (f : FoundLoop) (xs : List (List ℕ)) (v : Surroundings) → Conditions w f.loop → IsStatement ds (loop_of (lines_at f) f.loop) v → Has xs v → Spared xs (read_in_statement (loop_of (lines_at f) f.loop))
      → Goes xs (does lang None (loop_of (lines_at f) f.loop)) (does lang None (form f))
  formed f xs v c h has spared = by (may_be_section f.loop.variable f.loop.operand) refl (is_positive f.loop.trip) refl
    where
      t : Typed ds f.loop v
      t = typed ds (lines_at f) f.loop v h

      ok : IsReducible f.loop
      ok = reducible_loop w ds f.loop v c t

      among_xs : In f.loop.variable xs
      among_xs = has f.loop.variable (unread_variable f.loop v c t) t.around

      start : (s : State) → Held s.store → MayStart lang f.loop s.store
      start s held = may_start lang p s.store held.program f.loop v c t arrays bits held.range

      with_values : (e : Expression) → Spared xs (read_in e) → ((s t : State) → Held s.store → FollowsAsForm (lines_at f) (lines_of f) lang f.loop e xs s t) → (b : Bool) → is_positive f.loop.trip ≡ b
          → Goes xs (does lang None (loop_of (lines_at f) f.loop)) (does lang None (cond b (form_of (lines_of f) f.loop e) (tested (lines_of f) f.loop (form_of (lines_of f) f.loop e))))
      with_values e n laws true g =
          let m = positive f.loop.trip g in
          in_place (lines_at f) f.loop (form_of (lines_of f) f.loop e) xs v h (kept lang (form_of (lines_of f) f.loop e) xs (form_spared xs (lines_at f) f.loop spared ok (lines_of f) e n))
          (λ s q. idle_step _ s q) (λ s u held. (laws s u held).plain m.0 m.1 m.2)
      with_values e n laws false g =
          in_place (lines_at f) f.loop (tested (lines_of f) f.loop (form_of (lines_of f) f.loop e)) xs v h (kept lang (tested (lines_of f) f.loop (form_of (lines_of f) f.loop e)) xs (tested_spared xs (lines_at f) f.loop spared ok (lines_of f) e n))
          (λ s q. idle_step _ s q) (λ s u held. (laws s u held).tested)

      by : (b : Bool) → may_be_section f.loop.variable f.loop.operand ≡ b → (d : Bool) → is_positive f.loop.trip ≡ d → Goes xs (does lang None (loop_of (lines_at f) f.loop))
          (does lang None (cond d (form_of (lines_of f) f.loop (cond b (section_of f.loop.variable f.loop.trip f.loop.operand) (listed f.loop.variable f.loop.trip f.loop.operand)))
          (tested (lines_of f) f.loop (form_of (lines_of f) f.loop (cond b (section_of f.loop.variable f.loop.trip f.loop.operand) (listed f.loop.variable f.loop.trip f.loop.operand))))))
      by true e d g = with_values (section_of f.loop.variable f.loop.trip f.loop.operand) (values_spared xs (lines_at f) f.loop spared ok ds v t true e)
          (λ s u held. (replaced_loop_follows lang f.loop (lines_at f) (lines_of f) xs s u among_xs ok (start s held)).1 (section lang p s.store held.program f.loop c e)) d g
      by false e d g = with_values (listed f.loop.variable f.loop.trip f.loop.operand) (values_spared xs (lines_at f) f.loop spared ok ds v t false e)
          (λ s u held. (replaced_loop_follows lang f.loop (lines_at f) (lines_of f) xs s u among_xs ok (start s held)).0) d g

  mutual
    statement_follows : (c : Statement) (xs : List (List ℕ)) (v : Surroundings) → IsStatement ds c v → Has xs v → Spared xs (read_in_statement c) → Goes xs (does lang None c) (does lang None (reduced w c))
    statement_follows (Assignment line m r e) xs v h has n = leaf (Assignment line m r e) xs v tt h n
    statement_follows (Where line m k r e) xs v h has n = leaf (Where line m k r e) xs v tt h n
    statement_follows (If line arms other) xs v h has n =
        arms_follow arms line (does_all lang None other) (does_all lang None (reduced_block w other)) xs v h.2 has (left xs (read_in_arms arms) (read_in_block other) n) (Stays-does_all lang None other)
        (block_follows other xs v h.3 has (right xs (read_in_arms arms) (read_in_block other) n))
    statement_follows (Do line x a b c body) xs v h has n =
        let q = bounds_blind lang x a b c (read_in_block body) xs n in
        by q.0 (block_follows body (without x xs) (within_loop x v) h.5 (has_within xs v x has) q.1) (reducible w (Do line x a b c body)) refl
      where
        by : AreBlind lang xs a b c → Goes (without x xs) (does_all lang None body) (does_all lang None (reduced_block w body)) → (o : Option FoundLoop) → reducible w (Do line x a b c body) ≡ o → Goes xs (does lang None (Do line x a b c body)) (does lang None (formed_or w o (Do line x a b c (reduced_block w body))))
        by q k None e = loops_go xs line x a b c (does_all lang None body) (does_all lang None (reduced_block w body)) h.1.integer q k
        by q k (Some f) e =
            let found = reducible_is w line x a b c body f e in
            subst (λ d. Goes xs (does lang None d) (does lang None (form f))) (sym found.is)
            (formed f xs v (conditions w f.loop found.reducible) (subst (λ d. IsStatement ds d v) found.is h) has (subst (λ d. Spared xs (read_in_statement d)) found.is n))
    statement_follows (Label l) xs v h has n = leaf (Label l) xs v tt h n
    statement_follows (GoTo line l) xs v h has n = leaf (GoTo line l) xs v tt h n
    statement_follows (Stop line) xs v h has n = leaf (Stop line) xs v tt h n
    statement_follows (Read line is) xs v h has n = leaf (Read line is) xs v tt h n
    statement_follows (Print line is) xs v h has n = leaf (Print line is) xs v tt h n
    statement_follows (Allocate line x es) xs v h has n = leaf (Allocate line x es) xs v tt h n
    statement_follows (Deallocate line x) xs v h has n = leaf (Deallocate line x) xs v tt h n

    arms_follow : (arms : Arms) (line : ℕ) (f g : Act) (xs : List (List ℕ)) (v : Surroundings) → AreArms ds arms v → Has xs v → Spared xs (read_in_arms arms) → Stays f → Goes xs f g
        → Goes xs (chooses lang None line arms f) (chooses lang None line (reduced_arms w arms) g)
    arms_follow no_arms line f g xs v h has n stays k = k
    arms_follow (arm test body arms) line f g xs v h has n stays k =
        let first = left xs (read_in test ++ read_in_block body) (read_in_arms arms) n in
        steps xs _ _ (asks xs line (truth_of lang test) _ _ (test_blind lang test xs (left xs (read_in test) (read_in_block body) first))
        (λ b. Follows-either (Both xs) (Both xs) (same xs) b _ _ _ _ (λ e. block_follows body xs v h.1 has (right xs (read_in test) (read_in_block body) first))
        (λ e. arms_follow arms line f g xs v h.2 has (right xs (read_in test ++ read_in_block body) (read_in_arms arms) n) stays k)))

    block_follows : (cs : Block) (xs : List (List ℕ)) (v : Surroundings) → IsBlock ds cs v → Has xs v → Spared xs (read_in_block cs) → Goes xs (does_all lang None cs) (does_all lang None (reduced_block w cs))
    block_follows no_statements xs v h has n = Follows-nothing (Both xs) (Both xs) (same xs)
    block_follows (statement c cs) xs v h has n = Follows-then (Both xs) (Both xs) (same xs) _ _ _ _
        (statement_follows c xs (before_labels (labels_of cs) v) h.0 has (left xs (read_in_statement c) (read_in_block cs) n)) (Stays-does_all lang None cs)
        (block_follows cs xs v h.1 has (right xs (read_in_statement c) (read_in_block cs) n))

  pub spared_names : Spared (unread_names p) (read_in_block p.body)
  spared_names y i j =
      let e = both (not (is_source y)) (not (w.reads y)) (passed (λ x. not (is_source x) && not (w.reads x)) y (names_of p) j) in
      differ (w.reads y) (among y (read_in_block p.body) i) (no (w.reads y) e.1)

pub reduced_block_follows : ReducedBlockFollows
reduced_block_follows lang p s t arrays bits profile holds range a sound =
    let same : ◌≡◌ {A = State} (record s { store = t.store; steps = t.steps }) t
    = (λ i. record { store = t.store; written = a.written i; input = a.input i; had_value = a.had_value i; steps = t.steps; way = a.way i }) in
    let xs = unread_names p in
    let one = (block_follows lang p arrays bits p.body xs outermost profile.statements (λ i m n. m) (spared_names lang p arrays bits)).at s t.store t.steps (a.store, record { program = holds; range = range }) sound in
    subst (λ (r : State). MomentsAlike (AlikeBut xs) (does_all lang None p.body s) (does_all lang None (reduced_block (context_of p) p.body) r)) same (record {
      store = one.stores.0;
      written = sym (ap (λ (r : State). r.written) one.rest);
      input = sym (ap (λ (r : State). r.input) one.rest);
      had_value = sym (ap (λ (r : State). r.had_value) one.rest);
      way = sym (ap (λ (r : State). r.way) one.rest);
    })
