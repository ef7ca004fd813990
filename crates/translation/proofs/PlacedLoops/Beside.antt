-- A statement that stays where it was keeps the two runs beside each other.
use Rattle.std.proofs.Common.{◌≡◌, refl, sym, ap, ◌∙◌, subst, ℕ, ℤ, pos, ◌+ℤ◌, Bool, true, false, cond, Option, Some}
use Rattle.std.proofs.Common.{None, IfSome, List, [], length, Result, Ok, Err, Contains}
use Rattle.std.specs.Option.{IsSomeAnd}
use Rattle.std.specs.Ordering.{int_eq}
use Rattle.std.proofs.lemmas.List.Elements.{All-from_recursion}
use Rattle.tree.specs.Operators.{as_number, as_truth}
use Rattle.tree.specs.Steps.{◌>>=◌}
use Rattle.tree.specs.declared.ops.Fault.{Fault}
use Rattle.tree.specs.declared.ops.Fault.TheVariants.{ZeroStep, Bounds}
use Rattle.tree.specs.declared.ops.Kind.{Kind}
use Rattle.tree.specs.declared.ops.Kind.TheVariants.{Integer, Logical}
use Rattle.tree.specs.declared.ops.Value.{Value}
use Rattle.tree.specs.declared.ops.Value.TheVariants.{Int}
use Rattle.tree.specs.Plain.{Expression, Named, no_subscripts, Statement, Extent, Given, Later, Declaration, Program}
use Rattle.meaning.specs.Agreement.{MomentsAgree}
use Rattle.meaning.specs.Reads.{names_in_block}
use Rattle.meaning.specs.Blocks.{Surroundings}
use Rattle.meaning.specs.Dialect.{Dialect, fortran77, fortran90}
use Rattle.tree.specs.declared.width.Width.{Width}
use Rattle.meaning.specs.Holding.{HasBounds, IsStorable, HoldsProgram}
use Rattle.meaning.specs.Profile77.{IsFixed, IsProgram77, IsBlock}
use Rattle.meaning.specs.Profile90 as target
use Rattle.meaning.specs.Run.{State, Act, evaluates, counts_step, checks_range, sets_variable, increases, turn}
use Rattle.meaning.specs.Run.{loops, does}
use Rattle.meaning.specs.Store.{Store, Cell, put, same_cell, cell_at, cell_in, is_within, opening_bounds, names_of}
use Rattle.meaning.specs.Store.{IsCell, Agree}
use Rattle.meaning.specs.Typed.{declared, dimensions}
use Rattle.meaning.specs.Typed77.{HasKind}
use Rattle.meaning.specs.Value.{value_of, number_of, truth_of, increment_of, is_in_range, exact}
use Rattle.meaning.proofs.Agreeing.{statements_keep_agreement}
use Rattle.meaning.proofs.AgreeingValues.{value_of-agree, kind-put}
use Rattle.rewrite.specs.Following.{IsSound}
use Rattle.rewrite.proofs.Acts.{Stays-evaluates, Stays-counts_step, Beside, Follows, Follows-then, Follows-stores}
use Rattle.rewrite.proofs.Acts.{Follows-counts_step, Follows-checks_range, Answers, Also, Follows-evaluates}
use Rattle.rewrite.proofs.Acts.{Follows-asks, Follows-repeated, Follows-more}
use Rattle.meaning_laws.specs.profiles.Profiles.{AddMadeNames}
use Rattle.meaning_laws.proofs.profiles.Lists.{some_and}
use Rattle.meaning_laws.proofs.profiles.Programs.{fixed, as_it_stands, kept_declaration}
use Rattle.meaning_laws.proofs.profiles.Stores.{Fits, opening_holds, put_holds}
use Rattle.meaning_laws.proofs.profiles.TargetRuns.{statements_keep_stores}
use Rattle.meaning_laws.proofs.profiles.Targets.{block_is}
use Rattle.meaning_laws.proofs.dialects.MadeNames.{is_declared}
use Rattle.meaning_laws.proofs.dialects.NamesIn.{among, expression_known, block_known}
use Rattle.meaning_laws.proofs.dialects.Runs.{Same-does_all}
use Rattle.meaning_laws.proofs.dialects.Values.{value_same, all_fixed}
use Rattle.translation.proofs.PlacedLoops.Frames.{source_keeps_free}
use Rattle.translation.specs.placed_loops.Beside.{AreBeside, AreUnallocated}
use Rattle.translation.specs.placed_loops.Placed.{one}
use Rattle.translation.proofs.PlacedLoops.Steady.{IsOne, Steady}
use Rattle.tree.specs.Widths.{bits_of}

-- ---- stores that agree

agree_back : (p : Program) (s t : Store) → Agree p s t → Agree p t s
agree_back p s t a = record {
  bounds = λ x n. sym (a.bounds x n);
  held = λ c n here. sym (a.held c n (ap (λ b. cell_in b c.name c.subscripts) (a.bounds c.name n) ∙ here));
  kinds = λ c n. sym (a.kinds c n);
}

agree_on : (p : Program) (s t u : Store) → Agree p s t → Agree p t u → Agree p s u
agree_on p s t u a b = record {
  bounds = λ x n. a.bounds x n ∙ b.bounds x n;
  held = λ c n here. a.held c n here ∙ b.held c n (ap (λ b. cell_in b c.name c.subscripts) (sym (a.bounds c.name n)) ∙ here);
  kinds = λ c n. a.kinds c n ∙ b.kinds c n;
}

agree_put : (p : Program) (s t : Store) (c : Cell) (v : Value) → Agree p s t → Agree p (put c v s) (put c v t)
agree_put p s t c v a = record {
  bounds = a.bounds;
  held = λ d n here. ap (cond (same_cell c d) v) (a.held d n here);
  kinds = λ d n. kind-put (same_cell c d) v (s.held d) (t.held d) (a.kinds d n);
}

moments_on : (p : Program) (r s t : State) → MomentsAgree p r s → MomentsAgree p s t → MomentsAgree p r t
moments_on p r s t a b = record {
  store = agree_on p r.store s.store t.store a.store b.store;
  written = a.written ∙ b.written;
  input = a.input ∙ b.input;
  had_value = a.had_value ∙ b.had_value;
  steps = a.steps ∙ b.steps;
  way = a.way ∙ b.way;
}

-- ---- bounds that are given

both_given : (e : Extent) → IsFixed e → (b c : Option (List (ℤ × ℤ))) → HasBounds e b → HasBounds e c → b ≡ c
both_given (Given bs) f b c h k = h ∙ sym k
both_given (Later n) f b c h k = absurd f

-- a cell that was found
found_cell : (width : Width) (b : Option (List (ℤ × ℤ))) (x : List ℕ) (is : List ℤ) (c : Cell) → cell_in b x is ≡ Ok c → ◌≡◌ {A = Cell} (record { name = x; subscripts = is }) c
found_cell width None x is c e = cc
found_cell width (Some bs) x is c e = by (is_within bs is) e
  where
    by : (t : Bool) → ◌≡◌ {A = Result Cell Fault} (cond t (Ok (record { name = x; subscripts = is })) (Err Bounds)) (Ok c) → ◌≡◌ {A = Cell} (record { name = x; subscripts = is }) c
    by true e = cc
    by false e = cc

abbrev IsNumber : Declaration → Type 0
IsNumber d = (Integer ≡ d.kind) × (0 ≡ length (dimensions d.extent))

number_fits : (lang : Dialect) (o : Option Declaration) (z : ℤ) → is_in_range lang.bits (Int z) ≡ true → IsSomeAnd o IsNumber → IfSome o (λ (e : Declaration). IsStorable lang e.kind (Int z))
number_fits lang None z r h = absurd h
number_fits lang (Some d) z r h = record { kind = h.0; within = r }

module _ (width : Width) (p q : Program) (program : IsProgram77 (fortran77 width) p) (add : AddMadeNames p.declarations q.declarations) where
  abbrev ds : List Declaration
  ds = p.declarations

  -- what stores of the two runs have in common
  pub record Alike (s u : Store) : Type 0 where
    pub agree : Agree p s u
    pub holds : HoldsProgram (fortran77 width) p s
    pub holds_beside : HoldsProgram (fortran90 width) q u
    pub free : AreUnallocated q u

  -- the second act, of the run beside, follows the first one
  abbrev pub Goes : Act → Act → Type 0
  Goes f g = Follows Alike Alike f g

  pub id : (s u : Store) → Alike s u → Alike s u
  id s u a = a

  pub together : (s t : State) → AreBeside width p q s t → Beside Alike s t
  together s t m =
      let same : ◌≡◌ {A = State} (record s { store = t.store; steps = t.steps }) t
      = (λ i. record { store = t.store; written = m.written i; input = m.input i; had_value = m.had_value i; steps = t.steps; way = m.way i }) in
      record { stores = record { agree = m.store; holds = m.holds; holds_beside = m.holds_beside; free = m.free }; rest = sym same }

  -- ---- a whole statement

  given_bounds : (s : Store) → HoldsProgram (fortran77 width) p s → (x : List ℕ) → Contains (names_of p) x → s.bounds x ≡ opening_bounds ds x
  given_bounds s h x n =
      let d = is_declared ds x n in
      both_given d.0.extent (fixed (fortran77 width) ds program.declarations x d.0 d.1) (s.bounds x) (opening_bounds ds x)
      (subst (λ o. IfSome o (λ (e : Declaration). HasBounds e.extent (s.bounds x))) d.1 (h.bounds x))
      (subst (λ o. IfSome o (λ (e : Declaration). HasBounds e.extent (opening_bounds ds x))) d.1 ((opening_holds (fortran77 width) p).bounds x))

  -- the store with the bounds of the declarations alone
  abbrev bare : Store → Store
  bare s = record { bounds = opening_bounds ds; held = s.held }

  bare_agrees : (s : Store) → HoldsProgram (fortran77 width) p s → Agree p s (bare s)
  bare_agrees s h = record { bounds = given_bounds s h; held = λ c n here. refl; kinds = λ c n. refl }

  -- it does the same with arrays as values, from a store that agrees
  crosses : (c : Statement) (w : Surroundings) → IsBlock ds (one c) w → (s t : State) → HoldsProgram (fortran77 width) p s.store → MomentsAgree p s t
      → MomentsAgree p (does (fortran77 width) None c s) (does (fortran90 width) None c t)
  crosses c w h s t k m =
      let known = All-from_recursion (Contains (names_of p)) (names_in_block (one c)) (block_known ds (one c) w h) in
      let r : State = record s { store = bare s.store } in
      let first : MomentsAgree p s r = record { store = bare_agrees s.store k; written = refl; input = refl; had_value = refl; steps = refl; way = refl } in
      let second : MomentsAgree p r t = record {
        store = agree_on p (bare s.store) s.store t.store (agree_back p s.store (bare s.store) (bare_agrees s.store k)) m.store;
        written = m.written;
        input = m.input;
        had_value = m.had_value;
        steps = m.steps;
        way = m.way;
      } in
      let same : does (fortran77 width) None c r ≡ does (fortran90 width) None c r = (Same-does_all (bits_of width) None ds (all_fixed (fortran77 width) ds program.declarations.each) (one c) w h).same r refl in
      moments_on p (does (fortran77 width) None c s) (does (fortran90 width) None c r) (does (fortran90 width) None c t)
      (subst (MomentsAgree p (does (fortran77 width) None c s)) same (statements_keep_agreement (fortran77 width) None p (one c) s r known first))
      (statements_keep_agreement (fortran90 width) None p (one c) r t known second)

  after_steps : (s r t : State) → Beside IsOne s r → MomentsAgree p r t → HoldsProgram (fortran77 width) p s.store → HoldsProgram (fortran90 width) q t.store → AreUnallocated q t.store
      → AreBeside width p q s t
  after_steps s r t b m h k f = record {
    store = subst (λ (u : Store). Agree p u t.store) (sym b.stores) m.store;
    holds = h;
    holds_beside = k;
    free = f;
    written = sym (ap (λ (r : State). r.written) b.rest) ∙ m.written;
    input = sym (ap (λ (r : State). r.input) b.rest) ∙ m.input;
    had_value = sym (ap (λ (r : State). r.had_value) b.rest) ∙ m.had_value;
    way = sym (ap (λ (r : State). r.way) b.rest) ∙ m.way;
  }

  pub stays_beside : (c : Statement) (w : Surroundings) → IsBlock ds (one c) w → target.IsBlock q.declarations (one c) w → Steady (does (fortran77 width) None c)
      → Goes (does (fortran77 width) None c) (does (fortran90 width) None c)
  stays_beside c w h k steady = record { at = by }
    where
      by : (s : State) (u : Store) (n : ℕ) → Alike s.store u → IsSound (does (fortran77 width) None c s).way → Beside Alike (does (fortran77 width) None c s) (does (fortran90 width) None c (record s { store = u; steps = n }))
      by s u n a e =
          let r : State = record s { steps = n } in
          let t : State = record s { store = u; steps = n } in
          together (does (fortran77 width) None c s) (does (fortran90 width) None c t)
          (after_steps (does (fortran77 width) None c s) (does (fortran77 width) None c r) (does (fortran90 width) None c t)
          (steady.at s s.store n refl e)
          (crosses c w h r t a.holds (record { store = a.agree; written = refl; input = refl; had_value = refl; steps = refl; way = refl }))
          (statements_keep_stores (fortran77 width) None p (one c) w s (block_is ds ds (as_it_stands (fortran77 width) p program) (one c) w h) a.holds)
          (statements_keep_stores (fortran90 width) None q (one c) w t k a.holds_beside)
          (source_keeps_free width p q c w h t a.free))

  -- ---- what both dialects have alike

  pub asks : {A : Type 0} (line : ℕ) (f g : Store → Result A Fault) (k l : A → Act) → ((s u : Store) → Alike s u → f s ≡ g u) → ((x : A) → Goes (k x) (l x)) → Goes (evaluates line f k) (evaluates line g l)
  asks line f g k l same h = Follows-asks Alike Alike id line f g k l (λ s u a x e. sym (same s u a) ∙ e) h

  pub counts : (k l : Act) → Goes k l → Goes (counts_step (fortran77 width) None k) (counts_step (fortran90 width) None l)
  unfolding counts_step
  counts k l h = Follows-counts_step Alike Alike id (fortran77 width) k l h

  checks : (before : Store → Store → Type 0) (weak : (s u : Store) → before s u → Alike s u) (line : ℕ) (v : Value) (k l : Act) → (is_in_range (bits_of width) v ≡ true → Follows Alike before k l)
      → Follows Alike before (checks_range (fortran77 width) None line v k) (checks_range (fortran90 width) None line v l)
  unfolding checks_range
  checks before weak line v k l h = Follows-checks_range Alike before weak (fortran77 width) line v k l h

  one_value : (e : Expression) (k : Kind) → HasKind ds e k → (s u : Store) → Alike s u → value_of (fortran77 width) e s ≡ value_of (fortran90 width) e u
  one_value e k h s u a = value_same (bits_of width) ds e k h s ∙ value_of-agree (fortran90 width) p e (expression_known ds e k h) s u a.agree

  one_number : (e : Expression) → HasKind ds e Integer → (s u : Store) → Alike s u → number_of (fortran77 width) e s ≡ number_of (fortran90 width) e u
  one_number e h s u a = ap (λ r. do x ← r; as_number x) (one_value e Integer h s u a)

  one_increment : (e : Expression) → HasKind ds e Integer → (s u : Store) → Alike s u → increment_of (fortran77 width) e s ≡ increment_of (fortran90 width) e u
  one_increment e h s u a = ap (λ r. do z ← r; cond (int_eq z (pos 0)) (Err ZeroStep) (Ok z)) (one_number e h s u a)

  pub one_truth : (e : Expression) → HasKind ds e Logical → (s u : Store) → Alike s u → truth_of (fortran77 width) e s ≡ truth_of (fortran90 width) e u
  one_truth e h s u a = ap (λ r. do x ← r; as_truth x) (one_value e Logical h s u a)

  -- ---- loops

  -- one cell of both stores, of the name x
  record OneCell (x : List ℕ) (s u : Store) (c d : Cell) : Type 0 where
    same : c ≡ d
    name : c.name ≡ x
    here : IsCell s c

  abbrev Found : List ℕ → Cell → Cell → Store → Store → Type 0
  Found x c d = Also Alike Alike (OneCell x) c d

  less : (x : List ℕ) (c d : Cell) (s u : Store) → Found x c d s u → Alike s u
  less x c d s u k = k.0

  variable_cell : (x : List ℕ) → HasKind ds (Named x no_subscripts) Integer → (s u : Store) → Alike s u → (c : Cell) → cell_at x [] s ≡ Ok c → Answers Alike (OneCell x s u) (cell_at x [] u) c
  variable_cell x h s u a c e =
      let found = found_cell width (s.bounds x) x [] c e in
      record {
        answer = c;
        answered = ap (λ b. cell_in b x []) (sym (a.agree.bounds x (among ds x _ h.0))) ∙ e;
        related = record { same = refl; name = sym (ap (λ (d : Cell). d.name) found); here = subst (λ (d : Cell). cell_in (s.bounds d.name) d.name d.subscripts ≡ Ok c) found e };
      }

  variable_put : (x : List ℕ) → HasKind ds (Named x no_subscripts) Integer → (z : ℤ) → is_in_range (bits_of width) (Int z) ≡ true → (c d : Cell) (s u : Store) → Found x c d s u → Alike (put c (Int z) s) (put d (Int z) u)
  variable_put x h z r c d s u k = subst (λ (d : Cell). Alike (put c (Int z) s) (put d (Int z) u)) k.1.same (record {
    agree = agree_put p s u c (Int z) k.0.agree;
    holds = put_holds (fortran77 width) p c (Int z) s (subst (λ y. Fits (fortran77 width) p y (Int z)) (sym k.1.name) (number_fits (fortran77 width) (declared ds x) z r h.0)) k.0.holds;
    holds_beside = put_holds (fortran90 width) q c (Int z) u (subst (λ y. Fits (fortran90 width) q y (Int z)) (sym k.1.name)
        (number_fits (fortran90 width) (declared q.declarations x) z r (some_and IsNumber IsNumber (declared ds x) (declared q.declarations x) (kept_declaration ds q.declarations add x) (λ d e g. g) h.0))) k.0.holds_beside;
    free = k.0.free;
  })

  sets_beside : (before : Store → Store → Type 0) (weak : (s u : Store) → before s u → Alike s u) (line : ℕ) (x : List ℕ) (z : ℤ) → HasKind ds (Named x no_subscripts) Integer
      → Follows Alike before (sets_variable (fortran77 width) None line x z) (sets_variable (fortran90 width) None line x z)
  sets_beside before weak line x z h = Follows-more Alike Alike before _ _ weak (Follows-evaluates Alike Alike id (OneCell x) line line _ _ _ _ (variable_cell x h)
      (λ c d. checks (Found x c d) (less x c d) line (Int z) _ _ (λ r. Follows-stores Alike (Found x c d) (less x c d) c d (Int z) (variable_put x h z r c d))))

  held_beside : (x : List ℕ) → HasKind ds (Named x no_subscripts) Integer → (c d : Cell) (s u : Store) → Found x c d s u → s.held c ≡ u.held d
  held_beside x h c d s u k = k.0.agree.held c (subst (Contains (names_of p)) (sym k.1.name) (among ds x _ h.0)) k.1.here ∙ ap u.held k.1.same

  increases_beside : (line : ℕ) (x : List ℕ) (m3 : ℤ) → HasKind ds (Named x no_subscripts) Integer → Goes (increases (fortran77 width) None line x m3) (increases (fortran90 width) None line x m3)
  increases_beside line x m3 h = Follows-evaluates Alike Alike id (OneCell x) line line _ _ _ _ (variable_cell x h)
      (λ c d. Follows-asks Alike (Found x c d) (less x c d) line _ _ _ _
      (λ s u k z g. ap (λ v. do z ← as_number v; exact (z +ℤ m3)) (sym (held_beside x h c d s u k)) ∙ g)
      (λ z. sets_beside (Found x c d) (less x c d) line x z h))

  turn_beside : (line : ℕ) (x : List ℕ) (m3 : ℤ) (f g : Act) → HasKind ds (Named x no_subscripts) Integer → Goes f g → Goes (turn (fortran77 width) None line x m3 f) (turn (fortran90 width) None line x m3 g)
  turn_beside line x m3 f g h b = counts _ _ (Follows-then Alike Alike id f g _ _ b (Stays-evaluates line _ _) (increases_beside line x m3 h))

  pub loop_beside : (line : ℕ) (x : List ℕ) (a b c : Expression) (f g : Act) → HasKind ds (Named x no_subscripts) Integer → HasKind ds a Integer → HasKind ds b Integer → HasKind ds c Integer → Goes f g
      → Goes (loops (fortran77 width) None line x a b c f) (loops (fortran90 width) None line x a b c g)
  loop_beside line x a b c f g v ha hb hc h =
      asks line _ _ _ _ (one_number a ha) (λ m1. asks line _ _ _ _ (one_number b hb) (λ m2. asks line _ _ _ _ (one_increment c hc) (λ m3.
      Follows-then Alike Alike id _ _ _ _ (sets_beside Alike id line x m1 v) (Stays-evaluates line _ _)
      (asks line _ _ _ _ (λ s u a. refl) (λ n. Follows-repeated Alike n _ _ (turn_beside line x m3 f g v h) (Stays-counts_step (fortran77 width) None _))))))
