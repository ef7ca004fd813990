-- How acts lead on, put together from their parts.
use Rattle.std.proofs.Common.{◌≡◌, refl, sym, ap, ◌∙◌, subst, ℕ, ◌+◌, ℤ, Bool, true, false, List, [], Result, Ok, Err, Some, None}
use Rattle.std.specs.Prelude.{Option}
use Rattle.tree.specs.declared.ops.Fault.{Fault}
use Rattle.tree.specs.declared.ops.Fault.TheVariants.{Overflow}
use Rattle.tree.specs.declared.ops.Value.{Value}
use Rattle.tree.specs.declared.ops.Value.TheVariants.{Int}
use Rattle.tree.specs.declared.stmts.Mark.{Mark}
use Rattle.tree.specs.Plain.{Expression, Reference, Assignment, If, Block, arm, no_arms, no_statements}
use Rattle.meaning.specs.Store.{Store, Cell, put, cell_at, cell_in}
use Rattle.meaning.specs.Value.{is_in_range, value_of, truth_of, cell_named}
use Rattle.meaning.specs.Run.{State, Way, Going, Jumping, Stopped, Failed, Cut, Act, nothing, then, either, goes, on_way, while_going, answered, evaluates, stores, counts_step, checks_range, sets_variable, assigns, does, does_all}
use Rattle.rewrite.specs.Following.{IsSound, sequential}
use Rattle.rewrite.proofs.Acts.{Stays, Answers, Also}
use Rattle.nest_steps.specs.Leading.{Led, Leads}

pub Leads-nothing : (before : Store → Store → Type 0) → Leads before before nothing nothing
Leads-nothing before = record { at = λ s u n w a e. record { stores = a; rest = refl; going = w } }

pub Leads-then : (before middle after : Store → Store → Type 0) (f f' g g' : Act) → Leads before middle f f' → Stays g → Leads middle after g g' → Leads before after (then f g) (then f' g')
Leads-then before middle after f f' g g' h w k = record { at = λ s u n i a e. by s (f' (record s { store = u; steps = n })) e (h.at s u n i a (w.at (f s) e)) }
  where
    by : (s t : State) → IsSound (g (f s)).way → Led middle (f s) t → Led after (g (f s)) (g' t)
    by s t e m = subst (λ (r : State). Led after (g (f s)) (g' r)) (sym m.rest) (k.at (f s) t.store t.steps m.going m.stores e)

pub Leads-while_going : (before after : Store → Store → Type 0) (f f' : Act) → Leads before after f f' → Leads before after (while_going f) (while_going f')
unfolding while_going
Leads-while_going before after f f' h = record { at = λ s u n i. by s.way s u n i refl }
  where
    by : (w : Way) (s : State) (u : Store) (n : ℕ) → s.way ≡ Going → s.way ≡ w → before s.store u → IsSound (on_way w f s).way → Led after (on_way w f s) (on_way w f' (record s { store = u; steps = n }))
    by Going s u n i j a e = h.at s u n i a e
    by (Jumping l) s u n i j a e = let x = sym i ∙ j in cc
    by Stopped s u n i j a e = let x = sym i ∙ j in cc
    by (Failed x l) s u n i j a e = let x = sym i ∙ j in cc
    by Cut s u n i j a e = let x = sym i ∙ j in cc

pub Leads-either : (before after : Store → Store → Type 0) (b : Bool) (f f' g g' : Act) → (b ≡ true → Leads before after f f') → (b ≡ false → Leads before after g g') → Leads before after (either b f g) (either b f' g')
Leads-either before after true f f' g g' h k = h refl
Leads-either before after false f f' g g' h k = k refl

pub Leads-fails : (before after : Store → Store → Type 0) (f : Fault) (line : ℕ) (g : Act) → Leads before after (goes (Failed f line)) g
Leads-fails before after f line g = record { at = λ s u n i a e. absurd e }

pub Leads-evaluates : (before after : Store → Store → Type 0) {A B : Type 0} (R : Store → Store → A → B → Type 0) (line line' : ℕ) (q : Store → Result A Fault) (q' : Store → Result B Fault) (k : A → Act) (k' : B → Act)
    → ((s u : Store) → before s u → (x : A) → q s ≡ Ok x → Answers before (R s u) (q' u) x)
    → ((x : A) (y : B) → Leads (Also before before R x y) after (k x) (k' y))
    → Leads before after (evaluates line q k) (evaluates line' q' k')
unfolding evaluates
Leads-evaluates before after {A} {B} R line line' q q' k k' same h = Leads-while_going before after _ _ (record { at = λ s u n i a. by s u n i a (q s.store) refl })
  where
    by : (s : State) (u : Store) (n : ℕ) → s.way ≡ Going → before s.store u → (r : Result A Fault) → q s.store ≡ r → IsSound (answered line r k s).way
        → Led after (answered line r k s) (answered line' (q' u) k' (record s { store = u; steps = n }))
    by s u n i a (Ok x) e w =
        let got = same s.store u a x e in
        subst (λ r. Led after (k x s) (answered line' r k' (record s { store = u; steps = n }))) (sym got.answered) ((h x got.answer).at s u n i (a, got.related) w)
    by s u n i a (Err f) e w = absurd w

pub Leads-stores : (before after : Store → Store → Type 0) (c d : Cell) (v w : Value) → ((s u : Store) → before s u → after (put c v s) (put d w u)) → Leads before after (stores c v) (stores d w)
unfolding stores
Leads-stores before after c d v w h = Leads-while_going before after _ _ (record { at = λ s u n i a e. record { stores = h s.store u a; rest = refl; going = i } })

module _ (bits : ℕ) where
  pub Leads-counts_step : (before after : Store → Store → Type 0) (k k' : Act) → Leads before after k k' → Leads before after (counts_step (sequential bits) None k) (counts_step (sequential bits) None k')
  unfolding counts_step
  Leads-counts_step before after k k' h = Leads-while_going before after _ _ (record { at = λ s u n i a e. h.at (record s { steps = s.steps + 1 }) u (n + 1) i a e })

  -- the second value is known to be in the range
  pub Leads-checks_range : (before after : Store → Store → Type 0) (line line' : ℕ) (v w : Value) (k k' : Act) → is_in_range bits w ≡ true → (is_in_range bits v ≡ true → Leads before after k k')
      → Leads before after (checks_range (sequential bits) None line v k) (checks_range (sequential bits) None line' w k')
  unfolding checks_range
  Leads-checks_range before after line line' v w k k' fit h = Leads-while_going before after _ _
      (subst (λ b. Leads before after (either (is_in_range bits v) k (goes (Failed Overflow line))) (either b k' (goes (Failed Overflow line')))) (sym fit) (by (is_in_range bits v) refl))
    where
      by : (b : Bool) → is_in_range bits v ≡ b → Leads before after (either b k (goes (Failed Overflow line))) k'
      by true e = h e
      by false e = Leads-fails before after Overflow line k'

  -- one value
  pub Leads-checks_same : (before after : Store → Store → Type 0) (line line' : ℕ) (v : Value) (k k' : Act) → (is_in_range bits v ≡ true → Leads before after k k')
      → Leads before after (checks_range (sequential bits) None line v k) (checks_range (sequential bits) None line' v k')
  unfolding checks_range
  Leads-checks_same before after line line' v k k' h = Leads-while_going before after _ _ (by (is_in_range bits v) refl)
    where
      by : (b : Bool) → is_in_range bits v ≡ b → Leads before after (either b k (goes (Failed Overflow line))) (either b k' (goes (Failed Overflow line')))
      by true e = h e
      by false e = Leads-fails before after Overflow line (goes (Failed Overflow line'))

  -- ---- the two variables

  abbrev pub alone : List ℕ → Cell
  alone x = record { name = x; subscripts = [] }

  abbrev pub Both : List ℕ → List ℕ → Store → Store → Cell → Cell → Type 0
  Both v w s u c d = (c ≡ alone v) × (d ≡ alone w)

  scalar_cell : (x : List ℕ) (s : Store) → s.bounds x ≡ Some [] → cell_at x [] s ≡ Ok (alone x)
  scalar_cell x s e = ap (λ b. cell_in b x []) e

  pub two-cells : (v w : List ℕ) (before : Store → Store → Type 0) → ((s u : Store) → before s u → (s.bounds v ≡ Some []) × (u.bounds w ≡ Some []))
      → (s u : Store) → before s u → (c : Cell) → cell_at v [] s ≡ Ok c → Answers before (Both v w s u) (cell_at w [] u) c
  two-cells v w before scalars s u a c e =
      let both = scalars s u a in
      let g = sym (scalar_cell v s both.0) ∙ e in
      let same : alone v ≡ c = cc in
      record { answer = alone w; answered = scalar_cell w u both.1; related = (sym same, refl) }

  pub Leads-sets_variable : (v w : List ℕ) (before after : Store → Store → Type 0) (line line' : ℕ) (z y : ℤ)
      → ((s u : Store) → before s u → (s.bounds v ≡ Some []) × (u.bounds w ≡ Some []))
      → is_in_range bits (Int y) ≡ true
      → ((s u : Store) → before s u → is_in_range bits (Int z) ≡ true → after (put (alone v) (Int z) s) (put (alone w) (Int y) u))
      → Leads before after (sets_variable (sequential bits) None line v z) (sets_variable (sequential bits) None line' w y)
  Leads-sets_variable v w before after line line' z y scalars fit h = Leads-evaluates before after (Both v w) line line' _ _ _ _ (two-cells v w before scalars)
      (λ c d. Leads-checks_range (Also before before (Both v w) c d) after line line' (Int z) (Int y) _ _ fit
      (λ e. Leads-stores (Also before before (Both v w) c d) after c d (Int z) (Int y)
      (λ s u k. subst (λ (c : Cell). after (put c (Int z) s) (put d (Int y) u)) (sym k.1.0) (subst (λ (d : Cell). after (put (alone v) (Int z) s) (put d (Int y) u)) (sym k.1.1) (h s u k.0 e)))))

-- ---- what is known before, and what is left afterwards

pub Leads-from : (before more after : Store → Store → Type 0) (f g : Act) → ((s u : Store) → more s u → before s u) → Leads before after f g → Leads more after f g
Leads-from before more after f g less h = record { at = λ s u n i a e. h.at s u n i (less s.store u a) e }

pub Leads-to : (before after other : Store → Store → Type 0) (f g : Act) → ((s u : Store) → after s u → other s u) → Leads before after f g → Leads before other f g
Leads-to before after other f g less h = record { at = λ s u n i a e. let l = h.at s u n i a e in record { stores = less (f s).store _ l.stores; rest = l.rest; going = l.going } }

-- a fact that doesn't depend on the stores
pub Leads-where : {A : Type 0} (before after : Store → Store → Type 0) (f g : Act) → (A → Leads before after f g) → Leads (λ s u. A × before s u) after f g
Leads-where before after f g h = record { at = λ s u n i a e. (h a.0).at s u n i a.1 e }

-- the second act alone, from a moment at which the first run is going on
pub record Goes (before after : Store → Store → Type 0) (g : Act) : Type 0 where
  pub at : (s : State) (u : Store) (n : ℕ) → s.way ≡ Going → before s.store u → Led after s (g (record s { store = u; steps = n }))

pub Leads-second : (before after : Store → Store → Type 0) (g : Act) → Goes before after g → Leads before after nothing g
Leads-second before after g h = record { at = λ s u n i a e. h.at s u n i a }

-- ---- one run after another

-- Three runs: what leads from the first to the second and from the second to the third, from one store
pub Leads-over : (before after between : Store → Store → Type 0) (f g h : Act) → ((s u : Store) → before s u → before u u)
    → ((s t u : Store) → after s t → between t u → after s u) → Leads before after f g → Leads before between g h → Leads before after f h
Leads-over before after between f g h same over p q = record {
  at = λ s u n i a e.
      let one = p.at s u n i a e in
      let there : (g (record s { store = u; steps = n })).way ≡ (f s).way = ap (λ (t : State). t.way) one.rest in
      let sound : IsSound (g (record s { store = u; steps = n })).way = subst IsSound (sym there) e in
      let two = q.at (record s { store = u; steps = n }) u n i (same s.store u a) sound in
      by (f s) (g (record s { store = u; steps = n })) (h (record s { store = u; steps = n })) one two;
}
  where
    by : (s t r : State) → Led after s t → Led between t r → Led after s r
    by s t r one two = record {
      stores = over s.store t.store r.store one.stores two.stores;
      rest = two.rest ∙ ap (λ (x : State). record x { store = r.store; steps = r.steps }) one.rest;
      going = one.going;
    }

-- ---- assignments, and those under a guard

module _ (bits : ℕ) where
  -- of the values of two expressions, and of two cells
  abbrev Valued : Expression → Store → Store → Value → Value → Type 0
  Valued e s u v w = (value_of (sequential bits) e s ≡ Ok v) × (v ≡ w)

  abbrev Placed : (Store → Store → Type 0) → Store → Store → Cell → Cell → Value → Type 0
  Placed after s u c d v = after (put c v s) (put d v u)

  -- where the first left side lands in c, the second one lands where the stores come to what they are afterwards
  pub record Lands (after : Store → Store → Type 0) (s u : Store) (r : Reference) (c : Cell) (v : Value) : Type 0 where
    pub cell : Cell
    pub named : cell_named (sequential bits) r u ≡ Ok cell
    pub put : is_in_range bits v ≡ true → after (put c v s) (put cell v u)

  AlsoLands : (before after : Store → Store → Type 0) (line line' : ℕ) (e : Expression) (v w : Value) (c d : Cell) → v ≡ w
      → Leads (λ s u. (before s u × ((value_of (sequential bits) e s ≡ Ok v) × (v ≡ w))) × (is_in_range bits v ≡ true → after (put c v s) (put d v u))) after
      (checks_range (sequential bits) None line v (counts_step (sequential bits) None (stores c v))) (checks_range (sequential bits) None line' w (counts_step (sequential bits) None (stores d w)))
  AlsoLands before after line line' e v w c d same = subst (λ w. Leads (λ s u. (before s u × ((value_of (sequential bits) e s ≡ Ok v) × (v ≡ w))) × (is_in_range bits v ≡ true → after (put c v s) (put d v u))) after
      (checks_range (sequential bits) None line v (counts_step (sequential bits) None (stores c v))) (checks_range (sequential bits) None line' w (counts_step (sequential bits) None (stores d w)))) same
      (Leads-checks_same bits _ after line line' v _ _ (λ f. Leads-counts_step bits _ after (stores c v) (stores d v) (Leads-stores _ after c d v v (λ s u a. a.1 f))))

  pub Leads-assigns : (before after : Store → Store → Type 0) (line line' : ℕ) (r r' : Reference) (e e' : Expression)
      → ((s u : Store) → before s u → (v : Value) → value_of (sequential bits) e s ≡ Ok v → value_of (sequential bits) e' u ≡ Ok v)
      → ((s u : Store) → before s u → (v : Value) → value_of (sequential bits) e s ≡ Ok v → (c : Cell) → cell_named (sequential bits) r s ≡ Ok c → Lands after s u r' c v)
      → Leads before after (assigns (sequential bits) None line r e) (assigns (sequential bits) None line' r' e')
  Leads-assigns before after line line' r r' e e' value lands =
      Leads-evaluates before after (Valued e) line line' _ _
      (λ v. evaluates line (cell_named (sequential bits) r) (λ c. checks_range (sequential bits) None line v (counts_step (sequential bits) None (stores c v))))
      (λ w. evaluates line' (cell_named (sequential bits) r') (λ d. checks_range (sequential bits) None line' w (counts_step (sequential bits) None (stores d w))))
      (λ s u a v f. record { answer = v; answered = value s u a v f; related = (f, refl) })
      (λ v w. Leads-evaluates (Also before before (Valued e) v w) after (λ s u c d. is_in_range bits v ≡ true → after (put c v s) (put d v u)) line line' _ _
      (λ c. checks_range (sequential bits) None line v (counts_step (sequential bits) None (stores c v))) (λ d. checks_range (sequential bits) None line' w (counts_step (sequential bits) None (stores d w)))
      (λ s u a c f. let l = lands s u a.0 v a.1.0 c f in record { answer = l.cell; answered = l.named; related = l.put })
      (λ c d. record { at = λ s u n i a h. (AlsoLands before after line line' e v w c d a.0.1.1).at s u n i a h }))

  pub Leads-assignment : (before after : Store → Store → Type 0) (line line' : ℕ) (m m' : Option Mark) (r r' : Reference) (e e' : Expression)
      → ((s u : Store) → before s u → (v : Value) → value_of (sequential bits) e s ≡ Ok v → value_of (sequential bits) e' u ≡ Ok v)
      → ((s u : Store) → before s u → (v : Value) → value_of (sequential bits) e s ≡ Ok v → (c : Cell) → cell_named (sequential bits) r s ≡ Ok c → Lands after s u r' c v)
      → Leads before after (does (sequential bits) None (Assignment line m r e)) (does (sequential bits) None (Assignment line' m' r' e'))
  Leads-assignment before after line line' m m' r r' e e' value lands =
      Leads-counts_step bits before after _ _ (Leads-assigns before after line line' r r' e e' value lands)

  -- ---- a condition

  pub Leads-chooses : (before after : Store → Store → Type 0) (line line' : ℕ) (t t' : Expression) (b b' : Block)
      → ((s u : Store) → before s u → (x : Bool) → truth_of (sequential bits) t s ≡ Ok x → truth_of (sequential bits) t' u ≡ Ok x)
      → Leads (λ s u. before s u × (truth_of (sequential bits) t s ≡ Ok true)) after (does_all (sequential bits) None b) (does_all (sequential bits) None b')
      → ((s u : Store) → before s u → truth_of (sequential bits) t s ≡ Ok false → after s u)
      → Leads before after (does (sequential bits) None (If line (arm t b no_arms) no_statements)) (does (sequential bits) None (If line' (arm t' b' no_arms) no_statements))
  Leads-chooses before after line line' t t' b b' same taken passed =
      Leads-counts_step bits before after _ _
      (Leads-evaluates before after Both line line' _ _
      (λ x. either x (does_all (sequential bits) None b) nothing) (λ x. either x (does_all (sequential bits) None b') nothing)
      (λ s u a x f. record { answer = x; answered = same s u a x f; related = (f, refl) })
      (λ x y. record { at = λ s u n i a e. (by x y a.1.1).at s u n i a e }))
    where
      Both : Store → Store → Bool → Bool → Type 0
      Both s u x y = (truth_of (sequential bits) t s ≡ Ok x) × (x ≡ y)

      one : (x : Bool) → Leads (λ s u. before s u × ((truth_of (sequential bits) t s ≡ Ok x) × (x ≡ x))) after (either x (does_all (sequential bits) None b) nothing) (either x (does_all (sequential bits) None b') nothing)
      one true = Leads-from (λ s u. before s u × (truth_of (sequential bits) t s ≡ Ok true)) _ after _ _ (λ s u a. (a.0, a.1.0)) taken
      one false = record { at = λ s u n i a e. record { stores = passed s.store u a.0 a.1.0; rest = refl; going = i } }

      by : (x y : Bool) → x ≡ y → Leads (λ s u. before s u × ((truth_of (sequential bits) t s ≡ Ok x) × (x ≡ y))) after (either x (does_all (sequential bits) None b) nothing) (either y (does_all (sequential bits) None b') nothing)
      by x y e = subst (λ y. Leads (λ s u. before s u × ((truth_of (sequential bits) t s ≡ Ok x) × (x ≡ y))) after (either x (does_all (sequential bits) None b) nothing) (either y (does_all (sequential bits) None b') nothing)) e (one x)
