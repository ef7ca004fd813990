-- The statements of nests don't look at the numbers of lines: without them they do the same, but for the line of a fault.
use Rattle.std.proofs.Common.{◌≡◌, refl, sym, ap, ap₂, ◌∙◌, ℕ, zero, suc, ◌+◌, ℤ, Bool, true, false, ◌&&◌, List, [], ◌∷◌, Result, Ok, Err, Option, Some, None}
use Rattle.tree.specs.declared.ops.Fault.{Fault}
use Rattle.tree.specs.declared.ops.Value.{Value}
use Rattle.tree.specs.declared.ops.Value.TheVariants.{Int}
use Rattle.tree.specs.Plain.{Expression, Logic, Reference, Statement, Assignment, Where, If, Do, Label, GoTo, Stop, Read, Print, Allocate, Deallocate, Arms, no_arms, arm, Block, no_statements, statement}
use Rattle.meaning.specs.Dialect.{Dialect}
use Rattle.meaning.specs.Store.{Store, Cell}
use Rattle.meaning.specs.Value.{is_in_range, is_array, named}
use Rattle.meaning.specs.Run.{State, Way, Going, Jumping, Stopped, Failed, Cut, Act, nothing, then, either, repeated, for_each, goes, on_way, while_going, answered, evaluates, stores, is_allowed, arrives, counts_step, checks_range, assigns, array_assigns, sets_variable, increases, turn, loops, does, chooses, does_all}
use Rattle.meaning.specs.Relined.{without_lines, arms_without_lines, block_without_lines, way_without_line, AlikeButLine}
use Rattle.pass_laws.specs.nest_sources.Sources.{may_stand, arms_may_stand, block_may_stand}

pub both : (a b : Bool) → (a && b) ≡ true → (a ≡ true) × (b ≡ true)
both true b h = (refl, h)
both false b h = let no : ⊥ = cc in absurd no

-- the moment without the line of a fault
abbrev pub lineless : State → State
lineless s = record s { way = way_without_line s.way }

-- g does from the moment without line what f does from the moment
record Follows (f g : Act) : Type 0 where
  at : (s : State) → g (lineless s) ≡ lineless (f s)

Follows-then : (f f' g g' : Act) → Follows f f' → Follows g g' → Follows (then f g) (then f' g')
Follows-then f f' g g' h k = record { at = λ s. ap g' (h.at s) ∙ k.at (f s) }

Follows-while_going : (f g : Act) → Follows f g → Follows (while_going f) (while_going g)
unfolding while_going
Follows-while_going f g h = record { at = λ s. by s.way s }
  where
    by : (w : Way) (s : State) → on_way (way_without_line w) g (lineless s) ≡ lineless (on_way w f s)
    by Going s = h.at s
    by (Jumping l) s = refl
    by Stopped s = refl
    by (Failed e l) s = refl
    by Cut s = refl

Follows-either : (b : Bool) {f f' g g' : Act} → Follows f f' → Follows g g' → Follows (either b f g) (either b f' g')
Follows-either true h k = h
Follows-either false h k = k

Follows-answered : {A : Type 0} (line : ℕ) (r : Result A Fault) (k k' : A → Act) → ((x : A) → Follows (k x) (k' x)) → Follows (answered line r k) (answered 0 r k')
Follows-answered line (Ok x) k k' h = h x
Follows-answered line (Err e) k k' h = record { at = λ s. refl }

Follows-evaluates : {A : Type 0} (line : ℕ) (f : Store → Result A Fault) (k k' : A → Act) → ((x : A) → Follows (k x) (k' x)) → Follows (evaluates line f k) (evaluates 0 f k')
unfolding evaluates
Follows-evaluates line f k k' h = Follows-while_going _ _ (record { at = λ s. (Follows-answered line (f s.store) k k' h).at s })

Follows-repeated : (n : ℕ) (f g : Act) → Follows f g → Follows (repeated n f) (repeated n g)
Follows-repeated zero f g h = record { at = λ s. refl }
Follows-repeated (suc n) f g h = Follows-then f g (repeated n f) (repeated n g) h (Follows-repeated n f g h)

Follows-for_each : {A : Type 0} (xs : List A) (f g : A → Act) → ((x : A) → Follows (f x) (g x)) → Follows (for_each xs f) (for_each xs g)
Follows-for_each [] f g h = record { at = λ s. refl }
Follows-for_each (x ∷ xs) f g h = Follows-then (f x) (g x) (for_each xs f) (for_each xs g) (h x) (Follows-for_each xs f g h)

Follows-stores : (c : Cell) (v : Value) → Follows (stores c v) (stores c v)
unfolding stores
Follows-stores c v = Follows-while_going _ _ (record { at = λ s. refl })

Follows-label : (n : ℕ) → Follows (λ s. either (arrives n s.way) (goes Going) nothing s) (λ s. either (arrives n s.way) (goes Going) nothing s)
Follows-label n = record { at = λ s. at s.way s }
  where
    by : (b : Bool) (s : State) → either b (goes Going) nothing (lineless s) ≡ lineless (either b (goes Going) nothing s)
    by true s = refl
    by false s = refl

    at : (w : Way) (s : State) → either (arrives n (way_without_line w)) (goes Going) nothing (lineless s) ≡ lineless (either (arrives n w) (goes Going) nothing s)
    at Going s = refl
    at (Jumping m) s = by (arrives n (Jumping m)) s
    at Stopped s = refl
    at (Failed e m) s = refl
    at Cut s = refl

module _ (lang : Dialect) (limit : Option ℕ) where
  Follows-counts_step : (k k' : Act) → Follows k k' → Follows (counts_step lang limit k) (counts_step lang limit k')
  unfolding counts_step
  Follows-counts_step k k' h = Follows-while_going _ _ (record { at = λ s. by (is_allowed limit s.steps) s })
    where
      by : (b : Bool) (s : State) → either b (λ t. k' (record t { steps = t.steps + 1 })) (goes Cut) (lineless s) ≡ lineless (either b (λ t. k (record t { steps = t.steps + 1 })) (goes Cut) s)
      by true s = h.at (record s { steps = s.steps + 1 })
      by false s = refl

  Follows-checks_range : (line : ℕ) (v : Value) (k k' : Act) → Follows k k' → Follows (checks_range lang limit line v k) (checks_range lang limit 0 v k')
  unfolding checks_range
  Follows-checks_range line v k k' h = Follows-while_going _ _ (Follows-either (is_in_range lang.bits v) h (record { at = λ s. refl }))

  Follows-stored : (c : Cell) (v : Value) → Follows (counts_step lang limit (stores c v)) (counts_step lang limit (stores c v))
  Follows-stored c v = Follows-counts_step _ _ (Follows-stores c v)

  Follows-sets_variable : (line : ℕ) (x : List ℕ) (z : ℤ) → Follows (sets_variable lang limit line x z) (sets_variable lang limit 0 x z)
  Follows-sets_variable line x z = Follows-evaluates line _ _ _ (λ c. Follows-checks_range line (Int z) _ _ (Follows-stores c (Int z)))

  Follows-turn : (line : ℕ) (x : List ℕ) (d : ℤ) (f g : Act) → Follows f g → Follows (turn lang limit line x d f) (turn lang limit 0 x d g)
  Follows-turn line x d f g h = Follows-counts_step _ _ (Follows-then f g _ _ h
      (Follows-evaluates line _ _ _ (λ c. Follows-evaluates line _ _ _ (λ z. Follows-sets_variable line x z))))

  Follows-loops : (line : ℕ) (x : List ℕ) (a b c : Expression) (f g : Act) → Follows f g → Follows (loops lang limit line x a b c f) (loops lang limit 0 x a b c g)
  Follows-loops line x a b c f g h = Follows-evaluates line _ _ _ (λ m1. Follows-evaluates line _ _ _ (λ m2. Follows-evaluates line _ _ _ (λ m3.
      Follows-then _ _ _ _ (Follows-sets_variable line x m1) (Follows-evaluates line _ _ _ (λ n. Follows-repeated n _ _ (Follows-turn line x m3 f g h))))))

  Follows-assigns : (line : ℕ) (r : Reference) (e : Expression) → Follows (assigns lang limit line r e) (assigns lang limit 0 r e)
  Follows-assigns line r e = Follows-evaluates line _ _ _ (λ v. Follows-evaluates line _ _ _ (λ c. Follows-checks_range line v _ _ (Follows-stored c v)))

  Follows-array_assigns : (line : ℕ) (m : Expression) (r : Reference) (e : Expression) → Follows (array_assigns lang limit line m r e) (array_assigns lang limit 0 m r e)
  Follows-array_assigns line m r e = Follows-evaluates line _ _ _ (λ ws. Follows-for_each ws _ _ (λ w. Follows-stored w.0 w.1))

  mutual
    Follows-does : (c : Statement) → may_stand c ≡ true → Follows (does lang limit c) (does lang limit (without_lines c))
    Follows-does (Assignment line m r e) h = Follows-counts_step _ _ (record { at = λ s. (Follows-either (is_array lang (named r) s.store) (Follows-array_assigns line (Logic true) r e) (Follows-assigns line r e)).at s })
    Follows-does (If line arms other) h = let hs = both (arms_may_stand arms) (block_may_stand other) h in Follows-chooses line arms _ _ hs.0 (Follows-does_all other hs.1)
    Follows-does (Do line x a b c body) h = Follows-loops line x a b c _ _ (Follows-does_all body h)
    Follows-does (Label n) h = Follows-label n
    Follows-does (GoTo line n) h = Follows-counts_step _ _ (record { at = λ s. refl })
    Follows-does (Where line m k r e) h = let no : ⊥ = cc in absurd no
    Follows-does (Stop line) h = let no : ⊥ = cc in absurd no
    Follows-does (Read line is) h = let no : ⊥ = cc in absurd no
    Follows-does (Print line is) h = let no : ⊥ = cc in absurd no
    Follows-does (Allocate line x es) h = let no : ⊥ = cc in absurd no
    Follows-does (Deallocate line x) h = let no : ⊥ = cc in absurd no

    Follows-chooses : (line : ℕ) (arms : Arms) (f g : Act) → arms_may_stand arms ≡ true → Follows f g → Follows (chooses lang limit line arms f) (chooses lang limit 0 (arms_without_lines arms) g)
    Follows-chooses line no_arms f g h k = k
    Follows-chooses line (arm test body arms) f g h k =
        let hs = both (block_may_stand body) (arms_may_stand arms) h in
        Follows-counts_step _ _ (Follows-evaluates line _ _ _ (λ b. Follows-either b (Follows-does_all body hs.0) (Follows-chooses line arms f g hs.1 k)))

    Follows-does_all : (cs : Block) → block_may_stand cs ≡ true → Follows (does_all lang limit cs) (does_all lang limit (block_without_lines cs))
    Follows-does_all no_statements h = record { at = λ s. refl }
    Follows-does_all (statement c cs) h = let hs = both (may_stand c) (block_may_stand cs) h in Follows-then _ _ _ _ (Follows-does c hs.0) (Follows-does_all cs hs.1)

  -- statements that are the same without lines
  pub lineless_alike : (c e : Statement) (s : State) → may_stand c ≡ true → may_stand e ≡ true → without_lines c ≡ without_lines e
      → lineless (does lang limit c s) ≡ lineless (does lang limit e s)
  lineless_alike c e s h k same = sym ((Follows-does c h).at s) ∙ (ap (λ d. does lang limit d (lineless s)) same ∙ (Follows-does e k).at s)

pub alike : (s t : State) → lineless s ≡ lineless t → AlikeButLine s t × (s.had_value ≡ t.had_value)
alike s t e = (
  record {
    store = ap (λ (u : State). u.store) e;
    written = ap (λ (u : State). u.written) e;
    input = ap (λ (u : State). u.input) e;
    steps = ap (λ (u : State). u.steps) e;
    way = ap (λ (u : State). u.way) e;
  },
  ap (λ (u : State). u.had_value) e,
)

-- ---- whether a statement may stand in a nest can't be seen from its lines

mutual
  pub stands-lines : (c : Statement) → may_stand (without_lines c) ≡ may_stand c
  stands-lines (Assignment line m r e) = refl
  stands-lines (Where line m k r e) = refl
  stands-lines (If line arms other) = ap₂ (λ a b. a && b) (arms-lines arms) (block-lines other)
  stands-lines (Do line x a b c body) = block-lines body
  stands-lines (Label n) = refl
  stands-lines (GoTo line n) = refl
  stands-lines (Stop line) = refl
  stands-lines (Read line is) = refl
  stands-lines (Print line is) = refl
  stands-lines (Allocate line x es) = refl
  stands-lines (Deallocate line x) = refl

  arms-lines : (arms : Arms) → arms_may_stand (arms_without_lines arms) ≡ arms_may_stand arms
  arms-lines no_arms = refl
  arms-lines (arm test body arms) = ap₂ (λ a b. a && b) (block-lines body) (arms-lines arms)

  block-lines : (b : Block) → block_may_stand (block_without_lines b) ≡ block_may_stand b
  block-lines no_statements = refl
  block-lines (statement c cs) = ap₂ (λ a b. a && b) (stands-lines c) (block-lines cs)
