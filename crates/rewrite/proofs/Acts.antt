-- Acts that follow acts.
use Rattle.std.proofs.Common.{◌≡◌, refl, sym, subst, ℕ, zero, suc, ◌+◌, Bool, true, false, List, [], ◌∷◌, Result, Ok, Err, Option, None}
use Rattle.std.specs.List.{AllByRecursion}
use Rattle.tree.specs.declared.ops.Fault.{Fault}
use Rattle.tree.specs.declared.ops.Fault.TheVariants.{InputEnd, Overflow}
use Rattle.tree.specs.declared.ops.Value.{Value}
use Rattle.tree.specs.Plain.{Statement, Assignment, Where, If, Do, Label, GoTo, Stop, Read, Print, Allocate, Deallocate, Arms, no_arms, arm, Block, no_statements, statement, Item, Single, Constant, ImpliedDo, Items, no_items, item, Named}
use Rattle.meaning.specs.Dialect.{Dialect}
use Rattle.meaning.specs.Store.{Store, Cell, put}
use Rattle.meaning.specs.Texts.{from_value, first_word, after_word}
use Rattle.meaning.specs.Value.{is_in_range}
use Rattle.meaning.specs.Run.{State, Way, Going, Jumping, Stopped, Failed, Cut, Act, nothing, then, either, repeated, for_each, goes, on_way, while_going, answered, evaluates, writes, stores, is_empty, begins_line, takes_word, skips_line, arrives, counts_step, checks_range, reads_item, reads_items, prints_item, prints_items, does, chooses, does_all}
use Rattle.rewrite.specs.Following.{IsSound}

-- ---- a run that has failed or was cut stays so

pub record Stays (f : Act) : Type 0 where
  pub at : (s : State) → IsSound (f s).way → IsSound s.way

pub Stays-nothing : Stays nothing
Stays-nothing = record { at = λ s h. h }

pub Stays-then : (f g : Act) → Stays f → Stays g → Stays (then f g)
Stays-then f g h k = record { at = λ s w. h.at s (k.at (f s) w) }

pub Stays-either : (b : Bool) (f g : Act) → Stays f → Stays g → Stays (either b f g)
Stays-either true f g h k = h
Stays-either false f g h k = k

pub Stays-while_going : (f : Act) → Stays (while_going f)
unfolding while_going
Stays-while_going f = record { at = λ s. by s.way s refl }
  where
    by : (w : Way) (s : State) → s.way ≡ w → IsSound (on_way w f s).way → IsSound s.way
    by Going s e h = subst IsSound (sym e) tt
    by (Jumping l) s e h = h
    by Stopped s e h = h
    by (Failed x l) s e h = h
    by Cut s e h = h

pub Stays-evaluates : {A : Type 0} (line : ℕ) (q : Store → Result A Fault) (k : A → Act) → Stays (evaluates line q k)
unfolding evaluates
Stays-evaluates line q k = Stays-while_going _

pub Stays-writes : (t : List ℕ) → Stays (writes t)
unfolding writes
Stays-writes t = Stays-while_going _

pub Stays-skips_line : Stays skips_line
unfolding skips_line
Stays-skips_line = Stays-while_going _

pub Stays-begins_line : (line : ℕ) → Stays (begins_line line)
unfolding begins_line
Stays-begins_line line = Stays-while_going _

pub Stays-takes_word : (line : ℕ) (k : List ℕ → Act) → Stays (takes_word line k)
unfolding takes_word
Stays-takes_word line k = Stays-while_going _

pub Stays-repeated : (n : ℕ) (f : Act) → Stays f → Stays (repeated n f)
Stays-repeated zero f h = Stays-nothing
Stays-repeated (suc n) f h = Stays-then f (repeated n f) h (Stays-repeated n f h)

pub Stays-for_each : {A : Type 0} (xs : List A) (f : A → Act) → ((x : A) → Stays (f x)) → Stays (for_each xs f)
Stays-for_each [] f h = Stays-nothing
Stays-for_each (x ∷ xs) f h = Stays-then (f x) (for_each xs f) (h x) (Stays-for_each xs f h)

module _ (lang : Dialect) (limit : Option ℕ) where
  pub Stays-counts_step : (k : Act) → Stays (counts_step lang limit k)
  unfolding counts_step
  Stays-counts_step k = Stays-while_going _

  mutual
    pub Stays-reads_item : (i : Item) (line : ℕ) → Stays (reads_item lang limit i line)
    Stays-reads_item (Single (Named x ps)) line = Stays-evaluates line _ _
    Stays-reads_item (ImpliedDo is x a b c) line = Stays-evaluates line _ _
    Stays-reads_item _ line = Stays-nothing

    pub Stays-reads_items : (is : Items) (line : ℕ) → Stays (reads_items lang limit is line)
    Stays-reads_items no_items line = Stays-nothing
    Stays-reads_items (item i is) line = Stays-then _ _ (Stays-reads_item i line) (Stays-reads_items is line)

  mutual
    pub Stays-prints_item : (i : Item) (line : ℕ) → Stays (prints_item lang limit i line)
    Stays-prints_item (Single e) line = Stays-evaluates line _ _
    Stays-prints_item (Constant t) line = Stays-writes t
    Stays-prints_item (ImpliedDo is x a b c) line = Stays-evaluates line _ _

    pub Stays-prints_items : (is : Items) (line : ℕ) → Stays (prints_items lang limit is line)
    Stays-prints_items no_items line = Stays-nothing
    Stays-prints_items (item i is) line = Stays-then _ _ (Stays-prints_item i line) (Stays-prints_items is line)

  pub Stays-label : (n : ℕ) → Stays (does lang limit (Label n))
  Stays-label n = record { at = λ s. by s.way s refl }
    where
      by : (w : Way) (s : State) → s.way ≡ w → IsSound (either (arrives n w) (goes Going) nothing s).way → IsSound s.way
      by Going s e h = h
      by (Jumping l) s e h = subst IsSound (sym e) tt
      by Stopped s e h = h
      by (Failed x l) s e h = h
      by Cut s e h = h

  mutual
    pub Stays-does : (c : Statement) → Stays (does lang limit c)
    Stays-does (Assignment line m r e) = Stays-counts_step _
    Stays-does (If line arms other) = Stays-chooses line arms _ (Stays-does_all other)
    Stays-does (Do line x a b c body) = Stays-evaluates line _ _
    Stays-does (Label l) = Stays-label l
    Stays-does (GoTo line l) = Stays-counts_step _
    Stays-does (Stop line) = Stays-counts_step _
    Stays-does (Read line is) = Stays-counts_step _
    Stays-does (Print line is) = Stays-counts_step _
    Stays-does (Where line m mask r e) = Stays-either lang.arrays _ _ (Stays-counts_step _) Stays-nothing
    Stays-does (Allocate line x es) = Stays-either lang.arrays _ _ (Stays-counts_step _) Stays-nothing
    Stays-does (Deallocate line x) = Stays-either lang.arrays _ _ (Stays-counts_step _) Stays-nothing

    pub Stays-chooses : (line : ℕ) (arms : Arms) (f : Act) → Stays f → Stays (chooses lang limit line arms f)
    Stays-chooses line no_arms f h = h
    Stays-chooses line (arm test body arms) f h = Stays-counts_step _

    pub Stays-does_all : (cs : Block) → Stays (does_all lang limit cs)
    Stays-does_all no_statements = Stays-nothing
    Stays-does_all (statement c cs) = Stays-then _ _ (Stays-does c) (Stays-does_all cs)

-- ---- one act follows another

-- like: what the stores have in common afterwards
module _ (like : Store → Store → Type 0) where
  -- t has a store like that of s, and is the same in all else but the steps
  pub record Beside (s t : State) : Type 0 where
    pub stores : like s.store t.store
    pub rest : t ≡ record s { store = t.store; steps = t.steps }

  -- from stores that have so much in common, g goes the same way as f where f meets no fault
  pub record Follows (before : Store → Store → Type 0) (f g : Act) : Type 0 where
    pub at : (s : State) (u : Store) (n : ℕ) → before s.store u → IsSound (f s).way → Beside (f s) (g (record s { store = u; steps = n }))

  unchanged : (s : State) (u : Store) (n : ℕ) → like s.store u → Beside s (record s { store = u; steps = n })
  unchanged s u n a = record { stores = a; rest = refl }

  -- what was done has left the stores alike, and that is all that is known then
  module _ (before : Store → Store → Type 0) (weak : (s u : Store) → before s u → like s u) where
    pub Follows-nothing : Follows before nothing nothing
    Follows-nothing = record { at = λ s u n a h. unchanged s u n (weak s.store u a) }

    pub Follows-then : (f f' g g' : Act) → Follows before f f' → Stays g → Follows like g g' → Follows before (then f g) (then f' g')
    Follows-then f f' g g' h w k = record { at = λ s u n a e. by s (f' (record s { store = u; steps = n })) e (h.at s u n a (w.at (f s) e)) }
      where
        by : (s t : State) → IsSound (g (f s)).way → Beside (f s) t → Beside (g (f s)) (g' t)
        by s t e m = subst (λ (r : State). Beside (g (f s)) (g' r)) (sym m.rest) (k.at (f s) t.store t.steps m.stores e)

    pub Follows-goes : (w : Way) → Follows before (goes w) (goes w)
    Follows-goes w = record { at = λ s u n a h. record { stores = weak s.store u a; rest = refl } }

    pub Follows-while_going : (f f' : Act) → Follows before f f' → Follows before (while_going f) (while_going f')
    unfolding while_going
    Follows-while_going f f' h = record { at = λ s. by s.way s }
      where
        by : (w : Way) (s : State) (u : Store) (n : ℕ) → before s.store u → IsSound (on_way w f s).way → Beside (on_way w f s) (on_way w f' (record s { store = u; steps = n }))
        by Going s u n a e = h.at s u n a e
        by (Jumping l) s u n a e = unchanged s u n (weak s.store u a)
        by Stopped s u n a e = unchanged s u n (weak s.store u a)
        by (Failed x l) s u n a e = unchanged s u n (weak s.store u a)
        by Cut s u n a e = unchanged s u n (weak s.store u a)

    pub Follows-either : (b : Bool) (f f' g g' : Act) → (b ≡ true → Follows before f f') → (b ≡ false → Follows before g g') → Follows before (either b f g) (either b f' g')
    Follows-either true f f' g g' h k = h refl
    Follows-either false f f' g g' h k = k refl

    pub Follows-writes : (t : List ℕ) → Follows before (writes t) (writes t)
    unfolding writes
    Follows-writes t = Follows-while_going _ _ (record { at = λ s u n a h. record { stores = weak s.store u a; rest = refl } })

    pub Follows-stores : (c d : Cell) (v : Value) → ((s u : Store) → before s u → like (put c v s) (put d v u)) → Follows before (stores c v) (stores d v)
    unfolding stores
    Follows-stores c d v h = Follows-while_going _ _ (record { at = λ s u n a w. record { stores = h s.store u a; rest = refl } })

    pub Follows-begins_line : (line : ℕ) → Follows before (begins_line line) (begins_line line)
    unfolding begins_line
    Follows-begins_line line = Follows-while_going _ _ (record {
      at = λ s. (Follows-either (is_empty s.input) (goes (Failed InputEnd line)) (goes (Failed InputEnd line)) (λ t. record t { had_value = false }) (λ t. record t { had_value = false })
          (λ e. Follows-goes (Failed InputEnd line)) (λ e. record { at = λ t v m b w. record { stores = weak t.store v b; rest = refl } })).at s;
    })

    pub Follows-skips_line : Follows before skips_line skips_line
    unfolding skips_line
    Follows-skips_line = Follows-while_going _ _ (record { at = λ s u n a h. record { stores = weak s.store u a; rest = refl } })

    pub Follows-takes_word : (line : ℕ) (k k' : List ℕ → Act) → ((w : List ℕ) → Follows before (k w) (k' w)) → Follows before (takes_word line k) (takes_word line k')
    unfolding takes_word
    Follows-takes_word line k k' h = Follows-while_going _ _ (record { at = λ s u n a. by (from_value s.had_value s.input) s u n a })
      where
        by : (r : Result (List ℕ) Fault) (s : State) (u : Store) (n : ℕ) → before s.store u
            → IsSound (answered line r (λ rest t. k (first_word rest) (record t { input = after_word rest; had_value = true })) s).way
            → Beside (answered line r (λ rest t. k (first_word rest) (record t { input = after_word rest; had_value = true })) s)
            (answered line r (λ rest t. k' (first_word rest) (record t { input = after_word rest; had_value = true })) (record s { store = u; steps = n }))
        by (Ok rest) s u n a w = (h (first_word rest)).at (record s { input = after_word rest; had_value = true }) u n a w
        by (Err f) s u n a w = absurd w

    module _ (lang : Dialect) where
      pub Follows-counts_step : (k k' : Act) → Follows before k k' → Follows before (counts_step lang None k) (counts_step lang None k')
      unfolding counts_step
      Follows-counts_step k k' h = Follows-while_going _ _ (record { at = λ s u n a w. h.at (record s { steps = s.steps + 1 }) u (n + 1) a w })

      pub Follows-checks_range : (line : ℕ) (v : Value) (k k' : Act) → (is_in_range lang.bits v ≡ true → Follows before k k') → Follows before (checks_range lang None line v k) (checks_range lang None line v k')
      unfolding checks_range
      Follows-checks_range line v k k' h = Follows-while_going _ _ (Follows-either (is_in_range lang.bits v) k k' (goes (Failed Overflow line)) (goes (Failed Overflow line)) h (λ e. Follows-goes (Failed Overflow line)))

  -- y answers what x answered
  pub record Answers {A B : Type 0} (R : A → B → Type 0) (r : Result B Fault) (x : A) : Type 0 where
    pub answer : B
    pub answered : r ≡ Ok answer
    pub related : R x answer

  abbrev pub Also : {A B : Type 0} → (Store → Store → Type 0) → (Store → Store → A → B → Type 0) → A → B → Store → Store → Type 0
  Also before R x y s u = before s u × R s u x y

  module _ (before : Store → Store → Type 0) (weak : (s u : Store) → before s u → like s u) where
    -- R is what is known of the two answers while the stores are as they are
    pub Follows-evaluates : {A B : Type 0} (R : Store → Store → A → B → Type 0) (line line' : ℕ) (q : Store → Result A Fault) (q' : Store → Result B Fault) (k : A → Act) (k' : B → Act)
        → ((s u : Store) → before s u → (x : A) → q s ≡ Ok x → Answers (R s u) (q' u) x)
        → ((x : A) (y : B) → Follows (Also before R x y) (k x) (k' y))
        → Follows before (evaluates line q k) (evaluates line' q' k')
    unfolding evaluates
    Follows-evaluates {A} {B} R line line' q q' k k' same h = Follows-while_going before weak _ _ (record { at = λ s u n a. by s u n a (q s.store) refl })
      where
        by : (s : State) (u : Store) (n : ℕ) → before s.store u → (r : Result A Fault) → q s.store ≡ r → IsSound (answered line r k s).way
            → Beside (answered line r k s) (answered line' (q' u) k' (record s { store = u; steps = n }))
        by s u n a (Ok x) e w =
            let got = same s.store u a x e in
            subst (λ r. Beside (k x s) (answered line' r k' (record s { store = u; steps = n }))) (sym got.answered) ((h x got.answer).at s u n (a, got.related) w)
        by s u n a (Err f) e w = absurd w

    -- the same answer, of which nothing else is known
    pub Follows-asks : {A : Type 0} (line : ℕ) (q q' : Store → Result A Fault) (k k' : A → Act)
        → ((s u : Store) → before s u → (x : A) → q s ≡ Ok x → q' u ≡ Ok x) → ((x : A) → Follows before (k x) (k' x)) → Follows before (evaluates line q k) (evaluates line q' k')
    Follows-asks {A} line q q' k k' same h = Follows-evaluates (λ s u x y. x ≡ y) line line q q' k k'
        (λ s u a x e. record { answer = x; answered = same s u a x e; related = refl })
        (λ x y. record { at = λ s u n a w. subst (λ (z : A). Beside (k x s) (k' z (record s { store = u; steps = n }))) a.1 ((h x).at s u n a.0 w) })

  pub Follows-repeated : (n : ℕ) (f f' : Act) → Follows like f f' → Stays f → Follows like (repeated n f) (repeated n f')
  Follows-repeated zero f f' h w = Follows-nothing like (λ s u a. a)
  Follows-repeated (suc n) f f' h w = Follows-then like (λ s u a. a) f f' (repeated n f) (repeated n f') h (Stays-repeated n f w) (Follows-repeated n f f' h w)

  -- the front of the lists are cells that belong together
  pub Follows-for_each : (T : Cell → Type 0) (cs : List Cell) (f f' : Cell → Act) → AllByRecursion T cs → ((c : Cell) → Stays (f c)) → ((c : Cell) → T c → Follows like (f c) (f' c)) → Follows like (for_each cs f) (for_each cs f')
  Follows-for_each T [] f f' p w h = Follows-nothing like (λ s u a. a)
  Follows-for_each T (c ∷ cs) f f' p w h = Follows-then like (λ s u a. a) (f c) (f' c) (for_each cs f) (for_each cs f') (h c p.0) (Stays-for_each cs f w) (Follows-for_each T cs f f' p.1 w h)

  -- more is known
  pub Follows-more : (before more : Store → Store → Type 0) (f f' : Act) → ((s u : Store) → more s u → before s u) → Follows before f f' → Follows more f f'
  Follows-more before more f f' weak h = record { at = λ s u n a w. h.at s u n (weak s.store u a) w }
