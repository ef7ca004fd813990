-- The turns of a loop, and those of a loop from 1 by 1 that counts them.
use Rattle.std.proofs.Common.{◌≡◌, refl, sym, ap, ◌∙◌, subst, ℕ, zero, suc, ◌+◌, ℤ, pos, ◌+ℤ◌, ◌≤◌, Bool, true, false, cond, List, [], Result, Ok, Err, Some, None, arith}
use Rattle.std.proofs.lemmas.Int.{ints}
use Rattle.tree.specs.Operators.{as_number, fits}
use Rattle.tree.specs.Steps.{◌>>=◌}
use Rattle.tree.specs.declared.ops.Fault.{Fault}
use Rattle.tree.specs.declared.ops.Fault.TheVariants.{Overflow}
use Rattle.tree.specs.declared.ops.Value.{Value}
use Rattle.tree.specs.declared.ops.Value.TheVariants.{Int}
use Rattle.meaning.specs.Store.{Store, Cell, put, cell_at, cell_in}
use Rattle.meaning.specs.Value.{is_in_range, exact}
use Rattle.meaning.specs.Run.{State, Way, Going, Jumping, Stopped, Failed, Cut, Act, nothing, then, either, repeated, goes, on_way, while_going, answered, evaluates, stores, counts_step, checks_range, sets_variable, increases, turn}
use Rattle.rewrite.specs.Following.{IsSound, sequential}
use Rattle.rewrite.proofs.Acts.{Stays, Stays-evaluates, Stays-repeated, Stays-counts_step, Answers, Also}

-- ---- from going states to going states

-- f has gone on, and g with it
pub record Led (after : Store → Store → Type 0) (s t : State) : Type 0 where
  pub stores : after s.store t.store
  pub rest : t ≡ record s { store = t.store; steps = t.steps }
  pub going : s.way ≡ Going

pub record Leads (before after : Store → Store → Type 0) (f g : Act) : Type 0 where
  pub at : (s : State) (u : Store) (n : ℕ) → s.way ≡ Going → before s.store u → IsSound (f s).way → Led after (f s) (g (record s { store = u; steps = n }))

pub Leads-nothing : (before : Store → Store → Type 0) → Leads before before nothing nothing
Leads-nothing before = record { at = λ s u n w a e. record { stores = a; rest = refl; going = w } }

pub Leads-then : (before middle after : Store → Store → Type 0) (f f' g g' : Act) → Leads before middle f f' → Stays g → Leads middle after g g' → Leads before after (then f g) (then f' g')
Leads-then before middle after f f' g g' h w k = record { at = λ s u n i a e. by s (f' (record s { store = u; steps = n })) e (h.at s u n i a (w.at (f s) e)) }
  where
    by : (s t : State) → IsSound (g (f s)).way → Led middle (f s) t → Led after (g (f s)) (g' t)
    by s t e m = subst (λ (r : State). Led after (g (f s)) (g' r)) (sym m.rest) (k.at (f s) t.store t.steps m.going m.stores e)

pub Leads-while_going : (before after : Store → Store → Type 0) (f f' : Act) → Leads before after f f' → Leads before after (while_going f) (while_going f')
unfolding while_going
Leads-while_going before after f f' h = record { at = λ s u n i. by s.way s u n i refl }
  where
    by : (w : Way) (s : State) (u : Store) (n : ℕ) → s.way ≡ Going → s.way ≡ w → before s.store u → IsSound (on_way w f s).way → Led after (on_way w f s) (on_way w f' (record s { store = u; steps = n }))
    by Going s u n i j a e = h.at s u n i a e
    by (Jumping l) s u n i j a e = let x = sym i ∙ j in cc
    by Stopped s u n i j a e = let x = sym i ∙ j in cc
    by (Failed x l) s u n i j a e = let x = sym i ∙ j in cc
    by Cut s u n i j a e = let x = sym i ∙ j in cc

pub Leads-either : (before after : Store → Store → Type 0) (b : Bool) (f f' g g' : Act) → (b ≡ true → Leads before after f f') → (b ≡ false → Leads before after g g') → Leads before after (either b f g) (either b f' g')
Leads-either before after true f f' g g' h k = h refl
Leads-either before after false f f' g g' h k = k refl

pub Leads-fails : (before after : Store → Store → Type 0) (f : Fault) (line : ℕ) (g : Act) → Leads before after (goes (Failed f line)) g
Leads-fails before after f line g = record { at = λ s u n i a e. absurd e }

pub Leads-evaluates : (before after : Store → Store → Type 0) {A B : Type 0} (R : Store → Store → A → B → Type 0) (line line' : ℕ) (q : Store → Result A Fault) (q' : Store → Result B Fault) (k : A → Act) (k' : B → Act)
    → ((s u : Store) → before s u → (x : A) → q s ≡ Ok x → Answers before (R s u) (q' u) x)
    → ((x : A) (y : B) → Leads (Also before before R x y) after (k x) (k' y))
    → Leads before after (evaluates line q k) (evaluates line' q' k')
unfolding evaluates
Leads-evaluates before after {A} {B} R line line' q q' k k' same h = Leads-while_going before after _ _ (record { at = λ s u n i a. by s u n i a (q s.store) refl })
  where
    by : (s : State) (u : Store) (n : ℕ) → s.way ≡ Going → before s.store u → (r : Result A Fault) → q s.store ≡ r → IsSound (answered line r k s).way
        → Led after (answered line r k s) (answered line' (q' u) k' (record s { store = u; steps = n }))
    by s u n i a (Ok x) e w =
        let got = same s.store u a x e in
        subst (λ r. Led after (k x s) (answered line' r k' (record s { store = u; steps = n }))) (sym got.answered) ((h x got.answer).at s u n i (a, got.related) w)
    by s u n i a (Err f) e w = absurd w

pub Leads-stores : (before after : Store → Store → Type 0) (c d : Cell) (v w : Value) → ((s u : Store) → before s u → after (put c v s) (put d w u)) → Leads before after (stores c v) (stores d w)
unfolding stores
Leads-stores before after c d v w h = Leads-while_going before after _ _ (record { at = λ s u n i a e. record { stores = h s.store u a; rest = refl; going = i } })

module _ (bits : ℕ) where
  pub Leads-counts_step : (before after : Store → Store → Type 0) (k k' : Act) → Leads before after k k' → Leads before after (counts_step (sequential bits) None k) (counts_step (sequential bits) None k')
  unfolding counts_step
  Leads-counts_step before after k k' h = Leads-while_going before after _ _ (record { at = λ s u n i a e. h.at (record s { steps = s.steps + 1 }) u (n + 1) i a e })

  -- the second value is known to be in the range
  pub Leads-checks_range : (before after : Store → Store → Type 0) (line line' : ℕ) (v w : Value) (k k' : Act) → is_in_range bits w ≡ true → (is_in_range bits v ≡ true → Leads before after k k')
      → Leads before after (checks_range (sequential bits) None line v k) (checks_range (sequential bits) None line' w k')
  unfolding checks_range
  Leads-checks_range before after line line' v w k k' fit h = Leads-while_going before after _ _
      (subst (λ b. Leads before after (either (is_in_range bits v) k (goes (Failed Overflow line))) (either b k' (goes (Failed Overflow line')))) (sym fit) (by (is_in_range bits v) refl))
    where
      by : (b : Bool) → is_in_range bits v ≡ b → Leads before after (either b k (goes (Failed Overflow line))) k'
      by true e = h e
      by false e = Leads-fails before after Overflow line k'

  -- ---- the two variables

  abbrev pub alone : List ℕ → Cell
  alone x = record { name = x; subscripts = [] }

  abbrev Both : List ℕ → List ℕ → Store → Store → Cell → Cell → Type 0
  Both v w s u c d = (c ≡ alone v) × (d ≡ alone w)

  scalar_cell : (x : List ℕ) (s : Store) → s.bounds x ≡ Some [] → cell_at x [] s ≡ Ok (alone x)
  scalar_cell x s e = ap (λ b. cell_in b x []) e

  two-cells : (v w : List ℕ) (before : Store → Store → Type 0) → ((s u : Store) → before s u → (s.bounds v ≡ Some []) × (u.bounds w ≡ Some []))
      → (s u : Store) → before s u → (c : Cell) → cell_at v [] s ≡ Ok c → Answers before (Both v w s u) (cell_at w [] u) c
  two-cells v w before scalars s u a c e =
      let both = scalars s u a in
      let g = sym (scalar_cell v s both.0) ∙ e in
      let same : alone v ≡ c = cc in
      record { answer = alone w; answered = scalar_cell w u both.1; related = (sym same, refl) }

  pub Leads-sets_variable : (v w : List ℕ) (before after : Store → Store → Type 0) (line line' : ℕ) (z y : ℤ)
      → ((s u : Store) → before s u → (s.bounds v ≡ Some []) × (u.bounds w ≡ Some []))
      → is_in_range bits (Int y) ≡ true
      → ((s u : Store) → before s u → is_in_range bits (Int z) ≡ true → after (put (alone v) (Int z) s) (put (alone w) (Int y) u))
      → Leads before after (sets_variable (sequential bits) None line v z) (sets_variable (sequential bits) None line' w y)
  Leads-sets_variable v w before after line line' z y scalars fit h = Leads-evaluates before after (Both v w) line line' _ _ _ _ (two-cells v w before scalars)
      (λ c d. Leads-checks_range (Also before before (Both v w) c d) after line line' (Int z) (Int y) _ _ fit
      (λ e. Leads-stores (Also before before (Both v w) c d) after c d (Int z) (Int y)
      (λ s u k. subst (λ (c : Cell). after (put c (Int z) s) (put d (Int y) u)) (sym k.1.0) (subst (λ (d : Cell). after (put (alone v) (Int z) s) (put d (Int y) u)) (sym k.1.1) (h s u k.0 e)))))

  -- ---- the turns

  -- `on m` holds where m is the number of the turn that begins: the loop's variable is value m, the counter is m
  module _ (v w : List ℕ) (step : ℤ) (value : ℕ → ℤ) (on : ℕ → Store → Store → Type 0) where
    pub record Counts : Type 0 where
      pub later : (m : ℕ) → value m +ℤ step ≡ value (suc m)
      pub scalars : (m : ℕ) (s u : Store) → on m s u → (s.bounds v ≡ Some []) × (u.bounds w ≡ Some [])
      pub variable : (m : ℕ) (s u : Store) → on m s u → s.held (alone v) ≡ Int (value m)
      pub counter : (m : ℕ) (s u : Store) → on m s u → u.held (alone w) ≡ Int (pos m)
      pub next : (m : ℕ) (s u : Store) → on m s u → is_in_range bits (Int (pos (suc m))) ≡ true → is_in_range bits (Int (value (suc m))) ≡ true
          → on (suc m) (put (alone v) (Int (value (suc m))) s) (put (alone w) (Int (pos (suc m))) u)

    module _ (counts : Counts) where
      abbrev Grown : ℕ → Store → Store → ℤ → ℤ → Type 0
      Grown m s u z y = (z ≡ value (suc m)) × (y ≡ pos (suc m))

      exact-is : (z y : ℤ) → exact z ≡ Ok y → z ≡ y
      exact-is z y h = by (fits 127 z) h
        where
          by : (b : Bool) → ◌≡◌ {A = Result ℤ Fault} (cond b (Ok z) (Err Overflow)) (Ok y) → z ≡ y
          by true e = cc
          by false e = cc

      one_more : (m : ℕ) → pos m +ℤ pos 1 ≡ pos (suc m)
      one_more m = omega (arith, ints)

      grown : (m : ℕ) → fits 127 (pos (suc m)) ≡ true → (c d : Cell) (s u : Store) → Also (on m) (on m) (Both v w) c d s u → (z : ℤ)
          → ◌≡◌ {A = Result ℤ Fault} (do y ← as_number (s.held c); exact (y +ℤ step)) (Ok z)
          → Answers (Also (on m) (on m) (Both v w) c d) (Grown m s u) (do y ← as_number (u.held d); exact (y +ℤ pos 1)) z
      grown m fit c d s u k z e =
          let held : s.held c ≡ Int (value m) = ap s.held k.1.0 ∙ counts.variable m s u k.0 in
          let count : u.held d ≡ Int (pos m) = ap u.held k.1.1 ∙ counts.counter m s u k.0 in
          let z-is = exact-is (value m +ℤ step) z (sym (ap (λ x. do y ← as_number x; exact (y +ℤ step)) held) ∙ e) in
          record {
            answer = pos (suc m);
            answered = ap (λ x. do y ← as_number x; exact (y +ℤ pos 1)) count ∙ (ap exact (one_more m) ∙ ap (λ b. cond b (Ok (pos (suc m))) (Err Overflow)) fit);
            related = (sym z-is ∙ counts.later m, refl);
          }

      pub Leads-increases : (line line' : ℕ) (m : ℕ) → fits 127 (pos (suc m)) ≡ true → is_in_range bits (Int (pos (suc m))) ≡ true
          → Leads (on m) (on (suc m)) (increases (sequential bits) None line v step) (increases (sequential bits) None line' w (pos 1))
      Leads-increases line line' m wide fit = Leads-evaluates (on m) (on (suc m)) (Both v w) line line' _ _ _ _ (two-cells v w (on m) (counts.scalars m))
          (λ c d. Leads-evaluates (Also (on m) (on m) (Both v w) c d) (on (suc m)) (Grown m) line line' _ _ _ _ (λ s u k z e. grown m wide c d s u k z e)
          (λ z y. record {
            at = λ s u n i k e. (subst (λ (z : ℤ). Leads (on m) (on (suc m)) (sets_variable (sequential bits) None line v z) (sets_variable (sequential bits) None line' w y)) (sym k.1.0)
                (subst (λ (y : ℤ). Leads (on m) (on (suc m)) (sets_variable (sequential bits) None line v (value (suc m))) (sets_variable (sequential bits) None line' w y)) (sym k.1.1)
                (Leads-sets_variable v w (on m) (on (suc m)) line line' (value (suc m)) (pos (suc m)) (counts.scalars m) fit (λ s u o q. counts.next m s u o fit q)))).at s u n i k.0.0 e;
          }))

      pub Leads-turn : (line line' : ℕ) (f f' : Act) → (m : ℕ) → fits 127 (pos (suc m)) ≡ true → is_in_range bits (Int (pos (suc m))) ≡ true
          → Leads (on m) (on m) f f' → Leads (on m) (on (suc m)) (turn (sequential bits) None line v step f) (turn (sequential bits) None line' w (pos 1) f')
      Leads-turn line line' f f' m wide fit h = Leads-counts_step (on m) (on (suc m)) _ _ (Leads-then (on m) (on m) (on (suc m)) f f' _ _ h (Stays-evaluates line _ _) (Leads-increases line line' m wide fit))

      -- n turns, where the counter stays in the range
      pub Leads-turns : (line line' : ℕ) (f f' : Act) → ((m : ℕ) → Leads (on m) (on m) f f') → (n m : ℕ)
          → ((k : ℕ) → k ≤ m + n → (fits 127 (pos k) ≡ true) × (is_in_range bits (Int (pos k)) ≡ true))
          → Leads (on m) (on (m + n)) (repeated n (turn (sequential bits) None line v step f)) (repeated n (turn (sequential bits) None line' w (pos 1) f'))
      Leads-turns line line' f f' h zero m fit = subst (λ k. Leads (on m) (on k) nothing nothing) (omega arith) (Leads-nothing (on m))
      Leads-turns line line' f f' h (suc n) m fit =
          let here = fit (suc m) (omega arith) in
          let more = Leads-turns line line' f f' h n (suc m) (λ k q. fit k (omega (arith, q))) in
          let last : suc m + n ≡ m + suc n = omega arith in
          subst (λ k. Leads (on m) (on k) (repeated (suc n) (turn (sequential bits) None line v step f)) (repeated (suc n) (turn (sequential bits) None line' w (pos 1) f'))) last
          (Leads-then (on m) (on (suc m)) (on (suc m + n)) _ _ _ _ (Leads-turn line line' f f' m here.0 here.1 (h m)) (Stays-repeated n _ (Stays-counts_step (sequential bits) None _)) more)
