-- Loops from 1 by 1 beside each other.
use Rattle.std.proofs.Common.{◌≡◌, refl, sym, ap, ◌∙◌, subst, ℕ, zero, suc, ◌+◌, ℤ, pos, negsuc, ◌+ℤ◌, ◌-ℤ◌, ◌≤◌, Bool, true, false, cond, List, [], Result, Ok, Err, Some, None, arith}
use Rattle.std.specs.Prelude.{nat_le, int_div}
use Rattle.std.proofs.lemmas.Bool.{leb-true}
use Rattle.std.proofs.lemmas.Int.{ints}
use Rattle.tree.specs.Operators.{as_number, fits}
use Rattle.tree.specs.Steps.{◌>>=◌}
use Rattle.tree.specs.declared.ops.Fault.{Fault}
use Rattle.tree.specs.declared.ops.Fault.TheVariants.{Overflow, TripCount}
use Rattle.tree.specs.declared.ops.Value.TheVariants.{Int}
use Rattle.tree.specs.Plain.{Expression, Number}
use Rattle.meaning.specs.Store.{Store, Cell, put}
use Rattle.meaning.specs.Value.{is_in_range, exact, as_count, trip_count, number_of}
use Rattle.meaning.specs.Run.{Act, nothing, then, repeated, evaluates, sets_variable, increases, turn, loops}
use Rattle.rewrite.specs.Following.{sequential}
use Rattle.rewrite.proofs.Acts.{Stays-evaluates, Stays-repeated, Stays-counts_step, Answers, Also}
use Rattle.rewrite.proofs.Values.{parted}
use Rattle.nest_steps.specs.Leading.{Leads}
use Rattle.nest_steps.proofs.Acts.{Leads-nothing, Leads-then, Leads-evaluates, Leads-counts_step, Leads-sets_variable, Leads-to, alone, Both, two-cells}

-- a count is within its limit
count-limit : (z : ℤ) (n : ℕ) → as_count z ≡ Ok n → n ≤ 2147483646
count-limit (pos k) n h = by (nat_le k 2147483646) refl h
  where
    by : (b : Bool) → nat_le k 2147483646 ≡ b → ◌≡◌ {A = Result ℕ Fault} (cond b (Ok k) (Err TripCount)) (Ok n) → n ≤ 2147483646
    by true e g = let same : k ≡ n = cc in subst (λ n. n ≤ 2147483646) same (leb-true k 2147483646 e)
    by false e g = cc
count-limit (negsuc k) n h = let same : 0 ≡ n = cc in subst (λ n. n ≤ 2147483646) same (omega arith)

trip-limit : (a b d : ℤ) (n : ℕ) → trip_count a b d ≡ Ok n → n ≤ 2147483646
trip-limit a b d n h =
    let p = parted (exact (b -ℤ a)) (λ x. do y ← exact (x +ℤ d); q ← exact (int_div y d); as_count q) n h in
    let q = parted (exact (p.part +ℤ d)) (λ y. do q ← exact (int_div y d); as_count q) n p.second in
    let r = parted (exact (int_div q.part d)) (λ q. as_count q) n q.second in
    count-limit r.part n r.second

-- the numbers of turns can be counted
abbrev pub Counts : ℕ → Type 0
Counts bits = (k : ℕ) → k ≤ 2147483647 → (fits 127 (pos k) ≡ true) × (is_in_range bits (Int (pos k)) ≡ true)

module _ (bits : ℕ) (fit : Counts bits) (x : List ℕ) where
  abbrev here : Cell
  here = alone bits x

  -- `on m` holds where turn m begins, and `done m` where its body has ended; in both the variable is m in both stores
  module _ (on done : ℕ → Store → Store → Type 0) where
    pub record Turns : Type 0 where
      pub scalars : (m : ℕ) (s u : Store) → done m s u → (s.bounds x ≡ Some []) × (u.bounds x ≡ Some [])
      pub first : (m : ℕ) (s u : Store) → done m s u → s.held here ≡ Int (pos m)
      pub second : (m : ℕ) (s u : Store) → done m s u → u.held here ≡ Int (pos m)
      pub next : (m : ℕ) → suc m ≤ 2147483647 → (s u : Store) → done m s u → on (suc m) (put here (Int (pos (suc m))) s) (put here (Int (pos (suc m))) u)

    module _ (turns : Turns) where
      abbrev Grown : ℕ → Store → Store → ℤ → ℤ → Type 0
      Grown m s u z y = (z ≡ pos (suc m)) × (y ≡ pos (suc m))

      exact-is : (z y : ℤ) → exact z ≡ Ok y → z ≡ y
      exact-is z y h = by (fits 127 z) h
        where
          by : (b : Bool) → ◌≡◌ {A = Result ℤ Fault} (cond b (Ok z) (Err Overflow)) (Ok y) → z ≡ y
          by true e = cc
          by false e = cc

      one_more : (m : ℕ) → pos m +ℤ pos 1 ≡ pos (suc m)
      one_more m = omega (arith, ints)

      grown : (m : ℕ) → fits 127 (pos (suc m)) ≡ true → (c d : Cell) (s u : Store) → Also (done m) (done m) (Both bits x x) c d s u → (z : ℤ)
          → ◌≡◌ {A = Result ℤ Fault} (do y ← as_number (s.held c); exact (y +ℤ pos 1)) (Ok z)
          → Answers (Also (done m) (done m) (Both bits x x) c d) (Grown m s u) (do y ← as_number (u.held d); exact (y +ℤ pos 1)) z
      grown m fit c d s u k z e =
          let held : s.held c ≡ Int (pos m) = ap s.held k.1.0 ∙ turns.first m s u k.0 in
          let count : u.held d ≡ Int (pos m) = ap u.held k.1.1 ∙ turns.second m s u k.0 in
          let z-is = exact-is (pos m +ℤ pos 1) z (sym (ap (λ x. do y ← as_number x; exact (y +ℤ pos 1)) held) ∙ e) in
          record {
            answer = pos (suc m);
            answered = ap (λ x. do y ← as_number x; exact (y +ℤ pos 1)) count ∙ (ap exact (one_more m) ∙ ap (λ b. cond b (Ok (pos (suc m))) (Err Overflow)) fit);
            related = (sym z-is ∙ one_more m, refl);
          }

      Leads-increases : (line line' : ℕ) (m : ℕ) → suc m ≤ 2147483647
          → Leads (done m) (on (suc m)) (increases (sequential bits) None line x (pos 1)) (increases (sequential bits) None line' x (pos 1))
      Leads-increases line line' m small =
          let here = fit (suc m) small in
          Leads-evaluates (done m) (on (suc m)) (Both bits x x) line line' _ _ _ _ (two-cells bits x x (done m) (turns.scalars m))
          (λ c d. Leads-evaluates (Also (done m) (done m) (Both bits x x) c d) (on (suc m)) (Grown m) line line' _ _ _ _ (λ s u k z e. grown m here.0 c d s u k z e)
          (λ z y. record {
            at = λ s u n i k e. (subst (λ (z : ℤ). Leads (done m) (on (suc m)) (sets_variable (sequential bits) None line x z) (sets_variable (sequential bits) None line' x y)) (sym k.1.0)
                (subst (λ (y : ℤ). Leads (done m) (on (suc m)) (sets_variable (sequential bits) None line x (pos (suc m))) (sets_variable (sequential bits) None line' x y)) (sym k.1.1)
                (Leads-sets_variable bits x x (done m) (on (suc m)) line line' (pos (suc m)) (pos (suc m)) (turns.scalars m) here.1 (λ s u o q. turns.next m small s u o)))).at s u n i k.0.0 e;
          }))

      Leads-turn : (line line' : ℕ) (f f' : Act) (m : ℕ) → suc m ≤ 2147483647 → Leads (on m) (done m) f f'
          → Leads (on m) (on (suc m)) (turn (sequential bits) None line x (pos 1) f) (turn (sequential bits) None line' x (pos 1) f')
      Leads-turn line line' f f' m small h = Leads-counts_step bits (on m) (on (suc m)) _ _ (Leads-then (on m) (done m) (on (suc m)) f f' _ _ h (Stays-evaluates line _ _) (Leads-increases line line' m small))

      -- the turns from m on, k in all
      Leads-turns : (line line' : ℕ) (f f' : Act) (k m : ℕ) → m + k ≤ 2147483647 → ((i : ℕ) → m ≤ i → suc i ≤ m + k → Leads (on i) (done i) f f')
          → Leads (on m) (on (m + k)) (repeated k (turn (sequential bits) None line x (pos 1) f)) (repeated k (turn (sequential bits) None line' x (pos 1) f'))
      Leads-turns line line' f f' zero m small h = subst (λ k. Leads (on m) (on k) nothing nothing) (omega arith) (Leads-nothing (on m))
      Leads-turns line line' f f' (suc k) m small h =
          let more = Leads-turns line line' f f' k (suc m) (omega (arith, small)) (λ i p q. h i (omega (arith, p)) (omega (arith, q))) in
          let last : suc m + k ≡ m + suc k = omega arith in
          subst (λ n. Leads (on m) (on n) (repeated (suc k) (turn (sequential bits) None line x (pos 1) f)) (repeated (suc k) (turn (sequential bits) None line' x (pos 1) f'))) last
          (Leads-then (on m) (on (suc m)) (on (suc m + k)) _ _ _ _ (Leads-turn line line' f f' m (omega (arith, small)) (h m (omega arith) (omega arith))) (Stays-repeated k _ (Stays-counts_step (sequential bits) None _)) more)

  -- ---- whole loops

  -- before: what the stores are to each other before the loops; of the number of turns, where it can be counted, something is known
  pub record IsLoop (before : Store → Store → Type 0) (on done : ℕ → Store → Store → Type 0) (trip trip' : Expression) (Known : ℕ → Type 0) : Type 0 where
    pub scalars : (s u : Store) → before s u → (s.bounds x ≡ Some []) × (u.bounds x ≡ Some [])
    pub same : (s u : Store) → before s u → (z : ℤ) → number_of (sequential bits) trip s ≡ Ok z → number_of (sequential bits) trip' u ≡ Ok z
    pub turns_are : (s u : Store) → before s u → (z : ℤ) (n : ℕ) → number_of (sequential bits) trip s ≡ Ok z → trip_count (pos 1) z (pos 1) ≡ Ok n → Known n
    pub begins : (s u : Store) → before s u → on 1 (put here (Int (pos 1)) s) (put here (Int (pos 1)) u)
    pub turns : Turns on done

  module _ (before after : Store → Store → Type 0) (on done : ℕ → Store → Store → Type 0) (trip trip' : Expression) (Known : ℕ → Type 0) (is : IsLoop before on done trip trip' Known)
      (ends : (n : ℕ) → Known n → (s u : Store) → on (suc n) s u → after s u)
      (line line' : ℕ) (f f' : Act) (body : (n : ℕ) → Known n → (i : ℕ) → 1 ≤ i → i ≤ n → Leads (on i) (done i) f f') where
    abbrev One : Store → Store → ℤ → ℤ → Type 0
    One s u a y = (a ≡ pos 1) × (y ≡ pos 1)

    abbrev Trips : Store → Store → ℤ → ℤ → Type 0
    Trips s u z y = (z ≡ y) × ((n : ℕ) → trip_count (pos 1) z (pos 1) ≡ Ok n → Known n)

    all-turns : (n : ℕ) → n ≤ 2147483646 → Known n → Leads (on 1) after (repeated n (turn (sequential bits) None line x (pos 1) f)) (repeated n (turn (sequential bits) None line' x (pos 1) f'))
    all-turns n small known =
        let one : (1 + n) ≡ suc n = omega arith in
        Leads-to (on 1) (on (1 + n)) after _ _ (λ s u o. ends n known s u (subst (λ m. on m s u) one o))
        (Leads-turns on done is.turns line line' f f' n 1 (omega (arith, small)) (λ i p r. body n known i p (omega (arith, r))))

    counted : (z : ℤ) → ((n : ℕ) → trip_count (pos 1) z (pos 1) ≡ Ok n → Known n) → Leads (on 1) after
        (evaluates line (λ s. trip_count (pos 1) z (pos 1)) (λ n. repeated n (turn (sequential bits) None line x (pos 1) f)))
        (evaluates line' (λ s. trip_count (pos 1) z (pos 1)) (λ n. repeated n (turn (sequential bits) None line' x (pos 1) f')))
    counted z known = Leads-evaluates (on 1) after (λ s u n m. (n ≡ m) × (n ≤ 2147483646) × Known n) line line' _ _ _ _
        (λ s u o n e. record { answer = n; answered = e; related = (refl, trip-limit (pos 1) z (pos 1) n e, known n e) })
        (λ n m. record { at = λ s u i g h e. (subst (λ m. Leads (on 1) after (repeated n (turn (sequential bits) None line x (pos 1) f)) (repeated m (turn (sequential bits) None line' x (pos 1) f'))) h.1.0 (all-turns n h.1.1 h.1.2)).at s u i g h.0 e })

    entered : (z : ℤ) → ((n : ℕ) → trip_count (pos 1) z (pos 1) ≡ Ok n → Known n) → Leads before after
        (then (sets_variable (sequential bits) None line x (pos 1)) (evaluates line (λ s. trip_count (pos 1) z (pos 1)) (λ n. repeated n (turn (sequential bits) None line x (pos 1) f))))
        (then (sets_variable (sequential bits) None line' x (pos 1)) (evaluates line' (λ s. trip_count (pos 1) z (pos 1)) (λ n. repeated n (turn (sequential bits) None line' x (pos 1) f'))))
    entered z known = Leads-then before (on 1) after _ _ _ _
        (Leads-sets_variable bits x x before (on 1) line line' (pos 1) (pos 1) is.scalars (fit 1 (omega arith)).1 (λ s u a q. is.begins s u a))
        (Stays-evaluates line _ _) (counted z known)

    abbrev rest_of : ℕ → Act → ℤ → ℤ → ℤ → Act
    rest_of line f a b d = then (sets_variable (sequential bits) None line x a) (evaluates line (λ s. trip_count a b d) (λ n. repeated n (turn (sequential bits) None line x d f)))

    pub Leads-loops : Leads before after (loops (sequential bits) None line x (Number (pos 1)) trip (Number (pos 1)) f) (loops (sequential bits) None line' x (Number (pos 1)) trip' (Number (pos 1)) f')
    Leads-loops = Leads-evaluates before after One line line' _ _ _ _ (λ s u o a e. let one : pos 1 ≡ a = cc in record { answer = pos 1; answered = refl; related = (sym one, refl) })
        (λ a y. Leads-evaluates (Also before before One a y) after Trips line line' _ _ _ _
        (λ s u o z e. record { answer = z; answered = is.same s u o.0 z e; related = (refl, λ n g. is.turns_are s u o.0 z n e g) })
        (λ z w. Leads-evaluates (Also (Also before before One a y) (Also before before One a y) Trips z w) after One line line' _ _ _ _
        (λ s u o d e. let one : pos 1 ≡ d = cc in record { answer = pos 1; answered = refl; related = (sym one, refl) })
        (λ d v. record {
          at = λ s u n i o e.
              (subst (λ d. Leads before after (rest_of line f a z d) (rest_of line' f' y w v)) (sym o.1.0)
              (subst (λ v. Leads before after (rest_of line f a z (pos 1)) (rest_of line' f' y w v)) (sym o.1.1)
              (subst (λ a. Leads before after (rest_of line f a z (pos 1)) (rest_of line' f' y w (pos 1))) (sym o.0.0.1.0)
              (subst (λ y. Leads before after (rest_of line f (pos 1) z (pos 1)) (rest_of line' f' y w (pos 1))) (sym o.0.0.1.1)
              (subst (λ w. Leads before after (rest_of line f (pos 1) z (pos 1)) (rest_of line' f' (pos 1) w (pos 1))) o.0.1.0
              (entered z o.0.1.1)))))).at s u n i o.0.0.0 e;
        })))
