-- A loop, and the loop from 1 by 1 that stands for it.
use Rattle.std.proofs.Common.{◌≡◌, refl, sym, subst, ℕ, ◌+◌, ℤ, pos, negsuc, ◌+ℤ◌, ◌-ℤ◌, ◌≤◌, Bool, true, false, cond, List, [], Result, Ok, Err, Some, None, arith}
use Rattle.std.specs.Prelude.{nat_le, int_div}
use Rattle.std.proofs.lemmas.Bool.{leb-true}
use Rattle.tree.specs.Operators.{fits}
use Rattle.tree.specs.Steps.{◌>>=◌}
use Rattle.tree.specs.declared.ops.Fault.{Fault}
use Rattle.tree.specs.declared.ops.Fault.TheVariants.{TripCount}
use Rattle.tree.specs.declared.ops.Value.TheVariants.{Int}
use Rattle.tree.specs.Plain.{Expression, Number}
use Rattle.meaning.specs.Store.{Store, put}
use Rattle.meaning.specs.Value.{is_in_range, exact, as_count, trip_count, number_of, increment_of}
use Rattle.meaning.specs.Run.{Act, then, repeated, evaluates, sets_variable, turn, loops}
use Rattle.rewrite.specs.Following.{sequential}
use Rattle.rewrite.proofs.Acts.{Stays-evaluates, Answers, Also}
use Rattle.rewrite.proofs.Values.{parted}
use Rattle.pass_laws.proofs.NormalLoop.Turns.{Leads, Leads-then, Leads-evaluates, Leads-sets_variable, alone, Counts, Leads-turns}

-- a count is within its limit
count-limit : (z : ℤ) (n : ℕ) → as_count z ≡ Ok n → n ≤ 2147483646
count-limit (pos k) n h = by (nat_le k 2147483646) refl h
  where
    by : (b : Bool) → nat_le k 2147483646 ≡ b → ◌≡◌ {A = Result ℕ Fault} (cond b (Ok k) (Err TripCount)) (Ok n) → n ≤ 2147483646
    by true e g = let same : k ≡ n = cc in subst (λ n. n ≤ 2147483646) same (leb-true k 2147483646 e)
    by false e g = cc
count-limit (negsuc k) n h = let same : 0 ≡ n = cc in subst (λ n. n ≤ 2147483646) same (omega arith)

trip-limit : (a b d : ℤ) (n : ℕ) → trip_count a b d ≡ Ok n → n ≤ 2147483646
trip-limit a b d n h =
    let p = parted (exact (b -ℤ a)) (λ x. do y ← exact (x +ℤ d); q ← exact (int_div y d); as_count q) n h in
    let q = parted (exact (p.part +ℤ d)) (λ y. do q ← exact (int_div y d); as_count q) n p.second in
    let r = parted (exact (int_div q.part d)) (λ q. as_count q) n q.second in
    count-limit r.part n r.second

module _ (bits : ℕ) (v w : List ℕ) (first last third many : Expression) (d : ℤ) (Known : ℤ → ℤ → Type 0) where
  -- t turns from 1 by 1 are as many as those of the loop from a to b, of which something is known
  abbrev pub SameTrip : ℤ → ℤ → ℤ → Type 0
  SameTrip a b t = ((n : ℕ) → trip_count a b d ≡ Ok n → trip_count (pos 1) t (pos 1) ≡ Ok n) × Known a b

  -- start: before the loops; on a m: where turn m begins, the first value being a; ended: after them
  pub record IsNormalised (start ended : Store → Store → Type 0) (value : ℤ → ℕ → ℤ) (on : ℤ → ℕ → Store → Store → Type 0) : Type 0 where
    pub trip : (s u : Store) → start s u → (a b : ℤ) → number_of (sequential bits) first s ≡ Ok a → number_of (sequential bits) last s ≡ Ok b → Answers start (SameTrip a) (number_of (sequential bits) many u) b
    pub step : (s u : Store) → start s u → (z : ℤ) → increment_of (sequential bits) third s ≡ Ok z → z ≡ d
    pub scalars : (s u : Store) → start s u → (s.bounds v ≡ Some []) × (u.bounds w ≡ Some [])
    pub begins : (s u : Store) → start s u → (a : ℤ) → number_of (sequential bits) first s ≡ Ok a → is_in_range bits (Int a) ≡ true → on a 1 (put (alone bits v) (Int a) s) (put (alone bits w) (Int (pos 1)) u)
    pub counts : (a : ℤ) → Counts bits v w d (value a) (on a)
    pub ends : (a b : ℤ) (n : ℕ) → Known a b → trip_count a b d ≡ Ok n → (s u : Store) → on a (1 + n) s u → ended s u

  module _ (start ended : Store → Store → Type 0) (value : ℤ → ℕ → ℤ) (on : ℤ → ℕ → Store → Store → Type 0) (normal : IsNormalised start ended value on)
      (fit : (k : ℕ) → k ≤ 2147483647 → (fits 127 (pos k) ≡ true) × (is_in_range bits (Int (pos k)) ≡ true))
      (line line' : ℕ) (f f' : Act) (body : (a : ℤ) (m : ℕ) → Leads (on a m) (on a m) f f') where
    abbrev First : Store → Store → ℤ → ℤ → Type 0
    First s u a y = (number_of (sequential bits) first s ≡ Ok a) × (y ≡ pos 1)

    abbrev Last : ℤ → Store → Store → ℤ → ℤ → Type 0
    Last a s u b t = SameTrip a b t

    abbrev Step : Store → Store → ℤ → ℤ → Type 0
    Step s u z y = (z ≡ d) × (y ≡ pos 1)

    abbrev Count : ℤ → ℤ → Store → Store → ℕ → ℕ → Type 0
    Count a b s u n k = (n ≡ k) × (n ≤ 2147483646) × (trip_count a b d ≡ Ok n)

    weaken : (before more after : Store → Store → Type 0) (g g' : Act) → ((s u : Store) → more s u → before s u) → Leads before after g g' → Leads more after g g'
    weaken before more after g g' less h = record { at = λ s u n i a e. h.at s u n i (less s.store u a) e }

    finish : (before after other : Store → Store → Type 0) (g g' : Act) → ((s u : Store) → after s u → other s u) → Leads before after g g' → Leads before other g g'
    finish before after other g g' less h = record { at = λ s u n i a e. let l = h.at s u n i a e in record { stores = less (g s).store _ l.stores; rest = l.rest; going = l.going } }

    all-turns : (a b : ℤ) (n : ℕ) → n ≤ 2147483646 → Known a b → trip_count a b d ≡ Ok n → Leads (on a 1) ended (repeated n (turn (sequential bits) None line v d f)) (repeated n (turn (sequential bits) None line' w (pos 1) f'))
    all-turns a b n small known is = finish (on a 1) (on a (1 + n)) ended _ _ (normal.ends a b n known is)
        (Leads-turns bits v w d (value a) (on a) (normal.counts a) line line' f f' (body a) n 1 (λ k q. fit k (omega (arith, q, small))))

    counted : (a b t : ℤ) → SameTrip a b t → Leads (on a 1) ended
        (evaluates line (λ s. trip_count a b d) (λ n. repeated n (turn (sequential bits) None line v d f)))
        (evaluates line' (λ s. trip_count (pos 1) t (pos 1)) (λ n. repeated n (turn (sequential bits) None line' w (pos 1) f')))
    counted a b t same = Leads-evaluates (on a 1) ended (Count a b) line line' _ _ _ _
        (λ s u k n e. record { answer = n; answered = same.0 n e; related = (refl, trip-limit a b d n e, e) })
        (λ n k. record { at = λ s u i g h e. (subst (λ k. Leads (on a 1) ended (repeated n (turn (sequential bits) None line v d f)) (repeated k (turn (sequential bits) None line' w (pos 1) f'))) h.1.0 (all-turns a b n h.1.1 same.1 h.1.2)).at s u i g h.0 e })

    -- from the first value on
    entered : (a b t : ℤ) → SameTrip a b t → Leads (λ s u. start s u × (number_of (sequential bits) first s ≡ Ok a)) ended
        (then (sets_variable (sequential bits) None line v a) (evaluates line (λ s. trip_count a b d) (λ n. repeated n (turn (sequential bits) None line v d f))))
        (then (sets_variable (sequential bits) None line' w (pos 1)) (evaluates line' (λ s. trip_count (pos 1) t (pos 1)) (λ n. repeated n (turn (sequential bits) None line' w (pos 1) f'))))
    entered a b t same = Leads-then (λ s u. start s u × (number_of (sequential bits) first s ≡ Ok a)) (on a 1) ended _ _ _ _
        (Leads-sets_variable bits v w (λ s u. start s u × (number_of (sequential bits) first s ≡ Ok a)) (on a 1) line line' a (pos 1) (λ s u k. normal.scalars s u k.0) (fit 1 (omega arith)).1 (λ s u k q. normal.begins s u k.0 a k.1 q))
        (Stays-evaluates line _ _) (counted a b t same)

    abbrev rest_of : ℤ → ℤ → ℤ → Act
    rest_of a b z = then (sets_variable (sequential bits) None line v a) (evaluates line (λ s. trip_count a b z) (λ n. repeated n (turn (sequential bits) None line v z f)))

    abbrev rest_of' : ℤ → ℤ → ℤ → Act
    rest_of' y t z = then (sets_variable (sequential bits) None line' w y) (evaluates line' (λ s. trip_count y t z) (λ n. repeated n (turn (sequential bits) None line' w z f')))

    pub Leads-loops : Leads start ended (loops (sequential bits) None line v first last third f) (loops (sequential bits) None line' w (Number (pos 1)) many (Number (pos 1)) f')
    Leads-loops = Leads-evaluates start ended First line line' _ _ _ _ (λ s u a z e. record { answer = pos 1; answered = refl; related = (e, refl) })
        (λ a y. Leads-evaluates (Also start start First a y) ended (Last a) line line' _ _ _ _
        (λ s u k b e. let got = normal.trip s u k.0 a b k.1.0 e in record { answer = got.answer; answered = got.answered; related = got.related })
        (λ b t. Leads-evaluates (Also (Also start start First a y) (Also start start First a y) (Last a) b t) ended Step line line' _ _ _ _
        (λ s u k z e. record { answer = pos 1; answered = refl; related = (normal.step s u k.0.0 z e, refl) })
        (λ z x. record {
          at = λ s u n i k e.
              (subst (λ z. Leads (λ s u. start s u × (number_of (sequential bits) first s ≡ Ok a)) ended (rest_of a b z) (rest_of' y t x)) (sym k.1.0)
              (subst (λ x. Leads (λ s u. start s u × (number_of (sequential bits) first s ≡ Ok a)) ended (rest_of a b d) (rest_of' y t x)) (sym k.1.1)
              (subst (λ y. Leads (λ s u. start s u × (number_of (sequential bits) first s ≡ Ok a)) ended (rest_of a b d) (rest_of' y t (pos 1))) (sym k.0.0.1.1)
              (entered a b t k.0.1)))).at s u n i (k.0.0.0, k.0.0.1.0) e;
        })))
