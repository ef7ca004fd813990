-- A loop with any increment, where the run goes on after it.
use mathlib.Core.Path.{ap₂}
use Rattle.std.proofs.Common.{◌≡◌, refl, sym, ap, ◌∙◌, subst, ℕ, zero, suc, ◌+◌, ◌≤◌, ℤ, pos, negsuc, ◌+ℤ◌, ◌-ℤ◌, ◌*ℤ◌}
use Rattle.std.proofs.Common.{neg_ℤ, Bool, true, false, cond, List, [], Result, Ok, Err, None, arith}
use Rattle.std.specs.Prelude.{int_div, nat_le, nat_abs}
use Rattle.std.specs.Ordering.{int_eq}
use Rattle.std.proofs.lemmas.Bool.{le-ltb, leb-true}
use Rattle.std.proofs.lemmas.Int.{ints}
use Rattle.std.proofs.Math.Nat.{zero-div}
use Rattle.tree.specs.Operators.{as_number, fits}
use Rattle.tree.specs.Steps as results
use Rattle.tree.specs.Plain.{Expression, Do, Block}
use Rattle.tree.specs.declared.ops.Value.TheVariants.{Int}
use Rattle.tree.specs.declared.ops.Fault.{Fault}
use Rattle.tree.specs.declared.ops.Fault.TheVariants.{Overflow, TripCount, ZeroStep}
use Rattle.meaning.specs.Store.{Store, Cell, put, cell_at}
use Rattle.meaning.specs.Value.{number_of, is_in_range, increment_of, exact, as_count, trip_count, numbered}
use Rattle.meaning.specs.Run.{State, Going, Act, does, does_all, then, repeated, evaluates, sets_variable, increases}
use Rattle.meaning.specs.Run.{turn}
use Rattle.nest_order.specs.runs.Guarded.{sequential}
use Rattle.nest_order.proofs.runs.Ending.{turns_to, answered_by, counted, set}
use Rattle.nest_order.proofs.runs.Results.{both_ok}
use Rattle.nest.specs.Blocks.{numeral}
use Rattle.last_values.specs.normal_forms.NormalLoops.{sign_of}

back : (s t : State) → s ≡ t → s.way ≡ Going → t.way ≡ Going
back s t e w = subst (λ (z : State). z.way ≡ Going) e w

exactly : (z n : ℤ) → exact z ≡ Ok n → n ≡ z
exactly z n e = by (fits 127 z) e
  where
    by : (b : Bool) → ◌≡◌ {A = Result ℤ Fault} (cond b (Ok z) (Err Overflow)) (Ok n) → n ≡ z
    by true e = cc
    by false e = cc

-- ---- an increment

not_zero : (z w : ℤ) → ◌≡◌ {A = Result ℤ Fault} (cond (int_eq z (pos 0)) (Err ZeroStep) (Ok z)) (Ok w) → w ≡ z
not_zero z w e = by (int_eq z (pos 0)) e
  where
    by : (b : Bool) → ◌≡◌ {A = Result ℤ Fault} (cond b (Err ZeroStep) (Ok z)) (Ok w) → w ≡ z
    by true e = cc
    by false e = cc

increment_is : (bits : ℕ) (z w : ℤ) (s : Store) → increment_of (sequential bits) (numeral z) s ≡ Ok w → w ≡ z
increment_is bits (pos n) w s e = not_zero (pos n) w e
increment_is bits (negsuc n) w s e = by (fits 127 (negsuc n)) e
  where
    by : (b : Bool) → ◌≡◌ {A = Result ℤ Fault} (results.◌>>=◌ (numbered (cond b (Ok (Int (negsuc n))) (Err Overflow))) (λ z. cond (int_eq z (pos 0)) (Err ZeroStep) (Ok z))) (Ok w) → w ≡ negsuc n
    by true e = not_zero (negsuc n) w e
    by false e = cc

-- ---- a trip

count_bounded : (z : ℤ) (n : ℕ) → as_count z ≡ Ok n → (n ≡ turns_to z) × (n ≤ 2147483646)
count_bounded (pos k) n e = by (nat_le k 2147483646) refl e
  where
    by : (b : Bool) → nat_le k 2147483646 ≡ b → ◌≡◌ {A = Result ℕ Fault} (cond b (Ok k) (Err TripCount)) (Ok n) → (n ≡ k) × (n ≤ 2147483646)
    by true f e = let g : n ≡ k = cc in (g, subst (λ m. m ≤ 2147483646) (sym g) (leb-true k 2147483646 f))
    by false f e = let no : ⊥ = cc in absurd no
count_bounded (negsuc k) n e = let g : n ≡ 0 = cc in (g, subst (λ m. m ≤ 2147483646) (sym g) (omega arith))

quotient_counts : (a b d : ℤ) (n : ℕ) → trip_count a b d ≡ Ok n → as_count (int_div ((b -ℤ a) +ℤ d) d) ≡ Ok n
quotient_counts a b d n h =
    let p = both_ok (exact (b -ℤ a)) (λ x. results.◌>>=◌ (exact (x +ℤ d)) (λ y. results.◌>>=◌ (exact (int_div y d)) as_count)) n h in
    let q = both_ok (exact (p.0 +ℤ d)) (λ y. results.◌>>=◌ (exact (int_div y d)) as_count) n p.2 in
    let r = both_ok (exact (int_div q.0 d)) as_count n q.2 in
    ap (λ z. as_count (int_div (z +ℤ d) d)) (sym (exactly (b -ℤ a) p.0 p.1))
    ∙ (ap (λ z. as_count (int_div z d)) (sym (exactly (p.0 +ℤ d) q.0 q.1)) ∙ (ap as_count (sym (exactly (int_div q.0 d) r.0 r.1)) ∙ r.2))

-- turned round, a quotient is the same
turned_round : (x : ℤ) (n : ℕ) → int_div (neg_ℤ x) (pos (suc n)) ≡ int_div x (negsuc n)
turned_round (pos zero) n = ap pos (zero-div (suc n)) ∙ ap (λ k. neg_ℤ (pos k)) (sym (zero-div (suc n)))
turned_round (pos (suc m)) n = refl
turned_round (negsuc m) n = refl

minus_one : (x : ℤ) → negsuc 0 *ℤ x ≡ neg_ℤ x
minus_one x = omega (arith, ints)

sign_up : (n : ℕ) → sign_of (pos n) ≡ pos 1
sign_up n = ap (λ b. cond b (negsuc 0) (pos 1)) (le-ltb n 0 (omega arith))

one_time : (x : ℤ) → pos 1 *ℤ x ≡ x
one_time x = omega (arith, ints)

signed : (x d : ℤ) → int_div (sign_of d *ℤ x) (pos (nat_abs d)) ≡ int_div x d
signed x (pos n) = ap (λ z. int_div (z *ℤ x) (pos n)) (sign_up n) ∙ ap (λ z. int_div z (pos n)) (one_time x)
signed x (negsuc n) = ap (λ z. int_div z (pos (suc n))) (minus_one x) ∙ turned_round x n

-- the trip of the form from 1 by 1 counts the turns
pub trip_counts : (a b d top : ℤ) (n : ℕ) → trip_count a b d ≡ Ok n → top ≡ int_div (sign_of d *ℤ ((b -ℤ a) +ℤ d)) (pos (nat_abs d)) → (n ≡ turns_to top) × (n ≤ 2147483646)
trip_counts a b d top n h e = count_bounded top n (ap as_count (e ∙ signed ((b -ℤ a) +ℤ d) d) ∙ quotient_counts a b d n h)

-- ---- a loop

pub record Looped (bits line : ℕ) (x : List ℕ) (first last : Expression) (d : ℤ) (body : Block) (s t : State) : Type 0 where
  pub lower : ℤ
  pub upper : ℤ
  pub turns : ℕ
  pub cell : Cell
  pub from : s.way ≡ Going
  pub first_is : number_of (sequential bits) first s.store ≡ Ok lower
  pub last_is : number_of (sequential bits) last s.store ≡ Ok upper
  pub place : cell_at x [] s.store ≡ Ok cell
  pub counts : trip_count lower upper d ≡ Ok turns
  pub range : is_in_range bits (Int lower) ≡ true
  pub is : t ≡ repeated turns (turn (sequential bits) None line x d (does_all (sequential bits) None body)) (record s { store = put cell (Int lower) s.store })

pub looped : (bits line : ℕ) (x : List ℕ) (first last : Expression) (d : ℤ) (body : Block) (s : State) → (does (sequential bits) None (Do line x first last (numeral d) body) s).way ≡ Going
    → Looped bits line x first last d body s (does (sequential bits) None (Do line x first last (numeral d) body) s)
looped bits line x first last d body s w =
    let all : Act = does (sequential bits) None (Do line x first last (numeral d) body) in
    let many : ℕ → Act = λ n. repeated n (turn (sequential bits) None line x d (does_all (sequential bits) None body)) in
    let k3 : ℤ → ℤ → ℤ → Act = λ m1 m2 m3. then (sets_variable (sequential bits) None line x m1) (evaluates line (λ s. trip_count m1 m2 m3) (λ n. repeated n (turn (sequential bits) None line x m3 (does_all (sequential bits) None body)))) in
    let k2 : ℤ → ℤ → Act = λ m1 m2. evaluates line (increment_of (sequential bits) (numeral d)) (k3 m1 m2) in
    let k1 : ℤ → Act = λ m1. evaluates line (number_of (sequential bits) last) (k2 m1) in
    let a = answered_by line (number_of (sequential bits) first) k1 s w in
    let w1 = back (all s) (k1 a.answer s) a.is w in
    let b = answered_by line (number_of (sequential bits) last) (k2 a.answer) s w1 in
    let w2 = back (k1 a.answer s) (k2 a.answer b.answer s) b.is w1 in
    let c = answered_by line (increment_of (sequential bits) (numeral d)) (k3 a.answer b.answer) s w2 in
    let e3 : k2 a.answer b.answer s ≡ k3 a.answer b.answer d s = c.is ∙ ap (λ m. k3 a.answer b.answer m s) (increment_is bits d c.answer s.store c.gave) in
    let w3 = back (k2 a.answer b.answer s) (k3 a.answer b.answer d s) e3 w2 in
    let s1 : State = sets_variable (sequential bits) None line x a.answer s in
    let f = answered_by line (λ s. trip_count a.answer b.answer d) many s1 w3 in
    let v = set bits line x a.answer s f.from in
    record {
      lower = a.answer;
      upper = b.answer;
      turns = f.answer;
      cell = v.cell;
      from = a.from;
      first_is = a.gave;
      last_is = b.gave;
      place = v.place;
      counts = f.gave;
      range = v.range;
      is = a.is ∙ (b.is ∙ (e3 ∙ (f.is ∙ ap (many f.answer) v.is)));
    }

pub record Turned (bits line : ℕ) (x : List ℕ) (d : ℤ) (body : Act) (s t : State) : Type 0 where
  pub cell : Cell
  pub number : ℤ
  pub from : s.way ≡ Going
  pub within : (body (record s { steps = s.steps + 1 })).way ≡ Going
  pub place : cell_at x [] (body (record s { steps = s.steps + 1 })).store ≡ Ok cell
  pub gives : as_number ((body (record s { steps = s.steps + 1 })).store.held cell) ≡ Ok number
  pub range : is_in_range bits (Int (number +ℤ d)) ≡ true
  pub is : t ≡ record (body (record s { steps = s.steps + 1 })) { store = put cell (Int (number +ℤ d)) (body (record s { steps = s.steps + 1 })).store }

pub turned : (bits line : ℕ) (x : List ℕ) (d : ℤ) (body : Act) (s : State) → (turn (sequential bits) None line x d body s).way ≡ Going → Turned bits line x d body s (turn (sequential bits) None line x d body s)
turned bits line x d body s w =
    let a = counted bits (then body (increases (sequential bits) None line x d)) s w in
    let s1 : State = record s { steps = s.steps + 1 } in
    let u : State = body s1 in
    let w1 = back (turn (sequential bits) None line x d body s) (increases (sequential bits) None line x d u) a.1 w in
    let k2 : ℤ → Act = λ z. sets_variable (sequential bits) None line x z in
    let more : Cell → Store → Result ℤ Fault = λ c s. results.◌>>=◌ (as_number (s.held c)) λ z. exact (z +ℤ d) in
    let k1 : Cell → Act = λ c. evaluates line (more c) k2 in
    let b = answered_by line (cell_at x []) k1 u w1 in
    let w2 = back (increases (sequential bits) None line x d u) (k1 b.answer u) b.is w1 in
    let c = answered_by line (more b.answer) k2 u w2 in
    let w3 = back (k1 b.answer u) (k2 c.answer u) c.is w2 in
    let f = set bits line x c.answer u w3 in
    let m = both_ok (as_number (u.store.held b.answer)) (λ z. exact (z +ℤ d)) c.answer c.gave in
    let sum : c.answer ≡ m.0 +ℤ d = exactly (m.0 +ℤ d) c.answer m.2 in
    let same : f.cell ≡ b.answer = same_cells (cell_at x [] u.store) f.cell b.answer f.place b.gave in
    record {
      cell = b.answer;
      number = m.0;
      from = a.0;
      within = b.from;
      place = b.gave;
      gives = m.1;
      range = ap (λ z. is_in_range bits (Int z)) (sym sum) ∙ f.range;
      is = a.1 ∙ (b.is ∙ (c.is ∙ (f.is ∙ ap₂ (λ (c : Cell) (z : ℤ). let t : State = record u { store = put c (Int z) u.store } in t) same sum)));
    }
  where
    same_cells : (r : Result Cell Fault) (c d : Cell) → r ≡ Ok c → r ≡ Ok d → c ≡ d
    same_cells r c d e f = cc

-- where a run goes on after some turns, it did before them
pub turns_from : (bits line k : ℕ) (x : List ℕ) (d : ℤ) (body : Act) (s : State) → (repeated k (turn (sequential bits) None line x d body) s).way ≡ Going → s.way ≡ Going
turns_from bits line zero x d body s go = go
turns_from bits line (suc k) x d body s go = (turned bits line x d body s (turns_from bits line k x d body (turn (sequential bits) None line x d body s) go)).from
