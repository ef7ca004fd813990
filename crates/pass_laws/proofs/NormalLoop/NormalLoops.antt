-- A loop runs as its normal form does.
use Rattle.std.proofs.Common.{◌≡◌, refl, sym, ap, ◌∙◌, subst, ℕ, suc, ◌+◌, ◌^◌, ◌<◌, ◌≤◌, ℤ, pos, ◌+ℤ◌, ◌-ℤ◌, ◌*ℤ◌, Bool, true, false, cond, ◌||◌, List, [], ◌∷◌, Result, Ok, Err, Some, None, arith}
use Rattle.std.specs.Prelude.{IsTrue, int_div}
use Rattle.std.specs.Str.{bytes_eq}
use Rattle.std.proofs.lemmas.Bool.Decides.{Decides-ltb}
use Rattle.std.proofs.lemmas.Int.{ints}
use Rattle.std.proofs.Math.Nat.{pow-le-pow_right}
use Rattle.tree.specs.Operators.{fits, as_number}
use Rattle.tree.specs.Steps.{◌>>=◌}
use Rattle.tree.specs.declared.ops.Fault.{Fault}
use Rattle.tree.specs.declared.ops.Fault.TheVariants.{Overflow}
use Rattle.tree.specs.declared.ops.Value.TheVariants.{Int}
use Rattle.tree.specs.Plain.{Expression}
use Rattle.meaning.specs.Names.{is_among}
use Rattle.meaning.specs.Run.{State, Going, does}
use Rattle.meaning.specs.Store.{Store, Cell}
use Rattle.meaning.specs.Value.{exact, as_count, trip_count, is_in_range, number_of, increment_of}
use Rattle.rewrite.specs.Following.{sequential, IsSound, MomentsAlike}
use Rattle.rewrite.specs.Suits.{SuitsBlock}
use Rattle.rewrite.specs.Replacing.{Replacing, is_own, replacing, replacing_suits}
use Rattle.rewrite.proofs.Acts.{Answers}
use Rattle.rewrite.proofs.Values.{parted}
use Rattle.rewrite.proofs.Replacing.{either_false}
use Rattle.linear_forms.specs.Linear.{is_limited, weighted, number_at}
use Rattle.linear_forms.proofs.Faultless.{linear_has_value}
use Rattle.pass_laws.specs.normal_loop.NormalLoop.{NormalForm, form, counted, given_loop, normal_loop, IsOther, IsNormalFormIn, GoesOn, Ended, NormalLoopRuns, FirstValueIsForm}
use Rattle.pass_laws.proofs.NormalLoop.Turns.{Led, Leads, alone}
use Rattle.pass_laws.proofs.NormalLoop.Loops.{SameTrip}
use Rattle.pass_laws.proofs.NormalLoop.OneLoop.{IsCounter, On, Starts, Ends, loop_is_normalised}
use Rattle.pass_laws.proofs.NormalLoop.Counted as linear
use Rattle.pass_laws.proofs.NormalLoop.Trips.{same_trip}

-- ---- sizes

exact-fits : (z y : ℤ) → exact z ≡ Ok y → fits 127 z ≡ true
exact-fits z y h = by (fits 127 z) refl h
  where
    by : (b : Bool) → fits 127 z ≡ b → ◌≡◌ {A = Result ℤ Fault} (cond b (Ok z) (Err Overflow)) (Ok y) → fits 127 z ≡ true
    by true e g = e
    by false e g = cc

exact-same : (z y : ℤ) → exact z ≡ Ok y → z ≡ y
exact-same z y h = by (fits 127 z) h
  where
    by : (b : Bool) → ◌≡◌ {A = Result ℤ Fault} (cond b (Ok z) (Err Overflow)) (Ok y) → z ≡ y
    by true e = cc
    by false e = cc

trip-fits : (a b d : ℤ) (n : ℕ) → trip_count a b d ≡ Ok n → fits 127 (int_div ((b -ℤ a) +ℤ d) d) ≡ true
trip-fits a b d n h =
    let p = parted (exact (b -ℤ a)) (λ x. do y ← exact (x +ℤ d); q ← exact (int_div y d); as_count q) n h in
    let q = parted (exact (p.part +ℤ d)) (λ y. do q ← exact (int_div y d); as_count q) n p.second in
    let r = parted (exact (int_div q.part d)) (λ q. as_count q) n q.second in
    let one = exact-same (b -ℤ a) p.part p.first in
    let two = exact-same (p.part +ℤ d) q.part q.first in
    ap (λ z. fits 127 (int_div (z +ℤ d) d)) one ∙ (ap (λ z. fits 127 (int_div z d)) two ∙ exact-fits (int_div q.part d) r.part r.first)

power : (m n : ℕ) → m ≤ n → 2 ^ m ≤ 2 ^ n
power m n h = let two : 0 < 2 = omega arith in pow-le-pow_right two h

wide-enough : (bits : ℕ) → 31 ≤ bits → (k : ℕ) → k ≤ 2147483647 → (fits 127 (pos k) ≡ true) × (is_in_range bits (Int (pos k)) ≡ true)
wide-enough bits low k h = (
  (Decides-ltb k (2 ^ 127)).1 (omega (arith, h)),
  (Decides-ltb k (2 ^ bits)).1 (let p = power 31 bits low in omega (arith, h, p)),
)

narrow-enough : (bits : ℕ) → bits ≤ 63 → (m : ℕ) → is_in_range bits (Int (pos m)) ≡ true → m ≤ 2 ^ 63
narrow-enough bits high m h = let p = power bits 63 high in let l = (Decides-ltb m (2 ^ bits)).0 h in omega (arith, p, l)

module _ (l : NormalForm) (bits : ℕ) (low : 31 ≤ bits) (high : bits ≤ 63) (loops : ℕ) (few : loops ≤ 7) (limited : is_limited loops (form l) ≡ true) (apart : is_among l.others l.counter ≡ false)
    (suits : SuitsBlock (replacing (counted l)) (replacing_suits (counted l)) l.body) (goes_on : GoesOn l bits)
    (s t : Store) (xs : List ℤ) (normal : IsNormalFormIn l bits s t xs) where
  abbrev frame : ℤ → Store → Store → Type 0
  frame = linear.Frame bits l.variable l.counter l.others l.increment l.coefficients l.constant

  abbrev value : ℤ → ℕ → ℤ
  value = linear.value bits l.variable l.counter l.others l.increment l.coefficients l.constant

  counter : IsCounter bits (counted l) l.counter l.increment value frame
  counter = linear.linear_form_counts bits l.variable l.counter l.others l.increment l.coefficients l.constant apart loops few limited (narrow-enough bits high)

  abbrev Here : Store → Store → Type 0
  Here p u = (p ≡ s) × (u ≡ t)

  abbrev Known : ℤ → ℤ → Type 0
  Known a b = (number_of (sequential bits) l.first s ≡ Ok a) × (number_of (sequential bits) l.last s ≡ Ok b)

  abbrev Start : Store → Store → Type 0
  Start = Starts bits (counted l) l.first frame Here

  others : (x : List ℕ) → is_own (counted l) x ≡ false → IsOther l x
  others x h = either_false (bytes_eq x l.variable) (bytes_eq x l.counter) h

  own : (x : List ℕ) → IsOther l x → is_own (counted l) x ≡ false
  own x h = ap (λ b. b || bytes_eq x l.counter) h.0 ∙ h.1

  starts : Start s t
  starts = record {
    at = (refl, refl);
    bounds = λ x h. normal.agree.bounds x (others x h);
    held = λ c h. normal.agree.held c (others c.name h);
    scalar = normal.variable;
    kept = λ a e. record { numbers = xs; values = normal.numbers; sized = normal.sized; first = normal.first a e; variable = normal.variable; counter = normal.counter };
  }

  trip : (p u : Store) → Start p u → (a b : ℤ) → number_of (sequential bits) l.first p ≡ Ok a → number_of (sequential bits) l.last p ≡ Ok b
      → Answers Start (SameTrip bits l.variable l.counter l.first l.last l.step l.trip l.increment Known a) (number_of (sequential bits) l.trip u) b
  trip p u k a b e f =
      let first = sym (ap (number_of (sequential bits) l.first) k.at.0) ∙ e in
      let last = sym (ap (number_of (sequential bits) l.last) k.at.0) ∙ f in
      let many = normal.trip a b first last in
      record {
        answer = int_div ((b -ℤ a) +ℤ l.increment) l.increment;
        answered = ap (number_of (sequential bits) l.trip) k.at.1 ∙ many.0;
        related = (λ n h. same_trip a b l.increment n (trip-fits a b l.increment n h) many.1 h, (first, last));
      }

  abbrev After : Store → Store → Type 0
  After = Ends bits (counted l) l.counter l.increment value frame counter Known

  leads : (line beside : ℕ) → Leads Start After (does (sequential bits) None (given_loop l line)) (does (sequential bits) None (normal_loop l beside))
  leads line beside = loop_is_normalised bits (counted l) l.counter l.increment value frame counter l.first l.last l.step l.trip l.body Here Known trip
      (λ p u k z e. normal.step z (sym (ap (increment_of (sequential bits) l.step) k.at.0) ∙ e))
      (λ p u k. ap (λ (u : Store). u.bounds l.counter) k.at.1 ∙ normal.counter)
      suits goes_on (wide-enough bits low) line beside

  back : (p a d : ℤ) → (p +ℤ (a -ℤ d)) +ℤ d ≡ p +ℤ a
  back p a d = omega (arith, ints)

  last_value : (a : ℤ) (n : ℕ) → value a (1 + n) ≡ l.increment *ℤ pos n +ℤ a
  last_value a n =
      let same : 1 + n ≡ suc n = omega arith in
      ap (value a) same ∙ (sym (counter.later a n) ∙ back (l.increment *ℤ pos n) a l.increment)

  ended : (p q : State) → Led After p q → Ended l bits s p q
  ended p q led =
      let e = led.stores in
      record {
        agree = record { bounds = λ x h. e.on.bounds x (own x h); held = λ c h. e.on.held c (own c.name h) };
        written = sym (ap (λ (r : State). r.written) led.rest);
        input = sym (ap (λ (r : State). r.input) led.rest);
        had_value = sym (ap (λ (r : State). r.had_value) led.rest);
        going = (led.going, ap (λ (r : State). r.way) led.rest ∙ led.going);
        first = e.first;
        last = e.last;
        turns = e.turns;
        first_is = e.known.0;
        last_is = e.known.1;
        turns_are = e.count;
        variable = e.on.variable ∙ ap Int (last_value e.first e.turns);
        counter = e.on.counter;
      }

pub normal_loop_runs : NormalLoopRuns
normal_loop_runs l bits loops line beside low high few limited apart suits goes_on s t xs going alike sound =
    let same : ◌≡◌ {A = State} (record s { store = t.store; steps = t.steps }) t
    = (λ i. record { store = t.store; written = alike.written i; input = alike.input i; had_value = alike.had_value i; steps = t.steps; way = alike.way i }) in
    subst (λ (r : State). Ended l bits s.store (does (sequential bits) None (given_loop l line) s) (does (sequential bits) None (normal_loop l beside) r)) same
    (ended l bits low high loops few limited apart suits goes_on s.store t.store xs alike.store _ _
    ((leads l bits low high loops few limited apart suits goes_on s.store t.store xs alike.store line beside).at s t.store t.steps going
    (starts l bits low high loops few limited apart suits goes_on s.store t.store xs alike.store) sound))

-- ---- what is asked of the first value

pub first_value_is_form : FirstValueIsForm
first_value_is_form bits loops symbols e f s xs a d h values sized n =
    let is = linear_has_value (sequential bits) loops symbols e f s xs h values sized in
    let number : ◌≡◌ {A = Result ℤ Fault} (Ok (number_at f xs)) (Ok a) = sym (ap (λ r. do v ← r; as_number v) is) ∙ n in
    let same : number_at f xs ≡ a = cc in
    ap (λ k. weighted f.coefficients xs +ℤ k) (whole f.constant d) ∙ same
  where
    whole : (k d : ℤ) → (k -ℤ d) +ℤ d ≡ k
    whole k d = omega (arith, ints)
