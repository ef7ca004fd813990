-- The IF on the trips: it runs its block where each loop turns; where one doesn't, it passes over it, and there is no
-- instance.
use Rattle.std.proofs.Common.{◌≡◌, refl, sym, ap, ◌∙◌, subst, ◌⊎◌, inl, inr, ℕ, zero, suc, ◌+◌, ◌≤◌, ◌==◌, ℤ, pos, negsuc, ◌+ℤ◌, ◌*ℤ◌, int_div, int_le, Bool, true, false, cond, ◌&&◌, List, [], ◌∷◌, ◌++◌, map, flat_map, length, Result, Ok, Option, None, arith, Contains}
use Rattle.std.specs.Ordering.{int_eq}
use Rattle.std.proofs.lemmas.Bool.{leb-true, le-leb, eqb-true}
use Rattle.std.proofs.lemmas.Bool.Decides.{Decides-int_eq}
use Rattle.std.proofs.Math.IntN.{zero-*ℤ, +ℤ_idl}
use mathlib.Core.Path.{ap₂}
use Rattle.tree.specs.Operators.{apply, as_truth}
use Rattle.tree.specs.Plain.{Expression, Number, Binary, Reference, Block, If, no_arms, arm, no_statements, statement}
use Rattle.tree.specs.Steps.{◌>>=◌}
use Rattle.tree.specs.declared.ops.Fault.{Fault}
use Rattle.tree.specs.declared.ops.Op.TheVariants.{And, Ge}
use Rattle.tree.specs.declared.ops.Value.{Value}
use Rattle.tree.specs.declared.ops.Value.TheVariants.{Int, Truth}
use Rattle.meaning.specs.ArrayValues.{counted}
use Rattle.tree.specs.declared.stmts.Mark.{Mark}
use Rattle.meaning.specs.Dialect.{Dialect}
use Rattle.meaning.specs.Run.{State, Going, does, does_all, either, answered, while_going, evaluates, counts_step}
use Rattle.meaning.specs.Sections.{not_negative}
use Rattle.meaning.specs.Store.{Store}
use Rattle.meaning.specs.Value.{value_of, truth_of}
use Rattle.meaning_laws.proofs.arrays.Members.{here, there, nowhere, cases_of}
use Rattle.linear_forms.specs.Linear.{weighted, number_at, not_zero, is_limited}
use Rattle.array_form.specs.forms.Forms.{form_trip_text}
use Rattle.array_form.specs.forms.Instances.{count_of, counts_of, in_sequence}
use Rattle.array_form.specs.forms.Laws.{Turns, AreKnown}
use Rattle.array_form.specs.forms.Loops.{FormLoop, FormSurroundings, form_names_of, is_positive_constant}
use Rattle.array_form.specs.forms.Trips.{trip_number}
use Rattle.array_form.specs.forms.Statements.{form_tests_of, and_all, guarded_by, loops_from, guarded_form, array_form_of}
use Rattle.array_form.proofs.forms.Bounds.{text_value}
use Rattle.linear_forms.proofs.Sizes.{both}

-- ---- tests

abbrev truths : List ℤ → List FormLoop → List Bool
truths xs [] = []
truths xs (l ∷ ls) = cond (is_positive_constant l.trip) (truths xs ls) (int_le (pos 1) (trip_number l.trip xs) ∷ truths xs ls)

abbrev AreTruths : Dialect → Store → List Expression → List Bool → Type 0
AreTruths d s [] [] = Unit {0}
AreTruths d s (e ∷ es) (b ∷ bs) = (value_of d e s ≡ Ok (Truth b)) × AreTruths d s es bs
AreTruths d s _ _ = ⊥

abbrev and_of : Bool → List Bool → Bool
and_of b [] = b
and_of b (c ∷ cs) = and_of (b && c) cs

joined_truth : (d : Dialect) (s : Store) (e : Expression) (b : Bool) (es : List Expression) (bs : List Bool) → value_of d e s ≡ Ok (Truth b) → AreTruths d s es bs → value_of d (and_all e es) s ≡ Ok (Truth (and_of b bs))
joined_truth d s e b [] [] h k = h
joined_truth d s e b (f ∷ es) (c ∷ cs) h k = joined_truth d s (Binary And e f) (b && c) es cs (ap₂ (λ (r q : Result Value Fault). do x ← r; y ← q; apply And x y) h k.0) k.1
joined_truth d s e b [] (c ∷ cs) h k = absurd k
joined_truth d s e b (f ∷ es) [] h k = absurd k

-- the trip of a loop has a value, whether it can be counted or not
abbrev pub HasText : FormSurroundings → FormLoop → Type 0
HasText a l = (is_limited (length a.loops) l.trip.form ≡ true) × (1 ≤ l.trip.divisor)

test_truths : (d : Dialect) (a : FormSurroundings) (s : Store) (xs : List ℤ) → AreKnown a s xs → (ls : List FormLoop) → ((l : FormLoop) → Contains ls l → HasText a l) → AreTruths d s (form_tests_of (form_names_of a) ls) (truths xs ls)
test_truths d a s xs k [] t = tt
test_truths d a s xs k (l ∷ ls) t = by (is_positive_constant l.trip) (test_truths d a s xs k ls (λ m c. t m (there l ls m c)))
  where
    by : (b : Bool) → AreTruths d s (form_tests_of (form_names_of a) ls) (truths xs ls)
        → AreTruths d s (cond b (form_tests_of (form_names_of a) ls) (Binary Ge (form_trip_text (form_names_of a) l.trip) (Number (pos 1)) ∷ form_tests_of (form_names_of a) ls)) (cond b (truths xs ls) (int_le (pos 1) (trip_number l.trip xs) ∷ truths xs ls))
    by true more = more
    by false more = (ap (λ (r : Result Value Fault). do x ← r; apply Ge x (Int (pos 1))) (text_value d a s xs k.few k.values k.sized l (t l (here l ls)).0 (t l (here l ls)).1), more)

-- ---- all of them are true

turns_once : (z : ℤ) → 1 ≤ not_negative z → int_le (pos 1) z ≡ true
turns_once (pos n) h = le-leb 1 n h
turns_once (negsuc n) h = absurd (omega (arith, h))

all_true : (xs : List ℤ) (ls : List FormLoop) → ((l : FormLoop) → Contains ls l → 1 ≤ count_of xs l) → and_of true (truths xs ls) ≡ true
all_true xs [] h = refl
all_true xs (l ∷ ls) h = by (is_positive_constant l.trip) (all_true xs ls (λ m c. h m (there l ls m c)))
  where
    by : (b : Bool) → and_of true (truths xs ls) ≡ true → and_of true (cond b (truths xs ls) (int_le (pos 1) (trip_number l.trip xs) ∷ truths xs ls)) ≡ true
    by true more = more
    by false more = ap (λ b. and_of b (truths xs ls)) (turns_once (trip_number l.trip xs) (h l (here l ls))) ∙ more

-- ---- one of them is false

no_turn : (z : ℤ) → not_negative z ≡ 0 → int_le (pos 1) z ≡ false
no_turn (pos zero) h = refl
no_turn (pos (suc n)) h = absurd (omega (arith, h))
no_turn (negsuc n) h = refl

pub all_nought : (cs xs : List ℤ) → not_zero cs ≡ 0 → weighted cs xs ≡ pos 0
all_nought [] xs h = refl
all_nought (c ∷ cs) [] h = refl
all_nought (c ∷ cs) (x ∷ xs) h = by (int_eq c (pos 0)) refl h (all_nought cs xs)
  where
    by : (b : Bool) → int_eq c (pos 0) ≡ b → cond b (not_zero cs) (suc (not_zero cs)) ≡ 0 → (not_zero cs ≡ 0 → weighted cs xs ≡ pos 0) → c *ℤ x +ℤ weighted cs xs ≡ pos 0
    by true e h more = ap₂ (λ p q. p +ℤ q) (ap (λ w. w *ℤ x) ((Decides-int_eq c (pos 0)).0 e) ∙ zero-*ℤ x) (more h)
    by false e h more = absurd (omega (arith, h))

constant_turns : (xs : List ℤ) (l : FormLoop) → is_positive_constant l.trip ≡ true → 1 ≤ count_of xs l
constant_turns xs l h =
    let one = both (l.trip.divisor == 1) ((not_zero l.trip.form.coefficients == 0) && int_le (pos 1) l.trip.form.constant) h in
    let two = both (not_zero l.trip.form.coefficients == 0) (int_le (pos 1) l.trip.form.constant) one.1 in
    let number : trip_number l.trip xs ≡ l.trip.form.constant =
    ap (λ b. cond b (number_at l.trip.form xs) (int_div (number_at l.trip.form xs) (pos l.trip.divisor))) one.0
    ∙ (ap (λ w. w +ℤ l.trip.form.constant) (all_nought l.trip.form.coefficients xs (eqb-true (not_zero l.trip.form.coefficients) 0 two.0)) ∙ +ℤ_idl l.trip.form.constant) in
    subst (λ z. 1 ≤ not_negative z) (sym number) (least l.trip.form.constant two.1)
  where
    least : (z : ℤ) → int_le (pos 1) z ≡ true → 1 ≤ not_negative z
    least (pos n) h = leb-true 1 n h
    least (negsuc n) h = absurd cc

false_stays : (bs : List Bool) → and_of false bs ≡ false
false_stays [] = refl
false_stays (b ∷ bs) = false_stays bs

has_false : (xs : List ℤ) (ls : List FormLoop) (l : FormLoop) → Contains ls l → count_of xs l ≡ 0 → Contains (truths xs ls) false
has_false xs [] l c h = absurd (nowhere l c)
has_false xs (m ∷ ls) l c h = by (is_positive_constant m.trip) refl (cases_of m ls l c) (λ g. has_false xs ls l g h)
  where
    by : (b : Bool) → is_positive_constant m.trip ≡ b → (m ≡ l) ⊎ Contains ls l → (Contains ls l → Contains (truths xs ls) false) → Contains (cond b (truths xs ls) (int_le (pos 1) (trip_number m.trip xs) ∷ truths xs ls)) false
    by true e (inl q) more = let turns = constant_turns xs m e in let none : count_of xs m ≡ 0 = ap (count_of xs) q ∙ h in absurd (omega (arith, turns, none))
    by true e (inr g) more = more g
    by false e (inl q) more = subst (λ b. Contains (b ∷ truths xs ls) false) (sym (no_turn (trip_number m.trip xs) (ap (count_of xs) q ∙ h))) (here false (truths xs ls))
    by false e (inr g) more = there (int_le (pos 1) (trip_number m.trip xs)) (truths xs ls) false (more g)

all_false : (b : Bool) (bs : List Bool) → Contains (b ∷ bs) false → and_of b bs ≡ false
all_false b [] c = by (cases_of b [] false c)
  where
    by : (b ≡ false) ⊎ Contains [] false → b ≡ false
    by (inl e) = e
    by (inr k) = absurd (nowhere false k)
all_false b (x ∷ bs) c = by (cases_of b (x ∷ bs) false c) (λ p. all_false (b && x) bs p)
  where
    second : (b : Bool) → (b && false) ≡ false
    second true = refl
    second false = refl

    by : (b ≡ false) ⊎ Contains (x ∷ bs) false → (Contains ((b && x) ∷ bs) false → and_of (b && x) bs ≡ false) → and_of (b && x) bs ≡ false
    by (inl e) more = ap (λ c. and_of (c && x) bs) e ∙ false_stays bs
    by (inr k) more = more (of (cases_of x bs false k))
      where
        of : (x ≡ false) ⊎ Contains bs false → Contains ((b && x) ∷ bs) false
        of (inl e) = subst (λ c. Contains (c ∷ bs) false) (sym (ap (λ y. b && y) e ∙ second b)) (here false bs)
        of (inr g) = there (b && x) bs false g

-- ---- the IF

abbrev pub ready : State → State
ready s = record s { way = Going }

pub taken : (d : Dialect) (line : ℕ) (test : Expression) (body : Block) (s : State) → truth_of d test s.store ≡ Ok true
    → does d None (If line (arm test body no_arms) no_statements) (ready s) ≡ does_all d None body (ready (record s { steps = s.steps + 1 }))
unfolding counts_step while_going evaluates
taken d line test body s h = ap (λ r. answered line r (λ b. either b (does_all d None body) (does_all d None no_statements)) (record s { steps = s.steps + 1; way = Going })) h

run_by : (d : Dialect) (line : ℕ) (tests : List Expression) (bs : List Bool) (body : Block) (s : State) → AreTruths d s.store tests bs → and_of true bs ≡ true
    → (n : ℕ) × (does_all d None (guarded_by line tests body) (ready s) ≡ does_all d None body (ready (record s { steps = n })))
run_by d line [] [] body s h c = (s.steps, refl)
run_by d line [] (b ∷ bs) body s h c = absurd h
run_by d line (e ∷ es) [] body s h c = absurd h
run_by d line (e ∷ es) (b ∷ bs) body s h c =
    (s.steps + 1, taken d line (and_all e es) body s (ap (λ (r : Result Value Fault). do x ← r; as_truth x) (joined_truth d s.store e b es bs h.0 h.1) ∙ ap Ok c))

pub block_done : (d : Dialect) (a : FormSurroundings) (line : ℕ) (body : Block) (s : State) (xs : List ℤ) → AreKnown a s.store xs → (ls : List FormLoop) → ((l : FormLoop) → Contains ls l → Turns a xs l)
    → (n : ℕ) × (does_all d None (guarded_by line (form_tests_of (form_names_of a) ls) body) (ready s) ≡ does_all d None body (ready (record s { steps = n })))
block_done d a line body s xs k ls t = run_by d line (form_tests_of (form_names_of a) ls) (truths xs ls) body s (test_truths d a s.store xs k ls (λ l c. let h = (t l c).trip in (h.limits, h.divisor))) (all_true xs ls (λ l c. (t l c).least))

pub passed : (d : Dialect) (line : ℕ) (test : Expression) (body : Block) (s : State) → truth_of d test s.store ≡ Ok false
    → does d None (If line (arm test body no_arms) no_statements) (ready s) ≡ ready (record s { steps = s.steps + 1 })
unfolding counts_step while_going evaluates
passed d line test body s h = ap (λ r. answered line r (λ b. either b (does_all d None body) (does_all d None no_statements)) (record s { steps = s.steps + 1; way = Going })) h

passed_over : (d : Dialect) (line : ℕ) (tests : List Expression) (bs : List Bool) (body : Block) (s : State) → AreTruths d s.store tests bs → Contains bs false
    → (n : ℕ) × (does_all d None (guarded_by line tests body) (ready s) ≡ ready (record s { steps = n }))
passed_over d line [] [] body s h c = absurd (nowhere false c)
passed_over d line [] (b ∷ bs) body s h c = absurd h
passed_over d line (e ∷ es) [] body s h c = absurd h
passed_over d line (e ∷ es) (b ∷ bs) body s h c =
    (s.steps + 1, passed d line (and_all e es) body s (ap (λ (r : Result Value Fault). do x ← r; as_truth x) (joined_truth d s.store e b es bs h.0 h.1) ∙ ap Ok (all_false b bs c)))

pub nothing_done : (d : Dialect) (a : FormSurroundings) (line : ℕ) (body : Block) (s : State) (xs : List ℤ) → AreKnown a s.store xs → (ls : List FormLoop) → ((l : FormLoop) → Contains ls l → HasText a l) → (l : FormLoop) → Contains ls l → count_of xs l ≡ 0
    → (n : ℕ) × (does_all d None (guarded_by line (form_tests_of (form_names_of a) ls) body) (ready s) ≡ ready (record s { steps = n }))
nothing_done d a line body s xs k ls t l c h = passed_over d line (form_tests_of (form_names_of a) ls) (truths xs ls) body s (test_truths d a s.store xs k ls t) (has_false xs ls l c h)

-- where a loop doesn't turn, an array form stores nothing, whether the other trips can be counted or not
pub form_passes : (d : Dialect) (a : FormSurroundings) (k line : ℕ) (mark : Option Mark) (guard : Option Expression) (left : Reference) (right : Expression) (s : State) (xs : List ℤ) → s.way ≡ Going → AreKnown a s.store xs
    → ((l : FormLoop) → Contains (loops_from a k) l → HasText a l) → (l : FormLoop) → Contains (loops_from a k) l → count_of xs l ≡ 0
    → (n : ℕ) × (does_all d None (array_form_of a k line mark guard left right) s ≡ record s { steps = n })
form_passes d a k line mark guard left right s xs going known texts l c none =
    let r = nothing_done d a line (statement (guarded_form a k line mark guard left right) no_statements) s xs known (loops_from a k) texts l c none in
    (r.0, subst (λ (v : State). does_all d None (array_form_of a k line mark guard left right) v ≡ record v { steps = r.0 }) (λ i. let v : State = record s { way = sym going i } in v) r.1)

-- ---- and there is no instance

nothing_flat : {A B : Type 0} (f : A → List B) (ys : List A) → ((y : A) → f y ≡ []) → flat_map f ys ≡ []
nothing_flat f [] h = refl
nothing_flat f (y ∷ ys) h = ap₂ (λ as' bs. as' ++ bs) (h y) (nothing_flat f ys h)

pub no_sequence : (xs : List ℤ) (ls : List FormLoop) (l : FormLoop) → Contains ls l → count_of xs l ≡ 0 → in_sequence (counts_of xs ls) ≡ []
no_sequence xs [] l c h = absurd (nowhere l c)
no_sequence xs (m ∷ ls) l c h = by (cases_of m ls l c) (λ g. no_sequence xs ls l g h)
  where
    by : (m ≡ l) ⊎ Contains ls l → (Contains ls l → in_sequence (counts_of xs ls) ≡ []) → in_sequence (count_of xs m ∷ counts_of xs ls) ≡ []
    by (inl e) more = ap (λ n. in_sequence (n ∷ counts_of xs ls)) (ap (count_of xs) e ∙ h)
    by (inr g) more = nothing_flat (λ i. map (λ is. i ∷ is) (in_sequence (counts_of xs ls))) (counted 1 (count_of xs m)) (λ i. ap (λ iss. map (λ is. i ∷ is) iss) (more g))

-- either all turn, or one doesn't
pub all_or_one : (xs : List ℤ) (ls : List FormLoop) → ((l : FormLoop) → Contains ls l → 1 ≤ count_of xs l) ⊎ ((l : FormLoop) × Contains ls l × (count_of xs l ≡ 0))
all_or_one xs [] = inl (λ l c. absurd (nowhere l c))
all_or_one xs (m ∷ ls) = by (count_of xs m) refl (all_or_one xs ls)
  where
    by : (n : ℕ) → count_of xs m ≡ n → ((l : FormLoop) → Contains ls l → 1 ≤ count_of xs l) ⊎ ((l : FormLoop) × Contains ls l × (count_of xs l ≡ 0)) → ((l : FormLoop) → Contains (m ∷ ls) l → 1 ≤ count_of xs l) ⊎ ((l : FormLoop) × Contains (m ∷ ls) l × (count_of xs l ≡ 0))
    by zero e more = inr (m, here m ls, e)
    by (suc n) e (inr r) = inr (r.0, there m ls r.0 r.1, r.2)
    by (suc n) e (inl f) = inl (λ l c. of l (cases_of m ls l c))
      where
        of : (l : FormLoop) → (m ≡ l) ⊎ Contains ls l → 1 ≤ count_of xs l
        of l (inl q) = subst (λ (i : FormLoop). 1 ≤ count_of xs i) q (omega (arith, e))
        of l (inr g) = f l g
