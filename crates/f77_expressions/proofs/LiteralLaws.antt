-- A literal's value, digit by digit.
use Rattle.std.proofs.Common.{arith, ◌≡◌, ◌≤◌, ◌^◌, ℕ, ◌+◌, ◌-◌, ◌*◌, pos, Bool, true, false, IsTrue, List, [], ◌∷◌, refl, ap, ◌∙◌}
use Rattle.std.specs.Prelude.{Option, Some, None, nat_lt}
use Rattle.std.proofs.lemmas.Bool.{cond_both, ltb-true, ltb-false, lt-ltb, le-ltb}
use Rattle.f77_grammar.specs.expressions.Squeezing.{Symbol77, Char}
use Rattle.f77_grammar.specs.expressions.Spelling.{value, Stops77}
use Rattle.reading.specs.Characters.{is_digit}
use Rattle.f77_grammar.specs.expressions.Words.{Number, Wide}
use Rattle.f77_expressions.specs.Fronts.{narrow}
use Rattle.f77_expressions.specs.Literals.{value_after, IsSoFar, with_digit}
use Rattle.f77_expressions.specs.Lexing.{Run, run_of, longer, literal}

grows : (n : ℕ) (cs : List ℕ) → n ≤ value_after n cs
grows n [] = omega arith
grows n (c ∷ cs) = omega (arith, grows (10 * n + (c - 48)) cs)

run_digit : (p : ℕ → Bool) (c : ℕ) (ss : List Symbol77) → IsTrue (p c) → run_of p (Char c ∷ ss) ≡ longer c (run_of p ss)
run_digit p c ss h = rw h refl

pub run_step : (p : ℕ → Bool) (rest : List Symbol77) (c : ℕ) (ss : List Symbol77) → rest ≡ Char c ∷ ss → IsTrue (p c) → run_of p rest ≡ longer c (run_of p ss)
run_step p rest c ss e h = ap (run_of p) e ∙ run_digit p c ss h

pub run_stop : (p : ℕ → Bool) (rest : List Symbol77) → Stops77 p rest → run_of p rest ≡ record { front = []; rest = rest }
run_stop p [] h = refl
run_stop p (Char c ∷ ss) h = rw h refl
run_stop p (s ∷ ss) h = refl

kept : (text : List Symbol77) (ss : List Symbol77) (m : ℕ) → value (run_of is_digit text).front ≡ value_after m (run_of is_digit ss).front → IsSoFar (narrow m) text ss
kept text ss m e =
    cond_both (nat_lt m (2 ^ 127)) (Some m) None (λ v. IsSoFar v text ss)
    (λ h. (ltb-true _ _ h, e))
    (λ h. let k : 2 ^ 127 ≤ m = ltb-false _ _ h in omega (arith, grows m (run_of is_digit ss).front))

pub so_far_more : (v : Option ℕ) (text rest ss : List Symbol77) (c : ℕ) → rest ≡ Char c ∷ ss → IsTrue (is_digit c) → IsSoFar v text rest → IsSoFar (with_digit v c) text ss
so_far_more None text rest ss c e d h = h
so_far_more (Some n) text rest ss c e d h =
    kept text ss (10 * n + (c - 48)) (h.1 ∙ ap (λ (r : Run). value_after n r.front) (run_step is_digit rest c ss e d))

pub so_far_some : (n : ℕ) (text rest : List Symbol77) → Stops77 is_digit rest → IsSoFar (Some n) text rest → (run_of is_digit text).rest ≡ (run_of is_digit rest).rest
    → literal (run_of is_digit text) ≡ Some (record { word = Number (pos n); rest = rest })
so_far_some n text rest s h r =
    let q = run_stop is_digit rest s in
    let e : value (run_of is_digit text).front ≡ n = h.1 ∙ ap (λ (x : Run). value_after n x.front) q in
    let k : nat_lt (value (run_of is_digit text).front) (2 ^ 127) ≡ true = lt-ltb _ _ (omega (arith, h.0)) in
    let z : (run_of is_digit text).rest ≡ rest = r ∙ ap (λ (x : Run). x.rest) q in
    rw (k, e, z) refl

pub so_far_none : (text rest : List Symbol77) → Stops77 is_digit rest → IsSoFar None text rest → (run_of is_digit text).rest ≡ (run_of is_digit rest).rest
    → literal (run_of is_digit text) ≡ Some (record { word = Wide; rest = rest })
so_far_none text rest s h r =
    let q = run_stop is_digit rest s in
    let k : nat_lt (value (run_of is_digit text).front) (2 ^ 127) ≡ false = le-ltb _ _ h in
    let z : (run_of is_digit text).rest ≡ rest = r ∙ ap (λ (x : Run). x.rest) q in
    rw (k, z) refl

-- one more digit leaves what follows them
pub rest_more : (p : ℕ → Bool) (text rest ss : List Symbol77) (c : ℕ) → rest ≡ Char c ∷ ss → IsTrue (p c) → (run_of p text).rest ≡ (run_of p rest).rest → (run_of p text).rest ≡ (run_of p ss).rest
rest_more p text rest ss c e h r = r ∙ ap (λ (x : Run). x.rest) (run_step p rest c ss e h)

pub ruleset literals = (so_far_more, so_far_some, so_far_none, rest_more)
