-- What a function gives at arguments that are numbers.
use Rattle.std.proofs.Common.{◌≡◌, refl, sym, ap, ◌∙◌, suc, zero, ◌≤◌, ◌<◌, ◌^◌, ℤ, pos, negsuc, neg_ℤ, ◌+ℤ◌, ◌-ℤ◌, ◌*ℤ◌, Bool, true, false, cond, List, [], ◌∷◌, length, get_or, map, Option, Some, None, Result, Ok, Err, arith}
use Rattle.std.specs.Prelude.{FitsSigned, MatchOption, nat_abs, unsigned_abs, int_lt, int_div, int_rem}
use Rattle.std.specs.Option.{SomeIff}
use Rattle.std.specs.Int.{w128, int_max, int_min}
use Rattle.std.specs.List.{All, fold}
use Rattle.std.specs.Ordering.{int_eq}
use Rattle.std.proofs.lemmas.Int.{ints, quot-rem}
use Rattle.std.proofs.lemmas.Bool.{false_from_ne_true}
use Rattle.std.proofs.lemmas.Bool.Decides.{Decides-int_eq}
use Rattle.tree.specs.Steps.{◌>>=◌}
use Rattle.tree.specs.Operators.{number, ranged, remainder, exact_call, call}
use Rattle.tree.specs.OperationFaults.{number_in, IsNumber}
use Rattle.tree.specs.declared.functions.Fun.{Fun}
use Rattle.tree.specs.declared.functions.Fun.TheVariants.{Abs, Mod, Max, Min}
use Rattle.tree.specs.declared.ops.Value.{Value}
use Rattle.tree.specs.declared.ops.Value.TheVariants.{Int}
use Rattle.tree.specs.declared.ops.Fault.{Fault}
use Rattle.tree.specs.declared.ops.Fault.TheVariants.{Overflow, ZeroDivide}
use Rattle.tree.proofs.Exact.{number-fits, number-checked}
use Rattle.tree.proofs.Laws.{exact_of_values-numbers}

-- ---- remainders

difference : (a p r : ℤ) → p +ℤ r ≡ a → a -ℤ p ≡ r
difference a p r e = omega (arith, ints)

unfoldable remainder_by : Bool → ℤ → ℤ → ℤ → Result Value Fault
remainder_by zero_divisor q a b = ranged ((let d : Result ℤ Fault = cond zero_divisor (Err ZeroDivide) (Ok q) in d) >>= (λ z. Ok (a -ℤ (z *ℤ b))))

pub remainder-zero : (a b : ℤ) → b ≡ pos 0 → ranged (remainder a b) ≡ Err ZeroDivide
unfolding remainder_by
remainder-zero a b e = ap (λ (t : Bool). remainder_by t (int_div a b) a b) ((Decides-int_eq b (pos 0)).1 e)

pub remainder-other : (a b : ℤ) → (b ≡ pos 0 → ⊥) → FitsSigned w128 (int_rem a b) → ranged (remainder a b) ≡ Ok (Int (int_rem a b))
unfolding remainder_by
remainder-other a b h f =
    let other : int_eq b (pos 0) ≡ false = false_from_ne_true (int_eq b (pos 0)) (λ e. h ((Decides-int_eq b (pos 0)).0 e)) in
    ap (λ (t : Bool). remainder_by t (int_div a b) a b) other ∙ ap (λ (z : ℤ). number z) (difference a (int_div a b *ℤ b) (int_rem a b) (quot-rem a b)) ∙ number-fits (int_rem a b) f

-- ---- absolute values

abs-fits : (a : ℤ) → FitsSigned w128 a → FitsSigned w128 (neg_ℤ a) → FitsSigned w128 (pos (nat_abs a))
abs-fits (pos n) h k = h
abs-fits (negsuc n) h k = k

abs-unfit : (a : ℤ) → FitsSigned w128 (pos (nat_abs a)) → FitsSigned w128 (neg_ℤ a)
abs-unfit (pos zero) h = h
abs-unfit (pos (suc n)) h = let k : suc n < 2 ^ 127 = h.sfits in record { sfits = omega arith }
abs-unfit (negsuc n) h = h

moved : (P Q : Type 0) (o : Option ℤ) (z : ℤ) → (P → Q) → (Q → P) → SomeIff o P z → SomeIff o Q z
moved P Q None z f g h = λ q. h (g q)
moved P Q (Some v) z f g h = (f h.0, h.1)

pub abs-checked : (a : ℤ) (o : Option ℤ) (r : Result Value Fault) → FitsSigned w128 a → SomeIff o (FitsSigned w128 (neg_ℤ a)) (pos (unsigned_abs a)) → MatchOption o (r ≡ Err Overflow) (λ v. r ≡ Ok (Int v)) → r ≡ number (pos (nat_abs a))
abs-checked a o r f h e = number-checked (pos (nat_abs a)) o r (moved (FitsSigned w128 (neg_ℤ a)) (FitsSigned w128 (pos (nat_abs a))) o (pos (nat_abs a)) (abs-fits a f) (abs-unfit a) h) e

-- ---- calls

numbers_call : (f : Fun) (vs : List Value) → All IsNumber vs → call f vs ≡ ranged (exact_call f (map number_in vs))
numbers_call f vs h = ap ranged (exact_of_values-numbers f vs h)

pub call-Abs : (vs : List Value) (d : Value) (a : ℤ) → length vs ≡ 1 → All IsNumber vs → a ≡ number_in (get_or vs 0 d) → call Abs vs ≡ number (pos (nat_abs a))
call-Abs [] d a n h e = absurd (omega arith)
call-Abs (v ∷ []) d a n h e = numbers_call Abs (v ∷ []) h ∙ ap (λ (z : ℤ). number (pos (nat_abs z))) (sym e)
call-Abs (v ∷ w ∷ more) d a n h e = absurd (omega arith)

pub call-Mod : (vs : List Value) (d : Value) (a b : ℤ) → length vs ≡ 2 → All IsNumber vs → a ≡ number_in (get_or vs 0 d) → b ≡ number_in (get_or vs 1 d) → call Mod vs ≡ ranged (remainder a b)
call-Mod [] d a b n h e f = absurd (omega arith)
call-Mod (v ∷ []) d a b n h e f = absurd (omega arith)
call-Mod (v ∷ w ∷ []) d a b n h e f =
    numbers_call Mod (v ∷ w ∷ []) h ∙ ap (λ (z : ℤ). ranged (remainder z (number_in w))) (sym e) ∙ ap (λ (z : ℤ). ranged (remainder a z)) (sym f)
call-Mod (v ∷ w ∷ x ∷ more) d a b n h e f = absurd (omega arith)

fold-map : (f : ℤ → ℤ → ℤ) (a : ℤ) (vs : List Value) → fold (λ best v. f best (number_in v)) a vs ≡ fold f a (map number_in vs)
fold-map f a [] = refl
fold-map f a (v ∷ vs) = fold-map f (f a (number_in v)) vs

int_max-same : (a : ℤ) → int_max a a ≡ a
int_max-same a = elim (int_lt a a) as (λ b. cond b a a ≡ a) [ true ↦ refl | false ↦ refl ]

int_min-same : (a : ℤ) → int_min a a ≡ a
int_min-same a = elim (int_lt a a) as (λ b. cond b a a ≡ a) [ true ↦ refl | false ↦ refl ]

pub call-Max : (vs : List Value) (d : Value) (a r : ℤ) → 2 ≤ length vs → All IsNumber vs → a ≡ number_in (get_or vs 0 d) → r ≡ fold (λ best v. int_max best (number_in v)) a vs → FitsSigned w128 r → call Max vs ≡ Ok (Int r)
call-Max [] d a r n h e k f = absurd (omega arith)
call-Max (v ∷ []) d a r n h e k f = absurd (omega arith)
call-Max (v ∷ w ∷ more) d a r n h e k f =
    let rest = map number_in (w ∷ more) in
    let value : r ≡ fold int_max (number_in v) rest =
    k ∙ fold-map int_max a (v ∷ w ∷ more) ∙ ap (λ (z : ℤ). fold int_max (int_max z (number_in v)) rest) e ∙ ap (λ (z : ℤ). fold int_max z rest) (int_max-same (number_in v)) in
    numbers_call Max (v ∷ w ∷ more) h ∙ ap (λ (z : ℤ). number z) (sym value) ∙ number-fits r f

pub call-Min : (vs : List Value) (d : Value) (a r : ℤ) → 2 ≤ length vs → All IsNumber vs → a ≡ number_in (get_or vs 0 d) → r ≡ fold (λ best v. int_min best (number_in v)) a vs → FitsSigned w128 r → call Min vs ≡ Ok (Int r)
call-Min [] d a r n h e k f = absurd (omega arith)
call-Min (v ∷ []) d a r n h e k f = absurd (omega arith)
call-Min (v ∷ w ∷ more) d a r n h e k f =
    let rest = map number_in (w ∷ more) in
    let value : r ≡ fold int_min (number_in v) rest =
    k ∙ fold-map int_min a (v ∷ w ∷ more) ∙ ap (λ (z : ℤ). fold int_min (int_min z (number_in v)) rest) e ∙ ap (λ (z : ℤ). fold int_min z rest) (int_min-same (number_in v)) in
    numbers_call Min (v ∷ w ∷ more) h ∙ ap (λ (z : ℤ). number z) (sym value) ∙ number-fits r f

pub ruleset absolutes = (abs-checked)

pub ruleset remainders = (remainder-zero, remainder-other)

pub ruleset calls = (call-Abs, call-Mod, call-Max, call-Min)
