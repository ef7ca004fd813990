-- What fits 128 bits.
use Rattle.std.proofs.Common.{◌≡◌, ◌∙◌, ap, sym, ℤ, Bool, Result, Ok, Err, cond}
use Rattle.std.specs.Prelude.{FitsSigned, ◌-ℤ◌, ◌+ℤ◌, int_div}
use Rattle.std.specs.Int.{w128}
use Rattle.std.proofs.lemmas.Bool.{false_from_ne_true}
use Rattle.tree.specs.Steps.{◌>>=◌}
use Rattle.tree.specs.declared.ops.Fault.{Fault}
use Rattle.tree.specs.declared.ops.Fault.TheVariants.{Overflow}
use Rattle.tree.specs.Operators.{fits}
use Rattle.tree.proofs.Exact.{fits-Decides}
use Rattle.meaning.specs.Value.{exact, trip_count, as_count}

pub exact-fits : (z : ℤ) → FitsSigned w128 z → exact z ≡ Ok z
exact-fits z h = ap (λ (t : Bool). cond t (Ok z) (Err Overflow)) ((fits-Decides z).1 h)

pub exact-overflows : (z : ℤ) → ¬ FitsSigned w128 z → exact z ≡ Err Overflow
exact-overflows z h = ap (λ (t : Bool). cond t (Ok z) (Err Overflow)) (false_from_ne_true (fits 127 z) (λ e. h ((fits-Decides z).0 e)))

pub ruleset exact_laws = (exact-fits, exact-overflows)

pub trip_first : (m1 m2 m3 : ℤ) (f : Fault) → Err f ≡ exact (m2 -ℤ m1) → trip_count m1 m2 m3 ≡ Err f
trip_first m1 m2 m3 f e = ap (λ (r : Result ℤ Fault). do a ← r; b ← exact (a +ℤ m3); q ← exact (int_div b m3); as_count q) (sym e)

pub trip_second : (m1 m2 m3 a : ℤ) (f : Fault) → Ok a ≡ exact (m2 -ℤ m1) → Err f ≡ exact (a +ℤ m3) → trip_count m1 m2 m3 ≡ Err f
trip_second m1 m2 m3 a f e h = ap (λ (r : Result ℤ Fault). do a ← r; b ← exact (a +ℤ m3); q ← exact (int_div b m3); as_count q) (sym e)
    ∙ ap (λ (r : Result ℤ Fault). do b ← r; q ← exact (int_div b m3); as_count q) (sym h)

pub trip_third : (m1 m2 m3 a b : ℤ) (f : Fault) → Ok a ≡ exact (m2 -ℤ m1) → Ok b ≡ exact (a +ℤ m3) → Err f ≡ exact (int_div b m3) → trip_count m1 m2 m3 ≡ Err f
trip_third m1 m2 m3 a b f e h k = ap (λ (r : Result ℤ Fault). do a ← r; b ← exact (a +ℤ m3); q ← exact (int_div b m3); as_count q) (sym e)
    ∙ ap (λ (r : Result ℤ Fault). do b ← r; q ← exact (int_div b m3); as_count q) (sym h)
    ∙ ap (λ (r : Result ℤ Fault). do q ← r; as_count q) (sym k)

pub trip_done : (m1 m2 m3 a b q : ℤ) → Ok a ≡ exact (m2 -ℤ m1) → Ok b ≡ exact (a +ℤ m3) → Ok q ≡ exact (int_div b m3) → trip_count m1 m2 m3 ≡ as_count q
trip_done m1 m2 m3 a b q e h k = ap (λ (r : Result ℤ Fault). do a ← r; b ← exact (a +ℤ m3); q ← exact (int_div b m3); as_count q) (sym e)
    ∙ ap (λ (r : Result ℤ Fault). do b ← r; q ← exact (int_div b m3); as_count q) (sym h)
    ∙ ap (λ (r : Result ℤ Fault). do q ← r; as_count q) (sym k)

pub ruleset trip_laws = (trip_first, trip_second, trip_third, trip_done)
