-- What fits 128 bits.
use Rattle.std.proofs.Common.{◌≡◌, ◌∙◌, ap, sym, refl, ℤ, pos, negsuc, Bool, true, false, ◌^◌, Result, Ok, Err, Option, Some, None, cond, Decides}
use Rattle.std.specs.Prelude.{FitsSigned, MatchOption}
use Rattle.std.specs.Option.{SomeIff}
use Rattle.std.specs.Int.{w128}
use Rattle.std.proofs.lemmas.Bool.{false_from_ne_true}
use Rattle.std.proofs.lemmas.Bool.Decides.{Decides-ltb}
use Rattle.tree.specs.Operators.{fits, number}
use Rattle.tree.specs.declared.ops.Value.{Value}
use Rattle.tree.specs.declared.ops.Value.TheVariants.{Int}
use Rattle.tree.specs.declared.ops.Fault.{Fault}
use Rattle.tree.specs.declared.ops.Fault.TheVariants.{Overflow}

pub fits-Decides : (z : ℤ) → Decides (fits 127 z) (FitsSigned w128 z)
fits-Decides (pos n) = (λ e. record { sfits = (Decides-ltb n (2 ^ 127)).0 e }, λ h. (Decides-ltb n (2 ^ 127)).1 h.sfits)
fits-Decides (negsuc n) = (λ e. record { sfits = (Decides-ltb n (2 ^ 127)).0 e }, λ h. (Decides-ltb n (2 ^ 127)).1 h.sfits)

chosen : {A : Type 0} (b : Bool) (x y : A) → b ≡ true → cond b x y ≡ x
chosen b x y e = rw e refl

spurned : {A : Type 0} (b : Bool) (x y : A) → b ≡ false → cond b x y ≡ y
spurned b x y e = rw e refl

pub number-fits : (z : ℤ) → FitsSigned w128 z → number z ≡ Ok (Int z)
number-fits z h = chosen (fits 127 z) (Ok (Int z)) (Err Overflow) ((fits-Decides z).1 h)

pub number-overflows : (z : ℤ) → ¬ FitsSigned w128 z → number z ≡ Err Overflow
number-overflows z h = spurned (fits 127 z) (Ok (Int z)) (Err Overflow) (false_from_ne_true (fits 127 z) (λ e. h ((fits-Decides z).0 e)))

-- what a checked operation gives, as a value
pub number-checked : (z : ℤ) (o : Option ℤ) (r : Result Value Fault) → SomeIff o (FitsSigned w128 z) z → MatchOption o (r ≡ Err Overflow) (λ v. r ≡ Ok (Int v)) → r ≡ number z
number-checked z None r h e = e ∙ sym (number-overflows z h)
number-checked z (Some v) r h e = e ∙ ap (λ (x : ℤ). let answer : Result Value Fault = Ok (Int x) in answer) h.1 ∙ sym (number-fits z h.0)

pub ruleset exact = (number-fits, number-overflows, number-checked)
