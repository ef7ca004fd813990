-- Two steps that gave an answer.
use Rattle.std.proofs.Common.{◌≡◌, refl, ap, ◌∙◌, Result, Ok, Err}
use Rattle.tree.specs.Steps.{◌>>=◌}
use Rattle.tree.specs.declared.ops.Fault.{Fault}

pub record Parted {A B : Type 0} (r : Result A Fault) (f : A → Result B Fault) (y : B) : Type 0 where
  pub part : A
  pub first : r ≡ Ok part
  pub second : f part ≡ Ok y

pub parted : {A B : Type 0} (r : Result A Fault) (f : A → Result B Fault) (y : B) → ◌>>=◌ r f ≡ Ok y → Parted r f y
parted (Ok x) f y e = record { part = x; first = refl; second = e }
parted (Err g) f y e = cc

pub joined : {A B : Type 0} (r : Result A Fault) (f : A → Result B Fault) (x : A) (y : B) → r ≡ Ok x → f x ≡ Ok y → ◌>>=◌ r f ≡ Ok y
joined r f x y e g = ap (λ q. ◌>>=◌ q f) e ∙ g
