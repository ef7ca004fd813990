-- A pairing into which iterations have been put.
use Rattle.std.specs.Prelude.{◌≡◌, ℕ, ℤ, List, All, ◌+ℤ◌, ◌-ℤ◌, ◌*ℤ◌, ◌≤◌, ◌^◌, slice_set, unsigned_abs}
use Rattle.subscripts.specs.Classes.{at_place}
use Rattle.subscripts.specs.Forms.{difference}
use Rattle.subscripts.specs.declared.pairing.Pairing.{Pairing}
use Rattle.dependence_tests.specs.gcd_banerjee.Extremes.{difference_with}
use Rattle.dependence_tests.specs.delta_test.Kept.{AreKept}
use Rattle.dependence_tests.specs.declared.delta_test.constraints.Constraints.{Constraints}
use Rattle.dependence_tests.specs.declared.delta_test.put.Reduced.{Reduced}
use Rattle.dependence_tests.specs.declared.delta_test.put.Term.{Term}

-- what a term is worth
abbrev pub term_value : Term → ℤ → ℤ → ℤ
term_value t i j = (t.first *ℤ i -ℤ t.second *ℤ j) +ℤ t.constant

-- where the constraints are kept, what the loops in a place with these coefficients add is worth the term
abbrev pub IsTermAt : Constraints → ℕ → ℤ → ℤ → Term → Type 0
IsTermAt c k a b t =
    (x y : List ℤ) → AreKept c x y
    → a *ℤ at_place x k -ℤ b *ℤ at_place y k ≡ term_value t (at_place x k) (at_place y k)

-- the first side less the second, at some iterations
abbrev pub reduced_difference : Reduced → (ℕ → ℤ) → List ℤ → List ℤ → ℤ
reduced_difference r v x y = difference_with r.pairing r.constant v x y

-- with these coefficients in a place, and so much more
abbrev pub with_term : Reduced → ℕ → Term → Reduced
with_term r k t =
    record {
      pairing = record r.pairing {
        from = record r.pairing.from { loops = slice_set r.pairing.from.loops k t.first };
        to = record r.pairing.to { loops = slice_set r.pairing.to.loops k t.second };
      };
      constant = r.constant +ℤ t.constant;
    }

-- all but the coefficients of the loops
pub record IsAlike (p q : Pairing) : Type 0 where
  pub known : q.known ≡ p.known
  pub common : q.common ≡ p.common
  pub from_spans : q.from_spans ≡ p.from_spans
  pub to_spans : q.to_spans ≡ p.to_spans
  pub from_symbols : q.from.syms ≡ p.from.syms
  pub to_symbols : q.to.syms ≡ p.to.syms

-- numbers of the size that putting makes
pub record IsSized (r : Reduced) : Type 0 where
  pub first : All (λ a. unsigned_abs a ≤ 2 ^ 41) r.pairing.from.loops
  pub second : All (λ b. unsigned_abs b ≤ 2 ^ 41) r.pairing.to.loops
  pub constant : unsigned_abs r.constant ≤ 2 ^ 100

-- where the constraints are kept, its sides differ as those of the pairing do
pub record IsReducedTo (c : Constraints) (p : Pairing) (r : Reduced) : Type 0 where
  pub alike : IsAlike p r.pairing
  pub sized : IsSized r
  pub same : (v : ℕ → ℤ) (x y : List ℤ) → AreKept c x y → difference p v x y ≡ reduced_difference r v x y
