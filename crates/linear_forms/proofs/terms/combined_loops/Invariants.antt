-- the coefficients so far are combined, and the others are 0
use Rattle.std.proofs.Common.{◌≡◌, ◌<◌, ◌+ℤ◌, ◌*ℤ◌, ℕ, pos, true, get_or, length}
use Rattle.linear_forms.specs.Linear.{is_small}
use Rattle.linear_forms.proofs.terms.combined_loops.Given as goal

abbrev pub invariant-loop-at : goal.invariant-loop-at
invariant-loop-at l =
    record {
      done : (j : ℕ) → j < l.at → (get_or l.loops j (pos 0) ≡ get_or l.f j (pos 0) +ℤ l.k *ℤ get_or l.g j (pos 0)) × (is_small (get_or l.loops j (pos 0)) ≡ true);
      len : length l.loops ≡ 7;
    }
