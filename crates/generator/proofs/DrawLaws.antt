-- Draws one after the other.
use Rattle.std.proofs.Common.{◌≡◌, ℕ, zero, suc, ◌+◌, ◌*◌, refl, ap, ◌∙◌, arith}
use Rattle.generator.specs.Draws.{next_state, state_after}

pub five_more : (x : ℕ) → state_after 5 (state_after 5 x) ≡ state_after 10 x
unfolding state_after
five_more x = refl

-- j draws and then k draws
pub state_after-add : (j k x : ℕ) → state_after k (state_after j x) ≡ state_after (j + k) x
unfolding state_after
state_after-add zero k x =
    let e : k ≡ 0 + k = omega arith in
    ap (λ (n : ℕ). state_after n x) e
state_after-add (suc j) k x =
    let e : suc (j + k) ≡ suc j + k = omega arith in
    state_after-add j k (next_state x) ∙ ap (λ (n : ℕ). state_after n x) e

-- the state before the next nest
pub ten_more : (q n : ℕ) → state_after 10 (state_after (10 * q) n) ≡ state_after (10 * (q + 1)) n
ten_more q n =
    let e : 10 * q + 10 ≡ 10 * (q + 1) = omega arith in
    state_after-add (10 * q) 10 n ∙ ap (λ (k : ℕ). state_after k n) e
