use Rattle.std.proofs.Common.{◌≡◌, ℕ, ◌<◌, ◌≤◌, ◌+◌, arith, subst, sym, inl, inr}
use Rattle.std.proofs.lemmas.Bool.{cases_lt}
use Rattle.direction_vectors.specs.vector_tests.Words.{IfKept}
use Rattle.direction_vectors.specs.Boxes.{HasRoom, IsFree}
use Rattle.direction_vectors.proofs.splitting.next_place.Goals as goal

same_place : (m n : ℕ) → n ≤ m → m < n + 1 → n ≡ m
same_place m n a b = omega (arith)

pub loop-place-preserved : goal.loop-place-preserved
loop-place-preserved c =
    let r = c.args.refs.now in
    let n = c.loop-place.place in
    let with_one : (P : ℕ → Type 0) → ((m : ℕ) → c.args.from ≤ m → m < n → P m) → P n → (m : ℕ) → c.args.from ≤ m → m < n + 1 → P m =
    λ P before there m a b. elim (cases_lt m n) [ inl l ↦ before m a l | inr g ↦ subst P (same_place m n g b) there ] in
    record {
      rooms = with_one (HasRoom r) c.loop-place.invariant.rooms (c.hangs_on.ensures.room c.if-hangs_on.false);
      free = with_one (λ m. IfKept c.args.verdict.now (λ w. IsFree r m)) c.loop-place.invariant.free (c.hangs_on.ensures.free c.if-hangs_on.false);
    }
