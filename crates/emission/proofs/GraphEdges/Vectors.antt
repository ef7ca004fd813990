-- Direction vectors: the level of the first `<`.
use Rattle.std.proofs.Common.{◌≡◌, ℕ, zero, suc, ◌+◌, ◌<◌, ◌≤◌, List, [], ◌∷◌, ◌++◌, length, get_or, replicate, refl, ap, ◌∙◌, arith}
use Rattle.subscripts.specs.declared.affine.Dir.{Dir}
use Rattle.subscripts.specs.declared.affine.Dir.TheVariants.{Lt, Eq, Gt, Any}
use Rattle.dependence_graph.specs.nest_graph.Arcs.{level_from}
use Rattle.dependence_graph.specs.nest_graph.Vectors.{MayComeFirst}
use Rattle.dependence_graph.proofs.nest_graph.Filled.{filled}

-- ---- the level

pub led_level : (k j : ℕ) (ds : List Dir) → ((m : ℕ) → m < j → get_or ds m Any ≡ Eq) → get_or ds j Any ≡ Lt → level_from k ds ≡ suc (k + j)
led_level k j [] before less = cc
led_level k zero (d ∷ ds) before less = ap (λ z. level_from k (z ∷ ds)) less ∙ (let e : suc k ≡ suc (k + 0) = omega arith in e)
led_level k (suc j) (d ∷ ds) before less =
    ap (λ z. level_from k (z ∷ ds)) (before 0 (omega arith))
    ∙ (led_level (suc k) j ds (λ m h. before (suc m) (omega arith)) less ∙ (let e : suc (suc k + j) ≡ suc (k + suc j) = omega arith in e))

pub equal_level : (k m : ℕ) (ds : List Dir) → ((i : ℕ) → i < m → get_or ds i Any ≡ Eq) → ((i : ℕ) → m ≤ i → get_or ds i Any ≡ Any) → level_from k ds ≡ 0
equal_level k m [] within past = refl
equal_level k zero (d ∷ ds) within past = ap (λ z. level_from k (z ∷ ds)) (past 0 (omega arith))
equal_level k (suc m) (d ∷ ds) within past =
    ap (λ z. level_from k (z ∷ ds)) (within 0 (omega arith))
    ∙ equal_level (suc k) m ds (λ i h. within (suc i) (omega arith)) (λ i h. past (suc i) (omega arith))

-- ---- a vector that stands for candidates alone

any_level : (k m : ℕ) → level_from k (replicate m Any) ≡ 0
any_level k zero = refl
any_level k (suc m) = refl

-- its level is that of a loop round both, or 0 where the first statement stands before the second
pub level_within : (s t k m : ℕ) (ds : List Dir) → MayComeFirst s t (filled ds)
    → (level_from k (ds ++ replicate m Any) ≤ k + length ds) × (level_from k (ds ++ replicate m Any) ≡ 0 → s < t)
level_within s t k m [] h = let e = any_level k m in (omega arith, λ z. h)
level_within s t k m (Lt ∷ ds) h = (omega arith, λ z. absurd (omega arith))
level_within s t k m (Eq ∷ ds) h = let r = level_within s t (suc k) m ds h in let l = r.0 in (omega arith, r.1)
level_within s t k m (Gt ∷ ds) h = absurd h
level_within s t k m (Any ∷ ds) h = absurd h
