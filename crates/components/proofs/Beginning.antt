-- Nothing is met yet.
use Rattle.std.proofs.Common.{◌≡◌, refl, sym, ap, ◌∙◌, subst, ℕ, zero, suc, ◌+◌, ◌≤◌, List, [], length, replicate, arith}
use Rattle.std.proofs.lemmas.List.{length-replicate}
use Rattle.components.specs.declared.walk.NodeState.{NodeState}
use Rattle.components.specs.declared.walk.NodeState.TheVariants.{New}
use Rattle.components.specs.Walking.{mark, IsWalk, weight}
use Rattle.components.proofs.Weights.{new_at, new_done}

new_in : (n v : ℕ) → mark (replicate n New) v ≡ New
new_in zero v = refl
new_in (suc n) zero = refl
new_in (suc n) (suc v) = new_in n v

pub weight_new : (n : ℕ) → weight (λ v. 1) (replicate n New) ≡ n
weight_new zero = refl
weight_new (suc n) = let h = weight_new n in omega arith

pub beginning : (n : ℕ) (pairs : List (ℕ × ℕ)) → IsWalk n pairs [] (replicate n New) [] [] [] 0
beginning n pairs = record {
  size = length-replicate n New;
  placed = λ i h. absurd (omega arith);
  on_path = λ v i e. absurd (new_at i (sym (new_in n v) ∙ e));
  numbered = λ v c e. absurd (new_done c (sym (new_in n v) ∙ e));
  met = λ c h. absurd (omega arith);
  together = λ a b c e f. absurd (new_done c (sym (new_in n a) ∙ e));
  closed = λ a b c p e. absurd (new_done c (sym (new_in n a) ∙ e));
  onward = λ i j h k. absurd (omega arith);
  joined = λ i j h k none. absurd (omega arith);
  rising = tt;
  inside = λ b i. absurd i;
  first = λ h. absurd (omega arith);
  sources = λ k h. absurd (omega arith);
  gone = λ i x h p. absurd (omega arith);
  ahead = λ i x h j. absurd j;
}

pub begun : (n : ℕ) (pairs : List (ℕ × ℕ)) (marks : List NodeState) (path work : List ℕ) (starts : List (ℕ × ℕ))
    → marks ≡ replicate n New → path ≡ [] → work ≡ [] → starts ≡ []
    → IsWalk n pairs [] marks path work starts 0 × (weight (λ v. 1) marks + length path + 0 ≤ n)
begun n pairs marks path work starts m p w s = (
  subst (λ z. IsWalk n pairs [] z path work starts 0) (sym m) (subst (λ z. IsWalk n pairs [] (replicate n New) z work starts 0) (sym p)
      (subst (λ z. IsWalk n pairs [] (replicate n New) [] z starts 0) (sym w) (subst (λ z. IsWalk n pairs [] (replicate n New) [] [] z 0) (sym s) (beginning n pairs)))),
  let a : weight (λ v. 1) marks ≡ n = ap (weight (λ v. 1)) m ∙ weight_new n in let b : length path ≡ 0 = ap length p in omega arith,
)
