-- The statements that write a name, one after the other.
use Rattle.std.proofs.Common.{◌≡◌, ℕ, zero, suc, ◌+◌, ◌<◌, ◌≤◌, true, false, cond, Option, Some, None, List, [], ◌∷◌, drop, length, get_or, map, refl, sym, ap, ◌∙◌, subst, arith}
use Rattle.std.proofs.lemmas.List.{length-map, get_or-map}
use Rattle.std.proofs.Math.Seq.{drop-cons}
use Rattle.std.specs.Prelude.{is_some}
use Rattle.std.specs.Str.{bytes_eq}
use Rattle.nest.specs.Bodies as plain
use Rattle.nest.specs.declared.statement_loops.standings.Standing.{Standing}
use Rattle.nest.specs.statement_loops.Standings.{standing_of}
use Rattle.tree.specs.View.{reference_of}
use Rattle.tree.specs.declared.exprs.Ref.{Ref, out-Ref}
use Rattle.tree.proofs.Equations.{reference_of-is}
use Rattle.inductions.specs.Growing.{one_number, writes_scalar, writes_from}

-- the number that was found so far, and further ones
abbrev pub with_found : Option ℕ → List ℕ → List ℕ
with_found None ks = ks
with_found (Some k) ks = k ∷ ks

-- the place behind is written k + 1 in the code, and suc k in lists
here : (i : ℕ) (ss : List plain.Standing) (s d : plain.Standing) (x : List ℕ) → i < length ss → s ≡ get_or ss i d
    → writes_from i (drop i ss) x ≡ cond (writes_scalar x s) (i ∷ writes_from (i + 1) (drop (i + 1) ss) x) (writes_from (i + 1) (drop (i + 1) ss) x)
here i ss s d x h e =
    let one : drop i ss ≡ get_or ss i d ∷ drop (i + 1) ss = drop-cons ss i d h ∙ ap (λ n. get_or ss i d ∷ drop n ss) (further i) in
    ap (λ ts. writes_from i ts x) (one ∙ ap (λ (t : plain.Standing). t ∷ drop (i + 1) ss) (sym e))
  where
    further : (i : ℕ) → suc i ≡ i + 1
    further i = omega arith

name-is : (r : Ref) → (reference_of r).name ≡ (out-Ref r).name
name-is r = ap (λ q. q.name) (reference_of-is r)

module _ (x : List ℕ) (all : List Standing) (i : ℕ) (s : Standing) (within : i < length all) (is : s ≡ get_or all i s) where
  standing-at : standing_of s ≡ get_or (map standing_of all) i (standing_of s)
  standing-at = ap standing_of is ∙ sym (get_or-map standing_of all i s (standing_of s) within)

  further : writes_from i (drop i (map standing_of all)) x
      ≡ cond (writes_scalar x (standing_of s)) (i ∷ writes_from (i + 1) (drop (i + 1) (map standing_of all)) x) (writes_from (i + 1) (drop (i + 1) (map standing_of all)) x)
  further = here i (map standing_of all) (standing_of s) (standing_of s) x (subst (λ n. i < n) (sym (length-map all standing_of)) within) standing-at

  pub none-here : bytes_eq (out-Ref s.stmt.left).name x ≡ false
      → writes_from i (drop i (map standing_of all)) x ≡ writes_from (i + 1) (drop (i + 1) (map standing_of all)) x
  none-here e =
      further ∙ ap (λ b. cond b (i ∷ writes_from (i + 1) (drop (i + 1) (map standing_of all)) x) (writes_from (i + 1) (drop (i + 1) (map standing_of all)) x))
      (ap (λ y. bytes_eq y x) (name-is s.stmt.left) ∙ e)

  pub one-here : bytes_eq (out-Ref s.stmt.left).name x ≡ true
      → writes_from i (drop i (map standing_of all)) x ≡ i ∷ writes_from (i + 1) (drop (i + 1) (map standing_of all)) x
  one-here e =
      further ∙ ap (λ b. cond b (i ∷ writes_from (i + 1) (drop (i + 1) (map standing_of all)) x) (writes_from (i + 1) (drop (i + 1) (map standing_of all)) x))
      (ap (λ y. bytes_eq y x) (name-is s.stmt.left) ∙ e)

pub none-left : (x : List ℕ) (all : List Standing) (i : ℕ) → length all ≤ i → writes_from i (drop i (map standing_of all)) x ≡ []
none-left x all i h = ap (λ ts. writes_from i ts x) (dropped (map standing_of all) i (subst (λ n. n ≤ i) (sym (length-map all standing_of)) h))
  where
    dropped : (ss : List plain.Standing) (n : ℕ) → length ss ≤ n → drop n ss ≡ []
    dropped [] zero h = refl
    dropped [] (suc n) h = refl
    dropped (s ∷ ss) zero h = absurd (omega (arith, h))
    dropped (s ∷ ss) (suc n) h = dropped ss n (omega (arith, h))

-- a second one
pub second-found : (o : Option ℕ) (k : ℕ) (ks : List ℕ) → is_some o ≡ true → one_number (with_found o (k ∷ ks)) ≡ None
second-found (Some j) k ks h = refl
second-found None k ks h = cc

-- the first one
pub first-found : (o new : Option ℕ) (k : ℕ) (ks : List ℕ) → is_some o ≡ false → new ≡ Some k → one_number (with_found o (k ∷ ks)) ≡ one_number (with_found new ks)
first-found None new k ks h e = ap (λ q. one_number (with_found q ks)) (sym e)
first-found (Some j) new k ks h e = cc
