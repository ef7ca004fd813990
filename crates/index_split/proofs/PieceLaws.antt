-- Bounds of pieces.
use Rattle.std.proofs.Common.{◌≡◌, refl, sym, ap, subst, ◌∙◌, ℕ, ℤ, Bool, Option, Some, None, Result, Ok, Err, List, [], ◌∷◌, ◌++◌, append_assoc}
use Rattle.std.specs.Prelude.{IfOk}
use Rattle.std.proofs.lemmas.List.{append-nil}
use Rattle.tree.proofs.Equations.{block_of-is}
use Rattle.index_split.specs.Pieces.{all_bounds, bounds_of, grown, one_more, where_true}
use Rattle.subscripts.specs.declared.affine.Affine.{Affine}
use Rattle.index_split.specs.declared.pieces.Bounds.{Bounds}

-- one more behind those so far, and then the rest
pub grown-more : (old : List Bounds) (b : Bounds) (rest : Option (List Bounds)) → grown (old ++ b ∷ []) rest ≡ grown old (one_more (Some b) rest)
grown-more old b None = refl
grown-more old b (Some bs) = ap (λ (cs : List Bounds). Some cs) (append_assoc old (b ∷ []) bs)

pub ruleset bounds_laws = (grown-more, append-nil)

pub ruleset body_laws = (block_of-is)

pub if_both : {A E : Type 0} (P Q R : A → Type 0) (r : Result A E) → ((x : A) → P x → Q x → R x) → IfOk r P → IfOk r Q → IfOk r R
if_both P Q R (Ok x) f h k = f x h k
if_both P Q R (Err e) f h k = tt

-- one piece more, and then the others
pub bounds_more : {E : Type 0} (r : Result Bool E) (old mid new : List Bounds) (a : Affine) (step : ℤ) (before end : ℕ) (ends all : List ℕ) (b : Bounds)
    → mid ≡ old ++ b ∷ [] → bounds_of a step before end ≡ Some b → all ≡ end ∷ ends
    → IfOk r (λ x. where_true x new ≡ grown mid (all_bounds a step end ends)) → IfOk r (λ x. where_true x new ≡ grown old (all_bounds a step before all))
bounds_more {E = E} r old mid new a step before end ends all b e f g h =
    subst (λ (es : List ℕ). IfOk r (λ x. where_true x new ≡ grown old (all_bounds a step before es))) (sym g)
    (by r h)
  where
    total : grown mid (all_bounds a step end ends) ≡ grown old (all_bounds a step before (end ∷ ends))
    total =
        ap (λ (bs : List Bounds). grown bs (all_bounds a step end ends)) e ∙ grown-more old b (all_bounds a step end ends)
        ∙ ap (λ (o : Option Bounds). grown old (one_more o (all_bounds a step end ends))) (sym f)

    by : (q : Result Bool E) → IfOk q (λ x. where_true x new ≡ grown mid (all_bounds a step end ends)) → IfOk q (λ x. where_true x new ≡ grown old (all_bounds a step before (end ∷ ends)))
    by (Ok x) k = k ∙ total
    by (Err x) k = tt
