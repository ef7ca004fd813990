-- Spans in seven places, and answers of calls.
use Rattle.std.proofs.Common.{◌≡◌, ℕ, ◌+◌, ◌-◌, ◌≤◌, refl, sym, ap, ap₂, ◌∙◌, List, [], ◌∷◌, ◌++◌, length, drop, replicate}
use Rattle.std.specs.Prelude.{Err, Ok, OnOk, Result}
use Rattle.std.proofs.lemmas.List.{drop-replicate}
use Rattle.subscripts.specs.Iterations.{once}
use Rattle.subscripts.specs.declared.affine.Span.{Span}
use Rattle.direction_vectors.specs.vector_tests.Refs.{padded}

pub padded_is : (xs ss : List Span) → xs ≡ ss → xs ++ drop (length ss) (once ∷ once ∷ once ∷ once ∷ once ∷ once ∷ once ∷ []) ≡ padded ss
padded_is xs ss e = ap₂ (λ ys zs. ys ++ zs) e (drop-replicate (length ss) 7 once)

pub both_ok : {A E : Type 0} (P Q R : Type 0) (r : Result A E) → (P → Q → R) → OnOk r P → OnOk r Q → OnOk r R
both_ok P Q R (Ok x) f h k = f h k
both_ok P Q R (Err e) f h k = tt

pub one_ok : {A E : Type 0} (P R : Type 0) (r : Result A E) → (P → R) → OnOk r P → OnOk r R
one_ok P R (Ok x) f h = f h
one_ok P R (Err e) f h = tt
