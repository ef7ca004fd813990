-- What is in a set that was made by inserting.
use Rattle.std.proofs.Common.{◌≡◌, Bool, true, false, ◌||◌, cond, List, [], ◌∷◌, ◌++◌, refl, sym, ap, ◌∙◌}
use Rattle.std.specs.List.{list_any}
use Rattle.indexmap.specs.IndexSet.{insert_key, insert_all}
use Rattle.nest_reasons.proofs.Lists.{any-append, or_false}

no_more : (a b : Bool) → (b ≡ true → a ≡ true) → a ≡ (a || b)
no_more true b h = refl
no_more false true h = h refl
no_more false false h = refl

or_assoc : (a b c : Bool) → ((a || b) || c) ≡ (a || (b || c))
or_assoc true b c = refl
or_assoc false b c = refl

module _ {A : Type 0} (eq : A → A → Bool) (same : (x y : A) → eq x y ≡ true → x ≡ y) (x : A) where
  -- an equal one that is among them already says no more
  repeated : (k : A) (ks : List A) → list_any (eq k) ks ≡ true → eq x k ≡ true → list_any (eq x) ks ≡ true
  repeated k ks h e = ap (λ y. list_any (eq y) ks) (same x k e) ∙ h

  pub any-insert_key : (ks : List A) (k : A) → list_any (eq x) (insert_key eq ks k) ≡ (list_any (eq x) ks || eq x k)
  any-insert_key ks k = cases (list_any (eq k) ks) refl
    where
      cases : (b : Bool) → list_any (eq k) ks ≡ b → list_any (eq x) (cond b ks (ks ++ k ∷ [])) ≡ (list_any (eq x) ks || eq x k)
      cases true h = no_more (list_any (eq x) ks) (eq x k) (repeated k ks h)
      cases false h = any-append (eq x) ks k

  any-more : (ks ns : List A) → list_any (eq x) (insert_all eq ks ns) ≡ (list_any (eq x) ks || list_any (eq x) ns)
  any-more ks [] = sym (or_false (list_any (eq x) ks))
  any-more ks (n ∷ ns) =
      any-more (insert_key eq ks n) ns
      ∙ ap (λ b. b || list_any (eq x) ns) (any-insert_key ks n)
      ∙ or_assoc (list_any (eq x) ks) (eq x n) (list_any (eq x) ns)

  -- whether it is in the set of these
  pub among-insert_all : (ns : List A) → list_any (eq x) (insert_all eq [] ns) ≡ list_any (eq x) ns
  among-insert_all ns = any-more [] ns
