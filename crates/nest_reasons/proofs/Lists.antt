-- One item more of a list that is gone through.
use Rattle.std.proofs.Common.{◌≡◌, ℕ, ◌+◌, ◌<◌, Bool, true, false, ◌||◌, cond, List, [], ◌∷◌, ◌++◌, map, take, length, get_or, refl, sym, ap, ◌∙◌, append_assoc, add-one, subst, drop, drop-cons}
use Rattle.std.specs.List.{flat_map, list_any, filter}
use Rattle.std.proofs.Math.Seq.{take-suc}
use Rattle.std.proofs.lemmas.Grind.{flat_map-append}
use Rattle.std.proofs.lemmas.List.{map-append, append-nil}
use Rattle.std.proofs.lemmas.List.Elements.{filter-append}

pub one_more : {A : Type 0} (xs : List A) (i : ℕ) (x : A) → i < length xs → x ≡ get_or xs i x → take (i + 1) xs ≡ take i xs ++ x ∷ []
one_more xs i x h e = ap (λ n. take n xs) (add-one i) ∙ take-suc xs i x h ∙ ap (λ y. take i xs ++ y ∷ []) (sym e)

flat_more : {A B C : Type 0} (f : B → List C) (view : A → B) (list : List A) (i : ℕ) (x : A) → i < length list → x ≡ get_or list i x
    → flat_map f (map view (take (i + 1) list)) ≡ flat_map f (map view (take i list)) ++ f (view x)
flat_more f view list i x h e =
    ap (λ xs. flat_map f (map view xs)) (one_more list i x h e)
    ∙ ap (flat_map f) (map-append view (take i list) (x ∷ []))
    ∙ flat_map-append f (map view (take i list)) (view x ∷ [])
    ∙ ap (λ us. flat_map f (map view (take i list)) ++ us) (append-nil (f (view x)))

pub more : {A B C : Type 0} (f : B → List C) (view : A → B) (list : List A) (i : ℕ) (x : A) (first old new : List C)
    → i < length list → x ≡ get_or list i x → old ≡ first ++ flat_map f (map view (take i list)) → new ≡ old ++ f (view x)
    → new ≡ first ++ flat_map f (map view (take (i + 1) list))
more f view list i x first old new h e before now =
    now ∙ ap (λ us. us ++ f (view x)) before ∙ append_assoc first (flat_map f (map view (take i list))) (f (view x))
    ∙ ap (λ us. first ++ us) (sym (flat_more f view list i x h e))

pub or_false : (b : Bool) → (b || false) ≡ b
or_false true = refl
or_false false = refl

pub any-append : {B : Type 0} (f : B → Bool) (xs : List B) (y : B) → list_any f (xs ++ y ∷ []) ≡ (list_any f xs || f y)
any-append f [] y = or_false (f y)
any-append f (x ∷ xs) y = cases (f x) (any-append f xs y)
  where
    cases : (b : Bool) → list_any f (xs ++ y ∷ []) ≡ (list_any f xs || f y) → (b || list_any f (xs ++ y ∷ [])) ≡ ((b || list_any f xs) || f y)
    cases true e = refl
    cases false e = e

-- whether one of them passes a test
pub any_more : {A B : Type 0} (f : B → Bool) (view : A → B) (list : List A) (i : ℕ) (x : A)
    → i < length list → x ≡ get_or list i x
    → list_any f (map view (take (i + 1) list)) ≡ (list_any f (map view (take i list)) || f (view x))
any_more f view list i x h e =
    ap (λ xs. list_any f (map view xs)) (one_more list i x h e)
    ∙ ap (list_any f) (map-append view (take i list) (x ∷ []))
    ∙ any-append f (map view (take i list)) (view x)

-- one item more in front of what is left
pub one_before : {A : Type 0} (xs : List A) (j i : ℕ) (d : A) → j + 1 ≡ i → j < length xs → get_or xs j d ∷ drop i xs ≡ drop j xs
one_before xs j i d e l = subst (λ n. get_or xs j d ∷ drop n xs ≡ drop j xs) (sym (add-one j) ∙ e) (sym (drop-cons xs j d l))

-- ---- those that pass a test

filter-snoc : {B : Type 0} (f : B → Bool) (zs : List B) (y : B) → filter f (zs ++ y ∷ []) ≡ cond (f y) (filter f zs ++ y ∷ []) (filter f zs)
filter-snoc f zs y = filter-append f zs (y ∷ []) ∙ cases (f y)
  where
    cases : (b : Bool) → filter f zs ++ cond b (y ∷ []) [] ≡ cond b (filter f zs ++ y ∷ []) (filter f zs)
    cases true = refl
    cases false = append-nil (filter f zs)

map-cond : {B C : Type 0} (g : B → C) (b : Bool) (zs : List B) (y : B) → map g (cond b (zs ++ y ∷ []) zs) ≡ cond b (map g zs ++ g y ∷ []) (map g zs)
map-cond g true zs y = map-append g zs (y ∷ [])
map-cond g false zs y = refl

pub kept : {A : Type 0} (f : A → Bool) (xs : List A) (i : ℕ) (x : A) (b : Bool) (old new : List A)
    → i < length xs → x ≡ get_or xs i x → b ≡ f x → old ≡ filter f (take i xs) → new ≡ cond b (old ++ x ∷ []) old
    → new ≡ filter f (take (i + 1) xs)
kept f xs i x b old new h e chosen before now =
    now ∙ ap (λ c. cond c (old ++ x ∷ []) old) chosen ∙ ap (λ zs. cond (f x) (zs ++ x ∷ []) zs) before
    ∙ sym (ap (filter f) (one_more xs i x h e) ∙ filter-snoc f (take i xs) x)

pub kept_mapped : {A B C : Type 0} (f : B → Bool) (g : B → C) (view : A → B) (xs : List A) (i : ℕ) (x : A) (b : Bool) (old new : List C)
    → i < length xs → x ≡ get_or xs i x → b ≡ f (view x) → old ≡ map g (filter f (map view (take i xs))) → new ≡ cond b (old ++ g (view x) ∷ []) old
    → new ≡ map g (filter f (map view (take (i + 1) xs)))
kept_mapped f g view xs i x b old new h e chosen before now =
    now ∙ ap (λ c. cond c (old ++ g (view x) ∷ []) old) chosen
    ∙ ap (λ zs. cond (f (view x)) (zs ++ g (view x) ∷ []) zs) before
    ∙ sym
    (ap (λ ys. map g (filter f (map view ys))) (one_more xs i x h e)
    ∙ ap (λ ys. map g (filter f ys)) (map-append view (take i xs) (x ∷ []))
    ∙ ap (map g) (filter-snoc f (map view (take i xs)) (view x))
    ∙ map-cond g (f (view x)) (filter f (map view (take i xs))) (view x))
