-- The variables of a program in byte order: each name that is a variable, once, and no other.
use Rattle.std.proofs.Common.{◌≡◌, ◌⊎◌, inl, inr, ℕ, Bool, true, false, cond, Some, None, List, [], ◌∷◌, map, refl, sym, ap, subst, ◌∙◌, Contains, filter, fold, Ordering}
use Rattle.std.specs.List.{AllByRecursion}
use Rattle.std.specs.Str.{bytes_eq}
use Rattle.std.specs.Ordering.{nat_cmp, is_eq, ordering_reverse, match_ordering}
use Rattle.std.specs.Cmp.Lexicographic.{slice_cmp, nat_list_cmp_total}
use Rattle.std.specs.declared.cmp.Ordering.TheVariants.{Less, Equal, Greater}
use Rattle.std.proofs.lemmas.Map.Text.{is_eq-slice_cmp}
use Rattle.std.proofs.lemmas.Slice.Eq.{bytes_eq-Decides}
use Rattle.meaning.specs.Store.{Store}
use Rattle.f77_grammar.specs.Statement77.{Labelled}
use Rattle.meaning.specs.Names.{IsInByteOrder}
use Rattle.meaning.specs.Typed77.{declared}
use Rattle.f77_grammar.specs.program.Uses.{Use77, is_variable}
use Rattle.f77_grammar.specs.program.Tree.{with_name, program_variables_of, declaration_of_name}
use Rattle.meaning.specs.Dialect.{Dialect}
use Rattle.f77_laws.proofs.Lists.{here, there, nowhere, cases_of, not_both}

-- ---- names

pub same_name : (x y : List ℕ) → bytes_eq x y ≡ true → x ≡ y
same_name x y = (bytes_eq-Decides x y).0

pub equal_names : (x y : List ℕ) → x ≡ y → bytes_eq x y ≡ true
equal_names x y = (bytes_eq-Decides x y).1

pub other_names : (x y : List ℕ) → (x ≡ y → ⊥) → bytes_eq x y ≡ false
other_names x y f = by (bytes_eq x y) refl
  where
    by : (b : Bool) → bytes_eq x y ≡ b → bytes_eq x y ≡ false
    by true e = absurd (f (same_name x y e))
    by false e = e

abbrev pub order : List ℕ → List ℕ → Ordering
order = slice_cmp nat_cmp

same_order : (x y : List ℕ) → order x y ≡ Equal → x ≡ y
same_order x y e = same_name x y (sym (is_eq-slice_cmp x y) ∙ ap is_eq e)

pub below_differs : (x y : List ℕ) → order x y ≡ Less → x ≡ y → ⊥
below_differs x y e f = not_both (bytes_eq x y) (equal_names x y f) (sym (is_eq-slice_cmp x y) ∙ ap is_eq e)

turned : (x y : List ℕ) → order x y ≡ Greater → order y x ≡ Less
turned x y e = nat_list_cmp_total.antisymm y x ∙ ap ordering_reverse e

-- ---- a name put into a list in byte order

below_all : (x y : List ℕ) (ys : List (List ℕ)) → order x y ≡ Less → AllByRecursion (λ z. order y z ≡ Less) ys → AllByRecursion (λ z. order x z ≡ Less) ys
below_all x y [] e h = tt
below_all x y (z ∷ zs) e h = (nat_list_cmp_total.trans x y z e h.0, below_all x y zs e h.1)

above_placed : (y x : List ℕ) (ys : List (List ℕ)) → order y x ≡ Less → AllByRecursion (λ z. order y z ≡ Less) ys → AllByRecursion (λ z. order y z ≡ Less) (with_name x ys)
above_placed y x [] e h = (e, tt)
above_placed y x (w ∷ ws) e h = by (order x w) (above_placed y x ws e h.1)
  where
    by : (o : Ordering) → AllByRecursion (λ z. order y z ≡ Less) (with_name x ws) → AllByRecursion (λ z. order y z ≡ Less) (match_ordering o (x ∷ w ∷ ws) (w ∷ ws) (w ∷ with_name x ws))
    by Less more = (e, h)
    by Equal more = h
    by Greater more = (h.0, more)

placed_in_order : (x : List ℕ) (ys : List (List ℕ)) → IsInByteOrder ys → IsInByteOrder (with_name x ys)
placed_in_order x [] h = (tt, tt)
placed_in_order x (y ∷ ys) h = by (order x y) refl (placed_in_order x ys h.1)
  where
    by : (o : Ordering) → order x y ≡ o → IsInByteOrder (with_name x ys) → IsInByteOrder (match_ordering o (x ∷ y ∷ ys) (y ∷ ys) (y ∷ with_name x ys))
    by Less e more = ((e, below_all x y ys e h.0), h)
    by Equal e more = h
    by Greater e more = (above_placed y x ys (turned x y e) h.0, more)

placed_among : (x : List ℕ) (ys : List (List ℕ)) → Contains (with_name x ys) x
placed_among x [] = here x []
placed_among x (y ∷ ys) = by (order x y) refl (placed_among x ys)
  where
    by : (o : Ordering) → order x y ≡ o → Contains (with_name x ys) x → Contains (match_ordering o (x ∷ y ∷ ys) (y ∷ ys) (y ∷ with_name x ys)) x
    by Less e more = here x (y ∷ ys)
    by Equal e more = subst (λ (z : List ℕ). Contains (y ∷ ys) z) (sym (same_order x y e)) (here y ys)
    by Greater e more = there y (with_name x ys) x more

others_among : (x : List ℕ) (ys : List (List ℕ)) (z : List ℕ) → Contains ys z → Contains (with_name x ys) z
others_among x [] z h = absurd (nowhere z h)
others_among x (y ∷ ys) z h = by (order x y) (others_among x ys z)
  where
    further : (Contains ys z → Contains (with_name x ys) z) → (y ≡ z) ⊎ Contains ys z → Contains (y ∷ with_name x ys) z
    further more (inl e) = subst (λ (w : List ℕ). Contains (y ∷ with_name x ys) w) e (here y (with_name x ys))
    further more (inr g) = there y (with_name x ys) z (more g)

    by : (o : Ordering) → (Contains ys z → Contains (with_name x ys) z) → Contains (match_ordering o (x ∷ y ∷ ys) (y ∷ ys) (y ∷ with_name x ys)) z
    by Less more = there x (y ∷ ys) z h
    by Equal more = h
    by Greater more = further more (cases_of y ys z h)

placed_cases : (x : List ℕ) (ys : List (List ℕ)) (z : List ℕ) → Contains (with_name x ys) z → (x ≡ z) ⊎ Contains ys z
placed_cases x [] z h = cases_of x [] z h
placed_cases x (y ∷ ys) z h = by (order x y) (placed_cases x ys z) h
  where
    further : (Contains (with_name x ys) z → (x ≡ z) ⊎ Contains ys z) → (y ≡ z) ⊎ Contains (with_name x ys) z → (x ≡ z) ⊎ Contains (y ∷ ys) z
    further more (inl e) = inr (subst (λ (w : List ℕ). Contains (y ∷ ys) w) e (here y ys))
    further more (inr g) = deeper (more g)
      where
        deeper : (x ≡ z) ⊎ Contains ys z → (x ≡ z) ⊎ Contains (y ∷ ys) z
        deeper (inl e) = inl e
        deeper (inr c) = inr (there y ys z c)

    by : (o : Ordering) → (Contains (with_name x ys) z → (x ≡ z) ⊎ Contains ys z) → Contains (match_ordering o (x ∷ y ∷ ys) (y ∷ ys) (y ∷ with_name x ys)) z → (x ≡ z) ⊎ Contains (y ∷ ys) z
    by Less more h = cases_of x (y ∷ ys) z h
    by Equal more h = inr h
    by Greater more h = further more (cases_of y (with_name x ys) z h)

-- ---- all names of a list

abbrev placed_all : List (List ℕ) → List (List ℕ) → List (List ℕ)
placed_all ys xs = fold (λ names x. with_name x names) ys xs

all_in_order : (ys xs : List (List ℕ)) → IsInByteOrder ys → IsInByteOrder (placed_all ys xs)
all_in_order ys [] h = h
all_in_order ys (x ∷ xs) h = all_in_order (with_name x ys) xs (placed_in_order x ys h)

kept_among : (ys xs : List (List ℕ)) (z : List ℕ) → Contains ys z → Contains (placed_all ys xs) z
kept_among ys [] z h = h
kept_among ys (x ∷ xs) z h = kept_among (with_name x ys) xs z (others_among x ys z h)

all_among : (ys xs : List (List ℕ)) (z : List ℕ) → Contains xs z → Contains (placed_all ys xs) z
all_among ys [] z h = absurd (nowhere z h)
all_among ys (x ∷ xs) z h = by (all_among (with_name x ys) xs z) (cases_of x xs z h)
  where
    by : (Contains xs z → Contains (placed_all (with_name x ys) xs) z) → (x ≡ z) ⊎ Contains xs z → Contains (placed_all (with_name x ys) xs) z
    by more (inl e) = kept_among (with_name x ys) xs z (subst (λ (w : List ℕ). Contains (with_name x ys) w) e (placed_among x ys))
    by more (inr c) = more c

all_cases : (ys xs : List (List ℕ)) (z : List ℕ) → Contains (placed_all ys xs) z → Contains ys z ⊎ Contains xs z
all_cases ys [] z h = inl h
all_cases ys (x ∷ xs) z h = by (all_cases (with_name x ys) xs z h)
  where
    placed : (x ≡ z) ⊎ Contains ys z → Contains ys z ⊎ Contains (x ∷ xs) z
    placed (inl e) = inr (subst (λ (w : List ℕ). Contains (x ∷ xs) w) e (here x xs))
    placed (inr c) = inl c

    by : Contains (with_name x ys) z ⊎ Contains xs z → Contains ys z ⊎ Contains (x ∷ xs) z
    by (inl c) = placed (placed_cases x ys z c)
    by (inr c) = inr (there x xs z c)

-- ---- those that pass a test

pub kept_by : {A : Type 0} → (test : A → Bool) (xs : List A) (z : A) → Contains xs z → test z ≡ true → Contains (filter test xs) z
kept_by {A} test [] z h e = absurd (nowhere z h)
kept_by {A} test (x ∷ xs) z h e = by (test x) refl (λ c. kept_by test xs z c e) (cases_of x xs z h)
  where
    by : (b : Bool) → test x ≡ b → (Contains xs z → Contains (filter test xs) z) → (x ≡ z) ⊎ Contains xs z → Contains (cond b (x ∷ filter test xs) (filter test xs)) z
    by true f more (inl g) = subst (λ (w : A). Contains (x ∷ filter test xs) w) g (here x (filter test xs))
    by true f more (inr c) = there x (filter test xs) z (more c)
    by false f more (inl g) = absurd (not_both (test z) e (sym (ap test g) ∙ f))
    by false f more (inr c) = more c

pub record Passed {A : Type 0} (test : A → Bool) (xs : List A) (z : A) : Type 0 where
  pub among : Contains xs z
  pub passes : test z ≡ true

pub passed_by : {A : Type 0} → (test : A → Bool) (xs : List A) (z : A) → Contains (filter test xs) z → Passed test xs z
passed_by {A} test [] z h = absurd (nowhere z h)
passed_by {A} test (x ∷ xs) z h = by (test x) refl (passed_by test xs z) h
  where
    further : Passed test xs z → Passed test (x ∷ xs) z
    further p = record { among = there x xs z p.among; passes = p.passes }

    first : test x ≡ true → (Contains (filter test xs) z → Passed test xs z) → (x ≡ z) ⊎ Contains (filter test xs) z → Passed test (x ∷ xs) z
    first f more (inl e) = record { among = subst (λ (w : A). Contains (x ∷ xs) w) e (here x xs); passes = sym (ap test e) ∙ f }
    first f more (inr c) = further (more c)

    by : (b : Bool) → test x ≡ b → (Contains (filter test xs) z → Passed test xs z) → Contains (cond b (x ∷ filter test xs) (filter test xs)) z → Passed test (x ∷ xs) z
    by true f more h = first f more (cases_of x (filter test xs) z h)
    by false f more h = further (more h)

pub named_by : (us : List Use77) (u : Use77) → Contains us u → Contains (map (λ (v : Use77). v.name) us) u.name
named_by [] u h = absurd (nowhere u h)
named_by (v ∷ vs) u h = by (named_by vs u) (cases_of v vs u h)
  where
    by : (Contains vs u → Contains (map (λ (w : Use77). w.name) vs) u.name) → (v ≡ u) ⊎ Contains vs u → Contains (v.name ∷ map (λ (w : Use77). w.name) vs) u.name
    by more (inl e) = subst (λ (x : List ℕ). Contains (v.name ∷ map (λ (w : Use77). w.name) vs) x) (ap (λ (w : Use77). w.name) e) (here v.name (map (λ (w : Use77). w.name) vs))
    by more (inr c) = there v.name (map (λ (w : Use77). w.name) vs) u.name (more c)

pub record UseNamed (us : List Use77) (x : List ℕ) : Type 0 where
  pub use' : Use77
  pub among : Contains us use'
  pub same : use'.name ≡ x

pub use_named : (us : List Use77) (x : List ℕ) → Contains (map (λ (v : Use77). v.name) us) x → UseNamed us x
use_named [] x h = absurd (nowhere x h)
use_named (v ∷ vs) x h = by (use_named vs x) (cases_of v.name (map (λ (w : Use77). w.name) vs) x h)
  where
    further : UseNamed vs x → UseNamed (v ∷ vs) x
    further k = record { use' = k.use'; among = there v vs k.use' k.among; same = k.same }

    by : (Contains (map (λ (w : Use77). w.name) vs) x → UseNamed vs x) → (v.name ≡ x) ⊎ Contains (map (λ (w : Use77). w.name) vs) x → UseNamed (v ∷ vs) x
    by more (inl e) = record { use' = v; among = here v vs; same = e }
    by more (inr c) = further (more c)

-- ---- the variables

pub variables_in_order : (us : List Use77) → IsInByteOrder (program_variables_of us)
variables_in_order us = all_in_order [] (filter (is_variable us) (map (λ (u : Use77). u.name) us)) tt

pub is_among_variables : (us : List Use77) (u : Use77) → Contains us u → is_variable us u.name ≡ true → Contains (program_variables_of us) u.name
is_among_variables us u h e =
    all_among [] (filter (is_variable us) (map (λ (v : Use77). v.name) us)) u.name (kept_by (is_variable us) (map (λ (v : Use77). v.name) us) u.name (named_by us u h) e)

-- a variable is named by one of the uses
pub record IsVariableUsed (us : List Use77) (x : List ℕ) : Type 0 where
  pub used : UseNamed us x
  pub variable : is_variable us x ≡ true

pub variable_used : (us : List Use77) (x : List ℕ) → Contains (program_variables_of us) x → IsVariableUsed us x
variable_used us x h = by (all_cases [] (filter (is_variable us) (map (λ (v : Use77). v.name) us)) x h)
  where
    of_passed : Passed (is_variable us) (map (λ (v : Use77). v.name) us) x → IsVariableUsed us x
    of_passed p = record { used = use_named us x p.among; variable = p.passes }

    by : Contains [] x ⊎ Contains (filter (is_variable us) (map (λ (v : Use77). v.name) us)) x → IsVariableUsed us x
    by (inl c) = absurd (nowhere x c)
    by (inr c) = of_passed (passed_by (is_variable us) (map (λ (v : Use77). v.name) us) x c)

-- ---- their declarations

pub declared_name : (d : Dialect) (us : List Use77) (s : Store) (text : List Labelled) (names : List (List ℕ)) (x : List ℕ) → Contains names x
    → declared (map (declaration_of_name d us s text) names) x ≡ Some (declaration_of_name d us s text x)
declared_name d us s text [] x h = absurd (nowhere x h)
declared_name d us s text (y ∷ ys) x h = by (bytes_eq y x) refl (declared_name d us s text ys x) (cases_of y ys x h)
  where
    by : (b : Bool) → bytes_eq y x ≡ b → (Contains ys x → declared (map (declaration_of_name d us s text) ys) x ≡ Some (declaration_of_name d us s text x)) → (y ≡ x) ⊎ Contains ys x
        → cond b (Some (declaration_of_name d us s text y)) (declared (map (declaration_of_name d us s text) ys) x) ≡ Some (declaration_of_name d us s text x)
    by true e more c = ap (λ z. Some (declaration_of_name d us s text z)) (same_name y x e)
    by false e more (inl f) = absurd (not_both (bytes_eq y x) (equal_names y x f) e)
    by false e more (inr c) = more c

pub undeclared_name : (d : Dialect) (us : List Use77) (s : Store) (text : List Labelled) (names : List (List ℕ)) (x : List ℕ) → (Contains names x → ⊥)
    → declared (map (declaration_of_name d us s text) names) x ≡ None
undeclared_name d us s text [] x h = refl
undeclared_name d us s text (y ∷ ys) x h =
    ap (λ b. cond b (Some (declaration_of_name d us s text y)) (declared (map (declaration_of_name d us s text) ys) x)) (other_names y x (λ e. h (subst (λ (w : List ℕ). Contains (y ∷ ys) w) e (here y ys))))
    ∙ undeclared_name d us s text ys x (λ c. h (there y ys x c))
