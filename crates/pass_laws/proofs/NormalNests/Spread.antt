-- The form of an expression over some loops, of which its names are, and its form over all loops.
use mathlib.Core.Path.{ap₂}
use Rattle.std.proofs.Common.{◌≡◌, refl, sym, ap, ◌∙◌, subst, ℕ, zero, suc, ◌≤◌, ℤ, pos, negsuc, ◌+ℤ◌, ◌*ℤ◌, Bool, true, false, cond, ◌&&◌, List, [], ◌∷◌, ◌++◌, map, filter, drop, length, get_or, Option, Some, None, arith}
use Rattle.std.specs.Prelude.{nat_le}
use Rattle.std.specs.Ordering.{int_eq}
use Rattle.std.specs.Str.{bytes_eq}
use Rattle.std.proofs.lemmas.Bool.{le-leb}
use Rattle.std.proofs.lemmas.Bool.Decides.{Decides-int_eq}
use Rattle.tree.specs.Plain.{Expression, Number, Logic, Named, Unary, Binary, Apply, Constructor, Spread as Spread', Transpose, Reshape, Reduce, Subscripts, no_subscripts, subscript}
use Rattle.tree.specs.declared.ops.Op.{Op}
use Rattle.tree.specs.declared.ops.Op.TheVariants.{Mul, Neg, Add, Sub}
use Rattle.meaning.specs.Reads.{names_in}
use Rattle.linear_forms.specs.Linear.{Form, added, sum, multiple, constant_form, is_small, all_small, not_zero, is_limited, limited, unit, with_zero, with_no_constant, form_of_name, form_of_sign, form_of_product, form_of_two, form_of_pair, constant_of, constant_or, linear, form_of}
use Rattle.linear_forms.proofs.Sizes.{both}
use Rattle.components.specs.Lists.{Each}
use Rattle.find_nests.specs.bound_limits.Composed.{Outer, outer_variables_of}
use Rattle.find_nests.proofs.BoundLimits.Lists.{get_or-added, get_or-scaled, added-nil}

-- ---- lists of coefficients

abbrev pub At : List ℤ → ℕ → ℤ
At cs j = get_or cs j (pos 0)

pub after_one : (cs : List ℤ) (j : ℕ) → At cs (suc j) ≡ At (drop 1 cs) j
after_one [] j = refl
after_one (c ∷ cs) j = refl

drop_more : (n : ℕ) (cs : List ℤ) → drop (suc n) cs ≡ drop n (drop 1 cs)
drop_more zero [] = refl
drop_more (suc n) [] = refl
drop_more n (c ∷ cs) = refl

drop_added : (cs ds : List ℤ) → drop 1 (added cs ds) ≡ added (drop 1 cs) (drop 1 ds)
drop_added [] ds = refl
drop_added (c ∷ cs) [] = sym (added-nil cs)
drop_added (c ∷ cs) (d ∷ ds) = refl

drop_scaled : (k : ℤ) (cs : List ℤ) → drop 1 (map (λ a. k *ℤ a) cs) ≡ map (λ a. k *ℤ a) (drop 1 cs)
drop_scaled k [] = refl
drop_scaled k (c ∷ cs) = refl

pub small_at : (cs : List ℤ) → all_small cs ≡ true → (j : ℕ) → is_small (At cs j) ≡ true
small_at [] h j = refl
small_at (c ∷ cs) h zero = (both (is_small c) (all_small cs) h).0
small_at (c ∷ cs) h (suc j) = small_at cs (both (is_small c) (all_small cs) h).1 j

pub small_from : (cs : List ℤ) → ((j : ℕ) → is_small (At cs j) ≡ true) → all_small cs ≡ true
small_from [] h = refl
small_from (c ∷ cs) h = ap (λ b. b && all_small cs) (h 0) ∙ small_from cs (λ j. h (suc j))

is_zero : (c : ℤ) → c ≡ pos 0 → int_eq c (pos 0) ≡ true
is_zero c h = (Decides-int_eq c (pos 0)).1 h

pub no_zero : (cs : List ℤ) → ((j : ℕ) → At cs j ≡ pos 0) → not_zero cs ≡ 0
no_zero [] h = refl
no_zero (c ∷ cs) h = ap (λ b. cond b (not_zero cs) (suc (not_zero cs))) (is_zero c (h 0)) ∙ no_zero cs (λ j. h (suc j))

-- lists with the same coefficients, which are 0 past the end
pub alike_not_zero : (cs ds : List ℤ) → ((j : ℕ) → At cs j ≡ At ds j) → not_zero cs ≡ not_zero ds
alike_not_zero [] ds h = sym (no_zero ds (λ j. sym (h j)))
alike_not_zero (c ∷ cs) [] h = no_zero (c ∷ cs) h
alike_not_zero (c ∷ cs) (d ∷ ds) h =
    ap₂ (λ b k. cond b k (suc k)) (ap (λ z. int_eq z (pos 0)) (h 0)) (alike_not_zero cs ds (λ j. h (suc j)))

-- ---- coefficients over the loops that pass, and over all

-- the first list is that over the loops that pass; in the second one the other loops have none
abbrev pub Spread : List Bool → List ℤ → List ℤ → Type 0
Spread [] few all = (j : ℕ) → At all j ≡ At few j
Spread (true ∷ bs) few all = (At all 0 ≡ At few 0) × Spread bs (drop 1 few) (drop 1 all)
Spread (false ∷ bs) few all = (At all 0 ≡ pos 0) × Spread bs few (drop 1 all)

abbrev pub passing : List Bool → ℕ
passing [] = 0
passing (true ∷ bs) = suc (passing bs)
passing (false ∷ bs) = passing bs

spread_sum : (bs : List Bool) (few more all whole : List ℤ) → Spread bs few all → Spread bs more whole → Spread bs (added few more) (added all whole)
spread_sum [] few more all whole h k = λ j. get_or-added all whole j ∙ ap₂ (λ x y. x +ℤ y) (h j) (k j) ∙ sym (get_or-added few more j)
spread_sum (true ∷ bs) few more all whole h k = (
  get_or-added all whole 0 ∙ ap₂ (λ x y. x +ℤ y) h.0 k.0 ∙ sym (get_or-added few more 0),
  subst (λ cs. Spread bs cs (drop 1 (added all whole))) (sym (drop_added few more))
      (subst (Spread bs (added (drop 1 few) (drop 1 more))) (sym (drop_added all whole)) (spread_sum bs (drop 1 few) (drop 1 more) (drop 1 all) (drop 1 whole) h.1 k.1)),
)
spread_sum (false ∷ bs) few more all whole h k = (
  get_or-added all whole 0 ∙ ap₂ (λ x y. x +ℤ y) h.0 k.0,
  subst (Spread bs (added few more)) (sym (drop_added all whole)) (spread_sum bs few more (drop 1 all) (drop 1 whole) h.1 k.1),
)

spread_scaled : (bs : List Bool) (k : ℤ) (few all : List ℤ) → Spread bs few all → Spread bs (map (λ a. k *ℤ a) few) (map (λ a. k *ℤ a) all)
spread_scaled [] k few all h = λ j. get_or-scaled k all j ∙ ap (λ x. k *ℤ x) (h j) ∙ sym (get_or-scaled k few j)
spread_scaled (true ∷ bs) k few all h = (
  get_or-scaled k all 0 ∙ ap (λ x. k *ℤ x) h.0 ∙ sym (get_or-scaled k few 0),
  subst (λ cs. Spread bs cs (drop 1 (map (λ a. k *ℤ a) all))) (sym (drop_scaled k few))
      (subst (Spread bs (map (λ a. k *ℤ a) (drop 1 few))) (sym (drop_scaled k all)) (spread_scaled bs k (drop 1 few) (drop 1 all) h.1)),
)
spread_scaled (false ∷ bs) k few all h = (
  get_or-scaled k all 0 ∙ ap (λ x. k *ℤ x) h.0 ∙ sym (get_or-scaled k [] 0),
  subst (Spread bs (map (λ a. k *ℤ a) few)) (sym (drop_scaled k all)) (spread_scaled bs k few (drop 1 all) h.1),
)

spread_none : (bs : List Bool) → Spread bs [] []
spread_none [] = λ j. refl
spread_none (true ∷ bs) = (refl, spread_none bs)
spread_none (false ∷ bs) = (refl, spread_none bs)

spread_small : (bs : List Bool) (few all : List ℤ) → Spread bs few all → ((j : ℕ) → is_small (At few j) ≡ true) → (j : ℕ) → is_small (At all j) ≡ true
spread_small [] few all h s j = ap is_small (h j) ∙ s j
spread_small (true ∷ bs) few all h s zero = ap is_small h.0 ∙ s 0
spread_small (true ∷ bs) few all h s (suc j) =
    ap is_small (after_one all j) ∙ spread_small bs (drop 1 few) (drop 1 all) h.1 (λ i. ap is_small (sym (after_one few i)) ∙ s (suc i)) j
spread_small (false ∷ bs) few all h s zero = ap is_small h.0
spread_small (false ∷ bs) few all h s (suc j) = ap is_small (after_one all j) ∙ spread_small bs few (drop 1 all) h.1 s j

-- behind the loops both are alike
pub spread_rest : (bs : List Bool) (few all : List ℤ) → Spread bs few all → (j : ℕ) → At (drop (length bs) all) j ≡ At (drop (passing bs) few) j
spread_rest [] few all h j = h j
spread_rest (true ∷ bs) few all h j =
    ap (λ cs. At cs j) (drop_more (length bs) all) ∙ spread_rest bs (drop 1 few) (drop 1 all) h.1 j ∙ ap (λ cs. At cs j) (sym (drop_more (passing bs) few))
spread_rest (false ∷ bs) few all h j = ap (λ cs. At cs j) (drop_more (length bs) all) ∙ spread_rest bs few (drop 1 all) h.1 j

-- ---- forms

pub record Spreads (bs : List Bool) (few all : Form) : Type 0 where
  pub coefficients : Spread bs few.coefficients all.coefficients
  pub constant : all.constant ≡ few.constant

spreads_limits : (bs : List Bool) (few all : Form) → Spreads bs few all → is_limited (passing bs) few ≡ true → is_limited (length bs) all ≡ true
spreads_limits bs few all h l =
    let p = both (all_small few.coefficients) (is_small few.constant && nat_le (not_zero (drop (passing bs) few.coefficients)) 8) l in
    let q = both (is_small few.constant) (nat_le (not_zero (drop (passing bs) few.coefficients)) 8) p.1 in
    ap (λ b. b && (is_small all.constant && nat_le (not_zero (drop (length bs) all.coefficients)) 8))
    (small_from all.coefficients (spread_small bs few.coefficients all.coefficients h.coefficients (small_at few.coefficients p.0)))
    ∙ (ap (λ b. b && nat_le (not_zero (drop (length bs) all.coefficients)) 8) (ap is_small h.constant ∙ q.0)
    ∙ (ap (λ k. nat_le k 8) (alike_not_zero (drop (length bs) all.coefficients) (drop (passing bs) few.coefficients) (spread_rest bs few.coefficients all.coefficients h.coefficients)) ∙ q.1))

-- the form over all loops
pub record Whole (bs : List Bool) (o : Option Form) (few : Form) : Type 0 where
  pub form : Form
  pub is : o ≡ Some form
  pub spreads : Spreads bs few form

whole_limited : (bs : List Bool) (o : Option Form) (g f : Form) → Whole bs o g → limited (passing bs) (Some g) ≡ Some f → Whole bs (limited (length bs) o) f
whole_limited bs o g f w h = by (is_limited (passing bs) g) refl h
  where
    by : (b : Bool) → is_limited (passing bs) g ≡ b → cond b (Some g) None ≡ Some f → Whole bs (limited (length bs) o) f
    by true e k =
        let same : g ≡ f = cc in
        let kept = spreads_limits bs g w.form w.spreads e in
        record {
          form = w.form;
          is = ap (λ p. limited (length bs) p) w.is ∙ ap (λ b. cond b (Some w.form) None) kept;
          spreads = subst (λ (q : Form). Spreads bs q w.form) same w.spreads;
        }
    by false e k = let no : ⊥ = cc in absurd no

-- a node that is a constant, or has the form of its parts
whole_node : (bs : List Bool) (o : Option ℤ) (p q : Option Form) (f : Form) → ((g : Form) → p ≡ Some g → Whole bs q g) → limited (passing bs) (constant_or o p) ≡ Some f
    → Whole bs (limited (length bs) (constant_or o q)) f
whole_node bs (Some z) p q f more h =
    whole_limited bs (Some (constant_form z)) (constant_form z) f (record { form = constant_form z; is = refl; spreads = record { coefficients = spread_none bs; constant = refl } }) h
whole_node bs None p q f more h = by p refl h
  where
    by : (r : Option Form) → p ≡ r → limited (passing bs) r ≡ Some f → Whole bs (limited (length bs) q) f
    by None e k = let no : ⊥ = cc in absurd no
    by (Some g) e k = whole_limited bs q g f (more g e) k

whole_sum : (bs : List Bool) (f g f' g' : Form) → Spreads bs f f' → Spreads bs g g' → Spreads bs (sum f g) (sum f' g')
whole_sum bs f g f' g' h k = record {
  coefficients = spread_sum bs f.coefficients g.coefficients f'.coefficients g'.coefficients h.coefficients k.coefficients;
  constant = ap₂ (λ x y. x +ℤ y) h.constant k.constant;
}

whole_multiple : (bs : List Bool) (z : ℤ) (f f' : Form) → Spreads bs f f' → Spreads bs (multiple z f) (multiple z f')
whole_multiple bs z f f' h = record {
  coefficients = spread_scaled bs z f.coefficients f'.coefficients h.coefficients;
  constant = ap (λ x. z *ℤ x) h.constant;
}

one_form : (f g : Form) → ◌≡◌ {A = Option Form} (Some f) (Some g) → f ≡ g
one_form f g h = cc

made : (bs : List Bool) (f g f' : Form) → ◌≡◌ {A = Option Form} (Some f) (Some g) → Spreads bs f f' → Whole bs (Some f') g
made bs f g f' e h = record { form = f'; is = refl; spreads = subst (λ (q : Form). Spreads bs q f') (one_form f g e) h }

whole_sign : (bs : List Bool) (o : Op) (p q : Option Form) (g : Form) → ((f : Form) → p ≡ Some f → Whole bs q f) → form_of_sign o p ≡ Some g → Whole bs (form_of_sign o q) g
whole_sign bs Neg None q g more h = let no : ⊥ = cc in absurd no
whole_sign bs Neg (Some f) q g more h =
    let w = more f refl in
    subst (λ r. Whole bs (form_of_sign Neg r) g) (sym w.is) (made bs (multiple (negsuc 0) f) g (multiple (negsuc 0) w.form) h (whole_multiple bs (negsuc 0) f w.form w.spreads))
whole_sign bs o p q g more h = let no : ⊥ = cc in absurd no

whole_product : (bs : List Bool) (k l : Option ℤ) (f g f' g' h : Form) → Spreads bs f f' → Spreads bs g g' → form_of_product k l f g ≡ Some h → Whole bs (form_of_product k l f' g') h
whole_product bs (Some k) l f g f' g' h s t e = made bs (multiple k g) h (multiple k g') e (whole_multiple bs k g g' t)
whole_product bs None (Some l) f g f' g' h s t e = made bs (multiple l f) h (multiple l f') e (whole_multiple bs l f f' s)
whole_product bs None None f g f' g' h s t e = let no : ⊥ = cc in absurd no

whole_two : (bs : List Bool) (o : Op) (k l : Option ℤ) (f g f' g' h : Form) → Spreads bs f f' → Spreads bs g g' → form_of_two o k l f g ≡ Some h → Whole bs (form_of_two o k l f' g') h
whole_two bs Add k l f g f' g' h s t e = made bs (sum f g) h (sum f' g') e (whole_sum bs f g f' g' s t)
whole_two bs Sub k l f g f' g' h s t e =
    made bs (sum f (multiple (negsuc 0) g)) h (sum f' (multiple (negsuc 0) g')) e (whole_sum bs f (multiple (negsuc 0) g) f' (multiple (negsuc 0) g') s (whole_multiple bs (negsuc 0) g g' t))
whole_two bs Mul k l f g f' g' h s t e = whole_product bs k l f g f' g' h s t e
whole_two bs o k l f g f' g' h s t e = let no : ⊥ = cc in absurd no

whole_pair : (bs : List Bool) (o : Op) (k l : Option ℤ) (p q p' q' : Option Form) (h : Form) → ((f : Form) → p ≡ Some f → Whole bs p' f) → ((g : Form) → q ≡ Some g → Whole bs q' g)
    → form_of_pair o k l p q ≡ Some h → Whole bs (form_of_pair o k l p' q') h
whole_pair bs o k l None q p' q' h m n e = let no : ⊥ = cc in absurd no
whole_pair bs o k l (Some f) None p' q' h m n e = let no : ⊥ = cc in absurd no
whole_pair bs o k l (Some f) (Some g) p' q' h m n e =
    let v = m f refl in
    let w = n g refl in
    subst (λ r. Whole bs (form_of_pair o k l r q') h) (sym v.is)
    (subst (λ r. Whole bs (form_of_pair o k l (Some v.form) r) h) (sym w.is) (whole_two bs o k l f g v.form w.form h v.spreads w.spreads e))

-- ---- the loops whose variables are asked for

module _ (asked : Outer → Bool) (symbols : List (List ℕ)) where
  -- the loops with this variable pass
  abbrev pub Passes : List ℕ → Type 0
  Passes x = (r : Outer) → bytes_eq r.variable x ≡ true → asked r ≡ true

  abbrev few_names : List Outer → List (List ℕ)
  few_names rs = outer_variables_of (filter asked rs) ++ symbols

  abbrev all_names : List Outer → List (List ℕ)
  all_names rs = outer_variables_of rs ++ symbols

  abbrev marks : List Outer → List Bool
  marks rs = map asked rs

  pub record WholeUnit (bs : List Bool) (o : Option (List ℤ)) (few : List ℤ) : Type 0 where
    pub list : List ℤ
    pub is : o ≡ Some list
    pub spread : Spread bs few list

  whole_unit : (x : List ℕ) → Passes x → (rs : List Outer) (cs : List ℤ) → unit (few_names rs) x ≡ Some cs → WholeUnit (marks rs) (unit (all_names rs) x) cs
  whole_unit x p [] cs h = record { list = cs; is = h; spread = λ j. refl }
  whole_unit x p (r ∷ rs) cs h = by (asked r) refl h (whole_unit x p rs)
    where
      zero_before : (bs : List Bool) (few all : List ℤ) → Spread bs few all → Spread (true ∷ bs) (pos 0 ∷ few) (pos 0 ∷ all)
      zero_before bs few all s = (refl, s)

      -- it passes, and isn't the name that is looked for
      later : (o : Option (List ℤ)) → unit (few_names rs) x ≡ o → with_zero o ≡ Some cs → ((ds : List ℤ) → unit (few_names rs) x ≡ Some ds → WholeUnit (marks rs) (unit (all_names rs) x) ds)
          → WholeUnit (true ∷ marks rs) (with_zero (unit (all_names rs) x)) cs
      later None e k more = let no : ⊥ = cc in absurd no
      later (Some ds) e k more =
          let w = more ds e in
          let same : pos 0 ∷ ds ≡ cs = cc in
          record {
            list = pos 0 ∷ w.list;
            is = ap with_zero w.is;
            spread = subst (λ (few : List ℤ). Spread (true ∷ marks rs) few (pos 0 ∷ w.list)) same (zero_before (marks rs) ds w.list w.spread);
          }

      first : (b : Bool) → bytes_eq r.variable x ≡ b → cond b (Some (pos 1 ∷ [])) (with_zero (unit (few_names rs) x)) ≡ Some cs
          → ((ds : List ℤ) → unit (few_names rs) x ≡ Some ds → WholeUnit (marks rs) (unit (all_names rs) x) ds)
          → WholeUnit (true ∷ marks rs) (cond b (Some (pos 1 ∷ [])) (with_zero (unit (all_names rs) x))) cs
      first true e k more =
          let same : pos 1 ∷ [] ≡ cs = cc in
          record {
            list = pos 1 ∷ [];
            is = refl;
            spread = subst (λ (few : List ℤ). Spread (true ∷ marks rs) few (pos 1 ∷ [])) same (refl, spread_none (marks rs));
          }
      first false e k more = later (unit (few_names rs) x) refl k more

      -- it doesn't pass, and so isn't that name
      passed : (b : Bool) → bytes_eq r.variable x ≡ b → asked r ≡ false → WholeUnit (marks rs) (unit (all_names rs) x) cs
          → WholeUnit (false ∷ marks rs) (cond b (Some (pos 1 ∷ [])) (with_zero (unit (all_names rs) x))) cs
      passed true e q w = let yes = p r e in let no : ⊥ = cc in absurd no
      passed false e q w = record { list = pos 0 ∷ w.list; is = ap with_zero w.is; spread = (refl, w.spread) }

      by : (b : Bool) → asked r ≡ b → unit (outer_variables_of (cond b (r ∷ filter asked rs) (filter asked rs)) ++ symbols) x ≡ Some cs
          → ((ds : List ℤ) → unit (few_names rs) x ≡ Some ds → WholeUnit (marks rs) (unit (all_names rs) x) ds)
          → WholeUnit (b ∷ marks rs) (unit (all_names (r ∷ rs)) x) cs
      by true e k more = first (bytes_eq r.variable x) refl k more
      by false e k more = passed (bytes_eq r.variable x) refl e (more cs k)

  count_passing : (rs : List Outer) → length (outer_variables_of (filter asked rs)) ≡ passing (marks rs)
  count_passing [] = refl
  count_passing (r ∷ rs) = by (asked r) (count_passing rs)
    where
      by : (b : Bool) → length (outer_variables_of (filter asked rs)) ≡ passing (marks rs) → length (outer_variables_of (cond b (r ∷ filter asked rs) (filter asked rs))) ≡ passing (b ∷ marks rs)
      by true h = ap suc h
      by false h = h

  count_all : (rs : List Outer) → length (outer_variables_of rs) ≡ length (marks rs)
  count_all [] = refl
  count_all (r ∷ rs) = ap suc (count_all rs)

  module _ (rs : List Outer) where
    whole_name : (x : List ℕ) (ps : Subscripts) (g : Form) → Passes x → form_of_name (few_names rs) x ps ≡ Some g → Whole (marks rs) (form_of_name (all_names rs) x ps) g
    whole_name x (subscript s ss) g p h = let no : ⊥ = cc in absurd no
    whole_name x no_subscripts g p h = by (unit (few_names rs) x) refl h
      where
        by : (o : Option (List ℤ)) → unit (few_names rs) x ≡ o → with_no_constant o ≡ Some g → Whole (marks rs) (with_no_constant (unit (all_names rs) x)) g
        by None e k = let no : ⊥ = cc in absurd no
        by (Some cs) e k =
            let w = whole_unit x p rs cs e in
            let f : Form = record { coefficients = cs; constant = pos 0 } in
            let f' : Form = record { coefficients = w.list; constant = pos 0 } in
            subst (λ o. Whole (marks rs) (with_no_constant o) g) (sym w.is) (made (marks rs) f g f' k (record { coefficients = w.spread; constant = refl }))

    left_pass : (xs ys : List (List ℕ)) → Each (λ (x : List ℕ). Passes x) (xs ++ ys) → Each (λ (x : List ℕ). Passes x) xs
    left_pass [] ys h = tt
    left_pass (x ∷ xs) ys h = (h.0, left_pass xs ys h.1)

    right_pass : (xs ys : List (List ℕ)) → Each (λ (x : List ℕ). Passes x) (xs ++ ys) → Each (λ (x : List ℕ). Passes x) ys
    right_pass [] ys h = h
    right_pass (x ∷ xs) ys h = right_pass xs ys h.1

    no_form : (q : Option Form) (g : Form) → ◌≡◌ {A = Option Form} None (Some g) → Whole (marks rs) q g
    no_form q g e = let no : ⊥ = cc in absurd no

    whole : (e : Expression) (f : Form) → Each (λ (x : List ℕ). Passes x) (names_in e) → linear (passing (marks rs)) (few_names rs) e ≡ Some f
        → Whole (marks rs) (linear (length (marks rs)) (all_names rs) e) f
    whole (Number n) f p h = whole_node (marks rs) (constant_of (Number n)) None None f (no_form None) h
    whole (Logic b) f p h = let no : ⊥ = cc in absurd no
    whole (Named x ps) f p h =
        whole_node (marks rs) None (form_of_name (few_names rs) x ps) (form_of_name (all_names rs) x ps) f (λ g e. whole_name x ps g p.0 e) h
    whole (Unary o a) f p h =
        whole_node (marks rs) (constant_of (Unary o a)) (form_of_sign o (linear (passing (marks rs)) (few_names rs) a)) (form_of_sign o (linear (length (marks rs)) (all_names rs) a)) f
        (λ g e. whole_sign (marks rs) o (linear (passing (marks rs)) (few_names rs) a) (linear (length (marks rs)) (all_names rs) a) g (λ k i. whole a k p i) e) h
    whole (Binary o a b) f p h =
        whole_node (marks rs) (constant_of (Binary o a b))
        (form_of_pair o (constant_of a) (constant_of b) (linear (passing (marks rs)) (few_names rs) a) (linear (passing (marks rs)) (few_names rs) b))
        (form_of_pair o (constant_of a) (constant_of b) (linear (length (marks rs)) (all_names rs) a) (linear (length (marks rs)) (all_names rs) b)) f
        (λ g e. whole_pair (marks rs) o (constant_of a) (constant_of b) (linear (passing (marks rs)) (few_names rs) a) (linear (passing (marks rs)) (few_names rs) b)
        (linear (length (marks rs)) (all_names rs) a) (linear (length (marks rs)) (all_names rs) b) g
        (λ k i. whole a k (left_pass (names_in a) (names_in b) p) i) (λ k i. whole b k (right_pass (names_in a) (names_in b) p) i) e) h
    whole (Apply f' es) f p h = whole_node (marks rs) (constant_of (Apply f' es)) None None f (no_form None) h
    whole (Constructor es ls) f p h = let no : ⊥ = cc in absurd no
    whole (Spread' a n e) f p h = let no : ⊥ = cc in absurd no
    whole (Transpose a) f p h = let no : ⊥ = cc in absurd no
    whole (Reshape a es) f p h = let no : ⊥ = cc in absurd no
    whole (Reduce r a) f p h = let no : ⊥ = cc in absurd no

    pub whole_form : (e : Expression) (f : Form) → length rs ≤ 7 → Each (λ (x : List ℕ). Passes x) (names_in e) → form_of (outer_variables_of (filter asked rs)) symbols e ≡ Some f
        → Whole (marks rs) (form_of (outer_variables_of rs) symbols e) f
    whole_form e f few p h = by (nat_le (length (outer_variables_of (filter asked rs))) 7) h
      where
        here : nat_le (length (outer_variables_of rs)) 7 ≡ true
        here = le-leb (length (outer_variables_of rs)) 7 (let a = count_all rs in let b = count_marks rs in omega (arith, few, a, b))
          where
            count_marks : (qs : List Outer) → length (marks qs) ≡ length qs
            count_marks [] = refl
            count_marks (q ∷ qs) = ap suc (count_marks qs)

        by : (b : Bool) → cond b (linear (length (outer_variables_of (filter asked rs))) (few_names rs) e) None ≡ Some f → Whole (marks rs) (form_of (outer_variables_of rs) symbols e) f
        by false k = let no : ⊥ = cc in absurd no
        by true k =
            let w = whole e f p (ap (λ n. linear n (few_names rs) e) (sym (count_passing rs)) ∙ k) in
            record {
              form = w.form;
              is = ap (λ b. cond b (linear (length (outer_variables_of rs)) (all_names rs) e) None) here ∙ (ap (λ n. linear n (all_names rs) e) (count_all rs) ∙ w.is);
              spreads = w.spreads;
            }
