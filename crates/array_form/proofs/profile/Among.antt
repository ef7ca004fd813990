-- How many loops stand in names and in subscripts.
use Rattle.std.proofs.Common.{◌≡◌, refl, sym, ap, ◌∙◌, subst, ℕ, suc, ◌+◌, ◌≤◌, Bool, true, false, cond, ◌&&◌, List, []}
use Rattle.std.proofs.Common.{◌∷◌, ◌++◌, length, filter, Contains, arith}
use Rattle.std.specs.Str.{bytes_eq}
use Rattle.std.proofs.lemmas.Bool.{false_from_ne_true, both_ways}
use Rattle.std.proofs.lemmas.List.{length-map}
use Rattle.std.proofs.lemmas.Slice.Eq.{bytes_eq-Decides}
use Rattle.tree.specs.Plain.{Subscripts, no_subscripts, subscript}
use Rattle.meaning.specs.Reads.{names_in_subscript, names_in_subscripts}
use Rattle.meaning_laws.proofs.arrays.Members.{here}
use Rattle.array_form.specs.forms.Following.{has_no_loop}
use Rattle.array_form.specs.forms.Loops.{FormLoop, FormSurroundings, form_variables_of, is_among, loops_among}
use Rattle.array_form.specs.forms.Trips.{AreDistinct}
use Rattle.array_form.specs.forms.Loops.{loops_in_order}
use Rattle.array_form.proofs.forms.Forming.{none_append}
use Rattle.array_form.proofs.forms.Names.{among}
use Rattle.array_form.proofs.forms.Orders.{loop_of, of_filter, filter_distinct}
use Rattle.array_form.proofs.forms.Values.{variable_in}
use Rattle.array_form.specs.profile.Settings.{AreSomeLoops}

-- ---- distinct names that are all among others are no more than these

abbrev others : List ℕ → List (List ℕ) → List (List ℕ)
others x [] = []
others x (y ∷ ys) = cond (bytes_eq x y) ys (y ∷ others x ys)

others_length : (x : List ℕ) (ys : List (List ℕ)) → length ys ≤ 1 + length (others x ys)
others_length x [] = omega arith
others_length x (y ∷ ys) = by (bytes_eq x y) (others_length x ys)
  where
    by : (b : Bool) → length ys ≤ 1 + length (others x ys) → suc (length ys) ≤ 1 + length (cond b ys (y ∷ others x ys))
    by true more = omega arith
    by false more = omega (arith, more)

others_among : (x : List ℕ) (ys : List (List ℕ)) (z : List ℕ) → AreDistinct ys → is_among (others x ys) z ≡ true
    → (is_among ys z ≡ true) × (bytes_eq x z ≡ false)
others_among x [] z d h = absurd cc
others_among x (y ∷ ys) z d h = by (bytes_eq x y) refl h (others_among x ys z d.1)
  where
    first : bytes_eq x y ≡ true → is_among ys z ≡ true → bytes_eq x z ≡ false
    first e h = false_from_ne_true (bytes_eq x z) (λ f.
        let same = sym ((bytes_eq-Decides x y).0 e) ∙ (bytes_eq-Decides x z).0 f in
        both_ways (is_among ys z) (subst (λ w. is_among ys w ≡ false) same d.0) h)

    itself : bytes_eq x y ≡ false → bytes_eq y z ≡ true → bytes_eq x z ≡ false
    itself e f = subst (λ w. bytes_eq x w ≡ false) ((bytes_eq-Decides y z).0 f) e

    under : (b : Bool) → is_among ys z ≡ true → cond b true (is_among ys z) ≡ true
    under true h = refl
    under false h = h

    after : (b : Bool) → bytes_eq y z ≡ b → bytes_eq x y ≡ false → cond b true (is_among (others x ys) z) ≡ true
        → (is_among (others x ys) z ≡ true → (is_among ys z ≡ true) × (bytes_eq x z ≡ false))
        → (cond b true (is_among ys z) ≡ true) × (bytes_eq x z ≡ false)
    after true f e h more = (refl, itself e f)
    after false f e h more = more h

    by : (b : Bool) → bytes_eq x y ≡ b → is_among (cond b ys (y ∷ others x ys)) z ≡ true
        → (is_among (others x ys) z ≡ true → (is_among ys z ≡ true) × (bytes_eq x z ≡ false))
        → (is_among (y ∷ ys) z ≡ true) × (bytes_eq x z ≡ false)
    by true e h more = (under (bytes_eq y z) h, first e h)
    by false e h more = after (bytes_eq y z) refl e h more

others_distinct : (x : List ℕ) (ys : List (List ℕ)) → AreDistinct ys → AreDistinct (others x ys)
others_distinct x [] d = tt
others_distinct x (y ∷ ys) d = by (bytes_eq x y) (others_distinct x ys d.1)
  where
    by : (b : Bool) → AreDistinct (others x ys) → AreDistinct (cond b ys (y ∷ others x ys))
    by true more = d.1
    by false more =
        let apart = false_from_ne_true (is_among (others x ys) y)
        (λ e. both_ways (is_among ys y) d.0 (others_among x ys y d.1 e).0) in
        (apart, more)

no_more : (xs ys : List (List ℕ)) → AreDistinct ys → ((z : List ℕ) → is_among ys z ≡ true → is_among xs z ≡ true)
    → length ys ≤ length xs
no_more [] [] d h = omega arith
no_more [] (y ∷ ys) d h = absurd (both_ways false refl (h y (among (y ∷ ys) y (here y ys))))
no_more (x ∷ xs) ys d h =
    let less = no_more xs (others x ys) (others_distinct x ys d)
    (λ z k. let o = others_among x ys z d k in past (bytes_eq x z) (is_among xs z) o.1 (h z o.0)) in
    let all = others_length x ys in
    omega (arith, less, all)
  where
    past : (b c : Bool) → b ≡ false → cond b true c ≡ true → c ≡ true
    past true c e k = absurd (both_ways true e refl)
    past false c e k = k

-- ---- some of the loops

pub few_loops : (a : FormSurroundings) (D : List FormLoop) → AreSomeLoops a D → length a.loops ≤ 7 → length D ≤ 7
few_loops a D s few =
    let all : length (form_variables_of D) ≤ length (form_variables_of a.loops) = no_more (form_variables_of a.loops)
    (form_variables_of D) s.once (λ z k.
    let l = loop_of D z k in
    subst (λ x. is_among (form_variables_of a.loops) x ≡ true) l.2
    (among (form_variables_of a.loops) l.0.variable (variable_in a.loops l.0 (s.among l.0 l.1)))) in
    let p : length (form_variables_of D) ≡ length D = length-map D (λ (l : FormLoop). l.variable) in
    let q : length (form_variables_of a.loops) ≡ length a.loops = length-map a.loops (λ (l : FormLoop). l.variable) in
    omega (arith, all, p, q, few)

abbrev pub stands_in : List (List ℕ) → FormLoop → Bool
stands_in names l = is_among names l.variable

pub among_some : (a : FormSurroundings) (D : List FormLoop) (names : List (List ℕ)) → AreSomeLoops a D
    → AreSomeLoops a (loops_among D names)
among_some a D names s = record {
  among = λ l c. s.among l (of_filter (stands_in names) D l c).0;
  once = filter_distinct (stands_in names) D s.once;
}

pub no_more_among : (t : FormLoop → Bool) (D : List FormLoop) → length (filter t D) ≤ length D
no_more_among t [] = omega arith
no_more_among t (l ∷ D) = by (t l) (no_more_among t D)
  where
    by : (b : Bool) → length (filter t D) ≤ length D → length (cond b (l ∷ filter t D) (filter t D)) ≤ suc (length D)
    by true more = omega (arith, more)
    by false more = omega (arith, more)

pub filter_again : (t : FormLoop → Bool) (D : List FormLoop) → filter t (filter t D) ≡ filter t D
filter_again t [] = refl
filter_again t (l ∷ D) = by (t l) refl (filter_again t D)
  where
    by : (b : Bool) → t l ≡ b → filter t (filter t D) ≡ filter t D
        → filter t (cond b (l ∷ filter t D) (filter t D)) ≡ cond b (l ∷ filter t D) (filter t D)
    by true e more = ap (λ b. cond b (l ∷ filter t (filter t D)) (filter t (filter t D))) e
        ∙ ap (λ (xs : List FormLoop). l ∷ xs) more
    by false e more = more

-- ---- loops in the order of subscripts

pub none_in_nothing : (D : List FormLoop) → has_no_loop (loops_among D []) ≡ true
none_in_nothing [] = refl
none_in_nothing (l ∷ D) = none_in_nothing D

none_of_both : (xs ys : List FormLoop) → has_no_loop (xs ++ ys) ≡ (has_no_loop xs && has_no_loop ys)
none_of_both [] ys = refl
none_of_both (x ∷ xs) ys = refl

order_none : (D : List FormLoop) (ps : Subscripts)
    → has_no_loop (loops_in_order D ps) ≡ has_no_loop (loops_among D (names_in_subscripts ps))
order_none D no_subscripts = sym (none_in_nothing D)
order_none D (subscript p ps) =
    none_of_both (loops_among D (names_in_subscript p)) (loops_in_order D ps)
    ∙ (ap (λ b. has_no_loop (loops_among D (names_in_subscript p)) && b) (order_none D ps)
    ∙ sym (none_append D (names_in_subscript p) (names_in_subscripts ps)))

not_named : (D : List FormLoop) (x : List ℕ) → ((l : FormLoop) → Contains D l → x ≡ l.variable → ⊥)
    → has_no_loop (loops_among D (x ∷ [])) ≡ true
not_named D x apart = by (loops_among D (x ∷ [])) refl
  where
    named : (v : List ℕ) → is_among (x ∷ []) v ≡ true → x ≡ v
    named v e = of (bytes_eq x v) refl e
      where
        of : (b : Bool) → bytes_eq x v ≡ b → cond b true false ≡ true → x ≡ v
        of true f e = (bytes_eq-Decides x v).0 f
        of false f e = absurd (both_ways false refl e)

    by : (ls : List FormLoop) → loops_among D (x ∷ []) ≡ ls → has_no_loop ls ≡ true
    by [] e = refl
    by (l ∷ ls) e =
        let m = of_filter (stands_in (x ∷ [])) D l (subst (λ xs. Contains xs l) (sym e) (here l ls)) in
        absurd (apart l m.0 (named l.variable m.1))

-- where a loop stands in a name with subscripts that is no loop variable, one stands in the subscripts
pub some_in_order : (D : List FormLoop) (x : List ℕ) (ps : Subscripts) → ((l : FormLoop) → Contains D l → x ≡ l.variable → ⊥)
    → has_no_loop (loops_among D (x ∷ names_in_subscripts ps)) ≡ false
    → 1 ≤ length (loops_in_order D ps)
some_in_order D x ps apart h = by (loops_in_order D ps) (order_none D ps ∙ subscripts)
  where
    subscripts : has_no_loop (loops_among D (names_in_subscripts ps)) ≡ false
    subscripts = ap (λ b. b && has_no_loop (loops_among D (names_in_subscripts ps))) (sym (not_named D x apart))
        ∙ (sym (none_append D (x ∷ []) (names_in_subscripts ps)) ∙ h)

    by : (ls : List FormLoop) → has_no_loop ls ≡ false → 1 ≤ length ls
    by [] e = absurd (both_ways true e refl)
    by (l ∷ ls) e = omega arith
