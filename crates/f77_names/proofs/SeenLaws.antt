-- What stands before a statement, as the names know it.
use Rattle.std.proofs.Common.{◌≡◌, ℕ, suc, ◌+◌, ◌<◌, Bool, true, false, ◌||◌, ◌&&◌, cond, is_some, List, [], ◌∷◌, ◌++◌, map, take, drop, reverse, length, get_or, refl, sym, ap, ◌∙◌, subst, add-one, drop-cons}
use Rattle.std.specs.Str.{bytes_eq}
use Rattle.std.specs.List.{filter}
use Rattle.std.specs.Cmp.Lexicographic.{nat_list_eq_equiv}
use Rattle.std.proofs.lemmas.Slice.Eq.{bytes_eq-Decides}
use Rattle.std.proofs.lemmas.List.{map-append, reverse-append}
use Rattle.std.proofs.lemmas.List.Folds.{list_any-append}
use Rattle.meaning.specs.Names.{is_among}
use Rattle.f77_grammar.specs.program.Uses.{Role, Title, Typed, Bounded, Defined, Valued, Target, Counter, Use77, use77_of, is_title_role, is_typed, is_bounded, is_defined, names_that, stands}
use Rattle.f77_grammar.specs.program.Declarations.{has_repeat, is_array_or_constant}
use Rattle.f77_names.specs.declared.names.Facts.{Facts}
use Rattle.f77_names.specs.declared.names.Names.{Names}
use Rattle.f77_names.specs.NameFacts.{nothing_known, facts_with, facts_in}
use Rattle.f77_names.specs.Seen.{is_typed_by, is_shaped_by, HaveSeen, declares_again, is_again_by, AreDefined}
use Rattle.f77_names.proofs.FactLaws.{noted, constant_step, typed_step, bounded_step, title_step}
use Rattle.f77_names.proofs.UseLaws.{one_more}

-- ---- what was gone through, the last first

pub behind_more : {A B : Type 0} (view : A → B) (list : List A) (i : ℕ) (x : A) (rest : List B) → i < length list → x ≡ get_or list i x
    → reverse (map view (take (i + 1) list)) ++ rest ≡ view x ∷ (reverse (map view (take i list)) ++ rest)
behind_more view list i x rest h e =
    ap (λ xs. reverse (map view xs) ++ rest) (one_more list i x h e)
    ∙ ap (λ ys. reverse ys ++ rest) (map-append view (take i list) (x ∷ []))
    ∙ ap (λ ys. ys ++ rest) (reverse-append (map view (take i list)) (view x ∷ []))

pub ahead_at : {A B : Type 0} (view : A → B) (list : List A) (i : ℕ) (x : A) → i < length list → x ≡ get_or list i x
    → map view (drop i list) ≡ view x ∷ map view (drop (i + 1) list)
ahead_at view list i x h e =
    ap (map view) (drop-cons list i x h)
    ∙ ap (λ y. view y ∷ map view (drop (suc i) list)) (sym e)
    ∙ ap (λ n. view x ∷ map view (drop n list)) (sym (add-one i))

-- ---- how a name stands among uses

pub among_is : (test : Role → Bool) (us : List Use77) (x : List ℕ) → is_among (names_that test us) x ≡ stands test us x
among_is test [] x = refl
among_is test (u ∷ us) x = cases (test u.role) (among_is test us x)
  where
    cases : (b : Bool) → is_among (names_that test us) x ≡ stands test us x → is_among (map (λ (v : Use77). v.name) (cond b (u ∷ filter (λ (v : Use77). test v.role) us) (filter (λ (v : Use77). test v.role) us))) x
        ≡ ((b && bytes_eq u.name x) || stands test us x)
    cases true e = ap (λ b. b || is_among (names_that test us) x) (nat_list_eq_equiv.symm x u.name) ∙ ap (λ b. bytes_eq u.name x || b) e
    cases false e = e

pub stands_append : (test : Role → Bool) (us vs : List Use77) (x : List ℕ) → stands test (us ++ vs) x ≡ (stands test us x || stands test vs x)
stands_append test us vs x = list_any-append (λ (u : Use77). test u.role && bytes_eq u.name x) us vs

swapped : (a b : Bool) → (a || (b || false)) ≡ (b || a)
swapped true true = refl
swapped true false = refl
swapped false true = refl
swapped false false = refl

pub stands_reverse : (test : Role → Bool) (us : List Use77) (x : List ℕ) → stands test (reverse us) x ≡ stands test us x
stands_reverse test [] x = refl
stands_reverse test (u ∷ us) x =
    ap (λ vs. stands test vs x) (reverse-append (u ∷ []) us)
    ∙ stands_append test (reverse us) (u ∷ []) x
    ∙ ap (λ b. b || stands test (u ∷ []) x) (stands_reverse test us x)
    ∙ swapped (stands test us x) (test u.role && bytes_eq u.name x)

turned : (test : Role → Bool) (us seen : List Use77) (x : List ℕ) → stands test (reverse us ++ seen) x ≡ stands test (us ++ seen) x
turned test us seen x =
    stands_append test (reverse us) seen x
    ∙ ap (λ b. b || stands test seen x) (stands_reverse test us x)
    ∙ sym (stands_append test us seen x)

pub seen_turned : (names : Names) (us seen : List Use77) → HaveSeen names (reverse us ++ seen) → HaveSeen names (us ++ seen)
seen_turned names us seen h = record {
  typed = λ x. h.typed x ∙ turned is_typed us seen x;
  shaped = λ x. h.shaped x ∙ turned is_array_or_constant us seen x;
  constant = λ x. h.constant x ∙ turned is_defined us seen x;
  title = λ x. h.title x ∙ turned is_title_role us seen x;
}

pub seen_same : (names : Names) (us vs : List Use77) → us ≡ vs → HaveSeen names us → HaveSeen names vs
seen_same names us vs e h = subst (HaveSeen names) e h

-- ---- one use more

shaped_step : (f : Facts) (r : Role) → is_shaped_by (facts_with f r) ≡ (is_shaped_by f || is_array_or_constant r)
shaped_step f r =
    ap (λ b. b || (facts_with f r).constant) (bounded_step f r)
    ∙ ap (λ b. (is_some f.dimensions || is_bounded r) || b) (constant_step f r)
    ∙ regrouped (is_some f.dimensions) (is_bounded r) f.constant (is_defined r)
  where
    regrouped : (a b c d : Bool) → ((a || b) || (c || d)) ≡ ((a || c) || (b || d))
    regrouped true b c d = refl
    regrouped false true true d = refl
    regrouped false true false d = refl
    regrouped false false c d = refl

part_more : (part : Facts → Bool) (test : Role → Bool) → ((f : Facts) (r : Role) → part (facts_with f r) ≡ (part f || test r))
    → (f : Facts) (r : Role) (b s : Bool) → part f ≡ s → part (cond b (facts_with f r) f) ≡ ((test r && b) || s)
part_more part test step f r true s h = step f r ∙ ap (λ a. a || test r) h ∙ true_case s (test r)
  where
    true_case : (s t : Bool) → (s || t) ≡ ((t && true) || s)
    true_case true true = refl
    true_case true false = refl
    true_case false true = refl
    true_case false false = refl
part_more part test step f r false s h = h ∙ false_case s (test r)
  where
    false_case : (s t : Bool) → s ≡ ((t && false) || s)
    false_case s true = refl
    false_case s false = refl

pub seen_more : (before after : Names) (seen : List Use77) (name : List ℕ) (r : Role)
    → ((x : List ℕ) → facts_in after x ≡ cond (bytes_eq name x) (facts_with (facts_in before name) r) (facts_in before x)) → HaveSeen before seen
    → HaveSeen after (use77_of name r ∷ seen)
seen_more before after seen name r e h =
    let now : (x : List ℕ) → facts_in after x ≡ cond (bytes_eq name x) (facts_with (facts_in before x) r) (facts_in before x) =
    λ x. noted (facts_in before) (facts_in after) name r x (λ a b. (bytes_eq-Decides a b).0) (e x) in
    record {
      typed = λ x. ap is_typed_by (now x) ∙ part_more is_typed_by is_typed typed_step (facts_in before x) r (bytes_eq name x) (stands is_typed seen x) (h.typed x);
      shaped = λ x. ap is_shaped_by (now x) ∙ part_more is_shaped_by is_array_or_constant shaped_step (facts_in before x) r (bytes_eq name x) (stands is_array_or_constant seen x) (h.shaped x);
      constant = λ x. ap (λ (f : Facts). f.constant) (now x) ∙ part_more (λ (f : Facts). f.constant) is_defined constant_step (facts_in before x) r (bytes_eq name x) (stands is_defined seen x) (h.constant x);
      title = λ x. ap (λ (f : Facts). f.title) (now x) ∙ part_more (λ (f : Facts). f.title) is_title_role title_step (facts_in before x) r (bytes_eq name x) (stands is_title_role seen x) (h.title x);
    }

pub nothing_seen : (names : Names) → ((x : List ℕ) → facts_in names x ≡ nothing_known) → HaveSeen names []
nothing_seen names h = record {
  typed = λ x. ap is_typed_by (h x);
  shaped = λ x. ap is_shaped_by (h x);
  constant = λ x. ap (λ (f : Facts). f.constant) (h x);
  title = λ x. ap (λ (f : Facts). f.title) (h x);
}

-- ---- names declared again

shaped_again : (names : Names) (seen : List Use77) (x : List ℕ) (us : List Use77) → HaveSeen names seen
    → (has_repeat (names_that is_typed seen) (names_that is_typed us)
    || (is_among (names_that is_array_or_constant seen) x || has_repeat (x ∷ names_that is_array_or_constant seen) (names_that is_array_or_constant us)))
    ≡ (is_shaped_by (facts_in names x) || (has_repeat (names_that is_typed seen) (names_that is_typed us)
    || has_repeat (x ∷ names_that is_array_or_constant seen) (names_that is_array_or_constant us)))
shaped_again names seen x us h =
    ap (λ b. has_repeat (names_that is_typed seen) (names_that is_typed us) || (b || has_repeat (x ∷ names_that is_array_or_constant seen) (names_that is_array_or_constant us)))
    (among_is is_array_or_constant seen x ∙ sym (h.shaped x))
    ∙ shifted (has_repeat (names_that is_typed seen) (names_that is_typed us)) (is_shaped_by (facts_in names x)) (has_repeat (x ∷ names_that is_array_or_constant seen) (names_that is_array_or_constant us))
  where
    shifted : (a b c : Bool) → (a || (b || c)) ≡ (b || (a || c))
    shifted true true c = refl
    shifted true false c = refl
    shifted false true c = refl
    shifted false false c = refl

pub again_step : (names : Names) (seen : List Use77) (x : List ℕ) (r : Role) (us : List Use77) → HaveSeen names seen
    → declares_again seen (use77_of x r ∷ us) ≡ (is_again_by (facts_in names x) r || declares_again (use77_of x r ∷ seen) us)
again_step names seen x (Typed k) us h =
    ap (λ b. (b || has_repeat (x ∷ names_that is_typed seen) (names_that is_typed us)) || has_repeat (names_that is_array_or_constant seen) (names_that is_array_or_constant us))
    (among_is is_typed seen x ∙ sym (h.typed x))
    ∙ grouped (is_typed_by (facts_in names x)) (has_repeat (x ∷ names_that is_typed seen) (names_that is_typed us)) (has_repeat (names_that is_array_or_constant seen) (names_that is_array_or_constant us))
  where
    grouped : (a b c : Bool) → ((a || b) || c) ≡ (a || (b || c))
    grouped true b c = refl
    grouped false b c = refl
again_step names seen x (Bounded n) us h = shaped_again names seen x us h
again_step names seen x Defined us h = shaped_again names seen x us h
again_step names seen x Title us h = refl
again_step names seen x (Valued n) us h = refl
again_step names seen x (Target n) us h = refl
again_step names seen x Counter us h = refl

pub seen_defined : (names : Names) (seen : List Use77) → HaveSeen names seen → AreDefined names (names_that is_defined seen)
seen_defined names seen h x = h.constant x ∙ sym (among_is is_defined seen x)
