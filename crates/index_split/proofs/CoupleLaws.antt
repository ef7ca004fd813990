-- The points of two references, of one with others, and of all.
use Rattle.std.proofs.Common.{◌≡◌, ◌⊎◌, inl, inr, refl, sym, ap, subst, ◌∙◌, ℕ, ◌+◌, ◌<◌, ◌≤◌, ℤ, pos, Bool, true, false, not, ◌&&◌, ◌||◌, cond, Option, Some, None, List, [], ◌∷◌, ◌++◌, length, take, get_or, nat_eq}
use Rattle.std.specs.Prelude.{IsTrue}
use Rattle.std.specs.Ordering.{int_eq}
use Rattle.std.proofs.lemmas.Bool.Decides.{Decides-int_eq, Decides-eqb}
use Rattle.std.proofs.lemmas.List.{take_all}
use Rattle.components.specs.Lists.{IsMember}
use Rattle.dependence_graph.proofs.dep_graph.Joining.{one_more}
use Rattle.dependence_graph.proofs.dep_graph.SameLoops.{in_front, in_rest, in_either}
use Rattle.dependence_graph.specs.declared.nest_references.occurrences.Occurrence.{Occurrence}
use Rattle.subscripts.specs.declared.affine.Affine.{Affine}
use Rattle.index_split.specs.Gathered.{Adds, only_one, same_symbols}
use Rattle.index_split.specs.Points.{CoupleGives, GivesPoint, IsPointAmong, front, has_loop, paired, pairs_of, with_loop}
use Rattle.index_split.specs.declared.points.Sides.{Sides}
use Rattle.index_split.proofs.Adding.{adds_none, adds_same, adds_then}

-- ---- symbols

both : (b c : Bool) → b && c ≡ true → (b ≡ true) × (c ≡ true)
both true true e = (refl, refl)
both true false e = cc
both false c e = cc

pub symbols_are : (ts us : List (ℕ × ℤ)) → same_symbols ts us ≡ true → ts ≡ us
symbols_are [] [] e = refl
symbols_are [] (u ∷ us) e = cc
symbols_are (t ∷ ts) [] e = cc
symbols_are (t ∷ ts) (u ∷ us) e =
    let a = both (nat_eq t.0 u.0 && int_eq t.1 u.1) (same_symbols ts us) e in
    let b = both (nat_eq t.0 u.0) (int_eq t.1 u.1) a.0 in
    let m : t.0 ≡ u.0 = (Decides-eqb t.0 u.0).0 b.0 in
    let z : t.1 ≡ u.1 = (Decides-int_eq t.1 u.1).0 b.1 in
    ap (λ (i : ℕ). (i, t.1) ∷ ts) m ∙ ap (λ (k : ℤ). (u.0, k) ∷ ts) z ∙ ap (λ (vs : List (ℕ × ℤ)). u ∷ vs) (symbols_are ts us a.1)

same_again : (ts : List (ℕ × ℤ)) → same_symbols ts ts ≡ true
same_again [] = refl
same_again (t ∷ ts) =
    ap (λ (b : Bool). (b && int_eq t.1 t.1) && same_symbols ts ts) ((Decides-eqb t.0 t.0).1 refl)
    ∙ ap (λ (b : Bool). b && same_symbols ts ts) ((Decides-int_eq t.1 t.1).1 refl) ∙ same_again ts

pub symbols_same : (ts us : List (ℕ × ℤ)) → ts ≡ us → same_symbols ts us ≡ true
symbols_same ts us e = subst (λ (vs : List (ℕ × ℤ)). same_symbols ts vs ≡ true) e (same_again ts)

pub pair_apart : (t : ℕ) (s : Sides) (old : List ℕ) → same_symbols s.first.syms s.second.syms ≡ false → Adds (GivesPoint t s) old old
pair_apart t s old e = adds_none old old old (GivesPoint t s) (GivesPoint t s) (GivesPoint t s) (λ x g. no (sym (symbols_same s.first.syms s.second.syms g.symbols) ∙ e))
  where
    no : true ≡ false → ⊥
    no e = cc

-- ---- separable pairs

one_has_loop : (r s : Sides) → IsMember s (with_loop r) → has_loop s ≡ true
one_has_loop r s h = by (has_loop r) refl h
  where
    by : (b : Bool) → has_loop r ≡ b → IsMember s (cond b (r ∷ []) []) → has_loop s ≡ true
    by true e (inl q) = ap has_loop q ∙ e
    by true e (inr i) = absurd i
    by false e i = absurd i

place_has_loop : (f g : Option Affine) (s : Sides) → IsMember s (paired f g) → has_loop s ≡ true
place_has_loop None g s h = absurd h
place_has_loop (Some f) None s h = absurd h
place_has_loop (Some f) (Some g) s h = one_has_loop (record { first = f; second = g }) s h

have_loop : (fs gs : List (Option Affine)) (s : Sides) → IsMember s (pairs_of fs gs) → has_loop s ≡ true
have_loop [] gs s h = absurd h
have_loop (f ∷ fs) [] s h = absurd h
have_loop (f ∷ fs) (g ∷ gs) s h = elim (in_either s (paired f g) (pairs_of fs gs) h) [ inl i ↦ place_has_loop f g s i | inr i ↦ have_loop fs gs s i ]

only : (ss : List Sides) (s : Sides) → only_one ss ≡ Some s → ss ≡ s ∷ []
only [] s e = cc
only (r ∷ []) s e = cc
only (r ∷ q ∷ ss) s e = cc

pub separable_has_loop : (fs gs : List (Option Affine)) (s : Sides) → only_one (pairs_of fs gs) ≡ Some s → has_loop s ≡ true
separable_has_loop fs gs s e = have_loop fs gs s (subst (λ (ss : List Sides). IsMember s ss) (sym (only (pairs_of fs gs) s e)) (inl refl))

-- ---- couples

module _ (t : ℕ) (o u : Occurrence) where
  pub none_apart : (old : List ℕ) → ((o.name ≡ u.name) × ((o.place.at ≡ 0) ⊎ (u.place.at ≡ 0)) → ⊥) → Adds (CoupleGives t o u) old old
  none_apart old h = adds_none old old old (CoupleGives t o u) (CoupleGives t o u) (CoupleGives t o u) (λ x g. h (g.name, g.written))

  pub none_separable : (old : List ℕ) → only_one (pairs_of o.forms u.forms) ≡ None → Adds (CoupleGives t o u) old old
  none_separable old h = adds_none old old old (CoupleGives t o u) (CoupleGives t o u) (CoupleGives t o u) (λ x g. no g.pair (sym h ∙ ap only_one g.separable))
    where
      no : (s : Sides) → ◌≡◌ {A = Option Sides} None (Some s) → ⊥
      no s e = cc

  pub couple_added : (s : Sides) (old new : List ℕ) → (o.name ≡ u.name) × ((o.place.at ≡ 0) ⊎ (u.place.at ≡ 0)) → only_one (pairs_of o.forms u.forms) ≡ Some s
      → Adds (GivesPoint t s) old new → Adds (CoupleGives t o u) old new
  couple_added s old new may e h = adds_same old old new (GivesPoint t s) (CoupleGives t o u) (CoupleGives t o u) (λ x. (there x, back x)) h
    where
      there : (x : ℕ) → GivesPoint t s x → CoupleGives t o u x
      there x g = record { name = may.0; written = may.1; pair = s; separable = only (pairs_of o.forms u.forms) s e; gives = g }

      first_is : (r q : Sides) → ◌≡◌ {A = List Sides} (r ∷ []) (q ∷ []) → r ≡ q
      first_is r q f = cc

      back : (x : ℕ) → CoupleGives t o u x → GivesPoint t s x
      back x g = subst (λ (r : Sides). GivesPoint t r x) (first_is g.pair s (sym g.separable ∙ only (pairs_of o.forms u.forms) s e)) g.gives

-- ---- rows and tables

pub row_none : (o : Occurrence) (t : ℕ) (old : List ℕ) → Adds (IsPointAmong (o ∷ []) [] t) old old
row_none o t old = adds_none old old old (IsPointAmong (o ∷ []) [] t) (IsPointAmong (o ∷ []) [] t) (IsPointAmong (o ∷ []) [] t) (λ x g. g.second_in)

pub table_none : (us : List Occurrence) (t : ℕ) (old : List ℕ) → Adds (IsPointAmong [] us t) old old
table_none us t old = adds_none old old old (IsPointAmong [] us t) (IsPointAmong [] us t) (IsPointAmong [] us t) (λ x g. g.first_in)

pub row_more : (o : Occurrence) (us : List Occurrence) (i : ℕ) (u : Occurrence) (t : ℕ) (old mid new : List ℕ) → i < length us → u ≡ get_or us i u
    → Adds (IsPointAmong (o ∷ []) (take i us) t) old mid → Adds (CoupleGives t o u) mid new → Adds (IsPointAmong (o ∷ []) (take (i + 1) us) t) old new
row_more o us i u t old mid new h e a b =
    subst (λ (vs : List Occurrence). Adds (IsPointAmong (o ∷ []) vs t) old new) (sym (one_more us i u h e))
    (adds_then old mid new _ _ _ a b (λ x. (there x, back x)))
  where
    there : (x : ℕ) → IsPointAmong (o ∷ []) (take i us) t x ⊎ CoupleGives t o u x → IsPointAmong (o ∷ []) (take i us ++ u ∷ []) t x
    there x (inl g) = record { first = g.first; second = g.second; first_in = g.first_in; second_in = in_front g.second (take i us) (u ∷ []) g.second_in; gives = g.gives }
    there x (inr g) = record { first = o; second = u; first_in = inl refl; second_in = in_rest u (take i us) (u ∷ []) (inl refl); gives = g }

    back : (x : ℕ) → IsPointAmong (o ∷ []) (take i us ++ u ∷ []) t x → IsPointAmong (o ∷ []) (take i us) t x ⊎ CoupleGives t o u x
    back x g = by g.first_in (in_either g.second (take i us) (u ∷ []) g.second_in)
      where
        by : (g.first ≡ o) ⊎ ⊥ → IsMember g.second (take i us) ⊎ ((g.second ≡ u) ⊎ ⊥) → IsPointAmong (o ∷ []) (take i us) t x ⊎ CoupleGives t o u x
        by f (inl j) = inl (record { first = g.first; second = g.second; first_in = f; second_in = j; gives = g.gives })
        by (inl f) (inr (inl s)) = inr (subst (λ (v : Occurrence). CoupleGives t o v x) s (subst (λ (v : Occurrence). CoupleGives t v g.second x) f g.gives))
        by (inr f) (inr (inl s)) = absurd f
        by f (inr (inr s)) = absurd s

pub table_more : (os us : List Occurrence) (i : ℕ) (o : Occurrence) (t : ℕ) (old mid new : List ℕ) → i < length os → o ≡ get_or os i o
    → Adds (IsPointAmong (take i os) us t) old mid → Adds (IsPointAmong (o ∷ []) us t) mid new → Adds (IsPointAmong (take (i + 1) os) us t) old new
table_more os us i o t old mid new h e a b =
    subst (λ (vs : List Occurrence). Adds (IsPointAmong vs us t) old new) (sym (one_more os i o h e))
    (adds_then old mid new _ _ _ a b (λ x. (there x, back x)))
  where
    there : (x : ℕ) → IsPointAmong (take i os) us t x ⊎ IsPointAmong (o ∷ []) us t x → IsPointAmong (take i os ++ o ∷ []) us t x
    there x (inl g) = record { first = g.first; second = g.second; first_in = in_front g.first (take i os) (o ∷ []) g.first_in; second_in = g.second_in; gives = g.gives }
    there x (inr g) = record { first = g.first; second = g.second; first_in = in_rest g.first (take i os) (o ∷ []) g.first_in; second_in = g.second_in; gives = g.gives }

    back : (x : ℕ) → IsPointAmong (take i os ++ o ∷ []) us t x → IsPointAmong (take i os) us t x ⊎ IsPointAmong (o ∷ []) us t x
    back x g = elim (in_either g.first (take i os) (o ∷ []) g.first_in) [
      | inl j ↦ inl (record { first = g.first; second = g.second; first_in = j; second_in = g.second_in; gives = g.gives })
      | inr j ↦ inr (record { first = g.first; second = g.second; first_in = j; second_in = g.second_in; gives = g.gives })
    ]

pub row_all : (o : Occurrence) (us : List Occurrence) (i : ℕ) (t : ℕ) (old new : List ℕ) → length us ≤ i → Adds (IsPointAmong (o ∷ []) (take i us) t) old new → Adds (IsPointAmong (o ∷ []) us t) old new
row_all o us i t old new h a = subst (λ (vs : List Occurrence). Adds (IsPointAmong (o ∷ []) vs t) old new) (take_all i us h) a

pub table_all : (os us : List Occurrence) (i : ℕ) (t : ℕ) (old new : List ℕ) → length os ≤ i → Adds (IsPointAmong (take i os) us t) old new → Adds (IsPointAmong os us t) old new
table_all os us i t old new h a = subst (λ (vs : List Occurrence). Adds (IsPointAmong vs us t) old new) (take_all i os h) a

-- ---- one side has the loop

pub some_side : (s : Sides) → has_loop s ≡ true → front s.first ≡ pos 0 → front s.second ≡ pos 0 → ⊥
some_side s h e f =
    no (sym h ∙ ap (λ (b : Bool). not b || not (int_eq (front s.second) (pos 0))) ((Decides-int_eq (front s.first) (pos 0)).1 e)
    ∙ ap (λ (b : Bool). false || not b) ((Decides-int_eq (front s.second) (pos 0)).1 f))
  where
    no : true ≡ false → ⊥
    no g = cc

-- what isn't answered by yes doesn't hold
pub isnt : (b : Bool) (P : Type 0) → (P → IsTrue b) → b ≡ false → P → ⊥
isnt true P f e p = cc
isnt false P f e p = let h = f p in cc
