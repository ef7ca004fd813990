-- Lists that are turned round, and trips.
use Rattle.std.proofs.Common.{◌≡◌, refl, sym, ap, ◌∙◌, ℕ, zero, suc, ◌+◌, ◌<◌, Option, Some, None, List, [], ◌∷◌, ◌++◌, map, reverse, length, get_or, take, arith}
use Rattle.std.proofs.lemmas.List.{map-append, take_more}
use Rattle.nest.specs.Plain.{Loop}
use Rattle.nest.specs.View.{loop_of}
use Rattle.nest.specs.declared.parts.Loop as declared
use Rattle.nest.specs.declared.parts.Trip.{Trip}
use Rattle.node_splitting.specs.Arrays.{trips_if_all, with_trip}
use Rattle.tree.specs.Plain.{Reference, Subscript, subscripts}
use Rattle.tree.specs.View.{reference_of, subscript_of}
use Rattle.tree.specs.declared.exprs.Ref.{roll-Ref}
use Rattle.tree.specs.declared.exprs.Sub.{Sub}
use Rattle.tree.proofs.Equations.{reference_of-made}
use mathlib.Core.List.{reverse_aux}

map_onto : {A B : Type 0} (f : A → B) (xs ys : List A) → map f (reverse_aux xs ys) ≡ reverse_aux (map f xs) (map f ys)
map_onto f [] ys = refl
map_onto f (x ∷ xs) ys = map_onto f xs (x ∷ ys)

pub map_reverse : {A B : Type 0} (f : A → B) (xs : List A) → map f (reverse xs) ≡ reverse (map f xs)
map_reverse f xs = map_onto f xs []

pub element_is : (x : List ℕ) (old new : List Sub) → new ≡ reverse old
    → reference_of (roll-Ref (record { name = x; subs = new })) ≡ record { name = x; subscripts = subscripts (reverse (map subscript_of old)) }
element_is x old new e =
    reference_of-made x new ∙ ap (λ (qs : List Subscript). let r : Reference = record { name = x; subscripts = subscripts qs } in r) (ap (map subscript_of) e ∙ map_reverse subscript_of old)

pub ruleset element_laws = (map_reverse)

-- ---- trips

none_some : {A : Type 0} (a : A) → ◌≡◌ {A = Option A} None (Some a) → ⊥
none_some a e = cc

some_same : {A : Type 0} (a b : A) → ◌≡◌ {A = Option A} (Some a) (Some b) → a ≡ b
some_same a b e = cc

trips_more : (ls : List Loop) (l : Loop) (ts : List Trip) (t : Trip) → trips_if_all ls ≡ Some ts → l.trip ≡ Some t
    → trips_if_all (ls ++ l ∷ []) ≡ Some (ts ++ t ∷ [])
trips_more [] l ts t e f = ap (λ o. with_trip o (Some [])) f ∙ ap (λ us. Some (us ++ t ∷ [])) (some_same [] ts e)
trips_more (m ∷ ls) l ts t e f = by m.trip (trips_if_all ls) refl refl e (λ us h. trips_more ls l us t h f)
  where
    by : (o : Option Trip) (r : Option (List Trip)) → m.trip ≡ o → trips_if_all ls ≡ r → with_trip o r ≡ Some ts
        → ((us : List Trip) → trips_if_all ls ≡ Some us → trips_if_all (ls ++ l ∷ []) ≡ Some (us ++ t ∷ []))
        → with_trip m.trip (trips_if_all (ls ++ l ∷ [])) ≡ Some (ts ++ t ∷ [])
    by None r g h k more = absurd (none_some ts k)
    by (Some u) None g h k more = absurd (none_some ts k)
    by (Some u) (Some us) g h k more =
        ap (λ o. with_trip o (trips_if_all (ls ++ l ∷ []))) g ∙ (ap (with_trip (Some u)) (more us h) ∙ ap (λ vs. Some (vs ++ t ∷ [])) (some_same (u ∷ us) ts k))

with_none : (o : Option Trip) → with_trip o None ≡ None
with_none None = refl
with_none (Some t) = refl

missing : (ls : List declared.Loop) (i : ℕ) (x : declared.Loop) → i < length ls → x ≡ get_or ls i x → x.trip ≡ None → trips_if_all (map loop_of ls) ≡ None
missing [] i x h e f = absurd (omega arith)
missing (y ∷ ls) zero x h e f = ap (λ o. with_trip o (trips_if_all (map loop_of ls))) (ap (λ (z : declared.Loop). z.trip) (sym e) ∙ f)
missing (y ∷ ls) (suc i) x h e f = ap (with_trip y.trip) (missing ls i x (omega arith) e f) ∙ with_none y.trip

pub trips_step : (ls : List declared.Loop) (i : ℕ) (x : declared.Loop) (ts new : List Trip) (t : Trip) → i < length ls → x ≡ get_or ls i x → x.trip ≡ Some t
    → trips_if_all (map loop_of (take i ls)) ≡ Some ts → new ≡ ts ++ t ∷ [] → trips_if_all (map loop_of (take (i + 1) ls)) ≡ Some new
trips_step ls i x ts new t inside is f g h =
    ap (λ zs. trips_if_all (map loop_of zs)) (take_more ls i x inside ∙ ap (λ z. take i ls ++ z ∷ []) (sym is))
    ∙ (ap trips_if_all (map-append loop_of (take i ls) (x ∷ []))
    ∙ (trips_more (map loop_of (take i ls)) (loop_of x) ts t g f ∙ ap (λ us. Some us) (sym h)))

pub trips_missing : (ls : List declared.Loop) (i : ℕ) (x : declared.Loop) → i < length ls → x ≡ get_or ls i x → x.trip ≡ None → None ≡ trips_if_all (map loop_of ls)
trips_missing ls i x inside is f = sym (missing ls i x inside is f)
