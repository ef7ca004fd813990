-- Lists that are made item by item.
use Rattle.std.proofs.Common.{◌≡◌, refl, sym, ap, ◌∙◌, ℕ, zero, suc, ◌+◌, ◌<◌, ◌≤◌, Bool, true, false, not, cond, Option, Some, None, List, [], ◌∷◌, ◌++◌, map, length, get_or, take, arith, append-nil}
use Rattle.std.specs.Borrow.{Bor}
use Rattle.std.specs.Prelude.{MatchOption, filter, slice_get}
use Rattle.std.specs.List.{HoldsAt, cons_option}
use Rattle.std.specs.Option.{option_copied, option_map}
use Rattle.std.proofs.lemmas.List.{map-append, take_more}
use Rattle.std.proofs.lemmas.List.Elements.{filter-append, filter_map-append}
use Rattle.std.proofs.lemmas.Option.{slice_get-map}
use Rattle.subscripts.specs.declared.affine.Dirs.{Dirs}
use Rattle.nest.specs.declared.parts.Loop as declared
use Rattle.nest.specs.declared.parts.Trip.{Trip}
use Rattle.nest.specs.declared.nests.Nest as declared_nests
use Rattle.nest.specs.Plain.{Loop, Part, parts}
use Rattle.nest.specs.View.{loop_of, nest_of, part_of}
use Rattle.linear_forms.specs.Canonical.{canonising}
use Rattle.nest_rewrite.specs.Rewritten.{rewritten}
use Rattle.interchange.specs.Chains.{part_in_loops}
use Rattle.interchange.specs.View as view
use Rattle.interchange.specs.declared.chains.Chain as declared_chains
use Rattle.dependence_graph.specs.declared.graphs.Edge.{Edge}
use Rattle.interchange.specs.Arranged.{body_in, in_order, is_own_antidependence, free_trips_of, vectors_of, with_free_trip, if_loop_free}

none_some : {A : Type 0} (a : A) → ◌≡◌ {A = Option A} None (Some a) → ⊥
none_some a e = cc

some_same : {A : Type 0} (a b : A) → ◌≡◌ {A = Option A} (Some a) (Some b) → a ≡ b
some_same a b e = cc

-- what is looked up
pub copied_is : {X : Type 0} (xs : List X) (i : ℕ) (r : Option (Bor X)) → MatchOption r (length xs ≤ i) (λ x. (i < length xs) × HoldsAt (λ y. x.now ≡ y) xs i) → option_copied r ≡ slice_get xs i
copied_is [] i None h = refl
copied_is [] i (Some b) h = absurd (let e : i < 0 = h.0 in omega arith)
copied_is (x ∷ xs) zero None h = absurd (omega arith)
copied_is (x ∷ xs) zero (Some b) h = ap (λ z. Some z) (h.1 x)
copied_is (x ∷ xs) (suc i) None h = copied_is xs i None (omega arith)
copied_is (x ∷ xs) (suc i) (Some b) h = copied_is xs i (Some b) (let e : suc i < suc (length xs) = h.0 in omega arith, h.1)

-- no item
pub empty : {X : Type 0} (xs : List X) → length xs ≡ 0 → xs ≡ []
empty [] e = refl
empty (x ∷ xs) e = absurd (omega arith)

-- ---- trips

trips_more : (ls : List Loop) (l : Loop) (ts : List Trip) (t : Trip) → free_trips_of ls ≡ Some ts → if_loop_free l.trip ≡ Some t
    → free_trips_of (ls ++ l ∷ []) ≡ Some (ts ++ t ∷ [])
trips_more [] l ts t e f = ap (λ o. with_free_trip o (Some [])) f ∙ ap (λ us. Some (us ++ t ∷ [])) (some_same [] ts e)
trips_more (m ∷ ls) l ts t e f = by (if_loop_free m.trip) (free_trips_of ls) refl refl e (λ us h. trips_more ls l us t h f)
  where
    by : (o : Option Trip) (r : Option (List Trip)) → if_loop_free m.trip ≡ o → free_trips_of ls ≡ r → with_free_trip o r ≡ Some ts
        → ((us : List Trip) → free_trips_of ls ≡ Some us → free_trips_of (ls ++ l ∷ []) ≡ Some (us ++ t ∷ []))
        → with_free_trip (if_loop_free m.trip) (free_trips_of (ls ++ l ∷ [])) ≡ Some (ts ++ t ∷ [])
    by None r g h k more = absurd (none_some ts k)
    by (Some u) None g h k more = absurd (none_some ts k)
    by (Some u) (Some us) g h k more =
        ap (λ o. with_free_trip o (free_trips_of (ls ++ l ∷ []))) g ∙ (ap (with_free_trip (Some u)) (more us h) ∙ ap (λ vs. Some (vs ++ t ∷ [])) (some_same (u ∷ us) ts k))

with_none : (o : Option Trip) → with_free_trip o None ≡ None
with_none None = refl
with_none (Some t) = refl

missing : (ls : List declared.Loop) (i : ℕ) (x : declared.Loop) → i < length ls → x ≡ get_or ls i x → if_loop_free x.trip ≡ None
    → free_trips_of (map loop_of ls) ≡ None
missing [] i x h e f = absurd (omega arith)
missing (y ∷ ls) zero x h e f = ap (λ o. with_free_trip o (free_trips_of (map loop_of ls))) (ap (λ (z : declared.Loop). if_loop_free z.trip) (sym e) ∙ f)
missing (y ∷ ls) (suc i) x h e f = ap (with_free_trip (if_loop_free y.trip)) (missing ls i x (omega arith) e f) ∙ with_none (if_loop_free y.trip)

-- ---- loops in an order

order_more : (ls : List declared.Loop) (order : List ℕ) (p : ℕ) (x : declared.Loop) → slice_get ls p ≡ Some x
    → in_order (map loop_of ls) (order ++ p ∷ []) ≡ in_order (map loop_of ls) order ++ loop_of x ∷ []
order_more ls order p x e =
    filter_map-append (slice_get (map loop_of ls)) order (p ∷ [])
    ∙ ap (λ (o : Option Loop). in_order (map loop_of ls) order ++ cons_option o []) (slice_get-map loop_of ls p ∙ ap (option_map loop_of) e)

order_skip : (ls : List declared.Loop) (order : List ℕ) (p : ℕ) → slice_get ls p ≡ None
    → in_order (map loop_of ls) (order ++ p ∷ []) ≡ in_order (map loop_of ls) order
order_skip ls order p e =
    filter_map-append (slice_get (map loop_of ls)) order (p ∷ [])
    ∙ (ap (λ (o : Option Loop). in_order (map loop_of ls) order ++ cons_option o []) (slice_get-map loop_of ls p ∙ ap (option_map loop_of) e)
    ∙ append-nil (in_order (map loop_of ls) order))

-- ---- vectors of edges

abbrev counts : Edge → Bool
counts e = not (is_own_antidependence e)

vectors_more : (es : List Edge) (e : Edge) → is_own_antidependence e ≡ false → vectors_of (es ++ e ∷ []) ≡ vectors_of es ++ e.dirs ∷ []
vectors_more es e f =
    ap (map (λ (x : Edge). x.dirs)) (filter-append counts es (e ∷ []))
    ∙ (map-append (λ (x : Edge). x.dirs) (filter counts es) (filter counts (e ∷ []))
    ∙ ap (λ b. vectors_of es ++ map (λ (x : Edge). x.dirs) (cond (not b) (e ∷ []) [])) f)

vectors_skip : (es : List Edge) (e : Edge) → is_own_antidependence e ≡ true → vectors_of (es ++ e ∷ []) ≡ vectors_of es
vectors_skip es e f =
    ap (map (λ (x : Edge). x.dirs)) (filter-append counts es (e ∷ []))
    ∙ (map-append (λ (x : Edge). x.dirs) (filter counts es) (filter counts (e ∷ []))
    ∙ (ap (λ b. vectors_of es ++ map (λ (x : Edge). x.dirs) (cond (not b) (e ∷ []) [])) f ∙ append-nil (vectors_of es)))

-- ---- the body of a nest

pub body_is : (n : declared_nests.Nest) (c : declared_chains.Chain) (order : List ℕ) (ordered : List declared.Loop) (p : Part) → map loop_of ordered ≡ in_order (map loop_of c.loops) order
    → p ≡ part_in_loops (part_of n.body) (map loop_of ordered) (parts (map part_of c.body))
    → rewritten (canonising (map (λ (l : Loop). l.variable) (map loop_of ordered)) n.symbols) p ≡ body_in (nest_of n) (view.chain_of c) order
body_is n c order ordered p e f =
    ap (rewritten (canonising (map (λ (l : Loop). l.variable) (map loop_of ordered)) n.symbols)) f
    ∙ ap (λ ls. rewritten (canonising (map (λ (l : Loop). l.variable) ls) n.symbols) (part_in_loops (part_of n.body) ls (parts (map part_of c.body)))) e

-- ---- for the code

pub trips_step : (ls : List declared.Loop) (i : ℕ) (x : declared.Loop) (r : Option Trip) (ts new : List Trip) (t : Trip) → i < length ls → x ≡ get_or ls i x → r ≡ if_loop_free x.trip → r ≡ Some t
    → free_trips_of (map loop_of (take i ls)) ≡ Some ts → new ≡ ts ++ t ∷ [] → free_trips_of (map loop_of (take (i + 1) ls)) ≡ Some new
trips_step ls i x r ts new t inside is e f g h =
    ap (λ zs. free_trips_of (map loop_of zs)) (take_more ls i x inside ∙ ap (λ z. take i ls ++ z ∷ []) (sym is))
    ∙ (ap free_trips_of (map-append loop_of (take i ls) (x ∷ []))
    ∙ (trips_more (map loop_of (take i ls)) (loop_of x) ts t g (sym e ∙ f) ∙ ap (λ us. Some us) (sym h)))

pub trips_missing : (ls : List declared.Loop) (i : ℕ) (x : declared.Loop) (r : Option Trip) → i < length ls → x ≡ get_or ls i x → r ≡ if_loop_free x.trip → r ≡ None
    → None ≡ free_trips_of (map loop_of ls)
trips_missing ls i x r inside is e f = sym (missing ls i x inside is (sym e ∙ f))

pub order_found : (ls old new : List declared.Loop) (p : ℕ) (x y : declared.Loop) (r : Option declared.Loop) → r ≡ slice_get ls p → r ≡ Some x → loop_of y ≡ loop_of x → new ≡ old ++ y ∷ []
    → map loop_of new ≡ map loop_of old ++ in_order (map loop_of ls) (p ∷ [])
order_found ls old new p x y r e f g k =
    ap (map loop_of) k ∙ (map-append loop_of old (y ∷ [])
    ∙ (ap (λ z. map loop_of old ++ z ∷ []) g ∙ ap (λ zs. map loop_of old ++ zs) (sym (order_more ls [] p x (sym e ∙ f)))))

pub order_none : (ls old : List declared.Loop) (p : ℕ) (r : Option declared.Loop) → r ≡ slice_get ls p → r ≡ None → map loop_of old ≡ map loop_of old ++ in_order (map loop_of ls) (p ∷ [])
order_none ls old p r e f = sym (ap (λ zs. map loop_of old ++ zs) (order_skip ls [] p (sym e ∙ f)) ∙ append-nil (map loop_of old))

pub order_step : (ls : List declared.Loop) (order : List ℕ) (i : ℕ) (old new : List declared.Loop) → i < length order → map loop_of old ≡ in_order (map loop_of ls) (take i order)
    → map loop_of new ≡ map loop_of old ++ in_order (map loop_of ls) (get_or order i 0 ∷ []) → map loop_of new ≡ in_order (map loop_of ls) (take (i + 1) order)
order_step ls order i old new inside h k =
    k ∙ (ap (λ zs. zs ++ in_order (map loop_of ls) (get_or order i 0 ∷ [])) h
    ∙ (sym (filter_map-append (slice_get (map loop_of ls)) (take i order) (get_or order i 0 ∷ [])) ∙ ap (in_order (map loop_of ls)) (sym (take_more order i 0 inside))))

pub vectors_found : (e : Edge) (b : Bool) (old new : List Dirs) → b ≡ is_own_antidependence e → b ≡ false → new ≡ old ++ e.dirs ∷ [] → new ≡ old ++ vectors_of (e ∷ [])
vectors_found e b old new f g k = k ∙ ap (λ zs. old ++ zs) (sym (vectors_more [] e (sym f ∙ g)))

pub vectors_none : (e : Edge) (b : Bool) (old : List Dirs) → b ≡ is_own_antidependence e → b ≡ true → old ≡ old ++ vectors_of (e ∷ [])
vectors_none e b old f g = sym (ap (λ zs. old ++ zs) (vectors_skip [] e (sym f ∙ g)) ∙ append-nil old)

pub vectors_step : (es : List Edge) (i : ℕ) (x : Edge) (old new : List Dirs) → i < length es → x ≡ get_or es i x → old ≡ vectors_of (take i es) → new ≡ old ++ vectors_of (x ∷ [])
    → new ≡ vectors_of (take (i + 1) es)
vectors_step es i x old new inside is h k =
    k ∙ (ap (λ zs. zs ++ vectors_of (x ∷ [])) h
    ∙ (sym (ap (map (λ (e : Edge). e.dirs)) (filter-append counts (take i es) (x ∷ [])) ∙ map-append (λ (e : Edge). e.dirs) (filter counts (take i es)) (filter counts (x ∷ [])))
    ∙ ap vectors_of (sym (take_more es i x inside ∙ ap (λ z. take i es ++ z ∷ []) (sym is)))))

pub ruleset list_laws = (trips_step, trips_missing, order_found, order_none, vectors_found, vectors_none)
