-- Occurrences statement by statement are those of the nest.
use Rattle.std.proofs.Common.{◌≡◌, ◌⊎◌, inl, inr, ℕ, zero, suc, ◌+◌, ◌<◌, ◌≤◌, Option, Some, None, List, [], ◌∷◌, ◌++◌, length, map, take, get_or, refl, sym, ap, ◌∙◌, subst, arith, add-one, append_assoc}
use Rattle.std.specs.Prelude.{All, Err, IfOk, Ok, Result, slice_get}
use Rattle.std.proofs.Math.Seq.{take-suc}
use Rattle.std.proofs.lemmas.List.{append-nil, length-map, length-take, map-append, take_all}
use Rattle.std.proofs.lemmas.List.Elements.{All-append, All-cons, All-head, All-nil, All-tail}
use Rattle.tree.specs.Plain.{Reference}
use Rattle.tree.specs.View.{reference_of}
use Rattle.tree.specs.declared.exprs.Ref.{Ref}
use Rattle.nest.specs.statement_loops.Standings.{standing_of}
use Rattle.nest.specs.declared.statement_loops.standings.Standing.{Standing as Standing'}
use Rattle.dependence_graph.specs.nest_graph.Ready.{IsReadyStatement}
use Rattle.components.specs.Lists.{Each, IsMember, Pairwise}
use Rattle.dependence_graph.specs.declared.graphs.Place.{Place}
use Rattle.nest.specs.Plain.{Nest}
use Rattle.nest.specs.Bodies.{Standing, nest_statements}
use Rattle.dependence_graph.specs.nest_graph.Graph.{IsEarlierPlace}
use Rattle.dependence_graph.specs.nest_graph.References.{references_of}
use Rattle.dependence_graph.specs.nest_graph.Tested.{IsReferenceAt}
use Rattle.dependence_graph.specs.nest_references.Added.{IsAdded}
use Rattle.dependence_graph.specs.nest_references.Occurrences.{AreOccurrences, AreOccurrencesFrom, AreOccurrencesIn, IsOccurrence, IsOccurrenceOf}
use Rattle.dependence_graph.specs.declared.nest_references.occurrences.Occurrence.{Occurrence}

abbrev place_in : Occurrence → Place
place_in o = o.place

-- ---- one more

one_more : {A : Type 0} (xs : List A) (i : ℕ) (x : A) → i < length xs → x ≡ get_or xs i x → take (i + 1) xs ≡ take i xs ++ x ∷ []
one_more xs i x h e = ap (λ n. take n xs) (add-one i) ∙ take-suc xs i x h ∙ ap (λ y. take i xs ++ y ∷ []) (sym e)

from-push : (symbols : List (List ℕ)) (number : ℕ) (s : Standing) (k : ℕ) (rs : List Reference) (os : List Occurrence) (r : Reference) (o : Occurrence)
    → AreOccurrencesFrom symbols number s k rs os → o.place ≡ record { stmt = number; at = k + length rs } → IsOccurrenceOf symbols s r o
    → AreOccurrencesFrom symbols number s k (rs ++ r ∷ []) (os ++ o ∷ [])
from-push symbols number s k [] [] r o h e w = (e ∙ ap (λ (j : ℕ). record { stmt = number; at = j }) (omega arith), w, tt)
from-push symbols number s k [] (p ∷ os) r o h e w = absurd h
from-push symbols number s k (q ∷ rs) [] r o h e w = absurd h
from-push symbols number s k (q ∷ rs) (p ∷ os) r o h e w =
    (h.0, h.1, from-push symbols number s (suc k) rs os r o h.2 (e ∙ ap (λ (j : ℕ). record { stmt = number; at = j }) (omega arith)) w)

pub added_none : (symbols : List (List ℕ)) (number : ℕ) (s : Standing) (old : List Occurrence) → IsAdded symbols number s [] old old
added_none symbols number s old = record { first = []; is = sym (append-nil old); are = tt }

pub added-push : (symbols : List (List ℕ)) (number : ℕ) (s : Standing) (rs : List Reference) (old so_far : List Occurrence) (r : Reference) (o : Occurrence)
    → IsAdded symbols number s rs old so_far → o.place ≡ record { stmt = number; at = length rs } → IsOccurrenceOf symbols s r o
    → IsAdded symbols number s (rs ++ r ∷ []) old (so_far ++ o ∷ [])
added-push symbols number s rs old so_far r o h e w = record {
  first = h.first ++ o ∷ [];
  is = ap (λ (os : List Occurrence). os ++ o ∷ []) h.is ∙ append_assoc old h.first (o ∷ []);
  are = from-push symbols number s 0 rs h.first r o h.are (e ∙ ap (λ (j : ℕ). record { stmt = number; at = j }) (omega arith)) w;
}

pub in-push : (symbols : List (List ℕ)) (number : ℕ) (ss : List Standing) (os new : List Occurrence) (s : Standing)
    → AreOccurrencesIn symbols number ss os → IsAdded symbols (number + length ss) s (references_of s) os new
    → AreOccurrencesIn symbols number (ss ++ s ∷ []) new
in-push symbols number [] os new s h a =
    let n : number + length {A = Standing} [] ≡ number = omega arith in
    (a.first, [], a.is ∙ ap (λ (ps : List Occurrence). ps ++ a.first) h ∙ sym (append-nil a.first), subst (λ m. AreOccurrencesFrom symbols m s 0 (references_of s) a.first) n a.are, refl)
in-push symbols number (t ∷ ss) os new s h a =
    let m : number + length (t ∷ ss) ≡ suc number + length ss = omega arith in
    let rest : IsAdded symbols (suc number + length ss) s (references_of s) h.1 (h.1 ++ a.first) = record {
      first = a.first;
      is = refl;
      are = subst (λ j. AreOccurrencesFrom symbols j s 0 (references_of s) a.first) m a.are;
    } in
    (h.0, h.1 ++ a.first, a.is ∙ ap (λ (ps : List Occurrence). ps ++ a.first) h.2 ∙ append_assoc h.0 h.1 a.first, h.3, in-push symbols (suc number) ss h.1 (h.1 ++ a.first) s h.4 rest)

-- ---- by places

-- the places of a statement from k on
record IsAt (number k : ℕ) (p : Place) : Type 0 where
  stmt : p.stmt ≡ number
  least : k ≤ p.at

record IsLater (number : ℕ) (p : Place) : Type 0 where
  stmt : number ≤ p.stmt

abbrev place_at : ℕ → ℕ → Place
place_at number k = record { stmt = number; at = k }

weaker : (number k : ℕ) (ps : List Place) → Each (IsAt number (suc k)) ps → Each (IsAt number k) ps
weaker number k [] h = tt
weaker number k (p ∷ ps) h = (record { stmt = h.0.stmt; least = let l = h.0.least in omega arith }, weaker number k ps h.1)

all_at : (symbols : List (List ℕ)) (number : ℕ) (s : Standing) (k : ℕ) (rs : List Reference) (os : List Occurrence)
    → AreOccurrencesFrom symbols number s k rs os → Each (IsAt number k) (map place_in os)
all_at symbols number s k [] [] h = tt
all_at symbols number s k [] (o ∷ os) h = absurd h
all_at symbols number s k (r ∷ rs) [] h = absurd h
all_at symbols number s k (r ∷ rs) (o ∷ os) h =
    (subst (λ (p : Place). IsAt number k p) (sym h.0) (record { stmt = refl; least = omega arith }), weaker number k (map place_in os) (all_at symbols number s (suc k) rs os h.2))

each-append : {A : Type 0} (P : A → Type 0) (xs ys : List A) → Each P xs → Each P ys → Each P (xs ++ ys)
each-append P [] ys h k = k
each-append P (x ∷ xs) ys h k = (h.0, each-append P xs ys h.1 k)

each-map : {A : Type 0} (P Q : A → Type 0) (xs : List A) → ((x : A) → P x → Q x) → Each P xs → Each Q xs
each-map P Q [] f h = tt
each-map P Q (x ∷ xs) f h = (f x h.0, each-map P Q xs f h.1)

later_in : (symbols : List (List ℕ)) (number : ℕ) (ss : List Standing) (os : List Occurrence) → AreOccurrencesIn symbols number ss os → Each (IsLater number) (map place_in os)
later_in symbols number [] os h = subst (λ (ps : List Occurrence). Each (IsLater number) (map place_in ps)) (sym h) tt
later_in symbols number (s ∷ ss) os h =
    subst (λ (ps : List Occurrence). Each (IsLater number) (map place_in ps)) (sym h.2)
    (subst (λ (ps : List Place). Each (IsLater number) ps) (sym (map-append place_in h.0 h.1))
    (each-append (IsLater number) (map place_in h.0) (map place_in h.1)
    (each-map (IsAt number 0) (IsLater number) (map place_in h.0) (λ p a. record { stmt = let e = a.stmt in omega arith }) (all_at symbols number s 0 (references_of s) h.0 h.3))
    (each-map (IsLater (suc number)) (IsLater number) (map place_in h.1) (λ p a. record { stmt = let e = a.stmt in omega arith }) (later_in symbols (suc number) ss h.1 h.4))))

order_from : (symbols : List (List ℕ)) (number : ℕ) (s : Standing) (k : ℕ) (rs : List Reference) (os : List Occurrence)
    → AreOccurrencesFrom symbols number s k rs os → Pairwise IsEarlierPlace (map place_in os)
order_from symbols number s k [] [] h = tt
order_from symbols number s k [] (o ∷ os) h = absurd h
order_from symbols number s k (r ∷ rs) [] h = absurd h
order_from symbols number s k (r ∷ rs) (o ∷ os) h = (
  each-map (IsAt number (suc k)) (IsEarlierPlace o.place) (map place_in os) (λ q a. earlier q a) (all_at symbols number s (suc k) rs os h.2),
  order_from symbols number s (suc k) rs os h.2,
)
  where
    earlier : (q : Place) → IsAt number (suc k) q → IsEarlierPlace o.place q
    earlier q a =
        let e : o.place.stmt ≡ number = ap (λ (p : Place). p.stmt) h.0 in let f : o.place.at ≡ k = ap (λ (p : Place). p.at) h.0 in let l = a.least in
        inr (e ∙ sym a.stmt, omega arith)

pairwise-append : (xs ys : List Place) → Pairwise IsEarlierPlace xs → Pairwise IsEarlierPlace ys → Each (λ x. Each (IsEarlierPlace x) ys) xs → Pairwise IsEarlierPlace (xs ++ ys)
pairwise-append [] ys h k l = k
pairwise-append (x ∷ xs) ys h k l = (each-append (IsEarlierPlace x) xs ys h.0 l.0, pairwise-append xs ys h.1 k l.1)

order_in : (symbols : List (List ℕ)) (number : ℕ) (ss : List Standing) (os : List Occurrence) → AreOccurrencesIn symbols number ss os → Pairwise IsEarlierPlace (map place_in os)
order_in symbols number [] os h = subst (λ (ps : List Occurrence). Pairwise IsEarlierPlace (map place_in ps)) (sym h) tt
order_in symbols number (s ∷ ss) os h =
    subst (λ (ps : List Occurrence). Pairwise IsEarlierPlace (map place_in ps)) (sym h.2)
    (subst (λ (ps : List Place). Pairwise IsEarlierPlace ps) (sym (map-append place_in h.0 h.1))
    (pairwise-append (map place_in h.0) (map place_in h.1) (order_from symbols number s 0 (references_of s) h.0 h.3) (order_in symbols (suc number) ss h.1 h.4)
    (each-map (IsAt number 0) (λ x. Each (IsEarlierPlace x) (map place_in h.1)) (map place_in h.0)
    (λ x a. each-map (IsLater (suc number)) (IsEarlierPlace x) (map place_in h.1) (λ q b. inl (let e = a.stmt in let l = b.stmt in omega arith)) (later_in symbols (suc number) ss h.1 h.4))
    (all_at symbols number s 0 (references_of s) h.0 h.3))))

-- ---- each and every

each_from : (n : Nest) (number : ℕ) (s : Standing) (k : ℕ) (rs : List Reference) (os : List Occurrence) → slice_get (nest_statements n) number ≡ Some s
    → ((j : ℕ) (r : Reference) → slice_get rs j ≡ Some r → slice_get (references_of s) (k + j) ≡ Some r)
    → AreOccurrencesFrom n.symbols number s k rs os → All (IsOccurrence n) os
each_from n number s k [] [] e f h = All-nil (IsOccurrence n)
each_from n number s k [] (o ∷ os) e f h = absurd h
each_from n number s k (r ∷ rs) [] e f h = absurd h
each_from n number s k (r ∷ rs) (o ∷ os) e f h =
    All-cons (IsOccurrence n) o os
    (record {
      standing = s;
      reference = r;
      is_reference = record {
        statement = ap (λ (p : Place). slice_get (nest_statements n) p.stmt) h.0 ∙ e;
        reference = ap (λ (p : Place). slice_get (references_of s) p.at) h.0 ∙ ap (λ m. slice_get (references_of s) m) (omega arith) ∙ f 0 r refl;
      };
      kept = h.1;
    })
    (each_from n number s (suc k) rs os e (λ j q g. ap (λ m. slice_get (references_of s) m) (omega arith) ∙ f (suc j) q g) h.2)

each_in : (n : Nest) (number : ℕ) (ss : List Standing) (os : List Occurrence)
    → ((j : ℕ) (s : Standing) → slice_get ss j ≡ Some s → slice_get (nest_statements n) (number + j) ≡ Some s)
    → AreOccurrencesIn n.symbols number ss os → All (IsOccurrence n) os
each_in n number [] os f h = subst (λ (ps : List Occurrence). All (IsOccurrence n) ps) (sym h) (All-nil (IsOccurrence n))
each_in n number (s ∷ ss) os f h =
    subst (λ (ps : List Occurrence). All (IsOccurrence n) ps) (sym h.2)
    (All-append (IsOccurrence n) h.0 h.1
    (each_from n number s 0 (references_of s) h.0 (ap (λ m. slice_get (nest_statements n) m) (omega arith) ∙ f 0 s refl)
    (λ j r g. ap (λ m. slice_get (references_of s) m) (omega arith) ∙ g) h.3)
    (each_in n (suc number) ss h.1 (λ j t g. ap (λ m. slice_get (nest_statements n) m) (omega arith) ∙ f (suc j) t g) h.4))

in_front : {A : Type 0} (x : A) (xs ys : List A) → IsMember x xs → IsMember x (xs ++ ys)
in_front x [] ys h = absurd h
in_front x (z ∷ xs) ys h = elim h [ inl e ↦ inl e | inr r ↦ inr (in_front x xs ys r) ]

in_rest : {A : Type 0} (x : A) (xs ys : List A) → IsMember x ys → IsMember x (xs ++ ys)
in_rest x [] ys h = h
in_rest x (z ∷ xs) ys h = inr (in_rest x xs ys h)

every_from : (symbols : List (List ℕ)) (number : ℕ) (s : Standing) (k : ℕ) (rs : List Reference) (os : List Occurrence) (j : ℕ) (r : Reference)
    → AreOccurrencesFrom symbols number s k rs os → slice_get rs j ≡ Some r → IsMember (place_at number (k + j)) (map place_in os)
every_from symbols number s k [] os j r h e = cc
every_from symbols number s k (q ∷ rs) [] j r h e = absurd h
every_from symbols number s k (q ∷ rs) (o ∷ os) zero r h e = inl (ap (place_at number) (omega arith) ∙ sym h.0)
every_from symbols number s k (q ∷ rs) (o ∷ os) (suc j) r h e =
    inr (subst (λ m. IsMember (place_at number m) (map place_in os)) (omega arith) (every_from symbols number s (suc k) rs os j r h.2 e))

none : (j : ℕ) → 0 + j ≡ j
none j = omega arith

every_in : (symbols : List (List ℕ)) (number : ℕ) (ss : List Standing) (os : List Occurrence) (i j : ℕ) (s : Standing) (r : Reference)
    → AreOccurrencesIn symbols number ss os → slice_get ss i ≡ Some s → slice_get (references_of s) j ≡ Some r → IsMember (place_at (number + i) j) (map place_in os)
every_in symbols number [] os i j s r h e f = cc
every_in symbols number (t ∷ ss) os zero j s r h e f =
    let same : t ≡ s = cc in
    subst (λ (ps : List Occurrence). IsMember (place_at (number + 0) j) (map place_in ps)) (sym h.2)
    (subst (λ (ps : List Place). IsMember (place_at (number + 0) j) ps) (sym (map-append place_in h.0 h.1))
    (in_front (place_at (number + 0) j) (map place_in h.0) (map place_in h.1)
    (subst (λ m. IsMember (place_at m j) (map place_in h.0)) (omega arith)
    (subst (λ m. IsMember (place_at number m) (map place_in h.0)) (none j) (every_from symbols number t 0 (references_of t) h.0 j r h.3 (ap (λ (u : Standing). slice_get (references_of u) j) same ∙ f))))))
every_in symbols number (t ∷ ss) os (suc i) j s r h e f =
    subst (λ (ps : List Occurrence). IsMember (place_at (number + suc i) j) (map place_in ps)) (sym h.2)
    (subst (λ (ps : List Place). IsMember (place_at (number + suc i) j) ps) (sym (map-append place_in h.0 h.1))
    (in_rest (place_at (number + suc i) j) (map place_in h.0) (map place_in h.1)
    (subst (λ m. IsMember (place_at m j) (map place_in h.1)) (omega arith) (every_in symbols (suc number) ss h.1 i j s r h.4 e f))))

pub all_occurrences : (n : Nest) (os : List Occurrence) → AreOccurrencesIn n.symbols 0 (nest_statements n) os → AreOccurrences n os
all_occurrences n os h = record {
  each = each_in n 0 (nest_statements n) os (λ j s e. ap (λ m. slice_get (nest_statements n) m) (omega arith) ∙ e) h;
  every = λ p s r i. subst (λ m. IsMember (place_at m p.at) (map place_in os)) (omega arith) (every_in n.symbols 0 (nest_statements n) os p.stmt p.at s r h i.statement i.reference);
  in_order = order_in n.symbols 0 (nest_statements n) os h;
}

-- ---- one more of a list

pub items_more : (symbols : List (List ℕ)) (number : ℕ) (s : Standing) (items : List Ref) (i : ℕ) (r : Ref) (old so_far new : List Occurrence) (o : Occurrence)
    → i < length items → r ≡ get_or items i r → IsAdded symbols number s (map reference_of (take i items)) old so_far
    → o.place ≡ record { stmt = number; at = i } → IsOccurrenceOf symbols s (reference_of r) o → new ≡ so_far ++ o ∷ []
    → IsAdded symbols number s (map reference_of (take (i + 1) items)) old new
items_more symbols number s items i r old so_far new o h e a p w n =
    let count : i ≡ length (map reference_of (take i items)) = omega (arith, length-map (take i items) reference_of, length-take i items) in
    subst (λ (os : List Occurrence). IsAdded symbols number s (map reference_of (take (i + 1) items)) old os) (sym n)
    (subst (λ (rs : List Reference). IsAdded symbols number s rs old (so_far ++ o ∷ [])) (sym (ap (map reference_of) (one_more items i r h e) ∙ map-append reference_of (take i items) (r ∷ [])))
    (added-push symbols number s (map reference_of (take i items)) old so_far (reference_of r) o a (p ∙ ap (λ (j : ℕ). record { stmt = number; at = j }) count) w))

pub items_all : (symbols : List (List ℕ)) (number : ℕ) (s : Standing) (items : List Ref) (i : ℕ) (old new : List Occurrence) → length items ≤ i
    → IsAdded symbols number s (map reference_of (take i items)) old new → IsAdded symbols number s (map reference_of items) old new
items_all symbols number s items i old new h a = subst (λ (rs : List Ref). IsAdded symbols number s (map reference_of rs) old new) (take_all i items h) a

pub standings_more : (symbols : List (List ℕ)) (all : List Standing') (i : ℕ) (s : Standing') (so_far new : List Occurrence) → i < length all → s ≡ get_or all i s
    → AreOccurrencesIn symbols 0 (map standing_of (take i all)) so_far → IsAdded symbols i (standing_of s) (references_of (standing_of s)) so_far new
    → AreOccurrencesIn symbols 0 (map standing_of (take (i + 1) all)) new
standings_more symbols all i s so_far new h e a b =
    let count : i ≡ 0 + length (map standing_of (take i all)) = omega (arith, length-map (take i all) standing_of, length-take i all) in
    subst (λ (ss : List Standing). AreOccurrencesIn symbols 0 ss new) (sym (ap (map standing_of) (one_more all i s h e) ∙ map-append standing_of (take i all) (s ∷ [])))
    (in-push symbols 0 (map standing_of (take i all)) so_far new (standing_of s) a
    (subst (λ (j : ℕ). IsAdded symbols j (standing_of s) (references_of (standing_of s)) so_far new) count b))

pub standings_all : (symbols : List (List ℕ)) (all : List Standing') (i : ℕ) (list : List Occurrence) → length all ≤ i → AreOccurrencesIn symbols 0 (map standing_of (take i all)) list
    → AreOccurrencesIn symbols 0 (map standing_of all) list
standings_all symbols all i list h a = subst (λ (ss : List Standing'). AreOccurrencesIn symbols 0 (map standing_of ss) list) (take_all i all h) a

pub each_ready : (all : List Standing') → All IsReadyStatement (map standing_of all) → All (λ (s : Standing'). IsReadyStatement (standing_of s)) all
each_ready [] h = All-nil (λ (s : Standing'). IsReadyStatement (standing_of s))
each_ready (s ∷ all) h =
    All-cons (λ (t : Standing'). IsReadyStatement (standing_of t)) s all (All-head IsReadyStatement (standing_of s) (map standing_of all) h)
    (each_ready all (All-tail IsReadyStatement (standing_of s) (map standing_of all) h))

pub if_ok : {A E : Type 0} (P Q : A → Type 0) (r : Result A E) → ((x : A) → P x → Q x) → IfOk r P → IfOk r Q
if_ok P Q (Ok x) f h = f x h
if_ok P Q (Err e) f h = tt
