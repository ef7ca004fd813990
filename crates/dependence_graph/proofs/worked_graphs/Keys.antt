-- The couples of a graph, by their references.
use Rattle.std.proofs.Common.{◌≡◌, ◌⊎◌, inl, inr, ℕ, zero, suc, ◌<◌, refl, sym, ap, ap₂, ◌∙◌, subst, arith, Some, List, [], ◌∷◌, map}
use Rattle.std.specs.Prelude.{All, slice_get}
use Rattle.std.proofs.lemmas.List.Elements.{All-head, All-tail}
use Rattle.components.specs.Lists.{Each, IsMember, Pairwise}
use Rattle.dependence_graph.specs.declared.graphs.Graph.{Graph}
use Rattle.dependence_graph.specs.declared.graphs.Place.{Place}
use Rattle.nest.specs.Plain.{Nest}
use Rattle.dependence_graph.specs.nest_graph.Arcs.{Couple}
use Rattle.dependence_graph.specs.nest_graph.Graph.{AreDependent, IsAmong, IsCouple, IsEarlierCouple, IsEarlierPlace, IsGraphOf}

-- ---- the order of references

abbrev pub Key : Type 0
Key = Place × Place

abbrev pub key : Couple → Key
key c = (c.from, c.to)

abbrev pub IsEarlier : Key → Key → Type 0
IsEarlier k m = IsEarlierPlace k.0 m.0 ⊎ ((k.0 ≡ m.0) × IsEarlierPlace k.1 m.1)

not_self : (p : Place) → IsEarlierPlace p p → ⊥
not_self p h = elim h [ inl a ↦ omega arith | inr a ↦ (let b = a.1 in omega arith) ]

not_both : (p q : Place) → IsEarlierPlace p q → IsEarlierPlace q p → ⊥
not_both p q h k =
    elim h [
      | inl a ↦ elim k [ inl b ↦ omega arith | inr b ↦ (let c = b.0 in omega arith) ]
      | inr a ↦ elim k [
        | inl b ↦ (let c = a.0 in omega arith)
        | inr b ↦ (let c = a.1 in let d = b.1 in omega arith)
      ]
    ]

not_same : (p q : Place) → IsEarlierPlace p q → p ≡ q → ⊥
not_same p q h e = not_self q (subst (λ (z : Place). IsEarlierPlace z q) e h)

not_both_keys : (k m : Key) → IsEarlier k m → IsEarlier m k → ⊥
not_both_keys k m h g =
    elim h [
      | inl a ↦ elim g [ inl b ↦ not_both k.0 m.0 a b | inr b ↦ not_same k.0 m.0 a (sym b.0) ]
      | inr a ↦ elim g [ inl b ↦ not_same m.0 k.0 b (sym a.0) | inr b ↦ not_both k.1 m.1 a.1 b.1 ]
    ]

not_same_keys : (k m : Key) → IsEarlier k m → k ≡ m → ⊥
not_same_keys k m h e = let g = subst (λ (z : Key). IsEarlier z m) e h in not_both_keys m m g g

-- ---- lists

in_each : {A : Type 0} (P : A → Type 0) (xs : List A) (x : A) → Each P xs → IsMember x xs → P x
in_each P [] x h i = absurd i
in_each P (y ∷ xs) x h i = elim i [ inl e ↦ subst P (sym e) h.0 | inr r ↦ in_each P xs x h.1 r ]

pub in_all : {A : Type 0} (P : A → Type 0) (xs : List A) (x : A) → All P xs → IsMember x xs → P x
in_all P [] x h i = absurd i
in_all P (y ∷ xs) x h i = elim i [ inl e ↦ subst P (sym e) (All-head P y xs h) | inr r ↦ in_all P xs x (All-tail P y xs h) r ]

-- a couple with this key
record HasKey (cs : List Couple) (k : Key) : Type 0 where
  couple : Couple
  among : IsMember couple cs
  is : key couple ≡ k

has_key : (cs : List Couple) (k : Key) → IsMember k (map key cs) → HasKey cs k
has_key [] k h = absurd h
has_key (c ∷ cs) k h =
    elim h [
      | inl e ↦ record { couple = c; among = inl refl; is = sym e }
      | inr r ↦ (let g = has_key cs k r in record { couple = g.couple; among = inr g.among; is = g.is })
    ]

abbrev Covered : List Couple → List Key → Type 0
Covered cs ks = (c : Couple) → IsMember c cs → IsMember (key c) ks

abbrev Covering : List Couple → List Key → Type 0
Covering cs ks = (k : Key) → IsMember k ks → IsMember k (map key cs)

first_is : (c : Couple) (cs : List Couple) (k : Key) (ks : List Key) → Each (IsEarlierCouple c) cs → Each (IsEarlier k) ks → IsMember (key c) (k ∷ ks) → IsMember k (map key (c ∷ cs)) → key c ≡ k
first_is c cs k ks h g i j =
    elim i [
      | inl e ↦ e
      | inr r ↦ elim j [
        | inl e ↦ sym e
        | inr s ↦
            let d = has_key cs k s in
            let before : IsEarlier (key c) k = subst (λ (z : Key). IsEarlier (key c) z) d.is (in_each (IsEarlierCouple c) cs d.couple h d.among) in
            absurd (not_both_keys (key c) k before (in_each (IsEarlier k) ks (key c) g r))
      ]
    ]

-- two lists in order that have the same keys
keys_are : (cs : List Couple) (ks : List Key) → Pairwise IsEarlierCouple cs → Pairwise IsEarlier ks → Covered cs ks → Covering cs ks → map key cs ≡ ks
keys_are [] [] h g f e = refl
keys_are [] (k ∷ ks) h g f e = absurd (e k (inl refl))
keys_are (c ∷ cs) [] h g f e = absurd (f c (inl refl))
keys_are (c ∷ cs) (k ∷ ks) h g f e =
    let same : key c ≡ k = first_is c cs k ks h.0 g.0 (f c (inl refl)) (e k (inl refl)) in
    ap₂ (λ (x : Key) (xs : List Key). x ∷ xs) same (keys_are cs ks h.1 g.1 (covered same) (covering same))
  where
    covered : key c ≡ k → Covered cs ks
    covered same d i =
        elim (f d (inr i)) [
          | inl q ↦ absurd (not_same_keys (key c) (key d) (in_each (IsEarlierCouple c) cs d h.0 i) (same ∙ sym q))
          | inr r ↦ r
        ]

    covering : key c ≡ k → Covering cs ks
    covering same m i =
        elim (e m (inr i)) [
          | inl q ↦ absurd (not_same_keys k m (in_each (IsEarlier k) ks m g.0 i) (sym same ∙ sym q))
          | inr r ↦ r
        ]

in_at : (cs : List Couple) (at : ℕ) (c : Couple) → slice_get cs at ≡ Some c → IsMember c cs
in_at [] at c e = cc
in_at (d ∷ cs) zero c e = let f : d ≡ c = cc in inl (sym f)
in_at (d ∷ cs) (suc at) c e = inr (in_at cs at c e)

in_keys : (cs : List Couple) (c : Couple) → IsMember c cs → IsMember (key c) (map key cs)
in_keys [] c h = absurd h
in_keys (d ∷ cs) c h = elim h [ inl e ↦ inl (ap key e) | inr r ↦ inr (in_keys cs c r) ]

-- the keys of a graph's couples: those of dependent references
pub graph_keys : (n : Nest) (g : Graph) (h : IsGraphOf n g) (ks : List Key) → Pairwise IsEarlier ks → ((c : Couple) → IsCouple n c → IsMember (key c) ks)
    → ((k : Key) → IsMember k ks → AreDependent n k.0 k.1) → map key h.couples ≡ ks
graph_keys n g h ks order f e =
    keys_are h.couples ks h.in_order order (λ c i. f c (in_all (IsCouple n) h.couples c h.each i)) covering
  where
    covering : Covering h.couples ks
    covering k i =
        let a : IsAmong h.couples k.0 k.1 = h.every k.0 k.1 (e k i) in
        let same : key a.couple ≡ k = ap₂ (λ (p q : Place). (p, q)) a.from_is a.to_is in
        subst (λ (z : Key). IsMember z (map key h.couples)) same (in_keys h.couples a.couple (in_at h.couples a.at a.couple a.is_at))
