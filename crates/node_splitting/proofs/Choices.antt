-- Which references may be copied: from lists of edges to the relations that they stand for.
use Rattle.std.proofs.Common.{◌≡◌, ◌↔◌, refl, sym, ap, ◌∙◌, subst, inl, inr, ◌⊎◌, ℕ, ◌+◌, ◌<◌, ◌≤◌, ◌==◌, Bool, true, false, not, cond, ◌&&◌, ◌||◌, List, [], ◌∷◌, ◌++◌, map, length, get_or, take, arith}
use Rattle.std.specs.Prelude.{filter}
use Rattle.std.specs.List.{concat, list_any}
use Rattle.std.proofs.lemmas.Bool.Decides.{Decides-eqb}
use Rattle.std.proofs.lemmas.List.{append-nil, map-append, take_more}
use Rattle.std.proofs.lemmas.List.Elements.{filter-append}
use Rattle.components.specs.Lists.{IsMember}
use Rattle.components.specs.Orders.{IsComponent, IsOrder}
use Rattle.components.specs.Reachability.{AreBelow, AreMutual}
use Rattle.components.proofs.ListLaws.{Each-In, In-append}
use Rattle.dependence_graph.specs.declared.graphs.Dep.{Dep}
use Rattle.dependence_graph.specs.declared.graphs.Dep.TheVariants as dep
use Rattle.dependence_graph.specs.declared.graphs.Edge.{Edge}
use Rattle.dependence_graph.specs.declared.graphs.Place.{Place}
use Rattle.node_splitting.specs.Choice.{AreInOneComponent, IsFed, IsOverwritten, MayBeCopied, are_together, fed_in, feeds, has, is_anti, is_flow, is_listed, is_place, overwrites, overwritten_in, pairs_of}

-- ---- lists that are made edge by edge

pub pairs_step : (es : List Edge) (i : ℕ) (x : Edge) (old new : List (ℕ × ℕ)) → i < length es → x ≡ get_or es i x → old ≡ pairs_of (take i es)
    → new ≡ old ++ (x.from.stmt, x.to.stmt) ∷ [] → new ≡ pairs_of (take (i + 1) es)
pairs_step es i x old new inside is h k =
    k ∙ (ap (λ zs. zs ++ (x.from.stmt, x.to.stmt) ∷ []) h
    ∙ (sym (map-append (λ (e : Edge). (e.from.stmt, e.to.stmt)) (take i es) (x ∷ []))
    ∙ ap pairs_of (sym (take_more es i x inside ∙ ap (λ z. take i es ++ z ∷ []) (sym is)))))

wider : (a b : ℕ) → a ≤ b → (ps : List (ℕ × ℕ)) → AreBelow a ps → AreBelow b ps
wider a b h [] k = tt
wider a b h (p ∷ ps) k = ((omega (arith, h, k.0.0), omega (arith, h, k.0.1)), wider a b h ps k.1)

one_more : (b : ℕ) (ps : List (ℕ × ℕ)) (p : ℕ × ℕ) → AreBelow b ps → p.0 < b → p.1 < b → AreBelow b (ps ++ p ∷ [])
one_more b [] p h f g = ((f, g), tt)
one_more b (q ∷ ps) p h f g = (h.0, one_more b ps p h.1 f g)

pub below_step : (es : List Edge) (i : ℕ) (x : Edge) (old new : ℕ) → i < length es → x ≡ get_or es i x → AreBelow old (pairs_of (take i es))
    → old ≤ new → x.from.stmt < new → x.to.stmt < new → AreBelow new (pairs_of (take (i + 1) es))
below_step es i x old new inside is h le f g =
    let same : pairs_of (take (i + 1) es) ≡ pairs_of (take i es) ++ (x.from.stmt, x.to.stmt) ∷ [] =
    ap pairs_of (take_more es i x inside ∙ ap (λ z. take i es ++ z ∷ []) (sym is)) ∙ map-append (λ (e : Edge). (e.from.stmt, e.to.stmt)) (take i es) (x ∷ []) in
    subst (AreBelow new) (sym same) (one_more new (pairs_of (take i es)) (x.from.stmt, x.to.stmt) (wider old new le (pairs_of (take i es)) h) f g)

module _ (test : Edge → Bool) (place : Edge → Place) where
  pub chosen : (e : Edge) (b : Bool) (old new : List Place) → b ≡ test e → b ≡ true → new ≡ old ++ place e ∷ [] → new ≡ old ++ map place (filter test (e ∷ []))
  chosen e b old new f g k = k ∙ ap (λ c. old ++ map place (cond c (e ∷ []) [])) (sym (sym f ∙ g))

  pub passed : (e : Edge) (b : Bool) (old : List Place) → b ≡ test e → b ≡ false → old ≡ old ++ map place (filter test (e ∷ []))
  passed e b old f g = sym (ap (λ c. old ++ map place (cond c (e ∷ []) [])) (sym f ∙ g) ∙ append-nil old)

  pub places_step : (es : List Edge) (i : ℕ) (x : Edge) (old new : List Place) → i < length es → x ≡ get_or es i x → old ≡ map place (filter test (take i es))
      → new ≡ old ++ map place (filter test (x ∷ [])) → new ≡ map place (filter test (take (i + 1) es))
  places_step es i x old new inside is h k =
      k ∙ (ap (λ zs. zs ++ map place (filter test (x ∷ []))) h
      ∙ (sym (ap (map place) (filter-append test (take i es) (x ∷ [])) ∙ map-append place (filter test (take i es)) (filter test (x ∷ [])))
      ∙ ap (λ zs. map place (filter test zs)) (sym (take_more es i x inside ∙ ap (λ z. take i es ++ z ∷ []) (sym is)))))

-- ---- tests

both_true : (a b : Bool) → (a && b) ≡ true → (a ≡ true) × (b ≡ true)
both_true true b h = (refl, h)
both_true false b h = cc

both : (a b : Bool) → a ≡ true → b ≡ true → (a && b) ≡ true
both true b f g = g
both false b f g = cc

not_true : (a : Bool) → not a ≡ true → a ≡ false
not_true true h = cc
not_true false h = refl

by_bool : (b : Bool) → (b ≡ true) ⊎ (b ≡ false)
by_bool true = inl refl
by_bool false = inr refl

false_true : (b : Bool) → b ≡ false → b ≡ true → ⊥
false_true b f g = cc

any_in : {X : Type 0} (test : X → Bool) (xs : List X) → list_any test xs ≡ true → (x : X) × IsMember x xs × (test x ≡ true)
any_in test [] h = cc
any_in {X} test (x ∷ xs) h = by (test x) refl h (λ k. any_in test xs k)
  where
    by : (b : Bool) → test x ≡ b → (b || list_any test xs) ≡ true → (list_any test xs ≡ true → (y : X) × IsMember y xs × (test y ≡ true)) → (y : X) × IsMember y (x ∷ xs) × (test y ≡ true)
    by true e k more = (x, inl refl, e)
    by false e k more = let m = more k in (m.0, inr m.1, m.2)

in_any : {X : Type 0} (test : X → Bool) (xs : List X) (x : X) → IsMember x xs → test x ≡ true → list_any test xs ≡ true
in_any test [] x i h = absurd i
in_any test (y ∷ xs) x (inl e) h = ap (λ b. b || list_any test xs) (sym (ap test e) ∙ h)
in_any test (y ∷ xs) x (inr i) h = by (test y) (in_any test xs x i h)
  where
    by : (b : Bool) → list_any test xs ≡ true → (b || list_any test xs) ≡ true
    by true k = refl
    by false k = k

in_filter : {X : Type 0} (test : X → Bool) (xs : List X) (x : X) → IsMember x (filter test xs) → IsMember x xs × (test x ≡ true)
in_filter test [] x i = absurd i
in_filter test (y ∷ xs) x i = by (test y) refl i (λ j. in_filter test xs x j)
  where
    by : (b : Bool) → test y ≡ b → IsMember x (cond b (y ∷ filter test xs) (filter test xs)) → (IsMember x (filter test xs) → IsMember x xs × (test x ≡ true)) → IsMember x (y ∷ xs) × (test x ≡ true)
    by true e (inl f) more = (inl f, ap test f ∙ e)
    by true e (inr j) more = let m = more j in (inr m.0, m.1)
    by false e j more = let m = more j in (inr m.0, m.1)

filter_in : {X : Type 0} (test : X → Bool) (xs : List X) (x : X) → IsMember x xs → test x ≡ true → IsMember x (filter test xs)
filter_in test [] x i h = absurd i
filter_in test (y ∷ xs) x (inl e) h = subst (λ b. IsMember x (cond b (y ∷ filter test xs) (filter test xs))) (sym (sym (ap test e) ∙ h)) (inl e)
filter_in test (y ∷ xs) x (inr i) h = by (test y) (filter_in test xs x i h)
  where
    by : (b : Bool) → IsMember x (filter test xs) → IsMember x (cond b (y ∷ filter test xs) (filter test xs))
    by true j = inr j
    by false j = j

in_map : {X Y : Type 0} (f : X → Y) (xs : List X) (y : Y) → IsMember y (map f xs) → (x : X) × IsMember x xs × (y ≡ f x)
in_map f [] y i = absurd i
in_map f (x ∷ xs) y (inl e) = (x, inl refl, e)
in_map f (x ∷ xs) y (inr i) = let m = in_map f xs y i in (m.0, inr m.1, m.2)

map_in : {X Y : Type 0} (f : X → Y) (xs : List X) (x : X) → IsMember x xs → IsMember (f x) (map f xs)
map_in f [] x i = absurd i
map_in f (y ∷ xs) x (inl e) = inl (ap f e)
map_in f (y ∷ xs) x (inr i) = inr (map_in f xs x i)

same_number : (a b : ℕ) → (a == b) ≡ true → a ≡ b
same_number a b h = (Decides-eqb a b).0 h

same_itself : (a : ℕ) → (a == a) ≡ true
same_itself a = (Decides-eqb a a).1 refl

in_has : (c : List ℕ) (a : ℕ) → IsMember a c → has c a ≡ true
in_has c a i = in_any (λ b. b == a) c a i (same_itself a)

has_in : (c : List ℕ) (a : ℕ) → has c a ≡ true → IsMember a c
has_in c a h = let m = any_in (λ b. b == a) c h in subst (λ z. IsMember z c) (same_number m.0 a m.2) m.1

in_concat : (cs : List (List ℕ)) (a : ℕ) → IsMember a (concat cs) → (c : List ℕ) × IsMember c cs × IsMember a c
in_concat [] a i = absurd i
in_concat (c ∷ cs) a i = by (In-append a c (concat cs) i) (λ j. in_concat cs a j)
  where
    by : IsMember a c ⊎ IsMember a (concat cs) → (IsMember a (concat cs) → (d : List ℕ) × IsMember d cs × IsMember a d) → (d : List ℕ) × IsMember d (c ∷ cs) × IsMember a d
    by (inl j) more = (c, inl refl, j)
    by (inr j) more = let m = more j in (m.0, inr m.1, m.2)

-- ---- components

module _ (n : ℕ) (pairs : List (ℕ × ℕ)) (classes : List (List ℕ)) (order : IsOrder n pairs classes) where
  pub together_mutual : (a b : ℕ) → are_together classes a b ≡ true → AreMutual pairs a b
  together_mutual a b h =
      let m = any_in (λ c. has c a && has c b) classes h in
      let k = both_true (has m.0 a) (has m.0 b) m.2 in
      (Each-In (IsComponent pairs) classes order.components m.0 m.1 a b (has_in m.0 a k.0)).0 (has_in m.0 b k.1)

  pub mutual_together : (a b : ℕ) → a < n → AreMutual pairs a b → are_together classes a b ≡ true
  mutual_together a b h k =
      let m = in_concat classes a ((order.members a).1 h) in
      let other = (Each-In (IsComponent pairs) classes order.components m.0 m.1 a b m.2).1 k in
      in_any (λ c. has c a && has c b) classes m.0 m.1 (both (has m.0 a) (has m.0 b) (in_has m.0 a m.2) (in_has m.0 b other))

in_pairs : (es : List Edge) (e : Edge) → IsMember e es → IsMember (e.from.stmt, e.to.stmt) (pairs_of es)
in_pairs es e i = map_in (λ (x : Edge). (x.from.stmt, x.to.stmt)) es e i

-- ---- kinds

anti_is : (k : Dep) → is_anti k ≡ true → k ≡ dep.Anti
anti_is dep.Flow h = cc
anti_is dep.Anti h = refl
anti_is dep.Output h = cc

flow_is : (k : Dep) → is_flow k ≡ true → k ≡ dep.Flow
flow_is dep.Flow h = refl
flow_is dep.Anti h = cc
flow_is dep.Output h = cc

place_is : (p q : Place) → is_place p q ≡ true → q ≡ p
place_is p q h =
    let k = both_true (q.stmt == p.stmt) (q.at == p.at) h in
    let f = same_number q.stmt p.stmt k.0 in
    let g = same_number q.at p.at k.1 in
    λ i. record { stmt = f i; at = g i }

is_itself : (p : Place) → is_place p p ≡ true
is_itself p = both (p.stmt == p.stmt) (p.at == p.at) (same_itself p.stmt) (same_itself p.at)

-- ---- the choice

module _ (n : ℕ) (es : List Edge) (classes : List (List ℕ)) (below : AreBelow n (pairs_of es)) (order : IsOrder n (pairs_of es) classes) (p : Place) where
  listed_overwritten : is_listed (overwritten_in classes es) p ≡ true → IsOverwritten es p
  listed_overwritten h =
      let m = any_in (is_place p) (overwritten_in classes es) h in
      let f = in_map (λ (e : Edge). e.from) (filter (overwrites classes) es) m.0 m.1 in
      let g = in_filter (overwrites classes) es f.0 f.1 in
      let k = both_true (is_anti f.0.kind) (not (f.0.to.stmt == f.0.from.stmt) && are_together classes f.0.from.stmt f.0.to.stmt) g.1 in
      let l = both_true (not (f.0.to.stmt == f.0.from.stmt)) (are_together classes f.0.from.stmt f.0.to.stmt) k.1 in
      let from : f.0.from ≡ p = sym f.2 ∙ place_is p m.0 m.2 in
      record {
        edge = f.0;
        is = g.0;
        kind = anti_is f.0.kind k.0;
        from = from;
        other = λ e. false_true (f.0.to.stmt == f.0.from.stmt) (not_true (f.0.to.stmt == f.0.from.stmt) l.0)
            (ap (λ z. f.0.to.stmt == z) (sym (e ∙ sym (ap (λ (q : Place). q.stmt) from))) ∙ same_itself f.0.to.stmt);
        together = subst (λ (q : Place). AreInOneComponent es q.stmt f.0.to.stmt) from (together_mutual n (pairs_of es) classes order f.0.from.stmt f.0.to.stmt l.1);
      }

  overwritten_listed : IsOverwritten es p → is_listed (overwritten_in classes es) p ≡ true
  overwritten_listed o =
      let e = o.edge in
      let under = (Each-In (λ (q : ℕ × ℕ). (q.0 < n) × (q.1 < n)) (pairs_of es) below (e.from.stmt, e.to.stmt) (in_pairs es e o.is)).0 in
      let mutual' = subst (λ (q : Place). AreInOneComponent es q.stmt e.to.stmt) (sym o.from) o.together in
      let together = mutual_together n (pairs_of es) classes order e.from.stmt e.to.stmt under mutual' in
      let other : not (e.to.stmt == e.from.stmt) ≡ true = by (e.to.stmt == e.from.stmt) refl in
      let test = both (is_anti e.kind) (not (e.to.stmt == e.from.stmt) && are_together classes e.from.stmt e.to.stmt) (ap is_anti o.kind)
      (both (not (e.to.stmt == e.from.stmt)) (are_together classes e.from.stmt e.to.stmt) other together) in
      in_any (is_place p) (overwritten_in classes es) e.from (map_in (λ (x : Edge). x.from) (filter (overwrites classes) es) e (filter_in (overwrites classes) es e o.is test))
      (ap (is_place p) o.from ∙ is_itself p)
    where
      by : (b : Bool) → (o.edge.to.stmt == o.edge.from.stmt) ≡ b → not b ≡ true
      by true h = absurd (o.other (same_number o.edge.to.stmt o.edge.from.stmt h ∙ ap (λ (q : Place). q.stmt) o.from))
      by false h = refl

  listed_fed : is_listed (fed_in classes es) p ≡ true → IsFed es p
  listed_fed h =
      let m = any_in (is_place p) (fed_in classes es) h in
      let f = in_map (λ (e : Edge). e.to) (filter (feeds classes) es) m.0 m.1 in
      let g = in_filter (feeds classes) es f.0 f.1 in
      let k = both_true (is_flow f.0.kind) (are_together classes f.0.from.stmt f.0.to.stmt) g.1 in
      let to : f.0.to ≡ p = sym f.2 ∙ place_is p m.0 m.2 in
      record {
        edge = f.0;
        is = g.0;
        kind = flow_is f.0.kind k.0;
        to = to;
        together = subst (λ (q : Place). AreInOneComponent es f.0.from.stmt q.stmt) to (together_mutual n (pairs_of es) classes order f.0.from.stmt f.0.to.stmt k.1);
      }

  fed_listed : IsFed es p → is_listed (fed_in classes es) p ≡ true
  fed_listed o =
      let e = o.edge in
      let under = (Each-In (λ (q : ℕ × ℕ). (q.0 < n) × (q.1 < n)) (pairs_of es) below (e.from.stmt, e.to.stmt) (in_pairs es e o.is)).0 in
      let mutual' = subst (λ (q : Place). AreInOneComponent es e.from.stmt q.stmt) (sym o.to) o.together in
      let together = mutual_together n (pairs_of es) classes order e.from.stmt e.to.stmt under mutual' in
      let test = both (is_flow e.kind) (are_together classes e.from.stmt e.to.stmt) (ap is_flow o.kind) together in
      in_any (is_place p) (fed_in classes es) e.to (map_in (λ (x : Edge). x.to) (filter (feeds classes) es) e (filter_in (feeds classes) es e o.is test))
      (ap (is_place p) o.to ∙ is_itself p)

  pub choice_is_right : ((is_listed (overwritten_in classes es) p && not (is_listed (fed_in classes es) p)) ≡ true) ↔ MayBeCopied es p
  choice_is_right = (
    λ h.
        let k = both_true (is_listed (overwritten_in classes es) p) (not (is_listed (fed_in classes es) p)) h in
        record {
          overwritten = listed_overwritten k.0;
          unfed = λ f. false_true (is_listed (fed_in classes es) p) (not_true (is_listed (fed_in classes es) p) k.1) (fed_listed f);
        },
    λ m. both (is_listed (overwritten_in classes es) p) (not (is_listed (fed_in classes es) p)) (overwritten_listed m.overwritten) (unlisted (is_listed (fed_in classes es) p) refl m),
  )
    where
      unlisted : (b : Bool) → is_listed (fed_in classes es) p ≡ b → MayBeCopied es p → not b ≡ true
      unlisted true e m = absurd (m.unfed (listed_fed e))
      unlisted false e m = refl

-- ---- for the code

pub overwritten_found : (classes : List (List ℕ)) (e : Edge) (b : Bool) (old new : List Place) → b ≡ overwrites classes e → b ≡ true → new ≡ old ++ e.from ∷ [] → new ≡ old ++ overwritten_in classes (e ∷ [])
overwritten_found classes e b old new f g k = chosen (overwrites classes) (λ (x : Edge). x.from) e b old new f g k

pub overwritten_none : (classes : List (List ℕ)) (e : Edge) (b : Bool) (old : List Place) → b ≡ overwrites classes e → b ≡ false → old ≡ old ++ overwritten_in classes (e ∷ [])
overwritten_none classes e b old f g = passed (overwrites classes) (λ (x : Edge). x.from) e b old f g

pub fed_found : (classes : List (List ℕ)) (e : Edge) (b : Bool) (old new : List Place) → b ≡ feeds classes e → b ≡ true → new ≡ old ++ e.to ∷ [] → new ≡ old ++ fed_in classes (e ∷ [])
fed_found classes e b old new f g k = chosen (feeds classes) (λ (x : Edge). x.to) e b old new f g k

pub fed_none : (classes : List (List ℕ)) (e : Edge) (b : Bool) (old : List Place) → b ≡ feeds classes e → b ≡ false → old ≡ old ++ fed_in classes (e ∷ [])
fed_none classes e b old f g = passed (feeds classes) (λ (x : Edge). x.to) e b old f g

pub ruleset place_laws = (overwritten_found, overwritten_none, fed_found, fed_none)
