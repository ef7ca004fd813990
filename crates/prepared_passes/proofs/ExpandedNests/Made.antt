-- What has been made once private scalars are arrays: names.
use Rattle.std.proofs.Common.{◌≡◌, ◌⊎◌, inl, inr, refl, sym, ap, ◌∙◌, subst, ℕ, Bool, true, false, cond, Contains, List, [], ◌∷◌, ◌++◌, map, Option, Some, None}
use Rattle.std.specs.Prelude.{is_some, ◌||◌}
use Rattle.std.specs.List.{list_any}
use Rattle.std.specs.Str.{bytes_eq}
use Rattle.std.proofs.lemmas.List.{map-append}
use Rattle.std.proofs.lemmas.Slice.Eq.{bytes_eq-Decides}
use Rattle.components.specs.Lists.{Distinct, Each}
use Rattle.components.proofs.ListLaws.{Each-append}
use Rattle.indexmap.specs.IndexSet.{insert_key}
use Rattle.meaning.specs.Typed.{declared}
use Rattle.nest.specs.Bodies.{Standing, nest_statements}
use Rattle.nest.specs.Plain.{Made, Nest}
use Rattle.nest_order.proofs.orders.Lists.{In-append, In-left, In-right}
use Rattle.nest_order.proofs.orders.Membership.{In-map, map-In}
use Rattle.nest_order.specs.orders.Lists.{In}
use Rattle.pass_laws.proofs.NormalFacts.Tables.{each_from, each_in}
use Rattle.pass_laws.specs.prepared_nests.Nests.{IsPrepared}
use Rattle.pass_laws.specs.prepared_nests.Statements.{made_names}
use Rattle.pass_laws.proofs.PreparedNests.Lists.{Contains-In, In-Contains}
use Rattle.tree.specs.Names.{IsSourceName}
use Rattle.tree.specs.Plain.{Declaration, Given}
use Rattle.scalar_expand.specs.Expanded.{array_of, array_or, is_mask, made_before, made_now, named_private}
use Rattle.scalar_expand.specs.Privates.{made_kind, names_written, private_or_none, private_among, private_scalar, private_scalars, privates_named}
use Rattle.scalar_expand.specs.Stores.{arrays}
use Rattle.scalar_expand.specs.declared.privates.Private.{Private}
use Rattle.scalar_expand.proofs.Changes.{found}
use Rattle.scalar_expand.proofs.PrivateLaws.{first_begins, has_first}
use Rattle.prepared_passes.specs.expansion.Laws.{MayBeExpanded}
use Rattle.prepared_passes.proofs.ExpandedNests.MadeArrays.{mask_no_source}
use Rattle.prepared_passes.proofs.ExpandedNests.Names.{Named-so, apart, array_is, named_is, start}
use Rattle.prepared_passes.proofs.ExpandedNests.Round.{declared_kind_is, made_kind_is}

-- ---- lists without repeats

abbrev names : List Made → List (List ℕ)
names as' = map (λ (a : Made). a.name) as'

apart_from : (x : List ℕ) (xs : List (List ℕ)) → ¬ In x xs → Each (λ y. ¬ (x ≡ y)) xs
apart_from x xs n = each_from (λ y. ¬ (x ≡ y)) xs (λ y i e. n (subst (λ z. In z xs) (sym e) i))

both_distinct : (xs ys : List (List ℕ)) → Distinct xs → Distinct ys → ((x : List ℕ) → In x xs → ¬ In x ys) → Distinct (xs ++ ys)
both_distinct [] ys h k f = k
both_distinct (x ∷ xs) ys h k f = (
  each_from (λ y. ¬ (x ≡ y)) (xs ++ ys) (λ y i. by y (In-append y xs ys i)),
  both_distinct xs ys h.1 k (λ z i. f z (inr i)),
)
  where
    by : (y : List ℕ) → In y xs ⊎ In y ys → ¬ (x ≡ y)
    by y (inl i) = each_in (λ y. ¬ (x ≡ y)) xs h.0 y i
    by y (inr i) = λ e. f x (inl refl) (subst (λ z. In z ys) (sym e) i)

no_key : (x : List ℕ) (xs : List (List ℕ)) → list_any (bytes_eq x) xs ≡ false → ¬ In x xs
no_key x [] e i = i
no_key x (y ∷ xs) e i = by (bytes_eq x y) refl e i (no_key x xs)
  where
    by : (b : Bool) → bytes_eq x y ≡ b → (b || list_any (bytes_eq x) xs) ≡ false → In x (y ∷ xs) → (list_any (bytes_eq x) xs ≡ false → ¬ In x xs) → ⊥
    by true f g j r = cc
    by false f g (inl k) r = let bad : true ≡ false = sym ((bytes_eq-Decides x y).1 k) ∙ f in cc
    by false f g (inr j) r = r g j

written_once : (xs : List (List ℕ)) (ss : List Standing) → Distinct xs → Distinct (names_written xs ss)
written_once xs [] h = h
written_once xs (s ∷ ss) h = written_once (insert_key bytes_eq xs s.statement.left.name) ss (by (list_any (bytes_eq s.statement.left.name) xs) refl)
  where
    by : (b : Bool) → list_any (bytes_eq s.statement.left.name) xs ≡ b → Distinct (cond b xs (xs ++ s.statement.left.name ∷ []))
    by true e = h
    by false e = both_distinct xs (s.statement.left.name ∷ []) h (tt, tt) apart_here
      where
        apart_here : (x : List ℕ) → In x xs → ¬ In x (s.statement.left.name ∷ [])
        apart_here x i (inl f) = no_key s.statement.left.name xs e (subst (λ z. In z xs) f i)
        apart_here x i (inr j) = j

private_name : (m : Nest) (x : List ℕ) (p : Private) → private_scalar m x ≡ Some p → p.name ≡ x
private_name m x p e =
    let f = has_first m x p (nest_statements m) e in
    (first_begins m x p f.before f.standing f.behind (ap (private_among m x) (sym f.splits) ∙ e) f.none f.stands).1.name

named_among : (m : Nest) (xs : List (List ℕ)) (p : Private) → In p (privates_named m xs) → In p.name xs
named_among m [] p i = i
named_among m (x ∷ xs) p i = by (private_scalar m x) refl i (named_among m xs p)
  where
    by : (o : Option Private) → private_scalar m x ≡ o → In p (private_or_none o ++ privates_named m xs) → (In p (privates_named m xs) → In p.name xs) → In p.name (x ∷ xs)
    by None e j r = inr (r j)
    by (Some q) e (inl f) r = inl (ap (λ (t : Private). t.name) f ∙ private_name m x q e)
    by (Some q) e (inr j) r = inr (r j)

abbrev names_of : List Private → List (List ℕ)
names_of ps = map (λ (p : Private). p.name) ps

privates_once : (m : Nest) (xs : List (List ℕ)) → Distinct xs → Distinct (names_of (privates_named m xs))
privates_once m [] h = tt
privates_once m (x ∷ xs) h = by (private_scalar m x) refl (privates_once m xs h.1)
  where
    by : (o : Option Private) → private_scalar m x ≡ o → Distinct (names_of (privates_named m xs)) → Distinct (names_of (private_or_none o ++ privates_named m xs))
    by None e r = r
    by (Some p) e r = (apart_from p.name (names_of (privates_named m xs)) none, r)
      where
        none : ¬ In p.name (names_of (privates_named m xs))
        none i =
            let o = In-map (λ (q : Private). q.name) p.name (privates_named m xs) i in
            each_in (λ y. ¬ (x ≡ y)) xs h.0 p.name (subst (λ z. In z xs) (sym o.is) (named_among m xs o.it o.inside)) (sym (private_name m x p e))

-- ---- the nest

module _ (es : List Declaration) (around : List (List ℕ)) (deepest : ℕ) (m : Nest) (h : IsPrepared es around deepest m) (may : MayBeExpanded es m) where
  abbrev ps : List Private
  ps = private_scalars m

  abbrev before : List Made → List Made
  before as' = made_before m.symbols (private_scalars m) as'

  abbrev now : List Private → List Made
  now qs = made_now m.symbols qs

  -- an array in the place of a mask has its name
  same_name : (a : Made) (p : Private) → is_mask a.name ≡ true → named_private (private_scalars m) a.name ≡ Some p → p.array ≡ a.name
  same_name a p e f = by (array_is es around deepest m h may p g.0)
    where
      g : In p (private_scalars m) × (p.name ≡ a.name)
      g = found (private_scalars m) a.name p f

      by : Named-so es around deepest m h may p → p.array ≡ a.name
      by (inl (n, k)) = absurd (mask_no_source a.name e (subst IsSourceName g.1 n))
      by (inr (n, k)) = k ∙ g.1

  mask_name : (a : Made) → is_mask a.name ≡ true → (array_or m.symbols (named_private (private_scalars m) a.name) a).name ≡ a.name
  mask_name a e = by (named_private (private_scalars m) a.name) refl
    where
      by : (o : Option Private) → named_private (private_scalars m) a.name ≡ o → (array_or m.symbols o a).name ≡ a.name
      by None f = refl
      by (Some p) f = same_name a p e f

  -- what is left of what was made before
  data_of : (as' : List Made) (x : List ℕ) → In x (names (before as')) → In x (names as') × ((is_mask x ≡ true) ⊎ (named_private (private_scalars m) x ≡ None))
  data_of [] x i = absurd i
  data_of (a ∷ as') x i = by (is_mask a.name) refl i (λ j. data_of as' x j)
    where
      later : In x (names as') × ((is_mask x ≡ true) ⊎ (named_private (private_scalars m) x ≡ None)) → In x (names (a ∷ as')) × ((is_mask x ≡ true) ⊎ (named_private (private_scalars m) x ≡ None))
      later r = (inr r.0, r.1)

      other : (o : Option Private) → named_private (private_scalars m) a.name ≡ o → In x (names (cond (is_some o) (before as') (a ∷ before as')))
          → (In x (names (before as')) → In x (names as') × ((is_mask x ≡ true) ⊎ (named_private (private_scalars m) x ≡ None))) → In x (names (a ∷ as')) × ((is_mask x ≡ true) ⊎ (named_private (private_scalars m) x ≡ None))
      other (Some p) f j r = later (r j)
      other None f (inl k) r = (inl k, inr (ap (named_private (private_scalars m)) k ∙ f))
      other None f (inr j) r = later (r j)

      by : (b : Bool) → is_mask a.name ≡ b
          → In x (names (cond b (array_or m.symbols (named_private (private_scalars m) a.name) a ∷ before as') (cond (is_some (named_private (private_scalars m) a.name)) (before as') (a ∷ before as'))))
          → (In x (names (before as')) → In x (names as') × ((is_mask x ≡ true) ⊎ (named_private (private_scalars m) x ≡ None))) → In x (names (a ∷ as')) × ((is_mask x ≡ true) ⊎ (named_private (private_scalars m) x ≡ None))
      by true e (inl k) r = (inl (k ∙ mask_name a e), inl (ap is_mask (k ∙ mask_name a e) ∙ e))
      by true e (inr j) r = later (r j)
      by false e j r = other (named_private (private_scalars m) a.name) refl j r

  before_once : (as' : List Made) → Distinct (names as') → Distinct (names (before as'))
  before_once [] d = tt
  before_once (a ∷ as') d = by (is_mask a.name) refl (before_once as' d.1)
    where
      no_more : ¬ In a.name (names (before as'))
      no_more i = each_in (λ y. ¬ (a.name ≡ y)) (names as') d.0 a.name (data_of as' a.name i).0 refl

      other : (o : Option Private) → Distinct (names (before as')) → Distinct (names (cond (is_some o) (before as') (a ∷ before as')))
      other (Some p) r = r
      other None r = (apart_from a.name (names (before as')) no_more, r)

      by : (b : Bool) → is_mask a.name ≡ b → Distinct (names (before as'))
          → Distinct (names (cond b (array_or m.symbols (named_private (private_scalars m) a.name) a ∷ before as') (cond (is_some (named_private (private_scalars m) a.name)) (before as') (a ∷ before as'))))
      by true e r = (subst (λ x. Each (λ y. ¬ (x ≡ y)) (names (before as'))) (sym (mask_name a e)) (apart_from a.name (names (before as')) no_more), r)
      by false e r = other (named_private (private_scalars m) a.name) r

  -- a mask stays, and what isn't private
  kept : (as' : List Made) (x : List ℕ) → In x (names as') → (is_mask x ≡ true) ⊎ (named_private (private_scalars m) x ≡ None) → In x (names (before as'))
  kept [] x i k = i
  kept (a ∷ as') x i k = by (is_mask a.name) refl i (λ j. kept as' x j k)
    where
      other : is_mask a.name ≡ false → (o : Option Private) → named_private (private_scalars m) a.name ≡ o → In x (a.name ∷ names as') → (In x (names as') → In x (names (before as'))) → In x (names (cond (is_some o) (before as') (a ∷ before as')))
      other e (Some p) f (inl g) r = absurd (no k)
        where
          no : (is_mask x ≡ true) ⊎ (named_private (private_scalars m) x ≡ None) → ⊥
          no (inl t) = let bad : true ≡ false = sym t ∙ (ap is_mask g ∙ e) in cc
          no (inr t) = let bad : ◌≡◌ {A = Option Private} None (Some p) = sym t ∙ (ap (named_private (private_scalars m)) g ∙ f) in cc
      other e (Some p) f (inr j) r = r j
      other e None f (inl g) r = inl g
      other e None f (inr j) r = inr (r j)

      by : (b : Bool) → is_mask a.name ≡ b → In x (a.name ∷ names as') → (In x (names as') → In x (names (before as')))
          → In x (names (cond b (array_or m.symbols (named_private (private_scalars m) a.name) a ∷ before as') (cond (is_some (named_private (private_scalars m) a.name)) (before as') (a ∷ before as'))))
      by true e (inl g) r = inl (g ∙ sym (mask_name a e))
      by true e (inr j) r = inr (r j)
      by false e j r = other e (named_private (private_scalars m) a.name) refl j r

  -- ---- arrays that are new

  now_from : (qs : List Private) (x : List ℕ) → In x (names (now qs)) → (p : Private) × (In p qs) × (is_mask p.name ≡ false) × (x ≡ p.array)
  now_from [] x i = absurd i
  now_from (p ∷ qs) x i = by (is_mask p.name) refl i (λ j. now_from qs x j)
    where
      by : (b : Bool) → is_mask p.name ≡ b → In x (names (cond b (now qs) (array_of m.symbols p ∷ now qs))) → (In x (names (now qs)) → (q : Private) × (In q qs) × (is_mask q.name ≡ false) × (x ≡ q.array))
          → (q : Private) × (In q (p ∷ qs)) × (is_mask q.name ≡ false) × (x ≡ q.array)
      by true e j r = let s = r j in (s.0, inr s.1, s.2, s.3)
      by false e (inl f) r = (p, inl refl, e, f)
      by false e (inr j) r = let s = r j in (s.0, inr s.1, s.2, s.3)

  now_there : (qs : List Private) (p : Private) → In p qs → is_mask p.name ≡ false → In p.array (names (now qs))
  now_there [] p i e = i
  now_there (q ∷ qs) p i e = by (is_mask q.name) refl i (λ j. now_there qs p j e)
    where
      by : (b : Bool) → is_mask q.name ≡ b → In p (q ∷ qs) → (In p qs → In p.array (names (now qs))) → In p.array (names (cond b (now qs) (array_of m.symbols q ∷ now qs)))
      by true f (inl g) r = let bad : true ≡ false = sym f ∙ (ap (λ (t : Private). is_mask t.name) (sym g) ∙ e) in cc
      by true f (inr j) r = r j
      by false f (inl g) r = inl (ap (λ (t : Private). t.array) g)
      by false f (inr j) r = inr (r j)

  now_once : (qs : List Private) → ((p : Private) → In p qs → In p (private_scalars m)) → Distinct (names_of qs) → Distinct (names (now qs))
  now_once [] f d = tt
  now_once (p ∷ qs) f d = by (is_mask p.name) (now_once qs (λ q i. f q (inr i)) d.1)
    where
      none : ¬ In p.array (names (now qs))
      none i =
          let r = now_from qs p.array i in
          let same = apart es around deepest m h may p r.0 (f p (inl refl)) (f r.0 (inr r.1)) r.3 in
          each_in (λ y. ¬ (p.name ≡ y)) (names_of qs) d.0 p.name (subst (λ (q : Private). In q.name (names_of qs)) (sym same) (map-In (λ (q : Private). q.name) r.0 qs r.1)) refl

      by : (b : Bool) → Distinct (names (now qs)) → Distinct (names (cond b (now qs) (array_of m.symbols p ∷ now qs)))
      by true r = r
      by false r = (apart_from p.array (names (now qs)) none, r)

  -- ---- all of them

  abbrev all : List Made
  all = before m.made ++ now (private_scalars m)

  all_names : names (before m.made ++ now (private_scalars m)) ≡ names (before m.made) ++ names (now (private_scalars m))
  all_names = map-append (λ (a : Made). a.name) (before m.made) (now (private_scalars m))

  pub all_once : Distinct (names (before m.made ++ now (private_scalars m)))
  all_once = subst (λ (xs : List (List ℕ)). Distinct xs) (sym all_names)
      (both_distinct (names (before m.made)) (names (now (private_scalars m))) (before_once m.made h.parts.made_once)
      (now_once (private_scalars m) (λ p i. i) (privates_once m (names_written [] (nest_statements m)) (written_once [] (nest_statements m) tt))) disjoint)
    where
      disjoint : (x : List ℕ) → In x (names (before m.made)) → ¬ In x (names (now (private_scalars m)))
      disjoint x i j = by (array_is es around deepest m h may r.0 r.1)
        where
          r : (p : Private) × (In p (private_scalars m)) × (is_mask p.name ≡ false) × (x ≡ p.array)
          r = now_from (private_scalars m) x j

          was : In x (names m.made) × ((is_mask x ≡ true) ⊎ (named_private (private_scalars m) x ≡ None))
          was = data_of m.made x i

          no : x ≡ r.0.name → (is_mask x ≡ true) ⊎ (named_private (private_scalars m) x ≡ None) → ⊥
          no e (inl t) = let bad : true ≡ false = sym t ∙ (ap is_mask e ∙ r.2) in cc
          no e (inr t) = let bad : ◌≡◌ {A = Option Private} None (Some r.0) = sym t ∙ (ap (named_private (private_scalars m)) e ∙ named_is es around deepest m h may r.0 r.1) in cc

          by : Named-so es around deepest m h may r.0 → ⊥
          by (inl (n, k)) = may.unmade r.0 r.1 n (In-Contains r.0.array (made_names m) (subst (λ z. In z (made_names m)) r.3 was.0))
          by (inr (n, k)) = no (r.3 ∙ k) was.1

  pub stays : (x : List ℕ) → Contains (made_names m) x → named_private (private_scalars m) x ≡ None → Contains (names (before m.made ++ now (private_scalars m))) x
  stays x c none =
      In-Contains x (names (before m.made ++ now (private_scalars m))) (subst (λ xs. In x xs) (sym all_names)
      (In-left x (names (before m.made)) (names (now (private_scalars m))) (kept m.made x (Contains-In x (made_names m) c) (inr none))))

  pub array_made : (p : Private) → In p (private_scalars m) → Contains (names (before m.made ++ now (private_scalars m))) p.array
  array_made p i = In-Contains p.array (names (before m.made ++ now (private_scalars m))) (subst (λ xs. In p.array xs) (sym all_names) (by (is_mask p.name) refl))
    where
      mask_there : is_mask p.name ≡ true → In p.array (names (before m.made))
      mask_there e = kind (declared_kind_is m.declarations (made_kind m.made p.name) p.name p.kind (start es around deepest m h may p i).kind)
        where
          array : p.array ≡ p.name
          array = so (array_is es around deepest m h may p i)
            where
              so : Named-so es around deepest m h may p → p.array ≡ p.name
              so (inl (n, k)) = absurd (mask_no_source p.name e n)
              so (inr (n, k)) = k

          kind : ((d : Declaration) × (declared m.declarations p.name ≡ Some d) × (d.kind ≡ p.kind) × (d.extent ≡ Given [])) ⊎ (made_kind m.made p.name ≡ Some p.kind) → In p.array (names (before m.made))
          kind (inl r) = absurd (mask_no_source p.name e (may.source p.name r.0 r.1))
          kind (inr f) =
              let r = made_kind_is m.made p.name p.kind f in
              let there : In p.name (names m.made) = subst (λ x. In x (names m.made)) r.name (map-In (λ (a : Made). a.name) r.made m.made r.inside) in
              subst (λ x. In x (names (before m.made))) (sym array) (kept m.made p.name there (inl e))

      by : (b : Bool) → is_mask p.name ≡ b → In p.array (names (before m.made) ++ names (now (private_scalars m)))
      by true e = In-left p.array (names (before m.made)) (names (now (private_scalars m))) (mask_there e)
      by false e = In-right p.array (names (before m.made)) (names (now (private_scalars m))) (now_there (private_scalars m) p i e)

  -- ---- each of them

  -- what was made before, and isn't private, has the name of no array
  pub made_apart : (a : Made) → In a m.made → named_private (private_scalars m) a.name ≡ None → ¬ In a.name (arrays (private_scalars m))
  made_apart a i none j =
      let o = In-map (λ (p : Private). p.array) a.name (private_scalars m) j in
      by o.it o.inside o.is (array_is es around deepest m h may o.it o.inside)
    where
      by : (p : Private) → In p (private_scalars m) → a.name ≡ p.array → Named-so es around deepest m h may p → ⊥
      by p k e (inl (n, f)) = may.unmade p k n (subst (λ x. Contains (made_names m) x) e (In-Contains a.name (made_names m) (map-In (λ (a : Made). a.name) a m.made i)))
      by p k e (inr (n, f)) = let bad : ◌≡◌ {A = Option Private} None (Some p) = sym none ∙ (ap (named_private (private_scalars m)) (e ∙ f) ∙ named_is es around deepest m h may p k) in cc

  module _ (P : Made → Type 0) (old : (a : Made) → In a m.made → named_private (private_scalars m) a.name ≡ None → P a) (new : (p : Private) → In p (private_scalars m) → P (array_of m.symbols p)) where
    each_before : (as' : List Made) → ((a : Made) → In a as' → In a m.made) → Each P (before as')
    each_before [] f = tt
    each_before (a ∷ as') f = by (is_mask a.name) (named_private (private_scalars m) a.name) refl (each_before as' (λ b i. f b (inr i)))
      where
        by : (b : Bool) (o : Option Private) → named_private (private_scalars m) a.name ≡ o → Each P (before as') → Each P (cond b (array_or m.symbols o a ∷ before as') (cond (is_some o) (before as') (a ∷ before as')))
        by true None e r = (old a (f a (inl refl)) e, r)
        by true (Some p) e r = (new p (found (private_scalars m) a.name p e).0, r)
        by false None e r = (old a (f a (inl refl)) e, r)
        by false (Some p) e r = r

    each_now : (qs : List Private) → ((p : Private) → In p qs → In p (private_scalars m)) → Each P (now qs)
    each_now [] f = tt
    each_now (p ∷ qs) f = by (is_mask p.name) (each_now qs (λ q i. f q (inr i)))
      where
        by : (b : Bool) → Each P (now qs) → Each P (cond b (now qs) (array_of m.symbols p ∷ now qs))
        by true r = r
        by false r = (new p (f p (inl refl)), r)

    pub each_made : Each P (before m.made ++ now (private_scalars m))
    each_made = Each-append P (before m.made) (now (private_scalars m)) (each_before m.made (λ a i. i)) (each_now (private_scalars m) (λ p i. i))
