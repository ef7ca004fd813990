-- What is made for an expanded nest: what was made before, and arrays in the place of private scalars.
use Rattle.std.proofs.Common.{◌≡◌, ◌⊎◌, inl, inr, refl, sym, ap, ◌∙◌, ℕ, suc, ◌≤◌, Bool, true, false, cond, ◌&&◌, List, [], ◌∷◌, ◌++◌, map, length, Option, Some, None, Contains, arith}
use Rattle.std.specs.Prelude.{codes, is_some, ◌==◌}
use Rattle.std.specs.Str.{bytes_eq}
use Rattle.std.proofs.lemmas.Slice.Eq.{bytes_eq-Decides}
use Rattle.tree.specs.Names.{IsSourceName}
use Rattle.tree.specs.Plain.{Expression}
use Rattle.tree.specs.declared.ops.Kind.{Kind}
use Rattle.nest.specs.Plain.{Made, Nest}
use Rattle.nest_order.proofs.orders.Membership.{In-map, map-In}
use Rattle.nest_order.proofs.orders.Lists.{In-append}
use Rattle.nest_order.specs.orders.Lists.{In}
use Rattle.nest_rewrite.specs.Assembled.{with_parts}
use Rattle.pass_laws.proofs.PreparedNests.Lists.{Contains-In, In-Contains}
use Rattle.scalar_expand.specs.Expanded.{array_of, array_or, has_prefix, expanded, is_mask, made_before, made_now, named_private, with_made_arrays}
use Rattle.scalar_expand.specs.Privates.{kind_if_bare, made_kind, private_scalars}
use Rattle.scalar_expand.specs.declared.privates.Private.{Private}

-- ---- the nest

pub symbols_are : (m : Nest) → (expanded m).symbols ≡ m.symbols
unfolding with_made_arrays with_parts
symbols_are m = refl

pub declarations_are : (m : Nest) → (expanded m).declarations ≡ m.declarations
unfolding with_made_arrays with_parts
declarations_are m = refl

pub made_are : (m : Nest) → (expanded m).made ≡ made_before m.symbols (private_scalars m) m.made ++ made_now m.symbols (private_scalars m)
unfolding with_made_arrays with_parts
made_are m = refl

-- ---- names of masks

no_longer : (xs ys : List ℕ) → has_prefix xs ys ≡ true → length xs ≤ length ys
no_longer [] ys h = omega arith
no_longer (x ∷ xs) [] h = cc
no_longer (x ∷ xs) (y ∷ ys) h = by (x == y) h (λ g. no_longer xs ys g)
  where
    by : (b : Bool) → (b && has_prefix xs ys) ≡ true → (has_prefix xs ys ≡ true → length xs ≤ length ys) → suc (length xs) ≤ suc (length ys)
    by true g more = let less = more g in omega (arith, less)
    by false g more = cc

pub mask_no_source : (x : List ℕ) → is_mask x ≡ true → IsSourceName x → ⊥
mask_no_source x h n =
    let long = no_longer (codes "FV_MASK_") x h in
    let eight : length (codes "FV_MASK_") ≡ 8 = refl in
    let short = n.within in
    omega (arith, long, eight, short)

-- ---- what was made before

pub named_in : (ms : List Made) (x : List ℕ) → Contains (map (λ (a : Made). a.name) ms) x → (a : Made) × In a ms × (a.name ≡ x)
named_in ms x c = let r = In-map (λ (a : Made). a.name) x ms (Contains-In x (map (λ (a : Made). a.name) ms) c) in (r.it, r.inside, sym r.is)

pub name_in : (ms : List Made) (a : Made) → In a ms → Contains (map (λ (b : Made). b.name) ms) a.name
name_in ms a i = In-Contains a.name (map (λ (b : Made). b.name) ms) (map-In (λ (b : Made). b.name) a ms i)

-- a name is made or it isn't
pub made_or_not : (ms : List Made) (x : List ℕ) → ((a : Made) × In a ms × (a.name ≡ x)) ⊎ ((a : Made) → In a ms → ¬ (a.name ≡ x))
made_or_not [] x = inr (λ a i e. i)
made_or_not (b ∷ ms) x = by (bytes_eq b.name x) refl (made_or_not ms x)
  where
    by : (c : Bool) → bytes_eq b.name x ≡ c → ((a : Made) × In a ms × (a.name ≡ x)) ⊎ ((a : Made) → In a ms → ¬ (a.name ≡ x))
        → ((a : Made) × In a (b ∷ ms) × (a.name ≡ x)) ⊎ ((a : Made) → In a (b ∷ ms) → ¬ (a.name ≡ x))
    by true e r = inl (b, inl refl, (bytes_eq-Decides b.name x).0 e)
    by false e (inl r) = inl (r.0, inr r.1, r.2)
    by false e (inr r) = inr none
      where
        none : (a : Made) → In a (b ∷ ms) → ¬ (a.name ≡ x)
        none a (inl f) g =
            let yes : bytes_eq b.name x ≡ true = (bytes_eq-Decides b.name x).1 (ap (λ (c : Made). c.name) (sym f) ∙ g) in
            let no : true ≡ false = sym yes ∙ e in
            cc
        none a (inr i) g = r a i g

pub record IsMadeOf (ms : List Made) (x : List ℕ) (k : Kind) : Type 0 where
  pub made : Made
  pub inside : In made ms
  pub name : made.name ≡ x
  pub kind : made.kind ≡ k

pub made_of : (ms : List Made) (x : List ℕ) (k : Kind) → made_kind ms x ≡ Some k → IsMadeOf ms x k
made_of [] x k e = cc
made_of (a ∷ ms) x k e = by (bytes_eq a.name x) refl e (λ f. made_of ms x k f)
  where
    same : (j : Kind) → ◌≡◌ {A = Option Kind} (Some j) (Some k) → j ≡ k
    same j f = cc

    one : (es : List Expression) → kind_if_bare es a.kind ≡ Some k → a.kind ≡ k
    one [] f = same a.kind f
    one (y ∷ es) f = cc

    by : (b : Bool) → bytes_eq a.name x ≡ b → cond b (kind_if_bare a.extents a.kind) (made_kind ms x) ≡ Some k
        → (made_kind ms x ≡ Some k → IsMadeOf ms x k) → IsMadeOf (a ∷ ms) x k
    by true h f r = record { made = a; inside = inl refl; name = (bytes_eq-Decides a.name x).0 h; kind = one a.extents f }
    by false h f r = let m = r f in record { made = m.made; inside = inr m.inside; name = m.name; kind = m.kind }

-- ---- what is made then

none_some : (p : Private) → ◌≡◌ {A = Option Private} None (Some p) → ⊥
none_some p e = cc

module _ (symbols : List (List ℕ)) (ps : List Private) where
  pub stays_made : (ms : List Made) (a : Made) → In a ms → named_private ps a.name ≡ None → In a (made_before symbols ps ms)
  stays_made [] a i none = i
  stays_made (b ∷ ms) a i none = by (is_mask b.name) (named_private ps b.name) refl i (λ j. stays_made ms a j none)
    where
      no : (p : Private) → a ≡ b → named_private ps b.name ≡ Some p → ⊥
      no p f e = none_some p (sym none ∙ (ap (λ (c : Made). named_private ps c.name) f ∙ e))

      by : (c : Bool) (o : Option Private) → named_private ps b.name ≡ o → In a (b ∷ ms) → (In a ms → In a (made_before symbols ps ms))
          → In a (cond c (array_or symbols o b ∷ made_before symbols ps ms) (cond (is_some o) (made_before symbols ps ms) (b ∷ made_before symbols ps ms)))
      by true None e (inl f) r = inl f
      by true None e (inr j) r = inr (r j)
      by true (Some p) e (inl f) r = absurd (no p f e)
      by true (Some p) e (inr j) r = inr (r j)
      by false None e (inl f) r = inl f
      by false None e (inr j) r = inr (r j)
      by false (Some p) e (inl f) r = absurd (no p f e)
      by false (Some p) e (inr j) r = r j

  pub mask_made : (ms : List Made) (a : Made) (p : Private) → In a ms → is_mask a.name ≡ true → named_private ps a.name ≡ Some p
      → In (array_of symbols p) (made_before symbols ps ms)
  mask_made [] a p i mask is = i
  mask_made (b ∷ ms) a p i mask is =
      by (is_mask b.name) refl (named_private ps b.name) refl i (λ j. mask_made ms a p j mask is)
    where
      one : (q : Private) → ◌≡◌ {A = Option Private} (Some q) (Some p) → array_of symbols p ≡ array_of symbols q
      one q e = let same : q ≡ p = cc in ap (array_of symbols) (sym same)

      there : a ≡ b → named_private ps b.name ≡ Some p
      there f = ap (λ (c : Made). named_private ps c.name) (sym f) ∙ is

      by : (c : Bool) → is_mask b.name ≡ c → (o : Option Private) → named_private ps b.name ≡ o → In a (b ∷ ms)
          → (In a ms → In (array_of symbols p) (made_before symbols ps ms))
          → In (array_of symbols p) (cond c (array_or symbols o b ∷ made_before symbols ps ms) (cond (is_some o) (made_before symbols ps ms) (b ∷ made_before symbols ps ms)))
      by true g None e (inl f) r = absurd (none_some p (sym e ∙ there f))
      by true g None e (inr j) r = inr (r j)
      by true g (Some q) e (inl f) r = inl (one q (sym e ∙ there f))
      by true g (Some q) e (inr j) r = inr (r j)
      by false g o e (inl f) r = let no : true ≡ false = sym mask ∙ (ap (λ (c : Made). is_mask c.name) f ∙ g) in cc
      by false g None e (inr j) r = inr (r j)
      by false g (Some q) e (inr j) r = r j

  pub now_made : (qs : List Private) (p : Private) → In p qs → is_mask p.name ≡ false → In (array_of symbols p) (made_now symbols qs)
  now_made [] p i none = i
  now_made (q ∷ qs) p i none = by (is_mask q.name) refl i (λ j. now_made qs p j none)
    where
      by : (c : Bool) → is_mask q.name ≡ c → In p (q ∷ qs) → (In p qs → In (array_of symbols p) (made_now symbols qs))
          → In (array_of symbols p) (cond c (made_now symbols qs) (array_of symbols q ∷ made_now symbols qs))
      by true g (inl f) r = let no : true ≡ false = sym g ∙ (ap (λ (r : Private). is_mask r.name) (sym f) ∙ none) in cc
      by true g (inr j) r = r j
      by false g (inl f) r = inl (ap (array_of symbols) f)
      by false g (inr j) r = inr (r j)

  -- ---- and nothing else

  abbrev pub IsOfPrivate : Made → Type 0
  IsOfPrivate a = (p : Private) × In p ps × (a ≡ array_of symbols p)

  before_is : ((x : List ℕ) (p : Private) → named_private ps x ≡ Some p → In p ps) → (ms : List Made) (a : Made) → In a (made_before symbols ps ms)
      → (In a ms × (named_private ps a.name ≡ None)) ⊎ IsOfPrivate a
  before_is among [] a i = absurd i
  before_is among (b ∷ ms) a i = by (is_mask b.name) (named_private ps b.name) refl i (λ j. later (before_is among ms a j))
    where
      later : (In a ms × (named_private ps a.name ≡ None)) ⊎ IsOfPrivate a → (In a (b ∷ ms) × (named_private ps a.name ≡ None)) ⊎ IsOfPrivate a
      later (inl h) = inl (inr h.0, h.1)
      later (inr h) = inr h

      itself : a ≡ b → named_private ps b.name ≡ None → (In a (b ∷ ms) × (named_private ps a.name ≡ None)) ⊎ IsOfPrivate a
      itself f e = inl (inl f, ap (λ (c : Made). named_private ps c.name) f ∙ e)

      by : (c : Bool) (o : Option Private) → named_private ps b.name ≡ o
          → In a (cond c (array_or symbols o b ∷ made_before symbols ps ms) (cond (is_some o) (made_before symbols ps ms) (b ∷ made_before symbols ps ms)))
          → (In a (made_before symbols ps ms) → (In a (b ∷ ms) × (named_private ps a.name ≡ None)) ⊎ IsOfPrivate a)
          → (In a (b ∷ ms) × (named_private ps a.name ≡ None)) ⊎ IsOfPrivate a
      by true None e (inl f) r = itself f e
      by true None e (inr j) r = r j
      by true (Some p) e (inl f) r = inr (p, among b.name p e, f)
      by true (Some p) e (inr j) r = r j
      by false None e (inl f) r = itself f e
      by false None e (inr j) r = r j
      by false (Some p) e j r = r j

  now_is : (qs : List Private) (a : Made) → In a (made_now symbols qs) → (p : Private) × In p qs × (a ≡ array_of symbols p)
  now_is [] a i = absurd i
  now_is (q ∷ qs) a i = by (is_mask q.name) i (λ j. now_is qs a j)
    where
      by : (c : Bool) → In a (cond c (made_now symbols qs) (array_of symbols q ∷ made_now symbols qs))
          → (In a (made_now symbols qs) → (p : Private) × In p qs × (a ≡ array_of symbols p)) → (p : Private) × In p (q ∷ qs) × (a ≡ array_of symbols p)
      by true j r = let h = r j in (h.0, inr h.1, h.2)
      by false (inl f) r = (q, inl refl, f)
      by false (inr j) r = let h = r j in (h.0, inr h.1, h.2)

  pub made_is : ((x : List ℕ) (p : Private) → named_private ps x ≡ Some p → In p ps) → (ms : List Made) (a : Made)
      → In a (made_before symbols ps ms ++ made_now symbols ps) → (In a ms × (named_private ps a.name ≡ None)) ⊎ IsOfPrivate a
  made_is among ms a i = by (In-append a (made_before symbols ps ms) (made_now symbols ps) i)
    where
      by : In a (made_before symbols ps ms) ⊎ In a (made_now symbols ps) → (In a ms × (named_private ps a.name ≡ None)) ⊎ IsOfPrivate a
      by (inl j) = before_is among ms a j
      by (inr j) = inr (now_is ps a j)
