-- The scalars that are renamed, and the names of their values at each place.
use Rattle.std.proofs.Common.{◌≡◌, ◌⊎◌, inl, inr, refl, sym, ap, ap₂, ◌∙◌, subst, ℕ, zero, suc, ◌+◌, ◌-◌, ◌≤◌, ◌<◌, ◌==◌, Bool, true, false, cond, ◌&&◌, ◌||◌, List, [], ◌∷◌, ◌++◌, length, Option, Some, None, arith, eq-or-lt_of_le}
use Rattle.std.specs.Prelude.{nat_le, slice_get}
use Rattle.std.specs.Str.{bytes_eq}
use Rattle.std.proofs.lemmas.Bool.{leb-true}
use Rattle.std.proofs.lemmas.Bool.Decides.{Decides-eqb}
use Rattle.std.proofs.lemmas.Slice.Eq.{bytes_eq-Decides}
use Rattle.nest.specs.Bodies.{Standing, nest_statements}
use Rattle.nest.specs.Plain.{Made, Nest}
use Rattle.nest_order.proofs.orders.Lists.{In-append, In-left, In-right}
use Rattle.nest_order.specs.orders.Lists.{In}
use Rattle.scalar_expand.specs.Privates.{is_source}
use Rattle.statement_passes.specs.MadeNames.{kind_if_scalar}
use Rattle.scalar_rename.specs.Ranges.{begins_range, is_renamed, name_or, one_more_if, owner, owner_at, owners_from, range_name, ranges_in, stands_in_one_body}
use Rattle.scalar_rename.specs.Ranges.{web_if_renamed, web_of, webs_among, webs_of}
use Rattle.scalar_rename.specs.Renamed.{made_from, made_of_web, made_of_webs, name_by, names_at}
use Rattle.scalar_rename.specs.declared.ranges.Web.{Web}
use Rattle.tree.specs.Plain.{Declaration}
use Rattle.tree.specs.declared.ops.Kind.{Kind}
use Rattle.prepared_passes.specs.renaming.Renamed.{names_made}

both_true : (a b : Bool) → (a && b) ≡ true → (a ≡ true) × (b ≡ true)
both_true true b e = (refl, e)
both_true false b e = cc

-- ---- numbers of ranges

pub more_ranges : (x : List ℕ) (xs ys : List Standing) → ranges_in x (xs ++ ys) ≡ ranges_in x xs + ranges_in x ys
more_ranges x [] ys = omega arith
more_ranges x (s ∷ xs) ys = ap (one_more_if (begins_range x s.statement)) (more_ranges x xs ys) ∙ by (begins_range x s.statement)
  where
    by : (b : Bool) → one_more_if b (ranges_in x xs + ranges_in x ys) ≡ one_more_if b (ranges_in x xs) + ranges_in x ys
    by true = omega arith
    by false = refl

pub none_begins : (x : List ℕ) (ss : List Standing) → ((s : Standing) → In s ss → begins_range x s.statement ≡ false) → ranges_in x ss ≡ 0
none_begins x [] f = refl
none_begins x (s ∷ ss) f = ap (λ b. one_more_if b (ranges_in x ss)) (f s (inl refl)) ∙ none_begins x ss (λ t i. f t (inr i))

pub record Begins (x : List ℕ) (ss : List Standing) : Type 0 where
  pub standing : Standing
  pub inside : In standing ss
  pub begins : begins_range x standing.statement ≡ true

pub some_begins : (x : List ℕ) (ss : List Standing) → Begins x ss ⊎ ((s : Standing) → In s ss → begins_range x s.statement ≡ false)
some_begins x [] = inr (λ s i. absurd i)
some_begins x (s ∷ ss) = by (begins_range x s.statement) refl (some_begins x ss)
  where
    by : (b : Bool) → begins_range x s.statement ≡ b → Begins x ss ⊎ ((t : Standing) → In t ss → begins_range x t.statement ≡ false)
        → Begins x (s ∷ ss) ⊎ ((t : Standing) → In t (s ∷ ss) → begins_range x t.statement ≡ false)
    by true e r = inl (record { standing = s; inside = inl refl; begins = e })
    by false e (inl b) = inl (record { standing = b.standing; inside = inr b.inside; begins = b.begins })
    by false e (inr f) = inr (λ t i. each t i)
      where
        each : (t : Standing) → In t (s ∷ ss) → begins_range x t.statement ≡ false
        each t (inl q) = ap (λ (y : Standing). begins_range x y.statement) q ∙ e
        each t (inr i) = f t i

-- ---- owners

-- x itself, or the name of a range but the last one
pub record IsRange (n : ℕ) (x : List ℕ) (all : ℕ) (y : List ℕ) : Type 0 where
  pub range : ℕ
  pub first : 1 ≤ range
  pub below : range < all
  pub is : y ≡ range_name n x range

owner_is : (n : ℕ) (x : List ℕ) (all j : ℕ) → j ≤ all → (owner n x all j ≡ x) ⊎ IsRange n x all (owner n x all j)
owner_is n x all j h = by (j == 0) refl (j == all) refl
  where
    by : (b : Bool) → (j == 0) ≡ b → (c : Bool) → (j == all) ≡ c → (owner n x all j ≡ x) ⊎ IsRange n x all (owner n x all j)
    by true e c f = inl (ap (λ d. cond (d || (j == all)) x (range_name n x j)) e)
    by false e true f = inl (ap₂ (λ d g. cond (d || g) x (range_name n x j)) e f)
    by false e false f =
        inr (record {
          range = j;
          first = not_zero j (λ g. true_false (sym ((Decides-eqb j 0).1 g) ∙ e));
          below = not_all j all h (λ g. true_false (sym ((Decides-eqb j all).1 g) ∙ f));
          is = ap₂ (λ d g. cond (d || g) x (range_name n x j)) e f;
        })
      where
        true_false : true ≡ false → ⊥
        true_false g = cc

        not_zero : (i : ℕ) → ¬ (i ≡ 0) → 1 ≤ i
        not_zero zero differs = absurd (differs refl)
        not_zero (suc i) differs = omega arith

        not_all : (i k : ℕ) → i ≤ k → ¬ (i ≡ k) → i < k
        not_all i k g differs = either (eq-or-lt_of_le g)
          where
            either : (i ≡ k) ⊎ (i < k) → i < k
            either (inl q) = absurd (differs q)
            either (inr q) = q

begun_more : (b : Bool) (j r : ℕ) → one_more_if b j + r ≡ j + one_more_if b r
begun_more true j r = omega arith
begun_more false j r = refl

-- behind these statements
owners_there : (n : ℕ) (x : List ℕ) (all j : ℕ) (pre post : List Standing)
    → slice_get (owners_from n x all j (pre ++ post)) (length pre) ≡ Some (owner n x all (j + ranges_in x pre))
owners_there n x all j [] [] = ap (λ i. Some (owner n x all i)) (omega arith)
owners_there n x all j [] (s ∷ post) = ap (λ i. Some (owner n x all i)) (omega arith)
owners_there n x all j (s ∷ pre) post =
    owners_there n x all (one_more_if (begins_range x s.statement) j) pre post
    ∙ ap (λ i. Some (owner n x all i)) (begun_more (begins_range x s.statement) j (ranges_in x pre))

-- anywhere
owners_are : (n : ℕ) (x : List ℕ) (all j : ℕ) (ss : List Standing) → j + ranges_in x ss ≤ all → (k : ℕ) (y : List ℕ) → slice_get (owners_from n x all j ss) k ≡ Some y → (y ≡ x) ⊎ IsRange n x all y
owners_are n x all j [] h zero y e =
    let same : owner n x all j ≡ y = cc in
    subst (λ z. (z ≡ x) ⊎ IsRange n x all z) same (owner_is n x all j (omega (arith, h)))
owners_are n x all j [] h (suc k) y e = by k e
  where
    by : (k : ℕ) → slice_get [] k ≡ Some y → (y ≡ x) ⊎ IsRange n x all y
    by k e = let bad : ⊥ = cc in absurd bad
owners_are n x all j (s ∷ ss) h zero y e =
    let same : owner n x all j ≡ y = cc in
    let less : j ≤ all = omega (arith, h) in
    subst (λ z. (z ≡ x) ⊎ IsRange n x all z) same (owner_is n x all j less)
owners_are n x all j (s ∷ ss) h (suc k) y e =
    let more = begun_more (begins_range x s.statement) j (ranges_in x ss) in
    owners_are n x all (one_more_if (begins_range x s.statement) j) ss (omega (arith, h, more)) k y e

-- ---- webs of a nest

abbrev pub standings_of : Nest → List Standing
standings_of m = nest_statements m

pub record IsWeb (m : Nest) (w : Web) : Type 0 where
  pub declaration : Declaration
  pub among : In declaration m.declarations
  pub kind : kind_if_scalar declaration ≡ Some w.kind
  pub named : w.name ≡ declaration.name
  pub is : w ≡ web_of m.number (nest_statements m) declaration.name w.kind
  pub renamed : is_renamed declaration.name (nest_statements m) ≡ true

module _ (m : Nest) where
  abbrev ss : List Standing
  ss = nest_statements m

  one_web : (x : List ℕ) (o : Option Kind) (w : Web) → In w (web_if_renamed m.number (nest_statements m) x o)
      → (k : Kind) × (o ≡ Some k) × (w ≡ web_of m.number (nest_statements m) x k) × (is_renamed x (nest_statements m) ≡ true)
  one_web x None w i = absurd i
  one_web x (Some k) w i = by (is_renamed x (nest_statements m)) refl i
    where
      by : (b : Bool) → is_renamed x (nest_statements m) ≡ b → In w (cond b (web_of m.number (nest_statements m) x k ∷ []) [])
          → (j : Kind) × (Some k ≡ Some j) × (w ≡ web_of m.number (nest_statements m) x j) × (is_renamed x (nest_statements m) ≡ true)
      by true e (inl q) = (k, refl, q, e)
      by true e (inr q) = absurd q
      by false e q = absurd q

  among_these : (ds : List Declaration) → ((d : Declaration) → In d ds → In d m.declarations) → (w : Web) → In w (webs_among m.number (nest_statements m) ds) → IsWeb m w
  among_these [] f w i = absurd i
  among_these (d ∷ ds) f w i =
      by (λ j. among_these ds (λ e k. f e (inr k)) w j) (In-append w (web_if_renamed m.number (nest_statements m) d.name (kind_if_scalar d)) (webs_among m.number (nest_statements m) ds) i)
    where
      by : (In w (webs_among m.number (nest_statements m) ds) → IsWeb m w) → In w (web_if_renamed m.number (nest_statements m) d.name (kind_if_scalar d)) ⊎ In w (webs_among m.number (nest_statements m) ds) → IsWeb m w
      by more (inl j) =
          let o = one_web d.name (kind_if_scalar d) w j in
          let kind : w.kind ≡ o.0 = ap (λ (v : Web). v.kind) o.2 in
          record {
            declaration = d;
            among = f d (inl refl);
            kind = o.1 ∙ ap (λ k. Some k) (sym kind);
            named = ap (λ (v : Web). v.name) o.2;
            is = o.2 ∙ ap (web_of m.number (nest_statements m) d.name) (sym kind);
            renamed = o.3;
          }
      by more (inr j) = more j

  pub web_is : (w : Web) → In w (webs_of m) → IsWeb m w
  web_is w i = among_these m.declarations (λ d j. j) w i

-- ---- names by places

abbrev pub names_of : Nest → ℕ → List ℕ → List ℕ
names_of m k = name_by (names_at (webs_of m) k)

-- a web is found by its name
pub record Found (ws : List Web) (x : List ℕ) : Type 0 where
  pub web : Web
  pub inside : In web ws
  pub named : web.name ≡ x
  pub at : (k : ℕ) → name_by (names_at ws k) x ≡ owner_at web k

pub find : (ws : List Web) (x : List ℕ) → Found ws x ⊎ ((k : ℕ) → name_by (names_at ws k) x ≡ x)
find [] x = inr (λ k. refl)
find (w ∷ ws) x = by (bytes_eq w.name x) refl (find ws x)
  where
    by : (b : Bool) → bytes_eq w.name x ≡ b → Found ws x ⊎ ((k : ℕ) → name_by (names_at ws k) x ≡ x) → Found (w ∷ ws) x ⊎ ((k : ℕ) → name_by (names_at (w ∷ ws) k) x ≡ x)
    by true e r = inl (record { web = w; inside = inl refl; named = (bytes_eq-Decides w.name x).0 e; at = λ k. ap (λ b. cond b (owner_at w k) (name_by (names_at ws k) x)) e })
    by false e (inl f) =
        inl (record { web = f.web; inside = inr f.inside; named = f.named; at = λ k. ap (λ b. cond b (owner_at w k) (name_by (names_at ws k) x)) e ∙ f.at k })
    by false e (inr f) = inr (λ k. ap (λ b. cond b (owner_at w k) (name_by (names_at ws k) x)) e ∙ f k)

-- ---- what was made

in_from : (n : ℕ) (x : List ℕ) (k : Kind) (j c i : ℕ) → j ≤ i → i < j + c → In (record { name = range_name n x i; kind = k; extents = [] }) (made_from n x k j c)
in_from n x k j zero i a b = absurd (omega (arith, a, b))
in_from n x k j (suc c) i a b = by (λ l. in_from n x k (suc j) c i (omega (arith, l)) (omega (arith, b))) (eq-or-lt_of_le a)
  where
    by : (j < i → In (record { name = range_name n x i; kind = k; extents = [] }) (made_from n x k (suc j) c)) → (j ≡ i) ⊎ (j < i)
        → In (record { name = range_name n x i; kind = k; extents = [] }) (made_from n x k j (suc c))
    by more (inl e) = inl (ap (λ h. let a : Made = record { name = range_name n x h; kind = k; extents = [] } in a) (sym e))
    by more (inr l) = inr (more l)

in_webs : (n : ℕ) (ws : List Web) (w : Web) → In w ws → (a : Made) → In a (made_of_web n w) → In a (made_of_webs n ws)
in_webs n [] w i a j = absurd i
in_webs n (v ∷ ws) w (inl e) a j = In-left a (made_of_web n v) (made_of_webs n ws) (subst (λ (u : Web). In a (made_of_web n u)) e j)
in_webs n (v ∷ ws) w (inr i) a j = In-right a (made_of_web n v) (made_of_webs n ws) (in_webs n ws w i a j)

-- what stands among these is the name of a range of one of these scalars
pub record IsRangeOf (n : ℕ) (ws : List Web) (a : Made) : Type 0 where
  pub web : Web
  pub inside : In web ws
  pub range : ℕ
  pub first : 1 ≤ range
  pub below : range < web.ranges
  pub is : a ≡ record { name = range_name n web.name range; kind = web.kind; extents = [] }

from_is : (n : ℕ) (x : List ℕ) (k : Kind) (j c : ℕ) (a : Made) → In a (made_from n x k j c) → (i : ℕ) × (j ≤ i) × (i < j + c) × (a ≡ record { name = range_name n x i; kind = k; extents = [] })
from_is n x k j zero a i = absurd i
from_is n x k j (suc c) a (inl e) = (j, omega arith, omega arith, e)
from_is n x k j (suc c) a (inr i) = let r = from_is n x k (suc j) c a i in (r.0, (let l = r.1 in omega (arith, l)), (let l = r.2 in omega (arith, l)), r.3)

pub made_is : (n : ℕ) (ws : List Web) (a : Made) → In a (made_of_webs n ws) → IsRangeOf n ws a
made_is n [] a i = absurd i
made_is n (w ∷ ws) a i = by (λ j. made_is n ws a j) (In-append a (made_of_web n w) (made_of_webs n ws) i)
  where
    by : (In a (made_of_webs n ws) → IsRangeOf n ws a) → In a (made_of_web n w) ⊎ In a (made_of_webs n ws) → IsRangeOf n (w ∷ ws) a
    by more (inl j) =
        let r = from_is n w.name w.kind 1 (w.ranges - 1) a j in
        let l = r.2 in
        let f = r.1 in
        record { web = w; inside = inl refl; range = r.0; first = r.1; below = omega (arith, l, f); is = r.3 }
    by more (inr j) = let r = more j in record { web = r.web; inside = inr r.inside; range = r.range; first = r.first; below = r.below; is = r.is }

-- ---- of one web

module _ (m : Nest) (w : Web) (h : IsWeb m w) where
  abbrev x : List ℕ
  x = w.name

  of_web : w ≡ web_of m.number (nest_statements m) w.name w.kind
  of_web = h.is ∙ ap (λ y. web_of m.number (nest_statements m) y w.kind) (sym h.named)

  pub renamed_is : is_renamed w.name (nest_statements m) ≡ true
  renamed_is = ap (λ y. is_renamed y (nest_statements m)) h.named ∙ h.renamed

  pub source : is_source w.name ≡ true
  source = (both_true (is_source w.name) (nat_le 2 (ranges_in w.name (nest_statements m)) && stands_in_one_body w.name (nest_statements m)) renamed_is).0

  parts : (nat_le 2 (ranges_in w.name (nest_statements m)) ≡ true) × (stands_in_one_body w.name (nest_statements m) ≡ true)
  parts = both_true (nat_le 2 (ranges_in w.name (nest_statements m))) (stands_in_one_body w.name (nest_statements m))
      (both_true (is_source w.name) (nat_le 2 (ranges_in w.name (nest_statements m)) && stands_in_one_body w.name (nest_statements m)) renamed_is).1

  pub one_body : stands_in_one_body w.name (nest_statements m) ≡ true
  one_body = parts.1

  pub all_ranges : w.ranges ≡ ranges_in w.name (nest_statements m)
  all_ranges = ap (λ (v : Web). v.ranges) of_web

  pub two : 2 ≤ ranges_in w.name (nest_statements m)
  two = leb-true 2 (ranges_in w.name (nest_statements m)) parts.0

  abbrev own_owners : List (List ℕ)
  own_owners = owners_from m.number w.name (ranges_in w.name (nest_statements m)) 0 (nest_statements m)

  owners_same : w.owners ≡ owners_from m.number w.name (ranges_in w.name (nest_statements m)) 0 (nest_statements m)
  owners_same = ap (λ (v : Web). v.owners) of_web

  -- where the statements are so parted
  pub owner_here : (pre post : List Standing) → nest_statements m ≡ pre ++ post
      → owner_at w (length pre) ≡ owner m.number w.name (ranges_in w.name (nest_statements m)) (ranges_in w.name pre)
  owner_here pre post e =
      ap (λ ys. name_or w.name (slice_get ys (length pre))) owners_same
      ∙ (ap (λ zs. name_or w.name (slice_get (owners_from m.number w.name (ranges_in w.name (nest_statements m)) 0 zs) (length pre))) e
      ∙ (ap (name_or w.name) (owners_there m.number w.name (ranges_in w.name (nest_statements m)) 0 pre post)
      ∙ ap (owner m.number w.name (ranges_in w.name (nest_statements m))) (omega arith)))

  pub owner_anywhere : (k : ℕ) → (owner_at w k ≡ w.name) ⊎ IsRange m.number w.name w.ranges (owner_at w k)
  owner_anywhere k = by (slice_get w.owners k) refl
    where
      by : (o : Option (List ℕ)) → slice_get w.owners k ≡ o → (name_or w.name o ≡ w.name) ⊎ IsRange m.number w.name w.ranges (name_or w.name o)
      by None e = inl refl
      by (Some y) e =
          subst (λ a. (y ≡ w.name) ⊎ IsRange m.number w.name a y) (sym all_ranges)
          (owners_are m.number w.name (ranges_in w.name (nest_statements m)) 0 (nest_statements m) (omega arith) k y (ap (λ ys. slice_get ys k) (sym owners_same) ∙ e))

  pub range_made : In w (webs_of m) → (y : List ℕ) → IsRange m.number w.name w.ranges y → (a : Made) × In a (names_made m) × (a.name ≡ y) × (a.kind ≡ w.kind)
  range_made i y r =
      let f = r.first in
      let b = r.below in
      let a : Made = record { name = range_name m.number w.name r.range; kind = w.kind; extents = [] } in
      (a, in_webs m.number (webs_of m) w i a (in_from m.number w.name w.kind 1 (w.ranges - 1) r.range r.first (omega (arith, f, b))), sym r.is, refl)
