-- What is known of the inductions of a nest, and of the statements that write them.
use Rattle.std.proofs.Common.{◌≡◌, ◌⊎◌, inl, inr, refl, sym, ap, ◌∙◌, subst, ℕ, zero, suc, ◌+◌, ◌<◌, ◌==◌, Bool, true, false, cond, ◌||◌, Option, Some, None, List, [], ◌∷◌, length, arith}
use Rattle.std.specs.Prelude.{is_some, slice_get}
use Rattle.std.specs.List.{cons_option, filter_map}
use Rattle.std.specs.Str.{bytes_eq}
use Rattle.std.proofs.lemmas.Bool.Decides.{nat_tests}
use Rattle.std.proofs.lemmas.Slice.Eq.{bytes_eq-Decides}
use Rattle.tree.specs.Plain.{Declaration, Extent, Given, Later}
use Rattle.tree.specs.declared.ops.Kind.{Kind}
use Rattle.tree.specs.declared.ops.Kind.TheVariants.{Integer, Logical}
use Rattle.nest.specs.Bodies.{Standing}
use Rattle.nest.specs.declared.parts.Trip.{Trip}
use Rattle.nest_order.specs.orders.Lists.{In}
use Rattle.statement_passes.specs.MadeNames.{kind_if_scalar}
use Rattle.inductions.specs.Found.{if_integer, induction_declared}
use Rattle.inductions.specs.Growing.{one_number, only_write, writes_scalar, writes_from}
use Rattle.inductions.specs.Laws.{IsGrowth}
use Rattle.inductions.specs.Putting.{found, grows_at}
use Rattle.inductions.specs.Together.{Is, is_own}
use Rattle.inductions.specs.declared.found.Induction.{Induction}
use Rattle.inductions.proofs.FoundLaws.{IsFoundIn, named-is}
use Rattle.inductions.proofs.GrowthLaws.{the_write_grows}
use Rattle.inductions.proofs.NotWritten.{only-write-is}
use Rattle.inductions.proofs.Together.{found-grows, found-name}

true_false : {A : Type 0} → true ≡ false → A
true_false e = cc

-- ---- names of a list

pub found_in : (ds : List Induction) (x : List ℕ) (d : Induction) → found ds x ≡ Some d → In d ds
found_in [] x d h = absurd cc
found_in (e ∷ es) x d h = by (bytes_eq e.name x) (λ g. found_in es x d g) h
  where
    by : (b : Bool) → (found es x ≡ Some d → In d es) → cond b (Some e) (found es x) ≡ Some d → In d (e ∷ es)
    by true more g = let same : e ≡ d = cc in inl (sym same)
    by false more g = inr (more g)

-- one of the list has the name
pub in_found : (ds : List Induction) (d : Induction) → In d ds → is_own ds d.name ≡ true
in_found [] d i = absurd i
in_found (e ∷ es) d (inl q) = ap (λ b. is_some (cond b (Some e) (found es d.name))) ((bytes_eq-Decides e.name d.name).1 (ap (λ (j : Induction). j.name) (sym q)))
in_found (e ∷ es) d (inr i) = by (bytes_eq e.name d.name) (in_found es d i)
  where
    by : (b : Bool) → is_some (found es d.name) ≡ true → is_some (cond b (Some e) (found es d.name)) ≡ true
    by true h = refl
    by false h = h

pub record IsOne (ds : List Induction) (x : List ℕ) : Type 0 where
  pub induction : Induction
  pub is : Is ds induction
  pub name : induction.name ≡ x

pub own_one : (ds : List Induction) (x : List ℕ) → is_own ds x ≡ true → IsOne ds x
own_one ds x h = by (found ds x) refl h
  where
    by : (o : Option Induction) → found ds x ≡ o → is_some o ≡ true → IsOne ds x
    by (Some d) e g =
        let name = found-name ds x d e in
        record { induction = d; is = subst (λ y. found ds y ≡ Some d) (sym name) e; name = name }
    by None e g = absurd cc

pub is_in : (ds : List Induction) (d : Induction) → Is ds d → In d ds
is_in ds d h = found_in ds d.name d h

pub same_name : (ds : List Induction) (d e : Induction) → Is ds d → Is ds e → d.name ≡ e.name → d ≡ e
same_name ds d e h g q = let both : ◌≡◌ {A = Option Induction} (Some d) (Some e) = sym h ∙ (ap (found ds) q ∙ g) in cc

-- ---- declarations

pub record IsListed (symbols : List (List ℕ)) (t : Trip) (ss : List Standing) (es : List Declaration) (d : Induction) : Type 0 where
  pub declaration : Declaration
  pub among : In declaration es
  pub kind : kind_if_scalar declaration ≡ Some Integer
  pub name : d.name ≡ declaration.name
  pub found : IsFoundIn symbols t ss d

module _ (symbols : List (List ℕ)) (t : Trip) (ss : List Standing) where
  declared_so : (e : Declaration) (es : List Declaration) (d : Induction) → induction_declared symbols t ss e ≡ Some d → IsListed symbols t ss (e ∷ es) d
  declared_so e es d h = by (kind_if_scalar e) refl h
    where
      by : (o : Option Kind) → kind_if_scalar e ≡ o → if_integer symbols t ss e.name o ≡ Some d → IsListed symbols t ss (e ∷ es) d
      by None k g = absurd cc
      by (Some Integer) k g =
          let n = named-is symbols t ss e.name d g in
          record { declaration = e; among = inl refl; kind = k; name = n.1; found = n.0 }
      by (Some Logical) k g = absurd cc

  pub listed : (es : List Declaration) (d : Induction) → In d (filter_map (induction_declared symbols t ss) es) → IsListed symbols t ss es d
  listed [] d i = absurd i
  listed (e ∷ es) d i = by (induction_declared symbols t ss e) refl i (λ j. more (listed es d j))
    where
      more : IsListed symbols t ss es d → IsListed symbols t ss (e ∷ es) d
      more r = record { declaration = r.declaration; among = inr r.among; kind = r.kind; name = r.name; found = r.found }

      first : (c : Induction) → induction_declared symbols t ss e ≡ Some c → (d ≡ c) ⊎ In d (filter_map (induction_declared symbols t ss) es)
          → (In d (filter_map (induction_declared symbols t ss) es) → IsListed symbols t ss (e ∷ es) d) → IsListed symbols t ss (e ∷ es) d
      first c q (inl same) rest = declared_so e es d (q ∙ ap Some (sym same))
      first c q (inr j) rest = rest j

      by : (o : Option Induction) → induction_declared symbols t ss e ≡ o → In d (cons_option o (filter_map (induction_declared symbols t ss) es))
          → (In d (filter_map (induction_declared symbols t ss) es) → IsListed symbols t ss (e ∷ es) d) → IsListed symbols t ss (e ∷ es) d
      by None q j rest = rest j
      by (Some c) q j rest = first c q j rest

pub record IsIntegerDeclared (d : Declaration) : Type 0 where
  pub kind : d.kind ≡ Integer
  pub extent : d.extent ≡ Given []

pub scalar_declared : (d : Declaration) → kind_if_scalar d ≡ Some Integer → IsIntegerDeclared d
scalar_declared d h = by d.extent h
  where
    by : (x : Extent) → kind_if_scalar (record d { extent = x }) ≡ Some Integer → IsIntegerDeclared (record d { extent = x })
    by (Given []) g = let same : d.kind ≡ Integer = cc in record { kind = same; extent = refl }
    by (Given (b ∷ bs)) g = absurd cc
    by (Later n) g = absurd cc

-- ---- the statement that writes one

pub within : (ss : List Standing) (k : ℕ) (s : Standing) → slice_get ss k ≡ Some s → k < length ss
within [] k s h = absurd cc
within (x ∷ xs) zero s h = omega arith
within (x ∷ xs) (suc k) s h = let more = within xs k s h in omega (arith, more)

pub got_in : (ss : List Standing) (k : ℕ) (s : Standing) → slice_get ss k ≡ Some s → In s ss
got_in [] k s h = absurd cc
got_in (x ∷ xs) zero s h = let same : x ≡ s = cc in inl (sym same)
got_in (x ∷ xs) (suc k) s h = inr (got_in xs k s h)

record WritesAt (x : List ℕ) (ss : List Standing) (n k : ℕ) : Type 0 where
  place : ℕ
  is : k ≡ n + place
  standing : Standing
  there : slice_get ss place ≡ Some standing
  written : writes_scalar x standing ≡ true

written_at : (x : List ℕ) (n : ℕ) (ss : List Standing) (k : ℕ) → In k (writes_from n ss x) → WritesAt x ss n k
written_at x n [] k i = absurd i
written_at x n (s ∷ ss) k i = by (writes_scalar x s) refl i (λ j. later (written_at x (n + 1) ss k j))
  where
    later : WritesAt x ss (n + 1) k → WritesAt x (s ∷ ss) n k
    later r =
        let e = r.is in
        record { place = suc r.place; is = omega (arith, e); standing = r.standing; there = r.there; written = r.written }

    by : (b : Bool) → writes_scalar x s ≡ b → In k (cond b (n ∷ writes_from (n + 1) ss x) (writes_from (n + 1) ss x)) → (In k (writes_from (n + 1) ss x) → WritesAt x (s ∷ ss) n k)
        → WritesAt x (s ∷ ss) n k
    by true e (inl q) more = record { place = 0; is = q ∙ (let f : n ≡ n + 0 = omega arith in f); standing = s; there = refl; written = e }
    by true e (inr j) more = more j
    by false e j more = more j

only_in : (ks : List ℕ) (p : ℕ) → one_number ks ≡ Some p → In p ks
only_in [] p h = absurd cc
only_in (k ∷ []) p h = let same : k ≡ p = cc in inl (sym same)
only_in (k ∷ l ∷ ks) p h = absurd cc

only_written : (ss : List Standing) (x : List ℕ) (p : ℕ) (s : Standing) → only_write ss x ≡ Some p → slice_get ss p ≡ Some s → writes_scalar x s ≡ true
only_written ss x p s h g =
    let r = written_at x 0 ss p (only_in (writes_from 0 ss x) p h) in
    let e = r.is in
    let place : p ≡ r.place = omega (arith, e) in
    let both : ◌≡◌ {A = Option Standing} (Some r.standing) (Some s) = sym r.there ∙ (ap (slice_get ss) (sym place) ∙ g) in
    let same : r.standing ≡ s = cc in
    subst (λ (y : Standing). writes_scalar x y ≡ true) same r.written

pub record IsWritten (bits : ℕ) (ss : List Standing) (d : Induction) : Type 0 where
  pub standing : Standing
  pub there : slice_get ss d.place ≡ Some standing
  pub name : standing.statement.left.name ≡ d.name
  pub growth : IsGrowth bits d standing

pub written : (bits : ℕ) (symbols : List (List ℕ)) (t : Trip) (ss : List Standing) (d : Induction) → IsFoundIn symbols t ss d → IsWritten bits ss d
written bits symbols t ss d f =
    let w = only_written ss d.name d.place f.standing f.write f.stands in
    record {
      standing = f.standing;
      there = f.stands;
      name = (bytes_eq-Decides f.standing.statement.left.name d.name).0 w;
      growth = the_write_grows bits d f.standing f.step w;
    }

is_same : (a b : ℕ) → a ≡ b → (b == a) ≡ true
is_same a b h = grind (arith, nat_tests)

-- a statement that isn't one of these writes another name
pub other_written : (ss : List Standing) (symbols : List (List ℕ)) (t : Trip) (ds : List Induction) → ((d : Induction) → Is ds d → IsFoundIn symbols t ss d)
    → (k : ℕ) (s : Standing) → slice_get ss k ≡ Some s → grows_at ds k ≡ false → is_own ds s.statement.left.name ≡ false
other_written ss symbols t ds all k s there none = by (is_own ds s.statement.left.name) refl
  where
    by : (b : Bool) → is_own ds s.statement.left.name ≡ b → is_own ds s.statement.left.name ≡ false
    by true e =
        let o = own_one ds s.statement.left.name e in
        let f = all o.induction o.is in
        let place : k ≡ o.induction.place
        = only-write-is ss o.induction.name o.induction.place k s f.write there ((bytes_eq-Decides s.statement.left.name o.induction.name).1 (sym o.name)) in
        true_false (sym (found-grows ds o.induction.name o.induction k o.is (is_same k o.induction.place place)) ∙ none)
    by false e = e

-- one that is one of them writes the induction that grows there
pub grown_here : (ss : List Standing) (symbols : List (List ℕ)) (t : Trip) (ds : List Induction) → ((d : Induction) → In d ds → IsFoundIn symbols t ss d)
    → (k : ℕ) → grows_at ds k ≡ true → (d : Induction) × Is ds d × (k ≡ d.place)
grown_here ss symbols t ds all k h = of (place ds h)
  where
    eq_is : (a b : ℕ) → (a == b) ≡ true → a ≡ b
    eq_is a b e = grind (arith, nat_tests)

    place : (es : List Induction) → grows_at es k ≡ true → (d : Induction) × In d es × (d.place ≡ k)
    place [] g = absurd cc
    place (e ∷ es) g = by (e.place == k) refl g (λ f. place es f)
      where
        by : (b : Bool) → (e.place == k) ≡ b → (b || grows_at es k) ≡ true → (grows_at es k ≡ true → (d : Induction) × In d es × (d.place ≡ k))
            → (d : Induction) × In d (e ∷ es) × (d.place ≡ k)
        by true q f more = (e, inl refl, eq_is e.place k q)
        by false q f more = let r = more f in (r.0, inr r.1, r.2)

    of : (d : Induction) × In d ds × (d.place ≡ k) → (d : Induction) × Is ds d × (k ≡ d.place)
    of r =
        let o = own_one ds r.0.name (in_found ds r.0 r.1) in
        let f = all r.0 r.1 in
        let g = all o.induction (is_in ds o.induction o.is) in
        let both : ◌≡◌ {A = Option ℕ} (Some r.0.place) (Some o.induction.place) = sym f.write ∙ (ap (only_write ss) (sym o.name) ∙ g.write) in
        let same : r.0.place ≡ o.induction.place = cc in
        (o.induction, o.is, sym r.2 ∙ same)
