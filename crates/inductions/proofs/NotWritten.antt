-- No induction is written any more: the only statement that did has gone.
use Rattle.std.proofs.Common.{◌≡◌, refl, sym, ap, ◌∙◌, subst, ◌⊎◌, inl, inr, ℕ, zero, suc, ◌+◌, ◌==◌, Bool, true, false, cond, ◌||◌, Option, Some, None, List, [], ◌∷◌, ◌++◌, map, All, Contains, arith}
use Rattle.std.specs.Prelude.{slice_get}
use Rattle.std.specs.List.{AllByRecursion, cons_option, filter_map}
use Rattle.std.specs.Str.{bytes_eq}
use Rattle.std.proofs.lemmas.Bool.Decides.{nat_tests}
use Rattle.tree.specs.Plain.{Declaration}
use Rattle.tree.specs.declared.ops.Kind.{Kind}
use Rattle.tree.specs.declared.ops.Kind.TheVariants.{Integer, Logical}
use Rattle.meaning_laws.proofs.profiles.Lists.{cases_of, here, nowhere, there}
use Rattle.nest.specs.Bodies.{Standing, nest_statements}
use Rattle.nest.specs.Plain.{Guarded, Loop, Nest, Part, Run, Turns, Choice, Label, Jump}
use Rattle.nest.specs.declared.parts.Trip.{Trip}
use Rattle.nest_order.specs.shapes.Shapes.{IsPlain}
use Rattle.statement_passes.specs.MadeNames.{kind_if_scalar}
use Rattle.statement_passes.specs.Passes.{mapped_nest}
use Rattle.statement_passes.specs.Shifted.{shifted_part, with_nest_symbol, with_nest_symbols}
use Rattle.statement_passes.specs.Standings.{IsLoop, mapped_standings, shifted_standing, standings}
use Rattle.statement_passes.specs.Symbols.{place_among}
use Rattle.statement_passes.proofs.Standings.{mapped_nest_has, symbol_leaves_nest}
use Rattle.inductions.specs.Found.{if_integer, induction_declared, inductions_by, inductions_of, outermost_trip}
use Rattle.inductions.specs.Growing.{one_number, only_write, writes_scalar, writes_from}
use Rattle.inductions.specs.Laws.{IsWrittenNowhere, NoInductionIsWritten}
use Rattle.inductions.specs.Nests.{induction_names, inductions_substituted, substituted_by, with_inductions}
use Rattle.inductions.specs.Putting.{grows_at, put_in, with_induction_forms}
use Rattle.inductions.specs.declared.found.Induction.{Induction}
use Rattle.inductions.proofs.FoundLaws.{IsFoundIn, named-is}

-- ---- the only write

-- all of them are among those of a longer list, which has one
only_is : (ks : List ℕ) (p k : ℕ) → one_number ks ≡ Some p → Contains ks k → k ≡ p
only_is [] p k h c = absurd cc
only_is (j ∷ []) p k h c = by (cases_of j [] k c)
  where
    by : (j ≡ k) ⊎ Contains [] k → k ≡ p
    by (inl e) = let same : j ≡ p = cc in sym e ∙ same
    by (inr g) = absurd (nowhere k g)
only_is (i ∷ j ∷ ks) p k h c = absurd cc

is-written : (n : ℕ) (ss : List Standing) (x : List ℕ) (k : ℕ) (s : Standing) → slice_get ss k ≡ Some s → writes_scalar x s ≡ true → Contains (writes_from n ss x) (n + k)
is-written n [] x k s h e = absurd cc
is-written n (t ∷ ts) x zero s h e =
    let same : t ≡ s = cc in
    let first : n ≡ n + 0 = omega arith in
    subst (λ b. Contains (cond b (n ∷ writes_from (n + 1) ts x) (writes_from (n + 1) ts x)) (n + 0)) (sym (ap (writes_scalar x) same ∙ e))
    (subst (Contains (n ∷ writes_from (n + 1) ts x)) first (here n (writes_from (n + 1) ts x)))
is-written n (t ∷ ts) x (suc k) s h e =
    let further : (n + 1) + k ≡ n + suc k = omega arith in
    let more : Contains (writes_from (n + 1) ts x) (n + suc k) = subst (Contains (writes_from (n + 1) ts x)) further (is-written (n + 1) ts x k s h e) in
    by (writes_scalar x t) more
  where
    by : (b : Bool) → Contains (writes_from (n + 1) ts x) (n + suc k) → Contains (cond b (n ∷ writes_from (n + 1) ts x) (writes_from (n + 1) ts x)) (n + suc k)
    by true c = there n (writes_from (n + 1) ts x) (n + suc k) c
    by false c = c

pub only-write-is : (ss : List Standing) (x : List ℕ) (p k : ℕ) (s : Standing) → only_write ss x ≡ Some p → slice_get ss k ≡ Some s → writes_scalar x s ≡ true → k ≡ p
only-write-is ss x p k s h g e =
    let first : 0 + k ≡ k = omega arith in
    sym first ∙ only_is (writes_from 0 ss x) p (0 + k) h (is-written 0 ss x k s g e)

-- ---- those that are listed

module _ (symbols : List (List ℕ)) (t : Trip) (ss : List Standing) where
  declared-is : (e : Declaration) (d : Induction) → induction_declared symbols t ss e ≡ Some d → IsFoundIn symbols t ss d × (d.name ≡ e.name)
  declared-is e d h = by (kind_if_scalar e) h
    where
      by : (o : Option Kind) → if_integer symbols t ss e.name o ≡ Some d → IsFoundIn symbols t ss d × (d.name ≡ e.name)
      by None g = absurd cc
      by (Some Integer) g = named-is symbols t ss e.name d g
      by (Some Logical) g = absurd cc

  pub listed-is : (es : List Declaration) (d : Induction) → Contains (filter_map (induction_declared symbols t ss) es) d → IsFoundIn symbols t ss d
  listed-is [] d c = absurd (nowhere d c)
  listed-is (e ∷ es) d c = by (induction_declared symbols t ss e) refl (λ g. listed-is es d g) c
    where
      cases : (i : Induction) → induction_declared symbols t ss e ≡ Some i → (Contains (filter_map (induction_declared symbols t ss) es) d → IsFoundIn symbols t ss d)
          → (i ≡ d) ⊎ Contains (filter_map (induction_declared symbols t ss) es) d → IsFoundIn symbols t ss d
      cases i q more (inl same) = subst (IsFoundIn symbols t ss) same (declared-is e i q).0
      cases i q more (inr g) = more g

      by : (o : Option Induction) → induction_declared symbols t ss e ≡ o → (Contains (filter_map (induction_declared symbols t ss) es) d → IsFoundIn symbols t ss d)
          → Contains (cons_option o (filter_map (induction_declared symbols t ss) es)) d → IsFoundIn symbols t ss d
      by None q more g = more g
      by (Some i) q more g = cases i q more (cases_of i (filter_map (induction_declared symbols t ss) es) d g)

-- ---- symbols that come in leave the statements

pub record SameLefts (n m : Nest) : Type 0 where
  pub plain : IsPlain m.body
  pub loop : IsLoop n.body → IsLoop m.body
  pub lefts : (k : ℕ) (s : Standing) → slice_get (nest_statements m) k ≡ Some s
      → (t : Standing) × (slice_get (nest_statements n) k ≡ Some t) × (t.statement ≡ s.statement)

found-shifted : (at : ℕ) (ss : List Standing) (k : ℕ) (s : Standing) → slice_get (map (shifted_standing at) ss) k ≡ Some s
    → (t : Standing) × (slice_get ss k ≡ Some t) × (t.statement ≡ s.statement)
found-shifted at [] k s h = absurd cc
found-shifted at (t ∷ ts) zero s h = let same : shifted_standing at t ≡ s = cc in (t, refl, ap (λ (x : Standing). x.statement) same)
found-shifted at (t ∷ ts) (suc k) s h = found-shifted at ts k s h

one-symbol : (n : Nest) (x : List ℕ) → IsPlain n.body → SameLefts n (with_nest_symbol n x)
one-symbol n x h =
    let p = symbol_leaves_nest n x h in
    record {
      plain = p.plain;
      loop = loop n.body;
      lefts = λ k s g. found-shifted (place_among n.symbols x) (nest_statements n) k s (sym (ap (λ ss. slice_get ss k) p.statements) ∙ g);
    }
  where
    loop : (p : Part) → IsLoop p → IsLoop (shifted_part (place_among n.symbols x) p)
    loop (Turns l ps) g = g
    loop (Run g') g = absurd g
    loop (Choice bs ps) g = absurd g
    loop (Label k) g = absurd g
    loop (Jump k) g = absurd g

pub all-symbols : (n : Nest) (xs : List (List ℕ)) → IsPlain n.body → SameLefts n (with_nest_symbols n xs)
all-symbols n [] h = record { plain = h; loop = λ g. g; lefts = λ k s g. (s, g, refl) }
all-symbols n (x ∷ xs) h =
    let one = one-symbol n x h in
    let more = all-symbols (with_nest_symbol n x) xs one.plain in
    record {
      plain = more.plain;
      loop = λ g. more.loop (one.loop g);
      lefts = λ k s g. (let b = more.lefts k s g in let a = one.lefts k b.0 b.1 in (a.0, a.1, a.2 ∙ b.2));
    }

-- ---- statements that stay

pub each-mapped : (P : Standing → Type 0) (each : List Loop → ℕ → Guarded → List Guarded) (n : ℕ) (ss : List Standing)
    → ((k : ℕ) (s : Standing) → slice_get ss k ≡ Some s → AllByRecursion P (standings s.loops (each s.loops (n + k) s.statement)))
    → AllByRecursion P (mapped_standings each n ss)
each-mapped P each n [] h = tt
each-mapped P each n (s ∷ ss) h =
    let first : n + 0 ≡ n = omega arith in
    joined (standings s.loops (each s.loops n s.statement)) (mapped_standings each (n + 1) ss)
    (subst (λ m. AllByRecursion P (standings s.loops (each s.loops m s.statement))) first (h 0 s refl))
    (each-mapped P each (n + 1) ss (λ k t g. (let further : n + suc k ≡ (n + 1) + k = omega arith in
    subst (λ m. AllByRecursion P (standings t.loops (each t.loops m t.statement))) further (h (suc k) t g))))
  where
    joined : (xs ys : List Standing) → AllByRecursion P xs → AllByRecursion P ys → AllByRecursion P (xs ++ ys)
    joined [] ys h g = g
    joined (x ∷ xs) ys h g = (h.0, joined xs ys h.1 g)

grows-here : (ds : List Induction) (d : Induction) (k : ℕ) → Contains ds d → k ≡ d.place → grows_at ds k ≡ true
grows-here [] d k c e = absurd (nowhere d c)
grows-here (i ∷ is) d k c e = by (λ more. grows-here is d k more e) (cases_of i is d c)
  where
    or_true : (a : Bool) → (a || true) ≡ true
    or_true true = refl
    or_true false = refl

    equal : (a b : ℕ) → a ≡ b → (b == a) ≡ true
    equal a b h = grind (arith, nat_tests)

    by : (Contains is d → grows_at is k ≡ true) → (i ≡ d) ⊎ Contains is d → ((i.place == k) || grows_at is k) ≡ true
    by rest (inl same) = ap (λ b. b || grows_at is k) (ap (λ (j : Induction). j.place == k) same ∙ equal k d.place e)
    by rest (inr more) = ap (λ b. (i.place == k) || b) (rest more) ∙ or_true (i.place == k)

pub all-of : {A : Type 0} (P : A → Type 0) (xs : List A) → AllByRecursion P xs → All P xs
all-of P [] h k d l = absurd (omega (arith, l))
all-of P (x ∷ xs) h zero d l = h.0
all-of P (x ∷ xs) h (suc k) d l = all-of P xs h.1 k d (omega (arith, l))

module _ (n : Nest) (plain : IsPlain n.body) (loop : IsLoop n.body) (o : List ℕ × Trip) (ds : List Induction) (d : Induction) (among : Contains ds d)
    (is : IsFoundIn n.symbols o.1 (nest_statements n) d) where
  abbrev more : Nest
  more = with_nest_symbols n (induction_names ds)

  abbrev each : List Loop → ℕ → Guarded → List Guarded
  each = put_in o.0 ds more.symbols

  abbrev Other : Standing → Type 0
  Other s = bytes_eq s.statement.left.name d.name ≡ false

  same : SameLefts n more
  same = all-symbols n (induction_names ds) plain

  kept : (k : ℕ) (s : Standing) → slice_get (nest_statements more) k ≡ Some s → AllByRecursion Other (standings s.loops (each s.loops (0 + k) s.statement))
  kept k s g = by (grows_at ds (0 + k)) refl
    where
      first : 0 + k ≡ k
      first = omega arith

      other : (b : Bool) → bytes_eq s.statement.left.name d.name ≡ b → grows_at ds (0 + k) ≡ false → bytes_eq s.statement.left.name d.name ≡ false
      other false e f = e
      other true e f =
          let t = same.lefts k s g in
          let place = only-write-is (nest_statements n) d.name d.place k t.0 is.write t.1 (ap (λ (q : Guarded). bytes_eq q.left.name d.name) t.2 ∙ e) in
          let now : true ≡ false = sym (grows-here ds d (0 + k) among (first ∙ place)) ∙ f in absurd cc

      by : (b : Bool) → grows_at ds (0 + k) ≡ b → AllByRecursion Other (standings s.loops (cond b [] (with_induction_forms o.0 ds more.symbols s.loops (0 + k) s.statement ∷ [])))
      by true e = tt
      by false e = (other (bytes_eq s.statement.left.name d.name) refl e, tt)

  none-left : AllByRecursion Other (nest_statements (mapped_nest each more))
  none-left = subst (AllByRecursion Other) (sym (mapped_nest_has each more (same.loop loop) same.plain).statements) (each-mapped Other each 0 (nest_statements more) kept)

by-outermost : (n : Nest) → IsPlain n.body → (o : Option (List ℕ × Trip)) → (o ≡ None ⊎ IsLoop n.body) → (d : Induction) → Contains (inductions_by n o) d
    → IsWrittenNowhere (substituted_by n o) d.name
by-outermost n h None g d c = absurd (nowhere d c)
by-outermost n h (Some o) (inl g) d c = absurd cc
by-outermost n h (Some o) (inr g) d c = by (inductions_by n (Some o)) c (listed-is n.symbols o.1 (nest_statements n) n.declarations d c)
  where
    by : (ds : List Induction) → Contains ds d → IsFoundIn n.symbols o.1 (nest_statements n) d → IsWrittenNowhere (with_inductions n o ds) d.name
    by [] k is = absurd (nowhere d k)
    by (i ∷ is') k is = all-of (λ s. bytes_eq s.statement.left.name d.name ≡ false) _ (none-left n h g o (i ∷ is') d k is)

pub no_induction_is_written : NoInductionIsWritten
unfolding inductions_substituted
no_induction_is_written n h k x l = by-name (inductions_of n) (λ d c. by-outermost n h (outermost_trip n.body) (is-loop n.body) d c) k x l
  where
    is-loop : (p : Part) → (outermost_trip p ≡ None) ⊎ IsLoop p
    is-loop (Turns m ps) = inr tt
    is-loop (Run g) = inl refl
    is-loop (Choice bs ps) = inl refl
    is-loop (Label j) = inl refl
    is-loop (Jump j) = inl refl

    by-name : (ds : List Induction) → ((d : Induction) → Contains ds d → IsWrittenNowhere (substituted_by n (outermost_trip n.body)) d.name)
        → All (IsWrittenNowhere (substituted_by n (outermost_trip n.body))) (induction_names ds)
    by-name [] f k x l = absurd (omega (arith, l))
    by-name (d ∷ ds) f zero x l = f d (here d ds)
    by-name (d ∷ ds) f (suc k) x l = by-name ds (λ e c. f e (there d ds e c)) k x (omega (arith, l))
