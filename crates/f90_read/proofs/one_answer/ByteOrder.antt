-- Declarations of which none is declared again have a byte order.
use Rattle.std.proofs.Common.{◌≡◌, ◌⊎◌, inl, inr, refl, sym, ap, subst, ◌∙◌, ℕ, arith, Bool, true, false}
use Rattle.std.proofs.Common.{List, [], ◌∷◌, ◌++◌, length, append_assoc, Contains}
use Rattle.std.specs.Cmp.Lexicographic.{slice_cmp}
use Rattle.std.specs.List.{AllByRecursion}
use Rattle.std.specs.Ordering.{nat_cmp, is_eq, ordering_reverse}
use Rattle.std.specs.Str.{bytes_eq}
use Rattle.std.specs.declared.cmp.Ordering.{Ordering}
use Rattle.std.specs.declared.cmp.Ordering.TheVariants.{Less, Equal, Greater}
use Rattle.std.proofs.lemmas.Cmp.{nat_list_cmp_total}
use Rattle.std.proofs.lemmas.List.Elements.{Contains-append_left, Contains-append_right, Contains-append_cases}
use Rattle.std.proofs.lemmas.Map.Text.{is_eq-slice_cmp}
use Rattle.std.proofs.lemmas.Slice.Eq.{bytes_eq-Decides}
use Rattle.tree.specs.Plain.{Declaration}
use Rattle.meaning.specs.Names.{is_among, IsInByteOrder}
use Rattle.f90_grammar.specs.Blocks.{Placed}
use Rattle.f90_grammar.specs.Declared.{declarations_in, declarations_of, declared_names_of, is_repeated, declares_again}
use Rattle.f90_grammar.specs.Order.{Place90, IsPlaceIn}
use Rattle.f90_laws.proofs.readings.Lists.{left_false, right_false, both_false, here, there, nowhere, cases_of}
use Rattle.f90_laws.proofs.readings.Lists.{all_weaker}
use Rattle.f90_names.specs.kinds.declarations.Declarations.{AreInOrder}

abbrev is_named : List Declaration → List ℕ → Bool
is_named ds x = is_among (declared_names_of ds) x

-- ---- names that aren't declared

apart : (ds : List Declaration) (x : List ℕ) (d : Declaration) → is_named ds x ≡ false → Contains ds d
    → bytes_eq x d.name ≡ false
apart [] x d n c = absurd (nowhere d c)
apart (e ∷ es) x d n c =
    by (apart es x d (right_false (bytes_eq x e.name) (is_named es x) n)) (cases_of e es d c)
  where
    by : (Contains es d → bytes_eq x d.name ≡ false) → (e ≡ d) ⊎ Contains es d → bytes_eq x d.name ≡ false
    by more (inl s) =
        subst (λ (f : Declaration). bytes_eq x f.name ≡ false) s (left_false (bytes_eq x e.name) (is_named es x) n)
    by more (inr k) = more k

unnamed : (ds : List Declaration) (x : List ℕ) → ((d : Declaration) → Contains ds d → bytes_eq x d.name ≡ false)
    → is_named ds x ≡ false
unnamed [] x h = refl
unnamed (e ∷ es) x h =
    both_false (bytes_eq x e.name) (is_named es x) (h e (here e es)) (unnamed es x (λ d c. h d (there e es d c)))

turned : (x y : List ℕ) → bytes_eq x y ≡ false → bytes_eq y x ≡ false
turned x y n = by (bytes_eq y x) refl
  where
    by : (b : Bool) → bytes_eq y x ≡ b → b ≡ false
    by false e = refl
    by true e =
        let same : bytes_eq x y ≡ true = (bytes_eq-Decides x y).1 (sym ((bytes_eq-Decides y x).0 e)) in
        absurd (cc)

-- ---- each name once

abbrev AreOnce : List Declaration → Type 0
AreOnce [] = Unit {0}
AreOnce (d ∷ ds) = (is_named ds d.name ≡ false) × AreOnce ds

-- none of them has the name of one before them
abbrev AreNew : List Declaration → List Declaration → Type 0
AreNew front ds = (d : Declaration) → Contains ds d → is_named front d.name ≡ false

record AreNewOnce (front ds : List Declaration) : Type 0 where
  pub new : AreNew front ds
  pub once : AreOnce ds

unrepeated : (front ds : List Declaration) → is_repeated (declared_names_of front) (declared_names_of ds) ≡ false → AreNewOnce front ds
unrepeated front [] h = record { new = λ d c. absurd (nowhere d c); once = tt }
unrepeated front (e ∷ es) h =
    let first = left_false (is_named front e.name) (is_repeated (declared_names_of (e ∷ front)) (declared_names_of es)) h in
    let more = unrepeated (e ∷ front) es (right_false (is_named front e.name) _ h) in
    record {
      new = λ d c. behind first more.new d (cases_of e es d c);
      once = (
        unnamed es e.name (λ d c. turned d.name e.name
            (left_false (bytes_eq d.name e.name) (is_named front d.name) (more.new d c))),
        more.once,
      );
    }
  where
    behind : is_named front e.name ≡ false → AreNew (e ∷ front) es → (d : Declaration) → (e ≡ d) ⊎ Contains es d
        → is_named front d.name ≡ false
    behind first new d (inl s) = subst (λ (f : Declaration). is_named front f.name ≡ false) s first
    behind first new d (inr c) = right_false (bytes_eq d.name e.name) (is_named front d.name) (new d c)

both_once : (xs ys : List Declaration) → AreOnce xs → AreNew xs ys → AreOnce ys → AreOnce (xs ++ ys)
both_once [] ys h n k = k
both_once (x ∷ xs) ys h n k = (
  unnamed (xs ++ ys) x.name (λ d c. by d (Contains-append_cases xs ys d c)),
  both_once xs ys h.1 (λ d c. right_false (bytes_eq d.name x.name) (is_named xs d.name) (n d c)) k,
)
  where
    by : (d : Declaration) → Contains xs d ⊎ Contains ys d → bytes_eq x.name d.name ≡ false
    by d (inl c) = apart xs x.name d h.0 c
    by d (inr c) = turned d.name x.name (left_false (bytes_eq d.name x.name) (is_named xs d.name) (n d c))

-- no statement declares a name again
abbrev pub NoneAgain : List Placed → Type 0
NoneAgain ps = (p : Place90) → IsPlaceIn ps p → declares_again p.before p.here.form ≡ false

declared_front : (front : List Placed) (p : Placed) (d : Declaration)
    → Contains (declarations_of front) d ⊎ Contains (declarations_in p.form) d
    → Contains (declarations_of (front ++ p ∷ [])) d
declared_front [] p d (inl c) = absurd (nowhere d c)
declared_front [] p d (inr c) = Contains-append_left (declarations_in p.form) [] d c
declared_front (q ∷ qs) p d h = by (declared_front qs p d) h
  where
    first : (Contains (declarations_of qs) d ⊎ Contains (declarations_in p.form) d
        → Contains (declarations_of (qs ++ p ∷ [])) d)
        → Contains (declarations_in q.form) d ⊎ Contains (declarations_of qs) d
        → Contains (declarations_in q.form ++ declarations_of (qs ++ p ∷ [])) d
    first more (inl c) = Contains-append_left (declarations_in q.form) (declarations_of (qs ++ p ∷ [])) d c
    first more (inr c) =
        Contains-append_right (declarations_in q.form) (declarations_of (qs ++ p ∷ [])) d (more (inl c))

    by : (Contains (declarations_of qs) d ⊎ Contains (declarations_in p.form) d
        → Contains (declarations_of (qs ++ p ∷ [])) d)
        → Contains (declarations_in q.form ++ declarations_of qs) d ⊎ Contains (declarations_in p.form) d
        → Contains (declarations_in q.form ++ declarations_of (qs ++ p ∷ [])) d
    by more (inl c) = first more (Contains-append_cases (declarations_in q.form) (declarations_of qs) d c)
    by more (inr c) =
        Contains-append_right (declarations_in q.form) (declarations_of (qs ++ p ∷ [])) d (more (inr c))

once_behind : (front rest : List Placed)
    → ((p : Place90) → IsPlaceIn (front ++ rest) p → declares_again p.before p.here.form ≡ false)
    → AreNewOnce (declarations_of front) (declarations_of rest)
once_behind front [] h = record { new = λ d c. absurd (nowhere d c); once = tt }
once_behind front (p ∷ ps) h =
    let place : Place90 = record { before = front; here = p; after = ps } in
    let first = unrepeated (declarations_of front) (declarations_in p.form) (h place refl) in
    let more = once_behind (front ++ p ∷ []) ps (λ q i. h q (sym (append_assoc front (p ∷ []) ps) ∙ i)) in
    record {
      new = λ d c. by first more d (Contains-append_cases (declarations_in p.form) (declarations_of ps) d c);
      once = both_once (declarations_in p.form) (declarations_of ps) first.once
          (λ d c. unnamed (declarations_in p.form) d.name (λ e k. apart (declarations_of (front ++ p ∷ [])) d.name e
          (more.new d c) (declared_front front p e (inr k)))) more.once;
    }
  where
    by : AreNewOnce (declarations_of front) (declarations_in p.form)
        → AreNewOnce (declarations_of (front ++ p ∷ [])) (declarations_of ps) → (d : Declaration)
        → Contains (declarations_in p.form) d ⊎ Contains (declarations_of ps) d
        → is_named (declarations_of front) d.name ≡ false
    by first more d (inl c) = first.new d c
    by first more d (inr c) =
        unnamed (declarations_of front) d.name (λ e k. apart (declarations_of (front ++ p ∷ [])) d.name e
        (more.new d c) (declared_front front p e (inl k)))

-- ---- in order

abbrev IsBelow : List ℕ → List ℕ → Type 0
IsBelow x y = slice_cmp nat_cmp x y ≡ Less

abbrev IsBelowAll : List ℕ → List Declaration → Type 0
IsBelowAll x ds = AllByRecursion (λ (y : List ℕ). IsBelow x y) (declared_names_of ds)

record HasOrder (ds : List Declaration) : Type 0 where
  pub sorted : List Declaration
  pub rises : IsInByteOrder (declared_names_of sorted)
  pub to : (d : Declaration) → Contains ds d → Contains sorted d
  pub from : (d : Declaration) → Contains sorted d → Contains ds d
  pub once : length ds ≡ length sorted
  -- what stands below them all stands below them in order
  pub below : (x : List ℕ) → IsBelowAll x ds → IsBelowAll x sorted

below_more : (x y : List ℕ) (ds : List Declaration) → IsBelow x y → IsBelowAll y ds → IsBelowAll x ds
below_more x y ds l h =
    all_weaker (λ (z : List ℕ). IsBelow y z) (λ (z : List ℕ). IsBelow x z)
    (λ z k. nat_list_cmp_total.trans x y z l k) (declared_names_of ds) h

-- a declaration with a new name, behind the least of those in order
module _ (d e : Declaration) (es : List Declaration) (rises : IsInByteOrder (declared_names_of (e ∷ es))) where
  module _ (more : HasOrder (d ∷ es)) where
    along : (f : Declaration) → (e ≡ f) ⊎ Contains es f → Contains (e ∷ more.sorted) f
    along f (inl s) = subst (Contains (e ∷ more.sorted)) s (here e more.sorted)
    along f (inr c) = there e more.sorted f (more.to f (there d es f c))

    into : (f : Declaration) → (d ≡ f) ⊎ Contains (e ∷ es) f → Contains (e ∷ more.sorted) f
    into f (inl s) = there e more.sorted f (more.to f (subst (Contains (d ∷ es)) s (here d es)))
    into f (inr c) = along f (cases_of e es f c)

    back : (f : Declaration) → (d ≡ f) ⊎ Contains es f → Contains (d ∷ e ∷ es) f
    back f (inl s) = subst (Contains (d ∷ e ∷ es)) s (here d (e ∷ es))
    back f (inr c) = there d (e ∷ es) f (there e es f c)

    out : (f : Declaration) → (e ≡ f) ⊎ Contains more.sorted f → Contains (d ∷ e ∷ es) f
    out f (inl s) = there d (e ∷ es) f (subst (Contains (e ∷ es)) s (here e es))
    out f (inr c) = back f (cases_of d es f (more.from f c))

    one_more : length (d ∷ e ∷ es) ≡ length (e ∷ more.sorted)
    one_more = let k = more.once in omega arith

    behind_least : IsBelow e.name d.name → HasOrder (d ∷ e ∷ es)
    behind_least l = record {
      sorted = e ∷ more.sorted;
      rises = (more.below e.name (l, rises.0), more.rises);
      to = λ f c. into f (cases_of d (e ∷ es) f c);
      from = λ f c. out f (cases_of e more.sorted f c);
      once = one_more;
      below = λ x h. (h.1.0, more.below x (h.0, h.1.1));
    }

  before_least : IsBelow d.name e.name → HasOrder (d ∷ e ∷ es)
  before_least l = record {
    sorted = d ∷ e ∷ es;
    rises = ((l, below_more d.name e.name es l rises.0), rises);
    to = λ f c. c;
    from = λ f c. c;
    once = refl;
    below = λ x h. h;
  }

  placed_by : (o : Ordering) → slice_cmp nat_cmp d.name e.name ≡ o → bytes_eq d.name e.name ≡ false
      → HasOrder (d ∷ es) → HasOrder (d ∷ e ∷ es)
  placed_by Less l n more = before_least l
  placed_by Equal s n more =
      let same : true ≡ bytes_eq d.name e.name = sym (ap is_eq s) ∙ is_eq-slice_cmp d.name e.name in
      absurd (cc)
  placed_by Greater g n more =
      behind_least more (nat_list_cmp_total.antisymm e.name d.name ∙ ap ordering_reverse g)

insert : (d : Declaration) (ds : List Declaration) → IsInByteOrder (declared_names_of ds) → is_named ds d.name ≡ false
    → HasOrder (d ∷ ds)
insert d [] rises n = record {
  sorted = d ∷ [];
  rises = (tt, tt);
  to = λ e c. c;
  from = λ e c. c;
  once = refl;
  below = λ x h. h;
}
insert d (e ∷ es) rises n =
    placed_by d e es rises (slice_cmp nat_cmp d.name e.name) refl
    (left_false (bytes_eq d.name e.name) (is_named es d.name) n)
    (insert d es rises.1 (right_false (bytes_eq d.name e.name) (is_named es d.name) n))

ordered : (ds : List Declaration) → AreOnce ds → HasOrder ds
ordered [] h = record {
  sorted = [];
  rises = tt;
  to = λ d c. c;
  from = λ d c. c;
  once = refl;
  below = λ x k. k;
}
ordered (d ∷ ds) h =
    let more = ordered ds h.1 in
    let new = unnamed more.sorted d.name (λ e c. apart ds d.name e h.0 (more.from e c)) in
    let all = insert d more.sorted more.rises new in
    record {
      sorted = all.sorted;
      rises = all.rises;
      to = λ e c. all.to e (onward ds more.sorted more.to e (cases_of d ds e c));
      from = λ e c. onward more.sorted ds more.from e (cases_of d more.sorted e (all.from e c));
      once = (let k = more.once in let l = all.once in omega arith);
      below = λ x k. all.below x (k.0, more.below x k.1);
    }
  where
    onward : (us vs : List Declaration) → ((e : Declaration) → Contains us e → Contains vs e)
        → (e : Declaration) → (d ≡ e) ⊎ Contains us e → Contains (d ∷ vs) e
    onward us vs f e (inl s) = subst (Contains (d ∷ vs)) s (here d vs)
    onward us vs f e (inr c) = there d vs e (f e c)

-- the declarations of statements, in order
pub byte_order : (ps : List Placed) → NoneAgain ps → (ds : List Declaration) × AreInOrder (declarations_of ps) ds
byte_order ps h =
    let o = ordered (declarations_of ps) (once_behind [] ps h).once in (
      o.sorted,
      record { sorted = o.rises; each = λ d. (o.to d, o.from d); once = o.once },
    )
