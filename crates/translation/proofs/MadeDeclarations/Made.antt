-- Declarations of made names stand in byte order among those of a program.
use Rattle.std.proofs.Common.{◌≡◌, ◌⊎◌, inl, inr, ℕ, ◌≤◌, ◌+◌, Some, List, [], ◌∷◌, map, refl, sym, ap, subst}
use Rattle.std.proofs.Common.{◌∙◌, arith, Contains, All}
use Rattle.std.specs.List.{AllByRecursion, sum, sum_by}
use Rattle.std.specs.Cmp.Lexicographic.{slice_cmp}
use Rattle.std.specs.Ordering.{nat_cmp, is_eq, ordering_reverse}
use Rattle.std.specs.declared.cmp.Ordering.{Ordering}
use Rattle.std.specs.declared.cmp.Ordering.TheVariants.{Less, Equal, Greater}
use Rattle.std.proofs.lemmas.Cmp.{nat_list_cmp_total}
use Rattle.std.proofs.lemmas.List.Elements.{All-head, All-tail}
use Rattle.std.proofs.lemmas.List.Sums.{sum_by-cons, sum-map}
use Rattle.std.proofs.lemmas.Map.Text.{is_eq-slice_cmp}
use Rattle.std.proofs.lemmas.Slice.Eq.{bytes_eq-Decides}
use Rattle.tree.specs.Limits as limits
use Rattle.tree.specs.Names.{IsSourceName}
use Rattle.tree.specs.Plain.{Declaration}
use Rattle.meaning.specs.Names.{IsInByteOrder}
use Rattle.meaning.specs.Extents.{array_elements}
use Rattle.meaning.specs.Profile90.{IsDeclaration, AreDeclarations}
use Rattle.meaning.specs.Typed.{dimensions, declared}
use Rattle.meaning_laws.proofs.profiles.Lists.{here, there, nowhere, cases_of, all_weaker, all_of_map}
use Rattle.meaning_laws.proofs.profiles.Names.{names, once}
use Rattle.translation.specs.made_declarations.Declaring.{placed_by, with_declaration, with_declarations}
use Rattle.translation.specs.made_declarations.Laws.{AgreeOnNames, AreWith, IsMadeDeclaration, WithMadeNames}

-- ---- names in byte order

same_name : (x y : List ℕ) → slice_cmp nat_cmp x y ≡ Equal → x ≡ y
same_name x y h = (bytes_eq-Decides x y).0 (sym (is_eq-slice_cmp x y) ∙ ap is_eq h)

turned : (x y : List ℕ) → slice_cmp nat_cmp x y ≡ Greater → slice_cmp nat_cmp y x ≡ Less
turned x y h = nat_list_cmp_total.antisymm y x ∙ ap ordering_reverse h

abbrev Follows : List ℕ → List ℕ → Type 0
Follows x y = slice_cmp nat_cmp x y ≡ Less

-- ---- one name more: what is there

kept_placed : (o : Ordering) (n d : Declaration) (ds behind : List Declaration) (e : Declaration) → Contains (d ∷ ds) e
    → (Contains ds e → Contains behind e) → Contains (placed_by o n d ds behind) e
kept_placed Less n d ds behind e c more = there n (d ∷ ds) e c
kept_placed Equal n d ds behind e c more = c
kept_placed Greater n d ds behind e c more = by (cases_of d ds e c)
  where
    by : (d ≡ e) ⊎ Contains ds e → Contains (d ∷ behind) e
    by (inl s) = subst (Contains (d ∷ behind)) s (here d behind)
    by (inr k) = there d behind e (more k)

kept : (ds : List Declaration) (n e : Declaration) → Contains ds e → Contains (with_declaration ds n) e
kept [] n e c = absurd (nowhere e c)
kept (d ∷ ds) n e c = kept_placed (slice_cmp nat_cmp n.name d.name) n d ds (with_declaration ds n) e c (kept ds n e)

members_placed : (o : Ordering) (n d : Declaration) (ds behind : List Declaration) (e : Declaration)
    → Contains (placed_by o n d ds behind) e → (Contains behind e → Contains ds e ⊎ (n ≡ e)) → Contains (d ∷ ds) e ⊎ (n ≡ e)
members_placed Less n d ds behind e c more = by (cases_of n (d ∷ ds) e c)
  where
    by : (n ≡ e) ⊎ Contains (d ∷ ds) e → Contains (d ∷ ds) e ⊎ (n ≡ e)
    by (inl s) = inr s
    by (inr k) = inl k
members_placed Equal n d ds behind e c more = inl c
members_placed Greater n d ds behind e c more = by (cases_of d behind e c)
  where
    further : Contains ds e ⊎ (n ≡ e) → Contains (d ∷ ds) e ⊎ (n ≡ e)
    further (inl k) = inl (there d ds e k)
    further (inr s) = inr s

    by : (d ≡ e) ⊎ Contains behind e → Contains (d ∷ ds) e ⊎ (n ≡ e)
    by (inl s) = inl (subst (Contains (d ∷ ds)) s (here d ds))
    by (inr k) = further (more k)

pub members : (ds : List Declaration) (n e : Declaration) → Contains (with_declaration ds n) e → Contains ds e ⊎ (n ≡ e)
members [] n e c = by (cases_of n [] e c)
  where
    by : (n ≡ e) ⊎ Contains [] e → Contains [] e ⊎ (n ≡ e)
    by (inl s) = inr s
    by (inr k) = inl k
members (d ∷ ds) n e c =
    members_placed (slice_cmp nat_cmp n.name d.name) n d ds (with_declaration ds n) e c (members ds n e)

-- what is declared under the new name is the new declaration
put_placed : (o : Ordering) (n d : Declaration) (ds behind : List Declaration) → slice_cmp nat_cmp n.name d.name ≡ o
    → (d.name ≡ n.name → d ≡ n) → Contains behind n → Contains (placed_by o n d ds behind) n
put_placed Less n d ds behind q is b = here n (d ∷ ds)
put_placed Equal n d ds behind q is b = subst (Contains (d ∷ ds)) (is (sym (same_name n.name d.name q))) (here d ds)
put_placed Greater n d ds behind q is b = there d behind n b

put : (ds : List Declaration) (n : Declaration) → ((e : Declaration) → Contains ds e → e.name ≡ n.name → e ≡ n)
    → Contains (with_declaration ds n) n
put [] n is = here n []
put (d ∷ ds) n is =
    put_placed (slice_cmp nat_cmp n.name d.name) n d ds (with_declaration ds n) refl (is d (here d ds))
    (put ds n (λ e c. is e (there d ds e c)))

-- ---- one name more: what holds of each, the order, and the elements of arrays

each_placed : (P : Declaration → Type 0) (o : Ordering) (n d : Declaration) (ds behind : List Declaration) → P n
    → AllByRecursion P (d ∷ ds) → AllByRecursion P behind → AllByRecursion P (placed_by o n d ds behind)
each_placed P Less n d ds behind i h b = (i, h)
each_placed P Equal n d ds behind i h b = h
each_placed P Greater n d ds behind i h b = (h.0, b)

each : (P : Declaration → Type 0) (ds : List Declaration) (n : Declaration) → P n → AllByRecursion P ds
    → AllByRecursion P (with_declaration ds n)
each P [] n i h = (i, tt)
each P (d ∷ ds) n i h =
    each_placed P (slice_cmp nat_cmp n.name d.name) n d ds (with_declaration ds n) i h (each P ds n i h.1)

all_names : (P : List ℕ → Type 0) (ds : List Declaration) → AllByRecursion (λ (e : Declaration). P e.name) ds
    → AllByRecursion P (names ds)
all_names P [] h = tt
all_names P (d ∷ ds) h = (h.0, all_names P ds h.1)

each_follows : (y : List ℕ) (ds : List Declaration) (n : Declaration) → Follows y n.name
    → AllByRecursion (Follows y) (names ds) → AllByRecursion (Follows y) (names (with_declaration ds n))
each_follows y ds n l h =
    all_names (Follows y) (with_declaration ds n)
    (each (λ (e : Declaration). Follows y e.name) ds n l (all_of_map (λ (e : Declaration). e.name) (Follows y) ds h))

ordered_placed : (o : Ordering) (n d : Declaration) (ds behind : List Declaration) → slice_cmp nat_cmp n.name d.name ≡ o
    → IsInByteOrder (names (d ∷ ds)) → IsInByteOrder (names behind)
    → (Follows d.name n.name → AllByRecursion (Follows d.name) (names behind)) → IsInByteOrder (names (placed_by o n d ds behind))
ordered_placed Less n d ds behind q h b more =
    ((q, all_weaker (Follows d.name) (Follows n.name) (λ y l. nat_list_cmp_total.trans n.name d.name y q l) (names ds) h.0), h)
ordered_placed Equal n d ds behind q h b more = h
ordered_placed Greater n d ds behind q h b more = (more (turned n.name d.name q), b)

ordered : (ds : List Declaration) (n : Declaration) → IsInByteOrder (names ds) → IsInByteOrder (names (with_declaration ds n))
ordered [] n h = (tt, tt)
ordered (d ∷ ds) n h =
    ordered_placed (slice_cmp nat_cmp n.name d.name) n d ds (with_declaration ds n) refl h (ordered ds n h.1)
    (λ l. each_follows d.name ds n l h.0)

sum_placed : (f : Declaration → ℕ) (o : Ordering) (n d : Declaration) (ds behind : List Declaration) → f n ≡ 0
    → sum_by f behind ≡ sum_by f ds → sum_by f (placed_by o n d ds behind) ≡ sum_by f (d ∷ ds)
sum_placed f Less n d ds behind z s = omega (arith, sum_by-cons f n (d ∷ ds))
sum_placed f Equal n d ds behind z s = refl
sum_placed f Greater n d ds behind z s = sum_by-cons f d behind ∙ ap (λ k. f d + k) s ∙ sym (sum_by-cons f d ds)

sum_same : (f : Declaration → ℕ) (ds : List Declaration) (n : Declaration) → f n ≡ 0
    → sum_by f (with_declaration ds n) ≡ sum_by f ds
sum_same f [] n z = omega (arith, sum_by-cons f n [])
sum_same f (d ∷ ds) n z =
    sum_placed f (slice_cmp nat_cmp n.name d.name) n d ds (with_declaration ds n) z (sum_same f ds n z)

as_many : (f : Declaration → ℕ) (ds : List Declaration) (n : Declaration) → f n ≡ 0
    → sum (map f ds) ≡ sum (map f (with_declaration ds n))
as_many f ds n z = sum-map f ds ∙ sym (sum_same f ds n z) ∙ sym (sum-map f (with_declaration ds n))

declarations : (ds : List Declaration) (n : Declaration) → AreDeclarations ds → IsMadeDeclaration n
    → AreDeclarations (with_declaration ds n)
declarations ds n a made = record {
  each = each IsDeclaration ds n made.declaration a.each;
  ordered = ordered ds n a.ordered;
  elements =
      subst (λ k. k ≤ limits.most_array_elements)
      (as_many (λ (e : Declaration). array_elements (dimensions e.extent)) ds n (ap array_elements made.later)) a.elements;
}

-- ---- all the names

agree_more : (ds : List Declaration) (n : Declaration) (ns : List Declaration) → AgreeOnNames ds (n ∷ ns)
    → AgreeOnNames (n ∷ ns) (n ∷ ns) → AgreeOnNames (with_declaration ds n) ns
agree_more ds n ns s own d e c k same = by (members ds n d c)
  where
    by : Contains ds d ⊎ (n ≡ d) → d ≡ e
    by (inl m) = s d e m (there n ns e k) same
    by (inr p) = own d e (subst (Contains (n ∷ ns)) p (here n ns)) (there n ns e k) same

one_more : (ds : List Declaration) (n : Declaration) (ns es : List Declaration) → IsMadeDeclaration n
    → AgreeOnNames ds (n ∷ ns) → AreWith (with_declaration ds n) ns es → AreWith ds (n ∷ ns) es
one_more ds n ns es m s rest = record {
  more = record {
    kept = λ e c. rest.more.kept e (kept ds n e c);
    made = λ e c. new e (rest.more.made e c);
    are = rest.more.are;
  };
  declared = λ e c. is_declared e (cases_of n ns e c);
}
  where
    either : (e : Declaration) → Contains ds e ⊎ (n ≡ e) → Contains ds e ⊎ (IsSourceName e.name → ⊥)
    either e (inl c) = inl c
    either e (inr p) = inr (subst (λ (f : Declaration). IsSourceName f.name → ⊥) p m.made)

    new : (e : Declaration) → Contains (with_declaration ds n) e ⊎ (IsSourceName e.name → ⊥)
        → Contains ds e ⊎ (IsSourceName e.name → ⊥)
    new e (inl c) = either e (members ds n e c)
    new e (inr f) = inr f

    there_now : declared es n.name ≡ Some n
    there_now = once es n rest.more.are.ordered (rest.more.kept n (put ds n (λ e c k. s e n c (here n ns) k)))

    is_declared : (e : Declaration) → (n ≡ e) ⊎ Contains ns e → declared es e.name ≡ Some e
    is_declared e (inl p) = subst (λ (f : Declaration). declared es f.name ≡ Some f) p there_now
    is_declared e (inr c) = rest.declared e c

are_with : (ds ns : List Declaration) → AreDeclarations ds → All IsMadeDeclaration ns → AgreeOnNames ds ns
    → AgreeOnNames ns ns → AreWith ds ns (with_declarations ds ns)
are_with ds [] a m s own = record {
  more = record { kept = λ e c. c; made = λ e c. inl c; are = a };
  declared = λ e c. absurd (nowhere e c);
}
are_with ds (n ∷ ns) a m s own =
    let here_made = All-head IsMadeDeclaration n ns m in
    one_more ds n ns (with_declarations (with_declaration ds n) ns) here_made s
    (are_with (with_declaration ds n) ns (declarations ds n a here_made) (All-tail IsMadeDeclaration n ns m)
    (agree_more ds n ns s own) (λ d e c k same. own d e (there n ns d c) (there n ns e k) same))

pub made_names : WithMadeNames
made_names ds es a m own new = are_with ds es a m (λ d e c k same. absurd (new d e c k same)) own
