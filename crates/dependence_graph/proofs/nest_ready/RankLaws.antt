-- What is seen of the references of a nest.
use Rattle.std.proofs.Common.{◌≡◌, ℕ, zero, suc, ◌+◌, ◌<◌, ◌≤◌, ◌^◌, List, [], ◌∷◌, ◌++◌, length, map, take, get_or, true, false, refl, sym, ap, ◌∙◌, subst, arith, Some, Option}
use Rattle.std.specs.Prelude.{All, slice_get, ◌↔◌, Bool, option_map}
use Rattle.std.proofs.Common.{◌⊎◌, inl, inr, eqb}
use Rattle.std.proofs.lemmas.Bool.Decides.{Decides-eqb}
use Rattle.std.proofs.lemmas.Bool.{false≢true}
use Rattle.std.proofs.lemmas.Option.{slice_get-map, slice_get-get_or}
use Rattle.std.proofs.lemmas.List.{length-map, take_all}
use Rattle.std.proofs.lemmas.Slice.Eq.{bytes_eq-Decides}
use Rattle.std.specs.Str.{bytes_eq}
use Rattle.std.proofs.lemmas.Option.{get_or_from_slice_get, slice_get_within}
use Rattle.std.proofs.lemmas.List.Elements.{All-cons, All-head, All-more, All-nil, All-same, All-tail}
use Rattle.tree.specs.Plain.{Reference, Subscript, subscripts}
use Rattle.tree.specs.View.{reference_of, subscript_of}
use Rattle.tree.specs.declared.exprs.Expr.{Expr}
use Rattle.tree.specs.declared.exprs.Ref.{Ref, out-Ref}
use Rattle.tree.specs.declared.exprs.Sub.TheVariants as subs
use Rattle.tree.proofs.Equations.{reference_of-is, subscript_of-one, subscript_of-part}
use Rattle.components.specs.Lists.{Distinct}
use Rattle.nest.specs.Bodies.{Standing, nest_loops, nest_statements}
use Rattle.nest.specs.Plain.{Nest}
use Rattle.nest.specs.View.{loop_of}
use Rattle.dependence_graph.specs.nest_graph.Ready.{AreElements, HaveEqualRank, HaveTrips, IsElement, IsReady, IsReadyStatement, subscript_count}
use Rattle.dependence_graph.specs.nest_graph.References.{references_of}
use Rattle.dependence_graph.specs.nest_ready.Gathered.{HaveSameRank, all_references, numbers_of}
use Rattle.nest.specs.statement_loops.Standings.{standing_of}
use Rattle.nest.specs.declared.statement_loops.standings.Standing.{Standing as Standing'}

-- ---- elements

pub element-one : (e : Expr) (rest : List Subscript) → AreElements (subscripts rest) → AreElements (subscripts (subscript_of (subs.One e) ∷ rest))
element-one e rest h = subst (λ (s : Subscript). AreElements (subscripts (s ∷ rest))) (sym (subscript_of-one e)) h

pub element-rest : (e : Expr) (rest : List Subscript) → AreElements (subscripts (subscript_of (subs.One e) ∷ rest)) → AreElements (subscripts rest)
element-rest e rest h = subst (λ (s : Subscript). AreElements (subscripts (s ∷ rest))) (subscript_of-one e) h

pub element-part : (a b s : Expr) (rest : List Subscript) → AreElements (subscripts (subscript_of (subs.Part a b s) ∷ rest)) → ⊥
element-part a b s rest h = subst (λ (q : Subscript). AreElements (subscripts (q ∷ rest))) (subscript_of-part a b s) h

pub ruleset element_laws = (element-one, element-rest, element-part)

count_is : (ss : List Subscript) → subscript_count (subscripts ss) ≡ length ss
count_is [] = refl
count_is (s ∷ ss) = ap suc (count_is ss)

pub reference_count : (r : Ref) → subscript_count (reference_of r).subscripts ≡ length (out-Ref r).subs
reference_count r =
    ap (λ (q : Reference). subscript_count q.subscripts) (reference_of-is r) ∙ count_is (map subscript_of (out-Ref r).subs) ∙ length-map (out-Ref r).subs subscript_of

pub is_element_by : (r : Ref) → length (out-Ref r).subs ≤ 7 → AreElements (subscripts (map subscript_of (out-Ref r).subs)) → IsElement (reference_of r)
is_element_by r c h = record {
  elements = subst (λ (q : Reference). AreElements q.subscripts) (sym (reference_of-is r)) h;
  dimensions = let e = reference_count r in omega arith;
}

pub is_element_iff : (r : Ref) (b : Bool) → (b ≡ true ↔ (length (out-Ref r).subs ≤ 7) × AreElements (subscripts (map subscript_of (out-Ref r).subs)))
    → b ≡ true ↔ IsElement (reference_of r)
is_element_iff r b h = (
  λ t. is_element_by r (h.0 t).0 (h.0 t).1,
  λ e. h.1 (let m = reference_count r in let d = e.dimensions in omega arith, subst (λ (q : Reference). AreElements q.subscripts) (reference_of-is r) e.elements),
)

-- ---- ranks

reference_name : (r : Ref) → (reference_of r).name ≡ (out-Ref r).name
reference_name r = ap (λ (q : Reference). q.name) (reference_of-is r)

pub other_name : (r u : Ref) → ((out-Ref r).name ≡ (out-Ref u).name → ⊥) → HaveSameRank (reference_of r) (reference_of u)
other_name r u h e = absurd (h (sym (reference_name r) ∙ e ∙ reference_name u))

pub same_rank : (r u : Ref) → length (out-Ref r).subs ≡ length (out-Ref u).subs → HaveSameRank (reference_of r) (reference_of u)
same_rank r u h e = reference_count r ∙ h ∙ sym (reference_count u)

pub other_name_by : (r u : Ref) → bytes_eq (out-Ref r).name (out-Ref u).name ≡ false → HaveSameRank (reference_of r) (reference_of u)
other_name_by r u h = other_name r u (λ e. differ (sym ((bytes_eq-Decides (out-Ref r).name (out-Ref u).name).1 e) ∙ h))
  where
    differ : true ≡ false → ⊥
    differ f = cc

pub ruleset rank_by = (other_name_by, same_rank)

pub has_rank_other : (r u : Ref) → ((out-Ref r).name ≡ (out-Ref u).name → ⊥) → true ≡ true ↔ HaveSameRank (reference_of r) (reference_of u)
has_rank_other r u h = (λ _. other_name r u h, λ _. refl)

pub has_rank_same : (r u : Ref) (b : Bool) → (out-Ref r).name ≡ (out-Ref u).name → (b ≡ true ↔ (length (out-Ref r).subs ≡ length (out-Ref u).subs))
    → b ≡ true ↔ HaveSameRank (reference_of r) (reference_of u)
has_rank_same r u b e h = (
  λ t. same_rank r u (h.0 t),
  λ s. h.1 (sym (reference_count r) ∙ s (reference_name r ∙ e ∙ sym (reference_name u)) ∙ reference_count u),
)

pub has_rank_named : (r u : Ref) (m n : ℕ) → bytes_eq (out-Ref r).name (out-Ref u).name ≡ true → m ≡ length (out-Ref r).subs → n ≡ length (out-Ref u).subs
    → eqb m n ≡ true ↔ HaveSameRank (reference_of r) (reference_of u)
has_rank_named r u m n e f g =
    has_rank_same r u (eqb m n) ((bytes_eq-Decides (out-Ref r).name (out-Ref u).name).0 e)
    (λ t. sym f ∙ (Decides-eqb m n).0 t ∙ g, λ h. (Decides-eqb m n).1 (f ∙ h ∙ sym g))

-- ---- one more of a list

pub list_more : {A : Type 0} (P : A → Type 0) (xs : List A) (i : ℕ) (x : A) → i < length xs → x ≡ get_or xs i x → All P (take i xs) → P x → All P (take (i + 1) xs)
list_more P xs i x h e a p = All-more P xs i x h a (subst P e p)

pub list_all : {A : Type 0} (P : A → Type 0) (xs : List A) (i : ℕ) → length xs ≤ i → All P (take i xs) → All P xs
list_all P xs i h a = subst (λ ys. All P ys) (take_all i xs h) a

pub fails_at : {A : Type 0} (P : A → Type 0) (xs : List A) (i : ℕ) (x : A) (b : Bool) → i < length xs → x ≡ get_or xs i x → (P x → b ≡ true) → b ≡ false
    → false ≡ true ↔ All P xs
fails_at P xs i x b h e g f = (λ t. absurd (false≢true t), λ a. absurd (false≢true (sym f ∙ g (subst P (sym e) (a i x h)))))

all_at : {A : Type 0} (P : A → Type 0) (xs : List A) (i : ℕ) (x : A) → All P xs → slice_get xs i ≡ Some x → P x
all_at P xs i x h e = subst P (get_or_from_slice_get xs i x x e) (h i x (slice_get_within xs i x e))

-- a reference is among those of all statements
record IsAt (rs : List Reference) (r : Reference) : Type 0 where
  at : ℕ
  is : slice_get rs at ≡ Some r

at_front : {A : Type 0} (xs ys : List A) (i : ℕ) (x : A) → slice_get xs i ≡ Some x → slice_get (xs ++ ys) i ≡ Some x
at_front [] ys i x e = cc
at_front (z ∷ xs) ys zero x e = e
at_front (z ∷ xs) ys (suc i) x e = at_front xs ys i x e

at_rest : {A : Type 0} (xs ys : List A) (i : ℕ) (x : A) → slice_get ys i ≡ Some x → slice_get (xs ++ ys) (length xs + i) ≡ Some x
at_rest [] ys i x e = let f : 0 + i ≡ i = omega arith in ap (λ m. slice_get ys m) f ∙ e
at_rest (z ∷ xs) ys i x e = let f : suc (length xs) + i ≡ suc (length xs + i) = omega arith in ap (λ m. slice_get (z ∷ (xs ++ ys)) m) f ∙ at_rest xs ys i x e

among : (ss : List Standing) (i j : ℕ) (s : Standing) (r : Reference) → slice_get ss i ≡ Some s → slice_get (references_of s) j ≡ Some r → IsAt (all_references ss) r
among [] i j s r e f = cc
among (t ∷ ss) zero j s r e f =
    let same : t ≡ s = cc in
    record { at = j; is = at_front (references_of t) (all_references ss) j r (ap (λ (u : Standing). slice_get (references_of u) j) same ∙ f) }
among (t ∷ ss) (suc i) j s r e f =
    let h = among ss i j s r e f in
    record { at = length (references_of t) + h.at; is = at_rest (references_of t) (all_references ss) h.at r h.is }

mapped : (P : Reference → Type 0) (items : List Ref) → All (λ (r : Ref). P (reference_of r)) items → All P (map reference_of items)
mapped P [] h = All-nil P
mapped P (r ∷ items) h =
    All-cons P (reference_of r) (map reference_of items) (All-head (λ (q : Ref). P (reference_of q)) r items h) (mapped P items (All-tail (λ (q : Ref). P (reference_of q)) r items h))

pub equal_rank : (n : Nest) (items : List Ref) → map reference_of items ≡ all_references (nest_statements n)
    → All (λ (q : Ref). All (λ (r : Ref). HaveSameRank (reference_of q) (reference_of r)) items) items → HaveEqualRank n
equal_rank n items e h p q s t r u i j same =
    let a = among (nest_statements n) p.stmt p.at s r i.statement i.reference in
    let b = among (nest_statements n) q.stmt q.at t u j.statement j.reference in
    let all : All (λ (x : Reference). All (HaveSameRank x) (map reference_of items)) (map reference_of items) =
    mapped (λ (x : Reference). All (HaveSameRank x) (map reference_of items)) items (λ k d l. mapped (HaveSameRank (reference_of (get_or items k d))) items (h k d l)) in
    let row = all_at (λ (x : Reference). All (HaveSameRank x) (map reference_of items)) (map reference_of items) a.at r all (ap (λ (rs : List Reference). slice_get rs a.at) e ∙ a.is) in
    all_at (HaveSameRank r) (map reference_of items) b.at u row (ap (λ (rs : List Reference). slice_get rs b.at) e ∙ b.is) same

record IsIn (ss : List Standing) (r : Reference) : Type 0 where
  statement : Standing
  stmt : ℕ
  at : ℕ
  statement_is : slice_get ss stmt ≡ Some statement
  reference_is : slice_get (references_of statement) at ≡ Some r

parted : {A : Type 0} (xs ys : List A) (k : ℕ) (x : A) → slice_get (xs ++ ys) k ≡ Some x → (slice_get xs k ≡ Some x) ⊎ ((j : ℕ) × (slice_get ys j ≡ Some x))
parted [] ys k x e = inr (k, e)
parted (z ∷ xs) ys zero x e = inl e
parted (z ∷ xs) ys (suc k) x e = parted xs ys k x e

here : (s : Standing) (ss : List Standing) (k : ℕ) (r : Reference) → slice_get (references_of s) k ≡ Some r → IsIn (s ∷ ss) r
here s ss k r f = record { statement = s; stmt = 0; at = k; statement_is = refl; reference_is = f }

later : (s : Standing) (ss : List Standing) (r : Reference) → IsIn ss r → IsIn (s ∷ ss) r
later s ss r i = record { statement = i.statement; stmt = suc i.stmt; at = i.at; statement_is = i.statement_is; reference_is = i.reference_is }

either : {A B C : Type 0} → A ⊎ B → (A → C) → (B → C) → C
either (inl a) f g = f a
either (inr b) f g = g b

found : (ss : List Standing) (k : ℕ) (r : Reference) → slice_get (all_references ss) k ≡ Some r → IsIn ss r
found [] k r e = cc
found (s ∷ ss) k r e =
    either (parted (references_of s) (all_references ss) k r e) (here s ss k r) (λ f. later s ss r (found ss f.0 r f.1))

item_in : (n : Nest) (items : List Ref) (k : ℕ) (d : Ref) → map reference_of items ≡ all_references (nest_statements n) → k < length items
    → IsIn (nest_statements n) (reference_of (get_or items k d))
item_in n items k d e l =
    found (nest_statements n) k (reference_of (get_or items k d))
    (sym (ap (λ (rs : List Reference). slice_get rs k) e) ∙ slice_get-map reference_of items k ∙ ap (λ (o : Option Ref). option_map reference_of o) (slice_get-get_or items k d l))

pub each_rank : (n : Nest) (items : List Ref) → map reference_of items ≡ all_references (nest_statements n) → HaveEqualRank n
    → All (λ (q : Ref). All (λ (r : Ref). HaveSameRank (reference_of q) (reference_of r)) items) items
each_rank n items e h k d l m f o =
    let a = item_in n items k d e l in
    let b = item_in n items m f e o in
    h (record { stmt = a.stmt; at = a.at }) (record { stmt = b.stmt; at = b.at }) a.statement b.statement (reference_of (get_or items k d)) (reference_of (get_or items m f))
    (record { statement = a.statement_is; reference = a.reference_is }) (record { statement = b.statement_is; reference = b.reference_is })

unmapped : (P : Reference → Type 0) (items : List Ref) → All P (map reference_of items) → All (λ (r : Ref). P (reference_of r)) items
unmapped P [] h = All-nil (λ (r : Ref). P (reference_of r))
unmapped P (r ∷ items) h =
    All-cons (λ (q : Ref). P (reference_of q)) r items (All-head P (reference_of r) (map reference_of items) h)
    (unmapped P items (All-tail P (reference_of r) (map reference_of items) h))

-- ---- statements

pub ready_statement : (s : Standing') (items : List Ref) → map reference_of items ≡ references_of (standing_of s) → length s.loops ≤ 7 → HaveTrips 0 (map loop_of s.loops)
    → All (λ (r : Ref). IsElement (reference_of r)) items → IsReadyStatement (standing_of s)
ready_statement s items e d t h = record {
  depth = let m = length-map s.loops loop_of in omega arith;
  trips = t;
  references = All-same IsElement (references_of (standing_of s)) (map reference_of items) (sym e) (mapped IsElement items h);
}

pub each_mapped : (all : List Standing') → All (λ (s : Standing'). IsReadyStatement (standing_of s)) all → All IsReadyStatement (map standing_of all)
each_mapped [] h = All-nil IsReadyStatement
each_mapped (s ∷ all) h =
    All-cons IsReadyStatement (standing_of s) (map standing_of all) (All-head (λ (t : Standing'). IsReadyStatement (standing_of t)) s all h)
    (each_mapped all (All-tail (λ (t : Standing'). IsReadyStatement (standing_of t)) s all h))

pub statement_depth : (s : Standing') → IsReadyStatement (standing_of s) → length s.loops ≤ 7
statement_depth s h = let m = length-map s.loops loop_of in let d = h.depth in omega arith

pub statement_items : (s : Standing') (items : List Ref) → map reference_of items ≡ references_of (standing_of s) → IsReadyStatement (standing_of s)
    → All (λ (r : Ref). IsElement (reference_of r)) items
statement_items s items e h = unmapped IsElement items (All-same IsElement (map reference_of items) (references_of (standing_of s)) e h.references)

pub each_unmapped : (all : List Standing') → All IsReadyStatement (map standing_of all) → All (λ (s : Standing'). IsReadyStatement (standing_of s)) all
each_unmapped [] h = All-nil (λ (s : Standing'). IsReadyStatement (standing_of s))
each_unmapped (s ∷ all) h =
    All-cons (λ (t : Standing'). IsReadyStatement (standing_of t)) s all (All-head IsReadyStatement (standing_of s) (map standing_of all) h)
    (each_unmapped all (All-tail IsReadyStatement (standing_of s) (map standing_of all) h))

-- ---- the nest

pub ready_nest : (n : Nest) (all : List Standing') (numbers : List ℕ) (items : List Ref) → map standing_of all ≡ nest_statements n → numbers ≡ numbers_of (nest_loops n)
    → map reference_of items ≡ all_references (map standing_of all) → length n.symbols ≤ 2 ^ 16 → Distinct numbers
    → All (λ (q : Ref). All (λ (r : Ref). HaveSameRank (reference_of q) (reference_of r)) items) items
    → All (λ (s : Standing'). IsReadyStatement (standing_of s)) all → IsReady n
ready_nest n all numbers items e f g small distinct ranks ready = record {
  symbols = small;
  statements = All-same IsReadyStatement (nest_statements n) (map standing_of all) (sym e) (each_mapped all ready);
  ranks = equal_rank n items (g ∙ ap all_references e) ranks;
  loops = subst Distinct f distinct;
}
