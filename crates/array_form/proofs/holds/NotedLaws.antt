-- What is kept of statements for the bounds of their subscripts.
use Rattle.std.proofs.Common.{◌≡◌, refl, sym, ap, ◌∙◌, subst, ℕ, suc, ◌==◌, Bool, true, false, ◌&&◌, cond, List, [], ◌∷◌, ◌++◌, map, length, append_assoc, append-nil, Option, Some, None, Result, Ok, Err, arith}
use mathlib.Core.Path.{ap₂}
use Rattle.std.specs.Prelude.{All, IfOk, IfSome, OnOk, is_some, unwrap_or}
use Rattle.std.specs.List.{flat_map, list_all}
use Rattle.std.specs.Option.{option_map}
use Rattle.std.specs.Str.{bytes_eq}
use Rattle.std.proofs.lemmas.Bool.Decides.{Decides-eqb}
use Rattle.std.proofs.lemmas.List.{length-map}
use Rattle.subscripts.specs.Shapes.{IsSmall}
use Rattle.subscripts.specs.declared.affine.Affine.{Affine}
use Rattle.tree.specs.Plain.{Given, Later as Later', Only, Section, Subscript, Subscripts, no_subscripts, subscript, Reference}
use Rattle.tree.specs.View.{bounds_of, declaration_of, extent_of, reference_of}
use Rattle.tree.specs.declared.exprs.Ref.{Ref}
use Rattle.tree.specs.declared.lists.Memory.{Memory}
use Rattle.tree.specs.declared.programs.Decl.{Decl}
use Rattle.tree.specs.declared.programs.Dim.{Dim}
use Rattle.tree.specs.declared.programs.Extent.{Extent}
use Rattle.tree.specs.declared.programs.Extent.TheVariants.{Scalar, Fixed, Later}
use Rattle.meaning.specs.Store.{opening_bounds}
use Rattle.linear_forms.specs.Affines.{IsFound}
use Rattle.linear_forms.specs.Linear.{Form, form_of}
use Rattle.dependence_graph.specs.nest_graph.References.{references_of, variables_round}
use Rattle.dependence_graph.specs.nest_references.Occurrences.{AreFormsIn, IsFormIn}
use Rattle.dependence_graph.proofs.dep_graph.Shapes.{affine_is_form}
use Rattle.nest.specs.Bodies.{Standing}
use Rattle.nest.specs.Plain.{Nest}
use Rattle.array_form.specs.holds.Bounds as plain
use Rattle.array_form.specs.holds.Bounds.{bounded_subscripts, declared_bounds, form_in, is_made, is_sized, subscripts_of, subscripts_with_bounds}
use Rattle.array_form.specs.holds.Noted.{AreBounded, AreEach, AreFound, AreNoted, IsBounded, IsGathered, IsNoted, IsNotedBehind, beside, dims_in, dims_of, sized_by, sized_within, with_found}
use Rattle.array_form.specs.declared.holds.noted.Bounded.{Bounded}
use Rattle.array_form.specs.declared.holds.noted.Gathered.{Gathered}
use Rattle.array_form.specs.declared.holds.noted.Noted.{Noted}
use Rattle.array_form.proofs.forms.Coefficients.{found_form}
use Rattle.array_form.proofs.holds.BoxLaws.{either_way}

-- ---- the bounds that are declared

bounds_declared : (ds : List Decl) (x : List ℕ) → opening_bounds (map declaration_of ds) x ≡ option_map (map bounds_of) (dims_in ds x)
bounds_declared [] x = refl
bounds_declared (d ∷ ds) x = by (bytes_eq d.name x) d.extent (bounds_declared ds x)
  where
    by : (b : Bool) (e : Extent) → opening_bounds (map declaration_of ds) x ≡ option_map (map bounds_of) (dims_in ds x)
        → cond b (elim (extent_of e) [ Given bs ↦ Some bs | Later' n ↦ None ]) (opening_bounds (map declaration_of ds) x) ≡ option_map (map bounds_of) (cond b (dims_of e) (dims_in ds x))
    by true Scalar more = refl
    by true (Fixed dims) more = refl
    by true (Later n) more = refl
    by false e more = more

-- ---- forms and bounds side by side

small_form : (depth : ℕ) (loops symbols : List (List ℕ)) (p : Subscript) (o : Option Affine) → IsFormIn loops symbols p o → IfSome o (λ (a : Affine). All IsSmall a.loops)
small_form depth loops symbols p None h = tt
small_form depth loops symbols (Section a b c) (Some f) h = cc
small_form depth loops symbols (Only e) (Some a) h = by (form_of loops symbols e) refl h
  where
    by : (o : Option Form) → form_of loops symbols e ≡ o → IsFound (length loops) o (Some a) → All IsSmall a.loops
    by None g i = absurd i
    by (Some f) g i = (affine_is_form (length loops) f a (found_form loops symbols e f g).limits i).small_loops

bounded_is : (n : Nest) (loops : List (List ℕ)) (p : Subscript) (o : Option Affine) (d : Dim) → IsFormIn loops n.symbols p o
    → IsBounded (length loops) (record { form = form_in n loops p; bounds = bounds_of d }) (record { form = o; bounds = d })
bounded_is n loops p o d h = record { form = form_is p h; small = small_form (length loops) loops n.symbols p o h; bounds = refl }
  where
    form_is : (q : Subscript) → IsFormIn loops n.symbols q o → IsFound (length loops) (form_in n loops q) o
    form_is (Only e) k = k
    form_is (Section a b c) k = subst (λ x. IsFound (length loops) None x) (sym k) tt

unequal : (m n : ℕ) → (m ≡ n → ⊥) → (m == n) ≡ false
unequal m n f = from (m == n) refl
  where
    from : (b : Bool) → (m == n) ≡ b → b ≡ false
    from true e = absurd (f ((Decides-eqb m n).0 e))
    from false e = refl

one_less : (m n : ℕ) → (suc m == suc n) ≡ (m == n)
one_less m n = either_way (suc m == suc n) (m == n)
    (λ e. let q : suc m ≡ suc n = (Decides-eqb (suc m) (suc n)).0 e in (Decides-eqb m n).1 (omega arith))
    (λ e. let q : m ≡ n = (Decides-eqb m n).0 e in (Decides-eqb (suc m) (suc n)).1 (ap suc q))

with_more : (depth : ℕ) (q : plain.Bounded) (x : Bounded) (o : Option (List plain.Bounded)) (b : Bool) (xs : List Bounded) → IsBounded depth q x → AreFound depth o (cond b (Some xs) None)
    → AreFound depth (option_map (λ qs. q ∷ qs) o) (cond b (Some (x ∷ xs)) None)
with_more depth q x None true xs h k = k
with_more depth q x None false xs h k = tt
with_more depth q x (Some qs) true xs h k = (h, k)
with_more depth q x (Some qs) false xs h k = k

sized_are : (n : Nest) (loops : List (List ℕ)) (ps : Subscripts) (fs : List (Option Affine)) (ds : List Dim) → AreFormsIn loops n.symbols ps fs
    → AreFound (length loops) (subscripts_with_bounds n loops ps (map bounds_of ds)) (sized_by fs ds)
sized_are n loops no_subscripts [] [] h = tt
sized_are n loops no_subscripts [] (d ∷ ds) h =
    subst (λ b. AreFound (length loops) None (cond b (Some []) None)) (sym (unequal 0 (suc (length ds)) (λ q. absurd (omega arith)))) tt
sized_are n loops no_subscripts (f ∷ fs) ds h = absurd h
sized_are n loops (subscript p ps) [] ds h = absurd h
sized_are n loops (subscript p ps) (f ∷ fs) [] h =
    subst (λ b. AreFound (length loops) None (cond b (Some []) None)) (sym (unequal (suc (length fs)) 0 (λ q. absurd (omega arith)))) tt
sized_are n loops (subscript p ps) (f ∷ fs) (d ∷ ds) h =
    subst (λ b. AreFound (length loops) (subscripts_with_bounds n loops (subscript p ps) (map bounds_of (d ∷ ds))) (cond b (Some (beside (f ∷ fs) (d ∷ ds))) None)) (sym (one_less (length fs) (length ds)))
    (with_more (length loops) (record { form = form_in n loops p; bounds = bounds_of d }) (record { form = f; bounds = d }) (subscripts_with_bounds n loops ps (map bounds_of ds)) (length fs == length ds) (beside fs ds)
    (bounded_is n loops p f d h.0) (sized_are n loops ps fs ds h.1))

sized_within_are : (n : Nest) (loops : List (List ℕ)) (ps : Subscripts) (fs : List (Option Affine)) (o : Option (List Dim)) → AreFormsIn loops n.symbols ps fs
    → AreFound (length loops) (elim (option_map (map bounds_of) o) [ None ↦ None | Some bs ↦ subscripts_with_bounds n loops ps bs ]) (sized_within fs o)
sized_within_are n loops ps fs None h = tt
sized_within_are n loops ps fs (Some ds) h = sized_are n loops ps fs ds h

-- the subscripts of a reference
pub made_subscripts : (n : Nest) (loops : List (List ℕ)) (r : Reference) (b : Bool) → b ≡ is_made n r.name → b ≡ true → AreFound (length loops) (bounded_subscripts n loops r) (Some [])
made_subscripts n loops r b is t =
    subst (λ c. AreFound (length loops) (cond c (Some []) (elim (declared_bounds n r.name) [ None ↦ None | Some bs ↦ subscripts_with_bounds n loops r.subscripts bs ])) (Some [])) (sym t ∙ is) tt

declared_subscripts : (n : Nest) (ds : List Decl) (loops : List (List ℕ)) (r : Reference) (b : Bool) (fs : List (Option Affine)) (o : Option (List Bounded)) → n.declarations ≡ map declaration_of ds
    → b ≡ is_made n r.name → b ≡ false → AreFormsIn loops n.symbols r.subscripts fs → o ≡ sized_within fs (dims_in ds r.name) → AreFound (length loops) (bounded_subscripts n loops r) o
declared_subscripts n ds loops r b fs o decls is f h answer =
    subst (λ c. AreFound (length loops) (cond c (Some []) (elim (declared_bounds n r.name) [ None ↦ None | Some bs ↦ subscripts_with_bounds n loops r.subscripts bs ])) o) (sym f ∙ is)
    (subst (λ x. AreFound (length loops) (elim x [ None ↦ None | Some bs ↦ subscripts_with_bounds n loops r.subscripts bs ]) o) (sym (ap (λ es. opening_bounds es r.name) decls ∙ bounds_declared ds r.name))
    (subst (λ x. AreFound (length loops) (elim (option_map (map bounds_of) (dims_in ds r.name)) [ None ↦ None | Some bs ↦ subscripts_with_bounds n loops r.subscripts bs ]) x) (sym answer)
    (sized_within_are n loops r.subscripts fs (dims_in ds r.name) h)))

-- ---- all references

each_append : {A B : Type 0} (R : A → B → Type 0) (xs us : List A) (ys vs : List B) → AreEach R xs ys → AreEach R us vs → AreEach R (xs ++ us) (ys ++ vs)
each_append R [] us [] vs h k = k
each_append R [] us (y ∷ ys) vs h k = absurd h
each_append R (x ∷ xs) us [] vs h k = absurd h
each_append R (x ∷ xs) us (y ∷ ys) vs h k = (h.0, each_append R xs us ys vs h.1 k)

pub each_length : {A B : Type 0} (R : A → B → Type 0) (xs : List A) (ys : List B) → AreEach R xs ys → length ys ≡ length xs
each_length R [] [] h = refl
each_length R [] (y ∷ ys) h = absurd h
each_length R (x ∷ xs) [] h = absurd h
each_length R (x ∷ xs) (y ∷ ys) h = ap suc (each_length R xs ys h.1)

and_same : (b : Bool) → b ≡ (b && true)
and_same true = refl
and_same false = refl

and_none : (b : Bool) → false ≡ (b && false)
and_none true = refl
and_none false = refl

pub none_gathered : (n : Nest) (loops : List (List ℕ)) (rs : List Reference) (old : Gathered) → rs ≡ [] → IsGathered n loops rs old old
none_gathered n loops rs old h = subst (λ xs. IsGathered n loops xs old old) (sym h) (record { more = []; subscripts = sym (append-nil old.subscripts); are = tt; sized = and_same old.sized })

found_some : (depth : ℕ) (o : Option (List plain.Bounded)) (bs : List Bounded) → AreFound depth o (Some bs) → AreBounded depth (unwrap_or o []) bs × (is_some o ≡ true)
found_some depth None bs h = absurd h
found_some depth (Some qs) bs h = (h, refl)

found_none : (depth : ℕ) (o : Option (List plain.Bounded)) → AreFound depth o None → (unwrap_or o [] ≡ []) × (is_some o ≡ false)
found_none depth None h = (refl, refl)
found_none depth (Some qs) h = absurd h

one_gathered : (n : Nest) (loops : List (List ℕ)) (rs : List Reference) (r : Reference) (bs : List Bounded) (old mid new : Gathered) → AreFound (length loops) (bounded_subscripts n loops r) (Some bs)
    → mid.sized ≡ old.sized → mid.subscripts ≡ old.subscripts ++ bs → IsGathered n loops rs mid new → IsGathered n loops (r ∷ rs) old new
one_gathered n loops rs r bs old mid new h sized subs rest =
    let f = found_some (length loops) (bounded_subscripts n loops r) bs h in
    record {
      more = bs ++ rest.more;
      subscripts = rest.subscripts ∙ (ap (λ xs. xs ++ rest.more) subs ∙ append_assoc old.subscripts bs rest.more);
      are = each_append (IsBounded (length loops)) (unwrap_or (bounded_subscripts n loops r) []) (flat_map (λ q. unwrap_or (bounded_subscripts n loops q) []) rs) bs rest.more f.0 rest.are;
      sized = rest.sized ∙ ap₂ (λ a b. a && (b && list_all (λ q. is_some (bounded_subscripts n loops q)) rs)) sized (sym f.1);
    }

not_gathered : (n : Nest) (loops : List (List ℕ)) (rs : List Reference) (r : Reference) (old mid new : Gathered) → AreFound (length loops) (bounded_subscripts n loops r) None
    → mid.sized ≡ false → mid.subscripts ≡ old.subscripts → IsGathered n loops rs mid new → IsGathered n loops (r ∷ rs) old new
not_gathered n loops rs r old mid new h sized subs rest =
    let f = found_none (length loops) (bounded_subscripts n loops r) h in
    record {
      more = rest.more;
      subscripts = rest.subscripts ∙ ap (λ xs. xs ++ rest.more) subs;
      are = subst (λ xs. AreBounded (length loops) (xs ++ flat_map (λ q. unwrap_or (bounded_subscripts n loops q) []) rs) rest.more) (sym f.0) rest.are;
      sized = rest.sized ∙ (ap (λ a. a && list_all (λ q. is_some (bounded_subscripts n loops q)) rs) sized ∙ (and_none old.sized ∙ ap (λ b. old.sized && (b && list_all (λ q. is_some (bounded_subscripts n loops q)) rs)) (sym f.1)));
    }

pub gathered_more : (n : Nest) (loops : List (List ℕ)) (items rest : List Ref) (first : Ref) (old mid new : Gathered) (o : Option (List Bounded)) (r : Result (Unit {0}) Memory) → items ≡ first ∷ rest
    → AreFound (length loops) (bounded_subscripts n loops (reference_of first)) o → mid ≡ with_found old o → OnOk r (IsGathered n loops (map reference_of rest) mid new) → OnOk r (IsGathered n loops (map reference_of items) old new)
gathered_more n loops items rest first old mid new o (Err m) whole h is more = more
gathered_more n loops items rest first old mid new (Some bs) (Ok u) whole h is more =
    subst (λ rs. IsGathered n loops (map reference_of rs) old new) (sym whole)
    (one_gathered n loops (map reference_of rest) (reference_of first) bs old mid new h (ap (λ (g : Gathered). g.sized) is) (ap (λ (g : Gathered). g.subscripts) is) more)
gathered_more n loops items rest first old mid new None (Ok u) whole h is more =
    subst (λ rs. IsGathered n loops (map reference_of rs) old new) (sym whole)
    (not_gathered n loops (map reference_of rest) (reference_of first) old mid new h (ap (λ (g : Gathered). g.sized) is) (ap (λ (g : Gathered). g.subscripts) is) more)

pub found_ok : (n : Nest) (ds : List Decl) (loops : List (List ℕ)) (r : Ref) (name : List ℕ) (b : Bool) (fs : List (Option Affine)) (o : Result (Option (List Bounded)) Memory) → name ≡ (reference_of r).name → n.declarations ≡ map declaration_of ds
    → b ≡ is_made n name → b ≡ false → AreFormsIn loops n.symbols (reference_of r).subscripts fs → IfOk o (λ found. found ≡ sized_within fs (dims_in ds name))
    → IfOk o (AreFound (length loops) (bounded_subscripts n loops (reference_of r)))
found_ok n ds loops r name b fs (Err m) named decls is f h answer = answer
found_ok n ds loops r name b fs (Ok o) named decls is f h answer =
    declared_subscripts n ds loops (reference_of r) b fs o decls (is ∙ ap (is_made n) named) f h (answer ∙ ap (λ x. sized_within fs (dims_in ds x)) named)

-- ---- statements

pub some_viewed : {A B : Type 0} (f : A → B) (o : Option A) → is_some (option_map f o) ≡ is_some o
some_viewed f None = refl
some_viewed f (Some x) = refl

pub noted_is : (n : Nest) (x : Standing) (loops : List (List ℕ)) (rs : List Reference) (numbers : List ℕ) (old new : Gathered) (guarded : Bool) → loops ≡ variables_round x → rs ≡ references_of x
    → numbers ≡ plain.loop_numbers_round x → guarded ≡ is_some x.statement.guard → old.sized ≡ true → old.subscripts ≡ [] → IsGathered n loops rs old new
    → IsNoted n x (record { guarded = guarded; loops = numbers; sized = new.sized; subscripts = new.subscripts })
noted_is n x loops rs numbers old new guarded l r m g sized none h =
    let k = subst (λ qs. IsGathered n (variables_round x) qs old new) r (subst (λ ls. IsGathered n ls rs old new) l h) in
    record {
      guarded = g;
      loops = m;
      sized = k.sized ∙ ap (λ b. b && is_sized n x) sized;
      subscripts = subst (AreBounded (length x.loops) (subscripts_of n x)) (sym (k.subscripts ∙ ap (λ xs. xs ++ k.more) none))
          (subst (λ d. AreBounded d (subscripts_of n x) k.more) (length-map x.loops _) k.are);
    }

pub none_noted : (n : Nest) (xs : List Standing) (old : List Noted) → xs ≡ [] → IsNotedBehind n xs old old
none_noted n xs old h = subst (λ ys. IsNotedBehind n ys old old) (sym h) (record { more = []; is = sym (append-nil old); are = tt })

pub one_noted : (n : Nest) (xs : List Standing) (x : Standing) (s : Noted) (old mid new : List Noted) → IsNoted n x s → mid ≡ old ++ s ∷ [] → IsNotedBehind n xs mid new → IsNotedBehind n (x ∷ xs) old new
one_noted n xs x s old mid new h m rest = record {
  more = s ∷ rest.more;
  is = rest.is ∙ (ap (λ ys. ys ++ rest.more) m ∙ append_assoc old (s ∷ []) rest.more);
  are = (h, rest.are);
}

pub all_noted : (n : Nest) (xs : List Standing) (old new : List Noted) → old ≡ [] → IsNotedBehind n xs old new → AreNoted n xs new
all_noted n xs old new none h = subst (AreNoted n xs) (sym (h.is ∙ ap (λ ys. ys ++ h.more) none)) h.are
