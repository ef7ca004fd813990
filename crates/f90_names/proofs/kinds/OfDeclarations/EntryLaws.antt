-- What is known of declared names.
use Rattle.std.proofs.Common.{◌≡◌, ℕ, Bool, true, false, ◌||◌, Option, Some, None, is_some, cond, List, [], ◌∷◌}
use Rattle.std.proofs.Common.{◌++◌, length, map, get_or, take, ◌+◌, ◌<◌, ◌≤◌, refl, ap, sym, subst, ◌∙◌, append_assoc}
use Rattle.std.proofs.Common.{append-nil}
use Rattle.std.specs.List.{flat_map}
use Rattle.std.specs.Str.{bytes_eq}
use Rattle.std.proofs.lemmas.Grind.{flat_map-append}
use Rattle.std.proofs.lemmas.List.{map-append, length-map, take_more, take_all}
use Rattle.std.proofs.lemmas.List.Folds.{list_any-append}
use Rattle.std.proofs.lemmas.Slice.Eq.{bytes_eq-Decides}
use Rattle.tree.specs.Plain.{Declaration}
use Rattle.tree.specs.declared.ops.Kind.{Kind}
use Rattle.meaning.specs.Names.{is_among}
use Rattle.meaning.specs.Typed.{declared, rank_of_extent}
use Rattle.f90_grammar.specs.Blocks as grammar
use Rattle.f90_grammar.specs.Declared.{declarations_in, declarations_of, declared_names_of, is_repeated, declares_again}
use Rattle.f90_grammar.specs.Forms as forms
use Rattle.f90_grammar.specs.Forms.{Form90}
use Rattle.f90_grammar.specs.Order.{Place90}
use Rattle.f90_grammar.specs.Reading.{dimension_bounds, extent_of_dimensions, entity_declaration}
use Rattle.f90_blocks.specs.places.forms.Places.{IsPlacedOf}
use Rattle.f90_blocks.specs.declared.places.forms.placing.Placed.{Placed}
use Rattle.f90_statement.specs.Views.{AreOf, IsDimensionOf, IsEntityOf, IsActionOf, IsStatementOf}
use Rattle.f90_statement.specs.declared.nodes.Action.{Action}
use Rattle.f90_statement.specs.declared.nodes.Action.TheVariants.{Read, Print}
use Rattle.f90_statement.specs.declared.nodes.Entity.{Entity}
use Rattle.f90_statement.specs.declared.nodes.Statement.{Statement}
use Rattle.f90_statement.specs.declared.nodes.Statement.TheVariants.{Declare, Act}
use Rattle.f90_names.specs.declared.kinds.declarations.names.Declared.{Declared}
use Rattle.f90_names.specs.declared.kinds.declarations.names.Names.{Names}
use Rattle.f90_names.specs.kinds.declarations.Entries.{Entry, entry, entry_of, entries_in, names_in, first_said, Knows, Declares}
use Rattle.f90_names.specs.kinds.declarations.Names.{found, is_later, Tells, AreNamesOf}
use Rattle.f90_names.proofs.kinds.OfDeclarations.PlaceLaws.{same_length, IsThere}

-- ---- names that come again

or_none : (b : Bool) → (b || false) ≡ b
or_none true = refl
or_none false = refl

or_swap : (a b : Bool) → (a || b) ≡ (b || a)
or_swap true true = refl
or_swap true false = refl
or_swap false b = sym (or_none b)

or_grouped : (a b c : Bool) → (a || (b || c)) ≡ ((a || b) || c)
or_grouped true b c = refl
or_grouped false b c = refl

abbrev HaveSame : List (List ℕ) → List (List ℕ) → Type 0
HaveSame xs ys = (x : List ℕ) → is_among xs x ≡ is_among ys x

repeated_same : (xs ys zs : List (List ℕ)) → HaveSame xs ys → is_repeated xs zs ≡ is_repeated ys zs
repeated_same xs ys [] h = refl
repeated_same xs ys (z ∷ zs) h =
    ap (λ b. b || is_repeated (z ∷ xs) zs) (h z)
    ∙ ap (λ b. is_among ys z || b) (repeated_same (z ∷ xs) (z ∷ ys) zs (λ x. ap (λ b. bytes_eq x z || b) (h x)))

moved : (x : List ℕ) (xs ys : List (List ℕ)) → HaveSame ((x ∷ xs) ++ ys) (xs ++ x ∷ ys)
moved x xs ys y =
    ap (λ b. bytes_eq y x || b) (list_any-append (bytes_eq y) xs ys)
    ∙ turned (bytes_eq y x) (is_among xs y) (is_among ys y)
    ∙ sym (list_any-append (bytes_eq y) xs (x ∷ ys))
  where
    turned : (a b c : Bool) → (a || (b || c)) ≡ (b || (a || c))
    turned true true c = refl
    turned true false c = refl
    turned false b c = refl

repeated_append : (before xs ys : List (List ℕ))
    → is_repeated before (xs ++ ys) ≡ (is_repeated before xs || is_repeated (before ++ xs) ys)
repeated_append before [] ys = ap (λ ns. is_repeated ns ys) (sym (append-nil before))
repeated_append before (x ∷ xs) ys =
    ap (λ b. is_among before x || b)
    (repeated_append (x ∷ before) xs ys
    ∙ ap (λ b. is_repeated (x ∷ before) xs || b)
    (repeated_same ((x ∷ before) ++ xs) (before ++ x ∷ xs) ys (moved x before xs)))
    ∙ or_grouped (is_among before x) (is_repeated (x ∷ before) xs) (is_repeated (before ++ x ∷ xs) ys)

-- ---- what is said of names

names_append : (es fs : List Entry) → names_in (es ++ fs) ≡ names_in es ++ names_in fs
names_append es fs = map-append (λ (e : Entry). e.name) es fs

same_test : (x y : List ℕ) → bytes_eq x y ≡ bytes_eq y x
same_test x y = cases (bytes_eq x y) (bytes_eq y x) refl refl
  where
    cases : (a b : Bool) → bytes_eq x y ≡ a → bytes_eq y x ≡ b → a ≡ b
    cases true true e f = refl
    cases false false e f = refl
    cases true false e f = sym (sym f ∙ (bytes_eq-Decides y x).1 (sym ((bytes_eq-Decides x y).0 e)))
    cases false true e f = sym e ∙ (bytes_eq-Decides x y).1 (sym ((bytes_eq-Decides y x).0 f))

-- whether something is said
said_among : (es : List Entry) (x : List ℕ) → is_some (first_said es x) ≡ is_among (names_in es) x
said_among [] x = refl
said_among (e ∷ es) x = cases (bytes_eq e.name x) (same_test x e.name) (said_among es x)
  where
    cases : (b : Bool) → bytes_eq x e.name ≡ b → is_some (first_said es x) ≡ is_among (names_in es) x
        → is_some (cond b (Some e.says) (first_said es x)) ≡ (bytes_eq x e.name || is_among (names_in es) x)
    cases true f h = sym (ap (λ b. b || is_among (names_in es) x) f)
    cases false f h = h ∙ sym (ap (λ b. b || is_among (names_in es) x) f)

said_before : (es fs : List Entry) (x : List ℕ) (k : Declared) → first_said es x ≡ Some k
    → first_said (es ++ fs) x ≡ Some k
said_before [] fs x k h = cc
said_before (e ∷ es) fs x k h = cases (bytes_eq e.name x) h (said_before es fs x k)
  where
    cases : (b : Bool) → cond b (Some e.says) (first_said es x) ≡ Some k
        → (first_said es x ≡ Some k → first_said (es ++ fs) x ≡ Some k)
        → cond b (Some e.says) (first_said (es ++ fs) x) ≡ Some k
    cases true h g = h
    cases false h g = g h

said_behind : (es fs : List Entry) (x : List ℕ) → first_said es x ≡ None → first_said (es ++ fs) x ≡ first_said fs x
said_behind [] fs x h = refl
said_behind (e ∷ es) fs x h = cases (bytes_eq e.name x) h (said_behind es fs x)
  where
    cases : (b : Bool) → cond b (Some e.says) (first_said es x) ≡ None
        → (first_said es x ≡ None → first_said (es ++ fs) x ≡ first_said fs x)
        → cond b (Some e.says) (first_said (es ++ fs) x) ≡ first_said fs x
    cases true h g = absurd (cc)
    cases false h g = g h

-- ---- one name more

-- the name is known already
pub known_again : (names : Names) (x : List ℕ) (k : Declared) → is_some (found names x) ≡ true
    → Declares names names (entry x k ∷ []) true
known_again names x k h before knows =
    (λ y. stays y (first_said before y) refl, sym (ap (λ b. b || false) (sym (said_among before x) ∙ said)))
  where
    said : is_some (first_said before x) ≡ true
    said = ap is_some (sym (knows x)) ∙ h

    other : (y : List ℕ) (b : Bool) → bytes_eq x y ≡ b → first_said before y ≡ None → None ≡ cond b (Some k) None
    other y false e n = refl
    other y true e n =
        let f : is_some (first_said before y) ≡ true =
        subst (λ (z : List ℕ). is_some (first_said before z) ≡ true) ((bytes_eq-Decides x y).0 e) said in
        let g : is_some (first_said before y) ≡ false = ap is_some n in
        absurd (cc)

    stays : (y : List ℕ) (o : Option Declared) → first_said before y ≡ o
        → found names y ≡ first_said (before ++ entry x k ∷ []) y
    stays y (Some j) e = knows y ∙ e ∙ sym (said_before before (entry x k ∷ []) y j e)
    stays y None e = knows y ∙ e ∙ other y (bytes_eq x y) refl e ∙ sym (said_behind before (entry x k ∷ []) y e)

-- the name is new
pub known_more : (old new : Names) (x : List ℕ) (k : Declared) → is_some (found old x) ≡ false
    → ((y : List ℕ) → found new y ≡ cond (bytes_eq x y) (Some k) (found old y))
    → Declares old new (entry x k ∷ []) false
known_more old new x k h added before knows = (
  λ y. grows y (bytes_eq x y) refl (first_said before y) refl,
  sym
      (ap (λ b. b || false) (sym (said_among before x) ∙ unsaid)),
)
  where
    unsaid : is_some (first_said before x) ≡ false
    unsaid = ap is_some (sym (knows x)) ∙ h

    nothing : (o : Option Declared) → is_some o ≡ false → o ≡ None
    nothing None e = refl
    nothing (Some j) e = absurd (cc)

    grows : (y : List ℕ) (b : Bool) → bytes_eq x y ≡ b → (o : Option Declared) → first_said before y ≡ o
        → found new y ≡ first_said (before ++ entry x k ∷ []) y
    grows y true e o f =
        let n : first_said before y ≡ None =
        subst (λ (z : List ℕ). first_said before z ≡ None) ((bytes_eq-Decides x y).0 e)
        (nothing (first_said before x) unsaid) in
        added y ∙ ap (λ b. cond b (Some k) (found old y)) e
        ∙ sym (said_behind before (entry x k ∷ []) y n ∙ ap (λ b. cond b (Some k) None) e)
    grows y false e (Some j) f =
        added y ∙ ap (λ b. cond b (Some k) (found old y)) e ∙ knows y ∙ f
        ∙ sym (said_before before (entry x k ∷ []) y j f)
    grows y false e None f =
        added y ∙ ap (λ b. cond b (Some k) (found old y)) e ∙ knows y ∙ f
        ∙ sym (said_behind before (entry x k ∷ []) y f ∙ ap (λ b. cond b (Some k) None) e)

-- ---- more names

pub none_more : (names : Names) → Declares names names [] false
none_more names before knows = (λ x. knows x ∙ ap (λ es. first_said es x) (sym (append-nil before)), refl)

pub both : (a b c : Names) (es fs : List Entry) (r s : Bool) → Declares a b es r → Declares b c fs s
    → Declares a c (es ++ fs) (s || r)
both a b c es fs r s h g before knows =
    let one = h before knows in
    let two = g (before ++ es) one.0 in (
      λ x. two.0 x ∙ ap (λ ds. first_said ds x) (append_assoc before es fs),
      or_swap s r ∙ ap (λ q. q || s) one.1
          ∙ ap (λ q. is_repeated (names_in before) (names_in es) || q)
          (two.1 ∙ ap (λ ns. is_repeated ns (names_in fs)) (names_append before es))
          ∙ sym (repeated_append (names_in before) (names_in es) (names_in fs))
          ∙ ap (is_repeated (names_in before)) (sym (names_append es fs)),
    )

module _ (k : Kind) (l : Bool) (es : List Entity) (i : ℕ) where
  pub one_declared : (a b c : Names) (e : Entity) (n : ℕ) (r s : Bool) → i < length es → e ≡ get_or es i e
      → n ≡ length e.dimensions
      → Declares a b (map (entry_of k l) (take i es)) r
      → Declares b c (entry e.name (record { kind = k; rank = n; is_allocatable = l }) ∷ []) s
      → Declares a c (map (entry_of k l) (take (i + 1) es)) (s || r)
  one_declared a b c e n r s h f g old new =
      subst (λ (xs : List Entry). Declares a c xs (s || r)) (sym taken)
      (both a b c (map (entry_of k l) (take i es))
      (entry e.name (record { kind = k; rank = n; is_allocatable = l }) ∷ []) r s old new)
    where
      taken : map (entry_of k l) (take (i + 1) es) ≡ map (entry_of k l) (take i es) ++ entry e.name
          (record { kind = k; rank = n; is_allocatable = l }) ∷ []
      taken =
          ap (map (entry_of k l)) (take_more es i e h ∙ ap (λ (y : Entity). take i es ++ y ∷ []) (sym f))
          ∙ map-append (entry_of k l) (take i es) (e ∷ [])
          ∙ ap (λ m. map (entry_of k l) (take i es) ++ entry e.name
          (record { kind = k; rank = m; is_allocatable = l }) ∷ []) (sym g)

  pub all_declared : (a b : Names) (r : Bool) → length es ≤ i → Declares a b (map (entry_of k l) (take i es)) r
      → Declares a b (map (entry_of k l) es) r
  all_declared a b r h old = subst (λ (xs : List Entity). Declares a b (map (entry_of k l) xs) r) (take_all i es h) old

-- ---- entries and declarations

abbrev entry_in : Declaration → Entry
entry_in d = entry d.name (record { kind = d.kind; rank = rank_of_extent d.extent; is_allocatable = is_later d.extent })

ranks : (a : Bool) (ds : List forms.Dimension) → rank_of_extent (extent_of_dimensions a ds) ≡ length ds
ranks true ds = refl
ranks false ds = length-map ds dimension_bounds

laters : (a : Bool) (ds : List forms.Dimension) → is_later (extent_of_dimensions a ds) ≡ a
laters true ds = refl
laters false ds = refl

entity_entry : (k : Kind) (a : Bool) (e : Entity) (f : forms.EntityForm90) → IsEntityOf e f
    → entry_of k a e ≡ entry_in (entity_declaration k a f)
entity_entry k a e f h =
    ap (λ x. entry x (record { kind = k; rank = length e.dimensions; is_allocatable = a })) h.name
    ∙ ap (λ n. entry f.name (record { kind = k; rank = n; is_allocatable = a }))
    (same_length IsDimensionOf e.dimensions f.dimensions h.dimensions ∙ sym (ranks a f.dimensions))
    ∙ ap (λ b. entry f.name (record { kind = k; rank = rank_of_extent (extent_of_dimensions a f.dimensions); is_allocatable = b }))
    (sym (laters a f.dimensions))

entity_entries : (k : Kind) (a : Bool) (es : List Entity) (fs : List forms.EntityForm90) → AreOf IsEntityOf es fs
    → map (entry_of k a) es ≡ map entry_in (map (entity_declaration k a) fs)
entity_entries k a [] [] h = refl
entity_entries k a [] (f ∷ fs) h = absurd h
entity_entries k a (e ∷ es) [] h = absurd h
entity_entries k a (e ∷ es) (f ∷ fs) h =
    ap (λ x. x ∷ map (entry_of k a) es) (entity_entry k a e f h.0)
    ∙ ap (λ xs. entry_in (entity_declaration k a f) ∷ xs) (entity_entries k a es fs h.1)

-- ---- statements

abbrev pub is_declaration : Statement → Bool
is_declaration (Declare k a es) = true
is_declaration s = false

no_action : (a : Action) (k : Kind) (b : Bool) (es : List forms.EntityForm90) → IsActionOf a (forms.Declare k b es) → ⊥
no_action (Read (Some is)) k b es h = h
no_action (Read None) k b es h = h
no_action (Print (Some is)) k b es h = h
no_action (Print None) k b es h = h
no_action a k b es h = h

no_statement : (s : Statement) (k : Kind) (b : Bool) (es : List forms.EntityForm90) → is_declaration s ≡ false
    → IsStatementOf s (forms.Declare k b es) → ⊥
no_statement (Declare j a fs) k b es n h = cc
no_statement (Act a) k b es n h = no_action a k b es h
no_statement s k b es n h = h

pub declares_nothing : (s : Statement) (f : Form90) → is_declaration s ≡ false → IsStatementOf s f
    → declarations_in f ≡ []
declares_nothing s (forms.Declare k b es) n h = absurd (no_statement s k b es n h)
declares_nothing s f n h = refl

no_entries : (s : Statement) → is_declaration s ≡ false → entries_in s ≡ []
no_entries (Declare k a es) n = cc
no_entries s n = refl

statement_entries : (s : Statement) (f : Form90) → IsStatementOf s f → entries_in s ≡ map entry_in (declarations_in f)
statement_entries (Declare k a es) (forms.Declare l b fs) h =
    ap (λ j. map (entry_of j a) es) h.0 ∙ ap (λ c. map (entry_of l c) es) h.1 ∙ entity_entries l b es fs h.2
statement_entries (Declare k a es) f h = absurd h
statement_entries s f h = others (is_declaration s) refl
  where
    others : (b : Bool) → is_declaration s ≡ b → entries_in s ≡ map entry_in (declarations_in f)
    others false e = no_entries s e ∙ ap (map entry_in) (sym (declares_nothing s f e h))
    others true e = cc

-- ---- texts

abbrev pub entries_of : List Placed → List Entry
entries_of ks = flat_map (λ (k : Placed). entries_in k.statement) ks

pub entries_are : (ks : List Placed) (ps : List grammar.Placed) → AreOf IsPlacedOf ks ps
    → entries_of ks ≡ map entry_in (declarations_of ps)
entries_are [] [] h = refl
entries_are [] (p ∷ ps) h = absurd h
entries_are (k ∷ ks) [] h = absurd h
entries_are (k ∷ ks) (p ∷ ps) h =
    ap (λ es. es ++ entries_of ks) (statement_entries k.statement p.form h.0.is)
    ∙ ap (λ es. map entry_in (declarations_in p.form) ++ es) (entries_are ks ps h.1)
    ∙ sym (map-append entry_in (declarations_in p.form) (declarations_of ps))

pub entries_more : (ks : List Placed) (i : ℕ) (k : Placed) → i < length ks → k ≡ get_or ks i k
    → entries_of (take (i + 1) ks) ≡ entries_of (take i ks) ++ entries_in k.statement
entries_more ks i k l e =
    ap entries_of (take_more ks i k l ∙ ap (λ (j : Placed). take i ks ++ j ∷ []) (sym e))
    ∙ flat_map-append (λ (j : Placed). entries_in j.statement) (take i ks) (k ∷ [])
    ∙ ap (λ es. entries_of (take i ks) ++ es) (append-nil (entries_in k.statement))

pub knows_more : (names : Names) (ks : List Placed) (i : ℕ) (k : Placed) → i < length ks → k ≡ get_or ks i k
    → Knows names (entries_of (take i ks) ++ entries_in k.statement)
    → Knows names (entries_of (take (i + 1) ks))
knows_more names ks i k l e h = subst (λ (es : List Entry). Knows names es) (sym (entries_more ks i k l e)) h

names_are : (ds : List Declaration) → names_in (map entry_in ds) ≡ declared_names_of ds
names_are [] = refl
names_are (d ∷ ds) = ap (λ ns. d.name ∷ ns) (names_are ds)

-- whether a statement at its place declares a name again
again_is : (ks : List Placed) (ps : List grammar.Placed) (k : Placed) (p : grammar.Placed) → AreOf IsPlacedOf ks ps
    → IsPlacedOf k p
    → is_repeated (names_in (entries_of ks)) (names_in (entries_in k.statement)) ≡ is_repeated
    (declared_names_of (declarations_of ps)) (declared_names_of (declarations_in p.form))
again_is ks ps k p h g =
    ap (λ es. is_repeated (names_in es) (names_in (entries_in k.statement))) (entries_are ks ps h)
    ∙ ap (λ es. is_repeated (names_in (map entry_in (declarations_of ps))) (names_in es))
    (statement_entries k.statement p.form g.is)
    ∙ ap (λ ns. is_repeated ns (names_in (map entry_in (declarations_in p.form)))) (names_are (declarations_of ps))
    ∙ ap (is_repeated (declared_names_of (declarations_of ps))) (names_are (declarations_in p.form))

pub again_at : (ks : List Placed) (ps : List grammar.Placed) (i : ℕ) (k : Placed) (again : Bool) (q : Place90)
    → again ≡ is_repeated (names_in (entries_of (take i ks))) (names_in (entries_in k.statement))
    → IsThere ks ps i k q → again ≡ declares_again q.before q.here.form
again_at ks ps i k again q e t = e ∙ again_is (take i ks) q.before k q.here t.of_before t.of_here

tells : (ds : List Declaration) (x : List ℕ) → Tells (first_said (map entry_in ds) x) (declared ds x)
tells [] x = tt
tells (d ∷ ds) x = cases (bytes_eq d.name x) (tells ds x)
  where
    cases : (b : Bool) → Tells (first_said (map entry_in ds) x) (declared ds x)
        → Tells (cond b (Some (entry_in d).says) (first_said (map entry_in ds) x)) (cond b (Some d) (declared ds x))
    cases true h = record { kind = refl; rank = refl; allocatable = refl }
    cases false h = h

pub names_known : (names : Names) (ks : List Placed) (i : ℕ) (ps : List grammar.Placed) → length ks ≤ i
    → AreOf IsPlacedOf ks ps → Knows names (entries_of (take i ks))
    → AreNamesOf names (declarations_of ps)
names_known names ks i ps l h so_far x =
    let knows : Knows names (entries_of ks) =
    subst (λ (js : List Placed). Knows names (entries_of js)) (take_all i ks l) so_far in
    subst (λ (o : Option Declared). Tells o (declared (declarations_of ps) x))
    (sym (knows x ∙ ap (λ es. first_said es x) (entries_are ks ps h))) (tells (declarations_of ps) x)
