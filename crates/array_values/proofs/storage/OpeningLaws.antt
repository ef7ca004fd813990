-- The names as they are when a run begins stand for the opening store.
use Rattle.std.proofs.Common.{◌≡◌, refl, sym, ap, ◌∙◌, subst, zero, suc, ℕ, ℤ, ◌+◌, ◌<◌, ◌≤◌, Bool, true, false, cond, List, [], ◌∷◌, ◌++◌, map, take, drop, length, get_or, replicate, Option, Some, None, arith}
use Rattle.std.specs.Option.{option_map}
use Rattle.std.specs.Prelude.{◌||◌}
use Rattle.std.specs.List.{list_any, AllByRecursion}
use Rattle.std.specs.Str.{bytes_eq}
use Rattle.std.specs.Cmp.Lexicographic.{nat_list_eq_equiv}
use Rattle.std.proofs.Math.Path.{fun_ext}
use Rattle.std.proofs.lemmas.List.{map-append, take_all}
use mathlib.Core.Path.{ap₂}
use Rattle.tree.specs.Plain.{Extent, Given, Later, Declaration}
use Rattle.tree.specs.View.{declaration_of}
use Rattle.tree.specs.declared.ops.Kind.{Kind}
use Rattle.tree.specs.declared.ops.Value.{Value}
use Rattle.tree.specs.declared.programs.Decl.{Decl}
use Rattle.meaning.specs.Store.{Store, Cell, opening_bounds, opening_value, nought}
use Rattle.meaning.specs.Typed.{declared, dimensions}
use Rattle.machine.specs.Storage.{AreDistinct, opening_of, offset, value_at}
use Rattle.array_values.specs.storage.Bounds.{bounds_held}
use Rattle.array_values.specs.declared.storage.slots.Slot.{Slot}
use Rattle.array_values.specs.storage.Names.{own_names}
use Rattle.array_values.specs.storage.Slots.{store_among, bounds_among, held_among, kind_among}
use Rattle.array_values.specs.storage.Opening.{IsOpened, is_given, given, KindsAreDeclared}

-- ---- one name

copy_at : (n k : ℕ) (v : Value) → get_or (replicate n v) k v ≡ v
copy_at zero k v = refl
copy_at (suc n) zero v = refl
copy_at (suc n) (suc k) v = copy_at n k v

none_held : (n : ℕ) (v : Value) (o : Option ℕ) → value_at (replicate n v) v o ≡ v
none_held n v None = refl
none_held n v (Some k) = copy_at n k v

bounds_given : (e : Extent) → cond (is_given e) (Some (dimensions e)) None ≡ given e
bounds_given (Given bs) = refl
bounds_given (Later n) = refl

pub opened_is : (d : Declaration) (v : Slot) (n : ℕ) → v.name ≡ d.name → v.kind ≡ d.kind → v.there ≡ is_given d.extent → bounds_held v.bounds ≡ dimensions d.extent
    → v.values.items ≡ replicate n (nought d.kind) → IsOpened d v
opened_is d v n e k t b vs = record {
  name = e;
  kind = k;
  bounds = ap₂ (λ t (bs : List (ℤ × ℤ)). cond t (Some bs) None) t b ∙ bounds_given d.extent;
  values = λ is. ap₂ (λ (xs : List Value) (k : Kind). value_at xs (nought k) (offset (bounds_held v.bounds) is)) vs k ∙ none_held n (nought d.kind) (offset (bounds_held v.bounds) is);
}

-- ---- all names

pub AllOpened : List Declaration → List Slot → Type 0
AllOpened [] [] = Unit {0}
AllOpened (d ∷ ds) (v ∷ vs) = IsOpened d v × AllOpened ds vs
AllOpened _ _ = ⊥

pub opened_none : AllOpened [] []
unfolding AllOpened
opened_none = tt

pub opened_more : (ds : List Declaration) (vs : List Slot) (d : Declaration) (v : Slot) → AllOpened ds vs → IsOpened d v → AllOpened (ds ++ d ∷ []) (vs ++ v ∷ [])
unfolding AllOpened
opened_more [] [] d v h o = (o, tt)
opened_more [] (w ∷ vs) d v h o = absurd h
opened_more (e ∷ ds) [] d v h o = absurd h
opened_more (e ∷ ds) (w ∷ vs) d v h o = (h.0, opened_more ds vs d v h.1 o)

names_are : (ds : List Declaration) (vs : List Slot) → AllOpened ds vs → own_names vs ≡ map (λ (d : Declaration). d.name) ds
unfolding AllOpened
names_are [] [] h = refl
names_are [] (v ∷ vs) h = absurd h
names_are (d ∷ ds) [] h = absurd h
names_are (d ∷ ds) (v ∷ vs) h = ap₂ (λ x xs. x ∷ xs) h.0.name (names_are ds vs h.1)

bounds_are : (ds : List Declaration) (vs : List Slot) → AllOpened ds vs → (x : List ℕ) → bounds_among vs x ≡ opening_bounds ds x
unfolding AllOpened
bounds_are [] [] h x = refl
bounds_are [] (v ∷ vs) h x = absurd h
bounds_are (d ∷ ds) [] h x = absurd h
bounds_are (d ∷ ds) (v ∷ vs) h x =
    ap₂ (λ n b. cond (bytes_eq n x) b (bounds_among vs x)) h.0.name (h.0.bounds ∙ as_given d.extent)
    ∙ ap (λ b. cond (bytes_eq d.name x) (elim d.extent as (λ _. Option (List (ℤ × ℤ))) [ Given bs ↦ Some bs | Later n ↦ None ]) b) (bounds_are ds vs h.1 x)
  where
    as_given : (e : Extent) → given e ≡ elim e as (λ _. Option (List (ℤ × ℤ))) [ Given bs ↦ Some bs | Later n ↦ None ]
    as_given (Given bs) = refl
    as_given (Later n) = refl

held_are : (ds : List Declaration) (vs : List Slot) → AllOpened ds vs → (x : List ℕ) (is : List ℤ) → held_among vs x is ≡ opening_value ds x
unfolding AllOpened
held_are [] [] h x is = refl
held_are [] (v ∷ vs) h x is = absurd h
held_are (d ∷ ds) [] h x is = absurd h
held_are (d ∷ ds) (v ∷ vs) h x is =
    ap₂ (λ n b. cond (bytes_eq n x) b (held_among vs x is)) h.0.name (h.0.values is)
    ∙ ap (λ b. cond (bytes_eq d.name x) (nought d.kind) b) (held_are ds vs h.1 x is)

pub kinds_are : (ds : List Declaration) (vs : List Slot) → AllOpened ds vs → KindsAreDeclared ds vs
unfolding AllOpened
kinds_are [] [] h x = refl
kinds_are [] (v ∷ vs) h x = absurd h
kinds_are (d ∷ ds) [] h x = absurd h
kinds_are (d ∷ ds) (v ∷ vs) h x =
    ap₂ (λ n (k : Kind). cond (bytes_eq n x) (Some k) (kind_among vs x)) h.0.name h.0.kind
    ∙ by (bytes_eq d.name x) (kinds_are ds vs h.1 x)
  where
    by : (t : Bool) → kind_among vs x ≡ option_map (λ (d : Declaration). d.kind) (declared ds x) → cond t (Some d.kind) (kind_among vs x) ≡ option_map (λ (d : Declaration). d.kind) (cond t (Some d) (declared ds x))
    by true e = refl
    by false e = e

pub opens : (ds : List Declaration) (vs : List Slot) → AllOpened ds vs → store_among vs ≡ opening_of ds
unfolding store_among
opens ds vs h = ap₂ (λ (f : List ℕ → Option (List (ℤ × ℤ))) (g : Cell → Value). let s : Store = record { bounds = f; held = g } in s) (fun_ext (bounds_are ds vs h)) (fun_ext λ c. held_are ds vs h c.name c.subscripts)

-- ---- a name that is declared later isn't there

not_among : (ds : List Declaration) (d : Declaration) (more : List Declaration) → AreDistinct (ds ++ d ∷ more) → list_any (bytes_eq d.name) (map (λ (d : Declaration). d.name) ds) ≡ false
not_among [] d more h = refl
not_among (e ∷ ds) d more h =
    let apart : bytes_eq e.name d.name ≡ false = behind ds h.0 in
    ap (λ b. b || list_any (bytes_eq d.name) (map (λ (d : Declaration). d.name) ds)) (nat_list_eq_equiv.symm d.name e.name ∙ apart)
    ∙ not_among ds d more h.1
  where
    behind : (ds : List Declaration) → AllByRecursion (λ (c : Declaration). bytes_eq e.name c.name ≡ false) (ds ++ d ∷ more) → bytes_eq e.name d.name ≡ false
    behind [] h = h.0
    behind (c ∷ ds) h = behind ds h.1

pub not_yet : (all done : List Declaration) (vs : List Slot) (d : Declaration) (more : List Declaration) → AreDistinct all → all ≡ done ++ d ∷ more → AllOpened done vs → list_any (bytes_eq d.name) (own_names vs) ≡ false
not_yet all done vs d more a e h = ap (list_any (bytes_eq d.name)) (names_are done vs h) ∙ not_among done d more (subst AreDistinct e a)

-- ---- declarations, one at a time

pub split_at : (ds : List Decl) (i : ℕ) (d : Decl) → i < length ds → d ≡ get_or ds i d
    → map declaration_of ds ≡ map declaration_of (take i ds) ++ declaration_of d ∷ map declaration_of (drop (i + 1) ds)
split_at [] i d l e = absurd (omega arith)
split_at (x ∷ ds) zero d l e = ap (λ d. declaration_of d ∷ map declaration_of ds) (sym e)
split_at (x ∷ ds) (suc i) d l e =
    ap (λ es. declaration_of x ∷ es) (split_at ds i d (omega arith) e)
    ∙ ap (λ k. declaration_of x ∷ (map declaration_of (take i ds) ++ declaration_of d ∷ map declaration_of (drop k (x ∷ ds)))) (let same : suc (i + 1) ≡ suc i + 1 = omega arith in same)

take_next : (ds : List Decl) (i : ℕ) (d : Decl) → i < length ds → d ≡ get_or ds i d
    → map declaration_of (take (i + 1) ds) ≡ map declaration_of (take i ds) ++ declaration_of d ∷ []
take_next [] i d l e = absurd (omega arith)
take_next (x ∷ ds) zero d l e = ap (λ d. declaration_of d ∷ []) (sym e)
take_next (x ∷ ds) (suc i) d l e =
    ap (λ k. map declaration_of (take k (x ∷ ds))) (let same : suc i + 1 ≡ suc (i + 1) = omega arith in same)
    ∙ ap (λ es. declaration_of x ∷ es) (take_next ds i d (omega arith) e)

-- what is kept in going through the declarations
abbrev pub AreKept : List Decl → List Slot → List (List ℕ) → ℕ → Type 0
AreKept ds vs keys i = AllOpened (map declaration_of (take i ds)) vs × (keys ≡ own_names vs)

pub keep_begun : (ds : List Decl) (vs : List Slot) (keys : List (List ℕ)) → vs ≡ [] → length keys ≡ 0 → AreKept ds vs keys 0
keep_begun ds vs keys e k = (subst (AllOpened []) (sym e) opened_none, none keys k ∙ ap own_names (sym e))
  where
    none : (ks : List (List ℕ)) → length ks ≡ 0 → ks ≡ []
    none [] h = refl
    none (k ∷ ks) h = absurd (omega arith)

pub keep_absent : (ds : List Decl) (vs : List Slot) (keys : List (List ℕ)) (i : ℕ) (d : Decl) → AreDistinct (map declaration_of ds) → AreKept ds vs keys i → i < length ds → d ≡ get_or ds i d
    → list_any (bytes_eq d.name) keys ≡ false
keep_absent ds vs keys i d a h l e =
    ap (list_any (bytes_eq d.name)) h.1
    ∙ not_yet (map declaration_of ds) (map declaration_of (take i ds)) vs (declaration_of d) (map declaration_of (drop (i + 1) ds)) a (split_at ds i d l e) h.0

pub keep_more : (ds : List Decl) (vs ws : List Slot) (keys more : List (List ℕ)) (i : ℕ) (d : Decl) (v : Slot) → AreKept ds vs keys i → i < length ds → d ≡ get_or ds i d
    → IsOpened (declaration_of d) v → ws ≡ vs ++ v ∷ [] → more ≡ keys ++ d.name ∷ [] → AreKept ds ws more (i + 1)
keep_more ds vs ws keys more i d v h l e o w m = (
  subst (AllOpened (map declaration_of (take (i + 1) ds))) (sym w) (subst (λ es. AllOpened es (vs ++ v ∷ [])) (sym (take_next ds i d l e)) (opened_more (map declaration_of (take i ds)) vs (declaration_of d) v h.0 o)),
  m ∙ ap₂ (λ (ks : List (List ℕ)) n. ks ++ n ∷ []) h.1 (sym o.name) ∙ sym (ap own_names w ∙ map-append (λ (v : Slot). v.name) vs (v ∷ [])),
)

pub keep_done : (ds : List Decl) (vs : List Slot) (keys : List (List ℕ)) (i : ℕ) → AreKept ds vs keys i → length ds ≤ i → AllOpened (map declaration_of ds) vs
keep_done ds vs keys i h l = subst (λ ds. AllOpened (map declaration_of ds) vs) (take_all i ds l) h.0
