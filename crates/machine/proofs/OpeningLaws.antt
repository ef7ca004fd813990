-- The values that a run begins with, as they are filled in.
use Rattle.std.proofs.Common.{◌≡◌, refl, sym, ap, ◌∙◌, subst, ℕ, ◌+◌, ◌<◌, ◌≤◌, List, [], ◌∷◌, ◌++◌, take, drop, length, map, get_or, replicate, Some, None, false, cond, append_assoc, length-append, length-drop, ◌-◌, ℤ, arith}
use Rattle.std.proofs.lemmas.List.{map-append, append-nil, take_all, at_drop_more, length-replicate, length-take-le}
use Rattle.std.proofs.lemmas.Slice.{take-put_mid}
use Rattle.std.specs.Map.{keys_of, values_of as variables_of, lookup}
use Rattle.std.specs.Str.{bytes_eq}
use Rattle.std.specs.Cmp.Lexicographic.{nat_list_eq_equiv}
use borrow.Rule.Slice.PartMut.{put_mid}
use Rattle.tree.specs.declared.ops.Value.{Value}
use Rattle.tree.specs.Plain.{Declaration}
use Rattle.tree.specs.View.{declaration_of, extent_of}
use Rattle.tree.specs.declared.programs.Decl.{Decl}
use Rattle.meaning.specs.Typed.{dimensions}
use Rattle.meaning.proofs.CellFrame.{second_part}
use mathlib.Core.Path.{ap₂}
use Rattle.std.specs.Prelude.{◌^◌}
use Rattle.meaning.specs.Extents.{elements_of}
use Rattle.meaning.specs.Store.{nought}
use Rattle.machine.specs.declared.variables.Variable.{Variable}
use Rattle.machine.specs.Storage.{declared, own_names, AreDistinct, total, noughts_of, values_of, starts_in, starts_of, AreArrays, AreBounds, HasBounds}
use Rattle.machine.proofs.StoreLaws.{bounds_known}

-- the values before `start` are filled in, those of the names before the place i
pub record IsFilled (names : List Variable) (values : List Value) (start i : ℕ) : Type 0 where
  pub sound : AreArrays (declared (drop i names))
  pub room : start + total (declared (drop i names)) ≡ length values
  pub is : take start values ++ noughts_of (declared (drop i names)) ≡ noughts_of (declared names)

-- the same with the values of one more name
pub fill_more : (names : List Variable) (values part : List Value) (start i n k : ℕ) (v : Variable) (x : Value) → IsFilled names values start i → i < length names → v ≡ get_or names i v → n ≡ values_of (declaration_of v.decl)
    → k ≡ n → x ≡ nought v.decl.kind → part ≡ replicate (length (take k (drop start values))) x → IsFilled names (put_mid start k values part) (start + n) (i + 1)
fill_more names values part start i n k v x h l e f q z w = by (at_drop_more (λ vs. vs) names i v l ∙ ap (λ v. v ∷ drop (i + 1) names) (sym e))
  where
    by : drop i names ≡ v ∷ drop (i + 1) names → IsFilled names (put_mid start k values part) (start + n) (i + 1)
    by o =
        let sound : AreArrays (declared (v ∷ drop (i + 1) names)) = subst (λ vs. AreArrays (declared vs)) o h.sound in
        let room : start + (values_of (declaration_of v.decl) + total (declared (drop (i + 1) names))) ≡ length values = subst (λ vs. start + total (declared vs) ≡ length values) o h.room in
        let is : take start values ++ noughts_of (declared (v ∷ drop (i + 1) names)) ≡ noughts_of (declared names) = subst (λ vs. take start values ++ noughts_of (declared vs) ≡ noughts_of (declared names)) o h.is in
        let count : length (take k (drop start values)) ≡ n = (let a = length-take-le k (drop start values) (let b = length-drop start values in omega (arith, b, room, f, q)) in omega (arith, a, q)) in
        let g : part ≡ replicate n (nought v.decl.kind) = w ∙ ap (λ m. replicate m x) count ∙ ap (replicate n) z in
        let size : length part ≡ n = ap length g ∙ length-replicate n (nought v.decl.kind) in
        let more : List Value = noughts_of (declared (drop (i + 1) names)) in
        record {
          sound = sound.1;
          room = (let same : length (put_mid start k values part) ≡ length values = (let a = length-append (take start values) (part ++ drop k (drop start values)) in let b = length-append part (drop k (drop start values)) in let c = length-drop k (drop start values) in let d = length-drop start values in let e = length-take-le start values (omega (arith, room)) in omega (arith, room, size, f, q, a, b, c, d, e)) in omega (arith, room, same, f));
          is = ap (λ xs. xs ++ more) (take-put_mid start k values part (start + n) (omega (arith, size)) (omega (arith, room)))
              ∙ ap (λ xs. take start values ++ xs ++ more) g
              ∙ append_assoc (take start values) (replicate n (nought v.decl.kind)) more
              ∙ ap (λ k. take start values ++ (replicate k (nought v.decl.kind) ++ more)) f
              ∙ is;
        }

-- ---- the names with the places of their values

noughts_append : (ds es : List Declaration) → noughts_of (ds ++ es) ≡ noughts_of ds ++ noughts_of es
noughts_append [] es = refl
noughts_append (d ∷ ds) es = ap (λ vs. replicate (values_of d) (nought d.kind) ++ vs) (noughts_append ds es) ∙ sym (append_assoc (replicate (values_of d) (nought d.kind)) (noughts_of ds) (noughts_of es))

starts_append : (n : ℕ) (ds es : List Declaration) → starts_of n (ds ++ es) ≡ starts_of n ds ++ starts_of (n + total ds) es
starts_append n [] es = ap (λ m. starts_of m es) (let e : n ≡ n + 0 = omega arith in e)
starts_append n (d ∷ ds) es = ap (λ ms. n ∷ ms) (starts_append (n + values_of d) ds es ∙ ap (λ m. starts_of (n + values_of d) ds ++ starts_of m es) (let e : n + values_of d + total ds ≡ n + (values_of d + total ds) = omega arith in e))

pub as_many : (ds : List Declaration) → length (noughts_of ds) ≡ total ds
as_many [] = refl
as_many (d ∷ ds) = length-append (replicate (values_of d) (nought d.kind)) (noughts_of ds) ∙ (let a = length-replicate (values_of d) (nought d.kind) in let b = as_many ds in omega (arith, a, b))

-- the names before these declarations have their places, and their values stand there
pub record ArePlaced (ds : List Declaration) (names : List Variable) (values : List Value) (left : List Decl) : Type 0 where
  pub all : ds ≡ declared names ++ map declaration_of left
  pub starts : starts_in names ≡ starts_of 0 (declared names)
  pub noughts : values ≡ noughts_of (declared names)

pub bounds_placed : (ds : List Declaration) (names : List Variable) (values : List Value) (d : Decl) (more : List Decl) → AreArrays ds → ArePlaced ds names values (d ∷ more) → AreBounds (dimensions (extent_of d.extent))
bounds_placed ds names values d more a h = bounds_known (extent_of d.extent) (second_part (λ (d : Declaration). HasBounds d.extent) (declared names) (map declaration_of (d ∷ more)) (subst AreArrays h.all a)).0

pub place_more : (ds : List Declaration) (names : List Variable) (values : List Value) (v : Variable) (more : List Decl) (n : ℕ) (x : Value) → ArePlaced ds names values (v.decl ∷ more)
    → v.start ≡ length values → n ≡ values_of (declaration_of v.decl) → x ≡ nought v.decl.kind → ArePlaced ds (names ++ v ∷ []) (values ++ replicate n x) more
place_more ds names values v more n x h s e f = record {
  all = h.all ∙ sym (append_assoc (declared names) (declaration_of v.decl ∷ []) (map declaration_of more)) ∙ ap (λ es. es ++ map declaration_of more) (sym split);
  starts = map-append (λ (v : Variable). v.start) names (v ∷ []) ∙ ap₂ (λ ms m. ms ++ m ∷ []) h.starts (s ∙ ap length h.noughts ∙ as_many (declared names) ∙ first) ∙ sym (starts_append 0 (declared names) (declaration_of v.decl ∷ []))
      ∙ ap (starts_of 0) (sym split);
  noughts = ap₂ (λ vs (ws : List Value). vs ++ ws) h.noughts (ap₂ (λ n x. replicate n x) e f ∙ sym (append-nil (replicate (values_of (declaration_of v.decl)) (nought v.decl.kind)))) ∙ sym (noughts_append (declared names) (declaration_of v.decl ∷ []))
      ∙ ap noughts_of (sym split);
}
  where
    split : declared (names ++ v ∷ []) ≡ declared names ++ declaration_of v.decl ∷ []
    split = map-append (λ (v : Variable). declaration_of v.decl) names (v ∷ [])

    first : total (declared names) ≡ 0 + total (declared names)
    first = omega arith

-- where all names have their places
pub all_placed : (ds : List Declaration) (names : List Variable) (values : List Value) → ArePlaced ds names values [] → declared names ≡ ds
all_placed ds names values h = sym (h.all ∙ append-nil (declared names))

-- ---- the names with their places, in a table

pub record AreKept (ds : List Declaration) (table : List (List ℕ × Variable)) (values : List Value) (left : List Decl) : Type 0 where
  pub placed : ArePlaced ds (variables_of table) values left
  pub named : keys_of table ≡ own_names (variables_of table)

-- a name that is declared later isn't there
not_yet : (table : List (List ℕ × Variable)) (d : Declaration) (more : List Declaration) → keys_of table ≡ own_names (variables_of table) → AreDistinct (declared (variables_of table) ++ d ∷ more) → lookup (bytes_eq d.name) table ≡ None
not_yet [] d more k h = refl
not_yet (e ∷ es) d more k h =
    let apart : bytes_eq e.1.decl.name d.name ≡ false = (second_part (λ (c : Declaration). bytes_eq e.1.decl.name c.name ≡ false) (declared (variables_of es)) (d ∷ more) h.0).0 in
    let key : e.0 ≡ e.1.decl.name = cc k in
    let other : bytes_eq d.name e.0 ≡ false = ap (bytes_eq d.name) key ∙ nat_list_eq_equiv.symm d.name e.1.decl.name ∙ apart in
    ap (λ b. cond b (Some e.1) (lookup (bytes_eq d.name) es)) other ∙ not_yet es d more (cc k) h.1

-- nor is the first one that is left
pub absent : (ds : List Declaration) (table : List (List ℕ × Variable)) (values : List Value) (d : Decl) (more : List Decl) → AreDistinct ds → AreKept ds table values (d ∷ more) → lookup (bytes_eq d.name) table ≡ None
absent ds table values d more a h = not_yet table (declaration_of d) (map declaration_of more) h.named (subst AreDistinct h.placed.all a)

-- the same with one more name
pub keep_more : (ds : List Declaration) (table new : List (List ℕ × Variable)) (values : List Value) (v : Variable) (more : List Decl) (n : ℕ) (x : Value) → AreKept ds table values (v.decl ∷ more)
    → v.start ≡ length values → n ≡ values_of (declaration_of v.decl) → x ≡ nought v.decl.kind → new ≡ table ++ (v.decl.name, v) ∷ [] → AreKept ds new (values ++ replicate n x) more
keep_more ds table new values v more n x h s e f w =
    let added : variables_of new ≡ variables_of table ++ v ∷ [] = ap variables_of w ∙ map-append (λ (e : List ℕ × Variable). e.1) table ((v.decl.name, v) ∷ []) in
    record {
      placed = subst (λ vs. ArePlaced ds vs (values ++ replicate n x) more) (sym added) (place_more ds (variables_of table) values v more n x h.placed s e f);
      named = ap keys_of w ∙ map-append (λ (e : List ℕ × Variable). e.0) table ((v.decl.name, v) ∷ []) ∙ ap (λ ks. ks ++ v.decl.name ∷ []) h.named
          ∙ sym (ap own_names added ∙ map-append (λ (v : Variable). v.decl.name) (variables_of table) (v ∷ []));
    }

-- what is left of nothing
pub nothing : {X : Type 0} (xs : List X) → length xs ≡ 0 → xs ≡ []
nothing [] e = refl
nothing (x ∷ xs) e = absurd (omega arith)

pub few_placed : (bs : List (ℤ × ℤ)) (n : ℕ) → AreBounds bs → n ≡ elements_of bs → n ≤ 2 ^ 22
few_placed bs n h e = (let few = h.few in omega (arith, few, e))

-- values that are resized by as many as a name has
pub resized : (values new : List Value) (len n k : ℕ) (x : Value) → length values ≡ len → n ≡ len + k → new ≡ take n values ++ replicate (n - len) x → new ≡ values ++ replicate k x
resized values new len n k x l e h = h ∙ ap (λ vs. vs ++ replicate (n - len) x) (take_all n values (omega (arith, l, e))) ∙ ap (λ m. values ++ replicate m x) (let same : n - len ≡ k = omega (arith, e) in same)
