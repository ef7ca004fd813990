-- The search for a name among the slots.
use Rattle.std.proofs.Common.{◌≡◌, refl, sym, ap, ◌∙◌, zero, suc, ℕ, ◌+◌, ◌<◌, ◌≤◌, Bool, true, false, cond, List, [], ◌∷◌, length, get_or, Option, Some, None, MatchOption, arith, ltb-true, ltb-false}
use Rattle.std.specs.Prelude.{nat_lt, not}
use Rattle.std.specs.List.{position, position_or_len}
use Rattle.std.specs.Option.{option_map}
use Rattle.std.specs.Str.{bytes_eq}
use Rattle.std.specs.Cmp.Lexicographic.{nat_list_eq_equiv}
use Rattle.tree.specs.declared.ops.Kind.{Kind}
use Rattle.machine.specs.Storage.{offset}
use Rattle.array_values.specs.storage.Bounds.{bounds_held}
use Rattle.array_values.specs.declared.storage.slots.Slot.{Slot}
use Rattle.array_values.specs.declared.storage.slots.Place.{Place}
use Rattle.array_values.specs.storage.Names.{own_names}
use Rattle.array_values.specs.storage.Slots.{bounds_among, held_among, place_among, bounds_now, held_here, kind_among, behind, IsNamed, IsMissing, Has}

-- the slot in front
here : (x : List ℕ) (w : Slot) (vs : List Slot) (n : ℕ) → n ≡ 0 → (v : Slot) → v ≡ get_or (w ∷ vs) n v → bytes_eq w.name x ≡ true → IsNamed (w ∷ vs) x n v
here x w vs zero e v g s = record {
  name = ap (λ (v : Slot). bytes_eq v.name x) g ∙ s;
  bounds = ap (λ t. cond t (bounds_now w) (bounds_among vs x)) s ∙ ap bounds_now (sym g);
  kind = ap (λ t. cond t (Some w.kind) (kind_among vs x)) s ∙ ap (λ (v : Slot). let o : Option Kind = Some v.kind in o) (sym g);
  held = λ is. ap (λ t. cond t (held_here w is) (held_among vs x is)) s ∙ ap (λ v. held_here v is) (sym g);
  place = λ is. ap (λ t. cond t (option_map (λ (k : ℕ). let p : Place = record { slot = 0; at = k } in p) (offset (bounds_held w.bounds) is)) (option_map behind (place_among vs x is))) s
      ∙ ap (λ (v : Slot). option_map (λ (k : ℕ). let p : Place = record { slot = 0; at = k } in p) (offset (bounds_held v.bounds) is)) (sym g);
}
here x w vs (suc n) e v g s = absurd (omega arith)

moved : (m n : ℕ) → n ≡ suc m → (o : Option ℕ) → option_map behind (option_map (λ (k : ℕ). let p : Place = record { slot = m; at = k } in p) o) ≡ option_map (λ (k : ℕ). let p : Place = record { slot = n; at = k } in p) o
moved m n e None = refl
moved m n e (Some k) = ap (λ i. let o : Option Place = Some (record { slot = i; at = k }) in o) (let same : m + 1 ≡ n = omega arith in same)

-- a slot behind another one
later : (x : List ℕ) (w : Slot) (vs : List Slot) (m n : ℕ) → n ≡ suc m → (v : Slot) → bytes_eq w.name x ≡ false → IsNamed vs x m v → IsNamed (w ∷ vs) x n v
later x w vs m n e v s h = record {
  name = h.name;
  bounds = ap (λ t. cond t (bounds_now w) (bounds_among vs x)) s ∙ h.bounds;
  kind = ap (λ t. cond t (Some w.kind) (kind_among vs x)) s ∙ h.kind;
  held = λ is. ap (λ t. cond t (held_here w is) (held_among vs x is)) s ∙ h.held is;
  place = λ is. ap (λ t. cond t (option_map (λ (k : ℕ). let p : Place = record { slot = 0; at = k } in p) (offset (bounds_held w.bounds) is)) (option_map behind (place_among vs x is))) s
      ∙ ap (option_map behind) (h.place is) ∙ moved m n e (offset (bounds_held v.bounds) is);
}

named_at : (x : List ℕ) (vs : List Slot) (n : ℕ) → position_or_len (bytes_eq x) (own_names vs) ≡ n → n < length vs → (v : Slot) → v ≡ get_or vs n v → IsNamed vs x n v
named_at x [] n e l v g = absurd (omega arith)
named_at x (w ∷ vs) n e l v g = by (bytes_eq x w.name) refl e (λ m. named_at x vs m)
  where
    by : (t : Bool) → bytes_eq x w.name ≡ t → cond (not t) (1 + position_or_len (bytes_eq x) (own_names vs)) 0 ≡ n
        → ((m : ℕ) → position_or_len (bytes_eq x) (own_names vs) ≡ m → m < length vs → (v : Slot) → v ≡ get_or vs m v → IsNamed vs x m v) → IsNamed (w ∷ vs) x n v
    by true s e rest = here x w vs n (sym e) v g (nat_list_eq_equiv.symm w.name x ∙ s)
    by false s e rest =
        let m = position_or_len (bytes_eq x) (own_names vs) in
        let next : n ≡ suc m = omega arith in
        let behind' : v ≡ get_or vs m v = g ∙ ap (λ k. get_or (w ∷ vs) k v) next in
        later x w vs m n next v (nat_list_eq_equiv.symm w.name x ∙ s) (rest m refl (omega arith) v behind')

not_there : (x : List ℕ) (vs : List Slot) → length vs ≤ position_or_len (bytes_eq x) (own_names vs) → IsMissing vs x
not_there x [] l = record { bounds = refl; kind = refl }
not_there x (w ∷ vs) l = by (bytes_eq x w.name) refl l (not_there x vs)
  where
    by : (t : Bool) → bytes_eq x w.name ≡ t → length (w ∷ vs) ≤ cond (not t) (1 + position_or_len (bytes_eq x) (own_names vs)) 0
        → (length vs ≤ position_or_len (bytes_eq x) (own_names vs) → IsMissing vs x) → IsMissing (w ∷ vs) x
    by true s l rest = absurd (omega arith)
    by false s l rest =
        let h = rest (omega arith) in
        record {
          bounds = ap (λ t. cond t (bounds_now w) (bounds_among vs x)) (nat_list_eq_equiv.symm w.name x ∙ s) ∙ h.bounds;
          kind = ap (λ t. cond t (Some w.kind) (kind_among vs x)) (nat_list_eq_equiv.symm w.name x ∙ s) ∙ h.kind;
        }

names_length : (vs : List Slot) → length (own_names vs) ≡ length vs
names_length [] = refl
names_length (v ∷ vs) = ap suc (names_length vs)

pub searched : (x : List ℕ) (vs : List Slot) → MatchOption (position (bytes_eq x) (own_names vs)) (IsMissing vs x) (Has vs x)
searched x vs = by (nat_lt (position_or_len (bytes_eq x) (own_names vs)) (length (own_names vs))) refl
  where
    by : (t : Bool) → nat_lt (position_or_len (bytes_eq x) (own_names vs)) (length (own_names vs)) ≡ t
        → MatchOption (cond t (Some (position_or_len (bytes_eq x) (own_names vs))) None) (IsMissing vs x) (Has vs x)
    by true e =
        let below = ltb-true _ _ e in
        let all = names_length vs in
        record { within = omega arith; first = ap (λ t. cond t (Some (position_or_len (bytes_eq x) (own_names vs))) None) e; named = named_at x vs (position_or_len (bytes_eq x) (own_names vs)) refl (omega arith) }
    by false e =
        let above = ltb-false _ _ e in
        let all = names_length vs in
        not_there x vs (omega arith)
