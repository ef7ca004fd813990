-- The order of writes doesn't matter where no cell gets two values.
use Rattle.std.proofs.Common.{◌≡◌, refl, sym, ap, ◌∙◌, subst, ◌⊎◌, inl, inr, Bool, true, false, cond, List, [], ◌∷◌, Contains}
use mathlib.Core.Path.{fun_ext}
use Rattle.tree.specs.declared.ops.Value.{Value}
use Rattle.meaning.specs.Store.{Store, Cell, put, same_cell}
use Rattle.meaning.proofs.Exchanges.{same_cell-same, same_cell-refl}
use Rattle.meaning_laws.specs.arrays.Instances.{puts, WritesInAnyOrder}
use Rattle.meaning_laws.proofs.arrays.Members.{here, there, nowhere, cases_of}

-- writes leave the bounds, and cells that they don't write
bounds_left : (ws : List (Cell × Value)) (s : Store) → (puts ws s).bounds ≡ s.bounds
bounds_left [] s = refl
bounds_left (w ∷ ws) s = bounds_left ws (put w.0 w.1 s)

-- the last write into the cell c, if there is one
data Last (ws : List (Cell × Value)) (c : Cell) : Type 0 where
  Written : (v : Value) → Contains ws (c, v) → ((s : Store) → (puts ws s).held c ≡ v) → Last ws c
  Unwritten : ((v : Value) → ¬ Contains ws (c, v)) → ((s : Store) → (puts ws s).held c ≡ s.held c) → Last ws c

last : (ws : List (Cell × Value)) (c : Cell) → Last ws c
last [] c = Unwritten (λ v. nowhere (c, v)) (λ s. refl)
last (w ∷ ws) c = by (last ws c)
  where
    first : (b : Bool) → same_cell w.0 c ≡ b → ((v : Value) → ¬ Contains ws (c, v)) → ((s : Store) → (puts ws s).held c ≡ s.held c) → Last (w ∷ ws) c
    first true e n h = Written w.1 (subst (λ (d : Cell). Contains (w ∷ ws) (d, w.1)) (same_cell-same w.0 c e) (here w ws)) (λ s. h (put w.0 w.1 s) ∙ ap (λ b. cond b w.1 (s.held c)) e)
    first false e n h = Unwritten (λ v k. other v (cases_of w ws (c, v) k)) (λ s. h (put w.0 w.1 s) ∙ ap (λ b. cond b w.1 (s.held c)) e)
      where
        other : (v : Value) → (w ≡ (c, v)) ⊎ Contains ws (c, v) → ⊥
        other v (inl q) = let same : same_cell w.0 c ≡ true = subst (λ (d : Cell). same_cell w.0 d ≡ true) (ap (λ (u : Cell × Value). u.0) q) (same_cell-refl w.0) in absurd (let both = sym e ∙ same in cc)
        other v (inr k) = n v k

    by : Last ws c → Last (w ∷ ws) c
    by (Written v k h) = Written v (there w ws (c, v) k) (λ s. h (put w.0 w.1 s))
    by (Unwritten n h) = first (same_cell w.0 c) refl n h

pub writes_in_any_order : WritesInAnyOrder
writes_in_any_order us ws s same one = made (bounds_left us s ∙ sym (bounds_left ws s)) (fun_ext (λ c. by c (last us c) (last ws c)))
  where
    made : {t u : Store} → t.bounds ≡ u.bounds → t.held ≡ u.held → t ≡ u
    made e f = λ i. record { bounds = e i; held = f i }

    by : (c : Cell) → Last us c → Last ws c → (puts us s).held c ≡ (puts ws s).held c
    by c (Written v k h) (Written w j g) = h s ∙ (one c v w ((same (c, v)).0 k) j ∙ sym (g s))
    by c (Written v k h) (Unwritten n g) = absurd (n v ((same (c, v)).0 k))
    by c (Unwritten n h) (Written w j g) = absurd (n w ((same (c, w)).1 j))
    by c (Unwritten n h) (Unwritten m g) = h s ∙ sym (g s)
