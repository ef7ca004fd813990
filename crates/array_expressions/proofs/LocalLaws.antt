-- The variables of loops, and what other cells hold.
use Rattle.std.proofs.Common.{◌≡◌, refl, sym, ap, ◌∙◌, subst, zero, suc, ℕ, ℤ, ◌+◌, ◌<◌, ◌≤◌, Bool, true, false, cond, List, [], ◌∷◌, ◌++◌, map, take, length, get_or, Option, Some, None, arith}
use Rattle.std.specs.Prelude.{◌&&◌}
use Rattle.std.specs.Str.{bytes_eq}
use Rattle.std.proofs.lemmas.List.{take_all}
use Rattle.tree.specs.declared.ops.Value.{Value}
use Rattle.tree.specs.declared.ops.Value.TheVariants.{Int}
use Rattle.meaning.specs.Store.{Store, Cell, same_cell}
use Rattle.meaning.specs.Value.{bound_to}
use Rattle.array_expressions.specs.declared.locals.Local.{Local}
use Rattle.array_expressions.specs.Locals.{scalar_cell, bound_all, Holds}

pub bound_append : (ls ms : List Local) (s : Store) → bound_all (ls ++ ms) s ≡ bound_all ms (bound_all ls s)
bound_append [] ms s = refl
bound_append (l ∷ ls) ms s = bound_append ls ms (bound_to l.name l.number s)

pub bounds_kept : (ls : List Local) (s : Store) → (bound_all ls s).bounds ≡ s.bounds
bounds_kept [] s = refl
bounds_kept (l ∷ ls) s = bounds_kept ls (bound_to l.name l.number s)

pub element_kept : (ls : List Local) (s : Store) (x : List ℕ) (i : ℤ) (is : List ℤ) → (bound_all ls s).held (record { name = x; subscripts = i ∷ is }) ≡ s.held (record { name = x; subscripts = i ∷ is })
element_kept [] s x i is = refl
element_kept (l ∷ ls) s x i is = element_kept ls (bound_to l.name l.number s) x i is ∙ by (bytes_eq l.name x)
  where
    c : Cell
    c = record { name = x; subscripts = i ∷ is }

    by : (t : Bool) → cond (t && false) (Int l.number) (s.held (record { name = x; subscripts = i ∷ is })) ≡ s.held (record { name = x; subscripts = i ∷ is })
    by true = refl
    by false = refl

-- ---- one variable after the other

pub held_none : (x : List ℕ) (o : Option ℤ) → None ≡ o → Holds [] x o
held_none x None e = λ s. refl
held_none x (Some z) e = cc

take_next : (ls : List Local) (i : ℕ) (l : Local) → i < length ls → l ≡ get_or ls i l → take (i + 1) ls ≡ take i ls ++ l ∷ []
take_next [] i l h e = absurd (omega arith)
take_next (m ∷ ls) zero l h e = ap (λ l. l ∷ []) (sym e)
take_next (m ∷ ls) (suc i) l h e =
    ap (λ k. take k (m ∷ ls)) (let same : suc i + 1 ≡ suc (i + 1) = omega arith in same)
    ∙ ap (λ es. m ∷ es) (take_next ls i l (omega arith) e)

last_of : (ls : List Local) (i : ℕ) (l : Local) (s : Store) → i < length ls → l ≡ get_or ls i l → bound_all (take (i + 1) ls) s ≡ bound_to l.name l.number (bound_all (take i ls) s)
last_of ls i l s h e = ap (λ ms. bound_all ms s) (take_next ls i l h e) ∙ bound_append (take i ls) (l ∷ []) s

pub held_own : (ls : List Local) (x : List ℕ) (i : ℕ) (l : Local) → i < length ls → l ≡ get_or ls i l → bytes_eq l.name x ≡ true → Holds (take (i + 1) ls) x (Some l.number)
held_own ls x i l h e t = λ s.
    ap (λ (s : Store). s.held (scalar_cell x)) (last_of ls i l s h e)
    ∙ ap (λ b. cond (b && true) (Int l.number) ((bound_all (take i ls) s).held (scalar_cell x))) t

pub held_other : (ls : List Local) (x : List ℕ) (i : ℕ) (l : Local) (o : Option ℤ) → i < length ls → l ≡ get_or ls i l → bytes_eq l.name x ≡ false → Holds (take i ls) x o → Holds (take (i + 1) ls) x o
held_other ls x i l o h e t = by o
  where
    kept : (s : Store) → (bound_all (take (i + 1) ls) s).held (scalar_cell x) ≡ (bound_all (take i ls) s).held (scalar_cell x)
    kept s =
        ap (λ (s : Store). s.held (scalar_cell x)) (last_of ls i l s h e)
        ∙ ap (λ b. cond (b && true) (Int l.number) ((bound_all (take i ls) s).held (scalar_cell x))) t

    by : (o : Option ℤ) → Holds (take i ls) x o → Holds (take (i + 1) ls) x o
    by None g = λ s. kept s ∙ g s
    by (Some z) g = λ s. kept s ∙ g s

pub held_all : (ls : List Local) (x : List ℕ) (i : ℕ) (o : Option ℤ) → length ls ≤ i → Holds (take i ls) x o → Holds ls x o
held_all ls x i o l h = subst (λ ls. Holds ls x o) (take_all i ls l) h
