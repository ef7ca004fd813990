-- Stores in which loop variables hold iterations, given by the variables' names.
use Rattle.std.proofs.Common.{◌≡◌, refl, sym, ap, ◌∙◌, subst, ℕ, ℤ, pos, Bool, true, false, cond, ◌&&◌, List, [], ◌∷◌, map, Contains}
use Rattle.std.specs.Str.{bytes_eq}
use mathlib.Core.Path.{fun_ext}
use Rattle.tree.specs.Plain.{Expression}
use Rattle.tree.specs.declared.ops.Value.TheVariants.{Int}
use Rattle.meaning.specs.Dialect.{Dialect}
use Rattle.meaning.specs.Reads.{names_in}
use Rattle.meaning.specs.Store.{Store, Cell, same_cell}
use Rattle.meaning.specs.Value.{value_of, bound_to}
use Rattle.meaning.proofs.Exchanges.{same_cell-same}
use Rattle.array_form.specs.forms.Instances.{at_iterations}
use Rattle.array_form.specs.forms.Loops.{FormLoop, is_among, loops_among}
use Rattle.array_form.proofs.forms.Names.{among, Alike, value_alike}

abbrev pub variable_cell : List ℕ → Cell
variable_cell x = record { name = x; subscripts = [] }

-- c is the cell of one of the variables
abbrev pub is_variable : List FormLoop → Cell → Bool
is_variable [] c = false
is_variable (l ∷ ls) c = cond (is_variable ls c) true (same_cell (variable_cell l.variable) c)

pub no_variable : (ls : List FormLoop) (x : List ℕ) (z : ℤ) (zs : List ℤ) → is_variable ls (record { name = x; subscripts = z ∷ zs }) ≡ false
no_variable [] x z zs = refl
no_variable (l ∷ ls) x z zs = ap (λ b. cond b true (same_cell (variable_cell l.variable) (record { name = x; subscripts = z ∷ zs }))) (no_variable ls x z zs) ∙ by (bytes_eq l.variable x)
  where
    by : (b : Bool) → (b && false) ≡ false
    by true = refl
    by false = refl

pub not_it : (l : FormLoop) (names : List (List ℕ)) (c : Cell) → Contains names c.name → is_among names l.variable ≡ false → same_cell (variable_cell l.variable) c ≡ false
not_it l names c m e = by (same_cell (variable_cell l.variable) c) refl
  where
    by : (b : Bool) → same_cell (variable_cell l.variable) c ≡ b → b ≡ false
    by false p = refl
    by true p =
        let same = same_cell-same (variable_cell l.variable) c p in
        let found = among names l.variable (subst (λ (k : Cell). Contains names k.name) (sym same) m) in
        absurd (let both = sym e ∙ found in cc)

-- loops that don't stand among the names don't matter
kept : (ls : List FormLoop) (names : List (List ℕ)) (c : Cell) → Contains names c.name → is_variable (loops_among ls names) c ≡ is_variable ls c
kept [] names c m = refl
kept (l ∷ ls) names c m = by (is_among names l.variable) refl (kept ls names c m)
  where
    or_not : (b : Bool) → b ≡ cond b true false
    or_not true = refl
    or_not false = refl

    by : (b : Bool) → is_among names l.variable ≡ b → is_variable (loops_among ls names) c ≡ is_variable ls c
        → is_variable (cond b (l ∷ loops_among ls names) (loops_among ls names)) c ≡ cond (is_variable ls c) true (same_cell (variable_cell l.variable) c)
    by true e more = ap (λ k. cond k true (same_cell (variable_cell l.variable) c)) more
    by false e more = more ∙ (or_not (is_variable ls c) ∙ ap (cond (is_variable ls c) true) (sym (not_it l names c m e)))

module _ (ι : List ℕ → ℕ) where
  abbrev pub iterations : List FormLoop → List ℕ
  iterations ls = map (λ (l : FormLoop). ι l.variable) ls

  abbrev pub at_those : List FormLoop → Store → Store
  at_those ls s = at_iterations ls (iterations ls) s

  pub bounds_at : (ls : List FormLoop) (s : Store) → (at_those ls s).bounds ≡ s.bounds
  bounds_at [] s = refl
  bounds_at (l ∷ ls) s = bounds_at ls (bound_to l.variable (pos (ι l.variable)) s)

  pub held_at : (ls : List FormLoop) (s : Store) (c : Cell) → (at_those ls s).held c ≡ cond (is_variable ls c) (Int (pos (ι c.name))) (s.held c)
  held_at [] s c = refl
  held_at (l ∷ ls) s c = held_at ls (bound_to l.variable (pos (ι l.variable)) s) c ∙ by (is_variable ls c) (same_cell (variable_cell l.variable) c) refl
    where
      by : (b q : Bool) → same_cell (variable_cell l.variable) c ≡ q
          → cond b (Int (pos (ι c.name))) ((bound_to l.variable (pos (ι l.variable)) s).held c) ≡ cond (cond b true q) (Int (pos (ι c.name))) (s.held c)
      by true q e = refl
      by false true e = ap (λ k. cond k (Int (pos (ι l.variable))) (s.held c)) e ∙ ap (λ (k : Cell). Int (pos (ι k.name))) (same_cell-same (variable_cell l.variable) c e)
      by false false e = ap (λ k. cond k (Int (pos (ι l.variable))) (s.held c)) e

  -- an element of an array is no loop variable
  pub element_at : (ls : List FormLoop) (s : Store) (x : List ℕ) (z : ℤ) (zs : List ℤ) → (at_those ls s).held (record { name = x; subscripts = z ∷ zs }) ≡ s.held (record { name = x; subscripts = z ∷ zs })
  element_at ls s x z zs = let c : Cell = record { name = x; subscripts = z ∷ zs } in held_at ls s c ∙ ap (λ b. cond b (Int (pos (ι x))) (s.held c)) (no_variable ls x z zs)

  -- the loops that stand in a text are all that matter to it
  pub alike_part : (ls : List FormLoop) (names : List (List ℕ)) (s : Store) → Alike names (at_those ls s) (at_those (loops_among ls names) s)
  alike_part ls names s = record {
    bounds = bounds_at ls s ∙ sym (bounds_at (loops_among ls names) s);
    held = λ c m. held_at ls s c ∙ (ap (λ b. cond b (Int (pos (ι c.name))) (s.held c)) (sym (kept ls names c m)) ∙ sym (held_at (loops_among ls names) s c));
  }

  pub value_part : (d : Dialect) (ls : List FormLoop) (e : Expression) (s : Store) → value_of d e (at_those ls s) ≡ value_of d e (at_those (loops_among ls (names_in e)) s)
  value_part d ls e s = value_alike d e (at_those ls s) (at_those (loops_among ls (names_in e)) s) (alike_part ls (names_in e) s)

  -- the order of loops doesn't matter
  pub any_order : (ls ms : List FormLoop) (s : Store) → ((c : Cell) → is_variable ls c ≡ is_variable ms c) → at_those ls s ≡ at_those ms s
  any_order ls ms s h = made (bounds_at ls s ∙ sym (bounds_at ms s))
      (fun_ext (λ c. held_at ls s c ∙ (ap (λ b. cond b (Int (pos (ι c.name))) (s.held c)) (h c) ∙ sym (held_at ms s c))))
    where
      made : {t u : Store} → t.bounds ≡ u.bounds → t.held ≡ u.held → t ≡ u
      made e f = λ i. record { bounds = e i; held = f i }

-- by the iterations of the loops alone
pub same_iterations : (ι κ : List ℕ → ℕ) (ls : List FormLoop) (s : Store) → iterations ι ls ≡ iterations κ ls → at_those ι ls s ≡ at_those κ ls s
same_iterations ι κ ls s e = ap (λ is. at_iterations ls is s) e
