-- No statement stores in a variable whose last values stand behind all loops: outside the bodies of its loops it doesn't
-- stand, and in them it is the variable of a loop round the statement.
use mathlib.Core.Path.{ap₂}
use Rattle.std.proofs.Common.{◌≡◌, refl, sym, ap, ◌∙◌, ℕ, Bool, true, false, cond, ◌&&◌, ◌||◌, List, [], ◌∷◌, ◌++◌}
use Rattle.std.proofs.Common.{length}
use Rattle.std.specs.List.{list_all}
use Rattle.std.specs.Str.{bytes_eq}
use Rattle.std.proofs.lemmas.Slice.Eq.{bytes_eq-Decides}
use Rattle.meaning.specs.Reads.{names_in_subscripts}
use Rattle.rewrite.proofs.Replacing.{either_false, not_true}
use Rattle.last_values.specs.Behind.{may_end_behind, stands_behind}
use Rattle.last_values.specs.Occurrences.{occurs_only_within, stands_in, stands_in_bounds, stands_in_guard}
use Rattle.last_values.specs.Occurrences.{stands_in_left, stands_in_statement, stands_outside, stands_outside_in_each}
use Rattle.linear_forms.proofs.Sizes.{both}
use Rattle.nest_order.specs.orders.Lists.{Each}
use Rattle.nest_order.proofs.runs.Results.{true_false}
use Rattle.nest.specs.Bodies.{statements_in, statements_in_parts}
use Rattle.nest.specs.Plain.{Guarded, Loop, Nest, Part, Run, Turns, Choice, Label, Jump, Parts, no_parts, part}
use Rattle.pass_laws.specs.normal_runs.Sources.{AreStraight, IsNormalSource, IsStraight, IsSuitedStatement, ends_behind, loops_in}
use Rattle.pass_laws.specs.normal_runs.Sources.{variables_in}
use Rattle.nest.specs.statement_loops.Names.{is_among}
use Rattle.pass_laws.proofs.LastRuns.Listed.{each_joined}
use Rattle.pass_laws.proofs.LastRuns.Made.{IsOutside, each_front, each_of_all, each_rest, names_of}

-- in which no statement stores
abbrev pub kept_in : Nest → List ℕ → Bool
kept_in n y = ends_behind n y || is_among n.symbols y

one_less : (ls : List Loop) (l : Loop) (x : List ℕ) → is_among (names_of (ls ++ l ∷ [])) x ≡ false → (is_among (names_of ls) x ≡ false) × (bytes_eq l.variable x ≡ false)
one_less [] l x h = (refl, (either_false (bytes_eq l.variable x) false h).0)
one_less (k ∷ ks) l x h =
    let p = either_false (bytes_eq k.variable x) (is_among (names_of (ks ++ l ∷ [])) x) h in
    let q = one_less ks l x p.1 in
    (ap (λ b. b || is_among (names_of ks) x) p.0 ∙ q.0, q.1)

module _ (n : Nest) where
  -- within these loops, such a variable of another loop doesn't stand outside its loops
  abbrev AreInside : List Loop → (List ℕ → Bool) → Type 0
  AreInside ls stands = (x : List ℕ) → ends_behind n x ≡ true → is_among (names_of ls) x ≡ false → stands x ≡ false

  inside_more : (ls : List Loop) (l : Loop) (ps : Parts) → AreInside ls (λ x. stands_outside x (Turns l ps)) → AreInside (ls ++ l ∷ []) (λ x. stands_outside_in_each x ps)
  inside_more ls l ps h x e free =
      let p = one_less ls l x free in
      sym (ap (λ b. cond b false (stands_outside_in_each x ps)) p.1)
      ∙ (either_false (stands_in_bounds x l) (cond (bytes_eq l.variable x) false (stands_outside_in_each x ps)) (h x e p.0)).1

  inside_all : AreInside [] (λ x. stands_outside x n.body)
  unfolding stands_behind
  inside_all x e free =
      let p = both (is_among (variables_in n) x) (occurs_only_within x n.body && list_all (may_end_behind (length n.symbols) x) (loops_in n)) e in
      not_true (stands_outside x n.body) (both (occurs_only_within x n.body) (list_all (may_end_behind (length n.symbols) x) (loops_in n)) p.1).0

  not_behind : (ls : List Loop) (g : Guarded) → AreInside ls (λ x. stands_in_statement x g) → is_among (names_of ls) g.left.name ≡ false → ends_behind n g.left.name ≡ false
  not_behind ls g h free = by (ends_behind n g.left.name) refl
    where
      by : (b : Bool) → ends_behind n g.left.name ≡ b → b ≡ false
      by false e = refl
      by true e =
          let p = either_false (stands_in_guard g.left.name g.guard) (stands_in_left g.left.name g.left || stands_in g.left.name g.right) (h g.left.name e free) in
          let q = either_false (stands_in_left g.left.name g.left) (stands_in g.left.name g.right) p.1 in
          let name = (either_false (bytes_eq g.left.name g.left.name) (is_among (names_in_subscripts g.left.subscripts) g.left.name) q.0).0 in
          absurd (true_false (sym ((bytes_eq-Decides g.left.name g.left.name).1 refl) ∙ name))

  mutual
    outside_in : (ls : List Loop) (p : Part) → IsStraight p → AreInside ls (λ x. stands_outside x p) → Each (IsSuitedStatement n) (statements_in ls p) → Each (IsOutside (kept_in n)) (statements_in ls p)
    outside_in ls (Run g) s h k = (record { kept = ap₂ (λ a b. a || b) (not_behind ls g h k.0.variables) k.0.symbols; free = k.0.variables }, tt)
    outside_in ls (Turns l ps) s h k = outside_in_parts (ls ++ l ∷ []) ps s (inside_more ls l ps h) k
    outside_in ls (Choice bs ps) s h k = absurd s
    outside_in ls (Label j) s h k = absurd s
    outside_in ls (Jump j) s h k = absurd s

    outside_in_parts : (ls : List Loop) (ps : Parts) → AreStraight ps → AreInside ls (λ x. stands_outside_in_each x ps) → Each (IsSuitedStatement n) (statements_in_parts ls ps)
        → Each (IsOutside (kept_in n)) (statements_in_parts ls ps)
    outside_in_parts ls no_parts s h k = tt
    outside_in_parts ls (part p ps) s h k =
        each_joined (IsOutside (kept_in n)) (statements_in ls p) (statements_in_parts ls ps)
        (outside_in ls p s.0 (λ x e free. (either_false (stands_outside x p) (stands_outside_in_each x ps) (h x e free)).0) (each_front (IsSuitedStatement n) (statements_in ls p) (statements_in_parts ls ps) k))
        (outside_in_parts ls ps s.1 (λ x e free. (either_false (stands_outside x p) (stands_outside_in_each x ps) (h x e free)).1) (each_rest (IsSuitedStatement n) (statements_in ls p) (statements_in_parts ls ps) k))

  pub all_outside : IsNormalSource n → Each (IsOutside (kept_in n)) (statements_in [] n.body)
  all_outside normal = outside_in [] n.body normal.straight inside_all (each_of_all (IsSuitedStatement n) (statements_in [] n.body) normal.statements)
