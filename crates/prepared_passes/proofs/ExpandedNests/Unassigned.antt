-- No statement of a nest that is found, with loops from 1 by 1 or as it is written, gives a value to a variable whose
-- last values stand behind all loops.
use Rattle.std.proofs.Common.{◌≡◌, ◌⊎◌, inl, inr, refl, sym, ap, ◌∙◌, subst, Bool, true, false, cond, ◌||◌, ℕ, List, [], ◌∷◌, ◌++◌, length, Option, Some, None}
use Rattle.std.specs.Prelude.{⊤}
use Rattle.std.specs.Str.{bytes_eq}
use Rattle.components.specs.Lists.{Each}
use Rattle.last_values.specs.Behind.{stands_behind}
use Rattle.last_values.specs.InPlace.{assigned_part, end_part, first_text, own_trip_text}
use Rattle.last_values.specs.Occurrences.{stands_in, stands_in_bounds, stands_in_statement, stands_outside, stands_outside_in_branches, stands_outside_in_each}
use Rattle.last_values.specs.PartsInPlace.{only_where_part, parts_before, parts_behind}
use Rattle.last_values.specs.declared.normal_forms.loops.NormalLoop.{NormalLoop}
use Rattle.last_values.specs.normal_forms.NormalLoops.{is_known, is_positive, normal_loop}
use Rattle.last_values.specs.normal_forms.Texts.{at_least_one}
use Rattle.nest.specs.Bodies.{Standing, nest_statements, statements_in, statements_in_branches, statements_in_parts}
use Rattle.nest.specs.Plain.{Branches, Choice, Guarded, Jump, Label, Loop, Nest, Part, Parts, Run, Turns, branch, no_branches, no_parts, part, parts}
use Rattle.nest.specs.statement_loops.Names.{is_among}
use Rattle.nest_order.proofs.orders.Lists.{In-append}
use Rattle.nest_order.specs.orders.Lists.{In}
use Rattle.nest_rewrite.specs.Statements.{rewritten_statement}
use Rattle.normal_loops.specs.Bodies.{normal_branches, normal_part, normal_parts, normal_turns, placed_loop}
use Rattle.normal_loops.specs.Counting.{counting}
use Rattle.normal_loops.specs.Loops.{with_loop}
use Rattle.normal_loops.specs.Normalised.{normalised, only_one}
use Rattle.normal_loops.specs.Values.{normal_statement, statement_with_values, with_value}
use Rattle.pass_laws.proofs.BranchMeaning.LastValues.{inside_all}
use Rattle.pass_laws.proofs.LastRuns.Made.{each_front, each_of_all, each_rest, names_of}
use Rattle.pass_laws.proofs.NormalMeaning.Made as texts
use Rattle.pass_laws.specs.branch_meaning.Sources.{IsBranchedSource}
use Rattle.pass_laws.specs.normal_runs.Sources.{IsSuitedStatement, ends_behind, loops_in}
use Rattle.rewrite.proofs.Replacing.{either_false}
use Rattle.scalar_expand.proofs.PrivateLaws.{in_left}

-- ---- parts in which no statement gives v a value

module _ (v : List ℕ) where
  abbrev mutual
    pub LeavesAlone : Part → Type 0
    LeavesAlone (Run g) = ¬ (g.left.name ≡ v)
    LeavesAlone (Turns l ps) = AllLeaveAlone ps
    LeavesAlone (Choice bs ps) = BranchesLeaveAlone bs × AllLeaveAlone ps
    LeavesAlone (Label k) = ⊤
    LeavesAlone (Jump k) = ⊤

    pub AllLeaveAlone : Parts → Type 0
    AllLeaveAlone no_parts = ⊤
    AllLeaveAlone (part p ps) = LeavesAlone p × AllLeaveAlone ps

    pub BranchesLeaveAlone : Branches → Type 0
    BranchesLeaveAlone no_branches = ⊤
    BranchesLeaveAlone (branch test ps bs) = AllLeaveAlone ps × BranchesLeaveAlone bs

  joined : (ps qs : List Part) → AllLeaveAlone (parts ps) → AllLeaveAlone (parts qs) → AllLeaveAlone (parts (ps ++ qs))
  joined [] qs h k = k
  joined (p ∷ ps) qs h k = (h.0, joined ps qs h.1 k)

  either : {A B : Type 0} → (A → ⊥) → (B → ⊥) → A ⊎ B → ⊥
  either f g (inl a) = f a
  either f g (inr b) = g b

  -- so of each of its statements
  mutual
    pub each_leaves : (ls : List Loop) (p : Part) → LeavesAlone p → (x : Standing) → In x (statements_in ls p) → ¬ (x.statement.left.name ≡ v)
    each_leaves ls (Run g) h x (inl e) f = h (ap (λ (y : Standing). y.statement.left.name) (sym e) ∙ f)
    each_leaves ls (Run g) h x (inr i) f = i
    each_leaves ls (Turns l ps) h x i f = parts_leave (ls ++ l ∷ []) ps h x i f
    each_leaves ls (Choice bs ps) h x i f = either (λ j. branches_leave ls bs h.0 x j f) (λ j. parts_leave ls ps h.1 x j f) (In-append x (statements_in_branches ls bs) (statements_in_parts ls ps) i)
    each_leaves ls (Label k) h x i f = i
    each_leaves ls (Jump k) h x i f = i

    parts_leave : (ls : List Loop) (ps : Parts) → AllLeaveAlone ps → (x : Standing) → In x (statements_in_parts ls ps) → ¬ (x.statement.left.name ≡ v)
    parts_leave ls no_parts h x i f = i
    parts_leave ls (part p ps) h x i f = either (λ j. each_leaves ls p h.0 x j f) (λ j. parts_leave ls ps h.1 x j f) (In-append x (statements_in ls p) (statements_in_parts ls ps) i)

    branches_leave : (ls : List Loop) (bs : Branches) → BranchesLeaveAlone bs → (x : Standing) → In x (statements_in_branches ls bs) → ¬ (x.statement.left.name ≡ v)
    branches_leave ls no_branches h x i f = i
    branches_leave ls (branch test ps bs) h x i f = either (λ j. parts_leave ls ps h.0 x j f) (λ j. branches_leave ls bs h.1 x j f) (In-append x (statements_in_parts ls ps) (statements_in_branches ls bs) i)

  -- ---- the source

  one_less : (ls : List Loop) (l : Loop) → is_among (names_of (ls ++ l ∷ [])) v ≡ false → (is_among (names_of ls) v ≡ false) × (bytes_eq l.variable v ≡ false)
  one_less [] l h = (refl, (either_false (bytes_eq l.variable v) false h).0)
  one_less (k ∷ ks) l h =
      let p = either_false (bytes_eq k.variable v) (is_among (names_of (ks ++ l ∷ [])) v) h in
      let q = one_less ks l p.1 in
      (ap (λ b. b || is_among (names_of ks) v) p.0 ∙ q.0, q.1)

  module _ (n : Nest) where
    -- within these loops, where v isn't the variable of one, it doesn't stand outside its own
    abbrev Outside : List Loop → Bool → Type 0
    Outside ls b = is_among (names_of ls) v ≡ false → b ≡ false

    first : (ls : List Loop) (a b : Bool) → Outside ls (a || b) → Outside ls a
    first ls a b h free = (either_false a b (h free)).0

    rest : (ls : List Loop) (a b : Bool) → Outside ls (a || b) → Outside ls b
    rest ls a b h free = (either_false a b (h free)).1

    within : (ls : List Loop) (l : Loop) (ps : Parts) → Outside ls (stands_outside v (Turns l ps)) → Outside (ls ++ l ∷ []) (stands_outside_in_each v ps)
    within ls l ps h free =
        let p = one_less ls l free in
        sym (ap (λ b. cond b false (stands_outside_in_each v ps)) p.1)
        ∙ (either_false (stands_in_bounds v l) (cond (bytes_eq l.variable v) false (stands_outside_in_each v ps)) (h p.0)).1

    one : (ls : List Loop) (g : Guarded) → Outside ls (stands_in_statement v g) → is_among (names_of ls) g.left.name ≡ false → ¬ (g.left.name ≡ v)
    one ls g h free e =
        let no : true ≡ false = sym (in_left g v (inl (sym e))) ∙ h (ap (is_among (names_of ls)) (sym e) ∙ free) in
        cc

    mutual
      source_part : (ls : List Loop) (p : Part) → Outside ls (stands_outside v p) → Each (IsSuitedStatement n) (statements_in ls p) → LeavesAlone p
      source_part ls (Run g) h k = one ls g h k.0.variables
      source_part ls (Turns l ps) h k = source_parts (ls ++ l ∷ []) ps (within ls l ps h) k
      source_part ls (Choice bs ps) h k = (
        source_branches ls bs (first ls (stands_outside_in_branches v bs) (stands_outside_in_each v ps) h) (each_front (IsSuitedStatement n) (statements_in_branches ls bs) (statements_in_parts ls ps) k),
        source_parts ls ps (rest ls (stands_outside_in_branches v bs) (stands_outside_in_each v ps) h) (each_rest (IsSuitedStatement n) (statements_in_branches ls bs) (statements_in_parts ls ps) k),
      )
      source_part ls (Label j) h k = tt
      source_part ls (Jump j) h k = tt

      source_parts : (ls : List Loop) (ps : Parts) → Outside ls (stands_outside_in_each v ps) → Each (IsSuitedStatement n) (statements_in_parts ls ps) → AllLeaveAlone ps
      source_parts ls no_parts h k = tt
      source_parts ls (part p ps) h k = (
        source_part ls p (first ls (stands_outside v p) (stands_outside_in_each v ps) h) (each_front (IsSuitedStatement n) (statements_in ls p) (statements_in_parts ls ps) k),
        source_parts ls ps (rest ls (stands_outside v p) (stands_outside_in_each v ps) h) (each_rest (IsSuitedStatement n) (statements_in ls p) (statements_in_parts ls ps) k),
      )

      source_branches : (ls : List Loop) (bs : Branches) → Outside ls (stands_outside_in_branches v bs) → Each (IsSuitedStatement n) (statements_in_branches ls bs) → BranchesLeaveAlone bs
      source_branches ls no_branches h k = tt
      source_branches ls (branch test ps bs) h k = (
        source_parts ls ps
            (rest ls (stands_in v test) (stands_outside_in_each v ps) (first ls (stands_in v test || stands_outside_in_each v ps) (stands_outside_in_branches v bs) h))
            (each_front (IsSuitedStatement n) (statements_in_parts ls ps) (statements_in_branches ls bs) k),
        source_branches ls bs (rest ls (stands_in v test || stands_outside_in_each v ps) (stands_outside_in_branches v bs) h)
            (each_rest (IsSuitedStatement n) (statements_in_parts ls ps) (statements_in_branches ls bs) k),
      )

    source_leaves : IsBranchedSource n → ends_behind n v ≡ true → LeavesAlone n.body
    source_leaves source e =
        source_part [] n.body (λ free. inside_all n v e free) (each_of_all (IsSuitedStatement n) (statements_in [] n.body) source.statements)

    -- ---- with loops from 1 by 1

    with_values : (outer rs : List NormalLoop) (s : Guarded) → (statement_with_values n.symbols outer rs s).left.name ≡ s.left.name
    with_values outer [] s = refl
    with_values outer (r ∷ rs) s = with_values (outer ++ r ∷ []) rs (rewritten_statement (with_value n.symbols outer r) s)

    same_left : (round : List NormalLoop) (s : Guarded) → (normal_statement n.symbols round s).left.name ≡ s.left.name
    unfolding normal_statement
    same_left round s = with_values [] round s

    module _ (behind : stands_behind (length n.symbols) (loops_in n) n.body v ≡ true) where
      not_placed : (r : NormalLoop) → stands_behind (length n.symbols) (loops_in n) n.body r.variable ≡ false → ¬ (r.variable ≡ v)
      not_placed r e f = let no : true ≡ false = sym behind ∙ (ap (stands_behind (length n.symbols) (loops_in n) n.body) (sym f) ∙ e) in cc

      before : (round : List NormalLoop) (r : NormalLoop) → ¬ (r.variable ≡ v) → AllLeaveAlone (parts (parts_before n.symbols n.line round r))
      unfolding parts_before
      before round r other = by (is_positive r.trip)
        where
          by : (b : Bool) → AllLeaveAlone (parts (cond b [] (assigned_part n.line r.variable (first_text n.symbols round r) ∷ [])))
          by true = tt
          by false = (other, tt)

      after : (round : List NormalLoop) (r : NormalLoop) → ¬ (r.variable ≡ v) → AllLeaveAlone (parts (parts_behind n.symbols n.line round r))
      unfolding parts_behind
      after round r other = by (is_positive r.trip) (is_known r.trip)
        where
          by : (b c : Bool) → AllLeaveAlone (parts (cond b (end_part n.symbols n.line round r ∷ []) (cond c []
              (only_where_part (at_least_one (own_trip_text n.symbols round r)) (end_part n.symbols n.line round r ∷ []) ∷ []))))
          by true c = (other, tt)
          by false true = tt
          by false false = ((((other, tt), tt), tt), tt)

      placed_leaves : (round : List NormalLoop) (r : NormalLoop) (p : Part) → LeavesAlone p → AllLeaveAlone (parts (placed_loop n (loops_in n) round r p))
      placed_leaves round r p h = by (stands_behind (length n.symbols) (loops_in n) n.body r.variable) refl
        where
          by : (b : Bool) → stands_behind (length n.symbols) (loops_in n) n.body r.variable ≡ b
              → AllLeaveAlone (parts (cond b (p ∷ []) (parts_before n.symbols n.line round r ++ p ∷ parts_behind n.symbols n.line round r)))
          by true e = (h, tt)
          by false e =
              joined (parts_before n.symbols n.line round r) (p ∷ parts_behind n.symbols n.line round r) (before round r (not_placed r e))
              (h, after round r (not_placed r e))

      turns_leave : (round : List NormalLoop) (l : Loop) (o : Option NormalLoop) (ps : List Part) → AllLeaveAlone (parts ps)
          → AllLeaveAlone (parts (normal_turns n (loops_in n) round l o ps))
      turns_leave round l None ps h = (h, tt)
      turns_leave round l (Some r) ps h = placed_leaves round r (Turns (counting n.symbols round l r) (parts ps)) h

      mutual
        normal_leaves : (round : List NormalLoop) (p : Part) → LeavesAlone p → AllLeaveAlone (parts (normal_part n (loops_in n) round p))
        normal_leaves round (Run s) h = ((λ e. h (sym (same_left round s) ∙ e)), tt)
        normal_leaves round (Turns l ps) h =
            turns_leave round l (normal_loop n.symbols round l) (normal_parts n (loops_in n) (with_loop round (normal_loop n.symbols round l)) ps)
            (normal_all_leave (with_loop round (normal_loop n.symbols round l)) ps h)
        normal_leaves round (Choice bs ps) h = ((normal_branches_leave round bs h.0, normal_all_leave round ps h.1), tt)
        normal_leaves round (Label k) h = (tt, tt)
        normal_leaves round (Jump k) h = (tt, tt)

        normal_all_leave : (round : List NormalLoop) (ps : Parts) → AllLeaveAlone ps → AllLeaveAlone (parts (normal_parts n (loops_in n) round ps))
        normal_all_leave round no_parts h = tt
        normal_all_leave round (part p ps) h =
            joined (normal_part n (loops_in n) round p) (normal_parts n (loops_in n) round ps) (normal_leaves round p h.0) (normal_all_leave round ps h.1)

        normal_branches_leave : (round : List NormalLoop) (bs : Branches) → BranchesLeaveAlone bs → BranchesLeaveAlone (normal_branches n (loops_in n) round bs)
        normal_branches_leave round no_branches h = tt
        normal_branches_leave round (branch test ps bs) h = (normal_all_leave round ps h.0, normal_branches_leave round bs h.1)

    body_leaves : (m : Nest) (ps : List Part) → only_one ps ≡ Some m.body → AllLeaveAlone (parts ps) → LeavesAlone m.body
    body_leaves m [] e h = cc
    body_leaves m (p ∷ []) e h = let same : p ≡ m.body = cc in subst LeavesAlone same h.0
    body_leaves m (p ∷ q ∷ ps) e h = cc

-- in which no statement of the nest with loops from 1 by 1 gives a value to a variable that ends behind
pub left_alone : (n m : Nest) → IsBranchedSource n → normalised n ≡ Some m → (v : List ℕ) → ends_behind n v ≡ true
    → stands_behind (length n.symbols) (loops_in n) n.body v ≡ true → (x : Standing) → In x (nest_statements m) → ¬ (x.statement.left.name ≡ v)
left_alone n m source normal v ends behind =
    each_leaves v [] m.body
    (body_leaves v n m (normal_part n (loops_in n) [] n.body) (texts.made_of n m normal).body
    (normal_leaves v n behind [] n.body (source_leaves v n source ends)))
