-- A nest without its IFs, labels and jumps: what stands in an IF stands in its place, behind an assignment to a name of
-- its own from each condition. Its loops and the names that stand in it are those of the nest.
use mathlib.Core.Path.{ap₂}
use Rattle.std.proofs.Common.{◌≡◌, refl, sym, ap, subst, ◌∙◌, ℕ, ◌≤◌, Bool, true, false, cond}
use Rattle.std.proofs.Common.{◌&&◌, ◌||◌, not, is_some, List, [], ◌∷◌, ◌++◌, map, length, length-append, append_assoc}
use Rattle.std.proofs.Common.{append-nil, Option, None, arith}
use Rattle.std.specs.List.{All, list_all}
use Rattle.std.specs.Str.{bytes_eq}
use Rattle.std.proofs.lemmas.List.{map-append}
use Rattle.std.proofs.lemmas.List.Elements.{All-cons, All-nil}
use Rattle.meaning.specs.Reads.{names_in, names_in_subscripts}
use Rattle.rewrite.proofs.Replacing.{bytes_eq-false}
use Rattle.tree.specs.Plain.{Expression}
use Rattle.last_values.specs.Behind.{may_end_behind, stands_behind}
use Rattle.last_values.specs.Scalars.{scalar}
use Rattle.last_values.specs.Occurrences.{stands_in, stands_in_bounds, stands_outside}
use Rattle.last_values.specs.Occurrences.{stands_outside_in_branches, stands_outside_in_each}
use Rattle.last_values.specs.declared.behind.NestedLoop.{NestedLoop}
use Rattle.normal_loops.specs.Loops.{nested, nested_in_branches}
use Rattle.normal_loops.specs.Normal.{are_normal, are_normal_branches, is_normal}
use Rattle.normal_loops.specs.Loops.{nested_in_parts, nested_loops, with_loop}
use Rattle.nest_order.specs.orders.Lists.{Distinct, Each}
use Rattle.nest_order.specs.runs.Touched.{IsPlain}
use Rattle.nest_order.proofs.runs.Results.{true_false}
use Rattle.nest.specs.Bodies.{Standing, loops_in_branches, loops_in_parts, loops_of, nest_loops, nest_statements}
use Rattle.nest.specs.Bodies.{statements_in, statements_in_branches, statements_in_parts}
use Rattle.nest.specs.Plain.{Branches, no_branches, branch, Guarded, Loop, Nest, Part, Run, Turns, Choice, Label}
use Rattle.nest.specs.Plain.{Jump, Parts, no_parts, part}
use Rattle.last_values.specs.normal_forms.NormalLoops.{normal_loop}
use Rattle.last_values.specs.declared.normal_forms.loops.NormalLoop.{NormalLoop}
use Rattle.pass_laws.specs.normal_runs.Sources.{AreStraight, HasOwnVariable, IsNormalSource, IsStraight}
use Rattle.pass_laws.specs.normal_runs.Sources.{IsSuitedStatement, counters_in, ends_behind, loops_in, variables_in}
use Rattle.nest.specs.statement_loops.Names.{is_among}
use Rattle.pass_laws.proofs.LastRuns.Listed.{each_joined}
use Rattle.pass_laws.proofs.LastRuns.Made.{each_front, each_of_all, each_rest, names_of}
use Rattle.pass_laws.specs.branch_meaning.Sources.{IsBranchedSource, IsLoop, IsStraightStanding, IsSuitedTest, tests_in_branches}
use Rattle.pass_laws.specs.branch_meaning.Sources.{tests_in_parts, tests_of}

pub each_all : {X : Type 0} (P : X → Type 0) (xs : List X) → Each P xs → All P xs
each_all P [] h = All-nil P
each_all P (x ∷ xs) h = All-cons P x xs h.0 (each_all P xs h.1)

-- ---- a name other than these

abbrev other_name : List (List ℕ) → List ℕ
other_name [] = 0 ∷ []
other_name (x ∷ xs) = x ++ other_name xs

other_long : (xs : List (List ℕ)) → 1 ≤ length (other_name xs)
other_long [] = omega arith
other_long (x ∷ xs) = let e = length-append x (other_name xs) in let h = other_long xs in omega (arith, e, h)

other_behind : (xs : List (List ℕ)) (front : List ℕ) → is_among xs (front ++ other_name xs) ≡ false
other_behind [] front = refl
other_behind (x ∷ xs) front =
    ap₂ (λ a b. a || b)
    (bytes_eq-false x (front ++ (x ++ other_name xs)) (λ e. (
    let m : length x ≡ length (front ++ (x ++ other_name xs)) = ap length e in
    let k = length-append front (x ++ other_name xs) in
    let l = length-append x (other_name xs) in
    let h = other_long xs in
    absurd (omega (arith, m, k, l, h))
    )))
    (ap (is_among xs) (sym (append_assoc front x (other_name xs))) ∙ other_behind xs (front ++ x))

is_other : (xs : List (List ℕ)) → is_among xs (other_name xs) ≡ false
is_other xs = other_behind xs []

-- ---- names among two lists

among_joined : (xs ys : List (List ℕ)) (x : List ℕ) → is_among (xs ++ ys) x ≡ false → (is_among xs x ≡ false) × (is_among ys x ≡ false)
among_joined [] ys x h = (refl, h)
among_joined (y ∷ xs) ys x h = by (bytes_eq y x) (among_joined xs ys x) h
  where
    by : (b : Bool) → (is_among (xs ++ ys) x ≡ false → (is_among xs x ≡ false) × (is_among ys x ≡ false)) → (b || is_among (xs ++ ys) x) ≡ false
        → ((b || is_among xs x) ≡ false) × (is_among ys x ≡ false)
    by true more e = let no : ⊥ = cc in absurd no
    by false more e = more e

among_both : (xs ys : List (List ℕ)) (x : List ℕ) → is_among xs x ≡ false → is_among ys x ≡ false → is_among (xs ++ ys) x ≡ false
among_both [] ys x h k = k
among_both (y ∷ xs) ys x h k = by (bytes_eq y x) (among_both xs ys x) h
  where
    by : (b : Bool) → (is_among xs x ≡ false → is_among ys x ≡ false → is_among (xs ++ ys) x ≡ false) → (b || is_among xs x) ≡ false → (b || is_among (xs ++ ys) x) ≡ false
    by true more e = let no : ⊥ = cc in absurd no
    by false more e = more e k

-- ---- truths

or_grouped : (a b c : Bool) → ((a || b) || c) ≡ (a || (b || c))
or_grouped true b c = refl
or_grouped false b c = refl

and_grouped : (a b c : Bool) → ((a && b) && c) ≡ (a && (b && c))
and_grouped true b c = refl
and_grouped false b c = refl

and_one : (a : Bool) → (a && true) ≡ a
and_one true = refl
and_one false = refl

or_none : (a : Bool) → (a || false) ≡ a
or_none true = refl
or_none false = refl

-- ---- the parts, with those behind them

module _ (y : List ℕ) where
  -- stores in y what the condition gives
  abbrev asking : Expression → Guarded
  asking e = record { line = 0; guard = None; left = scalar y; right = e }

  abbrev mutual
    flat : Part → Parts → Parts
    flat (Run g) rest = part (Run g) rest
    flat (Turns l ps) rest = part (Turns l (flat_all ps no_parts)) rest
    flat (Choice bs ps) rest = flat_branches bs (flat_all ps rest)
    flat (Label k) rest = rest
    flat (Jump k) rest = rest

    flat_all : Parts → Parts → Parts
    flat_all no_parts rest = rest
    flat_all (part p ps) rest = flat p (flat_all ps rest)

    flat_branches : Branches → Parts → Parts
    flat_branches no_branches rest = rest
    flat_branches (branch test ps bs) rest = part (Run (asking test)) (flat_all ps (flat_branches bs rest))

  abbrev flat_body : Part → Part
  flat_body (Run g) = Run g
  flat_body (Turns l ps) = Turns l (flat_all ps no_parts)
  flat_body (Choice bs ps) = Choice bs ps
  flat_body (Label k) = Label k
  flat_body (Jump k) = Jump k

  -- ---- the same loops

  module _ (symbols : List (List ℕ)) where
    inner_nested : (round : List NormalLoop) (ps : Parts) (o : Option NormalLoop) → nested_in_parts symbols (with_loop round o) (flat_all ps no_parts) ≡ nested_in_parts symbols (with_loop round o) ps ++ []
        → nested round o ++ nested_in_parts symbols (with_loop round o) (flat_all ps no_parts) ≡ nested round o ++ nested_in_parts symbols (with_loop round o) ps
    inner_nested round ps o h = ap (λ ms. nested round o ++ ms) (h ∙ append-nil (nested_in_parts symbols (with_loop round o) ps))

    mutual
      flat_nested : (round : List NormalLoop) (p : Part) (rest : Parts) → nested_in_parts symbols round (flat p rest) ≡ nested_loops symbols round p ++ nested_in_parts symbols round rest
      flat_nested round (Run g) rest = refl
      flat_nested round (Turns l ps) rest = ap (λ ms. ms ++ nested_in_parts symbols round rest) (inner_nested round ps (normal_loop symbols round l) (flat_nested_all (with_loop round (normal_loop symbols round l)) ps no_parts))
      flat_nested round (Choice bs ps) rest =
          flat_nested_branches round bs (flat_all ps rest)
          ∙ (ap (λ ms. nested_in_branches symbols round bs ++ ms) (flat_nested_all round ps rest)
          ∙ sym (append_assoc (nested_in_branches symbols round bs) (nested_in_parts symbols round ps) (nested_in_parts symbols round rest)))
      flat_nested round (Label k) rest = refl
      flat_nested round (Jump k) rest = refl

      flat_nested_all : (round : List NormalLoop) (ps rest : Parts) → nested_in_parts symbols round (flat_all ps rest) ≡ nested_in_parts symbols round ps ++ nested_in_parts symbols round rest
      flat_nested_all round no_parts rest = refl
      flat_nested_all round (part p ps) rest =
          flat_nested round p (flat_all ps rest)
          ∙ (ap (λ ms. nested_loops symbols round p ++ ms) (flat_nested_all round ps rest)
          ∙ sym (append_assoc (nested_loops symbols round p) (nested_in_parts symbols round ps) (nested_in_parts symbols round rest)))

      flat_nested_branches : (round : List NormalLoop) (bs : Branches) (rest : Parts) → nested_in_parts symbols round (flat_branches bs rest) ≡ nested_in_branches symbols round bs ++ nested_in_parts symbols round rest
      flat_nested_branches round no_branches rest = refl
      flat_nested_branches round (branch test ps bs) rest =
          flat_nested_all round ps (flat_branches bs rest)
          ∙ (ap (λ ms. nested_in_parts symbols round ps ++ ms) (flat_nested_branches round bs rest)
          ∙ sym (append_assoc (nested_in_parts symbols round ps) (nested_in_branches symbols round bs) (nested_in_parts symbols round rest)))

    body_nested : (p : Part) → nested_loops symbols [] (flat_body p) ≡ nested_loops symbols [] p
    body_nested (Run g) = refl
    body_nested (Turns l ps) = inner_nested [] ps (normal_loop symbols [] l) (flat_nested_all (with_loop [] (normal_loop symbols [] l)) ps no_parts)
    body_nested (Choice bs ps) = refl
    body_nested (Label k) = refl
    body_nested (Jump k) = refl

    -- ---- they have their forms

    inner_normal : (round : List NormalLoop) (ps : Parts) (o : Option NormalLoop) → are_normal symbols (with_loop round o) (flat_all ps no_parts) ≡ (are_normal symbols (with_loop round o) ps && true)
        → (is_some o && are_normal symbols (with_loop round o) (flat_all ps no_parts)) ≡ (is_some o && are_normal symbols (with_loop round o) ps)
    inner_normal round ps o h = ap (λ b. is_some o && b) (h ∙ and_one (are_normal symbols (with_loop round o) ps))

    mutual
      flat_normal : (round : List NormalLoop) (p : Part) (rest : Parts) → are_normal symbols round (flat p rest) ≡ (is_normal symbols round p && are_normal symbols round rest)
      flat_normal round (Run g) rest = refl
      flat_normal round (Turns l ps) rest = ap (λ b. b && are_normal symbols round rest) (inner_normal round ps (normal_loop symbols round l) (flat_normal_all (with_loop round (normal_loop symbols round l)) ps no_parts))
      flat_normal round (Choice bs ps) rest =
          flat_normal_branches round bs (flat_all ps rest)
          ∙ (ap (λ b. are_normal_branches symbols round bs && b) (flat_normal_all round ps rest)
          ∙ sym (and_grouped (are_normal_branches symbols round bs) (are_normal symbols round ps) (are_normal symbols round rest)))
      flat_normal round (Label k) rest = refl
      flat_normal round (Jump k) rest = refl

      flat_normal_all : (round : List NormalLoop) (ps rest : Parts) → are_normal symbols round (flat_all ps rest) ≡ (are_normal symbols round ps && are_normal symbols round rest)
      flat_normal_all round no_parts rest = refl
      flat_normal_all round (part p ps) rest =
          flat_normal round p (flat_all ps rest)
          ∙ (ap (λ b. is_normal symbols round p && b) (flat_normal_all round ps rest)
          ∙ sym (and_grouped (is_normal symbols round p) (are_normal symbols round ps) (are_normal symbols round rest)))

      flat_normal_branches : (round : List NormalLoop) (bs : Branches) (rest : Parts) → are_normal symbols round (flat_branches bs rest) ≡ (are_normal_branches symbols round bs && are_normal symbols round rest)
      flat_normal_branches round no_branches rest = refl
      flat_normal_branches round (branch test ps bs) rest =
          flat_normal_all round ps (flat_branches bs rest)
          ∙ (ap (λ b. are_normal symbols round ps && b) (flat_normal_branches round bs rest)
          ∙ sym (and_grouped (are_normal symbols round ps) (are_normal_branches symbols round bs) (are_normal symbols round rest)))

    body_normal : (p : Part) → is_normal symbols [] (flat_body p) ≡ is_normal symbols [] p
    body_normal (Run g) = refl
    body_normal (Turns l ps) = inner_normal [] ps (normal_loop symbols [] l) (flat_normal_all (with_loop [] (normal_loop symbols [] l)) ps no_parts)
    body_normal (Choice bs ps) = refl
    body_normal (Label k) = refl
    body_normal (Jump k) = refl

  -- ---- names stand in it where they stand in the nest

  module _ (x : List ℕ) (other : bytes_eq y x ≡ false) where
    inner_outside : (l : Loop) (ps : Parts) → stands_outside_in_each x (flat_all ps no_parts) ≡ (stands_outside_in_each x ps || false) → stands_outside x (Turns l (flat_all ps no_parts)) ≡ stands_outside x (Turns l ps)
    inner_outside l ps h = ap (λ b. stands_in_bounds x l || cond (bytes_eq l.variable x) false b) (h ∙ or_none (stands_outside_in_each x ps))

    mutual
      flat_outside : (p : Part) (rest : Parts) → stands_outside_in_each x (flat p rest) ≡ (stands_outside x p || stands_outside_in_each x rest)
      flat_outside (Run g) rest = refl
      flat_outside (Turns l ps) rest = ap (λ b. b || stands_outside_in_each x rest) (inner_outside l ps (flat_outside_all ps no_parts))
      flat_outside (Choice bs ps) rest =
          flat_outside_branches bs (flat_all ps rest)
          ∙ (ap (λ b. stands_outside_in_branches x bs || b) (flat_outside_all ps rest)
          ∙ sym (or_grouped (stands_outside_in_branches x bs) (stands_outside_in_each x ps) (stands_outside_in_each x rest)))
      flat_outside (Label k) rest = refl
      flat_outside (Jump k) rest = refl

      flat_outside_all : (ps rest : Parts) → stands_outside_in_each x (flat_all ps rest) ≡ (stands_outside_in_each x ps || stands_outside_in_each x rest)
      flat_outside_all no_parts rest = refl
      flat_outside_all (part p ps) rest =
          flat_outside p (flat_all ps rest)
          ∙ (ap (λ b. stands_outside x p || b) (flat_outside_all ps rest)
          ∙ sym (or_grouped (stands_outside x p) (stands_outside_in_each x ps) (stands_outside_in_each x rest)))

      flat_outside_branches : (bs : Branches) (rest : Parts) → stands_outside_in_each x (flat_branches bs rest) ≡ (stands_outside_in_branches x bs || stands_outside_in_each x rest)
      flat_outside_branches no_branches rest = refl
      flat_outside_branches (branch test ps bs) rest =
          ap (λ b. ((b || false) || stands_in x test) || stands_outside_in_each x (flat_all ps (flat_branches bs rest))) other
          ∙ (ap (λ b. stands_in x test || b)
          (flat_outside_all ps (flat_branches bs rest) ∙ ap (λ b. stands_outside_in_each x ps || b) (flat_outside_branches bs rest))
          ∙ (sym (or_grouped (stands_in x test) (stands_outside_in_each x ps) (stands_outside_in_branches x bs || stands_outside_in_each x rest))
          ∙ sym (or_grouped (stands_in x test || stands_outside_in_each x ps) (stands_outside_in_branches x bs) (stands_outside_in_each x rest))))

    body_outside : (p : Part) → stands_outside x (flat_body p) ≡ stands_outside x p
    body_outside (Run g) = refl
    body_outside (Turns l ps) = inner_outside l ps (flat_outside_all ps no_parts)
    body_outside (Choice bs ps) = refl
    body_outside (Label k) = refl
    body_outside (Jump k) = refl

  -- ---- loops and assignments alone

  mutual
    flat_straight : (ls : List Loop) (p : Part) (rest : Parts) → Each IsStraightStanding (statements_in ls p) → Each IsPlain (tests_of p) → AreStraight rest → AreStraight (flat p rest)
    flat_straight ls (Run g) rest h k r = (h.0, r)
    flat_straight ls (Turns l ps) rest h k r = (flat_straight_all (ls ++ l ∷ []) ps no_parts h k tt, r)
    flat_straight ls (Choice bs ps) rest h k r =
        flat_straight_branches ls bs (flat_all ps rest)
        (each_front IsStraightStanding (statements_in_branches ls bs) (statements_in_parts ls ps) h) (each_front IsPlain (tests_in_branches bs) (tests_in_parts ps) k)
        (flat_straight_all ls ps rest (each_rest IsStraightStanding (statements_in_branches ls bs) (statements_in_parts ls ps) h) (each_rest IsPlain (tests_in_branches bs) (tests_in_parts ps) k) r)
    flat_straight ls (Label k) rest h t r = r
    flat_straight ls (Jump k) rest h t r = r

    flat_straight_all : (ls : List Loop) (ps rest : Parts) → Each IsStraightStanding (statements_in_parts ls ps) → Each IsPlain (tests_in_parts ps) → AreStraight rest → AreStraight (flat_all ps rest)
    flat_straight_all ls no_parts rest h k r = r
    flat_straight_all ls (part p ps) rest h k r =
        flat_straight ls p (flat_all ps rest)
        (each_front IsStraightStanding (statements_in ls p) (statements_in_parts ls ps) h) (each_front IsPlain (tests_of p) (tests_in_parts ps) k)
        (flat_straight_all ls ps rest (each_rest IsStraightStanding (statements_in ls p) (statements_in_parts ls ps) h) (each_rest IsPlain (tests_of p) (tests_in_parts ps) k) r)

    flat_straight_branches : (ls : List Loop) (bs : Branches) (rest : Parts) → Each IsStraightStanding (statements_in_branches ls bs) → Each IsPlain (tests_in_branches bs) → AreStraight rest → AreStraight (flat_branches bs rest)
    flat_straight_branches ls no_branches rest h k r = r
    flat_straight_branches ls (branch test ps bs) rest h k r =
        let front = each_front IsPlain (test ∷ tests_in_parts ps) (tests_in_branches bs) k in (
          record { unguarded = refl; left = tt; right = front.0 },
          flat_straight_all ls ps (flat_branches bs rest) (each_front IsStraightStanding (statements_in_parts ls ps) (statements_in_branches ls bs) h) front.1
              (flat_straight_branches ls bs rest (each_rest IsStraightStanding (statements_in_parts ls ps) (statements_in_branches ls bs) h) (each_rest IsPlain (test ∷ tests_in_parts ps) (tests_in_branches bs) k) r),
        )

  body_straight : (p : Part) → IsLoop p → Each IsStraightStanding (statements_in [] p) → Each IsPlain (tests_of p) → IsStraight (flat_body p)
  body_straight (Run g) loop h k = absurd loop
  body_straight (Turns l ps) loop h k = flat_straight_all (l ∷ []) ps no_parts h k tt
  body_straight (Choice bs ps) loop h k = absurd loop
  body_straight (Label k) loop h t = absurd loop
  body_straight (Jump k) loop h t = absurd loop

  -- ---- what holds of each statement, and of those that ask for the conditions

  module _ (Q : Standing → Type 0) (T : Expression → Type 0)
      (asked : (ls : List Loop) (e : Expression) → is_among (names_of ls) y ≡ false → T e → Q (record { loops = ls; statement = asking e })) where
    abbrev Free : List Loop → Type 0
    Free ls = is_among (names_of ls) y ≡ false

    free_front : (ls ms : List Loop) → Free (ls ++ ms) → Free ls
    free_front ls ms h = (among_joined (names_of ls) (names_of ms) y (ap (λ xs. is_among xs y) (sym (map-append (λ (l : Loop). l.variable) ls ms)) ∙ h)).0

    free_rest : (ls ms : List Loop) → Free (ls ++ ms) → Free ms
    free_rest ls ms h = (among_joined (names_of ls) (names_of ms) y (ap (λ xs. is_among xs y) (sym (map-append (λ (l : Loop). l.variable) ls ms)) ∙ h)).1

    free_more : (ls : List Loop) (l : Loop) (ms : List Loop) → Free ls → Free (l ∷ ms) → Free (ls ++ l ∷ [])
    free_more ls l ms h k =
        ap (λ xs. is_among xs y) (map-append (λ (l : Loop). l.variable) ls (l ∷ []))
        ∙ among_both (names_of ls) (l.variable ∷ []) y h (among_joined (l.variable ∷ []) (names_of ms) y k).0

    mutual
      flat_each : (ls : List Loop) (p : Part) (rest : Parts) → Free ls → Free (loops_of p) → Each Q (statements_in ls p) → Each T (tests_of p) → Each Q (statements_in_parts ls rest) → Each Q (statements_in_parts ls (flat p rest))
      flat_each ls (Run g) rest f m h k r = (h.0, r)
      flat_each ls (Turns l ps) rest f m h k r =
          each_joined Q (statements_in_parts (ls ++ l ∷ []) (flat_all ps no_parts)) (statements_in_parts ls rest)
          (flat_each_all (ls ++ l ∷ []) ps no_parts (free_more ls l (loops_in_parts ps) f m) (free_rest (l ∷ []) (loops_in_parts ps) m) h k tt) r
      flat_each ls (Choice bs ps) rest f m h k r =
          flat_each_branches ls bs (flat_all ps rest) f (free_front (loops_in_branches bs) (loops_in_parts ps) m)
          (each_front Q (statements_in_branches ls bs) (statements_in_parts ls ps) h) (each_front T (tests_in_branches bs) (tests_in_parts ps) k)
          (flat_each_all ls ps rest f (free_rest (loops_in_branches bs) (loops_in_parts ps) m)
          (each_rest Q (statements_in_branches ls bs) (statements_in_parts ls ps) h) (each_rest T (tests_in_branches bs) (tests_in_parts ps) k) r)
      flat_each ls (Label k) rest f m h t r = r
      flat_each ls (Jump k) rest f m h t r = r

      flat_each_all : (ls : List Loop) (ps rest : Parts) → Free ls → Free (loops_in_parts ps) → Each Q (statements_in_parts ls ps) → Each T (tests_in_parts ps) → Each Q (statements_in_parts ls rest)
          → Each Q (statements_in_parts ls (flat_all ps rest))
      flat_each_all ls no_parts rest f m h k r = r
      flat_each_all ls (part p ps) rest f m h k r =
          flat_each ls p (flat_all ps rest) f (free_front (loops_of p) (loops_in_parts ps) m)
          (each_front Q (statements_in ls p) (statements_in_parts ls ps) h) (each_front T (tests_of p) (tests_in_parts ps) k)
          (flat_each_all ls ps rest f (free_rest (loops_of p) (loops_in_parts ps) m)
          (each_rest Q (statements_in ls p) (statements_in_parts ls ps) h) (each_rest T (tests_of p) (tests_in_parts ps) k) r)

      flat_each_branches : (ls : List Loop) (bs : Branches) (rest : Parts) → Free ls → Free (loops_in_branches bs) → Each Q (statements_in_branches ls bs) → Each T (tests_in_branches bs) → Each Q (statements_in_parts ls rest)
          → Each Q (statements_in_parts ls (flat_branches bs rest))
      flat_each_branches ls no_branches rest f m h k r = r
      flat_each_branches ls (branch test ps bs) rest f m h k r =
          let front = each_front T (test ∷ tests_in_parts ps) (tests_in_branches bs) k in (
            asked ls test f front.0,
            flat_each_all ls ps (flat_branches bs rest) f (free_front (loops_in_parts ps) (loops_in_branches bs) m)
                (each_front Q (statements_in_parts ls ps) (statements_in_branches ls bs) h) front.1
                (flat_each_branches ls bs rest f (free_rest (loops_in_parts ps) (loops_in_branches bs) m)
                (each_rest Q (statements_in_parts ls ps) (statements_in_branches ls bs) h) (each_rest T (test ∷ tests_in_parts ps) (tests_in_branches bs) k) r),
          )

    body_each : (p : Part) → Free (loops_of p) → Each Q (statements_in [] p) → Each T (tests_of p) → Each Q (statements_in [] (flat_body p))
    body_each (Run g) m h k = h
    body_each (Turns l ps) m h k = flat_each_all (l ∷ []) ps no_parts (free_more [] l (loops_in_parts ps) refl m) (free_rest (l ∷ []) (loops_in_parts ps) m) h k tt
    body_each (Choice bs ps) m h k = h
    body_each (Label k) m h t = h
    body_each (Jump k) m h t = h

-- ---- a nest

module _ (n : Nest) where
  abbrev taken : List (List ℕ)
  taken = counters_in n ++ (variables_in n ++ (n.symbols ++ names_of (nest_loops n)))

  -- a name that is no counter, no variable of a loop and no symbol
  abbrev free_name : List ℕ
  free_name = other_name (counters_in n ++ (variables_in n ++ (n.symbols ++ names_of (nest_loops n))))

  abbrev pub flat_nest : Nest
  flat_nest = record n { body = flat_body (other_name (counters_in n ++ (variables_in n ++ (n.symbols ++ names_of (nest_loops n))))) n.body }

  record IsFree : Type 0 where
    counter : is_among (counters_in n) free_name ≡ false
    variable : is_among (variables_in n) free_name ≡ false
    symbol : is_among n.symbols free_name ≡ false
    loop : is_among (names_of (nest_loops n)) free_name ≡ false

  is_free : IsFree
  is_free =
      let a = among_joined (counters_in n) (variables_in n ++ (n.symbols ++ names_of (nest_loops n))) free_name (is_other taken) in
      let b = among_joined (variables_in n) (n.symbols ++ names_of (nest_loops n)) free_name a.1 in
      let c = among_joined n.symbols (names_of (nest_loops n)) free_name b.1 in
      record { counter = a.0; variable = b.0; symbol = c.0; loop = c.1 }

  pub same_loops : loops_in flat_nest ≡ loops_in n
  same_loops = body_nested free_name n.symbols n.body

  pub same_counters : counters_in flat_nest ≡ counters_in n
  same_counters = ap (λ ms. map (λ (l : NestedLoop). l.turns.counter) ms) same_loops

  pub same_variables : variables_in flat_nest ≡ variables_in n
  same_variables = ap (λ ms. map (λ (l : NestedLoop). l.turns.variable) ms) same_loops

  variable_is_other : (x : List ℕ) → is_among (variables_in n) x ≡ true → bytes_eq free_name x ≡ false
  variable_is_other x h = bytes_eq-false free_name x (λ e. true_false (sym h ∙ (ap (is_among (variables_in n)) (sym e) ∙ is_free.variable)))

  pub same_outside : (x : List ℕ) → is_among (variables_in n) x ≡ true → stands_outside x flat_nest.body ≡ stands_outside x n.body
  same_outside x h = body_outside free_name x (variable_is_other x h) n.body

  pub same_behind : (x : List ℕ) → is_among (variables_in n) x ≡ true
      → stands_behind (length n.symbols) (loops_in flat_nest) flat_nest.body x ≡ stands_behind (length n.symbols) (loops_in n) n.body x
  unfolding stands_behind
  same_behind x h = ap₂ (λ b ms. not b && list_all (may_end_behind (length n.symbols) x) ms) (same_outside x h) same_loops

  pub same_ends : (x : List ℕ) → ends_behind flat_nest x ≡ ends_behind n x
  same_ends x = by (is_among (variables_in n) x) refl
    where
      by : (b : Bool) → is_among (variables_in n) x ≡ b → ends_behind flat_nest x ≡ ends_behind n x
      by true e = ap₂ (λ a c. a && c) (ap (λ ys. is_among ys x) same_variables) (same_behind x e)
      by false e =
          ap (λ a. a && stands_behind (length n.symbols) (loops_in flat_nest) flat_nest.body x) (ap (λ ys. is_among ys x) same_variables ∙ e)
          ∙ sym (ap (λ a. a && stands_behind (length n.symbols) (loops_in n) n.body x) e)

  -- ---- it is straight, and has the same normal form

  pub suited_too : (s : Standing) → IsSuitedStatement n s → IsSuitedStatement flat_nest s
  suited_too s h = record {
    counters = subst (λ ys. All (λ x. is_among ys x ≡ false) (s.statement.left.name ∷ names_in_subscripts s.statement.left.subscripts ++ names_in s.statement.right)) (sym same_counters) h.counters;
    variables = h.variables;
    symbols = h.symbols;
  }

  asking_suits : (ls : List Loop) (e : Expression) → is_among (names_of ls) free_name ≡ false → IsSuitedTest n e → IsSuitedStatement n (record { loops = ls; statement = asking free_name e })
  asking_suits ls e f h = record {
    counters = All-cons (λ x. is_among (counters_in n) x ≡ false) free_name (names_in e) is_free.counter h.counters;
    variables = f;
    symbols = is_free.symbol;
  }

  plain_tests : (es : List Expression) → Each (IsSuitedTest n) es → Each IsPlain es
  plain_tests [] h = tt
  plain_tests (e ∷ es) h = (h.0.plain, plain_tests es h.1)

  each_too : (ss : List Standing) → Each (IsSuitedStatement n) ss → Each (IsSuitedStatement flat_nest) ss
  each_too [] h = tt
  each_too (s ∷ ss) h = (suited_too s h.0, each_too ss h.1)

  pub flat_source : IsBranchedSource n → IsNormalSource flat_nest
  flat_source source =
      let tests = each_of_all (IsSuitedTest n) (tests_of n.body) source.tests in
      record {
        normal = body_normal free_name n.symbols n.body ∙ source.normal;
        straight = body_straight free_name n.body source.loop (each_of_all IsStraightStanding (nest_statements n) source.straight) (plain_tests (tests_of n.body) tests);
        statements = each_all (IsSuitedStatement flat_nest) (nest_statements flat_nest) (each_too (nest_statements flat_nest)
            (body_each free_name (IsSuitedStatement n) (IsSuitedTest n) asking_suits n.body is_free.loop (each_of_all (IsSuitedStatement n) (nest_statements n) source.statements) tests));
        own = subst (λ ms. All HasOwnVariable ms) (sym same_loops) source.own;
        once = subst (λ ys. Distinct ys) (sym same_counters) source.once;
        counters = subst (λ ms. All (λ x. is_among (map (λ (l : NestedLoop). l.turns.variable) ms) x ≡ false) (map (λ (l : NestedLoop). l.turns.counter) ms)) (sym same_loops) source.counters;
        apart = subst (λ ms. All (λ x. is_among n.symbols x ≡ false) (map (λ (l : NestedLoop). l.turns.variable) ms ++ map (λ (l : NestedLoop). l.turns.counter) ms)) (sym same_loops) source.apart;
      }
