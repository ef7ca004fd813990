-- Names that are apart within the loops of a nest, and what is known of a part of it.
use Rattle.std.proofs.Common.{◌≡◌, refl, sym, ap, ◌∙◌, subst, ◌⊎◌, inl, inr, ℕ, suc, Bool, true, false, ◌||◌, List, []}
use Rattle.std.proofs.Common.{◌∷◌, ◌++◌, map, length, length-append, Some, Contains, append_assoc, append-nil, arith}
use Rattle.std.proofs.lemmas.Bool.{or_parts, or_from}
use Rattle.std.proofs.lemmas.List.{map-append}
use Rattle.std.proofs.lemmas.List.Elements.{All-contains, Contains-append_left, Contains-append_right}
use Rattle.std.proofs.lemmas.List.Elements.{Contains-append_cases}
use Rattle.std.proofs.Math.Numerals.{add-one}
use Rattle.meaning_laws.proofs.arrays.Members.{here, there, nowhere, cases_of, each_member, in_map}
use Rattle.components.proofs.ListLaws.{Each-append}
use Rattle.last_values.specs.Behind.{stands_behind}
use Rattle.last_values.specs.declared.behind.NestedLoop.{NestedLoop}
use Rattle.linear_forms.proofs.Sizes.{both}
use Rattle.nest_order.specs.orders.Lists.{Distinct, In}
use Rattle.nest_order.proofs.orders.Lists.{Pairwise-append, In-left}
use Rattle.nest_order.proofs.orders.Once.{Pairwise-left, Pairwise-right, Pairwise-across}
use Rattle.nest_order.proofs.runs.Results.{true_false}
use Rattle.nest.specs.Bodies.{Standing}
use Rattle.nest.specs.Plain.{Loop, Nest}
use Rattle.last_values.specs.normal_forms.NormalLoops.{counters_of, normal_loop, variables_of}
use Rattle.last_values.specs.declared.normal_forms.loops.NormalLoop.{NormalLoop}
use Rattle.pass_laws.specs.normal_values.Beside.{AreApart, AreNormalLoops}
use Rattle.pass_laws.proofs.ReadyNests.LoopForms.{HaveZeros, HaveZeros-later, normal_loop_is}
use Rattle.pass_laws.proofs.ReadyNests.Sums.{Zero}
use Rattle.nest.specs.statement_loops.Names.{is_among}
use Rattle.pass_laws.specs.normal_runs.Sources.{IsNormalSource, IsSuitedStatement, HasOwnVariable, apart_within, counters_in}
use Rattle.pass_laws.specs.normal_runs.Sources.{ends_behind, loops_in, variables_in}
use Rattle.pass_laws.proofs.NormalRuns.Held.{among, among_is, not_among, none_among}

-- ---- lists

In-Contains : {X : Type 0} (x : X) (xs : List X) → In x xs → Contains xs x
In-Contains x [] i = absurd i
In-Contains x (y ∷ ys) (inl e) = subst (Contains (y ∷ ys)) (sym e) (here y ys)
In-Contains x (y ∷ ys) (inr i) = there y ys x (In-Contains x ys i)

Contains-In : {X : Type 0} (x : X) (xs : List X) → Contains xs x → In x xs
Contains-In x [] c = absurd (nowhere x c)
Contains-In {X} x (y ∷ ys) c = by (cases_of y ys x c) (Contains-In x ys)
  where
    by : (y ≡ x) ⊎ Contains ys x → (Contains ys x → In x ys) → (x ≡ y) ⊎ In x ys
    by (inl e) more = inl (sym e)
    by (inr d) more = inr (more d)

pub last_cases : (xs : List (List ℕ)) (y x : List ℕ) → Contains (xs ++ y ∷ []) x → Contains xs x ⊎ (y ≡ x)
last_cases xs y x c = by (Contains-append_cases xs (y ∷ []) x c)
  where
    one : (y ≡ x) ⊎ Contains [] x → y ≡ x
    one (inl e) = e
    one (inr d) = absurd (nowhere x d)

    by : Contains xs x ⊎ Contains (y ∷ []) x → Contains xs x ⊎ (y ≡ x)
    by (inl d) = inl d
    by (inr d) = inr (one (cases_of y [] x d))

pub variables_last : (round : List NormalLoop) (r : NormalLoop) → variables_of (round ++ r ∷ []) ≡ variables_of round ++ r.variable ∷ []
variables_last round r = map-append (λ (q : NormalLoop). q.variable) round (r ∷ [])

pub counters_last : (round : List NormalLoop) (r : NormalLoop) → counters_of (round ++ r ∷ []) ≡ counters_of round ++ r.counter ∷ []
counters_last round r = map-append (λ (q : NormalLoop). q.counter) round (r ∷ [])

-- ---- names

module _ (n : Nest) where
  pub record NotApart (round : List NormalLoop) (x : List ℕ) : Type 0 where
    pub counter : Contains (counters_in n) x → ⊥
    pub behind : ends_behind n x ≡ false
    pub variable : Contains (variables_of round) x → ⊥

  pub not_apart : (round : List NormalLoop) (x : List ℕ) → apart_within n round x ≡ false → NotApart round x
  not_apart round x h =
      let p = or_parts (is_among (counters_in n) x) (ends_behind n x || is_among (variables_of round) x) h in
      let q = or_parts (ends_behind n x) (is_among (variables_of round) x) p.1 in
      record { counter = not_among (counters_in n) x p.0; behind = q.0; variable = not_among (variables_of round) x q.1 }

  pub is_common : (round : List NormalLoop) (x : List ℕ) → NotApart round x → apart_within n round x ≡ false
  is_common round x h =
      or_from (is_among (counters_in n) x) (ends_behind n x || is_among (variables_of round) x) (none_among (counters_in n) x h.counter)
      (or_from (ends_behind n x) (is_among (variables_of round) x) h.behind (none_among (variables_of round) x h.variable))

  either_true : (a b : Bool) → (a || b) ≡ true → (a ≡ true) ⊎ (b ≡ true)
  either_true true b h = inl refl
  either_true false b h = inr h

  second_true : (a b : Bool) → b ≡ true → (a || b) ≡ true
  second_true true b h = refl
  second_true false b h = h

  pub apart_cases : (round : List NormalLoop) (x : List ℕ) → apart_within n round x ≡ true → Contains (counters_in n) x ⊎ ((ends_behind n x ≡ true) ⊎ Contains (variables_of round) x)
  apart_cases round x h = by (either_true (is_among (counters_in n) x) (ends_behind n x || is_among (variables_of round) x) h)
    where
      more : (ends_behind n x ≡ true) ⊎ (is_among (variables_of round) x ≡ true) → Contains (counters_in n) x ⊎ ((ends_behind n x ≡ true) ⊎ Contains (variables_of round) x)
      more (inl e) = inr (inl e)
      more (inr e) = inr (inr (among_is (variables_of round) x e))

      by : (is_among (counters_in n) x ≡ true) ⊎ ((ends_behind n x || is_among (variables_of round) x) ≡ true) → Contains (counters_in n) x ⊎ ((ends_behind n x ≡ true) ⊎ Contains (variables_of round) x)
      by (inl e) = inl (among_is (counters_in n) x e)
      by (inr e) = more (either_true (ends_behind n x) (is_among (variables_of round) x) e)

  pub counter_apart : (round : List NormalLoop) (x : List ℕ) → Contains (counters_in n) x → apart_within n round x ≡ true
  counter_apart round x c = ap (λ b. b || (ends_behind n x || is_among (variables_of round) x)) (among (counters_in n) x c)

  pub variable_apart : (round : List NormalLoop) (x : List ℕ) → Contains (variables_of round) x → apart_within n round x ≡ true
  variable_apart round x c =
      second_true (is_among (counters_in n) x) (ends_behind n x || is_among (variables_of round) x)
      (second_true (ends_behind n x) (is_among (variables_of round) x) (among (variables_of round) x c))

  pub behind_apart : (round : List NormalLoop) (x : List ℕ) → ends_behind n x ≡ true → apart_within n round x ≡ true
  behind_apart round x e =
      second_true (is_among (counters_in n) x) (ends_behind n x || is_among (variables_of round) x) (ap (λ b. b || is_among (variables_of round) x) e)

  pub behind_variable : (x : List ℕ) → ends_behind n x ≡ true → Contains (variables_in n) x
  behind_variable x e = among_is (variables_in n) x (both (is_among (variables_in n) x) (stands_behind (length n.symbols) (loops_in n) n.body x) e).0

  pub not_behind : (x : List ℕ) → (Contains (variables_in n) x → ⊥) → ends_behind n x ≡ false
  not_behind x h = by (ends_behind n x) refl
    where
      by : (b : Bool) → ends_behind n x ≡ b → b ≡ false
      by true e = absurd (h (behind_variable x e))
      by false e = refl

  -- where one loop more is round it
  pub apart_more : (round : List NormalLoop) (r : NormalLoop) (x : List ℕ) → apart_within n (round ++ r ∷ []) x ≡ false → apart_within n round x ≡ false
  apart_more round r x h =
      let p = not_apart (round ++ r ∷ []) x h in
      is_common round x (record { counter = p.counter; behind = p.behind; variable = λ c. p.variable (subst (λ ys. Contains ys x) (sym (variables_last round r)) (Contains-append_left (variables_of round) (r.variable ∷ []) x c)) })

  -- it alone
  pub apart_there : (round : List NormalLoop) (r : NormalLoop) (x : List ℕ) → apart_within n round x ≡ false → apart_within n (round ++ r ∷ []) x ≡ true → r.variable ≡ x
  apart_there round r x h k =
      let p = not_apart round x h in
      let last : Contains (variables_of round) x ⊎ (r.variable ≡ x) → r.variable ≡ x = λ o. elim o [ inl c ↦ absurd (p.variable c) | inr e ↦ e ] in
      let more : (ends_behind n x ≡ true) ⊎ Contains (variables_of (round ++ r ∷ [])) x → r.variable ≡ x
      = λ o. elim o [ inl e ↦ absurd (true_false (sym e ∙ p.behind)) | inr c ↦ last (last_cases (variables_of round) r.variable x (subst (λ ys. Contains ys x) (variables_last round r) c)) ] in
      elim (apart_cases (round ++ r ∷ []) x k) [ inl c ↦ absurd (p.counter c) | inr o ↦ more o ]

  module _ (source : IsNormalSource n) where
    pub no_variable : (x : List ℕ) → Contains (counters_in n) x → Contains (variables_in n) x → ⊥
    no_variable x c = not_among (variables_in n) x (All-contains (λ x. is_among (variables_in n) x ≡ false) (counters_in n) x source.counters c)

    pub variable_no_symbol : (x : List ℕ) → Contains (variables_in n) x → Contains n.symbols x → ⊥
    variable_no_symbol x c =
        not_among n.symbols x (All-contains (λ x. is_among n.symbols x ≡ false) (variables_in n ++ counters_in n) x source.apart (Contains-append_left (variables_in n) (counters_in n) x c))

    pub counter_no_symbol : (x : List ℕ) → Contains (counters_in n) x → Contains n.symbols x → ⊥
    counter_no_symbol x c =
        not_among n.symbols x (All-contains (λ x. is_among n.symbols x ≡ false) (variables_in n ++ counters_in n) x source.apart (Contains-append_right (variables_in n) (counters_in n) x c))

    -- what is known of statements and loops under these loops
    pub record Around (round : List NormalLoop) (ss : List Standing) (ls : List NestedLoop) : Type 0 where
      pub loops : AreNormalLoops n.symbols [] round
      pub zeros : HaveZeros (length round) round
      pub within : (x : List ℕ) → Contains (variables_of round) x → Contains (variables_in n) x
      pub counters : (x : List ℕ) → Contains (counters_of round) x → Contains (counters_in n) x
      pub variables : Distinct (variables_of round)
      pub suited : (s : Standing) → Contains ss s → IsSuitedStatement n s
      pub nested : (l : NestedLoop) → Contains ls l → Contains (loops_in n) l
      pub once : Distinct (counters_of round ++ map (λ (l : NestedLoop). l.turns.counter) ls)

    pub are_apart : (round : List NormalLoop) (ss : List Standing) (ls : List NestedLoop) → Around round ss ls → AreApart n.symbols (apart_within n round) round
    are_apart round ss ls a = record {
      loops = a.loops;
      variables = each_member (λ x. apart_within n round x ≡ true) (variables_of round) (λ x c. variable_apart round x c);
      counters = each_member (λ x. apart_within n round x ≡ true) (counters_of round) (λ x c. counter_apart round x (a.counters x c));
      common = each_member (λ x. apart_within n round x ≡ false) n.symbols (λ x c. is_common round x (record {
        counter = λ k. counter_no_symbol x k c;
        behind = not_behind x (λ k. variable_no_symbol x k c);
        variable = λ k. variable_no_symbol x (a.within x k) c;
      }));
      once = Pairwise-append (λ x y. ¬ (x ≡ y)) (variables_of round) (counters_of round) a.variables
          (Pairwise-left (λ x y. ¬ (x ≡ y)) (counters_of round) (map (λ (l : NestedLoop). l.turns.counter) ls) a.once)
          (λ x y i j e. no_variable y (a.counters y (In-Contains y (counters_of round) j)) (subst (Contains (variables_in n)) e (a.within x (In-Contains x (variables_of round) i))));
    }

    -- ---- a part of it

    pub around_some : (round : List NormalLoop) (ss ts : List Standing) (ls ms : List NestedLoop) → ((s : Standing) → Contains ts s → Contains ss s) → ((l : NestedLoop) → Contains ms l → Contains ls l)
        → Distinct (counters_of round ++ map (λ (l : NestedLoop). l.turns.counter) ms) → Around round ss ls → Around round ts ms
    around_some round ss ts ls ms statements nested once a = record {
      loops = a.loops;
      zeros = a.zeros;
      within = a.within;
      counters = a.counters;
      variables = a.variables;
      suited = λ s c. a.suited s (statements s c);
      nested = λ l c. a.nested l (nested l c);
      once = once;
    }

    joined : (round : List NormalLoop) (ls ms : List NestedLoop) → Distinct (counters_of round ++ map (λ (l : NestedLoop). l.turns.counter) (ls ++ ms))
        → Distinct ((counters_of round ++ map (λ (l : NestedLoop). l.turns.counter) ls) ++ map (λ (l : NestedLoop). l.turns.counter) ms)
    joined round ls ms d =
        subst (λ xs. Distinct xs)
        (ap (λ xs. counters_of round ++ xs) (map-append (λ (l : NestedLoop). l.turns.counter) ls ms)
        ∙ sym (append_assoc (counters_of round) (map (λ (l : NestedLoop). l.turns.counter) ls) (map (λ (l : NestedLoop). l.turns.counter) ms))) d

    pub around_first : (round : List NormalLoop) (ss ts : List Standing) (ls ms : List NestedLoop) → Around round (ss ++ ts) (ls ++ ms) → Around round ss ls
    around_first round ss ts ls ms a =
        around_some round (ss ++ ts) ss (ls ++ ms) ls (λ s c. Contains-append_left ss ts s c) (λ l c. Contains-append_left ls ms l c)
        (Pairwise-left (λ x y. ¬ (x ≡ y)) (counters_of round ++ map (λ (l : NestedLoop). l.turns.counter) ls) (map (λ (l : NestedLoop). l.turns.counter) ms) (joined round ls ms a.once)) a

    pub around_rest : (round : List NormalLoop) (ss ts : List Standing) (ls ms : List NestedLoop) → Around round (ss ++ ts) (ls ++ ms) → Around round ts ms
    around_rest round ss ts ls ms a =
        let xs : List (List ℕ) = counters_of round in
        let ys : List (List ℕ) = map (λ (l : NestedLoop). l.turns.counter) ls in
        let zs : List (List ℕ) = map (λ (l : NestedLoop). l.turns.counter) ms in
        let all = joined round ls ms a.once in
        around_some round (ss ++ ts) ts (ls ++ ms) ms (λ s c. Contains-append_right ss ts s c) (λ l c. Contains-append_right ls ms l c)
        (Pairwise-append (λ x y. ¬ (x ≡ y)) xs zs
        (Pairwise-left (λ x y. ¬ (x ≡ y)) xs ys (Pairwise-left (λ x y. ¬ (x ≡ y)) (xs ++ ys) zs all))
        (Pairwise-right (λ x y. ¬ (x ≡ y)) (xs ++ ys) zs all)
        (λ x y i j. Pairwise-across (λ x y. ¬ (x ≡ y)) (xs ++ ys) zs all x y (In-left x xs ys i) j)) a

    -- ---- one loop more

    abbrev pub nested_loop : List NormalLoop → NormalLoop → NestedLoop
    nested_loop round r = record { round = round; turns = r }

    pub record Fresh (round : List NormalLoop) (l : Loop) (r : NormalLoop) : Type 0 where
      pub variable_is : r.variable ≡ l.variable
      pub variable_in : Contains (variables_in n) r.variable
      pub counter_in : Contains (counters_in n) r.counter
      pub variable : Contains (variables_of round) r.variable → ⊥
      pub counter : Contains (counters_of round) r.counter → ⊥

    pub fresh : (round : List NormalLoop) (ss : List Standing) (ls : List NestedLoop) (l : Loop) (r : NormalLoop) → normal_loop n.symbols round l ≡ Some r → Around round ss (nested_loop round r ∷ ls) → Fresh round l r
    fresh round ss ls l r e a =
        let inside = a.nested (nested_loop round r) (here (nested_loop round r) ls) in
        record {
          variable_is = (normal_loop_is n.symbols round l r a.zeros e).variable;
          variable_in = in_map (λ (l : NestedLoop). l.turns.variable) (loops_in n) (nested_loop round r) inside;
          counter_in = in_map (λ (l : NestedLoop). l.turns.counter) (loops_in n) (nested_loop round r) inside;
          variable = not_among (variables_of round) r.variable (All-contains HasOwnVariable (loops_in n) (nested_loop round r) source.own inside);
          counter = λ c. Pairwise-across (λ x y. ¬ (x ≡ y)) (counters_of round) (r.counter ∷ map (λ (l : NestedLoop). l.turns.counter) ls) a.once r.counter r.counter
              (Contains-In r.counter (counters_of round) c) (inl refl) refl;
        }

    loops_more : (outer round : List NormalLoop) (l : Loop) (r : NormalLoop) → AreNormalLoops n.symbols outer round → normal_loop n.symbols (outer ++ round) l ≡ Some r → AreNormalLoops n.symbols outer (round ++ r ∷ [])
    loops_more outer [] l r h e = ((l, subst (λ rs. normal_loop n.symbols rs l ≡ Some r) (append-nil outer) e), tt)
    loops_more outer (q ∷ round) l r h e =
        (h.0, loops_more (outer ++ q ∷ []) round l r h.1 (subst (λ rs. normal_loop n.symbols rs l ≡ Some r) (sym (append_assoc outer (q ∷ []) round)) e))

    pub around_more : (round : List NormalLoop) (ss : List Standing) (ls : List NestedLoop) (l : Loop) (r : NormalLoop) → normal_loop n.symbols round l ≡ Some r → Around round ss (nested_loop round r ∷ ls)
        → Around (round ++ r ∷ []) ss ls
    around_more round ss ls l r e a =
        let is = normal_loop_is n.symbols round l r a.zeros e in
        let f = fresh round ss ls l r e a in
        let long : length (round ++ r ∷ []) ≡ suc (length round) = length-append round (r ∷ []) ∙ add-one (length round) in
        record {
          loops = loops_more [] round l r a.loops e;
          zeros = subst (λ d. HaveZeros d (round ++ r ∷ [])) (sym long)
              (Each-append (λ (q : NormalLoop). Zero (suc (length round)) q.value) round (r ∷ []) (HaveZeros-later (length round) (suc (length round)) round (omega arith) a.zeros) (is.value, tt));
          within = λ x c. elim (last_cases (variables_of round) r.variable x (subst (λ ys. Contains ys x) (variables_last round r) c)) [ inl d ↦ a.within x d | inr q ↦ subst (Contains (variables_in n)) q f.variable_in ];
          counters = λ x c. elim (last_cases (counters_of round) r.counter x (subst (λ ys. Contains ys x) (counters_last round r) c)) [ inl d ↦ a.counters x d | inr q ↦ subst (Contains (counters_in n)) q f.counter_in ];
          variables = subst (λ xs. Distinct xs) (sym (variables_last round r))
              (Pairwise-append (λ x y. ¬ (x ≡ y)) (variables_of round) (r.variable ∷ []) a.variables (tt, tt)
              (λ x y i j q. f.variable (subst (Contains (variables_of round)) (q ∙ only y j) (In-Contains x (variables_of round) i))));
          suited = a.suited;
          nested = λ m c. a.nested m (there (nested_loop round r) ls m c);
          once = subst (λ xs. Distinct xs)
              (sym (append_assoc (counters_of round) (r.counter ∷ []) (map (λ (l : NestedLoop). l.turns.counter) ls)) ∙ ap (λ xs. xs ++ map (λ (l : NestedLoop). l.turns.counter) ls) (sym (counters_last round r))) a.once;
        }
      where
        only : (y : List ℕ) → In y (r.variable ∷ []) → y ≡ r.variable
        only y (inl e) = e
        only y (inr i) = absurd i
