-- The statements and loops that are made for the parts of a loop's body are prepared.
use Rattle.std.proofs.Common.{◌≡◌, refl, sym, ap, subst, ◌∙◌, ◌⊎◌, inl, inr, ℕ, zero, suc, ◌+◌, ◌<◌, ◌≤◌, ◌^◌, Bool, true, false, cond, ◌||◌, All, Contains, List, [], ◌∷◌, ◌++◌, take, drop, length, length-append, append-nil, append_assoc, Option, Some, None, IsSomeAnd, arith}
use Rattle.std.specs.Prelude.{codes, decimal}
use Rattle.std.specs.Option.{option_map}
use Rattle.std.specs.Str.{bytes_eq}
use Rattle.std.proofs.lemmas.Slice.Eq.{bytes_eq-Decides}
use Rattle.std.proofs.lemmas.List.Elements.{All-append, All-cons, All-contains, All-head, All-nil}
use Rattle.tree.specs.Names.{IsSourceName}
use Rattle.tree.specs.Plain.{Declaration, Expression, Logic, Unary}
use Rattle.tree.specs.declared.ops.Kind.TheVariants.{Logical}
use Rattle.tree.specs.declared.ops.Op.TheVariants.{And, Not}
use Rattle.meaning.specs.Labels.{IsLine}
use Rattle.meaning.specs.Depths.{depth_of}
use Rattle.meaning.specs.Reads.{names_in, names_in_subscripts}
use Rattle.meaning.specs.Names.{is_among}
use Rattle.meaning.specs.Typed.{declared}
use Rattle.meaning.specs.Value.{named}
use Rattle.rewrite.specs.Making.{made}
use Rattle.linear_forms.specs.Canonical.{canonical_node, canonical_text, canonising}
use Rattle.nest.specs.Bodies.{Standing, loops_in_parts, loops_of, statements_in, statements_in_parts}
use Rattle.nest.specs.Plain.{Guarded, Loop, Nest, Part, Run, Turns, Choice, Label, Jump, Parts, no_parts, part, parts}
use Rattle.nest_order.specs.orders.Lists.{In}
use Rattle.nest_order.specs.runs.Guarded.{names_of_guard}
use Rattle.last_values.specs.normal_forms.NormalLoops.{counter_name}
use Rattle.pass_laws.specs.branch_meaning.Jumps.{AllJumpAhead, labels_ahead}
use Rattle.pass_laws.specs.prepared_nests.Branches.{IsPreparedTest, tests_in_parts, tests_under}
use Rattle.pass_laws.specs.prepared_nests.Loops.{EachLoopIn, IsPreparedLoop, variables_of_loops}
use Rattle.pass_laws.specs.prepared_nests.Statements.{IsCanonical, IsOwn, IsPreparedStatement, guard_or_none, made_names}
use Rattle.pass_laws.proofs.PreparedNests.Normal.TestTexts.{pair_stays}
use Rattle.if_convert.specs.Converted.{around_loop, converted, converted_parts}
use Rattle.if_convert.specs.Jumps.{jumps_in}
use Rattle.if_convert.specs.Masks.{Asks, Clears, Kept, Leaves, Masking, Other, Question, Test, Turned, Unleft, all_parts_of, asked, first_half, mask, mask_name, none_left, none_of, masked_parts_of, mask_scalar, sets, under_mask}
use Rattle.if_convert.specs.declared.points.Jumped.{Jumped}
use Rattle.if_convert.specs.Points.{entered, unless_skipped}
use Rattle.if_convert.specs.declared.points.MaskPoint.{MaskPoint}
use Rattle.if_convert.proofs.BodyLaws.{parts-append}
use Rattle.prepared_passes.specs.conversion.Places.{IsMask}
use Rattle.prepared_passes.proofs.ConvertedNests.Few.{part_few}
use Rattle.prepared_passes.proofs.ConvertedNests.Flat.{Flat, left_flat, mask_counter, mask_flat, more_flat, not_flat, truth_flat}
use Rattle.prepared_passes.proofs.ConvertedNests.Goes.{AreStraight, no_pending}
use Rattle.prepared_passes.proofs.ConvertedNests.Masked.{AreFree, AsksOthers, IsFree, IsSuited, IsUsed}
use Rattle.prepared_passes.proofs.ConvertedNests.Moments.{IsLoopless}
use Rattle.prepared_passes.proofs.ConvertedNests.Names.{front, rest}
use Rattle.prepared_passes.proofs.ConvertedNests.Pending.{Ahead, IsClean, entered_clean, none_ahead, part_ahead, part_clean}
use Rattle.prepared_passes.proofs.ConvertedNests.Points.{below_more}
use Rattle.prepared_passes.proofs.ConvertedNests.Rising.{masks_rise, masks_rise_parts}
use Rattle.prepared_passes.proofs.ConvertedNests.Stems.{Asked, Comes, Here, HereTest, part_holds, top_comes}
use Rattle.prepared_passes.proofs.ConvertedNests.Tops.{IsTop, next_top, top_suits}

-- ---- names

pub mask_long : (i : ℕ) → ¬ IsSourceName (mask_name i)
mask_long i h = let a = h.within in let e = length-append (codes "FV_MASK_") (decimal (i + 1)) in omega (arith, a, e)

none_among : (names : List (List ℕ)) (x : List ℕ) → ((y : List ℕ) → In y names → ¬ (x ≡ y)) → is_among names x ≡ false
none_among [] x f = refl
none_among (y ∷ names) x f = by (bytes_eq x y) refl (none_among names x (λ z i. f z (inr i)))
  where
    by : (b : Bool) → bytes_eq x y ≡ b → is_among names x ≡ false → (b || is_among names x) ≡ false
    by true e rest = absurd (f y (inl refl) ((bytes_eq-Decides x y).0 e))
    by false e rest = rest

-- the variables of these loops count loops
abbrev pub AreCounters : List Loop → Type 0
AreCounters ls = (y : List ℕ) → In y (variables_of_loops ls) → (k : ℕ) × (y ≡ counter_name k)

pub more_counters : (ls : List Loop) (l : Loop) → AreCounters ls → l.variable ≡ counter_name l.number → AreCounters (ls ++ l ∷ [])
more_counters [] l h e y (inl f) = (l.number, f ∙ e)
more_counters [] l h e y (inr i) = absurd i
more_counters (k ∷ ls) l h e y (inl f) = h y (inl f)
more_counters (k ∷ ls) l h e y (inr i) = more_counters ls l (λ z j. h z (inr j)) e y i

mask_settled : (ls : List Loop) (symbols : List (List ℕ)) (i : ℕ) → AreCounters ls → made (canonising (variables_of_loops ls) symbols) (mask i) ≡ mask i
mask_settled ls symbols i h =
    ap (λ b. cond (b || false) (canonical_text (variables_of_loops ls) symbols (mask i)) (mask i))
    (none_among (variables_of_loops ls) (mask_name i) (λ y j e. let c = h y j in mask_counter i c.0 (e ∙ c.1)))

module _ (ls : List Loop) (symbols : List (List ℕ)) (counters : AreCounters ls) where
  abbrev IsSettled : Expression → Type 0
  IsSettled e = made (canonising (variables_of_loops ls) symbols) e ≡ e

  not_settled : (i : ℕ) → IsSettled (Unary Not (mask i))
  not_settled i =
      let none = none_among (variables_of_loops ls) (mask_name i) (λ y j e. let c = counters y j in mask_counter i c.0 (e ∙ c.1)) in
      ap (λ (e : Expression). canonical_node (variables_of_loops ls) symbols (Unary Not (mask i)) (Unary Not e)) (mask_settled ls symbols i counters)
      ∙ ap (λ b. cond (b || false) (canonical_text (variables_of_loops ls) symbols (Unary Not (mask i))) (Unary Not (mask i))) none

  -- conjunctions of masks that are not set
  none_settled : (n : ℕ) (xs : List Jumped) → IsSettled (none_of n xs)
  none_settled zero xs = refl
  none_settled (suc n) [] = refl
  none_settled (suc n) (x ∷ []) = not_settled x.mask
  none_settled (suc n) (x ∷ y ∷ xs) =
      let all : List Jumped = x ∷ y ∷ xs in
      pair_stays (variables_of_loops ls) symbols And (λ k l f g. refl) (none_of n (take (first_half all) all)) (none_of n (drop (first_half all) all))
      (none_settled n (take (first_half all) all)) (none_settled n (drop (first_half all) all))

  left_settled : (xs : List Jumped) → IsSettled (none_left xs)
  unfolding none_left
  left_settled xs = none_settled (length xs) xs

-- ---- what is known of the nest n, and of the nest m that is made of it

pub record Facts (es : List Declaration) (around : List (List ℕ)) (deepest k0 k1 : ℕ) (n m : Nest) : Type 0 where
  pub line : IsLine n.line
  pub masks : (i : ℕ) → k0 ≤ i → i < k1 → IsSomeAnd (declared es (mask_name i)) IsMask
  pub deep : 65 ≤ deepest
  pub few : k1 ≤ 2 ^ 32
  pub symbols : m.symbols ≡ n.symbols
  pub sources : All IsSourceName n.symbols
  pub outside : All IsSourceName around
  pub kept : (x : List ℕ) → Contains (made_names n) x → Contains (made_names m) x
  pub made : (i : ℕ) → k0 ≤ i → i < k1 → Contains (made_names m) (mask_name i)

module _ (es : List Declaration) (around : List (List ℕ)) (deepest k0 k1 : ℕ) (n m : Nest) (facts : Facts es around deepest k0 k1 n m) where
  pub record Was (x : Standing) : Type 0 where
    pub prepared : IsPreparedStatement es n deepest x
    pub outside : ¬ Contains around x.statement.left.name

  pub record Is (x : Standing) : Type 0 where
    pub prepared : IsPreparedStatement es m deepest x
    pub outside : ¬ Contains around x.statement.left.name

  abbrev InRange : Option ℕ → Type 0
  InRange None = Unit {0}
  InRange (Some i) = (k0 ≤ i) × (i < k1)

  no_symbol : (i : ℕ) → ¬ Contains m.symbols (mask_name i)
  no_symbol i c = mask_long i (All-contains IsSourceName n.symbols (mask_name i) facts.sources (subst (λ ss. Contains ss (mask_name i)) facts.symbols c))

  not_around : (i : ℕ) → ¬ Contains around (mask_name i)
  not_around i c = mask_long i (All-contains IsSourceName around (mask_name i) facts.outside c)

  flat : (ls : List Loop) (i : ℕ) → k0 ≤ i → i < k1 → Flat es ls 0 (mask i)
  flat ls i a b = mask_flat es ls i (facts.masks i a b)

  -- a mask is assigned
  set_is : (ls : List Loop) (counters : AreCounters ls) (g : Option ℕ) → InRange g → (i : ℕ) → k0 ≤ i → i < k1 → (e : Expression) → Flat es ls deepest e → IsSettled ls m.symbols counters e
      → Is (record { loops = ls; statement = record { line = n.line; guard = option_map mask g; left = mask_scalar (mask_name i); right = e } })
  set_is ls counters g u i a b e f settled = record { prepared = by g u; outside = not_around i }
    where
      own : All (IsOwn ls) (mask_name i ∷ [])
      own = (flat ls i a b).names

      by : (g : Option ℕ) → InRange g → IsPreparedStatement es m deepest (record { loops = ls; statement = record { line = n.line; guard = option_map mask g; left = mask_scalar (mask_name i); right = e } })
      by None u = record {
        line = facts.line;
        plain = (tt, f.plain, tt);
        names = All-append (IsOwn ls) (names_in e) (mask_name i ∷ []) f.names own;
        target = inr (facts.made i a b);
        free = no_symbol i;
        kind = Logical;
        left = (flat ls i a b).scalar;
        right = f.scalar;
        guard = tt;
        deep = All-cons (λ (e : Expression). depth_of e ≤ deepest) (mask i) (e ∷ []) (omega arith) (All-cons (λ (e : Expression). depth_of e ≤ deepest) e [] f.deep (All-nil (λ (e : Expression). depth_of e ≤ deepest)));
        canonical = record { guard = refl; left = refl; right = inl settled };
      }
      by (Some k) u = record {
        line = facts.line;
        plain = (tt, f.plain, tt);
        names = All-cons (IsOwn ls) (mask_name k) (names_in e ++ (mask_name i ∷ [])) (All-head (IsOwn ls) (mask_name k) [] (flat ls k u.0 u.1).names) (All-append (IsOwn ls) (names_in e) (mask_name i ∷ []) f.names own);
        target = inr (facts.made i a b);
        free = no_symbol i;
        kind = Logical;
        left = (flat ls i a b).scalar;
        right = f.scalar;
        guard = (flat ls k u.0 u.1).scalar;
        deep = All-cons (λ (e : Expression). depth_of e ≤ deepest) (mask k) (mask i ∷ e ∷ []) (omega arith) (All-cons (λ (e : Expression). depth_of e ≤ deepest) (mask i) (e ∷ []) (omega arith) (All-cons (λ (e : Expression). depth_of e ≤ deepest) e [] f.deep (All-nil (λ (e : Expression). depth_of e ≤ deepest))));
        canonical = record { guard = ap (λ (e : Expression). Some e) (mask_settled ls m.symbols k counters); left = refl; right = inl settled };
      }

  -- a statement of the nest under a mask
  kept_is : (ls : List Loop) (g : Option ℕ) → InRange g → AreCounters ls → (c : Guarded) → c.guard ≡ None → Was (record { loops = ls; statement = c }) → Is (record { loops = ls; statement = under_mask g c })
  kept_is ls g u counters c e h = by g u
    where
      was : IsPreparedStatement es n deepest (record { loops = ls; statement = c })
      was = h.prepared

      target : (IsSourceName c.left.name) ⊎ Contains (made_names n) c.left.name → (IsSourceName c.left.name) ⊎ Contains (made_names m) c.left.name
      target (inl s) = inl s
      target (inr k) = inr (facts.kept c.left.name k)

      bare_names : All (IsOwn ls) (names_in c.right ++ (c.left.name ∷ names_in_subscripts c.left.subscripts))
      bare_names = subst (λ o. All (IsOwn ls) (names_of_guard o ++ (names_in c.right ++ (c.left.name ∷ names_in_subscripts c.left.subscripts)))) e was.names

      bare_deep : All (λ (e : Expression). depth_of e ≤ deepest) (named c.left ∷ c.right ∷ [])
      bare_deep = subst (λ o. All (λ (e : Expression). depth_of e ≤ deepest) (guard_or_none o ++ named c.left ∷ c.right ∷ [])) e was.deep

      bare : IsCanonical (variables_of_loops ls) m.symbols c
      bare = subst (λ ss. IsCanonical (variables_of_loops ls) ss c) (sym facts.symbols) was.canonical

      by : (g : Option ℕ) → InRange g → Is (record { loops = ls; statement = under_mask g c })
      by None u = record {
        prepared = record {
          line = was.line;
          plain = was.plain;
          names = was.names;
          target = target was.target;
          free = λ k. was.free (subst (λ ss. Contains ss c.left.name) facts.symbols k);
          kind = was.kind;
          left = was.left;
          right = was.right;
          guard = was.guard;
          deep = was.deep;
          canonical = bare;
        };
        outside = h.outside;
      }
      by (Some i) u = record {
        prepared = record {
          line = was.line;
          plain = (tt, was.plain.1, was.plain.2);
          names = All-cons (IsOwn ls) (mask_name i) _ (All-head (IsOwn ls) (mask_name i) [] (flat ls i u.0 u.1).names) bare_names;
          target = target was.target;
          free = λ k. was.free (subst (λ ss. Contains ss c.left.name) facts.symbols k);
          kind = was.kind;
          left = was.left;
          right = was.right;
          guard = (flat ls i u.0 u.1).scalar;
          deep = All-cons (λ (e : Expression). depth_of e ≤ deepest) (mask i) (named c.left ∷ c.right ∷ []) (omega arith) bare_deep;
          canonical = record { guard = ap (λ (e : Expression). Some e) (mask_settled ls m.symbols i counters); left = bare.left; right = bare.right };
        };
        outside = h.outside;
      }

  -- ---- lists of parts

  pub record Walked (ls : List Loop) (qs : List Part) (loops : List Loop) : Type 0 where
    pub statements : All Is (statements_in_parts ls (parts qs))
    pub same : loops_in_parts (parts qs) ≡ loops
    pub each : EachLoopIn (IsPreparedLoop es n.symbols) ls (parts qs)

  statements-append : (ls : List Loop) (ps qs : List Part) → statements_in_parts ls (parts (ps ++ qs)) ≡ statements_in_parts ls (parts ps) ++ statements_in_parts ls (parts qs)
  statements-append ls [] qs = refl
  statements-append ls (p ∷ ps) qs = ap (λ ss. statements_in ls p ++ ss) (statements-append ls ps qs) ∙ sym (append_assoc (statements_in ls p) (statements_in_parts ls (parts ps)) (statements_in_parts ls (parts qs)))

  loops-append : (ps qs : List Part) → loops_in_parts (parts (ps ++ qs)) ≡ loops_in_parts (parts ps) ++ loops_in_parts (parts qs)
  loops-append [] qs = refl
  loops-append (p ∷ ps) qs = ap (λ ss. loops_of p ++ ss) (loops-append ps qs) ∙ sym (append_assoc (loops_of p) (loops_in_parts (parts ps)) (loops_in_parts (parts qs)))

  each-append : (ls : List Loop) (ps qs : List Part) → EachLoopIn (IsPreparedLoop es n.symbols) ls (parts ps) → EachLoopIn (IsPreparedLoop es n.symbols) ls (parts qs) → EachLoopIn (IsPreparedLoop es n.symbols) ls (parts (ps ++ qs))
  each-append ls [] qs h k = k
  each-append ls (p ∷ ps) qs h k = (h.0, each-append ls ps qs h.1 k)

  none_walked : (ls : List Loop) → Walked ls [] []
  none_walked ls = record { statements = All-nil Is; same = refl; each = tt }

  both_walked : (ls : List Loop) (ps qs : List Part) (xs ys : List Loop) → Walked ls ps xs → Walked ls qs ys → Walked ls (ps ++ qs) (xs ++ ys)
  both_walked ls ps qs xs ys h k = record {
    statements = subst (All Is) (sym (statements-append ls ps qs)) (All-append Is (statements_in_parts ls (parts ps)) (statements_in_parts ls (parts qs)) h.statements k.statements);
    same = loops-append ps qs ∙ (ap (λ ss. ss ++ loops_in_parts (parts qs)) h.same ∙ ap (λ ss. xs ++ ss) k.same);
    each = each-append ls ps qs h.each k.each;
  }

  run_walked : (ls : List Loop) (g : Guarded) → Is (record { loops = ls; statement = g }) → Walked ls (Run g ∷ []) []
  run_walked ls g h = record { statements = All-cons Is (record { loops = ls; statement = g }) [] h (All-nil Is); same = refl; each = (tt, tt) }

  set_walked : (ls : List Loop) (counters : AreCounters ls) (g : Option ℕ) → InRange g → (i : ℕ) → k0 ≤ i → i < k1 → (e : Expression) → Flat es ls deepest e → IsSettled ls m.symbols counters e → Walked ls (sets n.line g i e ∷ []) []
  set_walked ls counters g u i a b e f settled = run_walked ls (record { line = n.line; guard = option_map mask g; left = mask_scalar (mask_name i); right = e }) (set_is ls counters g u i a b e f settled)

  used_range : (low mid : ℕ) (g : Option ℕ) → IsUsed k0 k1 low mid g → InRange g
  used_range low mid None u = tt
  used_range low mid (Some i) u = u.0

  test_flat : (ls : List Loop) (e : Expression) → IsPreparedTest es n.symbols deepest (record { loops = ls; test = e }) → Flat es ls deepest e
  test_flat ls e h = record { plain = h.plain; names = h.names; scalar = h.kind; deep = h.deep }

  asked_flat : (ls : List Loop) (low mid : ℕ) (q : Question) → AsksOthers k0 k1 low mid q → Asked n.line k1 (Here ls Was (IsPreparedTest es n.symbols deepest)) (HereTest ls Was (IsPreparedTest es n.symbols deepest)) q → Flat es ls deepest (asked q)
  asked_flat ls low mid (Test e) o s = test_flat ls e s
  asked_flat ls low mid (Other i) o s = more_flat es ls 1 deepest (Unary Not (mask i)) (let d = facts.deep in omega (arith, d)) (not_flat es ls i (facts.masks i o.0.0 o.0.1))
  asked_flat ls low mid (Unleft xs) o s =
      let d = facts.deep in
      let f = facts.few in
      more_flat es ls 65 deepest _ d (left_flat es ls xs (omega (arith, s, f)) (λ l i. facts.masks l.mask (o l i).0.0 (o l i).0.1))

  asked_settled : (ls : List Loop) (counters : AreCounters ls) (q : Question) → Asked n.line k1 (Here ls Was (IsPreparedTest es n.symbols deepest)) (HereTest ls Was (IsPreparedTest es n.symbols deepest)) q → IsSettled ls m.symbols counters (asked q)
  asked_settled ls counters (Test e) s = asked_test e s
    where
      asked_test : (e : Expression) → IsPreparedTest es n.symbols deepest (record { loops = ls; test = e }) → IsSettled ls m.symbols counters e
      asked_test e h = subst (λ ss. made (canonising (variables_of_loops ls) ss) e ≡ e) (sym facts.symbols) h.canonical
  asked_settled ls counters (Other i) s = not_settled ls m.symbols counters i
  asked_settled ls counters (Unleft xs) s = left_settled ls m.symbols counters xs

  abbrev Came : List Loop → Masking → Type 0
  Came ls x = Comes n.line k1 (Here ls Was (IsPreparedTest es n.symbols deepest)) (HereTest ls Was (IsPreparedTest es n.symbols deepest)) x

  one_walked : (ls : List Loop) → AreCounters ls → (low mid : ℕ) (x : Masking) → IsSuited k0 k1 low mid x → Came ls x → Walked ls (masked_parts_of n.line x) []
  one_walked ls counters low mid (Kept g c) s h = run_walked ls (under_mask g c) (kept_is ls g (used_range low mid g s.0) counters c s.1 h)
  one_walked ls counters low mid (Asks None i q) s h = set_walked ls counters None tt i s.1.0.0 s.1.0.1 (asked q) (asked_flat ls low mid q s.2 h) (asked_settled ls counters q h)
  one_walked ls counters low mid (Asks (Some k) i q) s h =
      both_walked ls (sets n.line None i (Logic false) ∷ []) (sets n.line (Some k) i (asked q) ∷ []) [] []
      (set_walked ls counters None tt i s.1.0.0 s.1.0.1 (Logic false) (more_flat es ls 0 deepest (Logic false) (omega arith) (truth_flat es ls false)) refl)
      (set_walked ls counters (Some k) s.0.0 i s.1.0.0 s.1.0.1 (asked q) (asked_flat ls low mid q s.2 h) (asked_settled ls counters q h))
  one_walked ls counters low mid (Clears j) s h = set_walked ls counters None tt j s.0.0 s.0.1 (Logic false) (more_flat es ls 0 deepest (Logic false) (omega arith) (truth_flat es ls false)) refl
  one_walked ls counters low mid (Leaves g j) s h = set_walked ls counters g (used_range low mid g s.0) j s.1.0.0 s.1.0.1 (Logic true) (more_flat es ls 0 deepest (Logic true) (omega arith) (truth_flat es ls true)) refl
  one_walked ls counters low mid (Turned l ps) s h = absurd s

  list_walked : (ls : List Loop) → AreCounters ls → (low mid : ℕ) (xs : List Masking) → ((x : Masking) → In x xs → IsSuited k0 k1 low mid x) → ((x : Masking) → In x xs → Came ls x) → Walked ls (all_parts_of n.line xs) []
  list_walked ls counters low mid [] s h = none_walked ls
  list_walked ls counters low mid (x ∷ xs) s h =
      both_walked ls (masked_parts_of n.line x) (all_parts_of n.line xs) [] [] (one_walked ls counters low mid x (s x (inl refl)) (h x (inl refl)))
      (list_walked ls counters low mid xs (λ y i. s y (inr i)) (λ y i. h y (inr i)))

  -- ---- the body of a loop

  abbrev WalkGoes : Parts → Type 0
  WalkGoes ps = (later : List ℕ) (ls : List Loop) (p : MaskPoint) → AllJumpAhead later ps → AreStraight ps → AreFree ps → AreCounters ls → All Was (statements_in_parts ls ps) → All (IsPreparedTest es n.symbols deepest) (tests_in_parts ls ps)
      → EachLoopIn (IsPreparedLoop es n.symbols) ls ps → IsTop k0 p → IsClean None p → Ahead (labels_ahead ps later) p.pending → length p.pending ≤ p.mask → (converted_parts n.line false None ps p).point.mask ≤ k1
      → Walked ls (all_parts_of n.line (converted_parts n.line false None ps p).made) (loops_in_parts ps)

  -- what is known at the point behind a part
  record Behind (p : MaskPoint) : Type 0 where
    top : IsTop k0 p
    few : length p.pending ≤ p.mask

  plain_walks : (q : Part) (ps : Parts) (ls : List Loop) (p : MaskPoint) → IsLoopless q → loops_of q ≡ [] → IsFree q → AreCounters ls → All Was (statements_in_parts ls (part q ps)) → All (IsPreparedTest es n.symbols deepest) (tests_in_parts ls (part q ps))
      → IsTop k0 p → length p.pending ≤ p.mask → (converted n.line false None q p).point.mask ≤ k1 → Walked ls (all_parts_of n.line (converted n.line false None q p).made) (loops_of q) × Behind (converted n.line false None q p).point
  plain_walks q ps ls p h none f cs ss ts top few bound =
      let c = converted n.line false None q p in
      let rise = masks_rise n.line false None q p in
      let suits = top_suits n.line k0 k1 q p h f top (omega (arith, rise, bound)) bound in
      let comes = top_comes n.line k1 (Here ls Was (IsPreparedTest es n.symbols deepest)) (HereTest ls Was (IsPreparedTest es n.symbols deepest)) q p h
      (part_holds ls Was (IsPreparedTest es n.symbols deepest) n.line k1 q (front Was (statements_in ls q) (statements_in_parts ls ps) ss) (front (IsPreparedTest es n.symbols deepest) (tests_under ls q) (tests_in_parts ls ps) ts)) few bound in (
        subst (Walked ls (all_parts_of n.line c.made)) (sym none) (list_walked ls cs p.mask (p.mask + jumps_in p.skips q) c.made suits.made comes),
        record { top = next_top n.line k0 k1 p (jumps_in p.skips q) c top suits; few = part_few n.line q p few },
      )

  loop_walks : (l : Loop) (qs : Parts) (p : MaskPoint) (ls : List Loop) → p.skips ≡ false → IsTop k0 p → length p.pending ≤ p.mask → IsPreparedLoop es n.symbols ls l → (converted n.line false None (Turns l qs) p).point.mask ≤ k1
      → ((converted_parts n.line false None qs (entered None p.mask p.mask)).point.mask ≤ k1 → Walked (ls ++ l ∷ []) (all_parts_of n.line (converted_parts n.line false None qs (entered None p.mask p.mask)).made) (loops_in_parts qs))
      → Walked ls (all_parts_of n.line (converted n.line false None (Turns l qs) p).made) (loops_of (Turns l qs)) × Behind (converted n.line false None (Turns l qs) p).point
  loop_walks l qs p ls e top few own bound inner = by p.skips e bound
    where
      by : (b : Bool) → b ≡ false → (unless_skipped b p (around_loop n.line l p (converted_parts n.line false None qs (entered None p.mask p.mask)))).point.mask ≤ k1
          → Walked ls (all_parts_of n.line (unless_skipped b p (around_loop n.line l p (converted_parts n.line false None qs (entered None p.mask p.mask)))).made) (l ∷ loops_in_parts qs)
          × Behind (unless_skipped b p (around_loop n.line l p (converted_parts n.line false None qs (entered None p.mask p.mask)))).point
      by true e bound = let z : ⊥ = cc in absurd z
      by false e bound =
          let c = converted_parts n.line false None qs (entered None p.mask p.mask) in
          let w = inner bound in
          let r = masks_rise_parts n.line false None qs (entered None p.mask p.mask) in
          let start = top.start in
          let ordered = top.ordered in (
            record {
              statements = subst (All Is) (sym (append-nil (statements_in_parts (ls ++ l ∷ []) (parts (all_parts_of n.line c.made))))) w.statements;
              same = append-nil (l ∷ loops_in_parts (parts (all_parts_of n.line c.made))) ∙ ap (λ ks. l ∷ ks) w.same;
              each = ((own, w.each), tt);
            },
            record {
              top = record {
                start = omega (arith, start, r);
                ordered = omega (arith, ordered, r);
                guard = top.guard;
                guard_below = below_more p.guard p.mask c.point.mask r top.guard_below;
                pending = λ x i. (let z = top.pending x i in let b = z.1 in (z.0, omega (arith, b, r)));
              };
              few = omega (arith, few, r);
            },
          )

  mutual
    pub parts_walk : (ps : Parts) → WalkGoes ps
    parts_walk no_parts later ls p j st fr cs ss ts ea top clean ahead few bound = none_walked ls
    parts_walk (part q ps) later ls p j st fr cs ss ts ea top clean ahead few bound =
        let c = converted n.line false None q p in
        let d = converted_parts n.line false None ps c.point in
        let up = masks_rise_parts n.line false None ps c.point in
        let first = part_walks q ps later ls p j st fr cs ss ts ea top clean ahead few (omega (arith, up, bound)) in
        let more = parts_walk ps later ls c.point j.1 st.1 fr.1 cs (rest Was (statements_in ls q) (statements_in_parts ls ps) ss) (rest (IsPreparedTest es n.symbols deepest) (tests_under ls q) (tests_in_parts ls ps) ts) ea.1 first.1.top
        (part_clean n.line false None q p clean) (part_ahead n.line false None q (labels_ahead ps later) p j.0 ahead) first.1.few bound in
        subst (λ qs. Walked ls qs (loops_of q ++ loops_in_parts ps)) (sym (parts-append n.line c.made d.made)) (both_walked ls (all_parts_of n.line c.made) (all_parts_of n.line d.made) (loops_of q) (loops_in_parts ps) first.0 more)

    part_walks : (q : Part) (ps : Parts) (later : List ℕ) (ls : List Loop) (p : MaskPoint) → AllJumpAhead later (part q ps) → AreStraight (part q ps) → AreFree (part q ps) → AreCounters ls → All Was (statements_in_parts ls (part q ps))
        → All (IsPreparedTest es n.symbols deepest) (tests_in_parts ls (part q ps)) → EachLoopIn (IsPreparedLoop es n.symbols) ls (part q ps) → IsTop k0 p → IsClean None p → Ahead (labels_ahead (part q ps) later) p.pending → length p.pending ≤ p.mask
        → (converted n.line false None q p).point.mask ≤ k1 → Walked ls (all_parts_of n.line (converted n.line false None q p).made) (loops_of q) × Behind (converted n.line false None q p).point
    part_walks (Run g) ps later ls p j st fr cs ss ts ea top clean ahead few bound = plain_walks (Run g) ps ls p st.0 refl fr.0 cs ss ts top few bound
    part_walks (Turns l qs) ps later ls p j st fr cs ss ts ea top clean ahead few bound =
        let none = no_pending p.pending ahead in
        let is = clean.at none in
        let own = ea.0.0 in
        loop_walks l qs p ls is.1 top few own bound
        (λ b. parts_walk qs [] (ls ++ l ∷ []) (entered None p.mask p.mask) j.0 st.0 fr.0.3 (more_counters ls l cs own.variable)
        (front Was (statements_in_parts (ls ++ l ∷ []) qs) (statements_in_parts ls ps) ss) (front (IsPreparedTest es n.symbols deepest) (tests_in_parts (ls ++ l ∷ []) qs) (tests_in_parts ls ps) ts) ea.0.1
        (let s = top.start in record { start = s; ordered = omega arith; guard = tt; guard_below = tt; pending = λ x i. absurd i }) (entered_clean None p.mask p.mask) (none_ahead (labels_ahead qs [])) (omega arith) b)
    part_walks (Choice bs other) ps later ls p j st fr cs ss ts ea top clean ahead few bound = plain_walks (Choice bs other) ps ls p st.0 j.0.0 fr.0 cs ss ts top few bound
    part_walks (Label k) ps later ls p j st fr cs ss ts ea top clean ahead few bound = plain_walks (Label k) ps ls p tt refl fr.0 cs ss ts top few bound
    part_walks (Jump k) ps later ls p j st fr cs ss ts ea top clean ahead few bound = plain_walks (Jump k) ps ls p tt refl fr.0 cs ss ts top few bound
