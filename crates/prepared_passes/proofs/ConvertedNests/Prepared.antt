-- A nest with masks in place of its IFs and jumps is prepared.
use Rattle.std.proofs.Common.{◌≡◌, refl, sym, ap, subst, ◌∙◌, ◌⊎◌, inl, inr, ℕ, zero, suc, ◌+◌, ◌-◌, ◌<◌, ◌≤◌, ◌^◌, false, All, Contains, List, [], ◌∷◌, ◌++◌, map, Option, Some, None, IsSomeAnd, arith}
use Rattle.std.proofs.lemmas.List.{map-append}
use Rattle.std.proofs.lemmas.List.Elements.{All-append, All-cons, All-head, All-nil, All-tail, All-weaker, Contains-append_left, Contains-append_right}
use Rattle.tree.specs.Names.{IsSourceName}
use Rattle.tree.specs.Plain.{Declaration, Given}
use Rattle.tree.specs.declared.ops.Kind.TheVariants.{Logical}
use Rattle.meaning.specs.Reads.{names_in_block, names_in_statement}
use Rattle.meaning.specs.Typed.{declared}
use Rattle.components.specs.Lists.{Distinct, Each}
use Rattle.nest.specs.Allocations.{block_then, deallocations}
use Rattle.nest.specs.Blocks.{statement_of_part}
use Rattle.nest.specs.Bodies.{Standing, loops_in_branches, loops_in_parts, loops_of, nest_loops, nest_statements, statements_in}
use Rattle.nest.specs.Plain.{Branches, no_branches, branch, Loop, Made, Nest, Part, Run, Turns, Choice, Label, Jump, Parts, no_parts, part}
use Rattle.nest_order.specs.shapes.Shapes.{IsNormal}
use Rattle.pass_laws.specs.branch_meaning.Jumps.{JumpsAhead}
use Rattle.pass_laws.specs.ready_nests.Distinct.{numbers_of}
use Rattle.pass_laws.specs.prepared_nests.Branches.{IsPreparedTest, tests_under}
use Rattle.pass_laws.specs.prepared_nests.Loops.{EachLoop, EachLoopIn, EachLoopUnder, IsPreparedLoop}
use Rattle.pass_laws.specs.prepared_nests.Made.{IsPreparedExtent, IsPreparedMade}
use Rattle.pass_laws.specs.prepared_nests.Nests.{AreMadeParts, IsBranched, IsPreparedSymbol}
use Rattle.pass_laws.specs.prepared_nests.Statements.{IsPreparedStatement, made_names}
use Rattle.if_convert.specs.Converted.{converted_loop, converted_parts}
use Rattle.if_convert.specs.Masks.{all_parts_of, made_mask, mask_name, masks_from}
use Rattle.if_convert.specs.Points.{entered}
use Rattle.if_convert.proofs.Plain.{converted_plain}
use Rattle.prepared_passes.specs.conversion.Branching.{IsBranching, IsNoMask, IsUnguarded}
use Rattle.prepared_passes.specs.conversion.Places.{IsMask}
use Rattle.prepared_passes.specs.conversion.Prepared.{ConvertedNestIsPrepared}
use Rattle.prepared_passes.proofs.ConvertedNests.Flat.{mask_counter}
use Rattle.prepared_passes.proofs.ConvertedNests.Goes.{AreStraight}
use Rattle.prepared_passes.proofs.ConvertedNests.Masked.{IsFree, IsOther, mask_same}
use Rattle.prepared_passes.proofs.ConvertedNests.Names.{front, made_clear, part_free}
use Rattle.prepared_passes.proofs.ConvertedNests.Pending.{entered_clean, none_ahead}
use Rattle.prepared_passes.proofs.ConvertedNests.Rising.{masks_rise_parts}
use Rattle.prepared_passes.proofs.ConvertedNests.Standing.{IsLoopOf, loop_of, part_straight}
use Rattle.prepared_passes.proofs.ConvertedNests.Walk.{Facts, Is, Walked, Was, mask_long, more_counters, parts_walk}

-- ---- loops go from 1 by 1

module _ (es : List Declaration) (symbols : List (List ℕ)) where
  mutual
    normal : (ls : List Loop) (q : Part) → EachLoop (IsPreparedLoop es symbols) ls q → All IsNormal (loops_of q)
    normal ls (Run g) h = All-nil IsNormal
    normal ls (Turns l ps) h = All-cons IsNormal l (loops_in_parts ps) h.0.normal (normal_parts (ls ++ l ∷ []) ps h.1)
    normal ls (Choice bs ps) h = All-append IsNormal (loops_in_branches bs) (loops_in_parts ps) (normal_branches ls bs h.0) (normal_parts ls ps h.1)
    normal ls (Label k) h = All-nil IsNormal
    normal ls (Jump k) h = All-nil IsNormal

    normal_parts : (ls : List Loop) (ps : Parts) → EachLoopIn (IsPreparedLoop es symbols) ls ps → All IsNormal (loops_in_parts ps)
    normal_parts ls no_parts h = All-nil IsNormal
    normal_parts ls (part p ps) h = All-append IsNormal (loops_of p) (loops_in_parts ps) (normal ls p h.0) (normal_parts ls ps h.1)

    normal_branches : (ls : List Loop) (bs : Branches) → EachLoopUnder (IsPreparedLoop es symbols) ls bs → All IsNormal (loops_in_branches bs)
    normal_branches ls no_branches h = All-nil IsNormal
    normal_branches ls (branch test ps bs) h = All-append IsNormal (loops_in_parts ps) (loops_in_branches bs) (normal_parts ls ps h.0) (normal_branches ls bs h.1)

-- ---- the names of masks

each_mask : (Q : Made → Type 0) (i n : ℕ) → ((k : ℕ) → i ≤ k → k < i + n → Q (made_mask k)) → All Q (masks_from i n)
each_mask Q i zero f = All-nil Q
each_mask Q i (suc n) f = All-cons Q (made_mask i) (masks_from (suc i) n) (f i (omega arith) (omega arith)) (each_mask Q (suc i) n (λ k a b. f k (omega (arith, a)) (omega (arith, b))))

abbrev names : List Made → List (List ℕ)
names ms = map (λ (a : Made). a.name) ms

names_append : (xs ys : List Made) → names (xs ++ ys) ≡ names xs ++ names ys
names_append xs ys = map-append (λ (a : Made). a.name) xs ys

-- the n masks from a number on are among these
first_or_later : (i k : ℕ) → i ≤ k → (k ≡ i) ⊎ (suc i ≤ k)
first_or_later zero zero a = inl refl
first_or_later zero (suc k) a = inr (omega arith)
first_or_later (suc i) zero a = absurd (omega (arith, a))
first_or_later (suc i) (suc k) a = by (first_or_later i k (omega (arith, a)))
  where
    by : (k ≡ i) ⊎ (suc i ≤ k) → (suc k ≡ suc i) ⊎ (suc (suc i) ≤ suc k)
    by (inl e) = inl (ap suc e)
    by (inr h) = inr (omega (arith, h))

has_mask : (i n k : ℕ) → i ≤ k → k < i + n → Contains (names (masks_from i n)) (mask_name k)
has_mask i zero k a b = absurd (omega (arith, a, b))
has_mask i (suc n) k a b = by (first_or_later i k a) (λ h. has_mask (suc i) n k h (omega (arith, b)))
  where
    by : (k ≡ i) ⊎ (suc i ≤ k) → (suc i ≤ k → Contains (names (masks_from (suc i) n)) (mask_name k)) → Contains (names (masks_from i (suc n))) (mask_name k)
    by (inl e) later = subst (λ x. Contains (names (masks_from i (suc n))) x) (ap mask_name (sym e)) (0, omega arith, refl)
    by (inr h) later = Contains-append_right (mask_name i ∷ []) (names (masks_from (suc i) n)) (mask_name k) (later h)

each_append : {X : Type 0} (Q : X → Type 0) (xs ys : List X) → Each Q xs → Each Q ys → Each Q (xs ++ ys)
each_append Q [] ys h k = k
each_append Q (x ∷ xs) ys h k = (h.0, each_append Q xs ys h.1 k)

both_distinct : (xs ys : List (List ℕ)) → Distinct xs → Distinct ys → Each (λ x. Each (λ y. ¬ (x ≡ y)) ys) xs → Distinct (xs ++ ys)
both_distinct [] ys h k e = k
both_distinct (x ∷ xs) ys h k e = (each_append (λ y. ¬ (x ≡ y)) xs ys h.0 e.0, both_distinct xs ys h.1 k e.1)

no_mask_in : (x : List ℕ) → IsNoMask x → (i n : ℕ) → Each (λ y. ¬ (x ≡ y)) (names (masks_from i n))
no_mask_in x h i zero = tt
no_mask_in x h i (suc n) = (λ e. h i (sym e), no_mask_in x h (suc i) n)

no_masks_in : (xs : List (List ℕ)) → All IsNoMask xs → (i n : ℕ) → Each (λ x. Each (λ y. ¬ (x ≡ y)) (names (masks_from i n))) xs
no_masks_in [] h i n = tt
no_masks_in (x ∷ xs) h i n = (no_mask_in x (All-head IsNoMask x xs h) i n, no_masks_in xs (All-tail IsNoMask x xs h) i n)

later_masks : (k i n : ℕ) → k < i → i + n ≤ 2 ^ 32 → Each (λ y. ¬ (mask_name k ≡ y)) (names (masks_from i n))
later_masks k i zero h few = tt
later_masks k i (suc n) h few = (
  λ e. (let s = mask_same k i (omega (arith, h, few)) (omega (arith, few)) e in let z : ⊥ = omega (arith, h, s) in absurd z),
  later_masks k (suc i) n (omega (arith, h)) (omega (arith, few)),
)

masks_distinct : (i n : ℕ) → i + n ≤ 2 ^ 32 → Distinct (names (masks_from i n))
masks_distinct i zero few = tt
masks_distinct i (suc n) few = (later_masks i (suc i) n (omega arith) (omega (arith, few)), masks_distinct (suc i) n (omega (arith, few)))

-- ---- what is declared for a mask

declared_as : (o : Option Declaration) → IsSomeAnd o IsMask → IsSomeAnd o (λ (d : Declaration). (d.kind ≡ Logical) × (d.extent ≡ Given []))
declared_as None h = absurd h
declared_as (Some d) h = (h.kind, h.extent)

mask_prepared : (es : List Declaration) (symbols : List (List ℕ)) (deepest i : ℕ) → IsSomeAnd (declared es (mask_name i)) IsMask → IsPreparedMade es symbols deepest (made_mask i)
mask_prepared es symbols deepest i h = record {
  made = mask_long i;
  counter = λ k e. mask_counter i k e;
  declaration = declared_as (declared es (mask_name i)) h;
  extents = All-nil (IsPreparedExtent es symbols deepest);
  few = omega arith;
}

-- ---- the nest

source_names : (es : List Declaration) (xs : List (List ℕ)) → All (IsPreparedSymbol es) xs → All IsSourceName xs
source_names es xs h = All-weaker (IsPreparedSymbol es) IsSourceName (λ x p. p.name) xs h

module _ (es : List Declaration) (around : List (List ℕ)) (deepest masks : ℕ) (n : Nest) (l : Loop) (ps : Parts) (body : n.body ≡ Turns l ps)
    (few : (converted_loop n masks l ps).masks ≤ 2 ^ 32) (deep : 65 ≤ deepest) (h : IsBranching n) (own : All IsNoMask (made_names n)) (b : IsBranched es around deepest n)
    (marks : (i : ℕ) → masks ≤ i → i < (converted_loop n masks l ps).masks → IsSomeAnd (declared es (mask_name i)) IsMask) where
  abbrev m : Nest
  m = converted_loop n masks l ps

  abbrev count : ℕ
  count = m.masks - masks

  rise : masks ≤ m.masks
  rise = masks_rise_parts n.line false None ps (entered None masks masks)

  total : masks + count ≡ m.masks
  total = let r = rise in omega (arith, r)

  few_masks : masks + count ≤ 2 ^ 32
  few_masks = let t = total in omega (arith, t, few)

  facts : Facts es around deepest masks m.masks n m
  facts = record {
    line = b.parts.line;
    masks = marks;
    deep = deep;
    few = few;
    symbols = refl;
    sources = source_names es n.symbols b.parts.symbols;
    outside = b.parts.source;
    kept = λ x c. subst (λ xs. Contains xs x) (sym (names_append n.made (masks_from masks count))) (Contains-append_left (made_names n) (names (masks_from masks count)) x c);
    made = λ i lo hi. subst (λ xs. Contains xs (mask_name i)) (sym (names_append n.made (masks_from masks count)))
        (Contains-append_right (made_names n) (names (masks_from masks count)) (mask_name i) (has_mask masks count i lo (let t = total in omega (arith, t, hi))));
  }

  straight : AreStraight ps
  straight = part_straight (Turns l ps) [] (subst IsUnguarded body h.unguarded) (subst (JumpsAhead []) body h.jumps)

  free : IsFree (Turns l ps)
  free = subst IsFree body (part_free n.line n.body (front IsOther (names_in_statement (statement_of_part n.line n.body)) (names_in_block (block_then n.after (deallocations n.line n.made)))
      (made_clear n.line n.made (Rattle.tree.specs.Plain.statement (statement_of_part n.line n.body) (block_then n.after (deallocations n.line n.made))) h.names)))

  each : EachLoop (IsPreparedLoop es n.symbols) [] (Turns l ps)
  each = subst (EachLoop (IsPreparedLoop es n.symbols) []) body b.parts.loops

  abbrev Before : Standing → Type 0
  Before = Was es around deepest masks m.masks n m facts

  were : (xs : List Standing) → All (IsPreparedStatement es n deepest) xs → All (λ (x : Standing). ¬ Contains around x.statement.left.name) xs → All Before xs
  were [] s o = All-nil Before
  were (x ∷ xs) s o = All-cons Before x xs
      (record { prepared = All-head (IsPreparedStatement es n deepest) x xs s; outside = All-head (λ (x : Standing). ¬ Contains around x.statement.left.name) x xs o })
      (were xs (All-tail (IsPreparedStatement es n deepest) x xs s) (All-tail (λ (x : Standing). ¬ Contains around x.statement.left.name) x xs o))

  walked : Walked es around deepest masks m.masks n m facts (l ∷ []) (all_parts_of n.line (converted_parts n.line false None ps (entered None masks masks)).made) (loops_in_parts ps)
  walked =
      parts_walk es around deepest masks m.masks n m facts ps [] (l ∷ []) (entered None masks masks)
      (subst (JumpsAhead []) body h.jumps) straight free.3 (more_counters [] l (λ y i. absurd i) each.0.variable)
      (subst (λ (q : Part). All Before (statements_in [] q)) body (were (nest_statements n) b.parts.statements b.parts.outside))
      (subst (λ (q : Part). All (IsPreparedTest es n.symbols deepest) (tests_under [] q)) body b.tests)
      each.1
      (record { start = omega arith; ordered = omega arith; guard = tt; guard_below = tt; pending = λ x i. absurd i })
      (entered_clean None masks masks) (none_ahead _) (omega arith) (omega arith)

  same_loops : nest_loops n ≡ nest_loops m
  same_loops = ap loops_of body ∙ ap (λ ls. l ∷ ls) (sym walked.same)

  made_all : All (IsPreparedMade es n.symbols deepest) (n.made ++ masks_from masks count)
  made_all = All-append (IsPreparedMade es n.symbols deepest) n.made (masks_from masks count) b.parts.made
      (each_mask (IsPreparedMade es n.symbols deepest) masks count (λ k lo hi. mask_prepared es n.symbols deepest k (marks k lo (let t = total in omega (arith, t, hi)))))

  made_parts : AreMadeParts es around deepest m
  made_parts = record {
    line = b.parts.line;
    number = b.parts.number;
    symbols = b.parts.symbols;
    ordered = b.parts.ordered;
    few = b.parts.few;
    loops = (each.0, walked.each);
    once = subst (λ (ls : List Loop). Distinct (numbers_of ls)) same_loops b.parts.once;
    statements = All-weaker (Is es around deepest masks m.masks n m facts) (IsPreparedStatement es m deepest) (λ x i. i.prepared) (nest_statements m) walked.statements;
    made = made_all;
    made_once = subst Distinct (sym (names_append n.made (masks_from masks count)))
        (both_distinct (made_names n) (names (masks_from masks count)) b.parts.made_once (masks_distinct masks count few_masks) (no_masks_in (made_names n) own masks count));
    after = b.parts.after;
    source = b.parts.source;
    outside = All-weaker (Is es around deepest masks m.masks n m facts) (λ (x : Standing). ¬ Contains around x.statement.left.name) (λ x i. i.outside) (nest_statements m) walked.statements;
  }

pub converted_nest_is_prepared : ConvertedNestIsPrepared
converted_nest_is_prepared es around deepest masks n m e few deep h own b marks =
    let f = loop_of masks n m e in
    record {
      plain = converted_plain masks n m e (normal es n.symbols [] n.body b.parts.loops);
      parts = by f m f.made few marks;
    }
  where
    by : (f : IsLoopOf masks n m) (m : Nest) → converted_loop n masks f.loop f.within ≡ m → m.masks ≤ 2 ^ 32 → ((i : ℕ) → masks ≤ i → i < m.masks → IsSomeAnd (declared es (mask_name i)) IsMask) → AreMadeParts es around deepest m
    by f m made few marks =
        subst (AreMadeParts es around deepest) made
        (made_parts es around deepest masks n f.loop f.within f.body (subst (λ (z : Nest). z.masks ≤ 2 ^ 32) (sym made) few) deep h own b
        (subst (λ (z : Nest). (i : ℕ) → masks ≤ i → i < z.masks → IsSomeAnd (declared es (mask_name i)) IsMask) (sym made) marks))
