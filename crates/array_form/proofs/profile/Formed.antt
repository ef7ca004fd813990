-- The form of an expression has its kind, the rank of the loops that stand in it, and is not much deeper.
use Rattle.std.proofs.Common.{◌≡◌, refl, sym, ap, ◌∙◌, subst, inl, inr, ℕ, suc, ◌+◌, ◌≤◌, max, Bool, true, false, cond}
use Rattle.std.proofs.Common.{◌&&◌, ◌||◌, not, List, [], ◌∷◌, ◌++◌, length, Option, Some, None, Contains, arith, nat_le}
use Rattle.std.specs.Prelude.{IsTrue}
use Rattle.std.specs.Option.{IsSomeAnd}
use Rattle.std.proofs.lemmas.Bool.{both_ways, leb-true}
use Rattle.std.proofs.lemmas.List.{length-append, length-map}
use Rattle.std.proofs.lemmas.List.Elements.{Contains-append_left}
use mathlib.Core.Path.{ap₂}
use Rattle.tree.specs.Functions.{suits_number}
use Rattle.tree.specs.OperatorTable.{left_least, right_least, operand_kind}
use Rattle.tree.specs.declared.functions.Fun.{Fun}
use Rattle.tree.specs.declared.ops.Kind.{Kind}
use Rattle.tree.specs.declared.ops.Kind.TheVariants.{Integer}
use Rattle.tree.specs.declared.ops.Op.{Op}
use Rattle.tree.specs.Plain.{Expression, Number, Logic, Named, Unary, Binary, Apply, Constructor, Spread, Transpose}
use Rattle.tree.specs.Plain.{Reshape, Reduce, Expressions, no_expressions, expression, Subscript, Only, Section}
use Rattle.tree.specs.Plain.{Subscripts, no_subscripts, subscript, Declaration}
use Rattle.meaning.specs.Depths.{level, enclosed, depth_of, depth_of_each, depth_of_subscript, depth_of_subscripts}
use Rattle.meaning.specs.Reads.{names_in, names_in_each}
use Rattle.meaning.specs.Typed.{declared, rank_of_extent, number_of_arguments, number_of_subscripts}
use Rattle.meaning.specs.Typed90.{Conform, SuitsDimensions, HasKind, AreArguments, AreSubscripts, IsSubscript}
use Rattle.meaning.specs.Typed90.{IsIntegerScalar, rank_of, rank_of_each, rank_of_subscript, rank_of_subscripts}
use Rattle.rewrite.proofs.Profiles.{enclosed-more}
use Rattle.linear_forms.specs.Linear.{Form, form_of, is_limited}
use Rattle.linear_forms.proofs.Sizes.{both}
use Rattle.meaning_laws.proofs.arrays.Members.{here}
use Rattle.array_form.specs.forms.Following.{are_regular, are_regular_subscripts, has_no_loop, is_moved, is_regular}
use Rattle.array_form.specs.forms.Forms.{constructed, form, forms, name_form, placed_expression, section, subscript_form}
use Rattle.array_form.specs.forms.Forms.{subscript_forms, subscript_with}
use Rattle.array_form.specs.forms.Loops.{FormLoop, FormSurroundings, form_variables_of, form_names_of, loops_among, loops_in_order, one_each}
use Rattle.array_form.proofs.forms.Coefficients.{found_form}
use Rattle.array_form.proofs.forms.Forming.{none_append}
use Rattle.array_form.proofs.forms.Orders.{of_filter}
use Rattle.array_form.proofs.forms.Values.{variable_in}
use Rattle.array_form.specs.profile.Laws.{FormHasKind}
use Rattle.array_form.specs.profile.Settings.{AreSomeLoops, IsWritable}
use Rattle.array_form.proofs.profile.Among.{among_some, few_loops, filter_again, no_more_among, none_in_nothing}
use Rattle.array_form.proofs.profile.Among.{some_in_order, stands_in}
use Rattle.array_form.proofs.profile.Placed.{IsPlaced, constructed_is, placed_is}
use Rattle.array_form.proofs.profile.Texts.{section_is}

-- ---- numbers

two_deeper : (p q c d r : ℕ) → p ≤ c + r → q ≤ d + r → max p q ≤ max c d + r
two_deeper p q c d r h k = omega arith

one_deeper : (p c r : ℕ) → p ≤ c + r → 1 + p ≤ (1 + c) + r
one_deeper p c r h = omega arith

no_rank_left : (p q : ℕ) → max p q ≡ 0 → p ≡ 0
no_rank_left p q h = omega (arith, h)

no_rank_right : (p q : ℕ) → max p q ≡ 0 → q ≡ 0
no_rank_right p q h = omega (arith, h)

none_left : (p q : ℕ) → p + q ≡ 0 → p ≡ 0
none_left p q h = omega (arith, h)

none_right : (p q : ℕ) → p + q ≡ 0 → q ≡ 0
none_right p q h = omega (arith, h)

conforming : (b c : Bool) (n : ℕ) → Conform (cond b 0 n) (cond c 0 n)
conforming true c n = inl refl
conforming false true n = inr (inl refl)
conforming false false n = inr (inr refl)

greater_rank : (b c : Bool) (n : ℕ) → max (cond b 0 n) (cond c 0 n) ≡ cond (b && c) 0 n
greater_rank true true n = omega arith
greater_rank true false n = omega arith
greater_rank false true n = omega arith
greater_rank false false n = omega arith

-- ---- names

suits_too : (qs ps : Subscripts) (n : ℕ) → number_of_subscripts qs ≡ number_of_subscripts ps → SuitsDimensions ps n
    → SuitsDimensions qs n
suits_too no_subscripts ps n e h = tt
suits_too (subscript q qs) no_subscripts n e h = absurd (omega (arith, e))
suits_too (subscript q qs) (subscript p ps) n e h = e ∙ h

pub name_suits : (o : Option Declaration) (k : Kind) (qs ps : Subscripts)
    → number_of_subscripts qs ≡ number_of_subscripts ps
    → IsSomeAnd o (λ d. (k ≡ d.kind) × SuitsDimensions ps (rank_of_extent d.extent))
    → IsSomeAnd o (λ d. (k ≡ d.kind) × SuitsDimensions qs (rank_of_extent d.extent))
name_suits (Some d) k qs ps e h = (h.0, suits_too qs ps (rank_of_extent d.extent) e h.1)
name_suits None k qs ps e h = absurd h

-- a name with subscripts is no scalar variable
no_scalar : (o : Option Declaration) (k : Kind) (n : ℕ)
    → IsSomeAnd o (λ d. (k ≡ d.kind) × (1 + n ≡ rank_of_extent d.extent))
    → IsSomeAnd o (λ d. (d.kind ≡ Integer) × (rank_of_extent d.extent ≡ 0)) → ⊥
no_scalar (Some d) k n h i = let p = h.1 in let q = i.1 in absurd (omega (arith, p, q))
no_scalar None k n h i = absurd h

module _ (ds : List Declaration) where
  pub subscripts_rank : (x : List ℕ) (qs : Subscripts) (n : ℕ) → number_of_subscripts qs ≡ 1 + n
      → rank_of ds (Named x qs) ≡ rank_of_subscripts ds qs
  subscripts_rank x no_subscripts n e = absurd (omega (arith, e))
  subscripts_rank x (subscript q qs) n e = refl

  pub subscripts_no_rank : (x : List ℕ) (ps : Subscripts) → rank_of ds (Named x ps) ≡ 0 → rank_of_subscripts ds ps ≡ 0
  subscripts_no_rank x no_subscripts h = refl
  subscripts_no_rank x (subscript p ps) h = h

  -- ---- what forms have

  pub record IsFormed (D : List FormLoop) (e F : Expression) (k : Kind) : Type 0 where
    pub kind : HasKind ds F k
    pub rank : rank_of ds F ≡ cond (has_no_loop (loops_among D (names_in e))) 0 (length D)
    pub binds : level F ≡ level e
    pub depth : depth_of F ≤ depth_of e + (50 + length D)

  record AreFormed (D : List FormLoop) (es Fs : Expressions) : Type 0 where
    kinds : AreArguments ds Fs
    number : number_of_arguments Fs ≡ number_of_arguments es
    rank : rank_of_each ds Fs ≡ cond (has_no_loop (loops_among D (names_in_each es))) 0 (length D)
    depth : depth_of_each Fs ≤ depth_of_each es + (50 + length D)

  pub record AreFormedSubscripts (D : List FormLoop) (ps qs : Subscripts) : Type 0 where
    pub kinds : AreSubscripts ds qs
    pub number : number_of_subscripts qs ≡ number_of_subscripts ps
    pub rank : rank_of_subscripts ds qs ≡ length (loops_in_order D ps)
    pub depth : depth_of_subscripts qs ≤ depth_of_subscripts ps + 51

  record IsFormedSubscript (n : ℕ) (p q : Subscript) : Type 0 where
    kind : IsSubscript ds q
    rank : rank_of_subscript ds q ≡ n
    depth : depth_of_subscript q ≤ depth_of_subscript p + 51

  module _ (a : FormSurroundings) (w : IsWritable ds a) where
    -- a name with loops of D, from what was placed
    from_placed : (D : List FormLoop) (x : List ℕ) (ps : Subscripts) (k : Kind) (F : Expression) (most : ℕ)
        → most ≤ depth_of_subscripts ps + (50 + length D) → has_no_loop (loops_among D (names_in (Named x ps))) ≡ false
        → IsPlaced ds a w k (length D) most F → IsFormed D (Named x ps) F k
    from_placed D x ps k F most room some p = record {
      kind = p.kind;
      rank = p.rank ∙ sym (ap (λ b. cond b 0 (length D)) some);
      binds = p.binds;
      depth = more (depth_of F) (depth_of_subscripts ps + (50 + length D)) p.depth room;
    }
      where
        more : (m n : ℕ) → m ≤ most → most ≤ n → m ≤ n
        more m n h i = omega (arith, h, i)

    -- the loops `hs` of D
    some_of : (D hs : List FormLoop) (names : List (List ℕ)) → loops_among D names ≡ hs → (l : FormLoop) → Contains hs l
        → Contains D l
    some_of D hs names e l c = (of_filter (stands_in names) D l (subst (λ xs. Contains xs l) (sym e) c)).0

    named_is : (D : List FormLoop) (x : List ℕ) (ps : Subscripts) (k : Kind) → AreSomeLoops a D → HasKind ds (Named x ps) k
        → rank_of ds (Named x ps) ≡ 0
        → (hs : List FormLoop) → loops_among D (names_in (Named x ps)) ≡ hs → (qs : Subscripts)
        → (has_no_loop hs ≡ false → one_each D ps ≡ true → AreFormedSubscripts D ps qs)
        → IsFormed D (Named x ps) (name_form a D hs x ps qs) k
    named_is D x ps k s t r [] e qs each = record {
      kind = t;
      rank = r ∙ sym (ap (λ (xs : List FormLoop). cond (has_no_loop xs) 0 (length D)) e);
      binds = refl;
      depth = omega arith;
    }
    named_is D x no_subscripts k s t r (l ∷ ls) e qs each =
        let hs = l ∷ ls in
        let alone = Named x no_subscripts in
        let values = constructed (form_names_of a) hs alone in
        let seven = few_loops a D s w.few in
        let shorter : length hs ≤ length D =
        subst (λ (xs : List FormLoop). length xs ≤ length D) e (no_more_among (stands_in (names_in alone)) D) in
        let inside : (m : FormLoop) → Contains hs m → Contains a.loops m =
        λ m c. s.among m (some_of D hs (names_in alone) e m c) in
        let c = constructed_is ds a w hs alone k (omega arith) inside (omega (arith, shorter, seven)) t r in
        let plain : IsPlaced ds a w k (length hs) (50 + 1) values =
        record { kind = c.kind; rank = c.rank; depth = more (depth_of values) c.depth; binds = c.binds } in
        from_placed D x no_subscripts k (placed_expression a D hs values alone) (50 + length D) (omega arith) (ap has_no_loop e)
        (placed_is ds a w D hs values alone k 50 (omega (arith, shorter)) s.among seven (omega arith) (omega arith) plain t r
        (omega arith))
      where
        more : (n : ℕ) → n ≤ 0 + 30 → n ≤ 50 + 1
        more n h = omega (arith, h)
    named_is D x (subscript p ps) k s t r (l ∷ ls) e qs each = by (one_each D (subscript p ps)) refl
      where
        shorter : 1 ≤ length D
        shorter = let h = subst (λ (xs : List FormLoop). length xs ≤ length D) e
            (no_more_among (stands_in (names_in (Named x (subscript p ps)))) D) in above (length ls) h
          where
            above : (n : ℕ) → suc n ≤ length D → 1 ≤ length D
            above n h = omega (arith, h)

        apart : (m : FormLoop) → Contains D m → x ≡ m.variable → ⊥
        apart m c f =
            let v = Contains-append_left (form_variables_of a.loops) a.symbols m.variable (variable_in a.loops m (s.among m c)) in
            no_scalar (declared ds x) k (number_of_subscripts ps) t.0
            (subst (IsIntegerScalar ds) (sym f) (w.integers m.variable v))

        whole : Expression
        whole = Named x (subscript p ps)

        deep : ℕ
        deep = depth_of_subscripts (subscript p ps)

        one_of : one_each D (subscript p ps) ≡ true
            → IsFormed D whole (placed_expression a D (loops_in_order D (subscript p ps)) (Named x qs) whole) k
        one_of o =
            let f = each refl o in
            let hs = loops_in_order D (subscript p ps) in
            let plain : IsPlaced ds a w k (length hs) ((deep + 50) + 1) (Named x qs) = record {
              kind = (name_suits (declared ds x) k qs (subscript p ps) f.number t.0, f.kinds);
              rank = subscripts_rank x qs (number_of_subscripts ps) f.number ∙ f.rank;
              depth = more (depth_of_subscripts qs) deep f.depth;
              binds = refl;
            } in
            let some = some_in_order D x (subscript p ps) apart (ap has_no_loop e) in
            from_placed D x (subscript p ps) k (placed_expression a D hs (Named x qs) whole) ((deep + 50) + length D) (regrouped deep)
            (ap has_no_loop e)
            (placed_is ds a w D hs (Named x qs) whole k (deep + 50) shorter s.among (few_loops a D s w.few) some (room deep)
            plain t r (within deep))
          where
            more : (n d : ℕ) → n ≤ d + 51 → n ≤ (d + 50) + 1
            more n d h = omega (arith, h)

            room : (d : ℕ) → 20 ≤ d + 50
            room d = omega arith

            within : (d : ℕ) → d + 30 ≤ (d + 50) + 1
            within d = omega arith

            regrouped : (d : ℕ) → (d + 50) + length D ≤ d + (50 + length D)
            regrouped d = omega arith

        list : Expression
        list = constructed (form_names_of a) D whole

        as_list : IsFormed D whole list k
        as_list =
            from_placed D x (subscript p ps) k list (deep + 30) (within deep) (ap has_no_loop e)
            (constructed_is ds a w D whole k shorter s.among (few_loops a D s w.few) t r)
          where
            within : (d : ℕ) → d + 30 ≤ d + (50 + length D)
            within d = omega arith

        by : (b : Bool) → one_each D (subscript p ps) ≡ b
            → IsFormed D whole (cond b (placed_expression a D (loops_in_order D (subscript p ps)) (Named x qs) whole) list) k
        by true o = one_of o
        by false o = as_list

    -- ---- subscripts

    subscript_is : (D : List FormLoop) (e : Expression) → AreSomeLoops a D → HasKind ds e Integer → rank_of ds e ≡ 0
        → (hs : List FormLoop) → loops_among D (names_in e) ≡ hs → length hs ≤ 1
        → (F : Expression) (o : Option Form) → form_of (form_variables_of a.loops) a.symbols e ≡ o → (b : Bool)
        → is_moved a hs o b ≡ true → (b ≡ true → IsFormed hs e F Integer)
        → IsFormedSubscript (length hs) (Only e) (subscript_with a hs e F o)
    subscript_is D e s t r [] q one F o f b m inner =
        record { kind = (t, below (rank_of ds e) r); rank = r; depth = omega arith }
      where
        below : (n : ℕ) → n ≡ 0 → n ≤ 1
        below n h = omega (arith, h)
    subscript_is D e s t r (l ∷ ls) q one F (Some g) f b m inner =
        let found = found_form (form_variables_of a.loops) a.symbols e g f in
        let limits = subst (λ (n : ℕ). is_limited n g ≡ true)
        (length-map a.loops (λ (l : FormLoop). l.variable)) found.limits in
        let i = section_is ds a w l g (s.among l (some_of D (l ∷ ls) (names_in e) q l (here l ls))) limits in
        record { kind = i.0; rank = single (length ls) one; depth = more (depth_of_subscript (section a l g)) i.1 }
      where
        single : (n : ℕ) → suc n ≤ 1 → 1 ≡ suc n
        single n h = omega (arith, h)

        more : (n : ℕ) → n ≤ 42 → n ≤ depth_of e + 51
        more n h = omega (arith, h)
    subscript_is D e s t r (l ∷ ls) q one F None f b m inner =
        let i = inner m in
        let again : loops_among (l ∷ ls) (names_in e) ≡ l ∷ ls = subst
        (λ (xs : List FormLoop). loops_among xs (names_in e) ≡ xs) q (filter_again (stands_in (names_in e)) D) in
        let rank : rank_of ds F ≡ suc (length ls) = i.rank
        ∙ ap (λ (xs : List FormLoop). cond (has_no_loop xs) 0 (length (l ∷ ls))) again in
        record { kind = (i.kind, below (rank_of ds F) rank); rank = rank; depth = more (depth_of F) i.depth }
      where
        below : (n : ℕ) → n ≡ suc (length ls) → n ≤ 1
        below n h = omega (arith, h, one)

        more : (n : ℕ) → n ≤ depth_of e + (50 + suc (length ls)) → n ≤ depth_of e + 51
        more n h = omega (arith, h, one)

    no_subscripts_are : (D : List FormLoop) → AreFormedSubscripts D no_subscripts no_subscripts
    no_subscripts_are D = record { kinds = tt; number = refl; rank = refl; depth = omega arith }

    one_more : (D : List FormLoop) (e : Expression) (q : Subscript) (ps qs : Subscripts)
        → IsFormedSubscript (length (loops_among D (names_in e))) (Only e) q → AreFormedSubscripts D ps qs
        → AreFormedSubscripts D (subscript (Only e) ps) (subscript q qs)
    one_more D e q ps qs i s = record {
      kinds = (i.kind, s.kinds);
      number = ap (λ n. 1 + n) s.number;
      rank = ap₂ (λ m n. m + n) i.rank s.rank ∙ sym (length-append (loops_among D (names_in e)) (loops_in_order D ps));
      depth = two_deeper (1 + depth_of_subscript q) (depth_of_subscripts qs) (1 + depth_of e)
          (depth_of_subscripts ps) 51 (one_deeper (depth_of_subscript q) (depth_of e) 51 i.depth) s.depth;
    }

    -- ---- operators and functions

    operand_deeper : (D : List FormLoop) (least : ℕ) (e F : Expression) (k : Kind) → IsFormed D e F k
        → enclosed least (level F) (depth_of F) ≤ enclosed least (level e) (depth_of e) + (50 + length D)
    operand_deeper D least e F k i =
        subst (λ (n : ℕ). enclosed least n (depth_of F) ≤ enclosed least (level e) (depth_of e) + (50 + length D))
        (sym i.binds) (enclosed-more least (level e) (depth_of F) (depth_of e) (50 + length D) i.depth)

    unary_is : (D : List FormLoop) (o : Op) (e F : Expression) (k : Kind) → HasKind ds (Unary o e) k
        → IsFormed D e F (operand_kind o) → IsFormed D (Unary o e) (Unary o F) k
    unary_is D o e F k t i = record {
      kind = (t.0, t.1, i.kind);
      rank = i.rank;
      binds = refl;
      depth = one_deeper (enclosed (right_least o) (level F) (depth_of F))
          (enclosed (right_least o) (level e) (depth_of e)) (50 + length D)
          (operand_deeper D (right_least o) e F (operand_kind o) i);
    }

    -- ranks of two forms, and that of both
    two_ranks : (D : List FormLoop) (ys zs : List (List ℕ)) (m n : ℕ) → m ≡ cond (has_no_loop (loops_among D ys)) 0 (length D)
        → n ≡ cond (has_no_loop (loops_among D zs)) 0 (length D)
        → Conform m n × (max m n ≡ cond (has_no_loop (loops_among D (ys ++ zs))) 0 (length D))
    two_ranks D ys zs m n h k =
        let b = has_no_loop (loops_among D ys) in
        let c = has_no_loop (loops_among D zs) in
        let suits = conforming b c (length D) in (
          subst (λ (n : ℕ). Conform m n) (sym k) (subst (λ (m : ℕ). Conform m (cond c 0 (length D))) (sym h) suits),
          ap₂ max h k
              ∙ (greater_rank b c (length D) ∙ ap (λ (b : Bool). cond b 0 (length D)) (sym (none_append D ys zs))),
        )

    binary_is : (D : List FormLoop) (o : Op) (e f F G : Expression) (k : Kind) → HasKind ds (Binary o e f) k
        → IsFormed D e F (operand_kind o) → IsFormed D f G (operand_kind o)
        → IsFormed D (Binary o e f) (Binary o F G) k
    binary_is D o e f F G k t i j =
        let r = two_ranks D (names_in e) (names_in f) (rank_of ds F) (rank_of ds G) i.rank j.rank in
        let p = enclosed (left_least o) (level F) (depth_of F) in
        let q = enclosed (right_least o) (level G) (depth_of G) in
        let c = enclosed (left_least o) (level e) (depth_of e) in
        let d = enclosed (right_least o) (level f) (depth_of f) in
        record {
          kind = (t.0, t.1, i.kind, j.kind, r.0);
          rank = r.1;
          binds = refl;
          depth = one_deeper (max p q) (max c d) (50 + length D) (two_deeper p q c d (50 + length D)
              (operand_deeper D (left_least o) e F (operand_kind o) i)
              (operand_deeper D (right_least o) f G (operand_kind o) j));
        }

    no_arguments_are : (D : List FormLoop) → AreFormed D no_expressions no_expressions
    no_arguments_are D = record {
      kinds = tt;
      number = refl;
      rank = sym (ap (λ b. cond b 0 (length D)) (none_in_nothing D));
      depth = omega arith;
    }

    one_argument_more : (D : List FormLoop) (e F : Expression) (es Fs : Expressions) → IsFormed D e F Integer
        → AreFormed D es Fs → AreFormed D (expression e es) (expression F Fs)
    one_argument_more D e F es Fs i s =
        let r = two_ranks D (names_in e) (names_in_each es) (rank_of ds F) (rank_of_each ds Fs) i.rank s.rank in
        record {
          kinds = (i.kind, r.0, s.kinds);
          number = ap (λ n. 1 + n) s.number;
          rank = r.1;
          depth = two_deeper (depth_of F) (depth_of_each Fs) (depth_of e) (depth_of_each es) (50 + length D) i.depth s.depth;
        }

    applied_is : (D : List FormLoop) (f : Fun) (es Fs : Expressions) (k : Kind) → HasKind ds (Apply f es) k
        → AreFormed D es Fs → IsFormed D (Apply f es) (Apply f Fs) k
    applied_is D f es Fs k t s = record {
      kind = (subst (λ (n : ℕ). IsTrue (suits_number f n)) (sym s.number) t.0, t.1, t.2, s.kinds);
      rank = s.rank;
      binds = refl;
      depth = one_deeper (depth_of_each Fs) (depth_of_each es) (50 + length D) s.depth;
    }

    -- what stays as it is
    stays : (D : List FormLoop) (e : Expression) (k : Kind) → HasKind ds e k → rank_of ds e ≡ 0
        → has_no_loop (loops_among D (names_in e)) ≡ true → IsFormed D e e k
    stays D e k t r h =
        record { kind = t; rank = r ∙ sym (ap (λ b. cond b 0 (length D)) h); binds = refl; depth = omega arith }

    regular_subscripts : (b c d : Bool) → b ≡ false → c ≡ true → (b || (not c || d)) ≡ true → d ≡ true
    regular_subscripts true c d e f h = absurd (both_ways true e refl)
    regular_subscripts false true d e f h = h
    regular_subscripts false false d e f h = absurd (both_ways false refl f)

    -- ---- each expression

    mutual
      pub formed : (e : Expression) (D : List FormLoop) (k : Kind) → AreSomeLoops a D → HasKind ds e k → rank_of ds e ≡ 0
          → is_regular a D e ≡ true → IsFormed D e (form a D e) k
      formed (Number n) D k s t r h = stays D (Number n) k t r (none_in_nothing D)
      formed (Logic b) D k s t r h = stays D (Logic b) k t r (none_in_nothing D)
      formed (Named x ps) D k s t r h =
          let none = has_no_loop (loops_among D (names_in (Named x ps))) in
          named_is D x ps k s t r (loops_among D (names_in (Named x ps))) refl (subscript_forms a D ps)
          (λ some o. formed_subscripts ps D s t.1 (subscripts_no_rank x ps r)
          (regular_subscripts none (one_each D ps) (are_regular_subscripts a D ps) some o h) o)
      formed (Unary o e) D k s t r h = unary_is D o e (form a D e) k t (formed e D (operand_kind o) s t.2 r h)
      formed (Binary o e f) D k s t r h =
          let parts = both (is_regular a D e) (is_regular a D f) h in
          binary_is D o e f (form a D e) (form a D f) k t
          (formed e D (operand_kind o) s t.2 (no_rank_left (rank_of ds e) (rank_of ds f) r) parts.0)
          (formed f D (operand_kind o) s t.3 (no_rank_right (rank_of ds e) (rank_of ds f) r) parts.1)
      formed (Apply f es) D k s t r h = applied_is D f es (forms a D es) k t (formed_arguments es D s t.3 r h)
      formed (Reduce c e) D k s t r h = stays D (Reduce c e) k t r h
      formed (Constructor es ls) D k s t r h = absurd (both_ways false refl h)
      formed (Spread e i n) D k s t r h = absurd (both_ways false refl h)
      formed (Transpose e) D k s t r h = absurd (both_ways false refl h)
      formed (Reshape e es) D k s t r h = absurd (both_ways false refl h)

      formed_arguments : (es : Expressions) (D : List FormLoop) → AreSomeLoops a D → AreArguments ds es
          → rank_of_each ds es ≡ 0 → are_regular a D es ≡ true → AreFormed D es (forms a D es)
      formed_arguments no_expressions D s t r h = no_arguments_are D
      formed_arguments (expression e es) D s t r h =
          let parts = both (is_regular a D e) (are_regular a D es) h in
          one_argument_more D e (form a D e) es (forms a D es)
          (formed e D Integer s t.0 (no_rank_left (rank_of ds e) (rank_of_each ds es) r) parts.0)
          (formed_arguments es D s t.2 (no_rank_right (rank_of ds e) (rank_of_each ds es) r) parts.1)

      pub formed_subscripts : (ps : Subscripts) (D : List FormLoop) → AreSomeLoops a D → AreSubscripts ds ps
          → rank_of_subscripts ds ps ≡ 0 → are_regular_subscripts a D ps ≡ true → one_each D ps ≡ true
          → AreFormedSubscripts D ps (subscript_forms a D ps)
      formed_subscripts no_subscripts D s t r h o = no_subscripts_are D
      formed_subscripts (subscript (Only e) ps) D s t r h o =
          let hs = loops_among D (names_in e) in
          let parts = both (is_moved a hs (form_of (form_variables_of a.loops) a.symbols e) (is_regular a hs e))
          (are_regular_subscripts a D ps) h in
          let ones = both (nat_le (length hs) 1) (one_each D ps) o in
          let none = none_left (rank_of ds e) (rank_of_subscripts ds ps) r in
          one_more D e (subscript_form a hs e (form a hs e)) ps (subscript_forms a D ps)
          (subscript_is D e s t.0.0 none hs refl (leb-true (length hs) 1 ones.0) (form a hs e)
          (form_of (form_variables_of a.loops) a.symbols e) refl (is_regular a hs e) parts.0
          (λ g. formed e (loops_among D (names_in e)) Integer (among_some a D (names_in e) s) t.0.0 none g))
          (formed_subscripts ps D s t.1 (none_right (rank_of ds e) (rank_of_subscripts ds ps) r) parts.1 ones.1)
      formed_subscripts (subscript (Section b c d) ps) D s t r h o = absurd (both_ways false refl h)

pub form_kinds : FormHasKind
form_kinds ds a D e k w s t h =
    let f = formed ds a w e D k s t.0 t.1 h in
    let seven = few_loops a D s w.few in
    record {
      kind = f.kind;
      rank = f.rank;
      depth = within (depth_of (form a D e)) (depth_of e) (length D) f.depth seven;
    }
  where
    within : (m n l : ℕ) → m ≤ n + (50 + l) → l ≤ 7 → m ≤ n + 100
    within m n l i j = omega (arith, i, j)
