-- The statements of a block are well nested, where each label stands once.
use Rattle.std.proofs.Common.{◌≡◌, ◌⊎◌, inl, inr, ℕ, ◌==◌, nat_eq, Bool, true, false, not, ◌&&◌, ◌||◌, cond, Option, None, Some}
use Rattle.std.proofs.Common.{List, [], ◌∷◌, ◌++◌, reverse, refl, sym, ap, subst, ◌∙◌, arith, append_assoc, append-nil}
use Rattle.std.proofs.lemmas.Bool.Decides.{nat_tests}
use Rattle.std.proofs.lemmas.List.{reverse-append}
use Rattle.std.specs.List.{AllByRecursion, list_any}
use Rattle.tree.specs.Plain as tree
use Rattle.meaning.specs.Store.{Store}
use Rattle.f77_grammar.specs.Statement77.{Labelled, Statement77, If, ElseIf, Else, EndIf, Do, EndDo}
use Rattle.f77_grammar.specs.program.Text.{Place77, places, places_from, is_label, bears, label_stands_in, is_block_if}
use Rattle.f77_grammar.specs.program.Text.{is_last_else, is_end_if, ends_in, loop_ends_in, without_ended}
use Rattle.f77_grammar.specs.program.Labels.{is_wrong_label77}
use Rattle.f77_grammar.specs.program.Nesting.{until_if, own_since_if, has_open_if, is_do_of, begins_loop}
use Rattle.f77_grammar.specs.program.Nesting.{since_if, since_do, is_loop_open, is_anything_open, suits_else}
use Rattle.f77_grammar.specs.program.Nesting.{is_no_loop_end, ends_loops_wrongly, stays_open77, nests_wrongly}
use Rattle.f77_grammar.specs.program.Nesting.{is_nested_wrongly, ends_not_one, is_other_open}
use Rattle.f77_grammar.specs.program.Uses.{Use77}
use Rattle.f77_laws.specs.trees.Steps.{rest_from}
use Rattle.f77_grammar.specs.program.Blocks.{AreBlock77}
use Rattle.f77_laws.specs.trees.Laws.{IsWellNested, StandOnce, NestedFormBlock}
use Rattle.f77_laws.proofs.trees.Lists.{right_false, both_false, or_right, not_both}
use Rattle.f77_laws.proofs.trees.Moves.{label_free}
use Rattle.f77_laws.proofs.trees.Begun.{made_in}
use Rattle.f77_laws.proofs.trees.Formed.{text_formed}
use Rattle.f77_laws.proofs.trees.Pairs.{BackPaired, none, single, double, reverse_one, left_if, left_end, left_first}
use Rattle.f77_laws.proofs.trees.Pairs.{all_passed, no_if_left, not_end, is_open, since_is, end_if_is_partner}
use Rattle.f77_laws.proofs.trees.Splits.{InFirst, InSecond, split_append, LackElse, lacks_none, lacks_one, lacks_pair}
use Rattle.f77_laws.proofs.trees.Splits.{CloseLoops, any_append, IsUpTo, up_to_right, range_has, HasRange, HasDo}
use Rattle.f77_laws.proofs.trees.Splits.{StandsInIf, HasNoElse}
use Rattle.f77_laws.proofs.trees.Splits.{Stands, AreWhole}
use Rattle.f77_laws.proofs.trees.Wholes.{block_whole}

-- ---- labels that stand once

pub once_after : (before xs : List Labelled) (m : ℕ)
    → AllByRecursion (λ (p : Place77). is_wrong_label77 p.before p.here.label ≡ false) (places_from before xs)
    → label_stands_in before m ≡ true → label_stands_in xs m ≡ false
once_after before [] m h g = refl
once_after before (x ∷ xs) m h g =
    both_false (bears m x) (label_stands_in xs m) (label_free before m x.label g h.0)
    (once_after (x ∷ before) xs m h.1 (or_right (bears m x) (label_stands_in before m) g))

once_behind : (before front rest : List Labelled) (m : ℕ)
    → AllByRecursion (λ (p : Place77). is_wrong_label77 p.before p.here.label ≡ false) (places_from before (front ++ rest))
    → label_stands_in front m ≡ true → label_stands_in rest m ≡ false
once_behind before [] rest m h g = absurd (not_both false g refl)
once_behind before (f ∷ fs) rest m h g = by (bears m f) refl g (once_behind (f ∷ before) fs rest m h.1)
  where
    by : (b : Bool) → bears m f ≡ b → (b || label_stands_in fs m) ≡ true
        → (label_stands_in fs m ≡ true → label_stands_in rest m ≡ false) → label_stands_in rest m ≡ false
    by true e g more =
        right_false (label_stands_in fs m) (label_stands_in rest m)
        (sym (any_append (bears m) fs rest)
        ∙ once_after (f ∷ before) (fs ++ rest) m h.1 (ap (λ b. b || label_stands_in before m) e))
    by false e g more = more g

apart : (text front rest : List Labelled) (m : ℕ) → StandOnce text → text ≡ front ++ rest → label_stands_in front m ≡ true
    → label_stands_in rest m ≡ false
apart text front rest m h e g = once_behind [] front rest m (subst (λ (zs : List Labelled). StandOnce zs) e h) g

pub stands_left : (n : ℕ) (xs ys : List Labelled) → label_stands_in xs n ≡ true → label_stands_in (xs ++ ys) n ≡ true
stands_left n xs ys h = any_append (bears n) xs ys ∙ ap (λ b. b || label_stands_in ys n) h

pub stands_right : (n : ℕ) (xs ys : List Labelled) → label_stands_in ys n ≡ true → label_stands_in (xs ++ ys) n ≡ true
stands_right n xs ys h = any_append (bears n) xs ys ∙ or_right (label_stands_in xs n) (label_stands_in ys n) h

-- ---- lists turned round

any_reverse : (test : Labelled → Bool) (xs : List Labelled) → list_any test (reverse xs) ≡ list_any test xs
any_reverse test [] = refl
any_reverse test (x ∷ xs) =
    ap (list_any test) (reverse_one x xs) ∙ any_append test (reverse xs) (x ∷ [])
    ∙ ap (λ b. b || (test x || false)) (any_reverse test xs) ∙ turn (list_any test xs) (test x)
  where
    turn : (a b : Bool) → (a || (b || false)) ≡ (b || a)
    turn true true = refl
    turn true false = refl
    turn false true = refl
    turn false false = refl

reverse_mid : (xs : List Labelled) (x : Labelled) (ys : List Labelled)
    → reverse (xs ++ x ∷ ys) ≡ reverse ys ++ (x ∷ reverse xs)
reverse_mid xs x ys =
    reverse-append xs (x ∷ ys) ∙ ap (λ zs. zs ++ reverse xs) (reverse_one x ys)
    ∙ append_assoc (reverse ys) (x ∷ []) (reverse xs)

-- ---- loops that have ended

itself : (n : ℕ) → nat_eq n n ≡ true
itself n = grind (arith, nat_tests)

none_open : (back zs : List Labelled) → ((m : ℕ) → list_any (begins_loop m) zs ≡ true → label_stands_in back m ≡ false)
    → is_loop_open zs back ≡ false
none_open back [] h = refl
none_open back (z ∷ zs) h =
    both_false (loop_ends_in back z) (list_any (loop_ends_in back) zs) (step z.statement refl)
    (none_open back zs (λ m e. h m (or_right (begins_loop m z) (list_any (begins_loop m) zs) e)))
  where
    step : (o : Statement77) → z.statement ≡ o → ends_in back z.statement ≡ false
    step (Do (Some n) v a b c) e =
        ap (ends_in back) e
        ∙ h n (ap (λ t. t || list_any (begins_loop n) zs) (ap (is_do_of n) e ∙ itself n))
    step o e = ap (ends_in back) e

none_open_since : (between back : List Labelled) → CloseLoops between
    → ((m : ℕ) → label_stands_in between m ≡ true → label_stands_in back m ≡ false) → is_loop_open (reverse between) back ≡ false
none_open_since between back h g =
    none_open back (reverse between) (λ m e. g m (h m (sym (any_reverse (begins_loop m) between) ∙ e)))

-- ---- no ELSE

abbrev shows_else : List Labelled → Bool
shows_else zs = list_any (λ (z : Labelled). is_last_else z.statement) (until_if zs)

else_left : (xs ys : List Labelled) → LackElse xs
    → shows_else (without_ended (xs ++ ys) 0) ≡ shows_else (without_ended ys 0)
else_left xs ys lacks_none = refl
else_left xs ys (lacks_one x zs a b c h) =
    ap shows_else (left_first x.statement x (without_ended (zs ++ ys)) b)
    ∙ ap (λ t. list_any (λ (z : Labelled). is_last_else z.statement)
    (cond t [] (x ∷ until_if (without_ended (zs ++ ys) 0)))) a
    ∙ ap (λ t. t || shows_else (without_ended (zs ++ ys) 0)) c
    ∙ else_left zs ys h
else_left xs ys (lacks_pair x end between zs a b h g) =
    ap shows_else
    (left_end end.statement end (without_ended ((between ++ x ∷ zs) ++ ys)) 0 b
    ∙ ap (λ ws. without_ended ws 1) (append_assoc between (x ∷ zs) ys)
    ∙ all_passed between (x ∷ (zs ++ ys)) 0 h
    ∙ left_if x.statement x (without_ended (zs ++ ys)) 0 a)
    ∙ else_left zs ys g

no_else : (between : List Labelled) (x : Labelled) (earlier : List Labelled) → LackElse between
    → is_block_if x.statement ≡ true
    → list_any (λ (z : Labelled). is_last_else z.statement) (own_since_if (between ++ x ∷ earlier)) ≡ false
no_else between x earlier h a =
    else_left between (x ∷ earlier) h
    ∙ ap shows_else (left_first x.statement x (without_ended earlier) (not_end x.statement a))
    ∙ ap (λ t. list_any (λ (z : Labelled). is_last_else z.statement)
    (cond t [] (x ∷ until_if (without_ended earlier 0)))) a

-- ---- the first DO of a label

record FirstDo (n : ℕ) (xs : List Labelled) : Type 0 where
  before : List Labelled
  here : Labelled
  since : List Labelled
  whole : xs ≡ before ++ here ∷ since
  begins : begins_loop n here ≡ true
  first : list_any (begins_loop n) before ≡ false

first_do : (n : ℕ) (xs : List Labelled) → list_any (begins_loop n) xs ≡ true → FirstDo n xs
first_do n [] h = absurd (not_both false h refl)
first_do n (x ∷ xs) h = by (begins_loop n x) refl (first_do n xs) h
  where
    by : (b : Bool) → begins_loop n x ≡ b → (list_any (begins_loop n) xs ≡ true → FirstDo n xs)
        → (b || list_any (begins_loop n) xs) ≡ true → FirstDo n (x ∷ xs)
    by true e more g = record { before = []; here = x; since = xs; whole = refl; begins = e; first = refl }
    by false e more g =
        let k = more g in
        record {
          before = x ∷ k.before;
          here = k.here;
          since = k.since;
          whole = ap (λ zs. x ∷ zs) k.whole;
          begins = k.begins;
          first = both_false (begins_loop n x) (list_any (begins_loop n) k.before) e k.first;
        }

since_first : (n : ℕ) (bs : List Labelled) (d : Labelled) (es : List Labelled) → begins_loop n d ≡ true
    → list_any (begins_loop n) es ≡ false → since_do n (bs ++ d ∷ es) ≡ bs
since_first n [] d es h g = ap (λ t. cond t (d ∷ since_do n es) []) g
since_first n (b ∷ bs) d es h g =
    ap (λ t. cond t (b ∷ since_do n (bs ++ d ∷ es)) [])
    (any_append (begins_loop n) bs (d ∷ es)
    ∙ or_right (list_any (begins_loop n) bs) (list_any (begins_loop n) (d ∷ es))
    (ap (λ t. t || list_any (begins_loop n) es) h))
    ∙ ap (λ zs. b ∷ zs) (since_first n bs d es h g)

-- ---- what ends a range

no_end_if : (o : Statement77) → is_no_loop_end o ≡ false → is_end_if o ≡ false
no_end_if EndIf h = absurd (not_both true refl h)
no_end_if o h = refl

paired_tail : (x : Labelled) (zs ws : List Labelled) → BackPaired ws → ws ≡ x ∷ zs → is_end_if x.statement ≡ false
    → BackPaired zs
paired_tail x zs ws none e h = absurd cc
paired_tail x zs ws (single y ys a b k) e h =
    let t : ys ≡ zs = cc in subst (λ (vs : List Labelled). BackPaired vs) t k
paired_tail x zs ws (double y end between ys a b k g) e h =
    let t : end ≡ x = cc in
    absurd (not_both (is_end_if end.statement) b (ap (λ (z : Labelled). is_end_if z.statement) t ∙ h))

-- ---- a statement of a block

module _ (us : List Use77) (s : Store) (named : List ℕ) (text : List Labelled) (once : StandOnce text)
    (w : AreWhole us s named text) where
  range_of : (n : ℕ) (front : List Labelled) (end : Option ℕ) (o : Statement77) (back : List Labelled)
      → is_do_of n o ≡ true → Stands us s named front end o back → HasRange n back
  range_of n front end (Do (Some m) v a b c) back e h =
      let g : nat_eq m n ≡ true = e in
      let t : m ≡ n = grind (arith, nat_tests) in
      subst (λ (k : ℕ). HasRange k back) t h
  range_of n front end o back e h = absurd (not_both false e refl)

  module _ (front : List Labelled) (x : Labelled) (back : List Labelled) (is_at : text ≡ front ++ x ∷ back) where
    abbrev p : Place77
    p = record { before = reverse front; here = x; after = back }

    stays : (o : Statement77) → x.statement ≡ o → Stands us s named front x.label o back → stays_open77 o p ≡ false
    stays (If c) e h =
        ap not
        ((end_if_is_partner x back (ap is_block_if e)).1
        (record {
          between = h.between;
          end = h.end;
          later = h.rest;
          whole = h.whole;
          ends = record { is_if = ap is_block_if e; is_end = h.is_end; paired = h.paired };
        }))
    stays o e h = refl

    -- in a block IF
    turned : (h : StandsInIf front) → reverse front ≡ reverse h.between ++ (h.x ∷ reverse h.earlier)
    turned h = ap reverse h.whole ∙ reverse_mid h.earlier h.x h.between

    if_open : StandsInIf front → has_open_if (reverse front) ≡ true
    if_open h = ap has_open_if (turned h) ∙ is_open (reverse h.between) h.x (reverse h.earlier) h.paired h.is_if

    since_there : (h : StandsInIf front) → since_if (reverse front) ≡ reverse h.between
    since_there h = ap since_if (turned h) ∙ since_is (reverse h.between) h.x (reverse h.earlier) h.paired h.is_if

    stand_no_more : (h : StandsInIf front) (m : ℕ) → label_stands_in h.between m ≡ true → label_stands_in (x ∷ back) m ≡ false
    stand_no_more h m e =
        apart text front (x ∷ back) m once is_at
        (ap (λ zs. label_stands_in zs m) h.whole
        ∙ stands_right m h.earlier (h.x ∷ h.between) (or_right (bears m h.x) (label_stands_in h.between m) e))

    loops_ended : StandsInIf front → is_loop_open (since_if (reverse front)) (x ∷ back) ≡ false
    loops_ended h =
        ap (λ zs. is_loop_open zs (x ∷ back)) (since_there h)
        ∙ none_open_since h.between (x ∷ back) h.closed (stand_no_more h)

    loops_ended_after : StandsInIf front → is_loop_open (since_if (reverse front)) back ≡ false
    loops_ended_after h =
        ap (λ zs. is_loop_open zs back) (since_there h)
        ∙ none_open_since h.between back h.closed
        (λ m e. right_false (bears m x) (label_stands_in back m) (stand_no_more h m e))

    suits : HasNoElse front → suits_else p ≡ true
    suits h =
        three (has_open_if (reverse front)) (is_loop_open (since_if (reverse front)) (x ∷ back))
        (list_any (λ (z : Labelled). is_last_else z.statement) (own_since_if (reverse front)))
        (if_open h.within) (loops_ended h.within)
        (ap (λ zs. list_any (λ (z : Labelled). is_last_else z.statement) (own_since_if zs)) (turned h.within)
        ∙ no_else (reverse h.within.between) h.within.x (reverse h.within.earlier) h.lacks h.within.is_if)
      where
        three : (a b c : Bool) → a ≡ true → b ≡ false → c ≡ false → ((a && not b) && not c) ≡ true
        three a b c d e f = ap (λ t. (t && not b) && not c) d ∙ ap (λ t. not t && not c) e ∙ ap not f

    -- ---- at the label of a loop

    module _ (n : ℕ) (bears_it : bears n x ≡ true) (d : FirstDo n front) where
      range : HasRange n (d.since ++ x ∷ back)
      range =
          range_of n d.before d.here.label d.here.statement (d.since ++ x ∷ back) d.begins
          (w.stand d.before d.here (d.since ++ x ∷ back)
          (is_at ∙ ap (λ zs. zs ++ x ∷ back) d.whole ∙ append_assoc d.before (d.here ∷ d.since) (x ∷ back)))

      no_mid : (xs mid : List Labelled) → IsUpTo n (d.since ++ x ∷ mid) → mid ≡ []
      no_mid xs [] r = refl
      no_mid xs (y ∷ ys) r = absurd (not_both (bears n x) bears_it (up_to_right n d.since x (y ∷ ys) r).0)

      first_false : (a b : Bool) → (a || b) ≡ false → a ≡ false
      first_false true b h = absurd (not_both true refl h)
      first_false false b h = refl

      -- the statement ends the range
      cut : (r : HasRange n (d.since ++ x ∷ back))
          → InFirst r.range r.rest d.since x back ⊎ InSecond r.range r.rest d.since x back
          → r.range ≡ d.since ++ x ∷ []
      cut r (inl k) =
          k.left
          ∙ ap (λ zs. d.since ++ x ∷ zs)
          (no_mid [] k.mid (subst (λ (zs : List Labelled). IsUpTo n zs) k.left r.up_to))
      cut r (inr k) =
          absurd (not_both (bears n x) bears_it
          (first_false (bears n x) (label_stands_in back n)
          (apart text front (x ∷ back) n once is_at
          (ap (λ zs. label_stands_in zs n) (d.whole ∙ ap (λ zs. d.before ++ d.here ∷ zs) k.left)
          ∙ stands_right n d.before (d.here ∷ (r.range ++ k.mid))
          (or_right (bears n d.here) (label_stands_in (r.range ++ k.mid) n)
          (stands_left n r.range k.mid (range_has n r.range r.up_to)))))))

      is_range : range.range ≡ d.since ++ x ∷ []
      is_range = cut range (split_append range.range range.rest d.since x back (sym range.whole))

      may_end : is_no_loop_end x.statement ≡ false
      may_end = (up_to_right n d.since x [] (subst (λ (zs : List Labelled). IsUpTo n zs) is_range range.up_to)).1

      since_is_range : since_do n (reverse front) ≡ reverse d.since
      since_is_range =
          ap (since_do n) (ap reverse d.whole ∙ reverse_mid d.before d.here d.since)
          ∙ since_first n (reverse d.since) d.here (reverse d.before) d.begins
          (any_reverse (begins_loop n) d.before ∙ d.first)

      no_if : has_open_if (reverse d.since) ≡ false
      no_if =
          ap has_open_if (sym (append-nil (reverse d.since)))
          ∙ no_if_left (reverse d.since) []
          (paired_tail x (reverse d.since) (reverse range.range) range.paired
          (ap reverse is_range ∙ reverse-append d.since (x ∷ [])) (no_end_if x.statement may_end))

      at_back : (m : ℕ) → list_any (begins_loop m) d.since ≡ true → label_stands_in back m ≡ false
      at_back m e =
          apart text (d.before ++ d.here ∷ (d.since ++ x ∷ [])) back m once
          (is_at ∙ ap (λ zs. zs ++ x ∷ back) d.whole
          ∙ append_assoc d.before (d.here ∷ d.since) (x ∷ back)
          ∙ ap (λ zs. d.before ++ d.here ∷ zs) (sym (append_assoc d.since (x ∷ []) back))
          ∙ sym (append_assoc d.before (d.here ∷ (d.since ++ x ∷ [])) back))
          (stands_right m d.before (d.here ∷ (d.since ++ x ∷ []))
          (or_right (bears m d.here) (label_stands_in (d.since ++ x ∷ []) m)
          (ap (λ zs. label_stands_in zs m) (sym is_range)
          ∙ range.closed m
          (ap (list_any (begins_loop m)) is_range ∙ any_append (begins_loop m) d.since (x ∷ [])
          ∙ ap (λ t. t || list_any (begins_loop m) (x ∷ [])) e))))

      no_loop : is_loop_open (reverse d.since) back ≡ false
      no_loop = none_open back (reverse d.since) (λ m e. at_back m (sym (any_reverse (begins_loop m) d.since) ∙ e))

      nothing_open : (is_no_loop_end x.statement || is_anything_open (since_do n (reverse front)) back) ≡ false
      nothing_open =
          both_false (is_no_loop_end x.statement) (is_anything_open (since_do n (reverse front)) back) may_end
          (ap (λ zs. is_anything_open zs back) since_is_range
          ∙ both_false (has_open_if (reverse d.since)) (is_loop_open (reverse d.since) back) no_if no_loop)

      -- END DO ends no other loop
      none_other : x.statement ≡ EndDo → is_other_open p n ≡ false
      none_other e =
          ap (λ zs. is_loop_open zs (x ∷ back)) since_is_range
          ∙ none_open_since d.since (x ∷ back) (range.ended d.since x is_range e)
          (λ m g. apart text front (x ∷ back) m once is_at
          (ap (λ zs. label_stands_in zs m) d.whole
          ∙ stands_right m d.before (d.here ∷ d.since) (or_right (bears m d.here) (label_stands_in d.since m) g)))

    label_bears : (n : ℕ) → x.label ≡ Some n → bears n x ≡ true
    label_bears n e = ap (is_label n) e ∙ same
      where
        same : (n == n) ≡ true
        same = grind (arith, nat_tests)

    ends_one : (end : Option ℕ) → x.label ≡ end → x.statement ≡ EndDo → HasDo end front → ends_not_one p end ≡ false
    ends_one None g e h = absurd h
    ends_one (Some n) g e h =
        both_false (not (list_any (begins_loop n) (reverse front))) (is_other_open p n)
        (ap not (any_reverse (begins_loop n) front ∙ h))
        (none_other n (label_bears n g) (first_do n front h) e)

    nests : (o : Statement77) → x.statement ≡ o → Stands us s named front x.label o back → nests_wrongly o p ≡ false
    nests (Do None v a b c) e h = absurd h
    nests (Do (Some n) v a b c) e h =
        ap not (ap (λ zs. label_stands_in zs n) h.whole ∙ stands_left n h.range h.rest (range_has n h.range h.up_to))
    nests EndDo e h = ends_one x.label refl e h
    nests EndIf e h =
        both_false (not (has_open_if (reverse front))) (is_loop_open (since_if (reverse front)) back)
        (ap not (if_open h)) (loops_ended_after h)
    nests (ElseIf c) e h = ap not (suits h)
    nests Else e h = ap not (suits h)
    nests o e h = refl

    ends : (end : Option ℕ) → x.label ≡ end → ends_loops_wrongly p end ≡ false
    ends None e = refl
    ends (Some n) e = by (list_any (begins_loop n) (reverse front)) refl
      where
        by : (b : Bool) → list_any (begins_loop n) (reverse front) ≡ b
            → (list_any (begins_loop n) (reverse front)
            && (is_no_loop_end x.statement || is_anything_open (since_do n (reverse front)) back)) ≡ false
        by true t =
            ap (λ b. b && (is_no_loop_end x.statement || is_anything_open (since_do n (reverse front)) back)) t
            ∙ nothing_open n (label_bears n e)
            (first_do n front (sym (any_reverse (begins_loop n) front) ∙ t))
        by false t =
            ap (λ b. b && (is_no_loop_end x.statement || is_anything_open (since_do n (reverse front)) back)) t

    nested : is_nested_wrongly p ≡ false
    nested =
        let h = w.stand front x back is_at in
        both_false (stays_open77 x.statement p) (nests_wrongly x.statement p || ends_loops_wrongly p x.label)
        (stays x.statement refl h)
        (both_false (nests_wrongly x.statement p) (ends_loops_wrongly p x.label) (nests x.statement refl h)
        (ends x.label refl))

-- ---- all statements

at_places : (Q : Place77 → Type 0) (front xs : List Labelled)
    → ((fs : List Labelled) (x : Labelled) (back : List Labelled) → front ++ xs ≡ fs ++ x ∷ back
    → Q (record { before = reverse fs; here = x; after = back }))
    → AllByRecursion Q (places_from (reverse front) xs)
at_places Q front [] h = tt
at_places Q front (y ∷ ys) h = (
  h front y ys refl,
  subst (λ (bs : List Labelled). AllByRecursion Q (places_from bs ys)) (reverse-append front (y ∷ []))
      (at_places Q (front ++ y ∷ []) ys (λ fs x back e. h fs x back (sym (append_assoc front (y ∷ []) ys) ∙ e))),
)

both_hold : (ps : List Place77) → AllByRecursion (λ (p : Place77). is_wrong_label77 p.before p.here.label ≡ false) ps
    → AllByRecursion (λ (p : Place77). is_nested_wrongly p ≡ false) ps → AllByRecursion IsWellNested ps
both_hold [] h g = tt
both_hold (p ∷ ps) h g = (record { label = h.0; nesting = g.0 }, both_hold ps h.1 g.1)

pub nested_form_block : NestedFormBlock
nested_form_block us s named text once = (forms, is_nested)
  where
    forms : AllByRecursion (λ (p : Place77). is_nested_wrongly p ≡ false) (places text)
        → (cs : List tree.Statement) × AreBlock77 us s named text cs
    forms h = (
      made_in us s named (rest_from us s named text),
      text_formed us s named text (both_hold (places text) once h),
    )

    is_nested : ((cs : List tree.Statement) × AreBlock77 us s named text cs)
        → AllByRecursion (λ (p : Place77). is_nested_wrongly p ≡ false) (places text)
    is_nested h =
        at_places (λ (p : Place77). is_nested_wrongly p ≡ false) [] text
        (nested us s named text once (block_whole us s named text h.0 h.1))
