-- The last statement of a loop.
use Rattle.std.proofs.Common.{◌≡◌, ℕ, suc, ◌≤◌, Bool, true, false, ◌&&◌, ◌||◌, cond}
use Rattle.std.proofs.Common.{Option, None}
use Rattle.std.proofs.Common.{List, [], ◌∷◌, ◌++◌, length, refl, sym, ap, ◌∙◌, arith}
use Rattle.std.proofs.Common.{append_assoc}
use Rattle.std.specs.List.{AllByRecursion, list_any}
use Rattle.f77_grammar.specs.Statement77.{Labelled, Statement77, EndDo}
use Rattle.f77_grammar.specs.program.Text.{Place77, places_from, is_label, bears, label_stands_in, is_end_do}
use Rattle.f77_grammar.specs.program.Nesting.{is_no_loop_end, begins_loop}
use Rattle.f77_grammar.specs.program.Nesting.{since_do, is_anything_open}
use Rattle.f77_grammar.specs.program.Nesting.{nests_wrongly, ends_loops_wrongly, is_left_open}
use Rattle.f77_grammar.specs.program.Nesting.{is_closed_wrongly}
use Rattle.f77_laws.proofs.trees.Lists.{left_false, right_false, not_both}
use Rattle.f77_laws.proofs.trees.Lists.{or_right, both_false}
use Rattle.f77_laws.proofs.trees.Frames.{Loop, closed}
use Rattle.f77_laws.proofs.trees.Moves.{stands_no_more}
use Rattle.f77_laws.proofs.trees.Shapes.{label_is}
use Rattle.f77_grammar.specs.program.Blocks.{stands_alone, IsRange}
use Rattle.f77_laws.specs.trees.Laws.{IsWellNested}

-- ---- a label at the end

-- the last of the statements bears the label
pub record BearsLast (n : ℕ) (xs : List Labelled) : Type 0 where
  pub front : List Labelled
  pub last : Labelled
  pub whole : xs ≡ front ++ last ∷ []
  pub bears_it : bears n last ≡ true

abbrev pub bears_behind : (n : ℕ) (xs ys : List Labelled) → BearsLast n ys → BearsLast n (xs ++ ys)
bears_behind n xs ys h =
    record {
      front = xs ++ h.front;
      last = h.last;
      whole = ap (λ zs. xs ++ zs) h.whole ∙ sym (append_assoc xs h.front (h.last ∷ []));
      bears_it = h.bears_it;
    }

stands_there : (n : ℕ) (front : List Labelled) (last : Labelled) (back : List Labelled) → bears n last ≡ true
    → label_stands_in (front ++ last ∷ back) n ≡ true
stands_there n [] last back h = ap (λ b. b || label_stands_in back n) h
stands_there n (x ∷ xs) last back h =
    or_right (bears n x) (label_stands_in (xs ++ last ∷ back) n) (stands_there n xs last back h)

range_before : (n : ℕ) (x : Labelled) (xs : List Labelled) → bears n x ≡ false → IsRange n xs → IsRange n (x ∷ xs)
range_before n x [] e h = absurd h
range_before n x (y ∷ ys) e h = (e, h)

pub range_of : (n : ℕ) (front : List Labelled) (last : Labelled) → label_stands_in front n ≡ false → bears n last ≡ true
    → is_no_loop_end last.statement ≡ false → is_end_do last.statement ≡ false → IsRange n (front ++ last ∷ [])
range_of n [] last h g t d = (g, t, d)
range_of n (x ∷ xs) last h g t d =
    range_before n x (xs ++ last ∷ []) (left_false (bears n x) (label_stands_in xs n) h)
    (range_of n xs last (right_false (bears n x) (label_stands_in xs n) h) g t d)

-- a loop ends on none of those on which it may not
may_end_at : (before back : List Labelled) (n : ℕ) (x : Labelled)
    → AllByRecursion IsWellNested (places_from before (x ∷ back)) → list_any (begins_loop n) before ≡ true
    → bears n x ≡ true → is_no_loop_end x.statement ≡ false
may_end_at before back n x r d h =
    left_false (is_no_loop_end x.statement) (is_anything_open (since_do n before) back)
    (sym (ap (λ b. b && (is_no_loop_end x.statement || is_anything_open (since_do n before) back)) d)
    ∙ sym (ap (ends_loops_wrongly p) (label_is n x.label h))
    ∙ right_false (nests_wrongly x.statement p) (ends_loops_wrongly p x.label)
    (right_false (is_left_open p) (is_closed_wrongly p) r.0.nesting))
  where
    p : Place77
    p = record { before = before; here = x; after = back }

pub may_end_behind : (before : List Labelled) (n : ℕ) (front : List Labelled) (last : Labelled) (back : List Labelled)
    → AllByRecursion IsWellNested (places_from before (front ++ last ∷ back))
    → list_any (begins_loop n) before ≡ true → bears n last ≡ true → is_no_loop_end last.statement ≡ false
may_end_behind before n [] last back r d h = may_end_at before back n last r d h
may_end_behind before n (x ∷ xs) last back r d h =
    may_end_behind (x ∷ before) n xs last back r.1 (or_right (begins_loop n x) (list_any (begins_loop n) before) d) h

-- a label that comes stands on none before
pub none_before : (before : List Labelled) (n : ℕ) (front : List Labelled) (last : Labelled) (back : List Labelled)
    → AllByRecursion IsWellNested (places_from before (front ++ last ∷ back)) → bears n last ≡ true
    → label_stands_in front n ≡ false
none_before before n [] last back r h = refl
none_before before n (x ∷ xs) last back r h =
    both_false (bears n x) (label_stands_in xs n) (apart (bears n x) refl) (none_before (x ∷ before) n xs last back r.1 h)
  where
    apart : (b : Bool) → bears n x ≡ b → bears n x ≡ false
    apart true e =
        absurd (not_both (label_stands_in (xs ++ last ∷ back) n) (stands_there n xs last back h)
        (stands_no_more (x ∷ before) (xs ++ last ∷ back) n r.1 (ap (λ b. b || label_stands_in before n) e)))
    apart false e = e

-- ---- END DO at the end

pub end_do_is : (s : Statement77) → is_end_do s ≡ true → s ≡ EndDo
end_do_is EndDo h = refl
end_do_is s h = absurd (not_both false h refl)

nothing_behind : (xs : List Labelled) (y : Labelled) → [] ≡ xs ++ y ∷ [] → ⊥
nothing_behind [] y h = let e = ap length h in omega arith
nothing_behind (x ∷ xs) y h = let e = ap length h in omega arith

same_last : (xs : List Labelled) (x : Labelled) (ys : List Labelled) (y : Labelled) → xs ++ x ∷ [] ≡ ys ++ y ∷ []
    → x ≡ y
same_last [] x [] y h = cc
same_last [] x (z ∷ zs) y h = absurd (nothing_behind zs y (let t : [] ≡ zs ++ y ∷ [] = cc in t))
same_last (w ∷ ws) x [] y h = absurd (nothing_behind ws x (let t : [] ≡ ws ++ x ∷ [] = cc in t))
same_last (w ∷ ws) x (z ∷ zs) y h = same_last ws x zs y (let t : ws ++ x ∷ [] ≡ zs ++ y ∷ [] = cc in t)

-- statements whose last one isn't END DO don't end on END DO
pub no_end_do : (xs : List Labelled) (x : Labelled) (ys : List Labelled) (y : Labelled) → xs ++ x ∷ [] ≡ ys ++ y ∷ []
    → is_end_do x.statement ≡ false → y.statement ≡ EndDo → ⊥
no_end_do xs x ys y h d e =
    not_both (is_end_do x.statement) (ap (λ (z : Labelled). is_end_do z.statement) (same_last xs x ys y h) ∙ ap is_end_do e) d

pub alone_is_no_end_do : (s : Statement77) → stands_alone s ≡ true → is_end_do s ≡ false
alone_is_no_end_do EndDo e = absurd (not_both false e refl)
alone_is_no_end_do s e = refl

pub none_to_close : (ls : List Loop) → closed None ls ≡ ls
none_to_close [] = refl
none_to_close (l ∷ ls) = refl

closed_short : (end : Option ℕ) (ls : List Loop) → length (closed end ls) ≤ length ls
closed_short end [] = omega arith
closed_short end (l ∷ ls) = by (is_label l.label end) (closed_short end ls)
  where
    by : (b : Bool) → length (closed end ls) ≤ length ls → length (cond b (closed end ls) (l ∷ ls)) ≤ suc (length ls)
    by true h = omega (arith, h)
    by false h = omega arith

-- a label that ends the innermost loop ends one
pub ends_some : (end : Option ℕ) (l : Loop) (ls : List Loop) → is_label l.label end ≡ true → closed end (l ∷ ls) ≡ l ∷ ls → ⊥
ends_some end l ls h g =
    let e : length (closed end ls) ≡ suc (length ls) =
    ap length (sym (ap (λ b. cond b (closed end ls) (l ∷ ls)) h) ∙ g) in
    let k = closed_short end ls in omega (arith, e, k)
