-- A statement of a block, by what stands before it and what stands after it.
use Rattle.std.proofs.Common.{◌≡◌, ◌⊎◌, inl, inr, ℕ, Bool, true, false, ◌||◌, Option, None, Some, List, [], ◌∷◌, ◌++◌, reverse, length}
use Rattle.std.proofs.Common.{refl, sym, ap, subst, ◌∙◌, arith, append_assoc, append-nil}
use Rattle.std.proofs.lemmas.List.{reverse-append}
use Rattle.std.specs.List.{list_any}
use Rattle.meaning.specs.Store.{Store}
use Rattle.f77_grammar.specs.Statement77.{Labelled, Statement77, If, ElseIf, Else, EndIf, Do, EndDo}
use Rattle.f77_grammar.specs.program.Text.{bears, label_stands_in, is_block_if, is_last_else, is_end_if}
use Rattle.f77_grammar.specs.program.Nesting.{begins_loop, is_do_of, is_no_loop_end}
use Rattle.f77_grammar.specs.program.Uses.{Use77}
use Rattle.f77_grammar.specs.program.Blocks.{stands_alone, IsRange}
use Rattle.f77_laws.specs.trees.Pairs.{ArePaired}
use Rattle.f77_laws.proofs.trees.Lists.{left_false, right_false, not_both, or_right}
use Rattle.f77_laws.proofs.trees.Pairs.{BackPaired, none, single, back_append}
use Rattle.f77_laws.proofs.trees.PairedBlocks.{alone_is_no_if, alone_is_no_end}

-- ---- statements before and after

pub record InFirst (xs ys front : List Labelled) (x : Labelled) (back : List Labelled) : Type 0 where
  pub mid : List Labelled
  pub left : xs ≡ front ++ x ∷ mid
  pub right : back ≡ mid ++ ys

pub record InSecond (xs ys front : List Labelled) (x : Labelled) (back : List Labelled) : Type 0 where
  pub mid : List Labelled
  pub left : front ≡ xs ++ mid
  pub right : ys ≡ mid ++ x ∷ back

-- a statement of two lists stands in one of them
pub split_append : (xs ys front : List Labelled) (x : Labelled) (back : List Labelled) → xs ++ ys ≡ front ++ x ∷ back
    → InFirst xs ys front x back ⊎ InSecond xs ys front x back
split_append [] ys front x back e = inr (record { mid = front; left = refl; right = e })
split_append (z ∷ zs) ys [] x back e =
    inl (record { mid = zs; left = (let h : z ≡ x = cc in ap (λ t. t ∷ zs) h); right = (let h : zs ++ ys ≡ back = cc in sym h) })
split_append (z ∷ zs) ys (f ∷ fs) x back e =
    let t : zs ++ ys ≡ fs ++ x ∷ back = cc in let h : z ≡ f = cc in by h (split_append zs ys fs x back t)
  where
    by : z ≡ f → InFirst zs ys fs x back ⊎ InSecond zs ys fs x back
        → InFirst (z ∷ zs) ys (f ∷ fs) x back ⊎ InSecond (z ∷ zs) ys (f ∷ fs) x back
    by h (inl k) = inl (record { mid = k.mid; left = (let l = k.left in cc); right = k.right })
    by h (inr k) = inr (record { mid = k.mid; left = (let l = k.left in cc); right = k.right })

-- ---- what holds of what is whole

-- no ELSE stands among them but in a block IF that has ended; the nearest first
pub data LackElse : List Labelled → Type 0 where
  lacks_none : LackElse []
  lacks_one : (x : Labelled) (xs : List Labelled) → is_block_if x.statement ≡ false → is_end_if x.statement ≡ false
      → is_last_else x.statement ≡ false → LackElse xs → LackElse (x ∷ xs)
  lacks_pair : (x end : Labelled) (between xs : List Labelled) → is_block_if x.statement ≡ true
      → is_end_if end.statement ≡ true → BackPaired between → LackElse xs → LackElse (end ∷ (between ++ x ∷ xs))

lack_append : (xs ys : List Labelled) → LackElse xs → LackElse ys → LackElse (xs ++ ys)
lack_append xs ys lacks_none k = k
lack_append xs ys (lacks_one x zs a b c h) k = lacks_one x (zs ++ ys) a b c (lack_append zs ys h k)
lack_append xs ys (lacks_pair x end between zs a b h g) k =
    subst (λ (ws : List Labelled). LackElse (end ∷ ws)) (sym (append_assoc between (x ∷ zs) ys))
    (lacks_pair x end between (zs ++ ys) a b h (lack_append zs ys g k))

pub lack_both : (xs ys : List Labelled) → LackElse (reverse xs) → LackElse (reverse ys) → LackElse (reverse (xs ++ ys))
lack_both xs ys h k =
    subst (λ (ws : List Labelled). LackElse ws) (sym (reverse-append xs ys)) (lack_append (reverse ys) (reverse xs) k h)

pub back_both : (xs ys : List Labelled) → BackPaired (reverse xs) → BackPaired (reverse ys) → BackPaired (reverse (xs ++ ys))
back_both xs ys h k =
    subst (λ (ws : List Labelled). BackPaired ws) (sym (reverse-append xs ys)) (back_append (reverse ys) (reverse xs) k h)

-- each loop that begins among them ends among them
abbrev pub CloseLoops : List Labelled → Type 0
CloseLoops xs = (m : ℕ) → list_any (begins_loop m) xs ≡ true → label_stands_in xs m ≡ true

pub any_append : (test : Labelled → Bool) (xs ys : List Labelled)
    → list_any test (xs ++ ys) ≡ (list_any test xs || list_any test ys)
any_append test [] ys = refl
any_append test (x ∷ xs) ys = ap (λ b. test x || b) (any_append test xs ys) ∙ assoc (test x) (list_any test xs)
  where
    assoc : (a b : Bool) → (a || (b || list_any test ys)) ≡ ((a || b) || list_any test ys)
    assoc true b = refl
    assoc false b = refl

either_true : (a b c d : Bool) → (a ≡ true → c ≡ true) → (b ≡ true → d ≡ true) → (a || b) ≡ true → (c || d) ≡ true
either_true true b c d f g h = ap (λ t. t || d) (f refl)
either_true false b c d f g h = or_right c d (g h)

pub close_both : (xs ys : List Labelled) → CloseLoops xs → CloseLoops ys → CloseLoops (xs ++ ys)
close_both xs ys h k = λ m e.
    any_append (bears m) xs ys
    ∙ either_true (list_any (begins_loop m) xs) (list_any (begins_loop m) ys) (label_stands_in xs m) (label_stands_in ys m) (h m) (k m)
    (sym (any_append (begins_loop m) xs ys) ∙ e)

pub no_do : (x : Labelled) (s : Statement77) → x.statement ≡ s → ((m : ℕ) → is_do_of m s ≡ false) → CloseLoops (x ∷ [])
no_do x s e f = λ m h.
    absurd (not_both (begins_loop m x || false) h (ap (λ b. b || false) (ap (is_do_of m) e ∙ f m)))

alone_is_no_do : (s : Statement77) (m : ℕ) → stands_alone s ≡ true → is_do_of m s ≡ false
alone_is_no_do (Do label v a b c) m e = absurd (not_both false e refl)
alone_is_no_do s m e = refl

alone_is_no_else : (s : Statement77) → stands_alone s ≡ true → is_last_else s ≡ false
alone_is_no_else Else e = absurd (not_both false e refl)
alone_is_no_else s e = refl

-- statements up to and with the first that bears the label, on which a loop may end, END DO too
abbrev pub IsUpTo : ℕ → List Labelled → Type 0
IsUpTo n [] = ⊥
IsUpTo n (x ∷ []) = (bears n x ≡ true) × (is_no_loop_end x.statement ≡ false)
IsUpTo n (x ∷ y ∷ ys) = (bears n x ≡ false) × IsUpTo n (y ∷ ys)

pub up_to_right : (n : ℕ) (xs : List Labelled) (y : Labelled) (ys : List Labelled) → IsUpTo n (xs ++ y ∷ ys)
    → IsUpTo n (y ∷ ys)
up_to_right n [] y ys h = h
up_to_right n (x ∷ []) y ys h = h.1
up_to_right n (x ∷ z ∷ zs) y ys h = up_to_right n (z ∷ zs) y ys h.1

up_to_more : (n : ℕ) (x : Labelled) (xs : List Labelled) → bears n x ≡ false → IsUpTo n xs → IsUpTo n (x ∷ xs)
up_to_more n x [] e h = absurd h
up_to_more n x (y ∷ ys) e h = (e, h)

pub range_up_to : (n : ℕ) (xs : List Labelled) → IsRange n xs → IsUpTo n xs
range_up_to n [] h = absurd h
range_up_to n (x ∷ []) h = (h.0, h.1)
range_up_to n (x ∷ y ∷ ys) h = (h.0, range_up_to n (y ∷ ys) h.1)

pub end_up_to : (n : ℕ) (xs : List Labelled) (end : Labelled) → label_stands_in xs n ≡ false → bears n end ≡ true
    → end.statement ≡ EndDo → IsUpTo n (xs ++ end ∷ [])
end_up_to n [] end h g e = (g, ap is_no_loop_end e)
end_up_to n (x ∷ xs) end h g e =
    up_to_more n x (xs ++ end ∷ []) (left_false (bears n x) (label_stands_in xs n) h)
    (end_up_to n xs end (right_false (bears n x) (label_stands_in xs n) h) g e)

pub range_has : (n : ℕ) (xs : List Labelled) → IsUpTo n xs → label_stands_in xs n ≡ true
range_has n [] h = absurd h
range_has n (x ∷ []) h = ap (λ b. b || false) h.0
range_has n (x ∷ y ∷ ys) h = or_right (bears n x) (label_stands_in (y ∷ ys) n) (range_has n (y ∷ ys) h.1)

-- ---- how each statement stands

-- the rest of a loop; where that ends on END DO, each loop that begins in it has ended before
pub record HasRange (n : ℕ) (back : List Labelled) : Type 0 where
  pub range : List Labelled
  pub rest : List Labelled
  pub whole : back ≡ range ++ rest
  pub up_to : IsUpTo n range
  pub paired : BackPaired (reverse range)
  pub closed : CloseLoops range
  pub ended : (front : List Labelled) (end : Labelled) → range ≡ front ++ end ∷ [] → end.statement ≡ EndDo
      → CloseLoops front

-- a loop of the label has begun
abbrev pub HasDo : Option ℕ → List Labelled → Type 0
HasDo None front = ⊥
HasDo (Some n) front = list_any (begins_loop n) front ≡ true

do_more : (end : Option ℕ) (pre front : List Labelled) → HasDo end front → HasDo end (pre ++ front)
do_more None pre front h = absurd h
do_more (Some n) pre front h =
    any_append (begins_loop n) pre front
    ∙ or_right (list_any (begins_loop n) pre) (list_any (begins_loop n) front) h

-- the block IF round a statement, and what stands since
pub record StandsInIf (front : List Labelled) : Type 0 where
  pub earlier : List Labelled
  pub x : Labelled
  pub between : List Labelled
  pub whole : front ≡ earlier ++ x ∷ between
  pub is_if : is_block_if x.statement ≡ true
  pub paired : BackPaired (reverse between)
  pub closed : CloseLoops between

pub record HasNoElse (front : List Labelled) : Type 0 where
  pub within : StandsInIf front
  pub lacks : LackElse (reverse within.between)

pub record HasEnd (back : List Labelled) : Type 0 where
  pub between : List Labelled
  pub end : Labelled
  pub rest : List Labelled
  pub whole : back ≡ between ++ end ∷ rest
  pub is_end : is_end_if end.statement ≡ true
  pub paired : ArePaired between

-- ---- one statement, and what stands behind it

pub no_split : (front : List Labelled) (x : Labelled) (back : List Labelled) → [] ≡ front ++ x ∷ back → ⊥
no_split [] x back e = let t = ap length e in omega arith
no_split (f ∷ fs) x back e = let t = ap length e in omega arith

abbrev pub IsFirst : Labelled → List Labelled → List Labelled → Labelled → List Labelled → Type 0
IsFirst z zs front x back = (front ≡ []) × (x ≡ z) × (back ≡ zs)

abbrev pub IsBehind : Labelled → List Labelled → List Labelled → Labelled → List Labelled → Type 0
IsBehind z zs front x back = (fs : List Labelled) × (front ≡ z ∷ fs) × (zs ≡ fs ++ x ∷ back)

pub split_cons : (z : Labelled) (zs front : List Labelled) (x : Labelled) (back : List Labelled)
    → z ∷ zs ≡ front ++ x ∷ back → IsFirst z zs front x back ⊎ IsBehind z zs front x back
split_cons z zs [] x back e = inl (refl, (let h : x ≡ z = cc in h), (let h : back ≡ zs = cc in h))
split_cons z zs (f ∷ fs) x back e =
    inr (fs, (let h : f ≡ z = cc in ap (λ t. t ∷ fs) h), (let h : zs ≡ fs ++ x ∷ back = cc in h))

pub only_split : (z : Labelled) (front : List Labelled) (x : Labelled) (back : List Labelled)
    → z ∷ [] ≡ front ++ x ∷ back → IsFirst z [] front x back
only_split z front x back e = by (split_cons z [] front x back e)
  where
    by : IsFirst z [] front x back ⊎ IsBehind z [] front x back → IsFirst z [] front x back
    by (inl h) = h
    by (inr h) = absurd (no_split h.0 x back h.2)

module _ (us : List Use77) (s : Store) (named : List ℕ) where
  abbrev pub Stands : List Labelled → Option ℕ → Statement77 → List Labelled → Type 0
  Stands front end (If c) back = HasEnd back
  Stands front end (ElseIf c) back = HasNoElse front
  Stands front end Else back = HasNoElse front
  Stands front end EndIf back = StandsInIf front
  Stands front end (Do None v a b c) back = ⊥
  Stands front end (Do (Some n) v a b c) back = HasRange n back
  Stands front end EndDo back = HasDo end front
  Stands front end o back = Unit {0}

  -- among more statements
  abbrev in_if_more : (pre front : List Labelled) → StandsInIf front → StandsInIf (pre ++ front)
  in_if_more pre front h =
      record {
        earlier = pre ++ h.earlier;
        x = h.x;
        between = h.between;
        whole = ap (λ zs. pre ++ zs) h.whole ∙ sym (append_assoc pre h.earlier (h.x ∷ h.between));
        is_if = h.is_if;
        paired = h.paired;
        closed = h.closed;
      }

  pub stands_more : (pre front : List Labelled) (end : Option ℕ) (o : Statement77) (back post : List Labelled)
      → Stands front end o back → Stands (pre ++ front) end o (back ++ post)
  stands_more pre front end (If c) back post h =
      record {
        between = h.between;
        end = h.end;
        rest = h.rest ++ post;
        whole = ap (λ zs. zs ++ post) h.whole ∙ append_assoc h.between (h.end ∷ h.rest) post;
        is_end = h.is_end;
        paired = h.paired;
      }
  stands_more pre front end (ElseIf c) back post h =
      record { within = in_if_more pre front h.within; lacks = h.lacks }
  stands_more pre front end Else back post h = record { within = in_if_more pre front h.within; lacks = h.lacks }
  stands_more pre front end EndIf back post h = in_if_more pre front h
  stands_more pre front end (Do None v a b c) back post h = absurd h
  stands_more pre front end (Do (Some n) v a b c) back post h =
      record {
        range = h.range;
        rest = h.rest ++ post;
        whole = ap (λ zs. zs ++ post) h.whole ∙ append_assoc h.range h.rest post;
        up_to = h.up_to;
        paired = h.paired;
        closed = h.closed;
        ended = h.ended;
      }
  stands_more pre front end EndDo back post h = do_more end pre front h
  stands_more pre front end o back post h = tt

  alone_stands : (front : List Labelled) (end : Option ℕ) (o : Statement77) (back : List Labelled)
      → stands_alone o ≡ true → Stands front end o back
  alone_stands front end (If c) back e = absurd (not_both false e refl)
  alone_stands front end (ElseIf c) back e = absurd (not_both false e refl)
  alone_stands front end Else back e = absurd (not_both false e refl)
  alone_stands front end EndIf back e = absurd (not_both false e refl)
  alone_stands front end (Do label v a b c) back e = absurd (not_both false e refl)
  alone_stands front end EndDo back e = absurd (not_both false e refl)
  alone_stands front end o back e = tt

  -- all that holds of statements that are whole
  pub record AreWhole (xs : List Labelled) : Type 0 where
    pub stand : (front : List Labelled) (x : Labelled) (back : List Labelled) → xs ≡ front ++ x ∷ back
        → Stands front x.label x.statement back
    pub lacks : LackElse (reverse xs)
    pub paired : BackPaired (reverse xs)
    pub closed : CloseLoops xs

  pub nothing_whole : AreWhole []
  nothing_whole =
      record {
        stand = λ front x back e. absurd (no_split front x back e);
        lacks = lacks_none;
        paired = none;
        closed = λ m e. absurd (not_both false e refl);
      }

  pub both_whole : (xs ys : List Labelled) → AreWhole xs → AreWhole ys → AreWhole (xs ++ ys)
  both_whole xs ys h k =
      record {
        stand = λ front x back e. by front x back (split_append xs ys front x back e);
        lacks = lack_both xs ys h.lacks k.lacks;
        paired = back_both xs ys h.paired k.paired;
        closed = close_both xs ys h.closed k.closed;
      }
    where
      by : (front : List Labelled) (x : Labelled) (back : List Labelled)
          → InFirst xs ys front x back ⊎ InSecond xs ys front x back → Stands front x.label x.statement back
      by front x back (inl g) =
          subst (λ (zs : List Labelled). Stands front x.label x.statement zs) (sym g.right)
          (stands_more [] front x.label x.statement g.mid ys (h.stand front x g.mid g.left))
      by front x back (inr g) =
          subst (λ (zs : List Labelled). Stands zs x.label x.statement back) (sym g.left)
          (subst (λ (zs : List Labelled). Stands (xs ++ g.mid) x.label x.statement zs) (append-nil back)
          (stands_more xs g.mid x.label x.statement back [] (k.stand g.mid x back g.right)))

  pub alone_whole : (x : Labelled) → stands_alone x.statement ≡ true → AreWhole (x ∷ [])
  alone_whole x e =
      record {
        stand = λ front y back h.
            let k = only_split x front y back h in
            alone_stands front y.label y.statement back (ap (λ (z : Labelled). stands_alone z.statement) k.1 ∙ e);
        lacks = lacks_one x [] (alone_is_no_if x.statement e) (alone_is_no_end x.statement e) (alone_is_no_else x.statement e) lacks_none;
        paired = single x [] (alone_is_no_if x.statement e) (alone_is_no_end x.statement e) none;
        closed = no_do x x.statement refl (λ m. alone_is_no_do x.statement m e);
      }
