-- Statements that form a block with the labels of their loops are closed as they are written.
use Rattle.std.proofs.Common.{◌≡◌, ◌⊎◌, inl, inr, ℕ, ◌+◌, ◌-◌, ◌^◌, ◌≤◌, min, ◌==◌, Bool, true, false, ◌||◌, cond}
use Rattle.std.proofs.Common.{Option, None, Some, List, [], ◌∷◌, ◌++◌, length, refl, sym, ap, subst, ◌∙◌, arith}
use Rattle.std.proofs.lemmas.Bool.Decides.{nat_tests}
use Rattle.std.specs.Option.{IfSome}
use Rattle.std.specs.List.{AllByRecursion, list_any}
use Rattle.tree.specs.Plain as tree
use Rattle.tree.specs.Plain.{Expression}
use Rattle.meaning.specs.Store.{Store}
use Rattle.f77_grammar.specs.Statement77.{Labelled, Statement77, If, ElseIf, Else, EndIf, Do, EndDo}
use Rattle.f77_grammar.specs.program.Text.{is_label, bears, label_stands_in, is_end_do}
use Rattle.f77_grammar.specs.program.Labels.{label_named}
use Rattle.f77_grammar.specs.program.Uses.{Use77}
use Rattle.f77_grammar.specs.program.EndDo.{without_bearer, without_closer, end_label}
use Rattle.f77_grammar.specs.program.EndDo.{closer_label, with_loop_label, label_of_end, with_labels}
use Rattle.f77_grammar.specs.program.Blocks.{stands_alone, IsRange, IsUnit, AreBlock77, AreArms77}
use Rattle.f77_grammar.specs.program.Blocks.IsUnit.{alone as unit_alone, block_if as unit_if, loop as unit_loop}
use Rattle.f77_grammar.specs.program.Blocks.IsUnit.{end_do as unit_end_do}
use Rattle.f77_grammar.specs.program.Blocks.AreBlock77.{nothing as no_units, unit as more_units}
use Rattle.f77_grammar.specs.program.Blocks.AreArms77.{end_if as arms_end, else_part as arms_part, else_if as arms_more}
use Rattle.f77_laws.specs.Source.{IsSourceLabel}
use Rattle.f77_laws.specs.trees.Written.{MayClose, IsClosed, AreClosed, AreClosedArms}
use Rattle.f77_laws.specs.trees.Written.IsClosed.{alone, block_if, end_do, loop}
use Rattle.f77_laws.specs.trees.Written.AreClosed.{nothing, more}
use Rattle.f77_laws.specs.trees.Written.AreClosedArms.{end_if, else_part, else_if}
use Rattle.f77_laws.proofs.trees.Lists.{or_right, both_false, not_both, all_left, all_right}
use Rattle.f77_laws.proofs.trees.Begun.{label_as}
use Rattle.f77_laws.proofs.trees.Shapes.{label_is}
use Rattle.f77_laws.proofs.trees.Splits.{range_up_to, range_has}
use Rattle.f77_laws.proofs.trees.WellNested.{stands_left, stands_right}
use Rattle.f77_laws.proofs.trees.Segments.{wait, labelled, wait_append, ends_with, itself, end_bears, kept_without}
use Rattle.f77_laws.proofs.trees.Segments.{alone_waits, as_alone, as_end_do, as_loop_end, own_label, waits_as}
use Rattle.f77_laws.proofs.trees.Segments.{both_wait}

-- ---- the statements that have got labels

record IsCons (z : Labelled) (zs xs w : List Labelled) : Type 0 where
  x : Labelled
  rest : List Labelled
  whole : xs ≡ x ∷ rest
  is : with_labels x (closer_label (wait rest w)) ≡ z
  left : labelled rest w ≡ zs

cons_of : (z : Labelled) (zs xs w : List Labelled) → labelled xs w ≡ z ∷ zs → IsCons z zs xs w
cons_of z zs [] w e = absurd (let n = ap length e in omega arith)
cons_of z zs (x ∷ xs) w e =
    record {
      x = x;
      rest = xs;
      whole = refl;
      is = (let h : with_labels x (closer_label (wait xs w)) ≡ z = cc in h);
      left = (let h : labelled xs w ≡ zs = cc in h);
    }

none_of : (xs w : List Labelled) → labelled xs w ≡ [] → xs ≡ []
none_of [] w e = refl
none_of (x ∷ xs) w e = absurd (let n = ap length e in omega arith)

record AreSplit (ys zs xs w : List Labelled) : Type 0 where
  first : List Labelled
  rest : List Labelled
  whole : xs ≡ first ++ rest
  left : labelled first (wait rest w) ≡ ys
  right : labelled rest w ≡ zs

split_of : (ys zs xs w : List Labelled) → labelled xs w ≡ ys ++ zs → AreSplit ys zs xs w
split_of [] zs xs w e = record { first = []; rest = xs; whole = refl; left = refl; right = e }
split_of (y ∷ ys) zs [] w e = absurd (let n = ap length e in omega arith)
split_of (y ∷ ys) zs (x ∷ xs) w e =
    more_of (let h : with_labels x (closer_label (wait xs w)) ≡ y = cc in h)
    (split_of ys zs xs w (let h : labelled xs w ≡ ys ++ zs = cc in h))
  where
    more_of : with_labels x (closer_label (wait xs w)) ≡ y → AreSplit ys zs xs w → AreSplit (y ∷ ys) zs (x ∷ xs) w
    more_of h k =
        record {
          first = x ∷ k.first;
          rest = k.rest;
          whole = ap (λ vs. x ∷ vs) k.whole;
          left =
              ap (λ vs. with_labels x (closer_label vs) ∷ labelled k.first (wait k.rest w))
              (sym (ap (λ vs. wait vs w) k.whole ∙ wait_append k.first k.rest w))
              ∙ ap (λ z. z ∷ labelled k.first (wait k.rest w)) h ∙ ap (λ vs. y ∷ vs) k.left;
          right = k.right;
        }

-- ---- statements

abbrev is_do : Statement77 → Bool
is_do (Do label v a b c) = true
is_do s = false

-- a label is given to DO alone
unless_do : (s : Statement77) (c : Option ℕ) (o : Statement77) → with_loop_label s c ≡ o → is_do o ≡ false → s ≡ o
unless_do (Do None v a b d) c o h g = absurd (not_both (is_do o) (sym (ap is_do h)) g)
unless_do (Do (Some n) v a b d) c o h g = h
unless_do s c o h g = h

record IsDo (label : Option ℕ) (s : Statement77) : Type 0 where
  v : List ℕ
  a : Expression
  b : Expression
  c : Expression
  is : s ≡ Do label v a b c

do_of : (s : Statement77) (closer : Option ℕ) (n : ℕ) (v : List ℕ) (a b c : Expression)
    → with_loop_label s closer ≡ Do (Some n) v a b c → IsDo (Some n) s ⊎ (IsDo None s × (closer ≡ Some n))
do_of (Do None v' a' b' c') closer n v a b c h =
    inr (record { v = v'; a = a'; b = b'; c = c'; is = refl }, ap label_named h)
do_of (Do (Some m) v' a' b' c') closer n v a b c h = inl (record { v = v; a = a; b = b; c = c; is = h })
do_of s closer n v a b c h = inl (record { v = v; a = a; b = b; c = c; is = h })

closer_ends : (n : ℕ) (w : List Labelled) → closer_label w ≡ Some n → list_any (ends_with n) w ≡ true
closer_ends n [] h = absurd cc
closer_ends n (e ∷ es) h = ap (λ t. t || list_any (ends_with n) es) (by (end_label e.label e.line == 0) h)
  where
    by : (b : Bool) → cond b None (Some (end_label e.label e.line)) ≡ Some n → ends_with n e ≡ true
    by true k = absurd cc
    by false k = ap (is_label n) k ∙ itself n

high : (line : ℕ) → 100000 ≤ min (100000 + line) (2 ^ 32 - 1)
high line = omega arith

-- a label that a card names isn't given to END DO
end_written : (n : ℕ) (e : Labelled) → IsSourceLabel n → ends_with n e ≡ true → bears n e ≡ true
end_written n e h g = by e.label refl g
  where
    by : (l : Option ℕ) → e.label ≡ l → (end_label l e.line == n) ≡ true → bears n e ≡ true
    by None t k =
        absurd (let same : min (100000 + e.line) (2 ^ 32 - 1) ≡ n = equal k in let m = high e.line in omega (arith, same, h, m))
      where
        equal : (min (100000 + e.line) (2 ^ 32 - 1) == n) ≡ true → min (100000 + e.line) (2 ^ 32 - 1) ≡ n
        equal j = grind (arith, nat_tests)
    by (Some m) t k = ap (is_label n) t ∙ k

-- ---- ranges

bears_as : (n : ℕ) (x : Labelled) (c : Option ℕ) → bears n x ≡ true → bears n (with_labels x c) ≡ true
bears_as n x c h = by x.statement
  where
    by : (s : Statement77) → is_label n (label_of_end s x.label x.line) ≡ true
    by EndDo = ap (λ l. is_label n (Some (end_label l x.line))) (label_is n x.label h) ∙ itself n
    by s = h

range_of : (n : ℕ) (xs w : List Labelled) → IsRange n (labelled xs w) → IsRange n xs
range_of n [] w r = absurd r
range_of n (x ∷ []) w r =
    let d : is_end_do x.statement ≡ false = sym (as_end_do x.statement (closer_label w)) ∙ r.2 in (
      sym (ap (is_label n) (own_label x.statement x.label x.line d)) ∙ r.0,
      sym (as_loop_end x.statement (closer_label w)) ∙ r.1,
      d,
    )
range_of n (x ∷ y ∷ ys) w r = (by (bears n x) refl, range_of n (y ∷ ys) w r.1)
  where
    by : (b : Bool) → bears n x ≡ b → bears n x ≡ false
    by true e =
        absurd (not_both (bears n (with_labels x (closer_label (wait (y ∷ ys) w))))
        (bears_as n x (closer_label (wait (y ∷ ys) w)) e) r.0)
    by false e = e

-- ---- what is asked of a part of the text

-- labels that its DO statements name are those of cards
abbrev pub AreNamed : List Labelled → Type 0
AreNamed xs = AllByRecursion (λ (x : Labelled). IfSome (label_named x.statement) IsSourceLabel) xs

named_left : (xs ys : List Labelled) → AreNamed (xs ++ ys) → AreNamed xs
named_left xs ys h = all_left (λ (x : Labelled). IfSome (label_named x.statement) IsSourceLabel) xs ys h

named_right : (xs ys : List Labelled) → AreNamed (xs ++ ys) → AreNamed ys
named_right xs ys h = all_right (λ (x : Labelled). IfSome (label_named x.statement) IsSourceLabel) xs ys h

-- its labels stand on no END DO that waits behind it
abbrev pub IsApart : List Labelled → List Labelled → Type 0
IsApart zs w = (k : ℕ) → label_stands_in zs k ≡ true → list_any (ends_with k) w ≡ false

apart_behind : (z : Labelled) (zs w : List Labelled) → IsApart (z ∷ zs) w → IsApart zs w
apart_behind z zs w h k g = h k (or_right (bears k z) (label_stands_in zs k) g)

apart_left : (ys zs w : List Labelled) → IsApart (ys ++ zs) w → IsApart ys w
apart_left ys zs w h k g = h k (stands_left k ys zs g)

apart_right : (ys zs w : List Labelled) → IsApart (ys ++ zs) w → IsApart zs w
apart_right ys zs w h k g = h k (stands_right k ys zs g)

record UnitRead (xs w : List Labelled) : Type 0 where
  waits : wait xs w ≡ w
  closed : IsClosed xs

pub record BlockRead (xs w : List Labelled) : Type 0 where
  pub waits : wait xs w ≡ w
  pub closed : AreClosed xs

record ArmsRead (xs w : List Labelled) : Type 0 where
  waits : wait xs w ≡ w
  closed : AreClosedArms xs

unit_as : (xs ys w : List Labelled) → xs ≡ ys → wait ys w ≡ w → IsClosed ys → UnitRead xs w
unit_as xs ys w e g h =
    subst (λ (zs : List Labelled). UnitRead zs w) (sym e) (record { waits = g; closed = h })

arms_as : (xs ys w : List Labelled) → xs ≡ ys → wait ys w ≡ w → AreClosedArms ys → ArmsRead xs w
arms_as xs ys w e g h =
    subst (λ (zs : List Labelled). ArmsRead zs w) (sym e) (record { waits = g; closed = h })

-- what is read of a part
abbrev pub Reads : (List Labelled → List Labelled → Type 0) → List Labelled → Type 0
Reads R zs = (xs w : List Labelled) → labelled xs w ≡ zs → AreNamed xs → IsApart zs w → R xs w

-- a statement but DO
statement_as : (x z : Labelled) (c : Option ℕ) (o : Statement77) → with_labels x c ≡ z → z.statement ≡ o
    → is_do o ≡ false → x.statement ≡ o
statement_as x z c o e g d = unless_do x.statement c o (ap (λ (y : Labelled). y.statement) e ∙ g) d

-- one statement
record IsOne (z : Labelled) (xs w : List Labelled) : Type 0 where
  x : Labelled
  whole : xs ≡ x ∷ []
  is : with_labels x (closer_label w) ≡ z

one_of : (z : Labelled) (xs w : List Labelled) → labelled xs w ≡ z ∷ [] → IsOne z xs w
one_of z xs w e =
    let k = cons_of z [] xs w e in
    let none = none_of k.rest w k.left in
    record {
      x = k.x;
      whole = k.whole ∙ ap (λ vs. k.x ∷ vs) none;
      is = ap (λ vs. with_labels k.x (closer_label (wait vs w))) (sym none) ∙ k.is;
    }

-- ---- units

alone_read : (z : Labelled) → stands_alone z.statement ≡ true → Reads UnitRead (z ∷ [])
alone_read z g xs w e named apart =
    let k = one_of z xs w e in
    let h : stands_alone k.x.statement ≡ true =
    sym (as_alone k.x.statement (closer_label w)) ∙ ap (λ (y : Labelled). stands_alone y.statement) k.is ∙ g in
    unit_as xs (k.x ∷ []) w k.whole (alone_waits k.x.statement k.x w h) (alone k.x h)

-- two parts behind a statement
record AreBehind (z : Labelled) (ys zs xs w : List Labelled) : Type 0 where
  x : Labelled
  first : List Labelled
  rest : List Labelled
  whole : xs ≡ x ∷ (first ++ rest)
  is : with_labels x (closer_label (wait (first ++ rest) w)) ≡ z
  left : labelled first (wait rest w) ≡ ys
  right : labelled rest w ≡ zs

behind_of : (z : Labelled) (ys zs xs w : List Labelled) → labelled xs w ≡ z ∷ (ys ++ zs) → AreBehind z ys zs xs w
behind_of z ys zs xs w e =
    let k = cons_of z (ys ++ zs) xs w e in
    let l = split_of ys zs k.rest w k.left in
    record {
      x = k.x;
      first = l.first;
      rest = l.rest;
      whole = k.whole ∙ ap (λ vs. k.x ∷ vs) l.whole;
      is = ap (λ vs. with_labels k.x (closer_label (wait vs w))) (sym l.whole) ∙ k.is;
      left = l.left;
      right = l.right;
    }

if_read : (z : Labelled) (c : Expression) (ys zs : List Labelled) → z.statement ≡ If c → Reads BlockRead ys
    → Reads ArmsRead zs → Reads UnitRead (z ∷ (ys ++ zs))
if_read z c ys zs g make end xs w e named apart =
    let k = behind_of z ys zs xs w e in
    let all = subst (λ (vs : List Labelled). AreNamed vs) k.whole named in
    let l =
    end k.rest w k.right (named_right k.first k.rest all.1) (apart_right ys zs w (apart_behind z (ys ++ zs) w apart)) in
    let f =
    make k.first w (ap (labelled k.first) (sym l.waits) ∙ k.left) (named_left k.first k.rest all.1)
    (apart_left ys zs w (apart_behind z (ys ++ zs) w apart)) in
    let o = statement_as k.x z (closer_label (wait (k.first ++ k.rest) w)) (If c) k.is g refl in
    unit_as xs (k.x ∷ (k.first ++ k.rest)) w k.whole
    (waits_as k.x (wait (k.first ++ k.rest) w) (If c) o ∙ both_wait k.first k.rest w l.waits f.waits)
    (block_if k.x c k.first k.rest o f.closed l.closed)

loop_read : (z : Labelled) (n : ℕ) (v : List ℕ) (a b c : Expression) (zs : List Labelled)
    → z.statement ≡ Do (Some n) v a b c → IsRange n zs → Reads BlockRead zs → Reads UnitRead (z ∷ zs)
loop_read z n v a b c zs g r make xs w e named apart =
    by (do_of k.x.statement (closer_label (wait k.rest w)) n v a b c (ap (λ (y : Labelled). y.statement) k.is ∙ g))
  where
    k : IsCons z zs xs w
    k = cons_of z zs xs w e

    all : AreNamed (k.x ∷ k.rest)
    all = subst (λ (vs : List Labelled). AreNamed vs) k.whole named

    m : BlockRead k.rest w
    m = make k.rest w k.left all.1 (apart_behind z zs w apart)

    no_end : list_any (ends_with n) w ≡ false
    no_end = apart n (or_right (bears n z) (label_stands_in zs n) (range_has n zs (range_up_to n zs r)))

    by : IsDo (Some n) k.x.statement ⊎ (IsDo None k.x.statement × (closer_label (wait k.rest w) ≡ Some n)) → UnitRead xs w
    by (inl d) =
        unit_as xs (k.x ∷ k.rest) w k.whole
        (waits_as k.x (wait k.rest w) (Do (Some n) d.v d.a d.b d.c) d.is ∙ ap (without_bearer n) m.waits
        ∙ kept_without n w no_end)
        (loop k.x n d.v d.a d.b d.c k.rest d.is
        (range_of n k.rest w (subst (λ (vs : List Labelled). IsRange n vs) (sym k.left) r)) m.closed)
    by (inr d) =
        absurd (not_both (list_any (ends_with n) w)
        (closer_ends n w (ap closer_label (sym m.waits) ∙ d.1)) no_end)

end_do_read : (z end : Labelled) (n : ℕ) (v : List ℕ) (a b c : Expression) (ys : List Labelled)
    → z.statement ≡ Do (Some n) v a b c → Reads BlockRead ys → end.statement ≡ EndDo → label_stands_in ys n ≡ false
    → bears n end ≡ true → Reads UnitRead (z ∷ (ys ++ end ∷ []))
end_do_read z end n v a b c ys g make f none t xs w e named apart =
    by (do_of k.x.statement (closer_label (wait (k.first ++ k.rest) w)) n v a b c
    (ap (λ (y : Labelled). y.statement) k.is ∙ g))
  where
    k : AreBehind z ys (end ∷ []) xs w
    k = behind_of z ys (end ∷ []) xs w e

    o : IsOne end k.rest w
    o = one_of end k.rest w k.right

    last : o.x.statement ≡ EndDo
    last = statement_as o.x end (closer_label w) EndDo o.is f refl

    -- the label that the written END DO has or gets
    ends : (j : ℕ) → ends_with j o.x ≡ bears j end
    ends j = sym (end_bears j o.x (closer_label w) last) ∙ ap (bears j) o.is

    whole : xs ≡ k.x ∷ (k.first ++ o.x ∷ [])
    whole = k.whole ∙ ap (λ vs. k.x ∷ (k.first ++ vs)) o.whole

    all : AreNamed (k.x ∷ (k.first ++ o.x ∷ []))
    all = subst (λ (vs : List Labelled). AreNamed vs) whole named

    end_waits : wait k.rest w ≡ o.x ∷ w
    end_waits = ap (λ vs. wait vs w) o.whole ∙ waits_as o.x w EndDo last

    other : (j : ℕ) → label_stands_in ys j ≡ true → (d : Bool) → ends_with j o.x ≡ d → ends_with j o.x ≡ false
    other j h true i =
        absurd (not_both (label_stands_in ys j) h
        (let same : (n == j) ≡ true = label_as n j end true t (sym (ends j) ∙ i) in
        let equal : j ≡ n = grind (arith, nat_tests) in ap (label_stands_in ys) equal ∙ none))
    other j h false i = i

    m : BlockRead k.first (o.x ∷ w)
    m =
        make k.first (o.x ∷ w) (ap (labelled k.first) (sym end_waits) ∙ k.left) (named_left k.first (o.x ∷ []) all.1)
        (λ j h. both_false (ends_with j o.x) (list_any (ends_with j) w) (other j h (ends_with j o.x) refl)
        (apart_left ys (end ∷ []) w (apart_behind z (ys ++ end ∷ []) w apart) j h))

    all_waits : wait (k.first ++ o.x ∷ []) w ≡ o.x ∷ w
    all_waits =
        wait_append k.first (o.x ∷ []) w ∙ ap (wait k.first) (waits_as o.x w EndDo last) ∙ m.waits

    read : (label : Option ℕ) → IsDo label k.x.statement → without_closer label (o.x ∷ w) ≡ w → MayClose label o.x
        → UnitRead xs w
    read label d h i =
        unit_as xs (k.x ∷ (k.first ++ o.x ∷ [])) w whole
        (waits_as k.x (wait (k.first ++ o.x ∷ []) w) (Do label d.v d.a d.b d.c) d.is
        ∙ ap (without_closer label) all_waits ∙ h)
        (end_do k.x o.x label d.v d.a d.b d.c k.first d.is m.closed last i)

    written : IsDo (Some n) k.x.statement → bears n o.x ≡ true
    written d =
        end_written n o.x (subst (λ (u : Statement77). IfSome (label_named u) IsSourceLabel) d.is all.0) (ends n ∙ t)

    by : IsDo (Some n) k.x.statement ⊎ (IsDo None k.x.statement × (closer_label (wait (k.first ++ k.rest) w) ≡ Some n))
        → UnitRead xs w
    by (inl d) =
        let h = written d in read (Some n) d (ap (λ q. cond q w (o.x ∷ without_bearer n w)) h) h
    by (inr d) = read None d.0 refl tt

-- ---- blocks and arms

more_read : (ys zs : List Labelled) → Reads UnitRead ys → Reads BlockRead zs → Reads BlockRead (ys ++ zs)
more_read ys zs one make xs w e named apart =
    let k = split_of ys zs xs w e in
    let all = subst (λ (vs : List Labelled). AreNamed vs) k.whole named in
    let r = make k.rest w k.right (named_right k.first k.rest all) (apart_right ys zs w apart) in
    let f =
    one k.first w (ap (labelled k.first) (sym r.waits) ∙ k.left) (named_left k.first k.rest all)
    (apart_left ys zs w apart) in
    subst (λ (vs : List Labelled). BlockRead vs w) (sym k.whole)
    (record {
      waits = both_wait k.first k.rest w r.waits f.waits;
      closed = more k.first k.rest f.closed r.closed;
    })

none_read : Reads BlockRead []
none_read xs w e named apart =
    subst (λ (vs : List Labelled). BlockRead vs w) (sym (none_of xs w e)) (record { waits = refl; closed = nothing })

end_if_read : (z : Labelled) → z.statement ≡ EndIf → Reads ArmsRead (z ∷ [])
end_if_read z g xs w e named apart =
    let k = one_of z xs w e in
    let o = statement_as k.x z (closer_label w) EndIf k.is g refl in
    arms_as xs (k.x ∷ []) w k.whole (waits_as k.x w EndIf o) (end_if k.x o)

else_read : (z end : Labelled) (ys : List Labelled) → z.statement ≡ Else → Reads BlockRead ys → end.statement ≡ EndIf
    → Reads ArmsRead (z ∷ (ys ++ end ∷ []))
else_read z end ys g make f xs w e named apart =
    let k = behind_of z ys (end ∷ []) xs w e in
    let o = one_of end k.rest w k.right in
    let last = statement_as o.x end (closer_label w) EndIf o.is f refl in
    let whole : xs ≡ k.x ∷ (k.first ++ o.x ∷ []) = k.whole ∙ ap (λ vs. k.x ∷ (k.first ++ vs)) o.whole in
    let all = subst (λ (vs : List Labelled). AreNamed vs) whole named in
    let ends : wait (o.x ∷ []) w ≡ w = waits_as o.x w EndIf last in
    let m =
    make k.first w (ap (labelled k.first) (sym (ap (λ vs. wait vs w) o.whole ∙ ends)) ∙ k.left)
    (named_left k.first (o.x ∷ []) all.1) (apart_left ys (end ∷ []) w (apart_behind z (ys ++ end ∷ []) w apart)) in
    let s = statement_as k.x z (closer_label (wait (k.first ++ k.rest) w)) Else k.is g refl in
    arms_as xs (k.x ∷ (k.first ++ o.x ∷ [])) w whole
    (waits_as k.x (wait (k.first ++ o.x ∷ []) w) Else s ∙ both_wait k.first (o.x ∷ []) w ends m.waits)
    (else_part k.x o.x k.first s m.closed last)

else_if_read : (z : Labelled) (c : Expression) (ys zs : List Labelled) → z.statement ≡ ElseIf c → Reads BlockRead ys
    → Reads ArmsRead zs → Reads ArmsRead (z ∷ (ys ++ zs))
else_if_read z c ys zs g make end xs w e named apart =
    let k = behind_of z ys zs xs w e in
    let all = subst (λ (vs : List Labelled). AreNamed vs) k.whole named in
    let l =
    end k.rest w k.right (named_right k.first k.rest all.1) (apart_right ys zs w (apart_behind z (ys ++ zs) w apart)) in
    let f =
    make k.first w (ap (labelled k.first) (sym l.waits) ∙ k.left) (named_left k.first k.rest all.1)
    (apart_left ys zs w (apart_behind z (ys ++ zs) w apart)) in
    let o = statement_as k.x z (closer_label (wait (k.first ++ k.rest) w)) (ElseIf c) k.is g refl in
    arms_as xs (k.x ∷ (k.first ++ k.rest)) w k.whole
    (waits_as k.x (wait (k.first ++ k.rest) w) (ElseIf c) o ∙ both_wait k.first k.rest w l.waits f.waits)
    (else_if k.x c k.first k.rest o f.closed l.closed)

module _ (us : List Use77) (s : Store) (named : List ℕ) where
  mutual
    unit_read : (zs : List Labelled) (cs : List tree.Statement) → IsUnit us s named zs cs → Reads UnitRead zs
    unit_read zs cs (unit_alone z e) = alone_read z e
    unit_read zs cs (unit_if z c ys ws body arms part e h k) =
        if_read z c ys ws e (block_read ys body h) (arms_read ws arms part k)
    unit_read zs cs (unit_loop z n v a b c ys body e r h) = loop_read z n v a b c ys e r (block_read ys body h)
    unit_read zs cs (unit_end_do z end n v a b c ys body e h f g t) =
        end_do_read z end n v a b c ys e (block_read ys body h) f g t

    pub block_read : (zs : List Labelled) (cs : List tree.Statement) → AreBlock77 us s named zs cs → Reads BlockRead zs
    block_read zs cs no_units = none_read
    block_read zs cs (more_units ys ws ds es h k) = more_read ys ws (unit_read ys ds h) (block_read ws es k)

    arms_read : (zs : List Labelled) (arms : tree.Arms) (part : tree.Block) → AreArms77 us s named zs arms part
        → Reads ArmsRead zs
    arms_read zs arms part (arms_end z e) = end_if_read z e
    arms_read zs arms part (arms_part z end ys body e h f) = else_read z end ys e (block_read ys body h) f
    arms_read zs arms part (arms_more z c ys ws body more_arms o e h k) =
        else_if_read z c ys ws e (block_read ys body h) (arms_read ws more_arms o k)
