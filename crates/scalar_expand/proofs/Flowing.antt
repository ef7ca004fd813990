-- Private scalars begin along the text of a nest.
use Rattle.std.proofs.Common.{append_assoc, arith, length, length-append, ◌≡◌, refl, sym, ap, ◌∙◌, ◌⊎◌, inl, inr, subst, ℕ, ℤ, Bool, true, false, ◌||◌, List, [], ◌∷◌, ◌++◌, map, Option, Some, None}
use Rattle.std.specs.List.{list_any}
use Rattle.std.proofs.lemmas.Bool.{eqb-true}
use Rattle.std.proofs.lemmas.List.{append-nil}
use Rattle.nest.specs.Bodies.{Standing, loops_in_parts, loops_of, nest_statements, statements_in, statements_in_parts}
use Rattle.nest.specs.Plain.{Guarded, Loop, Nest, Part, Run, Turns, Choice, Label, Jump, Parts, no_parts, part}
use Rattle.nest_order.specs.orders.Lists.{In}
use Rattle.nest_order.proofs.orders.Lists.{Each-In, Each-from, In-append, In-left, In-right}
use Rattle.last_values.specs.Occurrences.{stands_in_statement}
use Rattle.last_values.specs.Scalars.{scalar}
use Rattle.scalar_expand.specs.Expanded.{is_innermost, named_private}
use Rattle.scalar_expand.specs.Flow.{Counts, EachLoop, EachLoopIn, Fits, Flows, FlowsIn, MayBeRead}
use Rattle.scalar_expand.specs.Privates.{private_among, round_loop}
use Rattle.scalar_expand.specs.declared.privates.Private.{Private}
use Rattle.scalar_expand.specs.declared.privates.RoundLoop.{RoundLoop}
use Rattle.scalar_expand.proofs.Changes.{found, none_some, some_same}
use Rattle.scalar_expand.proofs.PrivateLaws.{Anew, Stands, StandsInNone, first_begins, further_stays, has_first, in_guard, in_left, in_middle, in_right, numbers_of, numbers_round}

-- ---- whether a name stands in one of some statements

abbrev pub StandsIn : List ℕ → List Standing → Type 0
StandsIn x ss = (s : Standing) × In s ss × Stands x s

abbrev stands_among : List ℕ → List Standing → Bool
stands_among x ss = list_any (λ (s : Standing). stands_in_statement x s.statement) ss

some_stands : (x : List ℕ) (ss : List Standing) → stands_among x ss ≡ true → StandsIn x ss
some_stands x [] e = cc
some_stands x (s ∷ ss) e = by (stands_in_statement x s.statement) refl e (λ f. some_stands x ss f)
  where
    by : (b : Bool) → stands_in_statement x s.statement ≡ b → (b || stands_among x ss) ≡ true → (stands_among x ss ≡ true → StandsIn x ss) → StandsIn x (s ∷ ss)
    by true f g r = (s, inl refl, f)
    by false f g r = let more = r g in (more.0, inr more.1, more.2)

none_stands : (x : List ℕ) (ss : List Standing) → stands_among x ss ≡ false → StandsInNone x ss
none_stands x [] e s i = absurd i
none_stands x (t ∷ ss) e s i = by (stands_in_statement x t.statement) refl e i (λ f j. none_stands x ss f s j)
  where
    by : (b : Bool) → stands_in_statement x t.statement ≡ b → (b || stands_among x ss) ≡ false → In s (t ∷ ss) → (stands_among x ss ≡ false → In s ss → stands_in_statement x s.statement ≡ false) → stands_in_statement x s.statement ≡ false
    by true f g j r = cc
    by false f g (inl e) r = ap (λ (z : Standing). stands_in_statement x z.statement) e ∙ f
    by false f g (inr j) r = r g j

-- ---- the loops round the statements of a part

abbrev AreOf : List Loop → List Loop → Standing → Type 0
AreOf ls os y = (more : List Loop) × (y.loops ≡ ls ++ more) × ((o : Loop) → In o more → In o os)

wider : (ls os os' : List Loop) (y : Standing) → ((o : Loop) → In o os → In o os') → AreOf ls os y → AreOf ls os' y
wider ls os os' y w h = (h.0, h.1, λ o i. w o (h.2 o i))

-- loops and statements alone, and what is asked of each loop under those round it
module _ (Asked : List Loop → Loop → Type 0) where
  mutual
    standing_loops : (ls : List Loop) (q : Part) → EachLoop Asked ls q → (y : Standing) → In y (statements_in ls q) → AreOf ls (loops_of q) y
    standing_loops ls (Run g) h y (inl e) = ([], ap (λ (s : Standing). s.loops) e ∙ sym (append-nil ls), λ o i. absurd i)
    standing_loops ls (Run g) h y (inr i) = absurd i
    standing_loops ls (Turns l qs) h y i =
        let r = standing_loops_in (ls ++ l ∷ []) qs h.1 y i in
        (l ∷ r.0, r.1 ∙ append_assoc ls (l ∷ []) r.0, λ o j. within o r.0 r.2 j)
      where
        within : (o : Loop) (more : List Loop) → ((o : Loop) → In o more → In o (loops_in_parts qs)) → In o (l ∷ more) → In o (l ∷ loops_in_parts qs)
        within o more w (inl e) = inl e
        within o more w (inr j) = inr (w o j)
    standing_loops ls (Choice bs qs) h y i = absurd h
    standing_loops ls (Label n) h y i = absurd h
    standing_loops ls (Jump n) h y i = absurd h

    standing_loops_in : (ls : List Loop) (qs : Parts) → EachLoopIn Asked ls qs → (y : Standing) → In y (statements_in_parts ls qs) → AreOf ls (loops_in_parts qs) y
    standing_loops_in ls no_parts h y i = absurd i
    standing_loops_in ls (part q qs) h y i =
        either (In-append y (statements_in ls q) (statements_in_parts ls qs) i) (λ j. standing_loops ls q h.0 y j) (λ j. standing_loops_in ls qs h.1 y j)
      where
        either : In y (statements_in ls q) ⊎ In y (statements_in_parts ls qs) → (In y (statements_in ls q) → AreOf ls (loops_of q) y) → (In y (statements_in_parts ls qs) → AreOf ls (loops_in_parts qs) y)
            → AreOf ls (loops_of q ++ loops_in_parts qs) y
        either (inl j) f g = wider ls (loops_of q) (loops_of q ++ loops_in_parts qs) y (λ o k. In-left o (loops_of q) (loops_in_parts qs) k) (f j)
        either (inr j) f g = wider ls (loops_in_parts qs) (loops_of q ++ loops_in_parts qs) y (λ o k. In-right o (loops_of q) (loops_in_parts qs) k) (g j)

-- ---- numbers of loops

pub number_in : (ls : List Loop) (o : Loop) → In o ls → In o.number (numbers_of ls)
number_in [] o i = i
number_in (l ∷ ls) o (inl e) = inl (ap (λ (k : Loop). k.number) e)
number_in (l ∷ ls) o (inr i) = inr (number_in ls o i)

loop_at : (ls : List Loop) (n : ℕ) → In n (numbers_of ls) → (o : Loop) × In o ls × (o.number ≡ n)
loop_at [] n i = absurd i
loop_at (l ∷ ls) n (inl e) = (l, inl refl, sym e)
loop_at (l ∷ ls) n (inr i) = let r = loop_at ls n i in (r.0, inr r.1, r.2)

-- the innermost loop is among the last ones
last_in : (n : ℕ) (xs : List Loop) (y : Loop) (ys : List Loop) → is_innermost n (map round_loop (xs ++ y ∷ ys)) ≡ true → (o : Loop) × In o (y ∷ ys) × (o.number ≡ n)
last_in n [] y [] e = (y, inl refl, eqb-true y.number n e)
last_in n [] y (z ∷ zs) e = let r = last_in n [] z zs e in (r.0, inr r.1, r.2)
last_in n (x ∷ []) y ys e = last_in n [] y ys e
last_in n (x ∷ w ∷ xs) y ys e = last_in n (w ∷ xs) y ys e

innermost_in : (n : ℕ) (os : List Loop) → is_innermost n (map round_loop os) ≡ true → In n (numbers_of os)
innermost_in n [] e = cc
innermost_in n (o ∷ os) e = let r = last_in n [] o os e in subst (λ k. In k (numbers_of (o ∷ os))) r.2 (number_in (o ∷ os) r.0 r.1)

-- ---- along the text

module _ (m : Nest) (ps : List Private) (symbols : List (List ℕ)) (IsCounter : List ℕ → Type 0) (bits : ℕ) (value : List ℕ → ℤ) (trip : List ℕ → Loop → ℕ) where
  module _ (known : (p : Private) → In p ps → private_among m p.name (nest_statements m) ≡ Some p) (named : (p : Private) → In p ps → named_private ps p.name ≡ Some p)
      (fit : (x : Standing) → In x (nest_statements m) → Fits ps symbols IsCounter x.statement) where
    abbrev Loops : List Loop → Part → Type 0
    Loops = EachLoop (Counts ps symbols IsCounter bits value trip)

    abbrev LoopsIn : List Loop → Parts → Type 0
    LoopsIn = EachLoopIn (Counts ps symbols IsCounter bits value trip)

    -- a private scalar's loops have the numbers of those round each statement in which it stands
    loops_are : (p : Private) → In p ps → (before : List Standing) (y : Standing) (behind : List Standing) → nest_statements m ≡ before ++ y ∷ behind → Stands p.name y → numbers_round p.loops ≡ numbers_of y.loops
    loops_are p i before y behind split st = by (stands_among p.name before) refl
      where
        known_here : private_among m p.name (before ++ y ∷ behind) ≡ Some p
        known_here = ap (private_among m p.name) (sym split) ∙ known p i

        numbers : (os : List Loop) → numbers_round (map round_loop os) ≡ numbers_of os
        numbers [] = refl
        numbers (o ∷ os) = ap (λ ns. o.number ∷ ns) (numbers os)

        by : (b : Bool) → stands_among p.name before ≡ b → numbers_round p.loops ≡ numbers_of y.loops
        by true f = let s = some_stands p.name before f in further_stays m p.name p before y behind known_here s.0 s.1 s.2 st
        by false f = ap numbers_round (first_begins m p.name p before y behind known_here (none_stands p.name before f) st).1.loops ∙ numbers y.loops

    -- each place in a list
    pub record Place (ss : List Standing) (y : Standing) : Type 0 where
      pub before : List Standing
      pub behind : List Standing
      pub splits : ss ≡ before ++ y ∷ behind

    place_of : (ss : List Standing) (y : Standing) → In y ss → Place ss y
    place_of [] y i = absurd i
    place_of (s ∷ ss) y (inl e) = record { before = []; behind = ss; splits = ap (λ t. t ∷ ss) (sym e) }
    place_of (s ∷ ss) y (inr i) = let r = place_of ss y i in record { before = s ∷ r.before; behind = r.behind; splits = ap (λ ts. s ∷ ts) r.splits }

    -- of those in the nest
    stands_in_loops : (p : Private) → In p ps → (y : Standing) → In y (nest_statements m) → Stands p.name y → numbers_round p.loops ≡ numbers_of y.loops
    stands_in_loops p i y j st = let r = place_of (nest_statements m) y j in loops_are p i r.before y r.behind r.splits st

    abbrev Once : List Loop → Type 0
    Once os = Rattle.nest_order.specs.orders.Lists.Distinct (numbers_of os)

    -- ---- numbers

    abbrev numbered : List Loop → List ℕ
    numbered = numbers_of

    number-left : (n : ℕ) (xs ys : List Loop) → In n (numbers_of xs) → In n (numbers_of (xs ++ ys))
    number-left n [] ys i = absurd i
    number-left n (x ∷ xs) ys (inl e) = inl e
    number-left n (x ∷ xs) ys (inr i) = inr (number-left n xs ys i)

    number-right : (n : ℕ) (xs ys : List Loop) → In n (numbers_of ys) → In n (numbers_of (xs ++ ys))
    number-right n [] ys i = i
    number-right n (x ∷ xs) ys i = inr (number-right n xs ys i)

    number-either : (n : ℕ) (xs ys : List Loop) → In n (numbers_of (xs ++ ys)) → In n (numbers_of xs) ⊎ In n (numbers_of ys)
    number-either n [] ys i = inr i
    number-either n (x ∷ xs) ys (inl e) = inl (inl e)
    number-either n (x ∷ xs) ys (inr i) = by (number-either n xs ys i)
      where
        by : In n (numbers_of xs) ⊎ In n (numbers_of ys) → In n (numbers_of (x ∷ xs)) ⊎ In n (numbers_of ys)
        by (inl j) = inl (inr j)
        by (inr j) = inr j

    -- no number stands in both of two lists of loops, one behind the other, in which none stands twice
    apart : (xs ys : List Loop) → Once (xs ++ ys) → (n : ℕ) → In n (numbers_of xs) → ¬ In n (numbers_of ys)
    apart [] ys o n i j = absurd i
    apart (x ∷ xs) ys o n (inl e) j = Each-In (λ k. ¬ (x.number ≡ k)) (numbers_of (xs ++ ys)) o.0 n (number-right n xs ys j) (sym e)
    apart (x ∷ xs) ys o n (inr i) j = apart xs ys o.1 n i j

    once-left : (xs ys : List Loop) → Once (xs ++ ys) → Once xs
    once-left [] ys o = tt
    once-left (x ∷ xs) ys o = (Each-from (λ k. ¬ (x.number ≡ k)) (numbers_of xs) (λ k i. Each-In (λ k. ¬ (x.number ≡ k)) (numbers_of (xs ++ ys)) o.0 k (number-left k xs ys i)), once-left xs ys o.1)

    once-right : (xs ys : List Loop) → Once (xs ++ ys) → Once ys
    once-right [] ys o = o
    once-right (x ∷ xs) ys o = once-right xs ys o.1

    -- a statement of a part has numbers of the loops round the part and of those in it
    of_part : (ls os : List Loop) (y : Standing) → AreOf ls os y → (n : ℕ) → In n (numbers_of y.loops) → In n (numbers_of ls) ⊎ In n (numbers_of os)
    of_part ls os y h n i = by (number-either n ls h.0 (subst (λ (ks : List Loop). In n (numbers_of ks)) h.1 i))
      where
        by : In n (numbers_of ls) ⊎ In n (numbers_of h.0) → In n (numbers_of ls) ⊎ In n (numbers_of os)
        by (inl j) = inl j
        by (inr j) = let o = loop_at h.0 n j in inr (subst (λ k. In k (numbers_of os)) o.2 (number_in os o.0 (h.2 o.0 o.1)))

    last-number : (os : List Loop) (l : Loop) → In l.number (numbers_of (os ++ l ∷ []))
    last-number [] l = inl refl
    last-number (o ∷ os) l = inr (last-number os l)

    longer : (xs : List ℕ) (n : ℕ) (ns : List ℕ) → xs ≡ xs ++ n ∷ ns → ⊥
    longer xs n ns e =
        let same = ap (λ (ys : List ℕ). length ys) e in
        let whole = length-append xs (n ∷ ns) in
        omega (arith, same, whole)

    numbers-append : (xs ys : List Loop) → numbers_of (xs ++ ys) ≡ numbers_of xs ++ numbers_of ys
    numbers-append [] ys = refl
    numbers-append (x ∷ xs) ys = ap (λ ns. x.number ∷ ns) (numbers-append xs ys)

    numbers-round : (os : List Loop) → numbers_round (map round_loop os) ≡ numbers_of os
    numbers-round [] = refl
    numbers-round (o ∷ os) = ap (λ ns. o.number ∷ ns) (numbers-round os)

    -- what has begun, and what is past, where these statements stand before
    pub record Begun (ls : List Loop) (before : List Standing) (begun past : List Private) : Type 0 where
      pub has : (p : Private) → In p ps → numbers_round p.loops ≡ numbers_of ls → StandsIn p.name before → In p begun
      pub stood : (p : Private) → In p begun → StandsIn p.name before
      pub among : (p : Private) → In p begun → In p ps
      pub round : (p : Private) → In p begun → (k : RoundLoop) → In k p.loops → (o : Loop) × In o ls × (k.variable ≡ o.variable)
      pub inside : (p : Private) → In p begun → (n : ℕ) → In n (numbers_round p.loops) → In n (numbers_of ls)
      pub has_past : (p : Private) → In p ps → (n : ℕ) (ns : List ℕ) → numbers_round p.loops ≡ numbers_of ls ++ n ∷ ns → StandsIn p.name before → In p past
      pub past_stood : (p : Private) → In p past → StandsIn p.name before
      pub past_among : (p : Private) → In p past → In p ps
      pub outside : (p : Private) → In p past → (n : ℕ) × In n (numbers_round p.loops) × (¬ In n (numbers_of ls))

    others : (ls : List Loop) (before : List Standing) (begun past : List Private) → Begun ls before begun past → (q : Private) → In q begun → ¬ In q past
    others ls before begun past at q i j = let o = at.outside q j in o.2 (at.inside q i o.0 o.1)

    -- the loops of the parts at hand have numbers of their own
    pub record AreOwn (ls : List Loop) (before behind : List Standing) (os : List Loop) : Type 0 where
      pub round : (o : Loop) → In o os → ¬ In o.number (numbers_of ls)
      pub earlier : (y : Standing) → In y before → (o : Loop) → In o os → ¬ In o.number (numbers_of y.loops)
      pub later : (y : Standing) → In y behind → (o : Loop) → In o os → ¬ In o.number (numbers_of y.loops)

    module _ (ls : List Loop) (before : List Standing) (g : Guarded) (behind : List Standing) (begun past : List Private) (split : nest_statements m ≡ before ++ (record { loops = ls; statement = g }) ∷ behind)
        (at : Begun ls before begun past) where
      abbrev here : Standing
      here = record { loops = ls; statement = g }

      known_here : (p : Private) → In p ps → private_among m p.name (before ++ here ∷ behind) ≡ Some p
      known_here p i = ap (private_among m p.name) (sym split) ∙ known p i

      fits : Fits ps symbols IsCounter g
      fits = fit here (subst (In here) (sym split) (in_middle before here behind))

      -- a name that stands here may be read, if this isn't where a private scalar begins
      reads : (z : List ℕ) → Stands z here → ((p : Private) → In p ps → p.name ≡ z → Anew z g → StandsInNone z before → ⊥) → MayBeRead ps symbols IsCounter begun (named_private ps z) z
      reads z st not_first = by (named_private ps z) refl
        where
          by : (o : Option Private) → named_private ps z ≡ o → MayBeRead ps symbols IsCounter begun o z
          by None e = fits.unnamed z st e
          by (Some p) e = stood (stands_among p.name before) refl
            where
              at_z : In p ps × (p.name ≡ z)
              at_z = found ps z p e

              here_too : Stands p.name here
              here_too = subst (λ y. Stands y here) (sym at_z.1) st

              stood : (b : Bool) → stands_among p.name before ≡ b → In p begun
              stood true f =
                  let s = some_stands p.name before f in
                  at.has p at_z.0 (further_stays m p.name p before here behind (known_here p at_z.0) s.0 s.1 s.2 here_too) s
              stood false f =
                  let none = none_stands p.name before f in
                  let b = first_begins m p.name p before here behind (known_here p at_z.0) none here_too in
                  absurd (not_first p at_z.0 at_z.1 (subst (λ y. Anew y g) at_z.1 b.0) (subst (λ y. StandsInNone y before) at_z.1 none))

      abbrev also : List Standing
      also = before ++ here ∷ []

      more_stands : (x : List ℕ) → StandsIn x before → StandsIn x also
      more_stands x s = (s.0, In-left s.0 before (here ∷ []) s.1, s.2)

      stands_here : (x : List ℕ) → StandsIn x also → StandsIn x before ⊎ Stands x here
      stands_here x s = by (In-append s.0 before (here ∷ []) s.1)
        where
          by : In s.0 before ⊎ In s.0 (here ∷ []) → StandsIn x before ⊎ Stands x here
          by (inl i) = inl (s.0, i, s.2)
          by (inr (inl e)) = inr (subst (Stands x) e s.2)
          by (inr (inr i)) = absurd i

      -- all that begins here
      begins_now : (p : Private) → In p ps → Stands p.name here → (StandsIn p.name before) ⊎ (Anew p.name g × StandsInNone p.name before)
      begins_now p i st = by (stands_among p.name before) refl
        where
          by : (b : Bool) → stands_among p.name before ≡ b → (StandsIn p.name before) ⊎ (Anew p.name g × StandsInNone p.name before)
          by true f = inl (some_stands p.name before f)
          by false f = let none = none_stands p.name before f in inr ((first_begins m p.name p before here behind (known_here p i) none st).0, none)

      -- the same loops have been begun in
      still : (p : Private) → In p ps → StandsIn p.name also → ((q : Private) → In q ps → Anew q.name g → StandsInNone q.name before → ⊥) → numbers_round p.loops ≡ numbers_of ls → In p begun
      still p i s none e = by (stands_here p.name s)
        where
          by' : (StandsIn p.name before) ⊎ (Anew p.name g × StandsInNone p.name before) → In p begun
          by' (inl t) = at.has p i e t
          by' (inr b) = absurd (none p i b.0 b.1)

          by : StandsIn p.name before ⊎ Stands p.name here → In p begun
          by (inl t) = at.has p i e t
          by (inr st) = by' (begins_now p i st)

      pub record Next : Type 0 where
        pub after : List Private
        pub news : List Private
        pub are : after ≡ news ++ begun
        pub own : (p : Private) → In p news → p.loops ≡ map round_loop ls
        pub flows : Flows ps symbols IsCounter bits value trip ls begun past (Run g) after past
        pub now : Begun ls also after past

      -- what stands further in stood before
      further_in : (p : Private) → In p ps → (n : ℕ) (ns : List ℕ) → numbers_round p.loops ≡ numbers_of ls ++ n ∷ ns → StandsIn p.name also → In p past
      further_in p i n ns e s = by (stands_here p.name s)
        where
          by : StandsIn p.name before ⊎ Stands p.name here → In p past
          by (inl t) = at.has_past p i n ns e t
          by (inr st) = absurd (longer (numbers_of ls) n ns (sym (loops_are p i before here behind split st) ∙ e))

      goes_on : ((p : Private) → In p ps → Anew p.name g → StandsInNone p.name before → ⊥) → Next
      goes_on none = record {
        after = begun;
        news = [];
        are = refl;
        own = λ p i. absurd i;
        flows = inl (
          record {
            guard_plain = fits.guard_plain;
            guard = λ z i. reads z (in_guard g z i) (λ p j e a n. never p j z e a n);
            right_plain = fits.right_plain;
            right = λ z i. reads z (in_right g z i) (λ p j e a n. never p j z e a n);
            left_plain = fits.left_plain;
            left = λ z i. reads z (in_left g z (inr i)) (λ p j e a n. never p j z e a n);
            target = reads g.left.name (in_left g g.left.name (inl refl)) (λ p j e a n. never p j g.left.name e a n);
            counts_none = fits.counts_none;
            free = fits.free;
          },
          others ls before begun past at,
          refl,
          refl,
        );
        now = record {
          has = λ p i e s. still p i s none e;
          stood = λ p i. more_stands p.name (at.stood p i);
          among = at.among;
          round = at.round;
          inside = at.inside;
          has_past = further_in;
          past_stood = λ p i. more_stands p.name (at.past_stood p i);
          past_among = at.past_among;
          outside = at.outside;
        };
      }
        where
          never : (p : Private) → In p ps → (z : List ℕ) → p.name ≡ z → Anew z g → StandsInNone z before → ⊥
          never p j z e a n = none p j (subst (λ y. Anew y g) (sym e) a) (subst (λ y. StandsInNone y before) (sym e) n)

      begins : (p : Private) → In p ps → StandsInNone p.name before → g.left.name ≡ p.name → Next
      begins p i none name =
          let st : Stands p.name here = subst (λ y. Stands y here) name (in_left g g.left.name (inl refl)) in
          let b = first_begins m p.name p before here behind (known_here p i) none st in
          record {
            after = p ∷ begun;
            news = p ∷ [];
            are = refl;
            own = only_one b.1.loops;
            flows = inr (
              p,
              record {
                among = i;
                loops = b.1.loops;
                always = b.0.guard;
                left = fits.whole p (ap (named_private ps) name ∙ named p i) ∙ ap scalar name;
                right_plain = fits.right_plain;
                right = λ z j. reads z (in_right g z j) (λ q k e a n. a.right j);
                first = λ j. (let s = at.stood p j in (let bad : true ≡ false = sym s.2 ∙ none s.0 s.1 in cc));
              },
              λ j. (let s = at.past_stood p j in (let bad : true ≡ false = sym s.2 ∙ none s.0 s.1 in cc)),
              refl,
              refl,
            );
            now = record {
              has = has;
              stood = stood st;
              among = among;
              round = round b.1.loops;
              inside = inside b.1.loops;
              has_past = further_in;
              past_stood = λ q j. more_stands q.name (at.past_stood q j);
              past_among = at.past_among;
              outside = at.outside;
            };
          }
        where
          only_one : p.loops ≡ map round_loop ls → (q : Private) → In q (p ∷ []) → q.loops ≡ map round_loop ls
          only_one l q (inl e) = ap (λ (r : Private). r.loops) e ∙ l
          only_one l q (inr j) = absurd j

          same : (q : Private) → In q ps → Anew q.name g → q ≡ p
          same q j a = some_same q p (sym (named q j) ∙ (ap (named_private ps) (sym a.left ∙ name) ∙ named p i))

          has : (q : Private) → In q ps → numbers_round q.loops ≡ numbers_of ls → StandsIn q.name also → In q (p ∷ begun)
          has q j e s = by (stands_here q.name s)
            where
              by' : (StandsIn q.name before) ⊎ (Anew q.name g × StandsInNone q.name before) → In q (p ∷ begun)
              by' (inl t) = inr (at.has q j e t)
              by' (inr b) = inl (same q j b.0)

              by : StandsIn q.name before ⊎ Stands q.name here → In q (p ∷ begun)
              by (inl t) = inr (at.has q j e t)
              by (inr st) = by' (begins_now q j st)

          stood : Stands p.name here → (q : Private) → In q (p ∷ begun) → StandsIn q.name also
          stood st q (inl e) = (here, In-right here before (here ∷ []) (inl refl), subst (λ (r : Private). Stands r.name here) (sym e) st)
          stood st q (inr j) = more_stands q.name (at.stood q j)

          inside : p.loops ≡ map round_loop ls → (q : Private) → In q (p ∷ begun) → (n : ℕ) → In n (numbers_round q.loops) → In n (numbers_of ls)
          inside l q (inl e) n j = subst (In n) (ap (λ (r : Private). numbers_round r.loops) e ∙ (ap numbers_round l ∙ numbers-round ls)) j
          inside l q (inr i) n j = at.inside q i n j

          among : (q : Private) → In q (p ∷ begun) → In q ps
          among q (inl e) = subst (λ (r : Private). In r ps) (sym e) i
          among q (inr j) = at.among q j

          of_loops : (os : List Loop) (k : RoundLoop) → In k (map round_loop os) → (o : Loop) × In o os × (k.variable ≡ o.variable)
          of_loops [] k j = absurd j
          of_loops (o ∷ os) k (inl e) = (o, inl refl, ap (λ (r : RoundLoop). r.variable) e)
          of_loops (o ∷ os) k (inr j) = let r = of_loops os k j in (r.0, inr r.1, r.2)

          round : p.loops ≡ map round_loop ls → (q : Private) → In q (p ∷ begun) → (k : RoundLoop) → In k q.loops → (o : Loop) × In o ls × (k.variable ≡ o.variable)
          round l q (inl e) k j = of_loops ls k (subst (In k) (ap (λ (r : Private). r.loops) e ∙ l) j)
          round l q (inr j) k h = at.round q j k h

      pub next : Next
      next = by (named_private ps g.left.name) refl
        where
          by : (o : Option Private) → named_private ps g.left.name ≡ o → Next
          by None e = goes_on (λ p i a n. none_some p (sym e ∙ (ap (named_private ps) a.left ∙ named p i)))
          by (Some p) e = stood (stands_among p.name before) refl
            where
              at_left : In p ps × (p.name ≡ g.left.name)
              at_left = found ps g.left.name p e

              stood : (b : Bool) → stands_among p.name before ≡ b → Next
              stood true f = goes_on (λ q i a n. (let s = some_stands p.name before f in
                  (let name : q.name ≡ p.name = sym a.left ∙ sym at_left.1 in
                  (let bad : true ≡ false = sym s.2 ∙ subst (λ y. stands_in_statement y s.0.statement ≡ false) name (n s.0 s.1) in cc))))
              stood false f = begins p at_left.0 (none_stands p.name before f) (sym at_left.1)

    -- ---- parts

    -- behind a part, or parts
    pub record Behind (ls : List Loop) (now : List Standing) (begun past : List Private) (Flowing : List Private → List Private → Type 0) : Type 0 where
      pub after : List Private
      pub news : List Private
      pub are : after ≡ news ++ begun
      pub own : (p : Private) → In p news → p.loops ≡ map round_loop ls
      pub behind : List Private
      pub ended : List Private
      pub ends : behind ≡ ended ++ past
      pub path : (p : Private) → In p ended → (k : Loop) × (more : List Loop) × (p.loops ≡ map round_loop (ls ++ k ∷ more))
      pub flows : Flowing after behind
      pub at : Begun ls now after behind

    -- what stands before an inner loop
    entered : (ls : List Loop) (l : Loop) (before : List Standing) (begun past : List Private) → ((y : Standing) → In y before → In y (nest_statements m)) → ((y : Standing) → In y before → ¬ In l.number (numbers_of y.loops))
        → Begun ls before begun past → Begun (ls ++ l ∷ []) before begun past
    entered ls l before begun past within fresh at = record {
      has = λ p i e s. absurd (never p i s (subst (In l.number) (sym e) (last-number ls l)));
      stood = at.stood;
      among = at.among;
      round = λ p i k j. (let r = at.round p i k j in (r.0, In-left r.0 ls (l ∷ []) r.1, r.2));
      inside = λ p i n j. number-left n ls (l ∷ []) (at.inside p i n j);
      has_past = λ p i n ns e s. absurd (never p i s (subst (In l.number) (sym e) (In-left l.number (numbers_of (ls ++ l ∷ [])) (n ∷ ns) (last-number ls l))));
      past_stood = at.past_stood;
      past_among = at.past_among;
      outside = λ p i. (let o = at.outside p i in (o.0, o.1, λ j. apart-from p i o.0 o.1 o.2 (number-either o.0 ls (l ∷ []) j)));
    }
      where
        never : (p : Private) → In p ps → (s : StandsIn p.name before) → ¬ In l.number (numbers_round p.loops)
        never p i s j = fresh s.0 s.1 (subst (In l.number) (stands_in_loops p i s.0 (within s.0 s.1) s.2) j)

        apart-from : (p : Private) → In p past → (n : ℕ) → In n (numbers_round p.loops) → ¬ In n (numbers_of ls) → In n (numbers_of ls) ⊎ In n (numbers_of (l ∷ [])) → ⊥
        apart-from p i n a b (inl j) = b j
        apart-from p i n a b (inr (inl e)) = never p (at.past_among p i) (at.past_stood p i) (subst (λ k. In k (numbers_round p.loops)) e a)
        apart-from p i n a b (inr (inr j)) = absurd j

    abbrev Inside : List Standing → Type 0
    Inside ss = (y : Standing) → In y ss → In y (nest_statements m)

    abbrev Part-flows : List Loop → List Standing → Part → List Standing → List Private → List Private → Type 0
    Part-flows ls before q behind begun past = Behind ls (before ++ statements_in ls q) begun past (Flows ps symbols IsCounter bits value trip ls begun past q)

    abbrev Parts-flow : List Loop → List Standing → Parts → List Standing → List Private → List Private → Type 0
    Parts-flow ls before qs behind begun past = Behind ls (before ++ statements_in_parts ls qs) begun past (FlowsIn ps symbols IsCounter bits value trip ls begun past qs)

    -- ---- a loop

    module _ (ls : List Loop) (before : List Standing) (l : Loop) (qs : Parts) (behind : List Standing) (begun past : List Private) (split : nest_statements m ≡ before ++ (statements_in_parts (ls ++ l ∷ []) qs ++ behind))
        (counts : Counts ps symbols IsCounter bits value trip ls l) (loops : LoopsIn (ls ++ l ∷ []) qs) (once : Once (l ∷ loops_in_parts qs)) (own : AreOwn ls before behind (l ∷ loops_in_parts qs)) (at : Begun ls before begun past) where
      abbrev inner : List Standing
      inner = statements_in_parts (ls ++ l ∷ []) qs

      inside-before : Inside before
      inside-before y i = subst (In y) (sym split) (In-left y before (inner ++ behind) i)

      inside-inner : Inside inner
      inside-inner y i = subst (In y) (sym split) (In-right y before (inner ++ behind) (In-left y inner behind i))

      own-inner : AreOwn (ls ++ l ∷ []) before behind (loops_in_parts qs)
      own-inner = record {
        round = λ o i j. round o i (number-either o.number ls (l ∷ []) j);
        earlier = λ y i o j. own.earlier y i o (inr j);
        later = λ y i o j. own.later y i o (inr j);
      }
        where
          round : (o : Loop) → In o (loops_in_parts qs) → In o.number (numbers_of ls) ⊎ In o.number (numbers_of (l ∷ [])) → ⊥
          round o i (inl j) = own.round o (inr i) j
          round o i (inr (inl e)) = Each-In (λ k. ¬ (l.number ≡ k)) (numbers_of (loops_in_parts qs)) once.0 o.number (number_in (loops_in_parts qs) o i) (sym e)
          round o i (inr (inr j)) = absurd j

      at-inner : Begun (ls ++ l ∷ []) before begun past
      at-inner = entered ls l before begun past inside-before (λ y i. own.earlier y i l (inl refl)) at

      of-inner : (y : Standing) → In y inner → AreOf (ls ++ l ∷ []) (loops_in_parts qs) y
      of-inner y i = standing_loops_in (Counts ps symbols IsCounter bits value trip) (ls ++ l ∷ []) qs loops y i

      inner-number : (y : Standing) → In y inner → In l.number (numbers_of y.loops)
      inner-number y i =
          let h = of-inner y i in
          subst (λ (ks : List Loop). In l.number (numbers_of ks)) (sym h.1) (number-left l.number (ls ++ l ∷ []) h.0 (last-number ls l))

      not-before : (p : Private) → In p ps → In l.number (numbers_round p.loops) → ¬ StandsIn p.name before
      not-before p i j s = own.earlier s.0 s.1 l (inl refl) (subst (In l.number) (stands_in_loops p i s.0 (inside-before s.0 s.1) s.2) j)

      -- a private scalar of this loop has begun in its body
      begun_in_body : (body : Parts-flow (ls ++ l ∷ []) before qs behind begun past) → (p : Private) → In p ps → is_innermost l.number p.loops ≡ true → In p body.news
      begun_in_body body p i e =
          let f = has_first m p.name p (nest_statements m) (known p i) in
          let b = first_begins m p.name p f.before f.standing f.behind (ap (private_among m p.name) (sym f.splits) ∙ known p i) f.none f.stands in
          let in_nest : In f.standing (nest_statements m) = subst (In f.standing) (sym f.splits) (in_middle f.before f.standing f.behind) in
          by f.standing f.stands (ap (is_innermost l.number) (sym b.1.loops) ∙ e) in_nest (In-append f.standing before (inner ++ behind) (subst (In f.standing) split in_nest))
        where
          chosen : (y : Standing) → Stands p.name y → In y (nest_statements m) → In y inner → numbers_of y.loops ≡ numbers_of (ls ++ l ∷ []) → In p body.news
          chosen y st j k same = either (In-append p body.news begun (subst (In p) body.are (body.at.has p i (stands_in_loops p i y j st ∙ same) (y, In-right y before inner k, st))))
            where
              either : In p body.news ⊎ In p begun → In p body.news
              either (inl h) = h
              either (inr h) = absurd (own.round l (inl refl) (at.inside p h l.number (subst (In l.number) (sym same ∙ sym (stands_in_loops p i y j st)) (last-number ls l))))

          deeper : (y : Standing) → Stands p.name y → In y (nest_statements m) → In y inner → (more : List Loop) → y.loops ≡ (ls ++ l ∷ []) ++ more → ((o : Loop) → In o more → In o (loops_in_parts qs)) → is_innermost l.number (map round_loop y.loops) ≡ true → In p body.news
          deeper y st j k [] g w e = chosen y st j k (ap numbers_of (g ∙ append-nil (ls ++ l ∷ [])))
          deeper y st j k (o ∷ os) g w e =
              let r = last_in l.number (ls ++ l ∷ []) o os (subst (λ (ks : List Loop). is_innermost l.number (map round_loop ks) ≡ true) g e) in
              absurd (Each-In (λ n. ¬ (l.number ≡ n)) (numbers_of (loops_in_parts qs)) once.0 r.0.number (number_in (loops_in_parts qs) r.0 (w r.0 r.1)) (sym r.2))

          inmost : (y : Standing) → Stands p.name y → is_innermost l.number (map round_loop y.loops) ≡ true → In y (nest_statements m) → In y inner ⊎ In y behind → In p body.news
          inmost y st e j (inl k) = let h = of-inner y k in deeper y st j k h.0 h.1 h.2 e
          inmost y st e j (inr k) = absurd (own.later y k l (inl refl) (innermost_in l.number y.loops e))

          by : (y : Standing) → Stands p.name y → is_innermost l.number (map round_loop y.loops) ≡ true → In y (nest_statements m) → In y before ⊎ In y (inner ++ behind) → In p body.news
          by y st e j (inl k) = absurd (own.earlier y k l (inl refl) (innermost_in l.number y.loops e))
          by y st e j (inr k) = inmost y st e j (In-append y inner behind k)

      turn_flows : Parts-flow (ls ++ l ∷ []) before qs behind begun past → Part-flows ls before (Turns l qs) behind begun past
      turn_flows body = record {
        after = begun;
        news = [];
        are = refl;
        own = λ p i. absurd i;
        behind = (body.news ++ body.ended) ++ past;
        ended = body.news ++ body.ended;
        ends = refl;
        path = λ p i. (let r = path p i in (l, r.0, r.1));
        flows = (
          counts,
          λ p i k j e. (let r = at.round p i k j in counts.own r.0 r.1 (e ∙ r.2)),
          refl,
          (
            body.news,
            body.ended,
            subst (λ bs. FlowsIn ps symbols IsCounter bits value trip (ls ++ l ∷ []) begun past qs (body.news ++ begun) bs) body.ends
                (subst (λ as'. FlowsIn ps symbols IsCounter bits value trip (ls ++ l ∷ []) begun past qs as' body.behind) body.are body.flows),
            record { own = body.own; all = begun_in_body body; among = among; apart = apart'; path = path },
            refl,
          ),
        );
        at = record {
          has = λ p i e s. by p i e s (In-append s.0 before inner s.1);
          stood = λ p i. (let s = at.stood p i in (s.0, In-left s.0 before inner s.1, s.2));
          among = at.among;
          round = at.round;
          inside = at.inside;
          has_past = λ p i n ns e s. past' p i n ns e s (In-append s.0 before inner s.1);
          past_stood = λ p i. stood p (In-append p (body.news ++ body.ended) past i);
          past_among = λ p i. among' p (In-append p (body.news ++ body.ended) past i);
          outside = λ p i. outside p (In-append p (body.news ++ body.ended) past i);
        };
      }
        where
          path : (p : Private) → In p (body.news ++ body.ended) → (more : List Loop) × (p.loops ≡ map round_loop (ls ++ l ∷ more))
          path p i = each (In-append p body.news body.ended i)
            where
              each : In p body.news ⊎ In p body.ended → (more : List Loop) × (p.loops ≡ map round_loop (ls ++ l ∷ more))
              each (inl j) = ([], body.own p j)
              each (inr j) = let r = body.path p j in (r.0 ∷ r.1, r.2 ∙ ap (map round_loop) (append_assoc ls (l ∷ []) (r.0 ∷ r.1)))

          has_number : (p : Private) → In p (body.news ++ body.ended) → In l.number (numbers_round p.loops)
          has_number p i =
              let r = path p i in
              subst (In l.number) (sym (ap numbers_round r.1 ∙ numbers-round (ls ++ l ∷ r.0))) (number-right l.number ls (l ∷ r.0) (inl refl))

          among : (p : Private) → In p (body.news ++ body.ended) → In p ps
          among p i = each (In-append p body.news body.ended i)
            where
              each : In p body.news ⊎ In p body.ended → In p ps
              each (inl j) = body.at.among p (subst (In p) (sym body.are) (In-left p body.news begun j))
              each (inr j) = body.at.past_among p (subst (In p) (sym body.ends) (In-left p body.ended past j))

          stands : (p : Private) → In p (body.news ++ body.ended) → StandsIn p.name (before ++ inner)
          stands p i = each (In-append p body.news body.ended i)
            where
              each : In p body.news ⊎ In p body.ended → StandsIn p.name (before ++ inner)
              each (inl j) = body.at.stood p (subst (In p) (sym body.are) (In-left p body.news begun j))
              each (inr j) = body.at.past_stood p (subst (In p) (sym body.ends) (In-left p body.ended past j))

          apart' : (p : Private) → In p (body.news ++ body.ended) → (¬ In p begun) × (¬ In p past)
          apart' p i = (λ j. own.round l (inl refl) (at.inside p j l.number (has_number p i)), λ j. not-before p (among p i) (has_number p i) (at.past_stood p j))

          by : (p : Private) → In p ps → numbers_round p.loops ≡ numbers_of ls → (s : StandsIn p.name (before ++ inner)) → In s.0 before ⊎ In s.0 inner → In p begun
          by p i e s (inl j) = at.has p i e (s.0, j, s.2)
          by p i e s (inr j) = absurd (own.round l (inl refl) (subst (In l.number) (sym (stands_in_loops p i s.0 (inside-inner s.0 j) s.2) ∙ e) (inner-number s.0 j)))

          past' : (p : Private) → In p ps → (n : ℕ) (ns : List ℕ) → numbers_round p.loops ≡ numbers_of ls ++ n ∷ ns → (s : StandsIn p.name (before ++ inner)) → In s.0 before ⊎ In s.0 inner → In p ((body.news ++ body.ended) ++ past)
          past' p i n ns e s (inl j) = In-right p (body.news ++ body.ended) past (at.has_past p i n ns e (s.0, j, s.2))
          past' p i n ns e s (inr j) = let h = of-inner s.0 j in deep h.0 (stands_in_loops p i s.0 (inside-inner s.0 j) s.2 ∙ ap numbers_of h.1)
            where
              new : In p body.news ⊎ In p begun → In p ((body.news ++ body.ended) ++ past)
              new (inl k) = In-left p (body.news ++ body.ended) past (In-left p body.news body.ended k)
              new (inr k) = absurd (own.round l (inl refl) (at.inside p k l.number (subst (In l.number) (sym (stands_in_loops p i s.0 (inside-inner s.0 j) s.2)) (inner-number s.0 j))))

              old : In p body.ended ⊎ In p past → In p ((body.news ++ body.ended) ++ past)
              old (inl k) = In-left p (body.news ++ body.ended) past (In-right p body.news body.ended k)
              old (inr k) = In-right p (body.news ++ body.ended) past k

              deep : (more : List Loop) → numbers_round p.loops ≡ numbers_of ((ls ++ l ∷ []) ++ more) → In p ((body.news ++ body.ended) ++ past)
              deep [] f = new (In-append p body.news begun (subst (In p) body.are (body.at.has p i (f ∙ ap numbers_of (append-nil (ls ++ l ∷ []))) s)))
              deep (o ∷ os) f = old (In-append p body.ended past (subst (In p) body.ends (body.at.has_past p i o.number (numbers_of os) (f ∙ numbers-append (ls ++ l ∷ []) (o ∷ os)) s)))

          stood : (p : Private) → In p (body.news ++ body.ended) ⊎ In p past → StandsIn p.name (before ++ inner)
          stood p (inl i) = stands p i
          stood p (inr i) = let s = at.past_stood p i in (s.0, In-left s.0 before inner s.1, s.2)

          among' : (p : Private) → In p (body.news ++ body.ended) ⊎ In p past → In p ps
          among' p (inl i) = among p i
          among' p (inr i) = at.past_among p i

          outside : (p : Private) → In p (body.news ++ body.ended) ⊎ In p past → (n : ℕ) × In n (numbers_round p.loops) × (¬ In n (numbers_of ls))
          outside p (inl i) = (l.number, has_number p i, own.round l (inl refl))
          outside p (inr i) = at.outside p i

    -- ---- parts one after another

    module _ (ls : List Loop) (before : List Standing) (q : Part) (qs : Parts) (behind : List Standing) (loops : LoopsIn ls (part q qs)) (once : Once (loops_of q ++ loops_in_parts qs)) (own : AreOwn ls before behind (loops_of q ++ loops_in_parts qs)) where
      own-first : AreOwn ls before (statements_in_parts ls qs ++ behind) (loops_of q)
      own-first = record {
        round = λ o i. own.round o (In-left o (loops_of q) (loops_in_parts qs) i);
        earlier = λ y j o i. own.earlier y j o (In-left o (loops_of q) (loops_in_parts qs) i);
        later = λ y j o i k. by y (In-append y (statements_in_parts ls qs) behind j) o i k;
      }
        where
          among : (o : Loop) → In o (loops_of q) → In o.number (numbers_of ls) ⊎ In o.number (numbers_of (loops_in_parts qs)) → ⊥
          among o i (inl k) = own.round o (In-left o (loops_of q) (loops_in_parts qs) i) k
          among o i (inr k) = apart (loops_of q) (loops_in_parts qs) once o.number (number_in (loops_of q) o i) k

          by : (y : Standing) → In y (statements_in_parts ls qs) ⊎ In y behind → (o : Loop) → In o (loops_of q) → ¬ In o.number (numbers_of y.loops)
          by y (inl j) o i k = among o i (of_part ls (loops_in_parts qs) y (standing_loops_in (Counts ps symbols IsCounter bits value trip) ls qs loops.1 y j) o.number k)
          by y (inr j) o i k = own.later y j o (In-left o (loops_of q) (loops_in_parts qs) i) k

      own-rest : AreOwn ls (before ++ statements_in ls q) behind (loops_in_parts qs)
      own-rest = record {
        round = λ o i. own.round o (In-right o (loops_of q) (loops_in_parts qs) i);
        earlier = λ y j o i k. by y (In-append y before (statements_in ls q) j) o i k;
        later = λ y j o i. own.later y j o (In-right o (loops_of q) (loops_in_parts qs) i);
      }
        where
          among : (o : Loop) → In o (loops_in_parts qs) → In o.number (numbers_of ls) ⊎ In o.number (numbers_of (loops_of q)) → ⊥
          among o i (inl k) = own.round o (In-right o (loops_of q) (loops_in_parts qs) i) k
          among o i (inr k) = apart (loops_of q) (loops_in_parts qs) once o.number k (number_in (loops_in_parts qs) o i)

          by : (y : Standing) → In y before ⊎ In y (statements_in ls q) → (o : Loop) → In o (loops_in_parts qs) → ¬ In o.number (numbers_of y.loops)
          by y (inl j) o i k = own.earlier y j o (In-right o (loops_of q) (loops_in_parts qs) i) k
          by y (inr j) o i k = among o i (of_part ls (loops_of q) y (standing_loops (Counts ps symbols IsCounter bits value trip) ls q loops.0 y j) o.number k)

      join : (begun past : List Private) (one : Part-flows ls before q (statements_in_parts ls qs ++ behind) begun past) → Parts-flow ls (before ++ statements_in ls q) qs behind one.after one.behind → Parts-flow ls before (part q qs) behind begun past
      join begun past one rest = record {
        after = rest.after;
        news = rest.news ++ one.news;
        are = rest.are ∙ (ap (λ ps. rest.news ++ ps) one.are ∙ sym (append_assoc rest.news one.news begun));
        own = λ p i. own' p (In-append p rest.news one.news i);
        behind = rest.behind;
        ended = rest.ended ++ one.ended;
        ends = rest.ends ∙ (ap (λ ps. rest.ended ++ ps) one.ends ∙ sym (append_assoc rest.ended one.ended past));
        path = λ p i. path p (In-append p rest.ended one.ended i);
        flows = (one.after, one.behind, one.flows, rest.flows, one.at.among);
        at = subst (λ ss. Begun ls ss rest.after rest.behind) (append_assoc before (statements_in ls q) (statements_in_parts ls qs)) rest.at;
      }
        where
          own' : (p : Private) → In p rest.news ⊎ In p one.news → p.loops ≡ map round_loop ls
          own' p (inl i) = rest.own p i
          own' p (inr i) = one.own p i

          path : (p : Private) → In p rest.ended ⊎ In p one.ended → (k : Loop) × (more : List Loop) × (p.loops ≡ map round_loop (ls ++ k ∷ more))
          path p (inl i) = rest.path p i
          path p (inr i) = one.path p i

    -- ---- all parts

    mutual
      part_flows : (ls : List Loop) (before : List Standing) (q : Part) (behind : List Standing) (begun past : List Private) → nest_statements m ≡ before ++ (statements_in ls q ++ behind) → Loops ls q → Once (loops_of q)
          → AreOwn ls before behind (loops_of q) → Begun ls before begun past → Part-flows ls before q behind begun past
      part_flows ls before (Run g) behind begun past split loops once own at =
          let n = next ls before g behind begun past split at in
          record { after = n.after; news = n.news; are = n.are; own = n.own; behind = past; ended = []; ends = refl; path = λ p i. absurd i; flows = n.flows; at = n.now }
      part_flows ls before (Turns l qs) behind begun past split loops once own at =
          turn_flows ls before l qs behind begun past split loops.0 loops.1 once own at
          (parts_flow (ls ++ l ∷ []) before qs behind begun past split loops.1 once.1 (own-inner ls before l qs behind begun past split loops.0 loops.1 once own at) (at-inner ls before l qs behind begun past split loops.0 loops.1 once own at))
      part_flows ls before (Choice bs qs) behind begun past split loops once own at = absurd loops
      part_flows ls before (Label n) behind begun past split loops once own at = absurd loops
      part_flows ls before (Jump n) behind begun past split loops once own at = absurd loops

      parts_flow : (ls : List Loop) (before : List Standing) (qs : Parts) (behind : List Standing) (begun past : List Private) → nest_statements m ≡ before ++ (statements_in_parts ls qs ++ behind) → LoopsIn ls qs → Once (loops_in_parts qs)
          → AreOwn ls before behind (loops_in_parts qs) → Begun ls before begun past → Parts-flow ls before qs behind begun past
      parts_flow ls before no_parts behind begun past split loops once own at = record {
        after = begun;
        news = [];
        are = refl;
        own = λ p i. absurd i;
        behind = past;
        ended = [];
        ends = refl;
        path = λ p i. absurd i;
        flows = (refl, refl);
        at = subst (λ ss. Begun ls ss begun past) (sym (append-nil before)) at;
      }
      parts_flow ls before (part q qs) behind begun past split loops once own at =
          let one = part_flows ls before q (statements_in_parts ls qs ++ behind) begun past (split ∙ ap (λ ss. before ++ ss) (append_assoc (statements_in ls q) (statements_in_parts ls qs) behind)) loops.0
          (once-left (loops_of q) (loops_in_parts qs) once) (own-first ls before q qs behind loops once own) at in
          join ls before q qs behind loops once own begun past one
          (parts_flow ls (before ++ statements_in ls q) qs behind one.after one.behind
          (split ∙ (ap (λ ss. before ++ ss) (append_assoc (statements_in ls q) (statements_in_parts ls qs) behind) ∙ sym (append_assoc before (statements_in ls q) (statements_in_parts ls qs ++ behind))))
          loops.1 (once-right (loops_of q) (loops_in_parts qs) once) (own-rest ls before q qs behind loops once own) one.at)

    -- the whole nest
    pub nest_flows : Loops [] m.body → Once (loops_of m.body) → Part-flows [] [] m.body [] [] []
    nest_flows loops once =
        part_flows [] [] m.body [] [] [] (sym (append-nil (statements_in [] m.body))) loops once
        (record { round = λ o i j. absurd j; earlier = λ y i. absurd i; later = λ y i. absurd i })
        (record {
          has = λ p i e s. absurd s.1;
          stood = λ p i. absurd i;
          among = λ p i. absurd i;
          round = λ p i. absurd i;
          inside = λ p i. absurd i;
          has_past = λ p i n ns e s. absurd s.1;
          past_stood = λ p i. absurd i;
          past_among = λ p i. absurd i;
          outside = λ p i. absurd i;
        })

    -- behind it each private scalar that stands in a loop is past
    pub all_past : (r : Part-flows [] [] m.body [] [] []) (p : Private) → In p ps → (n : ℕ) (ns : List ℕ) → numbers_round p.loops ≡ n ∷ ns → In p r.behind
    all_past r p i n ns e =
        let f = has_first m p.name p (nest_statements m) (known p i) in
        r.at.has_past p i n ns e (f.standing, subst (In f.standing) (sym f.splits) (in_middle f.before f.standing f.behind), f.stands)

    pub nest_past : (l : Loop) (qs : Parts) → m.body ≡ Turns l qs → Loops [] m.body → (r : Part-flows [] [] m.body [] [] []) (p : Private) → In p ps → In p r.behind
    nest_past l qs e loops r p i =
        let f = has_first m p.name p (nest_statements m) (known p i) in
        let j : In f.standing (nest_statements m) = subst (In f.standing) (sym f.splits) (in_middle f.before f.standing f.behind) in
        let h = standing_loops_in (Counts ps symbols IsCounter bits value trip) (l ∷ []) qs (subst (Loops []) e loops).1 f.standing (subst (λ q. In f.standing (statements_in [] q)) e j) in
        all_past r p i l.number (numbers_of h.0) (stands_in_loops p i f.standing j f.stands ∙ ap numbers_of h.1)
