-- A loop has all ranges of a scalar in it, or none.
use Rattle.std.proofs.Common.{◌≡◌, ◌⊎◌, inl, inr, refl, sym, ap, ap₂, ◌∙◌, subst, ℕ, ◌+◌, ◌==◌, Bool, true, false, not, cond, ◌&&◌, ◌||◌, List, [], ◌∷◌, ◌++◌, append_assoc, length, length-append, map, arith}
use Rattle.std.specs.List.{list_all}
use Rattle.std.specs.Str.{bytes_eq}
use Rattle.std.proofs.lemmas.Bool.{eqb-true}
use Rattle.std.proofs.lemmas.List.{map-append}
use Rattle.meaning.specs.Reads.{names_in_subscripts}
use Rattle.nest.specs.Bodies.{Standing, loops_in_parts, loops_of, statements_in, statements_in_parts}
use Rattle.nest.specs.statement_loops.Names.{is_among}
use Rattle.nest.specs.Plain.{Choice, Guarded, Jump, Label, Loop, Part, Parts, Run, Turns, no_parts, part}
use Rattle.nest_order.proofs.orders.Lists.{In-append, In-left, In-right}
use Rattle.nest_order.proofs.orders.Membership.{In-map, map-In}
use Rattle.nest_order.proofs.orders.Once.{Pairwise-across, Pairwise-left, Pairwise-right}
use Rattle.nest_order.specs.orders.Lists.{Distinct, In}
use Rattle.nest_order.proofs.orders.Lists.{Each-In}
use Rattle.nest_order.specs.shapes.Shapes.{ArePlain, IsPlain}
use Rattle.nest_steps.specs.Mapped.{count_in, count_of}
use Rattle.last_values.specs.Occurrences.{stands_in, stands_in_guard, stands_in_left, stands_in_statement}
use Rattle.scalar_expand.specs.Privates.{are_same_loops, begins_anew, has_no_guard, stands_only_in}
use Rattle.scalar_rename.specs.Ranges.{begins_range, ranges_in, stands_in_one_body}
use Rattle.prepared_passes.proofs.RenamedNests.Webs.{Begins, more_ranges, none_begins, some_begins}

abbrev pub numbers_of : List Loop → List ℕ
numbers_of ls = map (λ (l : Loop). l.number) ls

-- ---- how many statements

mutual
  pub count_part : (ls : List Loop) (p : Part) → IsPlain p → length (statements_in ls p) ≡ count_of p
  count_part ls (Run g) h = refl
  count_part ls (Turns l ps) h = count_parts (ls ++ l ∷ []) ps h.1
  count_part ls (Choice bs ps) h = absurd h
  count_part ls (Label n) h = absurd h
  count_part ls (Jump n) h = absurd h

  pub count_parts : (ls : List Loop) (ps : Parts) → ArePlain ps → length (statements_in_parts ls ps) ≡ count_in ps
  count_parts ls no_parts h = refl
  count_parts ls (part p ps) h = length-append (statements_in ls p) (statements_in_parts ls ps) ∙ ap₂ (λ m n. m + n) (count_part ls p h.0) (count_parts ls ps h.1)

-- ---- loops round statements

abbrev pub Rounded : List Loop → List Loop → Standing → Type 0
Rounded ls os s = (o : Loop) → In o s.loops → In o ls ⊎ In o os

either_in : {A : Type 0} (P : A → Type 0) (xs ys : List A) → ((x : A) → In x xs → P x) → ((x : A) → In x ys → P x) → (x : A) → In x (xs ++ ys) → P x
either_in P xs ys f g x i = by (In-append x xs ys i)
  where
    by : In x xs ⊎ In x ys → P x
    by (inl j) = f x j
    by (inr j) = g x j

mutual
  pub round_part : (ls : List Loop) (p : Part) → IsPlain p → (s : Standing) → In s (statements_in ls p) → Rounded ls (loops_of p) s
  round_part ls (Run g) h s (inl e) o i = inl (subst (λ (y : Standing). In o y.loops) e i)
  round_part ls (Run g) h s (inr j) o i = absurd j
  round_part ls (Turns l ps) h s j o i = by (round_parts (ls ++ l ∷ []) ps h.1 s j o i)
    where
      first : In o ls ⊎ In o (l ∷ []) → In o ls ⊎ In o (l ∷ loops_in_parts ps)
      first (inl q) = inl q
      first (inr (inl q)) = inr (inl q)
      first (inr (inr q)) = absurd q

      by : In o (ls ++ l ∷ []) ⊎ In o (loops_in_parts ps) → In o ls ⊎ In o (l ∷ loops_in_parts ps)
      by (inl q) = first (In-append o ls (l ∷ []) q)
      by (inr q) = inr (inr q)
  round_part ls (Choice bs ps) h s j o i = absurd h
  round_part ls (Label n) h s j o i = absurd h
  round_part ls (Jump n) h s j o i = absurd h

  pub round_parts : (ls : List Loop) (ps : Parts) → ArePlain ps → (s : Standing) → In s (statements_in_parts ls ps) → Rounded ls (loops_in_parts ps) s
  round_parts ls no_parts h s j o i = absurd j
  round_parts ls (part p ps) h s j o i =
      either_in (λ (t : Standing). Rounded ls (loops_of p ++ loops_in_parts ps) t) (statements_in ls p) (statements_in_parts ls ps)
      (λ t k e q. left e (round_part ls p h.0 t k e q)) (λ t k e q. right e (round_parts ls ps h.1 t k e q)) s j o i
    where
      left : (o : Loop) → In o ls ⊎ In o (loops_of p) → In o ls ⊎ In o (loops_of p ++ loops_in_parts ps)
      left o (inl q) = inl q
      left o (inr q) = inr (In-left o (loops_of p) (loops_in_parts ps) q)

      right : (o : Loop) → In o ls ⊎ In o (loops_in_parts ps) → In o ls ⊎ In o (loops_of p ++ loops_in_parts ps)
      right o (inl q) = inl q
      right o (inr q) = inr (In-right o (loops_of p) (loops_in_parts ps) q)

-- the loops round a part stand round its statements
mutual
  pub under_part : (ls : List Loop) (p : Part) → IsPlain p → (s : Standing) → In s (statements_in ls p) → (o : Loop) → In o ls → In o s.loops
  under_part ls (Run g) h s (inl e) o i = subst (λ (y : Standing). In o y.loops) (sym e) i
  under_part ls (Run g) h s (inr j) o i = absurd j
  under_part ls (Turns l ps) h s j o i = under_parts (ls ++ l ∷ []) ps h.1 s j o (In-left o ls (l ∷ []) i)
  under_part ls (Choice bs ps) h s j o i = absurd h
  under_part ls (Label n) h s j o i = absurd h
  under_part ls (Jump n) h s j o i = absurd h

  pub under_parts : (ls : List Loop) (ps : Parts) → ArePlain ps → (s : Standing) → In s (statements_in_parts ls ps) → (o : Loop) → In o ls → In o s.loops
  under_parts ls no_parts h s j o i = absurd j
  under_parts ls (part p ps) h s j o i =
      either_in (λ (t : Standing). In o t.loops) (statements_in ls p) (statements_in_parts ls ps) (λ t q. under_part ls p h.0 t q o i) (λ t q. under_parts ls ps h.1 t q o i) s j

-- ---- one loop's own body

true_false : true ≡ false → ⊥
true_false e = cc

both_true : (a b : Bool) → (a && b) ≡ true → (a ≡ true) × (b ≡ true)
both_true true b e = (refl, e)
both_true false b e = cc

same_numbers : (ls ks : List Loop) → are_same_loops ls ks ≡ true → numbers_of ls ≡ numbers_of ks
same_numbers [] [] e = refl
same_numbers [] (k ∷ ks) e = cc
same_numbers (l ∷ ls) [] e = cc
same_numbers (l ∷ ls) (k ∷ ks) e =
    let both = both_true (l.number == k.number) (are_same_loops ls ks) e in
    ap₂ (λ (n : ℕ) (ns : List ℕ). n ∷ ns) (eqb-true l.number k.number both.0) (same_numbers ls ks both.1)

-- a statement that begins a range stands there
begins_stands : (x : List ℕ) (g : Guarded) → begins_range x g ≡ true → stands_in_statement x g ≡ true
begins_stands x g e = by (stands_in_guard x g.guard) (bytes_eq g.left.name x) refl (both_true (bytes_eq g.left.name x) (has_no_guard g.guard) e).0
  where
    by : (a b : Bool) → bytes_eq g.left.name x ≡ b → b ≡ true → (a || (stands_in_left x g.left || stands_in x g.right)) ≡ true
    by true b f h = refl
    by false true f h = ap (λ c. (c || is_among (names_in_subscripts g.left.subscripts) x) || stands_in x g.right) f
    by false false f h = absurd (true_false (sym h))

only : (x : List ℕ) (ls : List Loop) (ss : List Standing) → list_all (stands_only_in x ls) ss ≡ true → (s : Standing) → In s ss → stands_in_statement x s.statement ≡ true → numbers_of s.loops ≡ numbers_of ls
only x ls [] e s i st = absurd i
only x ls (t ∷ ss) e s i st = by (both_true (stands_only_in x ls t) (list_all (stands_only_in x ls) ss) e) i (λ f j. only x ls ss f s j st)
  where
    here : (a b : Bool) → a ≡ true → (not a || b) ≡ true → b ≡ true
    here true b q f = f
    here false b q f = cc

    by : (stands_only_in x ls t ≡ true) × (list_all (stands_only_in x ls) ss ≡ true) → In s (t ∷ ss) → (list_all (stands_only_in x ls) ss ≡ true → In s ss → numbers_of s.loops ≡ numbers_of ls) → numbers_of s.loops ≡ numbers_of ls
    by b (inl f) r =
        subst (λ (z : Standing). numbers_of z.loops ≡ numbers_of ls) (sym f)
        (same_numbers t.loops ls (here (stands_in_statement x t.statement) (are_same_loops t.loops ls) (subst (λ (z : Standing). stands_in_statement x z.statement ≡ true) f st) b.0))
    by b (inr j) r = r b.1 j

-- all statements in which it stands are in loops of the same numbers
pub one_numbers : (x : List ℕ) (ss : List Standing) → stands_in_one_body x ss ≡ true
    → (ns : List ℕ) × ((s : Standing) → In s ss → stands_in_statement x s.statement ≡ true → numbers_of s.loops ≡ ns)
one_numbers x [] e = cc
one_numbers x (s ∷ ss) e = by (stands_in_statement x s.statement) refl e (λ f. one_numbers x ss f)
  where
    by : (b : Bool) → stands_in_statement x s.statement ≡ b → cond b (begins_anew x s.statement && list_all (stands_only_in x s.loops) ss) (stands_in_one_body x ss) ≡ true
        → (stands_in_one_body x ss ≡ true → (ns : List ℕ) × ((t : Standing) → In t ss → stands_in_statement x t.statement ≡ true → numbers_of t.loops ≡ ns))
        → (ns : List ℕ) × ((t : Standing) → In t (s ∷ ss) → stands_in_statement x t.statement ≡ true → numbers_of t.loops ≡ ns)
    by true f g r = (numbers_of s.loops, λ t i st. here t i st)
      where
        here : (t : Standing) → In t (s ∷ ss) → stands_in_statement x t.statement ≡ true → numbers_of t.loops ≡ numbers_of s.loops
        here t (inl q) st = ap (λ (y : Standing). numbers_of y.loops) q
        here t (inr i) st = only x s.loops ss (both_true (begins_anew x s.statement) (list_all (stands_only_in x s.loops) ss) g).1 t i st
    by false f g r = let more = r g in (more.0, λ t i st. there more t i st)
      where
        there : (more : (ns : List ℕ) × ((t : Standing) → In t ss → stands_in_statement x t.statement ≡ true → numbers_of t.loops ≡ ns)) (t : Standing) → In t (s ∷ ss)
            → stands_in_statement x t.statement ≡ true → numbers_of t.loops ≡ more.0
        there more t (inl q) st = absurd (true_false (sym st ∙ (ap (λ (y : Standing). stands_in_statement x y.statement) q ∙ f)))
        there more t (inr i) st = more.1 t i st

-- ---- where a part stands among the statements of a nest

-- none of these loops has the number of one of those
abbrev pub Apart : List Loop → List Loop → Type 0
Apart xs ys = (a b : Loop) → In a xs → In b ys → ¬ (a.number ≡ b.number)

-- none of these loops stands round one of the statements
abbrev pub Outside : List Standing → List Loop → Type 0
Outside ss os = (s : Standing) → In s ss → Apart s.loops os

-- pre stands before the part, post behind it
pub record IsPlace (ss : List Standing) (ls os : List Loop) (pre mid post : List Standing) : Type 0 where
  pub parted : ss ≡ pre ++ (mid ++ post)
  pub before : Outside pre os
  pub behind : Outside post os
  pub round : Apart ls os
  pub once : Distinct (numbers_of os)

distinct_both : (xs ys : List Loop) → Distinct (numbers_of (xs ++ ys)) → Distinct (numbers_of xs ++ numbers_of ys)
distinct_both xs ys d = subst (λ (ns : List ℕ). Distinct ns) (map-append (λ (l : Loop). l.number) xs ys) d

across : (xs ys : List Loop) → Distinct (numbers_of (xs ++ ys)) → Apart xs ys
across xs ys d a b i j =
    Pairwise-across (λ x y. ¬ (x ≡ y)) (numbers_of xs) (numbers_of ys) (distinct_both xs ys d) a.number b.number
    (map-In (λ (l : Loop). l.number) a xs i) (map-In (λ (l : Loop). l.number) b ys j)

outside_of : (ls os ks : List Loop) (ss : List Standing) → ((s : Standing) → In s ss → Rounded ls os s) → Apart ls ks → Apart os ks → Outside ss ks
outside_of ls os ks ss round f g s i a b j k = by (round s i a j)
  where
    by : In a ls ⊎ In a os → ¬ (a.number ≡ b.number)
    by (inl q) = f a b q k
    by (inr q) = g a b q k

turned : (xs ys : List Loop) → Apart xs ys → Apart ys xs
turned xs ys f a b i j e = f b a j i (sym e)

fewer : (xs ys zs : List Loop) → ((o : Loop) → In o ys → In o zs) → Apart xs zs → Apart xs ys
fewer xs ys zs g f a b i j = f a b i (g b j)

module _ (ss : List Standing) (ls : List Loop) (p : Part) (ps : Parts) (plain : IsPlain p) (plains : ArePlain ps) (pre post : List Standing)
    (h : IsPlace ss ls (loops_of p ++ loops_in_parts ps) pre (statements_in ls p ++ statements_in_parts ls ps) post) where
  abbrev one : List Standing
  one = statements_in ls p

  abbrev more : List Standing
  more = statements_in_parts ls ps

  abbrev os : List Loop
  os = loops_of p

  abbrev ks : List Loop
  ks = loops_in_parts ps

  both : Distinct (numbers_of (loops_of p) ++ numbers_of (loops_in_parts ps))
  both = distinct_both (loops_of p) (loops_in_parts ps) h.once

  in_first : (o : Loop) → In o os → In o (loops_of p ++ loops_in_parts ps)
  in_first o i = In-left o (loops_of p) (loops_in_parts ps) i

  in_second : (o : Loop) → In o ks → In o (loops_of p ++ loops_in_parts ps)
  in_second o i = In-right o (loops_of p) (loops_in_parts ps) i

  apart : Apart (loops_of p) (loops_in_parts ps)
  apart = across (loops_of p) (loops_in_parts ps) h.once

  pub first_place : IsPlace ss ls (loops_of p) pre (statements_in ls p) (statements_in_parts ls ps ++ post)
  first_place = record {
    parted = h.parted ∙ ap (λ zs. pre ++ zs) (append_assoc (statements_in ls p) (statements_in_parts ls ps) post);
    before = λ s i. fewer s.loops (loops_of p) (loops_of p ++ loops_in_parts ps) in_first (h.before s i);
    behind = λ s i. either_in (λ (t : Standing). Apart t.loops (loops_of p)) (statements_in_parts ls ps) post
        (outside_of ls (loops_in_parts ps) (loops_of p) (statements_in_parts ls ps) (round_parts ls ps plains)
        (fewer ls (loops_of p) (loops_of p ++ loops_in_parts ps) in_first h.round) (turned (loops_of p) (loops_in_parts ps) apart))
        (λ t j. fewer t.loops (loops_of p) (loops_of p ++ loops_in_parts ps) in_first (h.behind t j)) s i;
    round = fewer ls (loops_of p) (loops_of p ++ loops_in_parts ps) in_first h.round;
    once = Pairwise-left (λ x y. ¬ (x ≡ y)) (numbers_of (loops_of p)) (numbers_of (loops_in_parts ps)) both;
  }

  pub rest_place : IsPlace ss ls (loops_in_parts ps) (pre ++ statements_in ls p) (statements_in_parts ls ps) post
  rest_place = record {
    parted = h.parted ∙ (ap (λ zs. pre ++ zs) (append_assoc (statements_in ls p) (statements_in_parts ls ps) post)
        ∙ sym (append_assoc pre (statements_in ls p) (statements_in_parts ls ps ++ post)));
    before = λ s i. either_in (λ (t : Standing). Apart t.loops (loops_in_parts ps)) pre (statements_in ls p)
        (λ t j. fewer t.loops (loops_in_parts ps) (loops_of p ++ loops_in_parts ps) in_second (h.before t j))
        (outside_of ls (loops_of p) (loops_in_parts ps) (statements_in ls p) (round_part ls p plain)
        (fewer ls (loops_in_parts ps) (loops_of p ++ loops_in_parts ps) in_second h.round) apart) s i;
    behind = λ s i. fewer s.loops (loops_in_parts ps) (loops_of p ++ loops_in_parts ps) in_second (h.behind s i);
    round = fewer ls (loops_in_parts ps) (loops_of p ++ loops_in_parts ps) in_second h.round;
    once = Pairwise-right (λ x y. ¬ (x ≡ y)) (numbers_of (loops_of p)) (numbers_of (loops_in_parts ps)) both;
  }

module _ (ss : List Standing) (ls : List Loop) (l : Loop) (ps : Parts) (pre post : List Standing)
    (h : IsPlace ss ls (l ∷ loops_in_parts ps) pre (statements_in_parts (ls ++ l ∷ []) ps) post) where
  pub inner_place : IsPlace ss (ls ++ l ∷ []) (loops_in_parts ps) pre (statements_in_parts (ls ++ l ∷ []) ps) post
  inner_place = record {
    parted = h.parted;
    before = λ s i. fewer s.loops (loops_in_parts ps) (l ∷ loops_in_parts ps) (λ o j. inr j) (h.before s i);
    behind = λ s i. fewer s.loops (loops_in_parts ps) (l ∷ loops_in_parts ps) (λ o j. inr j) (h.behind s i);
    round = λ a b i j. either_in (λ (o : Loop). ¬ (o.number ≡ b.number)) ls (l ∷ []) (λ o q. h.round o b q (inr j)) (λ o q. last o q b j) a i;
    once = h.once.1;
  }
    where
      last : (o : Loop) → In o (l ∷ []) → (b : Loop) → In b (loops_in_parts ps) → ¬ (o.number ≡ b.number)
      last o (inl q) b j e = Each-In (λ k. ¬ (l.number ≡ k)) (numbers_of (loops_in_parts ps)) h.once.0 b.number (map-In (λ (k : Loop). k.number) b (loops_in_parts ps) j) (sym (ap (λ (k : Loop). k.number) q) ∙ e)
      last o (inr q) b j e = absurd q

  -- all ranges are in the loop, or none
  module _ (x : List ℕ) (plain : ArePlain ps) (one_body : stands_in_one_body x ss ≡ true) where
    abbrev mid : List Standing
    mid = statements_in_parts (ls ++ l ∷ []) ps

    pub all_or_none : ((ranges_in x pre ≡ 0) × (ranges_in x (pre ++ mid) ≡ ranges_in x ss)) ⊎ (ranges_in x (pre ++ mid) ≡ ranges_in x pre)
    all_or_none = by (some_begins x mid)
      where
        place : (s : Standing) → In s pre ⊎ (In s mid ⊎ In s post) → In s ss
        place s (inl i) = subst (λ (zs : List Standing). In s zs) (sym h.parted) (In-left s pre (mid ++ post) i)
        place s (inr (inl i)) = subst (λ (zs : List Standing). In s zs) (sym h.parted) (In-right s pre (mid ++ post) (In-left s mid post i))
        place s (inr (inr i)) = subst (λ (zs : List Standing). In s zs) (sym h.parted) (In-right s pre (mid ++ post) (In-right s mid post i))

        numbers : (ns : List ℕ) × ((s : Standing) → In s ss → stands_in_statement x s.statement ≡ true → numbers_of s.loops ≡ ns)
        numbers = one_numbers x ss one_body

        none : Begins x mid → (s : Standing) → In s pre ⊎ In s post → begins_range x s.statement ≡ false
        none b s i = test (begins_range x s.statement) refl
          where
            inside : In l.number numbers.0
            inside =
                subst (λ ns. In l.number ns) (numbers.1 b.standing (place b.standing (inr (inl b.inside))) (begins_stands x b.standing.statement b.begins))
                (map-In (λ (k : Loop). k.number) l b.standing.loops (under_parts (ls ++ l ∷ []) ps plain b.standing b.inside l (In-right l ls (l ∷ []) (inl refl))))

            there : In s pre ⊎ In s post → In s ss
            there (inl j) = place s (inl j)
            there (inr j) = place s (inr (inr j))

            out : In s pre ⊎ In s post → Apart s.loops (l ∷ loops_in_parts ps)
            out (inl j) = h.before s j
            out (inr j) = h.behind s j

            clash : begins_range x s.statement ≡ true → ⊥
            clash e =
                let same = numbers.1 s (there i) (begins_stands x s.statement e) in
                let o = In-map (λ (k : Loop). k.number) l.number s.loops (subst (λ ns. In l.number ns) (sym same) inside) in
                out i o.it l o.inside (inl refl) (sym o.is)

            test : (c : Bool) → begins_range x s.statement ≡ c → begins_range x s.statement ≡ false
            test true e = absurd (clash e)
            test false e = e

        by : Begins x mid ⊎ ((s : Standing) → In s mid → begins_range x s.statement ≡ false)
            → ((ranges_in x pre ≡ 0) × (ranges_in x (pre ++ mid) ≡ ranges_in x ss)) ⊎ (ranges_in x (pre ++ mid) ≡ ranges_in x pre)
        by (inl b) =
            let first = none_begins x pre (λ s i. none b s (inl i)) in
            let last = none_begins x post (λ s i. none b s (inr i)) in
            let front = more_ranges x pre mid in
            let whole = ap (ranges_in x) h.parted ∙ (more_ranges x pre (mid ++ post) ∙ ap (λ n. ranges_in x pre + n) (more_ranges x mid post)) in
            inl (first, omega (arith, first, last, front, whole))
        by (inr f) =
            let inside = none_begins x mid f in
            let front = more_ranges x pre mid in
            inr (omega (arith, inside, front))
