-- The numbers of copies, statement by statement, and their arrays.
use Rattle.std.proofs.Common.{◌≡◌, ◌⊎◌, inl, inr, refl, sym, ap, ◌∙◌, subst, ℕ, suc, ◌+◌, ◌≤◌, ◌<◌, ◌^◌, Bool, true, false, List, [], ◌∷◌, ◌++◌, map, length, length-append, arith}
use Rattle.std.specs.Prelude.{nat_lt, slice_index_or}
use Rattle.std.proofs.lemmas.Bool.{ltb-false, ltb-true}
use Rattle.components.specs.Lists.{Distinct, Each}
use Rattle.dependence_graph.specs.declared.graphs.Place.{Place}
use Rattle.nest.specs.Bodies.{Standing, nest_statements}
use Rattle.nest.specs.Plain.{Loop, Made, Nest}
use Rattle.nest_order.proofs.orders.Lists.{In-append, In-left, In-right}
use Rattle.nest_order.proofs.orders.Membership.{In-map}
use Rattle.nest_order.specs.orders.Lists.{In}
use Rattle.tree.specs.Plain.{Reference}
use Rattle.node_splitting.specs.Arrays.{array, arrays, copy_name}
use Rattle.node_splitting.specs.Split.{arrays_from, firsts_from, last, last_from, made_arrays, reads_at}
use Rattle.prepared_passes.specs.splitting.Kept.{SplitNestHasCopies}
use Rattle.prepared_passes.proofs.SplitNests.Names.{copy_names_are_apart}

-- the array of a copy with a number in these limits
abbrev pub IsNumbered : ℕ → ℕ → Made → Type 0
IsNumbered low high a = (i : ℕ) × (low ≤ i) × (i < high) × (a.name ≡ copy_name i)

abbrev names : List Made → List (List ℕ)
names ms = map (λ (a : Made). a.name) ms

module _ (n : Nest) (ls : List Loop) where
  as_many : (c : ℕ) (rs : List Reference) → length (arrays n ls c rs) ≡ length rs
  as_many c [] = refl
  as_many c (r ∷ rs) = ap suc (as_many (suc c) rs)

  -- each number has its array
  pub record IsArrayAt (j c : ℕ) (rs : List Reference) : Type 0 where
    pub read : Reference
    pub among : In read rs
    pub there : In (array n ls j read) (arrays n ls c rs)

  pub array_at : (j c : ℕ) (rs : List Reference) → c ≤ j → j < c + length rs → IsArrayAt j c rs
  array_at j c [] low high = absurd (omega (arith, low, high))
  array_at j c (r ∷ rs) low high = by (λ more. array_at j (suc c) rs more (omega (arith, high))) (nat_lt c j) refl
    where
      later : (suc c ≤ j → IsArrayAt j (suc c) rs) → suc c ≤ j → IsArrayAt j c (r ∷ rs)
      later f more = let h = f more in record { read = h.read; among = inr h.among; there = inr h.there }

      here : c ≡ j → IsArrayAt j c (r ∷ rs)
      here e = record { read = r; among = inl refl; there = inl (ap (λ i. array n ls i r) (sym e)) }

      by : (suc c ≤ j → IsArrayAt j (suc c) rs) → (b : Bool) → nat_lt c j ≡ b → IsArrayAt j c (r ∷ rs)
      by f true e = let more = ltb-true c j e in later f (omega (arith, more))
      by f false e = let less = ltb-false c j e in here (omega (arith, less, low))

  -- which read an array is for
  pub record IsArrayOf (c : ℕ) (rs : List Reference) (a : Made) : Type 0 where
    pub number : ℕ
    pub low : c ≤ number
    pub high : number < c + length rs
    pub read : Reference
    pub among : In read rs
    pub is : a ≡ array n ls number read

  pub array_of : (c : ℕ) (rs : List Reference) (a : Made) → In a (arrays n ls c rs) → IsArrayOf c rs a
  array_of c [] a i = absurd i
  array_of c (r ∷ rs) a (inl e) = record { number = c; low = omega arith; high = omega arith; read = r; among = inl refl; is = e }
  array_of c (r ∷ rs) a (inr i) =
      let h = array_of (suc c) rs a i in
      let low = h.low in
      let high = h.high in
      record { number = h.number; low = omega (arith, low); high = omega (arith, high); read = h.read; among = inr h.among; is = h.is }

  both_numbered : (c high : ℕ) (rs : List Reference) (rest : List Made) → c + length rs ≤ high → ((a : Made) → In a rest → IsNumbered (c + length rs) high a)
      → (a : Made) → In a (arrays n ls c rs ++ rest) → IsNumbered c high a
  both_numbered c high rs rest less f a i = by (In-append a (arrays n ls c rs) rest i)
    where
      by : In a (arrays n ls c rs) ⊎ In a rest → IsNumbered c high a
      by (inl j) =
          let h = array_of c rs a j in
          let low = h.low in
          let most = h.high in
          (h.number, low, omega (arith, most, less), ap (λ (b : Made). b.name) h.is)
      by (inr j) =
          let h = f a j in
          let low = h.1 in
          (h.0, omega (arith, low), h.2, h.3)

  both_once : (c high : ℕ) (rs : List Reference) (rest : List Made) → high ≤ 2 ^ 32 → c + length rs ≤ high → ((a : Made) → In a rest → IsNumbered (c + length rs) high a)
      → Distinct (names rest) → Distinct (names (arrays n ls c rs ++ rest))
  both_once c high [] rest top less f d = d
  both_once c high (r ∷ rs) rest top less f d = (
    each_of (names (arrays n ls (suc c) rs ++ rest)) (λ y i. apart y i),
    both_once (suc c) high rs rest top (omega (arith, less)) next d,
  )
    where
      next : (a : Made) → In a rest → IsNumbered (suc c + length rs) high a
      next a i = let h = f a i in let low = h.1 in (h.0, omega (arith, low), h.2, h.3)

      apart : (y : List ℕ) → In y (names (arrays n ls (suc c) rs ++ rest)) → ¬ (copy_name c ≡ y)
      apart y i e =
          let o = In-map (λ (a : Made). a.name) y (arrays n ls (suc c) rs ++ rest) i in
          let h = both_numbered (suc c) high rs rest (omega (arith, less)) next o.it o.inside in
          let low = h.1 in
          let most = h.2 in
          let all : high ≤ 4294967296 = top in
          let first : c < 4294967296 = omega (arith, low, most, all) in
          let second : h.0 < 4294967296 = omega (arith, most, all) in
          let same = copy_names_are_apart c h.0 first second (e ∙ (o.is ∙ h.3)) in
          omega (arith, same, low)

      each_of : (ys : List (List ℕ)) → ((y : List ℕ) → In y ys → ¬ (copy_name c ≡ y)) → Each (λ y. ¬ (copy_name c ≡ y)) ys
      each_of [] g = tt
      each_of (y ∷ ys) g = (g y (inl refl), each_of ys (λ z i. g z (inr i)))

pub same_length : (pre : List Standing) → length pre ≡ 0 + length pre
same_length pre = omega arith

-- ---- along the text

module _ (may : Place → Bool) (n : Nest) where
  abbrev pub reads : ℕ → Standing → List Reference
  reads k s = reads_at may (length n.symbols) s.loops k s.statement

  -- how many copies there are before a statement
  pub first_is : (k c : ℕ) (pre post : List Standing) (s : Standing) → slice_index_or (firsts_from may n k c (pre ++ s ∷ post)) (length pre) 0 ≡ last_from may n k c pre
  first_is k c [] post s = refl
  first_is k c (t ∷ pre) post s = first_is (suc k) (c + length (reads k t)) pre post s

  rises : (k c : ℕ) (ss : List Standing) → c ≤ last_from may n k c ss
  rises k c [] = omega arith
  rises k c (s ∷ ss) = let more = rises (suc k) (c + length (reads k s)) ss in omega (arith, more)

  pub rises_past : (k c : ℕ) (pre post : List Standing) (s : Standing) (j : ℕ) → j ≡ k + length pre
      → last_from may n k c pre + length (reads j s) ≤ last_from may n k c (pre ++ s ∷ post)
  rises_past k c [] post s j e =
      let same : j ≡ k = omega (arith, e) in
      subst (λ i. c + length (reads i s) ≤ last_from may n (suc k) (c + length (reads k s)) post) (sym same) (rises (suc k) (c + length (reads k s)) post)
  rises_past k c (t ∷ pre) post s j e = rises_past (suc k) (c + length (reads k t)) pre post s j (omega (arith, e))

  pub array_there : (k c : ℕ) (pre post : List Standing) (s : Standing) (j : ℕ) → j ≡ k + length pre → (a : Made)
      → In a (arrays n s.loops (last_from may n k c pre) (reads j s)) → In a (arrays_from may n k c (pre ++ s ∷ post))
  array_there k c [] post s j e a i =
      let same : j ≡ k = omega (arith, e) in
      In-left a (arrays n s.loops c (reads k s)) (arrays_from may n (suc k) (c + length (reads k s)) post) (subst (λ i. In a (arrays n s.loops c (reads i s))) same i)
  array_there k c (t ∷ pre) post s j e a i =
      In-right a (arrays n t.loops c (reads k t)) (arrays_from may n (suc k) (c + length (reads k t)) (pre ++ s ∷ post))
      (array_there (suc k) (c + length (reads k t)) pre post s j (omega (arith, e)) a i)

  -- the statement that an array is for
  pub record IsForStatement (a : Made) (ss : List Standing) : Type 0 where
    pub statement : Standing
    pub among : In statement ss
    pub place : ℕ
    pub from : ℕ
    pub array : IsArrayOf n statement.loops from (reads place statement) a

  pub for_statement : (k c : ℕ) (ss : List Standing) (a : Made) → In a (arrays_from may n k c ss) → IsForStatement a ss
  for_statement k c [] a i = absurd i
  for_statement k c (s ∷ ss) a i =
      by (λ j. for_statement (suc k) (c + length (reads k s)) ss a j) (In-append a (arrays n s.loops c (reads k s)) (arrays_from may n (suc k) (c + length (reads k s)) ss) i)
    where
      by : (In a (arrays_from may n (suc k) (c + length (reads k s)) ss) → IsForStatement a ss)
          → In a (arrays n s.loops c (reads k s)) ⊎ In a (arrays_from may n (suc k) (c + length (reads k s)) ss) → IsForStatement a (s ∷ ss)
      by f (inl j) = record { statement = s; among = inl refl; place = k; from = c; array = array_of n s.loops c (reads k s) a j }
      by f (inr j) =
          let h = f j in
          record { statement = h.statement; among = inr h.among; place = h.place; from = h.from; array = h.array }

  all_numbered : (k c : ℕ) (ss : List Standing) (a : Made) → In a (arrays_from may n k c ss) → IsNumbered c (last_from may n k c ss) a
  all_numbered k c [] a i = absurd i
  all_numbered k c (s ∷ ss) a i =
      both_numbered n s.loops c (last_from may n (suc k) (c + length (reads k s)) ss) (reads k s) (arrays_from may n (suc k) (c + length (reads k s)) ss)
      (rises (suc k) (c + length (reads k s)) ss) (all_numbered (suc k) (c + length (reads k s)) ss) a i

  all_once : (k c : ℕ) (ss : List Standing) → last_from may n k c ss ≤ 2 ^ 32 → Distinct (names (arrays_from may n k c ss))
  all_once k c [] top = tt
  all_once k c (s ∷ ss) top =
      both_once n s.loops c (last_from may n (suc k) (c + length (reads k s)) ss) (reads k s) (arrays_from may n (suc k) (c + length (reads k s)) ss) top
      (rises (suc k) (c + length (reads k s)) ss) (all_numbered (suc k) (c + length (reads k s)) ss) (all_once (suc k) (c + length (reads k s)) ss top)

  counted : (k c : ℕ) (ss : List Standing) → c + length (arrays_from may n k c ss) ≡ last_from may n k c ss
  counted k c [] = let e : c + 0 ≡ c = omega arith in e
  counted k c (s ∷ ss) =
      let more = counted (suc k) (c + length (reads k s)) ss in
      let one = as_many n s.loops c (reads k s) in
      let all = length-append (arrays n s.loops c (reads k s)) (arrays_from may n (suc k) (c + length (reads k s)) ss) in
      omega (arith, more, one, all)

  pub last_is : last may n ≡ n.copies + length (made_arrays may n)
  last_is = sym (counted 0 n.copies (nest_statements n))

pub split_nest_has_copies : SplitNestHasCopies
split_nest_has_copies may m few =
    let top = last_is may m in
    record {
      numbered = λ a i. (let h = all_numbered may m 0 m.copies (nest_statements m) a i in let most = h.2 in (h.0, h.1, omega (arith, most, top), h.3));
      once = all_once may m 0 m.copies (nest_statements m) (subst (λ x. x ≤ 2 ^ 32) (sym top) few);
    }
