-- From which statement of the nest a statement of the split one comes.
use Rattle.std.proofs.Common.{◌≡◌, ◌⊎◌, inl, inr, refl, ap, ℕ, suc, ◌+◌, ◌≤◌, ◌<◌, Bool, List, [], ◌∷◌, ◌++◌, length, arith}
use Rattle.nest.specs.Bodies.{Standing}
use Rattle.nest.specs.Plain.{Guarded, Loop, Nest}
use Rattle.nest_order.proofs.orders.Lists.{In-append}
use Rattle.nest_order.proofs.orders.Membership.{In-map}
use Rattle.nest_order.specs.orders.Lists.{In}
use Rattle.statement_passes.specs.Standings.{mapped_standings, standings}
use Rattle.tree.specs.Plain.{Reference}
use Rattle.node_splitting.specs.Arrays.{array, arrays}
use Rattle.node_splitting.specs.Reads.{read_copied, copies_of, reads_in_statement, split_statement, with_copies}

module _ (each : List Loop → ℕ → Guarded → List Guarded) where
  pub record ComesFrom (k : ℕ) (xs : List Standing) (x : Standing) : Type 0 where
    pub pre : List Standing
    pub from : Standing
    pub post : List Standing
    pub parted : xs ≡ pre ++ from ∷ post
    pub number : ℕ
    pub is : number ≡ k + length pre
    pub guarded : Guarded
    pub inside : In guarded (each from.loops number from.statement)
    pub same : x ≡ record { loops = from.loops; statement = guarded }

  pub comes_from : (k : ℕ) (xs : List Standing) (x : Standing) → In x (mapped_standings each k xs) → ComesFrom k xs x
  comes_from k [] x i = absurd i
  comes_from k (y ∷ xs) x i = by (λ j. comes_from (k + 1) xs x j) (In-append x (standings y.loops (each y.loops k y.statement)) (mapped_standings each (k + 1) xs) i)
    where
      by : (In x (mapped_standings each (k + 1) xs) → ComesFrom (k + 1) xs x)
          → In x (standings y.loops (each y.loops k y.statement)) ⊎ In x (mapped_standings each (k + 1) xs) → ComesFrom k (y ∷ xs) x
      by f (inl j) =
          let o = In-map (λ (g : Guarded). record { loops = y.loops; statement = g }) x (each y.loops k y.statement) j in
          record { pre = []; from = y; post = xs; parted = refl; number = k; is = omega arith; guarded = o.it; inside = o.inside; same = o.is }
      by f (inr j) =
          let h = f j in
          let e = h.is in
          record {
            pre = y ∷ h.pre;
            from = h.from;
            post = h.post;
            parted = ap (λ zs. y ∷ zs) h.parted;
            number = h.number;
            is = omega (arith, e);
            guarded = h.guarded;
            inside = h.inside;
            same = h.same;
          }

-- ---- copies, and the statement that reads them

module _ (n : Nest) (ls : List Loop) (element : ℕ → Reference) (g : Guarded) where
  -- a copy with its read and its array
  pub record IsCopy (c : ℕ) (rs : List Reference) (x : Guarded) : Type 0 where
    pub number : ℕ
    pub low : c ≤ number
    pub high : number < c + length rs
    pub read : Reference
    pub among : In read rs
    pub there : In (array n ls number read) (arrays n ls c rs)
    pub is : x ≡ read_copied element g number read

  pub is_copy : (c : ℕ) (rs : List Reference) (x : Guarded) → In x (copies_of element g c rs) → IsCopy c rs x
  is_copy c [] x i = absurd i
  is_copy c (r ∷ rs) x (inl e) = record { number = c; low = omega arith; high = omega arith; read = r; among = inl refl; there = inl refl; is = e }
  is_copy c (r ∷ rs) x (inr i) =
      let h = is_copy (suc c) rs x i in
      let low = h.low in
      let high = h.high in
      record { number = h.number; low = omega (arith, low); high = omega (arith, high); read = h.read; among = inr h.among; there = inr h.there; is = h.is }

  pub copy_or_statement : (loops : List (List ℕ)) (may : ℕ → Bool) (c : ℕ) (x : Guarded) → In x (with_copies loops may element c g)
      → IsCopy c (reads_in_statement loops may g) x ⊎ (x ≡ split_statement loops may g element c)
  copy_or_statement loops may c x i = by (In-append x (copies_of element g c (reads_in_statement loops may g)) (split_statement loops may g element c ∷ []) i)
    where
      by : In x (copies_of element g c (reads_in_statement loops may g)) ⊎ In x (split_statement loops may g element c ∷ []) → IsCopy c (reads_in_statement loops may g) x ⊎ (x ≡ split_statement loops may g element c)
      by (inl j) = inl (is_copy c (reads_in_statement loops may g) x j)
      by (inr (inl e)) = inr e
      by (inr (inr j)) = absurd j
