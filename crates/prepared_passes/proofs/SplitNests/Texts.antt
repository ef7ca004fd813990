-- A nest with its nodes split is the one with copies and reads of them as they are, brought into canonical text.
use Rattle.std.proofs.Common.{◌≡◌, refl, sym, ap, ap₂, ◌∙◌, ℕ, ◌+◌, Bool, List, [], ◌∷◌, ◌++◌, append_assoc, map, length, Some}
use Rattle.std.specs.Prelude.{slice_index_or}
use Rattle.dependence_graph.specs.declared.graphs.Place.{Place}
use Rattle.nest.specs.Plain.{Choice, Guarded, Jump, Label, Loop, Made, Nest, Part, Parts, Run, Turns, no_parts, part, parts}
use Rattle.nest_steps.specs.Mapped.{count_of, mapped_parts_of, mapped_in}
use Rattle.statement_passes.specs.Passes.{mapped_body}
use Rattle.statement_passes.specs.Standings.{IsLoop}
use Rattle.symbols_anew.specs.Nests.{canonised, each_canonised, with_texts}
use Rattle.node_splitting.specs.Arrays.{copy_element}
use Rattle.node_splitting.specs.Counts.{variables_from_outside}
use Rattle.node_splitting.specs.Reads.{with_copies}
use Rattle.node_splitting.specs.Split.{firsts, if_copied, last, made_arrays, may_in, with_copy_arrays, with_nodes_split}

-- ---- one mapping after another

module _ (symbols : List (List ℕ)) (raw : List Loop → ℕ → Guarded → List Guarded) where
  abbrev texts : List Loop → ℕ → Guarded → List Guarded
  texts = each_canonised symbols

  abbrev both : List Loop → ℕ → Guarded → List Guarded
  both ls k g = map (canonised symbols ls) (raw ls k g)

  runs_fused : (ls : List Loop) (j : ℕ) (gs : List Guarded) → mapped_in (each_canonised symbols) ls j (parts (map Run gs)) ≡ map Run (map (canonised symbols ls) gs)
  runs_fused ls j [] = refl
  runs_fused ls j (g ∷ gs) = ap (λ ps. Run (canonised symbols ls g) ∷ ps) (runs_fused ls (j + 1) gs)

  -- one list behind the other
  parted : (ls : List Loop) (j : ℕ) (xs ys : List Part)
      → (i : ℕ) × (mapped_in (each_canonised symbols) ls j (parts (xs ++ ys)) ≡ mapped_in (each_canonised symbols) ls j (parts xs) ++ mapped_in (each_canonised symbols) ls i (parts ys))
  parted ls j [] ys = (j, refl)
  parted ls j (x ∷ xs) ys =
      let r = parted ls (j + count_of x) xs ys in (
        r.0,
        ap (λ ps. mapped_parts_of (each_canonised symbols) ls j x ++ ps) r.1
            ∙ sym (append_assoc (mapped_parts_of (each_canonised symbols) ls j x) (mapped_in (each_canonised symbols) ls (j + count_of x) (parts xs)) (mapped_in (each_canonised symbols) ls r.0 (parts ys))),
      )

  mutual
    fused : (ls : List Loop) (k j : ℕ) (p : Part) → mapped_in (each_canonised symbols) ls j (parts (mapped_parts_of raw ls k p)) ≡ mapped_parts_of both ls k p
    fused ls k j (Run g) = runs_fused ls j (raw ls k g)
    fused ls k j (Turns l ps) = ap (λ qs. Turns l (parts qs) ∷ []) (all_fused (ls ++ l ∷ []) k j ps)
    fused ls k j (Choice bs ps) = refl
    fused ls k j (Label n) = refl
    fused ls k j (Jump n) = refl

    all_fused : (ls : List Loop) (k j : ℕ) (ps : Parts) → mapped_in (each_canonised symbols) ls j (parts (mapped_in raw ls k ps)) ≡ mapped_in both ls k ps
    all_fused ls k j no_parts = refl
    all_fused ls k j (part p ps) =
        let r = parted ls j (mapped_parts_of raw ls k p) (mapped_in raw ls (k + count_of p) ps) in
        r.1 ∙ ap₂ (λ (xs ys : List Part). xs ++ ys) (fused ls k j p) (all_fused ls (k + count_of p) r.0 ps)

  pub body_fused : (p : Part) → IsLoop p → mapped_body both p ≡ mapped_body (each_canonised symbols) (mapped_body raw p)
  body_fused (Turns l ps) h = ap (λ qs. Turns l (parts qs)) (sym (all_fused (l ∷ []) 0 0 ps))
  body_fused (Run g) h = absurd h
  body_fused (Choice bs ps) h = absurd h
  body_fused (Label n) h = absurd h
  body_fused (Jump n) h = absurd h

-- ---- the nest

module _ (may : Place → Bool) (m : Nest) where
  -- the copies of a statement, and what it becomes, as they are
  abbrev pub each_raw : List Loop → ℕ → Guarded → List Guarded
  each_raw ls k g = with_copies (variables_from_outside ls) (may_in may (length m.symbols) ls k) (copy_element (variables_from_outside ls)) (slice_index_or (firsts may m) k 0) g

  abbrev pub raw_nest : Nest
  raw_nest = record m { body = mapped_body each_raw m.body; made = m.made ++ made_arrays may m; copies = last may m }

  abbrev pub whole_nest : Nest
  whole_nest = with_copy_arrays may m (made_arrays may m)

  pub whole_is : IsLoop m.body → with_copy_arrays may m (made_arrays may m) ≡ with_texts raw_nest
  whole_is loop = ap (λ b. record m { body = b; made = m.made ++ made_arrays may m; copies = last may m }) (body_fused m.symbols each_raw m.body loop)

  -- where something is copied
  pub split_is : (k : Nest) → with_nodes_split may m ≡ Some k → k ≡ with_copy_arrays may m (made_arrays may m)
  unfolding with_nodes_split
  split_is k h = by (made_arrays may m) h
    where
      by : (as' : List Made) → if_copied may m as' ≡ Some k → k ≡ with_copy_arrays may m as'
      by [] e = cc
      by (a ∷ as') e = let same : with_copy_arrays may m (a ∷ as') ≡ k = cc in sym same
