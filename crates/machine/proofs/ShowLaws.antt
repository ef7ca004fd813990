-- The parts of a line of the final store, written one after the other.
use Rattle.std.proofs.Common.{◌≡◌, refl, sym, ap, ◌∙◌, ℕ, ℤ, pos, ◌+ℤ◌, List, [], ◌∷◌, ◌++◌, Result, Ok, Err, Option, Some, map, append_assoc, append-nil}
use Rattle.std.specs.Prelude.{OnOk, OnErr, ◌/◌, ◌%◌}
use Rattle.std.specs.Fmt.{signed_decimal}
use Rattle.std.specs.List.{flat_map}
use Rattle.std.proofs.lemmas.List.Concat.{flat_map-cons}
use Rattle.streams.specs.Streams.{Gives, GivesPart}
use Rattle.tree.specs.View.{bounds_of}
use Rattle.tree.specs.declared.programs.Dim.{Dim}
use Rattle.tree.specs.declared.ops.Value.{Value}
use Rattle.meaning.specs.Store.{Store, Cell, size_of, cells_of}
use Rattle.meaning.specs.Steps.{lines_of_cells}
use Rattle.meaning.specs.Texts.{separated, subscripts_text, value_text, final_line}
use Rattle.machine.specs.Storage.{bounds_list}
use Rattle.machine.specs.Texts.{WritesText}
use Rattle.machine.specs.Showing.{subscripts_at, behind_commas, held_text}
use Rattle.machine.proofs.Telling.{nothing_in_front, nothing_behind}

-- what `write_all` says, in one
pub written : {E : Type 0} (before now : Option (List ℕ)) (text : List ℕ) (r : Result (Unit {0}) E) → OnOk r (Gives before text now) → OnErr r (GivesPart before text now) → WritesText before text now r
written before now text (Ok x) h k = h
written before now text (Err e) h k = k

abbrev pub number_text : Dim → ℕ → List ℕ
number_text d k = signed_decimal ((bounds_of d).0 +ℤ pos (k % size_of (bounds_of d)))

abbrev pub rest_text : List Dim → ℕ → List ℕ
rest_text ds k = behind_commas (subscripts_at (bounds_list ds) k)

separated_is : (i : ℤ) (is : List ℤ) → separated (i ∷ is) ≡ signed_decimal i ++ behind_commas is
separated_is i [] = sym (append-nil (signed_decimal i))
separated_is i (j ∷ is) = append_assoc (signed_decimal i) (44 ∷ []) (separated (j ∷ is)) ∙ ap (λ t. signed_decimal i ++ 44 ∷ t) (separated_is j is)

module _ (ds : List Dim) (d : Dim) (inner : List Dim) (k : ℕ) (e : ds ≡ d ∷ inner) where
  pub rest_is : rest_text ds k ≡ (44 ∷ []) ++ (number_text d k ++ rest_text inner (k / size_of (bounds_of d)))
  rest_is = ap (λ ds. rest_text ds k) e

  pub subscripts_is : subscripts_text (subscripts_at (bounds_list ds) k) ≡ (40 ∷ []) ++ (number_text d k ++ (rest_text inner (k / size_of (bounds_of d)) ++ (41 ∷ [])))
  subscripts_is =
      ap (λ ds. subscripts_text (subscripts_at (bounds_list ds) k)) e
      ∙ ap (λ t. 40 ∷ (t ++ (41 ∷ []))) (separated_is ((bounds_of d).0 +ℤ pos (k % size_of (bounds_of d))) (subscripts_at (bounds_list inner) (k / size_of (bounds_of d))))
      ∙ ap (λ t. 40 ∷ t) (append_assoc (number_text d k) (rest_text inner (k / size_of (bounds_of d))) (41 ∷ []))

-- a line is a name, subscripts, and what is held
pub line_is : (c : Cell) (v : Value) → final_line c v ≡ c.name ++ (subscripts_text c.subscripts ++ held_text v)
line_is c v =
    append_assoc (c.name ++ subscripts_text c.subscripts ++ (32 ∷ 61 ∷ 32 ∷ [])) (value_text v) (10 ∷ [])
    ∙ append_assoc (c.name ++ subscripts_text c.subscripts) (32 ∷ 61 ∷ 32 ∷ []) (value_text v ++ 10 ∷ [])
    ∙ append_assoc c.name (subscripts_text c.subscripts) ((32 ∷ 61 ∷ 32 ∷ []) ++ (value_text v ++ 10 ∷ []))

no_line : (c : Cell) (v : Value) → final_line c v ≡ [] → ⊥
no_line c v e =
    let h : held_text v ≡ [] = nothing_behind (subscripts_text c.subscripts) (held_text v) (nothing_behind c.name (subscripts_text c.subscripts ++ held_text v) (sym (line_is c v) ∙ e)) in
    cc

no_cells : (s : Store) (cs : List Cell) → flat_map (λ c. final_line c (s.held c)) cs ≡ [] → map s.held cs ≡ []
no_cells s [] e = refl
no_cells s (c ∷ cs) e =
    absurd (no_line c (s.held c) (nothing_in_front (final_line c (s.held c)) (flat_map (λ c. final_line c (s.held c)) cs) (sym (flat_map-cons (λ c. final_line c (s.held c)) c cs) ∙ e)))

-- without lines there are no values
pub no_values_there : (x : List ℕ) (bs : List (ℤ × ℤ)) (s : Store) (vs : List Value) → map s.held (cells_of x bs) ≡ vs → lines_of_cells x (Some bs) s ≡ [] → vs ≡ []
no_values_there x bs s vs h e = sym h ∙ no_cells s (cells_of x bs) e
