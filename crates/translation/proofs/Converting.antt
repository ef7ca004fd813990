-- What the nests that passes make have of the nests that they are made of.
use Rattle.std.proofs.Common.{◌≡◌, refl, sym, ap, ◌∙◌, subst, ℕ, ◌+◌, ◌-◌, ◌≤◌, Bool, false, List, length, Some, None}
use Rattle.std.proofs.Common.{◌++◌, arith}
use Rattle.prepared_passes.proofs.ConvertedNests.Rising.{masks_rise_parts}
use Rattle.prepared_passes.proofs.ConvertedNests.Standing.{loop_of}
use Rattle.prepared_passes.proofs.ExpandedNests.Anew.{rest_anew}
use Rattle.if_convert.specs.Converted.{converted_loop, converted_nest}
use Rattle.if_convert.specs.Masks.{masks_from}
use Rattle.if_convert.specs.Points.{entered}
use Rattle.dependence_graph.specs.declared.graphs.Place.{Place}
use Rattle.interchange.specs.Arranged.{arranged}
use Rattle.listing.proofs.programs.Arranging.{arranged_rest}
use Rattle.listing.proofs.programs.Naming.{named_from}
use Rattle.listing.proofs.programs.Splitting.{split_copies, split_made, split_rest}
use Rattle.listing.proofs.programs.Stages.{made_by}
use Rattle.listing.specs.declared.programs.counts.Counts.{Counts}
use Rattle.listing.specs.programs.Passed.{IsPassedAs}
use Rattle.listing.specs.programs.Stages.{with_copies_before}
use Rattle.node_splitting.specs.Split.{made_arrays}
use Rattle.prepared_passes.specs.splitting.Splits.{nodes_split}
use Rattle.nest.specs.Allocations.{block_then}
use Rattle.nest.specs.Plain.{Choice, Jump, Label, Made, Nest, Part, Run, Turns}
use Rattle.nest_rewrite.specs.Assembled.{with_parts}
use Rattle.scalar_expand.specs.Expanded.{expanded, last_values, with_made_arrays}
use Rattle.scalar_expand.specs.Laws.{own_of}
use Rattle.symbols_anew.specs.Nests.{with_symbols_found}
use Rattle.subscripts.specs.declared.affine.Dirs.{Dirs}
use Rattle.tree.specs.Plain.{block}

-- ---- masks

pub record IsConvertedFrom (masks : ℕ) (n m : Nest) : Type 0 where
  pub number : m.number ≡ n.number
  pub symbols : m.symbols ≡ n.symbols
  pub line : m.line ≡ n.line
  pub declarations : m.declarations ≡ n.declarations
  pub after : m.after ≡ n.after
  pub made : m.made ≡ n.made ++ masks_from masks (m.masks - masks)

some_same : (x y : Nest) → Some x ≡ Some y → x ≡ y
some_same x y e = cc

pub converted_from : (masks : ℕ) (n m : Nest) → converted_nest masks n ≡ Some m → IsConvertedFrom masks n m
unfolding converted_nest
converted_from masks n m e = by n.body e
  where
    by : (p : Part) → elim p [
      | Run g ↦ None
      | Turns l ps ↦ Some (converted_loop n masks l ps)
      | Choice bs other ↦ None
      | Label k ↦ None
      | Jump k ↦ None
    ] ≡ Some m → IsConvertedFrom masks n m
    by (Run g) h = let no : ⊥ = cc in absurd no
    by (Turns l ps) h =
        subst (IsConvertedFrom masks n) (some_same (converted_loop n masks l ps) m h)
        (record { number = refl; symbols = refl; line = refl; declarations = refl; after = refl; made = refl })
    by (Choice bs other) h = let no : ⊥ = cc in absurd no
    by (Label k) h = let no : ⊥ = cc in absurd no
    by (Jump k) h = let no : ⊥ = cc in absurd no

masks_rise : (masks : ℕ) (n m : Nest) → converted_nest masks n ≡ Some m → masks ≤ m.masks
masks_rise masks n m e =
    let f = loop_of masks n m e in
    subst (λ (z : Nest). masks ≤ z.masks) f.made (masks_rise_parts n.line false None f.within (entered None masks masks))

-- ---- symbols found anew

pub record IsAnewFrom (n m : Nest) : Type 0 where
  pub number : m.number ≡ n.number
  pub declarations : m.declarations ≡ n.declarations
  pub masks : m.masks ≡ n.masks
  pub after : m.after ≡ n.after

pub anew_from : (before n m : Nest) → m ≡ with_symbols_found before n → IsAnewFrom n m
anew_from before n m e =
    let rest = rest_anew before n m e in
    record {
      number = ap (λ (z : Nest). z.number) rest;
      declarations = ap (λ (z : Nest). z.declarations) rest;
      masks = ap (λ (z : Nest). z.masks) rest;
      after = ap (λ (z : Nest). z.after) rest;
    }

-- ---- arrays

record IsExpandedFrom (n m : Nest) : Type 0 where
  number : m.number ≡ n.number
  symbols : m.symbols ≡ n.symbols
  declarations : m.declarations ≡ n.declarations
  masks : m.masks ≡ n.masks
  after : m.after ≡ block_then n.after (block (last_values n.symbols n.line (own_of n)))

expanded_is : (n : Nest) → IsExpandedFrom n (expanded n)
unfolding with_made_arrays with_parts
expanded_is n = record { number = refl; symbols = refl; declarations = refl; masks = refl; after = refl }

-- ---- the last nest, of the one before arrays stand for private scalars

-- where so many copies were made before it, and whichever reads are copied
pub record IsLastFrom (may : Place → Bool) (first : ℕ) (n m : Nest) : Type 0 where
  pub number : m.number ≡ n.number
  pub symbols : m.symbols ≡ n.symbols
  pub declarations : m.declarations ≡ n.declarations
  pub masks : m.masks ≡ n.masks
  pub after : m.after ≡ block_then n.after (block (last_values n.symbols n.line (own_of n)))
  pub made : m.made ≡ (expanded n).made ++ made_arrays may (with_copies_before first (expanded n))
  pub copies : m.copies ≡ first + length (made_arrays may (with_copies_before first (expanded n)))

-- by whatever vectors its loops move
pub last_from : (may : Place → Bool) (copies : ℕ) (n m : Nest) (vectors : List Dirs)
    → m ≡ arranged (nodes_split may (with_copies_before copies (expanded n))) vectors → IsLastFrom may copies n m
last_from may copies n m vectors e =
    let before = expanded_is n in
    let c = with_copies_before copies (expanded n) in
    let s = nodes_split may c in
    let rest = e ∙ arranged_rest s vectors in
    let split = split_rest may c in
    record {
      number = ap (λ (z : Nest). z.number) rest ∙ (ap (λ (z : Nest). z.number) split ∙ before.number);
      symbols = ap (λ (z : Nest). z.symbols) rest ∙ (ap (λ (z : Nest). z.symbols) split ∙ before.symbols);
      declarations = ap (λ (z : Nest). z.declarations) rest
          ∙ (ap (λ (z : Nest). z.declarations) split ∙ before.declarations);
      masks = ap (λ (z : Nest). z.masks) rest ∙ (ap (λ (z : Nest). z.masks) split ∙ before.masks);
      after = ap (λ (z : Nest). z.after) rest ∙ (ap (λ (z : Nest). z.after) split ∙ before.after);
      made = ap (λ (z : Nest). z.made) rest ∙ split_made may c;
      copies = ap (λ (z : Nest). z.copies) rest ∙ split_copies may c;
    }

-- it is the expanded nest but for its body and the arrays of copies
pub last_is : (may : Place → Bool) (copies : ℕ) (n m : Nest) (vectors : List Dirs)
    → m ≡ arranged (nodes_split may (with_copies_before copies (expanded n))) vectors
    → m ≡ record (expanded n) {
      body = m.body;
      made = (expanded n).made ++ made_arrays may (with_copies_before copies (expanded n));
      copies = (nodes_split may (with_copies_before copies (expanded n))).copies;
    }
last_is may copies n m vectors e =
    let c = with_copies_before copies (expanded n) in
    let s = nodes_split may c in
    let one : m ≡ record s { body = m.body }
    = subst (λ (z : Nest). z ≡ record s { body = z.body }) (sym e) (arranged_rest s vectors) in
    one ∙ (ap (λ (z : Nest). record z { body = m.body }) (split_rest may c)
    ∙ ap (λ (ms : List Made). record (expanded n) { body = m.body; made = ms; copies = s.copies }) (split_made may c))

-- ---- what passes make

abbrev pub may_of : (counts : Counts) (n m : Nest) → IsPassedAs counts n m → Place → Bool
may_of counts n m passed = passed.is_split.is.may

pub passed_from : (counts : Counts) (n m : Nest) (passed : IsPassedAs counts n m)
    → IsLastFrom (may_of counts n m passed) counts.copies passed.named m
passed_from counts n m passed =
    let made = made_by counts n m passed in
    last_from made.may counts.copies passed.named m made.vectors made.is_arranged

-- symbols, inductions and ranges of scalars leave the masks as they are
pub same_masks : (counts : Counts) (n m : Nest) (passed : IsPassedAs counts n m)
    → passed.named.masks ≡ passed.converted.masks
same_masks counts n m passed =
    (named_from passed.anew passed.substituted passed.named passed.is_substituted passed.is_named).masks
    ∙ (anew_from passed.normal passed.converted passed.anew passed.is_anew).masks

-- with the masks and copies of a nest there are no fewer than before
pub passed_rises : (counts : Counts) (n m : Nest) → IsPassedAs counts n m
    → (counts.masks ≤ m.masks) × (counts.copies ≤ m.copies)
passed_rises counts n m passed =
    let last = passed_from counts n m passed in
    let copies = last.copies in (
      subst (λ (k : ℕ). counts.masks ≤ k) (sym (last.masks ∙ same_masks counts n m passed))
          (masks_rise counts.masks passed.normal passed.converted passed.is_converted),
      omega (arith, copies),
    )
