-- The names of copies.
use Rattle.std.proofs.Common.{◌≡◌, ap, ◌∙◌, ℕ, ◌+◌, ◌<◌, ◌^◌, List, ◌++◌, cond, length-append, arith}
use Rattle.std.proofs.lemmas.Fmt.{decimal_injective}
use Rattle.std.proofs.lemmas.List.{append_cancel_left}
use Rattle.std.specs.Prelude.{codes, decimal, slice_index_or}
use Rattle.if_convert.specs.Masks.{mask_name}
use Rattle.last_values.specs.normal_forms.NormalLoops.{counter_name}
use Rattle.scalar_expand.specs.Privates.{expanded_name, number_behind}
use Rattle.scalar_rename.specs.Ranges.{range_name}
use Rattle.tree.specs.Names.{IsSourceName}
use Rattle.prepared_passes.proofs.ExpandedNests.Names.{source_is}
use Rattle.node_splitting.specs.Arrays.{copy_name}
use Rattle.prepared_passes.specs.splitting.Kept.{CopyNamesAreApart, CopyNamesAreTheirOwn}

below_64 : (i : ℕ) → i < 2 ^ 32 → i + 1 < 2 ^ 64
below_64 i h = let k : i < 4294967296 = h in let l : i + 1 < 18446744073709551616 = omega (arith, k) in l

pub copy_names_are_apart : CopyNamesAreApart
copy_names_are_apart i j h k e =
    let same = decimal_injective (i + 1) (j + 1) (below_64 i h) (below_64 j k) (append_cancel_left (codes "FV_COPY_") (decimal (i + 1)) (decimal (j + 1)) e) in
    omega (arith, same)

-- FORTRAN 77 hasn't it
pub copy_long : (i : ℕ) → ¬ IsSourceName (copy_name i)
copy_long i h = let a = h.within in let e = length-append (codes "FV_COPY_") (decimal (i + 1)) in omega (arith, a, e)

-- it counts no loop
pub copy_no_counter : (i k : ℕ) → ¬ (copy_name i ≡ counter_name k)
copy_no_counter i k e = let at : 67 ≡ 76 = ap (λ (y : List ℕ). slice_index_or y 3 0) e in absurd (omega (arith, at))

copy_no_mask : (i k : ℕ) → ¬ (copy_name i ≡ mask_name k)
copy_no_mask i k e = let at : 67 ≡ 77 = ap (λ (y : List ℕ). slice_index_or y 3 0) e in absurd (omega (arith, at))

full_name : (n : ℕ) (x : List ℕ) → IsSourceName x → expanded_name n x ≡ (codes "FV_EXP_" ++ x) ++ number_behind n
full_name n x s = ap (λ b. cond b ((codes "FV_EXP_" ++ x) ++ number_behind n) x) (source_is x s)

copy_no_array : (i n : ℕ) (x : List ℕ) → IsSourceName x → ¬ (copy_name i ≡ expanded_name n x)
copy_no_array i n x s e = let at : 67 ≡ 69 = ap (λ (y : List ℕ). slice_index_or y 3 0) (e ∙ full_name n x s) in absurd (omega (arith, at))

copy_no_range : (i n j : ℕ) (x : List ℕ) → ¬ (copy_name i ≡ range_name n x j)
copy_no_range i n j x e = let at : 67 ≡ 78 = ap (λ (y : List ℕ). slice_index_or y 3 0) e in absurd (omega (arith, at))

pub copy_names_are_their_own : CopyNamesAreTheirOwn
copy_names_are_their_own i = record {
  long = copy_long i;
  counter = copy_no_counter i;
  mask = copy_no_mask i;
  array = λ n x s. copy_no_array i n x s;
  range = λ n j x. copy_no_range i n j x;
}
