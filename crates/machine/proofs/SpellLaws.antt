-- What words of the input spell.
use Rattle.std.proofs.Common.{◌≡◌, refl, sym, ap, ◌∙◌, zero, suc, ℕ, ℤ, pos, negsuc, ◌-ℤ◌, ◌≤◌, Bool, true, false, List, ◌∷◌, Result, Ok, arith}
use Rattle.std.specs.Prelude.{nat_lt, min, neg_ℤ}
use Rattle.std.proofs.lemmas.Int.{ints}
use Rattle.std.proofs.lemmas.Bool.{false_from_ne_true}
use Rattle.std.proofs.lemmas.Bool.Decides.{Decides-ltb}
use Rattle.tree.specs.Steps.{◌>>=◌}
use Rattle.tree.specs.Operators.{fits}
use Rattle.tree.specs.declared.ops.Value.{Value}
use Rattle.tree.specs.declared.ops.Value.TheVariants.{Int, Truth}
use Rattle.tree.specs.declared.ops.Fault.{Fault}
use Rattle.tree.specs.Widths.{bits_of}
use Rattle.tree.specs.declared.width.Width.{Width}
use Rattle.tree.specs.declared.width.Width.TheVariants.{Wide}
use Rattle.meaning.specs.Texts.{unsigned_number, signed_number, truth_word, read_value}
use Rattle.meaning.specs.Value.{is_in_range}
use Rattle.meaning.proofs.Widths.{in_range_more, out_of_range_less, widest}
use Rattle.machine.specs.Reading.{Spells, SpellsNumber}

module _ (b n m : ℕ) (l : 9223372036854775808 ≤ b) (e : m ≡ min n b) where
  below_same : nat_lt m 9223372036854775808 ≡ nat_lt n 9223372036854775808
  below_same = by (nat_lt n 9223372036854775808) refl
    where
      by : (t : Bool) → nat_lt n 9223372036854775808 ≡ t → nat_lt m 9223372036854775808 ≡ nat_lt n 9223372036854775808
      by true t = (let k = (Decides-ltb n 9223372036854775808).0 t in (Decides-ltb m 9223372036854775808).1 (omega arith)) ∙ sym t
      by false t = false_from_ne_true (nat_lt m 9223372036854775808) (λ u. let k = (Decides-ltb m 9223372036854775808).0 u in let v = (Decides-ltb n 9223372036854775808).1 (omega arith) in cc) ∙ sym t

  kept_below : nat_lt n 9223372036854775808 ≡ true → m ≡ n
  kept_below t = (let k = (Decides-ltb n 9223372036854775808).0 t in omega arith)

plain : (w : List ℕ) (n m : ℕ) (z : ℤ) → signed_number w ≡ Ok (pos n) → m ≡ min n 9223372036854775809 → z ≡ pos m → SpellsNumber (bits_of Wide) w z
plain w n m z s e h = record {
  number = pos n;
  spelled = s;
  in_range = ap (fits (bits_of Wide)) h ∙ below_same 9223372036854775809 n m (omega arith) e;
  same = λ t. h ∙ ap pos (kept_below 9223372036854775809 n m (omega arith) e t);
}

pub plus_spells : (w more : List ℕ) (n m : ℕ) (z : ℤ) → w ≡ 43 ∷ more → unsigned_number more ≡ Ok (pos n) → m ≡ min n 9223372036854775809 → z ≡ pos m → SpellsNumber (bits_of Wide) w z
plus_spells w more n m z i u e h = plain w n m z (ap signed_number i ∙ u) e h

pub digits_spell : (w more : List ℕ) (c n m : ℕ) (z : ℤ) → w ≡ c ∷ more → (c ≡ 43 → ⊥) → (c ≡ 45 → ⊥) → unsigned_number w ≡ Ok (pos n) → m ≡ min n 9223372036854775809 → z ≡ pos m → SpellsNumber (bits_of Wide) w z
digits_spell w more c n m z i a b u e h = plain w n m z (ap signed_number i ∙ unsigned c more a b ∙ ap unsigned_number (sym i) ∙ u) e h
  where
    unsigned : (c : ℕ) (more : List ℕ) → (c ≡ 43 → ⊥) → (c ≡ 45 → ⊥) → signed_number (c ∷ more) ≡ unsigned_number (c ∷ more)
    unsigned c more a b = grind arith

negative : (w : List ℕ) (n m : ℕ) (z : ℤ) → signed_number w ≡ Ok (neg_ℤ (pos n)) → m ≡ min n 9223372036854775809 → z ≡ pos 0 -ℤ pos m → SpellsNumber (bits_of Wide) w z
negative w zero m z s e h = (let k : z ≡ pos 0 = (let j : m ≡ 0 = omega arith in omega (arith, ints)) in record { number = pos 0; spelled = s; in_range = ap (fits (bits_of Wide)) k; same = λ t. k })
negative w (suc n) m z s e h =
    let j = min n 9223372036854775808 in
    let k : z ≡ negsuc j = (let i : m ≡ suc j = omega arith in omega (arith, ints)) in
    record {
      number = negsuc n;
      spelled = s;
      in_range = ap (fits (bits_of Wide)) k ∙ below_same 9223372036854775808 n j (omega arith) refl;
      same = λ t. k ∙ ap negsuc (kept_below 9223372036854775808 n j (omega arith) refl t);
    }

pub minus_spells : (w more : List ℕ) (n m : ℕ) (z : ℤ) → w ≡ 45 ∷ more → unsigned_number more ≡ Ok (pos n) → m ≡ min n 9223372036854775809 → z ≡ pos 0 -ℤ pos m → SpellsNumber (bits_of Wide) w z
minus_spells w more n m z i u e h = negative w n m z (ap signed_number i ∙ ap (λ (q : Result ℤ Fault). do z ← q; Ok (neg_ℤ z)) u) e h

pub int_spells : (old : Value) (a z : ℤ) (w : List ℕ) → old ≡ Int a → SpellsNumber (bits_of Wide) w z → Spells (bits_of Wide) old w (Int z)
int_spells old a z w e h = record {
  value = Int h.number;
  spelled = ap (λ o. read_value o w) e ∙ ap (λ (q : Result ℤ Fault). do z ← q; Ok (Int z)) h.spelled;
  in_range = h.in_range;
  same = λ t. ap (λ z. Int z) (h.same t);
}

pub truth_spells : (old : Value) (a b : Bool) (w : List ℕ) → old ≡ Truth a → Ok b ≡ truth_word w → Spells (bits_of Wide) old w (Truth b)
truth_spells old a b w e h = record {
  value = Truth b;
  spelled = ap (λ o. read_value o w) e ∙ ap (λ (q : Result Bool Fault). do b ← q; Ok (Truth b)) (sym h);
  in_range = refl;
  same = λ t. refl;
}

-- what a word spells at 64 bits it spells at each width
pub spells_at : (w : Width) (old : Value) (word : List ℕ) (v : Value) → Spells (bits_of Wide) old word v → Spells (bits_of w) old word v
spells_at w old word v h = record {
  value = h.value;
  spelled = h.spelled;
  in_range = by (is_in_range 63 h.value) refl;
  same = λ t. h.same (in_range_more (bits_of w) 63 (widest w) h.value t);
}
  where
    by : (t : Bool) → is_in_range 63 h.value ≡ t → is_in_range (bits_of w) v ≡ is_in_range (bits_of w) h.value
    by true t = ap (is_in_range (bits_of w)) (h.same t)
    by false t = out_of_range_less (bits_of w) 63 (widest w) v (h.in_range ∙ t) ∙ sym (out_of_range_less (bits_of w) 63 (widest w) h.value t)
