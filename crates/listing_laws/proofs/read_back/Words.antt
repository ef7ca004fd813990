-- The names of a program, and those of counters, have no blanks.
use Rattle.std.proofs.Common.{◌≡◌, refl, ℕ, ◌<◌, ◌≤◌, ◌==◌, Bool, true, false, not, ◌&&◌, ◌||◌, List, [], ◌∷◌}
use Rattle.std.proofs.Common.{codes, decimal, arith, lit<}
use Rattle.std.proofs.lemmas.Bool.{and_parts, leb-true, ne_eqb}
use Rattle.std.specs.List.{list_all}
use Rattle.std.specs.Prelude.{nat_le}
use Rattle.meaning.specs.SymbolicNames.{IsSymbolicName, is_letter, is_digit}
use Rattle.listing_laws.proofs.reader.Numbers.{number_read-lacks}
use Rattle.listing_laws.proofs.reader.Parts.{lacks-append}
use Rattle.listing_laws.specs.reader.Listable.{IsWord}
use Rattle.last_values.specs.normal_forms.NormalLoops.{counter_name}

above : (low high c : ℕ) → 32 < low → (nat_le low c && nat_le c high) ≡ true → (c == 32) ≡ false
above low high c h e =
    let p = and_parts (nat_le low c) (nat_le c high) e in
    let over = leb-true low c p.0 in
    ne_eqb c 32 (λ same. omega (arith, h, over, same))

pub name_character : (c : ℕ) → (is_letter c || is_digit c) ≡ true → (c == 32) ≡ false
name_character c h = by (is_letter c) refl h
  where
    by : (b : Bool) → is_letter c ≡ b → (b || is_digit c) ≡ true → (c == 32) ≡ false
    by true e k = above 65 90 c (lit< tt) e
    by false e k = above 48 57 c (lit< tt) k

name_characters : (x : List ℕ) → list_all (λ c. is_letter c || is_digit c) x ≡ true → IsWord x
name_characters [] h = tt
name_characters (c ∷ cs) h =
    let p = and_parts (is_letter c || is_digit c) (list_all (λ c. is_letter c || is_digit c) cs) h in
    (name_character c p.0, name_characters cs p.1)

pub name : (x : List ℕ) → IsSymbolicName x → IsWord x
name x h = name_characters x h.goes_on

same_no : (b : Bool) → not b ≡ true → b ≡ false
same_no true h = let no : ⊥ = cc in absurd no
same_no false h = refl

word : (t : List ℕ) → list_all (λ c. not (c == 32)) t ≡ true → IsWord t
word [] h = tt
word (c ∷ cs) h =
    let p = and_parts (not (c == 32)) (list_all (λ c. not (c == 32)) cs) h in (same_no (c == 32) p.0, word cs p.1)

pub counter : (n : ℕ) → n ≤ 4294967295 → IsWord (counter_name n)
counter n h =
    lacks-append 32 (codes "FV_LOOP_") (decimal n) (word (codes "FV_LOOP_") refl)
    (number_read-lacks 32 n (omega arith) (omega (arith, h)))
