-- Numbers are read from their texts.
use Rattle.std.proofs.Common.{◌≡◌, ℕ, zero, suc, ◌+◌, ◌-◌, ◌<◌, ℤ, pos, negsuc, neg_ℤ, if◌then◌else◌, List, [], ◌∷◌, length, refl, ap, ◌∙◌, decimal, arith}
use Rattle.std.proofs.lemmas.Bool.{ne_eqb}
use Rattle.std.proofs.lemmas.Fmt.{decimal_is_IsNumeral}
use Rattle.std.proofs.lemmas.Str.Parse.{digit_at}
use Rattle.std.specs.Fmt.{signed_decimal}
use Rattle.std.specs.Str.Parse.{AllDigits}
use Rattle.dependence_graph.specs.declared.graphs.Place.{Place}
use Rattle.listing.specs.graphs.Lines.{statement_name, place_text, level_text}
use Rattle.listing_laws.specs.reader.Listable.{IsSmall, IsSmallInteger, Lacks, IsListablePlace}
use Rattle.listing_laws.specs.reader.Reader.{rest_behind, number_read, signed_number_read, statement_number_read, place, level_read}
use Rattle.listing_laws.proofs.reader.Parts.{IsReadBetween, until-then, rest_behind-then, lacks-append}

digits-lack : (b : ℕ) (ds : List ℕ) → b < 48 → AllDigits 10 ds → Lacks b ds
digits-lack b [] l h = tt
digits-lack b (c ∷ cs) l h =
    let r = digit_at (c ∷ cs) 0 h (omega arith) in
    (ne_eqb c b (λ e. omega (arith, r.0, e)), digits-lack b cs l h.1)

pub number_read-lacks : (b n : ℕ) → b < 48 → IsSmall n → Lacks b (decimal n)
number_read-lacks b n l h = digits-lack b (decimal n) l (decimal_is_IsNumeral n (omega arith)).0.1

pub number_read-is : (n : ℕ) → IsSmall n → number_read (decimal n) ≡ n
number_read-is n h = (decimal_is_IsNumeral n (omega arith)).1

pub number_read-some : (n : ℕ) → IsSmall n → 0 < length (decimal n)
number_read-some n h = (decimal_is_IsNumeral n (omega arith)).0.0

pub number_read-between : (b n : ℕ) → b < 48 → IsSmall n → IsReadBetween b decimal number_read n
number_read-between b n l h = record { lacks = number_read-lacks b n l h; some = number_read-some n h; back = number_read-is n h }

-- ---- numbers with a sign

first-digit : (b : ℕ) (ds : List ℕ) → b < 48 → AllDigits 10 ds → 0 < length ds → signed_number_read ds ≡ pos (number_read ds)
first-digit b [] l h k = absurd (omega arith)
first-digit b (c ∷ cs) l h k =
    let r = digit_at (c ∷ cs) 0 h (omega arith) in
    ap (λ t. if t then neg_ℤ (pos (number_read cs)) else pos (number_read (c ∷ cs))) (ne_eqb c 45 (λ e. omega (arith, r.0, e)))

pub signed-read : (z : ℤ) → IsSmallInteger z → signed_number_read (signed_decimal z) ≡ z
signed-read (pos n) h =
    first-digit 45 (decimal n) (omega arith) (decimal_is_IsNumeral n (omega arith)).0.1 (number_read-some n h) ∙ ap pos (number_read-is n h)
signed-read (negsuc n) h = ap (λ m. neg_ℤ (pos m)) (number_read-is (suc n) h)

signed-lacks : (b : ℕ) (z : ℤ) → b < 45 → IsSmallInteger z → Lacks b (signed_decimal z)
signed-lacks b (pos n) l h = number_read-lacks b n (omega arith) h
signed-lacks b (negsuc n) l h = (ne_eqb 45 b (λ e. omega (arith, e)), number_read-lacks b (suc n) (omega arith) h)

signed-some : (z : ℤ) → IsSmallInteger z → 0 < length (signed_decimal z)
signed-some (pos n) h = number_read-some n h
signed-some (negsuc n) h = omega arith

pub signed-between : (b : ℕ) (z : ℤ) → b < 45 → IsSmallInteger z → IsReadBetween b signed_decimal signed_number_read z
signed-between b z l h = record { lacks = signed-lacks b z l h; some = signed-some z h; back = signed-read z h }

-- ---- statements, places, levels

pub statement-lacks : (b s : ℕ) → b < 48 → IsSmall s → Lacks b (statement_name s)
statement-lacks b s l h = (ne_eqb 83 b (λ e. omega (arith, e)), number_read-lacks b s l h)

pub statement-read : (s : ℕ) → IsSmall s → statement_number_read (statement_name s) ≡ s
statement-read s h = number_read-is s h

pub statement-between : (b s : ℕ) → b < 48 → IsSmall s → IsReadBetween b statement_name statement_number_read s
statement-between b s l h = record { lacks = statement-lacks b s l h; some = omega arith; back = statement-read s h }

pub place-lacks : (p : Place) → IsListablePlace p → Lacks 32 (place_text p)
place-lacks p h =
    lacks-append 32 (statement_name (p.stmt + 1)) (46 ∷ decimal p.at) (statement-lacks 32 (p.stmt + 1) (omega arith) h.statement)
    (refl, number_read-lacks 32 p.at (omega arith) h.reference)

before : (n : ℕ) → n + 1 - 1 ≡ n
before n = omega arith

pub place-read : (p : Place) → IsListablePlace p → place (place_text p) ≡ p
place-read p h =
    ap (λ u. record { stmt = statement_number_read u - 1; at = number_read (rest_behind 46 (place_text p)) })
    (until-then 46 (statement_name (p.stmt + 1)) (decimal p.at) (statement-lacks 46 (p.stmt + 1) (omega arith) h.statement))
    ∙ ap (λ n. record { stmt = n - 1; at = number_read (rest_behind 46 (place_text p)) }) (statement-read (p.stmt + 1) h.statement)
    ∙ ap (λ n. record { stmt = n; at = number_read (rest_behind 46 (place_text p)) }) (before p.stmt)
    ∙ ap (λ u. record { stmt = p.stmt; at = number_read u })
    (rest_behind-then 46 (statement_name (p.stmt + 1)) (decimal p.at) (statement-lacks 46 (p.stmt + 1) (omega arith) h.statement))
    ∙ ap (λ n. record { stmt = p.stmt; at = n }) (number_read-is p.at h.reference)

first-letter : (ds : List ℕ) → AllDigits 10 ds → 0 < length ds → level_read ds ≡ number_read ds
first-letter [] h k = absurd (omega arith)
first-letter (c ∷ cs) h k =
    let r = digit_at (c ∷ cs) 0 h (omega arith) in
    ap (λ t. if t then 0 else number_read (c ∷ cs)) (ne_eqb c 73 (λ e. omega (arith, r.1, e)))

pub level_read-is : (k : ℕ) → IsSmall k → level_read (level_text k) ≡ k
level_read-is zero h = refl
level_read-is (suc k) h = first-letter (decimal (suc k)) (decimal_is_IsNumeral (suc k) (omega arith)).0.1 (number_read-some (suc k) h) ∙ number_read-is (suc k) h

pub level_read-lacks : (k : ℕ) → IsSmall k → Lacks 32 (level_text k)
level_read-lacks zero h = (refl, (refl, (refl, (refl, (refl, tt)))))
level_read-lacks (suc k) h = number_read-lacks 32 (suc k) (omega arith) h
