-- Where the bytes are told, they decide which were taken and given.
use Rattle.std.proofs.Common.{◌≡◌, ℕ, ◌<◌, ◌≤◌, List, ◌++◌, length, Option, None, Some, refl, ap, arith, ◌∙◌, append-nil, length-append}
use Rattle.std.specs.Io.KnownBytes.{IsAtEnd}
use Rattle.streams.specs.Streams.{Takes, TakesMoreThan}
use Rattle.streams.specs.Turns.{TakesAtMost}

-- what isn't told stays untold
pub takes_untold : (bytes : List ℕ) (now : Option (List ℕ)) → Takes None bytes now → now ≡ None
takes_untold bytes None taken = refl
takes_untold bytes (Some xs) taken = cc

-- bytes that were taken up to the end are all that were left
pub takes_all : (xs bytes : List ℕ) (now : Option (List ℕ)) → Takes (Some xs) bytes now → IsAtEnd now → xs ≡ bytes
takes_all xs bytes None taken end = cc
takes_all xs bytes (Some ys) taken end =
    let same : xs ≡ bytes ++ ys = cc in same ∙ ap (λ t. bytes ++ t) end ∙ append-nil bytes

-- bytes that were taken are the first of those that were left
pub takes_front : (xs bytes : List ℕ) (now : Option (List ℕ)) → Takes (Some xs) bytes now → (ys : List ℕ) × (xs ≡ bytes ++ ys) × (now ≡ Some ys)
takes_front xs bytes None taken = cc
takes_front xs bytes (Some ys) taken = (ys, (cc), refl)

-- who takes more bytes than this has more left
pub had_more_than : (xs : List ℕ) (limit : ℕ) (now : Option (List ℕ)) → TakesMoreThan limit (Some xs) now → limit < length xs
had_more_than xs limit now more =
    let front = takes_front xs more.0 now more.2 in omega (arith, ap length front.1, length-append more.0 front.0, more.1)

-- no source is at once too long and within the limit
pub not_both : (xs : List ℕ) (limit : ℕ) (now : Option (List ℕ)) → TakesMoreThan limit (Some xs) now → TakesAtMost limit (Some xs) now → ⊥
not_both xs limit now more most =
    let a = takes_front xs more.0 now more.2 in let b = takes_front xs most.0 now most.2 in
    let rest : a.0 ≡ b.0 = cc in
    omega (arith, ap length a.1, length-append more.0 a.0, ap length b.1, length-append most.0 b.0, ap length rest, more.1, most.1)

-- who reads to the end within the limit had no more than the limit left
pub had_at_most : (xs : List ℕ) (limit : ℕ) (now : Option (List ℕ)) → TakesAtMost limit (Some xs) now → IsAtEnd now → length xs ≤ limit
had_at_most xs limit now most end = omega (arith, ap length (takes_all xs most.0 now most.2 end), most.1)
