-- Calls one after the other take and give their bytes one after the other.
use Rattle.std.proofs.Common.{append-nil, ◌≡◌, ℕ, ◌+◌, ◌<◌, ◌≤◌, List, [], ◌∷◌, ◌++◌, length, take, drop, Option, None, Some, refl, ap, append_assoc, length-append, sym, ◌∙◌, arith}
use Rattle.std.proofs.Math.Seq.{take-add}
use Rattle.std.proofs.lemmas.List.{take-append-drop}
use Rattle.std.specs.Io.KnownBytes.{prepend_known, append_known}
use Rattle.streams.specs.Streams.{Takes, TakesMoreThan, Gives, GivesPart}
use Rattle.streams.specs.Turns.{TakesAtMost}

-- no call, no bytes
pub takes_none : (now : Option (List ℕ)) → Takes now [] now
takes_none None = refl
takes_none (Some xs) = refl

pub gives_none : (before : Option (List ℕ)) → Gives before [] before
gives_none None = refl
gives_none (Some xs) = simp append-nil

prepend_twice : (xs ys : List ℕ) (now : Option (List ℕ)) → prepend_known xs (prepend_known ys now) ≡ prepend_known (xs ++ ys) now
prepend_twice xs ys None = refl
prepend_twice xs ys (Some zs) = ap Some (sym (append_assoc xs ys zs))

append_twice : (before : Option (List ℕ)) (xs ys : List ℕ) → append_known (append_known before xs) ys ≡ append_known before (xs ++ ys)
append_twice None xs ys = refl
append_twice (Some zs) xs ys = ap Some (append_assoc zs xs ys)

pub takes_more : (before then now : Option (List ℕ)) (xs ys : List ℕ) → Takes before xs then → Takes then ys now → Takes before (xs ++ ys) now
takes_more before then now xs ys first next = rw (first, next) (prepend_twice xs ys now)

pub gives_more : (before then now : Option (List ℕ)) (xs ys : List ℕ) → Gives before xs then → Gives then ys now → Gives before (xs ++ ys) now
gives_more before then now xs ys first next = rw (next, first) (append_twice before xs ys)

-- one more call, after bytes that were counted, passes the limit
pub takes_beyond : (limit : ℕ) (before then now : Option (List ℕ)) (xs ys : List ℕ) → Takes before xs then → Takes then ys now → limit < length xs + length ys → TakesMoreThan limit before now
takes_beyond limit before then now xs ys first next beyond =
    (xs ++ ys, omega (arith, length-append xs ys), takes_more before then now xs ys first next)

-- and here it stays within the limit
pub takes_within : (limit : ℕ) (before then now : Option (List ℕ)) (xs ys : List ℕ) → Takes before xs then → Takes then ys now → length xs + length ys ≤ limit → TakesAtMost limit before now
takes_within limit before then now xs ys first next within =
    (xs ++ ys, omega (arith, length-append xs ys), takes_more before then now xs ys first next)

-- nothing was given of a text
pub part_none : (before : Option (List ℕ)) (text : List ℕ) → GivesPart before text before
part_none before text = ([], text, refl, gives_none before)

-- all of a text was given
pub part_whole : (before now : Option (List ℕ)) (text : List ℕ) → Gives before text now → GivesPart before text now
part_whole before now text given = (text, [], sym (append-nil text), given)

-- a text was given in part, after one that was given whole
pub part_after : (before then now : Option (List ℕ)) (xs ys : List ℕ) → Gives before xs then → GivesPart then ys now → GivesPart before (xs ++ ys) now
part_after before then now xs ys first part =
    (xs ++ part.0, part.1, ap (λ t. xs ++ t) part.2 ∙ sym (append_assoc xs part.0 part.1), gives_more before then now xs part.0 first part.3)

-- a text was given in part, before one of which nothing was given
pub part_before : (before now : Option (List ℕ)) (xs ys : List ℕ) → GivesPart before xs now → GivesPart before (xs ++ ys) now
part_before before now xs ys part =
    (part.0, part.1 ++ ys, ap (λ t. t ++ ys) part.2 ∙ append_assoc part.0 part.1 ys, part.3)

-- the first bytes of a text were given
pub part_front : (before now : Option (List ℕ)) (text : List ℕ) (n : ℕ) → Gives before (take n text) now → GivesPart before text now
part_front before now text n given = (take n text, drop n text, sym (take-append-drop n text), given)

-- the first bytes of a text were given, and then some of the rest
pub front_more : (before then now : Option (List ℕ)) (text rest : List ℕ) (given n : ℕ) → Gives before (take given text) then → Gives then (take n rest) now → rest ≡ drop given text → Gives before (take (given + n) text) now
front_more before then now text rest given n first next is =
    rw (take-add given n text, ← is) (gives_more before then now (take given text) (take n rest) first next)

-- a front of what is held was given: the rest of it comes after that
pub held_less : (before now : Option (List ℕ)) (held : List ℕ) (n : ℕ) → Gives before (take n held) now → append_known now (drop n held) ≡ append_known before held
held_less before now held n front =
    rw (front, append_twice before (take n held) (drop n held), take-append-drop n held) refl

-- of two texts that are nothing together, each is nothing
pub both_none : (xs ys : List ℕ) → xs ++ ys ≡ [] → (xs ≡ []) × (ys ≡ [])
both_none [] ys none = (refl, none)
both_none (x ∷ xs) ys none = cc
