-- Texts that are written one after the other.
use Rattle.std.proofs.Common.{ℕ, List, [], ◌∷◌, ◌++◌, Result, Ok, Err, Option}
use Rattle.streams.specs.Streams.{Gives, GivesPart}
use Rattle.streams.proofs.Chained.{gives_more, part_after, part_before}
use Rattle.machine.specs.Texts.{WritesText}

pub both_written : {E : Type 0} (before mid now : Option (List ℕ)) (a b : List ℕ) (r : Result (Unit {0}) E) → Gives before a mid → WritesText mid b now r → WritesText before (a ++ b) now r
both_written before mid now a b (Ok x) h k = gives_more before mid now a b h k
both_written before mid now a b (Err e) h k = part_after before mid now a b h k

pub first_part : {E : Type 0} (before now : Option (List ℕ)) (a b : List ℕ) (e : E) → GivesPart before a now → WritesText before (a ++ b) now (Err e)
first_part before now a b e h = part_before before now a b h

pub blank_first : {E : Type 0} (before mid now : Option (List ℕ)) (b : List ℕ) (r : Result (Unit {0}) E) → Gives before (32 ∷ []) mid → WritesText mid b now r → WritesText before (32 ∷ b) now r
blank_first before mid now b r h k = both_written before mid now (32 ∷ []) b r h k

pub blank_part : (before now : Option (List ℕ)) (b : List ℕ) → GivesPart before (32 ∷ []) now → GivesPart before (32 ∷ b) now
blank_part before now b h = part_before before now (32 ∷ []) b h

pub ruleset text_laws = (blank_first, blank_part)
