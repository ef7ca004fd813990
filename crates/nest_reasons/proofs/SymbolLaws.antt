-- Sets of names.
use Rattle.std.proofs.Common.{◌≡◌, ℕ, List, []}
use Rattle.std.specs.List.{list_any}
use Rattle.std.specs.Str.{bytes_eq}
use Rattle.std.proofs.lemmas.Slice.Eq.{bytes_eq-Decides}
use Rattle.indexmap.specs.IndexSet.{insert_all}
use Rattle.nest_reasons.proofs.Sets as sets

-- whether a name is in the set of names
pub among-insert_all : (x : List ℕ) (ns : List (List ℕ)) → list_any (bytes_eq x) (insert_all bytes_eq [] ns) ≡ list_any (bytes_eq x) ns
among-insert_all x ns = sets.among-insert_all bytes_eq (λ y z. (bytes_eq-Decides y z).0) x ns

pub ruleset symbol_laws = (among-insert_all)
