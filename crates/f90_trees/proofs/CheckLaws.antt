-- What each part of a list does to the stack that the code holds, while it looks at calls.
use Rattle.std.proofs.Common.{◌≡◌, ℕ, true, false, List, ◌∷◌, ap, sym, ◌∙◌, Option, Some, None, map}
use Rattle.std.proofs.lemmas.Bool.{cond-true, cond-false}
use Rattle.tree.specs.declared.functions.Intrinsic.{Intrinsic}
use Rattle.f90_trees.specs.Calls as calls
use Rattle.f90_trees.specs.Calls.{Shape, Other, Entry, Value, Part, Mark, Turn, with_value, with_two, with_turn, with_mark, enclosed, infixed, single, bounded, strided, turned, turned_round, looped, listed, counted, suits}
use Rattle.f90_trees.specs.CallViews.{shape_seen, part_seen}
use Rattle.f90_trees.specs.declared.calls.Shape as code

abbrev value : code.Shape → Entry
value s = Value (shape_seen s)

abbrev IsTwo : List Entry → List Entry → Type 0
IsTwo old new = (on : List Entry → Option (List Entry)) → with_two old on ≡ on new

pub two_some : (b a : code.Shape) (old mid new : List Entry) → old ≡ value b ∷ mid → mid ≡ value a ∷ new
    → (on : List Entry → Option (List Entry)) → with_two old on ≡ on new
two_some b a old mid new h k on = ap (λ (q : List Entry). with_two q on) (h ∙ ap (λ (q : List Entry). value b ∷ q) k)

pub two_none : (b : code.Shape) (old mid : List Entry) → old ≡ value b ∷ mid → ((on : Shape → List Entry → Option (List Entry)) → with_value mid on ≡ None)
    → (on : List Entry → Option (List Entry)) → with_two old on ≡ None
two_none b old mid h n on = ap (λ (q : List Entry). with_two q on) h ∙ n (λ a under. on under)

pub enclosed_is : (s : code.Shape) (old mid new : List Entry) → old ≡ value s ∷ mid → new ≡ Value Other ∷ mid → enclosed old ≡ Some new
enclosed_is s old mid new h n = ap enclosed h ∙ ap (λ (q : List Entry). Some q) (sym n)

pub infixed_is : (old mid new : List Entry) → ((on : List Entry → Option (List Entry)) → with_two old on ≡ on mid) → new ≡ Value Other ∷ mid → infixed old ≡ Some new
infixed_is old mid new h n = h (λ under. Some (Value Other ∷ under)) ∙ ap (λ (q : List Entry). Some q) (sym n)

pub single_is : (s : code.Shape) (old mid new : List Entry) → old ≡ value s ∷ mid → new ≡ Part (Some (shape_seen s)) ∷ mid → single old ≡ Some new
single_is s old mid new h n = ap single h ∙ ap (λ (q : List Entry). Some q) (sym n)

pub bounded_is : (old mid new : List Entry) → ((on : List Entry → Option (List Entry)) → with_two old on ≡ on mid) → new ≡ Part None ∷ mid → bounded old ≡ Some new
bounded_is old mid new h n = h (λ under. Some (Part None ∷ under)) ∙ ap (λ (q : List Entry). Some q) (sym n)

pub strided_is : (s : code.Shape) (old mid under new : List Entry) → old ≡ value s ∷ mid → ((on : List Entry → Option (List Entry)) → with_two mid on ≡ on under)
    → new ≡ Part None ∷ under → strided old ≡ Some new
strided_is s old mid under new h k n = ap strided h ∙ (k (λ q. Some (Part None ∷ q)) ∙ ap (λ (q : List Entry). Some q) (sym n))

pub strided_none : (s : code.Shape) (old mid : List Entry) → old ≡ value s ∷ mid → ((on : List Entry → Option (List Entry)) → with_two mid on ≡ None) → strided old ≡ None
strided_none s old mid h n = ap strided h ∙ n (λ q. Some (Part None ∷ q))

pub turned_is : (s : code.Shape) (old mid under new : List Entry) → ((on : List Entry → Option (List Entry)) → with_two old on ≡ on mid) → mid ≡ value s ∷ under
    → new ≡ Turn ∷ under → turned old ≡ Some new
turned_is s old mid under new h k n =
    h (λ more. with_value more (λ q under. Some (Turn ∷ under)))
    ∙ (ap (λ (q : List Entry). with_value q (λ r under. Some (Turn ∷ under))) k ∙ ap (λ (q : List Entry). Some q) (sym n))

pub turned_none : (old mid : List Entry) → ((on : List Entry → Option (List Entry)) → with_two old on ≡ on mid)
    → ((on : Shape → List Entry → Option (List Entry)) → with_value mid on ≡ None) → turned old ≡ None
turned_none old mid h n = h (λ more. with_value more (λ q under. Some (Turn ∷ under))) ∙ n (λ q under. Some (Turn ∷ under))

pub turned_round_is : (old mid under new : List Entry) → ((on : List Entry → Option (List Entry)) → with_two old on ≡ on mid) → mid ≡ Turn ∷ under
    → new ≡ Turn ∷ under → turned_round old ≡ Some new
turned_round_is old mid under new h k n =
    h (λ more. with_turn more (λ under. Some (Turn ∷ under)))
    ∙ (ap (λ (q : List Entry). with_turn q (λ under. Some (Turn ∷ under))) k ∙ ap (λ (q : List Entry). Some q) (sym n))

pub turned_round_none : (old mid : List Entry) → ((on : List Entry → Option (List Entry)) → with_two old on ≡ on mid)
    → ((on : List Entry → Option (List Entry)) → with_turn mid on ≡ None) → turned_round old ≡ None
turned_round_none old mid h n = h (λ more. with_turn more (λ under. Some (Turn ∷ under))) ∙ n (λ under. Some (Turn ∷ under))

pub looped_is : (old mid under new : List Entry) → old ≡ Turn ∷ mid → mid ≡ Mark ∷ under → new ≡ Value Other ∷ under → looped old ≡ Some new
looped_is old mid under new h k n = ap looped (h ∙ ap (λ (q : List Entry). Turn ∷ q) k) ∙ ap (λ (q : List Entry). Some q) (sym n)

pub looped_none : (old mid : List Entry) → old ≡ Turn ∷ mid → ((on : List Entry → Option (List Entry)) → with_mark mid on ≡ None) → looped old ≡ None
looped_none old mid h n = ap looped h ∙ n (λ under. Some (Value Other ∷ under))

pub counted_is : (n : ℕ) (o : Option calls.Count) (under new : List Entry) → o ≡ Some (record { count = n; under = under }) → new ≡ Value (calls.Listing n) ∷ under
    → counted o ≡ Some new
counted_is n o under new h k = ap counted h ∙ ap (λ (q : List Entry). Some q) (sym k)

pub listed_is : (f : Option Intrinsic) (parts : List (Option code.Shape)) (o : Option calls.Parts) (under new : List Entry)
    → o ≡ Some (record { parts = map part_seen parts; under = under }) → suits f (map part_seen parts) ≡ true → new ≡ Value Other ∷ under → listed f o ≡ Some new
listed_is f parts o under new h s n =
    ap (listed f) h ∙ (cond-true (suits f (map part_seen parts)) (Some (Value Other ∷ under)) None s ∙ ap (λ (q : List Entry). Some q) (sym n))

pub listed_none : (f : Option Intrinsic) (parts : List (Option code.Shape)) (o : Option calls.Parts) (under : List Entry)
    → o ≡ Some (record { parts = map part_seen parts; under = under }) → suits f (map part_seen parts) ≡ false → listed f o ≡ None
listed_none f parts o under h s = ap (listed f) h ∙ cond-false (suits f (map part_seen parts)) (Some (Value Other ∷ under)) None s

pub ruleset steps = (two_some, two_none, enclosed_is, infixed_is, single_is, bounded_is, strided_is, strided_none, turned_is, turned_none, turned_round_is, turned_round_none, looped_is, looped_none, counted_is, listed_is, listed_none)
