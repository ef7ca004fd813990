-- The statements of a text with the labels of its loops: as many, on the same lines, and source statements where those
-- of the text are.
use Rattle.std.proofs.Common.{◌≡◌, ℕ, suc, ◌+◌, ◌-◌, ◌^◌, ◌<◌, ◌==◌, List, [], ◌∷◌, length, Bool, true, false, Option, None, Some, refl, ap, arith}
use Rattle.std.specs.Prelude.{if◌then◌else◌}
use Rattle.std.specs.Option.{IfSome}
use Rattle.std.specs.List.{AllByRecursion}
use Rattle.std.proofs.Math.Nat.{min-le_right}
use Rattle.f77_grammar.specs.Statement77.{Statement77, Labelled, Do, EndDo}
use Rattle.f77_grammar.specs.program.Text.{bears}
use Rattle.f77_grammar.specs.program.EndDo.{without_bearer, without_closer, waiting_with, waiting, end_label, proper, closer_label, with_loop_label, label_of_end, with_labels, with_loop_labels}
use Rattle.f77_laws.specs.Source.{IsSourceLabel, IsLoopLabel, IsLabelOf, IsSourceStatement, IsSourceCard, AreRising}

-- ---- lines and numbers

later : (n : ℕ) (xs : List Labelled) → AllByRecursion (λ (y : Labelled). n < y.line) xs → AllByRecursion (λ (y : Labelled). n < y.line) (with_loop_labels xs)
later n [] h = tt
later n (x ∷ xs) h = (h.0, later n xs h.1)

pub labelled_rise : (xs : List Labelled) → AreRising xs → AreRising (with_loop_labels xs)
labelled_rise [] h = tt
labelled_rise (x ∷ xs) h = (later x.line xs h.0, labelled_rise xs h.1)

pub labelled_length : (xs : List Labelled) → length (with_loop_labels xs) ≡ length xs
labelled_length [] = refl
labelled_length (x ∷ xs) = ap suc (labelled_length xs)

-- ---- what waits is of the text

bearer_all : (P : Labelled → Type 0) (n : ℕ) (xs : List Labelled) → AllByRecursion P xs → AllByRecursion P (without_bearer n xs)
bearer_all P n [] h = tt
bearer_all P n (x ∷ xs) h = by (bears n x) (bearer_all P n xs h.1)
  where
    by : (b : Bool) → AllByRecursion P (without_bearer n xs) → AllByRecursion P (if b then xs else x ∷ without_bearer n xs)
    by true k = h.1
    by false k = (h.0, k)

closer_all : (P : Labelled → Type 0) (label : Option ℕ) (ends : List Labelled) → AllByRecursion P ends → AllByRecursion P (without_closer label ends)
closer_all P None [] h = tt
closer_all P None (x ∷ xs) h = h.1
closer_all P (Some n) ends h = bearer_all P n ends h

with_all : (P : Labelled → Type 0) (s : Statement77) (x : Labelled) (ends : List Labelled) → P x → AllByRecursion P ends → AllByRecursion P (waiting_with s x ends)
with_all P EndDo x ends h k = (h, k)
with_all P (Do label v a b c) x ends h k = closer_all P label ends k
with_all P s x ends h k = k

pub waiting_all : (P : Labelled → Type 0) (xs : List Labelled) → AllByRecursion P xs → AllByRecursion P (waiting xs)
waiting_all P [] h = tt
waiting_all P (x ∷ xs) h = with_all P x.statement x (waiting xs) h.0 (waiting_all P xs h.1)

-- ---- labels

abbrev IsWritten : Labelled → Type 0
IsWritten x = IfSome x.label IsSourceLabel

end_small : (l : Option ℕ) (line : ℕ) → IfSome l IsSourceLabel → IsLoopLabel (end_label l line)
end_small None line h = let m = min-le_right (100000 + line) (2 ^ 32 - 1) in omega (arith, m)
end_small (Some n) line h = omega (arith, h)

proper_small : (n : ℕ) → IsLoopLabel n → IfSome (proper n) IsLoopLabel
proper_small n h = by (n == 0)
  where
    by : (b : Bool) → IfSome (if b then None else Some n) IsLoopLabel
    by true = tt
    by false = h

closer_small : (ends : List Labelled) → AllByRecursion IsWritten ends → IfSome (closer_label ends) IsLoopLabel
closer_small [] h = tt
closer_small (x ∷ xs) h = proper_small (end_label x.label x.line) (end_small x.label x.line h.0)

label_kept : (s : Statement77) (l c : Option ℕ) (line : ℕ) → IfSome l IsSourceLabel → IfSome (label_of_end s l line) (IsLabelOf (with_loop_label s c))
label_kept EndDo l c line h = end_small l line h
label_kept (Do None v a b e) l c line h = h
label_kept (Do (Some n) v a b e) l c line h = h
label_kept s l c line h = h

statement_kept : (s : Statement77) (c : Option ℕ) → IfSome c IsLoopLabel → IsSourceStatement s → IsSourceStatement (with_loop_label s c)
statement_kept (Do None v a b e) c k h = (k, h.1, h.2, h.3, h.4)
statement_kept (Do (Some n) v a b e) c k h = h
statement_kept s c k h = h

-- ---- source statements

labelled_card : (x : Labelled) (c : Option ℕ) → IsSourceCard x → IsWritten x → IfSome c IsLoopLabel → IsSourceCard (with_labels x c)
labelled_card x c h l k = record {
  label = label_kept x.statement x.label c x.line l;
  line = h.line;
  statement = statement_kept x.statement c k h.statement;
}

pub labelled_cards : (xs : List Labelled) → AllByRecursion IsSourceCard xs → AllByRecursion (λ (x : Labelled). IfSome x.label IsSourceLabel) xs
    → AllByRecursion IsSourceCard (with_loop_labels xs)
labelled_cards [] h l = tt
labelled_cards (x ∷ xs) h l = (
  labelled_card x (closer_label (waiting xs)) h.0 l.0 (closer_small (waiting xs) (waiting_all IsWritten xs l.1)),
  labelled_cards xs h.1 l.1,
)
