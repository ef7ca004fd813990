-- What is written to a sink, as a run writes it.
use Rattle.std.proofs.Common.{◌≡◌, refl, sym, ap, ◌∙◌, subst, ℕ, List, [], ◌∷◌, ◌++◌, take, drop, get_or, length, ◌+◌, ◌<◌, Result, Ok, Err, Option, Some, append_assoc, append-nil}
use Rattle.std.proofs.lemmas.List.{take_more, take-append-drop, drop_more}
use Rattle.streams.specs.Streams.{Gives, GivesPart}
use Rattle.streams.specs.declared.errors.WriteFault.{WriteFault}
use Rattle.streams.proofs.Chained.{gives_more, part_after, part_before}
use Rattle.tree.specs.Plain as P
use Rattle.tree.specs.declared.ops.Value.{Value}
use Rattle.meaning.specs.Dialect.{Dialect}
use Rattle.meaning.specs.Value.{item_values}
use Rattle.meaning.specs.Texts.{output_text, value_text}
use Rattle.meaning.specs.Run.{writes}
use Rattle.machine.specs.Moments.{Seen}
use Rattle.machine.specs.declared.progress.Halt.{Halt}
use Rattle.machine.specs.declared.progress.Left.{Left}
use Rattle.machine.specs.declared.progress.Left.TheVariants.{Halted, Unwritten}
use Rattle.machine.specs.Moments.{located}
use Rattle.machine.specs.Acts.{LimitedAct, Runs}
use Rattle.machine.specs.Texts.{WritesText}
use Rattle.machine.specs.Printing.{prints_value}
use Rattle.meaning.specs.Run.{State}
use Rattle.std.proofs.Common.{arith}
use Rattle.machine.proofs.ActLaws.{Runs-evaluates, Runs-fault, at_same, begun, steady}

-- a write that failed leaves the run
abbrev pub left_by : Result (Unit {0}) WriteFault → Result (Unit {0}) Left
left_by (Ok x) = Ok x
left_by (Err e) = Err Unwritten

pub Runs-writes : (text input : List ℕ) (m : Seen) (before now : Option (List ℕ)) (r : Result (Unit {0}) WriteFault) → WritesText before text now r
    → Runs (λ limit. writes text) input m before m now (left_by r)
unfolding Runs writes
Runs-writes text input m before now (Ok x) h names limit base s d b =
    let at = begun (λ s. record s { written = s.written ++ text }) s d.way_is in (
      at_same names limit input base m now (Ok x) at
          (record {
            stands = record { names_are = d.names_are; store = d.store; input_left = d.input_left; had_value = d.had_value; steps = d.steps; way_is = d.way_is };
            taken = gives_more base before now s.written text b h;
          }),
      steady (writes text) limit s (ap (λ (t : State). t.steps) at),
    )
Runs-writes text input m before now (Err e) h names limit base s d b =
    let at = begun (λ s. record s { written = s.written ++ text }) s d.way_is in (
      at_same names limit input base m now (Err Unwritten) at
          (record {
            names_are = d.names_are;
            front = s.written ++ h.0;
            rest = h.1;
            whole = ap (λ t. s.written ++ t) h.2 ∙ sym (append_assoc s.written h.0 h.1);
            taken = gives_more base before now s.written h.0 b h.3;
          }),
      record {
        count = s.steps;
        later = omega arith;
        within = λ q. q;
        steps = ap (λ (t : State). t.steps) at;
        set = [];
        store = ap (λ (t : State). t.store) at ∙ d.store;
        part = s.written ++ h.0;
        more = h.1;
        text = ap (λ (t : State). t.written) at ∙ ap (λ t. s.written ++ t) h.2 ∙ sym (append_assoc s.written h.0 h.1);
        taken = gives_more base before now s.written h.0 b h.3;
      },
    )

-- where all was written, and not sent, the run is left too
pub Runs-unsent : (act : LimitedAct) (input : List ℕ) (old new : Seen) (before now : Option (List ℕ)) → Runs act input old before new now (Ok tt)
    → Runs act input old before new now (Err Unwritten)
unfolding Runs
Runs-unsent act input old new before now h names limit base s d b =
    let q = h names limit base s d b in
    let t = act limit s in
    let same : act (Some t.steps) s ≡ t = q.1.same t.steps (omega arith) in (
      record { names_are = q.0.stands.names_are; front = t.written; rest = []; whole = sym (append-nil t.written); taken = q.0.taken },
      record {
        count = t.steps;
        later = q.1.later;
        within = q.1.within;
        steps = ap (λ (t : State). t.steps) same;
        set = [];
        store = ap (λ (t : State). t.store) same ∙ q.0.stands.store;
        part = t.written;
        more = [];
        text = ap (λ (t : State). t.written) same ∙ sym (append-nil t.written);
        taken = q.0.taken;
      },
    )

-- ---- values

output_append : (xs ys : List Value) → output_text (xs ++ ys) ≡ output_text xs ++ output_text ys
output_append [] ys = refl
output_append (x ∷ xs) ys = ap (λ t. 32 ∷ (value_text x ++ t)) (output_append xs ys) ∙ ap (λ t. 32 ∷ t) (sym (append_assoc (value_text x) (output_text xs) (output_text ys)))

output_one : (v : Value) → output_text (v ∷ []) ≡ 32 ∷ value_text v
output_one v = ap (λ t. 32 ∷ t) (append-nil (value_text v))

-- the values before a place, and the one there
pub outputs_more : (vs : List Value) (i : ℕ) (v : Value) (before mid now : Option (List ℕ)) → i < length vs → v ≡ get_or vs i v
    → Gives before (output_text (take i vs)) mid → Gives mid (32 ∷ value_text v) now → Gives before (output_text (take (i + 1) vs)) now
outputs_more vs i v before mid now l e h k =
    subst (λ t. Gives before t now)
    (sym (ap output_text (take_more vs i v l ∙ ap (λ w. take i vs ++ w ∷ []) (sym e)) ∙ output_append (take i vs) (v ∷ []) ∙ ap (λ t. output_text (take i vs) ++ t) (output_one v)))
    (gives_more before mid now (output_text (take i vs)) (32 ∷ value_text v) h k)

pub outputs_part : (vs : List Value) (i : ℕ) (v : Value) (before mid now : Option (List ℕ)) → i < length vs → v ≡ get_or vs i v
    → Gives before (output_text (take i vs)) mid → GivesPart mid (32 ∷ value_text v) now → GivesPart before (output_text vs) now
outputs_part vs i v before mid now l e h k =
    let rest = drop (i + 1) vs in
    let split : vs ≡ take i vs ++ ((v ∷ []) ++ rest) = sym (take-append-drop i vs) ∙ ap (λ ws. take i vs ++ ws) (drop_more vs i v l ∙ ap (λ w. w ∷ rest) (sym e)) in
    subst (λ t. GivesPart before t now)
    (sym (ap output_text split ∙ output_append (take i vs) ((v ∷ []) ++ rest) ∙ ap (λ t. output_text (take i vs) ++ t) (output_append (v ∷ []) rest ∙ ap (λ t. t ++ output_text rest) (output_one v))))
    (part_after before mid now (output_text (take i vs)) ((32 ∷ value_text v) ++ output_text rest) h (part_before mid now (32 ∷ value_text v) (output_text rest) k))

-- ---- a value of a list

module _ (lang : Dialect) (line : ℕ) (e : P.Expression) (input : List ℕ) (m : Seen) (before now : Option (List ℕ)) where
  pub prints_values : (vs : List Value) (r : Result (Unit {0}) WriteFault) → Ok vs ≡ located line (item_values lang e m.store) → WritesText before (output_text vs) now r
      → Runs (λ limit. prints_value lang line e) input m before m now (left_by r)
  prints_values vs r h w = Runs-evaluates line (item_values lang e) vs (λ vs limit. writes (output_text vs)) input m m before now (left_by r) h (Runs-writes (output_text vs) input m before now r w)

  pub prints_fault : (h : Halt) → Err h ≡ located line (item_values lang e m.store) → Runs (λ limit. prints_value lang line e) input m now m now (Err (Halted h))
  prints_fault h e' = Runs-fault line (item_values lang e) h (λ vs limit. writes (output_text vs)) input m now e'

-- with the value's own text
pub one_written : (v : Value) (before now : Option (List ℕ)) (r : Result (Unit {0}) WriteFault) → WritesText before (32 ∷ value_text v) now r → WritesText before (output_text (v ∷ [])) now r
one_written v before now r h = subst (λ t. WritesText before t now r) (sym (output_one v)) h

pub ruleset value_laws = (prints_values, prints_fault, one_written)
