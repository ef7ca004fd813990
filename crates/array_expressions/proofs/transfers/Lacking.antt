-- READ and PRINT for which there was no memory.
use Rattle.std.proofs.Common.{◌≡◌, refl, sym, ap, ◌∙◌, subst, ℕ, ◌+◌, ◌<◌, List, [], ◌++◌, drop, get_or, true, length, Result, Ok, Err, Option, Some, append-nil}
use Rattle.std.proofs.lemmas.List.{at_drop_more}
use Rattle.tree.specs.declared.ops.Value.{Value}
use Rattle.tree.specs.declared.ops.Fault.{Fault}
use Rattle.tree.specs.declared.stmts.Item.{Item}
use Rattle.tree.specs.View.{item_of, reference_of}
use Rattle.tree.specs.declared.exprs.Ref.{Ref, out-Ref}
use Rattle.tree.specs.Plain as P
use Rattle.tree.specs.Plain.{Expression, Number, Logic, Named, Unary, Binary, Apply, Constructor, Spread, Transpose, Reshape, Reduce, Single, Constant, ImpliedDo, Reference, Subscripts}
use Rattle.meaning.specs.Dialect.{Dialect, fortran90}
use Rattle.tree.specs.declared.width.Width.{Width}
use Rattle.meaning.specs.Store.{Store, Cell}
use Rattle.meaning.specs.Texts.{from_value, first_word, after_word, after_line, read_value, output_text}
use Rattle.meaning.specs.Value.{item_cells, cells_named, cell_named}
use Rattle.meaning.specs.Run.{State, Failed, answered, for_each, evaluates, stores, counts_step, checks_range, takes_word, skips_line, writes, reads_into, reads_item, reads_items, loops}
use Rattle.machine.specs.Moments.{Seen}
use Rattle.machine.specs.declared.progress.Left.{Left}
use Rattle.machine.specs.declared.progress.Left.TheVariants.{Unwritten}
use Rattle.array_expressions.specs.declared.transfers.unfinished.Unfinished.{Unfinished}
use Rattle.array_expressions.specs.declared.transfers.unfinished.Unfinished.TheVariants.{Left as Left'}
use Rattle.array_expressions.specs.transfers.Unfinished.{unfinished_by, left_at}
use Rattle.machine.specs.Acts.{LimitedAct, Runs}
use Rattle.machine.specs.Printing.{plain_items}
use Rattle.machine.specs.Reading.{reads_cells}
use Rattle.machine.proofs.ActLaws.{Idle, Extends, at_same, elsewhere_same, begun}
use Rattle.machine.proofs.TurnLaws.{Runs-left, Extends-then, Extends-writes}
use Rattle.machine.proofs.ReadLaws.{Stays-reads_items, left_of_items, element_missing}
use Rattle.array_values.specs.declared.storage.slots.Slot.{Slot}
use Rattle.array_expressions.specs.assignments.Placing.{FindsAt}
use Rattle.array_expressions.specs.declared.assignments.causes.Stuck.{Stuck}
use Rattle.array_expressions.specs.declared.assignments.causes.Stuck.TheVariants.{Halted, Memory}
use Rattle.array_expressions.specs.assignments.Causes.{left_by}
use Rattle.array_expressions.specs.assignments.Loops.{BeginsLoop}
use Rattle.array_expressions.proofs.assignments.Lacking.{Runs-lacking, Extends-nothing, Extends-goes, Extends-while_going, Extends-evaluates, Extends-checked, Extends-for_each, Extends-loops}

-- ---- acts of READ take back nothing that was written

Extends-answered : (line : ℕ) (k : List ℕ → LimitedAct) → ((w : List ℕ) → Extends (k w)) → Extends (λ limit s. answered line (from_value s.had_value s.input) (λ rest t. k (first_word rest) limit (record t { input = after_word rest; had_value = true })) s)
Extends-answered line k h = record { adds = λ limit s. adds limit s (from_value s.had_value s.input); idles = λ s. idles s (from_value s.had_value s.input) }
  where
    adds : (limit : Option ℕ) (s : State) (q : Result (List ℕ) Fault) → (more : List ℕ) × ((answered line q (λ rest t. k (first_word rest) limit (record t { input = after_word rest; had_value = true })) s).written ≡ s.written ++ more)
    adds limit s (Ok rest) = (h (first_word rest)).adds limit (record s { input = after_word rest; had_value = true })
    adds limit s (Err f) = (Extends-goes (Failed f line)).adds limit s

    idles : (s : State) (q : Result (List ℕ) Fault) → Idle s (answered line q (λ rest t. k (first_word rest) (Some s.steps) (record t { input = after_word rest; had_value = true })) s)
    idles s (Ok rest) = (let i = (h (first_word rest)).idles (record s { input = after_word rest; had_value = true }) in record { steps = i.steps; set = i.set; store = i.store; more = i.more; text = i.text })
    idles s (Err f) = (Extends-goes (Failed f line)).idles s

Extends-takes_word : (line : ℕ) (k : List ℕ → LimitedAct) → ((w : List ℕ) → Extends (k w)) → Extends (λ limit. takes_word line (λ w. k w limit))
unfolding takes_word
Extends-takes_word line k h = Extends-while_going (λ limit s. answered line (from_value s.had_value s.input) (λ rest t. k (first_word rest) limit (record t { input = after_word rest; had_value = true })) s) (Extends-answered line k h)

Extends-reads_into : (lang : Dialect) (line : ℕ) (c : Cell) → Extends (λ limit. reads_into lang limit line c)
Extends-reads_into lang line c = Extends-takes_word line (λ w limit. evaluates line (λ s. read_value (s.held c) w) (λ v. checks_range lang limit line v (counts_step lang limit (stores c v))))
    (λ w. Extends-evaluates line (λ s. read_value (s.held c) w) (λ v limit. checks_range lang limit line v (counts_step lang limit (stores c v))) (λ v. Extends-checked lang line c v))

pub Extends-cells : (lang : Dialect) (line : ℕ) (f : Store → Result (List Cell) Fault) → Extends (λ limit. evaluates line f (λ cs. for_each cs (reads_into lang limit line)))
Extends-cells lang line f = Extends-evaluates line f (λ cs limit. for_each cs (reads_into lang limit line))
    (λ cs. Extends-for_each cs (λ c limit. reads_into lang limit line c) (λ c. Extends-reads_into lang line c))

mutual
  Extends-reads_item : (lang : Dialect) (i : P.Item) (line : ℕ) → Extends (λ limit. reads_item lang limit i line)
  Extends-reads_item lang (Single (Number z)) line = Extends-nothing
  Extends-reads_item lang (Single (Logic b)) line = Extends-nothing
  Extends-reads_item lang (Single (Named x ps)) line = Extends-cells lang line (item_cells lang x ps)
  Extends-reads_item lang (Single (Unary o a)) line = Extends-nothing
  Extends-reads_item lang (Single (Binary o a b)) line = Extends-nothing
  Extends-reads_item lang (Single (Apply f es)) line = Extends-nothing
  Extends-reads_item lang (Single (Constructor es ls)) line = Extends-nothing
  Extends-reads_item lang (Single (Spread a k e)) line = Extends-nothing
  Extends-reads_item lang (Single (Transpose a)) line = Extends-nothing
  Extends-reads_item lang (Single (Reshape a es)) line = Extends-nothing
  Extends-reads_item lang (Single (Reduce r a)) line = Extends-nothing
  Extends-reads_item lang (Constant t) line = Extends-nothing
  Extends-reads_item lang (ImpliedDo is x a b c) line = Extends-loops lang line x a b c (λ limit. reads_items lang limit is line) (Extends-reads_items lang is line)

  pub Extends-reads_items : (lang : Dialect) (is : P.Items) (line : ℕ) → Extends (λ limit. reads_items lang limit is line)
  Extends-reads_items lang P.no_items line = Extends-nothing
  Extends-reads_items lang (P.item i is) line = Extends-then (λ limit. reads_item lang limit i line) (λ limit. reads_items lang limit is line) (Extends-reads_item lang i line) (Extends-reads_items lang is line)

pub Extends-skips_line : Extends (λ limit. skips_line)
unfolding skips_line
Extends-skips_line = Extends-while_going (λ limit s. record s { input = after_line s.input })
    (record { adds = λ limit s. ([], sym (append-nil s.written)); idles = λ s. record { steps = refl; set = []; store = refl; more = []; text = sym (append-nil s.written) } })

pub Extends-written : (line : ℕ) (f : Store → Result (List Value) Fault) → Extends (λ limit. evaluates line f (λ vs. writes (output_text vs)))
Extends-written line f = Extends-evaluates line f (λ vs limit. writes (output_text vs)) (λ vs. Extends-writes (output_text vs))

-- ---- where an item isn't read to its end

pub reading_stuck : (lang : Dialect) (line : ℕ) (xs : List Item) (i : ℕ) (x : Item) → i < length xs → x ≡ get_or xs i x → (input : List ℕ) (old mid : Seen) (bytes : Option (List ℕ)) (left : Left)
    → Runs (λ limit. reads_item lang limit (item_of x) line) input old bytes mid bytes (Err left) → Runs (left_of_items lang line (drop i xs)) input old bytes mid bytes (Err left)
reading_stuck lang line xs i x within is input old mid bytes left h =
    subst (λ is. Runs (λ limit. reads_items lang limit is line) input old bytes mid bytes (Err left))
    (sym (at_drop_more plain_items xs i x within ∙ ap (λ y. P.item (item_of y) (plain_items (drop (i + 1) xs))) (sym is)))
    (Runs-left (λ limit. reads_item lang limit (item_of x) line) (left_of_items lang line (drop (i + 1) xs)) input old mid bytes bytes left h
    (Stays-reads_items lang (plain_items (drop (i + 1) xs)) line) (Extends-reads_items lang (plain_items (drop (i + 1) xs)) line))

-- a loop that isn't begun
pub begins_stuck : (width : Width) (line : ℕ) (x : List ℕ) (a b c : Expression) (old new : Seen) (e : Stuck) → BeginsLoop width line x a b c old new (Err e) → (body : LimitedAct) (input : List ℕ) (bytes : Option (List ℕ)) → Extends body
    → Runs (λ limit. loops (fortran90 width) limit line x a b c (body limit)) input old bytes new bytes (Err (left_by e))
unfolding BeginsLoop
begins_stuck width line x a b c old new (Halted h) s body input bytes e = s body input bytes
begins_stuck width line x a b c old new Memory s body input bytes e = s body input bytes e

-- the same question
pub Runs-asks : {A : Type 0} (line : ℕ) (f g : Store → Result A Fault) (k : A → LimitedAct) (input : List ℕ) (old new : Seen) (before now : Option (List ℕ)) (r : Result (Unit {0}) Left) → g old.store ≡ f old.store
    → Runs (λ limit. evaluates line f (λ x. k x limit)) input old before new now r → Runs (λ limit. evaluates line g (λ x. k x limit)) input old before new now r
unfolding Runs evaluates
Runs-asks line f g k input old new before now r e h names limit base s d b =
    let same : (l : Option ℕ) → evaluates line g (λ x. k x l) s ≡ evaluates line f (λ x. k x l) s = λ l.
    begun (λ s. answered line (g s.store) (λ x. k x l) s) s d.way_is
    ∙ ap (λ q. answered line q (λ x. k x l) s) (ap g d.store ∙ e ∙ sym (ap f d.store))
    ∙ sym (begun (λ s. answered line (f s.store) (λ x. k x l) s) s d.way_is) in
    let q = h names limit base s d b in
    (at_same names limit input base new now r (same limit) q.0, elsewhere_same base new now r (λ l. evaluates line f (λ x. k x l)) (λ l. evaluates line g (λ x. k x l)) limit s same q.1)

-- an element that isn't found
pub element_stuck : (width : Width) (vs : List Slot) (line : ℕ) (r : Ref) (input : List ℕ) (old : Seen) (bytes : Option (List ℕ)) → ((out-Ref r).subs ≡ [] → ⊥) → (e : Stuck) → FindsAt line vs (cell_named (fortran90 width) (reference_of r) old.store) (Err e)
    → Runs (λ limit. reads_cells (fortran90 width) limit line (reference_of r)) input old bytes old bytes (Err (left_by e))
element_stuck width vs line r input old bytes some (Halted h) f = element_missing (fortran90 width) r input line old bytes some h f
element_stuck width vs line r input old bytes some Memory f = Runs-lacking (λ limit. reads_cells (fortran90 width) limit line (reference_of r)) input old old bytes (Extends-cells (fortran90 width) line (cells_named (fortran90 width) (reference_of r))) refl refl

-- ---- why a PRINT isn't done to its end

same_left : (e : Stuck) → left_by e ≡ left_at (unfinished_by e)
same_left (Halted h) = refl
same_left Memory = refl

-- the same cause
pub left_so : (act : LimitedAct) (input : List ℕ) (old new : Seen) (before now : Option (List ℕ)) (e : Stuck) → Runs act input old before new now (Err (left_by e)) → Runs act input old before new now (Err (left_at (unfinished_by e)))
left_so act input old new before now e h = subst (λ l. Runs act input old before new now (Err l)) (same_left e) h

not_unwritten : (e : Stuck) → unfinished_by e ≡ Left' Unwritten → ⊥
not_unwritten (Halted h) e = cc
not_unwritten Memory e = cc

-- no write has failed
pub no_write : {A : Type 0} (r : Result A Unfinished) (e : Stuck) → r ≡ Err (unfinished_by e) → r ≡ Err (Left' Unwritten) → ⊥
no_write r e f g = (let both : ◌≡◌ {A = Result _ Unfinished} (Err (unfinished_by e)) (Err (Left' Unwritten)) = sym f ∙ g in not_unwritten e (let same : unfinished_by e ≡ Left' Unwritten = cc in same))
