-- Acts for which there was no memory.
use Rattle.std.proofs.Common.{◌≡◌, refl, sym, ap, ◌∙◌, subst, ℕ, Bool, true, false, List, [], ◌∷◌, Result, Ok, Err, Option, Some, append-nil, arith}
use Rattle.tree.specs.declared.ops.Value.{Value}
use Rattle.tree.specs.declared.ops.Fault.{Fault as Fault'}
use Rattle.tree.specs.declared.ops.Fault.TheVariants.{Overflow}
use Rattle.tree.specs.Plain.{Expression, Reference}
use Rattle.meaning.specs.Dialect.{Dialect}
use Rattle.meaning.specs.Store.{Store, Cell, put}
use Rattle.meaning.specs.Value.{value_of, cell_named, is_in_range, is_array}
use Rattle.meaning.specs.ArrayStatements.{writes_of}
use Rattle.meaning.specs.Run.{State, Way, Going, Jumping, Stopped, Failed, Cut, nothing, either, goes, on_way, while_going, for_each, evaluates, stores, counts_step, checks_range, assigns, array_assigns, stores_element, loops}
use Rattle.machine.specs.Moments.{Seen, located}
use Rattle.machine.specs.declared.progress.Left.{Left}
use Rattle.machine.specs.declared.progress.Left.TheVariants.{Unwritten}
use Rattle.machine.specs.Acts.{LimitedAct, Runs, all_set}
use Rattle.machine.proofs.ActLaws.{Idle, Extends, Runs-evaluates, Runs-fault, at_same, elsewhere_same}
use Rattle.std.specs.Prelude.{IfOk}
use Rattle.machine.specs.declared.progress.Halt.TheVariants.{Fault}
use Rattle.machine.proofs.IdleLaws.{idle_goes, Idles-nothing, Idles-evaluates, Idles-counts_step, Idles-loops}
use Rattle.machine.proofs.TurnLaws.{Adds-evaluates, Adds-counts_step, Adds-loops, Extends-then}
use Rattle.array_values.specs.declared.failure.Failure.{Failure}
use Rattle.array_values.specs.declared.failure.Failure.TheVariants as failure
use Rattle.array_values.specs.Answers.{Answers}
use Rattle.array_values.specs.declared.storage.slots.Slot.{Slot}
use Rattle.array_values.specs.declared.storage.storage.Storage.{Storage}
use Rattle.array_values.specs.storage.Stored.{store_in}
use Rattle.array_expressions.specs.declared.assignments.arrays.Plan.{Plan}
use Rattle.array_expressions.specs.assignments.Planning.{IsSound, Stores, Plans}
use Rattle.array_expressions.specs.declared.assignments.causes.Stuck.{Stuck}
use Rattle.array_expressions.specs.declared.assignments.causes.Stuck.TheVariants.{Halted, Memory}
use Rattle.array_expressions.specs.assignments.Causes.{at_line, left_by, AnswersAt}

-- nothing of an act is done
pub Runs-lacking : (act : LimitedAct) (input : List ℕ) (old new : Seen) (now : Option (List ℕ)) → Extends act → new.names ≡ old.names → new.store ≡ old.store
    → Runs act input old now new now (Err Unwritten)
unfolding Runs
Runs-lacking act input old new now e n st names limit base s d b =
    let more = e.adds limit s in
    let i : Idle s (act (Some s.steps) s) = e.idles s in (
      record { names_are = n ∙ d.names_are; front = s.written; rest = more.0; whole = more.1; taken = b },
      record {
        count = s.steps;
        later = omega arith;
        within = λ q. q;
        steps = i.steps;
        set = i.set;
        store = i.store ∙ ap (all_set i.set) (d.store ∙ sym st);
        part = s.written;
        more = i.more;
        text = i.text;
        taken = b;
      },
    )

-- ---- acts that take back nothing that was written

pub Extends-nothing : Extends (λ limit. nothing)
Extends-nothing = record { adds = λ limit s. ([], sym (append-nil s.written)); idles = Idles-nothing }

pub Extends-goes : (w : Way) → Extends (λ limit. goes w)
Extends-goes w = record { adds = λ limit s. ([], sym (append-nil s.written)); idles = λ s. idle_goes w s }

pub Extends-either : (b : Bool) (f g : LimitedAct) → Extends f → Extends g → Extends (λ limit. either b (f limit) (g limit))
Extends-either true f g h k = h
Extends-either false f g h k = k

Extends-on_way : (w : Way) (f : LimitedAct) → Extends f → Extends (λ limit. on_way w (f limit))
Extends-on_way Going f h = h
Extends-on_way (Jumping n) f h = Extends-nothing
Extends-on_way Stopped f h = Extends-nothing
Extends-on_way (Failed q line) f h = Extends-nothing
Extends-on_way Cut f h = Extends-nothing

pub Extends-while_going : (f : LimitedAct) → Extends f → Extends (λ limit. while_going (f limit))
unfolding while_going
Extends-while_going f h = record { adds = λ limit s. (Extends-on_way s.way f h).adds limit s; idles = λ s. (Extends-on_way s.way f h).idles s }

pub Extends-evaluates : {A : Type 0} (line : ℕ) (f : Store → Result A Fault') (k : A → LimitedAct) → ((x : A) → Extends (k x)) → Extends (λ limit. evaluates line f (λ x. k x limit))
Extends-evaluates line f k h = record { adds = λ limit. Adds-evaluates line f (λ x. k x limit) (λ x. (h x).adds limit); idles = Idles-evaluates line f k (λ x. (h x).idles) }

adds_stores : (c : Cell) (v : Value) (s : State) → (stores c v s).written ≡ s.written
unfolding stores while_going
adds_stores c v s = by s.way
  where
    by : (w : Way) → (on_way w (λ s. record s { store = put c v s.store }) s).written ≡ s.written
    by Going = refl
    by (Jumping n) = refl
    by Stopped = refl
    by (Failed q line) = refl
    by Cut = refl

pub Extends-stored : (lang : Dialect) (c : Cell) (v : Value) → Extends (λ limit. counts_step lang limit (stores c v))
Extends-stored lang c v = record {
  adds = λ limit. Adds-counts_step lang limit (stores c v) (λ s. ([], adds_stores c v s ∙ sym (append-nil s.written)));
  idles = Idles-counts_step lang (λ limit. stores c v);
}

pub Extends-checked : (lang : Dialect) (line : ℕ) (c : Cell) (v : Value) → Extends (λ limit. checks_range lang limit line v (counts_step lang limit (stores c v)))
unfolding checks_range
Extends-checked lang line c v = Extends-while_going (λ limit. either (is_in_range lang.bits v) (counts_step lang limit (stores c v)) (goes (Failed Overflow line)))
    (Extends-either (is_in_range lang.bits v) (λ limit. counts_step lang limit (stores c v)) (λ limit. goes (Failed Overflow line)) (Extends-stored lang c v) (Extends-goes (Failed Overflow line)))

pub Extends-for_each : {A : Type 0} (xs : List A) (f : A → LimitedAct) → ((x : A) → Extends (f x)) → Extends (λ limit. for_each xs (λ x. f x limit))
Extends-for_each [] f h = Extends-nothing
Extends-for_each (x ∷ xs) f h = Extends-then (f x) (λ limit. for_each xs (λ x. f x limit)) (h x) (Extends-for_each xs f h)

pub Extends-assigns : (lang : Dialect) (line : ℕ) (left : Reference) (right : Expression) → Extends (λ limit. assigns lang limit line left right)
Extends-assigns lang line left right = Extends-evaluates line (value_of lang right)
    (λ v limit. evaluates line (cell_named lang left) (λ c. checks_range lang limit line v (counts_step lang limit (stores c v))))
    (λ v. Extends-evaluates line (cell_named lang left) (λ c limit. checks_range lang limit line v (counts_step lang limit (stores c v))) (λ c. Extends-checked lang line c v))

pub Extends-array_assigns : (lang : Dialect) (line : ℕ) (mask : Expression) (left : Reference) (right : Expression) → Extends (λ limit. array_assigns lang limit line mask left right)
Extends-array_assigns lang line mask left right = Extends-evaluates line (writes_of lang mask left right) (λ ws limit. for_each ws (stores_element lang limit))
    (λ ws. Extends-for_each ws (λ w limit. stores_element lang limit w) (λ w. Extends-stored lang w.0 w.1))

pub Extends-loops : (lang : Dialect) (line : ℕ) (x : List ℕ) (a b c : Expression) (body : LimitedAct) → Extends body → Extends (λ limit. loops lang limit line x a b c (body limit))
Extends-loops lang line x a b c body h = record { adds = λ limit. Adds-loops lang limit line x a b c (body limit) (h.adds limit); idles = Idles-loops lang line x a b c body }

-- ---- questions about the store

-- an answer at a line
pub asked : {A B : Type 0} (line : ℕ) (view : B → A) (q : Result A Fault') (r : Result B Failure) (x : Result B Stuck) → x ≡ at_line line r → Answers view q r → AnswersAt line view q x
asked line view q (Ok y) x e h = subst (AnswersAt line view q) (sym e) h
asked line view q (Err (failure.Fault f)) x e h = subst (AnswersAt line view q) (sym e) (sym (ap (located line) h))
asked line view q (Err failure.Memory) x e h = subst (AnswersAt line view q) (sym e) tt

module _ {A B : Type 0} (line : ℕ) (view : B → A) (f : Store → Result A Fault') (k : A → LimitedAct) (input : List ℕ) (old : Seen) where
  pub Runs-answers : (y : B) (new : Seen) (before now : Option (List ℕ)) (r : Result (Unit {0}) Left) → AnswersAt line view (f old.store) (Ok y) → Runs (k (view y)) input old before new now r
      → Runs (λ limit. evaluates line f (λ x. k x limit)) input old before new now r
  Runs-answers y new before now r a h = Runs-evaluates line f (view y) k input old new before now r (sym (ap (located line) a)) h

  pub Runs-stuck : (e : Stuck) (now : Option (List ℕ)) → AnswersAt line view (f old.store) (Err e) → Extends (λ limit. evaluates line f (λ x. k x limit))
      → Runs (λ limit. evaluates line f (λ x. k x limit)) input old now old now (Err (left_by e))
  Runs-stuck (Halted h) now a x = Runs-fault line f h k input old now a
  Runs-stuck Memory now a x = Runs-lacking (λ limit. evaluates line f (λ x. k x limit)) input old old now x refl refl

-- an answer at a line, over the storage of a scope
pub asked_of : {A B : Type 0} (line : ℕ) (view : B → A) (f : Store → Result A Fault') (r : Result B Failure) (x : Result B Stuck) (there here : Storage) → there ≡ here → x ≡ at_line line r
    → Answers view (f (store_in there)) r → AnswersAt line view (f (store_in here)) x
asked_of line view f r x there here e g h = asked line view (f (store_in here)) r x g (subst (λ st. Answers view (f (store_in st)) r) e h)

-- what is done where a name is a scalar, or an array
pub Runs-array : (lang : Dialect) (e : Expression) (f g : LimitedAct) (input : List ℕ) (old new : Seen) (before now : Option (List ℕ)) (r : Result (Unit {0}) Left) (b : Bool) → is_array lang e old.store ≡ b
    → Runs (λ limit. either b (f limit) (g limit)) input old before new now r → Runs (λ limit s. either (is_array lang e s.store) (f limit) (g limit) s) input old before new now r
unfolding Runs
Runs-array lang e f g input old new before now r b h k names limit base s d t =
    let same : (l : Option ℕ) → either (is_array lang e s.store) (f l) (g l) s ≡ either b (f l) (g l) s = λ l. ap (λ b. either b (f l) (g l) s) (ap (is_array lang e) d.store ∙ h) in
    let q = k names limit base s d t in
    (at_same names limit input base new now r (same limit) q.0, elsewhere_same base new now r (λ l. either b (f l) (g l)) (λ l s. either (is_array lang e s.store) (f l) (g l) s) limit s same q.1)

-- ---- plans

module _ (line : ℕ) (vs : List Slot) (q : Result (List (Cell × Value)) Fault') where
  pub plan_stuck : (r : Result Plan Failure) (e : Stuck) → Err e ≡ at_line line r → Plans vs q r → AnswersAt line (λ (ws : List (Cell × Value)). ws) q (Err e)
  plan_stuck (Ok p) e g h = cc
  plan_stuck (Err (failure.Fault f)) e g h = (let same : Halted (Fault f line) ≡ e = cc in subst (λ e. AnswersAt line (λ (ws : List (Cell × Value)). ws) q (Err e)) same (sym (ap (located line) h)))
  plan_stuck (Err failure.Memory) e g h = (let same : Memory ≡ e = cc in subst (λ e. AnswersAt line (λ (ws : List (Cell × Value)). ws) q (Err e)) same tt)

  pub plan_given : (r : Result Plan Failure) (p : Plan) → Ok p ≡ at_line line r → Plans vs q r → IfOk r (IsSound vs) → ((ws : List (Cell × Value)) × (q ≡ Ok ws) × Stores vs ws p) × IsSound vs p
  plan_given (Ok o) p g h i = (let same : o ≡ p = cc in subst (λ p. ((ws : List (Cell × Value)) × (q ≡ Ok ws) × Stores vs ws p) × IsSound vs p) same (h, i))
  plan_given (Err (failure.Fault f)) p g h i = cc
  plan_given (Err failure.Memory) p g h i = cc
