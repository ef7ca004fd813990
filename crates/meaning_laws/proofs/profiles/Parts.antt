-- What statements are made of keeps a store that holds the program, and brings no fault but those of F.
use Rattle.std.proofs.Common.{◌≡◌, refl, sym, subst, ◌∙◌, ℕ, zero, suc, ◌+◌, ◌-◌, ◌*◌, ℤ, pos, ◌+ℤ◌, ◌-ℤ◌, neg_ℤ, int_div, nat_le, Bool, true, false, ◌&&◌, ◌||◌, ◌==◌, cond, Option, Some, None, IfSome, List, [], ◌∷◌, Result, Ok, Err}
use Rattle.std.specs.List.{AllByRecursion}
use Rattle.std.specs.Ordering.{int_eq}
use Rattle.tree.specs.Steps as results
use Rattle.tree.specs.Operators.{as_number, fits}
use Rattle.tree.specs.OperationFaults.{kind_of}
use Rattle.tree.specs.Plain.{Expression, Declaration, Program}
use Rattle.tree.specs.declared.ops.Value.{Value}
use Rattle.tree.specs.declared.ops.Value.TheVariants.{Int, Truth}
use Rattle.tree.specs.declared.ops.Fault.{Fault}
use Rattle.tree.specs.declared.ops.Fault.TheVariants.{Overflow, ZeroDivide, Bounds, ZeroStep, TripCount, InputEnd, InputForm}
use Rattle.meaning.specs.Dialect.{Dialect}
use Rattle.meaning.specs.Store.{Store, Cell, cell_at}
use Rattle.meaning.specs.Texts.{is_gap, from_value, first_word, after_word, digits_after, unsigned_number, signed_number, has_slash, truth_letter, truth_word, read_value}
use Rattle.meaning.specs.Typed.{declared}
use Rattle.meaning.specs.Value.{number_of, increment_of, exact, as_count, trip_count, is_in_range}
use Rattle.meaning.specs.Holding.{HasBounds, IsStorable, HoldsProgram}
use Rattle.meaning.specs.Run.{State, Way, Going, Jumping, Stopped, Failed, Cut, Act, nothing, then, either, repeated, for_each, goes, on_way, while_going, answered, evaluates, writes, stores, is_empty, begins_line, takes_word, skips_line, is_allowed, counts_step, checks_range, stores_element, allocates, deallocates, sets_variable, increases, loops, reads_into}
use Rattle.meaning.proofs.Kept.{Keeps}
use Rattle.meaning_laws.proofs.profiles.Answering.{Answers, AnyValue, behind, weaker}
use Rattle.meaning_laws.proofs.profiles.Stores.{Fits, put_holds, without_holds, allocated_holds}

-- the faults that any program may meet
pub record AllowsRest (F : Fault → Type 0) : Type 0 where
  pub overflow : F Overflow
  pub zero_divide : F ZeroDivide
  pub bounds : F Bounds
  pub zero_step : F ZeroStep
  pub trip_count : F TripCount
  pub input_end : F InputEnd
  pub input_form : F InputForm

abbrev pub Allowed : (Fault → Type 0) → Way → Type 0
Allowed F (Failed f line) = F f
Allowed F w = Unit {0}

module _ (lang : Dialect) (limit : Option ℕ) (p : Program) (F : Fault → Type 0) (rest : AllowsRest F) where
  abbrev pub Holds : Store → Type 0
  Holds s = HoldsProgram lang p s

  pub record Good (s : State) : Type 0 where
    pub store : Holds s.store
    pub way : Allowed F s.way

  -- whatever store holds the program, the answer has Q or is one of these faults
  abbrev pub Known : {A : Type 0} → (A → Type 0) → (Store → Result A Fault) → Type 0
  Known Q f = (s : Store) → Holds s → Answers F Q (f s)

  pub keeps_nothing : Keeps Good nothing
  keeps_nothing = record { at = λ s h. h }

  pub keeps_then : (f g : Act) → Keeps Good f → Keeps Good g → Keeps Good (then f g)
  keeps_then f g h k = record { at = λ s q. k.at (f s) (h.at s q) }

  pub keeps_goes : (w : Way) → Allowed F w → Keeps Good (goes w)
  keeps_goes w h = record { at = λ s q. record { store = q.store; way = h } }

  keeps_while : (f : Act) → Keeps Good f → Keeps Good (while_going f)
  unfolding while_going
  keeps_while f h = record { at = λ s q. by s.way s q }
    where
      by : (w : Way) (s : State) → Good s → Good (on_way w f s)
      by Going s q = h.at s q
      by (Jumping l) s q = q
      by Stopped s q = q
      by (Failed e l) s q = q
      by Cut s q = q

  pub keeps_either : (b : Bool) (f g : Act) → (b ≡ true → Keeps Good f) → (b ≡ false → Keeps Good g) → Keeps Good (either b f g)
  keeps_either true f g h k = h refl
  keeps_either false f g h k = k refl

  keeps_answered : {A : Type 0} (Q : A → Type 0) (line : ℕ) (r : Result A Fault) (k : A → Act) → Answers F Q r → ((x : A) → Q x → Keeps Good (k x)) → Keeps Good (answered line r k)
  keeps_answered Q line (Ok x) k a h = h x a
  keeps_answered Q line (Err e) k a h = keeps_goes (Failed e line) a

  pub keeps_evaluates : {A : Type 0} (Q : A → Type 0) (line : ℕ) (f : Store → Result A Fault) (k : A → Act) → Known Q f → ((x : A) → Q x → Keeps Good (k x)) → Keeps Good (evaluates line f k)
  unfolding evaluates
  keeps_evaluates Q line f k a h = keeps_while _ (record { at = λ s q. (keeps_answered Q line (f s.store) k (a s.store q.store) h).at s q })

  pub keeps_for_each : {A : Type 0} (Q : A → Type 0) (xs : List A) (f : A → Act) → AllByRecursion Q xs → ((x : A) → Q x → Keeps Good (f x)) → Keeps Good (for_each xs f)
  keeps_for_each Q [] f a h = keeps_nothing
  keeps_for_each Q (x ∷ xs) f a h = keeps_then (f x) (for_each xs f) (h x a.0) (keeps_for_each Q xs f a.1 h)

  keeps_repeated : (n : ℕ) (f : Act) → Keeps Good f → Keeps Good (repeated n f)
  keeps_repeated zero f h = keeps_nothing
  keeps_repeated (suc n) f h = keeps_then f (repeated n f) h (keeps_repeated n f h)

  pub keeps_writes : (t : List ℕ) → Keeps Good (writes t)
  unfolding writes
  keeps_writes t = keeps_while _ (record { at = λ s q. record { store = q.store; way = q.way } })

  pub keeps_stores : (c : Cell) (v : Value) → Fits lang p c.name v → Keeps Good (stores c v)
  unfolding stores
  keeps_stores c v f = keeps_while _ (record { at = λ s q. record { store = put_holds lang p c v s.store f q.store; way = q.way } })

  pub keeps_allocates : (x : List ℕ) (bs : List (ℤ × ℤ)) → IfSome (declared p.declarations x) (λ (e : Declaration). HasBounds e.extent (Some bs)) → Keeps Good (allocates x bs)
  unfolding allocates
  keeps_allocates x bs f = keeps_while _ (record { at = λ s q. record { store = allocated_holds lang p x bs s.store f q.store; way = q.way } })

  pub keeps_deallocates : (x : List ℕ) → IfSome (declared p.declarations x) (λ (e : Declaration). HasBounds e.extent None) → Keeps Good (deallocates x)
  unfolding deallocates
  keeps_deallocates x f = keeps_while _ (record { at = λ s q. record { store = without_holds lang p x s.store f q.store; way = q.way } })

  pub keeps_counts_step : (k : Act) → Keeps Good k → Keeps Good (counts_step lang limit k)
  unfolding counts_step
  keeps_counts_step k h = keeps_while _ (record { at = λ s q. by s (is_allowed limit s.steps) q })
    where
      by : (s : State) (b : Bool) → Good s → Good (either b (λ t. k (record t { steps = t.steps + 1 })) (goes Cut) s)
      by s true q = h.at (record s { steps = s.steps + 1 }) (record { store = q.store; way = q.way })
      by s false q = record { store = q.store; way = tt }

  pub keeps_checks_range : (line : ℕ) (v : Value) (k : Act) → (is_in_range lang.bits v ≡ true → Keeps Good k) → Keeps Good (checks_range lang limit line v k)
  unfolding checks_range
  keeps_checks_range line v k h = keeps_while _ (keeps_either (is_in_range lang.bits v) k (goes (Failed Overflow line)) h (λ e. keeps_goes (Failed Overflow line) rest.overflow))

  -- ---- READ

  pub keeps_begins_line : (line : ℕ) → Keeps Good (begins_line line)
  unfolding begins_line
  keeps_begins_line line = keeps_while _ (record { at = λ s q. by s (is_empty s.input) q })
    where
      by : (s : State) (b : Bool) → Good s → Good (either b (goes (Failed InputEnd line)) (λ t. record t { had_value = false }) s)
      by s true q = record { store = q.store; way = rest.input_end }
      by s false q = record { store = q.store; way = q.way }

  pub keeps_skips_line : Keeps Good skips_line
  unfolding skips_line
  keeps_skips_line = keeps_while _ (record { at = λ s q. record { store = q.store; way = q.way } })

  next_value : (comma : Bool) (text : List ℕ) → Answers F AnyValue (from_value comma text)
  next_value comma [] = rest.input_end
  next_value comma (c ∷ cs) = by (is_gap c) (c == 44) comma (next_value comma cs) (next_value false cs)
    where
      by : (g t b : Bool) → Answers F AnyValue (from_value comma cs) → Answers F AnyValue (from_value false cs)
          → Answers F AnyValue (cond g (from_value comma cs) (cond t (cond b (from_value false cs) (Err InputForm)) (Ok (c ∷ cs))))
      by true t b h k = h
      by false true true h k = k
      by false true false h k = rest.input_form
      by false false b h k = tt

  keeps_takes_word : (line : ℕ) (k : List ℕ → Act) → ((w : List ℕ) → Keeps Good (k w)) → Keeps Good (takes_word line k)
  unfolding takes_word
  keeps_takes_word line k h = keeps_while _ (record {
    at = λ s q.
        (keeps_answered AnyValue line (from_value s.had_value s.input) (λ more t. k (first_word more) (record t { input = after_word more; had_value = true })) (next_value s.had_value s.input) (λ more u. past more)).at s q;
  })
    where
      past : (more : List ℕ) → Keeps Good (λ t. k (first_word more) (record t { input = after_word more; had_value = true }))
      past more = record { at = λ t q. (h (first_word more)).at (record t { input = after_word more; had_value = true }) (record { store = q.store; way = q.way }) }

  digits_known : (text : List ℕ) (n : ℕ) → Answers F AnyValue (digits_after n text)
  digits_known [] n = tt
  digits_known (c ∷ cs) n = by (nat_le 48 c && nat_le c 57) (digits_known cs (n * 10 + (c - 48)))
    where
      by : (b : Bool) → Answers F AnyValue (digits_after (n * 10 + (c - 48)) cs) → Answers F AnyValue (cond b (digits_after (n * 10 + (c - 48)) cs) (Err InputForm))
      by true h = h
      by false h = rest.input_form

  unsigned_known : (text : List ℕ) → Answers F AnyValue (unsigned_number text)
  unsigned_known [] = rest.input_form
  unsigned_known (c ∷ cs) = behind F AnyValue AnyValue (digits_after 0 (c ∷ cs)) (λ n. Ok (pos n)) (digits_known (c ∷ cs) 0) (λ n u. tt)

  signed_known : (text : List ℕ) → Answers F AnyValue (signed_number text)
  signed_known [] = rest.input_form
  signed_known (c ∷ cs) = by (c == 43) (c == 45)
    where
      by : (a b : Bool) → Answers F AnyValue (cond a (unsigned_number cs) (cond b (results.◌>>=◌ (unsigned_number cs) (λ z. Ok (neg_ℤ z))) (unsigned_number (c ∷ cs))))
      by true b = unsigned_known cs
      by false true = behind F AnyValue AnyValue (unsigned_number cs) (λ z. Ok (neg_ℤ z)) (unsigned_known cs) (λ z u. tt)
      by false false = unsigned_known (c ∷ cs)

  letter_known : (text : List ℕ) → Answers F AnyValue (truth_letter text)
  letter_known [] = rest.input_form
  letter_known (c ∷ cs) = by (has_slash cs) (c == 84 || c == 116) (c == 70 || c == 102)
    where
      by : (s t f : Bool) → Answers {A = Bool} F AnyValue (cond s (Err InputForm) (cond t (Ok true) (cond f (Ok false) (Err InputForm))))
      by true t f = rest.input_form
      by false true f = tt
      by false false true = tt
      by false false false = rest.input_form

  truth_known : (text : List ℕ) → Answers F AnyValue (truth_word text)
  truth_known [] = rest.input_form
  truth_known (c ∷ cs) = by (c == 46)
    where
      by : (b : Bool) → Answers F AnyValue (cond b (truth_letter cs) (truth_letter (c ∷ cs)))
      by true = letter_known cs
      by false = letter_known (c ∷ cs)

  -- a word spells a value of the kind of the one before
  read_known : (old : Value) (w : List ℕ) → Answers F (λ v. kind_of v ≡ kind_of old) (read_value old w)
  read_known (Int z) w = behind F AnyValue _ (signed_number w) _ (signed_known w) (λ n u. refl)
  read_known (Truth b) w = behind F AnyValue _ (truth_word w) _ (truth_known w) (λ n u. refl)

  same_kind : (o : Option Declaration) (old v : Value) → kind_of v ≡ kind_of old → is_in_range lang.bits v ≡ true → IfSome o (λ (e : Declaration). IsStorable lang e.kind old) → IfSome o (λ (e : Declaration). IsStorable lang e.kind v)
  same_kind None old v k r h = tt
  same_kind (Some e) old v k r h = record { kind = k ∙ h.kind; within = r }

  pub keeps_reads_into : (line : ℕ) (c : Cell) → Keeps Good (reads_into lang limit line c)
  keeps_reads_into line c =
      keeps_takes_word line _ (λ w.
      keeps_evaluates (λ v. is_in_range lang.bits v ≡ true → Fits lang p c.name v) line _ _
      (λ s h. weaker F (λ v. kind_of v ≡ kind_of (s.held c)) _ (read_value (s.held c) w) (λ v e r. same_kind (declared p.declarations c.name) (s.held c) v e r (h.kinds c)) (read_known (s.held c) w))
      (λ v f. keeps_checks_range line v _ (λ r. keeps_counts_step _ (keeps_stores c v (f r)))))

  -- ---- loops

  exact_known : (z : ℤ) → Answers F AnyValue (exact z)
  exact_known z = by (fits 127 z)
    where
      by : (b : Bool) → Answers F AnyValue (cond b (Ok z) (Err Overflow))
      by true = tt
      by false = rest.overflow

  count_known : (z : ℤ) → Answers F AnyValue (as_count z)
  count_known (pos n) = by (nat_le n 2147483646)
    where
      by : (b : Bool) → Answers F AnyValue (cond b (Ok n) (Err TripCount))
      by true = tt
      by false = rest.trip_count
  count_known z = tt

  trips_known : (m1 m2 m3 : ℤ) → Answers F AnyValue (trip_count m1 m2 m3)
  trips_known m1 m2 m3 =
      behind F AnyValue AnyValue (exact (m2 -ℤ m1)) _ (exact_known (m2 -ℤ m1)) (λ a u. behind F AnyValue AnyValue (exact (a +ℤ m3)) _ (exact_known (a +ℤ m3)) (λ b v. behind F AnyValue AnyValue (exact (int_div b m3)) _ (exact_known (int_div b m3)) (λ q w. count_known q)))

  abbrev pub IsNumeric : Expression → Type 0
  IsNumeric e = Known AnyValue (number_of lang e)

  increment_known : (e : Expression) → IsNumeric e → Known AnyValue (increment_of lang e)
  increment_known e h s q = behind F AnyValue AnyValue (number_of lang e s) _ (h s q) (λ z u. by z (int_eq z (pos 0)))
    where
      by : (z : ℤ) (b : Bool) → Answers F AnyValue (cond b (Err ZeroStep) (Ok z))
      by z true = rest.zero_step
      by z false = tt

  -- the variable of a loop
  pub record IsVariable (x : List ℕ) : Type 0 where
    pub cell : Known (λ (c : Cell). c.name ≡ x) (cell_at x [])
    pub fits' : (z : ℤ) → fits lang.bits z ≡ true → Fits lang p x (Int z)
    pub number : (c : Cell) → c.name ≡ x → Known AnyValue (λ s. as_number (s.held c))

  keeps_sets_variable : (line : ℕ) (x : List ℕ) (z : ℤ) → IsVariable x → Keeps Good (sets_variable lang limit line x z)
  keeps_sets_variable line x z h =
      keeps_evaluates (λ (c : Cell). c.name ≡ x) line _ _ h.cell (λ c e. keeps_checks_range line (Int z) _ (λ r. keeps_stores c (Int z) (subst (λ y. Fits lang p y (Int z)) (sym e) (h.fits' z r))))

  keeps_increases : (line : ℕ) (x : List ℕ) (m3 : ℤ) → IsVariable x → Keeps Good (increases lang limit line x m3)
  keeps_increases line x m3 h =
      keeps_evaluates (λ (c : Cell). c.name ≡ x) line _ _ h.cell (λ c e.
      keeps_evaluates AnyValue line _ _ (λ s q. behind F AnyValue AnyValue (as_number (s.held c)) _ (h.number c e s q) (λ z u. exact_known (z +ℤ m3))) (λ z u. keeps_sets_variable line x z h))

  pub keeps_loops : (line : ℕ) (x : List ℕ) (a b c : Expression) (f : Act) → IsVariable x → IsNumeric a → IsNumeric b → IsNumeric c → Keeps Good f → Keeps Good (loops lang limit line x a b c f)
  keeps_loops line x a b c f v ha hb hc h =
      keeps_evaluates AnyValue line _ _ ha (λ m1 u1. keeps_evaluates AnyValue line _ _ hb (λ m2 u2. keeps_evaluates AnyValue line _ _ (increment_known c hc) (λ m3 u3.
      keeps_then _ _ (keeps_sets_variable line x m1 v) (keeps_evaluates AnyValue line _ _ (λ s q. trips_known m1 m2 m3) (λ n u. keeps_repeated n _
      (keeps_counts_step _ (keeps_then f _ h (keeps_increases line x m3 v))))))))

  -- ---- elements of an array assignment

  pub keeps_elements : (ws : List (Cell × Value)) → AllByRecursion (λ (w : Cell × Value). Fits lang p w.0.name w.1) ws → Keeps Good (for_each ws (stores_element lang limit))
  keeps_elements ws h = keeps_for_each (λ (w : Cell × Value). Fits lang p w.0.name w.1) ws _ h (λ w f. keeps_counts_step _ (keeps_stores w.0 w.1 f))
