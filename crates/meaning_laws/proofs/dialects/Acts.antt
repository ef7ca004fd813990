-- Acts that do the same where the bounds of names are given, and keep these.
use Rattle.std.proofs.Common.{◌≡◌, refl, ap, ◌∙◌, ℕ, zero, suc, ◌+◌, ℤ, Bool, true, false, List, [], ◌∷◌, Result, Ok, Err, Option}
use Rattle.tree.specs.declared.ops.Fault.{Fault}
use Rattle.tree.specs.declared.ops.Fault.TheVariants.{InputEnd, Overflow}
use Rattle.tree.specs.declared.ops.Value.{Value}
use Rattle.meaning.specs.Run.{State, Way, Going, Jumping, Stopped, Failed, Cut, Act, nothing, then, either, repeated, for_each, goes, on_way, while_going, answered, evaluates, writes, stores, is_empty, begins_line, takes_word, skips_line, is_allowed, counts_step, checks_range}
use Rattle.meaning.specs.Store.{Store, Cell}
use Rattle.meaning.specs.Texts.{from_value, first_word, after_word}
use Rattle.meaning.specs.Value.{is_in_range}
use Rattle.meaning_laws.proofs.dialects.Values.{without_arrays, with_arrays}

module _ (bounds : List ℕ → Option (List (ℤ × ℤ))) where
  -- f and g do the same, and keep the bounds
  abbrev pub Bounded : State → Type 0
  Bounded s = s.store.bounds ≡ bounds

  pub record Same (f g : Act) : Type 0 where
    pub same : (s : State) → Bounded s → f s ≡ g s
    pub kept : (s : State) → Bounded s → Bounded (f s)

  pub Same-nothing : Same nothing nothing
  Same-nothing = record { same = λ s h. refl; kept = λ s h. h }

  pub Same-then : (f f' g g' : Act) → Same f f' → Same g g' → Same (then f g) (then f' g')
  Same-then f f' g g' h k = record { same = λ s b. k.same (f s) (h.kept s b) ∙ ap g' (h.same s b); kept = λ s b. k.kept (f s) (h.kept s b) }

  pub Same-goes : (w : Way) → Same (goes w) (goes w)
  Same-goes w = record { same = λ s h. refl; kept = λ s h. h }

  pub Same-either : (b : Bool) {f f' g g' : Act} → Same f f' → Same g g' → Same (either b f g) (either b f' g')
  Same-either true h k = h
  Same-either false h k = k

  pub Same-while_going : (f g : Act) → Same f g → Same (while_going f) (while_going g)
  unfolding while_going
  Same-while_going f g h = record { same = λ s. same s.way s; kept = λ s. kept s.way s }
    where
      same : (w : Way) (s : State) → Bounded s → on_way w f s ≡ on_way w g s
      same Going s b = h.same s b
      same (Jumping l) s b = refl
      same Stopped s b = refl
      same (Failed e l) s b = refl
      same Cut s b = refl

      kept : (w : Way) (s : State) → Bounded s → Bounded (on_way w f s)
      kept Going s b = h.kept s b
      kept (Jumping l) s b = b
      kept Stopped s b = b
      kept (Failed e l) s b = b
      kept Cut s b = b

  pub Same-answered : {A : Type 0} (line : ℕ) (r : Result A Fault) (k k' : A → Act) → ((x : A) → Same (k x) (k' x)) → Same (answered line r k) (answered line r k')
  Same-answered line (Ok x) k k' h = h x
  Same-answered line (Err e) k k' h = Same-goes (Failed e line)

  pub Same-evaluates : {A : Type 0} (line : ℕ) (q q' : Store → Result A Fault) (k k' : A → Act) → ((s : Store) → s.bounds ≡ bounds → q s ≡ q' s) → ((x : A) → Same (k x) (k' x)) → Same (evaluates line q k) (evaluates line q' k')
  unfolding evaluates
  Same-evaluates line q q' k k' e h = Same-while_going _ _ (record {
    same = λ s b. (Same-answered line (q s.store) k k' h).same s b ∙ ap (λ r. answered line r k' s) (e s.store b);
    kept = λ s b. (Same-answered line (q s.store) k k' h).kept s b;
  })

  pub Same-repeated : (n : ℕ) (f g : Act) → Same f g → Same (repeated n f) (repeated n g)
  Same-repeated zero f g h = Same-nothing
  Same-repeated (suc n) f g h = Same-then f g (repeated n f) (repeated n g) h (Same-repeated n f g h)

  pub Same-for_each : {A : Type 0} (xs : List A) (f g : A → Act) → ((x : A) → Same (f x) (g x)) → Same (for_each xs f) (for_each xs g)
  Same-for_each [] f g h = Same-nothing
  Same-for_each (x ∷ xs) f g h = Same-then (f x) (g x) (for_each xs f) (for_each xs g) (h x) (Same-for_each xs f g h)

  pub Same-writes : (t : List ℕ) → Same (writes t) (writes t)
  unfolding writes
  Same-writes t = Same-while_going _ _ (record { same = λ s h. refl; kept = λ s h. h })

  pub Same-stores : (c : Cell) (v : Value) → Same (stores c v) (stores c v)
  unfolding stores
  Same-stores c v = Same-while_going _ _ (record { same = λ s h. refl; kept = λ s h. h })

  pub Same-begins_line : (line : ℕ) → Same (begins_line line) (begins_line line)
  unfolding begins_line
  Same-begins_line line = Same-while_going _ _ (record { same = λ s h. refl; kept = λ s h. by s (is_empty s.input) h })
    where
      by : (s : State) (b : Bool) → Bounded s → Bounded (either b (goes (Failed InputEnd line)) (λ t. record t { had_value = false }) s)
      by s true h = h
      by s false h = h

  pub Same-skips_line : Same skips_line skips_line
  unfolding skips_line
  Same-skips_line = Same-while_going _ _ (record { same = λ s h. refl; kept = λ s h. h })

  pub Same-takes_word : (line : ℕ) (k k' : List ℕ → Act) → ((w : List ℕ) → Same (k w) (k' w)) → Same (takes_word line k) (takes_word line k')
  unfolding takes_word
  Same-takes_word line k k' h = Same-while_going _ _ (record {
    same = λ s b. (Same-answered line (from_value s.had_value s.input) (gone k) (gone k') past).same s b;
    kept = λ s b. (Same-answered line (from_value s.had_value s.input) (gone k) (gone k') past).kept s b;
  })
    where
      gone : (List ℕ → Act) → List ℕ → Act
      gone k rest t = k (first_word rest) (record t { input = after_word rest; had_value = true })

      past : (rest : List ℕ) → Same (gone k rest) (gone k' rest)
      past rest = record { same = λ t b. (h (first_word rest)).same (record t { input = after_word rest; had_value = true }) b; kept = λ t b. (h (first_word rest)).kept (record t { input = after_word rest; had_value = true }) b }

  -- ---- steps and ranges, in both dialects

  module _ (n : ℕ) (limit : Option ℕ) where
    pub Same-counts_step : (k k' : Act) → Same k k' → Same (counts_step (without_arrays n) limit k) (counts_step (with_arrays n) limit k')
    unfolding counts_step
    Same-counts_step k k' h = Same-while_going _ _ (record { same = λ s b. same s (is_allowed limit s.steps) b; kept = λ s b. kept s (is_allowed limit s.steps) b })
      where
        same : (s : State) (b : Bool) → Bounded s → either b (λ t. k (record t { steps = t.steps + 1 })) (goes Cut) s ≡ either b (λ t. k' (record t { steps = t.steps + 1 })) (goes Cut) s
        same s true b = h.same (record s { steps = s.steps + 1 }) b
        same s false b = refl

        kept : (s : State) (b : Bool) → Bounded s → Bounded (either b (λ t. k (record t { steps = t.steps + 1 })) (goes Cut) s)
        kept s true b = h.kept (record s { steps = s.steps + 1 }) b
        kept s false b = b

    pub Same-checks_range : (line : ℕ) (v : Value) (k k' : Act) → Same k k' → Same (checks_range (without_arrays n) limit line v k) (checks_range (with_arrays n) limit line v k')
    unfolding checks_range
    Same-checks_range line v k k' h = Same-while_going _ _ (Same-either (is_in_range n v) h (Same-goes (Failed Overflow line)))
