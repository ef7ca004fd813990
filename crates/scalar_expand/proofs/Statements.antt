-- A statement leads to what becomes of it.
use Rattle.std.proofs.Common.{◌≡◌, refl, sym, ap, ap₂, ◌∙◌, ◌⊎◌, inl, inr, subst, ℕ, ℤ, Bool, true, List, [], ◌∷◌, map, Result, Ok, Option, Some, None}
use Rattle.tree.specs.Steps.{◌>>=◌}
use Rattle.tree.specs.Operators.{as_truth}
use Rattle.tree.specs.Plain.{Expression, Reference, Subscripts, no_subscripts, subscript, Assignment, statement, no_statements}
use Rattle.tree.specs.declared.ops.Fault.{Fault}
use Rattle.tree.specs.declared.ops.Value.{Value}
use Rattle.meaning.specs.Reads.{names_in, names_in_subscripts}
use Rattle.meaning.specs.Store.{Store, Cell, put, cell_at, cell_in, is_within}
use Rattle.meaning.specs.Value.{value_of, truth_of, cell_named, subscript_value, subscript_values, is_in_range}
use Rattle.meaning.specs.Run.{does}
use Rattle.rewrite.specs.Following.{sequential}
use Rattle.rewrite.specs.Making.{made, made_left, made_subscripts}
use Rattle.nest.specs.Blocks.{guarded_statement}
use Rattle.nest.specs.Plain.{Guarded, Loop}
use Rattle.nest_order.specs.orders.Lists.{In}
use Rattle.nest_order.specs.runs.Touched.{ArePlain, IsPlain}
use Rattle.nest_order.proofs.runs.Results.{both_ok}
use Rattle.nest_order.proofs.runs.Variables.{cell_name, place_of, scalar_place}
use Rattle.nest_rewrite.specs.Statements.{rewritten_statement}
use Rattle.nest_steps.specs.Leading.{Leads}
use Rattle.nest_steps.specs.Rounds.{Hold}
use Rattle.nest_steps.specs.Statements.{cell_of}
use Rattle.nest_steps.proofs.Acts.{Goes, Lands, Leads-assignment, Leads-chooses}
use Rattle.nest_steps.proofs.Assigning.{second_assignment}
use Rattle.last_values.specs.Scalars.{scalar}
use Rattle.scalar_expand.specs.Expanded.{as_expression, copied, element, element_or, expanding, expanded_reference, named_private}
use Rattle.scalar_expand.specs.Flow.{Begins, GoesOn, MayAllBeRead, MayBeRead}
use Rattle.scalar_expand.specs.Privates.{round_loop}
use Rattle.scalar_expand.specs.Stores.{AreApart, AreBeside, AreSo, AreTurned, Begun, IsElement, arrays, element_cell, numbers}
use Rattle.scalar_expand.specs.declared.privates.Private.{Private}
use Rattle.scalar_expand.specs.declared.privates.RoundLoop.{RoundLoop}
use Rattle.scalar_expand.proofs.Changes.{copied_back, found, given, other_put}
use Rattle.scalar_expand.proofs.Places.{element_place, element_value}
use Rattle.scalar_expand.proofs.Values.{ReadsAs, Reads, scalar_only, subscripts_made, value_made}

abbrev pub scalars_of : List Begun → List Private
scalars_of bs = map (λ (b : Begun). b.0) bs

pub begun_at : (bs : List Begun) (p : Private) → In p (scalars_of bs) → (b : Begun) × In b bs × (b.0 ≡ p)
begun_at [] p i = absurd i
begun_at (b ∷ bs) p (inl e) = (b, inl refl, sym e)
begun_at (b ∷ bs) p (inr i) = let more = begun_at bs p i in (more.0, inr more.1, more.2)

pub begun_in : (bs : List Begun) (b : Begun) → In b bs → In b.0 (scalars_of bs)
begun_in [] b i = absurd i
begun_in (c ∷ bs) b (inl e) = inl (ap (λ (x : Begun). x.0) e)
begun_in (c ∷ bs) b (inr i) = inr (begun_in bs b i)

-- the loops' variables hold these iterations in one list and in the other
pub same_turns : (ls : List RoundLoop) (is js : List ℕ) (u : Store) → AreTurned ls is u → AreTurned ls js u → is ≡ js
same_turns [] [] [] u h k = refl
same_turns [] [] (j ∷ js) u h k = absurd k
same_turns [] (i ∷ is) js u h k = absurd h
same_turns (l ∷ ls) [] js u h k = absurd h
same_turns (l ∷ ls) (i ∷ is) [] u h k = absurd k
same_turns (l ∷ ls) (i ∷ is) (j ∷ js) u h k =
    ap₂ (λ (i : ℕ) (is : List ℕ). i ∷ is) (one i j (sym h.1 ∙ k.1)) (same_turns ls is js u h.2 k.2)
  where
    one : (i j : ℕ) → ◌≡◌ {A = Value} (Rattle.tree.specs.declared.ops.Value.TheVariants.Int (Rattle.std.specs.Prelude.pos i)) (Rattle.tree.specs.declared.ops.Value.TheVariants.Int (Rattle.std.specs.Prelude.pos j)) → i ≡ j
    one i j e = cc

module _ (bits : ℕ) (ps : List Private) (limits : Private → List (ℤ × ℤ)) (lasts : Private → List ℕ) (symbols : List (List ℕ)) (value : List ℕ → ℤ) (IsCounter : List ℕ → Type 0) (IsOwn : Private → Type 0)
    (names : AreApart bits ps limits lasts symbols value IsCounter IsOwn) where
  abbrev pub So : List Loop → List ℕ → List Begun → List Begun → (Private → Type 0) → Store → Store → Type 0
  So = AreSo bits ps limits lasts symbols value IsCounter IsOwn

  abbrev Element : Begun → Store → Store → Type 0
  Element = IsElement bits ps limits lasts symbols value IsCounter IsOwn

  abbrev Countable : List Loop → Type 0
  Countable ls = (l : Loop) → In l ls → IsCounter l.variable

  module _ (ls : List Loop) (counted : Countable ls) (is : List ℕ) (B E : List Begun) (K : Private → Type 0) where
    -- ---- reading

    reads_as : (s u : Store) → So ls is B E K s u → (z : List ℕ) (o : Option Private) → named_private ps z ≡ o → MayBeRead ps symbols IsCounter (scalars_of B) o z → ReadsAs bits ps s u o z
    reads_as s u h z None e n = (h.beside.bounds z e n, λ c f. h.beside.held c (ap (named_private ps) f ∙ e) (λ i. n (subst (λ y. In y (arrays ps)) f i)))
    reads_as s u h z (Some p) e n =
        let b = begun_at B p n in
        let at = h.elements b.0 b.1 in
        let name : b.0.0.name ≡ z = ap (λ (r : Private). r.name) b.2 ∙ (found ps z p e).1 in
        let got = element_value bits u b.0.0 b.0.1 (limits b.0.0) at.turned (h.beside.arrays b.0.0 at.among) at.within in (
          h.beside.scalars z p e,
          subst (λ (r : Private). value_of (sequential bits) (as_expression (element r)) u ≡ Ok (s.held (cell_of z))) b.2 (got ∙ ap Ok (at.same ∙ ap (λ y. s.held (cell_of y)) name)),
        )

    reads : (s u : Store) → So ls is B E K s u → (zs : List (List ℕ)) → MayAllBeRead ps symbols IsCounter (scalars_of B) zs → Reads bits ps s u zs
    reads s u h zs m z i = reads_as s u h z (named_private ps z) refl (m z i)

    value_there : (e : Expression) → IsPlain e → MayAllBeRead ps symbols IsCounter (scalars_of B) (names_in e) → (s u : Store) → So ls is B E K s u → (v : Value)
        → value_of (sequential bits) e s ≡ Ok v → value_of (sequential bits) (made (expanding ps) e) u ≡ Ok v
    value_there e p m s u h v f = value_made bits ps s u e v p (reads s u h (names_in e) m) f

    truth_there : (e : Expression) → IsPlain e → MayAllBeRead ps symbols IsCounter (scalars_of B) (names_in e) → (s u : Store) → So ls is B E K s u → (x : Bool)
        → truth_of (sequential bits) e s ≡ Ok x → truth_of (sequential bits) (made (expanding ps) e) u ≡ Ok x
    truth_there e p m s u h x f =
        let v = both_ok (value_of (sequential bits) e s) (λ v. as_truth v) x f in
        ap (λ (r : Result Value Fault). do v ← r; as_truth v) (value_there e p m s u h v.0 v.1) ∙ v.2

    -- ---- writing

    plain_left : (r : Reference) (s u : Store) → So ls is B E K s u → ArePlain r.subscripts → MayAllBeRead ps symbols IsCounter (scalars_of B) (names_in_subscripts r.subscripts)
        → named_private ps r.name ≡ None → ¬ In r.name (arrays ps) → (c : Cell) → cell_named (sequential bits) r s ≡ Ok c
        → cell_named (sequential bits) (made_left (expanding ps) r) u ≡ Ok c
    plain_left r s u h p m none own c e = by r.subscripts refl
      where
        zs : (zs : List ℤ) × (subscript_values (sequential bits) r.subscripts s ≡ Ok zs) × (cell_at r.name zs s ≡ Ok c)
        zs = both_ok (subscript_values (sequential bits) r.subscripts s) (λ zs. cell_at r.name zs s) c e

        there : subscript_values (sequential bits) (made_subscripts (expanding ps) r.subscripts) u ≡ Ok zs.0
        there = subscripts_made bits ps s u r.subscripts zs.0 p (reads s u h (names_in_subscripts r.subscripts) m) zs.1

        kept : cell_named (sequential bits) (record { name = r.name; subscripts = made_subscripts (expanding ps) r.subscripts }) u ≡ Ok c
        kept = ap (λ (q : Result (List ℤ) Fault). do ks ← q; cell_at r.name ks u) there ∙ (ap (λ b. cell_in b r.name zs.0) (h.beside.bounds r.name none own) ∙ zs.2)

        stays : (qs : Subscripts) → expanded_reference ps (record { name = r.name; subscripts = qs }) ≡ record { name = r.name; subscripts = qs }
        stays no_subscripts = ap (λ o. element_or o (record { name = r.name; subscripts = no_subscripts })) none
        stays (subscript q qs) = refl

        by : (qs : Subscripts) → r.subscripts ≡ qs → cell_named (sequential bits) (made_left (expanding ps) r) u ≡ Ok c
        by qs f = ap (λ (t : Reference). cell_named (sequential bits) t u) (stays (made_subscripts (expanding ps) r.subscripts)) ∙ kept

    -- a private scalar is written as a whole
    bare_left : (r : Reference) (s : Store) (c : Cell) → s.bounds r.name ≡ Some [] → cell_named (sequential bits) r s ≡ Ok c → (r.subscripts ≡ no_subscripts) × (c ≡ cell_of r.name)
    bare_left r s c b e =
        let zs = both_ok (subscript_values (sequential bits) r.subscripts s) (λ zs. cell_at r.name zs s) c e in
        (by r.subscripts zs.0 zs.1 zs.2, scalar_place (s.bounds r.name) r.name zs.0 c b zs.2)
      where
        by : (qs : Subscripts) (zs : List ℤ) → subscript_values (sequential bits) qs s ≡ Ok zs → cell_at r.name zs s ≡ Ok c → qs ≡ no_subscripts
        by no_subscripts zs f g = refl
        by (subscript q qs) zs f g =
            let i = both_ok (subscript_value (sequential bits) q s) (λ i. do js ← subscript_values (sequential bits) qs s; Ok (i ∷ js)) zs f in
            let js = both_ok (subscript_values (sequential bits) qs s) (λ js. Ok (i.0 ∷ js)) zs i.2 in
            let same : zs ≡ i.0 ∷ js.0 = cc in
            absurd (scalar_only bits ps s s (s.bounds r.name) r.name i.0 js.0 c b (subst (λ ks. cell_at r.name ks s ≡ Ok c) same g))

    left_of_private : (r : Reference) (p : Private) → r.subscripts ≡ no_subscripts → named_private ps r.name ≡ Some p → made_left (expanding ps) r ≡ element p
    left_of_private r p e f =
        ap (λ qs. expanded_reference ps (record { name = r.name; subscripts = made_subscripts (expanding ps) qs })) e
        ∙ ap (λ o. element_or o (record { name = r.name; subscripts = no_subscripts })) f

    -- ---- a statement that goes on

    -- nothing that has begun is kept
    pub record Gone : Type 0 where
      pub own : (q : Private) → In q ps → K q → IsOwn q
      pub apart : (q : Private) → In q ps → K q → ¬ In q (scalars_of B)
      pub behind : (b : Begun) → In b E → ¬ In b.0 (scalars_of B)

    module _ (g : Guarded) (on : GoesOn ps symbols IsCounter (scalars_of B) g) (gone : Gone) where
      lands_as : (s u : Store) → So ls is B E K s u → (v : Value) (c : Cell) → cell_named (sequential bits) g.left s ≡ Ok c → (o : Option Private) → named_private ps g.left.name ≡ o
          → MayBeRead ps symbols IsCounter (scalars_of B) o g.left.name → Lands bits (So ls is B E K) s u (made_left (expanding ps) g.left) c v
      lands_as s u h v c e None f n =
          let zs = both_ok (subscript_values (sequential bits) g.left.subscripts s) (λ zs. cell_at g.left.name zs s) c e in
          let name : c.name ≡ g.left.name = (cell_name (s.bounds g.left.name) g.left.name zs.0 c zs.2).0 in
          record {
            cell = c;
            named = plain_left g.left s u h on.left_plain on.left f n c e;
            put = λ range. other_put bits ps limits lasts symbols value IsCounter IsOwn names c v (ap (named_private ps) name ∙ f) (λ i. n (subst (λ y. In y (arrays ps)) name i)) (λ i. on.free (subst (λ y. In y symbols) name i))
                (λ k. on.counts_none (subst IsCounter name k)) ls counted is B E K s u h;
          }
      lands_as s u h v c e (Some p) f n =
          let b = begun_at B p n in
          let at = h.elements b.0 b.1 in
          let bare = bare_left g.left s c (h.beside.scalars g.left.name p f) e in
          let known = found ps g.left.name p f in
          let there : made_left (expanding ps) g.left ≡ element b.0.0 = left_of_private g.left p bare.0 f ∙ ap element (sym b.2) in
          let cell_is : cell_of b.0.0.name ≡ c = ap cell_of (ap (λ (r : Private). r.name) b.2 ∙ known.1) ∙ sym bare.1 in
          record {
            cell = element_cell b.0.0 b.0.1;
            named = ap (λ (t : Reference). cell_named (sequential bits) t u) there ∙ element_place bits u b.0.0 b.0.1 (limits b.0.0) at.turned (h.beside.arrays b.0.0 at.among) at.within;
            put = λ range. subst (λ (d : Cell). So ls is B E K (put d v s) (put (element_cell b.0.0 b.0.1) v u)) cell_is (less b.0 b.1 (given bits ps limits lasts symbols value IsCounter IsOwn names ls counted is B E K K b.0.0 b.0.1 v s u at.among at.turned at.within range
                (λ d i same. (let other = h.elements d i in same_turns b.0.0.loops d.1 b.0.1 u (subst (λ (r : Private). AreTurned r.loops d.1 u) same other.turned) at.turned))
                (λ d i same. gone.behind d i (subst (λ (r : Private). In r (scalars_of B)) (sym same) (begun_in B b.0 b.1)))
                (λ q i k. (k, (gone.own q i k, λ same. gone.apart q i k (subst (λ (r : Private). In r (scalars_of B)) (sym same) (begun_in B b.0 b.1)))))
                h));
          }
        where
          less : (b : Begun) → In b B → {s u : Store} → So ls is (b ∷ B) E K s u → So ls is B E K s u
          less b i {s} {u} h = record { beside = h.beside; turned = h.turned; elements = λ d j. h.elements d (inr j); passed = h.passed; kept = h.kept }

      assignment_leads : Leads (So ls is B E K) (So ls is B E K) (does (sequential bits) None (Assignment g.line None g.left g.right)) (does (sequential bits) None (Assignment g.line None (made_left (expanding ps) g.left) (made (expanding ps) g.right)))
      assignment_leads = Leads-assignment bits (So ls is B E K) (So ls is B E K) g.line g.line None None g.left (made_left (expanding ps) g.left) g.right (made (expanding ps) g.right)
          (λ s u h v f. value_there g.right on.right_plain on.right s u h v f)
          (λ s u h v f c e. lands_as s u h v c e (named_private ps g.left.name) refl on.target)

      pub statement_leads : Leads (So ls is B E K) (So ls is B E K) (does (sequential bits) None (guarded_statement g)) (does (sequential bits) None (guarded_statement (rewritten_statement (expanding ps) g)))
      statement_leads = by g.guard on.guard_plain on.guard
        where
          by : (o : Option Expression) → Rattle.nest_order.specs.runs.Touched.IsPlainGuard o → MayAllBeRead ps symbols IsCounter (scalars_of B) (Rattle.nest_order.specs.runs.Guarded.names_of_guard o)
              → Leads (So ls is B E K) (So ls is B E K) (does (sequential bits) None (guarded_statement (record g { guard = o }))) (does (sequential bits) None (guarded_statement (rewritten_statement (expanding ps) (record g { guard = o }))))
          by None p m = assignment_leads
          by (Some e) p m =
              Leads-chooses bits (So ls is B E K) (So ls is B E K) g.line g.line e (made (expanding ps) e) (statement (Assignment g.line None g.left g.right) no_statements)
              (statement (Assignment g.line None (made_left (expanding ps) g.left) (made (expanding ps) g.right)) no_statements)
              (λ s u h x f. truth_there e p m s u h x f) (record { at = λ s u n i a e. assignment_leads.at s u n i a.0 e }) (λ s u h f. h)

    -- ---- a statement that begins a private scalar

    turned_here : (os : List Loop) (js : List ℕ) → Countable os → (s u : Store) → AreBeside bits ps limits lasts symbols value IsCounter IsOwn s u → Hold os js s → AreTurned (map round_loop os) js u
    turned_here [] [] k s u h t = tt
    turned_here [] (j ∷ js) k s u h t = t
    turned_here (o ∷ os) [] k s u h t = t
    turned_here (o ∷ os) (j ∷ js) k s u h t =
        let c = k o (inl refl) in
        let n = names.counters o.variable c in
        (h.bounds o.variable n.0 n.1 ∙ h.counters o.variable c, h.held (cell_of o.variable) n.0 n.1 ∙ t.0, turned_here os js (λ l i. k l (inr i)) s u h t.1)

    module _ (g : Guarded) (p : Private) (begins : Begins ps symbols IsCounter ls (scalars_of B) p g) (within : is_within (limits p) (numbers is) ≡ true) (J : Private → Type 0)
        (behind : (b : Begun) → In b E → ¬ (b.0 ≡ p)) (less : (q : Private) → In q ps → J q → K q × (IsOwn q × (¬ (q ≡ p)))) where
      there : made_left (expanding ps) g.left ≡ element p
      there = left_of_private g.left p (ap (λ (r : Reference). r.subscripts) begins.left) (ap (λ (r : Reference). named_private ps r.name) begins.left ∙ names.named p begins.among)

      begins_at : (s u : Store) → So ls is B E K s u → (v : Value) (c : Cell) → cell_named (sequential bits) g.left s ≡ Ok c → Lands bits (So ls is ((p, is) ∷ B) E J) s u (made_left (expanding ps) g.left) c v
      begins_at s u h v c e =
          let at : AreTurned p.loops is u = subst (λ ks. AreTurned ks is u) (sym begins.loops) (turned_here ls is counted s u h.beside h.turned) in
          let name : g.left.name ≡ p.name = ap (λ (r : Reference). r.name) begins.left in
          let bare = bare_left g.left s c (ap s.bounds name ∙ h.beside.scalars p.name p (names.named p begins.among)) e in
          let cell_is : cell_of p.name ≡ c = ap cell_of (sym name) ∙ sym bare.1 in
          record {
            cell = element_cell p is;
            named = ap (λ (t : Reference). cell_named (sequential bits) t u) there ∙ element_place bits u p is (limits p) at (h.beside.arrays p begins.among) within;
            put = λ range. subst (λ (d : Cell). So ls is ((p, is) ∷ B) E J (put d v s) (put (element_cell p is) v u)) cell_is
                (given bits ps limits lasts symbols value IsCounter IsOwn names ls counted is B E K J p is v s u begins.among at within range (λ b i same. absurd (begins.first (subst (λ (r : Private). In r (scalars_of B)) same (begun_in B b i)))) behind less h);
          }

      pub begin_leads : Leads (So ls is B E K) (So ls is ((p, is) ∷ B) E J) (does (sequential bits) None (guarded_statement g)) (does (sequential bits) None (guarded_statement (rewritten_statement (expanding ps) g)))
      begin_leads = by g.guard begins.always
        where
          by : (o : Option Expression) → o ≡ None
              → Leads (So ls is B E K) (So ls is ((p, is) ∷ B) E J) (does (sequential bits) None (guarded_statement (record g { guard = o }))) (does (sequential bits) None (guarded_statement (rewritten_statement (expanding ps) (record g { guard = o }))))
          by None e = Leads-assignment bits (So ls is B E K) (So ls is ((p, is) ∷ B) E J) g.line g.line None None g.left (made_left (expanding ps) g.left) g.right (made (expanding ps) g.right)
              (λ s u h v f. value_there g.right begins.right_plain begins.right s u h v f)
              (λ s u h v f c e. begins_at s u h v c e)
          by (Some x) e = let bad : ◌≡◌ {A = Option Expression} (Some x) None = e in cc

    -- ---- a copy at the end of a turn

    pub copy_goes : (line : ℕ) (p : Private) (J : Private → Type 0) → In p ps → In p (scalars_of B) → IsOwn p → ((q : Private) → In q ps → J q → K q ⊎ (q ≡ p))
        → Goes (So ls is B E K) (So ls is B E J) (does (sequential bits) None (guarded_statement (copied line p)))
    copy_goes line p J i begun own more =
        let b = begun_at B p begun in
        second_assignment bits (So ls is B E K) (So ls is B E J) line None (scalar p.name) (as_expression (element p))
        (λ s u h. (
          s.held (cell_of p.name),
          cell_of p.name,
          (reads_as s u h p.name (Some p) (names.named p i) begun).1,
          place_of p.name u (h.beside.own p i own),
          subst (λ (r : Private). is_in_range bits (s.held (cell_of r.name)) ≡ true) b.2 (h.elements b.0 b.1).range,
          copied_back bits ps limits lasts symbols value IsCounter IsOwn names ls is B E K J p (s.held (cell_of p.name)) s u i own refl more h,
        ))
