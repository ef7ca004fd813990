-- A prepared nest with its loops moved may stand for the nest.
use Rattle.std.proofs.Common.{◌≡◌, refl, sym, ap, ◌∙◌, subst, ℕ, ◌^◌, ◌≤◌, ◌+◌, ℤ, pos, true, false, Option, Some, None, IfSome, Contains, List, arith}
use Rattle.std.specs.Prelude.{All, nat_abs}
use Rattle.tree.specs.Plain.{Block, Declaration, Program}
use Rattle.tree.specs.declared.ops.Value.{Value}
use Rattle.tree.specs.declared.ops.Value.TheVariants.{Int}
use Rattle.meaning.proofs.Agreeing.{statements_keep_agreement}
use Rattle.meaning.specs.Agreement.{MomentsAgree}
use Rattle.meaning.specs.Dialect.{fortran77}
use Rattle.tree.specs.declared.width.Width.{Width}
use Rattle.meaning.specs.Holding.{HoldsProgram, IsStorable}
use Rattle.meaning.specs.Profile90.{AreDeclarations}
use Rattle.meaning.specs.Reads.{names_in_block}
use Rattle.meaning.specs.Run.{State, does_all}
use Rattle.meaning.specs.Store.{Agree, Cell, Store, cell_in, names_of, nought_like}
use Rattle.meaning.specs.Typed.{declared}
use Rattle.meaning.specs.Value.{is_in_range}
use Rattle.meaning_laws.proofs.dialects.MadeNames.{is_declared}
use Rattle.meaning_laws.proofs.dialects.NamesIn.{among}
use Rattle.rewrite.specs.Following.{IsSound}
use Rattle.linear_forms.specs.Laws.{HoldsSized}
use Rattle.nest.specs.Plain.{Nest}
use Rattle.nest_order.specs.runs.Nests.{Near, is_nest_variable}
use Rattle.nest_steps.specs.Keeping.{GoOnAlike, KeepsAgreement, Place, Starts}
use Rattle.dependence_graph.specs.declared.graphs.Graph.{Graph}
use Rattle.dependence_graph.specs.nest_graph.Graph.{IsGraphOf}
use Rattle.emission.specs.graph_orders.Nests.{run_nest}
use Rattle.interchange.specs.Arranged.{arranged, vectors_of}
use Rattle.pass_laws.proofs.NormalFacts.Tables.{each_from}
use Rattle.pass_laws.proofs.ReadyNests.Lists.{Each-All}
use Rattle.pass_laws.specs.prepared_nests.After.{CountsNone}
use Rattle.pass_laws.specs.prepared_nests.Nests.{IsPrepared}
use Rattle.pass_laws.proofs.PreparedRuns.Counters.{no_variable}
use Rattle.pass_laws.proofs.PreparedRuns.Found.{with_rest}
use Rattle.pass_laws.specs.prepared_runs.Running.{GoOnTogether, MayRun, loops_then_after}
use Rattle.prepared_passes.specs.arrangement.Prepared.{ArrangedMayStandFor}
use Rattle.prepared_passes.proofs.ArrangedNests.Again.{arranged_nest_is_prepared}
use Rattle.prepared_passes.proofs.ArrangedNests.Declared.{names_declared}
use Rattle.prepared_passes.proofs.ArrangedNests.GoesOn.{arranged_nest_goes_on_as_nest}
use Rattle.prepared_passes.proofs.ArrangedNests.Trips.{sized}
use Rattle.tree.specs.Widths.{bits_of}
use Rattle.meaning.proofs.Widths.{widest}

-- ---- moments that agree

pub agree_on : (p : Program) (s t u : Store) → Agree p s t → Agree p t u → Agree p s u
agree_on p s t u a b = record {
  bounds = λ x n. a.bounds x n ∙ b.bounds x n;
  held = λ c n here. a.held c n here ∙ b.held c n (ap (λ b. cell_in b c.name c.subscripts) (sym (a.bounds c.name n)) ∙ here);
  kinds = λ c n. a.kinds c n ∙ b.kinds c n;
}

pub joined : (p : Program) (s t r : State) → GoOnAlike p s t → GoOnAlike p t r → GoOnAlike p s r
joined p s t r a b = record {
  going = a.going;
  agree = agree_on p s.store t.store r.store a.agree b.agree;
  rest = b.rest ∙ ap (λ (x : State). record x { store = r.store; steps = r.steps }) a.rest;
}

pub fewer : (p r : Program) (s t : Store) → ((x : List ℕ) → Contains (names_of p) x → Contains (names_of r) x) → Agree r s t → Agree p s t
fewer p r s t f a = record { bounds = λ x n. a.bounds x (f x n); held = λ c n here. a.held c (f c.name n) here; kinds = λ c n. a.kinds c (f c.name n) }

-- ---- a store in which names that aren't declared hold 0

abbrev pub kept_if : Option Declaration → Value → Value
kept_if None v = Int (pos 0)
kept_if (Some d) v = v

module _ (width : Width) (r : Program) (t : Store) (holds : HoldsProgram (fortran77 width) r t) where
  abbrev pub clean : Store
  clean = record { bounds = t.bounds; held = λ c. kept_if (declared r.declarations c.name) (t.held c) }

  pub clean_holds : HoldsProgram (fortran77 width) r clean
  clean_holds = record { bounds = holds.bounds; kinds = λ c. by (declared r.declarations c.name) (t.held c) (holds.kinds c) }
    where
      by : (o : Option Declaration) (v : Value) → IfSome o (λ (d : Declaration). IsStorable (fortran77 width) d.kind v) → IfSome o (λ (d : Declaration). IsStorable (fortran77 width) d.kind (kept_if o v))
      by None v h = h
      by (Some d) v h = h

  pub clean_sized : HoldsSized clean
  clean_sized c z e = by (declared r.declarations c.name) (t.held c) (holds.kinds c) e
    where
      least : 0 ≤ 2 ^ 63
      least = let l : 0 ≤ 9223372036854775808 = omega arith in l

      nothing : Int (pos 0) ≡ Int z → nat_abs z ≤ 2 ^ 63
      nothing f = let same : pos 0 ≡ z = cc in subst (λ (y : ℤ). nat_abs y ≤ 2 ^ 63) same least

      by : (o : Option Declaration) (v : Value) → IfSome o (λ (d : Declaration). IsStorable (fortran77 width) d.kind v) → kept_if o v ≡ Int z → nat_abs z ≤ 2 ^ 63
      by None v h f = nothing f
      by (Some d) v h f = sized (bits_of width) (widest width) z (subst (λ (x : Value). is_in_range (bits_of width) x ≡ true) f h.within)

  same_held : (c : Cell) → Contains (names_of r) c.name → t.held c ≡ clean.held c
  same_held c i = let d = is_declared r.declarations c.name i in ap (λ (o : Option Declaration). kept_if o (t.held c)) (sym d.1)

  pub clean_agrees : Agree r t clean
  clean_agrees = record { bounds = λ x i. refl; held = λ c i here. same_held c i; kinds = λ c i. ap nought_like (same_held c i) }

  pub clean_back : Agree r clean t
  clean_back = record { bounds = λ x i. refl; held = λ c i here. sym (same_held c i); kinds = λ c i. ap nought_like (sym (same_held c i)) }

-- ---- both runs

module _ (width : Width) (p : Program) (around : List (List ℕ)) (deepest : ℕ) (m : Nest) (g : Graph) (w : Place) (are : AreDeclarations w.program.declarations)
    (h : IsPrepared w.program.declarations around deepest m) (graph : IsGraphOf m g)
    (known : (x : List ℕ) → Contains (names_of p) x → Contains (names_of w.program) x) (none : (x : List ℕ) → Contains (names_of p) x → CountsNone x)
    (may : (s : State) → Starts width w s → MayRun width w.program m s) (keeps : KeepsAgreement width p w (loops_then_after m))
    (s t : State) (starts : Starts width w s) (ends : Starts width w t) (alike : GoOnAlike p s t) (sound : IsSound (does_all (fortran77 width) None (loops_then_after m) s).way) where
  abbrev k : Nest
  k = arranged m (vectors_of g.edges)

  abbrev b : Block
  b = loops_then_after m

  abbrev c : Block
  c = loops_then_after k

  abbrev t0 : State
  t0 = record t { store = clean width w.program t.store ends.holds }

  starts0 : Starts width w t0
  starts0 = record { going = ends.going; holds = clean_holds width w.program t.store ends.holds; bounds_are = ends.bounds_are }

  alike0 : GoOnAlike p s t0
  alike0 = joined p s t t0 alike (record { going = ends.going; agree = fewer p w.program t.store t0.store known (clean_agrees width w.program t.store ends.holds); rest = refl })

  one : GoOnAlike p (does_all (fortran77 width) None b s) (does_all (fortran77 width) None b t0)
  one = keeps s t0 starts starts0 alike0 sound

  sound0 : IsSound (does_all (fortran77 width) None b t0).way
  sound0 = subst IsSound (sym (ap (λ (x : State). x.way) one.rest)) sound

  both : GoOnTogether m t0 (does_all (fortran77 width) None b t0) (does_all (fortran77 width) None c t0)
  both = arranged_nest_goes_on_as_nest width w.program around deepest m g t0 are h graph (may t0 starts0) (clean_sized width w.program t.store ends.holds) sound0

  near_agrees : (x y : Store) → Near (run_nest m) x y → Agree p x y
  near_agrees x y near = record {
    bounds = λ z i. near.bounds z;
    held = λ d i here. near.held d (apart d i);
    kinds = λ d i. ap nought_like (near.held d (apart d i));
  }
    where
      apart : (d : Cell) → Contains (names_of p) d.name → is_nest_variable (run_nest m) d ≡ false
      apart d i = no_variable w.program.declarations around deepest m h d (none d.name i)

  two : GoOnAlike p (does_all (fortran77 width) None b t0) (does_all (fortran77 width) None c t0)
  two = record {
    going = both.going;
    agree = near_agrees (does_all (fortran77 width) None b t0).store (does_all (fortran77 width) None c t0).store both.beside.near;
    rest = with_rest (does_all (fortran77 width) None c t0) (does_all (fortran77 width) None b t0) (both.lines_beside.written ∙ sym both.lines.written) (both.lines_beside.input ∙ sym both.lines.input)
        (both.lines_beside.had_value ∙ sym both.lines.had_value) (both.beside.way ∙ sym both.going);
  }

  all_known : All (Contains (names_of w.program)) (names_in_block c)
  all_known = Each-All (Contains (names_of w.program)) (names_in_block c)
      (each_from (Contains (names_of w.program)) (names_in_block c)
      (λ x i. among w.program.declarations x _ (names_declared w.program.declarations around (deepest + 18) k (arranged_nest_is_prepared w.program.declarations around deepest m (vectors_of g.edges) h) x i)))

  moments : MomentsAgree w.program (does_all (fortran77 width) None c t0) (does_all (fortran77 width) None c t)
  moments = statements_keep_agreement (fortran77 width) None w.program c t0 t all_known
      (record { store = clean_back width w.program t.store ends.holds; written = refl; input = refl; had_value = refl; steps = refl; way = refl })

  three : GoOnAlike p (does_all (fortran77 width) None c t0) (does_all (fortran77 width) None c t)
  three = record {
    going = both.beside.way;
    agree = fewer p w.program (does_all (fortran77 width) None c t0).store (does_all (fortran77 width) None c t).store known moments.store;
    rest = with_rest (does_all (fortran77 width) None c t) (does_all (fortran77 width) None c t0) (sym moments.written) (sym moments.input) (sym moments.had_value) (sym moments.way);
  }

  stands : GoOnAlike p (does_all (fortran77 width) None b s) (does_all (fortran77 width) None c t)
  stands =
      joined p (does_all (fortran77 width) None b s) (does_all (fortran77 width) None b t0) (does_all (fortran77 width) None c t) one
      (joined p (does_all (fortran77 width) None b t0) (does_all (fortran77 width) None c t0) (does_all (fortran77 width) None c t) two three)

pub arranged_may_stand_for : (width : Width) → ArrangedMayStandFor width
arranged_may_stand_for width p around deepest m g w are h graph known none may keeps s t starts ends alike sound =
    stands width p around deepest m g w are h graph known none may keeps s t starts ends alike sound
