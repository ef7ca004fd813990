-- How many copies are counted before a nest, and room for deeper expressions, is nothing that it is prepared by, nor that its run asks.
use Rattle.std.proofs.Common.{ℕ, ◌+◌, ◌≤◌, List, arith}
use Rattle.std.proofs.lemmas.List.Elements.{All-weaker}
use Rattle.emission.specs.emission_forms.Written.{HaveGuardedNames}
use Rattle.meaning.specs.Depths.{depth_of}
use Rattle.meaning.specs.Run.{State}
use Rattle.nest.specs.Bodies.{Standing, nest_statements}
use Rattle.nest.specs.Plain.{Made, Nest}
use Rattle.pass_laws.specs.prepared_nests.Made.{IsPreparedExtent, IsPreparedMade}
use Rattle.pass_laws.specs.prepared_nests.Nests.{IsPrepared}
use Rattle.pass_laws.specs.prepared_nests.Statements.{IsPreparedStatement, expressions_of}
use Rattle.pass_laws.specs.prepared_runs.Running.{MayRun, setting_at}
use Rattle.tree.specs.Plain.{Declaration, Expression, Program}
use Rattle.listing.specs.programs.Stages.{with_copies_before}
use Rattle.tree.specs.declared.width.Width.{Width}

module _ (es : List Declaration) (around : List (List ℕ)) (deepest : ℕ) (n : Nest) (copies : ℕ) where
  statement_counted : (x : Standing) → IsPreparedStatement es n deepest x → IsPreparedStatement es (with_copies_before copies n) deepest x
  statement_counted x h = record {
    line = h.line;
    plain = h.plain;
    names = h.names;
    target = h.target;
    free = h.free;
    kind = h.kind;
    left = h.left;
    right = h.right;
    guard = h.guard;
    deep = h.deep;
    canonical = h.canonical;
  }

  pub prepared_counted : IsPrepared es around deepest n → IsPrepared es around deepest (with_copies_before copies n)
  prepared_counted h = record {
    plain = h.plain;
    parts = record {
      line = h.parts.line;
      number = h.parts.number;
      symbols = h.parts.symbols;
      ordered = h.parts.ordered;
      few = h.parts.few;
      loops = h.parts.loops;
      once = h.parts.once;
      statements = All-weaker (IsPreparedStatement es n deepest) (IsPreparedStatement es (with_copies_before copies n) deepest)
          statement_counted (nest_statements n) h.parts.statements;
      made = h.parts.made;
      made_once = h.parts.made_once;
      after = h.parts.after;
      source = h.parts.source;
      outside = h.parts.outside;
    };
  }

-- ---- what is no deeper is none the less prepared

module _ (es : List Declaration) (around : List (List ℕ)) (deepest more : ℕ) where
  extent_deeper : (symbols : List (List ℕ)) (e : Expression) → IsPreparedExtent es symbols deepest e
      → IsPreparedExtent es symbols (deepest + more) e
  extent_deeper symbols e h =
      let least = h.deep in
      record { plain = h.plain; names = h.names; kind = h.kind; deep = omega (arith, least); value = h.value }

  array_deeper : (symbols : List (List ℕ)) (a : Made) → IsPreparedMade es symbols deepest a
      → IsPreparedMade es symbols (deepest + more) a
  array_deeper symbols a h = record {
    made = h.made;
    counter = h.counter;
    declaration = h.declaration;
    extents = All-weaker (IsPreparedExtent es symbols deepest) (IsPreparedExtent es symbols (deepest + more))
        (extent_deeper symbols) a.extents h.extents;
    few = h.few;
  }

  statement_deeper : (m : Nest) (x : Standing) → IsPreparedStatement es m deepest x
      → IsPreparedStatement es m (deepest + more) x
  statement_deeper m x h = record {
    line = h.line;
    plain = h.plain;
    names = h.names;
    target = h.target;
    free = h.free;
    kind = h.kind;
    left = h.left;
    right = h.right;
    guard = h.guard;
    deep = All-weaker (λ (e : Expression). depth_of e ≤ deepest) (λ (e : Expression). depth_of e ≤ deepest + more)
        (λ e least. omega (arith, least)) (expressions_of x.statement) h.deep;
    canonical = h.canonical;
  }

  pub nothing_deeper : (m : Nest) → IsPrepared es around deepest m → IsPrepared es around (deepest + more) m
  nothing_deeper m h =
      let p = h.parts in
      let least = p.after.deep in
      record {
        plain = h.plain;
        parts = record {
          line = p.line;
          number = p.number;
          symbols = p.symbols;
          ordered = p.ordered;
          few = p.few;
          loops = p.loops;
          once = p.once;
          statements = All-weaker (IsPreparedStatement es m deepest) (IsPreparedStatement es m (deepest + more))
              (statement_deeper m) (nest_statements m) p.statements;
          made = All-weaker (IsPreparedMade es m.symbols deepest) (IsPreparedMade es m.symbols (deepest + more))
              (array_deeper m.symbols) m.made p.made;
          made_once = p.made_once;
          after = record {
            endings = p.after.endings;
            names = p.after.names;
            profile = p.after.profile;
            deep = omega (arith, least);
          };
          source = p.source;
          outside = p.outside;
        };
      }

-- ---- a run

module _ (width : Width) (p : Program) (n : Nest) (copies : ℕ) (u : State) where
  abbrev pub run_uncounted : MayRun width p (with_copies_before copies n) u → MayRun width p n u
  run_uncounted h =
      record { going = h.going; holds = h.holds; values = h.values; valued = h.valued; made = h.made }

  pub names_counted : ((h : MayRun width p n u) → HaveGuardedNames n (setting_at width h)) → (h : MayRun width p (with_copies_before copies n) u)
      → HaveGuardedNames (with_copies_before copies n) (setting_at width h)
  names_counted f h s less guarded =
      let names = f (run_uncounted h) s less guarded in record { declared = names.declared; made = names.made }
