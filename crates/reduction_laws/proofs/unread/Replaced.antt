-- The statement in a loop's place, from moments that are alike.
use Rattle.std.proofs.Common.{◌≡◌, sym, ◌∙◌, subst, ℕ, List, None}
use mathlib.Core.Path.{fun_ext}
use Rattle.tree.specs.Plain.{Statement, no_statements, statement}
use Rattle.meaning.specs.Dialect.{Dialect}
use Rattle.meaning.specs.Run.{State, Going, does}
use Rattle.rewrite.specs.Following.{IsSound}
use Rattle.nest_order.specs.orders.Lists.{In}
use Rattle.reductions.specs.Gathering.{Lines, Loop, form_of, listed, loop_of, section_of, tested}
use Rattle.reduction_laws.specs.gathering.Gathering.{GoesOnBut}
use Rattle.reduction_laws.specs.unread.Replaced.{FollowsAs, ReplacedLoopFollows}
use Rattle.reduction_laws.proofs.gathering.Law.{gathering_is_form, gathering_is_plain_form}
use Rattle.reduction_laws.proofs.gathering.Section.{gathering_is_section, gathering_is_plain_section}
use Rattle.reduction_laws.proofs.unread.Law.{kept_statements_follow}

follows : (y : Lines) (lang : Dialect) (l : Loop) (c : Statement) (xs : List (List ℕ)) (s t : State) → In l.variable xs
    → ((does lang None (loop_of y l) s).way ≡ Going → GoesOnBut l.variable (does lang None (loop_of y l) s) (does lang None c s))
    → FollowsAs y lang l c xs s t
follows y lang l c xs s t i law kept w a =
    let g = law w in
    let sound : IsSound (does lang None c s).way = subst IsSound (sym g.going) tt in
    let b = kept_statements_follow lang xs (statement c no_statements) (kept, tt) s t a sound in
    record {
      store = record {
        bounds = fun_ext (λ x. sym (g.bounds x)) ∙ b.store.bounds;
        held = λ d n. sym (g.held d (n l.variable i)) ∙ b.store.held d n;
      };
      written = sym g.written ∙ b.written;
      input = sym g.input ∙ b.input;
      had_value = sym g.had_value ∙ b.had_value;
      way = w ∙ (sym g.going ∙ b.way);
    }

pub replaced_loop_follows : ReplacedLoopFollows
replaced_loop_follows lang l y z xs s t i ok may = (
  record {
    tested = follows y lang l (tested z l (form_of z l (listed l.variable l.trip l.operand))) xs s t i (gathering_is_form lang l y z s ok may);
    plain = λ n e h. follows y lang l (form_of z l (listed l.variable l.trip l.operand)) xs s t i (gathering_is_plain_form lang l y z s n ok may e h);
  },
  λ m. record {
    tested = follows y lang l (tested z l (form_of z l (section_of l.variable l.trip l.operand))) xs s t i (gathering_is_section lang l y z s ok may m);
    plain = λ n e h. follows y lang l (form_of z l (section_of l.variable l.trip l.operand)) xs s t i (gathering_is_plain_section lang l y z s n ok may m e h);
  },
)
