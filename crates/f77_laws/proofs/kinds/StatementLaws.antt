-- Kinds suit in a statement of a text where they suit in what the tree has of it, and else the cause TypeClash holds.
use Rattle.std.proofs.Common.{◌≡◌, ◌↔◌, false, not, ◌||◌, List, [], ◌∷◌, ap, sym, subst, refl, Contains}
use Rattle.std.specs.List.{AllByRecursion, list_any}
use Rattle.tree.specs.Plain.{Program}
use Rattle.f77_laws.proofs.trees.Trees.{read_tree}
use Rattle.meaning.specs.Store.{Store}
use Rattle.f77_grammar.specs.Statement77.{Labelled, Statement77, Declare, Dimension, Constants}
use Rattle.f77_grammar.specs.program.Text.{is_declaration}
use Rattle.f77_grammar.specs.program.Uses.{Use77, uses77_of, uses_in_text}
use Rattle.f77_grammar.specs.program.Declarations.{is_misused, has_misused_name}
use Rattle.f77_grammar.specs.program.Kinds.{suits, calls_hidden}
use Rattle.f77_grammar.specs.program.Limits.{constants_of}
use Rattle.f77_laws.specs.Source.{IsSourceCard}
use Rattle.f77_laws.proofs.Lists.{left_false, right_false, both_false, affirmed, none_any, all_at, all_of, in_flat}
use Rattle.f77_laws.proofs.Known.{proper_text, declarations}
use Rattle.f77_laws.specs.kinds.OneRule.{IsRightUse}
use Rattle.f77_laws.specs.kinds.StatementRule.{SuitsInText, SuitsInTree, IsStatementOf, OneRuleOfStatements, OneRuleOfReadStatements, ClashesByTree}
use Rattle.f77_laws.proofs.kinds.Dimensions.{in_text}
use Rattle.f77_laws.proofs.kinds.Texts.{knows, knows_of_read}
use Rattle.f77_laws.proofs.kinds.Statements.{one_rule}

pub one_rule_of_statements : OneRuleOfStatements
one_rule_of_statements d text c line w small cards constants statement placed =
    one_rule (uses_in_text text) (constants_of d text) (declarations d text) (knows d small text cards constants) (in_text text (proper_text text cards)) line c w placed statement.source statement.declares_nothing statement.among

pub one_rule_of_read : OneRuleOfReadStatements
one_rule_of_read d text p c line w small cards reads statement placed =
    let us : List Use77 = uses_in_text text in
    let s : Store = constants_of d text in
    subst (λ (q : Program). SuitsInText us c ↔ SuitsInTree us s q.declarations c line w) (sym (read_tree d text p reads))
    (one_rule us s (declarations d text) (knows_of_read d text p small cards reads) (in_text text (proper_text text cards)) line c w placed statement.source statement.declares_nothing statement.among)

-- ---- the cause TypeClash

statement_of : (text : List Labelled) (x : Labelled) → AllByRecursion IsSourceCard text → Contains text x → is_declaration x.statement ≡ false → IsStatementOf text x.statement
statement_of text x cards c n = record {
  source = (all_at IsSourceCard text x cards c).statement;
  declares_nothing = n;
  among = all_of (Contains (uses_in_text text)) (uses77_of x.statement) (λ u g. in_flat (λ (y : Labelled). uses77_of y.statement) text x u c g);
}

module _ (us : List Use77) where
  misused : (c : Statement77) → is_declaration c ≡ false → has_misused_name us c ≡ false → list_any (is_misused us) (uses77_of c) ≡ false
  misused (Declare k es) n h = absurd cc
  misused (Dimension es) n h = absurd cc
  misused (Constants ds) n h = absurd cc
  misused c n h = h

  none_hidden : (vs : List Use77) → AllByRecursion (IsRightUse us) vs → list_any (calls_hidden us) vs ≡ false
  none_hidden [] h = refl
  none_hidden (v ∷ vs) h = both_false (calls_hidden us v) (list_any (calls_hidden us) vs) h.0.shown (none_hidden vs h.1)

  all_right : (vs : List Use77) → AllByRecursion (λ v. is_misused us v ≡ false) vs → AllByRecursion (λ v. calls_hidden us v ≡ false) vs → AllByRecursion (IsRightUse us) vs
  all_right [] h g = tt
  all_right (v ∷ vs) h g = (record { suits = h.0; shown = g.0 }, all_right vs h.1 g.1)

  unclashed : (c : Statement77) → is_declaration c ≡ false → has_misused_name us c ≡ false → (not (suits us c) || list_any (calls_hidden us) (uses77_of c)) ≡ false → SuitsInText us c
  unclashed c n m h = record {
    kinds = affirmed (suits us c) (left_false (not (suits us c)) (list_any (calls_hidden us) (uses77_of c)) h);
    uses = all_right (uses77_of c) (none_any (is_misused us) (uses77_of c) (misused c n m)) (none_any (calls_hidden us) (uses77_of c) (right_false (not (suits us c)) (list_any (calls_hidden us) (uses77_of c)) h));
  }

  no_clash : (c : Statement77) → SuitsInText us c → (not (suits us c) || list_any (calls_hidden us) (uses77_of c)) ≡ false
  no_clash c h = both_false (not (suits us c)) (list_any (calls_hidden us) (uses77_of c)) (ap not h.kinds) (none_hidden (uses77_of c) h.uses)

pub clashes_by_tree : ClashesByTree
clashes_by_tree d text p w small cards constants c n m placed =
    let both = one_rule_of_statements d text p.here.statement p.here.line w small cards constants (statement_of text p.here cards c n) placed in (
      λ h. both.0 (unclashed (uses_in_text text) p.here.statement n m h),
      λ h. no_clash (uses_in_text text) p.here.statement (both.1 h),
    )
