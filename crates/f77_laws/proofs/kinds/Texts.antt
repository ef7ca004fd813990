-- What a text says of names, its declarations say.
use Rattle.std.proofs.Common.{◌≡◌, ◌↔◌, ℕ, ◌^◌, ◌≤◌, nat_lt, ltb-true, lt-ltb, pos, negsuc, ℤ, arith, true, false, Option, Some, None, is_none, List, [], refl, sym, subst, ◌∙◌}
use Rattle.std.specs.List.{AllByRecursion}
use Rattle.std.proofs.lemmas.List.{length-map}
use Rattle.std.proofs.Math.Pow.{pow_mono}
use Rattle.tree.specs.declared.ops.Value.{Value}
use Rattle.tree.specs.declared.ops.Value.TheVariants.{Int, Truth}
use Rattle.tree.specs.Plain.{Program}
use Rattle.f77_laws.proofs.trees.Trees.{read_tree}
use Rattle.meaning.specs.Dialect.{Dialect}
use Rattle.meaning.specs.Store.{Store, Cell}
use Rattle.meaning.specs.Value.{is_in_range}
use Rattle.f77_grammar.specs.Statement77.{Labelled}
use Rattle.f77_grammar.specs.program.Uses.{Use77, uses_in_text}
use Rattle.f77_grammar.specs.program.Limits.{constants_of, dimension_of, bounds_of_name}
use Rattle.f77_grammar.specs.program.Tree.{bounds_or_empty, program_variables_of, declaration_of_name}
use Rattle.f77_grammar.specs.program.Program77.{ReadsStatements}
use Rattle.f77_laws.specs.Source.{IsSourceCard}
use Rattle.f77_laws.proofs.Lists.{not_both}
use Rattle.f77_laws.proofs.Variables.{declared_name, undeclared_name, variable_used}
use Rattle.f77_laws.proofs.Dimensions.{number_of_bounds}
use Rattle.f77_laws.proofs.ConstantValues.{KeepsKinds, text_constants}
use Rattle.f77_laws.proofs.NameKinds.{Knows, IsValued}
use Rattle.f77_laws.proofs.Known as known
use Rattle.f77_laws.proofs.Known.{proper_text, variable_named, declarations}
use Rattle.f77_laws.proofs.Sound.{right, values}
use Rattle.f77_laws.specs.kinds.OneRule.{HasKindInText, HasKindInTree, HasConstants, OneRuleOfKinds, SameKinds, OneRuleOfRead}
use Rattle.f77_laws.proofs.kinds.Dimensions.{in_text}
use Rattle.f77_laws.proofs.kinds.OneRule.{one_rule}

module _ (d : Dialect) (small : d.bits ≤ 126) where
  below : (n : ℕ) → nat_lt n (2 ^ d.bits) ≡ true → nat_lt n (2 ^ 126) ≡ true
  below n h = let lt = ltb-true n (2 ^ d.bits) h in let le = pow_mono small in lt-ltb n (2 ^ 126) (omega (arith, lt, le))

  -- what INTEGER holds is a literal or the negative of one
  literal_range : (v : Value) → is_in_range d.bits v ≡ true → is_in_range 126 v ≡ true
  literal_range (Int (pos n)) h = below n h
  literal_range (Int (negsuc n)) h = below n h
  literal_range (Truth t) h = refl

  module _ (text : List Labelled) (cards : AllByRecursion IsSourceCard text) (constants : HasConstants d text) where
    abbrev us : List Use77
    us = uses_in_text text

    abbrev s : Store
    s = constants_of d text

    valued : (x : List ℕ) → KeepsKinds d us s → is_none (s.bounds x) ≡ false → IsValued us s x
    valued x keeps h = by (s.bounds x) refl h
      where
        by : (o : Option (List (ℤ × ℤ))) → s.bounds x ≡ o → is_none o ≡ false → IsValued us s x
        by None e h = absurd cc
        by (Some bs) e h =
            let k = keeps x bs e in
            let c : Cell = record { name = x; subscripts = [] } in
            record { kind = k.kind c refl; range = literal_range (s.held c) (k.range c refl) }

    pub knows : Knows us s (declarations d text)
    knows = record {
      variable = λ x h. record {
        it = declaration_of_name d us s text x;
        is = declared_name d us s text (program_variables_of us) x (variable_named us x h);
        kind = refl;
        many = length-map (bounds_of_name text x) (λ b. bounds_or_empty (dimension_of d s b)) ∙ number_of_bounds text x (proper_text text cards);
      };
      other = λ x h. undeclared_name d us s text (program_variables_of us) x (λ c. not_both _ (variable_used us x c).variable h);
      constant = λ x h. valued x (text_constants d us text constants.kinds) (constants.values x h);
    }

pub one_rule_of_kinds : OneRuleOfKinds
one_rule_of_kinds d text e k small cards constants expression =
    one_rule (uses_in_text text) (constants_of d text) (declarations d text) (knows d small text cards constants) (in_text text (proper_text text cards)) e k expression.source expression.among

pub same_kinds : SameKinds
same_kinds d text e k small cards constants expression uses lists =
    let both = one_rule_of_kinds d text e k small cards constants expression in
    (λ h. (both.0 (record { kind = h; uses = uses })).kind, λ h. (both.1 (record { kind = h; lists = lists })).kind)

-- where the text is read
pub knows_of_read : (d : Dialect) (text : List Labelled) (p : Program) → d.bits ≤ 126 → AllByRecursion IsSourceCard text → ReadsStatements d text p → Knows (uses_in_text text) (constants_of d text) (declarations d text)
knows_of_read d text p small cards reads = known.knows d text small (right d text reads.sound) (values d text reads.sound) (proper_text text cards)

pub one_rule_of_read : OneRuleOfRead
one_rule_of_read d text p e k small cards reads expression =
    let us : List Use77 = uses_in_text text in
    let s : Store = constants_of d text in
    subst (λ (q : Program). HasKindInText us e k ↔ HasKindInTree us s q.declarations e k) (sym (read_tree d text p reads))
    (one_rule us s (declarations d text) (knows_of_read d text p small cards reads) (in_text text (proper_text text cards)) e k expression.source expression.among)
