-- A replacement as a plain one, and its laws.
use Rattle.std.specs.Prelude.{ℕ, ℤ, List}
use Rattle.std.specs.Str.{bytes_eq}
use Rattle.tree.specs.View.{expression_of}
use Rattle.meaning.specs.Names.{is_among}
use Rattle.rewrite.specs.Following.{sequential}
use Rattle.rewrite.specs.Replacing.{Replacing, replacing, replacing_suits, ValueStandsFor}
use Rattle.rewrite.specs.Rule.{IsRule}
use Rattle.rewrite.proofs.Replacing.{replacing_is_rule}
use Rattle.form_rules.specs.declared.replacement.Replacement.{Replacement}

abbrev pub replacing_of : Replacement → Replacing
replacing_of r = record {
  variable = r.variable;
  by = expression_of r.by;
  news = λ x. bytes_eq x r.new;
  fixed = λ x. is_among r.fixed x;
}

pub replacement_keeps : (r : Replacement) (bits : ℕ) (turns : List ℤ)
    → IsRule (sequential bits) (replacing (replacing_of r)) (replacing_suits (replacing_of r))
    (ValueStandsFor (replacing_of r) bits)
replacement_keeps r bits turns = replacing_is_rule (replacing_of r) bits
