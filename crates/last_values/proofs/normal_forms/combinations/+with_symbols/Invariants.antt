use Rattle.last_values.proofs.normal_forms.combinations.+with_symbols.Given as goal

abbrev pub decreases-with_symbols : goal.decreases-with_symbols
decreases-with_symbols l = l.count
