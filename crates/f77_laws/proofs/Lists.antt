-- Members of lists, and what holds of each.
pub use Rattle.f77_laws.proofs.trees.Lists.{left_true, right_true, left_false, right_false, or_right, both_false}
pub use Rattle.f77_laws.proofs.trees.Lists.{not_both, negated, affirmed, here, there, nowhere, cases_of, all_left}
pub use Rattle.f77_laws.proofs.trees.Lists.{all_right, all_both, all_weaker, all_at, all_of, none_any, all_true}
pub use Rattle.f77_laws.proofs.trees.Lists.{any_true, Found, found, in_flat, FromFlat, from_flat, none_left}
