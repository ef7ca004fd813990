-- What follows keywords, told in one way.
use Rattle.std.proofs.Common.{◌≡◌, ℕ, List, ◌∷◌, ◌++◌, sym, ◌∙◌, inl, inr}
use Rattle.f90_grammar.specs.Forms.{Either, EitherHead, IsTransfer}
use Rattle.f90_grammar.specs.Words as words
use Rattle.f90_grammar.specs.Words.{Word90}

behind_two : (a b : List ℕ) (us vs : List Word90)
    → words.Name a ∷ (words.Name b ∷ us) ≡ words.Name a ∷ (words.Name b ∷ vs) → us ≡ vs
behind_two a b us vs e = cc

behind_one : (x : List ℕ) (us vs : List Word90) → words.Name x ∷ us ≡ words.Name x ∷ vs → us ≡ vs
behind_one x us vs e = cc

first_name : (x y : List ℕ) (us vs : List Word90) → words.Name x ∷ us ≡ words.Name y ∷ vs → x ≡ y
first_name x y us vs e = cc

pub one_rest : (a b : List ℕ) (us vs ws : List Word90) → (a ≡ a ++ b → ⊥) → Either a b us ws → Either a b vs ws → us ≡ vs
one_rest a b us vs ws n (inl h) (inl k) = behind_two a b us vs (sym h ∙ k)
one_rest a b us vs ws n (inl h) (inr k) = absurd (n (first_name a (a ++ b) (words.Name b ∷ us) vs (sym h ∙ k)))
one_rest a b us vs ws n (inr h) (inl k) = absurd (n (first_name a (a ++ b) (words.Name b ∷ vs) us (sym k ∙ h)))
one_rest a b us vs ws n (inr h) (inr k) = behind_one (a ++ b) us vs (sym h ∙ k)

behind_head : (x : List ℕ) (us vs : List Word90) → words.Head x ∷ us ≡ words.Head x ∷ vs → us ≡ vs
behind_head x us vs e = cc

behind_two_heads : (a b : List ℕ) (us vs : List Word90)
    → words.Name a ∷ (words.Head b ∷ us) ≡ words.Name a ∷ (words.Head b ∷ vs) → us ≡ vs
behind_two_heads a b us vs e = cc

no_name : (a b : List ℕ) (us vs : List Word90) → words.Name a ∷ us ≡ words.Head b ∷ vs → ⊥
no_name a b us vs e = cc

pub one_rest_of_heads : (a b : List ℕ) (us vs ws : List Word90) → EitherHead a b us ws → EitherHead a b vs ws → us ≡ vs
one_rest_of_heads a b us vs ws (inl h) (inl k) = behind_two_heads a b us vs (sym h ∙ k)
one_rest_of_heads a b us vs ws (inl h) (inr k) = absurd (no_name a (a ++ b) (words.Head b ∷ us) vs (sym h ∙ k))
one_rest_of_heads a b us vs ws (inr h) (inl k) = absurd (no_name a (a ++ b) (words.Head b ∷ vs) us (sym k ∙ h))
one_rest_of_heads a b us vs ws (inr h) (inr k) = behind_head (a ++ b) us vs (sym h ∙ k)

pub one_list : (a b : List ℕ) (us vs ws : List Word90) → IsTransfer a b us ws → IsTransfer a b vs ws → us ≡ vs
one_list a b us vs ws (inl h) (inl k) = let e = sym h ∙ k in cc e
one_list a b us vs ws (inl h) (inr k) = let e = sym h ∙ k in absurd (cc e)
one_list a b us vs ws (inr h) (inl k) = let e = sym h ∙ k in absurd (cc e)
one_list a b us vs ws (inr h) (inr k) = let e = sym h ∙ k in cc e
