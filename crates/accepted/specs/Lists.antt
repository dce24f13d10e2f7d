-- Laws of lists that the kit does not have.
use Rattle.std.specs.Prelude.{◌≡◌, List, [], ◌∷◌, ◌++◌, ℕ, ◌+◌, length, get_or, drop}
use Rattle.std.proofs.Common.{sym, ap, ◌∙◌, length-append, get_or-drop, drop-drop, drop_at, add-zero}

-- ---- one more at the end
pub snoc_length : {A : Type 0} (done : List A) (x : A) → length (done ++ (x ∷ [])) ≡ length done + 1
snoc_length done x = length-append done (x ∷ [])

-- ---- a list from index i on
module _ (w : List ℕ) (i : ℕ) where
  pub head_at : (x : ℕ) (l : List ℕ) → drop i w ≡ x ∷ l → get_or w i 0 ≡ x
  head_at x l e = ap (λ k. get_or w k 0) (sym (add-zero i)) ∙ sym (get_or-drop i w 0 0) ∙ ap (λ r. get_or r 0 0) e

  pub past_at : (n : ℕ) (a b : List ℕ) → length a ≡ n → drop i w ≡ a ++ b → drop (i + n) w ≡ b
  past_at n a b h e = sym (drop-drop n i w) ∙ ap (drop n) e ∙ drop_at a b n h
