-- Words set to 0 one by one.
use Rattle.std.specs.Prelude.{◌≡◌, List, ℕ, ◌+◌, ◌≤◌, ◌<◌, length, get_or, set, replicate}
use Rattle.std.proofs.Common.{ap, ◌∙◌, arith, get_or-set_same, get_or-set_other}
use Rattle.std.proofs.Math.Decide.{ℕ_discrete, dec_lt}
use Rattle.std.proofs.lemmas.List.{get_or-replicate, length-replicate}
use Rattle.std.proofs.Math.ListN.{get_or-eq_default}

-- the first n words are 0
unfoldable pub ZeroTo : ℕ → List ℕ → Type 0
ZeroTo n v = (k : ℕ) → k < n → get_or v k 0 ≡ 0

pub zero_none : (v : List ℕ) → ZeroTo 0 v
unfolding ZeroTo
zero_none v k h = absurd (omega arith)

pub zero_more : (v v' : List ℕ) (n i m : ℕ) → n ≡ m → length v ≡ m → i < n → ZeroTo i v → v' ≡ set v i 0
    → ZeroTo (i + 1) v'
unfolding ZeroTo
zero_more v v' n i m long same h z put k g =
    ap (λ l. get_or l k 0) put
    ∙ elim (ℕ_discrete k i) [
      | yes e ↦ rw e (get_or-set_same v i 0 0 (omega arith))
      | no e ↦ get_or-set_other v i k 0 0 e ∙ z k (omega arith)
    ]

pub zero_all : (v : List ℕ) (n i m : ℕ) → n ≡ m → n ≤ i → ZeroTo i v → ZeroTo m v
unfolding ZeroTo
zero_all v n i m e h z k g = z k (omega arith)

-- all words are 0
pub zero_each : (v : List ℕ) (n : ℕ) → length v ≡ n → ZeroTo n v → (k : ℕ) → get_or v k 0 ≡ 0
unfolding ZeroTo
zero_each v n long z k =
    elim (dec_lt k n) [ yes h ↦ z k h | no h ↦ get_or-eq_default v 0 (omega arith) ]

pub zero_replicate : (n k : ℕ) → ◌≡◌ {A = ℕ} (get_or (replicate n 0) k 0) 0
zero_replicate n k =
    elim (dec_lt k n) [
      | yes h ↦ get_or-replicate n k 0 0 h
      | no h ↦ get_or-eq_default (replicate n 0) 0 (omega (arith, length-replicate {A = ℕ} n 0))
    ]
