-- To lower a word of a list, as a query does, under a name that does not unfold: the laws of the passes speak of it.
use Rattle.std.specs.Prelude.{◌≡◌, ◌≢◌, List}
use Rattle.std.proofs.Common.{ap, arith}
use Prim.Native.Nat.{ℕ, ◌≤◌, ◌<◌, min}
use Rattle.std.proofs.Math.Decide.{dec_lt}
use Rattle.std.proofs.Math.ListN.{length, get_or, length-set, get_or-eq_default}
use Rattle.std.proofs.Math.Seq.{get_or-set_same, get_or-set_other, set_out}
use Rattle.query_minutes.specs.Minutes.{lowered as noted}

-- the words with the one at place k lowered to x, if it is higher
unfoldable pub lowered : (k x : ℕ) → List ℕ → List ℕ
lowered k x l = noted l k x

module _ (l : List ℕ) (k x : ℕ) where
  pub lowered_length : length (lowered k x l) ≡ length l
  unfolding lowered
  lowered_length = length-set l k (min (get_or l k 0) x)

  pub lowered_else : (j : ℕ) → j ≢ k → get_or (lowered k x l) j 0 ≡ get_or l j 0
  unfolding lowered
  lowered_else j h = get_or-set_other l k j (min (get_or l k 0) x) 0 h

  pub lowered_out : length l ≤ k → lowered k x l ≡ l
  unfolding lowered
  lowered_out h = set_out l k (min (get_or l k 0) x) h

  pub lowered_here : get_or (lowered k x l) k 0 ≡ min (get_or l k 0) x
  unfolding lowered
  lowered_here = elim (dec_lt k (length l)) [ yes h ↦ inside h | no h ↦ outside (omega arith) ]
    where
      inside : k < length l → get_or (lowered k x l) k 0 ≡ min (get_or l k 0) x
      inside h = get_or-set_same l k (min (get_or l k 0) x) 0 h

      outside : length l ≤ k → get_or (lowered k x l) k 0 ≡ min (get_or l k 0) x
      outside h =
          let z : get_or l k 0 ≡ 0 = get_or-eq_default l 0 {n = k} h in
          omega (arith, ap (λ m. get_or m k 0) (lowered_out h))

  -- as code goes about it
  pub lowered_noted : (new : List ℕ) → new ≡ noted l k x → new ≡ lowered k x l
  unfolding lowered
  lowered_noted new e = e
