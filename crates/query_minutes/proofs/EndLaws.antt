-- The least penalty of all minutes, and the minutes behind the first that has it.
use mathlib.Core.Path.{◌≡◌, refl, ap, subst}
use mathlib.Core.Bool.{Bool, true}
use mathlib.Core.List.{List, [], ◌∷◌}
use Prim.Native.Nat.{ℕ, suc, ◌+◌, ◌≤◌, ◌<◌, min}
use native.Mathlib.Omega.{arith}
use native.Mathlib.Decide.{dec_lt}
use borrow.Author.Tests.{le-ltb, leb-true}
use lib.Dec.{leb}
use lib.ListN.{length, get_or, drop, length-drop}
use lib.Seq.{get_or-drop}
use Rattle.query_minutes.specs.Minutes.{leads}
use Rattle.query_minutes.specs.Ending.{Floor, LeadsEnd}

module _ (best : List ℕ) where
  pub floor_none : (low : ℕ) → Floor low 0 best
  floor_none low = record { under = λ m h. absurd (omega arith) }

  pub floor_more : (low m x r : ℕ) → Floor low m best → x ≡ get_or best m 0 → r ≡ min low x → Floor r (m + 1) best
  floor_more low m x r f is e = record { under = under }
    where
      under : (j : ℕ) → j < m + 1 → r ≤ get_or best j 0
      under j h =
          elim (dec_lt j m) [
            | yes g ↦ omega (arith, f.under j g, e)
            | no g ↦ let same : j ≡ m = omega arith in omega (arith, e, is, ap (λ i. get_or best i 0) same)
          ]

  pub floor_all : (low m : ℕ) → Floor low m best → 2880 ≤ m → Floor low 2880 best
  floor_all low m f h = record { under = λ j g. f.under j (omega arith) }

  -- the first minute that has the least
  pub end_here : (low m x : ℕ) (r : Bool) → Floor low 2880 best → x ≡ get_or best m 0 → r ≡ leb x low → r ≡ true
      → m < 2880
      → LeadsEnd best (m + 1)
  end_here low m x r f is e h inside =
      record {
        few = omega arith;
        over =
            λ least g.
            record {
              under =
                  λ j k. omega (arith, g.under m (omega arith), is, leb-true x low (sym_is e h), f.under j k);
            };
      }
    where
      sym_is : r ≡ leb x low → r ≡ true → leb x low ≡ true
      sym_is p q = subst (λ b. b ≡ true) p q

  pub end_late : (m : ℕ) → m ≤ 2880 → 2880 ≤ m → LeadsEnd best m
  end_late m h g =
      record { few = h; over = λ least f. record { under = λ j k. f.under j (omega arith) } }

-- nothing leads where nothing is below the least
none_lead : (l : List ℕ) (least a : ℕ) → ((j : ℕ) → j < length l → least ≤ get_or l j 0) → leads least a l ≡ []
unfolding leads
none_lead [] least a h = refl
none_lead (x ∷ l) least a h =
    rw (le-ltb x least (h 0 (omega arith))) (none_lead l least (suc a) (λ j g. h (suc j) (omega arith)))

pub leads_over : (best : List ℕ) (least m : ℕ) → length best ≡ 2880 → Floor least 2880 best
    → leads least m (drop m best) ≡ []
leads_over best least m long f = none_lead (drop m best) least m above
  where
    above : (j : ℕ) → j < length (drop m best) → least ≤ get_or (drop m best) j 0
    above j h = omega (arith, get_or-drop m best j 0, f.under (m + j) (omega (arith, length-drop m best)))
