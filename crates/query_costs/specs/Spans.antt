-- Spans of minutes: the words that may have changed.
use Rattle.std.specs.Prelude.{◌≡◌, refl, cond, List, ℕ, ◌+◌, ◌≤◌, ◌<◌, min, max, ltb, length, get_or, set}
use Rattle.std.proofs.Common.{sym, ap, subst, ◌∙◌, arith, lt-ltb, le-ltb, get_or-set_other}
use Rattle.std.proofs.Math.Decide.{dec_lt}
use Rattle.std.proofs.Math.Seq.{set_out}
use Rattle.query_minutes.specs.Minutes.{no_points}
use Rattle.query_costs.specs.declared.Span.{Span}

-- outside the span the words are as they were
pub record Within (s : Span) (old new : List ℕ) : Type 0 where
  pub short : s.to ≤ 2880
  pub below : (m : ℕ) → m < s.from → get_or new m no_points ≡ get_or old m no_points
  pub above : (m : ℕ) → s.to ≤ m → get_or new m no_points ≡ get_or old m no_points

-- the span with a minute more; one behind the two days is left out
unfoldable pub widened : Span → (m : ℕ) → Span
widened s m = cond (ltb m 2880) (record { from = min s.from m; to = max s.to (m + 1) }) s

module _ (s : Span) (m : ℕ) where
  pub widened_late : 2880 ≤ m → s ≡ widened s m
  unfolding widened
  widened_late h = rw (le-ltb m 2880 h)

  pub widened_more : m < 2880 → (from to : ℕ) → from ≡ min s.from m → to ≡ max s.to (m + 1)
      → record { from = from; to = to } ≡ widened s m
  unfolding widened
  widened_more h from to e f = rw (lt-ltb m 2880 h) (λ i. record { from = e i; to = f i })

  pub widened_low : s.from ≤ 2880 → (widened s m).from ≤ 2880
  widened_low h =
      elim (dec_lt m 2880) [
        | yes g ↦ omega (arith, ap (λ s. s.from) (widened_more g (min s.from m) (max s.to (m + 1)) refl refl))
        | no g ↦ omega (arith, ap (λ s. s.from) (widened_late (omega arith)))
      ]

-- ---- words that change within a span

-- none at all
pub within_none : (s : Span) → s.to ≤ 2880 → (old new : List ℕ) → new ≡ old → Within s old new
within_none s h old new e =
    record {
      short = h;
      below = λ m g. ap (λ l. get_or l m no_points) e;
      above = λ m g. ap (λ l. get_or l m no_points) e;
    }

pub within_from : (s : Span) (old same new : List ℕ) → same ≡ old → Within s same new → Within s old new
within_from s old same new e = subst (λ l. Within s l new) e

-- one word more
module _ (s : Span) (old best : List ℕ) (long : length best ≡ 2880) (is : Within s old best) (m x : ℕ) where
  pub within_more : Within (widened s m) old (set best m x)
  within_more = elim (dec_lt m 2880) [ yes h ↦ noted h | no h ↦ left (omega arith) ]
    where
      left : 2880 ≤ m → Within (widened s m) old (set best m x)
      left h =
          subst
          (λ l. Within (widened s m) old l)
          (sym (set_out best m x (omega (arith, long))))
          (subst (λ s. Within s old best) (widened_late s m h) is)

      noted : m < 2880 → Within (widened s m) old (set best m x)
      noted h =
          subst
          (λ s. Within s old (set best m x))
          (widened_more s m h (min s.from m) (max s.to (m + 1)) refl refl)
          (record { short = omega (arith, is.short); below = below; above = above })
        where
          below : (k : ℕ) → k < min s.from m → get_or (set best m x) k no_points ≡ get_or old k no_points
          below k g = get_or-set_other best m k x no_points (λ e. omega arith) ∙ is.below k (omega arith)

          above : (k : ℕ) → max s.to (m + 1) ≤ k → get_or (set best m x) k no_points ≡ get_or old k no_points
          above k g = get_or-set_other best m k x no_points (λ e. omega arith) ∙ is.above k (omega arith)
