-- The words of what is left behind a station, one for each minute. Only the minutes from the query's minute to the
-- row's can matter: nobody arrives before the query, and who arrives behind the row's minute is late. All other words
-- say that nothing is left.
use Rattle.std.specs.Prelude.{◌≡◌, refl, not, List, ◌++◌, ℕ, ◌+◌, ◌-◌, ◌≤◌, ◌<◌, T, leb, ltb, length, get_or, set}
use Rattle.std.specs.Prelude.{take, drop}
use Rattle.std.proofs.Common.{sym, ap, ◌∙◌, arith, leb→le, ltb→lt, nltb→le, ext_get_or}
use Rattle.std.proofs.Common.{get_or-set_same, get_or-set_other}
use Rattle.std.proofs.Math.Decide.{ℕ_discrete}
use Rattle.std.proofs.Math.Dec.{nleb→lt}
use Rattle.std.proofs.lemmas.List.{length-replicate, length-drop, length-take-le, get_or-take, get_or-drop}
use Rattle.std.proofs.lemmas.List.{get_or_append_left, get_or-append_right}
use Rattle.lists.specs.Tests.{either}
use Rattle.query_minutes.specs.Minutes.{no_points, blank}
use Rattle.query_minutes.specs.Noted.{get_d_blank}

-- z has a word for each minute, and something is left only for minutes from t to v
pub record Spans (t v : ℕ) (z : List ℕ) : Type 0 where
  pub long : length z ≡ 2880
  pub below : (m : ℕ) → m < t → get_or z m no_points ≡ no_points
  pub above : (m : ℕ) → v < m → get_or z m no_points ≡ no_points

-- at the target nothing is left to pay, by minute v
pub record Arrived (t v : ℕ) (z : List ℕ) : Type 0 where
  pub spans : Spans t v z
  pub free : (m : ℕ) → t ≤ m → m ≤ v → get_or z m no_points ≡ 0

-- new has the words that f tells from word a to before word e, and else those of old
pub record Stored (f : ℕ → ℕ) (a e : ℕ) (old new : List ℕ) : Type 0 where
  pub inside : (m : ℕ) → a ≤ m → m < e → get_or new m no_points ≡ f m
  pub before : (m : ℕ) → m < a → get_or new m no_points ≡ get_or old m no_points
  pub behind : (m : ℕ) → e ≤ m → get_or new m no_points ≡ get_or old m no_points

pub spans_blank : (t v : ℕ) → Spans t v blank
spans_blank t v =
    record {
      long = length-replicate 2880 no_points;
      below = λ m h. get_d_blank 2880 no_points m;
      above = λ m h. get_d_blank 2880 no_points m;
    }

-- what is left at some minute is left at a minute of the window
pub spans_in : (t v : ℕ) (z : List ℕ) → Spans t v z → (m : ℕ) → get_or z m no_points < no_points → (t ≤ m) × (m ≤ v)
spans_in t v z s m h = (
  either (leb t m) (leb→le t m) (λ g. absurd (omega (arith, s.below m (nleb→lt t m g)))),
  either (leb m v) (leb→le m v) (λ g. absurd (omega (arith, s.above m (nleb→lt m v g)))),
)

-- ---- a loop that stores
module _ (f : ℕ → ℕ) (a : ℕ) (old : List ℕ) where
  pub stored_none : Stored f a a old old
  stored_none = record { inside = λ m h g. absurd (omega arith); before = λ m h. refl; behind = λ m h. refl }

  module _ (i : ℕ) (z : List ℕ) (so_far : Stored f a i old z) where
    pub stored_more : (y : ℕ) → a ≤ i → i < length z → y ≡ f i → Stored f a (i + 1) old (set z i y)
    stored_more y h g e =
        record {
          inside = inside;
          before = λ m k. get_or-set_other z i m y no_points (λ q. omega arith) ∙ so_far.before m k;
          behind = λ m k. get_or-set_other z i m y no_points (λ q. omega arith) ∙ so_far.behind m (omega arith);
        }
      where
        inside : (m : ℕ) → a ≤ m → m < i + 1 → get_or (set z i y) m no_points ≡ f m
        inside m k l =
            elim (ℕ_discrete m i) [
              | yes q ↦ rw q (get_or-set_same z i y no_points g ∙ e)
              | no q ↦ get_or-set_other z i m y no_points q ∙ so_far.inside m k (omega (arith, q))
            ]

    pub stored_all : (n : ℕ) → i ≤ n → n ≤ i → Stored f a n old z
    stored_all n h g =
        record {
          inside = λ m k l. so_far.inside m k (omega arith);
          before = so_far.before;
          behind = λ m k. so_far.behind m (omega arith);
        }

-- ---- words copied from word b of another list on
module _
    (f : ℕ → ℕ)
    (src : List ℕ)
    (b a j k e : ℕ)
    (old mid : List ℕ)
    (is : mid ≡ take j (drop b src))
    (same : k ≡ j)
    (end : e ≡ a + k)
    (room : b + k ≤ length src)
    (here : a + k ≤ length old)
    (tells : (m : ℕ) → a ≤ m → m < e → get_or src (b + (m - a)) no_points ≡ f m)
  where
    abbrev rest : List ℕ
    rest = drop k (drop a old)

    first : length (take a old) ≡ a
    first = length-take-le a old (omega arith)

    long : length mid ≡ k
    long = ap length is ∙ length-take-le j (drop b src) (omega (arith, length-drop b src)) ∙ sym same

    pub stored_copy : Stored f a e old (take a old ++ (mid ++ rest))
    stored_copy =
        record {
          inside =
              λ m h g.
              get_or-append_right (take a old) (mid ++ rest) a m no_points first h
              ∙ get_or_append_left mid rest no_points (m - a) (omega (arith, long))
              ∙ ap (λ l. get_or l (m - a) no_points) is
              ∙ get_or-take j (drop b src) (m - a) no_points (omega arith)
              ∙ get_or-drop b src (m - a) no_points
              ∙ tells m h g;
          before =
              λ m h.
              get_or_append_left (take a old) (mid ++ rest) no_points m (omega (arith, first))
              ∙ get_or-take a old m no_points h;
          behind =
              λ m h.
              get_or-append_right (take a old) (mid ++ rest) a m no_points first (omega arith)
              ∙ get_or-append_right mid rest k (m - a) no_points long (omega arith)
              ∙ get_or-drop k (drop a old) (m - a - k) no_points
              ∙ get_or-drop a old (k + (m - a - k)) no_points
              ∙ ap (λ i. get_or old i no_points) (omega arith);
        }

-- ---- all words of the window stored
module _ (f : ℕ → ℕ) (t v : ℕ) (old new : List ℕ) (stored : Stored f t (v + 1) old new) (spans : Spans t v old) where
  pub stored_spans : length new ≡ length old → Spans t v new
  stored_spans e =
      record {
        long = e ∙ spans.long;
        below = λ m h. stored.before m h ∙ spans.below m h;
        above = λ m h. stored.behind m (omega arith) ∙ spans.above m h;
      }

  -- then all words are as in z, if those of the window are
  pub stored_is : (z : List ℕ) → length new ≡ length old → Spans t v z
      → ((m : ℕ) → t ≤ m → m ≤ v → f m ≡ get_or z m no_points)
      → new ≡ z
  stored_is z e s same =
      ext_get_or no_points new z (e ∙ spans.long ∙ sym s.long) (λ m h. at m)
    where
      at : (m : ℕ) → get_or new m no_points ≡ get_or z m no_points
      at m = either (ltb m t) early (λ h. either (leb m v) (within h) late)
        where
          early : T (ltb m t) → get_or new m no_points ≡ get_or z m no_points
          early h =
              let k = ltb→lt m t h in
              stored.before m k ∙ spans.below m k ∙ sym (s.below m k)

          within : T (not (ltb m t)) → T (leb m v) → get_or new m no_points ≡ get_or z m no_points
          within h g =
              let k = nltb→le m t h in
              let l = leb→le m v g in
              stored.inside m k (omega arith) ∙ same m k l

          late : T (not (leb m v)) → get_or new m no_points ≡ get_or z m no_points
          late g =
              let k = nleb→lt m v g in
              stored.behind m (omega arith) ∙ spans.above m k ∙ sym (s.above m k)
