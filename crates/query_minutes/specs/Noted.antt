-- The costs that the code finds: after all rides are noted, the penalty kept for a minute is the least of the rides
-- that arrive then; and the costs that lead are those below all that are earlier, in rising order.
use Rattle.std.specs.Prelude.{◌≡◌, Bool, true, false, not, cond, ◌⊎◌, ◌↔◌, T, ltb, replicate}
use Rattle.std.proofs.Math.Path.{refl}
use Rattle.std.proofs.Common.{sym, ap, ◌∙◌, inr, ltb→lt, lt→ltb, nltb→le, get_or-set_same, get_or-set_other}
use Rattle.std.proofs.Math.Logic.{inl}
use mathlib.Core.List.Memᴰ.{head as here}
use mathlib.Core.List.Memᴰ.{tail as there}
use mathlib.Core.List.{List, [], ◌∷◌}
use Prim.Native.Nat.{ℕ, zero, suc, ◌+◌, ◌≤◌, ◌<◌, min}
use native.Mathlib.Omega.{arith, min_cases}
use Rattle.std.proofs.Math.Decide.{ℕ_discrete}
use Rattle.std.proofs.Math.ListN.{length, get_or, length-set}
use Rattle.std.proofs.lemmas.List.{length-replicate}
use Rattle.lists.specs.Lists.{◌∈◌}
use Rattle.lists.specs.Tests.{either, T_true, T_false}
use Rattle.lists.specs.Members.{none, cons_cases}
use Rattle.results.specs.Results.{Cost}
use Rattle.connections.specs.Rides.{Ride}
use Rattle.query_minutes.specs.Minutes.{noted, note_all, leads}

-- what is read past the end matters only past the end
pub get_d_any : (l : List ℕ) (i d e : ℕ) → i < length l → get_or l i d ≡ get_or l i e
get_d_any [] i d e h = absurd (omega arith)
get_d_any (x ∷ l) zero d e h = refl
get_d_any (x ∷ l) (suc i) d e h = get_d_any l i d e (omega arith)

pub get_d_blank : (n a i : ℕ) → get_or (replicate n a) i a ≡ a
get_d_blank zero a i = refl
get_d_blank (suc n) a zero = refl
get_d_blank (suc n) a (suc i) = get_d_blank n a i

same_cost : (x y : Cost) → x.minutes ≡ y.minutes → x.points ≡ y.points → x ≡ y
same_cost x y h g = λ i. record { minutes = h i; points = g i }

pub length_noted : (l : List Ride) (best : List ℕ) → length (note_all best l) ≡ length best
unfolding note_all
length_noted [] best = refl
length_noted (r ∷ l) best =
    length_noted l (noted best r) ∙ length-set best r.arrive (min (get_or best r.arrive 0) r.points)

-- one minute more
module _ (least a x : ℕ) (l : List ℕ) where
  leads_more : T (ltb x least) → leads least a (x ∷ l) ≡ record { minutes = a; points = x } ∷ leads x (suc a) l
  unfolding leads
  leads_more t = rw (T_true (ltb x least) t)

  leads_skip : T (not (ltb x least)) → leads least a (x ∷ l) ≡ leads least (suc a) l
  unfolding leads
  leads_skip t = rw (T_false (ltb x least) t)

-- Penalties are read from the array with inf past its end.
module _ (inf : ℕ) where
  -- a ride of the list arrives at minute m with penalty p
  pub record Arrives (l : List Ride) (m p : ℕ) : Type 0 where
    pub ride : Ride
    pub listed : ride ∈ l
    pub at : ride.arrive ≡ m
    pub costs : ride.points ≡ p

  -- ---- one ride noted
  module _ (best : List ℕ) (r : Ride) (h : r.arrive < length best) where
    noted_here : (m : ℕ) → m ≡ r.arrive → get_or (noted best r) m inf ≡ min (get_or best m inf) r.points
    noted_here m e =
        rw
        e
        (get_or-set_same best r.arrive (min (get_or best r.arrive 0) r.points) inf h
        ∙ ap (λ x. min x r.points) (get_d_any best r.arrive 0 inf h))

    noted_other : (m : ℕ) → ¬ (m ≡ r.arrive) → get_or (noted best r) m inf ≡ get_or best m inf
    noted_other m e = get_or-set_other best r.arrive m (min (get_or best r.arrive 0) r.points) inf e

    noted_low : (m : ℕ) → get_or (noted best r) m inf ≤ get_or best m inf
    noted_low m =
        elim (ℕ_discrete m r.arrive) [
          | yes e ↦ omega (arith, noted_here m e)
          | no e ↦ omega (arith, noted_other m e)
        ]

    -- the penalty for minute m is the old one or that of the ride
    abbrev Stems : ℕ → Type 0
    Stems m =
        (get_or (noted best r) m inf ≡ get_or best m inf) ⊎ ((r.arrive ≡ m) × (r.points ≡ get_or (noted best r) m inf))

    noted_stems : (m : ℕ) → Stems m
    noted_stems m = elim (ℕ_discrete m r.arrive) [ yes e ↦ at e | no e ↦ inl (noted_other m e) ]
      where
        at : m ≡ r.arrive → Stems m
        at e =
            min_cases
            (get_or best m inf)
            r.points
            (Stems m)
            (λ p q. inl (noted_here m e ∙ q))
            (λ p q. inr (sym e, sym (noted_here m e ∙ q)))

  -- ---- all rides of a list noted

  -- each minute has the penalty that it had, or a lower one of a ride
  pub record Noted (best after : List ℕ) (l : List Ride) : Type 0 where
    pub low : (r : Ride) → r ∈ l → get_or after r.arrive inf ≤ r.points
    pub kept : (m : ℕ) → get_or after m inf ≤ get_or best m inf
    pub stems : (m : ℕ) → (get_or after m inf ≡ get_or best m inf) ⊎ Arrives l m (get_or after m inf)

  pub all_noted : (l : List Ride) (best : List ℕ) → ((r : Ride) → r ∈ l → r.arrive < length best)
      → Noted best (note_all best l) l
  unfolding note_all
  all_noted [] best h = record { low = λ r i. none i; kept = λ m. omega arith; stems = λ m. inl refl }
  all_noted (r ∷ l) best h =
      go (all_noted l (noted best r) (λ e i. rw long (h e (there i))))
    where
      long : length (noted best r) ≡ length best
      long = length-set best r.arrive (min (get_or best r.arrive 0) r.points)

      at : r.arrive < length best
      at = h r (here refl)

      after : List ℕ
      after = note_all (noted best r) l

      go : Noted (noted best r) after l → Noted best after (r ∷ l)
      go n = record { low = low; kept = λ m. omega (arith, n.kept m, noted_low best r at m); stems = stems }
        where
          low : (e : Ride) → e ∈ r ∷ l → get_or after e.arrive inf ≤ e.points
          low e i =
              cons_cases
              i
              (λ q. rw q (omega (arith, n.kept r.arrive, noted_here best r at r.arrive refl)))
              (n.low e)

          stems : (m : ℕ) → (get_or after m inf ≡ get_or best m inf) ⊎ Arrives (r ∷ l) m (get_or after m inf)
          stems m = old (n.stems m) (noted_stems best r at m)
            where
              old : (get_or after m inf ≡ get_or (noted best r) m inf) ⊎ Arrives l m (get_or after m inf) → Stems best r
                  at m
                  → (get_or after m inf ≡ get_or best m inf) ⊎ Arrives (r ∷ l) m (get_or after m inf)
              old (inl e) (inl f) = inl (e ∙ f)
              old (inl e) (inr f) = inr (record { ride = r; listed = here refl; at = f.0; costs = f.1 ∙ sym e })
              old (inr a) s = inr (record { ride = a.ride; listed = there a.listed; at = a.at; costs = a.costs })

  -- the penalty kept for a minute is the least of the rides that arrive then
  pub record LeastNoted (after : List ℕ) (l : List Ride) : Type 0 where
    pub low : (r : Ride) → r ∈ l → get_or after r.arrive inf ≤ r.points
    pub arrives : (m : ℕ) → get_or after m inf < inf → Arrives l m (get_or after m inf)

  pub least_noted : (n : ℕ) (l : List Ride) → ((r : Ride) → r ∈ l → r.arrive < n)
      → LeastNoted (note_all (replicate n inf) l) l
  least_noted n l h = record { low = noted_all.low; arrives = arrives }
    where
      after : List ℕ
      after = note_all (replicate n inf) l

      noted_all : Noted (replicate n inf) after l
      noted_all = all_noted l (replicate n inf) (λ r i. rw (length-replicate n inf) (h r i))

      arrives : (m : ℕ) → get_or after m inf < inf → Arrives l m (get_or after m inf)
      arrives m k =
          elim (noted_all.stems m) [
            | inl e ↦ absurd (omega (arith, e, get_d_blank n inf m))
            | inr a ↦ a
          ]

  -- ---- the costs that lead

  -- c is below `least` and all before it, the first of the list being for minute a
  pub record Led (least a : ℕ) (l : List ℕ) (c : Cost) : Type 0 where
    pub place : ℕ
    pub there : place < length l
    pub at : c.minutes ≡ a + place
    pub is : get_or l place inf ≡ c.points
    pub less : c.points < least
    pub first : (e : ℕ) → e < place → c.points < get_or l e inf

  leads_out : (l : List ℕ) (least a : ℕ) (c : Cost) → c ∈ leads least a l → Led least a l c
  unfolding leads
  leads_out [] least a c m = none m
  leads_out (x ∷ l) least a c m =
      either (ltb x least) (lower (leads_out l x (suc a) c)) (higher (leads_out l least (suc a) c))
    where
      -- c stands behind x
      behind : (low : ℕ) → low ≤ least → low ≤ x → Led low (suc a) l c → Led least a (x ∷ l) c
      behind low h g k =
          record {
            place = suc k.place;
            there = omega (arith, k.there);
            at = omega (arith, k.at);
            is = k.is;
            less = omega (arith, k.less);
            first = first;
          }
        where
          first : (e : ℕ) → e < suc k.place → c.points < get_or (x ∷ l) e inf
          first zero q = omega (arith, k.less)
          first (suc e) q = k.first e (omega arith)

      lower : (c ∈ leads x (suc a) l → Led x (suc a) l c) → T (ltb x least) → Led least a (x ∷ l) c
      lower ih t =
          let h = ltb→lt x least t in
          cons_cases (rw (leads_more least a x l t) at m) is_x (λ i. behind x (omega arith) (omega arith) (ih i))
        where
          is_x : c ≡ record { minutes = a; points = x } → Led least a (x ∷ l) c
          is_x e =
              record {
                place = 0;
                there = omega arith;
                at = omega (arith, ap (λ z. z.minutes) e);
                is = sym (ap (λ z. z.points) e);
                less = omega (arith, ap (λ z. z.points) e, ltb→lt x least t);
                first = λ e q. absurd (omega arith);
              }

      higher : (c ∈ leads least (suc a) l → Led least (suc a) l c) → T (not (ltb x least)) → Led least a (x ∷ l) c
      higher ih t = behind least (omega arith) (nltb→le x least t) (ih (rw (leads_skip least a x l t) at m))

  leads_in : (l : List ℕ) (k least a : ℕ) (c : Cost) → k < length l → c.minutes ≡ a + k → get_or l k inf ≡ c.points
      → c.points < least → ((e : ℕ) → e < k → c.points < get_or l e inf) → c ∈ leads least a l
  leads_in [] k least a c h at is less first = absurd (omega arith)
  leads_in (x ∷ l) zero least a c h at is less first =
      rw
      (leads_more least a x l (lt→ltb x least (omega (arith, is))))
      (here (same_cost c (record { minutes = a; points = x }) (omega arith) (sym is)))
  leads_in (x ∷ l) (suc k) least a c h at is less first =
      let low : c.points < x = first 0 (omega arith) in
      let later : (e : ℕ) → e < k → c.points < get_or l e inf = (λ e q. first (suc e) (omega arith)) in
      either
      (ltb x least)
      (λ t. rw (leads_more least a x l t) (there (leads_in l k x (suc a) c (omega arith) (omega arith) is low later)))
      (λ t. rw (leads_skip least a x l t) (leads_in l k least (suc a) c (omega arith) (omega arith) is less later))

  pub led_exactly : (l : List ℕ) (least a : ℕ) (c : Cost) → c ∈ leads least a l ↔ Led least a l c
  led_exactly l least a c =
      (leads_out l least a c, λ k. leads_in l k.place least a c k.there k.at k.is k.less k.first)

-- "in rising duration"
abbrev pub Rises : List Cost → Type 0
Rises [] = Unit {0}
Rises (c ∷ l) = ((e : Cost) → e ∈ l → c.minutes < e.minutes) × Rises l

pub leads_rise : (l : List ℕ) (least a : ℕ) → Rises (leads least a l)
unfolding leads
leads_rise [] least a = tt
leads_rise (x ∷ l) least a = go (ltb x least) (leads_rise l x (suc a)) (leads_rise l least (suc a))
  where
    above : (e : Cost) → e ∈ leads x (suc a) l → a < e.minutes
    above e i = omega (arith, ((led_exactly 0 l x (suc a) e).0 i).at)

    go : (b : Bool) → Rises (leads x (suc a) l) → Rises (leads least (suc a) l)
        → Rises (cond b (record { minutes = a; points = x } ∷ leads x (suc a) l) (leads least (suc a) l))
    go true p q = (above, p)
    go false p q = q
