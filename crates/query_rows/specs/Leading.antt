-- Row after row: each cost that leads has a row, and a row found for the one at place i is the row at place i of the
-- result, whichever connection it was found by.
use Rattle.std.specs.Prelude.{◌≡◌, ℕ, zero, suc, ◌-◌, ◌≤◌, ◌<◌, get_or, set}
use Rattle.std.proofs.Math.Path.{refl, ap}
use Rattle.std.proofs.Common.{sym, ◌∙◌, arith, get_or-set_same}
use mathlib.Core.List.Memᴰ.{head as here}
use mathlib.Core.List.Memᴰ.{tail as there}
use mathlib.Core.List.{List, [], ◌∷◌}
use Rattle.std.proofs.Math.ListN.{length}
use Rattle.lists.specs.Lists.{◌∈◌, tail}
use Rattle.lists.specs.Places.{no_length}
use Rattle.results.specs.Results.{Cost, row}
use Rattle.results.proofs.Picks.{lead, pick}
use Rattle.results.proofs.Answered.{result_none}
use Rattle.connections.specs.Connections.{Connection, arrival, duration, penalty}
use Rattle.connections.specs.Planner.{measure, rows_of}
use Rattle.query_minutes.specs.Minutes.{no_points, leads}
use Rattle.query_arcs.specs.Kept.{Bounds, LeastKept}
use Rattle.query_rows.specs.Rowed.{RowFor, Rowed, led_leads, led_cost, rowed}

abbrev pub no_cost : Cost
no_cost = record { minutes = 0; points = 0 }

-- ---- rows by place
module _ (u : ℕ) (d : List Connection) where
  rowed_long : (cs : List Cost) (rs : List (List ℕ)) → Rowed u d cs rs → length cs ≡ length rs
  rowed_long [] [] q = refl
  rowed_long [] (r ∷ rs) q = absurd q
  rowed_long (c ∷ cs) [] q = absurd q
  rowed_long (c ∷ cs) (r ∷ rs) q = ap suc (rowed_long cs rs q.1)

  rowed_set : (cs : List Cost) (rs : List (List ℕ)) (i : ℕ) (r : List ℕ) → i < length cs → Rowed u d cs rs
      → RowFor u d (get_or cs i no_cost) r → Rowed u d cs (set rs i r)
  rowed_set [] rs i r h q f = absurd (omega arith)
  rowed_set (c ∷ cs) [] i r h q f = absurd q
  rowed_set (c ∷ cs) (x ∷ rs) zero r h q f = (f, q.1)
  rowed_set (c ∷ cs) (x ∷ rs) (suc i) r h q f = (q.0, rowed_set cs rs i r (omega arith) q.1 f)

  module _ (bounds : (c : Connection) → c ∈ d → Bounds u d c) (w : List ℕ) (least : LeastKept u d w) where
    abbrev ls : List Cost
    ls = leads no_points 0 w

    -- the connection that is shown for a cost that leads
    pub row_of : (c : Cost) → c ∈ ls → (r : List ℕ) × RowFor u d c r
    row_of c i =
        let k = led_leads u d bounds w least c i in
        let x = (led_cost u d bounds w least (c.minutes - u) c.points).0 k.1 in
        let p = pick (measure u) d x.0 x.1 in
        let one = p.0 in
        let b = bounds one p.1.best.listed in
        let m : duration u one ≡ c.minutes - u = ap (λ z. z.minutes) p.2 ∙ ap lead x.2 in
        let q : penalty one ≡ c.points = ap (λ z. z.points) p.2 ∙ ap (λ l. lead (tail l)) x.2 in
        let at : arrival one ≡ c.minutes = omega (arith, m, b.from, k.0) in (
          row (measure u) one,
          record {
            one = one;
            shows =
                record {
                  listed = p.1.best.listed;
                  arrives = at;
                  pays = q;
                  first =
                      λ e j h g.
                      let same-m : duration u e ≡ duration u one = ap (λ z. z - u) (h ∙ sym at) in
                      let same-p : penalty e ≡ penalty one = g ∙ sym q in
                      p.1.first e j (λ z. record { minutes = same-m z; points = same-p z });
                };
            is = refl;
          },
        )

    rows_of_lem : (cs : List Cost) → ((c : Cost) → c ∈ cs → c ∈ ls) → (rs : List (List ℕ)) × Rowed u d cs rs
    rows_of_lem [] f = ([], tt)
    rows_of_lem (c ∷ cs) f =
        let one = row_of c (f c (here refl)) in
        let rest = rows_of_lem cs (λ e i. f e (there i)) in
        (one.0 ∷ rest.0, (one.1, rest.1))

    all : (rs : List (List ℕ)) × Rowed u d ls rs
    all = rows_of_lem ls (λ c i. i)

    all_are : all.0 ≡ rows_of u d
    all_are = rowed u d bounds w least all.0 all.1

    pub leads_count : length ls ≡ length (rows_of u d)
    leads_count = rowed_long ls all.0 all.1 ∙ ap length all_are

    -- a row found for the cost at place i is the row at place i
    pub lead_row : (i : ℕ) (r : List ℕ) → i < length ls → RowFor u d (get_or ls i no_cost) r → r ≡ get_or (rows_of u d)
        i []
    lead_row i r h f =
        let inside : i < length all.0 = omega (arith, rowed_long ls all.0 all.1) in
        let same = rowed u d bounds w least (set all.0 i r) (rowed_set ls all.0 i r h all.1 f) in
        sym (get_or-set_same all.0 i r [] inside) ∙ ap (λ l. get_or l i []) same

    pub leads_none : length ls ≡ 0 → length d ≡ 0
    unfolding rows_of
    leads_none e =
        ap length
        ((result_none (measure u) d).0 (no_length (rows_of u d) (sym leads_count ∙ e)))

    pub leads_some : 1 ≤ length ls → 1 ≤ length d
    unfolding rows_of
    leads_some h = go d refl
      where
        go : (l : List Connection) → d ≡ l → 1 ≤ length d
        go [] e = absurd (omega (arith, leads_count, ap length ((result_none (measure u) d).1 e)))
        go (c ∷ l) e = omega (arith, ap length e)
