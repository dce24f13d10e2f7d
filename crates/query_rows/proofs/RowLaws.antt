-- One row: its words are the cost, the number of rides and the words that the winner told.
use mathlib.Core.Path.{◌≡◌, refl, sym, ap, ◌∙◌}
use mathlib.Core.List.{List, [], ◌∷◌}
use Prim.Native.Nat.{ℕ, ◌+◌, ◌-◌, ◌*◌, ◌≤◌}
use native.Mathlib.Omega.{arith}
use lib.ListN.{length, take, set, length-set, length-take}
use lib.Seq.{length-take-le}
use Rattle.words.specs.Put.{put, put_more, put_append}
use Rattle.results.specs.Results.{row}
use Rattle.connections.specs.Planner.{row_says}
use Rattle.promises.specs.Query.{kept}
use Rattle.query_rows.specs.Rowed.{RowFor}
use Rattle.query_rows.specs.Written.{Written, Room}
use Rattle.query_winner.specs.Winning.{cost_of, Winning}
use Rattle.query_winner.specs.declared.Winner.{Winner}

-- ---- two words, one, and the rest
module _ (old one : List ℕ) (at r : ℕ) (room : at + (3 + 3 * r) ≤ length old) where
  pub copy_room : (shown : List ℕ) → length one ≡ length old
      → at + 3 + length (take (3 * r) shown) ≤ length (set one (at + 2) r)
  copy_room shown e = simp (length-take, length-set) (omega arith)

  pub row_put : (shown new : List ℕ) (d p : ℕ) → one ≡ put at (d ∷ p ∷ []) old
      → new ≡ put (at + 3) (take (3 * r) shown) (set one (at + 2) r)
      → new ≡ put at (d ∷ p ∷ r ∷ take (3 * r) shown) old
  row_put shown new d p e f =
      let three : set one (at + 2) r ≡ put at (d ∷ p ∷ r ∷ []) old =
      ap (λ l. set l (at + 2) r) e ∙ put_more at 2 (d ∷ p ∷ []) old r refl (omega arith) in
      f
      ∙ ap (put (at + 3) (take (3 * r) shown)) three
      ∙ put_append at 3 (d ∷ p ∷ r ∷ []) (take (3 * r) shown) old refl (omega arith)

  pub row_long : (new : List ℕ) → length one ≡ length old → length new ≡ length (set one (at + 2) r)
      → length new ≡ length old
  row_long new e f = f ∙ length-set one (at + 2) r ∙ e

-- ---- the row of the winner
module _ (w s shown : List ℕ) (a b u m p : ℕ) (x : Winner) (z : Winning w s a b u m p x shown) where
  abbrev told : List ℕ
  told = (m - u) ∷ p ∷ x.rides ∷ take (3 * x.rides) shown

  row_told : RowFor u (kept w s a b u) (cost_of m p) told
  row_told =
      record {
        one = z.one;
        shows = z.shows;
        is =
            row_says u z.one
            ∙ (λ i.
            (z.shows.arrives i - u)
            ∷ z.shows.pays i
            ∷ sym z.holds.rides i
            ∷ sym z.holds.told i);
      }

  told_long : length told ≡ 3 + 3 * x.rides
  told_long = omega (arith, length-take-le (3 * x.rides) shown (omega (arith, z.few, z.long)))

  pub row_room : (at : ℕ) (old : List ℕ) → Room w s a b u m p at old → at + (3 + 3 * x.rides) ≤ length old
  row_room at old h = omega (arith, h.room told row_told, told_long)

  pub row_written : (at d end : ℕ) (old new : List ℕ) → d ≡ m - u
      → new ≡ put at (d ∷ p ∷ x.rides ∷ take (3 * x.rides) shown) old → end ≡ at + (3 + 3 * x.rides)
      → Written w s a b u m p at end old new
  row_written at d end old new e f g =
      record {
        row = told;
        is = row_told;
        put_row = f ∙ ap (λ q. put at (q ∷ p ∷ x.rides ∷ take (3 * x.rides) shown) old) e;
        ends = g ∙ ap (λ n. at + n) (sym told_long);
      }
