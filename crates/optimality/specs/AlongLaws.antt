-- Riders on their way and connections: what was done so far and a connection from there join to one connection, and
-- each connection arises so. The connections of one stored sequence are those that end with its changes.
use Rattle.std.specs.Prelude.{◌≡◌, refl, ◌↔◌, ℕ, ◌+◌, ◌≤◌, length}
use Rattle.std.proofs.Common.{sym, ap, subst, ◌∙◌, arith}
use mathlib.Core.List.{List, [], ◌∷◌, reverse_aux}
use Rattle.lists.specs.Lists.{◌∈◌, tail}
use Rattle.results.proofs.Picks.{lead}
use Rattle.connections.specs.Rides.{Ride}
use Rattle.connections.specs.Connections.{Change, Transfer, transfer, Net, Connection, direct, onward, Boards, Changes}
use Rattle.connections.specs.Connections.{Feasible, ready, arrival, penalty, stations}
use Rattle.connections.proofs.Feasibility.{earlier}
use Rattle.optimality.specs.Along.{read_back, Along, Ends}

-- the changes, the last one first, before those given
abbrev pub changed_at : List Transfer → Connection → List Transfer
changed_at rev (direct r) = rev
changed_at rev (onward r w c) = changed_at (transfer w ∷ rev) c

abbrev pub last_ride : Connection → Ride
last_ride (direct r) = r
last_ride (onward r w c) = last_ride c

-- a sequence read from its end
stations_read_lem : (rev : List Transfer) (c : Connection)
    → read_back (changed_at rev c) ((last_ride c).to ∷ []) ≡ read_back rev (stations c)
stations_read_lem rev (direct r) = refl
stations_read_lem rev (onward r w c) = stations_read_lem (transfer w ∷ rev) c

-- reversed twice
pub reverse_twice : {A : Type 0} (l m : List A) → reverse_aux (reverse_aux l m) [] ≡ reverse_aux m l
reverse_twice [] m = refl
reverse_twice (x ∷ l) m = reverse_twice l (x ∷ m)

-- the stations of changes that are told the last one first, from the last one back
flat : List Transfer → List ℕ
flat [] = []
flat (y ∷ rev) = y.boarded ∷ y.alighted ∷ flat rev

read_flat : (rev : List Transfer) (q : List ℕ) → read_back rev q ≡ reverse_aux (flat rev) q
unfolding flat
read_flat [] q = refl
read_flat (y ∷ rev) q = read_flat rev (y.alighted ∷ y.boarded ∷ q)

flat_unique : (l m : List Transfer) → flat l ≡ flat m → l ≡ m
unfolding flat
flat_unique [] [] e = refl
flat_unique [] (y ∷ m) e = absurd (omega (arith, ap length e))
flat_unique (x ∷ l) [] e = absurd (omega (arith, ap length e))
flat_unique (x ∷ l) (y ∷ m) e =
    let rest = flat_unique l m (ap (λ q. tail (tail q)) e) in
    λ i. record { alighted = lead (tail (e i)); boarded = lead (e i) } ∷ rest i

-- the last of a connection's stations is where it ends
stations_end : (n : Net) (x u b : ℕ) (c : Connection) (m : List ℕ) → Feasible n x u b c
    → lead (reverse_aux (stations c) m) ≡ b
stations_end n x u b (direct r) m f = f.1
stations_end n x u b (onward r w c) m f = stations_end n w.to (ready r w) b c (w.to ∷ w.from ∷ m) f.2

-- what was read back, turned round
turned : (rev : List Transfer) (q : List ℕ) → reverse_aux (read_back rev q) [] ≡ reverse_aux q (flat rev)
turned rev q = ap (λ l. reverse_aux l []) (read_flat rev q) ∙ reverse_twice (flat rev) q

pub sequence_end : (n : Net) (x u b : ℕ) (c : Connection) (rev : List Transfer) (y : ℕ) → Feasible n x u b c
    → stations c ≡ read_back rev (y ∷ []) → b ≡ y
sequence_end n x u b c rev y f e =
    sym (stations_end n x u b c [] f) ∙ ap (λ q. lead (reverse_aux q [])) e ∙ ap lead (turned rev (y ∷ []))

-- a sequence from a to b says what its changes are
read_unique : (l m : List Transfer) (b : ℕ) → read_back l (b ∷ []) ≡ read_back m (b ∷ []) → l ≡ m
read_unique l m b e =
    flat_unique l m (ap tail (sym (turned l (b ∷ [])) ∙ ap (λ k. reverse_aux k []) e ∙ turned m (b ∷ [])))

-- who is at a ride's boarding boards it
pub boards_at_lem : (n : Net) (r : Ride) → r ∈ n.rides → Boards n r.from r.depart r
boards_at_lem n r m = record { listed = m; here = refl; timely = omega arith }

-- the last ride ends at the target
pub target : (n : Net) (x u b : ℕ) (c : Connection) → Feasible n x u b c → (last_ride c).to ≡ b
target n x u b (direct r) f = f.1
target n x u b (onward r w c) f = target n w.to (ready r w) b c f.2

module _ (n : Net) (a t : ℕ) where
  pub boarded : (rev : List Transfer) (x u p : ℕ) (r : Ride) → Along n a t rev x u p → Boards n x u r
      → Along n a t rev r.from r.depart p
  boarded [] x u p r g b = (b.here ∙ g.0, omega (arith, g.1, b.timely), g.2)
  boarded (y ∷ rev) x u p r g b =
      record {
        ride = g.ride;
        change = g.change;
        paid = g.paid;
        listed = g.listed;
        changes = g.changes;
        at = g.at;
        to = g.to ∙ sym b.here;
        timely = omega (arith, g.timely, b.timely);
        below = g.below;
        total = g.total;
      }

  pub changed : (rev : List Transfer) (p u : ℕ) (r : Ride) (w : Change) → Along n a t rev r.from r.depart p
      → r ∈ n.rides → Changes n r w → ready r w ≤ u
      → Along n a t (transfer w ∷ rev) w.to u (p + r.points + w.points)
  changed rev p u r w g m h timely =
      record {
        ride = r;
        change = w;
        paid = p;
        listed = m;
        changes = h;
        at = refl;
        to = refl;
        timely = timely;
        below = g;
        total = refl;
      }

  pub start : Along n a t [] a t 0
  start = (refl, omega arith, refl)

  pub record Joined (rev : List Transfer) (p b : ℕ) (c : Connection) : Type 0 where
    pub whole : Connection
    pub feasible : Feasible n a t b whole
    pub sequence : stations whole ≡ read_back rev (stations c)
    pub arrives : arrival whole ≡ arrival c
    pub pays : penalty whole ≡ p + penalty c

  pub join : (rev : List Transfer) (x u p b : ℕ) (c : Connection) → Along n a t rev x u p → Feasible n x u b c
      → Joined rev p b c
  join [] x u p b c g f =
      record {
        whole = c;
        feasible = earlier n a t u b c g.1 (subst (λ y. Feasible n y u b c) g.0 f);
        sequence = refl;
        arrives = refl;
        pays = omega (arith, g.2);
      }
  join (y ∷ rev) x u p b c g f =
      let r = g.ride in
      let w = g.change in
      let rest = earlier n w.to (ready r w) u b c g.timely (subst (λ y. Feasible n y u b c) (sym g.to) f) in
      let on : Feasible n r.from r.depart b (onward r w c) = (boards_at_lem n r g.listed, g.changes, rest) in
      let j = join rev r.from r.depart g.paid b (onward r w c) g.below on in
      record {
        whole = j.whole;
        feasible = j.feasible;
        sequence = j.sequence ∙ ap (λ y. read_back rev (y.alighted ∷ y.boarded ∷ stations c)) g.at;
        arrives = j.arrives;
        pays = omega (arith, j.pays, g.total);
      }

  ends_same : {l k : List Transfer} {b v w p q : ℕ} → l ≡ k → v ≡ w → p ≡ q → Ends n a t l b v p → Ends n a t k b w q
  ends_same {l} {k} {b} {v} {w} {p} {q} e f g h =
      let paid = subst (λ x. Ends n a t l b v x) g h in
      let timed = subst (λ x. Ends n a t l b x q) f paid in
      subst (λ x. Ends n a t x b w q) e timed

  end_from : (rev : List Transfer) (x u p b : ℕ) (c : Connection) → Along n a t rev x u p → Feasible n x u b c
      → Ends n a t (changed_at rev c) b (arrival c) (p + penalty c)
  end_from rev x u p b (direct r) g f =
      record {
        ride = r;
        paid = p;
        listed = f.0.listed;
        to = f.1;
        minute = refl;
        below = boarded rev x u p r g f.0;
        total = refl;
      }
  end_from rev x u p b (onward r w c) g f =
      let h = changed rev p (ready r w) r w (boarded rev x u p r g f.0) f.0.listed f.1 (omega arith) in
      let e = end_from (transfer w ∷ rev) w.to (ready r w) (p + r.points + w.points) b c h f.2 in
      subst (λ q. Ends n a t (changed_at (transfer w ∷ rev) c) b (arrival c) q) (omega arith) e

  -- a feasible connection ends so, with its own changes
  pub connection_ends : (b : ℕ) (c : Connection) → Feasible n a t b c
      → Ends n a t (changed_at [] c) b (arrival c) (penalty c)
  connection_ends b c f =
      subst (λ q. Ends n a t (changed_at [] c) b (arrival c) q) (omega arith) (end_from [] a t 0 b c start f)

  -- a connection of the sequence that has these changes, the last one first, and ends in b
  pub record Sequenced (rev : List Transfer) (b v p : ℕ) : Type 0 where
    pub connection : Connection
    pub feasible : Feasible n a t b connection
    pub sequence : stations connection ≡ read_back rev (b ∷ [])
    pub arrives : arrival connection ≡ v
    pub pays : penalty connection ≡ p

  ends_out : (rev : List Transfer) (b v p : ℕ) → Ends n a t rev b v p → Sequenced rev b v p
  ends_out rev b v p e =
      let r = e.ride in
      let j = join rev r.from r.depart e.paid b (direct r) e.below (boards_at_lem n r e.listed, e.to) in
      record {
        connection = j.whole;
        feasible = j.feasible;
        sequence = j.sequence ∙ ap (λ y. read_back rev (y ∷ [])) e.to;
        arrives = j.arrives ∙ e.minute;
        pays = omega (arith, j.pays, e.total);
      }

  ends_in : (rev : List Transfer) (b v p : ℕ) → Sequenced rev b v p → Ends n a t rev b v p
  ends_in rev b v p s = ends_same same_changes s.arrives s.pays (connection_ends b c s.feasible)
    where
      c : Connection
      c = s.connection

      same_changes : changed_at [] c ≡ rev
      same_changes =
          read_unique
          (changed_at [] c)
          rev
          b
          (ap (λ y. read_back (changed_at [] c) (y ∷ [])) (sym (target n a t b c s.feasible))
          ∙ stations_read_lem [] c
          ∙ s.sequence)

  -- theorem 7, for the query: the candidates of a stored sequence, by arrival and penalty, change by change
  pub sequence_ends : (rev : List Transfer) (b v p : ℕ) → Ends n a t rev b v p ↔ Sequenced rev b v p
  sequence_ends rev b v p = (ends_out rev b v p, ends_in rev b v p)
