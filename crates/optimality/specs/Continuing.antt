-- Sequences by what was paid along them and by the frontiers, with no tight connection in between. A sequence is that
-- of an optimal connection exactly if one who went along it arrives on the frontier; it is a beginning of one exactly
-- if one who went along it can go on to a frontier within its penalty.
use Rattle.std.specs.Prelude.{◌≡◌, ◌↔◌}
use Rattle.std.proofs.Math.Path.{refl, ap, subst}
use Rattle.std.proofs.Common.{sym, ◌∙◌, arith}
use mathlib.Core.List.{List, [], ◌∷◌, reverse_aux}
use Prim.Native.Nat.{ℕ, ◌+◌, ◌≤◌}
use Rattle.std.proofs.Math.ListN.{length}
use Rattle.lists.specs.Lists.{tail}
use Rattle.results.proofs.Picks.{lead}
use Rattle.connections.specs.Connections.{Transfer, transfer, Net, Connection, direct, onward, Feasible, ready, arrival}
use Rattle.connections.specs.Connections.{penalty, stations}
use Rattle.connections.proofs.Sound.{Sound}
use Rattle.optimality.specs.Along.{read_back, Along, Ends, Frontier}
use Rattle.optimality.specs.AlongLaws.{boarded, changed, start, Joined, join, reverse_twice, sequence_ends}
use Rattle.optimality.specs.AlongLaws.{Sequenced}
use Rattle.optimality.specs.Frontiers.{arrives, optimal_frontier, frontier_optimal}
use Rattle.optimality.specs.Ways.{Way}

module _ (n : Net) (ok : Sound n) (a t : ℕ) where
  -- one who had these changes, the last one first, arrives at b on its frontier
  pub record Closing (rev : List Transfer) (b : ℕ) : Type 0 where
    pub minute : ℕ
    pub paid : ℕ
    pub ends : Ends n a t rev b minute paid
    pub frontier : Frontier n a t b minute paid

  closing_way : (rev : List Transfer) (b : ℕ) → Closing rev b → Way n a t b (read_back rev (b ∷ []))
  closing_way rev b k =
      record { connection = c; optimal = frontier_optimal n a t ok b c s.feasible here; is = s.sequence }
    where
      s : Sequenced n a t rev b k.minute k.paid
      s = (sequence_ends n a t rev b k.minute k.paid).0 k.ends

      c : Connection
      c = s.connection

      here : Frontier n a t b (arrival c) (penalty c)
      here = rw (s.arrives, s.pays) k.frontier

  way_closing : (rev : List Transfer) (b : ℕ) → Way n a t b (read_back rev (b ∷ [])) → Closing rev b
  way_closing rev b w =
      let c = w.connection in
      record {
        minute = arrival c;
        paid = penalty c;
        ends =
            (sequence_ends n a t rev b (arrival c) (penalty c)).1
            (record {
              connection = c;
              feasible = w.optimal.feasible;
              sequence = w.is;
              arrives = refl;
              pays = refl;
            });
        frontier = optimal_frontier n a t ok b c w.optimal;
      }

  -- the sequences of the optimal connections at minute t to b
  pub closing_exactly : (rev : List Transfer) (b : ℕ) → Closing rev b ↔ Way n a t b (read_back rev (b ∷ []))
  closing_exactly rev b = (closing_way rev b, way_closing rev b)

  -- one who had these changes goes on by the stations q to the frontier of b, and pays no more than it allows
  pub record Continuing (rev : List Transfer) (q : List ℕ) (b : ℕ) : Type 0 where
    pub x : ℕ
    pub u : ℕ
    pub paid : ℕ
    pub allowed : ℕ
    pub rest : Connection
    pub along : Along n a t rev x u paid
    pub feasible : Feasible n x u b rest
    pub is : stations rest ≡ q
    pub frontier : Frontier n a t b (arrival rest) allowed
    pub within : paid + penalty rest ≤ allowed

  -- whoever stays within what a frontier allows is on it
  continuing_way : (rev : List Transfer) (q : List ℕ) (b : ℕ) → Continuing rev q b → Way n a t b (read_back rev q)
  continuing_way rev q b k =
      record {
        connection = j.whole;
        optimal = frontier_optimal n a t ok b j.whole j.feasible here;
        is = j.sequence ∙ ap (read_back rev) k.is;
      }
    where
      j : Joined n a t rev k.paid b k.rest
      j = join n a t rev k.x k.u k.paid b k.rest k.along k.feasible

      allowed : k.allowed ≡ penalty j.whole
      allowed =
          let there = arrives n a t b j.whole j.feasible in
          let e = j.arrives in
          let least = k.frontier.least (arrival j.whole) (penalty j.whole) there (omega arith) in
          omega (arith, k.within, j.pays)

      here : Frontier n a t b (arrival j.whole) (penalty j.whole)
      here =
          subst
          (λ v. Frontier n a t b v (penalty j.whole))
          (sym j.arrives)
          (subst (λ p. Frontier n a t b (arrival k.rest) p) allowed k.frontier)

  -- A connection parted at a change: what was done so far, and the rest.
  record Parted (rev : List Transfer) (q : List ℕ) (b v p : ℕ) : Type 0 where
    x : ℕ
    u : ℕ
    paid : ℕ
    rest : Connection
    along : Along n a t rev x u paid
    feasible : Feasible n x u b rest
    is : stations rest ≡ q
    arrives : arrival rest ≡ v
    pays : paid + penalty rest ≡ p

  -- the stations of changes in their order, and then q
  read_on : List Transfer → List ℕ → List ℕ
  read_on [] q = q
  read_on (y ∷ l) q = y.alighted ∷ y.boarded ∷ read_on l q

  part_from : (mid pre : List Transfer) (q : List ℕ) (x u p b : ℕ) (c : Connection) → Along n a t pre x u p
      → Feasible n x u b c → stations c ≡ read_on mid q → Parted (reverse_aux mid pre) q b (arrival c) (p + penalty c)
  unfolding read_on
  part_from [] pre q x u p b c g f e =
      record {
        x = x;
        u = u;
        paid = p;
        rest = c;
        along = g;
        feasible = f;
        is = e;
        arrives = refl;
        pays = refl;
      }
  part_from (y ∷ mid) pre q x u p b (direct r) g f e = absurd (omega (arith, ap length e))
  part_from (y ∷ mid) pre q x u p b (onward r w c) g f e =
      restated
      (part_from mid (transfer w ∷ pre) q w.to (ready r w) paid b c next f.2 (ap (λ l. tail (tail l)) e))
    where
      paid : ℕ
      paid = p + r.points + w.points

      next : Along n a t (transfer w ∷ pre) w.to (ready r w) paid
      next =
          changed n a t pre p (ready r w) r w (boarded n a t pre x u p r g f.0) f.0.listed f.1 (omega arith)

      same : transfer w ≡ y
      same = λ i. record { alighted = lead (e i); boarded = lead (tail (e i)) }

      restated : Parted (reverse_aux mid (transfer w ∷ pre)) q b (arrival c) (paid + penalty c)
          → Parted (reverse_aux mid (y ∷ pre)) q b (arrival c) (p + (r.points + w.points + penalty c))
      restated k =
          subst
          (λ z. Parted (reverse_aux mid (z ∷ pre)) q b (arrival c) (p + (r.points + w.points + penalty c)))
          same
          (subst (λ s. Parted (reverse_aux mid (transfer w ∷ pre)) q b (arrival c) s) (omega arith) k)

  read_turned : (rev l : List Transfer) (q : List ℕ) → read_back rev (read_on l q) ≡ read_on (reverse_aux rev l) q
  unfolding read_on
  read_turned [] l q = refl
  read_turned (y ∷ rev) l q = read_turned rev (y ∷ l) q

  part : (rev : List Transfer) (q : List ℕ) (b : ℕ) (c : Connection) → Feasible n a t b c
      → stations c ≡ read_back rev q → Parted rev q b (arrival c) (penalty c)
  unfolding read_on
  part rev q b c f e =
      subst
      (λ l. Parted l q b (arrival c) (penalty c))
      (reverse_twice rev [])
      (subst (λ p. Parted (reverse_aux mid []) q b (arrival c) p) (omega arith) parted)
    where
      mid : List Transfer
      mid = reverse_aux rev []

      parted : Parted (reverse_aux mid []) q b (arrival c) (0 + penalty c)
      parted = part_from mid [] q a t 0 b c (start n a t) f (e ∙ read_turned rev [] q)

  way_continuing : (rev : List Transfer) (q : List ℕ) (b : ℕ) → Way n a t b (read_back rev q) → Continuing rev q b
  way_continuing rev q b w =
      let c = w.connection in
      let k = part rev q b c w.optimal.feasible w.is in
      let e = k.pays in
      record {
        x = k.x;
        u = k.u;
        paid = k.paid;
        allowed = penalty c;
        rest = k.rest;
        along = k.along;
        feasible = k.feasible;
        is = k.is;
        frontier =
            subst
            (λ v. Frontier n a t b v (penalty c))
            (sym k.arrives)
            (optimal_frontier n a t ok b c w.optimal);
        within = omega arith;
      }

  -- the beginnings of those sequences
  pub continuing_exactly : (rev : List Transfer) (q : List ℕ) (b : ℕ)
      → Continuing rev q b ↔ Way n a t b (read_back rev q)
  continuing_exactly rev q b = (continuing_way rev q b, way_continuing rev q b)
