-- The least penalties of one arc alone, merged into those of the arcs before it. With each minute goes the arc that
-- alone reaches it for the least penalty: its number and one more, or 0 where several do or it is not known.
use Rattle.std.specs.Prelude.{◌≡◌, refl, Bool, true, false, cond, ◌⊎◌, List, ℕ, suc, ◌+◌, ◌≤◌, ◌<◌, min, ltb, eqb}
use Rattle.std.specs.Prelude.{length, get_or, set, replicate}
use Rattle.std.proofs.Math.Path.{sym}
use Rattle.std.proofs.Common.{ap, subst, ◌∙◌, inl, inr, lt-ltb, le-ltb, eqb-true, ltb→lt, nltb→le, get_or-set_same}
use Rattle.std.proofs.Common.{get_or-set_other, ext_get_or}
use native.Mathlib.Omega.{arith, min_cases}
use Rattle.std.proofs.lemmas.List.{length-replicate}
use Rattle.lists.specs.Tests.{either}
use Rattle.results.proofs.Best.{by_lower}
use Rattle.connections.specs.Connections.{Transfer, Net}
use Rattle.optimality.specs.Along.{Ends}
use Rattle.query_minutes.specs.Minutes.{no_points, blank}
use Rattle.query_minutes.specs.Noted.{get_d_any, get_d_blank}
use Rattle.query_costs.specs.Lowered.{Lowered}
use Rattle.query_costs.specs.Spans.{Within}
use Rattle.query_costs.specs.declared.Span.{Span}

-- no minute has an arc yet
abbrev pub unnamed : List ℕ
unnamed = replicate 2880 0

-- ---- one minute

-- its word afterwards, if arc k reaches it for x points, and the arcs before it for b points with the word o
unfoldable pub sole_of : (k b o x : ℕ) → ℕ
sole_of k b o x = cond (ltb x b) (k + 1) (cond (ltb b x) o 0)

module _ (k b o x : ℕ) (less : Bool) (is-less : less ≡ ltb x b) where
  pub sole_less : less ≡ true → k + 1 ≡ sole_of k b o x
  unfolding sole_of
  sole_less h = rw (sym is-less ∙ h)

  module _ (h : less ≡ false) (more : Bool) (is-more : more ≡ ltb b x) where
    pub sole_more : more ≡ true → o ≡ sole_of k b o x
    unfolding sole_of
    sole_more g = rw (sym is-less ∙ h, sym is-more ∙ g)

    pub sole_same : more ≡ false → 0 ≡ sole_of k b o x
    unfolding sole_of
    sole_same g = rw (sym is-less ∙ h, sym is-more ∙ g)

-- its least penalty and its word before, the penalty of arc k alone, and both afterwards
pub record MergedAt (k b o x b' o' : ℕ) : Type 0 where
  pub least : b' ≡ min b x
  pub sole : (j : ℕ) → o' ≡ suc j → ((j ≡ k) × (x < b)) ⊎ ((o ≡ suc j) × (b < x))

merged_sole : (k b o x : ℕ) → MergedAt k b o x (min b x) (sole_of k b o x)
merged_sole k b o x = record { least = refl; sole = sole }
  where
    sole : (j : ℕ) → sole_of k b o x ≡ suc j → ((j ≡ k) × (x < b)) ⊎ ((o ≡ suc j) × (b < x))
    sole j e =
        either (ltb x b)
        (λ t.
        let h = ltb→lt x b t in
        inl (omega (arith, e, sole_less k b o x (ltb x b) refl (lt-ltb x b h)), h))
        (λ t.
        let g = le-ltb x b (nltb→le x b t) in
        either (ltb b x)
        (λ q.
        let h = ltb→lt b x q in
        inr (sole_more k b o x (ltb x b) refl g (ltb b x) refl (lt-ltb b x h) ∙ e, h))
        (λ q.
        let h = le-ltb b x (nltb→le b x q) in
        absurd (omega (arith, e, sole_same k b o x (ltb x b) refl g (ltb b x) refl h))))

merged_none : (k b o x : ℕ) → b ≤ no_points → ((j : ℕ) → o ≡ suc j → b < no_points) → x ≡ no_points
    → MergedAt k b o x b o
merged_none k b o x most some e =
    record { least = omega (arith, e, most); sole = λ j f. inr (f, omega (arith, e, some j f)) }

-- ---- all minutes

-- a minute that has an arc has a connection
pub record Bound (best who : List ℕ) : Type 0 where
  pub most : (m : ℕ) → get_or best m no_points ≤ no_points
  pub some : (m j : ℕ) → get_or who m 0 ≡ suc j → get_or best m no_points < no_points

pub record Merged (k : ℕ) (mine best who best' who' : List ℕ) : Type 0 where
  pub at : (m : ℕ)
      → MergedAt k (get_or best m no_points) (get_or who m 0) (get_or mine m no_points) (get_or best' m no_points)
      (get_or who' m 0)

-- no penalty is more than it was, nor than that of arc k
module _ (k : ℕ) (mine best who best' who' : List ℕ) (merged : Merged k mine best who best' who') where
  pub under_best : (m : ℕ) → get_or best' m no_points ≤ get_or best m no_points
  under_best m = omega (arith, (merged.at m).least)

  pub under_mine : (m : ℕ) → get_or best' m no_points ≤ get_or mine m no_points
  under_mine m = omega (arith, (merged.at m).least)

-- arc k reaches no minute before `from`, nor `to` and later ones
pub record Outside (from to : ℕ) (mine : List ℕ) : Type 0 where
  pub early : (m : ℕ) → m < from → get_or mine m no_points ≡ no_points
  pub late : (m : ℕ) → to ≤ m → get_or mine m no_points ≡ no_points

module _ (s : Span) (old mine : List ℕ) (within : Within s old mine) where
  pub span_short : s.to ≤ 2880
  span_short = within.short

  pub outside_span : old ≡ blank → Outside s.from s.to mine
  outside_span e =
      record {
        early = λ m h. within.below m h ∙ blank_at m;
        late = λ m h. within.above m h ∙ blank_at m;
      }
    where
      blank_at : (m : ℕ) → get_or old m no_points ≡ no_points
      blank_at m = ap (λ l. get_or l m no_points) e ∙ get_d_blank 2880 no_points m

pub bound_first : (best who : List ℕ) → best ≡ blank → who ≡ unnamed → Bound best who
bound_first best who e f =
    record {
      most = λ m. omega (arith, ap (λ l. get_or l m no_points) e, get_d_blank 2880 no_points m);
      some = λ m j z. absurd (omega (arith, z, ap (λ l. get_or l m 0) f, get_d_blank 2880 0 m));
    }

module _ (k : ℕ) (mine best who best' who' : List ℕ) (bound : Bound best who)
    (merged : Merged k mine best who best' who') where
  pub bound_more : Bound best' who'
  bound_more =
      record {
        most = λ m. omega (arith, bound.most m, (merged.at m).least);
        some =
            λ m j e.
            elim ((merged.at m).sole j e) [
              | inl z ↦ omega (arith, z.1, bound.most m, (merged.at m).least)
              | inr z ↦ omega (arith, bound.some m j z.0, (merged.at m).least)
            ];
      }

  -- the penalties are lowered to those of the arc
  pub lowered_merged : (n : Net) (a t : ℕ) (rev : List Transfer) (b : ℕ) → length best' ≡ length best
      → Lowered n a t rev b blank mine → Lowered n a t rev b best best'
  lowered_merged n a t rev b long l =
      record {
        long = long;
        lower = under_best k mine best who best' who' merged;
        stems = stems;
        below =
            λ m p e.
            by_lower (λ i. get_or mine i no_points) (λ i. get_or best' i no_points)
            (under_mine k mine best who best' who' merged)
            m
            p
            (l.below m p e);
      }
    where
      stems : (m : ℕ)
          → (get_or best' m no_points ≡ get_or best m no_points) ⊎ Ends n a t rev b m (get_or best' m no_points)
      stems m =
          min_cases (get_or best m no_points) (get_or mine m no_points)
          ((get_or best' m no_points ≡ get_or best m no_points) ⊎ Ends n a t rev b m (get_or best' m no_points))
          (λ h e. inl ((merged.at m).least ∙ e))
          (λ h e.
          let is = (merged.at m).least ∙ e in
          elim (l.stems m) [
            | inl z ↦ inl (omega (arith, is, h, z, get_d_blank 2880 no_points m, bound.most m))
            | inr z ↦ inr (subst (Ends n a t rev b m) (sym is) z)
          ])

-- ---- minute after minute

-- the minutes before i are merged, and those from i on are as they were
pub record Merging (k i : ℕ) (mine₀ best₀ who₀ mine best who : List ℕ) : Type 0 where
  pub done : (m : ℕ) → m < i
      → MergedAt k (get_or best₀ m no_points) (get_or who₀ m 0) (get_or mine₀ m no_points) (get_or best m no_points)
      (get_or who m 0)
  pub gone : (m : ℕ) → m < i → get_or mine m no_points ≡ no_points
  pub left_best : (m : ℕ) → i ≤ m → get_or best m no_points ≡ get_or best₀ m no_points
  pub left_who : (m : ℕ) → i ≤ m → get_or who m 0 ≡ get_or who₀ m 0
  pub left_mine : (m : ℕ) → i ≤ m → get_or mine m no_points ≡ get_or mine₀ m no_points

module _ (k from to : ℕ) (mine₀ best₀ who₀ : List ℕ) (bound : Bound best₀ who₀) (outside : Outside from to mine₀)
  where
    pub merging_first : Merging k from mine₀ best₀ who₀ mine₀ best₀ who₀
    merging_first =
        record {
          done =
              λ m h.
              merged_none k (get_or best₀ m no_points) (get_or who₀ m 0) (get_or mine₀ m no_points) (bound.most m)
              (bound.some m)
              (outside.early m h);
          gone = outside.early;
          left_best = λ m h. refl;
          left_who = λ m h. refl;
          left_mine = λ m h. refl;
        }

    module _ (i : ℕ) (mine best who : List ℕ) (so_far : Merging k i mine₀ best₀ who₀ mine best who) where
      -- minute m is as it was, and arc k does not reach it
      kept : (m : ℕ) → i ≤ m → get_or mine m no_points ≡ no_points
          → MergedAt k (get_or best₀ m no_points) (get_or who₀ m 0) (get_or mine₀ m no_points) (get_or best m no_points)
          (get_or who m 0)
      kept m h e =
          rw (so_far.left_best m h, so_far.left_who m h)
          (merged_none k (get_or best₀ m no_points) (get_or who₀ m 0) (get_or mine₀ m no_points) (bound.most m)
          (bound.some m)
          (sym (so_far.left_mine m h) ∙ e))

      pub merging_all : to ≤ i → Merged k mine₀ best₀ who₀ best who
      merging_all past = record { at = at }
        where
          at : (m : ℕ)
              → MergedAt k (get_or best₀ m no_points) (get_or who₀ m 0) (get_or mine₀ m no_points)
              (get_or best m no_points)
              (get_or who m 0)
          at m =
              either (ltb m i) (λ t. so_far.done m (ltb→lt m i t))
              (λ t.
              let h = nltb→le m i t in
              kept m h (so_far.left_mine m h ∙ outside.late m (omega arith)))

      pub merging_blank : to ≤ i → length mine ≡ 2880 → mine ≡ blank
      merging_blank past long =
          ext_get_or no_points mine blank (long ∙ sym (length-replicate {A = ℕ} 2880 no_points))
          (λ m h. at m ∙ sym (get_d_blank 2880 no_points m))
        where
          at : (m : ℕ) → get_or mine m no_points ≡ no_points
          at m =
              either (ltb m i) (λ t. so_far.gone m (ltb→lt m i t))
              (λ t.
              let h = nltb→le m i t in
              so_far.left_mine m h ∙ outside.late m (omega arith))

      -- of the minutes before i + 1 the last is i
      last : {G : Type 0} (m : ℕ) → m < i + 1 → (m < i → G) → (m ≡ i → G) → G
      last m h f g = either (ltb m i) (λ t. f (ltb→lt m i t)) (λ t. g (omega (arith, nltb→le m i t)))

      -- a minute that is not reached
      pub merging_skip : i < to → to ≤ 2880 → length mine ≡ 2880 → (p : ℕ) → p ≡ get_or mine i 0
          → (unreached : Bool) → unreached ≡ eqb p no_points → unreached ≡ true
          → Merging k (i + 1) mine₀ best₀ who₀ mine best who
      merging_skip inside most long p is unreached is-unreached none_there =
          record {
            done = λ m h. last m h (so_far.done m) (λ z. kept m (omega (arith, z)) (none m z));
            gone = λ m h. last m h (so_far.gone m) (none m);
            left_best = λ m h. so_far.left_best m (omega arith);
            left_who = λ m h. so_far.left_who m (omega arith);
            left_mine = λ m h. so_far.left_mine m (omega arith);
          }
        where
          e : get_or mine i 0 ≡ no_points
          e = sym is ∙ eqb-true p no_points (sym is-unreached ∙ none_there)

          none : (m : ℕ) → m ≡ i → get_or mine m no_points ≡ no_points
          none m z = ap (λ j. get_or mine j no_points) z ∙ get_d_any mine i no_points 0 (omega arith) ∙ e

      -- one that is
      module _
          (mine' best' who' : List ℕ)
          (inside : i < to)
          (most : to ≤ 2880)
          (long-mine : length mine ≡ 2880)
          (long-best : length best ≡ 2880)
          (long-who : length who ≡ 2880)
          (new-best : best' ≡ set best i (min (get_or best i 0) (get_or mine i 0)))
          (new-who : who' ≡ set who i (sole_of k (get_or best i 0) (get_or who i 0) (get_or mine i 0)))
          (new-mine : mine' ≡ set mine i no_points)
        where
          first_best : get_or best i 0 ≡ get_or best₀ i no_points
          first_best = get_d_any best i 0 no_points (omega arith) ∙ so_far.left_best i (omega arith)

          first_who : get_or who i 0 ≡ get_or who₀ i 0
          first_who = so_far.left_who i (omega arith)

          first_mine : get_or mine i 0 ≡ get_or mine₀ i no_points
          first_mine = get_d_any mine i 0 no_points (omega arith) ∙ so_far.left_mine i (omega arith)

          here_best : get_or best' i no_points ≡ min (get_or best₀ i no_points) (get_or mine₀ i no_points)
          here_best =
              ap (λ l. get_or l i no_points) new-best
              ∙ get_or-set_same best i (min (get_or best i 0) (get_or mine i 0)) no_points (omega arith)
              ∙ (λ z. min (first_best z) (first_mine z))

          here_who : get_or who' i 0 ≡ sole_of k (get_or best₀ i no_points) (get_or who₀ i 0) (get_or mine₀ i no_points)
          here_who =
              ap (λ l. get_or l i 0) new-who
              ∙ get_or-set_same who i (sole_of k (get_or best i 0) (get_or who i 0) (get_or mine i 0)) 0 (omega arith)
              ∙ (λ z. sole_of k (first_best z) (first_who z) (first_mine z))

          here_mine : get_or mine' i no_points ≡ no_points
          here_mine = ap (λ l. get_or l i no_points) new-mine ∙ get_or-set_same mine i no_points no_points (omega arith)

          here : MergedAt k (get_or best₀ i no_points) (get_or who₀ i 0) (get_or mine₀ i no_points)
              (get_or best' i no_points)
              (get_or who' i 0)
          here =
              rw (here_best, here_who)
              (merged_sole k (get_or best₀ i no_points) (get_or who₀ i 0) (get_or mine₀ i no_points))

          module _ (m : ℕ) (other : m ≡ i → ⊥) where
            other_best : get_or best' m no_points ≡ get_or best m no_points
            other_best = ap (λ l. get_or l m no_points) new-best ∙ get_or-set_other best i m _ no_points other

            other_who : get_or who' m 0 ≡ get_or who m 0
            other_who = ap (λ l. get_or l m 0) new-who ∙ get_or-set_other who i m _ 0 other

            other_mine : get_or mine' m no_points ≡ get_or mine m no_points
            other_mine = ap (λ l. get_or l m no_points) new-mine ∙ get_or-set_other mine i m no_points no_points other

          pub merging_turn : Merging k (i + 1) mine₀ best₀ who₀ mine' best' who'
          merging_turn =
              record {
                done =
                    λ m h.
                    last m h
                    (λ z.
                    rw (other_best m (λ e. omega arith), other_who m (λ e. omega arith)) (so_far.done m z))
                    (λ z.
                    subst
                    (λ j.
                    MergedAt k (get_or best₀ j no_points) (get_or who₀ j 0) (get_or mine₀ j no_points)
                    (get_or best' j no_points)
                    (get_or who' j 0))
                    (sym z)
                    here);
                gone =
                    λ m h.
                    last m h (λ z. other_mine m (λ e. omega arith) ∙ so_far.gone m z)
                    (λ z. ap (λ j. get_or mine' j no_points) z ∙ here_mine);
                left_best = λ m h. other_best m (λ e. omega arith) ∙ so_far.left_best m (omega arith);
                left_who = λ m h. other_who m (λ e. omega arith) ∙ so_far.left_who m (omega arith);
                left_mine = λ m h. other_mine m (λ e. omega arith) ∙ so_far.left_mine m (omega arith);
              }
