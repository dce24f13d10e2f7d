-- Lines of one course number in a chain, by their order: from a line, or from the number of a course, to the next line
-- that has it. The words of chains: the next line behind each line, then the first of each course, then the last of
-- each course, then the earliest last arrival on its lines. A place with no line behind it has the number past all.
use Rattle.std.specs.Prelude.{◌≡◌, ◌⊎◌, List, ℕ, suc, ◌+◌, ◌≤◌, ◌<◌, length, get_or, set}
use Rattle.std.proofs.Common.{sym, ap, subst, ◌∙◌, inl, inr, arith, length-set, get_or-set_same, get_or-set_other}
use Rattle.std.proofs.Math.Decide.{ℕ_discrete}

-- the next line behind a line; the first of course b stands behind place 256 + b
abbrev pub next_of : List ℕ → (place : ℕ) → ℕ
next_of c i = get_or c i 0

-- the last line of course b, or its place where there is none
abbrev pub end_of : List ℕ → (course : ℕ) → ℕ
end_of c b = get_or c (512 + b) 0

-- no line of course b has a last arrival before this
abbrev pub floor_of : List ℕ → (course : ℕ) → ℕ
floor_of c b = get_or c (768 + b) 0

-- n lines, each with the course and the last arrival of its last trip, are chained
pub record Chained (course arrive : ℕ → ℕ) (n : ℕ) (c : List ℕ) : Type 0 where
  pub first : (j : ℕ) → j < n → next_of c (256 + course j) ≤ j
  pub after : (i j : ℕ) → i < j → j < n → course i ≡ course j → next_of c i ≤ j
  pub onward : (i : ℕ) → i < n → i < next_of c i
  pub heads : (b : ℕ) → b < 256 → next_of c (256 + b) < 256
      → (next_of c (256 + b) < n) × (course (next_of c (256 + b)) ≡ b)
  pub links : (i : ℕ) → i < n → next_of c i < 256 → (next_of c i < n) × (course (next_of c i) ≡ course i)
  pub loose : (i : ℕ) → n ≤ i → i < 256 → 256 ≤ next_of c i
  pub ends : (j : ℕ) → j < n → (j ≤ end_of c (course j)) × (end_of c (course j) < n)
  pub end : (b : ℕ) → b < 256 → (end_of c b ≡ 256 + b) ⊎ ((end_of c b < n) × (course (end_of c b) ≡ b))
  pub floor : (j : ℕ) → j < n → floor_of c (course j) ≤ arrive j

-- ---- a trip joins a line, whose course it has, and arrives no earlier
pub chained_joins : (course arrive course' arrive' : ℕ → ℕ) (n : ℕ) (c : List ℕ) → Chained course arrive n c
    → ((j : ℕ) → j < n → course' j ≡ course j) → ((j : ℕ) → j < n → arrive j ≤ arrive' j)
    → Chained course' arrive' n c
chained_joins course arrive course' arrive' n c k same later =
    record {
      first = λ j h. rw (same j h) (k.first j h);
      after = λ i j h g e. k.after i j h g (sym (same i (omega arith)) ∙ e ∙ same j g);
      onward = k.onward;
      heads = λ b h g. let r = k.heads b h g in (r.0, same (next_of c (256 + b)) r.0 ∙ r.1);
      links =
          λ i h g.
          let r = k.links i h g in
          (r.0, same (next_of c i) r.0 ∙ r.1 ∙ sym (same i h));
      loose = k.loose;
      ends = λ j h. rw (same j h) (k.ends j h);
      end = λ b h. elim (k.end b h) [ inl e ↦ inl e | inr r ↦ inr (r.0, same (end_of c b) r.0 ∙ r.1) ];
      floor = λ j h. rw (same j h) (omega (arith, k.floor j h, later j h));
    }

-- ---- a line is founded: it goes behind the last of its course
-- the words once line n of course b, behind place e, is chained, where no line of b arrives before f
abbrev pub linked : (c : List ℕ) (e n b f : ℕ) → List ℕ
linked c e n b f = set (set (set c e n) (512 + b) n) (768 + b) f

module _ (course arrive course' arrive' : ℕ → ℕ) (n : ℕ) (c : List ℕ) (k : Chained course arrive n c)
    (long : length c ≡ 1024) (room : n < 256) (b : ℕ) (few : b < 256) (all_few : (j : ℕ) → course j < 256)
    (same : (j : ℕ) → j < n → course' j ≡ course j) (here : course' n ≡ b)
    (later : (j : ℕ) → j < n → arrive j ≤ arrive' j) (f : ℕ) (lower : f ≤ floor_of c b) (low : f ≤ arrive' n) where
  abbrev e : ℕ
  e = end_of c b

  abbrev c' : List ℕ
  c' = linked c e n b f

  place : (e ≡ 256 + b) ⊎ ((e < n) × (course e ≡ b))
  place = k.end b few

  at_place : e < 512
  at_place = elim place [ inl is ↦ omega arith | inr r ↦ omega (arith, r.0) ]

  unlike : (i : ℕ) → n ≤ i → i < 256 → i ≡ e → ⊥
  unlike i h g is = elim place [ inl d ↦ omega arith | inr r ↦ omega (arith, r.0) ]

  next_here : next_of c' e ≡ n
  next_here =
      get_or-set_other (set (set c e n) (512 + b) n) (768 + b) e f 0 (λ d. omega (arith, at_place))
      ∙ get_or-set_other (set c e n) (512 + b) e n 0 (λ d. omega (arith, at_place))
      ∙ get_or-set_same c e n 0 (omega (arith, at_place))

  next_else : (i : ℕ) → i < 512 → (i ≡ e → ⊥) → next_of c' i ≡ next_of c i
  next_else i h d =
      get_or-set_other (set (set c e n) (512 + b) n) (768 + b) i f 0 (λ g. omega arith)
      ∙ get_or-set_other (set c e n) (512 + b) i n 0 (λ g. omega arith)
      ∙ get_or-set_other c e i n 0 d

  end_here : end_of c' b ≡ n
  end_here =
      get_or-set_other (set (set c e n) (512 + b) n) (768 + b) (512 + b) f 0 (λ d. omega arith)
      ∙ get_or-set_same (set c e n) (512 + b) n 0 (omega (arith, length-set c e n))

  end_else : (a : ℕ) → a < 256 → (a ≡ b → ⊥) → end_of c' a ≡ end_of c a
  end_else a h d =
      get_or-set_other (set (set c e n) (512 + b) n) (768 + b) (512 + a) f 0 (λ g. omega arith)
      ∙ get_or-set_other (set c e n) (512 + b) (512 + a) n 0 (λ g. d (omega arith))
      ∙ get_or-set_other c e (512 + a) n 0 (λ g. omega (arith, at_place))

  floor_here : floor_of c' b ≡ f
  floor_here =
      get_or-set_same (set (set c e n) (512 + b) n) (768 + b) f 0
      (omega (arith, length-set (set c e n) (512 + b) n, length-set c e n))

  floor_else : (a : ℕ) → a < 256 → (a ≡ b → ⊥) → floor_of c' a ≡ floor_of c a
  floor_else a h d =
      get_or-set_other (set (set c e n) (512 + b) n) (768 + b) (768 + a) f 0 (λ g. d (omega arith))
      ∙ get_or-set_other (set c e n) (512 + b) (768 + a) n 0 (λ g. omega arith)
      ∙ get_or-set_other c e (768 + a) n 0 (λ g. omega (arith, at_place))

  -- a line is founded earlier, or now
  known : (j : ℕ) → j < suc n → (j ≡ n → ⊥) → j < n
  known j h d = omega arith

  first' : (j : ℕ) → j < suc n → next_of c' (256 + course' j) ≤ j
  first' j h = elim (ℕ_discrete j n) [ yes d ↦ now d | no d ↦ earlier (known j h d) ]
    where
      now : j ≡ n → next_of c' (256 + course' j) ≤ j
      now d =
          rw (d, here)
          (elim place [
            | inl is ↦ subst (λ i. next_of c' i ≤ n) is (omega (arith, next_here))
            | inr r ↦ (
                let old = k.first e r.0 in
                let at : next_of c (256 + course e) ≡ next_of c (256 + b) = ap (λ a. next_of c (256 + a)) r.1 in
                let kept = next_else (256 + b) (omega arith) (λ g. omega (arith, r.0)) in
                omega (arith, r.0)
                )
          ])

      earlier : j < n → next_of c' (256 + course' j) ≤ j
      earlier g =
          rw (same j g)
          (elim (ℕ_discrete (256 + course j) e) [
            | yes d ↦ (
                let last = k.ends j g in
                let mine : course j ≡ b = elim place [ inl is ↦ omega arith | inr r ↦ absurd (omega (arith, r.0)) ] in
                let at : end_of c (course j) ≡ e = ap (end_of c) mine in
                absurd (omega (arith, last.1))
                )
            | no d ↦ (
                let kept = next_else (256 + course j) (omega (arith, all_few j)) d in
                omega (arith, k.first j g)
                )
          ])

  after' : (i j : ℕ) → i < j → j < suc n → course' i ≡ course' j → next_of c' i ≤ j
  after' i j h g is = elim (ℕ_discrete j n) [ yes d ↦ now d | no d ↦ earlier (known j g d) ]
    where
      now : j ≡ n → next_of c' i ≤ j
      now d =
          let mine : course i ≡ b = sym (same i (omega arith)) ∙ is ∙ ap course' d ∙ here in
          let last = k.ends i (omega arith) in
          let at : end_of c (course i) ≡ e = ap (end_of c) mine in
          elim (ℕ_discrete i e) [
            | yes q ↦ subst (λ x. next_of c' x ≤ j) (sym q) (omega (arith, next_here))
            | no q ↦ (
                let there : course i ≡ course e =
                elim place [ inl is_place ↦ absurd (omega (arith, last.1)) | inr r ↦ mine ∙ sym r.1 ] in
                let old = k.after i e (omega (arith, last.0)) (omega (arith, last.1)) there in
                let kept = next_else i (omega arith) q in
                omega (arith, last.1)
                )
          ]

      earlier : j < n → next_of c' i ≤ j
      earlier l =
          let alike : course i ≡ course j = sym (same i (omega arith)) ∙ is ∙ same j l in
          elim (ℕ_discrete i e) [
            | yes q ↦ (
                let last = k.ends j l in
                let mine : course j ≡ b =
                elim place [ inl is_place ↦ absurd (omega arith) | inr r ↦ sym alike ∙ ap course q ∙ r.1 ] in
                let at : end_of c (course j) ≡ e = ap (end_of c) mine in
                absurd (omega (arith, last.0))
                )
            | no q ↦ (
                let kept = next_else i (omega arith) q in
                omega (arith, k.after i j h l alike)
                )
          ]

  onward' : (i : ℕ) → i < suc n → i < next_of c' i
  onward' i h = elim (ℕ_discrete i n) [ yes d ↦ now d | no d ↦ earlier (known i h d) ]
    where
      now : i ≡ n → i < next_of c' i
      now d =
          let kept = next_else i (omega arith) (unlike i (omega arith) (omega arith)) in
          omega (arith, k.loose i (omega arith) (omega arith))

      earlier : i < n → i < next_of c' i
      earlier g =
          elim (ℕ_discrete i e) [
            | yes q ↦ subst (λ x. i < next_of c' x) (sym q) (omega (arith, next_here))
            | no q ↦ (
                let kept = next_else i (omega arith) q in
                omega (arith, k.onward i g)
                )
          ]

  heads' : (a : ℕ) → a < 256 → next_of c' (256 + a) < 256
      → (next_of c' (256 + a) < suc n) × (course' (next_of c' (256 + a)) ≡ a)
  heads' a h g = elim (ℕ_discrete (256 + a) e) [ yes q ↦ now q | no q ↦ earlier q ]
    where
      now : 256 + a ≡ e → (next_of c' (256 + a) < suc n) × (course' (next_of c' (256 + a)) ≡ a)
      now q =
          let at : next_of c' (256 + a) ≡ n = ap (next_of c') q ∙ next_here in
          let mine : b ≡ a = elim place [ inl is ↦ omega arith | inr r ↦ absurd (omega (arith, r.0)) ] in
          (omega arith, ap course' at ∙ here ∙ mine)

      earlier : (256 + a ≡ e → ⊥) → (next_of c' (256 + a) < suc n) × (course' (next_of c' (256 + a)) ≡ a)
      earlier q =
          let kept = next_else (256 + a) (omega arith) q in
          let r = k.heads a h (omega arith) in
          (omega (arith, r.0), ap course' kept ∙ same (next_of c (256 + a)) r.0 ∙ r.1)

  links' : (i : ℕ) → i < suc n → next_of c' i < 256
      → (next_of c' i < suc n) × (course' (next_of c' i) ≡ course' i)
  links' i h g = elim (ℕ_discrete i n) [ yes d ↦ now d | no d ↦ earlier (known i h d) ]
    where
      now : i ≡ n → (next_of c' i < suc n) × (course' (next_of c' i) ≡ course' i)
      now d =
          let kept = next_else i (omega arith) (unlike i (omega arith) (omega arith)) in
          absurd (omega (arith, k.loose i (omega arith) (omega arith)))

      earlier : i < n → (next_of c' i < suc n) × (course' (next_of c' i) ≡ course' i)
      earlier l =
          elim (ℕ_discrete i e) [
            | yes q ↦ (
                let at : next_of c' i ≡ n = ap (next_of c') q ∙ next_here in
                let mine : course i ≡ b =
                elim place [ inl is ↦ absurd (omega arith) | inr r ↦ ap course q ∙ r.1 ] in
                (omega arith, ap course' at ∙ here ∙ sym mine ∙ sym (same i l))
                )
            | no q ↦ (
                let kept = next_else i (omega arith) q in
                let r = k.links i l (omega arith) in
                (omega (arith, r.0), ap course' kept ∙ same (next_of c i) r.0 ∙ r.1 ∙ sym (same i l))
                )
          ]

  loose' : (i : ℕ) → suc n ≤ i → i < 256 → 256 ≤ next_of c' i
  loose' i h g =
      let kept = next_else i (omega arith) (unlike i (omega arith) g) in
      omega (arith, k.loose i (omega arith) g)

  ends' : (j : ℕ) → j < suc n → (j ≤ end_of c' (course' j)) × (end_of c' (course' j) < suc n)
  ends' j h = elim (ℕ_discrete (course' j) b) [ yes d ↦ mine d | no d ↦ other d ]
    where
      mine : course' j ≡ b → (j ≤ end_of c' (course' j)) × (end_of c' (course' j) < suc n)
      mine d =
          let at : end_of c' (course' j) ≡ n = ap (end_of c') d ∙ end_here in
          (omega arith, omega arith)

      other : (course' j ≡ b → ⊥) → (j ≤ end_of c' (course' j)) × (end_of c' (course' j) < suc n)
      other d =
          let g : j < n = known j h (λ q. d (ap course' q ∙ here)) in
          let is = same j g in
          let at : end_of c' (course' j) ≡ end_of c (course j) =
          ap (end_of c') is ∙ end_else (course j) (all_few j) (λ q. d (is ∙ q)) in
          let last = k.ends j g in
          (omega (arith, last.0), omega (arith, last.1))

  end' : (a : ℕ) → a < 256 → (end_of c' a ≡ 256 + a) ⊎ ((end_of c' a < suc n) × (course' (end_of c' a) ≡ a))
  end' a h = elim (ℕ_discrete a b) [ yes d ↦ mine d | no d ↦ other d ]
    where
      mine : a ≡ b → (end_of c' a ≡ 256 + a) ⊎ ((end_of c' a < suc n) × (course' (end_of c' a) ≡ a))
      mine d =
          let at : end_of c' a ≡ n = ap (end_of c') d ∙ end_here in
          inr (omega arith, ap course' at ∙ here ∙ sym d)

      other : (a ≡ b → ⊥) → (end_of c' a ≡ 256 + a) ⊎ ((end_of c' a < suc n) × (course' (end_of c' a) ≡ a))
      other d =
          let at = end_else a h d in
          elim (k.end a h) [
            | inl is ↦ inl (at ∙ is)
            | inr r ↦ inr (omega (arith, r.0), ap course' at ∙ same (end_of c a) r.0 ∙ r.1)
          ]

  floor' : (j : ℕ) → j < suc n → floor_of c' (course' j) ≤ arrive' j
  floor' j h = elim (ℕ_discrete j n) [ yes d ↦ now d | no d ↦ earlier (known j h d) ]
    where
      now : j ≡ n → floor_of c' (course' j) ≤ arrive' j
      now d = rw (d, here) (omega (arith, floor_here))

      earlier : j < n → floor_of c' (course' j) ≤ arrive' j
      earlier g =
          let old = k.floor j g in
          let on = later j g in
          rw (same j g)
          (elim (ℕ_discrete (course j) b) [
            | yes d ↦ (
                let at : floor_of c' (course j) ≡ f = ap (floor_of c') d ∙ floor_here in
                let before : floor_of c (course j) ≡ floor_of c b = ap (floor_of c) d in
                omega arith
                )
            | no d ↦ (
                let at = floor_else (course j) (all_few j) d in
                omega arith
                )
          ])

  pub chained_founds : Chained course' arrive' (suc n) (linked c (end_of c b) n b f)
  chained_founds =
      record {
        first = first';
        after = after';
        onward = onward';
        heads = heads';
        links = links';
        loose = loose';
        ends = ends';
        end = end';
        floor = floor';
      }
