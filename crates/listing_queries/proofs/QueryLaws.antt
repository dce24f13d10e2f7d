-- The ways out of `read_query`. The commas behind the first two bytes part the line into fields; it is a query where
-- there are three of them.
use mathlib.Core.Path.{◌≡◌, refl, sym, ap, ◌∙◌}
use mathlib.Core.Bool.{Bool, true, false, ◌&&◌, cond}
use mathlib.Core.List.{List, [], ◌∷◌, map}
use Prim.Native.Nat.{ℕ, ◌+◌, ◌-◌, ◌≤◌, ◌<◌}
use native.Mathlib.Omega.{arith}
use borrow.Author.Tests.{eq-eqb, ne_eqb}
use Rattle.std.proofs.lemmas.Bool.{eqb-true, eqb-false}
use lib.Dec.{eqb}
use lib.ListN.{length, get_or, take, drop, get_or-eq_default}
use Rattle.lists.specs.Tests.{and_false}
use Rattle.text.specs.Piece.{piece_length, pieces, first_from_lem, last_from, pieces_some}
use Rattle.text.specs.Number.{is_number, field_value, field_values}
use Rattle.listing_queries.specs.Query.{asked_of, fields_ask, four_fields, number_of, query_of}
use Rattle.std.specs.Prelude.{Option, Some, None}
use Rattle.listing_queries.specs.declared.Query.{Query}

pub no_comma : (line : List ℕ) → (get_or line 1 0 ≡ 44 → ⊥) → None ≡ query_of line
unfolding query_of
no_comma line h =
    let no : eqb (get_or line 0 0) 81 && eqb (get_or line 1 0) 44 ≡ false =
    and_false (eqb (get_or line 0 0) 81) (eqb (get_or line 1 0) 44) (ne_eqb (get_or line 1 0) 44 h) in
    simp no

pub too_short : (line : List ℕ) → length line < 2 → None ≡ query_of line
too_short line h =
    let none : get_or line 1 0 ≡ 0 = get_or-eq_default line 0 {n = 1} (omega arith) in
    no_comma line (λ e. omega arith)

pub other_kind : (line : List ℕ) → (get_or line 0 0 ≡ 81 → ⊥) → None ≡ query_of line
unfolding query_of
other_kind line h = simp (ne_eqb (get_or line 0 0) 81 h)

-- a field that holds no number, and one that holds one
none_asked : (f : List ℕ) → None ≡ number_of f → is_number (field_value f) ≡ false
unfolding number_of
none_asked f = go (is_number (field_value f))
  where
    go : (t : Bool) → None ≡ cond t (Some (field_value f)) None → t ≡ false
    go true e = cc
    go false e = refl

some_asked : (f : List ℕ) (n : ℕ) → Some n ≡ number_of f → (is_number (field_value f) ≡ true) × (n ≡ field_value f)
unfolding number_of
some_asked f n = go (is_number (field_value f))
  where
    go : (t : Bool) → Some n ≡ cond t (Some (field_value f)) None → (t ≡ true) × (n ≡ field_value f)
    go true e = (refl, cc)
    go false e = cc

-- the bytes of the field from one index to another
abbrev pub field : List ℕ → (from end : ℕ) → List ℕ
field line from end = take (end - from) (drop from line)

module _ (line : List ℕ) (q : get_or line 0 0 ≡ 81) (comma : get_or line 1 0 ≡ 44) where
  -- a query is told by the fields behind the first two bytes
  by_fields : (l : List (List ℕ)) → pieces 44 (drop 2 line) ≡ l → query_of line ≡ fields_ask (map field_value l)
  unfolding query_of field_values
  by_fields l e = simp (eq-eqb (get_or line 0 0) 81 q, eq-eqb (get_or line 1 0) 44 comma, e)

  module _ (first : ℕ) (ends : first ≡ 2 + piece_length 44 (drop 2 line)) (two : 2 ≤ length line) where
    pub one_field : first ≡ length line → None ≡ query_of line
    unfolding fields_ask
    one_field e = sym (by_fields (field line 2 first ∷ []) (last_from 44 line 2 first ends two e))

    module _ (a : first ≤ length line) (b : first ≡ length line → ⊥) (second : ℕ)
        (ends' : second ≡ first + 1 + piece_length 44 (drop (first + 1) line))
      where
        from_first : pieces 44 (drop 2 line) ≡ field line 2 first ∷ pieces 44 (drop (first + 1) line)
        from_first = first_from_lem 44 line 2 first ends two a b

        pub two_fields : second ≡ length line → None ≡ query_of line
        unfolding fields_ask
        two_fields e =
            sym (by_fields
            (field line 2 first ∷ field line (first + 1) second ∷ [])
            (from_first
            ∙ ap (λ l. field line 2 first ∷ l) (last_from 44 line (first + 1) second ends' (omega arith) e)))

        module _ (c : second ≤ length line) (d : second ≡ length line → ⊥) (third : ℕ)
            (ends'' : third ≡ second + 1 + piece_length 44 (drop (second + 1) line))
          where
            from_second : pieces 44 (drop 2 line)
                ≡ field line 2 first ∷ field line (first + 1) second ∷ pieces 44 (drop (second + 1) line)
            from_second =
                from_first
                ∙ ap (λ l. field line 2 first ∷ l) (first_from_lem 44 line (first + 1) second ends' (omega arith) c d)

            pub more_fields : third ≤ length line → (third ≡ length line → ⊥) → None ≡ query_of line
            more_fields h n =
                let rest = pieces_some 44 (drop (third + 1) line) in
                let all : pieces 44 (drop 2 line) ≡ field line 2 first
                ∷ field line (first + 1) second
                ∷ field line (second + 1) third
                ∷ rest.0
                ∷ rest.1 =
                from_second
                ∙ ap (λ l. field line 2 first ∷ field line (first + 1) second ∷ l)
                (first_from_lem 44 line (second + 1) third ends'' (omega arith) h n
                ∙ ap (λ l. field line (second + 1) third ∷ l) rest.2) in
                sym (by_fields _ all ∙ four_fields _ _ _ _ _)

            three_are : third ≡ length line → query_of line
                ≡ asked_of (field_value (field line 2 first)) (field_value (field line (first + 1) second))
                (field_value (field line (second + 1) third))
            unfolding fields_ask
            three_are e =
                let all : pieces 44 (drop 2 line)
                ≡ field line 2 first ∷ field line (first + 1) second ∷ field line (second + 1) third ∷ [] =
                from_second
                ∙ ap (λ l. field line 2 first ∷ field line (first + 1) second ∷ l)
                (last_from 44 line (second + 1) third ends'' (omega arith) e) in
                by_fields _ all

            -- where one of the first three fields holds no number there is no query, whatever stands behind the third
            module _ (h : third ≤ length line) where
              none_or_more : (third ≡ length line → None ≡ query_of line) → None ≡ query_of line
              none_or_more three = go (eqb third (length line)) refl
                where
                  go : (t : Bool) → eqb third (length line) ≡ t → None ≡ query_of line
                  go true e = three (eqb-true third (length line) e)
                  go false e = more_fields h (eqb-false third (length line) e)

              pub no_from : (r : Option Query) → r ≡ None → None ≡ number_of (field line 2 first) → r ≡ query_of line
              unfolding asked_of
              no_from r g a = g ∙ none_or_more (λ e. sym (three_are e ∙ simp (none_asked _ a)))

              module _ (from : ℕ) (is_from : Some from ≡ number_of (field line 2 first)) where
                pub no_to : (r : Option Query) → r ≡ None → None ≡ number_of (field line (first + 1) second)
                    → r ≡ query_of line
                unfolding asked_of
                no_to r g b =
                    g ∙ none_or_more (λ e. sym (three_are e ∙ simp ((some_asked _ _ is_from).0, none_asked _ b)))

                module _ (to : ℕ) (is_to : Some to ≡ number_of (field line (first + 1) second)) where
                  pub no_minute : (r : Option Query) → r ≡ None → None ≡ number_of (field line (second + 1) third)
                      → r ≡ query_of line
                  unfolding asked_of
                  no_minute r g d =
                      g ∙ none_or_more (λ e. sym (three_are e
                      ∙ simp ((some_asked _ _ is_from).0, (some_asked _ _ is_to).0, none_asked _ d)))

                  pub three_fields : third ≡ length line → (minute : ℕ)
                      → Some minute ≡ number_of (field line (second + 1) third)
                      → Some (record { from = from; to = to; minute = minute }) ≡ query_of line
                  unfolding asked_of
                  three_fields e minute is_minute =
                      let a = some_asked _ _ is_from in
                      let b = some_asked _ _ is_to in
                      let c = some_asked _ _ is_minute in
                      sym (three_are e ∙ simp (a.0, b.0, c.0, ← a.1, ← b.1, ← c.1))
