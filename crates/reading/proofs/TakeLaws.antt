-- What taking a line answers and leaves in the arrays, where its questions came to the number n.
use mathlib.Core.Path.{◌≡◌, refl, sym, ap, ◌∙◌}
use mathlib.Core.Bool.{Bool, true, false, cond, not}
use mathlib.Core.List.{List, [], ◌∷◌}
use Prim.Native.Nat.{ℕ, ◌+◌, ◌-◌, ◌*◌}
use borrow.Author.Tests.{eq-eqb, ne_eqb, not-true, not-false}
use lib.Dec.{leb, eqb}
use lib.ListN.{length}
use Rattle.words.specs.Put.{put, put_none}
use Rattle.text_shapes.specs.Shape.{shape_of}
use Rattle.text_shapes.specs.declared.Line.{Line}
use Rattle.text_shapes.specs.declared.Line.TheVariants.{Station, Walk, Stop, Shapeless}
use Rattle.text_shapes.specs.declared.StationLine.{StationLine}
use Rattle.text_shapes.specs.declared.WalkLine.{WalkLine}
use Rattle.text_shapes.specs.declared.StopLine.{StopLine}
use Rattle.reading_lines.specs.Draft.{Rules}
use Rattle.reading_lines.specs.Progress.{line_number_at}
use Rattle.reading.specs.Model.{
  advance,
  next_of,
  line_words,
  body_after,
  starts_with,
  starts_after,
  walking_words,
  walking_after,
  is_there,
  end_of,
}
use Rattle.reading_lines.specs.declared.Progress.{Progress}
use Rattle.reading.specs.Lines.{Accepted as LinesAccepted, Refused as LinesRefused}
use Rattle.reading.specs.Next.{Next}
use Rattle.reading.specs.Next.{On, Refused}

module _ (r : Rules) (p : Progress) (line : Line) (n : ℕ) (is : n ≡ line_number_at r p line) where
  module _ (some : n ≡ 0 → ⊥) where
    pub refused_next : Refused n ≡ next_of r p line
    unfolding next_of
    refused_next = simp (← is, ne_eqb n 0 some)

    pub refused_body : (old : List ℕ) → old ≡ body_after r p line old
    unfolding body_after
    refused_body old = simp (← is, ne_eqb n 0 some)

    pub refused_starts : (old : List ℕ) → old ≡ starts_after r p line old
    unfolding starts_after
    refused_starts old = simp (← is, ne_eqb n 0 some)

    pub refused_walking : (old : List ℕ) → old ≡ walking_after r p line old
    unfolding walking_after
    refused_walking old = simp (← is, ne_eqb n 0 some)

  module _ (none : n ≡ 0) where
    pub taken_next : (q : Progress) → q ≡ advance p line → On q ≡ next_of r p line
    unfolding next_of
    taken_next q e = simp (← is, eq-eqb n 0 none, e)

    pub taken_body : (body old : List ℕ) → body ≡ put (2 * p.stations + 5 * p.stops) (line_words line) old
        → body ≡ body_after r p line old
    unfolding body_after
    taken_body body old e = simp (← is, eq-eqb n 0 none) e

    pub taken_starts : (starts old : List ℕ) → starts ≡ starts_with p line old → starts ≡ starts_after r p line old
    unfolding starts_after
    taken_starts starts old e = simp (← is, eq-eqb n 0 none) e

    pub taken_walking : (walking old : List ℕ) → walking ≡ put (4 * p.walks) (walking_words line) old
        → walking ≡ walking_after r p line old
    unfolding walking_after
    taken_walking walking old e = simp (← is, eq-eqb n 0 none) e

-- ---- a line of the text, by its shape
module _ (r : Rules) (p : Progress) (text : List ℕ) (found shape : Line) (is : found ≡ shape_of text)
    (matched : found ≡ shape) where
  shaped : shape ≡ shape_of text
  shaped = sym matched ∙ is

  pub shape_next : (a : Next) → a ≡ next_of r p shape → a ≡ next_of r p (shape_of text)
  shape_next a e = e ∙ ap (next_of r p) shaped

  pub shape_body : (body old : List ℕ) → body ≡ body_after r p shape old → body ≡ body_after r p (shape_of text) old
  shape_body body old e = e ∙ ap (λ s. body_after r p s old) shaped

  pub shape_starts : (starts old : List ℕ) → starts ≡ starts_after r p shape old
      → starts ≡ starts_after r p (shape_of text) old
  shape_starts starts old e = e ∙ ap (λ s. starts_after r p s old) shaped

  pub shape_walking : (walking old : List ℕ) → walking ≡ walking_after r p shape old
      → walking ≡ walking_after r p (shape_of text) old
  shape_walking walking old e = e ∙ ap (λ s. walking_after r p s old) shaped

-- ---- what a line leaves as it is: a station line starts and walks, a walk line all but the walks, a stop line the
-- walks
alone : (t : Bool) (new old : List ℕ) → new ≡ old → old ≡ cond t new old
alone true new old e = sym e
alone false new old e = refl

module _ (r : Rules) (p : Progress) (text : List ℕ) (found : Line) (is : found ≡ shape_of text) where
  module _ (l : StationLine) (matched : found ≡ Station l) (old : List ℕ) where
    pub line_station_starts : old ≡ starts_after r p (shape_of text) old
    unfolding starts_after
    line_station_starts =
        shape_starts r p text found (Station l) is matched old old
        (alone (eqb (line_number_at r p (Station l)) 0) old old refl)

    pub line_station_walking : old ≡ walking_after r p (shape_of text) old
    unfolding walking_after
    line_station_walking =
        shape_walking r p text found (Station l) is matched old old
        (alone (eqb (line_number_at r p (Station l)) 0) (put (4 * p.walks) [] old) old (put_none (4 * p.walks) old))

  module _ (l : WalkLine) (matched : found ≡ Walk l) (old : List ℕ) where
    pub line_walk_body : old ≡ body_after r p (shape_of text) old
    unfolding body_after
    line_walk_body =
        let at = 2 * p.stations + 5 * p.stops in
        shape_body r p text found (Walk l) is matched old old
        (alone (eqb (line_number_at r p (Walk l)) 0) (put at [] old) old (put_none at old))

    pub line_walk_starts : old ≡ starts_after r p (shape_of text) old
    unfolding starts_after
    line_walk_starts =
        shape_starts r p text found (Walk l) is matched old old
        (alone (eqb (line_number_at r p (Walk l)) 0) old old refl)

  pub line_stop_walking : (l : StopLine) → found ≡ Stop l → (old : List ℕ) → old ≡ walking_after r p (shape_of text) old
  unfolding walking_after
  line_stop_walking l matched old =
      shape_walking r p text found (Stop l) is matched old old
      (alone (eqb (line_number_at r p (Stop l)) 0) (put (4 * p.walks) [] old) old (put_none (4 * p.walks) old))

-- a line of no shape
module _ (r : Rules) (p : Progress) (text : List ℕ) (found : Line) (is : found ≡ shape_of text)
    (none : found ≡ Shapeless) where
  pub shapeless_next : Refused 2 ≡ next_of r p (shape_of text)
  unfolding next_of
  shapeless_next = rw (← is, none)

  pub shapeless_body : (old : List ℕ) → old ≡ body_after r p (shape_of text) old
  unfolding body_after
  shapeless_body old = rw (← is, none)

  pub shapeless_starts : (old : List ℕ) → old ≡ starts_after r p (shape_of text) old
  unfolding starts_after
  shapeless_starts old = rw (← is, none)

  pub shapeless_walking : (old : List ℕ) → old ≡ walking_after r p (shape_of text) old
  unfolding walking_after
  shapeless_walking old = rw (← is, none)

-- ---- question 7
module _ (r : Rules) (p : Progress) where
  pub extra_there : r.extra ≡ true → eqb p.trips 1 ≡ is_there r p
  unfolding is_there
  extra_there e = rw e

  pub station_there : r.extra ≡ false → leb 1 p.stations ≡ is_there r p
  unfolding is_there
  station_there e = rw e

  module _ (line : ℕ) (t : Bool) (is : t ≡ is_there r p) where
    pub not_there : not t ≡ true → LinesRefused 7 line ≡ end_of r p line
    unfolding end_of
    not_there e = simp (← is, not-true t e)

    module _ (there : not t ≡ false) where
      pub not_ended : (p.begun ≡ 0 → ⊥) → LinesRefused 7 line ≡ end_of r p line
      unfolding end_of
      not_ended e = simp (← is, not-false t there, ne_eqb p.begun 0 e)

      pub all_ended : p.begun ≡ 0 → LinesAccepted p (line - 1) ≡ end_of r p line
      unfolding end_of
      all_ended e = simp (← is, not-false t there, eq-eqb p.begun 0 e)
