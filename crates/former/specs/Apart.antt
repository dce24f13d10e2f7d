-- What is different: no stop line has a shape in both forms. At stop 1 the departure, at every other stop the arrival
-- is a time, and no field is a time in both forms. So a plain minute gives 2 now, as `hh:mm` did then. For a reader.
use Rattle.std.specs.Prelude.{◌≡◌, refl, Bool, true, false, cond, ◌&&◌, List, ℕ, eqb, length}
use Rattle.std.proofs.lemmas.Bool.{false≢true}
use Rattle.lists.specs.Tests.{and_left, and_right}
use Rattle.text.specs.Number.{empty_field, is_number, field_value}
use Rattle.text.specs.Time.{time_value}
use Rattle.text_shapes.specs.Shape.{arrive_fits, depart_fits, stop_fits, stop_of, field, stop_shape}
use Rattle.text_shapes.specs.declared.Line.{Line}
use Rattle.text_shapes.specs.declared.Line.TheVariants.{Stop, Shapeless}
use Rattle.text_shapes.specs.declared.StopLine.{StopLine}
use Rattle.former.specs.Fields.{one_form}

-- a departure at stop 1 is a number of its reader
departs : (stop depart points : ℕ) → eqb stop 1 ≡ true → depart_fits stop depart points ≡ true → is_number depart ≡ true
unfolding depart_fits
departs stop depart points first fits = go (eqb depart empty_field) refl
  where
    go : (empty : Bool) → eqb depart empty_field ≡ empty → is_number depart ≡ true
    go true e = absurd (false≢true (rw (e, first) at fits))
    go false e = and_left (is_number depart) (is_number points) (rw e at fits)

-- an arrival at another stop is
arrives : (stop arrive : ℕ) → eqb stop 1 ≡ false → arrive_fits stop arrive ≡ true → is_number arrive ≡ true
unfolding arrive_fits
arrives stop arrive later fits = rw later at fits

module _ (stop points : ℕ) (a d : List ℕ)
    (arrive-now : arrive_fits stop (time_value a) ≡ true)
    (depart-now : depart_fits stop (time_value d) points ≡ true)
    (arrive-then : arrive_fits stop (field_value a) ≡ true)
    (depart-then : depart_fits stop (field_value d) points ≡ true)
  where
    never_both : ⊥
    never_both = go (eqb stop 1) refl
      where
        go : (first : Bool) → eqb stop 1 ≡ first → ⊥
        go true e =
            one_form d (departs stop (time_value d) points e depart-now)
            (departs stop (field_value d) points e depart-then)
        go false e =
            one_form a (arrives stop (time_value a) e arrive-now) (arrives stop (field_value a) e arrive-then)

-- a line that is shaped had a yes
shaped_yes : (test : Bool) (x : Line) (l : StopLine) → cond test x Shapeless ≡ Stop l → test ≡ true
shaped_yes true x l e = refl
shaped_yes false x l e = cc

-- and one that has a no is not
shapeless_no : (test : Bool) (x : Line) → (test ≡ true → ⊥) → cond test x Shapeless ≡ Shapeless
shapeless_no true x n = absurd (n refl)
shapeless_no false x n = refl

values_apart : (trip stop station points mark : ℕ) (a d : List ℕ) (l : StopLine)
    → stop_of trip stop station (time_value a) (time_value d) points mark ≡ Stop l
    → stop_of trip stop station (field_value a) (field_value d) points mark ≡ Shapeless
unfolding stop_of stop_fits
values_apart trip stop station points mark a d l e =
    let other : Bool = is_number trip && is_number stop && is_number station in
    let now = and_left _ (is_number mark) (shaped_yes
    (other && arrive_fits stop (time_value a) && depart_fits stop (time_value d) points && is_number mark) _ l e) in
    shapeless_no
    (other && arrive_fits stop (field_value a) && depart_fits stop (field_value d) points && is_number mark) _
    (λ all.
    let then = and_left _ (is_number mark) all in
    never_both stop points a d
    (and_right other _ (and_left (other && arrive_fits stop (time_value a)) _ now))
    (and_right (other && arrive_fits stop (time_value a)) _ now)
    (and_right other _ (and_left (other && arrive_fits stop (field_value a)) _ then))
    (and_right (other && arrive_fits stop (field_value a)) _ then))

-- the fields behind the T
pub one_shape : (f : List (List ℕ)) (l : StopLine) → stop_shape time_value f ≡ Stop l → stop_shape field_value f ≡
    Shapeless
unfolding stop_shape
one_shape f l e = go (eqb (length f) 7) refl
  where
    go : (seven : Bool) → eqb (length f) 7 ≡ seven → stop_shape field_value f ≡ Shapeless
    go true s =
        rw s
        (values_apart (field_value (field f 0)) (field_value (field f 1)) (field_value (field f 2))
        (field_value (field f 5)) (field_value (field f 6)) (field f 3) (field f 4) l (rw s at e))
    go false s = rw s
