-- Lists read at an index, and words put behind others.
use Rattle.std.specs.Prelude.{◌≡◌, refl, List, [], ◌∷◌, ◌++◌, map, ℕ, zero, suc, ◌+◌, ◌≤◌, ◌<◌, take}
use Rattle.std.proofs.Common.{sym, ◌∙◌, append_assoc, append-nil, arith, take-suc}
use Rattle.std.proofs.Math.Path.{ap}
use Rattle.std.proofs.Math.ListN.{length, get_or, drop, length-append, get_or-append}
use Rattle.std.proofs.Math.Seq.{take_at, get_or-take, get_or-append-add, length-take-le}
use Rattle.lists.specs.Lists.{concat_map}
use Rattle.words.specs.Put.{put}

module _ {A B : Type 0} (f : A → List B) where
  pub concat_map_append : (a b : List A) → concat_map f (a ++ b) ≡ concat_map f a ++ concat_map f b
  concat_map_append [] b = refl
  concat_map_append (x ∷ a) b =
      ap (λ l. f x ++ l) (concat_map_append a b) ∙ sym (append_assoc (f x) (concat_map f a) (concat_map f b))

  -- one of the list more
  pub concat_map_suc : (l : List A) (v : ℕ) (d : A) → v < length l
      → concat_map f (take (suc v) l) ≡ concat_map f (take v l) ++ f (get_or l v d)
  concat_map_suc l v d h =
      ap (concat_map f) (take-suc l v d h)
      ∙ concat_map_append (take v l) (get_or l v d ∷ [])
      ∙ ap (λ x. concat_map f (take v l) ++ x) (append-nil (f (get_or l v d)))

module _ {A B : Type 0} where
  pub get_d_map : (g : A → B) (l : List A) (i : ℕ) (d : A) (e : B) → i < length l → get_or (map g l) i e ≡ g
      (get_or l i d)
  get_d_map g [] i d e h = absurd (omega arith)
  get_d_map g (x ∷ l) zero d e h = refl
  get_d_map g (x ∷ l) (suc i) d e h = get_d_map g l i d e (omega arith)

module _ (at : ℕ) (ws old : List ℕ) (room : at ≤ length old) where
  -- what stands before the words that were put
  pub put_front : (i : ℕ) → i < at → get_or (put at ws old) i 0 ≡ get_or old i 0
  unfolding put
  put_front i h =
      let long = length-take-le at old room in
      ap (λ l. get_or l i 0) (append_assoc (take at old) ws (drop (at + length ws) old))
      ∙ get_or-append (take at old) (ws ++ drop (at + length ws) old) 0 i (omega (arith, long))
      ∙ get_or-take at old i 0 h

  -- and the words themselves
  pub put_inside : (i : ℕ) → i < length ws → get_or (put at ws old) (at + i) 0 ≡ get_or ws i 0
  unfolding put
  put_inside i h =
      let long = length-take-le at old room in
      ap (λ l. get_or l (at + i) 0) (append_assoc (take at old) ws (drop (at + length ws) old))
      ∙ ap (λ k. get_or (take at old ++ (ws ++ drop (at + length ws) old)) (k + i) 0) (sym long)
      ∙ get_or-append-add (take at old) (ws ++ drop (at + length ws) old) i 0
      ∙ get_or-append ws (drop (at + length ws) old) 0 i h

  pub take_put_behind : take (at + length ws) (put at ws old) ≡ take at old ++ ws
  unfolding put
  take_put_behind =
      let long = length-take-le at old room in
      take_at
      (take at old ++ ws)
      (drop (at + length ws) old)
      (at + length ws)
      (omega (arith, length-append (take at old) ws, long))
