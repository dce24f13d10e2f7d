-- A store is made in a slice of zeros, so that it depends on nothing but its source; and the one that was made last is
-- this one where the source is the same.
use mathlib.Core.Path.{◌≡◌, sym, ap, ◌∙◌}
use mathlib.Core.List.{List}
use Prim.Native.Nat.{ℕ}
use lib.ListN.{length, replicate}
use Rattle.replies.specs.Reply.{Reply}
use Rattle.replies.specs.Reply.{Done, Refused}
use Rattle.replies.specs.Replies.{number_of}
use Rattle.promises.specs.StoreCall.{store_reply, store_after}
use Rattle.listing_output.specs.Printed.{made_number, store_slice}

module _ (w v store cleared : List ℕ) (n source : ℕ) (space : n ≡ 16384) (long : length store ≡ 32768)
    (same : length cleared ≡ length store) where
  module _ (made : Reply) (is : made ≡ store_reply w v n source (length cleared)) where
    made_reply_lem : made_number w v source ≡ number_of made
    unfolding made_number
    made_reply_lem =
        sym (ap number_of (is ∙ (λ i. store_reply w v (space i) source ((same ∙ long) i))))

    pub made_done : (count : ℕ) → made ≡ Done count → 0 ≡ made_number w v source
    made_done count e = sym (made_reply_lem ∙ ap number_of e)

    pub made_refused : (number k : ℕ) → made ≡ Refused number → k ≡ number → k ≡ made_number w v source
    made_refused number k e f = f ∙ sym (made_reply_lem ∙ ap number_of e)

  pub made_store : (last : List ℕ) → cleared ≡ replicate (length store) 0 → last ≡ store_after w v n source cleared
      → last ≡ store_slice w v source
  unfolding store_slice
  made_store last zeros e =
      e ∙ (λ i. store_after w v (space i) source ((zeros ∙ ap (λ (m : ℕ). replicate m 0) long) i))

module _ (w v : List ℕ) (last source : ℕ) (same : last ≡ source) where
  pub kept_number : (number : ℕ) → number ≡ made_number w v last → number ≡ made_number w v source
  kept_number number e = e ∙ ap (made_number w v) same

  pub kept_store : (store : List ℕ) → store ≡ store_slice w v last → store ≡ store_slice w v source
  kept_store store e = e ∙ ap (store_slice w v) same

-- what a store call left, by the source that is remembered
module _ (w v : List ℕ) (last source : ℕ) (same : last ≡ source) where
  pub held_number : (number : ℕ) → number ≡ made_number w v source → number ≡ made_number w v last
  held_number number e = e ∙ ap (made_number w v) (sym same)

  pub held_store : (store : List ℕ) → store ≡ store_slice w v source → store ≡ store_slice w v last
  held_store store e = e ∙ ap (store_slice w v) (sym same)
