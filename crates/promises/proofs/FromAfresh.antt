-- What the direct query, the store call and the query do, where words and line tables are afresh those of a timetable:
-- all that FromWords says, said of that timetable.
use Rattle.std.specs.Prelude.{◌≡◌, true, false, ◌↔◌, List, ℕ, ◌≤◌}
use Rattle.std.proofs.Math.Path.{sym}
use Rattle.std.proofs.Common.{ap, subst, ◌∙◌}
use Rattle.std.proofs.Math.ListN.{length}
use Rattle.lists.specs.Lists.{◌∈◌}
use Rattle.replies.specs.Replies.{reply_number}
use Rattle.timetable.specs.Timetable.{Timetable, valid}
use Rattle.timetable.specs.Words.{timetable_of}
use Rattle.timetable.specs.Access.{spelled_valid}
use Rattle.connections.specs.Connections.{net}
use Rattle.connections.specs.Planner.{planner_list}
use Rattle.stores.specs.Stored.{Sequence}
use Rattle.stores.specs.Words.{readable, well_made, kept_list}
use Rattle.lines.specs.DirectRides.{directs}
use Rattle.lines_tables.specs.Building.{slices_least}
use Rattle.demands.specs.Demands.{Query}
use Rattle.promises.specs.Packed.{succeeds_count}
use Rattle.promises.specs.StoreCall.{store_of, store_number, store_reply}
use Rattle.promises.specs.Promises.{
  DirectCall,
  StoreCall,
  QueryCall,
  Succeeds,
  Refuses,
  Afresh,
  Made,
  Shows,
  Stores,
}
use Rattle.promises.proofs.FromWords.{
  direct_shown,
  kept_shown,
  ill_made_refused,
  store_stored,
  made_holds,
  made_well_made,
  made_shown,
}

module _ (plan : Timetable) (timetable lines : List ℕ) (now : Afresh plan timetable lines) where
  pub afresh_valid : valid plan ≡ true
  afresh_valid = subst (λ p. valid p ≡ true) now.spells (spelled_valid timetable now.yes_9)

  -- a store call with number 0 had no refusal
  made_number_lem : (source : ℕ) (store : List ℕ) (made : Made timetable lines source store)
      → store_number timetable lines made.work source (length made.store_before) ≡ 0
  unfolding store_reply
  made_number_lem source store made =
      let room = length made.store_before in
      sym
      (reply_number (store_number timetable lines made.work source room) (length (store_of timetable source)))
      ∙ succeeds_count (store_reply timetable lines made.work source room)
      (subst Succeeds made.made.replies made.succeeds)

  -- a query to the plan is one to what the words spell
  module _ (from to minute : ℕ) (q : Query (net plan) from minute to) where
    asked : Query (net (timetable_of timetable)) from minute to
    asked = subst (λ p. Query (net p) from minute to) (sym now.spells) q

    module _ (work : ℕ) (enough : slices_least ≤ work) (before after : List ℕ) (reply : ℕ) where
      pub direct_shows : DirectCall timetable lines work from to minute before after reply
          → Shows minute (directs (net plan) from minute to) before after reply
      direct_shows call =
          subst (λ p. Shows minute (directs (net p) from minute to) before after reply) now.spells
          (direct_shown timetable lines now.timetable_long now.lines_long now.yes_9 now.yes_10
          work from to minute enough asked before after reply call)

      module _ (store : List ℕ) (call : QueryCall timetable lines store work from to minute before after reply) where
        pub query_shows : Made timetable lines from store
            → Shows minute (planner_list (net plan) from minute to) before after reply
        query_shows made =
            subst (λ p. Shows minute (planner_list (net p) from minute to) before after reply) now.spells
            (made_shown timetable lines now.timetable_long now.lines_long now.yes_9 now.yes_10
            from made.work made.store_before store made.made.writes (made_number_lem from store made)
            work to minute enough asked before after reply call)

        pub kept_shows : well_made (length plan.stations) store ≡ true
            → Shows minute (kept_list (net plan) store from minute to) before after reply
        kept_shows well =
            subst (λ p. Shows minute (kept_list (net p) store from minute to) before after reply) now.spells
            (kept_shown timetable lines now.timetable_long now.lines_long now.yes_9 now.yes_10
            work from to minute enough asked store before after reply
            (ap (λ p. well_made (length p.stations) store) now.spells ∙ well) call)

        pub ill_made : well_made (length plan.stations) store ≡ false → Refuses 13 before after reply
        ill_made ill =
            ill_made_refused timetable lines now.timetable_long now.lines_long now.yes_9 now.yes_10
            work from to minute enough asked store before after reply
            (ap (λ p. well_made (length p.stations) store) now.spells ∙ ill) call

  pub store_stores : (work source : ℕ) → slices_least ≤ work → 1 ≤ source → source ≤ length plan.stations
      → (before after : List ℕ) (reply : ℕ) → StoreCall timetable lines work source before after reply
      → Stores (net plan) source before after reply
  store_stores work source enough first last before after reply call =
      subst (λ p. Stores (net p) source before after reply) now.spells
      (store_stored timetable lines now.timetable_long now.lines_long now.yes_9 now.yes_10
      source work enough first (subst (λ p. source ≤ length p.stations) (sym now.spells) last)
      before after reply call)

  pub store_holds : (source : ℕ) (store : List ℕ) → Made timetable lines source store
      → (sequence : List ℕ) → sequence ∈ readable store ↔ Sequence (net plan) source sequence
  store_holds source store made sequence =
      subst (λ p. sequence ∈ readable store ↔ Sequence (net p) source sequence) now.spells
      (made_holds timetable lines now.timetable_long now.lines_long now.yes_9 now.yes_10
      source made.work made.store_before store made.made.writes (made_number_lem source store made) sequence)

  pub store_well_made : (source : ℕ) (store : List ℕ) → Made timetable lines source store
      → well_made (length plan.stations) store ≡ true
  store_well_made source store made =
      subst (λ p. well_made (length p.stations) store ≡ true) now.spells
      (made_well_made timetable lines now.timetable_long now.lines_long now.yes_9 now.yes_10
      source made.work made.store_before store made.made.writes (made_number_lem source store made))
