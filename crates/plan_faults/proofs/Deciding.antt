-- What is found of the cards and of the pools decides the first fault.
-- Assumes nothing.
use Prim.Native.Nat.{ℕ, ◌≤◌, ◌<◌}
use mathlib.Core.Path.{◌≡◌}
use mathlib.Core.Bool.{Bool, true, false}
use mathlib.Core.List.{List}
use native.Mathlib.Omega.{arith}
use native.Mathlib.Decide.{dec_lt}
use lib.Dec.{leb}
use lib.ListN.{length}
use borrow.Author.Tests.{leb-true, leb-false}
use Rattle.counting.proofs.Least.{least_le, before_least, least_passes}
use Rattle.pool_counts.specs.Backlog.{backlog_of}
use Rattle.pool_counts.specs.Pools.{roomy_of}
use Rattle.plan_faults.specs.Faults.{card_fault, clear_of, Decided}
use Rattle.plan_faults.specs.Searches.{ClearTo}

-- the clear frames among the first n
module _ (cards cycles : List ℕ) (n : ℕ) {c : ℕ} (c-is : c ≡ clear_of cards cycles n) where
  clear_le : c ≤ n
  clear_le = omega (arith, c-is, least_le n (card_fault cards cycles))

  clear_before : (j : ℕ) → j < c → card_fault cards cycles j ≡ false
  clear_before j l = before_least n j (card_fault cards cycles) (omega (arith, c-is))

  fault_next : c < n → card_fault cards cycles c ≡ true
  fault_next l = rw c-is (least_passes n (card_fault cards cycles) (omega (arith, c-is)))

-- the frames with room
module _ (save : Bool) (m : ℕ) (cycles : List ℕ) {r : ℕ} (r-is : r ≡ roomy_of save m cycles) where
  abbrev full : ℕ → Bool
  full i = leb m (backlog_of save cycles i)

  roomy_le : r ≤ length cycles
  roomy_le = omega (arith, r-is, least_le (length cycles) full)

  room_before : (j : ℕ) → j < r → backlog_of save cycles j < m
  room_before j l = leb-false m (backlog_of save cycles j) (before_least (length cycles) j full (omega (arith, r-is)))

  full_next : r < length cycles → m ≤ backlog_of save cycles r
  full_next l = leb-true m (backlog_of save cycles r) (rw r-is (least_passes (length cycles) full (omega (arith, r-is))))

-- all pools were looked at
module _ (save : Bool) (m : ℕ) (cards cycles : List ℕ) (same : length cycles ≡ length cards) {r : ℕ}
    (r-is : r ≡ roomy_of save m cycles) where
  few : r ≤ length cards
  few = omega (arith, same, roomy_le save m cycles r-is)

  -- and so many cards that the first overfull frame is known to be clear, or all of them
  pub by_pools : {c : ℕ} → ClearTo cards cycles c → (c ≤ r → c < length cards → card_fault cards cycles c ≡ true) → Decided save m cards cycles c r
  by_pools v fault =
      record {
        clear_inside = v.inside;
        clear = v.each;
        has_card_fault = fault;
        roomy_inside = few;
        roomy = room_before save m cycles r-is;
        overfull_next = λ l. full_next save m cycles r-is (omega (arith, same, v.inside));
      }

  -- the cards up to frame n, which is past the first overfull one or past all
  pub up_to : {c : ℕ} (n : ℕ) → n ≤ length cards → (n ≤ r → length cards ≤ n) → c ≡ clear_of cards cycles n → Decided save m cards cycles c r
  up_to {c} n inside past c-is =
      let c-le = clear_le cards cycles n c-is in
      by_pools
      (record { inside = omega (arith, c-le); each = clear_before cards cycles n c-is })
      (λ h l.
      fault_next cards cycles n c-is
      (elim (dec_lt c n) [ yes k ↦ k | no k ↦ absurd (omega (arith, c-le, past (omega (arith, c-le)))) ]))
